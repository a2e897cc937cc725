-- Whole games that are followed: the side that the lemma serves is served at each position, and never lacks a move.
use Rattle.std.proofs.Common.{◌≡◌, ℕ, Bool, true, false, cond, List, [], ◌∷◌, ◌++◌, length, Option, Some, None, refl, sym, ap, ◌∙◌, subst}
use Rattle.std.proofs.Common.{inl, inr}
use Rattle.std.specs.List.{AllByRecursion}
use Rattle.std.proofs.lemmas.Bool.{and_parts, cases_Bool}
use Rattle.game_rules.specs.Board.{Board}
use Rattle.game_rules.specs.Position.{Position, empty_position, other, same_side, side_to_move, end_of, is_legal, after_move, played}
use Rattle.game_rules.specs.Laws.{HasLine}
use Rattle.game_rules.specs.Value.{win_of}
use Rattle.game_rules.proofs.Ends.{legal_parts, white_end, black_end}
use Rattle.game_rules.proofs.Moves.{room_column, side_moved, other_other, other_side, same_side_is}
use Rattle.game_rules.proofs.Played.{played_more}
use Rattle.game_rules.specs.declared.Side.{Side}
use Rattle.game_rules.specs.declared.Side.TheVariants.{White, Black}
use Rattle.game_rules.specs.declared.End.{End}
use Rattle.game_rules.specs.declared.End.TheVariants as ends
use Rattle.proof_text.specs.Lemma.{claims_win, claim_of_end, Reason, ByEnd, ByOne, ByAll, ByPlan, ByMirror, Lemma}
use Rattle.proof_text.specs.Right.{Shown, Shows, HasReason, AreRight}
use Rattle.proof_text.specs.declared.Claim.{Claim}
use Rattle.proof_text.specs.declared.Claim.TheVariants.{WhiteWins, WhiteFails, BlackWins, BlackFails}
use Rattle.follow_text.specs.Following.{served_by, seen, Following, at_lemma, own_move, own_move_at, answer_to, turns, are_legal, game_by}
use Rattle.follow_text.specs.Following.{is_game_by, IsGame, last_of, IsServedAt, IsServed, IsHeld, Follows, HasMove}
use Rattle.follow_text.proofs.Seen.{seen_turn, seen_end}
use Rattle.follow_text.proofs.Behind.{behind_it}
use Rattle.follow_text.proofs.Moves.{turn_by_one, held_shown, own_answer, answered}

-- ---- one position

-- the position came by legal moves from an empty board
pub record IsReached (q : Position) : Type 0 where
  pub board : Board
  pub before : List ℕ
  pub moves : played (empty_position board) before ≡ Some q

reached_more : (q : Position) (column : ℕ) → IsReached q → is_legal q column ≡ true → IsReached (after_move q column)
reached_more q column reached legal =
    record {
      board = reached.board;
      before = reached.before ++ column ∷ [];
      moves = played_more (empty_position reached.board) q reached.before column reached.moves
          ∙ ap (λ b. cond b (Some (after_move q column)) None) legal;
    }

line_ends : (side : Side) (q : Position) → IsReached q → HasLine q side → end_of q ≡ Some (win_of side)
line_ends White q reached line = (white_end q).1 line
line_ends Black q reached line = (black_end reached.board reached.before q reached.moves).1 line

ends_line : (side : Side) (q : Position) → IsReached q → end_of q ≡ Some (win_of side) → HasLine q side
ends_line White q reached ended = (white_end q).0 ended
ends_line Black q reached ended = (black_end reached.board reached.before q reached.moves).0 ended

-- a claim that is held leaves the other side no line, and where the holder is to win, only that end
served_at : (claim : Claim) (q : Position) → IsReached q → IsHeld claim q → IsServedAt claim q
served_at claim q reached held =
    record {
      no_line = λ line. lost claim (held (win_of (other (served_by claim))) (line_ends (other (served_by claim)) q reached line));
      won = λ wins e ended. ends_line (served_by claim) q reached (ended ∙ ap (λ e. Some e) (win claim e wins (held e ended)));
    }
  where
    lost : (claim : Claim) → claim_of_end claim (win_of (other (served_by claim))) ≡ true → ⊥
    lost WhiteWins h = cc
    lost WhiteFails h = cc
    lost BlackWins h = cc
    lost BlackFails h = cc

    win : (claim : Claim) (e : End) → claims_win claim ≡ true → claim_of_end claim e ≡ true → e ≡ win_of (served_by claim)
    win WhiteWins ends.White wins h = refl
    win WhiteWins ends.Black wins h = cc
    win WhiteWins ends.Draw wins h = cc
    win BlackWins ends.White wins h = cc
    win BlackWins ends.Black wins h = refl
    win BlackWins ends.Draw wins h = cc
    win WhiteFails e wins h = cc
    win BlackFails e wins h = cc

along_game : (claim : Claim) (q : Position) (rs : List Position) → IsReached q → IsGame q rs → AllByRecursion (IsHeld claim) (q ∷ rs)
    → AllByRecursion (IsServedAt claim) (q ∷ rs)
along_game claim q [] reached game held = (served_at claim q reached held.0, tt)
along_game claim q (r ∷ rs) reached ((column, legal, same), game) held = (
  served_at claim q reached held.0,
  along_game claim r rs (subst IsReached (sym same) (reached_more q column reached legal)) game held.1,
)

-- ---- turns

-- A game whose positions are held, and behind which the other side is to move, where it goes on.
record IsKept (claim : Claim) (q : Position) (positions : List Position) : Type 0 where
  legal : IsGame q positions
  held : AllByRecursion (IsHeld claim) positions
  last : end_of (last_of q positions) ≡ None → side_to_move (last_of q positions) ≡ other (served_by claim)

-- one move more at the beginning
kept_behind : (claim : Claim) (q : Position) (column : ℕ) (positions : List Position) → is_legal q column ≡ true → IsHeld claim (after_move q column)
    → IsKept claim (after_move q column) positions → IsKept claim q (after_move q column ∷ positions)
kept_behind claim q column positions legal held kept = record { legal = ((column, legal, refl), kept.legal); held = (held, kept.held); last = kept.last }

none_kept : (claim : Claim) (q : Position) → (end_of q ≡ None → side_to_move q ≡ other (served_by claim)) → IsKept claim q []
none_kept claim q last = record { legal = tt; held = tt; last = last }

-- a move passes the turn
pub turn_passed : (claim : Claim) (q : Position) (column : ℕ) → side_to_move q ≡ served_by claim → is_legal q column ≡ true
    → side_to_move (after_move q column) ≡ other (served_by claim)
turn_passed claim q column turn legal = side_moved q column (room_column q column (legal_parts q column legal).1) ∙ ap other turn

pub turn_given : (claim : Claim) (q : Position) (column : ℕ) → side_to_move q ≡ other (served_by claim) → is_legal q column ≡ true
    → side_to_move (after_move q column) ≡ served_by claim
turn_given claim q column turn legal =
    side_moved q column (room_column q column (legal_parts q column legal).1) ∙ ap other turn ∙ other_other (served_by claim)

module _ (root : Position) (ls : List Lemma) (after : List Shown) (claim : Claim) (right : AreRight root [] ls after) where
  turns_kept : (columns : List ℕ) (s : Following) (q : Position) → Follows after claim s q → side_to_move q ≡ other (served_by claim)
      → are_legal ls s q columns ≡ true → IsKept claim q (turns ls s q columns)
  turns_kept [] s q follows turn legal = none_kept claim q (λ going. turn)
  turns_kept (column ∷ columns) s q follows turn legal =
      let first : is_legal q column ≡ true = (and_parts (is_legal q column) _ legal).0 in
      let made = answered root ls after claim right s q column follows turn first in
      of_end (end_of (after_move q column)) refl first made.0 made.1
      (λ next r follows turn legal. turns_kept columns next r follows turn legal)
    where
      of_end : (end : Option End) → end_of (after_move q column) ≡ end → is_legal q column ≡ true → IsHeld claim (after_move q column)
          → (end_of (after_move q column) ≡ None → HasMove after claim (after_move q column) (answer_to ls s q column))
          → ((next : Following) (r : Position) → Follows after claim next r → side_to_move r ≡ other (served_by claim) → are_legal ls next r columns ≡ true
          → IsKept claim r (turns ls next r columns)) → IsKept claim q (turns ls s q (column ∷ columns))
      of_end (Some e) ended first held move later =
          let shape : turns ls s q (column ∷ columns) ≡ after_move q column ∷ [] = rw ended refl in
          subst (IsKept claim q) (sym shape)
          (kept_behind claim q column [] first held
          (none_kept claim (after_move q column) (λ going. let none : None ≡ Some e = sym going ∙ ended in absurd (cc none))))
      of_end None going first held move later =
          let now = after_move q column in
          let has = move going in
          let turn_there = turn_passed claim now has.column (turn_given claim q column turn first) has.legal in
          let shape : turns ls s q (column ∷ columns)
          ≡ after_move q column ∷ after_move (after_move q column) has.column ∷ turns ls has.next (after_move (after_move q column) has.column) columns =
          rw (going, has.is) refl in
          let rest : are_legal ls has.next (after_move (after_move q column) has.column) columns ≡ true =
          rw (going, has.is) at (and_parts (is_legal q column) _ legal).1 in
          subst (IsKept claim q) (sym shape)
          (kept_behind claim q column _ first held
          (kept_behind claim now has.column _ has.legal has.held (later has.next (after_move now has.column) has.follows turn_there rest)))

  -- a lemma names a move only where the side that it serves is to move and the game goes on
  pub names_move : (n : ℕ) (turned : Bool) (q : Position) (found : ℕ × Following) → Shows after n (seen turned q) claim
      → own_move_at ls (length q.columns) n turned ≡ Some found → (end_of q ≡ None) × (side_to_move q ≡ served_by claim)
  names_move n turned q found shows is =
      let behind = behind_it root ls after n turned q claim right shows in
      of_reason behind.reason behind.turned behind.right (ap (own_move (length q.columns)) (sym behind.is) ∙ is)
    where
      of_reason : (reason : Reason) (turned : Bool) → HasReason after (seen turned q) claim reason
          → own_move (length q.columns) (Some (reason, turned)) ≡ Some found → (end_of q ≡ None) × (side_to_move q ≡ served_by claim)
      of_reason ByEnd turned h is = absurd (cc is)
      of_reason (ByAll cites) turned h is = absurd (cc is)
      of_reason (ByPlan ws) turned h is = absurd (cc is)
      of_reason (ByMirror n) turned h is = absurd (cc is)
      of_reason (ByOne cite) turned h is = (sym (seen_end turned q) ∙ h.goes_on, sym (seen_turn turned q) ∙ turn_by_one claim (seen turned q) h.serves)

  -- where none is named and the game goes on, the other side is to move
  pub names_none : (n : ℕ) (turned : Bool) (q : Position) → Shows after n (seen turned q) claim → own_move_at ls (length q.columns) n turned ≡ None
      → end_of q ≡ None → side_to_move q ≡ other (served_by claim)
  names_none n turned q shows is going = elim (cases_Bool (same_side (served_by claim) (side_to_move q))) [
    | inl own ↦
        let has = own_answer root ls after claim right n turned q shows (sym (same_side_is (served_by claim) (side_to_move q) own)) going in
        let none : None ≡ Some (has.column, has.next) = sym is ∙ has.is in absurd (cc none)
    | inr turn ↦ other_side (served_by claim) (side_to_move q) turn
  ]

  game_kept : (n : ℕ) (columns : List ℕ) → Shows after n root claim → is_game_by ls root n columns ≡ true → IsKept claim root (game_by ls root n columns)
  game_kept n columns shows legal = of_found (own_move_at ls (length root.columns) n false) refl
    where
      of_going : (columns : List ℕ) (end : Option End) → end_of root ≡ end → own_move_at ls (length root.columns) n false ≡ None
          → are_legal ls (at_lemma n false) root columns ≡ true → IsKept claim root (turns ls (at_lemma n false) root columns)
      of_going columns None going is legal = turns_kept columns (at_lemma n false) root shows (names_none n false root shows is going) legal
      of_going [] (Some e) ended is legal = none_kept claim root (λ going. let none : None ≡ Some e = sym going ∙ ended in absurd (cc none))
      of_going (column ∷ columns) (Some e) ended is legal =
          let none : None ≡ Some e = sym (legal_parts root column (and_parts (is_legal root column) _ legal).0).0 ∙ ended in absurd (cc none)

      of_found : (found : Option (ℕ × Following)) → own_move_at ls (length root.columns) n false ≡ found → IsKept claim root (game_by ls root n columns)
      of_found None is =
          let shape : game_by ls root n columns ≡ turns ls (at_lemma n false) root columns = rw is refl in
          let rest : are_legal ls (at_lemma n false) root columns ≡ true = rw is at legal in
          subst (IsKept claim root) (sym shape) (of_going columns (end_of root) refl is rest)
      of_found (Some found) is =
          let turn = names_move n false root found shows is in
          let has = own_answer root ls after claim right n false root shows turn.1 turn.0 in
          let shape : game_by ls root n columns ≡ after_move root has.column ∷ turns ls has.next (after_move root has.column) columns = rw has.is refl in
          let rest : are_legal ls has.next (after_move root has.column) columns ≡ true = rw has.is at legal in
          subst (IsKept claim root) (sym shape)
          (kept_behind claim root has.column _ has.legal has.held
          (turns_kept columns has.next (after_move root has.column) has.follows (turn_passed claim root has.column turn.1 has.legal) rest))

-- The side that a right lemma at the root serves is served by following it, whatever the other side plays.
pub game_served : (board : Board) (before : List ℕ) (root : Position) (ls : List Lemma) (after : List Shown) (n : ℕ) (claim : Claim) (columns : List ℕ)
    → played (empty_position board) before ≡ Some root → AreRight root [] ls after → Shows after n root claim → is_game_by ls root n columns ≡ true
    → IsServed claim root (game_by ls root n columns)
game_served board before root ls after n claim columns moves right shows legal =
    let kept = game_kept root ls after claim right n columns shows legal in
    record {
      legal = kept.legal;
      served = along_game claim root (game_by ls root n columns) (record { board = board; before = before; moves = moves }) kept.legal
          (held_shown root ls after claim right n false root shows, kept.held);
      answered = kept.last;
    }
