-- What a player by a proof makes of a move: the turn of the definitions, with its line.
use Rattle.std.proofs.Common.{◌≡◌, ℕ, ◌+◌, ◌/◌, ◌<◌, ◌≤◌, Bool, true, false, cond, List, ◌∷◌, ◌++◌, Option, Some, None, is_some, option_map, codes, refl, sym, ap, ◌∙◌}
use Rattle.std.proofs.Common.{subst, arith}
use Rattle.game_rules.specs.Position.{Position, has_room, end_of, empty_count, after_move}
use Rattle.game_rules.specs.declared.Side.{Side}
use Rattle.game_rules.specs.declared.Side.TheVariants.{White, Black}
use Rattle.game_rules.specs.declared.End.{End}
use Rattle.game_rules.specs.declared.End.TheVariants as results
use Rattle.game_rules.proofs.Ends.{legal_parts}
use Rattle.game_rules.proofs.Moves.{empty_count_moved}
use Rattle.plan_text.specs.Items.{square_text}
use Rattle.proof_text.specs.Spelling.{as_line}
use Rattle.follow_text.specs.Following.{answer_to}
use Rattle.follow_text.specs.Follow.{falls_to, end_text, first_text, over_text, answer_text, follow_turn}
use Rattle.proof_player.specs.Playing.{FollowState, reply_for, HasReplied, HasGoneOn, HasFollowed}
use Rattle.proof_player.specs.declared.follow.FollowReply.{FollowReply}
use Rattle.proof_player.specs.declared.follow.FollowReply.TheVariants.{Over}
use Rattle.run_turns.specs.Turns.{man_text, end_words, turn_line, HasRoom}
use Rattle.run_follow.specs.Turns.{man_of, turn_of, turned_to, player_turn, turns_left}

-- ---- the holder's man

-- what is said of the holder's man
abbrev mine_text : Position → FollowReply → List ℕ
mine_text now reply = man_text (option_map (falls_to now) (man_of reply).0) ++ end_words (man_of reply).1

reply_said : (holder : Side) (now : Position) (end : Option End) (column : ℕ)
    → mine_text now (reply_for holder end column) ≡ square_text (falls_to now column) ++ end_text holder end
reply_said holder now None column = refl
reply_said holder now (Some results.Draw) column = refl
reply_said White now (Some results.White) column = refl
reply_said White now (Some results.Black) column = refl
reply_said Black now (Some results.White) column = refl
reply_said Black now (Some results.Black) column = refl

-- it has room
pub can_reply : (holder : Side) (now : Position) (end : Option End) (column : ℕ) → has_room now column ≡ true → HasRoom now (man_of (reply_for holder end column)).0
can_reply holder now None column room = room
can_reply holder now (Some results.Draw) column room = room
can_reply White now (Some results.White) column room = room
can_reply White now (Some results.Black) column room = room
can_reply Black now (Some results.White) column room = room
can_reply Black now (Some results.Black) column room = room

pub first_said : (holder : Side) (root : Position) (column : ℕ)
    → turn_line (turn_of root None (reply_for holder (end_of (after_move root column)) column)) ≡ first_text holder root column
first_said holder root column = ap (λ said. as_line (codes "- " ++ said)) (reply_said holder root (end_of (after_move root column)) column)

-- ---- a turn

answer_said : (holder : Side) (q : Position) (column answer : ℕ)
    → turn_line (turn_of q (Some column) (reply_for holder (end_of (after_move (after_move q column) answer)) answer)) ≡ answer_text holder q column answer
answer_said holder q column answer =
    let now = after_move q column in
    ap (λ said. as_line (square_text (falls_to q column) ++ (32 ∷ said))) (reply_said holder now (end_of (after_move now answer)) answer)

over_said : (holder : Side) (q : Position) (column : ℕ) → end_of (after_move q column) ≡ Some results.Draw
    → turn_line (turn_of q (Some column) Over) ≡ over_text holder q column
over_said holder q column ended = ap (λ end. as_line (square_text (falls_to q column) ++ (codes " -" ++ end_text holder end))) (sym ended)

-- a turn fills two squares, but the last may fill one
pub left_by : (s : FollowState) → turns_left s ≤ (empty_count s.now + 1) / 2
left_by s = of_end (is_some (end_of s.now))
  where
    of_end : (over : Bool) → cond over 0 ((empty_count s.now + 1) / 2) ≤ (empty_count s.now + 1) / 2
    of_end true = omega arith
    of_end false = omega arith

module _ (s t : FollowState) (column : ℕ) (reply : FollowReply) where
  -- the holder answered
  replied : HasReplied s t (after_move s.now column) (answer_to s.lemmas s.at s.now column) reply → end_of (after_move s.now column) ≡ None
      → player_turn s column ≡ Some (turn_line (turn_of s.now (Some column) reply), t)
  replied has going =
      let now = after_move s.now column in
      let next : FollowState = record s { now = after_move now has.column; at = has.next } in
      let turn : follow_turn s.lemmas s.holder (s.at, s.now) column
      ≡ Some (answer_text s.holder s.now column has.column, (has.next, after_move now has.column)) = rw (going, has.is) refl in
      ap (option_map (turned_to s)) turn
      ∙ ap (λ line. Some (line, next)) (sym (ap (λ reply. turn_line (turn_of s.now (Some column) reply)) has.reply_is ∙ answer_said s.holder s.now column has.column))
      ∙ ap (λ t. Some (turn_line (turn_of s.now (Some column) reply), t)) (sym has.state)

  -- or the other side's man filled the board
  filled : end_of (after_move s.now column) ≡ Some results.Draw → reply ≡ Over → t ≡ record s { now = after_move s.now column }
      → player_turn s column ≡ Some (turn_line (turn_of s.now (Some column) reply), t)
  filled ended over state =
      let next : FollowState = record s { now = after_move s.now column } in
      let turn : follow_turn s.lemmas s.holder (s.at, s.now) column
      ≡ Some (over_text s.holder s.now column, (s.at, after_move s.now column)) = rw ended refl in
      ap (option_map (turned_to s)) turn
      ∙ ap (λ line. Some (line, next)) (sym (ap (λ reply. turn_line (turn_of s.now (Some column) reply)) over ∙ over_said s.holder s.now column ended))
      ∙ ap (λ t. Some (turn_line (turn_of s.now (Some column) reply), t)) (sym state)

  pub turn_made : HasFollowed s t column reply → player_turn s column ≡ Some (turn_line (turn_of s.now (Some column) reply), t)
  turn_made has = of_end (end_of (after_move s.now column)) refl has.gone
    where
      of_end : (end : Option End) → end_of (after_move s.now column) ≡ end → HasGoneOn s t column reply end
          → player_turn s column ≡ Some (turn_line (turn_of s.now (Some column) reply), t)
      of_end None going gone = replied gone going
      of_end (Some e) ended gone = filled (ended ∙ ap (λ e. Some e) gone.0) gone.1 gone.2

  pub reply_can : HasFollowed s t column reply → HasRoom (after_move s.now column) (man_of reply).0
  reply_can has = of_end (end_of (after_move s.now column)) has.gone
    where
      of_end : (end : Option End) → HasGoneOn s t column reply end → HasRoom (after_move s.now column) (man_of reply).0
      of_end None gone = subst (λ reply. HasRoom (after_move s.now column) (man_of reply).0) (sym gone.reply_is)
          (can_reply s.holder (after_move s.now column) (end_of (after_move (after_move s.now column) gone.column)) gone.column
          (legal_parts (after_move s.now column) gone.column gone.legal).1)
      of_end (Some e) gone = subst (λ reply. HasRoom (after_move s.now column) (man_of reply).0) (sym gone.1) tt

  -- ---- how many turns are left

  left_here : end_of s.now ≡ None → turns_left s ≡ (empty_count s.now + 1) / 2
  left_here going = rw going refl

  pub fewer_turns : HasFollowed s t column reply → turns_left t < turns_left s
  fewer_turns has =
      let parts = legal_parts s.now column has.legal in
      let one = empty_count_moved s.now column parts.1 in
      let here = left_here parts.0 in
      of_end (end_of (after_move s.now column)) refl has.gone one here
    where
      of_end : (end : Option End) → end_of (after_move s.now column) ≡ end → HasGoneOn s t column reply end
          → empty_count (after_move s.now column) + 1 ≡ empty_count s.now → turns_left s ≡ (empty_count s.now + 1) / 2 → turns_left t < turns_left s
      of_end None going gone one here =
          let last = after_move (after_move s.now column) gone.column in
          let two = empty_count_moved (after_move s.now column) gone.column (legal_parts (after_move s.now column) gone.column gone.legal).1 in
          let most : turns_left t ≤ (empty_count last + 1) / 2 =
          subst (λ t. turns_left t ≤ (empty_count last + 1) / 2) (sym gone.state)
          (left_by (record s { now = last; at = gone.next })) in
          omega (arith, one, two, here, most)
      of_end (Some e) ended gone one here =
          let over : turns_left (record s { now = after_move s.now column }) ≡ 0 = rw ended refl in
          let none : turns_left t ≡ 0 = ap turns_left gone.2 ∙ over in
          omega (arith, one, here, none)
