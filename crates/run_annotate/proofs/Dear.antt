-- What a verdict tells, and which moves have their marks.
use Rattle.std.proofs.Common.{◌≡◌, ◌≢◌, ℕ, suc, ◌-◌, ◌<◌, Bool, List, [], ◌∷◌, length, take, drop, Option, Some, None, IsSome, refl, sym, ap, ◌∙◌, subst}
use Rattle.std.proofs.lemmas.List.{take-append-drop}
use Rattle.game_rules.specs.Board.{Board}
use Rattle.game_rules.specs.Cost.{cost}
use Rattle.game_rules.specs.Game.{Game, board_played, IsPlayed}
use Rattle.game_rules.specs.Position.{Position, side_to_move, after_move, empty_position, played}
use Rattle.proof_text.specs.Right.{IsTrueVerdict}
use Rattle.proof_text.specs.declared.Verdict.{Verdict}
use Rattle.proof_text.specs.declared.Verdict.TheVariants.{Win, Loss, Draw, Unknown}
use Rattle.run_questions.specs.Found.{HasFound}
use Rattle.run_questions.specs.Planned.{solved_within}
use Rattle.tool_text.proofs.Legal.{played_parts}
use Rattle.tool_text.specs.Marks.{AreMarks, AreLastMarks}
use Rattle.tool_text.specs.declared.Mark.{Mark}
use Rattle.proof_tools.specs.Marked.{IsTold}
use Rattle.run_annotate.specs.Dear.{IsSearched, told_end}
use Rattle.run_annotate.specs.Lines.{moves_before}

-- a true verdict tells the value, or nothing where the position is dear
pub verdict_tells : (nodes reach : ℕ) (p : Position) (v : Verdict) → IsTrueVerdict p v → (v ≢ Unknown → HasFound nodes reach p v)
    → (v ≡ Unknown → nodes < cost (solved_within reach) p) → IsTold (IsSearched nodes reach) p (told_end (side_to_move p) v)
verdict_tells nodes reach p (Win n) says found dear = ((Win n, found (λ is. cc is)), says)
verdict_tells nodes reach p (Loss n) says found dear = ((Loss n, found (λ is. cc is)), says)
verdict_tells nodes reach p (Draw n m) says found dear = ((Draw n m, found (λ is. cc is)), says)
verdict_tells nodes reach p Unknown says found dear = dear refl

-- each move has one mark
marks_each : (may : Position → Bool → Type 0) (p : Position) (columns : List ℕ) (marks : List Mark) → AreMarks may p columns marks
    → length columns ≡ length marks
marks_each may p [] [] h = refl
marks_each may p [] (mark ∷ marks) h = absurd h
marks_each may p (column ∷ columns) [] h = absurd h
marks_each may p (column ∷ columns) (mark ∷ marks) h = ap suc (marks_each may (after_move p column) columns marks h.1)

-- ---- the moves of a game, cut before the last of them

some_of : {X : Type 0} (found : Option X) (x : X) → found ≡ Some x → IsSome found
some_of found x h = subst IsSome (sym h) cc

-- the first moves lead somewhere, and the others are legal there
parts_played : (game : Game) (n : ℕ) → IsPlayed game → IsSome (played (empty_position (board_played game)) (take n game.moves))
    × ((q : Position) → played (empty_position (board_played game)) (take n game.moves) ≡ Some q → IsSome (played q (drop n game.moves)))
parts_played game n along =
    let start = empty_position (board_played game) in
    played_parts start (take n game.moves) (drop n game.moves)
    (subst (λ columns. IsSome (played start columns)) (sym (take-append-drop n game.moves)) (some_of (played start game.moves) game.position along))

module _ (game : Game) (along : IsPlayed game) (board : Board) (moves : List ℕ) (is_board : board ≡ board_played game) (are : moves ≡ game.moves) where
  pub last_each : (may : Position → Bool → Type 0) (last : ℕ) (marks : List Mark) → AreLastMarks may board moves last marks
      → length (drop (moves_before game last) game.moves) ≡ length marks
  last_each may last marks h =
      of (played (empty_position (board_played game)) (take (moves_before game last) game.moves)) refl (parts_played game (moves_before game last) along).0
    where
      told : AreLastMarks may (board_played game) game.moves last marks
      told = subst (λ board. AreLastMarks may board game.moves last marks) is_board (subst (λ moves. AreLastMarks may board moves last marks) are h)

      of : (found : Option Position) → played (empty_position (board_played game)) (take (moves_before game last) game.moves) ≡ found → IsSome found
          → length (drop (moves_before game last) game.moves) ≡ length marks
      of None e some = absurd (cc some)
      of (Some p) e some = marks_each may p (drop (moves_before game last) game.moves) marks (told p e)

  module _ (n : ℕ) (front back : List ℕ) (first : front ≡ take n moves) (rest : back ≡ drop n moves) where
    there : played (empty_position board) front ≡ played (empty_position (board_played game)) (take n game.moves)
    there =
        ap (λ b. played (empty_position b) front) is_board
        ∙ ap (played (empty_position (board_played game))) (first ∙ ap (take n) are)

    pub front_legal : IsSome (played (empty_position board) front)
    front_legal = subst IsSome (sym there) (parts_played game n along).0

    pub back_legal : (q : Position) → played (empty_position board) front ≡ Some q → IsSome (played q back)
    back_legal q h =
        subst (λ columns. IsSome (played q columns)) (sym (rest ∙ ap (drop n) are)) ((parts_played game n along).1 q (sym there ∙ h))

    pub begins : (last : ℕ) → n ≡ length moves - last → (q : Position) → played (empty_position board) front ≡ Some q
        → played (empty_position (board_played game)) (take (moves_before game last) game.moves) ≡ Some q
    begins last counted q h =
        ap (λ k. played (empty_position (board_played game)) (take k game.moves)) (sym (counted ∙ ap (λ moves. length moves - last) are)) ∙ sym there ∙ h
