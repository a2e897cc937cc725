-- The holder's first move and its line, and what is played behind it.
use Rattle.std.proofs.Common.{◌≡◌, ℕ, ◌+◌, ◌≤◌, false, if◌then◌else◌, List, [], ◌∷◌, length, Option, Some, None, is_some, IfSome, option_map, refl, sym, ap, ◌∙◌, subst}
use Rattle.std.proofs.Common.{arith}
use Rattle.game_rules.specs.Position.{Position, board_of, end_of, after_move}
use Rattle.game_rules.specs.declared.Side.{Side}
use Rattle.game_rules.proofs.Ends.{legal_parts}
use Rattle.proof_text.specs.Lemma.{Lemma}
use Rattle.proof_text.specs.Texts.{pieces, lines_in}
use Rattle.play_text.specs.Play.{behind, column_in, move_refusal, with_turn, with_move, turns_from}
use Rattle.play_text.specs.declared.PlayKind.{PlayKind}
use Rattle.follow_text.specs.Following.{Following, own_move_at}
use Rattle.follow_text.specs.Follow.{follow_turn, follow_from, begin_by, follow_named}
use Rattle.proof_player.specs.Playing.{FollowState, HasBegun}
use Rattle.proof_player.specs.declared.follow.FollowReply.{FollowReply}
use Rattle.run_turns.specs.Steps.{turns_by}
use Rattle.run_turns.specs.Turns.{HasRoom}
use Rattle.run_follow.specs.Begun.{OpensWith}
use Rattle.run_follow.specs.Turns.{man_of, first_lines, follow_stands, turned_to, player_turn}
use Rattle.run_follow.proofs.Turn.{can_reply, first_said}

-- what is played by the turns of a player by a proof is what is played by the proof
turns_followed : (s : FollowState) (at : ℕ) (lines : List (List ℕ))
    → turns_from follow_stands player_turn s at lines ≡ follow_from s.lemmas s.holder s.at s.now at lines
turns_followed s at [] = refl
turns_followed s at (line ∷ lines) =
    of_column (column_in (board_of s.now) line) (move_refusal s.now (column_in (board_of s.now) line)) (λ next. turns_followed next (at + 1) lines)
  where
    of_turn : (turn : Option (List ℕ × (Following × Position)))
        → ((next : FollowState) → turns_from follow_stands player_turn next (at + 1) lines
        ≡ follow_from next.lemmas next.holder next.at next.now (at + 1) lines)
        → with_turn (option_map (turned_to s) turn) (λ next. turns_from follow_stands player_turn next (at + 1) lines)
        ≡ with_turn turn (λ next. turns_from (λ x. x.1) (follow_turn s.lemmas s.holder) next (at + 1) lines)
    of_turn None later = refl
    of_turn (Some (text, (f, q))) later = ap (behind (text ∷ [])) (later (record s { at = f; now = q }))

    of_column : (column : Option ℕ) (refusal : Option PlayKind)
        → ((next : FollowState) → turns_from follow_stands player_turn next (at + 1) lines
        ≡ follow_from next.lemmas next.holder next.at next.now (at + 1) lines)
        → with_move (player_turn s) at column refusal (λ next. turns_from follow_stands player_turn next (at + 1) lines)
        ≡ with_move (follow_turn s.lemmas s.holder (s.at, s.now)) at column refusal
        (λ next. turns_from (λ x. x.1) (follow_turn s.lemmas s.holder) next (at + 1) lines)
    of_column column (Some kind) later = refl
    of_column None None later = refl
    of_column (Some column) None later = of_turn (follow_turn s.lemmas s.holder (s.at, s.now) column) later

pub turns_by_proof : (s : FollowState) (at : ℕ) (bytes : List ℕ)
    → turns_by follow_stands player_turn s at bytes ≡ follow_from s.lemmas s.holder s.at s.now at (lines_in (pieces bytes))
unfolding turns_by
turns_by_proof s at bytes = turns_followed s at (lines_in (pieces bytes))

-- ---- the first move

module _ (ls : List Lemma) (holder : Side) (root : Position) (n : ℕ) (t : FollowState) (reply : Option FollowReply)
    (has : HasBegun ls holder root n t reply (own_move_at ls (length root.columns) n false)) where
  -- what comes of the lines behind the verdict is played by the player, behind the line of the first move
  pub first_goes : (at : ℕ) (more : List (List ℕ))
      → follow_named ls holder root at more (Some n) ≡ behind (first_lines root reply) (follow_from t.lemmas t.holder t.at t.now (at + 1) more)
  first_goes at more = of_first (own_move_at ls (length root.columns) n false) has
    where
      of_first : (found : Option (ℕ × Following)) → HasBegun ls holder root n t reply found
          → begin_by ls holder root n (at + 1) more found ≡ behind (first_lines root reply) (follow_from t.lemmas t.holder t.at t.now (at + 1) more)
      of_first None begun =
          ap (λ (t : FollowState). follow_from t.lemmas t.holder t.at t.now (at + 1) more) (sym begun.1)
          ∙ ap (λ reply. behind (first_lines root reply) (follow_from t.lemmas t.holder t.at t.now (at + 1) more)) (sym begun.0)
      of_first (Some (column, next)) begun =
          ap (λ line. behind (line ∷ []) (follow_from ls holder next (after_move root column) (at + 1) more)) (sym (first_said holder root column))
          ∙ ap (λ reply. behind (first_lines root reply) (follow_from ls holder next (after_move root column) (at + 1) more)) (sym begun.0)
          ∙ ap (λ (t : FollowState). behind (first_lines root reply) (follow_from t.lemmas t.holder t.at t.now (at + 1) more)) (sym begun.2)

  -- so many lines stand before the answers
  pub first_opens : OpensWith ls root (Some n) (length (first_lines root reply))
  first_opens = record { lemma = n; is = refl; lines = of_first (own_move_at ls (length root.columns) n false) has }
    where
      of_first : (found : Option (ℕ × Following)) → HasBegun ls holder root n t reply found
          → length (first_lines root reply) ≡ (if is_some found then 1 else 0)
      of_first None begun = ap (λ reply. length (first_lines root reply)) begun.0
      of_first (Some (column, next)) begun = ap (λ reply. length (first_lines root reply)) begun.0

  -- the man of the first move has room
  pub first_can : IfSome reply (λ reply. HasRoom root (man_of reply).0)
  first_can = of_first (own_move_at ls (length root.columns) n false) has
    where
      of_first : (found : Option (ℕ × Following)) → HasBegun ls holder root n t reply found → IfSome reply (λ reply. HasRoom root (man_of reply).0)
      of_first None begun = subst (λ reply. IfSome reply (λ reply. HasRoom root (man_of reply).0)) (sym begun.0) tt
      of_first (Some (column, next)) begun = subst (λ reply. IfSome reply (λ reply. HasRoom root (man_of reply).0)) (sym begun.0)
          (can_reply holder root (end_of (after_move root column)) column (legal_parts root column begun.1).1)

pub first_few : (root : Position) (reply : Option FollowReply) → length (first_lines root reply) ≤ 1
first_few root None = omega arith
first_few root (Some reply) = omega arith
