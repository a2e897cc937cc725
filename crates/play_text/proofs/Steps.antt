-- Play goes line by line, and what whole inputs give.
use Rattle.std.proofs.Common.{◌≡◌, ◌≢◌, ◌⊎◌, ℕ, suc, ◌+◌, true, nat_le, List, [], ◌∷◌, ◌++◌, map, length, Option, Some, None, is_none, Result, Ok, Err, refl}
use Rattle.std.proofs.Common.{sym, ap, ◌∙◌, inl, inr, arith, append_assoc, append-nil}
use Rattle.std.proofs.lemmas.Bool.{le-leb}
use Rattle.game_rules.specs.Position.{Position, board_of}
use Rattle.game_rules.specs.Text.{game_at}
use Rattle.game_rules.specs.declared.InputFault.{InputFault}
use Rattle.plan_rules.specs.Rules.{RuleInstance}
use Rattle.plan_rules.specs.Plan.{is_plan, is_playable_list}
use Rattle.plan_rules.specs.Refusal.{PlanFault, plan_refusal}
use Rattle.plan_rules.proofs.Refusals.{refusal_is}
use Rattle.plan_text.specs.PlanLine.{PlanFits, plan_text}
use Rattle.plan_text.proofs.PlanLines.{plan_spelled, plan_length}
use Rattle.proof_text.specs.Spelling.{longest_line}
use Rattle.proof_text.specs.Texts.{pieces, game_of, behind_game}
use Rattle.play_text.specs.Play.{PlayEnd, NoMove, AllPlayed, NoReply, move_line, Played, behind, column_in, move_refusal, Turn, with_turn}
use Rattle.play_text.specs.Play.{with_move, turns_from}
use Rattle.play_text.specs.Play.{plan_turn, play_from, first_move, plan_in, play_by, play_list, play_lines, play_game, play_of}
use Rattle.play_text.specs.Told.{TellsPlay, IsTold}
use Rattle.play_text.specs.declared.PlayFault.{PlayFault}
use Rattle.play_text.specs.declared.PlayKind.{PlayKind}
use Rattle.play_text.specs.declared.PlayKind.TheVariants.{BadMove}
use Rattle.play_text.proofs.Turns.{tells_duel, all_legal_played}

-- ---- lines behind lines

-- lines stand before what is written by further ones
pub behind_more : (xs ys : List (List ℕ)) (played : Played) → behind xs (behind ys played) ≡ behind (xs ++ ys) played
behind_more xs ys played = ap (λ lines. record { lines = lines; end = played.end }) (sym (append_assoc xs ys played.lines))

-- Some lines stop play, whatever follows; or all are played, and it goes on from where the player stands then.
abbrev pub GoesOn : {X : Type 0} → (X → Position) → (X → ℕ → Turn X) → X → ℕ → List (List ℕ) → List (List ℕ) → Type 0
GoesOn {X} stands turn x at xs ys =
    (((turns_from stands turn x at xs).end ≢ AllPlayed) × (turns_from stands turn x at (xs ++ ys) ≡ turns_from stands turn x at xs))
    ⊎ (((turns_from stands turn x at xs).end ≡ AllPlayed)
    × ((y : X) × (turns_from stands turn x at (xs ++ ys) ≡ behind (turns_from stands turn x at xs).lines (turns_from stands turn y (at + length xs) ys))))

pub goes_on : {X : Type 0} (stands : X → Position) (turn : X → ℕ → Turn X) (x : X) (at : ℕ) (xs ys : List (List ℕ)) → GoesOn stands turn x at xs ys
goes_on stands turn x at [] ys = inr (refl, (x, ap (λ at. turns_from stands turn x at ys) (let same : at ≡ at + 0 = omega arith in same)))
goes_on {X} stands turn x at (move ∷ xs) ys =
    of_column (column_in (board_of (stands x)) move) (move_refusal (stands x) (column_in (board_of (stands x)) move)) refl refl
    (λ next. goes_on stands turn next (at + 1) xs ys)
  where
    further : (line : List ℕ) (next : X) → GoesOn stands turn next (at + 1) xs ys
        → (((turns_from stands turn next (at + 1) xs).end ≢ AllPlayed)
        × (behind (line ∷ []) (turns_from stands turn next (at + 1) (xs ++ ys)) ≡ behind (line ∷ []) (turns_from stands turn next (at + 1) xs)))
        ⊎ (((turns_from stands turn next (at + 1) xs).end ≡ AllPlayed)
        × ((y : X) × (behind (line ∷ []) (turns_from stands turn next (at + 1) (xs ++ ys))
        ≡ behind (line ∷ (turns_from stands turn next (at + 1) xs).lines) (turns_from stands turn y (at + suc (length xs)) ys))))
    further line next (inl (stops, same)) = inl (stops, ap (behind (line ∷ [])) same)
    further line next (inr (all, (y, same))) =
        inr (
          all,
          (
            y,
            ap (behind (line ∷ []))
                (same ∙ ap (λ n. behind (turns_from stands turn next (at + 1) xs).lines (turns_from stands turn y n ys))
                (let more : at + 1 + length xs ≡ at + suc (length xs) = omega arith in more)),
          ),
        )

    of_turn : (column : ℕ) (made : Turn X) → turn x column ≡ made → column_in (board_of (stands x)) move ≡ Some column
        → move_refusal (stands x) (column_in (board_of (stands x)) move) ≡ None
        → ((next : X) → GoesOn stands turn next (at + 1) xs ys) → GoesOn stands turn x at (move ∷ xs) ys
    of_turn column None f e g later = rw (g, e, f) (inl (λ same. cc, refl))
    of_turn column (Some (line, next)) f e g later = rw (g, e, f) (further line next (later next))

    of_column : (column : Option ℕ) (refusal : Option PlayKind) → column_in (board_of (stands x)) move ≡ column
        → move_refusal (stands x) (column_in (board_of (stands x)) move) ≡ refusal
        → ((next : X) → GoesOn stands turn next (at + 1) xs ys) → GoesOn stands turn x at (move ∷ xs) ys
    of_column column (Some kind) e f later = rw f (inl (λ same. cc, refl))
    of_column None None e f later = absurd (cc (rw e at f))
    of_column (Some column) None e f later = of_turn column (turn x column) refl e f later

pub play_stops : {X : Type 0} (stands : X → Position) (turn : X → ℕ → Turn X) (x : X) (at : ℕ) (xs ys : List (List ℕ))
    → (turns_from stands turn x at xs).end ≢ AllPlayed
    → turns_from stands turn x at (xs ++ ys) ≡ turns_from stands turn x at xs
play_stops stands turn x at xs ys stops = of_case (goes_on stands turn x at xs ys)
  where
    of_case : GoesOn stands turn x at xs ys → turns_from stands turn x at (xs ++ ys) ≡ turns_from stands turn x at xs
    of_case (inl (other, same)) = same
    of_case (inr (all, some)) = absurd (stops all)

pub play_more : {X : Type 0} (stands : X → Position) (turn : X → ℕ → Turn X) (x : X) (at : ℕ) (xs ys : List (List ℕ))
    → (turns_from stands turn x at xs).end ≡ AllPlayed
    → (y : X) × (turns_from stands turn x at (xs ++ ys) ≡ behind (turns_from stands turn x at xs).lines (turns_from stands turn y (at + length xs) ys))
play_more {X} stands turn x at xs ys all = of_case (goes_on stands turn x at xs ys)
  where
    of_case : GoesOn stands turn x at xs ys
        → (y : X) × (turns_from stands turn x at (xs ++ ys) ≡ behind (turns_from stands turn x at xs).lines (turns_from stands turn y (at + length xs) ys))
    of_case (inl (stops, same)) = absurd (stops all)
    of_case (inr (also, some)) = some

-- what fewer lines give stands at the beginning
pub fewer_lines : {X : Type 0} (stands : X → Position) (turn : X → ℕ → Turn X) (x : X) (at : ℕ) (xs ys : List (List ℕ))
    → (more : List (List ℕ)) × ((turns_from stands turn x at (xs ++ ys)).lines ≡ (turns_from stands turn x at xs).lines ++ more)
fewer_lines {X} stands turn x at xs ys = of_case (goes_on stands turn x at xs ys)
  where
    of_case : GoesOn stands turn x at xs ys
        → (more : List (List ℕ)) × ((turns_from stands turn x at (xs ++ ys)).lines ≡ (turns_from stands turn x at xs).lines ++ more)
    of_case (inl (stops, same)) = ([], ap (λ played. played.lines) same ∙ sym (append-nil (turns_from stands turn x at xs).lines))
    of_case (inr (all, (y, same))) = ((turns_from stands turn y (at + length xs) ys).lines, ap (λ played. played.lines) same)

-- ---- whole inputs

-- a list without a refusal is a plan
pub is_one : (p : Position) (ws : List RuleInstance) → plan_refusal p ws ≡ None → is_plan p ws ≡ true
is_one p ws none = sym (refusal_is p ws) ∙ ap is_none none

-- by further lines play ends at one that is no move, behind the last, or for want of an answer
pub ends_so : {X : Type 0} (stands : X → Position) (turn : X → ℕ → Turn X) (P : PlayEnd → Type 0) → ((fault : PlayFault) → P (NoMove fault)) → P AllPlayed
    → P NoReply → (x : X) (at : ℕ) (moves : List (List ℕ)) → P (turns_from stands turn x at moves).end
ends_so stands turn P stops all none x at [] = all
ends_so {X} stands turn P stops all none x at (move ∷ moves) =
    of_column (column_in (board_of (stands x)) move) (move_refusal (stands x) (column_in (board_of (stands x)) move))
    (λ next. ends_so stands turn P stops all none next (at + 1) moves)
  where
    of_turn : (made : Turn X) → ((next : X) → P (turns_from stands turn next (at + 1) moves).end)
        → P (with_turn made (λ next. turns_from stands turn next (at + 1) moves)).end
    of_turn None later = none
    of_turn (Some (line, next)) later = later next

    of_column : (column : Option ℕ) (refusal : Option PlayKind) → ((next : X) → P (turns_from stands turn next (at + 1) moves).end)
        → P (with_move (turn x) at column refusal (λ next. turns_from stands turn next (at + 1) moves)).end
    of_column column (Some kind) later = stops (record { kind = kind; at = at })
    of_column None None later = stops (record { kind = BadMove; at = at })
    of_column (Some column) None later = of_turn (turn x column) later

-- what is told by an end that further lines lead to, where no answer is wanting
pub told_so : {X : Type 0} (stands : X → Position) (turn : X → ℕ → Turn X) (Told : PlayEnd → Type 0) → ((fault : PlayFault) → Told (NoMove fault))
    → Told AllPlayed → (x : X) (at : ℕ) (moves : List (List ℕ)) → (turns_from stands turn x at moves).end ≢ NoReply
    → Told (turns_from stands turn x at moves).end
told_so stands turn Told stops all x at moves answered =
    ends_so stands turn (λ end. end ≢ NoReply → Told end) (λ fault answered. stops fault) (λ answered. all) (λ answered. absurd (answered refl)) x at moves
    answered

pub play_is_told : (bytes : List ℕ) → IsTold bytes (play_of bytes).lines (play_of bytes).end
unfolding play_of
play_is_told bytes = of_game (game_at (game_of (pieces bytes))) (behind_game (pieces bytes)) refl refl
  where
    Told : Played → Type 0
    Told played = IsTold bytes played.lines played.end

    of_refusal : (root : Position) (first : List ℕ) (moves : List (List ℕ)) (ws : List RuleInstance) (refusal : Option PlanFault)
        → plan_refusal root ws ≡ refusal → game_at (game_of (pieces bytes)) ≡ Ok root
        → behind_game (pieces bytes) ≡ first ∷ moves → plan_in (board_of root) first ≡ Some ws → Told (play_by root ws refusal moves)
    of_refusal root first moves ws (Some fault) d e f g = refl
    of_refusal root first moves ws None d e f g =
        let tells = tells_duel root ws first_move moves (is_one root ws d) in
        let told : TellsPlay bytes (play_from ws root first_move moves).lines =
        record { root = root; game = e; first = first; moves = moves; behind = f; list = ws; is_list = g; is_one = is_one root ws d; duel = tells.0 } in
        told_so (λ q. q) (plan_turn ws) (IsTold bytes (play_from ws root first_move moves).lines) (λ fault. told) told root first_move moves tells.1

    of_list : (root : Position) (first : List ℕ) (moves : List (List ℕ)) (list : Option (List RuleInstance)) → game_at (game_of (pieces bytes)) ≡ Ok root
        → behind_game (pieces bytes) ≡ first ∷ moves → plan_in (board_of root) first ≡ list → Told (play_list root list moves)
    of_list root first moves None e f g = refl
    of_list root first moves (Some ws) e f g = of_refusal root first moves ws (plan_refusal root ws) refl e f g

    of_lines : (root : Position) (lines : List (List ℕ)) → game_at (game_of (pieces bytes)) ≡ Ok root → behind_game (pieces bytes) ≡ lines
        → Told (play_lines root lines)
    of_lines root [] e f = refl
    of_lines root (first ∷ moves) e f = of_list root first moves (plan_in (board_of root) first) e f refl

    of_game : (game : Result Position InputFault) (lines : List (List ℕ)) → game_at (game_of (pieces bytes)) ≡ game → behind_game (pieces bytes) ≡ lines
        → Told (play_game game lines)
    of_game (Err fault) lines e f = refl
    of_game (Ok root) lines e f = of_lines root lines e f

-- an input with a game, a plan's line and legal moves is played to its end
pub input_played : (bytes : List ℕ) (root : Position) (ws : List RuleInstance) (columns : List ℕ) → game_at (game_of (pieces bytes)) ≡ Ok root
    → behind_game (pieces bytes) ≡ plan_text ws ∷ map move_line columns
    → PlanFits (board_of root) ws → is_plan root ws ≡ true → is_playable_list ws root columns ≡ true → (play_of bytes).end ≡ AllPlayed
unfolding play_of
input_played bytes root ws columns game lines fits is playable =
    let board = board_of root in
    let short : nat_le (length (plan_text ws)) longest_line ≡ true = le-leb (length (plan_text ws)) longest_line (omega (arith, plan_length board ws fits)) in
    let list : plan_in board (plan_text ws) ≡ Some ws = rw short (plan_spelled board (plan_text ws) ws (fits, refl)) in
    let stands : plan_refusal root ws ≡ None = none_from (plan_refusal root ws) (refusal_is root ws ∙ is) in
    rw (game, lines, list, stands) (all_legal_played root ws first_move columns is playable)
  where
    none_from : (refusal : Option PlanFault) → is_none refusal ≡ true → refusal ≡ None
    none_from None h = refl
    none_from (Some fault) h = cc
