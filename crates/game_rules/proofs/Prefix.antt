-- A text of 122 bytes or more has its fault before its 122nd byte, so what stands behind those bytes decides nothing.
use Rattle.std.proofs.Common.{◌≡◌, ℕ, ◌+◌, ◌-◌, ◌<◌, ◌≤◌, List, ◌++◌, length, take, drop, Result, Ok, Err, refl, sym, ap, ◌∙◌, subst, inl, inr, arith}
use Rattle.std.proofs.lemmas.Bool.{cases_lt}
use Rattle.std.proofs.lemmas.List.{length-append, take_all, length-take-le, take-append-drop}
use Rattle.game_rules.specs.Position.{Position, empty_position, empty_count}
use Rattle.game_rules.specs.Text.{◌>>=◌, moves_at, board_at, read_game, placed, game_at}
use Rattle.game_rules.specs.declared.Stop.{Stop}
use Rattle.game_rules.proofs.Readers.{Spends, spends_bind, spends_more, with_more, more_bind, behind, nothing, moves_spend, moves_more}
use Rattle.game_rules.specs.declared.InputFault.{InputFault}
use Rattle.game_rules.proofs.BoardLine.{first_empty, board_spends, board_more, with_rest, board_gives}

pub game_spends : (bytes : List ℕ) → Spends nothing (length bytes) 121 (read_game bytes)
unfolding read_game
game_spends bytes = spends_bind behind nothing (length bytes) 20 101 (board_at bytes) (λ line. moves_at (empty_position line.0) line.1)
    (board_spends bytes)
    (λ line read. let empty = first_empty line.0 (board_gives bytes line read).0 in
    spends_more nothing (length line.1) (empty_count (empty_position line.0) + 1) 101 (moves_at (empty_position line.0) line.1) (omega arith)
    (moves_spend (empty_position line.0) line.1 (omega arith)))

game_more : (bytes ys : List ℕ) → 122 ≤ length bytes → read_game (bytes ++ ys) ≡ with_more (λ p. p) (length ys) (read_game bytes)
unfolding read_game
game_more bytes ys h =
    ap (λ r. r >>= λ line. moves_at (empty_position line.0) line.1) (board_more bytes ys (omega arith))
    ∙ more_bind (with_rest ys) (λ p. p) (length ys) (board_at bytes) (λ line. moves_at (empty_position line.0) line.1)
    (λ line. moves_at (empty_position line.0) line.1)
    (λ line read. let empty = first_empty line.0 (board_gives bytes line read).0 in
    let spent = subst (Spends behind (length bytes) 20) read (board_spends bytes) in
    moves_more (empty_position line.0) line.1 ys (omega arith) (omega arith))

-- what follows the first 122 bytes decides nothing
pub same_prefix : (bytes ys : List ℕ) → 122 ≤ length bytes → game_at (bytes ++ ys) ≡ game_at bytes
unfolding game_at
same_prefix bytes ys h =
    ap (placed (length (bytes ++ ys))) (game_more bytes ys h)
    ∙ ap (λ size. placed size (with_more (λ p. p) (length ys) (read_game bytes))) (length-append bytes ys)
    ∙ same (read_game bytes) (game_spends bytes)
  where
    same : (r : Result Position Stop) → Spends nothing (length bytes) 121 r → placed (length bytes + length ys) (with_more (λ p. p) (length ys) r)
        ≡ placed (length bytes) r
    same (Ok p) spent = refl
    same (Err s) spent = ap (λ n. Err (record { kind = s.kind; at = n })) (omega arith)

-- a game has at most 121 bytes
pub game_short : (bytes : List ℕ) (p : Position) → game_at bytes ≡ Ok p → length bytes ≤ 121
unfolding game_at
game_short bytes p h = short (read_game bytes) (game_spends bytes) h
  where
    short : (r : Result Position Stop) → Spends nothing (length bytes) 121 r → placed (length bytes) r ≡ Ok p → length bytes ≤ 121
    short (Ok q) spent h = omega arith
    short (Err s) spent h = cc

-- a fault is within the text, and among its first 122 bytes
pub fault_near : (bytes : List ℕ) (fault : InputFault) → game_at bytes ≡ Err fault → (fault.at ≤ length bytes) × (fault.at < 122)
unfolding game_at
fault_near bytes fault h = near (read_game bytes) (game_spends bytes) h
  where
    near : (r : Result Position Stop) → Spends nothing (length bytes) 121 r → placed (length bytes) r ≡ Err fault → (fault.at ≤ length bytes) × (fault.at < 122)
    near (Ok q) spent h = cc
    near (Err s) spent h =
        let same : record { kind = s.kind; at = length bytes - s.left } ≡ fault = cc in
        let place : length bytes - s.left ≡ fault.at = ap (λ (f : InputFault). f.at) same in
        (omega arith, omega arith)

-- the first bytes decide, 122 or more
pub same_taken : (bytes : List ℕ) (n : ℕ) → 122 ≤ n → game_at (take n bytes) ≡ game_at bytes
same_taken bytes n h = elim (cases_lt n (length bytes)) [
  | inr whole ↦ ap game_at (take_all n bytes whole)
  | inl long ↦
      sym (same_prefix (take n bytes) (drop n bytes) (omega (arith, length-take-le n bytes (omega arith)))) ∙ ap game_at (take-append-drop n bytes)
]

pub long_refused : (bytes : List ℕ) → 122 ≤ length bytes → (fault : InputFault) × (game_at bytes ≡ Err fault) × (fault.at < 122)
long_refused bytes h = refused (game_at bytes) refl
  where
    refused : (r : Result Position InputFault) → game_at bytes ≡ r → (fault : InputFault) × (game_at bytes ≡ Err fault) × (fault.at < 122)
    refused (Ok p) e = absurd (omega (arith, game_short bytes p e))
    refused (Err fault) e = (fault, e, (fault_near bytes fault e).1)
