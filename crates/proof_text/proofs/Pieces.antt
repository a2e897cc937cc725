-- A text and its lines: cut at its line feeds, it gives the lines that it was joined from.
use Rattle.std.proofs.Common.{◌≡◌, ℕ, ◌≤◌, Bool, true, false, List, [], ◌∷◌, ◌++◌, refl, sym, ap, ◌∙◌, subst, append_assoc, append-nil, inl, inr, arith}
use Rattle.std.specs.List.{All, AllByRecursion, onto_first, join_with_byte, flat_map}
use Rattle.std.proofs.lemmas.List.Elements.{All-nil, All-cons}
use Rattle.std.proofs.lemmas.List.Concat.{flat_map-cons}
use Rattle.std.proofs.lemmas.List.Splits.{slice_split_none, slice_split_at, slice_split-cons_yes, slice_split-cons_no, join_with_byte-slice_split}
use Rattle.std.proofs.lemmas.Bool.{cases_Bool, ne_eqb}
use Rattle.game_rules.specs.Grammar.{last_feed}
use Rattle.proof_text.specs.Spelling.{as_line}
use Rattle.proof_text.specs.Texts.{is_feed, pieces, last_line, lines_in}
use Rattle.plan_text.proofs.Spaced.{all_each}

-- without a line feed
abbrev pub IsFeedless : List ℕ → Type 0
IsFeedless line = AllByRecursion (λ byte. is_feed byte ≡ false) line

pub feedless_high : (line : List ℕ) → AllByRecursion (λ byte. 32 ≤ byte) line → IsFeedless line
feedless_high line h = all_each (λ byte. 32 ≤ byte) (λ byte. is_feed byte ≡ false) line (λ byte low. ne_eqb byte 10 (λ (e : byte ≡ 10). omega arith)) h

all_feedless : (line : List ℕ) → IsFeedless line → All (λ byte. is_feed byte ≡ false) line
all_feedless [] h = All-nil (λ (byte : ℕ). is_feed byte ≡ false)
all_feedless (byte ∷ line) h = All-cons (λ (byte : ℕ). is_feed byte ≡ false) byte line h.0 (all_feedless line h.1)

-- ---- pieces

-- a line and what follows it
pub pieces_line : (line rest : List ℕ) → IsFeedless line → pieces (line ++ 10 ∷ rest) ≡ line ∷ pieces rest
pieces_line line rest h = slice_split_at is_feed line 10 rest (all_feedless line h) refl

pub pieces_last : (line : List ℕ) → IsFeedless line → pieces line ≡ line ∷ []
pieces_last line h = slice_split_none is_feed line (all_feedless line h)

-- each piece is without a line feed
pub pieces_feedless : (bytes : List ℕ) → AllByRecursion IsFeedless (pieces bytes)
pieces_feedless [] = (tt, tt)
pieces_feedless (byte ∷ bytes) = elim (cases_Bool (is_feed byte)) [
  | inl feed ↦ subst (AllByRecursion IsFeedless) (sym (slice_split-cons_yes is_feed byte bytes feed)) (tt, pieces_feedless bytes)
  | inr other ↦ subst (AllByRecursion IsFeedless) (sym (slice_split-cons_no is_feed byte bytes other)) (onto byte (pieces bytes) other (pieces_feedless bytes))
]
  where
    onto : (byte : ℕ) (ps : List (List ℕ)) → is_feed byte ≡ false → AllByRecursion IsFeedless ps → AllByRecursion IsFeedless (onto_first byte ps)
    onto byte [] other h = ((other, tt), tt)
    onto byte (piece ∷ ps) other h = ((other, h.0), h.1)

-- there is a piece
pub pieces_some : (bytes : List ℕ) → (first : List ℕ) × (more : List (List ℕ)) × (pieces bytes ≡ first ∷ more)
pieces_some bytes = some (pieces bytes) refl
  where
    none : (bytes : List ℕ) → pieces bytes ≡ [] → ⊥
    none [] e = cc
    none (byte ∷ bytes) e = elim (cases_Bool (is_feed byte)) [
      | inl feed ↦ cc (sym (slice_split-cons_yes is_feed byte bytes feed) ∙ e)
      | inr other ↦ onto (pieces bytes) (sym (slice_split-cons_no is_feed byte bytes other) ∙ e)
    ]
      where
        onto : (ps : List (List ℕ)) → onto_first byte ps ≡ [] → ⊥
        onto [] e = cc
        onto (piece ∷ ps) e = cc

    some : (ps : List (List ℕ)) → pieces bytes ≡ ps → (first : List ℕ) × (more : List (List ℕ)) × (pieces bytes ≡ first ∷ more)
    some [] e = absurd (none bytes e)
    some (first ∷ more) e = (first, more, e)

-- the pieces determine the text
pub joined : (bytes : List ℕ) → join_with_byte 10 (pieces bytes) ≡ bytes
joined bytes = join_with_byte-slice_split 10 bytes

-- Lines that were joined are cut again, whatever follows.
pub cut_lines : (lines : List (List ℕ)) (rest : List ℕ) → AllByRecursion IsFeedless lines → pieces (flat_map as_line lines ++ rest) ≡ lines ++ pieces rest
cut_lines [] rest h = refl
cut_lines (line ∷ lines) rest h =
    ap pieces (ap (λ text. text ++ rest) (flat_map-cons as_line line lines) ∙ append_assoc (as_line line) (flat_map as_line lines) rest
    ∙ append_assoc line (10 ∷ []) (flat_map as_line lines ++ rest))
    ∙ pieces_line line (flat_map as_line lines ++ rest) h.0
    ∙ ap (λ more. line ∷ more) (cut_lines lines rest h.1)

-- ---- lines

pub lines_append : (lines : List (List ℕ)) (last : List ℕ) → lines_in (lines ++ last ∷ []) ≡ lines ++ last_line last
lines_append [] last = refl
lines_append (line ∷ []) last = refl
lines_append (line ∷ next ∷ lines) last = ap (λ more. line ∷ more) (lines_append (next ∷ lines) last)

-- the lines of a text of whole lines
pub whole_lines : (lines : List (List ℕ)) → AllByRecursion IsFeedless lines → lines_in (pieces (flat_map as_line lines)) ≡ lines
whole_lines lines h =
    ap (λ text. lines_in (pieces text)) (sym (append-nil (flat_map as_line lines))) ∙ ap lines_in (cut_lines lines [] h)
    ∙ lines_append lines [] ∙ append-nil lines

-- the first line of a text, and the lines behind it
pub lines_line : (line rest : List ℕ) → IsFeedless line → lines_in (pieces (line ++ 10 ∷ rest)) ≡ line ∷ lines_in (pieces rest)
lines_line line rest h = ap lines_in (pieces_line line rest h) ∙ first (pieces_some rest)
  where
    first : (first : List ℕ) × (more : List (List ℕ)) × (pieces rest ≡ first ∷ more) → lines_in (line ∷ pieces rest) ≡ line ∷ lines_in (pieces rest)
    first (piece, more, e) = rw e refl

-- a last line without a line feed
pub lines_last : (byte : ℕ) (line : List ℕ) → IsFeedless (byte ∷ line) → lines_in (pieces (byte ∷ line)) ≡ (byte ∷ line) ∷ []
lines_last byte line h = ap lines_in (pieces_last (byte ∷ line) h)

pub lines_none : lines_in (pieces []) ≡ []
lines_none = refl

no_lines : (next : List ℕ) (more : List (List ℕ)) → lines_in (next ∷ more) ≡ [] → (next ≡ []) × (more ≡ [])
no_lines [] [] h = (refl, refl)
no_lines (byte ∷ bytes) [] h = cc
no_lines next (piece ∷ more) h = cc

-- What text it is that has these lines: each with its line feed, but for that of the last, which may be missing.
pub joined_lines : (ps lines : List (List ℕ)) (last : List ℕ) → lines_in ps ≡ lines ++ last ∷ []
    → (ended : Bool) × (join_with_byte 10 ps ≡ flat_map as_line lines ++ (last ++ last_feed ended))
joined_lines [] [] last h = cc
joined_lines [] (line ∷ lines) last h = cc
joined_lines ([] ∷ []) [] last h = cc
joined_lines ([] ∷ []) (line ∷ lines) last h = cc
joined_lines ((byte ∷ piece) ∷ []) [] last h = let same : byte ∷ piece ≡ last = cc in (false, same ∙ sym (append-nil last))
joined_lines ((byte ∷ piece) ∷ []) (line ∷ []) last h = cc
joined_lines ((byte ∷ piece) ∷ []) (line ∷ next ∷ lines) last h = cc
joined_lines (piece ∷ next ∷ more) [] last h =
    let same : piece ≡ last = cc in
    let empty : lines_in (next ∷ more) ≡ [] = cc in
    let none = no_lines next more empty in
    let rest : join_with_byte 10 (next ∷ more) ≡ [] = ap (λ more. join_with_byte 10 (next ∷ more)) none.1 ∙ none.0 in
    (true, ap (λ rest. piece ++ 10 ∷ rest) rest ∙ ap (λ piece. piece ++ 10 ∷ []) same)
joined_lines (piece ∷ next ∷ more) (line ∷ lines) last h =
    let same : piece ≡ line = cc in
    let rest : lines_in (next ∷ more) ≡ lines ++ last ∷ [] = cc in
    let later = joined_lines (next ∷ more) lines last rest in (
      later.0,
      ap (λ piece. piece ++ 10 ∷ join_with_byte 10 (next ∷ more)) same ∙ ap (λ text. line ++ 10 ∷ text) later.1
          ∙ sym (ap (λ text. text ++ (last ++ last_feed later.0)) (flat_map-cons as_line line lines) ∙ append_assoc (as_line line) (flat_map as_line lines) _
          ∙ append_assoc line (10 ∷ []) _),
    )
