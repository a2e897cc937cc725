-- The first line that fails, line by line, and texts without a head or a game.
use Rattle.std.proofs.Common.{Result, ◌≡◌, ◌⊎◌, ℕ, zero, suc, ◌+◌, ◌<◌, ◌≤◌, Bool, true, false, nat_le, cond, List, [], ◌∷◌, ◌++◌, length, take, drop, Option}
use Rattle.std.proofs.Common.{Some, None, Ok, Err, refl, sym, ap, ◌∙◌, append_assoc, append-nil, inl, inr, arith}
use Rattle.std.specs.List.{range_with_len}
use Rattle.std.specs.Str.{bytes_eq}
use Rattle.std.proofs.lemmas.List.{length-append, length-take-le, take-append-drop, take_all}
use Rattle.std.proofs.lemmas.Slice.Eq.{bytes_eq-Decides}
use Rattle.std.proofs.lemmas.Bool.{cases_lt, cases_eq, lt-leb, false_from_ne_true}
use Rattle.game_rules.specs.Board.{below}
use Rattle.game_rules.specs.Position.{Position, board_of}
use Rattle.game_rules.specs.Text.{game_at}
use Rattle.game_rules.proofs.Prefix.{same_prefix}
use Rattle.game_rules.specs.declared.InputFault.{InputFault}
use Rattle.proof_text.specs.Checked.{Why, unless, or_then, CheckerState}
use Rattle.proof_text.specs.Spelling.{as_line}
use Rattle.proof_text.specs.Reading.{read_line}
use Rattle.proof_text.specs.Texts.{pieces, lines_in, longest_line, most_lines, game_prefix, first_number, game_of, whole_game_of, behind_game, said_refusal}
use Rattle.proof_text.specs.Texts.{bytes_refusal, refusal_at, first_or, first_some, state_after, NoGame, Refused, verdict_answer, lines_answer, line_answer}
use Rattle.proof_text.specs.Texts.{with_bytes, check_from, start, answer_of, game_answer, first_line, pieces_answer, check_in, named_by, version_of, check_of}
use Rattle.proof_text.proofs.Pieces.{IsFeedless, pieces_some, lines_line, lines_last}
use Rattle.proof_text.proofs.Fold.{answer_by_lines}
use Rattle.proof_text.proofs.Fitting.{long_unread}
use Rattle.std.proofs.lemmas.Option.{some_pair_parts}
use Rattle.game_rules.proofs.Lists.{chosen}
use Rattle.proof_text.specs.declared.Verdict.{Verdict}
use Rattle.proof_text.specs.declared.Version.{Version}
use Rattle.proof_text.specs.declared.Version.TheVariants.{One, Two}
use Rattle.proof_text.specs.declared.Why.TheVariants.{BadLine, EndedEarly}

-- ---- the first place

module _ {X : Type 0} (f : ℕ → Option X) where
  first_at : (n a k : ℕ) (x : X) → a ≤ k → k < a + n → f k ≡ Some x → ((i : ℕ) → a ≤ i → i < k → f i ≡ None) → first_some f (range_with_len a n) ≡ Some (k, x)
  first_at zero a k x low high here before = absurd (omega arith)
  first_at (suc n) a k x low high here before = elim (cases_eq a k) [
    | inl same ↦ ap (λ found. first_or found a (first_some f (range_with_len (a + 1) n))) (ap f same ∙ here) ∙ ap (λ a. Some (a, x)) same
    | inr later ↦ ap (λ found. first_or found a (first_some f (range_with_len (a + 1) n))) (before a (omega arith) (omega arith))
        ∙ first_at n (a + 1) k x (omega arith) (omega arith) here (λ i low high. before i (omega arith) high)
  ]

  first_none : (n a : ℕ) → ((i : ℕ) → a ≤ i → i < a + n → f i ≡ None) → first_some f (range_with_len a n) ≡ None
  first_none zero a each = refl
  first_none (suc n) a each =
      ap (λ found. first_or found a (first_some f (range_with_len (a + 1) n))) (each a (omega arith) (omega arith))
      ∙ first_none n (a + 1) (λ i low high. each i (omega arith) (omega arith))

  first_given : (n a k : ℕ) (x : X) → first_some f (range_with_len a n) ≡ Some (k, x) → (a ≤ k) × (k < a + n) × (f k ≡ Some x)
      × ((i : ℕ) → a ≤ i → i < k → f i ≡ None)
  first_given zero a k x h = cc
  first_given (suc n) a k x h = of_first (f a) refl h (λ later. first_given n (a + 1) k x later)
    where
      of_first : (found : Option X) → f a ≡ found → first_or found a (first_some f (range_with_len (a + 1) n)) ≡ Some (k, x)
          → (first_some f (range_with_len (a + 1) n) ≡ Some (k, x) → (a + 1 ≤ k) × (k < a + 1 + n) × (f k ≡ Some x)
          × ((i : ℕ) → a + 1 ≤ i → i < k → f i ≡ None))
          → (a ≤ k) × (k < a + suc n) × (f k ≡ Some x) × ((i : ℕ) → a ≤ i → i < k → f i ≡ None)
      of_first (Some y) e h later =
          let parts = some_pair_parts a k y x h in
          (omega (arith, parts.0), omega (arith, parts.0), sym (ap f parts.0) ∙ e ∙ ap Some parts.1, λ i low high. absurd (omega (arith, parts.0)))
      of_first None e h later =
          let rest = later h in (
            omega (arith, rest.0),
            omega (arith, rest.1),
            rest.2,
            λ i low high. elim (cases_eq i a) [
              | inl same ↦ ap f same ∙ e
              | inr past ↦ rest.3 i (omega arith) high
            ],
          )

  none_given : (n a : ℕ) → first_some f (range_with_len a n) ≡ None → (i : ℕ) → a ≤ i → i < a + n → f i ≡ None
  none_given zero a h i low high = absurd (omega arith)
  none_given (suc n) a h i low high = of_first (f a) refl h (λ later i low high. none_given n (a + 1) later i low high)
    where
      of_first : (found : Option X) → f a ≡ found → first_or found a (first_some f (range_with_len (a + 1) n)) ≡ None
          → (first_some f (range_with_len (a + 1) n) ≡ None → (i : ℕ) → a + 1 ≤ i → i < a + 1 + n → f i ≡ None) → f i ≡ None
      of_first (Some y) e h later = cc
      of_first None e h later = elim (cases_eq i a) [
        | inl same ↦ ap f same ∙ e
        | inr past ↦ later h i (omega arith) (omega arith)
      ]

-- ---- long lines of a game

-- where the first line is long, its prefix decides
pub long_board : (board : List ℕ) (more : List (List ℕ)) → game_prefix ≤ length board → game_at (game_of (board ∷ more)) ≡ game_at (take game_prefix board)
long_board board [] h = refl
long_board board (moves ∷ []) h = same_prefix (take game_prefix board) (10 ∷ take game_prefix moves) (omega (arith, length-take-le game_prefix board h))
long_board board (moves ∷ next ∷ more) h = same_prefix (take game_prefix board) (10 ∷ as_line (take game_prefix moves))
    (omega (arith, length-take-le game_prefix board h))

-- and where the second is, the first and its prefix
pub long_moves : (board moves : List ℕ) (more : List (List ℕ)) → game_prefix ≤ length moves
    → game_at (game_of (board ∷ moves ∷ more)) ≡ game_at (take game_prefix board ++ 10 ∷ take game_prefix moves)
long_moves board moves [] h = refl
long_moves board moves (next ∷ more) h =
    ap game_at (sym (append_assoc (take game_prefix board) (10 ∷ take game_prefix moves) (10 ∷ [])))
    ∙ same_prefix (take game_prefix board ++ 10 ∷ take game_prefix moves) (10 ∷ [])
    (omega (arith, length-append (take game_prefix board) (10 ∷ take game_prefix moves), length-take-le game_prefix moves h))

-- a text whose prefix is long enough is read as its prefix
prefix_decides : (line rest also : List ℕ) → game_prefix ≤ length line → game_at (take game_prefix line ++ rest) ≡ game_at (line ++ also)
prefix_decides line rest also h =
    let long : 122 ≤ length (take game_prefix line) = omega (arith, length-take-le game_prefix line h) in
    same_prefix (take game_prefix line) rest long
    ∙ sym (ap (λ whole. game_at (whole ++ also)) (sym (take-append-drop game_prefix line))
    ∙ ap game_at (append_assoc (take game_prefix line) (drop game_prefix line) also)
    ∙ same_prefix (take game_prefix line) (drop game_prefix line ++ also) long)

moves_decide : (board moves rest also : List ℕ) → game_prefix ≤ length moves
    → game_at (board ++ 10 ∷ (take game_prefix moves ++ rest)) ≡ game_at (board ++ 10 ∷ (moves ++ also))
moves_decide board moves rest also h =
    let prefix = board ++ 10 ∷ take game_prefix moves in
    let long : 122 ≤ length prefix = omega (arith, length-append board (10 ∷ take game_prefix moves), length-take-le game_prefix moves h) in
    ap game_at (sym (append_assoc board (10 ∷ take game_prefix moves) rest)) ∙ same_prefix prefix rest long
    ∙ sym (ap (λ whole. game_at (board ++ 10 ∷ (whole ++ also))) (sym (take-append-drop game_prefix moves))
    ∙ ap (λ text. game_at (board ++ 10 ∷ text)) (append_assoc (take game_prefix moves) (drop game_prefix moves) also)
    ∙ ap game_at (sym (append_assoc board (10 ∷ take game_prefix moves) (drop game_prefix moves ++ also)))
    ∙ same_prefix prefix (drop game_prefix moves ++ also) long)

-- Looking at the prefixes of the two lines alone changes neither whether they are a game nor their fault.
pub prefixes_decide : (ps : List (List ℕ)) → game_at (game_of ps) ≡ game_at (whole_game_of ps)
prefixes_decide [] = refl
prefixes_decide (board ∷ []) = elim (cases_lt (length board) game_prefix) [
  | inl short ↦ ap game_at (take_all game_prefix board (omega arith))
  | inr long ↦ ap game_at (sym (append-nil (take game_prefix board))) ∙ prefix_decides board [] [] long ∙ ap game_at (append-nil board)
]
prefixes_decide (board ∷ moves ∷ []) = elim (cases_lt (length board) game_prefix) [
  | inr long ↦ prefix_decides board (10 ∷ take game_prefix moves) (10 ∷ moves) long
  | inl short ↦ ap (λ board. game_at (board ++ 10 ∷ take game_prefix moves)) (take_all game_prefix board (omega arith))
      ∙ elim (cases_lt (length moves) game_prefix) [
        | inl both ↦ ap (λ moves. game_at (board ++ 10 ∷ moves)) (take_all game_prefix moves (omega arith))
        | inr long ↦ ap (λ text. game_at (board ++ 10 ∷ text)) (sym (append-nil (take game_prefix moves))) ∙ moves_decide board moves [] [] long
            ∙ ap (λ text. game_at (board ++ 10 ∷ text)) (append-nil moves)
      ]
]
prefixes_decide (board ∷ moves ∷ next ∷ more) = elim (cases_lt (length board) game_prefix) [
  | inr long ↦ prefix_decides board (10 ∷ as_line (take game_prefix moves)) (10 ∷ as_line moves) long
  | inl short ↦ ap (λ board. game_at (board ++ 10 ∷ as_line (take game_prefix moves))) (take_all game_prefix board (omega arith))
      ∙ elim (cases_lt (length moves) game_prefix) [
        | inl both ↦ ap (λ moves. game_at (board ++ 10 ∷ as_line moves)) (take_all game_prefix moves (omega arith))
        | inr long ↦ moves_decide board moves (10 ∷ []) (10 ∷ []) long
      ]
]

module _ (version : Version) where
  -- the answer is the first line that fails
  pub first_refused : (root : Position) (lines : List (List ℕ)) (k : ℕ) (why : Why) → k < length lines → refusal_at version root lines k ≡ Some why
      → ((i : ℕ) → i < k → refusal_at version root lines i ≡ None)
      → answer_of version root lines ≡ Refused (k + first_number) why
  first_refused root lines k why within here before =
      ap (lines_answer version root lines)
      (first_at (refusal_at version root lines) (length lines) 0 k why (omega arith) (omega arith) here (λ i low high. before i high))

  -- where none does, the verdict decides
  pub none_refused : (root : Position) (lines : List (List ℕ)) → ((i : ℕ) → i < length lines → refusal_at version root lines i ≡ None)
      → answer_of version root lines
      ≡ verdict_answer (length lines + first_number) (length (state_after version root lines).known) (state_after version root lines).verdict
  none_refused root lines each = ap (lines_answer version root lines)
      (first_none (refusal_at version root lines) (length lines) 0 (λ i low high. each i (omega arith)))

  -- What is refused is the first line that fails, or the end where no line does and there is no verdict.
  pub refused_first : (root : Position) (lines : List (List ℕ)) (at : ℕ) (why : Why) → answer_of version root lines ≡ Refused at why
      → ((k : ℕ) × (k < length lines) × (at ≡ k + first_number) × (refusal_at version root lines k ≡ Some why)
      × ((i : ℕ) → i < k → refusal_at version root lines i ≡ None))
      ⊎ ((at ≡ length lines + first_number) × (why ≡ EndedEarly) × ((state_after version root lines).verdict ≡ None)
      × ((i : ℕ) → i < length lines → refusal_at version root lines i ≡ None))
  refused_first root lines at why h = of_first (first_some (refusal_at version root lines) (below (length lines))) refl h
    where
      ended : (verdict : Option Verdict) (next lemmas : ℕ) → verdict_answer next lemmas verdict ≡ Refused at why
          → (verdict ≡ None) × (at ≡ next) × (why ≡ EndedEarly)
      ended None next lemmas h = (refl, cc, cc)
      ended (Some v) next lemmas h = cc

      of_first : (found : Option (ℕ × Why)) → first_some (refusal_at version root lines) (below (length lines)) ≡ found
          → lines_answer version root lines found ≡ Refused at why
          → ((k : ℕ) × (k < length lines) × (at ≡ k + first_number) × (refusal_at version root lines k ≡ Some why)
          × ((i : ℕ) → i < k → refusal_at version root lines i ≡ None))
          ⊎ ((at ≡ length lines + first_number) × (why ≡ EndedEarly) × ((state_after version root lines).verdict ≡ None)
          × ((i : ℕ) → i < length lines → refusal_at version root lines i ≡ None))
      of_first (Some (k, found)) e h =
          let given = first_given (refusal_at version root lines) (length lines) 0 k found e in
          let place : k + first_number ≡ at = cc in
          let name : found ≡ why = cc in
          inl (k, omega (arith, given.1), sym place, given.2 ∙ ap Some name, λ i high. given.3 i (omega arith) high)
      of_first None e h =
          let end = ended (state_after version root lines).verdict (length lines + first_number) (length (state_after version root lines).known) h in
          inr (end.1, end.2, end.0, λ i high. none_given (refusal_at version root lines) (length lines) 0 e i (omega arith) (omega arith))

  -- ---- line by line

  -- what is no line is refused so
  pub unread : (s : CheckerState) (at : ℕ) (bytes : List ℕ) → read_line version (board_of s.root) bytes ≡ None → bytes_refusal version s at bytes ≡ Some BadLine
  unread s at bytes h = rw h (either (nat_le at most_lines))
    where
      either : (b : Bool) → or_then (unless b BadLine) (Some BadLine) ≡ Some BadLine
      either true = refl
      either false = refl

  -- a line that is too long or stands too far down is none
  pub out_of_bounds : (s : CheckerState) (at : ℕ) (bytes : List ℕ) → (most_lines < at) ⊎ (longest_line < length bytes)
      → bytes_refusal version s at bytes ≡ Some BadLine
  out_of_bounds s at bytes (inl late) = failed (nat_le at most_lines) (lt-leb at most_lines late)
    where
      failed : (b : Bool) → b ≡ false → or_then (unless b BadLine) (said_refusal s (read_line version (board_of s.root) bytes)) ≡ Some BadLine
      failed b e = rw e refl
  out_of_bounds s at bytes (inr long) = unread s at bytes (long_unread version (board_of s.root) bytes long)

  -- a text goes on with its first line
  pub check_line : (s : CheckerState) (at : ℕ) (line rest : List ℕ) → IsFeedless line
      → check_from version s at (lines_in (pieces (line ++ 10 ∷ rest)))
      ≡ line_answer (bytes_refusal version s at line) at (check_from version (with_bytes version s line) (at + 1) (lines_in (pieces rest)))
  check_line s at line rest h = ap (check_from version s at) (lines_line line rest h)

  -- or ends with it
  pub check_last : (s : CheckerState) (at : ℕ) (byte : ℕ) (line : List ℕ) → IsFeedless (byte ∷ line)
      → check_from version s at (lines_in (pieces (byte ∷ line)))
      ≡ line_answer (bytes_refusal version s at (byte ∷ line)) at (check_from version (with_bytes version s (byte ∷ line)) (at + 1) [])
  check_last s at byte line h = ap (check_from version s at) (lines_last byte line h)

  -- ---- the head of a text

  pub no_head : (bytes first : List ℕ) (more : List (List ℕ)) → pieces bytes ≡ first ∷ more → (first ≡ first_line version → ⊥)
      → check_in version bytes ≡ Refused 1 BadLine
  unfolding check_in
  no_head bytes first more cut other = ap (pieces_answer version) cut
      ∙ named (bytes_eq first (first_line version))
      (false_from_ne_true (bytes_eq first (first_line version)) (λ same. other ((bytes_eq-Decides first (first_line version)).0 same)))
    where
      named : (b : Bool) → b ≡ false → cond b (game_answer version (game_at (game_of more)) (behind_game more)) (Refused 1 BadLine) ≡ Refused 1 BadLine
      named b e = rw e refl

  pub with_head : (bytes : List ℕ) (more : List (List ℕ)) → pieces bytes ≡ first_line version ∷ more
      → check_in version bytes ≡ game_answer version (game_at (game_of more)) (behind_game more)
  unfolding check_in
  with_head bytes more cut = ap (pieces_answer version) cut
      ∙ ap (λ named. cond named (game_answer version (game_at (game_of more)) (behind_game more)) (Refused 1 BadLine))
      ((bytes_eq-Decides (first_line version) (first_line version)).1 refl)

  pub no_game : (bytes : List ℕ) (more : List (List ℕ)) (fault : InputFault) → pieces bytes ≡ first_line version ∷ more → game_at (game_of more) ≡ Err fault
      → check_in version bytes ≡ NoGame fault
  no_game bytes more fault cut h = with_head bytes more cut ∙ ap (λ r. game_answer version r (behind_game more)) h

  pub with_game : (bytes : List ℕ) (more : List (List ℕ)) (root : Position) → pieces bytes ≡ first_line version ∷ more → game_at (game_of more) ≡ Ok root
      → check_in version bytes ≡ check_from version (start root) first_number (behind_game more)
  with_game bytes more root cut h = with_head bytes more cut ∙ ap (λ r. game_answer version r (behind_game more)) h
      ∙ answer_by_lines version root (behind_game more)

  -- the fault of a game is the answer only where there is a head and no game
  pub only_no_game : (bytes : List ℕ) (fault : InputFault) → check_in version bytes ≡ NoGame fault → (more : List (List ℕ))
      × (pieces bytes ≡ first_line version ∷ more)
      × (game_at (game_of more) ≡ Err fault)
  unfolding check_in
  only_no_game bytes fault h = let some = pieces_some bytes in of_pieces some.0 some.1 some.2 (sym (ap (pieces_answer version) some.2) ∙ h)
    where
      not_ended : (verdict : Option Verdict) (next lemmas : ℕ) → verdict_answer next lemmas verdict ≡ NoGame fault → ⊥
      not_ended None next lemmas h = cc
      not_ended (Some v) next lemmas h = cc

      not_lines : (root : Position) (lines : List (List ℕ)) (found : Option (ℕ × Why)) → lines_answer version root lines found ≡ NoGame fault → ⊥
      not_lines root lines (Some (k, why)) h = cc
      not_lines root lines None h = not_ended (state_after version root lines).verdict (length lines + first_number)
          (length (state_after version root lines).known) h

      of_game : (r : Result Position InputFault) (lines : List (List ℕ)) → game_answer version r lines ≡ NoGame fault → r ≡ Err fault
      of_game (Err other) lines h = let same : other ≡ fault = cc in ap Err same
      of_game (Ok root) lines h = absurd (not_lines root lines (first_some (refusal_at version root lines) (below (length lines))) h)

      of_pieces : (first : List ℕ) (more : List (List ℕ)) → pieces bytes ≡ first ∷ more → pieces_answer version (first ∷ more) ≡ NoGame fault
          → (more : List (List ℕ)) × (pieces bytes ≡ first_line version ∷ more) × (game_at (game_of more) ≡ Err fault)
      of_pieces first more cut h = elim
          (chosen (bytes_eq first (first_line version)) (game_answer version (game_at (game_of more)) (behind_game more)) (Refused 1 BadLine)
          (NoGame fault) h) [
            | inr other ↦ absurd (cc other.1)
            | inl named ↦ (
              more,
              cut ∙ ap (λ first. first ∷ more) ((bytes_eq-Decides first (first_line version)).0 named.0),
              of_game (game_at (game_of more)) (behind_game more)
                  named.1,
            )
          ]

-- ---- the version that a text names

-- the answer to a text is that of the version that it names
pub by_version : (bytes : List ℕ) → check_of bytes ≡ check_in (version_of bytes) bytes
unfolding check_of
by_version bytes = refl

pub answer_named : (version : Version) (bytes : List ℕ) (more : List (List ℕ)) → pieces bytes ≡ first_line version ∷ more
    → check_of bytes ≡ check_in version bytes
answer_named version bytes more cut = by_version bytes ∙ ap (λ named. check_in named bytes) (ap named_by cut ∙ names version)
  where
    names : (version : Version) → named_by (first_line version ∷ more) ≡ version
    names One = refl
    names Two = refl

-- one that names none is refused
pub unnamed : (bytes first : List ℕ) (more : List (List ℕ)) → pieces bytes ≡ first ∷ more → (first ≡ first_line One → ⊥) → (first ≡ first_line Two → ⊥)
    → check_of bytes ≡ Refused 1 BadLine
unnamed bytes first more cut one two = by_version bytes ∙ no_head (version_of bytes) bytes first more cut (other (version_of bytes))
  where
    other : (version : Version) → first ≡ first_line version → ⊥
    other One = one
    other Two = two
