-- What may stand while a proof is written, and that a proof that stands whole is a right text.
use Rattle.std.proofs.Common.{inl, inr, append-nil, ◌≡◌, ℕ, ◌+◌, ◌≤◌, true, List, [], ◌∷◌, ◌++◌, map, length, Option, Some, None, refl, sym, ap, ◌∙◌, subst}
use Rattle.std.proofs.Common.{append_assoc, arith}
use Rattle.std.specs.List.{AllByRecursion}
use Rattle.std.proofs.lemmas.List.{length-append, length-map}
use Rattle.std.proofs.lemmas.Grind.{flat_map-append}
use Rattle.std.proofs.lemmas.List.Folds.{flat_map-map}
use Rattle.std.proofs.lemmas.List.Concat.{flat_map-cons}
use Rattle.game_rules.specs.Board.{Board, is_board}
use Rattle.game_rules.specs.Position.{Position, board_of, empty_position, played}
use Rattle.proof_text.specs.Lemma.{claim_side, Lemma, has_reason}
use Rattle.proof_text.specs.Right.{Shown, AreRight}
use Rattle.proof_text.specs.Spelling.{verdict_line, as_line, lines_of, is_remark, greatest_number, Fits, IsShort}
use Rattle.proof_text.specs.Texts.{Accepted, check_of, Entry, LemmaEntry, RemarkEntry, entry_text, entry_lines, lemmas_among, EntryFits, head_of, IsRightText}
use Rattle.proof_text.specs.Written.{IsAskedInTurn, IsRemarkLine, remark_line, AreSided, HasWritten, MayStand, IsProof}
use Rattle.game_rules.specs.declared.Side.{Side}
use Rattle.game_rules.specs.declared.Side.TheVariants.{White, Black}
use Rattle.plan_text.proofs.Spaced.{all_append, all_each, all_left, all_right}
use Rattle.proof_text.proofs.Append.{AreRight_append}
use Rattle.proof_text.proofs.Fitting.{right_all_fit, right_verdict_fits}
use Rattle.proof_text.proofs.Whole.{board_of_root, shown_count, named_accepted}
use Rattle.proof_text.specs.declared.Verdict.{Verdict}
use Rattle.proof_text.specs.declared.Version.{Version}

-- ---- lines as entries

abbrev remark_entries : Option (List ℕ) → List Entry
remark_entries None = []
remark_entries (Some bytes) = RemarkEntry bytes ∷ []

-- the entries of remarks and lemmas
abbrev written_entries : Option (List ℕ) → List Lemma → Option (List ℕ) → List Lemma → List Entry
written_entries white_remark white black_remark black = remark_entries white_remark
    ++ (map LemmaEntry white ++ (remark_entries black_remark ++ map LemmaEntry black))

pub lemmas_append : (entries more : List Entry) → lemmas_among (entries ++ more) ≡ lemmas_among entries ++ lemmas_among more
lemmas_append [] more = refl
lemmas_append (LemmaEntry l ∷ entries) more = ap (λ ls. l ∷ ls) (lemmas_append entries more)
lemmas_append (RemarkEntry bytes ∷ entries) more = lemmas_append entries more

pub lemmas_map : (ls : List Lemma) → lemmas_among (map LemmaEntry ls) ≡ ls
lemmas_map [] = refl
lemmas_map (l ∷ ls) = ap (λ ls. l ∷ ls) (lemmas_map ls)

lemmas_remark : (remark : Option (List ℕ)) (more : List Entry) → lemmas_among (remark_entries remark ++ more) ≡ lemmas_among more
lemmas_remark None more = refl
lemmas_remark (Some bytes) more = refl

pub entries_append : (entries more : List Entry) → entry_lines (entries ++ more) ≡ entry_lines entries ++ entry_lines more
entries_append entries more = flat_map-append (λ entry. as_line (entry_text entry)) entries more

pub entries_map : (ls : List Lemma) → entry_lines (map LemmaEntry ls) ≡ lines_of ls
entries_map ls = flat_map-map (λ entry. as_line (entry_text entry)) LemmaEntry ls

entries_remark : (remark : Option (List ℕ)) (more : List Entry) → entry_lines (remark_entries remark ++ more) ≡ remark_line remark ++ entry_lines more
entries_remark None more = refl
entries_remark (Some bytes) more = flat_map-cons (λ entry. as_line (entry_text entry)) (RemarkEntry bytes) more

-- what holds of remarks and of lemmas
all_remark : (P : Entry → Type 0) (remark : Option (List ℕ)) (more : List Entry) → ((bytes : List ℕ) → is_remark bytes ≡ true → P (RemarkEntry bytes))
    → IsRemarkLine remark → AllByRecursion P more → AllByRecursion P (remark_entries remark ++ more)
all_remark P None more each one h = h
all_remark P (Some bytes) more each one h = (each bytes one, h)

all_lemmas : (P : Entry → Type 0) (ls : List Lemma) → AllByRecursion (λ l. P (LemmaEntry l)) ls → AllByRecursion P (map LemmaEntry ls)
all_lemmas P [] h = tt
all_lemmas P (l ∷ ls) h = (h.0, all_lemmas P ls h.1)

few_remarks : (remark : Option (List ℕ)) → length (remark_entries remark) ≤ 1
few_remarks None = omega arith
few_remarks (Some bytes) = omega arith

-- ---- the entries of what is written

lemmas_of : (white_remark : Option (List ℕ)) (white : List Lemma) (black_remark : Option (List ℕ)) (black : List Lemma)
    → lemmas_among (written_entries white_remark white black_remark black) ≡ white ++ black
lemmas_of white_remark white black_remark black =
    lemmas_remark white_remark (map LemmaEntry white ++ (remark_entries black_remark ++ map LemmaEntry black))
    ∙ lemmas_append (map LemmaEntry white) (remark_entries black_remark ++ map LemmaEntry black)
    ∙ ap (λ ls. ls ++ lemmas_among (remark_entries black_remark ++ map LemmaEntry black)) (lemmas_map white)
    ∙ ap (λ ls. white ++ ls) (lemmas_remark black_remark (map LemmaEntry black) ∙ lemmas_map black)

-- their lines, and what follows them
text_of : (white_remark : Option (List ℕ)) (white : List Lemma) (black_remark : Option (List ℕ)) (black : List Lemma) (last : List ℕ)
    → entry_lines (written_entries white_remark white black_remark black) ++ last ≡ remark_line white_remark
    ++ (lines_of white ++ (remark_line black_remark ++ (lines_of black ++ last)))
text_of white_remark white black_remark black last =
    ap (λ text. text ++ last) (entries_remark white_remark (map LemmaEntry white ++ (remark_entries black_remark ++ map LemmaEntry black))
    ∙ ap (λ text. remark_line white_remark ++ text) (entries_append (map LemmaEntry white) (remark_entries black_remark ++ map LemmaEntry black)
    ∙ ap (λ text. text ++ entry_lines (remark_entries black_remark ++ map LemmaEntry black)) (entries_map white)
    ∙ ap (λ text. lines_of white ++ text) (entries_remark black_remark (map LemmaEntry black)
    ∙ ap (λ text. remark_line black_remark ++ text) (entries_map black))))
    ∙ append_assoc (remark_line white_remark) (lines_of white ++ (remark_line black_remark ++ lines_of black)) last
    ∙ ap (λ text. remark_line white_remark ++ text) (append_assoc (lines_of white) (remark_line black_remark ++ lines_of black) last
    ∙ ap (λ text. lines_of white ++ text) (append_assoc (remark_line black_remark) (lines_of black) last))

size_of : (white_remark : Option (List ℕ)) (white : List Lemma) (black_remark : Option (List ℕ)) (black : List Lemma)
    → length (written_entries white_remark white black_remark black) ≤ length white + length black + 2
size_of white_remark white black_remark black =
    omega (
      arith,
      length-append (remark_entries white_remark) (map LemmaEntry white ++ (remark_entries black_remark ++ map LemmaEntry black)),
      length-append (map LemmaEntry white) (remark_entries black_remark ++ map LemmaEntry black),
      length-append (remark_entries black_remark) (map LemmaEntry black),
      length-map white LemmaEntry,
      length-map black LemmaEntry,
      few_remarks white_remark,
      few_remarks black_remark,
    )

-- what holds of each remark and each lemma holds of each entry
each_entry : (P : Entry → Type 0) (white_remark : Option (List ℕ)) (white : List Lemma) (black_remark : Option (List ℕ)) (black : List Lemma)
    → ((bytes : List ℕ) → is_remark bytes ≡ true → P (RemarkEntry bytes)) → IsRemarkLine white_remark → IsRemarkLine black_remark
    → AllByRecursion (λ l. P (LemmaEntry l)) (white ++ black) → AllByRecursion P (written_entries white_remark white black_remark black)
each_entry P white_remark white black_remark black each one two ls =
    all_remark P white_remark (map LemmaEntry white ++ (remark_entries black_remark ++ map LemmaEntry black)) each one
    (all_append P (map LemmaEntry white) (remark_entries black_remark ++ map LemmaEntry black)
    (all_lemmas P white (all_left (λ l. P (LemmaEntry l)) white black ls))
    (all_remark P black_remark (map LemmaEntry black) each two (all_lemmas P black (all_right (λ l. P (LemmaEntry l)) white black ls))))

-- two properties of each element are one
all_both : {X : Type 0} (P Q : X → Type 0) (xs : List X) → AllByRecursion P xs → AllByRecursion Q xs → AllByRecursion (λ x. P x × Q x) xs
all_both P Q [] h g = tt
all_both P Q (x ∷ xs) h g = ((h.0, g.0), all_both P Q xs h.1 g.1)

module _ (version : Version) where
  abbrev IsSided : Side → Lemma → Type 0
  IsSided side l = (claim_side l.claim ≡ side) × IsShort l × (has_reason version l.reason ≡ true)

  all_short : (side : Side) (ls : List Lemma) → AreSided version side ls → AllByRecursion IsShort ls
  all_short side ls sided = all_each (IsSided side) IsShort ls (λ l one. one.1) sided

  all_had : (side : Side) (ls : List Lemma) → AreSided version side ls → AllByRecursion (λ l. has_reason version l.reason ≡ true) ls
  all_had side ls sided = all_each (IsSided side) (λ l. has_reason version l.reason ≡ true) ls (λ l one. one.2) sided

  -- a verdict at the end of what is written, within the number of lemmas that have a spelling
  pub proof_right : (board : Board) (columns : List ℕ) (root : Position) (text : List ℕ) (v : Verdict)
      (proof : IsProof version root (head_of version board columns) text v)
      → is_board board ≡ true → played (empty_position board) columns ≡ Some root → length proof.after ≤ greatest_number
      → IsRightText version text v (length proof.after)
  proof_right board columns root text v proof has_board has_moves few =
      let w = proof.written in
      let right = AreRight_append root [] w.mid proof.after w.white w.black w.white_right w.black_right in
      let same : board_of root ≡ board = board_of_root board columns root has_moves in
      let root_board : is_board (board_of root) ≡ true = ap is_board same ∙ has_board in
      let count : length proof.after ≡ length (w.white ++ w.black) = shown_count root (w.white ++ w.black) proof.after right in
      let both : length (w.white ++ w.black) ≡ length w.white + length w.black = length-append w.white w.black in
      let ls = w.white ++ w.black in
      let short : AllByRecursion IsShort ls = all_append IsShort w.white w.black (all_short White w.white w.white_sided) (all_short Black w.black w.black_sided)
      in
      let fits : AllByRecursion (Fits board) ls = subst (λ board. AllByRecursion (Fits board) ls) same
      (right_all_fit root [] ls proof.after root_board (omega arith) short right) in
      let had : AllByRecursion (λ l. has_reason version l.reason ≡ true) ls = all_append (λ l. has_reason version l.reason ≡ true) w.white w.black
      (all_had White w.white w.white_sided) (all_had Black w.black w.black_sided) in
      let among : lemmas_among (written_entries w.white_remark w.white w.black_remark w.black) ≡ ls = lemmas_of w.white_remark w.white w.black_remark w.black in
      let sizes : length (written_entries w.white_remark w.white w.black_remark w.black) ≤ length w.white + length w.black + 2 =
      size_of w.white_remark w.white w.black_remark w.black in
      record {
        board = board;
        columns = columns;
        root = root;
        entries = written_entries w.white_remark w.white w.black_remark w.black;
        after = proof.after;
        ended = true;
        has_board = has_board;
        has_moves = has_moves;
        fit = each_entry (EntryFits version board) w.white_remark w.white w.black_remark w.black (λ bytes one. one) w.white_remarked w.black_remarked
            (all_both (λ l. has_reason version l.reason ≡ true) (Fits board) ls had fits);
        right = subst (λ ls. AreRight root [] ls proof.after) (sym among) right;
        verdict_fits = right_verdict_fits root proof.after v few proof.verdict;
        verdict_right = proof.verdict;
        counted = count ∙ ap length (sym among);
        few = omega arith;
        spelled = w.spelled ∙ ap (λ rest. head_of version board columns ++ rest) (sym (text_of w.white_remark w.white w.black_remark w.black (verdict_line v)));
      }

  -- so it is accepted, with its verdict and all its lemmas
  pub proof_accepted : (board : Board) (columns : List ℕ) (root : Position) (text : List ℕ) (v : Verdict)
      (proof : IsProof version root (head_of version board columns) text v)
      → is_board board ≡ true → played (empty_position board) columns ≡ Some root → length proof.after ≤ greatest_number
      → check_of text ≡ Accepted v (length proof.after)
  proof_accepted board columns root text v proof has_board has_moves few =
      named_accepted version text v (length proof.after) (proof_right board columns root text v proof has_board has_moves few)

  -- ---- texts that are being written

  module _ (root : Position) (head text : List ℕ) (remark : Option (List ℕ)) (white : List Lemma) (mid : List Shown) (also : Option (List ℕ))
      (black : List Lemma)
      (after : List Shown) where
    -- both questions' remarks and lemmas, and what follows them
    abbrev pub both_written : (last : List ℕ) → AreRight root [] white mid → AreRight root mid black after → AreSided version White white
        → AreSided version Black black
        → IsAskedInTurn root mid black
        → IsRemarkLine remark → IsRemarkLine also → text ≡ head ++ (remark_line remark ++ (lines_of white ++ (remark_line also ++ (lines_of black ++ last))))
        → HasWritten version root head text after last
    both_written last first second white_sided black_sided asked remarked also_remarked spelled = record {
      white_remark = remark;
      white = white;
      black_remark = also;
      black = black;
      mid = mid;
      white_right = first;
      black_right = second;
      asked = asked;
      white_sided = white_sided;
      black_sided = black_sided;
      white_remarked = remarked;
      black_remarked = also_remarked;
      spelled = spelled;
    }

    -- nothing follows them yet
    abbrev pub lemmas_stand : AreRight root [] white mid → AreRight root mid black after → AreSided version White white → AreSided version Black black
        → IsAskedInTurn root mid black
        → IsRemarkLine remark → IsRemarkLine also → text ≡ head ++ (remark_line remark ++ (lines_of white ++ (remark_line also ++ lines_of black)))
        → MayStand version root head text
    lemmas_stand first second white_sided black_sided asked remarked also_remarked spelled = record {
      after = after;
      last = [];
      written = both_written [] first second white_sided black_sided asked remarked also_remarked
          (spelled ∙ ap (λ lines. head ++ (remark_line remark ++ (lines_of white ++ (remark_line also ++ lines)))) (sym (append-nil (lines_of black))));
      ends = inl refl;
    }

  -- the head alone
  abbrev pub head_stands : (root : Position) (head : List ℕ) → MayStand version root head head
  head_stands root head = lemmas_stand root head head None [] [] None [] [] refl refl tt tt (λ some. absurd (some refl)) tt tt (sym (append-nil head))

  -- a whole proof may stand
  abbrev pub proof_stands : (root : Position) (head text : List ℕ) (v : Verdict) → IsProof version root head text v → MayStand version root head text
  proof_stands root head text v proof = record { after = proof.after; last = verdict_line v; written = proof.written; ends = inr (v, proof.verdict, refl) }
