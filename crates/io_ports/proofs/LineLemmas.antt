-- Where a line ends, and what a reader gives of the bytes that it holds.
use Rattle.std.proofs.Common.{◌≡◌, ◌≢◌, ℕ, ◌+◌, ◌-◌, ◌<◌, ◌≤◌, min, Bool, true, false, cond, not, eqb, ltb, List, [], ◌∷◌, ◌++◌, length, take, drop, get_or}
use Rattle.std.proofs.Common.{All, Option, Some, None, refl, sym, ap, ◌∙◌, subst, inl, inr, arith, append_assoc}
use Rattle.std.proofs.lemmas.List.{append-nil, take_all, take-append-le, drop-append-le, take-append-drop, drop_more, drop_all, length-take-le, length-append}
use Rattle.std.proofs.lemmas.List.{length-drop, get_or-take, take_rest}
use Rattle.std.proofs.lemmas.List.Folds.{prefix_len-append}
use Rattle.std.proofs.lemmas.List.Sums.{prefix_len-le-length, fails_before_first, passes_at_first}
use Rattle.std.proofs.lemmas.Bool.{eqb-true, eq-eqb, lt-ltb, le-ltb, ltb-false, cases_lt}
use Rattle.std.specs.Io.KnownBytes.{IsAtEnd}
use Rattle.bstr.specs.Find.{IsFirstByte, is_byte}
use Rattle.io_ports.proofs.FirstByte.{first_none, first_found}
use Rattle.io_ports.specs.Lines.{longest_line, Cut, line_len, next_line, IsCut, EachTextIsCut, Gives, Takes, Moves, IsUndecided, IsWithinRead, is_end}
use Rattle.io_ports.specs.declared.line_reader.LineGot.TheVariants.{Line, Long, Done, Failed}

fails : (b : Bool) → (b ≡ true → ⊥) → b ≡ false
fails true never = absurd (never refl)
fails false never = refl

pub line_len-le : (xs : List ℕ) → line_len xs ≤ length xs
line_len-le xs = prefix_len-le-length (λ b. not (eqb b 10)) xs

-- the prefix has none, so the line ends in what follows
pub line_len-append_none : (xs ys : List ℕ) → line_len xs ≡ length xs → line_len (xs ++ ys) ≡ length xs + line_len ys
line_len-append_none xs ys none =
    prefix_len-append (λ b. not (eqb b 10)) xs ys
    ∙ ap (λ t. cond t (length xs + line_len ys) (line_len xs)) (eq-eqb (line_len xs) (length xs) none)

-- the prefix has one
pub line_len-append_found : (xs ys : List ℕ) → line_len xs < length xs → line_len (xs ++ ys) ≡ line_len xs
line_len-append_found xs ys found =
    let other : eqb (line_len xs) (length xs) ≡ false = fails _ (λ same. absurd (omega (arith, eqb-true (line_len xs) (length xs) same))) in
    prefix_len-append (λ b. not (eqb b 10)) xs ys ∙ ap (λ t. cond t (length xs + line_len ys) (line_len xs)) other

-- no byte of a line is a line feed
pub no_feed : (xs : List ℕ) (n : ℕ) → n ≤ line_len xs → All (λ b. b ≢ 10) (take n xs)
no_feed xs n within k d below same =
    let total = length-take-le n xs (omega (arith, line_len-le xs)) in
    let here : k < n = omega arith in
    let at : get_or (take n xs) k d ≡ get_or xs k d = get_or-take n xs k d here in
    let other : eqb (get_or xs k d) 10 ≡ false = fails_before_first (λ b. eqb b 10) xs k d (omega arith) in
    cc (other, eq-eqb (get_or xs k d) 10 (sym at ∙ same))

-- what `next_line` is in each case
next_line-long : (bytes : List ℕ) → longest_line < line_len bytes
    → next_line bytes ≡ record { got = Long; text = take longest_line bytes; fed = false; rest = bytes }
next_line-long [] long = absurd (omega arith)
next_line-long (b ∷ bs) long = rw (lt-ltb longest_line (line_len (b ∷ bs)) long) refl

next_line-fed : (bytes : List ℕ) → line_len bytes ≤ longest_line → line_len bytes < length bytes
    → next_line bytes ≡ record { got = Line; text = take (line_len bytes) bytes; fed = true; rest = drop (line_len bytes + 1) bytes }
next_line-fed [] short found = absurd (omega arith)
next_line-fed (b ∷ bs) short found =
    rw (le-ltb longest_line (line_len (b ∷ bs)) short) (rw (lt-ltb (line_len (b ∷ bs)) (length (b ∷ bs)) found) refl)

-- n is the length of the line
next_line-fed_at : (bytes : List ℕ) (n : ℕ) → n ≡ line_len bytes → n ≤ longest_line → n < length bytes
    → next_line bytes ≡ record { got = Line; text = take n bytes; fed = true; rest = drop (n + 1) bytes }
next_line-fed_at bytes n is short found =
    next_line-fed bytes (omega (arith, is)) (omega (arith, is))
    ∙ ap (λ m. record { got = Line; text = take m bytes; fed = true; rest = drop (m + 1) bytes }) (sym is)

next_line-unfed : (bytes : List ℕ) → line_len bytes ≤ longest_line → line_len bytes ≡ length bytes → 0 < length bytes
    → next_line bytes ≡ record { got = Line; text = bytes; fed = false; rest = [] }
next_line-unfed [] short all some = absurd (omega arith)
next_line-unfed (b ∷ bs) short all some =
    rw (le-ltb longest_line (line_len (b ∷ bs)) short) (rw (le-ltb (line_len (b ∷ bs)) (length (b ∷ bs)) (omega (arith, all))) refl)

-- the same of what the words say
long_is_cut : (bytes : List ℕ) → longest_line < line_len bytes → IsCut bytes Long (take longest_line bytes) false bytes
long_is_cut bytes long = record {
  stays = refl;
  prefix = refl;
  long = omega (arith, line_len-le bytes);
  no_feed = no_feed bytes (longest_line + 1) (omega arith);
}

-- what stands at the end of a line that a line feed ends
feed_there : (bytes : List ℕ) → line_len bytes < length bytes → bytes ≡ (take (line_len bytes) bytes ++ 10 ∷ []) ++ drop (line_len bytes + 1) bytes
feed_there bytes found =
    let n = line_len bytes in
    let is_feed : get_or bytes n 0 ≡ 10 = eqb-true (get_or bytes n 0) 10 (passes_at_first (λ b. eqb b 10) bytes 0 found) in
    let rest : drop n bytes ≡ 10 ∷ drop (n + 1) bytes = drop_more bytes n 0 found ∙ ap (λ b. b ∷ drop (n + 1) bytes) is_feed in
    sym (take-append-drop n bytes) ∙ ap (λ l. take n bytes ++ l) rest ∙ sym (append_assoc (take n bytes) (10 ∷ []) (drop (n + 1) bytes))

fed_is_cut : (bytes : List ℕ) → line_len bytes ≤ longest_line → line_len bytes < length bytes
    → IsCut bytes Line (take (line_len bytes) bytes) true (drop (line_len bytes + 1) bytes)
fed_is_cut bytes short found = record {
  whole = feed_there bytes found;
  last = λ never. cc;
  no_feed = no_feed bytes (line_len bytes) (omega arith);
  short = omega (arith, length-take-le (line_len bytes) bytes (line_len-le bytes));
}

unfed_is_cut : (bytes : List ℕ) → line_len bytes ≤ longest_line → line_len bytes ≡ length bytes → 0 < length bytes → IsCut bytes Line bytes false []
unfed_is_cut bytes short all some =
    let whole : take (line_len bytes) bytes ≡ bytes = take_all (line_len bytes) bytes (omega (arith, all)) in
    let P : List ℕ → Type 0 = λ l. All (λ b. b ≢ 10) l in
    record {
      whole = sym (append-nil (bytes ++ []) ∙ append-nil bytes);
      last = λ _. (λ none. absurd (omega (arith, ap length none)), refl);
      no_feed = subst P whole (no_feed bytes (line_len bytes) (omega arith));
      short = omega (arith, all);
    }

abbrev IsCutBy : List ℕ → Cut → Type 0
IsCutBy bytes cut = IsCut bytes cut.got cut.text cut.fed cut.rest

pub each_text_is_cut : EachTextIsCut
each_text_is_cut [] = (refl, refl, refl)
each_text_is_cut (b ∷ bs) =
    let bytes = b ∷ bs in
    elim (cases_lt longest_line (line_len bytes)) [
      | inl long ↦ subst (IsCutBy bytes) (sym (next_line-long bytes long)) (long_is_cut bytes long)
      | inr short ↦
          elim (cases_lt (line_len bytes) (length bytes)) [
            | inl found ↦ subst (IsCutBy bytes) (sym (next_line-fed bytes short found)) (fed_is_cut bytes short found)
            | inr all ↦
                let whole : line_len bytes ≡ length bytes = omega (arith, line_len-le bytes) in
                subst (IsCutBy bytes) (sym (next_line-unfed bytes short whole (omega arith))) (unfed_is_cut bytes short whole (omega arith))
          ]
    ]

-- ---- what a reader gives, where it holds the prefix of the bytes that are not given

line_len-prefix : (xs ys : List ℕ) → line_len xs ≤ line_len (xs ++ ys)
line_len-prefix xs ys =
    elim (cases_lt (line_len xs) (length xs)) [
      | inl found ↦ omega (arith, line_len-append_found xs ys found)
      | inr all ↦
          let whole : line_len xs ≡ length xs = omega (arith, line_len-le xs) in
          omega (arith, line_len-append_none xs ys whole)
    ]

-- the bytes are those that are held, and then those that come later

Gives-long : (bytes held later : List ℕ) → held ++ later ≡ bytes → longest_line < line_len held
    → Gives bytes (held ++ later) Long (take longest_line held) false
Gives-long bytes held later whole long =
    let P : List ℕ → Type 0 = λ l. record { got = Long; text = take longest_line held; fed = false; rest = held ++ later } ≡ next_line l in
    let prefix : take longest_line (held ++ later) ≡ take longest_line held = take-append-le longest_line held later (omega (arith, line_len-le held)) in
    subst P whole
    (ap (λ t. record { got = Long; text = t; fed = false; rest = held ++ later }) (sym prefix)
    ∙ sym (next_line-long (held ++ later) (omega (arith, line_len-prefix held later))))

Gives-fed : (bytes held later : List ℕ) (n : ℕ) → held ++ later ≡ bytes → n ≡ line_len held → n ≤ longest_line → n < length held
    → Gives bytes (drop (n + 1) held ++ later) Line (take n held) true
Gives-fed bytes held later n whole is short found =
    let all = held ++ later in
    let P : List ℕ → Type 0 = λ l. record { got = Line; text = take n held; fed = true; rest = drop (n + 1) held ++ later } ≡ next_line l in
    let prefix : take n all ≡ take n held = take-append-le n held later (omega arith) in
    let after : drop (n + 1) all ≡ drop (n + 1) held ++ later = drop-append-le (n + 1) held later (omega arith) in
    let ends : n ≡ line_len all = is ∙ sym (line_len-append_found held later (omega (arith, is))) in
    subst P whole
    (ap (λ t. record { got = Line; text = t; fed = true; rest = drop (n + 1) held ++ later }) (sym prefix)
    ∙ ap (λ r. record { got = Line; text = take n all; fed = true; rest = r }) (sym after)
    ∙ sym (next_line-fed_at all n ends short (omega (arith, length-append held later))))

Gives-unfed : (bytes held later : List ℕ) (n : ℕ) → held ++ later ≡ bytes → n ≡ line_len held → n ≤ longest_line → n ≡ length held → 0 < length held
    → later ≡ []
    → Gives bytes (drop n held ++ later) Line (take n held) false
Gives-unfed bytes held later n whole is short all some none =
    let P : List ℕ → Type 0 = λ l. record { got = Line; text = take n held; fed = false; rest = drop n held ++ later } ≡ next_line l in
    let prefix : take n held ≡ held = take_all n held (omega (arith, all)) in
    let after : drop n held ++ later ≡ [] = ap (λ l. l ++ later) (drop_all n held (omega (arith, all))) ∙ none in
    let same : held ≡ bytes = sym (append-nil held) ∙ ap (λ l. held ++ l) (sym none) ∙ whole in
    subst P same
    (ap (λ t. record { got = Line; text = t; fed = false; rest = drop n held ++ later }) prefix
    ∙ ap (λ r. record { got = Line; text = held; fed = false; rest = r }) after
    ∙ sym (next_line-unfed held (omega (arith, is)) (sym is ∙ all) some))

-- a line, which a line feed ended where it is not all that is held
Gives-line : (bytes held later : List ℕ) (n m : ℕ) (fed : Bool) → held ++ later ≡ bytes → n ≡ line_len held → n ≤ longest_line → 0 < length held
    → (not fed ≡ true → later ≡ []) → fed ≡ ltb n (length held) → m ≡ min (length held) (n + 1)
    → Gives bytes (drop m held ++ later) Line (take n held) fed
Gives-line bytes held later n m fed whole is short some none fed_is m_is =
    let G : ℕ → Bool → Type 0 = λ k f. Gives bytes (drop k held ++ later) Line (take n held) f in
    elim (cases_lt n (length held)) [
      | inl found ↦
          let taken : n + 1 ≡ m = omega (arith, m_is) in
          let ended : true ≡ fed = sym (fed_is ∙ lt-ltb n (length held) found) in
          subst (λ k. G k fed) taken (subst (G (n + 1)) ended (Gives-fed bytes held later n whole is short found))
      | inr past ↦
          let all : n ≡ length held = omega (arith, is, line_len-le held) in
          let taken : n ≡ m = omega (arith, m_is) in
          let open_end : fed ≡ false = fed_is ∙ le-ltb n (length held) past in
          subst (λ k. G k fed) taken (subst (G n) (sym open_end) (Gives-unfed bytes held later n whole is short all some (none (ap not open_end))))
    ]

-- ---- what a call takes, where what was held before it and what it took are what is held

module _ (old new : Option (List ℕ)) (before held : List ℕ) (moves : Moves old new before held) where
  joined_later : (later : List ℕ) → held ++ later ≡ before ++ (moves.taken ++ later)
  joined_later later = ap (λ l. l ++ later) moves.grown ∙ append_assoc before moves.taken later

  pub Takes-long : longest_line < line_len held
      → Takes (is_end Long false) old new (λ bytes rest. Gives (before ++ bytes) (held ++ rest) Long (take longest_line held) false)
  Takes-long long = record {
    taken = moves.taken;
    gave = moves.gave;
    last = λ never. cc;
    fact = λ later none. Gives-long _ held later (joined_later later) long;
  }

  pub Takes-line : (n m : ℕ) (fed : Bool) → n ≡ line_len held → n ≤ longest_line → 0 < length held → (n ≡ length held → n ≤ longest_line → IsAtEnd new)
      → fed ≡ ltb n (length held) → m ≡ min (length held) (n + 1)
      → Takes (is_end Line fed) old new (λ bytes rest. Gives (before ++ bytes) (drop m held ++ rest) Line (take n held) fed)
  Takes-line n m fed is short some whole fed_is m_is = record {
    taken = moves.taken;
    gave = moves.gave;
    last = λ ended.
        let here : ltb n (length held) ≡ false = sym fed_is ∙ unfed fed ended in
        whole (omega (arith, is, line_len-le held, ltb-false n (length held) here)) short;
    fact = λ later none. Gives-line _ held later n m fed (joined_later later) is short some none fed_is m_is;
  }
    where
      unfed : (b : Bool) → not b ≡ true → b ≡ false
      unfed true h = sym h
      unfed false h = refl

  pub Takes-done : (n : ℕ) → held ≡ [] → n ≡ line_len held → (n ≡ length held → n ≤ longest_line → IsAtEnd new)
      → Takes (is_end Done false) old new (λ bytes rest. Gives (before ++ bytes) (held ++ rest) Done [] false)
  Takes-done n none is whole = record {
    taken = moves.taken;
    gave = moves.gave;
    last = λ ended. whole (is ∙ ap (λ l. line_len l) none ∙ sym (ap length none)) (omega (arith, is ∙ ap (λ l. line_len l) none));
    fact = λ later end.
        let empty : held ++ later ≡ [] = ap (λ l. l ++ later) none ∙ end refl in
        ap (λ r. record { got = Done; text = []; fed = false; rest = r }) empty ∙ ap next_line (sym empty ∙ joined_later later);
  }

  pub Takes-failed : Takes (is_end Failed false) old new (λ bytes rest. Gives (before ++ bytes) (held ++ rest) Failed [] false)
  Takes-failed = record { taken = moves.taken; gave = moves.gave; last = λ never. cc; fact = λ later none. joined_later later }

-- ---- how much is held

-- bytes of which no whole line stood there were taken behind what was held
pub within_filled : (a b : Option (List ℕ)) (old new : List ℕ) (last : ℕ) (moves : Moves a b old new) → IsUndecided old → last ≡ length moves.taken
    → IsWithinRead last new
within_filled a b old new last moves undecided is =
    let more : line_len old ≤ line_len new = subst (λ l. line_len old ≤ line_len l) (sym moves.grown) (line_len-prefix old moves.taken) in
    omega (arith, more, undecided.0, undecided.1, ap length moves.grown, length-append old moves.taken, is)

-- ---- a search that goes on behind what was searched

joined : (held : List ℕ) (s : ℕ) → s ≤ length held → line_len (take s held) ≡ s → line_len held ≡ s + line_len (take (length held - s) (drop s held))
joined held s within none =
    let long : length (take s held) ≡ s = length-take-le s held within in
    let rest : take (length held - s) (drop s held) ≡ drop s held = take_rest held s in
    ap line_len (sym (take-append-drop s held)) ∙ line_len-append_none (take s held) (drop s held) (none ∙ sym long)
    ∙ ap (λ m. m + line_len (drop s held)) long ∙ ap (λ l. s + line_len l) (sym rest)

-- held is what is looked at of the bytes: all of them
pub search-found : (held bytes : List ℕ) (s at : ℕ) → held ≡ bytes → s ≤ length bytes → line_len (take s bytes) ≡ s
    → IsFirstByte (is_byte 10) (take (length held - s) (drop s held)) (Some at) → s + at ≡ line_len bytes
search-found held bytes s at same within none found =
    let rest = take (length held - s) (drop s held) in
    let there : rest ≡ take (length bytes - s) (drop s bytes) = ap (λ l. take (length l - s) (drop s l)) same in
    sym (joined bytes s within none ∙ ap (λ l. s + line_len l) (sym there) ∙ ap (λ m. s + m) (first_found 10 rest at found))

pub search-none : (held bytes : List ℕ) (s : ℕ) → held ≡ bytes → s ≤ length bytes → line_len (take s bytes) ≡ s
    → IsFirstByte (is_byte 10) (take (length held - s) (drop s held)) None → line_len bytes ≡ length bytes
search-none held bytes s same within none nowhere =
    let rest = take (length held - s) (drop s held) in
    let there : rest ≡ take (length bytes - s) (drop s bytes) = ap (λ l. take (length l - s) (drop s l)) same in
    let whole : line_len bytes ≡ s + line_len rest = joined bytes s within none ∙ ap (λ l. s + line_len l) (sym there) in
    omega (arith, whole, first_none 10 rest nowhere, ap length (take_rest held s), length-drop s held, ap length same)
