-- Steps of reading, one after another: what they took, and the lines that they passed.
use Rattle.std.proofs.Common.{◌≡◌, ℕ, zero, suc, ◌+◌, ◌≤◌, Bool, true, false, List, [], ◌++◌, length, Option, refl, sym, ap, ◌∙◌, subst, arith, append_assoc}
use Rattle.std.specs.Io.KnownBytes.{Consumes, IsAtEnd}
use Rattle.std.proofs.KnownBytes.{Consumes-trans, Consumes-nil}
use Rattle.std.proofs.lemmas.List.{append-nil}
use Rattle.io_ports.specs.Lines.{Cut, next_line, behind_lines, Gives, IsCut, IsLine, IsLong, Takes, HoldsFew, IsAhead, is_end, most_held}
use Rattle.io_ports.specs.declared.line_reader.LineGot.{LineGot}
use Rattle.io_ports.specs.declared.line_reader.LineGot.TheVariants.{Line, Long, Done, Failed}
use Rattle.io_ports.proofs.LineLemmas.{each_text_is_cut}
use Rattle.io_ports.specs.Reading.{Pending, Reads, PassesLines}

-- ---- what was got

-- what was got is cut from the bytes
pub is_cut : (bytes : List ℕ) (line : Cut) → line ≡ next_line bytes → IsCut bytes line.got line.text line.fed line.rest
is_cut bytes line is = let P : Cut → Type 0 = λ cut. IsCut bytes cut.got cut.text cut.fed cut.rest in subst P (sym is) (each_text_is_cut bytes)

pub line_is_cut : (bytes : List ℕ) (line : Cut) → line ≡ next_line bytes → line.got ≡ Line → IsLine bytes line.text line.fed line.rest
line_is_cut bytes line is got = let P : LineGot → Type 0 = λ got. IsCut bytes got line.text line.fed line.rest in subst P got (is_cut bytes line is)

pub long_is_cut : (bytes : List ℕ) (line : Cut) → line ≡ next_line bytes → line.got ≡ Long → IsLong bytes line.text line.rest
long_is_cut bytes line is got = let P : LineGot → Type 0 = λ got. IsCut bytes got line.text line.fed line.rest in subst P got (is_cut bytes line is)

pub none_is_cut : (bytes : List ℕ) (line : Cut) → line ≡ next_line bytes → line.got ≡ Done → (bytes ≡ []) × (line.text ≡ []) × (line.rest ≡ [])
none_is_cut bytes line is got = let P : LineGot → Type 0 = λ got. IsCut bytes got line.text line.fed line.rest in subst P got (is_cut bytes line is)

-- ---- steps

pub Reads_more : (a b : Pending) (P Q : List ℕ → List ℕ → Type 0) → Reads a b P → ((bytes rest : List ℕ) → P bytes rest → Q bytes rest) → Reads a b Q
Reads_more a b P Q reads more = record {
  taken = reads.taken;
  gave = reads.gave;
  stays = reads.stays;
  last = reads.last;
  held = reads.held;
  few = reads.few;
  fact = λ later none. more _ _ (reads.fact later none);
}

-- before the first step nothing was taken
pub Reads_start : (a : Pending) (P : List ℕ → List ℕ → Type 0) → ((bytes : List ℕ) → P bytes bytes) → Reads a a P
Reads_start a P same = record {
  taken = [];
  gave = Consumes-nil a.left;
  stays = λ ended. (refl, ended);
  last = λ before after. before after;
  held = λ short. short;
  few = λ few. few;
  fact = λ later none. same (a.ahead ++ later);
}

pub Reads_then : (a b c : Pending) (P Q R : List ℕ → List ℕ → Type 0) → Reads a b P → Reads b c Q
    → ((bytes mid rest : List ℕ) → P bytes mid → Q mid rest → R bytes rest) → Reads a c R
Reads_then a b c P Q R first next more = record {
  taken = first.taken ++ next.taken;
  gave = Consumes-trans a.left b.left c.left first.taken next.taken first.gave next.gave;
  stays = λ ended. let one = first.stays ended in let two = next.stays one.1 in (ap (λ l. l ++ next.taken) one.0 ∙ two.0, two.1);
  last = λ before after. next.last (first.last before) after;
  held = λ short. next.held (first.held short);
  few = λ few. next.few (first.few few);
  fact = λ later none.
      let open_end : b.ended ≡ true → next.taken ++ later ≡ [] = λ ended. let two = next.stays ended in ap (λ l. l ++ later) two.0 ∙ none two.1 in
      let S : List ℕ → Type 0 = λ l. R (a.ahead ++ l) (c.ahead ++ later) in
      subst S (sym (append_assoc first.taken next.taken later))
      (more _ (b.ahead ++ (next.taken ++ later)) _ (first.fact (next.taken ++ later) open_end) (next.fact later none));
}

-- what a call of a reader of lines takes, where the end of the input wasn't reached before it
pub Reads_from : (a b : Pending) (got : LineGot) (text : List ℕ) (fed : Bool) → a.ended ≡ false → b.ended ≡ is_end got fed
    → length b.ahead ≤ most_held → (HoldsFew a.last_read a.ahead → IsAhead got b.last_read b.ahead)
    → Takes (is_end got fed) a.left b.left (λ bytes rest. Gives (a.ahead ++ bytes) (b.ahead ++ rest) got text fed)
    → Reads a b (λ bytes rest. Gives bytes rest got text fed)
Reads_from a b got text fed going end short ahead takes = record {
  taken = takes.taken;
  gave = takes.gave;
  stays = λ ended. absurd (cc (ended, going));
  last = λ before after. takes.last (sym end ∙ after);
  held = λ _. short;
  few = λ few. (got, ahead few);
  fact = λ later none. takes.fact later (λ ended. none (end ∙ ended));
}

-- at the end of the input nothing is taken
pub Reads_none : (a b : Pending) → a.ended ≡ true → b.ended ≡ true → a.ahead ≡ [] → b.ahead ≡ [] → b.left ≡ a.left
    → Reads a b (λ bytes rest. Gives bytes rest Done [] false)
Reads_none a b ended after none also same = record {
  taken = [];
  gave = let C : Option (List ℕ) → Type 0 = λ left. Consumes a.left left [] in subst C (sym same) (Consumes-nil a.left);
  stays = λ _. (refl, after);
  last = λ before _. subst IsAtEnd (sym same) (before ended);
  held = λ _. omega (arith, ap length also);
  few = λ _. (Done, also);
  fact = λ later end.
      let l = end after in
      let there : b.ahead ++ later ≡ [] = ap (λ xs. xs ++ later) also ∙ l in
      let here : a.ahead ++ ([] ++ later) ≡ [] = ap (λ xs. xs ++ later) none ∙ l in
      ap (λ r. record { got = Done; text = []; fed = false; rest = r }) there ∙ ap next_line (sym here);
}

-- behind the end of the input no byte is held
ended_empty : (bytes rest text : List ℕ) (got : LineGot) (fed : Bool) → Gives bytes rest got text fed → is_end got fed ≡ true → rest ≡ []
ended_empty bytes rest text Line true gives end = cc
ended_empty bytes rest text Line false gives end = ((line_is_cut bytes _ gives refl).last refl).1
ended_empty bytes rest text Done fed gives end = (none_is_cut bytes _ gives refl).2
ended_empty bytes rest text Long fed gives end = cc
ended_empty bytes rest text Failed fed gives end = cc

pub held_none : (old new : Option (List ℕ)) (before held text : List ℕ) (got : LineGot) (fed : Bool)
    → Takes (is_end got fed) old new (λ bytes rest. Gives (before ++ bytes) (held ++ rest) got text fed)
    → is_end got fed ≡ true → held ≡ []
held_none old new before held text got fed takes end =
    sym (append-nil held) ∙ ended_empty (before ++ (takes.taken ++ [])) (held ++ []) text got fed (takes.fact [] (λ _. refl)) end

-- ---- lines that are passed

behind_more : (m n : ℕ) (bytes : List ℕ) → behind_lines n (behind_lines m bytes) ≡ behind_lines (m + n) bytes
behind_more zero n bytes = ap (λ k. behind_lines k bytes) (let none : n ≡ zero + n = omega arith in none)
behind_more (suc m) n bytes =
    behind_more m n (next_line bytes).rest ∙ ap (λ k. behind_lines k bytes) (let more : suc (m + n) ≡ suc m + n = omega arith in more)

-- nothing was passed yet
pub passes_none : (bytes : List ℕ) → PassesLines 0 bytes bytes
passes_none bytes = (0, omega arith, refl)

pub passes_then : (m n : ℕ) (a b c : List ℕ) → PassesLines m a b → PassesLines n b c → PassesLines (m + n) a c
passes_then m n a b c p q = (p.0 + q.0, omega (arith, p.1, q.1), q.2 ∙ ap (behind_lines q.0) p.2 ∙ behind_more p.0 q.0 a)

pub passes_most : (m n : ℕ) (a b : List ℕ) → m ≤ n → PassesLines m a b → PassesLines n a b
passes_most m n a b few p = (p.0, omega (arith, p.1, few), p.2)

-- whatever was got, at most one line was passed
pub passes_line : (a b text : List ℕ) (got : LineGot) (fed : Bool) → Gives a b got text fed → PassesLines 1 a b
passes_line a b text Failed fed gives = (0, omega arith, gives)
passes_line a b text Line fed gives = (1, omega arith, ap (λ cut. cut.rest) gives)
passes_line a b text Long fed gives = (1, omega arith, ap (λ cut. cut.rest) gives)
passes_line a b text Done fed gives = (1, omega arith, ap (λ cut. cut.rest) gives)
