use Rattle.std.proofs.Common.{◌≡◌, ◌+◌, ℕ, Bool, true, false, List, min, ltb, ap, ◌∙◌, subst, length, arith}
use Rattle.std.proofs.lemmas.List.{length-take, nil_from_length}
use Rattle.io_ports.specs.Lines.{longest_line, Cutting, Moves}
use Rattle.io_ports.proofs.LineLemmas.{Takes-long, Takes-line, Takes-done, Takes-failed, no_feed, line_len-le}
use Rattle.io_ports.proofs.line_reader.Lines.cut.Goals as goal

-- the end of the input wasn't reached
still_going : (inside now : Bool) → now ≡ false → inside ≡ now → inside ≡ true → ⊥
still_going inside now going same ended = cc

pub returns-in_default-clause-gives : goal.returns-in_default-clause-gives
returns-in_default-clause-gives g c =
    let P : List ℕ → Type 0 = λ before. Moves (g.S.Source.left c.args.source.now) (g.S.Source.left c.gather.new.source) before c.gather.new.ahead in
    Takes-failed _ _ _ _ (subst P (c.skip.ensures ∙ ap (λ s. s.ahead) c.self.view_is) c.gather.ensures.moves)

pub returns-then-held-eq0-clause-gives : goal.returns-then-held-eq0-clause-gives
returns-then-held-eq0-clause-gives g c =
    let P : List ℕ → Type 0 = λ before. Moves (g.S.Source.left c.args.source.now) (g.S.Source.left c.gather.new.source) before c.gather.new.ahead in
    let long = ap length c.bytes-held.ensures.bytes in
    Takes-done _ _ _ _ (subst P (c.skip.ensures ∙ ap (λ s. s.ahead) c.self.view_is) c.gather.ensures.moves) c.in-Ok.len
    (nil_from_length _ (omega (arith, long, c.if-held-eq0.true))) c.in-Ok.ensures.len c.in-Ok.ensures.whole

pub invariant_of-self-then-len-gt-LONGEST : goal.invariant_of-self-then-len-gt-LONGEST
invariant_of-self-then-len-gt-LONGEST g c = (
  omega arith,
  omega (arith, c.in-Ok.ensures.len, line_len-le c.gather.new.ahead),
  λ ended. absurd (still_going c.self.inside.ended _ c.requires.going (ap (λ (s : Cutting). s.ended) c.self.view_is) ended),
)

pub returns-then-len-gt-LONGEST-clause-gives : goal.returns-then-len-gt-LONGEST-clause-gives
returns-then-len-gt-LONGEST-clause-gives g c =
    let P : List ℕ → Type 0 = λ before. Moves (g.S.Source.left c.args.source.now) (g.S.Source.left c.gather.new.source) before c.gather.new.ahead in
    Takes-long _ _ _ _ (subst P (c.skip.ensures ∙ ap (λ s. s.ahead) c.self.view_is) c.gather.ensures.moves) (omega (arith, c.in-Ok.ensures.len))

pub returns-then-len-gt-LONGEST-clause-short : goal.returns-then-len-gt-LONGEST-clause-short
returns-then-len-gt-LONGEST-clause-short g c = omega (arith, length-take longest_line c.gather.new.ahead)

pub returns-then-len-gt-LONGEST-clause-no_feed : goal.returns-then-len-gt-LONGEST-clause-no_feed
returns-then-len-gt-LONGEST-clause-no_feed g c = no_feed c.gather.new.ahead longest_line (omega (arith, c.in-Ok.ensures.len))

pub invariant_of-self-2 : goal.invariant_of-self-2
invariant_of-self-2 g c = (
  omega (arith, c.min-self-inside.ensures, ap length c.bytes-held.ensures.bytes),
  omega (arith, c.in-Ok.ensures.len, line_len-le c.gather.new.ahead),
  λ ended. absurd (still_going c.self.inside.ended _ c.requires.going (ap (λ (s : Cutting). s.ended) c.self.view_is) ended),
)

pub returns-clause-gives : goal.returns-clause-gives
returns-clause-gives g c =
    let P : List ℕ → Type 0 = λ before. Moves (g.S.Source.left c.args.source.now) (g.S.Source.left c.gather.new.source) before c.gather.new.ahead in
    let long = ap length c.bytes-held.ensures.bytes in
    let n = c.in-Ok.len in
    Takes-line _ _ _ _ (subst P (c.skip.ensures ∙ ap (λ s. s.ahead) c.self.view_is) c.gather.ensures.moves) n c.min-self-inside.result _ c.in-Ok.ensures.len
    (omega arith) (omega (arith, long)) c.in-Ok.ensures.whole (ap (ltb n) long)
    (c.min-self-inside.ensures ∙ ap (λ m. min m (n + 1)) long)

pub returns-clause-no_feed : goal.returns-clause-no_feed
returns-clause-no_feed g c = no_feed c.gather.new.ahead c.in-Ok.len (omega (arith, c.in-Ok.ensures.len))
