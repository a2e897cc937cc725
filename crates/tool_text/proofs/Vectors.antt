-- What is left of one proof, computed.
use Rattle.std.proofs.Common.{◌≡◌, List, [], ◌∷◌, codes, refl}
use Rattle.std.specs.List.{flat_map}
use Rattle.std.specs.Fmt.{digits}
use Rattle.plan_rules.specs.Rules.{claimeven}
use Rattle.proof_text.specs.Lemma.{ByEnd, ByOne, ByAll, ByPlan, Lemma}
use Rattle.proof_text.specs.Spelling.{as_line}
use Rattle.proof_text.specs.declared.Claim.TheVariants.{WhiteFails, BlackFails}
use Rattle.proof_text.specs.declared.Verdict.TheVariants.{Draw}
use Rattle.tool_text.specs.Trim.{trimmed_lines}

-- six lemmas with two squares left, of which two are of a question that a plan answers
six_lemmas : List Lemma
six_lemmas =
    record { number = 1; path = 1 ∷ 1 ∷ []; claim = WhiteFails; reason = ByEnd }
    ∷ record { number = 2; path = 1 ∷ 1 ∷ []; claim = BlackFails; reason = ByEnd }
    ∷ record { number = 3; path = 1 ∷ []; claim = WhiteFails; reason = ByOne (record { column = 1; lemma = 1 }) }
    ∷ record { number = 4; path = []; claim = WhiteFails; reason = ByPlan (claimeven (1, 3) ∷ []) }
    ∷ record { number = 5; path = 1 ∷ []; claim = BlackFails; reason = ByAll (record { column = 1; lemma = 2 } ∷ []) }
    ∷ record { number = 6; path = []; claim = BlackFails; reason = ByOne (record { column = 1; lemma = 5 }) }
    ∷ []

four_are_left : trimmed_lines six_lemmas (Draw 4 6)
    ≡ flat_map as_line (codes "1 bb B- end" ∷ codes "2 - W- plan CE:b3" ∷ codes "3 b B- all b:1" ∷ codes "4 - B- one b 3" ∷ codes "value draw 2 4" ∷ [])
unfolding six_lemmas digits
four_are_left = refl
