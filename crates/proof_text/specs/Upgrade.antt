-- What becomes of a proof of the first version in the second: a lemma for which an earlier one has the mirror image as its
-- position, and the same claim, rests on the first such lemma. All else stays, but for the remarks, which are dropped.
use Rattle.std.specs.Prelude.{ℕ, List, [], ◌∷◌, ◌++◌, Option, Some, None}
use Rattle.std.specs.List.{position_from}
use Rattle.game_rules.specs.Board.{Board}
use Rattle.game_rules.specs.Position.{Position, played}
use Rattle.game_rules.specs.Mirror.{mirror}
use Rattle.proof_text.specs.Lemma.{ByMirror, Lemma}
use Rattle.proof_text.specs.Right.{Shown}
use Rattle.proof_text.specs.Checked.{is_shown, shown_of}
use Rattle.proof_text.specs.Spelling.{lines_of, verdict_line}
use Rattle.proof_text.specs.Texts.{head_of}
use Rattle.proof_text.specs.declared.Claim.{Claim}
use Rattle.proof_text.specs.declared.Verdict.{Verdict}
use Rattle.proof_text.specs.declared.Version.TheVariants.{Two}

-- the least number of a lemma that shows this claim at this position
abbrev pub first_shown : Position → Claim → List Shown → Option ℕ
first_shown p claim known = position_from (λ shown. is_shown p claim (Some shown)) 1 known

-- the number of the first lemma at the image of a position, which claims this
abbrev pub image_at : List Shown → Claim → Option Position → Option ℕ
image_at known claim None = None
image_at known claim (Some p) = first_shown (mirror p) claim known

abbrev pub resting_on : Lemma → Option ℕ → Lemma
resting_on l None = l
resting_on l (Some n) = record l { reason = ByMirror n }

-- what becomes of a lemma behind what is shown before it
abbrev pub upgraded_lemma : Position → List Shown → Lemma → Lemma
upgraded_lemma root known l = resting_on l (image_at known l.claim (played root l.path))

-- and of further lemmas, one after the other
abbrev pub upgraded : Position → List Shown → List Lemma → List Lemma
upgraded root known [] = []
upgraded root known (l ∷ ls) = upgraded_lemma root known l ∷ upgraded root (known ++ shown_of root l) ls

-- the whole text that is written of a proof
abbrev pub upgraded_text : Position → Board → List ℕ → List Lemma → Verdict → List ℕ
upgraded_text root board columns ls v = head_of Two board columns ++ (lines_of (upgraded root [] ls) ++ verdict_line v)
