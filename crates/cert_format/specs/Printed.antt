-- What a line is printed as, and its parts.
use Rattle.std.specs.Prelude.{ℕ, List, [], ◌∷◌, ◌++◌, flat_map}
use Rattle.proof_text.specs.Lemma.{Reason as PlainReason, ByPlan, Line as PlainLine, ALemma, ARemark, AVerdict}
use Rattle.proof_text.specs.Spelling.{cite_word, lemma_line, verdict_line}
use Rattle.plan_lines.specs.Items.{members_text}
use Rattle.proof_lines.specs.declared.lines.Cite.{Cite}
use Rattle.proof_lines.specs.Shape.{cite_of}

-- words with a space before each
abbrev pub behind_spaces : List (List ℕ) → List ℕ
behind_spaces words = flat_map (λ word. 32 ∷ word) words

-- what stands behind the first word of a plan: its members and the line feed; the lines of other reasons are made whole
abbrev pub behind_word : PlainReason → List ℕ
behind_word (ByPlan ws) = members_text ws ++ 10 ∷ []
behind_word reason = []

-- the words of cites, with a space before each
abbrev pub cite_words : List Cite → List ℕ
cite_words cites = flat_map (λ cite. 32 ∷ cite_word (cite_of cite)) cites

-- the bytes of a lemma's or a verdict's line, with its line feed; a remark's aren't determined by what it says
abbrev pub printed : PlainLine → List ℕ
printed (ALemma l) = lemma_line l
printed ARemark = []
printed (AVerdict v) = verdict_line v
