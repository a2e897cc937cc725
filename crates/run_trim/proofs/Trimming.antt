-- What is written of a right proof is its trimmed text.
use Rattle.std.proofs.Common.{◌≡◌, ℕ, List, [], ◌++◌, length, refl, subst}
use Rattle.game_rules.specs.Position.{Position}
use Rattle.proof_text.specs.Right.{Shown, IsVerdict}
use Rattle.proof_text.specs.Texts.{lemmas_among, head_of, IsRightText}
use Rattle.proof_text.specs.Words.{verdict_word}
use Rattle.proof_text.specs.declared.Verdict.{Verdict}
use Rattle.proof_text.specs.declared.Verdict.TheVariants.{Win, Loss, Draw, Unknown}
use Rattle.proof_text.specs.declared.Version.{Version}
use Rattle.proof_text.proofs.Append.{Shows_number}
use Rattle.proof_text.proofs.Whole.{named_accepted, shown_count}
use Rattle.tool_text.specs.Trim.{CitesEarlier, numbers_named, renumbered_verdict, trimmed, trimmed_verdict, trimmed_lines, IsTrimmedText}
use Rattle.tool_text.proofs.Reaching.{right_ordered}
use Rattle.tool_text.proofs.Whole.{trimmed_right, text_reached}
use Rattle.proof_tools.specs.Reach.{AreWithin}
use Rattle.run_trim.specs.Trims.{IsTrimmed}

-- the numbers of a right verdict are those of lemmas
named_within : (root : Position) (known : List Shown) (v : Verdict) → IsVerdict root known v → AreWithin (length known) (numbers_named v)
named_within root known (Win n) right = (Shows_number known n root _ right, tt)
named_within root known (Loss n) right = (Shows_number known n root _ right, tt)
named_within root known (Draw n m) right = (Shows_number known n root _ right.0, (Shows_number known m root _ right.1, tt))
named_within root known Unknown right = tt

word_same : (number : ℕ → ℕ) (v : Verdict) → verdict_word (renumbered_verdict number v) ≡ verdict_word v
word_same number (Win n) = refl
word_same number (Loss n) = refl
word_same number (Draw n m) = refl
word_same number Unknown = refl

module _ (version : Version) (bytes : List ℕ) (v : Verdict) (count : ℕ) (text : IsRightText version bytes v count) where
  pub lemmas_ordered : CitesEarlier 1 (lemmas_among text.entries)
  lemmas_ordered = right_ordered text.root [] (lemmas_among text.entries) text.after text.right

  pub verdict_within : AreWithin (length (lemmas_among text.entries)) (numbers_named v)
  verdict_within = subst (λ n. AreWithin n (numbers_named v)) (shown_count text.root (lemmas_among text.entries) text.after text.right)
      (named_within text.root text.after v text.verdict_right)

  pub trims : (written : List ℕ) → written ≡ head_of version text.board text.columns ++ trimmed_lines (lemmas_among text.entries) v
      → IsTrimmed bytes written
  trims written spelled =
      let trim : IsTrimmedText version bytes written v count = record { text = text; spelled = spelled } in
      let right = trimmed_right version bytes written v count trim in
      record {
        version = version;
        verdict = v;
        count = count;
        trim = trim;
        lemmas = trimmed (lemmas_among text.entries) v;
        kept = refl;
        named = trimmed_verdict (lemmas_among text.entries) v;
        anew = refl;
        right = right;
        accepted = named_accepted version written _ _ right;
        word = word_same _ v;
        reached = text_reached version bytes written v count trim;
      }
