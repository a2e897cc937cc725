-- The lemmas of a search behind a list of lemmas and remarks.
use Rattle.std.proofs.Common.{◌≡◌, ℕ, map, List, [], ◌++◌, Option, Some, None, Result, IfSome, sym, ap, ◌∙◌, subst, append_assoc}
use Rattle.std.specs.Io.KnownBytes.{Appends}
use Rattle.game_rules.specs.Position.{Position}
use Rattle.game_rules.specs.declared.Question.{Question}
use Rattle.proof_text.specs.Lemma.{Lemma}
use Rattle.proof_text.specs.Right.{Shown, AreRight}
use Rattle.proof_text.specs.Texts.{Entry, LemmaEntry, entry_lines, lemmas_among}
use Rattle.proof_text.specs.Spelling.{lines_of}
use Rattle.proof_text.proofs.Append.{AreRight_append}
use Rattle.deep_search.specs.Search.{Moment, AppendsLemmas, Solves}
use Rattle.deep_search.specs.Lists.{EndsIn, FitsMoment, Continues}
use Rattle.proof_text.specs.declared.Version.{Version}
use Rattle.deep_search.specs.declared.solving.Answer.{Answer}
use Rattle.deep_search.specs.declared.solving.SearchStop.{SearchStop}
use Rattle.proof_text.proofs.Written.{lemmas_append, lemmas_map, entries_append, entries_map}

lemmas_behind : (list : List Entry) (ls : List Lemma) → lemmas_among (list ++ map LemmaEntry ls) ≡ lemmas_among list ++ ls
lemmas_behind list ls = lemmas_append list (map LemmaEntry ls) ∙ ap (λ more. lemmas_among list ++ more) (lemmas_map ls)

-- bytes that end in the text of the list, and the lines of lemmas behind them
ends_behind : (list : List Entry) (ls : List Lemma) (old new : Option (List ℕ)) → Appends old new (lines_of ls) → EndsIn list old
    → IfSome old (λ was. EndsIn (list ++ map LemmaEntry ls) new)
ends_behind list ls None new stands ends = tt
ends_behind list ls (Some was) None stands ends = tt
ends_behind list ls (Some was) (Some bytes) stands ends = (
  ends.0,
  stands ∙ ap (λ xs. xs ++ lines_of ls) ends.1 ∙ append_assoc ends.0 (entry_lines list) (lines_of ls)
      ∙ ap (λ xs. ends.0 ++ (entry_lines list ++ xs)) (sym (entries_map ls))
      ∙ ap (λ xs. ends.0 ++ xs) (sym (entries_append list (map LemmaEntry ls))),
)

pub continues : (root p : Position) (question : Question) (reach : ℕ) (version : Version) (list : List Entry) (shown : List Shown) (old new : Moment)
    (before count : ℕ)
    (result : Result Answer SearchStop) → EndsIn list old.bytes → FitsMoment root before list shown old
    → Solves root p question reach version shown old new count result → Continues root p question reach version list shown old new count result
continues root p question reach version list shown old new before count result ends fits solves = record {
  more = solves.wrote.more;
  now_shown = solves.wrote.shown;
  text = solves.wrote.text;
  right = solves.wrote.right;
  ends = λ whole. ends_behind list solves.wrote.more old.bytes new.bytes
      (subst (λ whole. AppendsLemmas whole solves.wrote.more old.bytes new.bytes) whole solves.wrote.text) ends;
  fits = record {
    right = subst (λ ls. AreRight root [] ls (shown ++ solves.wrote.shown)) (sym (lemmas_behind list solves.wrote.more))
        (AreRight_append root [] shown (shown ++ solves.wrote.shown) (lemmas_among list) solves.wrote.more fits.right solves.wrote.right);
    counted = solves.wrote.counted;
    table = solves.wrote.fits;
  };
  sided = solves.wrote.sided;
  planned = solves.wrote.planned;
  once = solves.wrote.new_ones.once;
  named = solves.named;
}
