-- The lines of lemmas behind bytes, the last of them cut or not: one lemma, further ones, and what that is in bytes alone.
use Rattle.std.proofs.Common.{◌≡◌, ℕ, ◌+◌, Bool, true, false, List, [], ◌∷◌, ◌++◌, length, take, Option, refl, sym, ap, ◌∙◌, subst, append-nil, append_assoc}
use Rattle.std.specs.Io.KnownBytes.{Appends}
use Rattle.std.proofs.KnownBytes.{Appends-trans}
use Rattle.std.proofs.lemmas.List.Concat.{flat_map-append}
use Rattle.std.proofs.Math.Seq.{take-append-add}
use Rattle.device_rules.specs.Devices.{AppendsPrefix}
use Rattle.proof_text.specs.Lemma.{Lemma}
use Rattle.proof_text.specs.Spelling.{lemma_line, lines_of}
use Rattle.deep_search.specs.Search.{AppendsLemmas}

pub one_lemma : (ok : Bool) (old new : Option (List ℕ)) (l : Lemma) → AppendsPrefix ok old new (lemma_line l) → AppendsLemmas ok (l ∷ []) old new
one_lemma true old new l stands = subst (Appends old new) (sym (append-nil (lemma_line l))) stands
one_lemma false old new l stands = record { whole = []; last = l; are = refl; n = stands.0; bytes = stands.1 }

-- further lemmas behind those that stand whole
pub lemmas_then : (ok : Bool) (old mid new : Option (List ℕ)) (ls more : List Lemma) → Appends old mid (lines_of ls) → AppendsLemmas ok more mid new
    → AppendsLemmas ok (ls ++ more) old new
lemmas_then true old mid new ls more first rest =
    subst (Appends old new) (sym (flat_map-append lemma_line ls more)) (Appends-trans old mid new (lines_of ls) (lines_of more) first rest)
lemmas_then false old mid new ls more first rest =
    let cut = take rest.n (lemma_line rest.last) in
    record {
      whole = ls ++ rest.whole;
      last = rest.last;
      are = ap (λ more. ls ++ more) rest.are ∙ sym (append_assoc ls rest.whole (rest.last ∷ []));
      n = rest.n;
      bytes = subst (Appends old new)
          (sym (append_assoc (lines_of ls) (lines_of rest.whole) cut) ∙ ap (λ lines. lines ++ cut) (sym (flat_map-append lemma_line ls rest.whole)))
          (Appends-trans old mid new (lines_of ls) (lines_of rest.whole ++ cut) first rest.bytes);
    }

-- what stands is a prefix of the lines of all
pub lemmas_prefix : (ok : Bool) (old new : Option (List ℕ)) (ls : List Lemma) → AppendsLemmas ok ls old new → AppendsPrefix ok old new (lines_of ls)
lemmas_prefix true old new ls stands = stands
lemmas_prefix false old new ls stands =
    let line = lemma_line stands.last in
    let all : lines_of stands.whole ++ line ≡ lines_of ls =
    ap (λ last. lines_of stands.whole ++ last) (sym (append-nil line)) ∙ sym (flat_map-append lemma_line stands.whole (stands.last ∷ []))
    ∙ ap lines_of (sym stands.are) in
    subst (AppendsPrefix false old new) all (
      length (lines_of stands.whole) + stands.n,
      subst (Appends old new) (sym (take-append-add (lines_of stands.whole) line stands.n)) stands.bytes,
    )
