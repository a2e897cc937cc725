-- What is kept in the index: the first number for each position and claim, and so the first lemma that shows it.
use Rattle.std.proofs.Common.{◌≡◌, ℕ, ◌+◌, Bool, true, false, ◌&&◌, cond, List, [], ◌∷◌, ◌++◌, Option, Some, None, is_some, length, refl, sym, ap, ◌∙◌, subst}
use Rattle.std.proofs.Common.{inl, inr}
use Rattle.std.specs.Map.{lookup}
use Rattle.std.specs.Option.{option_or}
use Rattle.std.proofs.Math.Bool.{and-true, and-false}
use Rattle.std.proofs.lemmas.Bool.{cases_Bool}
use Rattle.game_rules.specs.Position.{Position, same_position}
use Rattle.game_rules.specs.declared.Question.{Question}
use Rattle.position_key.specs.Keys.{Key, same_key, same_question, same_key_Decides}
use Rattle.proof_text.specs.Lemma.{claims_win, same_claim, agrees}
use Rattle.proof_text.specs.Right.{Shown}
use Rattle.proof_text.specs.declared.Claim.{Claim}
use Rattle.proof_text.specs.declared.Claim.TheVariants.{WhiteWins, WhiteFails, BlackWins, BlackFails}
use Rattle.proof_text.proofs.Upgraded.{first_push}
use Rattle.cert_checker.specs.Index.{question_of, Numbers, KeepsFirst, Keeps, Follows}

-- ---- keys

or_nothing : (o : Option ℕ) → option_or o None ≡ o
or_nothing None = refl
or_nothing (Some n) = refl

-- a number is kept for the key already
pub first_stays : (key : Key) (n : ℕ) (es : List (Key × ℕ)) → is_some (lookup (same_key key) es) ≡ true → KeepsFirst key n es es
first_stays key n es some other = elim (cases_Bool (same_key key other)) [
  | inl same ↦ rw same (by (lookup (same_key other) es)
      (ap (λ key. is_some (lookup (same_key key) es)) (sym ((same_key_Decides key other).0 same)) ∙ some))
  | inr apart ↦ rw apart (sym (or_nothing (lookup (same_key other) es)))
]
  where
    by : (o : Option ℕ) → is_some o ≡ true → o ≡ option_or o (Some n)
    by None h = cc
    by (Some m) h = refl

-- none is, and this one comes to the others
pub first_comes : (key : Key) (n : ℕ) (before after : List (Key × ℕ)) → is_some (lookup (same_key key) before) ≡ false
    → ((other : Key) → lookup (same_key other) after ≡ cond (same_key key other) (Some n) (lookup (same_key other) before)) → KeepsFirst key n before after
first_comes key n before after none puts other = puts other ∙ elim (cases_Bool (same_key key other)) [
  | inl same ↦ rw same (by (lookup (same_key other) before)
      (ap (λ key. is_some (lookup (same_key key) before)) (sym ((same_key_Decides key other).0 same)) ∙ none))
  | inr apart ↦ rw apart (sym (or_nothing (lookup (same_key other) before)))
]
  where
    by : (o : Option ℕ) → is_some o ≡ false → Some n ≡ option_or o (Some n)
    by None h = refl
    by (Some m) h = cc

-- ---- claims

-- two claims are one where they answer one question, and both say that the side wins or both that it doesn't
claim_parts : (a b : Claim) → same_claim a b ≡ (same_question (question_of a) (question_of b) && agrees (claims_win a) (claims_win b))
claim_parts WhiteWins WhiteWins = refl
claim_parts WhiteWins WhiteFails = refl
claim_parts WhiteWins BlackWins = refl
claim_parts WhiteWins BlackFails = refl
claim_parts WhiteFails WhiteWins = refl
claim_parts WhiteFails WhiteFails = refl
claim_parts WhiteFails BlackWins = refl
claim_parts WhiteFails BlackFails = refl
claim_parts BlackWins WhiteWins = refl
claim_parts BlackWins WhiteFails = refl
claim_parts BlackWins BlackWins = refl
claim_parts BlackWins BlackFails = refl
claim_parts BlackFails WhiteWins = refl
claim_parts BlackFails WhiteFails = refl
claim_parts BlackFails BlackWins = refl
claim_parts BlackFails BlackFails = refl

module _ (p : Position) (claim : Claim) (n : ℕ) (before : Numbers) where
  abbrev own : Key
  own = record { position = p; question = question_of claim }

  -- what was kept for a key with its question was kept for this position and claim
  for_own : (key : Key) (question : Question) (es fs : List (Key × ℕ)) → key ≡ record { position = p; question = question } → question ≡ question_of claim
      → KeepsFirst key n es fs → KeepsFirst own n es fs
  for_own key question es fs of_key asked first =
      subst (λ key. KeepsFirst key n es fs) (of_key ∙ ap (λ question. let key : Key = record { position = p; question = question } in key) asked) first

  -- claims that go together are told apart by their keys
  together : (q : Position) (said : Claim) → agrees (claims_win claim) (claims_win said) ≡ true
      → same_key own (record { position = q; question = question_of said }) ≡ (same_position p q && same_claim claim said)
  together q said h = ap (λ b. same_position p q && b)
      (sym (claim_parts claim said ∙ ap (λ b. same_question (question_of claim) (question_of said) && b) h
      ∙ and-true (same_question (question_of claim) (question_of said))))

  -- others are never one
  apart : (q : Position) (said : Claim) → agrees (claims_win claim) (claims_win said) ≡ false → (same_position p q && same_claim claim said) ≡ false
  apart q said h = ap (λ b. same_position p q && b) (claim_parts claim said ∙ ap (λ b. same_question (question_of claim) (question_of said) && b) h
      ∙ and-false (same_question (question_of claim) (question_of said))) ∙ and-false (same_position p q)

  abbrev comes : Position → Claim → Option ℕ
  comes q said = cond (same_position p q && same_claim claim said) (Some n) None

  changed : (q : Position) (said : Claim) (es fs : List (Key × ℕ)) → agrees (claims_win claim) (claims_win said) ≡ true → KeepsFirst own n es fs
      → lookup (same_key (record { position = q; question = question_of said })) fs
      ≡ option_or (lookup (same_key (record { position = q; question = question_of said })) es) (comes q said)
  changed q said es fs h first =
      first (record { position = q; question = question_of said })
      ∙ ap (λ b. option_or (lookup (same_key (record { position = q; question = question_of said })) es) (cond b (Some n) None)) (together q said h)

  unchanged : (q : Position) (said : Claim) (o : Option ℕ) → agrees (claims_win claim) (claims_win said) ≡ false → o ≡ option_or o (comes q said)
  unchanged q said o h = sym (ap (λ b. option_or o (cond b (Some n) None)) (apart q said h) ∙ or_nothing o)

  pub wins_kept : (key : Key) (question : Question) (after : List (Key × ℕ)) → claims_win claim ≡ true → key ≡ record { position = p; question = question }
      → question ≡ question_of claim → KeepsFirst key n before.wins after → Keeps p claim n before (record before { wins = after })
  wins_kept key question after win of_key asked first q said = elim (cases_Bool (claims_win said)) [
    | inl also ↦ rw also (changed q said before.wins after (rw (win, also) refl) (for_own key question before.wins after of_key asked first))
    | inr not ↦ rw not (unchanged q said (lookup (same_key (record { position = q; question = question_of said })) before.fails) (rw (win, not) refl))
  ]

  pub fails_kept : (key : Key) (question : Question) (after : List (Key × ℕ)) → claims_win claim ≡ false → key ≡ record { position = p; question = question }
      → question ≡ question_of claim → KeepsFirst key n before.fails after → Keeps p claim n before (record before { fails = after })
  fails_kept key question after fail of_key asked first q said = elim (cases_Bool (claims_win said)) [
    | inl not ↦ rw not (unchanged q said (lookup (same_key (record { position = q; question = question_of said })) before.wins) (rw (fail, not) refl))
    | inr also ↦ rw also (changed q said before.fails after (rw (fail, also) refl) (for_own key question before.fails after of_key asked first))
  ]

-- ---- the lemmas of a proof

pub follows_none : Follows [] (record { wins = []; fails = [] })
follows_none p claim = by (claims_win claim)
  where
    by : (w : Bool) → lookup (same_key (record { position = p; question = question_of claim })) (cond {A = List (Key × ℕ)} w [] []) ≡ None
    by true = refl
    by false = refl

-- the number of one more lemma is kept
pub follows_push : (known : List Shown) (p : Position) (claim : Claim) (before after : Numbers) → Follows known before
    → Keeps p claim (length known + 1) before after → Follows (known ++ (p, claim) ∷ []) after
follows_push known p claim before after follows keeps q said =
    keeps q said
    ∙ ap (λ o. option_or o (cond (same_position p q && same_claim claim said) (Some (length known + 1)) None)) (follows q said)
    ∙ sym (first_push q p said claim known)
