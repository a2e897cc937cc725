-- What is kept for a key: a position and a question.
use Rattle.std.specs.Prelude.{◌≡◌, ℕ, Bool, true, false, ◌&&◌, ◌++◌}
use Rattle.std.specs.Hash as fed
use Rattle.std.specs.Prelude.{Decides}
use Rattle.std.specs.Cmp.{IsEquivalence, IsPartialEquivalence, decided, partial_equiv_from_equiv}
use Rattle.std.proofs.Common.{refl, sym, ap, ◌∙◌}
use mathlib.Core.Bool.{true≢false}
use Rattle.std.proofs.lemmas.Bool.{and_parts, and_from}
use Rattle.game_rules.specs.Position.{Position, same_position}
use Rattle.game_rules.specs.declared.Question.{Question}
use Rattle.game_rules.specs.declared.Question.TheVariants.{WhiteWins, BlackWins}
use Rattle.game_rules.proofs.Moves.{same_position_Decides}
use Rattle.board_bits.specs.MenNumber.{men_number}

pub record Key : Type 0 where
  pub position : Position
  pub question : Question

abbrev pub same_question : Question → Question → Bool
same_question WhiteWins WhiteWins = true
same_question WhiteWins BlackWins = false
same_question BlackWins WhiteWins = false
same_question BlackWins BlackWins = true

-- the same position and the same question
abbrev pub same_key : Key → Key → Bool
same_key a b = same_position a.position b.position && same_question a.question b.question

-- whether what is kept is for this position and this question
abbrev pub is_for : Position → Question → Key → Bool
is_for p q key = same_key (record { position = p; question = q }) key

-- ---- what a map asks of its keys

abbrev pub question_number : Question → ℕ
question_number WhiteWins = 0
question_number BlackWins = 1

-- what the hash of a key is made from
abbrev pub hashed : Key → fed.HashWrites
hashed key = fed.u128 (men_number key.position) ++ fed.u8 (question_number key.question)

pub same_question_is : (a b : Question) → same_question a b ≡ true → a ≡ b
same_question_is WhiteWins WhiteWins h = refl
same_question_is WhiteWins BlackWins h = absurd (true≢false (sym h))
same_question_is BlackWins WhiteWins h = absurd (true≢false (sym h))
same_question_is BlackWins BlackWins h = refl

pub same_question_refl : (a : Question) → same_question a a ≡ true
same_question_refl WhiteWins = refl
same_question_refl BlackWins = refl

-- keys that count as equal are one
pub same_key_Decides : (a b : Key) → Decides (same_key a b) (a ≡ b)
same_key_Decides a b = (to, from)
  where
    to : same_key a b ≡ true → a ≡ b
    to h =
        let both = and_parts (same_position a.position b.position) (same_question a.question b.question) h in
        ap (λ p. record a { position = p }) ((same_position_Decides a.position b.position).0 both.0)
        ∙ ap (λ q. record b { question = q }) (same_question_is a.question b.question both.1)

    from : a ≡ b → same_key a b ≡ true
    from e = ap (same_key a) (sym e) ∙ and_from (same_position a.position a.position) (same_question a.question a.question) ((same_position_Decides a.position a.position).1 refl) (same_question_refl a.question)

pub same_key_equiv : IsEquivalence same_key
same_key_equiv = decided same_key same_key_Decides

pub same_key_partial : IsPartialEquivalence same_key
same_key_partial = partial_equiv_from_equiv same_key_equiv

pub alike_keys : (a b : Key) → same_key a b ≡ true → hashed a ≡ hashed b
alike_keys a b h = ap hashed ((same_key_Decides a b).0 h)
