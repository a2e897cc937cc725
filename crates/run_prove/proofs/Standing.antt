-- The text of a proof as it is put together: its head, the lemmas of both questions, and its last line.
use Rattle.std.proofs.Common.{◌≡◌, ℕ, ◌<◌, ◌≤◌, Bool, true, false, List, [], ◌++◌, Option, Result, Ok, Err, IfOk, is_ok, length, get_or, refl, sym, ap, ◌∙◌}
use Rattle.std.proofs.Common.{subst, inl, inr, arith, append_assoc}
use Rattle.std.specs.Io.KnownBytes.{Appends}
use Rattle.device_rules.specs.Devices.{AppendsPrefix}
use Rattle.device_rules.proofs.DeviceLaws.{AppendsPrefix_more}
use Rattle.game_rules.specs.Cost.{cost}
use Rattle.game_rules.specs.Position.{Position}
use Rattle.game_rules.specs.Grammar.{IsGameText}
use Rattle.proof_text.specs.Right.{IsVerdict}
use Rattle.proof_text.specs.Spelling.{greatest_number, lines_of, verdict_line}
use Rattle.proof_text.specs.Texts.{head_of}
use Rattle.proof_text.specs.Written.{IsProof, remark_line}
use Rattle.proof_text.proofs.Written.{both_written, lemmas_stand, head_stands, proof_stands, proof_accepted}
use Rattle.proof_text.specs.declared.Verdict.{Verdict}
use Rattle.proof_text.specs.declared.Verdict.TheVariants.{Win, Loss, Draw, Unknown}
use Rattle.run_questions.specs.Planned.{solved_within}
use Rattle.proof_text.specs.declared.Version.{Version}
use Rattle.run_prove.specs.Proof.{IsProofOf, Writes}
use Rattle.run_questions.specs.Questions.{HasBothRemarks, Asks}
use Rattle.run_questions.proofs.Asking.{asked_truth, in_turn}
use Rattle.run_questions.specs.SearchStop.{SearchStop}
use Rattle.run_questions.specs.SearchStop.TheVariants.{WriteFault}
use Rattle.io_ports.specs.declared.ports.Failed.{Failed}

-- ---- the last line

-- only the unknown verdict has its line
unknown_line : (v : Verdict) → verdict_line v ≡ verdict_line Unknown → v ≡ Unknown
unknown_line Unknown same = refl
unknown_line (Win lemma) same = absurd (omega (arith, ap (λ line. get_or line 6 0) same))
unknown_line (Loss lemma) same = absurd (omega (arith, ap (λ line. get_or line 6 0) same))
unknown_line (Draw white black) same = absurd (omega (arith, ap (λ line. get_or line 6 0) same))

some_line : [] ≡ verdict_line Unknown → ⊥
some_line none = omega (arith, ap (λ (line : List ℕ). length line) none)

-- ---- the whole

-- the head, the remarks and the lemmas of both questions, and the last line, of which a prefix may be missing
stands_all : (b : Bool) (old mid held new : Option (List ℕ)) (head remark white also black last : List ℕ) → Appends old mid head
    → Appends mid held (remark ++ (white ++ (also ++ black))) → AppendsPrefix b held new last
    → AppendsPrefix b old new (head ++ (remark ++ (white ++ (also ++ (black ++ last)))))
stands_all b old mid held new head remark white also black last first both rest =
    AppendsPrefix_more b old mid new head (remark ++ (white ++ (also ++ (black ++ last)))) first
    (subst (AppendsPrefix b mid new) (moved) (AppendsPrefix_more b mid held new (remark ++ (white ++ (also ++ black))) last both rest))
  where
    moved : (remark ++ (white ++ (also ++ black))) ++ last ≡ remark ++ (white ++ (also ++ (black ++ last)))
    moved =
        append_assoc remark (white ++ (also ++ black)) last
        ∙ ap (λ text. remark ++ text) (append_assoc white (also ++ black) last ∙ ap (λ text. white ++ text) (append_assoc also black last))

module _ (version : Version) (nodes reach : ℕ) (slots : Option ℕ) (bytes : List ℕ) (p : Position) (game : IsGameText bytes p)
    (small : nodes ≤ greatest_number) where
  abbrev the_head : List ℕ
  the_head = head_of version game.board game.columns

  module _ (mid held : Option (List ℕ)) (r : Result Verdict SearchStop) (asks : Asks version p nodes reach slots mid held r) where
    -- both questions' remarks and lemmas
    abbrev middle : List ℕ
    middle = remark_line asks.white_remark ++ (lines_of asks.white ++ (remark_line asks.black_remark ++ lines_of asks.black))

    -- a proof, with the verdict behind the lemmas
    module _ (v : Verdict) (right : IsVerdict p asks.after v) where
      abbrev proof_text : List ℕ
      proof_text = the_head ++ (remark_line asks.white_remark
          ++ (lines_of asks.white ++ (remark_line asks.black_remark ++ (lines_of asks.black ++ verdict_line v))))

      abbrev is_proof : IsProof version p the_head proof_text v
      is_proof = record {
        after = asks.after;
        written = both_written version p the_head proof_text asks.white_remark asks.white asks.mid asks.black_remark asks.black asks.after (verdict_line v)
            asks.white_right asks.black_right asks.white_sided asks.black_sided
            (in_turn slots reach p asks.mid asks.black_remark asks.black asks.black_remarked) asks.white_line asks.black_line refl;
        verdict = right;
      }

      pub proof_of : HasBothRemarks slots nodes reach p asks.mid asks.black_remark v → IsProofOf version nodes reach slots bytes p proof_text v
      proof_of both = record {
        game = game;
        proof = is_proof;
        remarked = (asks.white_remarked, asks.black_remarked);
        both_remarked = both;
        planned = (asks.white_planned, asks.black_planned);
        few = asks.few;
        accepted = proof_accepted version game.board game.columns p proof_text v is_proof game.has_board game.has_moves
            (let few : length asks.after ≤ nodes = asks.few in omega arith);
        says = asked_truth version p nodes reach slots mid held r asks v right;
      }

      pub writes_verdict : (old new : Option (List ℕ)) (result : Result Verdict Failed) → HasBothRemarks slots nodes reach p asks.mid asks.black_remark v
          → (v ≡ Unknown → nodes < cost (solved_within reach) p) → Appends old mid the_head → Appends mid held middle
          → IfOk result (λ told. told ≡ v) → AppendsPrefix (is_ok result) held new (verdict_line v) → Writes version nodes reach slots bytes p old new result
      writes_verdict old new (Ok told) both short head lemmas same stands = (
        proof_text,
        subst (IsProofOf version nodes reach slots bytes p proof_text) (sym same) (proof_of both),
        stands_all true old mid held new the_head (remark_line asks.white_remark) (lines_of asks.white) (remark_line asks.black_remark) (lines_of asks.black)
            (verdict_line v)
            head lemmas stands,
      )
      writes_verdict old new (Err failed) both short head lemmas same stands = (
        proof_text,
        record {
          game = game;
          stands = proof_stands version p the_head proof_text v is_proof;
          remarked = inr (asks.white_remarked, asks.black_remarked);
          both_remarked = inr (v, refl, both);
          planned = (asks.white_planned, asks.black_planned);
          few = asks.few;
          short = λ unknown. short (unknown_line v unknown);
        },
        stands_all false old mid held new the_head (remark_line asks.white_remark) (lines_of asks.white) (remark_line asks.black_remark) (lines_of asks.black)
            (verdict_line v)
            head lemmas stands,
      )

  -- the head was cut
  pub writes_head : (old new : Option (List ℕ)) (failed : Failed) → AppendsPrefix false old new the_head
      → Writes version nodes reach slots bytes p old new (Err failed)
  writes_head old new failed stands = (
    the_head,
    record {
      game = game;
      stands = head_stands version p the_head;
      remarked = inl refl;
      both_remarked = inl refl;
      planned = (tt, tt);
      few = omega arith;
      short = λ none. absurd (some_line none);
    },
    stands,
  )

  -- a remark or a lemma was cut
  pub writes_lemmas : (old mid new : Option (List ℕ)) (failed : Failed) (asks : Asks version p nodes reach slots mid new (Err WriteFault))
      → Appends old mid the_head
      → Writes version nodes reach slots bytes p old new (Err failed)
  writes_lemmas old mid new failed asks head =
      let text = the_head ++ middle mid new (Err WriteFault) asks in (
        text,
        record {
          game = game;
          stands = lemmas_stand version p the_head text asks.white_remark asks.white asks.mid asks.black_remark asks.black asks.after asks.white_right
              asks.black_right
              asks.white_sided asks.black_sided
              (in_turn slots reach p asks.mid asks.black_remark asks.black asks.black_remarked) asks.white_line asks.black_line refl;
          remarked = inr (asks.white_remarked, asks.black_remarked);
          both_remarked = inl refl;
          planned = (asks.white_planned, asks.black_planned);
          few = asks.few;
          short = λ none. absurd (some_line none);
        },
        AppendsPrefix_more false old mid new the_head (middle mid new (Err WriteFault) asks) head asks.text,
      )
