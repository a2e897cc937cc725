-- What a run of `prove` wrote, by its status.
use Rattle.std.proofs.Common.{◌≡◌, ℕ, List, Option, Some, None, Ok, Err, IfSome, ◌⊎◌, refl, subst, inl, inr, arith}
use Rattle.proof_text.specs.declared.Verdict.TheVariants as verdicts
use Rattle.proof_text.specs.declared.Version.{Version}
use Rattle.run_frame.specs.Streams.{Streams}
use Rattle.run_frame.specs.declared.game_input.InputStop.TheVariants as stops
use Rattle.run_frame.specs.declared.run_stop.MemoryStop.TheVariants.{Input, Memory}
use Rattle.run_frame.specs.declared.run_stop.RunStop.TheVariants.{Own, Write}
use Rattle.run_frame.specs.declared.run_stop.Sought.TheVariants.{Found, Missing}
use Rattle.victor_run.specs.Proves.{Proved, proved_status, Proves, ProveRuns}
use Rattle.run_callers.specs.Held.{HoldsProof}

-- a status that is neither of two
other_status : {one another : ℕ} (code : ℕ) → (code ≡ one) ⊎ (code ≡ another) → (code ≡ one → ⊥) → (code ≡ another → ⊥) → ⊥
other_status code (inl is) not_one not_another = not_one is
other_status code (inr is) not_one not_another = not_another is

module _ (version : Version) (last_read nodes reach : ℕ) (front : Option ℕ) (input left : Option (List ℕ)) (old new : List ℕ) where
  abbrev run_streams : Streams
  run_streams = record { input = input; left = left; last_read = last_read; old = Some old; new = Some new }

  proof_of : (end : Proved) → Proves version nodes reach front run_streams end → (proved_status end ≡ 0) ⊎ (proved_status end ≡ 5)
      → HoldsProof version nodes reach front old new
  proof_of (Ok Found) o ended =
      let proved = o.holds.0 in
      record {
        game = o.taken;
        position = proved.position;
        is_game = proved.game;
        verdict = proved.verdict;
        text = proved.text;
        proof = proved.proof;
        behind = proved.written;
      }
  proof_of (Ok Missing) o ended =
      let short = o.holds.0 in
      record {
        game = o.taken;
        position = short.position;
        is_game = short.game;
        verdict = verdicts.Unknown;
        text = short.text;
        proof = short.proof;
        behind = short.written;
      }
  proof_of (Err Write) o ended = absurd (other_status 7 ended (λ (e : 7 ≡ 0). omega (arith, e)) (λ (e : 7 ≡ 5). omega (arith, e)))
  proof_of (Err (Own (Input (stops.NoGame fault)))) o ended = absurd (other_status 3 ended (λ (e : 3 ≡ 0). omega (arith, e)) (λ (e : 3 ≡ 5). omega (arith, e)))
  proof_of (Err (Own (Input stops.Read))) o ended = absurd (other_status 6 ended (λ (e : 6 ≡ 0). omega (arith, e)) (λ (e : 6 ≡ 5). omega (arith, e)))
  proof_of (Err (Own Memory)) o ended = absurd (other_status 8 ended (λ (e : 8 ≡ 0). omega (arith, e)) (λ (e : 8 ≡ 5). omega (arith, e)))

  -- behind what was there stands the proof that a run of `prove` wrote
  pub holds_proof : (status : ℕ) (text : List ℕ) → ProveRuns version nodes reach front run_streams status text → (status ≡ 0) ⊎ (status ≡ 5)
      → HoldsProof version nodes reach front old new
  holds_proof status text o ended = proof_of o.ending o.holds (subst (λ status. (status ≡ 0) ⊎ (status ≡ 5)) o.status_is ended)

-- an end with status 0 is that of a run that wrote a proof of the value, and one with 8 is for want of memory
pub is_done : (end : Proved) → (proved_status end ≡ 0) ⊎ (proved_status end ≡ 8) → (end ≡ Ok Found) ⊎ (end ≡ Err (Own Memory))
is_done (Ok Found) h = inl refl
is_done (Err (Own Memory)) h = inr refl
is_done (Ok Missing) h = absurd (other_status 5 h (λ (e : 5 ≡ 0). omega (arith, e)) (λ (e : 5 ≡ 8). omega (arith, e)))
is_done (Err (Own (Input (stops.NoGame fault)))) h = absurd (other_status 3 h (λ (e : 3 ≡ 0). omega (arith, e)) (λ (e : 3 ≡ 8). omega (arith, e)))
is_done (Err (Own (Input stops.Read))) h = absurd (other_status 6 h (λ (e : 6 ≡ 0). omega (arith, e)) (λ (e : 6 ≡ 8). omega (arith, e)))
is_done (Err Write) h = absurd (other_status 7 h (λ (e : 7 ≡ 0). omega (arith, e)) (λ (e : 7 ≡ 8). omega (arith, e)))

-- what holds of all that a source has, if it tells
pub of_some : (input : Option (List ℕ)) (bytes : List ℕ) (Q : List ℕ → Type 0) → input ≡ Some bytes → IfSome input Q → Q bytes
of_some None bytes Q told is = absurd (cc (told))
of_some (Some other) bytes Q told is = let same : other ≡ bytes = cc in subst Q same is
