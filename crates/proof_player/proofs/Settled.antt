-- Through mirror images to the reason at which play stands.
use Rattle.std.proofs.Common.{◌≡◌, ℕ, zero, suc, ◌-◌, ◌<◌, ◌≤◌, Bool, not, List, [], length, Some, sym, ap, ◌∙◌, subst, arith}
use Rattle.std.specs.List.{slice_get}
use Rattle.std.specs.Option.{option_map}
use Rattle.std.proofs.lemmas.Option.{some_pair_parts}
use Rattle.game_rules.specs.Position.{Position}
use Rattle.game_rules.specs.Mirror.{mirror}
use Rattle.game_rules.proofs.Moves.{room_column}
use Rattle.proof_text.specs.Lemma.{Reason, ByOne, ByMirror, Cite, Lemma}
use Rattle.proof_text.specs.Right.{HasReason}
use Rattle.proof_text.proofs.Append.{Shows_number, length_shown}
use Rattle.follow_text.specs.Following.{seen, reason_at, behind_mirrors}
use Rattle.follow_text.proofs.Behind.{behind_it, through_mirror}
use Rattle.follow_text.proofs.Seen.{seen_cols}
use Rattle.proof_player.specs.Playing.{IsLemmaOf, StandsAt}

-- the number is one of the list's
pub within : (ls : List Lemma) (n : ℕ) → IsLemmaOf ls n → (1 ≤ n) × (n ≤ length ls)
within ls n is =
    let bound = Shows_number is.after n is.at is.claim is.shows in
    (bound.0, omega (arith, bound.1, length_shown is.root [] ls is.after is.right))

pub is_lemma : (ls : List Lemma) (n : ℕ) (turned : Bool) (q : Position) → StandsAt ls n turned q → IsLemmaOf ls n
is_lemma ls n turned q is = record { root = is.root; after = is.after; at = seen turned q; claim = is.claim; right = is.right; shows = is.shows }

-- what a book lends of the lemma with a number is its reason
pub numbered : (ls : List Lemma) (n : ℕ) (reason : Reason) → 1 ≤ n → option_map (λ (l : Lemma). l.reason) (slice_get ls (n - 1)) ≡ Some reason
    → reason_at ls n ≡ Some reason
numbered ls zero reason low h = absurd (omega arith)
numbered ls (suc i) reason low h = ap (λ k. option_map (λ (l : Lemma). l.reason) (slice_get ls k)) (let same : i ≡ suc i - 1 = omega arith in same) ∙ h

-- one step through a mirror image
pub record IsStep (ls : List Lemma) (n m : ℕ) (turned : Bool) : Type 0 where
  pub lemma : IsLemmaOf ls m
  pub lower : m < n
  pub same : behind_mirrors ls n turned ≡ behind_mirrors ls m (not turned)

pub step : (ls : List Lemma) (n m : ℕ) (turned : Bool) → IsLemmaOf ls n → reason_at ls n ≡ Some (ByMirror m) → IsStep ls n m turned
step ls n m turned is reason =
    let leads = through_mirror is.root ls is.after n m turned is.at is.claim is.right is.shows reason in
    record {
      lemma = record { root = is.root; after = is.after; at = mirror is.at; claim = is.claim; right = is.right; shows = leads.shows };
      lower = leads.lower;
      same = leads.same;
    }

-- the column of a `one` lies on the board
pub one_within : (ls : List Lemma) (n : ℕ) (turned board : Bool) (q : Position) (cite : Cite) → StandsAt ls n turned q
    → behind_mirrors ls n turned ≡ Some (ByOne cite, board) → cite.column < length q.columns
one_within ls n turned board q cite stands is =
    let behind = behind_it stands.root ls stands.after n turned q stands.claim stands.right stands.shows in
    let parts = some_pair_parts behind.reason (ByOne cite) behind.turned board (sym behind.is ∙ is) in
    of_one (subst (λ b. HasReason stands.after (seen b q) stands.claim (ByOne cite)) parts.1
    (subst (HasReason stands.after (seen behind.turned q) stands.claim) parts.0 behind.right))
  where
    of_one : HasReason stands.after (seen board q) stands.claim (ByOne cite) → cite.column < length q.columns
    of_one h = subst (λ n. cite.column < n) (seen_cols board q) (room_column (seen board q) cite.column h.playable)
