-- The search through the moves of a position, one step after another: what it keeps, and what each way out of it needs.
use Rattle.std.proofs.Common.{◌≡◌, ℕ, ◌+◌, ◌<◌, ◌≤◌, Bool, true, false, not, List, [], ◌∷◌, ◌++◌, length, get_or, set, Some, None, Result, Ok, Err}
use Rattle.std.proofs.Common.{IsErrAnd, refl, sym, ap, ◌∙◌, arith}
use mathlib.Core.Bool.{beq}
use Rattle.std.proofs.lemmas.List.{length_push, length-set, get_or_default}
use Rattle.std.proofs.lemmas.Result.{err_from_is_err_and}
use Rattle.game_rules.specs.Position.{Position, has_room, after_move, empty_count, played, end_of, side_to_move, open_columns}
use Rattle.game_rules.specs.Value.{wins}
use Rattle.game_rules.specs.Cost.{centre_out, count}
use Rattle.game_rules.specs.Questions.{side_asked}
use Rattle.game_rules.specs.declared.Question.{Question}
use Rattle.game_rules.specs.declared.Side.{Side}
use Rattle.game_rules.specs.contracts.SidePartialEq.TheImpl.{eq-value}
use Rattle.game_rules.proofs.Moves.{empty_count_moved, cols_moved}
use Rattle.proof_text.specs.Lemma.{claim_for, ByOne, ByAll}
use Rattle.proof_text.specs.Right.{Shown, HasReason}
use Rattle.proof_text.specs.Spelling.{longest_path}
use Rattle.deep_search.specs.Planned.{solved_within}
use Rattle.deep_search.specs.Search.{cites_from, Stand, Searched, Moment, Solves}
use Rattle.deep_search.specs.Tables.{FitsTable, IsTrueTable, OnlyBelow}
use Rattle.proof_text.specs.declared.Version.{Version}
use Rattle.deep_search.specs.declared.solving.Answer.{Answer}
use Rattle.deep_search.specs.declared.solving.SearchStop.{SearchStop}
use Rattle.deep_search.proofs.Tables.{below_same, below_then}
use Rattle.deep_search.proofs.Moves.{Tried, IsNext, IsAsked, own_told, tried_none, tried_full, tried_more, same_from_beq, apart_from_beq}
use Rattle.deep_search.proofs.Proving.{SoFar, same_itself, so_far_start, so_far_full, so_far_more, played_more, stopped_by_move, closed_by_one, closed_by_all}

-- ---- one move further

pub empty_after : (p : Position) (c : ℕ) {next : Position} → next ≡ after_move p c → has_room p c ≡ true → empty_count next + 1 ≡ empty_count p
empty_after p c is room = ap (λ p. empty_count p + 1) is ∙ empty_count_moved p c room

pub order_after : (p : Position) (c : ℕ) {next : Position} {order : List ℕ} → order ≡ centre_out (length p.columns) → next ≡ after_move p c
    → order ≡ centre_out (length next.columns)
order_after p c in_order is = in_order ∙ ap centre_out (sym (ap (λ p. length p.columns) is ∙ cols_moved p c))

pub deep_after : (p : Position) (c : ℕ) (path : List ℕ) {next : Position} {longer : List ℕ} → next ≡ after_move p c → has_room p c ≡ true
    → longer ≡ path ++ c ∷ []
    → length path + empty_count p ≤ longest_path → length longer + empty_count next ≤ longest_path
deep_after p c path is room longer deep = let fewer = empty_after p c is room in omega (arith, fewer, ap length longer, length_push path c, deep)

pub played_after : (root p : Position) (c : ℕ) (path : List ℕ) {next : Position} {longer : List ℕ} → longer ≡ path ++ c ∷ [] → next ≡ after_move p c
    → played root path ≡ Some p
    → end_of p ≡ None → has_room p c ≡ true → played root longer ≡ Some next
played_after root p c path longer is along going room =
    ap (played root) longer ∙ played_more root path p c along going room ∙ ap (λ p. Some p) (sym is)

-- the exit of a `?`
pub stop_is : {A E : Type 0} {r : Result A E} {stop : E} → IsErrAnd r (λ e. e ≡ stop) → r ≡ Err stop
stop_is {r = r} err = let found = err_from_is_err_and r err in found.1 ∙ ap (λ e. Err e) found.2

-- ---- what the search keeps

-- The moves before place i were searched, and none decided.
pub record Searching (question : Question) (reach : ℕ) (version : Version) (p : Position) (own : Bool) (order first : List ℕ) (was : Stand) (old : Moment)
    (path : List ℕ)
    (now : Stand) (new : Moment) (numbers : List ℕ) (i : ℕ) : Type 0 where
  pub asked : IsAsked (solved_within reach) (side_asked question) p own
  pub in_order : order ≡ centre_out (length p.columns)
  pub tried : Tried (solved_within reach) (side_asked question) p order (was.budget + 1) now.budget i
  pub fell : now.budget ≤ was.budget
  pub few : now.lemmas + now.budget ≤ was.lemmas + was.budget
  pub more : was.lemmas ≤ now.lemmas
  pub later : was.faults ≤ now.faults
  pub entries : IsTrueTable new.table now.lemmas
  pub below : OnlyBelow (empty_count p) old.table new.table
  pub same_path : path ≡ first
  pub ten : length numbers ≡ 10
  pub wrote : (root : Position) (known : List Shown) → played root first ≡ Some p → length known ≡ was.lemmas → FitsTable old.table known
      → SoFar root p question reach version own known old new now.lemmas numbers order i

-- before the first move
pub starts : {question : Question} {reach : ℕ} {version : Version} {p : Position} {own : Bool} {order first : List ℕ} {was : Stand} {old : Moment}
    {numbers : List ℕ}
    {asked to_move : Side} → end_of p ≡ None → solved_within reach (side_asked question) p ≡ false → own ≡ eq-value.it asked to_move
    → asked ≡ side_asked question → to_move ≡ side_to_move p → order ≡ centre_out (length p.columns) → IsTrueTable old.table was.lemmas
    → length numbers ≡ 10 → Searching question reach version p own order first was old first was old numbers 0
starts {question} {reach} {version} {p} {own} {order} {first} {was} {old} {numbers} {asked}
    {to_move} going unsolved is is_asked turn in_order entries ten = record {
      asked = record { going = going; open_here = unsolved; is_own = own_told own asked (side_asked question) to_move p is is_asked turn };
      in_order = in_order;
      tried = tried_none (solved_within reach) (side_asked question) p order (was.budget + 1) was.budget in_order (omega arith);
      fell = omega arith;
      few = omega arith;
      more = omega arith;
      later = omega arith;
      entries = entries;
      below = below_same old.table old.table (same_itself old.table) (empty_count p);
      same_path = refl;
      ten = ten;
      wrote = λ root known along many fits.
          so_far_start root p question reach version own known old.bytes old.table old.table was.lemmas numbers order (same_itself old.table) fits many;
    }

-- the move at a place, as the code has it
pub next_move : {p : Position} {order : List ℕ} {i c : ℕ} {room : Bool} → i < length order → c ≡ get_or order i c → room ≡ has_room p c → room ≡ true
    → IsNext p order i c
next_move {order = order} {i} {c} low item is passes = record { low = low; at = get_or_default order i 0 c low ∙ sym item; room = sym is ∙ passes }

module _ {question : Question} {reach : ℕ} {version : Version} {p : Position} {own : Bool} {order first path : List ℕ} {was now : Stand}
    {old mid : Moment} {numbers : List ℕ}
    {i : ℕ} (s : Searching question reach version p own order first was old path now mid numbers i) where
  -- the column at the place is full
  pub goes_past : {c : ℕ} {room : Bool} → i < length order → c ≡ get_or order i c → room ≡ has_room p c → room ≡ false
      → Searching question reach version p own order first was old path now mid numbers (i + 1)
  goes_past {c} low item is no' =
      let at : get_or order i 0 ≡ c = get_or_default order i 0 c low ∙ sym item in
      record {
        asked = s.asked;
        in_order = s.in_order;
        tried = tried_full (solved_within reach) (side_asked question) p order (was.budget + 1) now.budget i c low at (sym is ∙ no') s.tried;
        fell = s.fell;
        few = s.few;
        more = s.more;
        later = s.later;
        entries = s.entries;
        below = s.below;
        same_path = s.same_path;
        ten = s.ten;
        wrote = λ root known along many fits.
            so_far_full root p question reach version own known old mid now.lemmas numbers order i c (s.wrote root known along many fits) at (sym is ∙ no');
      }

  -- what the search after a move says of a whole search
  abbrev pub SolvesAfter : ℕ → Moment → ℕ → Result Answer SearchStop → Type 0
  SolvesAfter c new counted child = (root : Position) (known : List Shown) → played root path ≡ Some p → length known ≡ now.lemmas → FitsTable mid.table known
      → Solves root (after_move p c) question reach version known mid new counted child

  module _ {c : ℕ} (next : IsNext p order i c) {counted : ℕ} {new : Moment} {child : Result Answer SearchStop} (solves : SolvesAfter c new counted child) where
    behind : {root : Position} {known : List Shown} → played root first ≡ Some p
        → (so_far : SoFar root p question reach version own known old mid now.lemmas numbers order i)
        → Solves root (after_move p c) question reach version (known ++ so_far.wrote.shown) mid new counted child
    behind {root} {known} along so_far = solves root (known ++ so_far.wrote.shown) (ap (played root) s.same_path ∙ along) so_far.wrote.counted so_far.wrote.fits

    -- the search after the move stopped
    pub stops : {stop : SearchStop} {result : Result Answer SearchStop} {root : Position} {known : List Shown} → child ≡ Err stop → result ≡ Err stop
        → played root first ≡ Some p → length known ≡ was.lemmas → FitsTable old.table known
        → Solves root p question reach version known old new counted result
    stops {root = root} {known} was_stop is_stop along many fits =
        let so_far = s.wrote root known along many fits in
        stopped_by_move so_far s.asked.going s.asked.is_own c next.room was_stop is_stop (behind along so_far)

    -- the move decides
    pub decided : {found : Answer} {result : Result Answer SearchStop} {last : ℕ} {last_moment : Moment} {root : Position} {known : List Shown}
        → child ≡ Ok found
        → beq found.yes own ≡ true → played root first ≡ Some p → length known ≡ was.lemmas → FitsTable old.table known
        → ((also : List Shown) → length also ≡ counted → FitsTable new.table also
        → HasReason also p (claim_for (side_asked question) own) (ByOne (record { column = c; lemma = found.lemma }))
        → Solves root p question reach version also new last_moment last result)
        → Solves root p question reach version known old last_moment last result
    decided {found} {root = root} {known} was_found same along many fits tell =
        let so_far = s.wrote root known along many fits in
        closed_by_one so_far s.asked.going s.asked.is_own c was_found next.room (same_from_beq found.yes own same) (behind along so_far) tell

  -- the move doesn't decide
  pub goes_on : {c : ℕ} (next : IsNext p order i c) {after : Stand} {new : Moment} {child : Result Answer SearchStop}
      (solves : SolvesAfter c new after.lemmas child)
      {found : Answer} {longer : List ℕ} {place : ℕ} → child ≡ Ok found → found.yes ≡ wins (side_asked question) (after_move p c)
      → beq found.yes own ≡ false → after.budget < now.budget
      → now.budget ≤ after.budget + count (solved_within reach) (side_asked question) (after_move p c) → Searched now after (Ok found) → longer ≡ path
      → OnlyBelow (empty_count p) mid.table new.table → IsTrueTable new.table after.lemmas → place ≡ c → place < 10
      → Searching question reach version p own order first was old longer after new (set numbers place found.lemma) (i + 1)
  goes_on {c} next {after} {new} {child} solves {found} {longer} {place} was_found answer other fell left searched same_path below entries is_place within =
      let apart = apart_from_beq found.yes own other in
      record {
        asked = s.asked;
        in_order = s.in_order;
        tried = tried_more s.asked s.tried next answer after.budget apart left;
        fell = omega (arith, fell, s.fell);
        few = omega (arith, searched.few, s.few);
        more = omega (arith, searched.more, s.more);
        later = omega (arith, searched.later, s.later);
        entries = entries;
        below = below_then (empty_count p) (empty_count p) (empty_count p) old.table mid.table new.table s.below below (omega arith) (omega arith);
        same_path = same_path ∙ s.same_path;
        ten = length-set numbers place found.lemma ∙ s.ten;
        wrote = λ root known along many fits.
            let so_far = s.wrote root known along many fits in
            rw is_place (so_far_more root p question reach version own known old mid now.lemmas numbers order i c so_far next.at new after.lemmas found
            child was_found
            next.room (omega (arith, is_place, within, s.ten)) apart (behind next solves along so_far));
      }

  -- none decided
  pub closed : {result : Result Answer SearchStop} {last : ℕ} {last_moment : Moment} {root : Position} {known : List Shown} → length order ≤ i
      → played root first ≡ Some p → length known ≡ was.lemmas → FitsTable old.table known
      → ((also : List Shown) → length also ≡ now.lemmas → FitsTable mid.table also
      → HasReason also p (claim_for (side_asked question) (not own)) (ByAll (cites_from numbers (open_columns p)))
      → Solves root p question reach version also mid last_moment last result)
      → Solves root p question reach version known old last_moment last result
  closed {root = root} {known} all along many fits tell =
      closed_by_all (s.wrote root known along many fits) s.asked.going s.asked.is_own all s.in_order tell
