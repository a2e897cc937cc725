-- The lemmas of a search at one position: what they are after some of its moves, and how its own lemma closes them.
use Rattle.std.proofs.Common.{◌≡◌, ◌≢◌, ℕ, suc, ◌+◌, ◌<◌, ◌≤◌, Bool, true, false, not, List, [], ◌∷◌, ◌++◌, map, filter, cond, Option, Some, None, Result, Ok}
use Rattle.std.proofs.Common.{Err, IfOk, OnOk, IfSome, length, take, ◌-◌, get_or, set, refl, sym, ap, ◌∙◌, subst, inl, inr, arith, append-nil, append_assoc}
use Rattle.std.proofs.Common.{length-append}
use Rattle.std.specs.List.{AllByRecursion}
use Rattle.std.proofs.KnownBytes.{Appends-nil}
use Rattle.std.proofs.lemmas.Bool.{cases_eq, both_ways}
use Rattle.std.proofs.lemmas.List.{get_or-set_same, get_or-set_other, map-append, length_push, take_at}
use Rattle.std.proofs.lemmas.List.Elements.{filter-append}
use Rattle.device_rules.specs.Devices.{AppendsPrefix}
use Rattle.game_rules.specs.Board.{below}
use Rattle.game_rules.specs.Position.{Position, has_room, after_move, empty_count, played, is_legal, end_of, same_side, side_to_move, open_columns}
use Rattle.game_rules.specs.Value.{same_end, win_of}
use Rattle.game_rules.specs.Cost.{centre_out}
use Rattle.game_rules.specs.declared.End.{End}
use Rattle.game_rules.proofs.Lists.{chosen, Among, Among-filter_gives, Among-below_gives, below_more}
use Rattle.game_rules.proofs.Costs.{Among-centre_out}
use Rattle.game_rules.proofs.Moves.{empty_count_moved}
use Rattle.game_rules.specs.Questions.{side_asked}
use Rattle.game_rules.specs.declared.Question.{Question}
use Rattle.game_rules.specs.declared.Side.{Side}
use Rattle.game_rules.specs.declared.Side.TheVariants.{White, Black}
use Rattle.proof_text.specs.declared.Claim.{Claim}
use Rattle.proof_text.specs.Lemma.{claim_side, claim_for, claim_of_end, agrees, Reason, ByEnd, ByOne, ByAll, Lemma, has_reason}
use Rattle.proof_text.specs.Right.{Shown, Shows, IsCited, goes_by_one, HasReason, AreRight}
use Rattle.proof_text.specs.Spelling.{lemma_line, members_in, IsShort}
use Rattle.proof_text.proofs.Spaced.{all_append}
use Rattle.proof_text.proofs.Append.{Shows_more, Shows_last, AreRight_append}
use Rattle.deep_search.specs.Planned.{plan_in, plan_for, IsPlanned}
use Rattle.position_table.specs.Table.{Entries}
use Rattle.position_table.specs.declared.table.Found.{Found}
use Rattle.deep_search.specs.Tables.{held, FitsTable, HasSame, StaysWhole, KeepsEntry}
use Rattle.deep_search.specs.Search.{is_whole, uncounted, cites_from, Moment, moment, AppendsLemmas, IsNew, Wrote, AreBelow, limit_of, Solves}
use Rattle.deep_search.proofs.Tables.{fits_same, fits_kept, fits_more, stays_same, stays_then}
use Rattle.deep_search.proofs.News.{new_nothing, new_then}
use Rattle.deep_search.proofs.Cut.{one_lemma, lemmas_then}
use Rattle.deep_search.proofs.Moves.{other_from_apart}
use Rattle.deep_search.proofs.Below.{below_raised, below_both, limit_least, limit_most}
use Rattle.proof_text.specs.declared.Version.{Version}
use Rattle.deep_search.specs.declared.solving.Answer.{Answer}
use Rattle.deep_search.specs.declared.solving.SearchStop.{SearchStop}
use Rattle.deep_search.specs.declared.solving.SearchStop.TheVariants.{Spent, WriteFault}
use Rattle.plan_rules.specs.declared.TheConstants.{MOST_MEMBERS}
use Rattle.std.proofs.lemmas.Option.{none-some, same_Some}

-- ---- the lemma of a position, and what stands before it

pub side_claimed : (side : Side) (won : Bool) → claim_side (claim_for side won) ≡ side
side_claimed White true = refl
side_claimed White false = refl
side_claimed Black true = refl
side_claimed Black false = refl

-- the next lemma of a position
abbrev pub lemma_next : ℕ → List ℕ → Side → Bool → Reason → Lemma
lemma_next count path side won reason = record { number = count + 1; path = path; claim = claim_for side won; reason = reason }

-- the answer names the next lemma
abbrev pub IsDetermined : Bool → ℕ → Result Answer SearchStop → Type 0
IsDetermined won count result = IfOk result (λ answer. (answer.lemma ≡ count + 1) × (answer.yes ≡ won))

-- what the table is after a lemma: it has it, or the lemma was cut and the table is as before
abbrev pub IsAfter : Position → Question → Bool → ℕ → Entries → Entries → Result Answer SearchStop → Type 0
IsAfter p question won count before after (Ok answer) = KeepsEntry p question (record { lemma = count + 1; answer = won }) before after
IsAfter p question won count before after (Err stop) = (is_whole (Err stop) ≡ false) × (after ≡ before)

fits_after : (p : Position) (question : Question) (won : Bool) (count : ℕ) (before after : Entries) (known : List Shown) (result : Result Answer SearchStop)
    → length known ≡ count → FitsTable before known → IsAfter p question won count before after result
    → FitsTable after (known ++ (p, claim_for (side_asked question) won) ∷ [])
fits_after p question won count before after known (Ok answer) many fits kept = fits_kept p question (record { lemma = count + 1; answer = won }) before after
    known kept fits (ap (λ n. n + 1) (sym many))
fits_after p question won count before after known (Err stop) many fits (cut, same) =
    subst (λ t. FitsTable t (known ++ (p, claim_for (side_asked question) won) ∷ [])) (sym same)
    (fits_more before known ((p, claim_for (side_asked question) won) ∷ []) fits)

stays_after : (p : Position) (question : Question) (won : Bool) (count : ℕ) (before after : Entries) (result : Result Answer SearchStop)
    → IsAfter p question won count before after result → StaysWhole before after
stays_after p question won count before after (Ok answer) kept = kept.stays
stays_after p question won count before after (Err stop) (cut, same) = subst (StaysWhole before) (sym same)
    (record { was = λ now. now; there = λ now p question gone. gone })

new_after : (p : Position) (question : Question) (won : Bool) (count : ℕ) (before after : Entries) (result : Result Answer SearchStop)
    → held before p question ≡ None → IsAfter p question won count before after result
    → IsNew (is_whole result) question ((p, claim_for (side_asked question) won) ∷ []) before after
new_after p question won count before after (Ok answer) absent kept = record {
  fresh = λ now. (absent, tt);
  once = λ now. (tt, tt);
  kept = λ whole now. ((λ gone. none-some _ (sym gone ∙ kept.there now)), tt);
}
new_after p question won count before after (Err stop) absent (cut, same) = record {
  fresh = λ now. (absent, tt);
  once = λ now. (tt, tt);
  kept = λ whole now. absurd (both_ways (is_whole (Err stop)) cut whole);
}

-- a position's own lemma is begun only where the search isn't spent
limit_after : (p : Position) (question : Question) (won : Bool) (count : ℕ) (before after : Entries) (result : Result Answer SearchStop)
    → IsAfter p question won count before after result → empty_count p < limit_of p result
limit_after p question won count before after (Ok answer) kept = omega arith
limit_after p question won count before after (Err Spent) (cut, same) = absurd (both_ways true cut refl)
limit_after p question won count before after (Err WriteFault) (cut, same) = omega arith

-- a lemma that is right behind what is known
pub right_lemma : (root p : Position) (question : Question) (reach : ℕ) (version : Version) (won : Bool) (said : Claim) (known : List Shown) (path : List ℕ)
    (reason : Reason)
    (old new : Moment) (count counted : ℕ) (result : Result Answer SearchStop)
    → said ≡ claim_for (side_asked question) won → played root path ≡ Some p → length known ≡ count → FitsTable old.table known
    → held old.table p question ≡ None
    → HasReason known p (claim_for (side_asked question) won) reason → plan_in reason ≡ plan_for reach (side_asked question) p
    → length (members_in reason) ≤ MOST_MEMBERS → has_reason version reason ≡ true
    → AppendsPrefix (is_whole result) old.bytes new.bytes (lemma_line (record { number = count + 1; path = path; claim = said; reason = reason }))
    → counted + uncounted result ≡ count + 1 → IsDetermined won count result
    → IsAfter p question won count old.table new.table result → Solves root p question reach version known old new counted result
right_lemma root p question reach version won said known path reason old new count counted result is_said along many fits absent right planned short
    had stands number
    answer
    after = record {
      wrote = record {
        more = lemma_next count path (side_asked question) won reason ∷ [];
        shown = (p, claim_for (side_asked question) won) ∷ [];
        text = one_lemma (is_whole result) old.bytes new.bytes (lemma_next count path (side_asked question) won reason)
            (subst (AppendsPrefix (is_whole result) old.bytes new.bytes)
            (ap (λ claim. lemma_line (record { number = count + 1; path = path; claim = claim; reason = reason })) is_said) stands);
        right = (p, record { next = ap (λ n. n + 1) (sym many); along = along; reason = right }, refl);
        counted = omega (arith, length-append known ((p, claim_for (side_asked question) won) ∷ []), number, many);
        sided = ((side_claimed (side_asked question) won, short, had), tt);
        planned = (
          subst (λ at. IfSome at (λ q. plan_in reason ≡ plan_for reach (claim_side (claim_for (side_asked question) won)) q)) (sym along)
              (planned ∙ ap (λ side. plan_for reach side p) (sym (side_claimed (side_asked question) won))),
          tt,
        );
        fits = fits_after p question won count old.table new.table known result many fits after;
        stays = stays_after p question won count old.table new.table result after;
        new_ones = new_after p question won count old.table new.table result absent after;
      };
      below = (limit_after p question won count old.table new.table result after, tt);
      named = by result answer;
    }
  where
    by : (result : Result Answer SearchStop) → IsDetermined won count result
        → IfOk result (λ answer. Shows (known ++ (p, claim_for (side_asked question) won) ∷ []) answer.lemma p (claim_for (side_asked question) answer.yes))
    by (Err stop) answer = tt
    by (Ok answer) (number, yes') = rw (number, yes', ← many) (Shows_last known p (claim_for (side_asked question) won))

pub same_itself : (t : Entries) → HasSame t t
same_itself t = record { entries = λ p question. refl; whole = refl }

-- nothing was written, and the table has what it had
abbrev pub wrote_nothing : (root : Position) (question : Question) (reach : ℕ) (version : Version) (known : List Shown) (bytes : Option (List ℕ))
    (before after : Entries)
    (total : ℕ) → HasSame before after → FitsTable before known → length known ≡ total
    → Wrote true root question reach version known (moment before bytes) (moment after bytes) total
wrote_nothing root question reach version known bytes before after total same fits many = record {
  more = [];
  shown = [];
  text = Appends-nil bytes;
  right = append-nil known;
  counted = ap length (append-nil known) ∙ many;
  sided = tt;
  planned = tt;
  fits = subst (FitsTable after) (sym (append-nil known)) (fits_same before after same known fits);
  stays = stays_same before after same;
  new_ones = new_nothing true question before after;
}

-- what the table has answers the question
pub solves_found : (root p : Position) (question : Question) (reach : ℕ) (version : Version) (known : List Shown) (bytes : Option (List ℕ))
    (before after : Entries) (count : ℕ)
    (f : Found) → HasSame before after → FitsTable before known → held before p question ≡ Some f
    → length known ≡ count → Solves root p question reach version known (moment before bytes) (moment after bytes) count
    (Ok (record { yes = f.answer; lemma = f.lemma }))
solves_found root p question reach version known bytes before after count f same fits there many = record {
  wrote = wrote_nothing root question reach version known bytes before after (count + 0) same fits (omega (arith, many));
  below = tt;
  named = subst (λ all. Shows all f.lemma p (claim_for (side_asked question) f.answer)) (sym (append-nil known)) (fits p question f there);
}

-- a search that takes nothing from the budget writes nothing
pub solves_spent : {root : Position} {question : Question} {reach : ℕ} {version : Version} {known : List Shown} {bytes : Option
    (List ℕ)} {table : Entries} {count : ℕ}
    (p : Position)
    → length known ≡ count → FitsTable table known → Solves root p question reach version known (moment table bytes) (moment table bytes) count (Err Spent)
solves_spent {root} {question} {reach} {version} {known} {bytes} {table} {count} p many fits = record {
  wrote = wrote_nothing root question reach version known bytes table table (count + 0) (same_itself table) fits (omega (arith, many));
  below = tt;
  named = tt;
}

-- what was written after a look-up was written after the moment before it
pub solves_entered : (root p : Position) (question : Question) (reach : ℕ) (version : Version) (known : List Shown) (old mid new : Moment) (count : ℕ)
    (result : Result Answer SearchStop)
    → HasSame old.table mid.table → mid.bytes ≡ old.bytes → Solves root p question reach version known mid new count result
    → Solves root p question reach version known old new count result
solves_entered root p question reach version known old mid new count result same bytes rest = record {
  wrote = record {
    more = rest.wrote.more;
    shown = rest.wrote.shown;
    text = subst (λ bytes. AppendsLemmas (is_whole result) rest.wrote.more bytes new.bytes) bytes rest.wrote.text;
    right = rest.wrote.right;
    counted = rest.wrote.counted;
    sided = rest.wrote.sided;
    planned = rest.wrote.planned;
    fits = rest.wrote.fits;
    stays = stays_then old.table mid.table new.table (stays_same old.table mid.table same) rest.wrote.stays;
    new_ones = new_then (is_whole result) question [] rest.wrote.shown old.table mid.table new.table (stays_same old.table mid.table same) rest.wrote.stays
        (new_nothing true question old.table mid.table) rest.wrote.new_ones;
  };
  below = rest.below;
  named = rest.named;
}

-- what stands after some lemmas, and more behind them
module _ (root : Position) (question : Question) (reach : ℕ) (version : Version) (known : List Shown) (old mid new : Moment) (middle : ℕ)
    (first : Wrote true root question reach version known old mid middle) where
  abbrev pub then_wrote : (whole : Bool) (count total : ℕ) → count ≡ total → Wrote whole root question reach version (known ++ first.shown) mid new count
      → Wrote whole root question reach version known old new total
  then_wrote whole count total same rest = record {
    more = first.more ++ rest.more;
    shown = first.shown ++ rest.shown;
    text = lemmas_then whole old.bytes mid.bytes new.bytes first.more rest.more first.text rest.text;
    right = subst (AreRight root known (first.more ++ rest.more)) (append_assoc known first.shown rest.shown)
        (AreRight_append root known (known ++ first.shown) ((known ++ first.shown) ++ rest.shown) first.more rest.more first.right rest.right);
    counted = ap length (sym (append_assoc known first.shown rest.shown)) ∙ rest.counted ∙ same;
    sided = all_append (λ l. (claim_side l.claim ≡ side_asked question) × IsShort l
        × (has_reason version l.reason ≡ true)) first.more rest.more first.sided rest.sided;
    planned = all_append (IsPlanned reach root) first.more rest.more first.planned rest.planned;
    fits = subst (FitsTable new.table) (append_assoc known first.shown rest.shown) rest.fits;
    stays = stays_then old.table mid.table new.table first.stays rest.stays;
    new_ones = new_then whole question first.shown rest.shown old.table mid.table new.table first.stays rest.stays first.new_ones rest.new_ones;
  }

  pub then_solves : (p : Position) (count : ℕ) (result : Result Answer SearchStop) → AreBelow (limit_of p result) first.shown
      → Solves root p question reach version (known ++ first.shown) mid new count result → Solves root p question reach version known old new count result
  then_solves p count result below rest = record {
    wrote = then_wrote (is_whole result) (count + uncounted result) (count + uncounted result) refl rest.wrote;
    below = below_both (limit_of p result) first.shown rest.wrote.shown below rest.below;
    named = subst (λ all. IfOk result (λ answer. Shows all answer.lemma p (claim_for (side_asked question) answer.yes)))
        (append_assoc known first.shown rest.wrote.shown) rest.named;
  }

  -- a search that stopped behind a move shows nothing of the position
  pub then_stopped : (p q : Position) (count : ℕ) (stop : SearchStop) → empty_count q + 1 ≡ empty_count p → AreBelow (empty_count p) first.shown
      → Solves root q question reach version (known ++ first.shown) mid new count (Err stop)
      → Solves root p question reach version known old new count (Err stop)
  then_stopped p q count stop fewer below rest = record {
    wrote = then_wrote (is_whole (Err stop)) (count + uncounted (Err stop)) (count + uncounted (Err stop)) refl rest.wrote;
    below = below_raised (empty_count p) (limit_of p (Err stop)) (first.shown ++ rest.wrote.shown) (limit_least p (Err stop))
        (below_both (empty_count p) first.shown rest.wrote.shown below
        (below_raised (limit_of q (Err stop)) (empty_count p) rest.wrote.shown (omega (arith, limit_most q (Err stop), fewer)) rest.below));
    named = tt;
  }

-- ---- after some of the moves

-- The moves before place i were searched, and none decided: each has a lemma, whose number stands at its column.
pub record SoFar (root p : Position) (question : Question) (reach : ℕ) (version : Version) (own : Bool) (known : List Shown) (old new : Moment) (count : ℕ)
    (numbers order : List ℕ)
    (i : ℕ) : Type 0 where
  pub wrote : Wrote true root question reach version known old new count
  pub below : AreBelow (empty_count p) wrote.shown
  pub moves : (k c : ℕ) → k < i → get_or order k 0 ≡ c → has_room p c ≡ true
      → Shows (known ++ wrote.shown) (get_or numbers c 0) (after_move p c) (claim_for (side_asked question) (not own))

module _ (root p : Position) (question : Question) (reach : ℕ) (version : Version) (own : Bool) (known : List Shown) where
  pub so_far_start : (bytes : Option (List ℕ)) (before after : Entries) (count : ℕ) (numbers order : List ℕ) → HasSame before after → FitsTable before known
      → length known ≡ count
      → SoFar root p question reach version own known (moment before bytes) (moment after bytes) count numbers order 0
  so_far_start bytes before after count numbers order same fits many = record {
    wrote = wrote_nothing root question reach version known bytes before after count same fits many;
    below = tt;
    moves = λ k c low _ _. absurd (omega arith);
  }

  module _ (old mid : Moment) (count : ℕ) (numbers order : List ℕ) (i c : ℕ)
      (so_far : SoFar root p question reach version own known old mid count numbers order i)
      (at : get_or order i 0 ≡ c) where
    -- a full column has no move
    pub so_far_full : has_room p c ≡ false → SoFar root p question reach version own known old mid count numbers order (i + 1)
    so_far_full full = record {
      wrote = so_far.wrote;
      below = so_far.below;
      moves = λ k d low place room. elim (cases_eq k i) [
        | inl here ↦ absurd (both_ways (has_room p c) full (ap (has_room p) (sym at ∙ ap (λ k. get_or order k 0) (sym here) ∙ place) ∙ room))
        | inr before ↦ so_far.moves k d (omega arith) place room
      ];
    }

    -- a move that doesn't decide
    pub so_far_more : (new : Moment) (counted : ℕ) (answer : Answer) (result : Result Answer SearchStop) → result ≡ Ok answer → has_room p c ≡ true
        → c < length numbers → (answer.yes ≡ own → ⊥) → Solves root (after_move p c) question reach version (known ++ so_far.wrote.shown) mid new counted result
        → SoFar root p question reach version own known old new counted (set numbers c answer.lemma) order (i + 1)
    so_far_more new counted answer result was room within apart child = answered
        (subst (λ r. Solves root (after_move p c) question reach version (known ++ so_far.wrote.shown) mid new counted r) was child)
      where
        other : answer.yes ≡ not own
        other = other_from_apart answer.yes own apart

        kept : (more : List Shown) (k d : ℕ) → k < i + 1 → get_or order k 0 ≡ d → has_room p d ≡ true → d ≢ c
            → Shows ((known ++ so_far.wrote.shown) ++ more) (get_or numbers d 0) (after_move p d) (claim_for (side_asked question) (not own))
        kept more k d low place room apart =
            let before : k < i = elim (cases_eq k i) [ inl here ↦ absurd (apart (sym place ∙ ap (λ k. get_or order k 0) here ∙ at)) | inr other ↦ omega arith ]
            in
            Shows_more (known ++ so_far.wrote.shown) more (get_or numbers d 0) (after_move p d) (claim_for (side_asked question) (not own))
            (so_far.moves k d before place room)

        answered : Solves root (after_move p c) question reach version (known ++ so_far.wrote.shown) mid new counted (Ok answer)
            → SoFar root p question reach version own known old new counted (set numbers c answer.lemma) order (i + 1)
        answered rest = record {
          wrote = then_wrote root question reach version known old mid new count so_far.wrote true (counted + 0) counted (omega arith) rest.wrote;
          below = below_both (empty_count p) so_far.wrote.shown rest.wrote.shown so_far.below
              (below_raised (empty_count (after_move p c) + 1) (empty_count p) rest.wrote.shown (omega (arith, empty_count_moved p c room)) rest.below);
          moves = λ k d low place room. subst
              (λ all. Shows all (get_or (set numbers c answer.lemma) d 0) (after_move p d) (claim_for (side_asked question) (not own)))
              (append_assoc known so_far.wrote.shown rest.wrote.shown) (elim (cases_eq d c) [
                | inl same ↦ rw (same, get_or-set_same numbers c answer.lemma 0 within, ← other) rest.named
                | inr apart ↦ rw (get_or-set_other numbers c d answer.lemma 0 apart) (kept rest.wrote.shown k d low place room apart)
              ]);
        }

-- ---- why a position's claim holds

agrees_itself : (b : Bool) → agrees b b ≡ true
agrees_itself true = refl
agrees_itself false = refl

agrees_not : (b : Bool) → agrees (not b) b ≡ false
agrees_not true = refl
agrees_not false = refl

goes : (side : Side) (won : Bool) (p : Position) → goes_by_one (claim_for side won) p ≡ agrees won (same_side side (side_to_move p))
goes White true p = refl
goes White false p = refl
goes Black true p = refl
goes Black false p = refl

said_of_end : (side : Side) (won : Bool) (end : End) → claim_of_end (claim_for side won) end ≡ agrees won (same_end (win_of side) end)
said_of_end White true end = refl
said_of_end White false end = refl
said_of_end Black true end = refl
said_of_end Black false end = refl

pub end_reason : (known : List Shown) (p : Position) (side : Side) (won : Bool) (end : End) → end_of p ≡ Some end → won ≡ same_end (win_of side) end
    → HasReason known p (claim_for side won) ByEnd
end_reason known p side won end ended told = record {
  end = end;
  ended = ended;
  holds = said_of_end side won end ∙ ap (agrees won) (sym told) ∙ agrees_itself won;
}

module _ (p : Position) (side : Side) (own : Bool) (going : end_of p ≡ None) (is_own : own ≡ same_side side (side_to_move p)) where
  pub one_reason : (known : List Shown) (c n : ℕ) → has_room p c ≡ true → Shows known n (after_move p c) (claim_for side own)
      → HasReason known p (claim_for side own) (ByOne (record { column = c; lemma = n }))
  one_reason known c n room shown = record {
    goes_on = going;
    serves = goes side own p ∙ ap (agrees own) (sym is_own) ∙ agrees_itself own;
    playable = room;
    cited = shown;
  }

  pub all_reason : (known : List Shown) (numbers : List ℕ)
      → ((c : ℕ) → Among c (open_columns p) → Shows known (get_or numbers c 0) (after_move p c) (claim_for side (not own)))
      → HasReason known p (claim_for side (not own)) (ByAll (cites_from numbers (open_columns p)))
  all_reason known numbers each = record {
    goes_on = going;
    serves = goes side (not own) p ∙ ap (agrees (not own)) (sym is_own) ∙ agrees_not own;
    playable = columns_cited (open_columns p);
    cited = all_cited (open_columns p) each;
  }
    where
      columns_cited : (columns : List ℕ) → map (λ cite. cite.column) (cites_from numbers columns) ≡ columns
      columns_cited [] = refl
      columns_cited (c ∷ columns) = ap (λ cs. c ∷ cs) (columns_cited columns)

      all_cited : (columns : List ℕ) → ((c : ℕ) → Among c columns → Shows known (get_or numbers c 0) (after_move p c) (claim_for side (not own)))
          → AllByRecursion (IsCited known p (claim_for side (not own))) (cites_from numbers columns)
      all_cited [] each = tt
      all_cited (c ∷ columns) each = (each c (inl refl), all_cited columns (λ d among. each d (inr among)))

pub place_among : (x : ℕ) (xs : List ℕ) → Among x xs → (k : ℕ) × (k < length xs) × (get_or xs k 0 ≡ x)
place_among x [] among = absurd among
place_among x (y ∷ ys) (inl same) = (0, omega arith, same)
place_among x (y ∷ ys) (inr later) = let rest = place_among x ys later in (suc rest.0, omega arith, rest.2)

-- after all moves, each playable column has its lemma
pub all_moves : (root p : Position) (question : Question) (reach : ℕ) (version : Version) (own : Bool) (known : List Shown) (old mid : Moment) (count : ℕ)
    (numbers order : List ℕ)
    (i : ℕ)
    (so_far : SoFar root p question reach version own known old mid count numbers order i) → length order ≤ i → order ≡ centre_out (length p.columns)
    → (c : ℕ) → Among c (open_columns p) → Shows (known ++ so_far.wrote.shown) (get_or numbers c 0) (after_move p c) (claim_for (side_asked question) (not own))
all_moves root p question reach version own known old mid count numbers order i so_far all is_order c among =
    let open' = Among-filter_gives (has_room p) (below (length p.columns)) c among in
    let place = place_among c order (subst (Among c) (sym is_order) (Among-centre_out (length p.columns) c (Among-below_gives (length p.columns) c open'.0))) in
    let low : place.0 < length order = place.1 in
    so_far.moves place.0 c (omega arith) place.2 open'.1

-- ---- the columns that are cited

pub cites_room : (p : Position) (numbers : List ℕ) (i : ℕ) → has_room p i ≡ true
    → cites_from numbers (filter (has_room p) (below (i + 1))) ≡ cites_from numbers (filter (has_room p) (below i))
    ++ record { column = i; lemma = get_or numbers i 0 } ∷ []
cites_room p numbers i room =
    ap (λ cs. cites_from numbers (filter (has_room p) cs)) (below_more i)
    ∙ ap (cites_from numbers) (filter-append (has_room p) (below i) (i ∷ []) ∙ ap (λ b. filter (has_room p) (below i) ++ cond b (i ∷ []) []) room)
    ∙ map-append (λ c. record { column = c; lemma = get_or numbers c 0 }) (filter (has_room p) (below i)) (i ∷ [])

pub cites_full : (p : Position) (numbers : List ℕ) (i : ℕ) → has_room p i ≡ false
    → cites_from numbers (filter (has_room p) (below (i + 1))) ≡ cites_from numbers (filter (has_room p) (below i))
cites_full p numbers i full =
    ap (λ cs. cites_from numbers (filter (has_room p) cs)) (below_more i)
    ∙ ap (cites_from numbers) (filter-append (has_room p) (below i) (i ∷ []) ∙ ap (λ b. filter (has_room p) (below i) ++ cond b (i ∷ []) []) full
    ∙ append-nil (filter (has_room p) (below i)))

-- ---- what is said of an answer alone

pub ok_more : {A E : Type 0} (r : Result A E) (P Q : A → Type 0) → IfOk r P → ((x : A) → P x → Q x) → IfOk r Q
ok_more (Ok x) P Q h more = more x h
ok_more (Err e) P Q h more = tt

pub on_ok : {A E : Type 0} (r : Result A E) (P : Type 0) → P → OnOk r P
on_ok (Ok x) P h = h
on_ok (Err e) P h = tt

-- ---- one move further along a path

pub played_more : (root : Position) (path : List ℕ) (p : Position) (c : ℕ) → played root path ≡ Some p → end_of p ≡ None → has_room p c ≡ true
    → played root (path ++ c ∷ []) ≡ Some (after_move p c)
played_more root [] p c along going room =
    let same : root ≡ p = same_Some root p along in
    ap (λ q. played q (c ∷ [])) same ∙ rw (going, room) refl
played_more root (d ∷ path) p c along going room = elim (chosen (is_legal root d) (played (after_move root d) path) None (Some p) along) [
  | inl legal ↦ rw legal.0 (played_more (after_move root d) path p c legal.1 going room)
  | inr not_legal ↦ absurd (cc not_legal.1)
]

-- ---- the position's own lemma, behind those of its moves

module _ {root p : Position} {question : Question} {reach : ℕ} {version : Version} {own : Bool} {known : List Shown} {old mid : Moment} {count : ℕ}
    {numbers order : List ℕ} {i : ℕ}
    (so_far : SoFar root p question reach version own known old mid count numbers order i) (going : end_of p ≡ None)
    (is_own : own ≡ same_side (side_asked question) (side_to_move p)) where
  -- the search after a move stopped
  pub stopped_by_move : (c : ℕ) {new : Moment} {counted : ℕ} {stop : SearchStop} {child result : Result Answer SearchStop} → has_room p c ≡ true
      → child ≡ Err stop
      → result ≡ Err stop
      → Solves root (after_move p c) question reach version (known ++ so_far.wrote.shown) mid new counted child
      → Solves root p question reach version known old new counted result
  stopped_by_move c {new} {counted} {stop} room was is_stop solves =
      rw is_stop (then_stopped root question reach version known old mid new count so_far.wrote p (after_move p c) counted stop (empty_count_moved p c room)
      so_far.below
      (subst (λ r. Solves root (after_move p c) question reach version (known ++ so_far.wrote.shown) mid new counted r) was solves))

  pub closed_by_one : (c : ℕ) {next new : Moment} {counted last : ℕ} {found : Answer} {child result : Result Answer SearchStop} → child ≡ Ok found
      → has_room p c ≡ true
      → found.yes ≡ own → Solves root (after_move p c) question reach version (known ++ so_far.wrote.shown) mid next counted child
      → ((also : List Shown) → length also ≡ counted → FitsTable next.table also
      → HasReason also p (claim_for (side_asked question) own) (ByOne (record { column = c; lemma = found.lemma }))
      → Solves root p question reach version also next new last result)
      → Solves root p question reach version known old new last result
  closed_by_one c {next} {new} {counted} {last} {found} {child} {result} was room same solves tell =
      let fewer : empty_count (after_move p c) + 1 ≡ empty_count p = empty_count_moved p c room in
      let all = then_solves root question reach version known old mid next count so_far.wrote (after_move p c) counted (Ok found)
      (below_raised (empty_count p) (empty_count (after_move p c) + 1) so_far.wrote.shown (omega (arith, fewer)) so_far.below)
      (subst (λ r. Solves root (after_move p c) question reach version (known ++ so_far.wrote.shown) mid next counted r) was solves) in
      let also = known ++ all.wrote.shown in
      let shown : Shows also found.lemma (after_move p c) (claim_for (side_asked question) own) =
      subst (λ won. Shows also found.lemma (after_move p c) (claim_for (side_asked question) won)) same all.named in
      let many : length also ≡ counted = omega (arith, all.wrote.counted) in
      then_solves root question reach version known old next new (counted + 0) all.wrote p last result
      (below_raised (empty_count (after_move p c) + 1) (limit_of p result) all.wrote.shown (omega (arith, fewer, limit_least p result)) all.below)
      (tell also many all.wrote.fits (one_reason p (side_asked question) own going is_own also c found.lemma room shown))

  pub closed_by_all : {new : Moment} {last : ℕ} {result : Result Answer SearchStop} → length order ≤ i → order ≡ centre_out (length p.columns)
      → ((also : List Shown) → length also ≡ count → FitsTable mid.table also
      → HasReason also p (claim_for (side_asked question) (not own)) (ByAll (cites_from numbers (open_columns p)))
      → Solves root p question reach version also mid new last result)
      → Solves root p question reach version known old new last result
  closed_by_all {new} {last} {result} all is_order tell =
      let also = known ++ so_far.wrote.shown in
      then_solves root question reach version known old mid new count so_far.wrote p last result
      (below_raised (empty_count p) (limit_of p result) so_far.wrote.shown (limit_least p result) so_far.below)
      (tell also so_far.wrote.counted so_far.wrote.fits
      (all_reason p (side_asked question) own going is_own also numbers
      (all_moves root p question reach version own known old mid count numbers order i so_far all is_order)))

-- a column that was taken from the end of a path
pub path_back : (path longer shorter : List ℕ) (c : ℕ) → longer ≡ path ++ c ∷ [] → shorter ≡ take (length longer - 1) longer → shorter ≡ path
path_back path longer shorter c h taken =
    let long : length longer - 1 ≡ length path = omega (arith, ap length h, length_push path c) in
    taken ∙ ap (λ n. take n longer) long ∙ ap (take (length path)) h ∙ take_at path (c ∷ []) (length path) refl
