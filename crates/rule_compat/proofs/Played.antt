-- Black's answers by a plan in code: the zone that has White's square answers, and the play goes on from there.
use Rattle.std.proofs.Common.{◌≡◌, ℕ, ◌+◌, true, List, [], ◌∷◌, ◌++◌, Option, Some, None, refl, sym, ap, ◌∙◌, subst}
use Rattle.std.specs.List.{list_any, find}
use Rattle.std.specs.Option.{option_map, option_and_then}
use Rattle.std.proofs.lemmas.Option.{same_Some}
use Rattle.game_rules.specs.Board.{Square}
use Rattle.game_rules.specs.Position.{Position, has_man, height, after_move}
use Rattle.game_rules.specs.Squares.{has_square, is_playable, IsSetOf}
use Rattle.game_rules.specs.declared.Side.TheVariants.{Black}
use Rattle.game_rules.proofs.Lists.{any_same}
use Rattle.game_rules.proofs.Squares.{any_in_same}
use Rattle.plan_rules.specs.Rules.{RuleInstance, Facts, zone_of, reply_to}
use Rattle.plan_rules.specs.Plan.{is_plan, plan_reply}
use Rattle.plan_rules.specs.Zones.{zones_from}
use Rattle.plan_rules.proofs.Places.{find_map}
use Rattle.plan_rules.proofs.Zones.{owner_of_zone, owner_alone}
use Rattle.plan_rules.proofs.MoreTurns.{turns_more, turn_made}
use Rattle.plan_rules.proofs.Theorems.{plan_answers}
use Rattle.rule_compat.specs.declared.instance.Instance.{Instance}
use Rattle.rule_compat.specs.Written.{written, written_list}
use Rattle.rule_compat.specs.Planned.{Planned, members, IsKeptWith, IsReached, HasMoved}
use Rattle.rule_compat.proofs.Gathered.{owns}

then_mapped : {A B C : Type 0} (f : B → Option C) (g : A → B) (o : Option A) → option_and_then f (option_map g o) ≡ option_and_then (λ x. f (g x)) o
then_mapped f g None = refl
then_mapped f g (Some x) = refl

-- what the first of some zones that has the square answers
abbrev pub zone_answer : List (ℕ × Instance) → Position → Square → Option Square
zone_answer zones now last = option_and_then (λ zone. reply_to (written zone.1) now last) (find (λ zone. has_square (zone_of (written zone.1)) last) zones)

-- the zones answer as the whole list does
zones_answer : (list : List Instance) (now : Position) (last : Square) → plan_reply (written_list list) now last ≡ zone_answer (zones_from owns 1 list) now last
zones_answer list now last =
    let answer : RuleInstance → Option Square = λ w. reply_to w now last in
    let found = find (λ (zone : ℕ × Instance). has_square (zone_of (written zone.1)) last) (zones_from owns 1 list) in
    ap (option_and_then answer) (find_map (λ w. has_square (zone_of w) last) written list)
    ∙ then_mapped answer written (find (λ x. has_square (zone_of (written x)) last) list)
    ∙ ap (option_and_then (λ x. answer (written x)))
    (owner_of_zone owns (λ x. has_square (zone_of (written x)) last) 1 list (λ x standing. owner_alone last (written x) standing))
    ∙ then_mapped (λ x. answer (written x)) (λ (zone : ℕ × Instance). zone.1) found

-- a plan's answer to a move, and what it leaves
pub record IsAnswer (plan : Planned) (now : Position) (last reply : Square) : Type 0 where
  pub is_reply : plan_reply (members plan) now last ≡ Some reply
  pub playable : is_playable now reply ≡ true
  pub next : IsReached plan (after_move now reply.0)

-- each legal move at a position that is reached has one
answer_after : (plan : Planned) (now : Position) (last : Square) → is_plan plan.at (members plan) ≡ true → HasMoved plan now last
    → (reply : Square) × IsAnswer plan now last reply
answer_after plan now last is moved =
    let q = moved.earlier in
    let answered = plan_answers plan.at (members plan) moved.reached.columns q last.0 is moved.reached.leads moved.legal in
    let same : last ≡ (last.0, height q last.0 + 1) = ap (λ r. (last.0, r)) moved.row in (
      answered.reply,
      record {
        is_reply = ap (λ r. plan_reply (members plan) r last) moved.now_is ∙ ap (plan_reply (members plan) (after_move q last.0)) same ∙ answered.is_reply;
        playable = ap (λ r. is_playable r answered.reply) moved.now_is ∙ answered.playable;
        next = record {
          columns = moved.reached.columns ++ last.0 ∷ [];
          leads = turns_more (members plan) plan.at q (after_move now answered.reply.0) moved.reached.columns last.0 moved.reached.leads moved.legal
              (turn_made (members plan) q last.0 answered ∙ ap (λ r. Some (after_move r answered.reply.0)) (sym moved.now_is));
        };
      },
    )

-- so the zones that a plan is kept with answer
pub zones_find : (plan : Planned) (zones : List (ℕ × Instance)) (facts : Facts) (now : Position) (last : Square) → IsKeptWith plan zones facts
    → HasMoved plan now last
    → (reply : Square) × (zone_answer zones now last ≡ Some reply) × IsAnswer plan now last reply
zones_find plan zones facts now last kept moved =
    let answer = answer_after plan now last kept.is_one moved in
    (answer.0, ap (λ zones. zone_answer zones now last) kept.zones_are ∙ sym (zones_answer plan.list now last) ∙ answer.1.is_reply, answer.1)

-- and what they answer is the plan's answer
pub what_zones_find : (plan : Planned) (zones : List (ℕ × Instance)) (facts : Facts) (now : Position) (last reply : Square) → IsKeptWith plan zones facts
    → HasMoved plan now last
    → zone_answer zones now last ≡ Some reply → IsAnswer plan now last reply
what_zones_find plan zones facts now last reply kept moved found =
    let answer = zones_find plan zones facts now last kept moved in
    subst (IsAnswer plan now last) (same_Some answer.0 reply (sym answer.1 ∙ found)) answer.2

-- ---- lines

-- the set of a line's squares meets Black's men where the line has one
pub black_met : (p : Position) (us squares men : List Square) → IsSetOf (has_square us) squares → IsSetOf (has_man p Black) men
    → list_any (has_square men) squares ≡ list_any (has_man p Black) us
black_met p us squares men line black = any_same (has_square men) (has_man p Black) squares (λ u among. black.has u)
    ∙ any_in_same (has_man p Black) squares us line.has
