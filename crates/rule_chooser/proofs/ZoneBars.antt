-- Each of a set's zones is one that fits.
use Rattle.std.proofs.Common.{◌≡◌, ℕ, ◌<◌, length, get_or, subst, true, ◌&&◌, List, sym}
use Rattle.std.specs.List.{list_all}
use Rattle.std.proofs.lemmas.Bool.{and_parts}
use Rattle.game_rules.specs.Position.{Position}
use Rattle.game_rules.proofs.Lists.{Among, Among-at, Among-map, all_gives}
use Rattle.plan_rules.specs.Rules.{fits}
use Rattle.plan_rules.specs.Zones.{owns_zone}
use Rattle.walk_rules.specs.Steps.{is_zone_set}
use Rattle.rule_compat.specs.declared.instance.Instance.{Instance}
use Rattle.rule_compat.specs.Written.{written, written_list}

pub zone_at : (p : Position) (set : List Instance) (i : ℕ) (zone : Instance) → is_zone_set p (written_list set) ≡ true → i < length set
    → zone ≡ get_or set i zone → (owns_zone (written zone) && fits (written zone) p) ≡ true
zone_at p set i zone is within at =
    all_gives (λ w. owns_zone w && fits w p) (written_list set) (written zone) (and_parts (list_all (λ w. owns_zone w && fits w p) (written_list set)) _ is).0
    (Among-map written set zone (subst (λ z. Among z set) (sym at) (Among-at set i zone within)))
