-- The walk from one set to the next: which sets are sets of zones, and what is left to visit, told by the zones of the
-- set that is being visited and by the zones that are still to be tried.
use Rattle.std.specs.Prelude.{Bool, ◌&&◌, List, [], ◌∷◌, ◌++◌, map, filter}
use Rattle.std.specs.List.{list_all, flat_map}
use Rattle.game_rules.specs.Position.{Position}
use Rattle.plan_rules.specs.Rules.{RuleInstance, fits, together}
use Rattle.plan_rules.specs.Plan.{each_two}
use Rattle.plan_rules.specs.Zones.{owns_zone}
use Rattle.walk_rules.specs.Walk.{may_follow, walk_from}

-- each member is a zone instance that fits, and each two may stand together
abbrev pub is_zone_set : Position → List RuleInstance → Bool
is_zone_set p set = list_all (λ w. owns_zone w && fits w p) set && each_two together set

-- ---- what is left to visit

-- the sets after this one that go on with one of some zones
abbrev pub after : Position → List RuleInstance → List RuleInstance → List (List RuleInstance)
after p set zones = flat_map (λ w. walk_from p (set ++ w ∷ [])) (filter (may_follow p set) zones)

-- a zone of the set that is being visited, and the zones that are to be tried in its place later
abbrev pub Frame : Type 0
Frame = RuleInstance × List RuleInstance

-- the set that the frames make, in the order of adding
abbrev pub set_of : List Frame → List RuleInstance
set_of frames = map (λ (frame : Frame). frame.0) frames

-- what comes once a frame's zone gives way, from the last frame back to the first; the first stands after this set
abbrev pub after_frames : Position → List RuleInstance → List Frame → List (List RuleInstance)
after_frames p front [] = []
after_frames p front ((w, behind) ∷ frames) = after_frames p (front ++ w ∷ []) frames ++ after p front behind

-- what is left once the set of the frames was visited, where these zones are to be tried after it
abbrev pub left : Position → List Frame → List RuleInstance → List (List RuleInstance)
left p frames zones = after p (set_of frames) zones ++ after_frames p [] frames
