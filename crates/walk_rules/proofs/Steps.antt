-- What is left to visit after a set, for a stack of frames and the zones that are still to be tried: where the walk
-- begins, what a zone that may follow changes and one that may not, what is left once a frame is taken away, and where the
-- walk ends. And sets of zones: one more, one less, and how many there can be.
use Rattle.std.proofs.Common.{◌≡◌, ◌+◌, ◌≤◌, true, false, ◌&&◌, List, [], ◌∷◌, ◌++◌, length, filter, refl, sym, ap, ◌∙◌, inl, inr, arith, append-nil}
use Rattle.std.proofs.Common.{append_assoc, length-append}
use Rattle.std.specs.List.{list_all, flat_map}
use Rattle.std.proofs.lemmas.Bool.{and_parts, and_from}
use Rattle.std.proofs.lemmas.List.{map-append}
use Rattle.std.proofs.lemmas.List.Concat.{flat_map-cons}
use Rattle.std.proofs.lemmas.List.Folds.{list_all-append}
use Rattle.game_rules.specs.Board.{is_board}
use Rattle.game_rules.specs.Position.{Position, board_of}
use Rattle.game_rules.proofs.Lists.{Among, all_gives, all_from}
use Rattle.game_rules.proofs.Narrowed.{filter_within}
use Rattle.plan_rules.specs.Rules.{RuleInstance, fits, together}
use Rattle.plan_rules.specs.Plan.{each_two}
use Rattle.plan_rules.specs.Zones.{owns_zone}
use Rattle.plan_rules.specs.Refusal.{StandTogether}
use Rattle.plan_rules.proofs.PlanBounds.{fifty_members}
use Rattle.walk_rules.specs.Walk.{fitting_zones, open_squares, owns_first, may_follow, walk_from, is_plan_position, walk}
use Rattle.walk_rules.specs.Steps.{is_zone_set, after, Frame, set_of, after_frames, left}
use Rattle.walk_rules.proofs.Lists.{each_two-append}
use Rattle.walk_rules.proofs.Walks.{walk_step}

-- ---- what is left

-- a frame on top of others
pub after_frames-append : (p : Position) (front : List RuleInstance) (frames : List Frame) (w : RuleInstance) (behind : List RuleInstance)
    → after_frames p front (frames ++ (w, behind) ∷ []) ≡ after p (front ++ set_of frames) behind ++ after_frames p front frames
after_frames-append p front [] w behind = sym (append-nil (after p (front ++ []) behind) ∙ ap (λ set. after p set behind) (append-nil front))
after_frames-append p front ((v, others) ∷ frames) w behind =
    ap (λ sets. sets ++ after p front others) (after_frames-append p (front ++ v ∷ []) frames w behind)
    ∙ append_assoc (after p ((front ++ v ∷ []) ++ set_of frames) behind) (after_frames p (front ++ v ∷ []) frames) (after p front others)
    ∙ ap (λ set. after p set behind ++ (after_frames p (front ++ v ∷ []) frames ++ after p front others)) (append_assoc front (v ∷ []) (set_of frames))

pub set_of-append : (frames : List Frame) (w : RuleInstance) (behind : List RuleInstance) → set_of (frames ++ (w, behind) ∷ []) ≡ set_of frames ++ w ∷ []
set_of-append frames w behind = map-append (λ (frame : Frame). frame.0) frames ((w, behind) ∷ [])

-- at the start the empty set is visited, and all zones are still to be tried
pub left_start : (p : Position) → walk_from p [] ≡ [] ∷ left p [] (fitting_zones p)
left_start p = walk_step p [] ∙ ap (λ sets. [] ∷ sets) (sym (append-nil (after p [] (fitting_zones p))))

pub walk_start : (p : Position) → is_plan_position p ≡ true → walk p ≡ [] ∷ left p [] (fitting_zones p)
walk_start p going = rw going (left_start p)

-- where Black is to move or the game has ended there is no set
pub walk_none : (p : Position) → is_plan_position p ≡ false → walk p ≡ []
walk_none p over = rw over refl

-- a zone that may follow: the set with it comes next, and all zones are to be tried after it
pub left_push : (p : Position) (frames : List Frame) (w : RuleInstance) (behind : List RuleInstance) → may_follow p (set_of frames) w ≡ true
    → left p frames (w ∷ behind) ≡ (set_of frames ++ w ∷ []) ∷ left p (frames ++ (w, behind) ∷ []) (fitting_zones p)
left_push p frames w behind follows =
    ap (λ sets. sets ++ after_frames p [] frames) tried
    ∙ ap (λ sets. (set_of frames ++ w ∷ []) ∷ sets)
    (append_assoc (after p (set_of frames ++ w ∷ []) (fitting_zones p)) (after p (set_of frames) behind) (after_frames p [] frames))
    ∙ ap (λ sets. (set_of frames ++ w ∷ []) ∷ (after p (set_of frames ++ w ∷ []) (fitting_zones p) ++ sets)) (sym (after_frames-append p [] frames w behind))
    ∙ ap (λ set. (set_of frames ++ w ∷ []) ∷ (after p set (fitting_zones p) ++ after_frames p [] (frames ++ (w, behind) ∷ [])))
    (sym (set_of-append frames w behind))
  where
    kept : filter (may_follow p (set_of frames)) (w ∷ behind) ≡ w ∷ filter (may_follow p (set_of frames)) behind
    kept = rw follows refl

    tried : after p (set_of frames) (w ∷ behind) ≡ (set_of frames ++ w ∷ [])
        ∷ (after p (set_of frames ++ w ∷ []) (fitting_zones p) ++ after p (set_of frames) behind)
    tried =
        ap (flat_map (λ v. walk_from p (set_of frames ++ v ∷ []))) kept
        ∙ flat_map-cons (λ v. walk_from p (set_of frames ++ v ∷ [])) w (filter (may_follow p (set_of frames)) behind)
        ∙ ap (λ sets. sets ++ after p (set_of frames) behind) (walk_step p (set_of frames ++ w ∷ []))

-- only which of the zones may follow counts
pub left_same : (p : Position) (frames : List Frame) (zones others : List RuleInstance)
    → filter (may_follow p (set_of frames)) zones ≡ filter (may_follow p (set_of frames)) others → left p frames zones ≡ left p frames others
left_same p frames zones others same = ap (λ ws. flat_map (λ w. walk_from p (set_of frames ++ w ∷ [])) ws ++ after_frames p [] frames) same

-- a zone that may not follow is passed by
pub left_skip : (p : Position) (frames : List Frame) (w : RuleInstance) (behind : List RuleInstance) → may_follow p (set_of frames) w ≡ false
    → left p frames (w ∷ behind) ≡ left p frames behind
left_skip p frames w behind stays = left_same p frames (w ∷ behind) behind (rw stays refl)

-- zones of which none may follow leave only what the frames leave
pub left_none : (p : Position) (frames : List Frame) (zones : List RuleInstance) → filter (may_follow p (set_of frames)) zones ≡ []
    → left p frames zones ≡ left p frames []
left_none p frames zones none = left_same p frames zones [] none

-- it is enough to try the zones that own the first open square
pub left_owners : (p : Position) (frames : List Frame) (zones : List RuleInstance)
    → left p frames zones ≡ left p frames (filter (λ w. owns_first w (open_squares p (set_of frames))) zones)
left_owners p frames zones =
    sym (left_same p frames (filter (λ w. owns_first w (open_squares p (set_of frames))) zones) zones
    (filter_within (may_follow p (set_of frames)) (λ w. owns_first w (open_squares p (set_of frames))) zones
    (λ w follows. (and_parts (owns_first w (open_squares p (set_of frames))) (list_all (λ v. together v w) (set_of frames)) follows).0)))

-- with no zone to be tried, the last frame's zone gives way to those behind it
pub left_pop : (p : Position) (frames : List Frame) (w : RuleInstance) (behind : List RuleInstance)
    → left p (frames ++ (w, behind) ∷ []) [] ≡ left p frames behind
left_pop p frames w behind = after_frames-append p [] frames w behind

-- with no frame either, the walk is at its end
pub left_end : (p : Position) → left p [] [] ≡ []
left_end p = refl

-- ---- sets of zones

module _ (p : Position) where
  pub set_start : is_zone_set p [] ≡ true
  set_start = refl

  -- one zone more
  pub set_push : (set : List RuleInstance) (w : RuleInstance) → is_zone_set p set ≡ true → owns_zone w ≡ true → fits w p ≡ true
      → list_all (λ v. together v w) set ≡ true
      → is_zone_set p (set ++ w ∷ []) ≡ true
  set_push set w is owns fitted standing =
      let both = and_parts (list_all (λ w. owns_zone w && fits w p) set) (each_two together set) is in
      and_from (list_all (λ w. owns_zone w && fits w p) (set ++ w ∷ [])) (each_two together (set ++ w ∷ []))
      (list_all-append (λ w. owns_zone w && fits w p) set (w ∷ []) ∙ and_from _ _ both.0 (and_from _ _ (and_from _ _ owns fitted) refl))
      (each_two-append together set (w ∷ []) ∙ and_from _ _ (and_from _ _ both.1 (all_from (λ v. list_all (together v) (w ∷ [])) set (λ v among.
      and_from _ _ (all_gives (λ v. together v w) set v standing among) refl))) refl)

  -- what a zone of a set is, and the set without it
  pub record SetLess (set : List RuleInstance) (w : RuleInstance) : Type 0 where
    pub is_set : is_zone_set p set ≡ true
    pub owns : owns_zone w ≡ true
    pub fitted : fits w p ≡ true
    pub standing : list_all (λ v. together v w) set ≡ true

  -- the last zone taken away
  pub set_pop : (set : List RuleInstance) (w : RuleInstance) → is_zone_set p (set ++ w ∷ []) ≡ true → SetLess set w
  set_pop set w is =
      let both = and_parts (list_all (λ w. owns_zone w && fits w p) (set ++ w ∷ [])) (each_two together (set ++ w ∷ [])) is in
      let members = and_parts _ _ (sym (list_all-append (λ w. owns_zone w && fits w p) set (w ∷ [])) ∙ both.0) in
      let last = and_parts (owns_zone w) (fits w p) (and_parts _ _ members.1).0 in
      let pairs = and_parts _ _ (and_parts _ _ (sym (each_two-append together set (w ∷ [])) ∙ both.1)).0 in
      record {
        is_set = and_from _ _ members.0 pairs.0;
        owns = last.0;
        fitted = last.1;
        standing = all_from (λ v. together v w) set
            (λ v among. (and_parts (together v w) true (all_gives (λ v. list_all (together v) (w ∷ [])) set v pairs.1 among)).0);
      }

  -- a set has fifty zones at most
  pub set_bound : (set : List RuleInstance) → is_board (board_of p) ≡ true → is_zone_set p set ≡ true → length set ≤ 50
  set_bound set board is =
      let both = and_parts (list_all (λ w. owns_zone w && fits w p) set) (each_two together set) is in
      let each : (w : RuleInstance) → Among w set → (owns_zone w ≡ true)
      × (fits w p ≡ true) = λ w among. and_parts (owns_zone w) (fits w p) (all_gives (λ w. owns_zone w && fits w p) set w both.0 among) in
      let members : StandTogether p set = record { fitting = all_from (λ w. fits w p) set (λ w among. (each w among).1); standing = both.1 } in
      omega (arith, fifty_members p set board members, ap length (all_own set (λ w among. (each w among).0)))
    where
      all_own : (ws : List RuleInstance) → ((w : RuleInstance) → Among w ws → owns_zone w ≡ true) → filter owns_zone ws ≡ ws
      all_own [] each = refl
      all_own (w ∷ ws) each = rw (each w (inl refl)) (ap (λ vs. w ∷ vs) (all_own ws (λ v among. each v (inr among))))

  -- and one zone less before another is added
  pub set_room : (set : List RuleInstance) (w : RuleInstance) → is_board (board_of p) ≡ true → is_zone_set p (set ++ w ∷ []) ≡ true → length set + 1 ≤ 50
  set_room set w board is = omega (arith, set_bound (set ++ w ∷ []) board is, length-append set (w ∷ []))
