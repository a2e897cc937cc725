-- From the laws of each instance and the table alone: whatever White plays, Black has a reply, each zone stays calm, and
-- White never has a line.
use Rattle.std.proofs.Common.{◌≡◌, ◌≢◌, ◌⊎◌, ℕ, zero, suc, ◌+◌, ◌*◌, ◌<◌, ◌≤◌, Bool, true, false, cond, List, [], ◌∷◌, length, Option, Some, None, is_none}
use Rattle.std.proofs.Common.{refl, sym, ap, ◌∙◌, subst, inl, inr, arith}
use Rattle.std.specs.List.{list_all, slice_get, find, flat_map}
use Rattle.std.specs.Option.{option_map, option_map_or, option_and_then}
use Rattle.std.proofs.lemmas.Bool.{cases_eq, both_ways, and_parts, and_from, cond-true, false_from_ne_true, not_from_true}
use Rattle.game_rules.specs.Board.{Square, below, on_board, line_at}
use Rattle.game_rules.specs.Position.{Position, board_of, men_in, height, man_at, has_man, other, side_to_move, has_room, has_line, is_full, end_of, is_legal}
use Rattle.game_rules.specs.Position.{after_move, empty_count, moved, open_columns}
use Rattle.game_rules.specs.Value.{wins, same_end}
use Rattle.game_rules.specs.Squares.{same_square, has_square, is_empty, is_playable}
use Rattle.game_rules.specs.Groups.{Group, squares_of, lies_on, group_on}
use Rattle.game_rules.proofs.Groups.{lies_parts, lies_from}
use Rattle.game_rules.specs.declared.Side.{Side}
use Rattle.game_rules.specs.declared.Side.TheVariants.{White, Black}
use Rattle.game_rules.specs.declared.End.{End}
use Rattle.game_rules.specs.declared.End.TheVariants as ends
use Rattle.game_rules.proofs.Lists.{Among-map_gives, Among, any_gives, any_from, all_gives, all_from, Among-below, Among-flat_map_gives, Among-filter}
use Rattle.game_rules.proofs.Lists.{Among-filter_gives, Among-map, chosen}
use Rattle.game_rules.proofs.Moves.{man_past, board_moved, room_column, room_height, empty_count_moved, side_moved}
use Rattle.game_rules.proofs.Values.{wins_own, wins_other, value_at_end}
use Rattle.game_rules.proofs.Ends.{on_board_from, has_line_gives, has_line_from, has_line_same, each_step, from_steps, ended_parts, legal_parts, none_for_other}
use Rattle.game_rules.proofs.Ends.{other_kept, disjoint, white_end}
use Rattle.game_rules.proofs.Squares.{has_gives, has_from, same_square_is}
use Rattle.plan_rules.specs.Squares.{above}
use Rattle.plan_rules.specs.Rules.{RuleInstance, zone_of, black_group_of, reply_to, upper_of, pair_of, twin_of, as_list, facts_of, barred}
use Rattle.plan_rules.specs.Calm.{is_calm}
use Rattle.plan_rules.specs.Laws.{IsLineOf, Answers, AreTrue, Owns, IsHeld}
use Rattle.plan_rules.specs.Plan.{empty_part, IsMember, IsPlan, plan_reply, after_turn, after_turns, duel, is_playable_list, is_nil, IsKept, IsAnswered, IsTurn}
use Rattle.plan_rules.proofs.Squares.{Among-get, get-Among, find_one}
use Rattle.plan_rules.proofs.Turns.{man_from, has_man_from, playable_from, playable_on_board, playable_room, playable_man, beside, stays, side_after, Turned}
use Rattle.plan_rules.proofs.Turns.{turn}
use Rattle.plan_rules.proofs.Table.{always_calm, zones_apart}
use Rattle.plan_rules.specs.Lawful.{Lawful}
use Rattle.plan_rules.proofs.Plans.{any_member}
use Rattle.plan_rules.proofs.Grounds.{founded, members_together, has_floors}
use Rattle.plan_rules.proofs.Even.{calm_even}

-- where a column has room, the square on top of its men is playable
pub room_playable : (q : Position) (column : ℕ) → has_room q column ≡ true → is_playable q (column, height q column + 1) ≡ true
room_playable q column room =
    playable_from q (column, height q column + 1)
    (on_board_from (board_of q) column (height q column + 1) (room_column q column room) (omega arith) (omega (arith, room_height q column room)))
    (man_past (men_in q column) (height q column + 1) (omega arith)) (omega arith)

-- the facts look at White's men alone
facts_same : (upper pair : Square → Bool) (twin : List (Square × Square)) (q r : Position) → ((u : Square) → has_man q White u ≡ has_man r White u)
    → AreTrue upper pair twin q → AreTrue upper pair twin r
facts_same upper pair twin q r same facts = record {
  uppers = λ u h. sym (same u) ∙ facts.uppers u h;
  pairs = λ u h white. sym (same (above u)) ∙ facts.pairs u h (same u ∙ white);
  twins = λ i u v h white. sym (same v) ∙ facts.twins i u v h (same u ∙ white);
}

-- a line that a side has, as a line and its squares
pub line_squares : (q : Position) (side : Side) → has_line q side ≡ true → (g : Group) × (lies_on (board_of q) g ≡ true)
    × Owns side q (has_square (squares_of g))
line_squares q side h =
    let line = has_line_gives q side h in (
      group_on (board_of q) line.way line.anchor,
      lies_from (board_of q) line.way line.anchor (from_steps (on_board (board_of q)) q.len line.way line.anchor line.on_the_board),
      λ u owned. all_gives (has_man q side) (line_at q.len line.way line.anchor) u (from_steps (has_man q side) q.len line.way line.anchor line.owned)
          (has_gives (line_at q.len line.way line.anchor) u owned),
    )

pub group_gives_line : (q : Position) (side : Side) (g : Group) → lies_on (board_of q) g ≡ true → Owns side q (has_square (squares_of g))
    → has_line q side ≡ true
group_gives_line q side g lies owns =
    let parts = lies_parts (board_of q) g lies in
    has_line_from q side (record {
      way = g.way;
      anchor = g.anchor;
      on_the_board = each_step (on_board (board_of q)) q.len g.way g.anchor parts.1;
      owned = each_step (has_man q side) q.len g.way g.anchor (subst (λ len. list_all (has_man q side) (line_at len g.way g.anchor) ≡ true) parts.0
          (all_from (has_man q side) (squares_of g) (λ u among. owns u (has_from (squares_of g) u among))));
    })

module _ (laws : (w : RuleInstance) → Lawful w) (p : Position) (ws : List RuleInstance) (plan : IsPlan p ws) where
  -- what members promise of White's men is true wherever all are calm
  facts_true : (q : Position) → ((i : ℕ) (w : RuleInstance) → IsMember ws i w → is_calm w q ≡ true)
      → AreTrue (facts_of p ws).upper (facts_of p ws).pair (facts_of p ws).twin q
  facts_true q calms = record {
    uppers = λ u h.
        let found = Among-flat_map_gives upper_of ws u (has_gives (flat_map upper_of ws) u h) in
        (own found.0 found.1).uppers u (has_from (upper_of found.0) u found.2);
    pairs = λ u h white.
        let found = Among-flat_map_gives pair_of ws u (has_gives (flat_map pair_of ws) u h) in
        (own found.0 found.1).pairs u (has_from (pair_of found.0) u found.2) white;
    twins = λ i u v h white.
        let found = Among-flat_map_gives (λ w. as_list (twin_of w)) ws (u, v) (get-Among (flat_map (λ w. as_list (twin_of w)) ws) i (u, v) h) in
        let at = Among-get (as_list (twin_of found.0)) (u, v) found.2 in
        (own found.0 found.1).twins at.0 u v at.1 white;
  }
    where
      own : (w : RuleInstance) → Among w ws → AreTrue (has_square (upper_of w)) (has_square (pair_of w)) (as_list (twin_of w)) q
      own w among = let at = Among-get ws w among in (laws w).keeps p q (plan.fitting at.0 w at.1) (calms at.0 w at.1)

  pub first_kept : IsKept p ws p
  first_kept = record {
    board = refl;
    white = plan.white;
    stay = λ u m h. h;
    calms = calm;
    even = λ i w member. calm_even w p (calm i w member);
    floors = has_floors p p ws plan (λ u m h. h) calm;
    facts = facts_true p calm;
    no_line = (ended_parts p plan.going).0;
  }
    where
      calm : (i : ℕ) (w : RuleInstance) → IsMember ws i w → is_calm w p ≡ true
      calm i w member = ((laws w).starts p (plan.fitting i w member)).calm_now

  -- ---- one turn

  -- White's square was empty at the plan's position
  last_empty : (q : Position) → IsKept p ws q → (s : Square) → is_playable q s ≡ true → is_empty p s ≡ true
  last_empty q kept s playable = and_from _ _ (ap (λ board. on_board board s) kept.board ∙ playable_on_board q s playable) (ap is_none (none (man_at p s) refl))
    where
      none : (m : Option Side) → man_at p s ≡ m → man_at p s ≡ None
      none None h = h
      none (Some side) h = absurd (cc (kept.stay s side h, playable_man q s playable))

  -- the reply, and that all members are calm after it
  record Reply (q : Position) (s : Square) : Type 0 where
    to : Square
    is_reply : plan_reply ws (after_move q s.0) s ≡ Some to
    playable : is_playable (after_move q s.0) to ≡ true
    calms : (i : ℕ) (w : RuleInstance) → IsMember ws i w → is_calm w (after_move (after_move q s.0) to.0) ≡ true

  reply : (q : Position) → IsKept p ws q → (s : Square) → is_playable q s ≡ true → Reply q s
  reply q kept s playable =
      let owner = find_one (λ w. has_square (zone_of w) s) ws (any_member (λ w. has_square (zone_of w) s) ws (plan.covered s (last_empty q kept s playable))) in
      from owner.0 owner.1 owner.2 owner.3 owner.4
    where
      from : (i : ℕ) (w : RuleInstance) → IsMember ws i w → has_square (zone_of w) s ≡ true → find (λ w. has_square (zone_of w) s) ws ≡ Some w → Reply q s
      from i w member owned found = record {
        to = answer.to;
        is_reply = ap (option_and_then (λ w. reply_to w (after_move q s.0) s)) found ∙ answer.is_reply;
        playable = answer.playable;
        calms = λ j v other. calm j v other (cases_eq j i);
      }
        where
          answer : Answers (zone_of w) (is_calm w) (reply_to w) q s
          answer = (laws w).steps p q s (plan.fitting i w member) kept.board (kept.calms i w member) kept.white playable owned
              (founded p q ws plan kept.stay kept.calms i w member s playable owned)

          turned : Turned q s answer.to (after_move (after_move q s.0) answer.to.0)
          turned = turn q s answer.to kept.white playable answer.playable

          -- the squares of another zone are neither White's nor Black's
          other_zone : (j : ℕ) (v : RuleInstance) → IsMember ws j v → j ≢ i → (t u : Square) → has_square (zone_of w) t ≡ true → has_square (zone_of v) u ≡ true
              → same_square u t ≡ false
          other_zone j v other beside t u in_w in_v = false_from_ne_true _ (λ same.
              zones_apart v w t (members_together p q ws plan kept.stay kept.calms j i v w beside other member)
              (subst (λ u. has_square (zone_of v) u ≡ true) (same_square_is u t same) in_v) in_w)

          one_member : (j : ℕ) (v : RuleInstance) → IsMember ws j v → j ≡ i → w ≡ v
          one_member j v other same = let both : Some w ≡ Some v = sym member ∙ ap (slice_get ws) (sym same) ∙ other in cc

          calm : (j : ℕ) (v : RuleInstance) → IsMember ws j v → (j ≡ i) ⊎ (j ≢ i) → is_calm v (after_move (after_move q s.0) answer.to.0) ≡ true
          calm j v other (inl same) = subst (λ w. is_calm w (after_move (after_move q s.0) answer.to.0) ≡ true) (one_member j v other same) answer.calm_after
          calm j v other (inr beside) =
              (laws v).is_local q (after_move (after_move q s.0) answer.to.0)
              (λ u owned_v. sym (turned.rest u (other_zone j v other beside s u owned owned_v)
              (other_zone j v other beside answer.to u answer.in_zone owned_v)))
              (kept.calms j v other)

  -- ---- White has no line

  no_line_after : (q : Position) → IsKept p ws q → end_of q ≡ None → (s : Square) → is_playable q s ≡ true → Reply q s
      → has_line (after_move q s.0) White ≡ false
  no_line_after q kept going s playable answer = false_from_ne_true _ (λ held.
      let line = line_squares (after_move q s.0) White held in against line.0 line.1 line.2)
    where
      board_now : board_of p ≡ board_of (after_move q s.0)
      board_now = kept.board ∙ sym (board_moved q s.0)

      -- White's men are the same before and after Black's reply
      white_same : (u : Square) → has_man (after_move (after_move q s.0) answer.to.0) White u ≡ has_man (after_move q s.0) White u
      white_same u =
          let turn_now : side_to_move (after_move q s.0) ≡ Black = side_after q s playable ∙ ap other kept.white in
          ap (λ side. has_man (after_move (after_move q s.0) answer.to.0) (other side) u) (sym turn_now)
          ∙ other_kept (after_move q s.0) answer.to.0 (playable_room (after_move q s.0) answer.to answer.playable) u
          ∙ ap (λ side. has_man (after_move q s.0) (other side) u) turn_now

      -- Black's men are the same before and after White's move
      black_same : (u : Square) → has_man (after_move q s.0) Black u ≡ has_man q Black u
      black_same u =
          ap (λ side. has_man (after_move q s.0) (other side) u) (sym kept.white)
          ∙ other_kept q s.0 (playable_room q s playable) u
          ∙ ap (λ side. has_man q (other side) u) kept.white

      stay_now : (u : Square) → has_man p Black u ≡ true → has_man (after_move q s.0) Black u ≡ true
      stay_now u black = black_same u ∙ has_man_from q Black u (kept.stay u Black (man_from p Black u black))

      stay_next : (u : Square) → has_man p Black u ≡ true → has_man (after_move (after_move q s.0) answer.to.0) Black u ≡ true
      stay_next u black = has_man_from (after_move (after_move q s.0) answer.to.0) Black u
          (stays (after_move q s.0) answer.to u Black answer.playable (man_from (after_move q s.0) Black u (stay_now u black)))

      facts_next : AreTrue (facts_of p ws).upper (facts_of p ws).pair (facts_of p ws).twin (after_move (after_move q s.0) answer.to.0)
      facts_next = facts_true (after_move (after_move q s.0) answer.to.0) answer.calms

      -- the member that bars the line's empty squares
      barring : (g : Group) → Owns White (after_move q s.0) (has_square (squares_of g)) → (i : ℕ) (w : RuleInstance) → IsMember ws i w
          → barred w (facts_of p ws) (empty_part p g) ≡ true → (line : Option Group) → black_group_of w ≡ line → ⊥
      barring g owns i w member is_barred None line =
          subst (λ line. IsHeld line (after_move (after_move q s.0) answer.to.0)) line
          ((laws w).bars p (after_move (after_move q s.0) answer.to.0) (facts_of p ws) (empty_part p g) (plan.fitting i w member) (λ u. refl)
          (plan.supported i w member)
          (answer.calms i w member) facts_next stay_next is_barred
          (λ u in_part. white_same u ∙ owns u (and_parts (is_empty p u) (has_square (squares_of g) u) in_part).1))
      barring g owns i w member is_barred (Some h) line =
          let held : IsHeld (Some h) (after_move q s.0) = subst (λ line. IsHeld line (after_move q s.0)) line
          ((laws w).bars p (after_move q s.0) (facts_of p ws) (empty_part p g) (plan.fitting i w member) (λ u. refl) (plan.supported i w member)
          (always_calm w h line (after_move q s.0)) (facts_same _ _ _ (after_move (after_move q s.0) answer.to.0) (after_move q s.0) white_same facts_next)
          stay_now is_barred
          (λ u in_part. owns u (and_parts (is_empty p u) (has_square (squares_of g) u) in_part).1)) in
          let lies : lies_on (board_of p) h ≡ true = subst (λ line. IsLineOf line p) line ((laws w).starts p (plan.fitting i w member)).line_on_board in
          both_ways (has_line q Black) (ended_parts q going).1
          (group_gives_line q Black h (subst (λ board. lies_on board h ≡ true) kept.board lies) (λ u in_line. sym (black_same u) ∙ held u in_line))

      against : (g : Group) → lies_on (board_of (after_move q s.0)) g ≡ true → Owns White (after_move q s.0) (has_square (squares_of g)) → ⊥
      against g lies owns =
          let some = plan.answered g (subst (λ board. lies_on board g ≡ true) (sym board_now) lies)
          (λ u in_line. false_from_ne_true _ (λ black. disjoint (after_move q s.0) u (owns u in_line) (stay_now u black))) in
          barring g owns some.place some.member some.is_member some.has_it (black_group_of some.member) refl

  -- ---- the turn as a whole

  -- White's move doesn't end the game: it makes no line, Black had none, and the reply has room
  going_after : (q : Position) → IsKept p ws q → end_of q ≡ None → (s : Square) → is_playable q s ≡ true → Reply q s → end_of (after_move q s.0) ≡ None
  going_after q kept going s playable answer =
      let white : has_line (after_move q s.0) White ≡ false = no_line_after q kept going s playable answer in
      let black : has_line (after_move q s.0) Black ≡ false = black_none in
      let full : is_full (after_move q s.0)
      ≡ false = not_from_true _ (any_from (has_room (after_move q s.0)) (below (length (after_move q s.0).columns)) answer.to.0
      (Among-below (length (after_move q s.0).columns) answer.to.0
      (room_column (after_move q s.0) answer.to.0 (playable_room (after_move q s.0) answer.to answer.playable)))
      (playable_room (after_move q s.0) answer.to answer.playable)) in
      rw (white, black, full) refl
    where
      legal : is_legal q s.0 ≡ true
      legal = and_from _ _ (ap is_none going) (playable_room q s playable)

      black_none : has_line (after_move q s.0) Black ≡ false
      black_none = ap (λ side. has_line (after_move q s.0) (other side)) (sym kept.white) ∙ none_for_other q s.0 legal

  kept_after : (q : Position) → IsKept p ws q → end_of q ≡ None → (s : Square) → is_playable q s ≡ true → (answer : Reply q s)
      → IsKept p ws (after_move (after_move q s.0) answer.to.0)
  kept_after q kept going s playable answer = record {
    board = kept.board ∙ sym (board_moved q s.0) ∙ sym (board_moved (after_move q s.0) answer.to.0);
    white = side_after (after_move q s.0) answer.to answer.playable ∙ ap other turn_now;
    stay = λ u m man. stays (after_move q s.0) answer.to u m answer.playable (stays q s u m playable (kept.stay u m man));
    calms = answer.calms;
    even = λ i w member. calm_even w (after_move (after_move q s.0) answer.to.0) (answer.calms i w member);
    floors = has_floors p (after_move (after_move q s.0) answer.to.0) ws plan
        (λ u m man. stays (after_move q s.0) answer.to u m answer.playable (stays q s u m playable (kept.stay u m man))) answer.calms;
    facts = facts_true (after_move (after_move q s.0) answer.to.0) answer.calms;
    no_line = ap (λ side. has_line (after_move (after_move q s.0) answer.to.0) (other side)) (sym turn_now)
        ∙ has_line_same (after_move (after_move q s.0) answer.to.0) (after_move q s.0) (other (side_to_move (after_move q s.0)))
        (board_moved (after_move q s.0) answer.to.0)
        (other_kept (after_move q s.0) answer.to.0 (playable_room (after_move q s.0) answer.to answer.playable))
        ∙ ap (λ side. has_line (after_move q s.0) (other side)) turn_now
        ∙ no_line_after q kept going s playable answer;
  }
    where
      turn_now : side_to_move (after_move q s.0) ≡ Black
      turn_now = side_after q s playable ∙ ap other kept.white

  -- a legal move of White's is answered, and the position after the reply keeps everything
  record Turn (q : Position) (column : ℕ) : Type 0 where
    is_answered : IsAnswered ws q column
    next : Position
    is_next : after_turn ws q column ≡ Some next
    room : has_room (after_move q column) is_answered.reply.0 ≡ true
    next_is : next ≡ after_move (after_move q column) is_answered.reply.0
    is_kept : IsKept p ws next

  take_turn : (q : Position) → IsKept p ws q → (column : ℕ) → is_legal q column ≡ true → Turn q column
  take_turn q kept column legal =
      let parts = legal_parts q column legal in
      from parts.0 (room_playable q column parts.1)
    where
      from : end_of q ≡ None → is_playable q (column, height q column + 1) ≡ true → Turn q column
      from going playable = record {
        is_answered = record {
          no_line = no_line_after q kept going (column, height q column + 1) playable answer;
          going = going_now;
          reply = answer.to;
          is_reply = answer.is_reply;
          playable = answer.playable;
        };
        next = after_move (after_move q column) answer.to.0;
        is_next = after_known (end_of (after_move q column)) going_now (plan_reply ws (after_move q column) (column, height q column + 1)) answer.is_reply;
        room = playable_room (after_move q column) answer.to answer.playable;
        next_is = refl;
        is_kept = kept_after q kept going (column, height q column + 1) playable answer;
      }
        where
          answer : Reply q (column, height q column + 1)
          answer = reply q kept (column, height q column + 1) playable

          going_now : end_of (after_move q column) ≡ None
          going_now = going_after q kept going (column, height q column + 1) playable answer

          after_known : (e : Option End) → e ≡ None → (t : Option Square) → t ≡ Some answer.to
              → cond (is_none e) (option_map (λ (to : Square). after_move (after_move q column) to.0) t) None
              ≡ Some (after_move (after_move q column) answer.to.0)
          after_known e none t some = rw (none, some) refl

  -- ---- the whole play

  pub kept_along : (columns : List ℕ) (q r : Position) → IsKept p ws q → after_turns ws q columns ≡ Some r → IsKept p ws r
  kept_along [] q r kept h = let same : q ≡ r = cc in subst (IsKept p ws) same kept
  kept_along (column ∷ columns) q r kept h =
      elim (chosen (is_legal q column) (option_and_then (λ next. after_turns ws next columns) (after_turn ws q column)) None (Some r) h) [
        | inr illegal ↦ absurd (cc illegal.1)
        | inl legal ↦
            let one = take_turn q kept column legal.0 in
            kept_along columns one.next r one.is_kept (sym (ap (option_and_then (λ next. after_turns ws next columns)) one.is_next) ∙ legal.1)
      ]

  pub kept_at : (columns : List ℕ) (q : Position) → after_turns ws p columns ≡ Some q → IsKept p ws q
  kept_at columns q h = kept_along columns p q first_kept h

  pub answered_at : (columns : List ℕ) (q : Position) → after_turns ws p columns ≡ Some q → (column : ℕ) → is_legal q column ≡ true → IsAnswered ws q column
  answered_at columns q h column legal = (take_turn q (kept_at columns q h) column legal).is_answered

  -- a duel whose first column is legal goes on with the position after White's move, and the duel after Black's reply
  duel_opens : (q : Position) (column : ℕ) (columns : List ℕ) → is_legal q column ≡ true → (one : Turn q column)
      → duel ws q (column ∷ columns) ≡ q ∷ after_move q column ∷ duel ws one.next columns
  duel_opens q column columns legal one =
      cond-true (is_legal q column) (q ∷ after_move q column ∷ option_map_or (λ next. duel ws next columns) (after_turn ws q column) []) (q ∷ []) legal
      ∙ ap (λ t. q ∷ after_move q column ∷ option_map_or (λ next. duel ws next columns) t []) one.is_next

  list_opens : (q : Position) (column : ℕ) (columns : List ℕ) → is_playable_list ws q (column ∷ columns) ≡ true → (one : Turn q column)
      → is_playable_list ws one.next columns ≡ true
  list_opens q column columns played one =
      sym (ap (λ t. option_map_or (λ next. is_playable_list ws next columns) t (is_nil columns)) one.is_next) ∙ (and_parts (is_legal q column) _ played).1

  duel_first : (q : Position) (columns : List ℕ) → slice_get (duel ws q columns) 0 ≡ Some q
  duel_first q [] = refl
  duel_first q (column ∷ columns) = either (is_legal q column) (after_move q column ∷ option_map_or (λ next. duel ws next columns) (after_turn ws q column) [])
    where
      either : (b : Bool) (rest : List Position) → slice_get (cond b (q ∷ rest) (q ∷ [])) 0 ≡ Some q
      either true rest = refl
      either false rest = refl

  -- no position of the duel has a line of White's
  no_line_along : (columns : List ℕ) (q : Position) → IsKept p ws q → is_playable_list ws q columns ≡ true → (i : ℕ) (r : Position)
      → slice_get (duel ws q columns) i ≡ Some r → has_line r White ≡ false
  no_line_along [] q kept played zero r h = let same : q ≡ r = cc in subst (λ q. has_line q White ≡ false) same kept.no_line
  no_line_along [] q kept played (suc i) r h = absurd (cc h)
  no_line_along (column ∷ columns) q kept played i r h =
      let both = and_parts (is_legal q column) _ played in
      let one = take_turn q kept column both.0 in
      at i one (λ j. no_line_along columns one.next one.is_kept (list_opens q column columns played one) j r)
      (ap (λ positions. slice_get positions i) (sym (duel_opens q column columns both.0 one)) ∙ h)
    where
      at : (i : ℕ) (one : Turn q column) → ((j : ℕ) → slice_get (duel ws one.next columns) j ≡ Some r → has_line r White ≡ false)
          → slice_get (q ∷ after_move q column ∷ duel ws one.next columns) i ≡ Some r → has_line r White ≡ false
      at zero one later h = let same : q ≡ r = cc in subst (λ q. has_line q White ≡ false) same kept.no_line
      at (suc zero) one later h = let same : after_move q column ≡ r = cc in subst (λ q. has_line q White ≡ false) same one.is_answered.no_line
      at (suc (suc i)) one later h = later i h

  -- each of White's columns opens a turn of the duel
  turn_along : (columns : List ℕ) (q : Position) → IsKept p ws q → is_playable_list ws q columns ≡ true → (i column : ℕ) → slice_get columns i ≡ Some column
      → IsTurn p ws (duel ws q columns) i column
  turn_along [] q kept played i column at = absurd (cc at)
  turn_along (first ∷ columns) q kept played zero column at =
      let here : first ≡ column = cc in
      subst (IsTurn p ws (duel ws q (first ∷ columns)) 0) here (opening (and_parts (is_legal q first) _ played).0)
    where
      opening : is_legal q first ≡ true → IsTurn p ws (duel ws q (first ∷ columns)) 0 first
      opening legal = from (take_turn q kept first legal)
        where
          from : Turn q first → IsTurn p ws (duel ws q (first ∷ columns)) 0 first
          from one = record {
            now = q;
            is_now = ap (λ positions. slice_get positions 0) (duel_opens q first columns legal one);
            kept = kept;
            legal = legal;
            answered = one.is_answered;
            after_white = ap (λ positions. slice_get positions 1) (duel_opens q first columns legal one);
            after_black = ap (λ positions. slice_get positions 2) (duel_opens q first columns legal one) ∙ duel_first one.next columns
                ∙ ap (λ r. Some r) one.next_is;
          }
  turn_along (first ∷ columns) q kept played (suc i) column at =
      let legal = (and_parts (is_legal q first) _ played).0 in
      let one = take_turn q kept first legal in
      later legal one (turn_along columns one.next one.is_kept (list_opens q first columns played one) i column at)
    where
      shifted : (legal : is_legal q first ≡ true) (one : Turn q first) (j k : ℕ) → k ≡ j + 2
          → slice_get (duel ws q (first ∷ columns)) k ≡ slice_get (duel ws one.next columns) j
      shifted legal one j k two = ap (λ positions. slice_get positions k) (duel_opens q first columns legal one)
          ∙ ap (λ k. slice_get (q ∷ after_move q first ∷ duel ws one.next columns) k) place
        where
          place : k ≡ suc (suc j)
          place = omega arith

      later : (legal : is_legal q first ≡ true) (one : Turn q first) → IsTurn p ws (duel ws one.next columns) i column
          → IsTurn p ws (duel ws q (first ∷ columns)) (suc i) column
      later legal one rest = record {
        now = rest.now;
        is_now = shifted legal one (2 * i) (2 * suc i) (omega arith) ∙ rest.is_now;
        kept = rest.kept;
        legal = rest.legal;
        answered = rest.answered;
        after_white = shifted legal one (2 * i + 1) (2 * suc i + 1) (omega arith) ∙ rest.after_white;
        after_black = shifted legal one (2 * i + 2) (2 * suc i + 2) (omega arith) ∙ rest.after_black;
      }

  pub turn_in_duel : (columns : List ℕ) → is_playable_list ws p columns ≡ true → (i column : ℕ) → slice_get columns i ≡ Some column
      → IsTurn p ws (duel ws p columns) i column
  turn_in_duel columns played i column at = turn_along columns p first_kept played i column at

  pub no_line_in_duel : (columns : List ℕ) → is_playable_list ws p columns ≡ true → (i : ℕ) (r : Position) → slice_get (duel ws p columns) i ≡ Some r
      → has_line r White ≡ false
  no_line_in_duel columns played i r h = no_line_along columns p first_kept played i r h

  -- ---- the value

  -- where White doesn't win from any position that keeps everything and has fewer empty squares, White doesn't win
  won_step : (q : Position) → IsKept p ws q → ((r : Position) → empty_count r < empty_count q → IsKept p ws r → wins White r ≡ false) → wins White q ≡ false
  won_step q kept lower = by_end (end_of q) refl
    where
      not_white : (e : End) → end_of q ≡ Some e → same_end ends.White e ≡ false
      not_white ends.White ended = absurd (both_ways (has_line q White) kept.no_line (has_line_from q White ((white_end q).0 ended)))
      not_white ends.Black ended = refl
      not_white ends.Draw ended = refl

      -- no move of White's wins: Black's reply leads to a position from which White doesn't
      no_move : end_of q ≡ None → (column : ℕ) → has_room q column ≡ true → wins White (after_move q column) ≡ true → ⊥
      no_move going column room won =
          let legal : is_legal q column ≡ true = and_from _ _ (ap is_none going) room in
          let one = take_turn q kept column legal in
          let turn_now : side_to_move (after_move q column) ≡ Black = side_moved q column (room_column q column room) ∙ ap other kept.white in
          let each = sym (wins_other White (after_move q column) one.is_answered.going turn_now) ∙ won in
          let next_won = all_gives (wins White) (moved (after_move q column)) (after_move (after_move q column) one.is_answered.reply.0) each
          (Among-map (after_move (after_move q column)) (open_columns (after_move q column)) one.is_answered.reply.0
          (Among-filter (has_room (after_move q column)) (below (length (after_move q column).columns)) one.is_answered.reply.0
          (Among-below (length (after_move q column).columns) one.is_answered.reply.0 (room_column (after_move q column) one.is_answered.reply.0 one.room))
          one.room)) in
          let fewer = empty_count_moved q column room in
          let fewer_again = empty_count_moved (after_move q column) one.is_answered.reply.0 one.room in
          both_ways (wins White one.next) (lower one.next (omega (arith, ap empty_count one.next_is)) one.is_kept) (ap (wins White) one.next_is ∙ next_won)

      by_end : (e : Option End) → end_of q ≡ e → wins White q ≡ false
      by_end (Some e) ended = ap (same_end ends.White) (value_at_end q e ended) ∙ not_white e ended
      by_end None going = wins_own White q going kept.white ∙ false_from_ne_true _ (λ some.
          let found = any_gives (wins White) (moved q) some in
          let at = Among-map_gives (after_move q) (open_columns q) found.0 found.1 in
          no_move going at.0 (Among-filter_gives (has_room q) (below (length q.columns)) at.0 at.1).1 (ap (wins White) at.2 ∙ found.2))

  not_won : (n : ℕ) (q : Position) → empty_count q ≤ n → IsKept p ws q → wins White q ≡ false
  not_won zero q low kept = won_step q kept (λ r fewer later. absurd (omega arith))
  not_won (suc n) q low kept = won_step q kept (λ r fewer later. not_won n r (omega arith) later)

  pub white_never_wins : wins White p ≡ false
  white_never_wins = not_won (empty_count p) p (omega arith) first_kept
