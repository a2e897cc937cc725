-- The first standing instance that answers a group, as sets of squares and lists of groups find it.
use Rattle.std.proofs.Common.{◌≡◌, ◌+◌, ◌%◌, Bool, true, not, ◌&&◌, ◌==◌, nat_le, if◌then◌else◌, Option, Some, None, List, slice_get, refl, sym, ap, ◌∙◌}
use Rattle.std.specs.List.{find}
use Rattle.std.specs.Option.{option_or}
use Rattle.std.proofs.lemmas.Bool.{and_parts, and_from}
use Rattle.game_rules.specs.Board.{Board, Square, on_board, is_board}
use Rattle.game_rules.specs.Position.{Position, board_of}
use Rattle.game_rules.specs.Squares.{has_square, squares_where, is_empty, widest, IsSetOf}
use Rattle.game_rules.proofs.Squares.{agree, set_same}
use Rattle.game_rules.proofs.Narrowed.{where_on_board}
use Rattle.plan_rules.specs.Squares.{above}
use Rattle.plan_rules.specs.Rules.{RuleInstance, vertical, is_shaped, fits}
use Rattle.plan_rules.specs.Listing.{squares_at}
use Rattle.plan_rules.proofs.Sites.{vertical_sites, vertical_site}
use Rattle.walk_rules.proofs.Lists.{find_among}
use Rattle.rule_law.specs.declared.kept.Kept.{Kept}
use Rattle.rule_law.specs.KeptFacts.{facts_in}
use Rattle.rule_compat.proofs.Checked.{find_filtered}
use Rattle.rule_chooser.specs.Standing.{does_answer}

-- ---- Verticals

module _ (p : Position) (kept : Kept) (part : List Square) (board : is_board (board_of p) ≡ true) (empty : (u : Square) → has_square part u ≡ true
    → is_empty p u ≡ true) where
  abbrev pub answers_by : Square → Bool
  answers_by e = does_answer p (facts_in kept) (has_square part) (vertical e)

  by_sets : (u : Square)
      → (((has_square part u && (nat_le 1 u.1 && has_square part (above u))) && has_square kept.pair u) && not (on_board widest u && ((u.1 % 2) == 1)))
      ≡ answers_by u
  by_sets u = agree _ _
      (λ h.
      let all = and_parts ((has_square part u && (nat_le 1 u.1 && has_square part (above u))) && has_square kept.pair u) _ h in
      let three = and_parts (has_square part u && (nat_le 1 u.1 && has_square part (above u))) _ all.0 in
      let two = and_parts (has_square part u) _ three.0 in
      let over = and_parts (nat_le 1 u.1) _ two.1 in
      and_from _ _ (sym (vertical_sites p u board) ∙ and_from _ _ (and_from _ _ (empty u two.0) (and_from _ _ over.0 (empty (above u) over.1))) all.1)
      (and_from _ _ three.1 (and_from _ _ two.0 over.1)))
      (λ h.
      let all = and_parts (fits (vertical u) p) _ h in
      let rest = and_parts (has_square kept.pair u) _ all.1 in
      let both = and_parts (has_square part u) _ rest.1 in
      let site = and_parts (is_empty p u && (nat_le 1 u.1 && is_empty p (above u))) _ (vertical_sites p u board ∙ all.0) in
      let low = (and_parts (nat_le 1 u.1) _ (and_parts (is_empty p u) _ site.0).1).0 in
      and_from _ _ (and_from _ _ (and_from _ _ both.0 (and_from _ _ low both.1)) rest.0) site.1)

  pub vertical_found : (lowered both paired odd squares : List Square)
      → IsSetOf (λ u. nat_le 1 u.1 && has_square part (u.0, u.1 + 1)) lowered → IsSetOf (λ u. has_square part u && has_square lowered u) both
      → IsSetOf (λ u. has_square both u && has_square kept.pair u) paired → IsSetOf (λ u. on_board widest u && ((u.1 % 2) == 1)) odd
      → IsSetOf (λ u. has_square paired u && not (has_square odd u)) squares
      → slice_get squares 0 ≡ find answers_by (squares_at p)
  vertical_found lowered both paired odd squares low two pair odds is =
      ap (λ us. slice_get us 0) (ordered ∙ where_on_board (board_of p) answers_by board (λ u h. vertical_site p u (and_parts (fits (vertical u) p) _ h).0))
      ∙ find_filtered answers_by (squares_at p)
    where
      same : (u : Square) → (has_square paired u && not (has_square odd u)) ≡ answers_by u
      same u =
          ap (λ b. b && not (has_square odd u)) (pair.has u ∙ ap (λ b. b && has_square kept.pair u) (two.has u ∙ ap (λ b. has_square part u && b) (low.has u)))
          ∙ ap (λ b. ((has_square part u && (nat_le 1 u.1 && has_square part (above u))) && has_square kept.pair u) && not b) (odds.has u)
          ∙ by_sets u

      ordered : squares ≡ squares_where answers_by
      ordered = (set_same _ answers_by squares is same).in_order

vertical_shaped : (p : Position) (e : Square) → fits (vertical e) p ≡ true → is_shaped (vertical e) (board_of p) ≡ true
vertical_shaped p e h = (and_parts (is_shaped (vertical e) (board_of p)) _ (and_parts _ (is_empty p e && is_empty p (above e)) h).0).0

-- the square that is found makes a Vertical
pub vertical_new : (p : Position) (kept : Kept) (part : List Square) (size : Board) (e : Square) → size ≡ board_of p
    → find (λ e. does_answer p (facts_in kept) (has_square part) (vertical e)) (squares_at p) ≡ Some e
    → (if is_shaped (vertical e) size then Some e else None) ≡ find (λ e. does_answer p (facts_in kept) (has_square part) (vertical e)) (squares_at p)
vertical_new p kept part size e same is =
    ap (λ b. if b then Some e else None)
    (ap (is_shaped (vertical e)) same
    ∙ vertical_shaped p e (and_parts (fits (vertical e) p) _
    (find_among (λ e. does_answer p (facts_in kept) (has_square part) (vertical e)) (squares_at p) e is).1).0)
    ∙ sym is

-- ---- kind by kind

pub at_second : (v a b s : Option RuleInstance) (w : RuleInstance) → v ≡ None → a ≡ Some w → Some w ≡ option_or (option_or (option_or v a) b) s
at_second v a b s w none found = rw (none, found) refl

pub at_third : (v a b s : Option RuleInstance) (w : RuleInstance) → v ≡ None → a ≡ None → b ≡ Some w → Some w ≡ option_or (option_or (option_or v a) b) s
at_third v a b s w none too found = rw (none, too, found) refl

pub at_last : (v a b s found : Option RuleInstance) → v ≡ None → a ≡ None → b ≡ None → found ≡ s → found ≡ option_or (option_or (option_or v a) b) s
at_last v a b s found none too also is = rw (none, too, also) is
