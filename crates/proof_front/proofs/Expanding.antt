-- A leaf gets its moves as children.
use Rattle.std.specs.List.{filter}
use Rattle.std.proofs.Common.{◌≡◌, ◌≢◌, ℕ, nat_lt, Bool, true, false, List, [], ◌∷◌, length, map, Option, Some, None, refl, sym, ap, subst, ◌∙◌, arith}
use Rattle.std.proofs.lemmas.Bool.{ltb-true, ltb-false}
use Rattle.std.proofs.lemmas.List.{length-map}
use Rattle.game_rules.specs.Position.{has_room, after_move, end_of}
use Rattle.game_rules.specs.Cost.{centre_out}
use Rattle.game_rules.specs.declared.Side.{Side}
use Rattle.front_rules.specs.Front.{moves_out, leaves, planned}
use Rattle.front_rules.specs.Path.{IsClean}
use Rattle.front_rules.proofs.Updated.{clean_leaves}
use Rattle.node_pool.specs.Slots.{held, free_slots}
use Rattle.proof_front.specs.Cells.{Cell, Owns}
use Rattle.proof_front.specs.Numbers.{node_numbers}
use Rattle.proof_front.specs.Rows.{Placed, row_of, cells_of}
use Rattle.proof_front.specs.Steps.{LiesBelow, IsGoingLeaf, LeavesLie, IsRenewed, IsExpanded}
use Rattle.proof_front.specs.declared.growing.Step.{Step}
use Rattle.proof_front.specs.declared.growing.Step.TheVariants as steps
use Rattle.proof_front.specs.declared.node.Node.{Node}
use Rattle.proof_front.proofs.Cells.{exchanged, mine}
use Rattle.proof_front.proofs.Opening.{same_some}
use Rattle.proof_front.proofs.Leaves.{going_moves}

module _ {slots : List (Option Node)} {at : ℕ} (leaf : IsGoingLeaf slots at) (read : Node) (here : held slots at ≡ Some read) where
  read_is : (node : Node) (others : List (Cell Node)) → Owns slots ((at, node) ∷ others) → read ≡ node
  read_is node others owns = same_some (sym here ∙ mine at node others owns)

  pub goes_on : end_of read.position ≡ None
  goes_on = ap (λ n. end_of n.position) (read_is leaf.node leaf.others leaf.owns) ∙ leaf.going

  module _ (order : List ℕ) (centre : order ≡ centre_out (length read.position.columns)) where
    -- the moves of the position that was read are the columns with room
    moves_are : map (after_move read.position) (filter (has_room read.position) order) ≡ moves_out read.position
    moves_are = ap (λ cs. map (after_move read.position) (filter (has_room read.position) cs)) centre ∙ going_moves read.position goes_on

    pub move_count : length (filter (has_room read.position) order) ≡ length (moves_out read.position)
    move_count = sym (length-map (filter (has_room read.position) order) (after_move read.position)) ∙ ap length moves_are

    module _ (node : Node) (others : List (Cell Node)) (owns : Owns slots ((at, node) ∷ others)) (side : Side) (reach : ℕ) {short : Bool}
        (is : short ≡ nat_lt (free_slots slots) (length (filter (has_room read.position) order))) where
      count_here : length (filter (has_room read.position) order) ≡ length (moves_out node.position)
      count_here = move_count ∙ ap (λ n. length (moves_out n.position)) (read_is node others owns)

      pub too_short : short ≡ true → IsExpanded side reach slots slots at node others steps.Full
      too_short h =
          record {
            full = (λ full. omega (arith, ltb-true (free_slots slots) _ (sym is ∙ h), count_here), λ few. refl);
            grown = λ went. absurd (went refl);
            numbers = λ same. cc;
          }

      module _ {mid : List (Option Node)} {first : Option ℕ} (l : LeavesLie read.position side (planned reach) mid order first ((at, node) ∷ others)) where
        leaves_are : row_of l.row ≡ leaves side (planned reach) (moves_out node.position)
        leaves_are = l.is ∙ (ap (leaves side (planned reach)) moves_are
            ∙ ap (λ n. leaves side (planned reach) (moves_out n.position)) (read_is node others owns))

        pub leaves_below : LiesBelow side mid at first node l.row others
        leaves_below =
            record {
              owns = exchanged (cells_of side l.row) ((at, node) ∷ []) others l.owns;
              begins = l.begins;
              clean = subst (IsClean side) (sym leaves_are) (clean_leaves side (planned reach) (moves_out node.position));
              going = l.going;
            }

        pub expanded : {new : List (Option Node)} {step : Step} → short ≡ false → step ≢ steps.Full
            → ((node : Node) (kids : Placed) (others : List (Cell Node)) → LiesBelow side mid at first node kids others
            → IsRenewed side new at node kids others step) → IsExpanded side reach slots new at node others step
        expanded h done renewed =
            let again = renewed node l.row others leaves_below in
            record {
              full = (λ full. absurd (done full), λ few. absurd (omega (arith, few, ltb-false (free_slots slots) _ (sym is ∙ h), count_here)));
              grown = λ went. (l.row, leaves_are, l.going, again.owns);
              numbers = λ same. again.numbers same ∙ ap (node_numbers side node.position) leaves_are;
            }
