-- The words of a plan's line: those that are read are the texts of instances of the board, and such texts are read.
use Rattle.std.proofs.Common.{◌≡◌, ℕ, ◌*◌, ◌≤◌, true, ◌&&◌, nat_le, List, [], ◌∷◌, map, flat_map, length, Option, Some, None, codes, refl, sym, ap, ◌∙◌, subst}
use Rattle.std.proofs.Common.{arith, lit≤}
use Rattle.std.specs.List.{AllByRecursion}
use Rattle.std.specs.Str.{bytes_eq}
use Rattle.std.specs.Option.{option_map_or}
use Rattle.std.proofs.lemmas.Bool.{and_parts, and_from, leb-true, le-leb}
use Rattle.std.proofs.lemmas.List.{length-map, length-append}
use Rattle.game_rules.specs.Board.{Board, is_board}
use Rattle.game_rules.specs.Groups.{Group, lies_on}
use Rattle.game_rules.specs.Position.{Position, board_of}
use Rattle.plan_rules.specs.Rules.{RuleInstance, fits, is_shaped, fits_besides, black_group_of}
use Rattle.plan_rules.specs.Laws.{IsLineOf}
use Rattle.plan_rules.proofs.AllRules.{lawful}
use Rattle.plan_text.specs.Words.{◌>>=◌, spaced, words_of}
use Rattle.plan_text.specs.Items.{instance_text, is_named, instance_of}
use Rattle.plan_text.specs.PlanLine.{plan_words, plan_text, PlanFits, IsPlanLine, instances_of, members_of, plan_of_words, read_plan}
use Rattle.plan_text.proofs.Spaced.{bind_some, chosen_some, is_text, IsPlain, plain_text, words_of_spaced, spaced_words, spaced_bytes, spaced_behind}
use Rattle.plan_text.proofs.Items.{instance_read}
use Rattle.plan_text.proofs.Instances.{instance_plain, instance_short, instance_spelled}
use Rattle.plan_rules.specs.declared.TheConstants.{MOST_MEMBERS}

-- each is an instance of the board
abbrev AreNamed : Board → List RuleInstance → Type 0
AreNamed board ws = AllByRecursion (λ w. is_named board w ≡ true) ws

instances_read : (board : Board) (words : List (List ℕ)) (ws : List RuleInstance) → instances_of board words ≡ Some ws
    → (words ≡ map instance_text ws) × AreNamed board ws
instances_read board [] ws h = let same : [] ≡ ws = cc in subst (λ ws. ([] ≡ map instance_text ws) × AreNamed board ws) same (refl, tt)
instances_read board (word ∷ words) ws h =
    let first = bind_some (instance_of board word) _ ws h in
    let rest = bind_some (instances_of board words) (λ more. Some (first.0 ∷ more)) ws first.2 in
    let one = instance_read board word first.0 first.1 in
    let more = instances_read board words rest.0 rest.1 in
    let same : first.0 ∷ rest.0 ≡ ws = cc (rest.2) in
    subst (λ ws. (word ∷ words ≡ map instance_text ws) × AreNamed board ws) same
    (ap (λ word. word ∷ words) one.1 ∙ ap (λ words. instance_text first.0 ∷ words) more.0, (one.0, more.1))

instances_spelled : (board : Board) (ws : List RuleInstance) → AreNamed board ws → instances_of board (map instance_text ws) ≡ Some ws
instances_spelled board [] h = refl
instances_spelled board (w ∷ ws) h =
    ap (λ found. found >>= λ w. instances_of board (map instance_text ws) >>= λ ws. Some (w ∷ ws)) (instance_spelled board w h.0)
    ∙ ap (λ found. found >>= λ ws. Some (w ∷ ws)) (instances_spelled board ws h.1)

-- what is read is spelled so, and fits a line
pub members_read : (board : Board) (words : List (List ℕ)) (ws : List RuleInstance) → members_of board words ≡ Some ws
    → (words ≡ map instance_text ws) × PlanFits board ws
members_read board words ws h =
    let found = chosen_some (nat_le 1 (length words) && nat_le (length words) MOST_MEMBERS) (instances_of board words) ws h in
    let size = and_parts (nat_le 1 (length words)) (nat_le (length words) MOST_MEMBERS) found.0 in
    let read = instances_read board words ws found.1 in
    let count : length words ≡ length ws = ap length read.0 ∙ length-map ws instance_text in
    let some : 1 ≤ length words = leb-true 1 (length words) size.0 in
    let few : length words ≤ MOST_MEMBERS = leb-true (length words) MOST_MEMBERS size.1 in
    (read.0, (omega arith, omega arith, read.1))

-- what fits a line is read from its spelling
pub members_spelled : (board : Board) (ws : List RuleInstance) → PlanFits board ws → members_of board (map instance_text ws) ≡ Some ws
members_spelled board ws h =
    let size : length (map instance_text ws) ≡ length ws = length-map ws instance_text in
    found (and_from _ _ (le-leb 1 (length (map instance_text ws)) (omega arith)) (le-leb (length (map instance_text ws)) MOST_MEMBERS (omega arith)))
  where
    found : (nat_le 1 (length (map instance_text ws)) && nat_le (length (map instance_text ws)) MOST_MEMBERS) ≡ true
        → members_of board (map instance_text ws) ≡ Some ws
    found e = rw e (instances_spelled board ws h.2)

-- no byte of an instance's text is below `+`
pub member_plain : (board : Board) (w : RuleInstance) → is_named board w ≡ true → IsPlain (instance_text w)
member_plain = instance_plain

-- the words with a space before each
pub members_length : (board : Board) (ws : List RuleInstance) → PlanFits board ws
    → length (flat_map (λ word. 32 ∷ word) (map instance_text ws)) ≤ 17 * length ws
members_length board ws h = each ws h.2
  where
    each : (ws : List RuleInstance) → AreNamed board ws → length (flat_map (λ word. 32 ∷ word) (map instance_text ws)) ≤ 17 * length ws
    each [] h = lit≤ tt
    each (w ∷ ws) h = omega (
      arith,
      each ws h.1,
      instance_short board w h.0,
      length-append (32 ∷ instance_text w)
          (flat_map (λ word. 32 ∷ word) (map instance_text ws)),
    )

-- what fits at a position has a spelling on its board
pub fitting_named : (p : Position) (w : RuleInstance) → is_board (board_of p) ≡ true → fits w p ≡ true → is_named (board_of p) w ≡ true
fitting_named p w board h =
    let shape = and_parts (is_shaped w (board_of p)) _ (and_parts _ (fits_besides w p) h).0 in
    and_from _ _ (and_from _ _ board shape.0) (on_line (black_group_of w) ((lawful w).starts p h).line_on_board)
  where
    on_line : (line : Option Group) → IsLineOf line p → option_map_or (lies_on (board_of p)) line true ≡ true
    on_line None lies = refl
    on_line (Some g) lies = lies

-- ---- the line

plan_plain : (board : Board) (ws : List RuleInstance) → AreNamed board ws → AllByRecursion IsPlain (plan_words ws)
plan_plain board ws h = (plain_text (codes "plan") refl, each ws h)
  where
    each : (ws : List RuleInstance) → AreNamed board ws → AllByRecursion IsPlain (map instance_text ws)
    each [] h = tt
    each (w ∷ ws) h = (instance_plain board w h.0, each ws h.1)

-- what is read is in the grammar
pub plan_read : (board : Board) (bytes : List ℕ) (ws : List RuleInstance) → read_plan board bytes ≡ Some ws → IsPlanLine board bytes ws
plan_read board bytes ws h = of_words (words_of bytes) refl h
  where
    of_words : (words : List (List ℕ)) → words_of bytes ≡ words → plan_of_words board words ≡ Some ws → IsPlanLine board bytes ws
    of_words [] e h = cc
    of_words (word ∷ words) e h =
        let found = chosen_some (bytes_eq word (codes "plan")) (members_of board words) ws h in
        let read = members_read board words ws found.1 in (
          read.1,
          spaced_words bytes (word ∷ words) e
              ∙ ap spaced (ap (λ word. word ∷ words) (is_text word (codes "plan") found.0) ∙ ap (λ words. codes "plan" ∷ words) read.0),
        )

-- what is in the grammar is read
pub plan_spelled : (board : Board) (bytes : List ℕ) (ws : List RuleInstance) → IsPlanLine board bytes ws → read_plan board bytes ≡ Some ws
plan_spelled board bytes ws h =
    ap (read_plan board) h.1 ∙ ap (plan_of_words board) (words_of_spaced (codes "plan") (map instance_text ws) (plan_plain board ws h.0.2))
    ∙ members_spelled board ws h.0

-- bytes are the line of one list
pub one_plan : (board : Board) (bytes : List ℕ) (ws vs : List RuleInstance) → IsPlanLine board bytes ws → IsPlanLine board bytes vs → ws ≡ vs
one_plan board bytes ws vs h g = let same : Some ws ≡ Some vs = sym (plan_spelled board bytes ws h) ∙ plan_spelled board bytes vs g in cc

-- no byte of a line is below the space
pub plan_bytes : (board : Board) (bytes : List ℕ) (ws : List RuleInstance) → IsPlanLine board bytes ws → AllByRecursion (λ byte. 32 ≤ byte) bytes
plan_bytes board bytes ws h = subst (AllByRecursion (λ byte. 32 ≤ byte)) (sym h.1) (spaced_bytes (plan_words ws) (plan_plain board ws h.0.2))

-- the longest line has 5,104 bytes
pub plan_length : (board : Board) (ws : List RuleInstance) → PlanFits board ws → length (plan_text ws) ≤ 5104
plan_length board ws h =
    omega (
      arith,
      ap length (spaced_behind (codes "plan") (map instance_text ws)),
      length-append (codes "plan") (flat_map (λ word. 32 ∷ word) (map instance_text ws)),
      members_length board ws h,
    )
