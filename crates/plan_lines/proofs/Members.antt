-- Instances that the call of a rule makes, and instances in a row, read and written one by one.
use Rattle.std.proofs.Common.{◌≡◌, ℕ, ◌+◌, ◌<◌, ◌≤◌, Bool, true, false, not, cond, ◌&&◌, ◌==◌, nat_le, List, [], ◌∷◌, ◌++◌, map, take, drop, length, get_or}
use Rattle.std.proofs.Common.{Option, Some, None, refl, sym, ap, ◌∙◌, subst, flat_map, codes, append-nil, append_assoc}
use Rattle.std.specs.List.{list_all}
use Rattle.std.specs.Bool.{if◌then◌else◌}
use Rattle.std.specs.Option.{option_map, option_map_or, option_and_then}
use Rattle.std.proofs.lemmas.Bool.{and_parts, and_from, le-leb, lt-leb}
use Rattle.std.proofs.lemmas.List.{take-append-drop, take_more}
use Rattle.std.proofs.lemmas.Grind.{flat_map-append}
use Rattle.std.proofs.Math.Bool.{and-false}
use Rattle.std.specs.Io.KnownBytes.{Appends}
use Rattle.std.proofs.KnownBytes.{Appends-trans}
use Rattle.device_rules.specs.Devices.{AppendsPrefix}
use Rattle.device_rules.proofs.DeviceLaws.{AppendsPrefix_take, AppendsPrefix_more}
use Rattle.game_rules.specs.Board.{Board, Square, is_board, on_board}
use Rattle.game_rules.specs.Groups.{Group, squares_of, lies_on}
use Rattle.game_rules.specs.Squares.{has_square}
use Rattle.game_rules.proofs.Squares.{agree}
use Rattle.plan_rules.specs.Rules.{RuleInstance, lowinverse, baseclaim, specialbefore, is_shaped, has_shape, black_group_of}
use Rattle.plan_rules.specs.declared.Kind.{Kind}
use Rattle.plan_rules.specs.declared.Kind.TheVariants as kinds
use Rattle.plan_text.specs.Words.{words_of}
use Rattle.plan_text.specs.Items.{instance_text, is_named, group_of, two_columns, three_squares, group_and_squares, of_rule, if_named}
use Rattle.plan_text.proofs.Items.{group_read}
use Rattle.plan_text.specs.PlanLine.{plan_text, instances_of, members_of}
use Rattle.plan_text.proofs.Spaced.{spaced_behind}
use Rattle.proof_text.specs.Spelling.{as_line}
use Rattle.plan_lines.specs.Items.{members_text}
use Rattle.text_words.proofs.Words.{words_some}
use Rattle.plan_rules.specs.declared.TheConstants.{MOST_MEMBERS}

-- ---- instances of a rule

-- An instance is one of the board exactly where it has the shape, if with the shape goes that its line lies there.
pub named_by_shape : (board : Board) (w : RuleInstance) → is_board board ≡ true
    → (is_shaped w board ≡ true → option_map_or (lies_on board) (black_group_of w) true ≡ true) → is_named board w ≡ is_shaped w board
named_by_shape board w is lies = agree (is_named board w) (is_shaped w board)
    (λ h. (and_parts (is_board board) (is_shaped w board) (and_parts _ (option_map_or (lies_on board) (black_group_of w) true) h).0).1)
    (λ h. and_from _ _ (and_from _ _ is h) (lies h))

-- What a rule's call makes of the parts that were read, where the call goes by the shape.
pub made_by_shape : {X Z : Type 0} (board : Board) (rule : Kind) (bytes : List ℕ) (found : Option X) (x : X) (make : X → RuleInstance) (made : Option Z) (z : Z)
    (write : Z → RuleInstance)
    → is_named board (make x) ≡ is_shaped (make x) board → of_rule board rule bytes ≡ option_map make found → found ≡ Some x → write z ≡ make x
    → made ≡ (if is_shaped (make x) board then Some z else None) → option_map write made ≡ option_and_then (if_named board) (of_rule board rule bytes)
made_by_shape {X} {Z} board rule bytes found x make made z write named read found_is same made_is =
    ap (option_map write) made_is ∙ mapped (is_shaped (make x) board) ∙ ap (λ b. cond b (Some (make x)) None) (sym named)
    ∙ sym (ap (option_and_then (if_named board)) (read ∙ ap (option_map make) found_is))
  where
    mapped : (b : Bool) → option_map write (cond b (Some z) None) ≡ cond b (Some (make x)) None
    mapped true = ap Some same
    mapped false = refl

module _ (board : Board) (rule : Kind) (bytes : List ℕ) (is : is_board board ≡ true) where
  -- what is read as an instance of the rule
  abbrev Read : Option RuleInstance
  Read = option_and_then (if_named board) (of_rule board rule bytes)

  pub lowinverse_made : (x x_top y y_top : Square) (made : Option (Square × Square × Square × Square)) → rule ≡ kinds.Lowinverse
      → two_columns board bytes ≡ Some ((x, x_top), (y, y_top))
      → made ≡ (if is_shaped (lowinverse x x_top y y_top) board then Some (x, x_top, y, y_top) else None)
      → option_map (λ z. lowinverse z.0 z.1 z.2 z.3) made ≡ Read
  lowinverse_made x x_top y y_top made rule_is found made_is =
      made_by_shape board rule bytes (two_columns board bytes) ((x, x_top), (y, y_top)) (λ us. lowinverse us.0.0 us.0.1 us.1.0 us.1.1) made (x, x_top, y, y_top)
      (λ z. lowinverse z.0 z.1 z.2 z.3)
      (named_by_shape board (lowinverse x x_top y y_top) is (λ shaped. refl)) (ap (λ rule. of_rule board rule bytes) rule_is) found refl made_is

  pub baseclaim_made : (a b e : Square) (made : Option (Square × Square × Square)) → rule ≡ kinds.Baseclaim → three_squares board bytes ≡ Some (a, (b, e))
      → made ≡ (if is_shaped (baseclaim a b e) board then Some (a, b, e) else None) → option_map (λ z. baseclaim z.0 z.1 z.2) made ≡ Read
  baseclaim_made a b e made rule_is found made_is =
      made_by_shape board rule bytes (three_squares board bytes) (a, (b, e)) (λ us. baseclaim us.0 us.1.0 us.1.1) made (a, b, e) (λ z. baseclaim z.0 z.1 z.2)
      (named_by_shape board (baseclaim a b e) is (λ shaped. refl)) (ap (λ rule. of_rule board rule bytes) rule_is) found refl made_is

  pub specialbefore_made : (g : Group) (f e0 : Square) (made : Option (Group × Square × Square)) → rule ≡ kinds.Specialbefore
      → group_and_squares board bytes ≡ Some (g, (f, e0))
      → made ≡ (if is_shaped (specialbefore g f e0) board then Some (g, f, e0) else None) → option_map (λ z. specialbefore z.0 z.1 z.2) made ≡ Read
  specialbefore_made g f e0 made rule_is found made_is =
      made_by_shape board rule bytes (group_and_squares board bytes) (g, (f, e0)) (λ us. specialbefore us.0 us.1.0 us.1.1) made (g, f, e0)
      (λ z. specialbefore z.0 z.1 z.2)
      (named_by_shape board (specialbefore g f e0) is lies) (ap (λ rule. of_rule board rule bytes) rule_is) found refl made_is
    where
      lies : is_shaped (specialbefore g f e0) board ≡ true → lies_on board g ≡ true
      lies shaped =
          let shape = (and_parts (list_all (on_board board) []) (has_shape (specialbefore g f e0) board) shaped).1 in
          let apart = and_parts (lies_on board g && on_board board f && not (has_square (squares_of g) f) && has_square (squares_of g) e0) (not (f.0 == e0.0))
          shape in
          let in_line = and_parts (lies_on board g && on_board board f && not (has_square (squares_of g) f)) (has_square (squares_of g) e0) apart.0 in
          let out = and_parts (lies_on board g && on_board board f) (not (has_square (squares_of g) f)) in_line.0 in
          (and_parts (lies_on board g) (on_board board f) out.0).0

  -- a rule of a group alone has no shape to fail
  pub group_made : (make : Group → RuleInstance) (g : Group) → of_rule board rule bytes ≡ option_map make (group_of board bytes) → group_of board bytes ≡ Some g
      → is_shaped (make g) board ≡ true → black_group_of (make g) ≡ Some g → Some (make g) ≡ Read
  group_made make g read found shaped line =
      let lies : option_map_or (lies_on board) (black_group_of (make g)) true ≡ true = ap (λ line. option_map_or (lies_on board) line true) line
      ∙ (group_read board bytes g found).1 in
      let named : is_named board (make g) ≡ true = and_from _ _ (and_from _ _ is shaped) lies in
      sym (ap (option_and_then (if_named board)) (read ∙ ap (option_map make) found) ∙ rw named refl)

-- ---- instances in a row

pub members_too_many : (board : Board) (words : List (List ℕ)) → MOST_MEMBERS < length words → members_of board words ≡ None
members_too_many board words many =
    let long : nat_le (length words) MOST_MEMBERS ≡ false = lt-leb (length words) MOST_MEMBERS many in
    ap (λ b. cond b (instances_of board words) None) (ap (λ b. nat_le 1 (length words) && b) long ∙ and-false (nat_le 1 (length words)))

pub members_are : (board : Board) (bytes : List ℕ) (ws : List RuleInstance) → length (words_of bytes) ≤ MOST_MEMBERS
    → instances_of board (words_of bytes) ≡ Some ws → members_of board (words_of bytes) ≡ Some ws
members_are board bytes ws few h =
    ap (λ b. cond b (instances_of board (words_of bytes)) None) (and_from _ _ (le-leb 1 _ (words_some bytes)) (le-leb _ MOST_MEMBERS few)) ∙ h

-- Pieces that are put one after another, each the text of an element: where one isn't put whole, a prefix of them all
-- stands; and where it is, one more stands.
module _ {X : Type 0} (text : X → List ℕ) (old mid new : Option (List ℕ)) (xs : List X) (i : ℕ) (x : X) (within : i < length xs) (at : x ≡ get_or xs i x)
    (before : Appends old mid (flat_map text (take i xs))) where
  one_more : flat_map text (take (i + 1) xs) ≡ flat_map text (take i xs) ++ text x
  one_more = ap (flat_map text) (take_more xs i x within) ∙ flat_map-append text (take i xs) (get_or xs i x ∷ [])
      ∙ ap (λ piece. flat_map text (take i xs) ++ piece) (append-nil (text (get_or xs i x)) ∙ ap text (sym at))

  pub pieces_cut : AppendsPrefix false mid new (text x) → AppendsPrefix false old new (flat_map text xs)
  pieces_cut rest =
      let whole : flat_map text xs ≡ (flat_map text (take i xs) ++ text x) ++ flat_map text (drop (i + 1) xs) =
      ap (flat_map text) (sym (take-append-drop (i + 1) xs)) ∙ flat_map-append text (take (i + 1) xs) (drop (i + 1) xs)
      ∙ ap (λ start. start ++ flat_map text (drop (i + 1) xs)) one_more in
      subst (AppendsPrefix false old new) (sym whole)
      (AppendsPrefix_take old new _ (flat_map text (drop (i + 1) xs))
      (AppendsPrefix_more false old mid new (flat_map text (take i xs)) (text x) before rest))

  pub pieces_more : Appends mid new (text x) → Appends old new (flat_map text (take (i + 1) xs))
  pieces_more rest = subst (Appends old new) (sym one_more) (Appends-trans old mid new (flat_map text (take i xs)) (text x) before rest)

-- texts of what is made of each element
pub flat_map_made : {X Y Z : Type 0} (text : Y → List Z) (make : X → Y) (xs : List X) → flat_map text (map make xs) ≡ flat_map (λ x. text (make x)) xs
flat_map_made text make [] = refl
flat_map_made text make (x ∷ xs) = ap (λ rest. text (make x) ++ rest) (flat_map_made text make xs)

members_behind : (ws : List RuleInstance) → flat_map (λ word. 32 ∷ word) (map instance_text ws) ≡ members_text ws
members_behind [] = refl
members_behind (w ∷ ws) = ap (λ rest. (32 ∷ instance_text w) ++ rest) (members_behind ws)

-- the line of a plan in its three pieces
pub plan_pieces : (ws : List RuleInstance) → codes "plan" ++ (members_text ws ++ 10 ∷ []) ≡ as_line (plan_text ws)
plan_pieces ws =
    ap (λ text. codes "plan" ++ (text ++ 10 ∷ [])) (sym (members_behind ws))
    ∙ sym (append_assoc (codes "plan") (flat_map (λ word. 32 ∷ word) (map instance_text ws)) (10 ∷ []))
    ∙ ap as_line (sym (spaced_behind (codes "plan") (map instance_text ws)))
