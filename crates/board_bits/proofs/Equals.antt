-- `==` of two positions answers whether they are the same.
use Rattle.std.proofs.Common.{◌≡◌, Bool, true, ◌&&◌, ◌==◌, length, sym, ap, ◌∙◌}
use Rattle.std.specs.Prelude.{Decides}
use Rattle.std.proofs.lemmas.Bool.{and_parts, and_from, eq-eqb, eqb-true}
use Rattle.game_rules.specs.Board.{is_board}
use Rattle.game_rules.specs.Position.{Position, board_of, same_position, IsStacked}
use Rattle.game_rules.specs.declared.Length.{Length}
use Rattle.game_rules.specs.declared.Side.TheVariants.{White, Black}
use Rattle.game_rules.proofs.Moves.{same_position_Decides}
use Rattle.game_rules.proofs.Squares.{agree}
use Rattle.board_bits.specs.MenWords.{side_word}
use Rattle.board_bits.specs.PositionFields.{men_of}
use Rattle.board_bits.proofs.Positions.{read_back}

module _ {L : Length → Length → Bool} (lengths : (a b : Length) → Decides (L a b) (a ≡ b)) where
  abbrev boards_equal : Position → Position → Bool
  boards_equal p q = (length p.columns == length q.columns) && ((p.rows == q.rows) && L p.len q.len)

  abbrev words_equal : Position → Position → Bool
  words_equal p q = (side_word p White == side_word q White) && (side_word p Black == side_word q Black)

  module _ (p q : Position) (board : is_board (board_of p) ≡ true) (stacked : IsStacked p) (other_board : is_board (board_of q) ≡ true)
      (other_stacked : IsStacked q) where
    to : (boards_equal p q && words_equal p q) ≡ true → p ≡ q
    to h =
        let both = and_parts (boards_equal p q) (words_equal p q) h in
        let sizes = and_parts (length p.columns == length q.columns) ((p.rows == q.rows) && L p.len q.len) both.0 in
        let lines = and_parts (p.rows == q.rows) (L p.len q.len) sizes.1 in
        let words = and_parts (side_word p White == side_word q White) (side_word p Black == side_word q Black) both.1 in
        sym (read_back p board stacked)
        ∙ ap (λ n. men_of (record { size = record { cols = n; rows = p.rows; len = p.len }; white = side_word p White; black = side_word p Black }))
        (eqb-true (length p.columns) (length q.columns) sizes.0)
        ∙ ap (λ n. men_of (record { size = record { cols = length q.columns; rows = n; len = p.len }; white = side_word p White; black = side_word p Black }))
        (eqb-true p.rows q.rows lines.0)
        ∙ ap (λ len. men_of (record {
          size = record { cols = length q.columns; rows = q.rows; len = len };
          white = side_word p White;
          black =
              side_word p Black;
        })) ((lengths p.len q.len).0 lines.1)
        ∙ ap (λ n. men_of (record { size = board_of q; white = n; black = side_word p Black })) (eqb-true (side_word p White) (side_word q White) words.0)
        ∙ ap (λ n. men_of (record { size = board_of q; white = side_word q White; black = n })) (eqb-true (side_word p Black) (side_word q Black) words.1)
        ∙ read_back q other_board other_stacked

    from : p ≡ q → (boards_equal p q && words_equal p q) ≡ true
    from e = and_from _ _
        (and_from _ _ (eq-eqb (length p.columns) (length q.columns) (ap (λ (r : Position). length r.columns) e))
        (and_from _ _ (eq-eqb p.rows q.rows (ap (λ (r : Position). r.rows) e)) ((lengths p.len q.len).1 (ap (λ (r : Position). r.len) e))))
        (and_from _ _ (eq-eqb (side_word p White) (side_word q White) (ap (λ r. side_word r White) e))
        (eq-eqb (side_word p Black) (side_word q Black) (ap (λ r. side_word r Black) e)))

    pub same_known : (answer : Bool) → answer ≡ (boards_equal p q && words_equal p q) → answer ≡ same_position p q
    same_known answer told = told ∙ agree (boards_equal p q && words_equal p q) (same_position p q) (λ h. (same_position_Decides p q).1 (to h))
        (λ h. from ((same_position_Decides p q).0 h))
