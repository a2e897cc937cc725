-- The fields of a position: its board, and a word of each side's men.
use Rattle.std.specs.Prelude.{◌≡◌, true}
use Rattle.game_rules.specs.Board.{is_board}
use Rattle.game_rules.specs.Position.{Position as Men, board_of, IsStacked}
use Rattle.game_rules.specs.declared.Side.TheVariants.{White, Black}
use Rattle.board_bits.specs.MenWords.{side_word, position_in}
use Rattle.board_bits.specs.declared.position.Position.TheInside.{Inside}

abbrev pub men_of : Inside → Men
men_of a = position_in a.size (a.white, a.black)

abbrev pub fields_of : Men → Inside
fields_of p = record { size = board_of p; white = side_word p White; black = side_word p Black }

-- the men give the fields back, and no column is higher than the board
pub record IsSound (a : Inside) : Type 0 where
  pub board : is_board a.size ≡ true
  pub stacked : IsStacked (men_of a)
  pub fields_back : fields_of (men_of a) ≡ a
