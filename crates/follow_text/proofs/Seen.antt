-- What is seen on a board that is turned round is the mirror image: its moves and its end are those of the board as it lies.
use Rattle.std.proofs.Common.{◌≡◌, ℕ, ◌<◌, Bool, true, false, not, length, refl, sym, ap, ◌∙◌, subst, arith}
use Rattle.game_rules.specs.Position.{Position, side_to_move, has_room, end_of, is_legal, after_move}
use Rattle.game_rules.specs.Mirror.{mirror}
use Rattle.game_rules.proofs.Images.{twice, cols_mirrored, turn_mirrored, room_mirrored, move_mirrored, end_mirrored, legal_mirrored}
use Rattle.game_rules.proofs.Moves.{room_column}
use Rattle.follow_text.specs.Following.{seen, seen_column}

pub turned_back : (turned : Bool) (q : Position) → mirror (seen turned q) ≡ seen (not turned) q
turned_back true q = twice q
turned_back false q = refl

pub seen_twice : (turned : Bool) (q : Position) → seen turned (seen turned q) ≡ q
seen_twice true q = twice q
seen_twice false q = refl

pub column_twice : (turned : Bool) (cols column : ℕ) → column < cols → seen_column turned cols (seen_column turned cols column) ≡ column
column_twice true cols column within = omega arith
column_twice false cols column within = refl

pub column_within : (turned : Bool) (cols column : ℕ) → column < cols → seen_column turned cols column < cols
column_within true cols column within = omega arith
column_within false cols column within = within

pub seen_cols : (turned : Bool) (q : Position) → length (seen turned q).columns ≡ length q.columns
seen_cols true q = cols_mirrored q
seen_cols false q = refl

pub seen_turn : (turned : Bool) (q : Position) → side_to_move (seen turned q) ≡ side_to_move q
seen_turn true q = turn_mirrored q
seen_turn false q = refl

pub seen_end : (turned : Bool) (q : Position) → end_of (seen turned q) ≡ end_of q
seen_end true q = end_mirrored q
seen_end false q = refl

pub seen_room : (turned : Bool) (q : Position) (column : ℕ) → column < length q.columns
    → has_room (seen turned q) (seen_column turned (length q.columns) column) ≡ has_room q column
seen_room true q column within = room_mirrored q column within
seen_room false q column within = refl

pub seen_legal : (turned : Bool) (q : Position) (column : ℕ) → column < length q.columns
    → is_legal (seen turned q) (seen_column turned (length q.columns) column) ≡ is_legal q column
seen_legal true q column within = legal_mirrored q column within
seen_legal false q column within = refl

pub seen_after : (turned : Bool) (q : Position) (column : ℕ) → column < length q.columns
    → after_move (seen turned q) (seen_column turned (length q.columns) column) ≡ seen turned (after_move q column)
seen_after true q column within = move_mirrored q column within
seen_after false q column within = refl

-- a column with room as it is seen is one as the board lies, and the moves there are one
pub seen_move : (turned : Bool) (q : Position) (column : ℕ) → has_room (seen turned q) column ≡ true
    → (has_room q (seen_column turned (length q.columns) column) ≡ true)
    × (after_move (seen turned q) column ≡ seen turned (after_move q (seen_column turned (length q.columns) column)))
seen_move turned q column room =
    let low : column < length q.columns = subst (λ n. column < n) (seen_cols turned q) (room_column (seen turned q) column room) in
    let back = column_twice turned (length q.columns) column low in
    let within = column_within turned (length q.columns) column low in (
      sym (seen_room turned q (seen_column turned (length q.columns) column) within) ∙ ap (has_room (seen turned q)) back ∙ room,
      sym (ap (after_move (seen turned q)) back) ∙ seen_after turned q (seen_column turned (length q.columns) column) within,
    )
