use Rattle.std.proofs.Common.{◌≡◌, ◌==◌, ◌&&◌, ◌||◌, Bool, true, false, refl, sym, ap, ◌∙◌}
use Rattle.game_rules.specs.Board.{Square, on_board}
use Rattle.game_rules.specs.Squares.{has_square, widest}
use Rattle.game_rules.proofs.Squares.{set_same}
use Rattle.board_squares.specs.WholeColumns.{in_columns_of}
use Rattle.board_squares.specs.Words.{squares_of}
use Rattle.board_squares.proofs.WholeColumns.{own_set, fewer_left, column_apart, none_left, first_has, first_on}
use Rattle.board_squares.proofs.mask.Mask.columns.Goals as goal

pub loop-square-init : goal.loop-square-init
loop-square-init c = record {
  left = own_set c.self.inside.word;
  found = set_same _ _ c.empty-columns.result c.empty-columns.ensures (λ u. sym (c.empty-columns.ensures.has u));
  all = λ u. ap (λ b. b || in_columns_of (squares_of c.self.inside.word) u) (c.empty-columns.ensures.has u) ∙ ap (λ us. in_columns_of us u) c.self.view_is;
}

pub loop-square-smaller : goal.loop-square-smaller
loop-square-smaller c =
    fewer_left c.loop-square.rest c.column-column.result c.without-rest.result c.in-Some.square c.loop-square.invariant.left
    (sym c.first.ensures ∙ c.in-Some.is)
    (c.column-column.ensures.has c.in-Some.square ∙ first_on c.loop-square.rest c.in-Some.square c.column.result c.loop-square.invariant.left
    (sym c.first.ensures ∙ c.in-Some.is) c.column.ensures)
    c.without-rest.ensures

pub loop-square-preserved : goal.loop-square-preserved
loop-square-preserved c =
    let whole : (v : Square) → has_square c.column-column.result v ≡ (on_board widest v && (c.in-Some.square.0 == v.0)) = λ v. c.column-column.ensures.has v
    ∙ ap (λ n. on_board widest v && (n == v.0)) c.column.ensures in
    record {
      left = set_same _ _ c.without-rest.result c.without-rest.ensures (λ u. sym (c.without-rest.ensures.has u));
      found = set_same _ _ c.union-columns.result c.union-columns.ensures (λ u. sym (c.union-columns.ensures.has u));
      all = λ u.
          ap (λ b. b || in_columns_of c.without-rest.result u) (c.union-columns.ensures.has u)
          ∙ grouped (has_square c.loop-square.columns u) (has_square c.column-column.result u) (in_columns_of c.without-rest.result u)
          ∙ ap (λ b. has_square c.loop-square.columns u || b)
          (column_apart c.loop-square.rest c.column-column.result c.without-rest.result c.in-Some.square u
          (first_has c.loop-square.rest c.in-Some.square (sym c.first.ensures ∙ c.in-Some.is)) whole c.without-rest.ensures.has)
          ∙ c.loop-square.invariant.all u;
    }
  where
    grouped : (a b d : Bool) → ((a || b) || d) ≡ (a || (b || d))
    grouped true b d = refl
    grouped false b d = refl

pub returns : goal.returns
returns c = set_same _ _ c.loop-square.columns c.loop-square.invariant.found (λ u.
    sym (last (has_square c.loop-square.columns u) (in_columns_of c.loop-square.rest u)
    (none_left c.loop-square.rest u (sym c.first.ensures ∙ c.in_default.is)))
    ∙ c.loop-square.invariant.all u)
  where
    last : (a b : Bool) → b ≡ false → (a || b) ≡ a
    last true b h = refl
    last false b h = h
