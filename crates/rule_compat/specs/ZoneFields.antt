-- The fields of a zone, and that its instance determines them.
use Rattle.std.specs.Prelude.{◌≡◌}
use Rattle.std.proofs.Common.{ap, sym, ◌∙◌}
use Rattle.game_rules.specs.Squares.{has_square, squares_where, IsSetOf}
use Rattle.plan_rules.specs.Rules.{zone_of}
use Rattle.rule_compat.specs.declared.instance.Instance.{Instance}
use Rattle.rule_compat.specs.Written.{written}
use Rattle.board_squares.specs.WholeColumns.{in_columns_of}
use Rattle.rule_compat.specs.declared.zone.Zone.TheInside.{Inside}

pub record IsSound (a : Inside) : Type 0 where
  pub squares : IsSetOf (has_square (zone_of (written a.instance))) a.squares
  pub columns : IsSetOf (in_columns_of a.squares) a.columns

abbrev pub fields_of : Instance → Inside
fields_of w = record {
  instance = w;
  squares = squares_where (has_square (zone_of (written w)));
  columns = squares_where (in_columns_of (squares_where (has_square (zone_of (written w)))));
}

pub fields_told : (a : Inside) → IsSound a → fields_of a.instance ≡ a
fields_told a sound =
    ap (λ squares. record { instance = a.instance; squares = squares; columns = squares_where (in_columns_of squares) }) (sym sound.squares.in_order)
    ∙ ap (λ columns. record a { columns = columns }) (sym sound.columns.in_order)
