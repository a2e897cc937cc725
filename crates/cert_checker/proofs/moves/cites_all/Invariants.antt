use Rattle.std.proofs.Common.{◌≡◌, ◌-◌, filter, length}
use Rattle.std.specs.List.{range_with_len}
use Rattle.std.specs.Str.{bytes_eq}
use Rattle.game_rules.specs.Position.{board_of, has_room, open_columns}
use Rattle.cert_checker.specs.Checking.{columns_of}
use Rattle.cert_checker.proofs.moves.cites_all.Given as goal

-- the columns left are to be those that are left of the open ones
abbrev pub invariant-loop-index : goal.invariant-loop-index
invariant-loop-index l =
    let n = length l.position.columns in
    record {
      board : l.size ≡ board_of l.position;
      end : l.index-end ≡ n;
      same : bytes_eq (columns_of l.left) (filter (has_room l.position) (range_with_len l.index (n - l.index)))
          ≡ bytes_eq (columns_of l.cites) (open_columns l.position);
    }
