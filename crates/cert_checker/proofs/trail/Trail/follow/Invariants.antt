use Rattle.std.proofs.Common.{◌≡◌, ◌≤◌, take, length}
use Rattle.cert_checker.proofs.trail.Trail.follow.Given as goal

-- the path so far is the first moves of the new one
abbrev pub invariant-loop-index : goal.invariant-loop-index
invariant-loop-index l = record {
  root : l.self.root ≡ l.fn.self.root;
  path : l.self.path ≡ take l.index l.path;
  end : l.index-end ≡ length l.path;
  within : l.index ≤ length l.path;
}
