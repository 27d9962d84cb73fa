-- `passed` goes over the numbers, each behind the one before.
use Rattle.std.proofs.Common.{ℕ, ◌≡◌, map, drop}
use Rattle.records.specs.Stand.{passed}
use Rattle.records.proofs.stand.passed.Given as goal

abbrev pub invariant-loop-x : goal.invariant-loop-x
invariant-loop-x g l =
    (value : g.row.T.Denot → ℕ) → ((x : g.row.T.Denot) (y : ℕ) → g.T.Into.converts x y → y ≡ value x) → passed (map value l.fn.t) l.fn.s ≡ passed (map value (drop l.x-index l.fn.t)) l.rest
