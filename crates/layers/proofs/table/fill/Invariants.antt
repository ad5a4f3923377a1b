use Rattle.std.proofs.Common.{◌≡◌, ℕ, ◌<◌, length, slice_index_or}
use Rattle.layers.proofs.table.fill.Given as goal

-- the places before i are filled
abbrev pub invariant-loop-i : goal.invariant-loop-i
invariant-loop-i g l = (length l.table ≡ 16) × ((k : ℕ) → k < l.i → goal.F-post g l.fn.f k (slice_index_or l.table k l.fn.rest))
