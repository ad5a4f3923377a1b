use Rattle.std.proofs.Common.{◌≡◌, ℕ, ◌<◌, get_or}
use Rattle.cluster.proofs.making.write_start.Given as goal

abbrev pub invariant-loop-s : goal.invariant-loop-s
invariant-loop-s g l = (q : ℕ) → q < l.s-index → (d : g.row.S.Denot) → get_or l.state q d ≡ l.start
