use Rattle.selections.specs.Picks.{Picked}
use Rattle.selections.proofs.mid_value.Ranking.pick.Given as goal

abbrev pub invariant-loop-k : goal.invariant-loop-k
invariant-loop-k g l = Picked g.R.Ordered.leq l.self.readings.now l.k l.pick
