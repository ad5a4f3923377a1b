use Rattle.std.proofs.Common.{slice_index_or}
use Rattle.layers.specs.King.{heard}
use Rattle.layers.specs.Views.{given}
use Rattle.layers.proofs.Tallies.{Counted}
use Rattle.layers.proofs.layer.Instance.tally.Given as goal

-- the tally is of the places before j
abbrev pub invariant-loop-j : goal.invariant-loop-j
invariant-loop-j g l = Counted l.tally l.j (heard (given l.self) l.at (λ j. g.V.Message.aloud (slice_index_or l.table j g.V.Message.absent)) l.i)
