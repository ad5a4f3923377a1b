use Rattle.std.proofs.Common.{take}
use Rattle.protocol.specs.Setup.{sizes, lent, History}
use Rattle.protocol.specs.Clusters.{Cluster, semantics, config, Came}
use Rattle.operation.specs.Calls.{onto, standing, Each}
use Rattle.operation.proofs.perform.perform.Given as goal

abbrev pub invariant-loop-call : goal.invariant-loop-call
invariant-loop-call g l = record {
  each : Each (semantics g.A.Reading.Value g.A.State.Value g.A.Command.Value g.A.Application g.L.Layer) g.Z.Selection.choice (sizes (lent l.initial.state l.initial.own l.initial.agreed l.initial.run l.initial.accept l.initial.yes l.initial.heard l.initial.candidates l.initial.chosen))
      (standing l.initial.progress (lent l.initial.state l.initial.own l.initial.agreed l.initial.run l.initial.accept l.initial.yes l.initial.heard l.initial.candidates l.initial.chosen)) (take l.call-index l.calls)
      (standing l.progress (lent l.state l.own l.agreed l.run l.accept l.yes l.heard l.candidates l.chosen));
  runs : (origin : Cluster g.row.A.Denot g.row.L.Denot) (start : g.row.A-State.Denot) (h : History g.row.A-Reading.Denot g.row.A-State.Denot g.row.A-Command.Denot)
      → Came (semantics g.A.Reading.Value g.A.State.Value g.A.Command.Value g.A.Application g.L.Layer) origin start h (standing l.initial.progress (lent l.initial.state l.initial.own l.initial.agreed l.initial.run l.initial.accept l.initial.yes l.initial.heard l.initial.candidates l.initial.chosen))
      → Came (semantics g.A.Reading.Value g.A.State.Value g.A.Command.Value g.A.Application g.L.Layer) origin start
      (onto (config (semantics g.A.Reading.Value g.A.State.Value g.A.Command.Value g.A.Application g.L.Layer) origin start) g.Z.Selection.choice (sizes (lent l.initial.state l.initial.own l.initial.agreed l.initial.run l.initial.accept l.initial.yes l.initial.heard l.initial.candidates l.initial.chosen)) (take l.call-index l.calls) h)
      (standing l.progress (lent l.state l.own l.agreed l.run l.accept l.yes l.heard l.candidates l.chosen));
}
