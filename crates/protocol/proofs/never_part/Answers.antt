use Rattle.protocol.specs.Clusters.{semantics}
use Rattle.protocol.proofs.Clusters.{runs_never_part}
use Rattle.protocol.proofs.never_part.Goals as goal

pub returns : goal.returns
returns g c =
    runs_never_part (semantics g.A.Reading.Value g.A.State.Value g.A.Command.Value g.A.Application g.L.Layer) (λ k start valid. record {
      readings = g.met.A.Reading.Value.sameness;
      states = g.met.A.State.Value.sameness;
      commands = g.met.A.Command.Value.sameness;
      stepping = g.met.A.Application.stepping k.app;
      commanding = g.met.A.Application.commanding k.app;
      agreement = λ sender own words l. g.met.L.Layer.agreement k.layer k.n k.f k.marks sender own words valid.sized valid.faulty l;
      validity = λ sender own words l s. g.met.L.Layer.validity k.layer k.n k.f k.marks sender own words valid.sized valid.faulty l s;
    })
