use Rattle.std.proofs.Common.{rules}
use Rattle.cluster.specs.Writing.{AgreesOn}
use Rattle.cluster.proofs.Wrote.{wrote_as}
use Rattle.cluster.proofs.agree.AgreeInputs.write_agreed.Goals as goal

pub returns : goal.returns
returns g c =
    let a = c.args.self.now in
    let q = a.heard.now.parameters in
    wrote_as _ (AgreesOn g.R.Value.means g.R.Value.alike q.n q.f q.sensors a.own.now a.accept.now a.yes.now a.heard.now.entries.now) c.requires c.write_sound.ensures (λ p h s v k. search rules)
