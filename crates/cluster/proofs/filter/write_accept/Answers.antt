use Rattle.std.proofs.Common.{rules}
use Rattle.cluster.specs.Writing.{Accepts}
use Rattle.cluster.proofs.Wrote.{wrote_as}
use Rattle.cluster.proofs.filter.write_accept.Goals as goal

pub returns : goal.returns
returns g c =
    let h = c.args.heard.now in
    let p = h.parameters in
    wrote_as _ (Accepts g.R.Value.alike p.n p.f p.sensors c.args.own.now h.entries.now) c.requires c.write_sound.ensures (λ q l s v k. search rules)
