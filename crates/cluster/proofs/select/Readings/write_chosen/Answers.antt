use Rattle.std.proofs.Common.{ap, rules, div-one}
use Rattle.quorum.specs.Counting.{bit}
use Rattle.cluster.specs.Writing.{Chooses, faulty_at}
use Rattle.cluster.proofs.Wrote.{wrote_as, written_where}
use Rattle.cluster.proofs.select.Readings.write_chosen.Goals as goal

pub returns : goal.returns
returns g c =
    let p = c.args.self.now.parameters in
    let wants = Chooses (g.S.Selection.choice c.args.selection.now) p.sensors c.args.self.now.agreed.now in
    written_where _ (faulty_at p.marks 1) (bit p.marks) wants _ _ (λ i. ap (bit p.marks) (div-one i)) (wrote_as _ wants c.requires c.write_sound.ensures (λ q h s v k. search rules))
