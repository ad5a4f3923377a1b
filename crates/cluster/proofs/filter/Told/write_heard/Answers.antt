use Rattle.std.proofs.Common.{◌*◌, sym, ap, rules}
use Rattle.std.proofs.Math.Nat.{div-div-eq-div-mul}
use Rattle.quorum.specs.Counting.{bit}
use Rattle.cluster.specs.Writing.{Hears, faulty_at, deaf_at}
use Rattle.cluster.proofs.Wrote.{wrote_as, written_where}
use Rattle.cluster.proofs.filter.Told.write_heard.Goals as goal

pub returns : goal.returns
returns g c =
    let a = c.args.self.now in
    let p = a.parameters in
    let wants = Hears p.n p.sensors p.marks a.own.now a.claims.now in
    written_where _ (faulty_at p.marks (p.sensors * p.n)) (deaf_at p.n p.sensors p.marks) wants _ _ (λ q. ap (bit p.marks) (sym (div-div-eq-div-mul q p.sensors p.n)))
    (wrote_as _ wants c.requires c.write_sound.ensures (λ q h s v k. search rules))
