use Rattle.std.proofs.Common.{◌+◌, ◌-◌, ◌*◌, ◌≤◌, length, refl, arith}
use Rattle.std.proofs.lemmas.Nat.{mul-add-lt}
use Rattle.cluster.proofs.Choosing.{row_length, row_is}
use Rattle.cluster.proofs.select.Readings.of.Goals as goal

pub returns : goal.returns
returns g c =
    let a = c.args in
    let p = a.self.now.parameters in
    let within : a.i * p.sensors + p.sensors ≤ length a.self.now.agreed.now = omega (arith, mul-add-lt a.i p.sensors (p.sensors - 1) p.n (omega arith) (omega arith)) in
    record {
      is = row_is a.self.now.agreed.now (a.i * p.sensors) p.sensors within a.i refl;
      few = row_length a.self.now.agreed.now (a.i * p.sensors) p.sensors within;
    }
