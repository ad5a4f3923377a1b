use Rattle.std.proofs.Common.{◌*◌, arith}
use Rattle.std.proofs.lemmas.Nat.{mul-le}
use Rattle.cycles.proofs.Tray.new.Goals as goal

pub overflow_mul-n : goal.overflow_mul-n
overflow_mul-n c =
    let l = c.args.load in
    omega (arith, mul-le l.n (l.n * l.sensors) 16 64 l.many (mul-le l.n l.sensors 16 4 l.many l.sensed))
