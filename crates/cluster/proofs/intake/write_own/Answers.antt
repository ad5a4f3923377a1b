use Rattle.std.proofs.Common.{refl, rules}
use Rattle.cluster.specs.Writing.{Owns}
use Rattle.cluster.proofs.Wrote.{wrote_as}
use Rattle.cluster.proofs.intake.write_own.Goals as goal

pub returns : goal.returns
returns g c = wrote_as _ (Owns c.args.entries.now) refl c.write_sound.ensures (λ p h s v k. search rules)
