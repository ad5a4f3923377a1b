use Rattle.std.proofs.Common.{◌+◌, ◌*◌, rules}
use Rattle.values.specs.Entries.{present, entry_at}
use Rattle.cluster.proofs.Masks.{mask_as}
use Rattle.cluster.proofs.agree.candidates_of.Goals as goal

pub returns : goal.returns
returns g c =
    mask_as _ _ (λ k. present (entry_at c.args.agreed.now (c.args.i * c.args.parameters.sensors + k))) _ c.mask_of.ensures (λ k h b q. search rules)
