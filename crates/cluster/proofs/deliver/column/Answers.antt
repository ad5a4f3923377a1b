use Rattle.std.proofs.Common.{◌+◌, get_or, rules}
use Rattle.quorum.specs.Counting.{bit}
use Rattle.cluster.proofs.Masks.{mask_as}
use Rattle.cluster.proofs.deliver.column.Goals as goal

pub returns : goal.returns
returns c = mask_as _ _ (λ j. bit (get_or c.args.masks.now (c.args.first + j) 0) c.args.i) _ c.mask_of.ensures (λ j h b k. search rules)
