use Rattle.std.proofs.Common.{◌≡◌, ℕ, ◌<◌, length, get_or, Some, None}
use Rattle.std.specs.Option.{option_map}
use Rattle.runfile.specs.Bodies.{entry_in}
use Rattle.runfile.proofs.body.fill.Given as goal

abbrev pub invariant-loop-i : goal.invariant-loop-i
invariant-loop-i g l = (length l.table ≡ length l.fn.table) × ((j : ℕ) → j < l.i → Some (option_map g.T.Encoded.says (get_or l.table j None)) ≡ entry_in g.T.Encoded.size g.T.Encoded.decoded l.body j)
