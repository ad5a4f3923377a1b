use native.Mathlib.Omega.{arith}
use Rattle.worked.proofs.Computed.{unmarked}
use Rattle.worked.proofs.king_of_four.Goals as goal

pub returns : goal.returns
returns c i l = c.deliver.ensures i (omega arith) (unmarked i l)
