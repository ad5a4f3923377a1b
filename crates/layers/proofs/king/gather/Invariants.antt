use Rattle.std.proofs.Common.{◌≡◌, ℕ, take}
use Rattle.quorum.specs.Counting.{bit}
use Rattle.layers.specs.Views.{bits_of}
use Rattle.layers.proofs.king.gather.Given as goal

-- the word has the bits before j, and no other
abbrev pub invariant-loop-j : goal.invariant-loop-j
invariant-loop-j l = (k : ℕ) → bit l.word k ≡ bits_of (take l.j l.bits) k
