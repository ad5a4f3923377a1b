use Rattle.std.proofs.Common.{◌≡◌, ℕ, ◌<◌}
use Rattle.layers.specs.King.{bits_after}
use Rattle.layers.specs.Views.{bits_of, given}
use Rattle.layers.proofs.king.last_bits.Given as goal

-- as many phases are done as kings had their turn
abbrev pub invariant-loop-king : goal.invariant-loop-king
invariant-loop-king l =
    let g = l.instance in
    (k : ℕ) → k < g.n → bits_of l.bits k ≡ bits_after (given g) g.sender g.bit l.king k
