use Rattle.std.proofs.Common.{◌≡◌, ℕ, sym, ap, ◌∙◌, ap₂, add-one, arith, rules}
use Rattle.layers.specs.King.{Given, bits_after, phase}
use Rattle.layers.specs.Views.{bits_of, given}
use Rattle.layers.proofs.Same.{phase_same}
use Rattle.layers.proofs.king.last_bits.Goals as goal

pub loop-king-init : goal.loop-king-init
loop-king-init c k h = let filled = c.fill-bits.ensures k h in search rules

pub loop-king-preserved : goal.loop-king-preserved
loop-king-preserved c k h =
    let i = c.args.instance.now in
    let after = bits_after (given i) i.sender i.bit in
    let size : c.new.result.instance.n ≡ i.n = ap (λ (g : Given). g.n) c.new.ensures.given in
    c.run-bits.ensures k (omega arith)
    ∙ ap₂ (λ (g : Given) (p : ℕ). phase g p (bits_of c.loop-king.bits) k) c.new.ensures.given c.new.ensures.king
    ∙ phase_same (given i) c.loop-king.king (bits_of c.loop-king.bits) (after c.loop-king.king) c.loop-king.invariant (omega arith) k h
    ∙ sym (ap (λ (m : ℕ). after m k) (add-one c.loop-king.king))
