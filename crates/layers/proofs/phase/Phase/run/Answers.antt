use Rattle.std.proofs.Common.{◌≡◌, ℕ, ◌<◌, ◌∙◌, arith, rules}
use Rattle.layers.specs.King.{proposal}
use Rattle.layers.specs.Views.{given, bits_of, said_of, taken_at}
use Rattle.layers.proofs.Same.{phase_tables, taken_of, settled_by}
use Rattle.layers.proofs.phase.Phase.run.Goals as goal

pub returns : goal.returns
returns c i h =
    let g = given c.args.self.now.instance in
    let p = c.args.self.now.king in
    let x = bits_of c.args.bits.now in
    let q = said_of c.fill-proposals.result in
    let t = taken_of c.fill-taken.result in
    let proposed : (j : ℕ) → j < g.n → q j ≡ proposal g p x j = λ j l. let filled = c.fill-proposals.ensures j l in search rules in
    let took : (j : ℕ) → j < g.n → t j ≡ taken_at g p q x j = λ j l. let filled = c.fill-taken.ensures j l in search rules in
    let settled : bits_of c.fill.result i ≡ settled_by g p t i = let filled = c.fill.ensures i h in search rules in
    settled ∙ phase_tables g p x q t proposed took (omega arith) i h
