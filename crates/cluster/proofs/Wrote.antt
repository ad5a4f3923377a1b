-- What follows from what was wanted of each place.
use Rattle.std.proofs.Common.{◌≡◌, ℕ, ◌<◌, Bool, true, false, List, refl, subst, arith}
use Rattle.protocol.specs.Tables.{WrittenAt, Written}
use Rattle.cluster.specs.Writing.{Wrote}

pub wrote_as : {X : Type 0} {m : ℕ} {skip : ℕ → Bool} {wants : ℕ → X → Type 0} {before after : List X} (n : ℕ) (asks : ℕ → X → Type 0)
    → m ≡ n → Wrote m skip wants before after → ((p : ℕ) → p < m → skip p ≡ false → (v : X) → wants p v → asks p v) → Written n skip asks before after
wrote_as {skip = skip} {wants = wants} {before = before} {after = after} n asks e w to p h = met (skip p) refl (w.written p (omega (arith, e)))
  where
    met : (b : Bool) → skip p ≡ b → WrittenAt b (wants p) before after p → WrittenAt b (asks p) before after p
    met true s k = k
    met false s k = λ d. to p (omega (arith, e, h)) s _ (k d)

-- the same where another test skips the same places
pub written_where : {X : Type 0} (n : ℕ) (skip skips : ℕ → Bool) (wants : ℕ → X → Type 0) (before after : List X)
    → ((p : ℕ) → skip p ≡ skips p) → Written n skip wants before after → Written n skips wants before after
written_where n skip skips wants before after same w p h =
    subst (λ (b : Bool). WrittenAt b (wants p) before after p) (same p) (w p h)
