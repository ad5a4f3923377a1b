-- A binary64 pattern of a NaN.
use Rattle.std.proofs.Common.{◌≡◌, ℕ, ◌<◌, ◌%◌, ◌/◌, Bool, refl, arith}
use Rattle.std.proofs.lemmas.Bool.{ne_eqb}
use Rattle.std.specs.Float.{nan, binary64}
use Rattle.std.specs.Float.Ieee.{of_bits, of_fields}

-- an exponent of ones and digits that are not all 0
fields : (s : Bool) (t : ℕ) → (t ≡ 0 → ⊥) → of_fields binary64 s 2047 t ≡ nan
unfolding of_fields
fields s t h = rw (ne_eqb t 0 h) refl

-- a pattern whose size is above infinity's is a NaN's
pub nan_above : (b : ℕ) → 0x7ff0_0000_0000_0000 < b % 0x8000_0000_0000_0000 → of_bits binary64 b ≡ nan
unfolding of_bits
nan_above b h =
    let e : b % 0x8000_0000_0000_0000 / 0x10_0000_0000_0000 ≡ 2047 = omega arith in
    rw (e) (fields _ (b % 0x10_0000_0000_0000) (λ z. omega arith))
