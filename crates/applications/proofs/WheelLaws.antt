-- Counts and torques are their numbers.
use Rattle.std.proofs.Common.{◌≡◌, true, false, ℤ, ap, arith}
use Rattle.std.proofs.lemmas.Int.{ints}
use Rattle.applications.specs.Wheel.{equalℤ}
use Rattle.applications.specs.declared.wheel.Count.{Count}
use Rattle.applications.specs.declared.wheel.Torque.{Torque}

pub equal_refl : (z : ℤ) → equalℤ z z ≡ true
equal_refl z = grind (arith, ints)

pub unequal : (x y : ℤ) → (x ≡ y → ⊥) → equalℤ x y ≡ false
unequal x y h = grind (arith, ints)

pub count_equal : (x y : Count) → x.value ≡ y.value → x ≡ y
count_equal x y e = ap (λ (z : ℤ). record { value = z }) e

pub torque_equal : (x y : Torque) → x.value ≡ y.value → x ≡ y
torque_equal x y e = ap (λ (z : ℤ). record { value = z }) e
