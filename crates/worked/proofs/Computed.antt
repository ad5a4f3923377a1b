-- The examples, computed.
use Rattle.std.specs.Prelude.{Some, None}
use mathlib.Core.Path.{◌≡◌, refl, sym}
use mathlib.Core.Bool.{true, false}
use Prim.Native.Nat.{ℕ, zero, suc, ◌<◌}
use native.Mathlib.Omega.{arith}
use mathlib.Core.List.{[], ◌∷◌}
use lib.ListN.{replicate}
use Rattle.quorum.specs.Counting.{bit, count, lowest}
use Rattle.layers.specs.King.{king}
use Rattle.values.specs.Majority.{majority}
use Rattle.selections.specs.Rules.{mid_value}
use Rattle.applications.specs.Wheel.{equalℤ}
use Rattle.applications.specs.declared.wheel.Count.{Count}
use Rattle.applications.proofs.WheelLaws.{equal_refl, unequal, count_equal}
use Rattle.worked.specs.Examples.{majority_of, mid_of, seven_and_minus_three, KingGives, Worked}

-- the four tests that the examples turn on
module _ (a b : Count) (differ : a ≡ b → ⊥) where
  ab : equalℤ a.value b.value ≡ false
  ab = unequal a.value b.value (λ e. differ (count_equal a b e))

  ba : equalℤ b.value a.value ≡ false
  ba = unequal b.value a.value (λ e. differ (sym (count_equal b a e)))

  pub two_to_one : majority_of (Some a ∷ (Some a ∷ (Some b ∷ []))) ≡ Some a
  unfolding majority count lowest
  two_to_one = simp (equal_refl a.value, equal_refl b.value, ab, ba)

  pub one_to_one : majority_of (Some a ∷ (Some b ∷ [])) ≡ None
  unfolding majority count lowest
  one_to_one = simp (equal_refl a.value, equal_refl b.value, ab, ba)

pub mid_is_one : mid_of seven_and_minus_three ≡ 1
unfolding mid_value count lowest
mid_is_one = refl

-- the sound replicas of four, of which replica 3 is faulty
each_sound : (P : ℕ → Type 0) → P 0 → P 1 → P 2 → (i : ℕ) → i < 3 → P i
each_sound P a b c zero l = a
each_sound P a b c (suc zero) l = b
each_sound P a b c (suc (suc zero)) l = c
each_sound P a b c (suc (suc (suc i))) l = absurd (omega arith)

pub king_two_faced : KingGives 3 false (1 ∷ (0 ∷ (1 ∷ []))) true
unfolding count
king_two_faced = each_sound (λ i. king 4 1 8 3 false (1 ∷ (0 ∷ (1 ∷ []))) i ≡ true) refl refl refl

pub king_contradicted : KingGives 0 false (replicate 76 1) false
unfolding count
king_contradicted = each_sound (λ i. king 4 1 8 0 false (replicate 76 1) i ≡ false) refl refl refl

-- replicas 0, 1 and 2 are sound
pub unmarked : (i : ℕ) → i < 3 → bit 8 i ≡ false
unmarked = each_sound (λ i. bit 8 i ≡ false) refl refl refl

pub worked : (a b : Count) → Worked a b
worked a b = record {
  two_to_one = two_to_one a b;
  one_to_one = one_to_one a b;
  middle = unfold mid_value count lowest in refl;
  torque_lowest = refl;
  torque_minus_one = refl;
  torque_short = refl;
  step_held = refl;
  king_two_faced = king_two_faced;
  king_contradicted = king_contradicted;
}
