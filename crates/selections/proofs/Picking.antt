-- One turn of the scan for the mid-value, and what it ends with.
use Rattle.std.proofs.Common.{◌≡◌, ℕ, ◌+◌, ◌<◌, Bool, false, ◌||◌, T, List, length, Some, None, Option, sym, refl, subst, inl, inr, arith}
use Rattle.std.proofs.lemmas.Bool.{cases_Bool, cases_eq}
use Rattle.quorum.proofs.Counts.{yes}
use Rattle.selections.specs.Choices.{no_sensor, candidate}
use Rattle.selections.specs.Rules.{below, reached, middle, mid_value}
use Rattle.selections.specs.Picks.{Picked}
use Rattle.selections.specs.Sensors.{sensor_found, sensor_none}
use Rattle.selections.specs.Middle.{tot, tr, reach_back, middle_of, middle_back}

module _ {R M : Type 0} (means : R → M) (leq : R → R → Bool)
    (total : (x y : R) → T (leq x y || leq y x))
    (transitive : (x y z : R) → T (leq x y) → T (leq y z) → T (leq x z))
    (congruent : (x y : R) → means x ≡ means y → T (leq x y))
    (readings : List (Option R)) where
  abbrev r : ℕ → Bool
  r = reached leq readings

  abbrev w : ℕ → ℕ → Bool
  w = below leq readings

  candidate_of : (k : ℕ) → T (r k) → T (candidate readings k)
  candidate_of k t = (reach_back means leq total transitive congruent readings k t).0

  self : (k : ℕ) → T (r k) → T (w k k)
  self k t = elim (tot means leq total transitive congruent readings k k (candidate_of k t) (candidate_of k t)) [ inl u ↦ u | inr u ↦ u ]

  other : (p k : ℕ) → T (r p) → T (r k) → (T (w p k) → ⊥) → T (w k p)
  other p k s t free = elim (tot means leq total transitive congruent readings p k (candidate_of p s) (candidate_of k t)) [ inl u ↦ absurd (free u) | inr u ↦ u ]

  along : (i j k : ℕ) → T (w i j) → T (w j k) → T (w i k)
  along i j k s t = tr means leq total transitive congruent readings i j k s t

  -- what holds of the sensors below k, and of k
  below_one : (P : ℕ → Type 0) (k : ℕ) → ((j : ℕ) → j < k → P j) → P k → (j : ℕ) → j < k + 1 → P j
  below_one P k f here j l = elim (cases_eq j k) [ inl e ↦ subst P (sym e) here | inr d ↦ f j (omega arith) ]

  -- k takes over
  pub pick_takes : (k : ℕ) (pick : Option ℕ) → Picked leq readings k pick → T (r k) → ((p : ℕ) → pick ≡ Some p → T (w p k) → ⊥) → Picked leq readings (k + 1) (Some k)
  pick_takes k None none t free = record {
    within = omega arith;
    reaches = t;
    smallest = below_one (λ j. T (r j) → T (w k j)) k (λ j l u. absurd (none j l u)) (λ u. self k t);
    lowest = λ j l u v. none j l u;
  }
  pick_takes k (Some p) led t free = record {
    within = omega arith;
    reaches = t;
    smallest = below_one (λ j. T (r j) → T (w k j)) k (λ j l u. along k p j (other p k led.reaches t (free p refl)) (led.smallest j l u)) (λ u. self k t);
    lowest = λ j l u v. free p refl (along p j k (led.smallest j l u) v);
  }

  -- the pick stays
  pub pick_stays : (k : ℕ) (pick : Option ℕ) → Picked leq readings k pick → (T (r k) × ((p : ℕ) → pick ≡ Some p → T (w p k) → ⊥) → ⊥) → Picked leq readings (k + 1) pick
  pick_stays k None none held = below_one (λ j. T (r j) → ⊥) k none (λ t. held (t, λ p e u. let z : ◌≡◌ {A = ℕ} 0 1 = cc in omega arith))
  pick_stays k (Some p) led held = record {
    within = omega (arith, led.within);
    reaches = led.reaches;
    smallest = below_one (λ j. T (r j) → T (w p j)) k led.smallest at;
    lowest = led.lowest;
  }
    where
      at : T (r k) → T (w p k)
      at t =
          elim (cases_Bool (w p k)) [
            | inl e ↦ yes _ e
            | inr f ↦ absurd (held (t, λ q e u. let same : q ≡ p = cc in subst T (subst (λ (z : ℕ). w z k ≡ false) (sym same) f) u))
          ]

  -- the pick among all sensors is the mid-value
  pub picked_some : (p : ℕ) → Picked leq readings (length readings) (Some p) → p ≡ mid_value leq readings
  unfolding mid_value
  picked_some p led =
      sensor_found (length readings) (middle leq readings) p led.within (middle_of means leq total transitive congruent readings p led.reaches led.smallest)
      (λ j l t.
      let b = middle_back means leq total transitive congruent readings j t in
      led.lowest j l b.0 (b.1 p led.within led.reaches))

  pub picked_none : Picked leq readings (length readings) None → no_sensor ≡ mid_value leq readings
  unfolding mid_value
  picked_none none = sym (sensor_none (length readings) (middle leq readings) (λ j l t. none j l (middle_back means leq total transitive congruent readings j t).0))

  pub picked_within : (k : ℕ) (pick : Option ℕ) (p : ℕ) → Picked leq readings k pick → pick ≡ Some p → p < k
  picked_within k pick p led e = (subst (Picked leq readings k) e led).within
