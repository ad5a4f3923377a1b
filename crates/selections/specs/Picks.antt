-- The pick among the first sensors, as a scan from sensor 0 up keeps it.
use Rattle.std.specs.Prelude.{ℕ, ◌<◌, Bool, T, List, Some, None, Option}
use Rattle.selections.specs.Rules.{below, reached}

-- Of the sensors below i: none is reached, or p is the lowest of those reached with the smallest reading.
pub record PickedSome {R : Type 0} (leq : R → R → Bool) (readings : List (Option R)) (i p : ℕ) : Type 0 where
  pub within : p < i
  pub reaches : T (reached leq readings p)
  pub smallest : (j : ℕ) → j < i → T (reached leq readings j) → T (below leq readings p j)
  pub lowest : (j : ℕ) → j < p → T (reached leq readings j) → T (below leq readings j p) → ⊥

abbrev pub Picked : {R : Type 0} → (R → R → Bool) → List (Option R) → ℕ → Option ℕ → Type 0
Picked leq readings i None = (j : ℕ) → j < i → T (reached leq readings j) → ⊥
Picked leq readings i (Some p) = PickedSome leq readings i p
