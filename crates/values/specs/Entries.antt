-- Entries, and how many of them are present or carry a value.
use Rattle.std.specs.Prelude.{◌≡◌, ℕ, Bool, true, false, List, slice_index_or, Option, Some, None}
use Rattle.quorum.specs.Counting.{count}

-- the entry carries a value
abbrev pub present : {V : Type 0} → Option V → Bool
present None = false
present (Some x) = true

-- the value it carries is x
abbrev pub carries : {V : Type 0} → (V → V → Bool) → V → Option V → Bool
carries alike x None = false
carries alike x (Some y) = alike x y

-- two entries are the same by meaning: both missing, or carrying values that mean the same
abbrev pub SameEntry : {V M : Type 0} → (V → M) → Option V → Option V → Type 0
SameEntry means None None = Unit {0}
SameEntry means None (Some y) = ⊥
SameEntry means (Some x) None = ⊥
SameEntry means (Some x) (Some y) = means x ≡ means y

-- the entry at place i of a list, missing past its end
abbrev pub entry_at : {V : Type 0} → List (Option V) → ℕ → Option V
entry_at entries i = slice_index_or entries i None

-- how many of n entries are present
abbrev pub presence : {V : Type 0} → ℕ → (ℕ → Option V) → ℕ
presence n entry = count n (λ i. present (entry i))

-- how many of n entries carry x
abbrev pub matches : {V : Type 0} → (V → V → Bool) → V → ℕ → (ℕ → Option V) → ℕ
matches alike x n entry = count n (λ i. carries alike x (entry i))
