-- The lead of a linear-time majority vote (Boyer and Moore): each entry that does not carry the leading value cancels one that does.
use Rattle.std.specs.Prelude.{ℕ, ◌+◌, ◌*◌, ◌≤◌, Bool, cond, T, Option}
use Rattle.values.specs.Entries.{present, carries, presence, matches}

module _ {V : Type 0} (alike : V → V → Bool) where
  -- With p entries present and m carrying y, only the leading value can have more than half, and by no more than the margin.
  pub record Bounds (holder : Option V) (margin p m : ℕ) (y : V) : Type 0 where
    pub leading : T (carries alike y holder) → 2 * m ≤ p + margin
    pub trailing : (T (carries alike y holder) → ⊥) → 2 * m + margin ≤ p

  -- Weighing the entry e keeps the bounds for every value.
  pub record Weighed (holder : Option V) (margin : ℕ) (e holder' : Option V) (margin' : ℕ) : Type 0 where
    pub bounds : (y : V) (p m : ℕ) → Bounds holder margin p m y → Bounds holder' margin' (p + cond (present e) 1 0) (m + cond (carries alike y e) 1 0) y
    pub slow : margin' ≤ margin + 1

  -- the bounds hold for every value after n entries
  abbrev pub Leads : ℕ → (ℕ → Option V) → Option V → ℕ → Type 0
  Leads n entry holder margin = (y : V) → Bounds holder margin (presence n entry) (matches alike y n entry) y
