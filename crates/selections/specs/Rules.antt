-- The rules: the lowest candidate, and the mid-value.
use Rattle.std.specs.Prelude.{ℕ, ◌+◌, ◌*◌, ◌/◌, ◌<◌, ◌≤◌, Bool, false, not, ◌&&◌, T, List, length, ◌==◌, nat_le, Option, Some, None}
use Rattle.quorum.specs.Counting.{count}
use Rattle.values.specs.Entries.{entry_at}
use Rattle.selections.specs.Choices.{candidate, lowest_sensor}

-- the lowest candidate
unfoldable pub first : {R : Type 0} → List (Option R) → ℕ
first readings = lowest_sensor (length readings) (candidate readings)

-- both are present, and the one's reading is at most the other's
abbrev pub at_most : {R : Type 0} → (R → R → Bool) → Option R → Option R → Bool
at_most leq None d = false
at_most leq (Some x) None = false
at_most leq (Some x) (Some y) = leq x y

module _ {R : Type 0} (leq : R → R → Bool) (readings : List (Option R)) where
  -- the reading of sensor j is at most that of sensor k
  abbrev pub below : ℕ → ℕ → Bool
  below j k = at_most leq (entry_at readings j) (entry_at readings k)

  -- half of the candidates, rounded up
  abbrev pub half : ℕ
  half = (count (length readings) (candidate readings) + 1) / 2

  -- how many readings do not exceed that of sensor k
  abbrev pub rank : ℕ → ℕ
  rank k = count (length readings) (λ j. below j k)

  -- a candidate whose reading at least half of them do not exceed
  abbrev pub reached : ℕ → Bool
  reached k = candidate readings k && nat_le half (rank k)

  -- of these, one that has the smallest reading
  abbrev pub middle : ℕ → Bool
  middle k = reached k && count (length readings) (λ j. reached j && not (below k j)) == 0

  -- of equal readings the lowest sensor
  unfoldable pub mid_value : ℕ
  mid_value = lowest_sensor (length readings) middle

  -- The rule in words, of the answer k where there is a candidate.
  pub record MidValued (k : ℕ) : Type 0 where
    pub chosen : T (candidate readings k)
    pub enough : half ≤ rank k
    pub smallest : (j : ℕ) → T (candidate readings j) → half ≤ rank j → T (below k j)
    pub lowest : (j : ℕ) → T (below j k) → T (below k j) → k ≤ j

  -- k's reading lies between the least and the greatest of the set
  pub record Between (set : ℕ → Bool) (k : ℕ) : Type 0 where
    pub low : (j : ℕ) × T (set j) × T (below j k)
    pub high : (j : ℕ) × T (set j) × T (below k j)

  -- The law: so it is for every set of candidates that is more than half of all sensors.
  abbrev pub Bracketed : ℕ → Type 0
  Bracketed k = (set : ℕ → Bool) → ((j : ℕ) → T (set j) → T (candidate readings j)) → length readings < 2 * count (length readings) set → Between set k
