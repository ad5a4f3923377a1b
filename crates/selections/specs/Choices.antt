-- What a selection answers on the sensors' entries, of which the present ones are the candidates.
use Rattle.std.specs.Prelude.{◌≡◌, ℕ, ◌<◌, Bool, cond, T, List, length, nat_lt, Option}
use Rattle.quorum.specs.Counting.{lowest}
use Rattle.values.specs.Entries.{present, entry_at, SameEntry}

-- the answer that stands for no sensor
abbrev pub no_sensor : ℕ
no_sensor = 255

-- sensor k is a candidate
abbrev pub candidate : {R : Type 0} → List (Option R) → ℕ → Bool
candidate readings k = present (entry_at readings k)

-- the lowest sensor that passes the test, or none
abbrev pub lowest_sensor : ℕ → (ℕ → Bool) → ℕ
lowest_sensor n test = cond (nat_lt (lowest n test) n) (lowest n test) no_sensor

-- What a selection owes. An answer is one byte and 255 stands for none, so it is asked of fewer than 255 sensors.
pub record Chooses {R M : Type 0} (means : R → M) (choice : List (Option R) → ℕ) : Type 0 where
  -- with a candidate, the answer is one
  pub some : (readings : List (Option R)) → length readings < no_sensor → (k : ℕ) → T (candidate readings k) → T (candidate readings (choice readings))
  -- without one, it is none
  pub none : (readings : List (Option R)) → length readings < no_sensor → ((k : ℕ) → T (candidate readings k) → ⊥) → choice readings ≡ no_sensor
  -- only the candidates and what their readings mean matter
  pub congruent : (readings others : List (Option R)) → length readings < no_sensor → length readings ≡ length others
      → ((k : ℕ) → SameEntry means (entry_at readings k) (entry_at others k)) → choice readings ≡ choice others
