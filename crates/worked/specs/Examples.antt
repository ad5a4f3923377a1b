-- The examples worked out by hand, about the definitions that the contracts cite.
use Rattle.std.specs.Prelude.{◌≡◌, Bool, true, false, List, [], ◌∷◌, ℕ, ◌<◌, ℤ, pos, negsuc, length, replicate, Option, Some, None}
use Rattle.values.specs.Entries.{entry_at}
use Rattle.values.specs.Majority.{majority}
use Rattle.selections.specs.Rules.{mid_value}
use Rattle.layers.specs.King.{king}
use Rattle.applications.specs.Wheel.{turned, torque_of}
use Rattle.applications.specs.Counts.{leq_count, same_count}
use Rattle.applications.specs.declared.wheel.Count.{Count}

-- the majority of a list of counts
abbrev pub majority_of : List (Option Count) → Option Count
majority_of entries = majority same_count (length entries) (entry_at entries)

-- the sensor that the mid-value rule chooses on counts
abbrev pub mid_of : List (Option Count) → ℕ
mid_of = mid_value leq_count

-- an entry that carries the count z
abbrev pub counted : ℤ → Option Count
counted z = Some record { value = z }

-- sensor 0 reads 7 and sensor 1 reads −3
abbrev pub seven_and_minus_three : List (Option Count)
seven_and_minus_three = counted (pos 7) ∷ (counted (negsuc 2) ∷ [])

-- The phase king with four replicas, of which replica 3 may be faulty and is: the sound ones all get the bit b.
abbrev pub KingGives : ℕ → Bool → List ℕ → Bool → Type 0
KingGives sender own words b = (i : ℕ) → i < 3 → king 4 1 8 sender own words i ≡ b

-- a and b stand for any two counts
pub record Worked (a b : Count) : Type 0 where
  pub two_to_one : (a ≡ b → ⊥) → majority_of (Some a ∷ (Some a ∷ (Some b ∷ []))) ≡ Some a
  pub one_to_one : (a ≡ b → ⊥) → majority_of (Some a ∷ (Some b ∷ [])) ≡ None
  pub middle : entry_at seven_and_minus_three (mid_of seven_and_minus_three) ≡ counted (negsuc 2)
  pub torque_lowest : torque_of (negsuc 2147483647) ≡ pos 32767
  pub torque_minus_one : torque_of (negsuc 0) ≡ pos 0
  pub torque_short : torque_of (pos 65535) ≡ pos 0
  pub step_held : turned (pos 2147483647) (pos 1) ≡ pos 2147483647
  -- sender 3 gives yes, no, yes, then silence
  pub king_two_faced : KingGives 3 false (1 ∷ (0 ∷ (1 ∷ []))) true
  -- sound sender 0 says no, and replica 3 says yes to everything
  pub king_contradicted : KingGives 0 false (replicate 76 1) false
