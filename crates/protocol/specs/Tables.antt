-- Tables by place: what a place holds, what is written to it, and a mask made from a test.
use Rattle.std.specs.Prelude.{◌≡◌, ℕ, zero, suc, ◌^◌, ◌<◌, Bool, true, false, List, [], ◌∷◌, map, slice_index_or, Option, Some, None}
use Rattle.std.specs.List.{range_with_len}
use Rattle.quorum.specs.Counting.{bit}
use Rattle.values.specs.Entries.{SameEntry}

-- what f has at 0, 1, .. below n
unfoldable pub table : {X : Type 0} → ℕ → (ℕ → X) → List X
table n f = map f (range_with_len 0 n)

-- the value at a place as an entry, missing past the end
abbrev pub value_at : {X : Type 0} → List X → ℕ → Option X
value_at [] p = None
value_at (x ∷ xs) zero = Some x
value_at (x ∷ xs) (suc p) = value_at xs p

-- the place keeps its very value
abbrev pub Kept : {X : Type 0} → List X → List X → ℕ → Type 0
Kept {X} before after p = (d : X) → slice_index_or after p d ≡ slice_index_or before p d

-- the entry's value is written to the place, by meaning; without one the place keeps its own
abbrev pub Stored : {X M : Type 0} → (X → M) → Option X → List X → List X → ℕ → Type 0
Stored means None before after p = Kept before after p
Stored means (Some x) before after p = SameEntry means (value_at after p) (Some x)

-- one thing holds where the bit is set, and another where it is not
abbrev pub ByBit : Bool → Type 0 → Type 0 → Type 0
ByBit true set clear = set
ByBit false set clear = clear

-- a place that is skipped keeps its very value, and any other holds what is wanted of it
abbrev pub WrittenAt : {X : Type 0} → Bool → (X → Type 0) → List X → List X → ℕ → Type 0
WrittenAt {X} skip wants before after p = ByBit skip (Kept before after p) ((d : X) → wants (slice_index_or after p d))

-- so it is at every place below the bound
abbrev pub Written : {X : Type 0} → ℕ → (ℕ → Bool) → (ℕ → X → Type 0) → List X → List X → Type 0
Written bound skip wants before after = (p : ℕ) → p < bound → WrittenAt (skip p) (wants p) before after p

-- bit j of the mask is the test's answer at j, and no bit from n on is set
pub record MaskOf (n : ℕ) (test : ℕ → Bool) (mask : ℕ) : Type 0 where
  pub below : mask < 2 ^ n
  pub bits : (j : ℕ) → j < n → bit mask j ≡ test j
