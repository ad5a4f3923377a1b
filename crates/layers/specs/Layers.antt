-- What every agreement layer is asked, and how it reads words.
use Rattle.std.specs.Prelude.{◌≡◌, ℕ, ◌*◌, ◌<◌, ◌≤◌, Bool, false, cond, List, ◌==◌, slice_index_or}
use Rattle.quorum.specs.Counting.{bit, count}

-- the sizes that a layer is asked for: at most 16 replicas, less than a third of them faulty
abbrev pub Sized : ℕ → ℕ → Type 0
Sized n f = (n ≤ 16) × (3 * f < n)

-- replica i is sound: no mark says that it is faulty
abbrev pub Sound : ℕ → ℕ → Type 0
Sound marks i = bit marks i ≡ false

-- at most f of the n replicas are faulty
abbrev pub FewFaulty : ℕ → ℕ → ℕ → Type 0
FewFaulty n f marks = count n (bit marks) ≤ f

-- all sound replicas get one bit
abbrev pub Agreed : ℕ → ℕ → (ℕ → Bool) → Type 0
Agreed n marks gets = (i k : ℕ) → i < n → k < n → Sound marks i → Sound marks k → gets i ≡ gets k

-- all sound replicas get this bit
abbrev pub AllGet : ℕ → ℕ → (ℕ → Bool) → Bool → Type 0
AllGet n marks gets b = (i : ℕ) → i < n → Sound marks i → gets i ≡ b

-- the byte at a place of the words; an absent one reads as 2, which says neither yes nor no
abbrev pub byte_at : List ℕ → ℕ → ℕ
byte_at words place = slice_index_or words place 2

-- the bit that a replica gives: its own, or where it is faulty its word, yes only at 1
abbrev pub bit_from : ℕ → ℕ → Bool → List ℕ → ℕ → Bool
bit_from marks giver own words place = cond (bit marks giver) (byte_at words place == 1) own
