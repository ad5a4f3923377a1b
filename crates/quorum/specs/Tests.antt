-- Counting what passes a test that code makes.
use Rattle.std.specs.Prelude.{◌≡◌, ℕ, ◌<◌, Bool}
use Rattle.quorum.specs.Counting.{count}

-- The number of those below n that pass, for every test that all the answers agree with; where there is none, nothing is said.
abbrev pub Counted : ℕ → (ℕ → Bool → Type 0) → ℕ → Type 0
Counted n answers counted = (test : ℕ → Bool) → ((i : ℕ) → i < n → (b : Bool) → answers i b → b ≡ test i) → counted ≡ count n test
