-- What holds of every count.
use Rattle.std.specs.Prelude.{◌≡◌, ℕ, ◌+◌, ◌<◌, ◌≤◌, Bool, not, ◌&&◌, T}
use Rattle.quorum.specs.Counting.{count}

-- The laws of counting: every promise about quorums rests on these.
pub record CountingLaws : Type 0 where
  -- a weaker test is passed by no fewer
  pub monotone : (n : ℕ) (p q : ℕ → Bool) → ((i : ℕ) → i < n → T (p i) → T (q i)) → count n p ≤ count n q
  -- a test and its opposite add up to n
  pub complement : (n : ℕ) (p : ℕ → Bool) → count n p + count n (λ i. not (p i)) ≡ n
  -- two counts that together pass n overlap in at least what they pass it by
  pub overlap : (n : ℕ) (p q : ℕ → Bool) → count n p + count n q ≤ n + count n (λ i. p i && q i)
  -- a positive count has a witness
  pub witness : (n : ℕ) (p : ℕ → Bool) → 0 < count n p → (i : ℕ) × (i < n) × T (p i)

-- i is the lowest index below n that passes the test, or n where none does
pub record Lowest (n : ℕ) (test : ℕ → Bool) (i : ℕ) : Type 0 where
  pub within : i ≤ n
  pub passes : i < n → T (test i)
  pub before : (j : ℕ) → j < i → T (test j) → ⊥
