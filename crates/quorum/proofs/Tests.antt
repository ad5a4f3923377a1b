-- How a loop counts what passes a test.
use Rattle.std.proofs.Common.{◌≡◌, ℕ, ◌+◌, ◌≤◌, Bool, true, false, sym, ◌∙◌, arith}
use Rattle.quorum.specs.Tests.{Counted}
use Rattle.quorum.proofs.Counts.{count_zero, count_yes, count_no}

-- what the loop keeps: as many are counted as passed, and no more than were asked
abbrev pub Counting : (ℕ → Bool → Type 0) → ℕ → ℕ → Type 0
Counting answers counted n = Counted n answers counted × (counted ≤ n)

pub counting_none : (answers : ℕ → Bool → Type 0) → Counting answers 0 0
counting_none answers = (λ test agrees. sym (count_zero test), omega arith)

module _ (answers : ℕ → Bool → Type 0) (counted n : ℕ) (so : Counting answers counted n) (v : ℕ) where
  pub counting_yes : answers n true → v ≡ counted + 1 → Counting answers v (n + 1)
  counting_yes said e =
      (λ test agrees. omega (arith, e, so.0 test (λ i l. agrees i (omega arith)), count_yes n test (sym (agrees n (omega arith) true said))), omega (arith, e, so.1))

  pub counting_no : answers n false → v ≡ counted → Counting answers v (n + 1)
  counting_no said e =
      (λ test agrees. e ∙ so.0 test (λ i l. agrees i (omega arith)) ∙ sym (count_no n test (sym (agrees n (omega arith) false said))), omega (arith, e, so.1))
