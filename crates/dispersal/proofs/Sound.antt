-- The lowest sound replica.
use Rattle.std.proofs.Common.{◌≡◌, ℕ, ◌-◌, ◌^◌, ◌<◌, ◌≤◌, not, ap, ◌∙◌, arith, eqb, w16}
use Rattle.std.specs.Int.{bit_not, bit_at}
use Rattle.std.proofs.lemmas.Bool.Decides.{nat_tests}
use Rattle.std.proofs.lemmas.Nat.Bits.{bit_at_not, bit_at-lt}
use Rattle.quorum.specs.Counting.{bit, lowest}
use Rattle.quorum.proofs.Counts.{count_not, count_some, lowest_same, lowest_some}
use Rattle.questions.specs.Numbers.{Bearable}

other_digit : (d : ℕ) → d < 2 → eqb (1 - d) 1 ≡ not (eqb d 1)
other_digit d h = grind (arith, nat_tests)

-- the lowest bit of the complement is the lowest sound replica
pub lowest_other : (n marks : ℕ) → n ≤ 16 → marks < 2 ^ 16 → lowest n (bit (bit_not w16 marks)) ≡ lowest n (λ i. not (bit marks i))
lowest_other n marks m h =
    lowest_same n _ _ (λ i l. ap (λ (d : ℕ). eqb d 1) (bit_at_not w16 marks i h (omega arith)) ∙ other_digit (bit_at marks i) (bit_at-lt marks i))

-- not every replica is faulty
pub lowest_within : (n f marks : ℕ) → Bearable n f marks → lowest n (λ i. not (bit marks i)) < n
lowest_within n f marks b =
    let some = count_some n (λ i. not (bit marks i)) (omega (arith, b, count_not n (bit marks))) in
    (lowest_some n (λ i. not (bit marks i)) some.0 some.1 some.2).0
