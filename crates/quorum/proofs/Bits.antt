-- Bits of a word, and how many are set.
use Rattle.std.proofs.Common.{◌≡◌, ℕ, zero, suc, ◌/◌, ◌%◌, ◌^◌, ◌<◌, ◌≤◌, false, eqb, ap, ◌∙◌, mod-lt, zero-lt-suc, div-one, add-one, one-add, arith, pow_mono, shr-shr, shr_lt}
use native.Mathlib.Nat.{div-eq_of_lt}
use lib.Arith.{lt-one}
use lib.Count.{ones, ones_step}
use Rattle.quorum.specs.Counting.{bit, count}
use Rattle.quorum.proofs.Counts.{one, count_same, count_first}

-- a word below 2 ^ k has no bit at k or above
pub bit_above : (word k i : ℕ) → word < 2 ^ k → k ≤ i → bit word i ≡ false
bit_above word k i h l =
    let small : word < 2 ^ i = omega (arith, pow_mono {i = k} {j = i} l) in
    ap (λ (x : ℕ). eqb (x % 2) 1) (div-eq_of_lt small)

bit_half : (word i : ℕ) → bit (word / 2) i ≡ bit word (suc i)
bit_half word i = ap (λ (x : ℕ). eqb (x % 2) 1) (shr-shr word 1 i ∙ ap (λ (k : ℕ). word / 2 ^ k) (one-add i))

one_digit : (d : ℕ) → d < 2 → one (eqb d 1) ≡ d
one_digit d h = grind arith

-- what `count_ones` answers
pub ones_count : (n word : ℕ) → word < 2 ^ n → ones word ≡ count n (bit word)
unfolding ones count
ones_count zero word h = ap ones (lt-one h)
ones_count (suc n) word h =
    let low : one (bit word 0) ≡ word % 2 = ap (λ (x : ℕ). one (eqb (x % 2) 1)) (div-one word) ∙ one_digit (word % 2) (mod-lt word (zero-lt-suc 1)) in
    let rest = ones_count n (word / 2) (shr_lt n 1 (rw add-one h)) in
    let tail : count n (bit (word / 2)) ≡ count n (λ i. bit word (suc i)) = count_same n _ _ (λ i _. bit_half word i) in
    omega (arith, ones_step word, count_first n (bit word))
