-- Masks made bit by bit.
use Rattle.std.proofs.Common.{◌≡◌, ℕ, ◌+◌, ◌*◌, ◌%◌, ◌^◌, ◌<◌, Bool, true, false, eqb, sym, ap, ◌∙◌, subst, one-mul, pow-suc, add-one, arith, below_more, w16}
use lib.Bits.{bit_or, or_shifted_r}
use Rattle.std.proofs.lemmas.Nat.{one_shl}
use Rattle.std.proofs.lemmas.Nat.Bits.{bit_at_set_same, bit_at_set_other}
use Rattle.quorum.specs.Counting.{bit}
use Rattle.quorum.proofs.Bits.{bit_above}
use Rattle.protocol.specs.Tables.{MaskOf}
use Rattle.cluster.specs.Writing.{Masked}

-- One turn of the loop: w is the mask of the first j answers, and v the mask after the turn.
module _ (answers : ℕ → Bool → Type 0) (w j : ℕ) (so : Masked j answers w) (v : ℕ) where
  answered : (k : ℕ) (b : Bool) → bit v k ≡ b → answers k b → answers k (bit v k)
  answered k b e a = subst (answers k) (sym e) a

  pub masked_no : answers j false → v ≡ w → Masked (j + 1) answers v
  masked_no a is = record {
    below = omega (arith, so.below, pow-suc 2 j, ap (λ (x : ℕ). 2 ^ x) (add-one j));
    bits = below_more (λ k. answers k (bit v k)) j
        (λ k h. answered k (bit w k) (ap (λ (x : ℕ). bit x k) is) (so.bits k h))
        (answered j false (ap (λ (x : ℕ). bit x j) is ∙ bit_above w j j so.below (omega arith)) a);
  }

  pub masked_yes : j < 16 → answers j true → v ≡ bit_or w ((1 * 2 ^ j) % 2 ^ 16) → Masked (j + 1) answers v
  masked_yes small a is =
      let whole : (1 * 2 ^ j) % 2 ^ 16 ≡ 1 * 2 ^ j = one_shl j 16 small ∙ sym (one-mul (2 ^ j)) in
      let sum : v ≡ 1 * 2 ^ j + w = is ∙ ap (bit_or w) whole ∙ or_shifted_r 1 j w so.below in
      record {
        below = omega (arith, so.below, pow-suc 2 j, ap (λ (x : ℕ). 2 ^ x) (add-one j));
        bits = below_more (λ k. answers k (bit v k)) j
            (λ k h. answered k (bit w k) (ap (λ (x : ℕ). bit x k) is ∙ ap (λ (d : ℕ). eqb d 1) (bit_at_set_other w16 w j small k (omega arith))) (so.bits k h))
            (answered j true (ap (λ (x : ℕ). bit x j) is ∙ ap (λ (d : ℕ). eqb d 1) (bit_at_set_same w16 w j small)) a);
      }

-- where the answers are a test's
pub mask_as : (n : ℕ) (answers : ℕ → Bool → Type 0) (test : ℕ → Bool) (w : ℕ) → Masked n answers w → ((j : ℕ) → j < n → (b : Bool) → answers j b → b ≡ test j) → MaskOf n test w
mask_as n answers test w so h = record { below = so.below; bits = λ j l. h j l (bit w j) (so.bits j l) }

-- by another test that answers the same
pub mask_by : (n : ℕ) (test tests : ℕ → Bool) (w : ℕ) → MaskOf n test w → ((j : ℕ) → j < n → test j ≡ tests j) → MaskOf n tests w
mask_by n test tests w so h = record { below = so.below; bits = λ j l. so.bits j l ∙ h j l }
