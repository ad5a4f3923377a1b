-- A word of 16 bits made from a list, bit by bit.
use Rattle.std.proofs.Common.{◌≡◌, ℕ, ◌+◌, ◌*◌, ◌%◌, ◌^◌, ◌<◌, ◌≢◌, Bool, true, false, eqb, List, length, take, sym, ap, ◌∙◌, inl, inr, arith, length-take, w16}
use Rattle.std.proofs.Math.ListN.{get_or-eq_default}
use lib.Bits.{bit_or}
use Rattle.std.proofs.lemmas.Bool.{cases_eq, cases_lt}
use Rattle.std.proofs.lemmas.List.{get_or-take}
use Rattle.std.proofs.lemmas.Nat.Bits.{bit_at_set_same, bit_at_set_other}
use Rattle.quorum.specs.Counting.{bit}
use Rattle.layers.specs.Views.{bits_of}

module _ (bits : List Bool) (j : ℕ) (within : j < length bits) where
  -- past the bits taken there is none
  none_past : bits_of (take j bits) j ≡ false
  none_past = get_or-eq_default (take j bits) false (omega (arith, length-take j bits))

  -- one more bit taken leaves the others
  others : (k : ℕ) → k ≢ j → bits_of (take (j + 1) bits) k ≡ bits_of (take j bits) k
  others k ne =
      elim (cases_lt k j) [
        | inl l ↦ get_or-take (j + 1) bits k false (omega arith) ∙ sym (get_or-take j bits k false l)
        | inr l ↦
            get_or-eq_default (take (j + 1) bits) false (omega (arith, length-take (j + 1) bits))
            ∙ sym (get_or-eq_default (take j bits) false (omega (arith, length-take j bits)))
      ]

  -- One turn of the loop: w has the bits before j, and v is the word after it.
  module _ (w : ℕ) (before : (k : ℕ) → bit w k ≡ bits_of (take j bits) k) (v : ℕ) where
    gathered : bit v j ≡ bits_of bits j → ((k : ℕ) → k ≢ j → bit v k ≡ bit w k) → (k : ℕ) → bit v k ≡ bits_of (take (j + 1) bits) k
    gathered here kept k =
        elim (cases_eq k j) [
          | inl e ↦ ap (bit v) e ∙ here ∙ sym (get_or-take (j + 1) bits j false (omega arith)) ∙ ap (bits_of (take (j + 1) bits)) (sym e)
          | inr ne ↦ kept k ne ∙ before k ∙ sym (others k ne)
        ]

    pub gather_no : bits_of bits j ≡ false → v ≡ w → (k : ℕ) → bit v k ≡ bits_of (take (j + 1) bits) k
    gather_no e is = gathered (ap (λ (x : ℕ). bit x j) is ∙ before j ∙ none_past ∙ sym e) (λ k _. ap (λ (x : ℕ). bit x k) is)

    pub gather_yes : j < 16 → bits_of bits j ≡ true → v ≡ bit_or w (1 * 2 ^ j % 2 ^ 16) → (k : ℕ) → bit v k ≡ bits_of (take (j + 1) bits) k
    gather_yes small e is =
        gathered (ap (λ (x : ℕ). bit x j) is ∙ ap (λ (d : ℕ). eqb d 1) (bit_at_set_same w16 w j small) ∙ sym e)
        (λ k ne. ap (λ (x : ℕ). bit x k) is ∙ ap (λ (d : ℕ). eqb d 1) (bit_at_set_other w16 w j small k ne))
