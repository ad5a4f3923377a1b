-- Entries decoded one after another into a table.
use Rattle.std.proofs.Common.{◌≡◌, ℕ, ◌+◌, ◌<◌, List, length, get_or, slice_set, Option, Some, None, ap, ◌∙◌, arith, below_more}
use Rattle.std.proofs.lemmas.List.{get_or-set_same, get_or-set_other}
use Rattle.std.specs.Option.{option_map}

-- the table after one more
pub decoded_more : {X W : Type 0} (says : X → W) (entries : ℕ → Option (Option W)) (table : List (Option X)) (i : ℕ) (e : Option X) → i < length table →
    ((j : ℕ) → j < i → Some (option_map says (get_or table j None)) ≡ entries j) → Some (option_map says e) ≡ entries i →
    (j : ℕ) → j < i + 1 → Some (option_map says (get_or (slice_set table i e) j None)) ≡ entries j
decoded_more says entries table i e l h a =
    below_more (λ j. Some (option_map says (get_or (slice_set table i e) j None)) ≡ entries j) i
    (λ j k. ap (λ x. Some (option_map says x)) (get_or-set_other table i j e None (λ q. omega (arith, k, q))) ∙ h j k)
    (ap (λ x. Some (option_map says x)) (get_or-set_same table i e None l) ∙ a)
