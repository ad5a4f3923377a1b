-- What a place of a list holds.
use Rattle.std.proofs.Common.{◌≡◌, ℕ, zero, suc, ◌<◌, List, [], ◌∷◌, length, get_or, sym, refl, ap, ◌∙◌, subst, arith, Option, Some}
use Rattle.values.specs.Entries.{SameEntry}
use Rattle.protocol.specs.Tables.{value_at}

-- the value at a place within, and the same by any default
pub record Holds {X : Type 0} (xs : List X) (p : ℕ) : Type 0 where
  pub value : X
  pub is : value_at xs p ≡ Some value
  pub read : (d : X) → get_or xs p d ≡ value

pub holds : {X : Type 0} (xs : List X) (p : ℕ) → p < length xs → Holds xs p
holds [] p h = absurd (omega arith)
holds (x ∷ xs) zero h = record { value = x; is = refl; read = λ d. refl }
holds (x ∷ xs) (suc p) h = let r = holds xs p (omega arith) in record { value = r.value; is = r.is; read = r.read }

pub value_is : {X : Type 0} (xs : List X) (p : ℕ) (x : X) → p < length xs → ((d : X) → get_or xs p d ≡ x) → value_at xs p ≡ Some x
value_is xs p x h e =
    let r = holds xs p h in
    let same : r.value ≡ x = cc (r.read x, e x) in
    r.is ∙ ap Some same

-- what a place was read as
pub value_read : {X : Type 0} (xs : List X) (p : ℕ) (x : X) → p < length xs → x ≡ get_or xs p x → value_at xs p ≡ Some x
value_read xs p x h e =
    let r = holds xs p h in
    r.is ∙ ap Some (sym (e ∙ r.read x))

-- the same by meaning
pub read_holds : {X M : Type 0} (means : X → M) (xs : List X) (p : ℕ) (x : X) → p < length xs → x ≡ get_or xs p x → SameEntry means (Some x) (value_at xs p)
read_holds {X} means xs p x h e = let P : Option X → Type 0 = λ v. SameEntry means (Some x) v in subst P (sym (value_read xs p x h e)) refl
