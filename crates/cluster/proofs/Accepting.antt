-- What filter writes, and what its record says of each place.
use Rattle.std.proofs.Common.{◌≡◌, ℕ, ◌+◌, ◌*◌, ◌/◌, ◌%◌, ◌<◌, Bool, false, List, get_or, refl, ap, ◌∙◌, subst, Option, Some, None}
use Rattle.std.proofs.lemmas.Nat.{div-mul-add, mod-mul-add, mul-add-lt, div_below}
use Rattle.quorum.specs.Counting.{bit}
use Rattle.values.specs.Entries.{entry_at}
use Rattle.protocol.specs.Setup.{Config}
use Rattle.protocol.specs.Tables.{Kept, ByBit, WrittenAt, Written}
use Rattle.protocol.specs.Model.{accepts}
use Rattle.cluster.specs.Writing.{faulty_at, deaf_at, cell, heard_from, Hears, heard_row, accepts_own, Accepts}
use Rattle.protocol.proofs.Sweep.{placed}
use Rattle.cluster.proofs.Stepping.{within}

-- a cell of the table
pub cell_within : (n sensors i j k : ℕ) → i < n → j < n → k < sensors → cell n sensors i j k < n * n * sensors
cell_within n sensors i j k hi hj hk =
    let row : i * n + j < n * n = mul-add-lt i n j n hi hj in
    within (n * n) sensors (i * n + j) k row hk

pub heard_placed : {R : Type 0} (n sensors marks : ℕ) (own claims before after : List (Option R)) → Written (n * n * sensors) (deaf_at n sensors marks) (Hears n sensors marks own claims) before after
    → (i j k : ℕ) → i < n → j < n → k < sensors → ByBit (bit marks i) (Kept before after (cell n sensors i j k)) (entry_at after (cell n sensors i j k) ≡ heard_from n sensors marks own claims i j k)
heard_placed n sensors marks own claims before after w i j k hi hj hk =
    let p : ℕ = cell n sensors i j k in
    let e : p / sensors ≡ i * n + j = div-mul-add (i * n + j) sensors k hk in
    let q : p % sensors ≡ k = mod-mul-add (i * n + j) sensors k hk in
    let hearer : p / sensors / n ≡ i = ap (λ (r : ℕ). r / n) e ∙ div-mul-add i n j hj in
    let sender : p / sensors % n ≡ j = ap (λ (r : ℕ). r % n) e ∙ mod-mul-add i n j hj in
    let A : ℕ → Type 0 = λ x. WrittenAt (bit marks x) (λ v. v ≡ heard_from n sensors marks own claims x (p / sensors % n) (p % sensors)) before after p in
    let B : ℕ → Type 0 = λ x. WrittenAt (bit marks i) (λ v. v ≡ heard_from n sensors marks own claims i x (p % sensors)) before after p in
    let D : ℕ → Type 0 = λ x. WrittenAt (bit marks i) (λ v. v ≡ heard_from n sensors marks own claims i j x) before after p in
    placed (λ v. v ≡ heard_from n sensors marks own claims i j k) (entry_at after p ≡ heard_from n sensors marks own claims i j k) before after p (bit marks i) (λ _ h. h None)
    (subst D q (subst B sender (subst A hearer (w p (cell_within n sensors i j k hi hj hk)))))

module _ {R S C : Type 0} (g : Config R S C) where
  open g use {n, f, sensors, marks, alike_r}

  accepts_own_is : (e : Option R) (heard : ℕ → Option R) → accepts_own alike_r n f e heard ≡ accepts g e heard
  accepts_own_is None heard = refl
  accepts_own_is (Some x) heard = refl

  pub accept_placed : (own heard : List (Option R)) (before after : List Bool) → Written (n * sensors) (faulty_at marks sensors) (Accepts alike_r n f sensors own heard) before after
      → (i k : ℕ) → i < n → k < sensors → ByBit (bit marks i) (Kept before after (i * sensors + k)) (get_or after (i * sensors + k) false ≡ accepts g (entry_at own (i * sensors + k)) (λ j. entry_at heard (cell n sensors i j k)))
  accept_placed own heard before after w i k hi hk =
      let p : ℕ = i * sensors + k in
      let A : ℕ → Type 0 = λ x. WrittenAt (bit marks x) (λ v. v ≡ accepts_own alike_r n f (entry_at own p) (heard_row n sensors heard x (p % sensors))) before after p in
      let B : ℕ → Type 0 = λ x. WrittenAt (bit marks i) (λ v. v ≡ accepts_own alike_r n f (entry_at own p) (heard_row n sensors heard i x)) before after p in
      placed (λ v. v ≡ accepts_own alike_r n f (entry_at own p) (heard_row n sensors heard i k)) (get_or after p false ≡ accepts g (entry_at own p) (heard_row n sensors heard i k)) before after p (bit marks i)
      (λ _ h. h false ∙ accepts_own_is (entry_at own p) (heard_row n sensors heard i k))
      (subst B (mod-mul-add i sensors k hk) (subst A (div-mul-add i sensors k hk) (w p (within n sensors i k hi hk))))
