-- What agree writes, and what its record says of each place.
use Rattle.std.proofs.Common.{◌≡◌, ℕ, ◌+◌, ◌*◌, ◌/◌, ◌%◌, ◌^◌, ◌<◌, Bool, true, false, List, get_or, subst, ap₂, Option, None}
use Rattle.std.proofs.lemmas.Nat.{div-mul-add, mod-mul-add}
use Rattle.std.proofs.lemmas.Bool.{true≢false}
use Rattle.quorum.specs.Counting.{bit}
use Rattle.values.specs.Entries.{present, entry_at, SameEntry}
use Rattle.protocol.specs.Tables.{Kept, ByBit, MaskOf, WrittenAt, Written}
use Rattle.cluster.specs.Writing.{faulty_at, heard_row, Delivers, bit_of, instance_words, gets, got, Gets, agrees_on, AgreesOn, Could}
use Rattle.protocol.proofs.Sweep.{placed}
use Rattle.cluster.proofs.Stepping.{within}

-- an instance by its number, and by its sensor and sender
pub got_of : (delivered : Delivers) (size n sensors marks : ℕ) (accept : List Bool) (words : List ℕ) (i k j : ℕ) → j < n → gets delivered size n sensors marks accept words (k * n + j) i ≡ got delivered size n sensors marks accept words i k j
got_of delivered size n sensors marks accept words i k j h =
    ap₂ (λ (a b : ℕ). delivered a (bit_of sensors marks accept a b) (instance_words size words (k * n + j)) i) (mod-mul-add k n j h) (div-mul-add k n j h)

module _ (delivered : Delivers) (size n sensors marks : ℕ) (accept : List Bool) (words before after : List ℕ) (w : Written (n * sensors) (faulty_at marks sensors) (Gets delivered size n sensors marks accept words) before after) where
  pub yes_placed : (i k : ℕ) → i < n → k < sensors → ByBit (bit marks i) (Kept before after (i * sensors + k)) (MaskOf n (got delivered size n sensors marks accept words i k) (get_or after (i * sensors + k) 0))
  yes_placed i k hi hk =
      let p : ℕ = i * sensors + k in
      let A : ℕ → Type 0 = λ x. WrittenAt (bit marks x) (MaskOf n (got delivered size n sensors marks accept words x (p % sensors))) before after p in
      let B : ℕ → Type 0 = λ x. WrittenAt (bit marks i) (MaskOf n (got delivered size n sensors marks accept words i x)) before after p in
      placed (MaskOf n (got delivered size n sensors marks accept words i k)) (MaskOf n (got delivered size n sensors marks accept words i k) (get_or after p 0)) before after p (bit marks i) (λ _ h. h 0)
      (subst B (mod-mul-add i sensors k hk) (subst A (div-mul-add i sensors k hk) (w p (within n sensors i k hi hk))))

pub agreed_placed : {R M : Type 0} (means : R → M) (alike : R → R → Bool) (n f sensors marks : ℕ) (own : List (Option R)) (accept : List Bool) (masks : List ℕ) (heard before after : List (Option R))
    → Written (n * sensors) (faulty_at marks sensors) (AgreesOn means alike n f sensors own accept masks heard) before after → (i k : ℕ) → i < n → k < sensors
    → ByBit (bit marks i) (Kept before after (i * sensors + k)) (SameEntry means (entry_at after (i * sensors + k)) (agrees_on alike n f (bit (get_or masks (i * sensors + k) 0)) (get_or accept (i * sensors + k) false) (entry_at own (i * sensors + k)) (heard_row n sensors heard i k)))
agreed_placed {R} means alike n f sensors marks own accept masks heard before after w i k hi hk =
    let p : ℕ = i * sensors + k in
    let to : ℕ → ℕ → Option R = λ x y. agrees_on alike n f (bit (get_or masks p 0)) (get_or accept p false) (entry_at own p) (heard_row n sensors heard x y) in
    let A : ℕ → Type 0 = λ x. WrittenAt (bit marks x) (λ v. SameEntry means v (to x (p % sensors))) before after p in
    let B : ℕ → Type 0 = λ x. WrittenAt (bit marks i) (λ v. SameEntry means v (to i x)) before after p in
    placed (λ v. SameEntry means v (to i k)) (SameEntry means (entry_at after p) (to i k)) before after p (bit marks i) (λ _ h. h None)
    (subst B (mod-mul-add i sensors k hk) (subst A (div-mul-add i sensors k hk) (w p (within n sensors i k hi hk))))

pub candidates_placed : {R : Type 0} (n sensors marks : ℕ) (agreed : List (Option R)) (before after : List ℕ) → Written n (bit marks) (Could sensors agreed) before after
    → (i : ℕ) → i < n → ByBit (bit marks i) (Kept before after i) (MaskOf sensors (λ k. present (entry_at agreed (i * sensors + k))) (get_or after i 0))
candidates_placed n sensors marks agreed before after w i hi =
    placed (Could sensors agreed i) (Could sensors agreed i (get_or after i 0)) before after i (bit marks i) (λ _ h. h 0) (w i hi)
