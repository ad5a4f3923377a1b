-- What intake writes, and what its record says of each place.
use Rattle.std.proofs.Common.{◌≡◌, ℕ, ◌+◌, ◌*◌, ◌/◌, ◌<◌, Bool, true, false, not, ◌||◌, List, length, get_or, sym, refl, ap, ◌∙◌, subst, subst₂, arith, Option, Some, None}
use Rattle.std.proofs.lemmas.Nat.{div-mul-add, mul-add-lt}
use Rattle.std.proofs.lemmas.List.{get_or_read}
use Rattle.std.proofs.lemmas.Bool.{false≢true}
use Rattle.quorum.specs.Counting.{bit}
use Rattle.values.specs.Entries.{present, entry_at, SameEntry}
use Rattle.protocol.specs.Setup.{Config}
use Rattle.protocol.specs.Tables.{value_at, Kept, ByBit, Stored, WrittenAt, Written}
use Rattle.protocol.specs.Calls.{step_of}
use Rattle.cluster.specs.Writing.{faulty_at, idle_at, Owns, Runs, stepped_by}
use Rattle.protocol.proofs.Holding.{Holds, holds, value_read}
use Rattle.protocol.proofs.Sweep.{placed}

-- a place of replica i and sensor k is one of the table
pub within : (n w i k : ℕ) → i < n → k < w → i * w + k < n * w
within n w i k hi hk = omega (arith, mul-add-lt i w k n hi hk)

pub own_placed : {R : Type 0} (n sensors marks : ℕ) (entries before after : List (Option R)) → Written (n * sensors) (faulty_at marks sensors) (Owns entries) before after
    → (i k : ℕ) → i < n → k < sensors → ByBit (bit marks i) (Kept before after (i * sensors + k)) (entry_at after (i * sensors + k) ≡ entry_at entries (i * sensors + k))
own_placed n sensors marks entries before after w i k hi hk =
    let p : ℕ = i * sensors + k in
    let P : ℕ → Type 0 = λ m. WrittenAt (bit marks m) (Owns entries p) before after p in
    placed (Owns entries p) (entry_at after p ≡ entry_at entries p) before after p (bit marks i) (λ _ h. h None) (subst P (div-mul-add i sensors k hk) (w p (within n sensors i k hi hk)))

-- what is read is what is stepped
module _ {R S M : Type 0} (means : S → M) (step : S → R → S) (sensors : ℕ) (state : List S) (entries : List (Option R)) (p : ℕ) (e : Option R) (s : S) (le : p < length entries) (read : e ≡ get_or entries p e) where
  pub run_wants : (v : S) → p / sensors < length state → s ≡ get_or state (p / sensors) s → SameEntry means (Some v) (stepped_by step s e) → Runs means step sensors state entries p v
  run_wants v ls reads h x s' ex es =
      let a : e ≡ Some x = get_or_read entries p e le read None ∙ ex in
      let b : value_at state (p / sensors) ≡ Some s = value_read state (p / sensors) s ls reads in
      let ss : s ≡ s' = cc in
      let P : Option R → S → Type 0 = λ d r. SameEntry means (Some v) (stepped_by step r d) in
      subst₂ P a ss h

  -- run is written exactly where the entry is present
  pub run_idle : (r : Option S) → SameEntry means r (stepped_by step s e) → not (present (entry_at entries p)) ≡ not (present r)
  run_idle r h = ap (λ d. not (present d)) (sym (get_or_read entries p e le read None)) ∙ by e r h where
    by : (d : Option R) (r : Option S) → SameEntry means r (stepped_by step s d) → not (present d) ≡ not (present r)
    by None None h = refl
    by None (Some v) h = absurd h
    by (Some x) None h = absurd h
    by (Some x) (Some v) h = refl

module _ {R S C : Type 0} (g : Config R S C) where
  open g use {means_s, stepped}

  run_by : (st : Option S) (e : Option R) (b : Bool) (before after : List S) (p : ℕ) → present st ≡ true → Holds after p
      → WrittenAt (b || not (present e)) (λ v. (x : R) (s : S) → e ≡ Some x → st ≡ Some s → means_s v ≡ means_s (stepped s x)) before after p → ByBit b (Kept before after p) (Stored means_s (step_of g st e) before after p)
  run_by None e b before after p here h w = absurd (false≢true here)
  run_by (Some s) None true before after p here h w = w
  run_by (Some s) None false before after p here h w = w
  run_by (Some s) (Some x) true before after p here h w = w
  run_by (Some s) (Some x) false before after p here h w =
      let P : Option S → Type 0 = λ v. SameEntry means_s v (Some (stepped s x)) in
      let e : means_s h.value ≡ means_s (stepped s x) = ap means_s (sym (h.read h.value)) ∙ w h.value x s refl refl in
      subst P (sym h.is) e

  pub run_placed : (n sensors marks : ℕ) (state : List S) (entries : List (Option R)) (before after : List S) → n ≡ length state → length after ≡ n * sensors
      → Written (n * sensors) (idle_at marks sensors entries) (Runs means_s stepped sensors state entries) before after
      → (i k : ℕ) → i < n → k < sensors → ByBit (bit marks i) (Kept before after (i * sensors + k)) (Stored means_s (step_of g (value_at state i) (entry_at entries (i * sensors + k))) before after (i * sensors + k))
  run_placed n sensors marks state entries before after ls la w i k hi hk =
      let p : ℕ = i * sensors + k in
      let lt : p < n * sensors = within n sensors i k hi hk in
      let st : Holds state i = holds state i (omega arith) in
      let P : ℕ → Type 0 = λ m. WrittenAt (bit marks m || not (present (entry_at entries p))) (λ v. (x : R) (s : S) → entry_at entries p ≡ Some x → value_at state m ≡ Some s → means_s v ≡ means_s (stepped s x)) before after p in
      run_by (value_at state i) (entry_at entries p) (bit marks i) before after p (ap present st.is) (holds after p (omega arith)) (subst P (div-mul-add i sensors k hk) (w p lt))
