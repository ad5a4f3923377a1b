-- How the loop over the states meets what is said of each.
use Rattle.std.proofs.Common.{◌≡◌, ℕ, ◌+◌, ◌<◌, ◌≤◌, Bool, true, false, cond, not, List, length, set, sym, ap, ◌∙◌, subst, arith, Option, Some, None}
use Rattle.quorum.specs.Counting.{count}
use Rattle.quorum.proofs.Counts.{count_zero, count_yes, count_no}
use Rattle.values.specs.Entries.{present, SameEntry}
use Rattle.values.proofs.Meanings.{same_present}
use Rattle.protocol.specs.Tables.{Kept, Stored, ByBit, WrittenAt}
use Rattle.dispersal.specs.Turning.{Follows}
use Rattle.dispersal.specs.declared.states.Next.TheVariants.{Stays, Runs, Takes}
use Rattle.protocol.proofs.Holding.{Holds, holds}
use Rattle.protocol.proofs.Sweep.{Swept, swept_none, swept_left, swept_wrote}

module _ {S M : Type 0} (means : S → M) where
  -- where nothing comes next the place is skipped
  abbrev leaves : Bool → Option S → Bool
  leaves faulty goes = not (present (cond faulty None goes))

  -- what is wanted of a state that is written
  abbrev Goes : Bool → Option S → S → Type 0
  Goes faulty goes v = SameEntry means (Some v) (cond faulty None goes)

  skips : (b : Bool) (e d : Option S) → SameEntry means d (cond b None e) → leaves b e ≡ not (present d)
  skips b e d h = ap not (sym (same_present means d (cond b None e) h))

  by_bit : (b : Bool) (e : Option S) (before after : List S) (p : ℕ) → Holds after p → WrittenAt (leaves b e) (Goes b e) before after p → ByBit b (Kept before after p) (Stored means e before after p)
  by_bit true e before after p h w = w
  by_bit false None before after p h w = w
  by_bit false (Some x) before after p h w =
      let P : Option S → Type 0 = λ v. SameEntry means v (Some x) in
      let m : means h.value ≡ means x = ap means (sym (h.read h.value)) ∙ w h.value in
      subst P (sym h.is) m

  module _ (faulty : ℕ → Bool) (goes : ℕ → Option S) (over : ℕ → Bool) where
    -- below i the states have gone on, and this many were taken
    pub record Moved (before after : List S) (taken i : ℕ) : Type 0 where
      pub swept : Swept (λ q. leaves (faulty q) (goes q)) (λ q. Goes (faulty q) (goes q)) before after i
      pub taken_is : taken ≡ count i over
      pub few : taken ≤ i

    pub moved_none : (before : List S) → Moved before before 0 0
    moved_none before = record { swept = swept_none _ _ before; taken_is = sym (count_zero over); few = omega arith }

    -- the state of i stays
    pub moved_stays : {before after ys : List S} {taken t i : ℕ} → Follows means (faulty i) (goes i) (over i) Stays → ys ≡ after → t ≡ taken → Moved before after taken i → Moved before ys t (i + 1)
    moved_stays {ys = ys} {i = i} f e k m = record {
      swept = swept_left _ _ ys e (skips (faulty i) (goes i) None f.state) m.swept;
      taken_is = k ∙ m.taken_is ∙ sym (count_no i over f.taken);
      few = omega (arith, k, m.few);
    }

    -- the state that it ran is put in its place
    pub moved_runs : {before after ys : List S} {taken t i : ℕ} (s : S) → Follows means (faulty i) (goes i) (over i) (Runs s) → i < length after → ys ≡ set after i s → t ≡ taken → Moved before after taken i → Moved before ys t (i + 1)
    moved_runs {ys = ys} {i = i} s f l e k m = record {
      swept = swept_wrote _ _ ys s e l (skips (faulty i) (goes i) (Some s) f.state) f.state m.swept;
      taken_is = k ∙ m.taken_is ∙ sym (count_no i over f.taken);
      few = omega (arith, k, m.few);
    }

    -- the state that was dispersed to it is, and counts
    pub moved_takes : {before after ys : List S} {taken t i : ℕ} (s : S) → Follows means (faulty i) (goes i) (over i) (Takes s) → i < length after → ys ≡ set after i s → t ≡ taken + 1 → Moved before after taken i → Moved before ys t (i + 1)
    moved_takes {ys = ys} {i = i} s f l e k m = record {
      swept = swept_wrote _ _ ys s e l (skips (faulty i) (goes i) (Some s) f.state) f.state m.swept;
      taken_is = omega (arith, k, m.taken_is, count_yes i over f.taken);
      few = omega (arith, k, m.few);
    }

    -- once all are done, what is said of each place, and of how many were taken
    pub moved_all : {before after : List S} {taken i : ℕ} → Moved before after taken i → (n : ℕ) → i ≡ n → length after ≡ n
        → ((q : ℕ) → q < n → ByBit (faulty q) (Kept before after q) (Stored means (goes q) before after q)) × (taken ≡ count n over)
    moved_all {before = before} {after = after} m n all l =
        (λ q h. by_bit (faulty q) (goes q) before after q (holds after q (omega arith)) (m.swept.done q (omega arith)), m.taken_is ∙ ap (λ k. count k over) all)
