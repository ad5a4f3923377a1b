-- A loop over the places of a table: below p each is done, from p on each is as it was.
use Rattle.std.proofs.Common.{◌≡◌, ℕ, ◌+◌, ◌<◌, ◌≤◌, Bool, true, false, ◌≢◌, List, length, get_or, set, sym, refl, ap, ◌∙◌, subst, arith, get_or-set_other, get_or-set_same, below_more}
use Rattle.std.proofs.lemmas.Bool.{true≢false, false≢true}
use Rattle.protocol.specs.Tables.{Kept, ByBit, WrittenAt}

pub record Swept {X : Type 0} (skip : ℕ → Bool) (wants : ℕ → X → Type 0) (before after : List X) (p : ℕ) : Type 0 where
  pub done : (q : ℕ) → q < p → WrittenAt (skip q) (wants q) before after q
  pub rest : (q : ℕ) → p ≤ q → Kept before after q

-- what is said of a place depends on what stands there alone
still : {X : Type 0} (b : Bool) (wants : X → Type 0) (before xs ys : List X) (q : ℕ) → Kept xs ys q → WrittenAt b wants before xs q → WrittenAt b wants before ys q
still true wants before xs ys q h k = λ d. h d ∙ k d
still false wants before xs ys q h k = λ d. subst wants (sym (h d)) (k d)

skipped : {X : Type 0} (b : Bool) (wants : X → Type 0) (before ys : List X) (q : ℕ) → b ≡ true → Kept before ys q → WrittenAt b wants before ys q
skipped true wants before ys q e k = k
skipped false wants before ys q e k = absurd (false≢true e)

wrote : {X : Type 0} (b : Bool) (wants : X → Type 0) (before ys : List X) (q : ℕ) (v : X) → b ≡ false → wants v → ((d : X) → get_or ys q d ≡ v) → WrittenAt b wants before ys q
wrote true wants before ys q v e w k = absurd (true≢false e)
wrote false wants before ys q v e w k = λ d. subst wants (sym (k d)) w

module _ {X : Type 0} (skip : ℕ → Bool) (wants : ℕ → X → Type 0) where
  pub swept_none : (before : List X) → Swept skip wants before before 0
  swept_none before = record { done = λ q h. absurd (omega arith); rest = λ q h d. refl }

  -- a turn that skips the place
  pub swept_left : {before after : List X} {p : ℕ} (ys : List X) → ys ≡ after → skip p ≡ true → Swept skip wants before after p → Swept skip wants before ys (p + 1)
  swept_left {before = before} {p = p} ys e b s =
      let P : List X → Type 0 = λ zs. Swept skip wants before zs p in
      let t : Swept skip wants before ys p = subst P (sym e) s in
      record { done = below_more _ _ t.done (skipped (skip p) (wants p) before ys p b (t.rest p (omega arith))); rest = λ q h. t.rest q (omega arith) }

  -- a turn that writes v
  pub swept_wrote : {before after : List X} {p : ℕ} (ys : List X) (v : X) → ys ≡ set after p v → p < length after → skip p ≡ false → wants p v → Swept skip wants before after p → Swept skip wants before ys (p + 1)
  swept_wrote {before = before} {after = after} {p = p} ys v e within b w s =
      let other : (q : ℕ) → q ≢ p → Kept after ys q = λ q ne d. ap (λ zs. get_or zs q d) e ∙ get_or-set_other after p q v d ne in
      let same : (d : X) → get_or ys p d ≡ v = λ d. ap (λ zs. get_or zs p d) e ∙ get_or-set_same after p v d within in
      record {
        done = below_more _ _ (λ q h. still (skip q) (wants q) before after ys q (other q (omega arith)) (s.done q h)) (wrote (skip p) (wants p) before ys p v b w same);
        rest = λ q h d. other q (omega arith) d ∙ s.rest q (omega arith) d;
      }

-- from what was written to what a record of the protocol says of the place
pub placed : {X : Type 0} (wants : X → Type 0) (V : Type 0) (before after : List X) (p : ℕ) (b : Bool) → (b ≡ false → ((d : X) → wants (get_or after p d)) → V) → WrittenAt b wants before after p → ByBit b (Kept before after p) V
placed wants V before after p true to w = w
placed wants V before after p false to w = to refl w
