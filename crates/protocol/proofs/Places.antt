-- Places of tables, and tests.
use Rattle.std.proofs.Common.{◌≡◌, ℕ, zero, suc, ◌<◌, ◌≤◌, Bool, true, false, cond, not, ◌&&◌, T, ◌⊎◌, List, [], ◌∷◌, length, get_or, sym, refl, ap, subst, inl, inr, arith, Option, Some, None}
use lib.ListN.{get_or-eq_default}
use Rattle.std.proofs.lemmas.List.FromFn.{length-map-range_with_len, get_or-map-range_with_len}
use Rattle.std.proofs.lemmas.Bool.{cases_lt, not-true}
use Rattle.quorum.proofs.Counts.{is_yes}
use Rattle.values.specs.Entries.{present, SameEntry, entry_at}
use Rattle.values.proofs.Meanings.{same_refl}
use Rattle.protocol.specs.Tables.{table, value_at, Kept, ByBit}

-- ---- tests

pub cond_yes : {X : Type 0} (b : Bool) (x y : X) → T b → cond b x y ≡ x
cond_yes true x y t = refl
cond_yes false x y t = absurd t

pub cond_under : {X : Type 0} (b : Bool) (x y z : X) → (b ≡ false → y ≡ z) → cond b x y ≡ cond b x z
cond_under true x y z h = refl
cond_under false x y z h = h refl

pub and_under : (b x y : Bool) → (T b → x ≡ y) → (b && x) ≡ (b && y)
and_under true x y h = h tt
and_under false x y h = refl

pub no_yes : (b : Bool) → b ≡ false → T (not b)
no_yes b e = subst (λ (c : Bool). T (not c)) (sym e) tt

pub yes_no : (b : Bool) → T (not b) → b ≡ false
yes_no b t = not-true b (is_yes (not b) t)

pub clear_at : (b : Bool) (A B : Type 0) → b ≡ false → ByBit b A B → B
clear_at b A B e w = subst (λ (c : Bool). ByBit c A B) e w

-- ---- entries

pub has_value : {X : Type 0} (e : Option X) → T (present e) → (x : X) × (e ≡ Some x)
has_value None t = absurd t
has_value (Some x) t = (x, refl)

pub same_is : {X M : Type 0} (means : X → M) (e d : Option X) → e ≡ d → SameEntry means e d
same_is {X} means e d q = subst (λ (z : Option X). SameEntry means e z) q (same_refl means e)

pub present_cond : {X : Type 0} (b : Bool) (e : Option X) → T (present (cond b e None)) → T b
present_cond true e t = tt
present_cond false e t = absurd t

-- no entry is present, or some entry is
pub none_or_some : {X : Type 0} (es : List (Option X)) → ((k : ℕ) → T (present (entry_at es k)) → ⊥) ⊎ ((k : ℕ) × T (present (entry_at es k)))
none_or_some [] = inl (λ k t. t)
none_or_some (Some x ∷ es) = inr (0, tt)
none_or_some (None ∷ es) = elim (none_or_some es) [ inl h ↦ inl (later h) | inr h ↦ inr (suc h.0, h.1) ]
  where
    later : ((k : ℕ) → T (present (entry_at es k)) → ⊥) → (k : ℕ) → T (present (entry_at (None ∷ es) k)) → ⊥
    later h zero t = t
    later h (suc k) t = h k t

pub inside : {X : Type 0} (es : List (Option X)) (k : ℕ) → T (present (entry_at es k)) → k < length es
inside {X} es k t =
    elim (cases_lt k (length es)) [ inl l ↦ l | inr l ↦ absurd (subst (λ (e : Option X). T (present e)) (get_or-eq_default es None l) t) ]

-- ---- tables

pub table_length : {X : Type 0} (n : ℕ) (f : ℕ → X) → length (table n f) ≡ n
unfolding table
table_length n f = length-map-range_with_len f 0 n

pub table_at : {X : Type 0} (n : ℕ) (f : ℕ → X) (d : X) (i : ℕ) → i < n → get_or (table n f) i d ≡ f i
unfolding table
table_at n f d i l = get_or-map-range_with_len f 0 n i i d l (omega arith)

pub table_past : {X : Type 0} (n : ℕ) (f : ℕ → X) (d : X) (i : ℕ) → n ≤ i → get_or (table n f) i d ≡ d
table_past n f d i l = get_or-eq_default (table n f) d (omega (arith, table_length n f))

-- the value at a place that there is
pub value_at_place : {X : Type 0} (xs : List X) (p : ℕ) (d : X) → p < length xs → value_at xs p ≡ Some (get_or xs p d)
value_at_place [] p d l = absurd (omega arith)
value_at_place (x ∷ xs) zero d l = refl
value_at_place (x ∷ xs) (suc p) d l = value_at_place xs p d (omega arith)

-- a place that keeps its value, in a table that keeps its size
pub value_kept : {X : Type 0} (xs ys : List X) (p : ℕ) → length ys ≡ length xs → Kept xs ys p → value_at ys p ≡ value_at xs p
value_kept [] [] p e h = refl
value_kept [] (y ∷ ys) p e h = absurd (omega arith)
value_kept (x ∷ xs) [] p e h = absurd (omega arith)
value_kept {X} (x ∷ xs) (y ∷ ys) zero e h = ap (λ (z : X). Some z) (h x)
value_kept (x ∷ xs) (y ∷ ys) (suc p) e h = value_kept xs ys p (omega arith) h
