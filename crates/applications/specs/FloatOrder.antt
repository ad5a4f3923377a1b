-- The order of floats: a finite number is a signed fraction, so that two of them compare as two sums of products.
use Rattle.std.specs.Prelude.{◌≡◌, ℕ, zero, suc, ◌+◌, ◌-◌, ◌*◌, ◌/◌, ◌^◌, ◌<◌, ◌≤◌, Bool, true, false, cond, not, ◌||◌, T, ℤ, ◌==◌, nat_le, nat_lt, refl, Float}
use Rattle.std.proofs.Common.{sym, ap, ◌∙◌, mul_comm, mul_assoc, mul_right_comm, add-mul, zero-mul, mul-le-mul_right, le_of_mul-le-mul_right, le_antisymm, mul-pos, zero-lt-suc, arith, leb→le, le→leb, nltb→le, eqb→eq, T_not}
use Rattle.std.specs.Float.{nan, inf, fin, Format}
use Rattle.std.specs.Float.Ieee.{prec, low, up, down, size, below, level, lt, eq, le, is_nan, fits, hid, of_bits, to_bits, top as signWeight}
use Rattle.std.specs.Float.Ieee.Bits.{of_bits-to_bits}
use Rattle.std.specs.Float.Ieee.Fits.{up_pos, down_pos, eq→eqb}
use Rattle.std.specs.Float.Ieee.Nearest.{div_same}
use Rattle.std.proofs.lemmas.Bool.Decides.{nat_tests}
use Rattle.applications.specs.Levels.{minus_zero}

-- the part of ±a above zero; `part (not s) a` is the part below it
abbrev part : Bool → ℕ → ℕ
part false a = a
part true a = 0

-- ±a is at most ±b where `side s a t b` is at most `side t b s a`
abbrev side : Bool → ℕ → Bool → ℕ → ℕ
side s a t b = part s a + part (not t) b

-- the same of two numbers, by their cross products
abbrev over : Bool → ℕ → ℤ → Bool → ℕ → ℤ → ℕ
over s m e t n d = side s (m * up e * down d) t (n * up d * down e)

below_is : (s : Bool) (a : ℕ) (t : Bool) (b : ℕ) → below s a t b ≡ nat_lt (side s a t b) (side t b s a)
below_is false a false b = grind (arith, nat_tests)
below_is false a true b = grind (arith, nat_tests)
below_is true a false b = grind (arith, nat_tests)
below_is true a true b = grind (arith, nat_tests)

level_is : (s : Bool) (a : ℕ) (t : Bool) (b : ℕ) → level s a t b ≡ (side s a t b == side t b s a)
level_is false a false b = grind (arith, nat_tests)
level_is false a true b = grind (arith, nat_tests)
level_is true a false b = grind (arith, nat_tests)
level_is true a true b = grind (arith, nat_tests)

either_is : (a b : ℕ) → nat_lt a b || (a == b) ≡ nat_le a b
either_is a b = grind (arith, nat_tests)

le_is : (s : Bool) (m : ℕ) (e : ℤ) (t : Bool) (n : ℕ) (d : ℤ) → le (fin s m e) (fin t n d) ≡ nat_le (over s m e t n d) (over t n d s m e)
unfolding le
le_is s m e t n d = simp (below_is, level_is) (either_is _ _)

to_le : (s : Bool) (m : ℕ) (e : ℤ) (t : Bool) (n : ℕ) (d : ℤ) → over s m e t n d ≤ over t n d s m e → T (le (fin s m e) (fin t n d))
to_le s m e t n d h = rw le_is (le→leb _ _ h)

of_le : (s : Bool) (m : ℕ) (e : ℤ) (t : Bool) (n : ℕ) (d : ℤ) → T (le (fin s m e) (fin t n d)) → over s m e t n d ≤ over t n d s m e
of_le s m e t n d h = leb→le _ _ (rw le_is at h)

-- u − v over p is at most u' − v' over q, and that at most u'' − v'' over r
cross : (u v p u' v' q u'' v'' r : ℕ) → 0 < q → u * q + v' * p ≤ u' * p + v * q → u' * r + v'' * q ≤ u'' * q + v' * r → u * r + v'' * p ≤ u'' * p + v * r
cross u v p u' v' q u'' v'' r Q h k =
    let a = simp (add-mul, mul_assoc, mul_comm) at (mul-le-mul_right r h) in
    let b = simp (add-mul, mul_assoc, mul_comm) at (mul-le-mul_right p k) in
    le_of_mul-le-mul_right {k = q} (simp (add-mul, mul_assoc, mul_comm) (omega arith)) Q

part_mul : (s : Bool) (a k : ℕ) → part s (a * k) ≡ part s a * k
part_mul false a k = refl
part_mul true a k = sym (zero-mul k)

over_is : (s : Bool) (m : ℕ) (e : ℤ) (t : Bool) (n : ℕ) (d : ℤ) → over s m e t n d ≡ part s (m * up e) * down d + part (not t) (n * up d) * down e
over_is s m e t n d = simp part_mul

over_trans : (s : Bool) (m : ℕ) (e : ℤ) (t : Bool) (n : ℕ) (d : ℤ) (u : Bool) (k : ℕ) (g : ℤ)
    → over s m e t n d ≤ over t n d s m e → over t n d u k g ≤ over u k g t n d → over s m e u k g ≤ over u k g s m e
over_trans s m e t n d u k g a b =
    rw (over_is s m e u k g, over_is u k g s m e)
    (cross (part s (m * up e)) (part (not s) (m * up e)) (down e) (part t (n * up d)) (part (not t) (n * up d)) (down d) (part u (k * up g)) (part (not u) (k * up g)) (down g) (down_pos d)
    (rw (over_is s m e t n d, over_is t n d s m e) at a) (rw (over_is t n d u k g, over_is u k g t n d) at b))

-- ---- the laws
pub le_refl : (x : Float) → T (not (is_nan x)) → T (le x x)
le_refl nan h = absurd (unfold is_nan in h)
le_refl (inf true) h = unfold le in tt
le_refl (inf false) h = unfold le in tt
le_refl (fin s m e) h = to_le s m e s m e (omega arith)

-- what is not below is at least as high
pub not_lt : (x y : Float) → T (not (is_nan x)) → T (not (is_nan y)) → T (not (lt x y)) → T (le y x)
unfolding lt le is_nan
not_lt nan y p q h = absurd p
not_lt (inf s) nan p q h = absurd q
not_lt (inf true) (inf true) p q h = tt
not_lt (inf true) (inf false) p q h = absurd h
not_lt (inf false) (inf true) p q h = tt
not_lt (inf false) (inf false) p q h = tt
not_lt (inf true) (fin t n d) p q h = absurd h
not_lt (inf false) (fin t n d) p q h = tt
not_lt (fin s m e) nan p q h = absurd q
not_lt (fin s m e) (inf true) p q h = tt
not_lt (fin s m e) (inf false) p q h = absurd h
not_lt (fin s m e) (fin t n d) p q h = to_le t n d s m e (nltb→le _ _ (rw below_is at h))

pub lt_le : (x y : Float) → T (lt x y) → T (le x y)
unfolding le
lt_le x y h = go (lt x y) h
  where
    go : (b : Bool) → T b → T (b || eq x y)
    go true t = tt
    go false t = absurd t

pub le_total : (x y : Float) → T (not (is_nan x)) → T (not (is_nan y)) → T (le x y || le y x)
le_total x y p q = go (lt x y) (le x y) (le y x) (lt_le x y) (not_lt x y p q)
  where
    go : (l a b : Bool) → (T l → T a) → (T (not l) → T b) → T (a || b)
    go l true b f g = tt
    go true false b f g = absurd (f tt)
    go false false b f g = g tt

pub le_trans : (x y z : Float) → T (le x y) → T (le y z) → T (le x z)
unfolding le
le_trans nan y z h k = absurd h
le_trans (inf s) nan z h k = absurd h
le_trans (inf true) (inf t) nan h k = absurd k
le_trans (inf true) (inf t) (inf true) h k = tt
le_trans (inf true) (inf t) (inf false) h k = tt
le_trans (inf true) (inf t) (fin u j g) h k = tt
le_trans (inf true) (fin t n d) nan h k = absurd k
le_trans (inf true) (fin t n d) (inf true) h k = tt
le_trans (inf true) (fin t n d) (inf false) h k = tt
le_trans (inf true) (fin t n d) (fin u j g) h k = tt
le_trans (inf false) (inf true) z h k = absurd h
le_trans (inf false) (inf false) z h k = k
le_trans (inf false) (fin t n d) z h k = absurd h
le_trans (fin s m e) nan z h k = absurd h
le_trans (fin s m e) (inf true) z h k = absurd h
le_trans (fin s m e) (inf false) nan h k = absurd k
le_trans (fin s m e) (inf false) (inf true) h k = absurd k
le_trans (fin s m e) (inf false) (inf false) h k = tt
le_trans (fin s m e) (inf false) (fin u j g) h k = absurd k
le_trans (fin s m e) (fin t n d) nan h k = absurd k
le_trans (fin s m e) (fin t n d) (inf true) h k = absurd k
le_trans (fin s m e) (fin t n d) (inf false) h k = tt
le_trans (fin s m e) (fin t n d) (fin u j g) h k = to_le s m e u j g (over_trans s m e t n d u j g (of_le s m e t n d h) (of_le t n d u j g k))

-- both ways makes them equal
pub le_both : (x y : Float) → T (le x y) → T (le y x) → T (eq x y)
unfolding le
le_both nan y h k = absurd h
le_both (inf s) nan h k = absurd h
le_both (inf true) (inf true) h k = tt
le_both (inf true) (inf false) h k = absurd k
le_both (inf false) (inf true) h k = absurd h
le_both (inf false) (inf false) h k = tt
le_both (inf true) (fin t n d) h k = absurd k
le_both (inf false) (fin t n d) h k = absurd h
le_both (fin s m e) nan h k = absurd h
le_both (fin s m e) (inf true) h k = absurd h
le_both (fin s m e) (inf false) h k = absurd k
le_both (fin s m e) (fin t n d) h k = rw level_is (eq→eqb (le_antisymm (of_le s m e t n d h) (of_le t n d s m e k)))

-- ---- one number, one value
-- two numbers of one sign and one size are one
same_size : (f : Format) (s : Bool) (m n : ℕ) (e d : ℤ) → T (fits f (fin s m e)) → T (fits f (fin s n d)) → m * up e * down d ≡ n * up d * down e → fin s m e ≡ fin s n d
unfolding to_bits
same_size f s m n e d p q h =
    sym (of_bits-to_bits f (fin s m e) p)
    ∙ ap (λ (z : ℕ). of_bits f (let k = size z - prec f in cond s (signWeight f) 0 + k * hid f + z / 2 ^ k))
    (div_same (m * up e * 2 ^ low f) (down e) (n * up d * 2 ^ low f) (down d) (down_pos e) (down_pos d)
    (mul_right_comm (m * up e) (2 ^ low f) (down d) ∙ ap (λ (z : ℕ). z * 2 ^ low f) h ∙ mul_right_comm (n * up d) (down e) (2 ^ low f)))
    ∙ of_bits-to_bits f (fin s n d) q

-- a size of zero is that of a zero
no_size : (m : ℕ) (e d : ℤ) → m * up e * down d ≡ 0 → T (m == 0)
no_size zero e d h = tt
no_size (suc m) e d h = absurd (omega (arith, mul-pos (mul-pos (zero-lt-suc m) (up_pos e)) (down_pos d)))

-- what is equal is one value, where neither is a minus zero
pub eq_same : (f : Format) (x y : Float) → T (fits f x) → T (fits f y) → T (not (minus_zero x)) → T (not (minus_zero y)) → T (eq x y) → x ≡ y
unfolding eq
eq_same f nan y p q k l h = absurd h
eq_same f (inf s) nan p q k l h = absurd h
eq_same f (inf true) (inf true) p q k l h = refl
eq_same f (inf true) (inf false) p q k l h = absurd h
eq_same f (inf false) (inf true) p q k l h = absurd h
eq_same f (inf false) (inf false) p q k l h = refl
eq_same f (inf s) (fin t n d) p q k l h = absurd h
eq_same f (fin s m e) nan p q k l h = absurd h
eq_same f (fin s m e) (inf t) p q k l h = absurd h
eq_same f (fin true m e) (fin true n d) p q k l h = same_size f true m n e d p q (omega (arith, eqb→eq _ _ (rw level_is at h)))
eq_same f (fin false m e) (fin false n d) p q k l h = same_size f false m n e d p q (omega (arith, eqb→eq _ _ (rw level_is at h)))
eq_same f (fin true m e) (fin false n d) p q k l h = absurd (T_not (m == 0) k (no_size m e d (omega (arith, eqb→eq _ _ (rw level_is at h)))))
eq_same f (fin false m e) (fin true n d) p q k l h = absurd (T_not (n == 0) l (no_size n d e (omega (arith, eqb→eq _ _ (rw level_is at h)))))
