-- Levels: the numbers that the code writes, what holding and the loss of a sign keep, and that a step gives a level.
use Rattle.std.specs.Prelude.{◌≡◌, ℕ, zero, suc, ◌+◌, ◌-◌, ◌*◌, ◌^◌, Bool, true, false, cond, not, ◌&&◌, T, ℤ, nat_lt, Float}
use Rattle.std.proofs.Math.Path.{refl}
use Rattle.std.proofs.Common.{sym, ap, subst, zero-mul, eqb→eq}
use Rattle.std.specs.Bool.{beq}
use Rattle.std.proofs.Math.Dec.{T_prop}
use Rattle.std.specs.Float.{nan, inf, fin, Format}
use Rattle.std.specs.Float.Ieee.{binary64, prec, emax, low, up, down, odd, units, round, sum, neg, add, sub, mul, le, lt, eq, fits, is_nan, of_bits}
use Rattle.std.specs.Float.Ieee.Bits.{is_true}
use Rattle.std.specs.Float.Ieee.Fits.{and_l, and_r, and_i, round_is, add-fits, cond-fits}
use Rattle.values.specs.Order.{BothWays}
use Rattle.applications.specs.Levels as the
use Rattle.applications.specs.Levels.{top, bottom, quarter, half, minus_half, minus_zero, in_range, is_level, unsigned, held, nudged, stepped}
use Rattle.applications.specs.Steps.{level_by, level_of}
use Rattle.applications.specs.declared.level.Level.{Level}
use Rattle.applications.specs.FloatOrder.{le_refl, le_both, not_lt, eq_same}

-- a test that came out true
pub holds : {b : Bool} → b ≡ true → T b
holds e = subst T (sym e) tt

-- ---- the numbers that the code writes
pub zero_is : of_bits binary64 0 ≡ the.zero
unfolding of_bits
zero_is = refl

pub top_is : of_bits binary64 4696837146684686336 ≡ top
unfolding of_bits
top_is = refl

pub bottom_is : neg (of_bits binary64 4696837146684686336) ≡ bottom
unfolding of_bits neg
bottom_is = refl

pub quarter_is : of_bits binary64 4598175219545276416 ≡ quarter
unfolding of_bits
quarter_is = refl

pub half_is : of_bits binary64 4602678819172646912 ≡ half
unfolding of_bits
half_is = refl

pub minus_half_is : neg (of_bits binary64 4602678819172646912) ≡ minus_half
unfolding of_bits neg
minus_half_is = refl

pub ruleset literals = (zero_is, top_is, bottom_is, quarter_is, half_is, minus_half_is)

-- ---- the facts of a level
pub level_fits : (x : Float) → T (is_level x) → T (fits binary64 x)
unfolding is_level
level_fits x h = and_l (fits binary64 x) _ (and_l (fits binary64 x && in_range x) _ h)

pub level_range : (x : Float) → T (is_level x) → T (in_range x)
unfolding is_level
level_range x h = and_r (fits binary64 x) _ (and_l (fits binary64 x && in_range x) _ h)

pub level_plain : (x : Float) → T (is_level x) → T (not (minus_zero x))
unfolding is_level
level_plain x h = and_r (fits binary64 x && in_range x) _ h

range_number : (x : Float) → T (in_range x) → T (not (is_nan x))
unfolding le is_nan
range_number nan h = h
range_number (inf s) h = tt
range_number (fin s m e) h = tt

pub level_number : (x : Float) → T (is_level x) → T (not (is_nan x))
level_number x h = range_number x (level_range x h)

-- levels of one number are one level
pub same_level : (x y : Level) → x.value ≡ y.value → x ≡ y
same_level x y e = subst (λ (v : Float). (q : T (is_level v)) → x ≡ made v q) e (λ q. ap (made x.value) (T_prop (is_level x.value) x.ok q)) y.ok
  where
    made : (v : Float) → T (is_level v) → Level
    made v q = record { value = v; ok = q }

-- ---- the loss of a sign
minus_zero_eq : (x : Float) → T (minus_zero x) → T (eq x the.zero)
unfolding eq
minus_zero_eq (fin true m e) h = simp (eqb→eq m 0 h, zero-mul) tt
minus_zero_eq (fin false m e) h = absurd h
minus_zero_eq nan h = absurd h
minus_zero_eq (inf s) h = absurd h

pub unsigned_zero : (x : Float) → T (fits binary64 x) → T (eq x the.zero) → the.zero ≡ unsigned x
unsigned_zero x p h = go (minus_zero x) (λ k. sym (eq_same binary64 x the.zero p (unfold fits in tt) k tt h))
  where
    go : (b : Bool) → (T (not b) → the.zero ≡ x) → the.zero ≡ cond b the.zero x
    go true f = refl
    go false f = f tt

pub unsigned_other : (x : Float) → eq x the.zero ≡ false → x ≡ unsigned x
unsigned_other x e = go (minus_zero x) (λ h. subst T e (minus_zero_eq x h))
  where
    go : (b : Bool) → (T b → ⊥) → x ≡ cond b the.zero x
    go true f = absurd (f tt)
    go false f = refl

unsigned_level : (x : Float) → T (fits binary64 x) → T (in_range x) → T (is_level (unsigned x))
unfolding is_level
unsigned_level x p h = go (minus_zero x) (λ k. and_i (fits binary64 x && in_range x) (not (minus_zero x)) (and_i (fits binary64 x) (in_range x) p h) k)
  where
    go : (b : Bool) → (T (not b) → T (fits binary64 x && in_range x && not (minus_zero x))) → T (is_level (cond b the.zero x))
    go true f = unfold fits le in tt
    go false f = f tt

pub from_level : (x v : Float) → v ≡ unsigned x → T (fits binary64 x) → T (in_range x) → T (is_level v)
from_level x v e p h = subst (λ (z : Float). T (is_level z)) (sym e) (unsigned_level x p h)

-- ---- holding
held_fits : (x : Float) → T (fits binary64 x) → T (fits binary64 (held x))
held_fits x p = cond-fits binary64 (lt x bottom) bottom _ (unfold fits in tt) (cond-fits binary64 (lt top x) top x (unfold fits in tt) p)

held_range : (x : Float) → T (not (is_nan x)) → T (in_range (held x))
held_range x p = go (lt x bottom) (lt top x) (not_lt x bottom p (unfold is_nan in tt)) (not_lt top x (unfold is_nan in tt) p)
  where
    go : (a b : Bool) → (T (not a) → T (le bottom x)) → (T (not b) → T (le x top)) → T (in_range (cond a bottom (cond b top x)))
    go true b f g = unfold le in tt
    go false true f g = unfold le in tt
    go false false f g = and_i (le bottom x) (le x top) (f tt) (g tt)

-- ---- no step gives a NaN
odd_number : (d : ℕ) (s : Bool) (q k l : ℕ) → T (not (is_nan (odd d s q k l)))
unfolding odd is_nan
odd_number d s zero k l = tt
odd_number d s (suc q) k l = tt

cond_number : (b : Bool) (x y : Float) → T (not (is_nan x)) → T (not (is_nan y)) → T (not (is_nan (cond b x y)))
cond_number true x y p q = p
cond_number false x y p q = q

units_number : (f : Format) (s : Bool) (q k : ℕ) → T (not (is_nan (units f s q k)))
unfolding units
units_number f s q k = cond_number (nat_lt (q * 2 ^ k) (2 ^ (low f + suc (emax f)))) _ (inf s) (odd_number (suc (prec f)) s q k (low f)) (unfold is_nan in tt)

round_number : (f : Format) (s : Bool) (a c : ℕ) → T (not (is_nan (round f s a c)))
round_number f s a c = subst (λ (z : Float). T (not (is_nan z))) (sym (round_is f s a c)) (units_number f s _ _)

sum_number : (f : Format) (s : Bool) (a : ℕ) (t : Bool) (b c : ℕ) → T (not (is_nan (sum f s a t b c)))
unfolding sum
sum_number f s a t b c =
    cond_number (beq s t) _ _ (round_number f s (a + b) c) (cond_number (nat_lt a b) _ _ (round_number f t (b - a) c) (round_number f (s && nat_lt b a) (a - b) c))

add_number : (f : Format) (z : Float) (s : Bool) (m : ℕ) (e : ℤ) → T (not (is_nan z)) → T (not (is_nan (add f z (fin s m e))))
unfolding add
add_number f nan s m e p = p
add_number f (inf t) s m e p = unfold is_nan in tt
add_number f (fin t n d) s m e p = sum_number f t (n * up d * down e) s (m * up e * down d) (down d * down e)

quarter_number : (f : Format) (z : Float) → T (not (is_nan z)) → T (not (is_nan (mul f z quarter)))
unfolding mul
quarter_number f nan p = p
quarter_number f (inf t) p = unfold is_nan in tt
quarter_number f (fin t n d) p = round_number f _ _ _

nudged_number : (x r : Float) → T (in_range x) → T (in_range r) → T (not (is_nan (nudged x r)))
unfolding le sub neg
nudged_number nan r a b = absurd a
nudged_number (inf true) r a b = absurd a
nudged_number (inf false) r a b = absurd a
nudged_number (fin s m e) nan a b = absurd b
nudged_number (fin s m e) (inf true) a b = absurd b
nudged_number (fin s m e) (inf false) a b = absurd b
nudged_number (fin s m e) (fin t n d) a b =
    add_number binary64 _ s m e (quarter_number binary64 _ (add_number binary64 (fin t n d) (not s) m e (unfold is_nan in tt)))

-- ---- a step of two levels is a level
pub step_level : (x r : Level) (v : Float) → v ≡ stepped x.value r.value → T (is_level v)
step_level x r v e =
    from_level (held (nudged x.value r.value)) v e
    (held_fits (nudged x.value r.value) (add-fits binary64 (mul binary64 (sub binary64 r.value x.value) quarter) x.value))
    (held_range (nudged x.value r.value) (nudged_number x.value r.value (level_range x.value x.ok) (level_range r.value r.ok)))

level_value : (x : Float) → T (is_level x) → (level_of x).value ≡ x
unfolding level_by
level_value x h = go (is_level x) (λ t. t) h
  where
    go : (b : Bool) (f : T b → T (is_level x)) → T b → (level_by x b f).value ≡ x
    go true f t = refl
    go false f t = absurd t

pub step_value : (x r : Level) → (level_of (stepped x.value r.value)).value ≡ stepped x.value r.value
step_value x r = level_value (stepped x.value r.value) (step_level x r (stepped x.value r.value) refl)

-- ---- levels compared
pub level_eq : (x y : Level) → T (eq x.value y.value) → x.value ≡ y.value
level_eq x y = eq_same binary64 x.value y.value (level_fits x.value x.ok) (level_fits y.value y.ok) (level_plain x.value x.ok) (level_plain y.value y.ok)

pub level_same_le : (x y : Level) → x.value ≡ y.value → T (le x.value y.value)
level_same_le x y e = subst (λ (v : Float). T (le x.value v)) e (le_refl x.value (level_number x.value x.ok))

pub level_same_eq : (x y : Level) → x.value ≡ y.value → eq x.value y.value ≡ true
level_same_eq x y e = is_true _ (le_both x.value y.value (level_same_le x y e) (level_same_le y x (sym e)))

pub level_both : (x y : Level) → BothWays (T (le x.value y.value)) (T (le y.value x.value)) (x.value ≡ y.value)
level_both x y = (λ h k. level_eq x y (le_both x.value y.value h k), λ e. (level_same_le x y e, level_same_le y x (sym e)))
