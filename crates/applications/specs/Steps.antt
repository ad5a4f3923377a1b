-- A number as a level.
use Rattle.std.specs.Prelude.{◌≡◌, Bool, true, false, T, Float, Result, MatchResult}
use Rattle.std.specs.Float.Ieee.{le, fits}
use Rattle.applications.specs.Levels.{zero, in_range, unsigned, is_level}
use Rattle.applications.specs.declared.level.Level.{Level}
use Rattle.applications.specs.declared.damped.OutOfRange.{OutOfRange}

-- the level x where b is true, and the zero level otherwise
unfoldable pub level_by : (x : Float) (b : Bool) → (T b → T (is_level x)) → Level
unfolding is_level fits le
level_by x true ok = record { value = x; ok = ok tt }
level_by x false ok = record { value = zero; ok = tt }

-- the level x, and the zero level where x is none
abbrev pub level_of : Float → Level
level_of x = level_by x (is_level x) (λ t. t)

-- the level that a number qualifies as, and an error only where it is out of range
abbrev pub Qualifies : Float → Result Level OutOfRange → Type 0
Qualifies x answer = MatchResult answer (λ level. T (in_range x) × (level.value ≡ unsigned x)) (λ _. T (in_range x) → ⊥)
