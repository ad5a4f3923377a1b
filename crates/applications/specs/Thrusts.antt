-- The commands, by a level's number.
use Rattle.std.specs.Prelude.{◌≡◌, ℕ, ◌<◌, cond, Float, Result, MatchResult}
use Rattle.std.specs.Float.Ieee.{lt}
use Rattle.applications.specs.Levels.{half, minus_half}
use Rattle.applications.specs.declared.damped.Thrust.{Thrust}
use Rattle.applications.specs.declared.damped.Thrust.TheVariants.{Off, Pos, Neg}
use Rattle.applications.specs.declared.damped.UnknownThrust.{UnknownThrust}

-- neg above 0.5, pos below −0.5, otherwise off
abbrev pub thrust_of : Float → Thrust
thrust_of x = cond (lt half x) Neg (cond (lt x minus_half) Pos Off)

-- the number that stands for a command
abbrev pub code_of : Thrust → ℕ
code_of Off = 0
code_of Pos = 1
code_of Neg = 2

-- the command that a number stands for, and an error only where it stands for none
abbrev pub Decodes : ℕ → Result Thrust UnknownThrust → Type 0
Decodes code answer = MatchResult answer (λ thrust. code_of thrust ≡ code) (λ e. (e.0 ≡ code) × (2 < code))
