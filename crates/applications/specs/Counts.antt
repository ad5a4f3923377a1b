-- Counts and torques compared by their numbers.
use Rattle.std.specs.Prelude.{Bool, int_le}
use Rattle.applications.specs.Wheel.{equalℤ}
use Rattle.applications.specs.declared.wheel.Count.{Count}
use Rattle.applications.specs.declared.wheel.Torque.{Torque}

-- a count is at most another
abbrev pub leq_count : Count → Count → Bool
leq_count x y = int_le x.value y.value

-- two counts are the same
abbrev pub same_count : Count → Count → Bool
same_count x y = equalℤ x.value y.value

-- two torques are the same
abbrev pub same_torque : Torque → Torque → Bool
same_torque x y = equalℤ x.value y.value
