-- A level as a file writes it.
use Rattle.std.specs.Prelude.{ℕ, cond, Option, Some, None, Float}
use Rattle.std.specs.Float.{binary64}
use Rattle.std.specs.Float.Ieee.{of_bits}
use Rattle.applications.specs.Levels.{in_range, unsigned}

-- a number that qualifies: in range, a minus zero taken as zero
abbrev pub qualified : Float → Option Float
qualified x = cond (in_range x) (Some (unsigned x)) None

-- the level that 64 bits write
abbrev pub level_in : ℕ → Option Float
level_in bits = qualified (of_bits binary64 bits)
