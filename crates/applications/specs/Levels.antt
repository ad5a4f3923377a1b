-- What a level is, and what a step works out from two of them.
use Rattle.std.specs.Prelude.{Bool, true, false, cond, not, ◌&&◌, pos, negsuc, ◌==◌, Float}
use Rattle.std.specs.Float.{nan, inf, fin, binary64}
use Rattle.std.specs.Float.Ieee.{add, sub, mul, le, lt, fits}

-- 0
abbrev pub zero : Float
zero = fin false 0 (pos 0)

-- 1,000,000, which is 15,625 times 2 ^ 6
abbrev pub top : Float
top = fin false 15625 (pos 6)

-- −1,000,000
abbrev pub bottom : Float
bottom = fin true 15625 (pos 6)

-- 0.25
abbrev pub quarter : Float
quarter = fin false 1 (negsuc 1)

-- 0.5
abbrev pub half : Float
half = fin false 1 (negsuc 0)

-- −0.5
abbrev pub minus_half : Float
minus_half = fin true 1 (negsuc 0)

-- a zero with a minus sign
abbrev pub minus_zero : Float → Bool
minus_zero nan = false
minus_zero (inf s) = false
minus_zero (fin s m e) = s && m == 0

-- from −1,000,000 to 1,000,000, both ends included
abbrev pub in_range : Float → Bool
in_range x = le bottom x && le x top

-- a binary64 number in range, never a minus zero
unfoldable pub is_level : Float → Bool
is_level x = fits binary64 x && in_range x && not (minus_zero x)

-- a minus zero becomes zero
abbrev pub unsigned : Float → Float
unsigned x = cond (minus_zero x) zero x

-- what is out of range is held to the nearer end
abbrev pub held : Float → Float
held x = cond (lt x bottom) bottom (cond (lt top x) top x)

-- r − x, times 0.25, plus x, each rounded once, in that order
abbrev pub nudged : Float → Float → Float
nudged x r = add binary64 (mul binary64 (sub binary64 r x) quarter) x

-- the state x after the reading r
abbrev pub stepped : Float → Float → Float
stepped x r = unsigned (held (nudged x r))
