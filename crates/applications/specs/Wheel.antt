-- The wheel, over the integers.
use Rattle.std.specs.Prelude.{Bool, cond, ◌&&◌, ℤ, pos, negsuc, ◌+ℤ◌, neg_ℤ, int_div, int_le, int_lt}

-- the ends of the range, −2,147,483,648 and 2,147,483,647
abbrev pub least : ℤ
least = negsuc 2147483647

abbrev pub greatest : ℤ
greatest = pos 2147483647

-- held at both ends of the range
abbrev pub held : ℤ → ℤ
held z = cond (int_lt z least) least (cond (int_lt greatest z) greatest z)

-- a step adds the reading to the state
abbrev pub turned : ℤ → ℤ → ℤ
turned state reading = held (state +ℤ reading)

-- at most 32,767
abbrev pub capped : ℤ → ℤ
capped z = cond (int_lt (pos 32767) z) (pos 32767) z

-- the negative of state ÷ 65,536 rounded toward zero
abbrev pub torque_of : ℤ → ℤ
torque_of state = capped (neg_ℤ (int_div state (pos 65536)))

-- whether two integers are the same number
abbrev pub equalℤ : ℤ → ℤ → Bool
equalℤ a b = int_le a b && int_le b a
