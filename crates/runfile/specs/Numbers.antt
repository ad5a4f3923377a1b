-- Little-endian numbers in a list of bytes.
use Rattle.std.specs.Prelude.{ℕ, zero, suc, ◌+◌, ◌*◌, List, get_or}

-- the number that `size` bytes from `at` on write, the lowest first
abbrev pub number_at : ℕ → ℕ → List ℕ → ℕ
number_at zero at bytes = 0
number_at (suc size) at bytes = get_or bytes at 0 + 256 * number_at size (suc at) bytes
