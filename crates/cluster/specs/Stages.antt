-- Which stages are inside a cycle.
use Rattle.std.specs.Prelude.{◌≡◌, true, nat_lt}
use Rattle.protocol.specs.Setup.{Stage}
use Rattle.protocol.specs.Model.{order}

-- not at rest
abbrev pub Inside : Stage → Type 0
Inside s = nat_lt 0 (order s) ≡ true
