-- The numbers that a cluster may have.
use Rattle.std.specs.Prelude.{ℕ, ◌*◌, ◌^◌, ◌<◌, ◌≤◌}
use Rattle.layers.specs.Layers.{FewFaulty}

-- of replicas and sensors
abbrev pub Sizable : ℕ → ℕ → Type 0
Sizable n sensors = (4 ≤ n) × (n ≤ 16) × (1 ≤ sensors) × (sensors ≤ 4)

-- of faults
abbrev pub Bearable : ℕ → ℕ → ℕ → Type 0
Bearable n f marks = (1 ≤ f) × (3 * f < n) × (marks < 2 ^ n) × FewFaulty n f marks
