-- The questions in their order.
use Rattle.std.specs.Prelude.{◌≡◌, ℕ, ◌*◌, ◌^◌, Bool, not, ◌&&◌, ◌==◌, nat_le, nat_lt, Ok, Err, Result}
use Rattle.quorum.specs.Counting.{bit, count}
use Rattle.protocol.specs.Setup.{Sizes}
use Rattle.protocol.specs.Model.{Verdict, granted, refused, ask, tables_size, input_size, replica_number, replica_faulty}
use Rattle.questions.specs.Refusals.{number_of}
use Rattle.questions.specs.declared.Refusal.{Refusal}
use Rattle.questions.specs.declared.Parameters.{Parameters}

-- each table has exactly its size
pub record Fits (n sensors : ℕ) (z : Sizes) : Type 0 where
  pub state : z.state ≡ n
  pub own : z.own ≡ n * sensors
  pub agreed : z.agreed ≡ n * sensors
  pub run : z.run ≡ n * sensors
  pub accept : z.accept ≡ n * sensors
  pub yes : z.yes ≡ n * sensors
  pub heard : z.heard ≡ n * n * sensors
  pub candidates : z.candidates ≡ n
  pub chosen : z.chosen ≡ n

-- the same as a test
abbrev pub fits : ℕ → ℕ → Sizes → Bool
fits n sensors z =
    z.state == n && z.own == n * sensors && z.agreed == n * sensors && z.run == n * sensors && z.accept == n * sensors
    && z.yes == n * sensors && z.heard == n * n * sensors && z.candidates == n && z.chosen == n

-- of a stage: the tables, and then what comes in
abbrev pub stage_verdict : Bool → Bool → Verdict
stage_verdict tables input = ask tables tables_size (ask input input_size granted)

-- of a look: the tables, and then the replica's number
abbrev pub look_verdict : Bool → ℕ → ℕ → ℕ → Verdict
look_verdict tables n marks i = ask tables tables_size (ask (nat_lt i n) replica_number (ask (not (bit marks i)) replica_faulty granted))

-- of making, on its numbers
abbrev pub numbers_verdict : ℕ → ℕ → ℕ → ℕ → Verdict
numbers_verdict n f sensors marks =
    ask (nat_le 4 n && nat_le n 16) 1 (ask (nat_le 1 f) 2 (ask (nat_lt (3 * f) n) 3 (ask (nat_le 1 sensors && nat_le sensors 4) 4
    (ask (nat_lt marks (2 ^ n)) 5 (ask (nat_le (count n (bit marks)) f) 6 granted)))))

-- where all were answered yes, the next
abbrev pub then_ask : Verdict → Verdict → Verdict
then_ask granted next = next
then_ask (refused number) next = refused number

-- of making: the numbers, and then the tables
abbrev pub make_verdict : ℕ → ℕ → ℕ → ℕ → Sizes → Verdict
make_verdict n f sensors marks z = then_ask (numbers_verdict n f sensors marks) (ask (fits n sensors z) tables_size granted)

-- The numbers are in order, and these are they.
pub record Admitted (n f sensors marks : ℕ) (p : Parameters) : Type 0 where
  pub asked : numbers_verdict n f sensors marks ≡ granted
  pub n_is : p.n ≡ n
  pub f_is : p.f ≡ f
  pub sensors_is : p.sensors ≡ sensors
  pub marks_is : p.marks ≡ marks

-- what the questions on the numbers answer
abbrev pub NumbersAnswer : ℕ → ℕ → ℕ → ℕ → Result Parameters Refusal → Type 0
NumbersAnswer n f sensors marks (Ok p) = Admitted n f sensors marks p
NumbersAnswer n f sensors marks (Err refusal) = numbers_verdict n f sensors marks ≡ refused (number_of refusal)
