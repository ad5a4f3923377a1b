-- The numbers of refusals.
use Rattle.std.specs.Prelude.{ℕ, Ok, Err, Result}
use Rattle.protocol.specs.Model.{Verdict, granted, refused, tables_size, input_size, replica_number, replica_faulty}
use Rattle.questions.specs.declared.Refusal.{Refusal}
use Rattle.questions.specs.declared.Refusal.TheVariants.{Replicas, Faults, Third, Sensors, MarkedNumber, Marked, TablesSize, InputSize, ReplicaNumber, ReplicaFaulty}

-- the number of the question that was answered no
abbrev pub number_of : Refusal → ℕ
number_of Replicas = 1
number_of Faults = 2
number_of Third = 3
number_of Sensors = 4
number_of MarkedNumber = 5
number_of Marked = 6
number_of TablesSize = tables_size
number_of InputSize = input_size
number_of ReplicaNumber = replica_number
number_of ReplicaFaulty = replica_faulty

-- the verdict that an answer stands for
abbrev pub verdict_of : {X : Type 0} → Result X Refusal → Verdict
verdict_of (Ok _) = granted
verdict_of (Err refusal) = refused (number_of refusal)
