-- What commit does to the lent tables, and what it answers.
use Rattle.std.specs.Prelude.{◌≡◌, ℕ, ◌*◌, ◌<◌, Bool, not, ◌&&◌, List, length, Ok, Err, Result, ◌==◌, slice_index, Option}
use Rattle.quorum.specs.Counting.{bit, count, lowest}
use Rattle.values.specs.Entries.{SameEntry}
use Rattle.values.specs.Majority.{majority}
use Rattle.protocol.specs.Tables.{Kept, Stored, ByBit}
use Rattle.protocol.specs.Setup.{Tables, sizes}
use Rattle.protocol.specs.Model.{Verdict, granted, refused}
use Rattle.questions.specs.Questions.{fits, stage_verdict}
use Rattle.protocol.specs.Turns.{sending}
use Rattle.questions.specs.Refusals.{number_of}
use Rattle.questions.specs.declared.Refusal.{Refusal}
use Rattle.dispersal.specs.Turning.{onward, takes_over}
use Rattle.dispersal.specs.declared.Outcome.{Outcome}

-- the questions: on the tables, and on how many dispersed states and commands there are
abbrev pub close_verdict : {R S C : Type 0} → ℕ → ℕ → Tables R S → List (Option S) → List (Option C) → Verdict
close_verdict n sensors t states commands = stage_verdict (fits n sensors (sizes t)) (length states == n * n && length commands == n)

-- the lowest sound replica
abbrev pub speaker : ℕ → ℕ → ℕ
speaker n marks = lowest n (λ i. not (bit marks i))

module _ {R S C MS MC : Type 0} (means_s : S → MS) (alike_s : S → S → Bool) (means_c : C → MC) (alike_c : C → C → Bool) (commanded : S → C)
    (n sensors marks : ℕ) (t : Tables R S) (states : List (Option S)) (commands : List (Option C)) (state' : List S) where
  -- The states go on, and the outcome is answered.
  pub record Closed (o : Outcome C) : Type 0 where
    -- every question was answered yes
    pub asked : close_verdict n sensors t states commands ≡ granted
    -- the table keeps its length
    pub long : length state' ≡ length t.state
    -- a sound replica holds the state that it ran or took, or its own; a faulty one's place keeps its very value
    pub state : (i : ℕ) → i < n → ByBit (bit marks i) (Kept t.state state' i)
        (Stored means_s (onward alike_s n sensors marks t.run t.accept t.chosen states i) t.state state' i)
    -- the vote is the majority of what is sent, of the states that are then held
    pub vote : SameEntry means_c o.vote (majority alike_c n (sending commanded sensors marks t.accept t.chosen state' commands))
    -- the choice is that of the lowest sound replica
    pub answer_chosen : o.chosen ≡ slice_index t.chosen (speaker n marks)
    -- and so are the candidates
    pub answer_candidates : o.candidates ≡ slice_index t.candidates (speaker n marks)
    -- as many as the sound replicas that took a dispersed state
    pub answer_dispersed : o.dispersed ≡ count n (takes_over alike_s n sensors marks t.run t.accept t.chosen states)

  -- The first question that was answered no is told, and nothing is written.
  pub record Unclosed (refusal : Refusal) : Type 0 where
    -- it is the first no
    pub asked : close_verdict n sensors t states commands ≡ refused (number_of refusal)
    -- the states are as they were
    pub state : state' ≡ t.state

  -- what commit answers
  abbrev pub CloseAnswers : Result (Outcome C) Refusal → Type 0
  CloseAnswers (Ok o) = Closed o
  CloseAnswers (Err refusal) = Unclosed refusal
