-- Records: the questions in their order, and the part of the file that each is.
use Rattle.std.specs.Prelude.{ℕ, ◌+◌, ◌==◌, cond, leb, List, length, get_or, take, drop, Result, Ok, Err}
use Rattle.runfile.specs.declared.fault.Fault.{Fault}
use Rattle.runfile.specs.declared.fault.Question.TheVariants.{Bytes, Tag as Tagged}
use Rattle.runfile.specs.declared.record.Tag.{Tag}
use Rattle.runfile.specs.declared.record.Tag.TheVariants.{Intake, Filter, Agree, Select, Commit, Abandon}
use Rattle.runfile.specs.declared.record.Record.{Record}
use Rattle.runfile.specs.declared.record.Record.TheVariants as a
use Rattle.runfile.specs.Faults.{fault_at, asked, after}
use Rattle.runfile.specs.Numbers.{number_at}

-- a part of the file: which call it stands for, where it starts, and its body
pub record Part : Type 0 where
  pub tag : Tag
  pub at : ℕ
  pub body : List ℕ

-- the part that a record is
abbrev pub part_of : Record → Part
part_of (a.Intake at body) = record { tag = Intake; at = at; body = body.now }
part_of (a.Filter at body) = record { tag = Filter; at = at; body = body.now }
part_of (a.Agree at body) = record { tag = Agree; at = at; body = body.now }
part_of (a.Select at body) = record { tag = Select; at = at; body = body.now }
part_of (a.Commit at body) = record { tag = Commit; at = at; body = body.now }
part_of (a.Abandon at body) = record { tag = Abandon; at = at; body = body.now }

-- the stages in their order, and abandon
abbrev pub tag_of : ℕ → ℕ → Result Tag Fault
tag_of b at =
    cond (b == 1) (Ok Intake) (cond (b == 2) (Ok Filter) (cond (b == 3) (Ok Agree)
    (cond (b == 4) (Ok Select) (cond (b == 5) (Ok Commit) (cond (b == 6) (Ok Abandon)
    (Err (fault_at Tagged at)))))))

-- how long the body is
abbrev pub body_length : List ℕ → ℕ → ℕ
body_length bytes at = number_at 4 (at + 1) bytes

-- the record that starts at `at`, its questions in their order
abbrev pub record_at : List ℕ → ℕ → Result Part Fault
record_at bytes at =
    asked (leb (at + 5) (length bytes)) Bytes at
    (after (tag_of (get_or bytes at 0) at) (λ tag.
    asked (leb (at + 5 + body_length bytes at) (length bytes)) Bytes at
    (Ok (record { tag = tag; at = at; body = take (body_length bytes at) (drop (at + 5) bytes) }))))
