use Rattle.std.proofs.Common.{sym, ap, subst, Option, Some}
use Rattle.values.specs.Entries.{SameEntry}
use Rattle.applications.specs.declared.wheel.Torque.{Torque}
use Rattle.demo.proofs.Sending.{sent_read}
use Rattle.demo.proofs.processors.SentEntries.at.Goals as goal

pub returns : goal.returns
returns c =
    subst (λ (e : Option Torque). SameEntry (λ (t : Torque). t.value) (Some c.send.result) e)
    (sym (sent_read c.args.self.now.processors.now c.args.i _ c.requires))
    (ap (λ (t : Torque). t.value) c.send.ensures)
