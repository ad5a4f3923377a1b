use Rattle.std.proofs.Common.{◌≡◌, Some}
use Rattle.values.proofs.Meanings.{same_equal}
use Rattle.applications.specs.Wheel.{torque_of}
use Rattle.applications.specs.Counts.{same_torque}
use Rattle.applications.specs.declared.wheel.Count.{Count}
use Rattle.applications.specs.declared.wheel.Torque.{Torque}
use Rattle.applications.proofs.WheelLaws.{equal_refl, torque_equal}
use Rattle.demo.specs.Processors.{Hold, MostSound}
use Rattle.demo.proofs.Sending.{sound_most}
use Rattle.demo.proofs.processors.vote.Goals as goal

pub returns : goal.returns
returns c = record { voted = c.majority.ensures; sound = sound }
  where
    sound : (s : Count) → Hold c.args.processors.now s → MostSound c.args.processors.now → c.majority.result ≡ Some record { value = torque_of s.value }
    sound s hold most =
        let sent : Torque = record { value = torque_of s.value } in
        same_equal (λ (t : Torque). t.value) torque_equal c.majority.result (Some sent)
        (c.majority.ensures.any sent (sound_most same_torque (λ x. equal_refl x.value) c.args.processors.now s hold most))
