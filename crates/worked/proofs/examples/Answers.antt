use mathlib.Core.Path.{◌∙◌}
use Rattle.values.proofs.Meanings.{same_equal}
use Rattle.applications.specs.declared.wheel.Count.{Count}
use Rattle.applications.proofs.WheelLaws.{count_equal}
use Rattle.worked.proofs.Computed.{two_to_one, one_to_one, mid_is_one, king_two_faced, king_contradicted, worked}
use Rattle.worked.proofs.examples.Goals as goal

pub returns-clause-worked : goal.returns-clause-worked
returns-clause-worked c = worked c.args.a c.args.b

pub returns-clause-two : goal.returns-clause-two
returns-clause-two c differ = same_equal (λ (x : Count). x.value) count_equal _ _ c.majority.ensures.defined ∙ two_to_one c.args.a c.args.b differ

pub returns-clause-one : goal.returns-clause-one
returns-clause-one c differ = same_equal (λ (x : Count). x.value) count_equal _ _ c.majority-2.ensures.defined ∙ one_to_one c.args.a c.args.b differ

pub returns-clause-middle : goal.returns-clause-middle
returns-clause-middle c = c.choose.ensures.value ∙ mid_is_one

pub returns-clause-two_faced : goal.returns-clause-two_faced
returns-clause-two_faced c i l = c.king_of_four.ensures i l ∙ king_two_faced i l

pub returns-clause-contradicted : goal.returns-clause-contradicted
returns-clause-contradicted c i l = c.king_of_four-2.ensures i l ∙ king_contradicted i l
