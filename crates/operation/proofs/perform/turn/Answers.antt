use Rattle.operation.proofs.Listing.{at_stage}
use Rattle.operation.proofs.perform.turn.Goals as goal

pub returns-in-Rest : goal.returns-in-Rest
returns-in-Rest g c = at_stage _ _ _ _ c.in-Rest.is c.at_rest.ensures

pub returns-in-TakenIn : goal.returns-in-TakenIn
returns-in-TakenIn g c = at_stage _ _ _ _ c.in-TakenIn.is c.when_taken_in.ensures

pub returns-in-Filtered : goal.returns-in-Filtered
returns-in-Filtered g c = at_stage _ _ _ _ c.in-Filtered.is c.when_filtered.ensures

pub returns-in-Agreed : goal.returns-in-Agreed
returns-in-Agreed g c = at_stage _ _ _ _ c.in-Agreed.is c.when_agreed.ensures

pub returns-in-Chosen : goal.returns-in-Chosen
returns-in-Chosen g c = at_stage _ _ _ _ c.in-Chosen.is c.when_chosen.ensures
