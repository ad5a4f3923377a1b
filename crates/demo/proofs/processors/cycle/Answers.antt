use Rattle.std.proofs.Common.{rules}
use Rattle.demo.proofs.Sending.{carried_on}
use Rattle.demo.proofs.processors.cycle.Goals as goal

pub returns-clause-carried : goal.returns-clause-carried
returns-clause-carried c =
    carried_on c.args.processors.now c.take_all.new.processors c.args.readings.now c.vote.result (search rules) c.vote.ensures.sound
