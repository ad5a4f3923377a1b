-- How long the lent tables are.
use Rattle.protocol.specs.Setup.{Sizes as Lengths}
use Rattle.questions.specs.declared.Sizes.{Sizes}

-- the sizes, as the protocol has them
abbrev pub sizes_of : Sizes → Lengths
sizes_of z = record {
  state = z.state;
  own = z.own;
  agreed = z.agreed;
  run = z.run;
  accept = z.accept;
  yes = z.yes;
  heard = z.heard;
  candidates = z.candidates;
  chosen = z.chosen;
}
