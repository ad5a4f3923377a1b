use Rattle.std.proofs.Common.{rules, ◌≡◌, ◌+◌, ◌*◌, Some, sym, ap, ◌∙◌, slice_range}
use Rattle.std.specs.Option.{option_map}
use Rattle.runfile.specs.Bodies.{entry_of, entry_in}
use Rattle.runfile.proofs.Entries.{decoded_more}
use Rattle.runfile.proofs.body.fill.Goals as goal

pub loop-i-preserved : goal.loop-i-preserved
loop-i-preserved g c =
    let wide : c.from-size.result + 1 ≡ g.T.Encoded.size + 1 = search rules in
    let read : c.read_entry.result ≡ Some c.in_ok-table.field-0 = search rules in
    let told : Some (option_map g.T.Encoded.says c.in_ok-table.field-0) ≡ entry_in g.T.Encoded.size g.T.Encoded.decoded c.args.body.now c.loop-i.i =
    ap (option_map (option_map g.T.Encoded.says)) (sym read) ∙ c.read_entry.ensures
    ∙ ap (λ s. entry_of g.T.Encoded.size g.T.Encoded.decoded (slice_range c.args.body.now (c.loop-i.i * s) (c.loop-i.i * s + s))) wide in
    let more = decoded_more g.T.Encoded.says (entry_in g.T.Encoded.size g.T.Encoded.decoded c.args.body.now) c.loop-i.table c.loop-i.i c.in_ok-table.field-0 (search rules) (c.loop-i.invariant.1) told in
    search rules
