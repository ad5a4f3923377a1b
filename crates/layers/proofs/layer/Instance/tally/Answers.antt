use Rattle.std.proofs.Common.{List, length, take, get_or, ◌≤◌, ◌≡◌, ℕ, ◌<◌, slice_index_or, sym, subst, ap, ◌∙◌, arith, length-take}
use Rattle.std.proofs.lemmas.List.{get_or-take, get_or_default}
use Rattle.quorum.proofs.Counts.{count_zero}
use Rattle.layers.specs.King.{heard}
use Rattle.layers.specs.Views.{given}
use Rattle.layers.proofs.Tallies.{Counted, counted_is, counted_small, counted_more}
use Rattle.layers.proofs.layer.Instance.tally.Goals as goal

-- what is read among the first n of a list is read there in the whole list
from_front : {X : Type 0} (xs : List X) (n j : ℕ) (v d : X) → j < n → n ≤ length xs → v ≡ get_or (take n xs) j v → v ≡ get_or xs j d
from_front xs n j v d l m e = e ∙ get_or-take n xs j v l ∙ get_or_default xs j v d (omega arith)

pub loop-j-init : goal.loop-j-init
loop-j-init g c = (c.default-tally.ensures.0 ∙ sym (count_zero _), c.default-tally.ensures.1 ∙ sym (count_zero _))

pub with-tally-requires : goal.with-tally-requires
with-tally-requires g c =
    let small = counted_small c.loop-j.tally c.loop-j.j _ c.loop-j.invariant (omega (arith, length-take c.args.self.now.n c.args.table.now)) in
    record { yes = small.0; no = small.1 }

pub loop-j-preserved : goal.loop-j-preserved
loop-j-preserved g c =
    let n = c.args.self.now.n in
    let j = c.loop-j.j in
    let within : j < n = omega (arith, length-take n c.args.table.now) in
    let read : c.message-item.result ≡ slice_index_or c.args.table.now j g.V.Message.absent =
    from_front c.args.table.now n j _ _ within c.requires.speakers c.message-item.is in
    let said : c.say.result ≡ g.V.Message.aloud (slice_index_or c.args.table.now j g.V.Message.absent) = c.say.ensures ∙ ap g.V.Message.aloud read in
    counted_more c.loop-j.tally j _ c.loop-j.invariant c.with-tally.result c.heard.result c.with-tally.ensures.yes c.with-tally.ensures.no (cc c.heard.ensures)

pub returns : goal.returns
returns g c =
    let n = c.args.self.now.n in
    let voices = λ (j : ℕ). g.V.Message.aloud (slice_index_or c.args.table.now j g.V.Message.absent) in
    let all : c.loop-j.j ≡ n = omega (arith, length-take n c.args.table.now) in
    counted_is c.loop-j.tally n _ (subst (λ (m : ℕ). Counted c.loop-j.tally m (heard (given c.args.self.now) c.args.at voices c.args.i)) all c.loop-j.invariant)
