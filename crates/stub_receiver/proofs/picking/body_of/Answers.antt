use Rattle.std.proofs.Common.{Some, sym, ap, ◌∙◌}
use Rattle.mint.specs.Keyed.{place_of}
use Rattle.stub_receiver.proofs.Running.{hit, missed}
use Rattle.stub_receiver.proofs.Sizing.{placed_size, last_size}
use Rattle.stub_receiver.proofs.picking.body_of.Goals as goal

pub returns-in-Some-clause-picks : goal.returns-in-Some-clause-picks
returns-in-Some-clause-picks c =
    hit c.args.cases.now c.as_slice.result.now c.args.other.now c.args.n.now c.in-Some.place c.index-as_slice-place.result
    (c.as_slice.ensures ∙ c.deref-in-Some.ensures) (c.in-Some.ensures.place ∙ ap (place_of c.args.n.now) c.deref.ensures)

pub returns-in-Some-clause-within : goal.returns-in-Some-clause-within
returns-in-Some-clause-within c =
    placed_size c.args.cases.now c.as_slice.result.now c.args.other.now c.in-Some.place c.index-as_slice-place.result
    (c.as_slice.ensures ∙ c.deref-in-Some.ensures) (rw c.deref.ensures at c.in-Some.ensures.within)

pub returns-in-Some-other-clause-picks : goal.returns-in-Some-other-clause-picks
returns-in-Some-other-clause-picks c =
    missed c.args.cases.now c.args.other.now _ c.args.n.now (c.in-None.ensures.place ∙ ap (place_of c.args.n.now) c.deref.ensures)
    (c.in-Some-other.is ∙ ap Some (sym c.deref-in-Some-other.ensures))

pub returns-in-Some-other-clause-within : goal.returns-in-Some-other-clause-within
returns-in-Some-other-clause-within c =
    last_size c.args.cases.now c.args.other.now c.deref-in-Some-other.result.now
    (c.in-Some-other.is ∙ ap Some (sym c.deref-in-Some-other.ensures))

pub returns-in-None-other-clause-picks : goal.returns-in-None-other-clause-picks
returns-in-None-other-clause-picks c =
    missed c.args.cases.now c.args.other.now _ c.args.n.now (c.in-None.ensures.place ∙ ap (place_of c.args.n.now) c.deref.ensures)
    c.in-None-other.is
