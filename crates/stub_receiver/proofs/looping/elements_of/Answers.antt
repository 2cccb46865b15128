use Rattle.stub_receiver.specs.declared.looping.Elements.TheVariants as elements
use Rattle.stub_receiver.proofs.Drafting.{drawn-Raw, drawn-Digit, drawn-Listed, drawn-Lined, drawn-Tagged, drawn-Flagged, drawn-Done, drawn-Fields}
use Rattle.stub_receiver.proofs.Over.{over_same, listed_over, lined_over, digit_over, tagged_over, flagged_over, done_over, fields_over}
use Rattle.stub_receiver.proofs.looping.elements_of.Goals as goal

pub returns-in-Listed : goal.returns-in-Listed
returns-in-Listed c = over_same c.args.mint.now (elements.Values c.in-Listed.item c.in-Listed.n) c.args.part.now _ _ c.in-Listed.is
    (drawn-Listed c.args.mint.now _ _) (listed_over c.args.mint.now c.in-Listed.item c.in-Listed.n)

pub returns-in-Lined : goal.returns-in-Lined
returns-in-Lined c = over_same c.args.mint.now (elements.Numbers c.in-Lined.id c.in-Lined.n) c.args.part.now _ _ c.in-Lined.is
    (drawn-Lined c.args.mint.now _ _) (lined_over c.args.mint.now c.in-Lined.id c.in-Lined.n)

pub returns-in-Raw : goal.returns-in-Raw
returns-in-Raw c = over_same c.args.mint.now _ c.args.part.now _ _ c.in-Raw.is (drawn-Raw c.args.mint.now _) c.elements_at.ensures

pub returns-in-Digit : goal.returns-in-Digit
returns-in-Digit c = over_same c.args.mint.now elements.Nothing c.args.part.now _ _ c.in-Digit.is (drawn-Digit c.args.mint.now _)
    (digit_over c.args.mint.now _)

pub returns-in-Tagged : goal.returns-in-Tagged
returns-in-Tagged c = over_same c.args.mint.now elements.Nothing c.args.part.now _ _ c.in-Tagged.is (drawn-Tagged c.args.mint.now _ _)
    (tagged_over c.args.mint.now _ _)

pub returns-in-Flagged : goal.returns-in-Flagged
returns-in-Flagged c = over_same c.args.mint.now elements.Nothing c.args.part.now _ _ c.in-Flagged.is (drawn-Flagged c.args.mint.now _)
    (flagged_over c.args.mint.now _)

pub returns-in-Done : goal.returns-in-Done
returns-in-Done c =
    over_same c.args.mint.now elements.Nothing c.args.part.now _ _ c.in-Done.is (drawn-Done c.args.mint.now _) (done_over c.args.mint.now _)

pub returns-in-Fields : goal.returns-in-Fields
returns-in-Fields c = over_same c.args.mint.now elements.Nothing c.args.part.now _ _ c.in-Fields.is (drawn-Fields c.args.mint.now _)
    (fields_over c.args.mint.now _)
