use Rattle.std.proofs.Common.{Some, ap, ◌∙◌}
use Rattle.stub_flat.specs.Flat.{Spots}
use Rattle.stub_compare.proofs.ComparePuts.{found_none, found_some, no_spots, no_items, no_codes, whole_flat}
use Rattle.stub_compare.proofs.compare.flat_text.Goals as goal

pub returns-in_default : goal.returns-in_default
returns-in_default c =
    no_spots c.args.mint.now c.args.id c.args.code.now (found_none _ _ _ c.in_default.is c.in_ok-found.ensures.found)

pub returns-in_default-behind : goal.returns-in_default-behind
returns-in_default-behind c =
    no_items c.args.mint.now c.args.id c.args.code.now c.in-Some.spots.items c.in_ok-behind.behind c.only.result c.new-out.result
    c.put_ops.new.out (found_some _ c.in-Some.spots _ _ c.in-Some.is c.in_ok-found.ensures.found) c.in_default-behind.is
    c.only.ensures c.in_ok-behind.ensures

pub returns : goal.returns
returns c =
    no_codes c.args.mint.now c.args.id c.args.code.now c.as_slice.result.now c.in_ok-told.told c.put_ops.new.out c.put_list.new.out
    (ap (λ (l : Spots). Some l) c.as_slice.ensures.value ∙ found_some _ c.in-Some.spots _ _ c.in-Some.is c.in_ok-found.ensures.found)
    c.if-told.false c.in_ok-told.ensures

pub returns-then-told : goal.returns-then-told
returns-then-told c =
    whole_flat c.args.mint.now c.args.id c.args.code.now c.as_slice.result.now c.in_ok-behind.behind c.in-Some-behind.field-0
    c.in_ok-told.told c.only.result c.new-out.result c.put_ops.new.out c.put_list.new.out
    (ap (λ (l : Spots). Some l) c.as_slice.ensures.value ∙ found_some _ c.in-Some.spots _ _ c.in-Some.is c.in_ok-found.ensures.found)
    c.in-Some-behind.is c.if-told.true c.new-out.ensures c.only.ensures c.in_ok-behind.ensures c.in_ok-told.ensures
