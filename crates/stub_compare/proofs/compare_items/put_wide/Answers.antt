use Rattle.std.proofs.Common.{ℕ, List, None, Some, ap, ◌∙◌}
use Rattle.stub_flat.specs.Places.{spot_at}
use Rattle.stub_places.specs.Sets.{set_of}
use Rattle.stub_compare.proofs.CompareArms.{kind_at, wide_put_there, wide_nothing}
use Rattle.stub_compare.proofs.compare_items.put_wide.Goals as goal

pub returns-in_default : goal.returns-in_default
returns-in_default c =
    let N = c.args.mint.now in
    wide_nothing N c.args.spot c.args.path.now c.args.order (set_of c.args.set.now) c.args.out.now
    (kind_at N c.args.spot c.args.path.now c.spot_at.result c.row_kind_at-found.result None c.row_kind_at-found.ensures
    (c.spot_at.ensures ∙ ap (λ (p : List ℕ). spot_at N p c.args.spot) c.as_slice.ensures) c.in_default.is)

pub returns : goal.returns
returns c =
    let N = c.args.mint.now in
    wide_put_there N c.args.spot c.args.path.now c.args.order c.in-Some.field-0 c.closed_by.result (set_of c.args.set.now)
    c.args.out.now c.put_numbers.new.out
    (kind_at N c.args.spot c.args.path.now c.spot_at.result c.row_kind_at-found.result (Some c.in-Some.field-0)
    c.row_kind_at-found.ensures (c.spot_at.ensures ∙ ap (λ (p : List ℕ). spot_at N p c.args.spot) c.as_slice.ensures) c.in-Some.is)
    c.closed_by.ensures c.in_ok-put_numbers.ensures
