use Rattle.std.proofs.Common.{◌+◌, ◌<◌, ◌≤◌, length, refl, ◌∙◌, arith}
use Rattle.stub_compare.proofs.CompareLaying.{lay_none, lay_more, lay_taken, lay_done, lay_outside, not_told, now_told}
use Rattle.stub_compare.proofs.compare_cells.lay.Goals as goal

pub returns-then-is_outside-clause-laid : goal.returns-then-is_outside-clause-laid
returns-then-is_outside-clause-laid c =
    let outside : length c.args.places.now.items < c.args.at + c.args.count =
    omega (arith, c.is_outside.ensures.outside c.if-is_outside.true, c.len.ensures, c.args.places.now.ok.0) in
    lay_outside c.args.at c.args.i c.args.turned c.args.count c.args.places.now.items _ outside

pub loop-j-init : goal.loop-j-init
loop-j-init c = record { left = lay_none c.args.at c.args.i c.args.turned c.args.count _; size = refl }

pub loop-j-preserved : goal.loop-j-preserved
loop-j-preserved c = record {
  left = lay_more c.args.at c.args.i c.args.turned c.args.count c.loop-j.j c.turned_at.result _ _ _ c.loop-j-test.true
      c.turned_at.ensures.value c.loop-j.invariant.left (now_told _ _ _ c.if-not-lay_one.false c.lay_one.ensures.laid);
  size = c.lay_one.ensures.len ∙ c.loop-j.invariant.size;
}

pub returns-then-not-lay_one-clause-laid : goal.returns-then-not-lay_one-clause-laid
returns-then-not-lay_one-clause-laid c =
    lay_taken c.args.at c.args.i c.args.turned c.args.count c.loop-j.j c.turned_at.result _ _ _ _ c.loop-j-test.true
    c.turned_at.ensures.value c.loop-j.invariant.left (not_told _ _ _ c.if-not-lay_one.true c.lay_one.ensures.laid)

pub returns-then-not-lay_one-clause-len : goal.returns-then-not-lay_one-clause-len
returns-then-not-lay_one-clause-len c = c.lay_one.ensures.len ∙ c.loop-j.invariant.size

pub returns-clause-laid : goal.returns-clause-laid
returns-clause-laid c =
    let within = c.is_outside.ensures.inside c.if-is_outside.false in
    let all : c.args.at + c.loop-j.j ≤ length c.loop-j.places.items =
    omega (arith, within, c.len.ensures, c.loop-j.invariant.size, c.loop-j.places.ok.0, c.loop-j-test.false) in
    lay_done c.args.at c.args.i c.args.turned c.args.count c.loop-j.j _ _ (omega (arith, c.loop-j-test.false)) all c.loop-j.invariant.left
