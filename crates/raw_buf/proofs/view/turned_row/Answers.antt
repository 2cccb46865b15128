use Rattle.std.proofs.Common.{◌≡◌, ◌+◌, ◌%◌, ◌-◌, ◌∙◌, ap, sym, subst, take, drop, length, arith}
use Rattle.mint.specs.Kinds.{width}
use Rattle.mint.specs.Row.{Numbers}
use Rattle.mint.specs.declared.kind.Kind.{Kind}
use Rattle.kit_swap.specs.Swapped.{IsSwapWidth}
use Rattle.raw_buf.proofs.Images.{turned_start, turned_end, turned_more, block_whole, block_next, zero_start}
use Rattle.raw_buf.proofs.view.turned_row.Goals as goal

pub loop-at-init : goal.loop-at-init
loop-at-init c = record {
  start = zero_start (width c.args.kind) c.requires.width;
  within = omega arith;
  row = c.new-row.ensures ∙ turned_start c.args.kind c.args.image.now c.requires.width;
}

pub append_turned-requires-clause-width : goal.append_turned-requires-clause-width
append_turned-requires-clause-width c =
    subst (λ (k : Kind). IsSwapWidth (width k)) (sym (ap (λ (q : Numbers). q.kind) c.loop-at.invariant.row)) c.requires.width

pub append_turned-requires-clause-whole : goal.append_turned-requires-clause-whole
append_turned-requires-clause-whole c =
    let image = c.args.image.now in
    let at = c.loop-at.at in
    subst
    (λ (k : Kind).
    length (take (at + c.min-size.result - at) (drop at image)) % width k ≡ 0)
    (sym (ap (λ (q : Numbers). q.kind) c.loop-at.invariant.row))
    (block_whole (width c.args.kind) at c.min-size.result image c.requires.width c.loop-at.invariant.start c.requires.whole
    c.loop-at.invariant.within c.min-size.ensures)

pub loop-at-preserved : goal.loop-at-preserved
loop-at-preserved c =
    let image = c.args.image.now in
    let at = c.loop-at.at in
    record {
      start = block_next (width c.args.kind) at (length image) c.min-size.result c.requires.width c.loop-at.invariant.start
          c.requires.whole c.loop-at.invariant.within c.min-size.ensures;
      within = omega (arith, c.min-size.ensures, c.loop-at.invariant.within);
      row = turned_more c.args.kind at c.min-size.result image c.loop-at.row c.append_turned.new.row c.requires.width
          c.loop-at.invariant.start c.loop-at.invariant.within c.loop-at.invariant.row c.in_ok-append_turned.ensures;
    }

pub returns : goal.returns
returns c = turned_end c.args.kind c.loop-at.at c.args.image.now c.loop-at.row c.loop-at.invariant.row (omega (arith, c.loop-at-test.false))
