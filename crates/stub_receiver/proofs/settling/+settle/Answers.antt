use Rattle.std.proofs.Common.{arith}
use Rattle.stub_receiver.proofs.Becoming.{fields_settled, settle_less, settle_fits, settle_turn, settle_end}
use Rattle.stub_receiver.proofs.settling.+settle.Goals as goal

pub settle-returns-in_ok-settle_all-in-Fields : goal.settle-returns-in_ok-settle_all-in-Fields
settle-returns-in_ok-settle_all-in-Fields t c = fields_settled c.args.mint.now c.args.draft c.in-Fields.fields
    c.in_ok-settle_all-in-Fields.field-0 c.in-Fields.is c.in_ok-settle_all-in-Fields.ensures

pub settle_all-exchange-requires : goal.settle_all-exchange-requires
settle_all-exchange-requires t c = omega (arith, c.loop-i-test.true, c.count-i-end.ensures, c.loop-i.invariant.many)

pub settle_all-settle-requires : goal.settle_all-settle-requires
settle_all-settle-requires t c = (
  omega (
    arith,
    settle_less c.args.mint.now c.args.fields.items c.loop-i.rest.items c.loop-i.values c.loop-i.i _ c.loop-i.invariant
        c.exchange.ensures.item,
  ),
  settle_fits c.args.mint.now c.args.fields.items c.loop-i.rest.items c.loop-i.values c.loop-i.i _ c.loop-i.invariant
      c.exchange.ensures.item c.requires,
)

pub settle_all-loop-i-preserved : goal.settle_all-loop-i-preserved
settle_all-loop-i-preserved t c = settle_turn c.args.mint.now c.args.fields.items c.loop-i.rest.items _ c.loop-i.values _ c.loop-i.i _ _ _
    c.loop-i.invariant c.exchange.ensures.item c.exchange.ensures.items c.in_ok-settle.ensures c.in_ok-push.ensures.ok

pub settle_all-returns : goal.settle_all-returns
settle_all-returns t c = settle_end c.args.mint.now c.args.fields.items c.loop-i.rest.items c.loop-i.values c.loop-i.i c.loop-i.invariant
    (omega (arith, c.loop-i-test.false, c.count-i-end.ensures))
