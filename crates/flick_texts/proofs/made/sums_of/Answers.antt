use Rattle.std.proofs.Common.{arith}
use Rattle.raw_buf.proofs.Standing.{none_fell-trans}
use Rattle.flick_texts.specs.MadeText.{is_within, made_message}
use Rattle.flick_texts.proofs.Counting.{made_as, one_counted}
use Rattle.flick_texts.proofs.Spending.{all_led, one_led}
use Rattle.flick_texts.proofs.made.sums_of.Goals as goal

pub loop-i-preserved : goal.loop-i-preserved
loop-i-preserved c =
    let message_of = made_message c.args.engine.now.binding c.args.engine.now.minor c.args.number in
    let m = message_of c.loop-i.i in
    let made = made_as (is_within c.in_ok-trip.trip) c.is_within.result m c.make_message.new.buf.done c.octets.result.now
    c.is_within.ensures c.octets.ensures c.in_ok-trip.ensures.trip.made in
    record {
      counted = one_counted message_of c.args.many c.loop-i.i c.loop-i.sums c.count.new.self c.loop-i-test.true (c.count.ensures m made)
          c.loop-i.invariant.counted;
      sends = one_led c.args.engine.now c.args.number c.args.many c.loop-i.i _ _ _ c.loop-i-test.true c.in_ok-trip.ensures.paid
          c.in_ok-trip.ensures.spent c.loop-i.invariant.sends;
      spent = none_fell-trans _ _ _ c.loop-i.invariant.spent c.in_ok-trip.ensures.spent;
    }

pub returns-clause-sends : goal.returns-clause-sends
returns-clause-sends c =
    all_led c.args.engine.now c.args.number c.args.many c.loop-i.i c.args.buf.now c.loop-i.buf (omega (arith, c.loop-i-test.false))
    c.loop-i.invariant.sends
