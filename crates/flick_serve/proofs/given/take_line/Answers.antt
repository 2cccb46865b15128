use Rattle.flick_serve.proofs.Filing.{not_empty, found_one, fitting_one}
use Rattle.flick_serve.proofs.Taking.{record_taken, record_kept}
use Rattle.flick_serve.proofs.given.take_line.Goals as goal

pub returns-in-Some-clause-adds : goal.returns-in-Some-clause-adds
returns-in-Some-clause-adds c =
    let b = c.args.engine.now.binding in
    let given = found_one b c.args.line.now c.in_ok-reply.field-0 c.in-Some.reply c.in-Some.is c.in_ok-reply.ensures.found in
    record_taken b c.args.line.now c.in-Some.reply c.args.replies.now c.keep.new.replies c.keep.result
    (not_empty c.args.line.now c.if-is_empty.ensures) given c.keep.ensures.fresh c.keep.ensures.kept

pub returns-in-Some-clause-kept : goal.returns-in-Some-clause-kept
returns-in-Some-clause-kept c =
    let b = c.args.engine.now.binding in
    record_kept b c.in-Some.reply c.args.replies.now c.keep.new.replies c.keep.result c.requires.kept
    (fitting_one b c.in_ok-reply.field-0 c.in-Some.reply c.in-Some.is c.in_ok-reply.ensures.fits)
    c.keep.ensures.kept c.keep.ensures.stands
