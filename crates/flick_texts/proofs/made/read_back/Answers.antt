use Rattle.std.proofs.Common.{ℕ, List, Ok, Err, ap, subst}
use Rattle.raw_buf.specs.View.{View}
use Rattle.flick_engine.specs.Received.{Answers}
use Rattle.flick_texts.proofs.Reading.{call_read, refused_read}
use Rattle.flick_texts.proofs.made.read_back.Goals as goal

pub returns-in-Ok : goal.returns-in-Ok
returns-in-Ok c =
    let b = c.args.engine.now.binding in
    let same = ap (λ (v : View). v.octets) c.new-view.ensures in
    call_read b c.args.message.now c.in-Ok.request
    (subst (λ (o : List ℕ). Answers b o (Ok c.in-Ok.request)) same c.in-Ok.ensures.read)

pub returns-in-Err : goal.returns-in-Err
returns-in-Err c =
    let b = c.args.engine.now.binding in
    let same = ap (λ (v : View). v.octets) c.new-view.ensures in
    refused_read c.refused.result b c.args.message.now c.in-Err.fault
    (subst (λ (o : List ℕ). Answers b o (Err c.in-Err.fault)) same c.in-Err.ensures.read) c.refused.ensures.fault c.refused.ensures.memory
