use Rattle.std.proofs.Common.{Ok, Err}
use Rattle.serde_json.specs.View.{view}
use Rattle.json_shape.specs.Replies.{given_of}
use Rattle.flick_serve.proofs.Finding.{found_read, none_read, read_over, fits_over, found_fits, none_fits}
use Rattle.flick_serve.proofs.given.record_in.Goals as goal

pub returns-in-Ok-clause-found : goal.returns-in-Ok-clause-found
returns-in-Ok-clause-found c =
    let b = c.args.engine.now.binding in
    let tree = view c.args.json.now in
    found_read b (given_of b tree) c.in-Ok.reply
    (read_over b c.bound.result.now tree (Ok c.in-Ok.reply) c.bound.ensures.value c.in-Ok.ensures.comes)
    c.unless_long.result c.unless_long.ensures.same c.unless_long.ensures.short c.unless_long.ensures.long

pub returns-in-Ok-clause-fits : goal.returns-in-Ok-clause-fits
returns-in-Ok-clause-fits c =
    let b = c.args.engine.now.binding in
    found_fits b c.in-Ok.reply c.unless_long.result c.unless_long.ensures.same
    (fits_over b c.bound.result.now c.in-Ok.reply c.bound.ensures.value c.in-Ok.ensures.op c.in-Ok.ensures.typed)

pub returns-in-Err-clause-found : goal.returns-in-Err-clause-found
returns-in-Err-clause-found c =
    let b = c.args.engine.now.binding in
    let tree = view c.args.json.now in
    none_read b (given_of b tree) c.in-Err.refusal
    (read_over b c.bound.result.now tree (Err c.in-Err.refusal) c.bound.ensures.value c.in-Err.ensures.comes)
    c.none_of.result c.none_of.ensures.none c.none_of.ensures.memory

pub returns-in-Err-clause-fits : goal.returns-in-Err-clause-fits
returns-in-Err-clause-fits c = none_fits c.args.engine.now.binding c.none_of.result c.none_of.ensures.none
