use Rattle.std.proofs.Common.{Some}
use Rattle.flick_lines.proofs.Options.{if-ok}
use Rattle.flick_top.specs.Dispatch.{IsMadeIn}
use Rattle.flick_top.specs.File.{Reported, BoundSays, codes_in, plainly}
use Rattle.flick_top.proofs.file.engine_of.Goals as goal

pub returns-clause-made : goal.returns-clause-made
returns-clause-made c =
    let read = plainly c.in_ok-read.read in
    if-ok c.made_of.result (λ (r : Reported). IsMadeIn (codes_in r) c.args.front c.args.wire (Some c.args.content.now) r)
    (λ (r : Reported). BoundSays (codes_in r) c.args.wire read r)
    (λ (r : Reported) (bound : BoundSays (codes_in r) c.args.wire read r). (read, c.in_ok-read.ensures.says, bound)) c.made_of.ensures.says
