use Rattle.std.proofs.Common.{rules, ◌≡◌, sym, subst, Err, Option, Result}
use Rattle.kit_base.specs.declared.lines.LineErr.{LineErr}
use Rattle.flick_top.specs.Giving.{Goes}
use Rattle.flick_top.specs.declared.cutter.Cutter.TheVariants as cutters
use Rattle.flick_top.specs.declared.items.Item.{Item}
use Rattle.flick_top.proofs.GivenParts.{part-next, part-none, part-stopped}
use Rattle.flick_top.proofs.cutter.next_part.Goals as goal

pub returns-in_err-part-clause-goes : goal.returns-in_err-part-clause-goes
returns-in_err-part-clause-goes g c =
    let error = c.in_err-part.field-0.0 in
    let same : c.from_residual.result ≡ Err error = search rules in
    subst (λ (r : Result (Option Item) LineErr). Goes (cutters.Messages c.args.messages.now) (cutters.Messages c.next.new.self)
    (g.S.Source.left c.args.source.now) (g.S.Source.left c.next.new.source) r) (sym same)
    (λ k before given h. part-stopped k before _ _ c.args.messages.now c.next.new.self given error c.in_err-part.ensures.reads
    (λ over. absurd (cc (c.in_err-part.ensures.over over).0)) h)

pub returns-in-Some-clause-goes : goal.returns-in-Some-clause-goes
returns-in-Some-clause-goes g c = λ k before given h.
    part-next k before _ _ c.args.messages.now c.next.new.self given c.in_ok-part.field-0 c.in-Some.part c.in-Some.is
    c.in_ok-part.ensures.reads (λ over. cc (c.in_ok-part.ensures.over over).0) h

pub returns-in-None-clause-goes : goal.returns-in-None-clause-goes
returns-in-None-clause-goes g c = λ k before given h.
    part-none k before _ _ c.args.messages.now c.next.new.self given c.in_ok-part.field-0 c.in-None.is c.in_ok-part.ensures.reads
    (λ over. (c.in_ok-part.ensures.over over).1) h
