use Rattle.std.proofs.Common.{sym, ap, ◌∙◌, subst, Result}
use Rattle.std.specs.Prelude.{IfOk}
use Rattle.kit_base.specs.declared.errors.NoMemory.{NoMemory}
use Rattle.pres.specs.Bindings.{Binding}
use Rattle.flick_lines.specs.declared.verb.Verb.TheVariants.{Marshal}
use Rattle.flick_lines.proofs.Sending.{verb_done}
use Rattle.flick_top.specs.declared.answered.Answered.{Answered}
use Rattle.flick_top.specs.Answer.{IsPiped}
use Rattle.flick_top.proofs.Piping.{piped-none, piped-some}
use Rattle.flick_top.proofs.piped.piped.Goals.{in-Some, in-None+in_ok-framed-in-None}
use Rattle.flick_top.proofs.piped.piped.Goals as goal
use Rattle.flick_engine.proofs.Replying.{any_ok as on-any}

pub returns-clause-value : goal.returns-clause-value
returns-clause-value c =
    let e = c.args.engine.now in
    let line = c.args.line.now in
    elim c.match-branch-2.branch [
      | in-Some w ↦
          subst (λ (r : Result Answered NoMemory). IfOk r (λ a. IsPiped e line a.octets a.refused)) (sym w.result-is)
          (piped-some e line c.in_ok-message_of.field-0 w.in-Some.field-0 c.message_of.new.buf.done w.new.result w.in-Some.is
          c.in_ok-message_of.ensures.value c.in_ok-message_of.ensures.either w.new.ensures)
      | in-None+in_ok-framed-in-None w ↦
          subst (λ (r : Result Answered NoMemory). IfOk r (λ a. IsPiped e line a.octets a.refused)) (sym w.result-is)
          (piped-none e line c.in_ok-message_of.field-0 c.message_of.new.buf.done w.octets.result.now w.back.result
          w.in_ok-framed-in-None.field-0 w.in-None.is c.in_ok-message_of.ensures.value w.octets.ensures
          (w.back.ensures ∙ ap (λ (b : Binding). b.back) w.bound.ensures.value) w.in_ok-framed-in-None.ensures.spelled
          w.in_ok-framed-in-None.ensures.value)
    ]

pub returns-clause-sends : goal.returns-clause-sends
returns-clause-sends c =
    on-any _ _ (verb_done Marshal c.args.engine.now c.args.line.now _ _ c.in_ok-message_of.ensures.paid c.message_of.ensures.spent)
