use Rattle.std.proofs.Common.{◌∙◌, sym}
use Rattle.flick_engine.proofs.Replying.{any_ok, is_fault, weaker_err}
use Rattle.flick_engine.proofs.engine.Engine.why.Goals as goal

pub returns-in-NoInterface-clause-there : goal.returns-in-NoInterface-clause-there
returns-in-NoInterface-clause-there c =
    any_ok c.no_interface.result _ (is_fault c.args.self.now.binding c.args.message.now c.args.fault
    (λ e. cc (sym c.in-NoInterface.is ∙ e)) c.requires.is)

pub returns-in-NoOperation-clause-there : goal.returns-in-NoOperation-clause-there
returns-in-NoOperation-clause-there c =
    any_ok c.no_operation.result _ (is_fault c.args.self.now.binding c.args.message.now c.args.fault
    (λ e. cc (sym c.in-NoOperation.is ∙ e)) c.requires.is)

pub returns-in-Long-clause-there : goal.returns-in-Long-clause-there
returns-in-Long-clause-there c =
    any_ok c.bad_body.result _ (is_fault c.args.self.now.binding c.args.message.now c.args.fault
    (λ e. cc (sym c.in-Long.is ∙ e)) c.requires.is)

pub returns-in-Head-clause-there : goal.returns-in-Head-clause-there
returns-in-Head-clause-there c =
    any_ok c.bad_body-in-Head.result _ (is_fault c.args.self.now.binding c.args.message.now c.args.fault
    (λ e. cc (sym c.in-Head.is ∙ e)) c.requires.is)

pub returns-in-Body-clause-there : goal.returns-in-Body-clause-there
returns-in-Body-clause-there c =
    any_ok c.bad_body-in-Body.result _ (is_fault c.args.self.now.binding c.args.message.now c.args.fault
    (λ e. cc (sym c.in-Body.is ∙ e)) c.requires.is)

pub returns-in-Trailing-clause-there : goal.returns-in-Trailing-clause-there
returns-in-Trailing-clause-there c =
    any_ok c.bad_body-in-Trailing.result _
    (is_fault c.args.self.now.binding c.args.message.now c.args.fault (λ e. cc (sym c.in-Trailing.is ∙ e)) c.requires.is)

pub returns-in-NoInterface-clause-memory : goal.returns-in-NoInterface-clause-memory
returns-in-NoInterface-clause-memory c = weaker_err c.no_interface.result _ _ (λ cdr other. cdr) c.no_interface.ensures.memory

pub returns-in-NoOperation-clause-memory : goal.returns-in-NoOperation-clause-memory
returns-in-NoOperation-clause-memory c = weaker_err c.no_operation.result _ _ (λ cdr other. cdr) c.no_operation.ensures.memory

pub returns-in-Long-clause-memory : goal.returns-in-Long-clause-memory
returns-in-Long-clause-memory c = weaker_err c.bad_body.result _ _ (λ cdr other. cdr) c.bad_body.ensures.memory

pub returns-in-Head-clause-memory : goal.returns-in-Head-clause-memory
returns-in-Head-clause-memory c = weaker_err c.bad_body-in-Head.result _ _ (λ cdr other. cdr) c.bad_body-in-Head.ensures.memory

pub returns-in-Body-clause-memory : goal.returns-in-Body-clause-memory
returns-in-Body-clause-memory c = weaker_err c.bad_body-in-Body.result _ _ (λ cdr other. cdr) c.bad_body-in-Body.ensures.memory

pub returns-in-Trailing-clause-memory : goal.returns-in-Trailing-clause-memory
returns-in-Trailing-clause-memory c = weaker_err c.bad_body-in-Trailing.result _ _ (λ cdr other. cdr) c.bad_body-in-Trailing.ensures.memory

pub returns-in-NoMemory-clause-memory : goal.returns-in-NoMemory-clause-memory
returns-in-NoMemory-clause-memory c = λ other. absurd (other c.in-NoMemory.is)
