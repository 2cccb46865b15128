use Rattle.std.proofs.Common.{Some, sym, subst}
use Rattle.flick_top.specs.declared.command.Command.{Command}
use Rattle.flick_top.specs.declared.command.Command.TheVariants as commands
use Rattle.flick_top.specs.Command.{AnswersItems, SendsReplies}
use Rattle.flick_top.specs.File.{plainly}
use Rattle.flick_top.proofs.Coding.{acted-coded, made-coded, none-sent}
use Rattle.flick_top.proofs.OverFiles.{acted-comes, alone-comes, bridged-comes, said-comes}
use Rattle.flick_top.proofs.Reading.{over_items}
use Rattle.flick_top.proofs.dispatch.prepare.Goals as goal

pub run_action-requires : goal.run_action-requires
run_action-requires g c = record {
  answers = made-coded c.in_ok-engine-in-Over.field-0 c.in-Over.action c.in-Ok.engine _ c.in-Ok.is c.in_ok-engine-in-Over.ensures.answers
      c.sends_replies-answers.ensures;
}

pub returns-in-Ok-clause-comes : goal.returns-in-Ok-clause-comes
returns-in-Ok-clause-comes g c =
    acted-comes c.run_action.result c.args.command c.in-Over.action c.in-Over.named c.args.words.now c.in_ok-engine-in-Over.field-0
    c.in-Ok.engine _ _ _ _ c.in-Over.is c.in-Ok.is c.in_ok-engine-in-Over.ensures.files
    (λ files known. rw c.word_at-in-Over.ensures at (c.in_ok-engine-in-Over.ensures.reported files known))
    c.run_action.ensures.engine c.run_action.ensures.acts

pub returns-in_ok-of_report-in-Help-clause-comes : goal.returns-in_ok-of_report-in-Help-clause-comes
returns-in_ok-of_report-in-Help-clause-comes g c = λ files known.
    alone-comes c.args.command commands.Help c.args.words.now files _ _ c.in-Help.is c.in_ok-of_report-in-Help.ensures.value

pub returns-in_ok-of_report-in-Version-clause-comes : goal.returns-in_ok-of_report-in-Version-clause-comes
returns-in_ok-of_report-in-Version-clause-comes g c = λ files known.
    alone-comes c.args.command commands.Version c.args.words.now files _ _ c.in-Version.is c.in_ok-of_report-in-Version.ensures.value

pub returns-in_ok-shown-in-Show-clause-comes : goal.returns-in_ok-shown-in-Show-clause-comes
returns-in_ok-shown-in-Show-clause-comes g c = λ files known.
    alone-comes c.args.command (commands.Show c.in-Show.front) c.args.words.now files _ _ c.in-Show.is (
      plainly c.in_ok-read-in-Show.read,
      rw c.word_at.ensures at (c.in_ok-read-in-Show.ensures.reported files known),
      c.in_ok-shown-in-Show.ensures.value,
    )

pub returns-in_ok-of_report-in-Err-clause-comes : goal.returns-in_ok-of_report-in-Err-clause-comes
returns-in_ok-of_report-in-Err-clause-comes g c = λ files known.
    said-comes c.args.command c.in-Over.action c.in-Over.named c.args.words.now files c.in_ok-engine-in-Over.field-0 c.in-Err.report _ _
    c.in-Over.is c.in-Err.is c.in_ok-of_report-in-Err.ensures.value
    (rw c.word_at-in-Over.ensures at (c.in_ok-engine-in-Over.ensures.reported files known))

pub returns-in-Bridge-clause-comes : goal.returns-in-Bridge-clause-comes
returns-in-Bridge-clause-comes g c =
    bridged-comes c.bridging.result c.args.command c.in-Bridge.named c.in-Bridge.to c.args.words.now _ c.word_at-in-Bridge.result.now _
    c.in-Bridge.is c.word_at-in-Bridge.ensures c.bridging.ensures.bridges

pub returns-in-Bridge-clause-items : goal.returns-in-Bridge-clause-items
returns-in-Bridge-clause-items g c =
    over_items (AnswersItems (Some c.args.command)) c.bridging.result
    (subst (λ (k : Command). AnswersItems (Some k)) (sym c.in-Bridge.is) tt)

pub returns-in-Ok-clause-replies : goal.returns-in-Ok-clause-replies
returns-in-Ok-clause-replies g c =
    acted-coded c.run_action.result c.args.command c.in-Over.action c.in-Over.named c.in-Ok.engine c.in-Over.is
    (made-coded c.in_ok-engine-in-Over.field-0 c.in-Over.action c.in-Ok.engine _ c.in-Ok.is c.in_ok-engine-in-Over.ensures.answers
    c.sends_replies-answers.ensures) c.run_action.ensures.engine

pub returns-in-Bridge-clause-replies : goal.returns-in-Bridge-clause-replies
returns-in-Bridge-clause-replies g c =
    none-sent c.bridging.result c.args.command (λ sends. subst (λ (k : Command). SendsReplies (Some k)) c.in-Bridge.is sends)
