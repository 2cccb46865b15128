-- Which commands end as the reading of an input does.
use Rattle.std.proofs.Common.{◌≡◌, ℕ, List, Result, Ok, Err, Option, Some, None, IfOk, refl, sym, ◌∙◌, subst}
use Rattle.std.specs.Prelude.{IfSome}
use Rattle.flick_top.specs.declared.command.Command.{Command}
use Rattle.flick_top.specs.declared.job.Job.{Job}
use Rattle.flick_top.specs.declared.prepared.Prepared.{Prepared}
use Rattle.stub_codes.specs.Stubs.{Coded}
use Rattle.flick_check.specs.Checked.{YesIsSent}
use Rattle.flick_top.specs.declared.command.Action.{Action}
use Rattle.flick_top.specs.declared.command.Action.TheVariants as actions
use Rattle.flick_top.specs.declared.command.Command.TheVariants as commands
use Rattle.flick_top.specs.Command.{command_of, AnswersItems, IsOverItems, ChecksStubs, IsOverStubs}
use Rattle.flick_top.specs.Statement.{NeedsItems}

-- a status that does not come without items comes of a command that answers them
pub needs-items : (of : ℕ) (words : List (List ℕ)) (found : Option Command) (command : Command) (feed : Option Job) (status : ℕ)
    → found ≡ command_of words → found ≡ Some command → IfSome feed (λ job. AnswersItems (Some command))
    → (feed ≡ None → status ≡ of → ⊥) → NeedsItems of words status
needs-items of words found command None status is some answers never = λ comes. absurd (never refl comes)
needs-items of words found command (Some job) status is some answers never = λ comes.
    subst (λ (o : Option Command). AnswersItems o) (sym some ∙ is) answers

-- what holds of a command or an action that answers items, whether or not its task does
some_feed : (P : Type 0) (feed : Option Job) → P → IfSome feed (λ job. P)
some_feed P None over = tt
some_feed P (Some job) over = over

pub over_items : {E : Type 0} (P : Type 0) (r : Result Prepared E) → P → IfOk r (λ p. IfSome p.feed (λ job. P))
over_items P (Ok p) over = some_feed P p.feed over
over_items P (Err e) over = tt

-- stubs are checked without items
no_action : (a : Action) → IsOverStubs a → IsOverItems a → ⊥
no_action (actions.Check stubs) checks over = over
no_action (actions.Answer verb) checks over = checks
no_action (actions.Serve replies) checks over = checks
no_action actions.Pipe checks over = checks
no_action actions.Unpipe checks over = checks
no_action actions.Stubs checks over = checks
no_action (actions.Make number many) checks over = checks

no_command : (command : Command) → ChecksStubs (Some command) → AnswersItems (Some command) → ⊥
no_command commands.Help checks over = checks
no_command commands.Version checks over = checks
no_command (commands.Show front) checks over = checks
no_command (commands.Over a n) checks over = no_action a checks over
no_command (commands.Bridge n to) checks over = checks

-- what a yes promises over the engine that is left, where there are no items
pub yes-left : (words : List (List ℕ)) (found : Option Command) (command : Command) (feed : Option Job) (e made : Option Coded)
    → found ≡ command_of words → found ≡ Some command → IfSome feed (λ job. AnswersItems (Some command)) → made ≡ e
    → (feed ≡ None → IfSome e YesIsSent) → ChecksStubs (command_of words) → IfSome made YesIsSent
yes-left words found command None e made is some answers same sent checks =
    subst (λ (o : Option Coded). IfSome o YesIsSent) (sym same) (sent refl)
yes-left words found command (Some job) e made is some answers same sent checks =
    absurd (no_command command (subst ChecksStubs (sym is ∙ some) checks) answers)
