-- Where replies are sent the engine has the codes of replies.
use Rattle.std.proofs.Common.{◌≡◌, Bool, true, List, ℕ, Option, Some, Result, Ok, Err, IfOk, refl, sym, ◌∙◌, subst}
use Rattle.std.specs.Prelude.{IfSome}
use Rattle.stub_codes.specs.Stubs.{Coded}
use Rattle.flick_lines.specs.declared.verb.Verb.{Verb}
use Rattle.flick_lines.specs.declared.verb.Verb.TheVariants as verbs
use Rattle.flick_top.specs.declared.command.Action.{Action}
use Rattle.flick_top.specs.declared.command.Action.TheVariants as actions
use Rattle.flick_top.specs.declared.command.Command.{Command}
use Rattle.flick_top.specs.declared.command.Command.TheVariants as commands
use Rattle.flick_top.specs.declared.command.Named.{Named}
use Rattle.flick_top.specs.declared.job.Job.{Job}
use Rattle.flick_top.specs.declared.job.Job.TheVariants as jobs
use Rattle.flick_top.specs.declared.prepared.Prepared.{Prepared}
use Rattle.flick_top.specs.Command.{command_of, sends_replies, SendsReplies}
use Rattle.flick_top.specs.File.{Reported}
use Rattle.flick_top.specs.Statement.{RepliesAreCoded}
use Rattle.flick_top.specs.Task.{engine_of}
use Rattle.flick_top.specs.Turn.{CanReply}

-- a job of a verb
pub can-reply : (verb : Verb) (e : Coded) → (verb ≡ verbs.Reply → e.answers ≡ true) → CanReply (jobs.Over verb e)
can-reply verbs.Marshal e coded = tt
can-reply verbs.Unmarshal e coded = tt
can-reply verbs.Reply e coded = coded refl
can-reply verbs.Unreply e coded = tt
can-reply verbs.Count e coded = tt

pub verb-coded : (job : Job) (verb : Verb) (e : Coded) → job ≡ jobs.Over verb e → CanReply job → verb ≡ verbs.Reply → e.answers ≡ true
verb-coded job verb e is can same = subst (λ (v : Verb). CanReply (jobs.Over v e)) same (subst CanReply is can)

-- an action of a verb
pub action-coded : (action : Action) (verb : Verb) (e : Coded) → action ≡ actions.Answer verb
    → (sends_replies action ≡ true → e.answers ≡ true) → verb ≡ verbs.Reply → e.answers ≡ true
action-coded action verb e is coded same =
    coded (subst (λ (a : Action). sends_replies a ≡ true) (sym is)
    (subst (λ (v : Verb). sends_replies (actions.Answer v) ≡ true) (sym same) refl))

-- an engine that was asked for by what the action sends
pub made-coded : (made : Reported) (a : Action) (e : Coded) (answers : Bool) → made ≡ Ok e → IfOk made (λ c. c.answers ≡ answers)
    → answers ≡ sends_replies a → sends_replies a ≡ true → e.answers ≡ true
made-coded made a e answers is coded by sends =
    subst (λ (r : Reported). IfOk r (λ c. c.answers ≡ answers)) is coded ∙ by ∙ sends

-- what an action comes to over an engine
pub acted-coded : {E : Type 0} (x : Result Prepared E) (command : Command) (a : Action) (n : Named) (e : Coded)
    → command ≡ commands.Over a n → (sends_replies a ≡ true → e.answers ≡ true) → IfOk x (λ p. engine_of p ≡ Some e)
    → IfOk x (λ p. SendsReplies (Some command) → IfSome (engine_of p) (λ c. c.answers ≡ true))
acted-coded (Ok p) command a n e is coded made = λ sends.
    subst (λ (o : Option Coded). IfSome o (λ c. c.answers ≡ true)) (sym made)
    (coded (subst (λ (k : Command). SendsReplies (Some k)) is sends))
acted-coded (Err f) command a n e is coded made = tt

-- what a command comes to that sends none
pub none-sent : {E : Type 0} (x : Result Prepared E) (command : Command) → (SendsReplies (Some command) → ⊥)
    → IfOk x (λ p. SendsReplies (Some command) → IfSome (engine_of p) (λ c. c.answers ≡ true))
none-sent (Ok p) command none = λ sends. absurd (none sends)
none-sent (Err f) command none = tt

-- the engine that is left
pub replies-left : (words : List (List ℕ)) (found : Option Command) (command : Command) (e made : Option Coded)
    → found ≡ command_of words → found ≡ Some command → made ≡ e
    → (SendsReplies (Some command) → IfSome e (λ c. c.answers ≡ true)) → RepliesAreCoded made words
replies-left words found command e made is some same coded = λ sends.
    subst (λ (o : Option Coded). IfSome o (λ c. c.answers ≡ true)) (sym same) (coded (subst SendsReplies (sym is ∙ some) sends))
