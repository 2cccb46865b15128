-- A server answers lines by the replies that the text of a file gives, or a wrong line of it is said.
use Rattle.std.proofs.Common.{◌≡◌, ℕ, List, [], Some, Result, Ok, Err, ap, ◌∙◌}
use Rattle.stub_codes.specs.Stubs.{Coded}
use Rattle.flick_serve.specs.Given.{Given, FileGives}
use Rattle.flick_serve.specs.declared.serving.WrongReplies.{WrongReplies}
use Rattle.flick_serve.specs.Served.{Serving, AgreesWith}
use Rattle.flick_top.specs.declared.job.Job.TheVariants as jobs
use Rattle.flick_top.specs.declared.report.Report.TheVariants.{WrongReply}
use Rattle.flick_top.specs.Dispatch.{ServesText}
use Rattle.flick_top.specs.Task.{Task, answering_task, report_task}

-- a server that agrees with what the text gives is made of replies
pub by_server : (e : Coded) (text : List ℕ) (s : Serving) (x : Result Given ℕ) → FileGives e.binding text x
    → AgreesWith (Ok s) x → s ≡ record { coded = e; text = text }
    → (t : Task) → t ≡ answering_task [] (jobs.Serve s) → ServesText e text t
by_server e text s (Ok g) gives agrees is t by = (Ok g, gives, by ∙ ap (λ z. answering_task [] (jobs.Serve z)) is)
by_server e text s (Err k) gives agrees is t by = absurd agrees

-- a wrong line that agrees with what the text gives is said over the engine
pub by_wrong : (e : Coded) (text : List ℕ) (w : WrongReplies) (x : Result Given ℕ) → FileGives e.binding text x
    → AgreesWith (Err w) x → w.engine ≡ e
    → (t : Task) → t ≡ report_task (WrongReply w.line.0) (Some w.engine) → ServesText e text t
by_wrong e text w (Ok g) gives agrees same t is = absurd agrees
by_wrong e text w (Err k) gives agrees same t is = (
  Err k,
  gives,
  is ∙ ap (λ (n : ℕ). report_task (WrongReply n) (Some w.engine)) agrees ∙ ap (λ (c : Coded). report_task (WrongReply k) (Some c)) same,
)
