use Rattle.std.proofs.Common.{◌≡◌, ◌∙◌, ◌<◌, ℕ, List, drop, length, ap, subst, sym}
use Rattle.kit_base.specs.Limits.{longest_message}
use Rattle.raw_buf.specs.declared.tally.Tally.{Tally}
use Rattle.raw_buf.specs.Buf.{Buf}
use Rattle.flick_engine.specs.Serving.{IsDue, Serves, ServesByCode, reply_in}
use Rattle.flick_engine.proofs.engine.Engine.serve.Goals as goal

pub returns-in-Ok-clause-serves : goal.returns-in-Ok-clause-serves
returns-in-Ok-clause-serves g c =
    let whole : c.rest.result.now ≡ c.args.view.now.octets = c.rest.ensures.value
    ∙ ap (λ (n : ℕ). drop n c.args.view.now.octets) c.requires.start in
    let work = g.S.Skeleton.Answers c.args.skeleton.now in
    subst
    (λ (o : List ℕ).
    Serves c.args.self.now.binding c.args.self.now.minor work o (reply_in c.in-Ok.served c.serve_message.new.buf.done))
    whole c.in-Ok.ensures.serves

pub returns-in-Ok-clause-cost : goal.returns-in-Ok-clause-cost
returns-in-Ok-clause-cost g c =
    let whole : c.rest.result.now ≡ c.args.view.now.octets = c.rest.ensures.value
    ∙ ap (λ (n : ℕ). drop n c.args.view.now.octets) c.requires.start in
    let work = g.S.Skeleton.Answers c.args.skeleton.now in
    let r = c.serve_message in
    let kept : c.clear.new.self.spent ≡ c.args.buf.now.spent = ap (λ (b : Buf). b.spent) c.clear.ensures in
    subst (λ (o : List ℕ). ServesByCode c.args.self.now work o (reply_in c.in-Ok.served r.new.buf.done) c.args.buf.now.spent r.new.buf)
    whole
    (subst (λ (t : Tally). ServesByCode c.args.self.now work c.rest.result.now (reply_in c.in-Ok.served r.new.buf.done) t r.new.buf) kept
    c.in-Ok.ensures.cost)

pub returns-in-Ok-clause-long : goal.returns-in-Ok-clause-long
returns-in-Ok-clause-long g c long =
    let whole : c.rest.result.now ≡ c.args.view.now.octets = c.rest.ensures.value
    ∙ ap (λ (n : ℕ). drop n c.args.view.now.octets) c.requires.start in
    sym c.in-Ok.is ∙ c.serve_message.ensures.long (subst (λ (o : List ℕ). longest_message < length o) (sym whole) long)

pub returns-in-Err-clause-memory : goal.returns-in-Err-clause-memory
returns-in-Err-clause-memory g c =
    let whole : c.rest.result.now ≡ c.args.view.now.octets = c.rest.ensures.value
    ∙ ap (λ (n : ℕ). drop n c.args.view.now.octets) c.requires.start in
    subst (λ (o : List ℕ). IsDue c.args.self.now.binding c.args.self.now.minor o) whole c.in-Err.ensures.memory
