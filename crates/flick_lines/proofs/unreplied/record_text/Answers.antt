use Rattle.std.proofs.Common.{◌≡◌, ℕ, List, subst}
use Rattle.std.specs.Prelude.{IfSome, slice_get}
use Rattle.pres.specs.Bindings.{Binding}
use Rattle.serde_json.specs.Written.{compact_text}
use Rattle.json_shape.specs.Replies.{reply_json}
use Rattle.flick_engine.specs.declared.replies.Reply.{Reply}
use Rattle.flick_lines.proofs.Written.{reply-text-written}
use Rattle.flick_lines.proofs.unreplied.record_text.Goals as goal

-- a text is that of a reply's record, by a binding
abbrev IsTextBy : List ℕ → ℕ → Reply → Binding → Type 0
IsTextBy text k r b = IfSome (slice_get b.ops k) (λ o. text ≡ compact_text (reply_json b k o r.head r.outcome))

pub returns-in-Some : goal.returns-in-Some
returns-in-Some c =
    let r = c.args.reply.now in
    let k = c.args.op in
    let b = c.bound-bound.result.now in
    let shown : IfSome c.in_ok-text.field-0 (λ text. IsTextBy text.items k r b) = c.in_ok-text.ensures in
    let by_bound : IsTextBy c.in-Some.text.items k r b = rw c.in-Some.is at shown in
    let is = subst (IsTextBy c.in-Some.text.items k r) c.bound-bound.ensures.value by_bound in
    reply-text-written c.args.engine.now.binding k r _ c.requires.op is
