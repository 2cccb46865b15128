use Rattle.std.proofs.Common.{◌≡◌, ℕ, List, Option, subst}
use Rattle.std.specs.Prelude.{IfSome, slice_get}
use Rattle.mint.specs.Values.{seen}
use Rattle.pres.specs.Bindings.{Binding}
use Rattle.serde_json.specs.Written.{compact_text}
use Rattle.json_shape.specs.Requests.{request_json}
use Rattle.flick_engine.specs.Received.{Asked, asked}
use Rattle.flick_lines.proofs.Written.{text-written}
use Rattle.flick_lines.proofs.unmarshalled.record_text.Goals as goal

-- a text is that of a request's record, by a binding
abbrev IsTextBy : List ℕ → Asked → Binding → Type 0
IsTextBy text r b = IfSome (slice_get b.ops r.op) (λ o. text ≡ compact_text (request_json b o r.head r.value))

pub returns-in-Some : goal.returns-in-Some
returns-in-Some c =
    let r = asked c.args.request.now in
    let b = c.bound-bound.result.now in
    let shown : IfSome c.in_ok-text.field-0 (λ text. IsTextBy text.items r b) = c.in_ok-text.ensures in
    let by_bound : IsTextBy c.in-Some.text.items r b = rw c.in-Some.is at shown in
    let is = subst (IsTextBy c.in-Some.text.items r) c.bound-bound.ensures.value by_bound in
    text-written c.args.engine.now.binding r _ c.requires.op is
