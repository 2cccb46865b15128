use Rattle.std.proofs.Common.{◌∙◌, inl, inr, ap, refl, Bool, List, ℕ, Some}
use Rattle.std.proofs.lemmas.Result.{IfOk-weaker}
use Rattle.giop_head.specs.Printed.{header_octets}
use Rattle.giop_head.specs.Reported.{addressed, call_seen, requested, sought}
use Rattle.flick_engine.specs.Refusals.{AnswersOther, has_object, locate_octets}
use Rattle.flick_engine.proofs.Replying.{addressing_due, any_err, passed_over, reported_wrong, weaker_err}
use Rattle.flick_engine.proofs.Searching.{not_a_request}
use Rattle.flick_engine.proofs.engine.Engine.answer_giop.Goals as goal

pub unreachable-requires : goal.unreachable-requires
unreachable-requires c =
    let r = c.in-Ok-Request in
    let call = requested r.field-0-0 r.field-0-1.now r.field-0-2.now r.field-0-3 r.field-0-4 in
    let begins = (r.ensures.spells call).0 (ap call_seen r.field-0-is) in
    not_a_request c.args.message.now c.args.fault _ _ _ _ _ c.requires.stops begins

pub returns-then-is_passed_over-clause-serves : goal.returns-then-is_passed_over-clause-serves
returns-then-is_passed_over-clause-serves c =
    let stops = (c.in-Err.ensures.stops c.in-Err.fault).0 refl in
    inr (inr (
      c.in-Err.fault,
      stops,
      passed_over c.args.self.now.minor c.args.order c.args.message.now c.in-Err.fault c.is_passed_over.result
          c.is_passed_over.ensures c.if-is_passed_over.true,
    ))

pub returns-in_ok-put_locate_reply-in-Ok-Locate-clause-serves : goal.returns-in_ok-put_locate_reply-in-Ok-Locate-clause-serves
returns-in_ok-put_locate_reply-in-Ok-Locate-clause-serves c =
    let s = c.in-Ok-Locate in
    let begins = (s.ensures.spells (sought s.id s.key.now s.minor)).0 (ap call_seen s.field-0-is) in
    let same = c.in_ok-put_locate_reply-in-Ok-Locate.ensures.ok
    ∙ ap (λ (h : Bool). locate_octets s.minor c.args.order s.id h) c.has_object.ensures in
    inl (s.id, s.key.now, s.minor, begins, ap (λ (x : List ℕ). Some x) same)

pub returns-in_ok-put_message_error-in-Err-clause-serves : goal.returns-in_ok-put_message_error-in-Err-clause-serves
returns-in_ok-put_message_error-in-Err-clause-serves c =
    let stops = (c.in-Err.ensures.stops c.in-Err.fault).0 refl in
    let header = rw c.minor.ensures.value at c.in_ok-put_message_error-in-Err.ensures.ok in
    let wrong = reported_wrong c.args.self.now.minor c.args.order c.args.message.now c.in-Err.fault c.is_passed_over.result
    c.is_passed_over.ensures _ c.if-is_passed_over.false header in
    inr (inr (c.in-Err.fault, stops, wrong))

pub returns-in-Ok-Addressing-clause-serves : goal.returns-in-Ok-Addressing-clause-serves
returns-in-Ok-Addressing-clause-serves c =
    let s = c.in-Ok-Addressing in
    let begins = (s.ensures.spells (addressed s.head)).0 (ap call_seen s.field-0-is) in
    IfOk-weaker c.answer_addressing.result _ _ (λ served is. inr (inl (s.head, begins, is))) c.answer_addressing.ensures.serves

pub returns-in_err-put_locate_reply-in-Ok-Locate-clause-memory : goal.returns-in_err-put_locate_reply-in-Ok-Locate-clause-memory
returns-in_err-put_locate_reply-in-Ok-Locate-clause-memory c =
    let s = c.in-Ok-Locate in
    let begins = (s.ensures.spells (sought s.id s.key.now s.minor)).0 (ap call_seen s.field-0-is) in
    let reply = locate_octets s.minor c.args.order s.id (has_object c.args.self.now.binding s.key.now) in
    let due : (x : List ℕ) × AnswersOther c.args.self.now.minor c.args.order c.args.self.now.binding c.args.message.now (Some x) =
    (reply, inl (s.id, s.key.now, s.minor, begins, refl)) in
    any_err _ _ due

pub returns-in_err-put_message_error-in-Err-clause-memory : goal.returns-in_err-put_message_error-in-Err-clause-memory
returns-in_err-put_message_error-in-Err-clause-memory c =
    let stops = (c.in-Err.ensures.stops c.in-Err.fault).0 refl in
    let header = header_octets c.args.self.now.minor c.args.order 6 in
    let wrong = reported_wrong c.args.self.now.minor c.args.order c.args.message.now c.in-Err.fault c.is_passed_over.result
    c.is_passed_over.ensures header c.if-is_passed_over.false refl in
    let due : (x : List ℕ) × AnswersOther c.args.self.now.minor c.args.order c.args.self.now.binding c.args.message.now (Some x) =
    (header, inr (inr (c.in-Err.fault, stops, wrong))) in
    any_err _ _ due

pub returns-in-Ok-Addressing-clause-memory : goal.returns-in-Ok-Addressing-clause-memory
returns-in-Ok-Addressing-clause-memory c =
    let s = c.in-Ok-Addressing in
    let begins = (s.ensures.spells (addressed s.head)).0 (ap call_seen s.field-0-is) in
    weaker_err c.answer_addressing.result _ _
    (λ wants. let due = addressing_due c.args.order s.head wants in (due.0, inr (inl (s.head, begins, due.1))))
    c.answer_addressing.ensures.memory
