use Rattle.std.proofs.Common.{ap, sym, ◌∙◌, subst}
use Rattle.pres.specs.Bindings.{Binding}
use Rattle.head_arms.specs.Raised.{exceptions}
use Rattle.back_cdr.specs.Targets.{IsCdr}
use Rattle.back_mach.specs.Leads.{reply_id as mach_id}
use Rattle.back_mach.specs.Routines.{routine_of}
use Rattle.back_mach.specs.declared.routines.Routine.{Routine}
use Rattle.flick_engine.proofs.RepliesOfBacks.{xdr_read, xdr_faults, giop_read, giop_faults, mach_read, mach_faults}
use Rattle.flick_engine.proofs.engine.Engine.read_reply_head.Goals as goal
use Rattle.stub_codes.proofs.Leading.{either_cdr}

pub returns-in-Xdr-clause-begins : goal.returns-in-Xdr-clause-begins
returns-in-Xdr-clause-begins c =
    let is = ap (λ (b : Binding). b.back) (sym c.bound.ensures.value) ∙ sym c.back.ensures ∙ c.in-Xdr.is in
    let many = c.exceptions_of-arms.ensures ∙ ap (λ (b : Binding). exceptions b c.args.op) c.bound-in-Xdr.ensures.value in
    xdr_read c.args.self.now.binding c.args.op c.args.message.now c.read_reply.result c.exceptions_of-arms.result is many
    c.read_reply.ensures.spells

pub returns-in-Xdr-clause-stops : goal.returns-in-Xdr-clause-stops
returns-in-Xdr-clause-stops c =
    let is = ap (λ (b : Binding). b.back) (sym c.bound.ensures.value) ∙ sym c.back.ensures ∙ c.in-Xdr.is in
    let many = c.exceptions_of-arms.ensures ∙ ap (λ (b : Binding). exceptions b c.args.op) c.bound-in-Xdr.ensures.value in
    xdr_faults c.args.self.now.binding c.args.op c.args.message.now c.read_reply.result c.exceptions_of-arms.result is many
    c.read_reply.ensures.stops

pub returns-in-CdrBig-clause-begins : goal.returns-in-CdrBig-clause-begins
returns-in-CdrBig-clause-begins c =
    let own = c.back.ensures ∙ ap (λ (b : Binding). b.back) c.bound.ensures.value in
    let cdr = subst IsCdr own (either_cdr c.back.result c.in-CdrBig.is) in
    giop_read c.args.self.now.binding c.args.op c.args.message.now c.read_reply-in-CdrBig.result cdr c.read_reply-in-CdrBig.ensures.spells

pub returns-in-CdrBig-clause-stops : goal.returns-in-CdrBig-clause-stops
returns-in-CdrBig-clause-stops c =
    let own = c.back.ensures ∙ ap (λ (b : Binding). b.back) c.bound.ensures.value in
    let cdr = subst IsCdr own (either_cdr c.back.result c.in-CdrBig.is) in
    giop_faults c.args.self.now.binding c.args.op c.args.message.now c.read_reply-in-CdrBig.result cdr c.read_reply-in-CdrBig.ensures.stops

pub returns-in-Mach-clause-begins : goal.returns-in-Mach-clause-begins
returns-in-Mach-clause-begins c =
    let own = ap (λ (b : Binding). b.back) (sym c.bound.ensures.value) in
    let is = own ∙ sym c.back.ensures ∙ c.in-Mach.is in
    let id =
    c.reply_id-id.ensures
    ∙ ap (λ (r : Routine). mach_id r.id) c.routine_of.ensures ∙ ap (λ (b : Binding).
    mach_id (routine_of b c.args.op).id) c.bound-in-Mach.ensures.value in
    let many = c.exceptions_of-arms-in-Mach.ensures ∙ ap (λ (b : Binding). exceptions b c.args.op) c.bound-in-Mach-2.ensures.value in
    mach_read c.args.self.now.binding c.args.op c.args.message.now c.read_reply-in-Mach.result c.reply_id-id.result
    c.exceptions_of-arms-in-Mach.result is id many
    c.read_reply-in-Mach.ensures.spells

pub returns-in-Mach-clause-stops : goal.returns-in-Mach-clause-stops
returns-in-Mach-clause-stops c =
    let own = ap (λ (b : Binding). b.back) (sym c.bound.ensures.value) in
    let is = own ∙ sym c.back.ensures ∙ c.in-Mach.is in
    let id =
    c.reply_id-id.ensures
    ∙ ap (λ (r : Routine). mach_id r.id) c.routine_of.ensures ∙ ap (λ (b : Binding).
    mach_id (routine_of b c.args.op).id) c.bound-in-Mach.ensures.value in
    let many = c.exceptions_of-arms-in-Mach.ensures ∙ ap (λ (b : Binding). exceptions b c.args.op) c.bound-in-Mach-2.ensures.value in
    mach_faults c.args.self.now.binding c.args.op c.args.message.now c.read_reply-in-Mach.result c.reply_id-id.result
    c.exceptions_of-arms-in-Mach.result is id many
    c.read_reply-in-Mach.ensures.stops
