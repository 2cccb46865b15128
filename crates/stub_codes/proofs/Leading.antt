-- The heads of requests and of replies, and their code.
use Rattle.std.proofs.Common.{◌≡◌, ◌⊎◌, inl, inr, ℕ, zero, suc, length, Result, Ok, Err, IfOk, refl, sym, subst, arith}
use Rattle.kit_base.specs.declared.errors.NoMemory.{NoMemory}
use Rattle.wire_def.specs.declared.encoding.Back.{Back}
use Rattle.wire_def.specs.declared.encoding.Back.TheVariants as back
use Rattle.wire_def.specs.declared.head.Head.{Head}
use Rattle.wire_def.specs.declared.head.Order.TheVariants.{Big, Little}
use Rattle.cast_stub.specs.declared.send.SendCode.{SendCode}
use Rattle.stub_lower.specs.Leads.{Leads}
use Rattle.pres.specs.Bindings.{Binding}
use Rattle.giop_head.specs.Header.{IsMinor}
use Rattle.giop_head.proofs.Headers.{minors}
use Rattle.head_arms.specs.Raised.{exceptions}
use Rattle.back_xdr.specs.Leads as xdr_leads
use Rattle.back_xdr.specs.Procedures.{procedure_of}
use Rattle.back_cdr.specs.Leads as cdr_leads
use Rattle.back_cdr.specs.Targets.{IsCdr, has_body, order_of, target_of}
use Rattle.back_cdr.proofs.Growing.{long_request, long_reply}
use Rattle.back_mach.specs.Leads as mach_leads
use Rattle.back_mach.specs.declared.routines.Routine.{Routine}
use Rattle.back_mach.specs.Routines.{routine_of}
use Rattle.stub_codes.specs.Backs.{IsMinorOver, lead_over, lead, reply_form_over, reply_form, reply_lead_over}
use Rattle.stub_codes.specs.Sending.{AreHeads}

-- a body may stand after each head
pub are_heads : (k : Back) (b : Binding) (m op : ℕ) → AreHeads k (lead_over k b m op)
are_heads back.Xdr b m op = record { place = λ h. refl; long = λ h. omega arith }
are_heads back.CdrBig b m op = record { place = λ h. tt; long = λ h. long_request m (has_body b op) Big (target_of b op) h.id }
are_heads back.CdrLittle b m op = record { place = λ h. tt; long = λ h. long_request m (has_body b op) Little (target_of b op) h.id }
are_heads back.Mach b m op = record { place = λ h. refl; long = λ h. omega arith }

onc_reply_heads : (arms arm : ℕ) → AreHeads back.Xdr (λ h. xdr_leads.reply_lead arms arm h.id)
onc_reply_heads zero arm = record { place = λ h. refl; long = λ h. omega arith }
onc_reply_heads (suc n) arm = record { place = λ h. refl; long = λ h. omega arith }

mach_reply_heads : (arms arm : ℕ) → AreHeads back.Mach (mach_leads.reply_form arms arm)
mach_reply_heads zero arm = record { place = λ h. refl; long = λ h. omega arith }
mach_reply_heads (suc n) arm = record { place = λ h. refl; long = λ h. omega arith }

pub are_reply_heads : (k : Back) (b : Binding) (m op arm : ℕ) → AreHeads k (reply_form_over k b m op arm)
are_reply_heads back.Xdr b m op arm = onc_reply_heads (exceptions b op) arm
are_reply_heads back.CdrBig b m op arm = record { place = λ h. tt; long = λ h. long_reply m Big (target_of b op) arm h.id }
are_reply_heads back.CdrLittle b m op arm = record { place = λ h. tt; long = λ h. long_reply m Little (target_of b op) arm h.id }
are_reply_heads back.Mach b m op arm = mach_reply_heads (exceptions b op) arm

-- a head of a reply is as long with the reply's id
mach_as_long : (r : Routine) (arms arm : ℕ) (h : Head)
    → length (mach_leads.reply_form arms arm h) ≡ length (mach_leads.reply_form arms arm (mach_leads.reply_head r h))
mach_as_long r zero arm h = refl
mach_as_long r (suc n) arm h = refl

pub as_long : (k : Back) (b : Binding) (m op arm : ℕ) (h : Head)
    → length (reply_form_over k b m op arm h) ≡ length (reply_lead_over k b m op arm h)
as_long back.Xdr b m op arm h = refl
as_long back.CdrBig b m op arm h = refl
as_long back.CdrLittle b m op arm h = refl
as_long back.Mach b m op arm h = mach_as_long (routine_of b op) (exceptions b op) arm h

-- ---- versions

-- a minor number of GIOP, over a back end of this format
pub minor_over : (k : Back) (m : ℕ) → IsCdr k → IsMinor m → IsMinorOver k m
minor_over k m cdr is = either (minors m is) where
  either : (m ≡ 0) ⊎ (m ≡ 2) → IsMinorOver k m
  either (inl first) = inl first
  either (inr second) = inr (second, cdr)

-- and back
pub minor_of : (k : Back) (m : ℕ) → IsMinorOver k m → IsMinor m
minor_of k m (inl is) = subst IsMinor (sym is) refl
minor_of k m (inr (is, cdr)) = subst IsMinor (sym is) refl

-- ---- the code of a back end's head, as that of the head

along : (b : Binding) (m op : ℕ) (k : Back) (r : Result SendCode NoMemory) → b.back ≡ k → IfOk r (λ code. Leads (lead_over k b m op) code)
    → IfOk r (λ code. Leads (lead b m op) code)
along b m op k (Ok code) e h = subst (λ (x : Back). Leads (lead_over x b m op) code) (sym e) h
along b m op k (Err x) e h = tt

pub xdr_lead : (b : Binding) (m op : ℕ) (r : Result SendCode NoMemory) → b.back ≡ back.Xdr
    → IfOk r (λ code. Leads (λ h. xdr_leads.lead (procedure_of b op) h.id) code) → IfOk r (λ code. Leads (lead b m op) code)
xdr_lead b m op r e h = along b m op back.Xdr r e h

pub mach_lead : (b : Binding) (m op : ℕ) (r : Result SendCode NoMemory) → b.back ≡ back.Mach
    → IfOk r (λ code. Leads (λ h. mach_leads.lead (routine_of b op) h) code) → IfOk r (λ code. Leads (lead b m op) code)
mach_lead b m op r e h = along b m op back.Mach r e h

cdr_over : (k : Back) (b : Binding) (m op : ℕ) (code : SendCode) → IsCdr k
    → Leads (λ h. cdr_leads.lead m (has_body b op) (order_of k) (target_of b op) h.id) code → Leads (lead_over k b m op) code
cdr_over back.CdrBig b m op code cdr h = h
cdr_over back.CdrLittle b m op code cdr h = h
cdr_over back.Xdr b m op code cdr h = absurd cc
cdr_over back.Mach b m op code cdr h = absurd cc

pub cdr_lead : (b : Binding) (m op : ℕ) (r : Result SendCode NoMemory) → IsCdr b.back
    → IfOk r (λ code. Leads (λ h. cdr_leads.lead m (has_body b op) (order_of b.back) (target_of b op) h.id) code)
    → IfOk r (λ code. Leads (lead b m op) code)
cdr_lead b m op (Ok code) cdr h = cdr_over b.back b m op code cdr h
cdr_lead b m op (Err x) cdr h = tt

pub either_cdr : (k : Back) → (k ≡ back.CdrBig) ⊎ (k ≡ back.CdrLittle) → IsCdr k
either_cdr k (inl is) = subst IsCdr (sym is) refl
either_cdr k (inr is) = subst IsCdr (sym is) refl

-- ---- the code of the head of a reply

along_reply : (b : Binding) (m op arm : ℕ) (k : Back) (r : Result SendCode NoMemory) → b.back ≡ k
    → IfOk r (λ code. Leads (reply_form_over k b m op arm) code) → IfOk r (λ code. Leads (reply_form b m op arm) code)
along_reply b m op arm k (Ok code) e h = subst (λ (x : Back). Leads (reply_form_over x b m op arm) code) (sym e) h
along_reply b m op arm k (Err x) e h = tt

pub xdr_reply_lead : (b : Binding) (m op arm : ℕ) (r : Result SendCode NoMemory) → b.back ≡ back.Xdr
    → IfOk r (λ code. Leads (λ h. xdr_leads.reply_lead (exceptions b op) arm h.id) code)
    → IfOk r (λ code. Leads (reply_form b m op arm) code)
xdr_reply_lead b m op arm r e h = along_reply b m op arm back.Xdr r e h

pub mach_reply_lead : (b : Binding) (m op arm : ℕ) (r : Result SendCode NoMemory) → b.back ≡ back.Mach
    → IfOk r (λ code. Leads (λ h. mach_leads.reply_form (exceptions b op) arm h) code)
    → IfOk r (λ code. Leads (reply_form b m op arm) code)
mach_reply_lead b m op arm r e h = along_reply b m op arm back.Mach r e h

cdr_reply_over : (k : Back) (b : Binding) (m op arm : ℕ) (code : SendCode) → IsCdr k
    → Leads (λ h. cdr_leads.reply_lead m (order_of k) (target_of b op) arm h.id) code → Leads (reply_form_over k b m op arm) code
cdr_reply_over back.CdrBig b m op arm code cdr h = h
cdr_reply_over back.CdrLittle b m op arm code cdr h = h
cdr_reply_over back.Xdr b m op arm code cdr h = absurd cc
cdr_reply_over back.Mach b m op arm code cdr h = absurd cc

pub cdr_reply_lead : (b : Binding) (m op arm : ℕ) (r : Result SendCode NoMemory) → IsCdr b.back
    → IfOk r (λ code. Leads (λ h. cdr_leads.reply_lead m (order_of b.back) (target_of b op) arm h.id) code)
    → IfOk r (λ code. Leads (reply_form b m op arm) code)
cdr_reply_lead b m op arm (Ok code) cdr h = cdr_reply_over b.back b m op arm code cdr h
cdr_reply_lead b m op arm (Err x) cdr h = tt
