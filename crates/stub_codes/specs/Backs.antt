-- What differs from one back end to another: how bodies are laid out, the heads of messages, and the size that a head states.
use Rattle.std.specs.Prelude.{◌≡◌, ◌⊎◌, ℕ, List, Option, None, Some}
use Rattle.wire_def.specs.declared.encoding.Back.{Back}
use Rattle.wire_def.specs.declared.encoding.Back.TheVariants as back
use Rattle.wire_def.specs.declared.encoding.Encoding.{Encoding}
use Rattle.wire_def.specs.declared.encoding.Encoding.TheVariants.{CdrBig, CdrLittle}
use Rattle.wire_def.specs.declared.head.Head.{Head}
use Rattle.wire_def.specs.declared.head.Order.TheVariants.{Big, Little}
use Rattle.cast_stub.specs.Block.{Block, stop, patch}
use Rattle.head_kit.specs.declared.call_head.CallHead.{CallHead}
use Rattle.pres.specs.Bindings.{Binding}
use Rattle.head_arms.specs.Raised.{exceptions}
use Rattle.giop_head.specs.Printed.{with_size}
use Rattle.back_xdr.specs.Leads as xdr_leads
use Rattle.back_xdr.specs.Procedures.{procedure_of}
use Rattle.back_xdr.specs.Seeking as xdr_seeking
use Rattle.back_cdr.specs.Leads as cdr_leads
use Rattle.back_cdr.specs.Seeking as cdr_seeking
use Rattle.back_cdr.specs.Targets.{IsCdr, has_body, target_of}
use Rattle.back_mach.specs.Leads as mach_leads
use Rattle.back_mach.specs.Routines.{routine_of}
use Rattle.back_mach.specs.Seeking as mach_seeking

-- how bodies are laid out that are sent
abbrev pub encoding : Back → Encoding
encoding back.Xdr = xdr_seeking.encoding
encoding back.CdrBig = CdrBig
encoding back.CdrLittle = CdrLittle
encoding back.Mach = mach_seeking.encoding

-- how bodies may be laid out besides that are received: over CDR in the other order
abbrev pub other_encoding : Back → Option Encoding
other_encoding back.CdrBig = Some CdrLittle
other_encoding back.CdrLittle = Some CdrBig
other_encoding _ = None

-- how a body may be laid out that is received
abbrev pub Takes : Back → Encoding → Type 0
Takes k e = (e ≡ encoding k) ⊎ (other_encoding k ≡ Some e)

-- the minor numbers of the versions of heads over a back end: 0, and over CDR also 2
abbrev pub IsMinorOver : Back → ℕ → Type 0
IsMinorOver k m = (m ≡ 0) ⊎ ((m ≡ 2) × IsCdr k)

-- the head of an operation's request over a back end, in a version
abbrev pub lead_over : Back → Binding → ℕ → ℕ → Head → List ℕ
lead_over back.Xdr b m op head = xdr_leads.lead (procedure_of b op) head.id
lead_over back.CdrBig b m op head = cdr_leads.lead m (has_body b op) Big (target_of b op) head.id
lead_over back.CdrLittle b m op head = cdr_leads.lead m (has_body b op) Little (target_of b op) head.id
lead_over back.Mach b m op head = mach_leads.lead (routine_of b op) head

-- the head of an operation's request
abbrev pub lead : Binding → ℕ → ℕ → Head → List ℕ
lead b m op head = lead_over b.back b m op head

-- the head of a reply to an operation with an arm that has the id of a head, over a back end, in a version
abbrev pub reply_form_over : Back → Binding → ℕ → ℕ → ℕ → Head → List ℕ
reply_form_over back.Xdr b m op k head = xdr_leads.reply_lead (exceptions b op) k head.id
reply_form_over back.CdrBig b m op k head = cdr_leads.reply_lead m Big (target_of b op) k head.id
reply_form_over back.CdrLittle b m op k head = cdr_leads.reply_lead m Little (target_of b op) k head.id
reply_form_over back.Mach b m op k head = mach_leads.reply_form (exceptions b op) k head

-- the same over the back end of a binding: 0 is the answer, k the k-th exception
abbrev pub reply_form : Binding → ℕ → ℕ → ℕ → Head → List ℕ
reply_form b m op k head = reply_form_over b.back b m op k head

-- a head with the id of the reply to an operation, where the operation tells it: over Mach
abbrev pub reply_head_over : Back → Binding → ℕ → Head → Head
reply_head_over back.Mach b op head = mach_leads.reply_head (routine_of b op) head
reply_head_over _ b op head = head

-- the same over the back end of a binding
abbrev pub reply_head : Binding → ℕ → Head → Head
reply_head b op head = reply_head_over b.back b op head

-- the head of a reply to an operation with an arm, over a back end, in a version
abbrev pub reply_lead_over : Back → Binding → ℕ → ℕ → ℕ → Head → List ℕ
reply_lead_over k b m op arm head = reply_form_over k b m op arm (reply_head_over k b op head)

-- the head of a reply to an operation with an arm
abbrev pub reply_lead : Binding → ℕ → ℕ → ℕ → Head → List ℕ
reply_lead b m op k head = reply_lead_over b.back b m op k head

-- a message that is whole, in which its length is stated where its head states it
abbrev pub sized : Back → List ℕ → List ℕ
sized back.Xdr o = o
sized back.CdrBig o = with_size Big o
sized back.CdrLittle o = with_size Little o
sized back.Mach o = mach_leads.with_size o

-- the code that states the length: it patches four octets of the head
abbrev pub tail : Back → Block
tail back.Xdr = stop
tail back.CdrBig = patch 8 12 Big stop
tail back.CdrLittle = patch 8 12 Little stop
tail back.Mach = patch 4 0 Little stop

-- a message begins with the head of a call over a back end that says this
abbrev pub BeginsOver : Back → Binding → List ℕ → CallHead → Type 0
BeginsOver back.Xdr b o c = xdr_seeking.Calls b o c
BeginsOver back.CdrBig b o c = cdr_seeking.Calls b o c
BeginsOver back.CdrLittle b o c = cdr_seeking.Calls b o c
BeginsOver back.Mach b o c = mach_seeking.Calls b o c

-- a message begins with the head of a call that says this
abbrev pub Begins : Binding → List ℕ → CallHead → Type 0
Begins b o c = BeginsOver b.back b o c
