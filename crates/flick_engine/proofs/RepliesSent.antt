-- The heads of replies that are sent are received as what they say.
use Rattle.std.proofs.Common.{◌≡◌, ℕ, zero, suc, ◌-◌, ◌<◌, ◌≤◌, ◌^◌, List, ◌++◌, length, drop, refl, sym, ap, ◌∙◌, subst, arith}
use Rattle.kit_base.specs.Limits.{longest_message}
use Rattle.wire_def.specs.declared.encoding.Back.{Back}
use Rattle.wire_def.specs.declared.encoding.Back.TheVariants as back
use Rattle.wire_def.specs.declared.head.Head.{Head}
use Rattle.wire_def.specs.declared.head.Order.{Order}
use Rattle.wire_def.specs.declared.head.Order.TheVariants.{Big, Little}
use Rattle.pres.specs.Bindings.{Binding}
use Rattle.head_arms.specs.Raised.{exceptions}
use Rattle.back_xdr.specs.Leads as onc_leads
use Rattle.back_xdr.proofs.Sent as onc_sent
use Rattle.giop_head.specs.declared.header.HeadKind.TheVariants.{Replies}
use Rattle.giop_head.specs.Heads as giop
use Rattle.giop_head.specs.Items.{laid}
use Rattle.giop_head.specs.Laws.{reply_octets}
use Rattle.giop_head.specs.Printed.{with_size}
use Rattle.giop_head.proofs.Sent.{replies_begin_with, follows_reply}
use Rattle.back_cdr.specs.Leads.{reply_lead as giop_lead}
use Rattle.back_cdr.specs.Targets.{Target, target_of}
use Rattle.back_mach.specs.Leads as mach_leads
use Rattle.back_mach.specs.Routines.{routine_of}
use Rattle.back_mach.specs.declared.routines.Routine.{Routine}
use Rattle.back_mach.proofs.Sent as mach_sent
use Rattle.flick_engine.specs.Backs.{encoding, sized, reply_lead_over, RepliesInOrder, RepliesOver, onc_reply_of, mach_reply_of, giop_fate_of, giop_answer, TellsInOrder, TellsOver, Tells}
use Rattle.flick_engine.specs.Fates.{Heard}
use Rattle.flick_engine.proofs.HeadsOfBacks.{IsHeard}

-- the head of a reply that is sent is received as what it says, and any body follows it
abbrev pub IsReplyReceived : Back → Binding → ℕ → ℕ → ℕ → Head → Heard → Type 0
IsReplyReceived k b m op arm head t =
    IsHeard (λ rest. Unit {0}) (λ o. RepliesOver k b op o t) (sized k) (reply_lead_over k b m op arm head) t.used t.encoding (encoding k)

-- ---- GIOP

lead_octets : (m : ℕ) (r : Order) (t : Target) (arm id : ℕ) → giop_lead m r t arm id ≡ reply_octets m r id (giop_fate_of t arm)
lead_octets m r t zero id = refl
lead_octets m r t (suc k) id = refl

module _ (m : ℕ) (r : Order) (b : Binding) (op arm : ℕ) (head : Head) (t : Heard) (tells : TellsInOrder m r b op arm head t) where
  abbrev target : Target
  target = target_of b op

  abbrev lead : List ℕ
  lead = giop_lead m r target arm head.id

  same_lead : lead ≡ reply_octets m r head.id (giop_fate_of target arm)
  same_lead = lead_octets m r target arm head.id

  begins_with : (more l : List ℕ) → l ≡ reply_octets m r head.id (giop_fate_of target arm) → length (l ++ more) ≤ longest_message
      → giop.BeginsWith Replies (with_size r (l ++ more)) (giop_answer m r target arm head.id) (length l)
  begins_with more l is few =
      let octets : List ℕ = reply_octets m r head.id (giop_fate_of target arm) in
      let small : length (octets ++ more) - 12 < 2 ^ 32 = omega (arith, few, ap (λ (o : List ℕ). length (o ++ more)) is) in
      subst (λ (o : List ℕ). giop.BeginsWith Replies (with_size r (o ++ more)) (giop_answer m r target arm head.id) (length o)) (sym is)
      (replies_begin_with m r head.id (giop_fate_of target arm) more tells.0 tells.1 tells.2 small)

  in_order_received : IsHeard (λ rest. Unit {0}) (λ o. RepliesInOrder b op o t) (with_size r) lead t.used t.encoding (laid r)
  in_order_received = record {
    begins = λ more any few. (giop_answer m r target arm head.id, length lead, begins_with more lead same_lead few, tells.3);
    follows = λ more. ap (λ (x : Heard). drop x.used (with_size r (lead ++ more))) (sym tells.3)
        ∙ rw same_lead (follows_reply m r head.id (giop_fate_of target arm) more tells.0 tells.1 tells.2);
    used = ap (λ (x : Heard). x.used) (sym tells.3);
    encoding = ap (λ (x : Heard). x.encoding) (sym tells.3);
  }

-- ---- ONC

onc_follows : (arms arm id : ℕ) (body : List ℕ) → drop (onc_leads.reply_lead_length arms) (onc_leads.reply_lead arms arm id ++ body) ≡ body
onc_follows zero arm id body = refl
onc_follows (suc n) arm id body = refl

onc_long : (arms arm id : ℕ) → onc_leads.reply_lead_length arms ≡ length (onc_leads.reply_lead arms arm id)
onc_long zero arm id = refl
onc_long (suc n) arm id = refl

-- ---- Mach

mach_follows : (r : Routine) (arms arm : ℕ) (head : Head) (body : List ℕ)
    → drop (mach_leads.reply_lead_length arms) (mach_leads.with_size (mach_leads.reply_lead r arms arm head ++ body)) ≡ body
mach_follows r zero arm head body = refl
mach_follows r (suc n) arm head body = refl

mach_long : (r : Routine) (arms arm : ℕ) (head : Head)
    → mach_leads.reply_lead_length arms ≡ length (mach_leads.reply_lead r arms arm head)
mach_long r zero arm head = refl
mach_long r (suc n) arm head = refl

-- ---- each back end

received_over : (k : Back) (b : Binding) (m op arm : ℕ) (head : Head) (t : Heard) → TellsOver k b m op arm head t
    → IsReplyReceived k b m op arm head t
received_over back.Xdr b m op arm head t (fits, (word_fits, few), is) =
    let lead : List ℕ = onc_leads.reply_lead (exceptions b op) arm head.id in
    record {
      begins =
          λ rest any short. (onc_reply_of b op arm head, onc_sent.replies_read (exceptions b op) arm head.id rest fits word_fits few, is);
      follows =
          λ rest. ap (λ (x : Heard). drop x.used (lead ++ rest)) (sym is) ∙ onc_follows (exceptions b op) arm head.id rest;
      used = ap (λ (x : Heard). x.used) (sym is) ∙ onc_long (exceptions b op) arm head.id;
      encoding = ap (λ (x : Heard). x.encoding) (sym is);
    }
received_over back.CdrBig b m op arm head t tells = in_order_received m Big b op arm head t tells
received_over back.CdrLittle b m op arm head t tells = in_order_received m Little b op arm head t tells
received_over back.Mach b m op arm head t (ports, (word_fits, few), is) =
    let r : Routine = routine_of b op in
    let arms : ℕ = exceptions b op in
    let lead : List ℕ = mach_leads.reply_lead r arms arm head in
    record {
      begins =
          λ rest any short.
          (mach_reply_of b op arm head, mach_sent.replies_read r arms arm head rest ports word_fits few (omega (arith, short)), is);
      follows =
          λ rest. ap (λ (x : Heard). drop x.used (mach_leads.with_size (lead ++ rest))) (sym is) ∙ mach_follows r arms arm head rest;
      used = ap (λ (x : Heard). x.used) (sym is) ∙ mach_long r arms arm head;
      encoding = ap (λ (x : Heard). x.encoding) (sym is);
    }

pub reply_received : (b : Binding) (m op arm : ℕ) (head : Head) (t : Heard) → Tells b m op arm head t
    → IsReplyReceived b.back b m op arm head t
reply_received b m op arm head t tells = received_over b.back b m op arm head t tells
