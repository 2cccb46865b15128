-- What holds of the heads of replies over each back end.
use Rattle.std.proofs.Common.{◌≡◌, ◌⊎◌, inl, inr, ℕ, zero, suc, ◌≤◌, List, length, Some, refl, sym, ap, ◌∙◌, subst, arith}
use Rattle.std.specs.Prelude.{◌↔◌, true, Result, Ok, Err, IfOk, IfErr}
use Rattle.wire_def.specs.declared.encoding.Back.{Back}
use Rattle.wire_def.specs.declared.encoding.Back.TheVariants as back
use Rattle.wire_def.specs.declared.encoding.Encoding.{Encoding}
use Rattle.wire_def.specs.declared.fault.HeadErr.{HeadErr}
use Rattle.wire_def.specs.declared.head.Head.{Head}
use Rattle.wire_def.specs.declared.head.Order.TheVariants.{Big, Little}
use Rattle.wire_def.specs.declared.reply.ReplyHead.{ReplyHead}
use Rattle.wire_def.specs.declared.reply.Status.{Status}
use Rattle.wire_def.specs.declared.reply.Status.TheVariants as status
use Rattle.wire_def.specs.Grammar.{AreOctets}
use Rattle.pres.specs.Bindings.{Binding}
use Rattle.head_arms.specs.Raised.{exceptions}
use Rattle.back_xdr.specs.Heads as xdr
use Rattle.back_xdr.specs.Leads as xdr_leads
use Rattle.back_xdr.specs.Reported as xdr_reported
use Rattle.back_xdr.proofs.Lawful as xdr_lawful
use Rattle.giop_head.specs.declared.header.HeadKind.TheVariants.{Replies}
use Rattle.head_kit.specs.Heads as heads
use Rattle.head_kit.specs.Heads.{Format}
use Rattle.head_kit.specs.Readers.{Tells}
use Rattle.head_kit.proofs.Lawful.{IsSingle}
use Rattle.giop_head.specs.Heads as giop
use Rattle.giop_head.specs.Items.{laid}
use Rattle.giop_head.specs.Reply as giop_reply
use Rattle.giop_head.specs.Reported as giop_reported
use Rattle.giop_head.proofs.Lawful as giop_lawful
use Rattle.back_cdr.specs.Targets.{IsCdr, target_of}
use Rattle.back_cdr.proofs.Growing.{long_reply}
use Rattle.back_mach.specs.Heads as mach
use Rattle.back_mach.specs.Leads as mach_leads
use Rattle.back_mach.specs.Routines.{routine_of}
use Rattle.back_mach.specs.Reported as mach_reported
use Rattle.back_mach.proofs.Lawful as mach_lawful
use Rattle.flick_engine.specs.declared.replies.Fate.{Fate}
use Rattle.flick_engine.specs.Backs.{reply_lead_over, reply_id, heard_over, heard, giop_heard, RepliesInOrder, RepliesOver, BeginsReply, ReplyStopsOver, ReplyStops}
use Rattle.flick_engine.specs.Fates.{Heard, fate_of, giop_fate}

-- ---- the heads that are received

-- a message has one head, or one first fault of its head, and not both; the head lies within it
pub record IsOneReply (o : List ℕ) (Begins : Heard → Type 0) (Stops : HeadErr → Type 0) : Type 0 where
  pub within : (t : Heard) → Begins t → t.used ≤ length o
  pub not_both : (t : Heard) (e : HeadErr) → Begins t → Stops e → ⊥
  pub one_head : (t u : Heard) → Begins t → Begins u → t ≡ u
  pub one_fault : (d e : HeadErr) → Stops d → Stops e → d ≡ e

-- it has the one or the other
abbrev pub HasReply : (Heard → Type 0) → (HeadErr → Type 0) → Type 0
HasReply Begins Stops = ((t : Heard) × Begins t) ⊎ ((e : HeadErr) × Stops e)

-- a format of heads, of each of which, and of its length, this is heard
module _ {A : Type 0} (f : Format A) (hear : A → ℕ → Heard) (o : List ℕ) (single : IsSingle f o)
    (long : (h : A) (used : ℕ) → (hear h used).used ≡ used) where
  one_heard : (t u : Heard) → heads.Begins f hear o t → heads.Begins f hear o u → t ≡ u
  one_heard t u (h, used, starts, is) (j, m, starts', is') =
      let same = single.one_head h j used m starts starts' in
      sym is ∙ ap (λ (x : A). hear x used) same.0 ∙ ap (hear j) same.1 ∙ is'

  heard_once : IsOneReply o (heads.Begins f hear o) (heads.StopsWith f o)
  heard_once = record {
    within = λ t (h, used, starts, is). omega (arith, starts.0, ap (λ (x : Heard). x.used) is, long h used);
    not_both = λ t e (h, used, starts, is) stops. single.not_both h used e starts stops;
    one_head = one_heard;
    one_fault = single.one_fault;
  }

-- what is heard of a head by what is reported of it
module _ {A B : Type 0} (f : Format A) (report : A → ℕ → B) (hear : B → Heard) (o : List ℕ) where
  abbrev Hears : Heard → Type 0
  Hears t = (r : B) × heads.Begins f report o r × (hear r ≡ t)

  at_once : (t : Heard) → Hears t → heads.Begins f (λ h used. hear (report h used)) o t
  at_once t (r, (h, used, starts, reported), is) = (h, used, starts, ap hear reported ∙ is)

  reported_once : IsOneReply o (heads.Begins f (λ h used. hear (report h used)) o) (heads.StopsWith f o)
      → IsOneReply o Hears (heads.StopsWith f o)
  reported_once one = record {
    within = λ t h. one.within t (at_once t h);
    not_both = λ t e h. one.not_both t e (at_once t h);
    one_head = λ t u h j. one.one_head t u (at_once t h) (at_once u j);
    one_fault = one.one_fault;
  }

  found : ((h : A) × (used : ℕ) × heads.BeginsWith f o h used) ⊎ ((e : HeadErr) × heads.StopsWith f o e)
      → HasReply Hears (heads.StopsWith f o)
  found (inl (h, used, starts)) = inl (_, (report h used, (h, used, starts, refl), refl))
  found (inr (e, stops)) = inr (e, stops)

module _ (b : Binding) (op : ℕ) (o : List ℕ) where
  -- ONC
  abbrev onc_way : xdr.HeadKind
  onc_way = xdr.reply (exceptions b op)

  xdr_one_reply : IsOneReply o (RepliesOver back.Xdr b op o) (ReplyStopsOver back.Xdr b op o)
  xdr_one_reply = reported_once (xdr.format onc_way) xdr_reported.reply_reported (heard_over back.Xdr b op) o
      (heard_once (xdr.format onc_way) (λ h used. heard_over back.Xdr b op (xdr_reported.reply_reported h used)) o
      (xdr_lawful.heads_are_single onc_way o) (λ h used. refl))

  -- GIOP
  giop_one_reply : IsOneReply o (RepliesInOrder b op o) (giop.StopsWith Replies o)
  giop_one_reply = heard_once (giop.format Replies (length o)) (giop_heard b op) o (giop_lawful.heads_are_single Replies o) (λ h used. refl)

  giop_found : ((h : giop_reply.Reply) × (used : ℕ) × giop.BeginsWith Replies o h used) ⊎ ((e : HeadErr) × giop.StopsWith Replies o e)
      → HasReply (RepliesInOrder b op o) (giop.StopsWith Replies o)
  giop_found (inl (h, used, starts)) = inl (_, (h, used, starts, refl))
  giop_found (inr (e, stops)) = inr (e, stops)

  -- Mach
  abbrev way : mach.HeadKind
  way = mach.reply (reply_id b op) (exceptions b op)

  mach_one_reply : IsOneReply o (RepliesOver back.Mach b op o) (ReplyStopsOver back.Mach b op o)
  mach_one_reply = reported_once (mach.format way (length o)) mach_reported.reply_reported (heard_over back.Mach b op) o
      (heard_once (mach.format way (length o)) (λ h used. heard_over back.Mach b op (mach_reported.reply_reported h used)) o
      (mach_lawful.heads_are_single way o) (λ h used. refl))

  one_reply_over : (k : Back) → IsOneReply o (RepliesOver k b op o) (ReplyStopsOver k b op o)
  one_reply_over back.Xdr = xdr_one_reply
  one_reply_over back.CdrBig = giop_one_reply
  one_reply_over back.CdrLittle = giop_one_reply
  one_reply_over back.Mach = mach_one_reply

  -- a message has one head of a reply, or one fault of it
  pub one_reply : IsOneReply o (BeginsReply b op o) (ReplyStops b op o)
  one_reply = one_reply_over b.back

  has_reply_over : (k : Back) → AreOctets o → HasReply (RepliesOver k b op o) (ReplyStopsOver k b op o)
  has_reply_over back.Xdr oct =
      found (xdr.format onc_way) xdr_reported.reply_reported (heard_over back.Xdr b op) o
      (xdr_lawful.heads_are_decided onc_way o oct).either
  has_reply_over back.CdrBig oct = giop_found (giop_lawful.heads_are_decided Replies o oct).either
  has_reply_over back.CdrLittle oct = giop_found (giop_lawful.heads_are_decided Replies o oct).either
  has_reply_over back.Mach oct =
      found (mach.format way (length o)) mach_reported.reply_reported (heard_over back.Mach b op) o
      (mach_lawful.heads_are_decided way o oct).either

  -- octets have a head of a reply, or a fault of it
  pub has_reply : AreOctets o → HasReply (BeginsReply b op o) (ReplyStops b op o)
  has_reply oct = has_reply_over b.back oct

-- ---- what is read of a head is what it says

-- what the status of a GIOP reply tells
fate_same : (ids : List (List ℕ)) (s : Status) (f : giop_reply.Fate) → Some f ≡ giop_reported.fate_seen s → giop_fate ids f ≡ fate_of ids s
fate_same ids status.Answer f e =
    let same : f ≡ giop_reply.answer = cc in
    ap (giop_fate ids) same
fate_same ids (status.User id) f e =
    let same : f ≡ giop_reply.user id.now = cc in
    ap (giop_fate ids) same
fate_same ids (status.System id minor completion) f e =
    let same : f ≡ giop_reply.system id.now minor completion = cc in
    ap (giop_fate ids) same
fate_same ids status.ProgUnavail f e = absurd cc
fate_same ids (status.ProgMismatch low high) f e = absurd cc
fate_same ids status.ProcUnavail f e = absurd cc
fate_same ids status.GarbageArgs f e = absurd cc
fate_same ids status.SystemErr f e = absurd cc
fate_same ids (status.RpcMismatch low high) f e = absurd cc
fate_same ids (status.AuthError why) f e = absurd cc
fate_same ids (status.RetCode code) f e = absurd cc
fate_same ids (status.Raised k) f e = absurd cc

abbrev hearing : Head → Fate → Encoding → ℕ → Heard
hearing h f e used = record { head = h; fate = f; encoding = e; used = used }

heard_same : (ids : List (List ℕ)) (y : giop_reply.Reply) (used : ℕ) (r : ReplyHead)
    → giop_reported.reply_reported y used ≡ giop_reported.reply_seen r
    → hearing (giop_reported.shared_head y.id true y.order) (giop_fate ids y.fate) (laid y.order) used
    ≡ hearing r.head (fate_of ids r.status) (laid r.head.order) r.used
heard_same ids y used r e =
    let heads : giop_reported.shared_head y.id true y.order ≡ r.head = ap (λ (x : giop_reported.ReportedReply). x.head) e in
    let fates : giop_fate ids y.fate ≡ fate_of ids r.status =
    fate_same ids r.status y.fate (ap (λ (x : giop_reported.ReportedReply). x.fate) e) in
    ap (λ (h : Head). hearing h (giop_fate ids y.fate) (laid y.order) used) heads
    ∙ ap (λ (f : Fate). hearing r.head f (laid y.order) used) fates
    ∙ ap (λ (h : Head). hearing r.head (fate_of ids r.status) (laid h.order) used) heads
    ∙ ap (hearing r.head (fate_of ids r.status) (laid r.head.order)) (ap (λ (x : giop_reported.ReportedReply). x.used) e)

module _ (b : Binding) (op : ℕ) (o : List ℕ) where
  over : (k : Back) (r : ReplyHead) → b.back ≡ k → RepliesOver k b op o (heard_over k b op r) → BeginsReply b op o (heard b op r)
  over k r is h = subst (λ (m : Back). RepliesOver m b op o (heard_over m b op r)) (sym is) h

  stops_over : (k : Back) (e : HeadErr) → b.back ≡ k → ReplyStopsOver k b op o e → ReplyStops b op o e
  stops_over k e is h = subst (λ (m : Back). ReplyStopsOver m b op o e) (sym is) h

  pub xdr_read : (x : Result ReplyHead HeadErr) (arms : ℕ) → b.back ≡ back.Xdr → arms ≡ exceptions b op
      → ((r : ReplyHead) → (x ≡ Ok r) ↔ xdr_reported.BeginsReply arms o r)
      → IfOk x (λ r. BeginsReply b op o (heard b op r))
  xdr_read (Ok r) arms is many h =
      over back.Xdr r is (r, subst (λ (n : ℕ). xdr_reported.BeginsReply n o r) many ((h r).0 refl), refl)
  xdr_read (Err e) arms is many h = tt

  pub xdr_faults : (x : Result ReplyHead HeadErr) (arms : ℕ) → b.back ≡ back.Xdr → arms ≡ exceptions b op
      → ((e : HeadErr) → (x ≡ Err e) ↔ xdr.StopsWith (xdr.reply arms) o e)
      → IfErr x (λ e. ReplyStops b op o e)
  xdr_faults (Ok r) arms is many h = tt
  xdr_faults (Err e) arms is many h =
      stops_over back.Xdr e is (subst (λ (n : ℕ). xdr.StopsWith (xdr.reply n) o e) many ((h e).0 refl))

  giop_reported_as : (k : Back) → IsCdr k → (r : ReplyHead) → giop_reported.BeginsReply o (giop_reported.reply_seen r)
      → RepliesOver k b op o (heard_over k b op r)
  giop_reported_as back.CdrBig cdr r (y, used, starts, reported) = (y, used, starts, heard_same (target_of b op).ids y used r reported)
  giop_reported_as back.CdrLittle cdr r (y, used, starts, reported) = (y, used, starts, heard_same (target_of b op).ids y used r reported)
  giop_reported_as back.Xdr cdr r begins = absurd cc
  giop_reported_as back.Mach cdr r begins = absurd cc

  pub giop_read : (x : Result ReplyHead HeadErr) → IsCdr b.back
      → ((r : giop_reported.ReportedReply) → Tells giop_reported.reply_seen x r ↔ giop_reported.BeginsReply o r)
      → IfOk x (λ r. BeginsReply b op o (heard b op r))
  giop_read (Ok r) cdr h = giop_reported_as b.back cdr r ((h (giop_reported.reply_seen r)).0 refl)
  giop_read (Err e) cdr h = tt

  giop_stop : (k : Back) → IsCdr k → (e : HeadErr) → giop.StopsWith Replies o e → ReplyStopsOver k b op o e
  giop_stop back.CdrBig cdr e stops = stops
  giop_stop back.CdrLittle cdr e stops = stops
  giop_stop back.Xdr cdr e stops = absurd cc
  giop_stop back.Mach cdr e stops = absurd cc

  pub giop_faults : (x : Result ReplyHead HeadErr) → IsCdr b.back → ((e : HeadErr) → (x ≡ Err e) ↔ giop.StopsWith Replies o e)
      → IfErr x (λ e. ReplyStops b op o e)
  giop_faults (Ok r) cdr h = tt
  giop_faults (Err e) cdr h = giop_stop b.back cdr e ((h e).0 refl)

  pub mach_read : (x : Result ReplyHead HeadErr) (id arms : ℕ) → b.back ≡ back.Mach → id ≡ reply_id b op → arms ≡ exceptions b op
      → ((r : ReplyHead) → (x ≡ Ok r) ↔ mach_reported.BeginsReply id arms o r)
      → IfOk x (λ r. BeginsReply b op o (heard b op r))
  mach_read (Ok r) id arms is own many h =
      over back.Mach r is (
        r,
        subst (λ (n : ℕ). mach_reported.BeginsReply (reply_id b op) n o r) many
            (subst (λ (n : ℕ). mach_reported.BeginsReply n arms o r) own ((h r).0 refl)),
        refl,
      )
  mach_read (Err e) id arms is own many h = tt

  pub mach_faults : (x : Result ReplyHead HeadErr) (id arms : ℕ) → b.back ≡ back.Mach → id ≡ reply_id b op → arms ≡ exceptions b op
      → ((e : HeadErr) → (x ≡ Err e) ↔ mach.StopsWith (mach.reply id arms) o e)
      → IfErr x (λ e. ReplyStops b op o e)
  mach_faults (Ok r) id arms is own many h = tt
  mach_faults (Err e) id arms is own many h =
      stops_over back.Mach e is
      (subst (λ (n : ℕ). mach.StopsWith (mach.reply (reply_id b op) n) o e) many
      (subst (λ (n : ℕ). mach.StopsWith (mach.reply n arms) o e) own ((h e).0 refl)))

-- ---- the heads that are sent

onc_long : (arms arm id : ℕ) → 12 ≤ length (xdr_leads.reply_lead arms arm id)
onc_long zero arm id = omega arith
onc_long (suc n) arm id = omega arith

mach_long : (b : Binding) (op arms arm : ℕ) (head : Head) → 12 ≤ length (mach_leads.reply_lead (routine_of b op) arms arm head)
mach_long b op zero arm head = omega arith
mach_long b op (suc n) arm head = omega arith

-- the length of a message lies within the head of a reply
long_over : (k : Back) (b : Binding) (m op arm : ℕ) (head : Head) → 12 ≤ length (reply_lead_over k b m op arm head)
long_over back.Xdr b m op arm head = onc_long (exceptions b op) arm head.id
long_over back.CdrBig b m op arm head = long_reply m Big (target_of b op) arm head.id
long_over back.CdrLittle b m op arm head = long_reply m Little (target_of b op) arm head.id
long_over back.Mach b m op arm head = mach_long b op (exceptions b op) arm head

pub long_reply_lead : (b : Binding) (m op arm : ℕ) (head : Head) → 12 ≤ length (reply_lead_over b.back b m op arm head)
long_reply_lead b m op arm head = long_over b.back b m op arm head
