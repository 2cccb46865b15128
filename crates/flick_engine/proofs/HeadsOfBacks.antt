-- What holds of the heads of each back end.
use Rattle.std.proofs.Common.{◌≡◌, ℕ, Bool, ◌+◌, ◌<◌, ◌≤◌, List, [], ◌∷◌, ◌++◌, map, length, drop, Some, refl, sym, ap, ◌∙◌, subst, arith}
use Rattle.std.specs.Prelude.{slice_get, slice_index_or}
use Rattle.std.proofs.lemmas.Bool.{eqb-true}
use Rattle.std.proofs.lemmas.List.{map-append, drop_at}
use Rattle.std.proofs.lemmas.Option.{slice_get-get_or}
use Rattle.std.proofs.lemmas.Simd.{map-map}
use Rattle.std.proofs.lemmas.Slice.Eq.{bytes_eq-Decides}
use Rattle.kit_base.specs.Limits.{longest_message}
use Rattle.wire_def.specs.declared.encoding.Back.{Back}
use Rattle.wire_def.specs.declared.encoding.Back.TheVariants as back
use Rattle.wire_def.specs.declared.encoding.Encoding.{Encoding}
use Rattle.wire_def.specs.declared.head.Head.{Head}
use Rattle.wire_def.specs.declared.head.Order.{Order}
use Rattle.wire_def.specs.declared.head.Order.TheVariants.{Big, Little}
use Rattle.wire_def.specs.Grammar.{AreOctets}
use Rattle.head_kit.specs.declared.call_head.CallHead.{CallHead}
use Rattle.head_kit.specs.declared.call_head.CallTarget.{CallTarget}
use Rattle.head_kit.specs.declared.call_head.CallTarget.TheVariants.{Operation}
use Rattle.head_kit.specs.Calls.{IsBelow, IsOneHead, HasHead}
use Rattle.head_kit.proofs.Named.{pairs, named_by}
use Rattle.aoi.specs.Plain.{PlainUnit, PlainInterface, PlainOperation}
use Rattle.pres.specs.Bindings.{Binding, IsBinding}
use Rattle.pres.specs.Offers.{operations}
use Rattle.back_xdr.specs.declared.call.OncCall.{OncCall}
use Rattle.back_xdr.specs.declared.procedures.Procedure.{Procedure}
use Rattle.back_xdr.specs.Laws.{call_of}
use Rattle.back_xdr.specs.Leads as xdr_leads
use Rattle.back_xdr.specs.Procedures.{procedures_of, procedures, procedure_of}
use Rattle.back_xdr.specs.Seeking.{called, named, named_from, Calls}
use Rattle.back_xdr.proofs.Counting.{counted}
use Rattle.back_xdr.proofs.Heading.{one_head_called, has_head_called}
use Rattle.back_xdr.proofs.Named.{named_below, named_right}
use Rattle.back_xdr.proofs.Sent.{leads_read}
use Rattle.giop_head.specs.Call.{Request}
use Rattle.giop_head.specs.Items.{laid}
use Rattle.giop_head.specs.Laws.{MayFollow}
use Rattle.giop_head.specs.Printed.{with_size}
use Rattle.giop_head.specs.Reported.{ReportedRequest}
use Rattle.giop_head.proofs.Sent.{requests_begin, follows_request, length_sized}
use Rattle.back_cdr.specs.Leads as cdr_leads
use Rattle.back_cdr.specs.Seeking as cdr_seeking
use Rattle.back_cdr.specs.Targets.{IsCdr, has_body, ops_of, Target, no_target, targets, target_of}
use Rattle.back_cdr.proofs.Counting as cdr_counting
use Rattle.back_cdr.proofs.Counting.{own_alone}
use Rattle.back_cdr.proofs.Growing.{long_request}
use Rattle.back_cdr.proofs.Heading as cdr_heading
use Rattle.back_cdr.proofs.Named as cdr_named
use Rattle.back_mach.specs.declared.call.MachCall.{MachCall}
use Rattle.back_mach.specs.Laws as mach_laws
use Rattle.back_mach.specs.Leads as mach_leads
use Rattle.back_mach.specs.Routines.{ops_of as mach_ops, no_routine, routines, routine_of}
use Rattle.back_mach.specs.Seeking as mach_seeking
use Rattle.back_mach.proofs.Counting as mach_counting
use Rattle.back_mach.proofs.Heading as mach_heading
use Rattle.back_mach.proofs.Named as mach_named
use Rattle.back_mach.proofs.Sent as mach_sent
use Rattle.flick_engine.specs.Backs.{encoding, lead_over, sized, BeginsOver, Begins, AsksByName, AsksFor, Stops, request_of, reported_of, SaysByName, SaysOver, Says}
use Rattle.flick_engine.specs.Operations.{operations_in}
use Rattle.stub_codes.proofs.Places.{placed}

-- ---- the heads that are received

one_head_over : (k : Back) (b : Binding) (o : List ℕ) → IsOneHead o (BeginsOver k b o) (Stops k o)
one_head_over back.Xdr b o = one_head_called b o
one_head_over back.CdrBig b o = cdr_heading.one_head_called b o
one_head_over back.CdrLittle b o = cdr_heading.one_head_called b o
one_head_over back.Mach b o = mach_heading.one_head_called b o

-- a message has one head, or one fault of it
pub one_head : (b : Binding) (o : List ℕ) → IsOneHead o (Begins b o) (Stops b.back o)
one_head b o = one_head_over b.back b o

has_head_over : (k : Back) (b : Binding) (o : List ℕ) → AreOctets o → HasHead (BeginsOver k b o) (Stops k o)
has_head_over back.Xdr b o oct = has_head_called b o oct
has_head_over back.CdrBig b o oct = cdr_heading.has_head_called b o oct
has_head_over back.CdrLittle b o oct = cdr_heading.has_head_called b o oct
has_head_over back.Mach b o oct = mach_heading.has_head_called b o oct

-- octets have a head, or a fault of it
pub has_head : (b : Binding) (o : List ℕ) → AreOctets o → HasHead (Begins b o) (Stops b.back o)
has_head b o oct = has_head_over b.back b o oct

-- ---- the heads that are sent

-- the length of a message lies within its head, and to tell it changes no length
abbrev IsLongEnough : List ℕ → Type 0
IsLongEnough o = 12 ≤ length o

pub long_lead : (k : Back) (b : Binding) (m op : ℕ) (head : Head) → IsLongEnough (lead_over k b m op head)
long_lead back.Xdr b m op head = omega arith
long_lead back.CdrBig b m op head = long_request m (has_body b op) Big (target_of b op) head.id
long_lead back.CdrLittle b m op head = long_request m (has_body b op) Little (target_of b op) head.id
long_lead back.Mach b m op head = omega (arith, mach_sent.long_request (routine_of b op) head)

pub same_length : (k : Back) (o : List ℕ) → IsLongEnough o → length (sized k o) ≡ length o
same_length back.Xdr o long = refl
same_length back.CdrBig o long = length_sized Big o long
same_length back.CdrLittle o long = length_sized Little o long
same_length back.Mach o long = mach_sent.length_sized o (omega (arith, long))

-- a head that is sent, whose size is then set, is received as what it says, in so many octets and over this encoding; what may follow it follows
pub record IsHeard (May : List ℕ → Type 0) (Begins : List ℕ → Type 0) (set : List ℕ → List ℕ) (lead : List ℕ) (many : ℕ) (e f : Encoding)
    : Type 0 where
  pub begins : (rest : List ℕ) → May rest → length (lead ++ rest) ≤ longest_message → Begins (set (lead ++ rest))
  pub follows : (rest : List ℕ) → drop many (set (lead ++ rest)) ≡ rest
  pub used : many ≡ length lead
  pub encoding : e ≡ f

-- the same of the head of a call
abbrev pub IsReceived : Back → Binding → ℕ → ℕ → Head → CallHead → Type 0
IsReceived k b m op head c =
    IsHeard (MayFollow (has_body b op)) (λ o. BeginsOver k b o c) (sized k) (lead_over k b m op head) c.used c.encoding (encoding k)

xdr_used : (b : Binding) (m op : ℕ) (head : Head) (c : CallHead) → SaysOver back.Xdr b m op head c → c.used
    ≡ length (lead_over back.Xdr b m op head)
xdr_used b m op head c (fits, words, is) = sym (ap (λ (x : CallHead). x.used) is)

module _ (m : ℕ) (r : Order) (b : Binding) (op : ℕ) (head : Head) (c : CallHead) (says : SaysByName m r b op head c) where
  abbrev asking : Request
  asking = request_of (target_of b op) head.id

  abbrev asked : List ℕ
  asked = cdr_leads.lead m (has_body b op) r (target_of b op) head.id

  cdr_received : IsHeard (MayFollow (has_body b op)) (λ o. cdr_seeking.Calls b o c) (with_size r) asked c.used c.encoding (laid r)
  cdr_received = record {
    begins = λ rest body few. (
      reported_of m (has_body b op) r (target_of b op) head.id,
      requests_begin m (has_body b op) r asking rest says.0 says.1 body (omega (arith, few)),
      says.2,
    );
    follows = λ rest. ap (λ (x : CallHead). drop x.used (with_size r (asked ++ rest))) (sym says.2)
        ∙ follows_request m (has_body b op) r asking rest says.0 says.1;
    used = ap (λ (x : CallHead). x.used) (sym says.2);
    encoding = ap (λ (x : CallHead). x.encoding) (sym says.2);
  }

received_over : (k : Back) (b : Binding) (m op : ℕ) (head : Head) (c : CallHead) → SaysOver k b m op head c → IsReceived k b m op head c
received_over back.Xdr b m op head c (fits, words, is) = record {
  begins = λ rest body few. (call_of (procedure_of b op) head.id, leads_read (procedure_of b op) head.id rest fits words, is);
  follows = λ rest. drop_at (lead_over back.Xdr b m op head) rest c.used (sym (xdr_used b m op head c (fits, words, is)));
  used = xdr_used b m op head c (fits, words, is);
  encoding = sym (ap (λ (x : CallHead). x.encoding) is);
}
received_over back.CdrBig b m op head c says = cdr_received m Big b op head c says
received_over back.CdrLittle b m op head c says = cdr_received m Little b op head c says
received_over back.Mach b m op head c (fits, ports, is) = record {
  begins =
      λ rest body few. (
        mach_laws.call_of (routine_of b op) head,
        mach_sent.requests_begin (routine_of b op) head rest fits ports (omega (arith, few)),
        is,
      );
  follows = λ rest. ap (λ (x : CallHead). drop x.used (sized back.Mach (lead_over back.Mach b m op head ++ rest))) (sym is)
      ∙ mach_sent.follows_request (routine_of b op) head rest;
  used = ap (λ (x : CallHead). x.used) (sym is);
  encoding = ap (λ (x : CallHead). x.encoding) (sym is);
}

pub received : (b : Binding) (m op : ℕ) (head : Head) (c : CallHead) → Says b m op head c → IsReceived b.back b m op head c
received b m op head c says = received_over b.back b m op head c says

-- ---- bindings of one unit

-- over this back end, the heads of one binding are sent and received as those of the other, and name operations that there are
pub record AreAlike (k : Back) (b c : Binding) : Type 0 where
  pub leads : (m op : ℕ) (head : Head) → has_body b op ≡ has_body c op → lead_over k b m op head ≡ lead_over k c m op head
  pub begins : (o : List ℕ) (x : CallHead) → BeginsOver k b o x → BeginsOver k c o x
  pub below : (o : List ℕ) (x : CallHead) → BeginsOver k b o x → IsBelow (length b.ops) x.naming

-- what a call that names this says
abbrev called_with : OncCall → CallTarget → CallHead
called_with k n = record { naming = n; head = k.head; encoding = encoding back.Xdr; used = k.used; minor = 0 }

-- what a request that names this says
abbrev reported_with : ReportedRequest → CallTarget → CallHead
reported_with t n = record { naming = n; head = t.head; encoding = laid t.head.order; used = t.used; minor = t.minor }

-- what a request over Mach that names this says
abbrev mach_with : MachCall → CallTarget → CallHead
mach_with c n = record { naming = n; head = c.head; encoding = encoding back.Mach; used = c.used; minor = 0 }

place_same : {A : Type 0} (xs ys : List A) (n : ℕ) (d : A) → xs ≡ ys → slice_index_or xs n d ≡ slice_index_or ys n d
place_same xs ys n d e = ap (λ zs. slice_index_or zs n d) e

module _ (b c : Binding) (units : b.unit ≡ c.unit) where
  xdr_leads_alike : (m op : ℕ) (head : Head) → has_body b op ≡ has_body c op → lead_over back.Xdr b m op head
      ≡ lead_over back.Xdr c m op head
  xdr_leads_alike m op head bodies =
      let same : procedure_of b op ≡ procedure_of c op = place_same _ _ op _ (ap (λ (u : PlainUnit). procedures u.interfaces) units) in
      ap (λ p. xdr_leads.lead p head.id) same

  xdr_begins : (o : List ℕ) (x : CallHead) → Calls b o x → Calls c o x
  xdr_begins o x (call, begins, is) =
      let same : called b call ≡ called c call = ap (called_with call) (ap (λ (u : PlainUnit). named_from 0 u.interfaces call) units) in
      (call, begins, sym same ∙ is)

  xdr_below : IsBinding b → b.back ≡ back.Xdr → (o : List ℕ) (x : CallHead) → Calls b o x → IsBelow (length b.ops) x.naming
  xdr_below stands xdr o x (call, begins, is) =
      let all : 0 + length (procedures b.unit.interfaces) ≡ length b.ops = omega (arith, counted b stands xdr) in
      let below : IsBelow (length b.ops) (named b call) =
      subst (λ (n : ℕ). IsBelow n (named b call)) all (named_below 0 b.unit.interfaces call) in
      subst (λ (y : CallHead). IsBelow (length b.ops) y.naming) is below

  cdr_leads_alike : (r : Order) (m op : ℕ) (head : Head) → has_body b op ≡ has_body c op
      → cdr_leads.lead m (has_body b op) r (target_of b op) head.id ≡ cdr_leads.lead m (has_body c op) r (target_of c op) head.id
  cdr_leads_alike r m op head bodies =
      let same : target_of b op ≡ target_of c op = place_same _ _ op no_target (ap (λ (u : PlainUnit). targets u.interfaces) units) in
      ap (λ (t : Target). cdr_leads.lead m (has_body b op) r t head.id) same
      ∙ ap (λ (x : Bool). cdr_leads.lead m x r (target_of c op) head.id) bodies

  cdr_begins_alike : (o : List ℕ) (x : CallHead) → cdr_seeking.Calls b o x → cdr_seeking.Calls c o x
  cdr_begins_alike o x (t, begins, is) =
      let same : cdr_seeking.called b t ≡ cdr_seeking.called c t =
      ap (reported_with t) (ap (λ (u : PlainUnit). cdr_seeking.named_from 0 u.interfaces t.key t.name) units) in
      (t, begins, sym same ∙ is)

  cdr_below : IsBinding b → IsCdr b.back → (o : List ℕ) (x : CallHead) → cdr_seeking.Calls b o x → IsBelow (length b.ops) x.naming
  cdr_below stands cdr o x (t, begins, is) =
      let all : 0 + length (targets b.unit.interfaces) ≡ length b.ops = omega (arith, cdr_counting.counted b stands cdr) in
      let below : IsBelow (length b.ops) (cdr_seeking.named b t) =
      subst (λ (n : ℕ). IsBelow n (cdr_seeking.named b t)) all (cdr_named.named_below 0 b.unit.interfaces t.key t.name) in
      subst (λ (y : CallHead). IsBelow (length b.ops) y.naming) is below

  cdr_is : (k : Back) → IsCdr k → b.back ≡ k → IsCdr b.back
  cdr_is k is of = subst IsCdr (sym of) is

  mach_leads_alike : (m op : ℕ) (head : Head) → has_body b op ≡ has_body c op → lead_over back.Mach b m op head
      ≡ lead_over back.Mach c m op head
  mach_leads_alike m op head bodies =
      ap (λ r. mach_leads.lead r head) (place_same _ _ op no_routine (ap (λ (u : PlainUnit). routines u.interfaces) units))

  mach_begins_alike : (o : List ℕ) (x : CallHead) → mach_seeking.Calls b o x → mach_seeking.Calls c o x
  mach_begins_alike o x (call, begins, is) =
      let same : mach_seeking.called b call ≡ mach_seeking.called c call =
      ap (mach_with call) (ap (λ (u : PlainUnit). mach_seeking.named_from 0 u.interfaces call.id) units) in
      (call, begins, sym same ∙ is)

  mach_below : IsBinding b → b.back ≡ back.Mach → (o : List ℕ) (x : CallHead) → mach_seeking.Calls b o x → IsBelow (length b.ops) x.naming
  mach_below stands mach o x (call, begins, is) =
      let all : 0 + length (routines b.unit.interfaces) ≡ length b.ops = omega (arith, mach_counting.counted b stands mach) in
      let below : IsBelow (length b.ops) (mach_seeking.named b call) =
      subst (λ (n : ℕ). IsBelow n (mach_seeking.named b call)) all (mach_named.named_below 0 b.unit.interfaces call.id) in
      subst (λ (y : CallHead). IsBelow (length b.ops) y.naming) is below

  alike_over : (k : Back) → IsBinding b → b.back ≡ k → AreAlike k b c
  alike_over back.Xdr stands of = record { leads = xdr_leads_alike; begins = xdr_begins; below = xdr_below stands of }
  alike_over back.CdrBig stands of =
      record { leads = cdr_leads_alike Big; begins = cdr_begins_alike; below = cdr_below stands (cdr_is back.CdrBig refl of) }
  alike_over back.CdrLittle stands of =
      record { leads = cdr_leads_alike Little; begins = cdr_begins_alike; below = cdr_below stands (cdr_is back.CdrLittle refl of) }
  alike_over back.Mach stands of = record { leads = mach_leads_alike; begins = mach_begins_alike; below = mach_below stands of }

-- the heads of bindings of one unit
pub heads_alike : (b c : Binding) → b.unit ≡ c.unit → IsBinding b → AreAlike b.back b c
heads_alike b c units stands = alike_over b c units b.back stands refl

-- ---- the operations that are asked for

-- the operation of a number over this back end is one of the unit, which the message asks for
abbrev IsAskedOver : Back → Binding → List ℕ → ℕ → Type 0
IsAskedOver k b o op = (i : PlainInterface) × (p : PlainOperation) × (slice_get (operations_in k b.unit.interfaces) op ≡ Some (i, p))
    × AsksFor k i p o

abbrev procedure_in : PlainInterface → ℕ → Procedure
procedure_in i n = record { program = i.program; version = i.version; number = n }

-- the procedure of an operation with its interface
abbrev procedure_at : PlainInterface × PlainOperation → Procedure
procedure_at q = procedure_in q.0 q.1.proc_no

abbrev no_procedure : Procedure
no_procedure = record { program = 0; version = 0; number = 0 }

abbrev with_interface : PlainInterface → List (PlainInterface × PlainOperation)
with_interface i = map (λ (p : PlainOperation). (i, p)) (operations back.Xdr i)

xdr_first : (i : PlainInterface) → procedures_of i ≡ map procedure_at (with_interface i)
xdr_first i =
    map-map (procedure_in i) (λ (p : PlainOperation). p.proc_no) (operations back.Xdr i)
    ∙ sym (map-map procedure_at (λ (p : PlainOperation). (i, p)) (operations back.Xdr i))

xdr_procedures : (is : List PlainInterface) → procedures is ≡ map procedure_at (operations_in back.Xdr is)
xdr_procedures [] = refl
xdr_procedures (i ∷ is) =
    ap (λ (l : List Procedure). l ++ procedures is) (xdr_first i)
    ∙ ap (λ (l : List Procedure). map procedure_at (with_interface i) ++ l) (xdr_procedures is)
    ∙ sym (map-append procedure_at (with_interface i) (operations_in back.Xdr is))

xdr_asked : (b : Binding) (o : List ℕ) (x : CallHead) (op : ℕ) → Calls b o x → x.naming ≡ Operation op → IsAskedOver back.Xdr b o op
xdr_asked b o x op (call, begins, is) names =
    let ps : List Procedure = procedures b.unit.interfaces in
    let same : named b call ≡ Operation op = ap (λ (y : CallHead). y.naming) is ∙ names in
    let all : 0 + length ps ≡ length ps = omega arith in
    let within : IsBelow (length ps) (named b call) =
    subst (λ (n : ℕ). IsBelow n (named b call)) all (named_below 0 b.unit.interfaces call) in
    let below : op < length ps = subst (λ (n : CallTarget). IsBelow (length ps) n) same within in
    let there : slice_get ps op ≡ Some (procedure_of b op) = slice_get-get_or ps op no_procedure below in
    let (q, stands, of) = placed procedure_at (operations_in back.Xdr b.unit.interfaces) op (procedure_of b op)
    (ap (λ (l : List Procedure). slice_get l op) (sym (xdr_procedures b.unit.interfaces)) ∙ there) in
    (q.0, q.1, stands, (call, begins, sym (named_right b call op same) ∙ sym of))

-- over CDR no operation is gotten
cdr_pairs : (k : Back) → IsCdr k → (is : List PlainInterface) → operations_in k is ≡ pairs ops_of is
cdr_pairs k cdr [] = refl
cdr_pairs k cdr (i ∷ is) =
    ap (λ (ps : List PlainOperation). map (λ (p : PlainOperation). (i, p)) ps ++ operations_in k is) (own_alone k i cdr)
    ∙ ap (λ (l : List (PlainInterface × PlainOperation)). map (λ (p : PlainOperation). (i, p)) i.ops ++ l) (cdr_pairs k cdr is)

cdr_asked : (k : Back) → IsCdr k → (b : Binding) (o : List ℕ) (x : CallHead) (op : ℕ) → cdr_seeking.Calls b o x → x.naming ≡ Operation op
    → (i : PlainInterface) × (p : PlainOperation) × (slice_get (operations_in k b.unit.interfaces) op ≡ Some (i, p)) × AsksByName i p o
cdr_asked k cdr b o x op (t, begins, is) names =
    let same : cdr_seeking.named b t ≡ Operation op = ap (λ (y : CallHead). y.naming) is ∙ names in
    let (n, i, p, at, there, called_i, has_p) =
    named_by ops_of (cdr_seeking.has_key t.key) (λ j. cdr_seeking.has_name t.name) 0 b.unit.interfaces op same in
    let key = (bytes_eq-Decides i.name t.key).0 called_i in
    let name = (bytes_eq-Decides p.name t.name).0 has_p in
    let place : op ≡ n = omega (arith, at) in (
      i,
      p,
      ap (λ (l : List (PlainInterface × PlainOperation)).
          slice_get l op) (cdr_pairs k cdr b.unit.interfaces) ∙ ap (slice_get (pairs ops_of b.unit.interfaces)) place
          ∙ there,
      (t, begins, key, name),
    )

mach_own : (is : List PlainInterface) → operations_in back.Mach is ≡ pairs mach_ops is
mach_own [] = refl
mach_own (i ∷ is) =
    ap (λ (ps : List PlainOperation). map (λ (p : PlainOperation). (i, p)) ps ++ operations_in back.Mach is) (mach_counting.own_alone i)
    ∙ ap (λ (l : List (PlainInterface × PlainOperation)). map (λ (p : PlainOperation). (i, p)) i.ops ++ l) (mach_own is)

mach_asked : (b : Binding) (o : List ℕ) (x : CallHead) (op : ℕ) → mach_seeking.Calls b o x → x.naming ≡ Operation op
    → IsAskedOver back.Mach b o op
mach_asked b o x op (call, begins, is) names =
    let same : mach_seeking.named b call ≡ Operation op = ap (λ (y : CallHead). y.naming) is ∙ names in
    let (n, i, p, at, there, called_i, has_p) =
    named_by mach_ops (mach_seeking.has_id call.id) (mach_seeking.is_asked call.id) 0 b.unit.interfaces op same in
    let id : i.base + p.slot ≡ call.id = eqb-true _ _ has_p in
    let place : op ≡ n = omega (arith, at) in (
      i,
      p,
      ap (λ (l : List (PlainInterface × PlainOperation)).
          slice_get l op) (mach_own b.unit.interfaces) ∙ ap (slice_get (pairs mach_ops b.unit.interfaces)) place
          ∙ there,
      (call, begins, id),
    )

asked_over : (k : Back) (b : Binding) (o : List ℕ) (x : CallHead) (op : ℕ) → BeginsOver k b o x → x.naming ≡ Operation op
    → IsAskedOver k b o op
asked_over back.Xdr b o x op begins names = xdr_asked b o x op begins names
asked_over back.CdrBig b o x op begins names = cdr_asked back.CdrBig refl b o x op begins names
asked_over back.CdrLittle b o x op begins names = cdr_asked back.CdrLittle refl b o x op begins names
asked_over back.Mach b o x op begins names = mach_asked b o x op begins names

-- the operation that a message names is one of the unit, which it asks for
pub asked_for : (b : Binding) (o : List ℕ) (x : CallHead) (op : ℕ) → Begins b o x → x.naming ≡ Operation op → IsAskedOver b.back b o op
asked_for b o x op begins names = asked_over b.back b o x op begins names
