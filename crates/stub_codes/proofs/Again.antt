-- Codes of an earlier operation, for another of which the same is promised.
use Rattle.std.proofs.Common.{◌≡◌, ◌<◌, ◌⊎◌, inl, inr, ℕ, zero, suc, List, [], ◌∷◌, length, Some, slice_get, refl, sym, ap, subst, arith}
use Rattle.std.proofs.Math.Path.{fun_ext}
use Rattle.mint.specs.Types.{Ty}
use Rattle.wire_def.specs.declared.encoding.Back.{Back}
use Rattle.wire_def.specs.declared.encoding.Back.TheVariants as back
use Rattle.wire_def.specs.declared.head.Head.{Head}
use Rattle.wire_def.specs.declared.head.Order.{Order}
use Rattle.wire_def.specs.declared.head.Order.TheVariants.{Big, Little}
use Rattle.cast_stub.specs.declared.send.SendCode.{SendCode}
use Rattle.raw_buf.specs.Words.{words}
use Rattle.pres.specs.Bindings.{Binding}
use Rattle.head_arms.specs.Raised.{exceptions}
use Rattle.back_xdr.specs.Leads.{reply_numbers}
use Rattle.back_cdr.specs.Leads as cdr_leads
use Rattle.back_cdr.specs.Targets.{IsCdr, target_of}
use Rattle.back_mach.specs.Leads as mach_leads
use Rattle.stub_codes.specs.declared.stub.Stub.{Stub}
use Rattle.stub_codes.specs.Backs.{encoding, other_encoding, IsMinorOver, reply_form, reply_form_over}
use Rattle.stub_codes.specs.Messages.{request_type}
use Rattle.stub_codes.specs.Receiving.{Receives, ReceivesOther}
use Rattle.stub_codes.specs.Replies.{HasArm, arm_type}
use Rattle.stub_codes.specs.Sending.{Sends}
use Rattle.stub_codes.specs.Stubs.{AreReplying, AreStubs, replies_in}
use Rattle.stub_codes.proofs.Done.{kept_is}

-- ---- heads of replies that are the same

-- over ONC the head says the arm where exceptions are raised, and nothing of the operation besides
numbers_same : (x y k : ℕ) → (x ≡ 0 → y ≡ 0) → (y ≡ 0 → x ≡ 0) → reply_numbers x k ≡ reply_numbers y k
numbers_same zero zero k there here = refl
numbers_same zero (suc y) k there here = let none = there refl in absurd cc
numbers_same (suc x) zero k there here = let none = here refl in absurd cc
numbers_same (suc x) (suc y) k there here = refl

xdr_over : (b : Binding) (m op p k : ℕ) → (exceptions b op ≡ 0 → exceptions b p ≡ 0) → (exceptions b p ≡ 0 → exceptions b op ≡ 0)
    → reply_form_over back.Xdr b m op k ≡ reply_form_over back.Xdr b m p k
xdr_over b m op p k there here =
    ap (λ (ns : List ℕ). λ (h : Head). words (h.id ∷ ns)) (numbers_same (exceptions b op) (exceptions b p) k there here)

xdr_one_lead : (b : Binding) (m op p k : ℕ) → b.back ≡ back.Xdr → (exceptions b op ≡ 0 → exceptions b p ≡ 0)
    → (exceptions b p ≡ 0 → exceptions b op ≡ 0) → reply_form b m op k ≡ reply_form b m p k
xdr_one_lead b m op p k is there here =
    subst (λ (x : Back). reply_form_over x b m op k ≡ reply_form_over x b m p k) (sym is) (xdr_over b m op p k there here)

-- over Mach too
mach_forms : (x y k : ℕ) → (x ≡ 0 → y ≡ 0) → (y ≡ 0 → x ≡ 0) → (h : Head) → mach_leads.reply_form x k h ≡ mach_leads.reply_form y k h
mach_forms zero zero k there here h = refl
mach_forms zero (suc y) k there here h = let none = there refl in absurd cc
mach_forms (suc x) zero k there here h = let none = here refl in absurd cc
mach_forms (suc x) (suc y) k there here h = refl

mach_one_lead : (b : Binding) (m op p k : ℕ) → b.back ≡ back.Mach → (exceptions b op ≡ 0 → exceptions b p ≡ 0)
    → (exceptions b p ≡ 0 → exceptions b op ≡ 0) → reply_form b m op k ≡ reply_form b m p k
mach_one_lead b m op p k is there here =
    subst (λ (x : Back). reply_form_over x b m op k ≡ reply_form_over x b m p k) (sym is)
    (fun_ext (mach_forms (exceptions b op) (exceptions b p) k there here))

pub raising_one_lead : (b : Binding) (m op p k : ℕ) → (b.back ≡ back.Xdr) ⊎ (b.back ≡ back.Mach)
    → (exceptions b op ≡ 0 → exceptions b p ≡ 0) → (exceptions b p ≡ 0 → exceptions b op ≡ 0)
    → reply_form b m op k ≡ reply_form b m p k
raising_one_lead b m op p k (inl onc) there here = xdr_one_lead b m op p k onc there here
raising_one_lead b m op p k (inr mach) there here = mach_one_lead b m op p k mach there here

-- over CDR the head says the id of an exception, and of an answer nothing
abbrev pub HaveOneTarget : Binding → ℕ → ℕ → ℕ → Type 0
HaveOneTarget b op p k = (m : ℕ) (r : Order) (id : ℕ)
    → cdr_leads.reply_lead m r (target_of b op) k id ≡ cdr_leads.reply_lead m r (target_of b p) k id

cdr_over : (x : Back) (b : Binding) (m op p k : ℕ) → IsCdr x → HaveOneTarget b op p k → (h : Head)
    → reply_form_over x b m op k h ≡ reply_form_over x b m p k h
cdr_over back.CdrBig b m op p k cdr one h = one m Big h.id
cdr_over back.CdrLittle b m op p k cdr one h = one m Little h.id
cdr_over back.Xdr b m op p k cdr one h = absurd cc
cdr_over back.Mach b m op p k cdr one h = absurd cc

pub cdr_one_lead : (b : Binding) (m op p k : ℕ) → IsCdr b.back → HaveOneTarget b op p k → reply_form b m op k ≡ reply_form b m p k
cdr_one_lead b m op p k cdr one = fun_ext (cdr_over b.back b m op p k cdr one)

-- ---- codes

is_within : {A : Type 0} (xs : List A) (k : ℕ) (x : A) → slice_get xs k ≡ Some x → k < length xs
is_within [] k x e = absurd cc
is_within (y ∷ xs) zero x e = omega arith
is_within (y ∷ xs) (suc k) x e = let less = is_within xs k x e in omega (arith, less)

-- the code that receives what goes into another operation of the same request
pub receives_again : (b : Binding) (m p op : ℕ) (stubs : List Stub) (s : Stub) → AreStubs b m stubs → slice_get stubs p ≡ Some s
    → request_type b p ≡ request_type b op → Receives (encoding b.back) (request_type b op) s.recv
receives_again b m p op stubs s are found same =
    subst (λ (t : Ty). Receives (encoding b.back) t s.recv) same (are p s found).recv

pub other_again : (b : Binding) (m p op : ℕ) (stubs : List Stub) (s : Stub) → AreStubs b m stubs → slice_get stubs p ≡ Some s
    → request_type b p ≡ request_type b op → ReceivesOther (other_encoding b.back) (request_type b op) s.other
other_again b m p op stubs s are found same =
    subst (λ (t : Ty). ReceivesOther (other_encoding b.back) t s.other) same (are p s found).other

-- an arm of which there is code
pub has_arm : (b : Binding) (m p k n : ℕ) (stubs : List Stub) (s : Stub) (code : SendCode) → AreStubs b m stubs
    → slice_get stubs p ≡ Some s → slice_get (replies_in s n) k ≡ Some code → HasArm b p k
has_arm b m p k n stubs s code are found there = (are p s found).arms n k (is_within (replies_in s n) k code there)

-- the code that sends the replies to another operation with the same head and a value of the same type
pub sends_again : (b : Binding) (m p op k n : ℕ) (stubs : List Stub) (s : Stub) (code : SendCode) → AreStubs b m stubs
    → AreReplying b stubs → slice_get stubs p ≡ Some s → slice_get (replies_in s n) k ≡ Some code → IsMinorOver b.back n
    → reply_form b n op k ≡ reply_form b n p k → arm_type b p k ≡ arm_type b op k
    → Sends b.back (reply_form b n op k) (arm_type b op k) code
sends_again b m p op k n stubs s code are replying found there version lead same =
    let has = has_arm b m p k n stubs s code are found there in
    let sends = kept_is b stubs p k n s code replying found has version there in
    subst (λ (o : Head → List ℕ). Sends b.back o (arm_type b op k) code) (sym lead)
    (subst (λ (t : Ty). Sends b.back (reply_form b n p k) t code) same sends)
