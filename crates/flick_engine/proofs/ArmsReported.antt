-- An arm that the head of a reply tells is one of the operation's reply.
use Rattle.std.proofs.Common.{◌≡◌, ◌+◌, ◌<◌, ◌≤◌, ℕ, zero, suc, List, [], length, Option, Some, None, refl, sym, ap, ◌∙◌, subst, arith}
use Rattle.std.specs.Prelude.{IsTrue, is_some, slice_get}
use Rattle.std.specs.List.{position_from}
use Rattle.std.specs.Str.{bytes_eq}
use Rattle.wire_def.specs.declared.encoding.Back.{Back}
use Rattle.wire_def.specs.declared.encoding.Back.TheVariants as back
use Rattle.wire_def.specs.declared.reply.Status.{Status}
use Rattle.wire_def.specs.declared.reply.Status.TheVariants as status
use Rattle.mint.specs.Types.{Ty}
use Rattle.aoi.specs.Plain.{PlainInterface, PlainOperation}
use Rattle.pres.specs.Bindings.{Binding, IsBinding}
use Rattle.pres.specs.Offers.{type_faces}
use Rattle.head_arms.specs.Raised.{exceptions}
use Rattle.wire_def.specs.declared.reply.ReplyHead.{ReplyHead}
use Rattle.back_xdr.specs.Reply as xdr_reply
use Rattle.back_xdr.specs.Reply.{AcceptedSpells, DeniedSpells, FateSpells}
use Rattle.back_xdr.specs.Reported.{status_of as xdr_status}
use Rattle.back_mach.specs.Reply.{AfterSpells}
use Rattle.back_mach.specs.Reported.{status_of as mach_status}
use Rattle.giop_head.specs.Reply as giop_reply
use Rattle.back_cdr.specs.Targets.{IsCdr, target_of}
use Rattle.stub_codes.proofs.ArmIds.{many_ids, many_raised}
use Rattle.flick_engine.specs.declared.replies.Fate.TheVariants as fates
use Rattle.flick_engine.specs.Backs.{RepliesInOrder, RepliesOver, BeginsReply}
use Rattle.flick_engine.specs.Fates.{Heard, raised_at, fate_of, giop_fate}
use Rattle.flick_engine.specs.Operations.{operations_in}
use Rattle.flick_engine.specs.Replies.{arm_type_in, HasArm}
use Rattle.flick_engine.proofs.Arming.{arm_there}
use Rattle.back_cdr.proofs.Picking.{below}
use Rattle.stub_codes.proofs.ReplyTypes.{are_the_replies}

-- ---- what a status tells

-- the state of an accepted call tells an arm up to the number of exceptions
state_few : (arms n p : ℕ) (o : List ℕ) (s : Status) → AcceptedSpells arms p o s → fate_of [] s ≡ fates.Arm n → n ≤ arms
state_few arms n p o status.Answer h e =
    let none : 0 ≡ n = cc in
    omega (arith, none)
state_few arms n p o (status.Raised k) h e =
    let same : k ≡ n = cc in
    omega (arith, same, h.1.1)
state_few arms n p o _ h e = absurd cc

-- a denial tells none
denial_few : (arms n p : ℕ) (o : List ℕ) (s : Status) → DeniedSpells p o s → fate_of [] s ≡ fates.Arm n → n ≤ arms
denial_few arms n p o status.Answer h e = absurd h
denial_few arms n p o (status.Raised k) h e = absurd h
denial_few arms n p o _ h e = absurd cc

onc_few : (arms n p : ℕ) (o : List ℕ) (f : xdr_reply.Fate) → FateSpells arms p o f → fate_of [] (xdr_status f) ≡ fates.Arm n → n ≤ arms
onc_few arms n p o (xdr_reply.accepted verf s) (a, b, is, took, (c, d, is', auth, state)) e =
    state_few arms n (p + length a + length c) d s state e
onc_few arms n p o (xdr_reply.denied s) (a, b, is, took, denial) e = denial_few arms n (p + length a) b s denial e

-- what follows a return code tells an arm up to the number of exceptions
mach_few : (arms n m k p : ℕ) (o : List ℕ) → AfterSpells arms m p o k → fate_of [] (mach_status m k) ≡ fates.Arm n → n ≤ arms
mach_few arms n zero zero p o h e =
    let none : 0 ≡ n = cc in
    omega (arith, none)
mach_few zero n zero (suc k) p o h e = absurd (omega (arith, h.1))
mach_few (suc arms) n zero (suc k) p o h e =
    let same : suc k ≡ n = cc in
    omega (arith, same, h.2)
mach_few arms n (suc m) k p o h e = absurd cc

found_at : (id : List ℕ) (o : Option ℕ) (k : ℕ) → raised_at id o ≡ fates.Arm k → o ≡ Some k
found_at id None k e = absurd cc
found_at id (Some j) k e =
    let same : j ≡ k = cc in
    ap (λ (n : ℕ). Some n) same

arm_few : (ids : List (List ℕ)) (f : giop_reply.Fate) (k : ℕ) → giop_fate ids f ≡ fates.Arm k → k ≤ length ids
arm_few ids giop_reply.answer k e =
    let none : 0 ≡ k = cc in
    omega (arith, none)
arm_few ids (giop_reply.user id) k e =
    let h = below (bytes_eq id) 1 k ids (found_at id (position_from (bytes_eq id) 1 ids) k e) in
    omega (arith, h)
arm_few ids (giop_reply.system id minor completion) k e = absurd cc

-- ---- the arms that replies tell

module _ (b : Binding) (op : ℕ) (i : PlainInterface) (p : PlainOperation) (o : List ℕ) (t : Heard) (n : ℕ) (arm : t.fate ≡ fates.Arm n)
  where
    giop_few : (k : Back) → IsCdr k → slice_get (operations_in k b.unit.interfaces) op ≡ Some (i, p) → RepliesInOrder b op o t
        → n ≤ length p.raises
    giop_few k cdr is (r, used, starts, reported) =
        let most = arm_few (target_of b op).ids r.fate n (ap (λ (x : Heard). x.fate) reported ∙ arm) in
        omega (arith, most, many_ids k cdr b op i p is)

    few_over : (k : Back) → exceptions b op ≡ length p.raises → slice_get (operations_in k b.unit.interfaces) op ≡ Some (i, p)
        → RepliesOver k b op o t → n ≤ length p.raises
    few_over back.Xdr many is (r, (reply, used, (within, (x, y, split, xid, (z, w, split', type, fate))), same), reported) =
        let told : fate_of [] (xdr_status reply.fate) ≡ fates.Arm n =
        ap (λ (h : ReplyHead). fate_of [] h.status) same ∙ ap (λ (x : Heard). x.fate) reported ∙ arm in
        let few = onc_few (exceptions b op) n (0 + length x + length z) w reply.fate fate told in
        omega (arith, few, many)
    few_over back.CdrBig many is begins = giop_few back.CdrBig refl is begins
    few_over back.CdrLittle many is begins = giop_few back.CdrLittle refl is begins
    few_over back.Mach many is (r, (reply, used, (within, (x, y, split, own, (z, w, split', code, after))), same), reported) =
        let told : fate_of [] (mach_status reply.code reply.arm) ≡ fates.Arm n =
        ap (λ (h : ReplyHead). fate_of [] h.status) same ∙ ap (λ (x : Heard). x.fate) reported ∙ arm in
        let few = mach_few (exceptions b op) n reply.code reply.arm (0 + length x + length z) w after told in
        omega (arith, few, many)

pub reported_arm : (b : Binding) (op : ℕ) → IsBinding b → op < length b.ops → (o : List ℕ) (t : Heard) (k : ℕ) → BeginsReply b op o t
    → t.fate ≡ fates.Arm k → HasArm b op k
reported_arm b op stands h o t k begins arm =
    let (i, p, is, same) = are_the_replies b op stands h in
    subst
    (λ (s : Ty).
    IsTrue (is_some (arm_type_in s k))) (sym same) (arm_there (type_faces b.unit) p k
    (few_over b op i p o t k arm b.back (many_raised b op i p is) is begins))
