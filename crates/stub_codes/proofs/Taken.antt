-- Bodies of calls that are received: how they are laid out, and where they begin.
use Rattle.std.proofs.Common.{◌≡◌, inl, inr, ℕ, ◌+◌, ◌%◌, List, ◌++◌, length, take, replicate, refl, sym, ap, subst, ◌∙◌, arith, length-append, length-take}
use Rattle.std.proofs.lemmas.List.{length-replicate}
use Rattle.wire_def.specs.declared.encoding.Back.{Back}
use Rattle.wire_def.specs.declared.encoding.Back.TheVariants as back
use Rattle.wire_def.specs.declared.encoding.Encoding.{Encoding}
use Rattle.wire_def.specs.declared.encoding.Encoding.TheVariants.{Xdr, Mach}
use Rattle.wire_def.specs.declared.head.Order.{Order}
use Rattle.wire_def.specs.declared.head.Order.TheVariants.{Big, Little}
use Rattle.wire_def.specs.Places.{IsPlace}
use Rattle.wire_def.specs.Scalars.{gap}
use Rattle.head_kit.specs.declared.call_head.CallHead.{CallHead}
use Rattle.pres.specs.Bindings.{Binding}
use Rattle.giop_head.specs.Items.{laid}
use Rattle.back_xdr.specs.declared.call.OncCall.{OncCall}
use Rattle.back_xdr.specs.Auth.{Auth, auth_octets}
use Rattle.back_xdr.specs.Call.{Call, call_octets}
use Rattle.back_xdr.specs.Seeking as xdr_seeking
use Rattle.back_cdr.specs.Seeking as cdr_seeking
use Rattle.back_cdr.specs.Targets.{IsCdr}
use Rattle.back_cdr.proofs.Named.{minor_called}
use Rattle.back_mach.specs.declared.call.MachCall.{MachCall}
use Rattle.back_mach.specs.Header.{SixSpell}
use Rattle.back_mach.specs.Seeking as mach_seeking
use Rattle.stub_codes.specs.Backs.{IsMinorOver, Takes, BeginsOver}
use Rattle.stub_codes.proofs.Leading.{minor_over}
use Rattle.stub_codes.specs.Laws.{BodiesAreTaken}

abbrev IsTaken : Back → CallHead → Type 0
IsTaken k c = Takes k c.encoding × IsPlace c.encoding c.used × IsMinorOver k c.minor

-- ---- ONC

auth_whole : (a : Auth) → length (auth_octets a) % 4 ≡ 0
auth_whole a =
    let n : ℕ = length a.body in
    let zeros : List ℕ = replicate (gap n 4) 0 in
    let pad : length zeros ≡ gap n 4 = length-replicate {A = ℕ} (gap n 4) 0 in
    let body : length (a.body ++ zeros) ≡ n + gap n 4 = length-append a.body zeros ∙ ap (λ (m : ℕ). n + m) pad in
    omega (arith, body)

call_whole : (c : Call) → length (call_octets c) % 4 ≡ 0
call_whole c = omega (arith, length-append (auth_octets c.cred) (auth_octets c.verf), auth_whole c.cred, auth_whole c.verf)

xdr_taken : (b : Binding) (o : List ℕ) (c : CallHead) → xdr_seeking.Calls b o c → IsTaken back.Xdr c
xdr_taken b o c (call, (head, used, begins, is), same) =
    let whole : length (take used o) ≡ length (call_octets head) = ap length begins.1.0 in
    let long : used ≡ length (take used o) = omega (arith, length-take used o, begins.0) in
    let four : used % 4 ≡ 0 = ap (λ (n : ℕ). n % 4) (long ∙ whole) ∙ call_whole head in
    let mine : used ≡ c.used = ap (λ (t : OncCall). t.used) is ∙ ap (λ (t : CallHead). t.used) same in
    let lies : Xdr ≡ c.encoding = ap (λ (t : CallHead). t.encoding) same in (
      inl (sym lies),
      subst (λ (e : Encoding). IsPlace e c.used) lies (subst (λ (n : ℕ). n % 4 ≡ 0) mine four),
      inl (sym (ap (λ (t : CallHead). t.minor) same)),
    )

-- ---- GIOP

big_taken : (r : Order) → Takes back.CdrBig (laid r)
big_taken Big = inl refl
big_taken Little = inr refl

little_taken : (r : Order) → Takes back.CdrLittle (laid r)
little_taken Big = inr refl
little_taken Little = inl refl

laid_placed : (r : Order) (n : ℕ) → IsPlace (laid r) n
laid_placed Big n = tt
laid_placed Little n = tt

cdr_taken : (k : Back) → IsCdr k → ((r : Order) → Takes k (laid r)) → (b : Binding) (o : List ℕ) (c : CallHead)
    → cdr_seeking.Calls b o c → IsTaken k c
cdr_taken k cdr takes b o c (reported, begins, same) =
    let lies : laid reported.head.order ≡ c.encoding = ap (λ (t : CallHead). t.encoding) same in (
      subst (λ (e : Encoding). Takes k e) lies (takes reported.head.order),
      subst (λ (e : Encoding). IsPlace e c.used) lies
          (laid_placed reported.head.order c.used),
      minor_over k c.minor cdr (minor_called b o c (reported, begins, same)),
    )

-- ---- Mach

mach_taken : (b : Binding) (o : List ℕ) (c : CallHead) → mach_seeking.Calls b o c → IsTaken back.Mach c
unfolding SixSpell
mach_taken b o c (call, (head, used, begins, is), same) =
    let whole : length (take used o) ≡ 24 = ap length begins.1.0.0.0 in
    let long : used ≡ length (take used o) = omega (arith, length-take used o, begins.0) in
    let four : used % 4 ≡ 0 = ap (λ (n : ℕ). n % 4) (long ∙ whole) in
    let mine : used ≡ c.used = ap (λ (t : MachCall). t.used) is ∙ ap (λ (t : CallHead). t.used) same in
    let lies : Mach ≡ c.encoding = ap (λ (t : CallHead). t.encoding) same in (
      inl (sym lies),
      subst (λ (e : Encoding). IsPlace e c.used) lies (subst (λ (n : ℕ). n % 4 ≡ 0) mine four),
      inl (sym (ap (λ (t : CallHead). t.minor) same)),
    )

-- ---- all of them

over : (k : Back) (b : Binding) (o : List ℕ) (c : CallHead) → BeginsOver k b o c → IsTaken k c
over back.Xdr b o c h = xdr_taken b o c h
over back.CdrBig b o c h = cdr_taken back.CdrBig refl big_taken b o c h
over back.CdrLittle b o c h = cdr_taken back.CdrLittle refl little_taken b o c h
over back.Mach b o c h = mach_taken b o c h

pub taken : BodiesAreTaken
taken b o c h = over b.back b o c h
