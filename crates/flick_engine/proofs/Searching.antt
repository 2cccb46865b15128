-- What messages are whose heads are not those of calls, over each back end, and calls of which more is read.
use Rattle.std.proofs.Common.{◌≡◌, ℕ, List, length, refl, sym, ◌∙◌, subst}
use Rattle.std.specs.Prelude.{◌↔◌, Result, Ok, Err}
use Rattle.wire_def.specs.declared.encoding.Back.{Back}
use Rattle.wire_def.specs.declared.encoding.Back.TheVariants as back
use Rattle.wire_def.specs.declared.fault.HeadErr.{HeadErr}
use Rattle.wire_def.specs.declared.head.Head.{Head}
use Rattle.wire_def.specs.declared.head.Order.{Order}
use Rattle.wire_def.specs.declared.head.Order.TheVariants.{Big, Little}
use Rattle.head_kit.specs.declared.call_head.CallHead.{CallHead}
use Rattle.pres.specs.Bindings.{Binding}
use Rattle.back_xdr.specs.declared.call.OncCall.{OncCall}
use Rattle.back_xdr.specs.Reported as onc
use Rattle.giop_head.specs.declared.header.HeadKind.TheVariants.{Requests}
use Rattle.giop_head.specs.Heads.{StopsWith}
use Rattle.giop_head.specs.Printed.{header_octets, then_long}
use Rattle.giop_head.specs.Reported.{requested, BeginsCall}
use Rattle.giop_head.proofs.Lawful.{heads_are_single}
use Rattle.giop_head.proofs.Ways.{asks_requests}
use Rattle.back_mach.specs.declared.call.MachCall.{MachCall}
use Rattle.back_mach.specs.Reported as mach
use Rattle.flick_engine.specs.Backs.{Begins, BeginsOver}

-- a result is not both
pub ok_or_err : {A E : Type 0} (r : Result A E) (x : A) (e : E) → r ≡ Ok x → r ≡ Err e → ⊥
ok_or_err r x e good bad = cc (sym good ∙ bad)

-- ---- calls of which more is read

pub onc_call : (b : Binding) (o : List ℕ) (c : CallHead) (r : Result OncCall HeadErr) → b.back ≡ back.Xdr → Begins b o c
    → ((call : OncCall) → (r ≡ Ok call) ↔ onc.BeginsCall o call) → (call : OncCall) × (r ≡ Ok call)
onc_call b o c r is begins spells =
    let (call, starts, reported) = subst (λ (k : Back). BeginsOver k b o c) is begins in
    (call, (spells call).1 starts)

pub mach_call : (b : Binding) (o : List ℕ) (c : CallHead) (r : Result MachCall HeadErr) → b.back ≡ back.Mach → Begins b o c
    → ((call : MachCall) → (r ≡ Ok call) ↔ mach.BeginsCall o call) → (call : MachCall) × (r ≡ Ok call)
mach_call b o c r is begins spells =
    let (call, starts, reported) = subst (λ (k : Back). BeginsOver k b o c) is begins in
    (call, (spells call).1 starts)

-- ---- a message that is not a request is not one among those that ask either

pub not_a_request : (o : List ℕ) (e : HeadErr) (head : Head) (key name : List ℕ) (used m : ℕ) → StopsWith Requests o e
    → BeginsCall o (requested head key name used m) → ⊥
not_a_request o e head key name used m stops begins =
    let (t, (x, n, starts, reported)) = asks_requests o head key name used m begins in
    (heads_are_single Requests o).not_both x n e starts stops

-- ---- the answer to a search

pub locate_length : (m : ℕ) (r : Order) (id here : ℕ) → length (then_long r here (then_long r id (header_octets m r 4))) ≡ 20
locate_length m Big id here = refl
locate_length m Little id here = refl
