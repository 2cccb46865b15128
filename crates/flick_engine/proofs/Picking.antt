-- What is picked among the names that an engine keeps over CDR.
use Rattle.std.proofs.Common.{◌≡◌, ℕ, List}
use Rattle.std.specs.Prelude.{Result, Ok, Err, IfOk, IfErr}
use Rattle.std.specs.List.{position_from}
use Rattle.std.specs.Str.{bytes_eq}
use Rattle.wire_def.specs.declared.encoding.Back.{Back}
use Rattle.wire_def.specs.declared.encoding.Back.TheVariants as back
use Rattle.wire_def.specs.declared.fault.HeadErr.{HeadErr}
use Rattle.head_kit.specs.declared.call_head.CallHead.{CallHead}
use Rattle.pres.specs.Bindings.{Binding}
use Rattle.giop_head.specs.declared.header.HeadKind.TheVariants.{Requests}
use Rattle.giop_head.specs.Heads.{StopsWith}
use Rattle.back_cdr.specs.declared.names.Names.{Names}
use Rattle.back_cdr.specs.Names.{AreNamesOver, raise_of}
use Rattle.back_cdr.specs.Seeking.{Calls}
use Rattle.back_cdr.specs.Targets.{IsCdr}
use Rattle.back_cdr.proofs.Raising.{raise_found}
use Rattle.flick_engine.specs.Backs.{BeginsOver, Stops, ids_over}

begins_over : (k : Back) (b : Binding) (o : List ℕ) (c : CallHead) → IsCdr k → Calls b o c → BeginsOver k b o c
begins_over back.CdrBig b o c cdr h = h
begins_over back.CdrLittle b o c cdr h = h
begins_over back.Xdr b o c cdr h = absurd cc
begins_over back.Mach b o c cdr h = absurd cc

stops_over : (k : Back) (o : List ℕ) (e : HeadErr) → IsCdr k → StopsWith Requests o e → Stops k o e
stops_over back.CdrBig o e cdr h = h
stops_over back.CdrLittle o e cdr h = h
stops_over back.Xdr o e cdr h = absurd cc
stops_over back.Mach o e cdr h = absurd cc

-- what was read of a call is so over its back end
pub call_begins : (k : Back) (b : Binding) (o : List ℕ) (d : Result CallHead HeadErr) → IsCdr k → IfOk d (λ c. Calls b o c)
    → IfOk d (λ c. BeginsOver k b o c)
call_begins k b o (Ok c) cdr begins = begins_over k b o c cdr begins
call_begins k b o (Err e) cdr begins = tt

-- and its fault
pub call_stops : (k : Back) (o : List ℕ) (d : Result CallHead HeadErr) → IsCdr k → IfErr d (λ e. StopsWith Requests o e)
    → IfErr d (λ e. Stops k o e)
call_stops k o (Ok c) cdr stops = tt
call_stops k o (Err e) cdr stops = stops_over k o e cdr stops

-- an exception that is found is the one that a reply tells
pub raise_over : (k : Back) (b : Binding) (n : Names) (op : ℕ) (id : List ℕ) → IsCdr k → AreNamesOver k b.unit.interfaces n
    → raise_of n op id ≡ position_from (bytes_eq id) 1 (ids_over k b op)
raise_over back.CdrBig b n op id cdr are = raise_found b.unit.interfaces n op id are
raise_over back.CdrLittle b n op id cdr are = raise_found b.unit.interfaces n op id are
raise_over back.Xdr b n op id cdr are = absurd cc
raise_over back.Mach b n op id cdr are = absurd cc
