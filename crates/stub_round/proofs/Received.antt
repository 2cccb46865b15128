-- Sound code that is inlined and run.
use Rattle.std.proofs.Common.{◌≡◌, ◌⊎◌, inl, inr, ℕ, ◌<◌, ◌≤◌, List, length, get_or, drop, Some, None, sym, subst, arith, length-drop}
use Rattle.std.specs.Prelude.{slice_get}
use Rattle.std.proofs.lemmas.Option.{slice_get_cases}
use Rattle.kit_base.specs.Limits.{longest_message}
use Rattle.mint.specs.declared.node.Node.{Node}
use Rattle.mint.specs.Types.{Ty, type_at}
use Rattle.mint.specs.Values.{Val}
use Rattle.wire_def.specs.declared.encoding.Encoding.{Encoding}
use Rattle.wire_def.specs.Grammar.{AreOctets}
use Rattle.wire_def.specs.Places.{IsPlace}
use Rattle.raw_buf.specs.View.{View}
use Rattle.cast_stub.specs.declared.recv.RecvOp.{RecvOp}
use Rattle.cast_stub.specs.declared.recv.RecvCode.{RecvCode}
use Rattle.cast_stub.specs.Runs.{Run, gives, refuses, strays, Holds}
use Rattle.cast_stub.specs.Got.{received, IsExact, IsSoundCode}
use Rattle.stub_lower.specs.RecvLowered.{CodesReceive}
use Rattle.copy_inline.specs.RecvInlined.{Does}
use Rattle.stub_receiver.specs.Ran.{place_of}

code_there : (subs : List (List RecvOp)) (k : ℕ) → k < length subs → (ops : List RecvOp) × (slice_get subs k ≡ Some ops)
code_there subs k lt = found (slice_get_cases subs k).1 where
  found : ((x : List RecvOp) × (k < length subs) × (slice_get subs k ≡ Some x) × (get_or subs k x ≡ x))
      ⊎ ((length subs ≤ k) × (slice_get subs k ≡ None))
      → (ops : List RecvOp) × (slice_get subs k ≡ Some ops)
  found (inl f) = (f.0, f.2)
  found (inr n) = absurd (omega (arith, lt, n.0))

exact_holds : (e : Encoding) (t : Ty) (p : ℕ) (o : List ℕ) (x : Run Val) → IsExact e t p o x → Holds x
exact_holds e t p o (gives v s) h = tt
exact_holds e t p o refuses h = tt
exact_holds e t p o strays h = h

-- code that does what a sound code does is sound
pub kept : (e : Encoding) (nodes : List Node) (subs : List (List RecvOp)) (id : ℕ) (code : RecvCode) → id < length subs
    → CodesReceive e nodes subs → Does subs id code
    → IsSoundCode e (type_at nodes id) (IsPlace e) code
kept e nodes subs id code lt sound same s place oct short =
    let there = code_there subs id lt in
    let first = sound id there.0 there.1 s place oct short in
    let holds = exact_holds e (type_at nodes id) s.pos s.left (received (record { ops = there.0; subs = subs }) (type_at nodes id) s)
    first in
    subst (IsExact e (type_at nodes id) s.pos s.left) (sym (same there.0 (type_at nodes id) s there.1 holds)) first

module _ (e : Encoding) (t : Ty) (code : RecvCode) (v : View) (sound : IsSoundCode e t (IsPlace e) code) (place : IsPlace e v.pos)
    (oct : AreOctets (drop v.pos v.octets)) (within : v.pos ≤ length v.octets) (short : length v.octets ≤ longest_message) where
  pub is_exact : IsExact e t v.pos (drop v.pos v.octets) (received code t (place_of v))
  is_exact = sound (place_of v) place oct (omega (arith, length-drop v.pos v.octets, within, short))

  pub code_holds : Holds (received code t (place_of v))
  code_holds = exact_holds e t v.pos (drop v.pos v.octets) (received code t (place_of v)) is_exact
