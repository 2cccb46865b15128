-- The codes of a whole table that receive, by induction on the depth of calls and the node's number.
use Rattle.std.proofs.Common.{◌≡◌, ℕ, zero, suc, ◌<◌, ◌≤◌, List, [], length, Option, Some, slice_get, refl, sym, subst, arith}
use Rattle.mint.specs.declared.node.Node.{Node}
use Rattle.mint.specs.Blank.{depth}
use Rattle.mint.specs.Types.{Array, Ty, type_at, unfolded, level}
use Rattle.mint.proofs.Unfolding.{type_at-level}
use Rattle.mint.proofs.Measuring.{sound_taken, found_below as in_list}
use Rattle.wire_def.specs.declared.encoding.Encoding.{Encoding}
use Rattle.wire_def.specs.declared.encoding.Encoding.TheVariants.{Xdr, CdrBig, CdrLittle, Mach}
use Rattle.wire_def.specs.Grammar.{AreOctets}
use Rattle.wire_def.specs.Reading.{read}
use Rattle.cast_stub.specs.declared.recv.RecvOp.{RecvOp}
use Rattle.cast_stub.specs.RecvBlock.{Recv, code_seen}
use Rattle.cast_stub.specs.Draft.{Draft, fresh}
use Rattle.cast_stub.specs.Fill.{fill, settled}
use Rattle.cast_stub.specs.Runs.{Place, Run, gives, refuses, strays, then_run, if_some}
use Rattle.cast_stub.specs.Subs.{deepest}
use Rattle.cast_stub.specs.Got.{called, sub_at, IsExact}
use Rattle.cast_stub.specs.Traces.{Loops, TracesBy, IsLoop, IsTurned, AllTrace, AllTurned}
use Rattle.wire_def.specs.Places.{IsPlace}
use Rattle.cast_stub.specs.Layouts.{layout_of}
use Rattle.stub_lower.specs.RecvCodes.{array_code, node_code}
use Rattle.stub_lower.specs.RecvLowered.{CodesReceive, CallsReceive}
use Rattle.stub_lower.proofs.Tables as tables
use Rattle.stub_lower.proofs.Tables.{found, depth_some, below, sound, sub_is, code_of, codes_go}
use Rattle.stub_lower.proofs.Agreeing.{Agrees, Settles, agrees-settled}
use Rattle.stub_lower.proofs.RecvEncoded.{LonesRead, xdr_scalar}
use Rattle.stub_lower.proofs.RecvArrays.{ArraysRead, xdr_array}
use Rattle.stub_lower.proofs.RecvCdr.{big_scalar, little_scalar}
use Rattle.stub_lower.proofs.RecvItems.{mach_scalar}
use Rattle.stub_lower.proofs.RecvMach.{mach_array}
use Rattle.stub_lower.proofs.RecvCdrArrays.{big_array, little_array}
use Rattle.stub_lower.proofs.Receiving.{node-reads}
use Rattle.stub_lower.proofs.Exact.{exact}
use Rattle.stub_lower.proofs.Tracing.{array_turned, array_loops, node-traces}

-- the codes of the first nodes
abbrev pub AreLowered : Encoding → List Node → ℕ → List (List RecvOp) → Type 0
AreLowered e = tables.AreLowered code_seen (node_code e)

-- ---- what an encoding gives

lones : (e : Encoding) → LonesRead e
lones Xdr = xdr_scalar
lones CdrBig = big_scalar
lones CdrLittle = little_scalar
lones Mach = mach_scalar

arrays : (e : Encoding) → ArraysRead e
arrays Xdr = xdr_array
arrays CdrBig = big_array
arrays CdrLittle = little_array
arrays Mach = mach_array

module _ (e : Encoding) (nodes : List Node) (subs : List (List RecvOp)) (whole : AreLowered e nodes (length nodes) subs) where
  pub codes_trace : (L : Loops) → ((a : Array) → L a [] (array_code e a)) → (k : ℕ) (b : Recv) → sub_at subs k ≡ Some b
      → TracesBy L (sub_at subs) (type_at nodes k) k [] b
  codes_trace L array =
      codes_go code_seen (node_code e) nodes subs whole (λ (t : Ty) (k : ℕ) (b : Recv). TracesBy L (sub_at subs) t k [] b)
      (node-traces e L array (sub_at subs) (unfolded nodes))

  -- a node's code, where calls may be nested so deep
  node_read : (n k : ℕ) (m : Node) (s : Place) → slice_get nodes k ≡ Some m → depth (type_at nodes k) ≤ suc n → IsPlace e s.pos
      → AreOctets s.left
      → ((i : ℕ) (t : Place) → i < length nodes → depth (type_at nodes i) ≤ n → IsPlace e t.pos → AreOctets t.left
      → Agrees (IsPlace e) Settles (called (sub_at subs) n i (fresh (type_at nodes i)) t) (read e (type_at nodes i) t.pos t.left))
      → Agrees (IsPlace e) Settles (fill (called (sub_at subs) n) (node_code e m) (fresh (type_at nodes k)) s)
      (read e (type_at nodes k) s.pos s.left)
  node_read n k m s is low here oct part =
      let same : type_at nodes k ≡ level (unfolded nodes) m = type_at-level nodes k m (below code_seen (node_code e) nodes subs whole) is in
      subst (λ (t : Ty). Agrees (IsPlace e) Settles (fill (called (sub_at subs) n) (node_code e m) (fresh t) s) (read e t s.pos s.left))
      (sym same)
      (node-reads e (lones e) (arrays e) (unfolded nodes) (called (sub_at subs) n) n k
      (λ (i : ℕ) (t : Place) lt d p o. part i t (omega (arith, lt, in_list nodes k m is)) d p o)
      m s (below code_seen (node_code e) nodes subs whole k m is) (subst (λ (t : Ty). depth t ≤ suc n) same low) here oct)

  call_read : (n k : ℕ) (s : Place) → k < length nodes → depth (type_at nodes k) ≤ n → IsPlace e s.pos → AreOctets s.left
      → Agrees (IsPlace e) Settles (called (sub_at subs) n k (fresh (type_at nodes k)) s) (read e (type_at nodes k) s.pos s.left)
  call_read zero k s lt low here oct = absurd (omega (arith, low, depth_some (type_at nodes k)))
  call_read (suc n) k s lt low here oct =
      let f = found nodes k lt in
      subst (λ (o : Option Recv). Agrees (IsPlace e) Settles (if_some o (λ b. fill (called (sub_at subs) n) b (fresh (type_at nodes k)) s))
      (read e (type_at nodes k) s.pos s.left)) (sym (sub_is code_seen (node_code e) nodes subs whole k f.node f.is))
      (node_read n k f.node s f.is low here oct (λ (i : ℕ) (t : Place) l d p o. call_read n i t l d p o))

  enough : 32 ≤ suc deepest
  unfolding deepest
  enough = omega arith

  pub codes_receive : CodesReceive e nodes subs
  codes_receive k ops is z place oct short =
      let s = code_of code_seen (node_code e) nodes subs whole k ops is in
      let here = sound code_seen (node_code e) nodes subs whole k s.node s.is in
      let shallow : depth (type_at nodes k) ≤ suc deepest = omega (arith, enough, (sound_taken (type_at nodes k) here).shallow) in
      subst
      (λ (b : Recv). IsExact e (type_at nodes k) z.pos z.left (settled (fill (called (sub_at subs) deepest) b (fresh (type_at nodes k)) z)))
      (sym s.made)
      (exact e (type_at nodes k) here z.pos z.left oct short (IsPlace e)
      (settled (fill (called (sub_at subs) deepest) (node_code e s.node) (fresh (type_at nodes k)) z))
      (read e (type_at nodes k) z.pos z.left) refl
      (agrees-settled (IsPlace e) (fill (called (sub_at subs) deepest) (node_code e s.node) (fresh (type_at nodes k)) z)
      (read e (type_at nodes k) z.pos z.left)
      (node_read deepest k s.node z s.is shallow place oct (λ (i : ℕ) (t : Place) l d q y. call_read deepest i t l d q y))))

  alone : (x : Run Draft) → then_run x (λ d t. gives d t) ≡ x
  alone (gives d t) = refl
  alone refuses = refl
  alone strays = refl

  few : 32 ≤ deepest
  unfolding deepest
  few = omega arith

  pub calls_receive : CallsReceive e nodes subs
  calls_receive k ops lt is z place oct short =
      let f = found nodes k lt in
      let here = sound code_seen (node_code e) nodes subs whole k f.node f.is in
      let shallow : depth (type_at nodes k) ≤ deepest = omega (arith, few, (sound_taken (type_at nodes k) here).shallow) in
      let run = called (sub_at subs) deepest k (fresh (type_at nodes k)) z in
      subst
      (λ (b : Recv). IsExact e (type_at nodes k) z.pos z.left (settled (fill (called (sub_at subs) deepest) b (fresh (type_at nodes k)) z)))
      (sym is)
      (subst (λ (x : Run Draft). IsExact e (type_at nodes k) z.pos z.left (settled x)) (sym (alone run))
      (exact e (type_at nodes k) here z.pos z.left oct short (IsPlace e) (settled run) (read e (type_at nodes k) z.pos z.left) refl
      (agrees-settled (IsPlace e) run (read e (type_at nodes k) z.pos z.left) (call_read deepest k z lt shallow place oct))))

-- ---- what is promised of all codes

pub all_receive : (e : Encoding) (nodes : List Node) (subs : List (List RecvOp)) → AreLowered e nodes (length nodes) subs
    → CodesReceive e nodes subs
all_receive e nodes subs whole = codes_receive e nodes subs whole

pub all_trace : (e : Encoding) (nodes : List Node) (subs : List (List RecvOp)) → AreLowered e nodes (length nodes) subs
    → AllTrace nodes subs
all_trace e nodes subs whole = codes_trace e nodes subs whole (λ a. IsLoop) (array_loops e)

pub all_turned : (e : Encoding) (nodes : List Node) (subs : List (List RecvOp)) → AreLowered e nodes (length nodes) subs
    → AllTurned (layout_of e) nodes subs
all_turned e nodes subs whole = codes_trace e nodes subs whole (IsTurned (layout_of e)) (array_turned e)

pub all_calls_receive : (e : Encoding) (nodes : List Node) (subs : List (List RecvOp)) → AreLowered e nodes (length nodes) subs
    → CallsReceive e nodes subs
all_calls_receive e nodes subs whole = calls_receive e nodes subs whole
