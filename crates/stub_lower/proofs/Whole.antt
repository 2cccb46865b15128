-- The codes of a whole table, by induction on the depth of calls and the node's number.
use Rattle.std.proofs.Common.{◌≡◌, ℕ, zero, suc, ◌<◌, ◌≤◌, List, [], length, Option, Some, slice_get, sym, subst, arith}
use Rattle.mint.specs.declared.node.Node.{Node}
use Rattle.mint.specs.Blank.{depth}
use Rattle.mint.specs.Types.{Array, Ty, type_at, unfolded, level}
use Rattle.mint.specs.Typed.{IsOf}
use Rattle.mint.specs.Values.{Val}
use Rattle.mint.proofs.Unfolding.{type_at-level}
use Rattle.mint.proofs.Measuring.{sound_taken, found_below as in_list}
use Rattle.wire_def.specs.declared.encoding.Encoding.{Encoding}
use Rattle.wire_def.specs.declared.encoding.Encoding.TheVariants.{Xdr, CdrBig, CdrLittle, Mach}
use Rattle.wire_def.specs.declared.head.Head.{Head}
use Rattle.wire_def.specs.Send.{send}
use Rattle.cast_stub.specs.declared.send.SendOp.{SendOp}
use Rattle.cast_stub.specs.Parts.{on_some}
use Rattle.cast_stub.specs.Block.{Block, code_seen}
use Rattle.cast_stub.specs.Follows.{IsLoop, Loops, FollowsBy, AllFollow}
use Rattle.cast_stub.specs.Meaning.{wrote}
use Rattle.cast_stub.specs.Steps.{steps}
use Rattle.cast_stub.specs.Subs.{called, deepest, sub_at}
use Rattle.cast_stub.specs.Turned.{IsTurned, AllTurned}
use Rattle.stub_lower.specs.Codes.{array_code, node_code}
use Rattle.cast_stub.specs.Layouts.{layout_of}
use Rattle.stub_lower.specs.Lowered.{CodesSend}
use Rattle.stub_lower.proofs.Encoded.{ScalarsSend, ArraysSend, xdr_scalar, xdr_array}
use Rattle.stub_lower.proofs.Cdr.{big_scalar, big_array, little_scalar, little_array}
use Rattle.stub_lower.proofs.Mach.{mach_scalar, mach_array}
use Rattle.stub_lower.proofs.Tables as tables
use Rattle.stub_lower.proofs.Tables.{found, depth_some, below, sound, sub_is, code_of, codes_go}
use Rattle.stub_lower.proofs.Following.{turned, loops, node-follows}
use Rattle.stub_lower.proofs.Sending.{Is, node-sends}
use Rattle.stub_lower.proofs.Writing.{Sends}

-- the codes of the first nodes
abbrev pub AreLowered : Encoding → List Node → ℕ → List (List SendOp) → Type 0
AreLowered e = tables.AreLowered code_seen (node_code e)

-- ---- what an encoding gives

scalars : (e : Encoding) → ScalarsSend e
scalars Xdr = xdr_scalar
scalars CdrBig = big_scalar
scalars CdrLittle = little_scalar
scalars Mach = mach_scalar

arrays : (e : Encoding) → ArraysSend e
arrays Xdr = xdr_array
arrays CdrBig = big_array
arrays CdrLittle = little_array
arrays Mach = mach_array

module _ (e : Encoding) (nodes : List Node) (subs : List (List SendOp)) (whole : AreLowered e nodes (length nodes) subs) where
  pub codes_follow : (L : Loops) → ((a : Array) → L a [] (array_code e a)) → (k : ℕ) (b : Block) → sub_at subs k ≡ Some b
      → FollowsBy L (sub_at subs) (type_at nodes k) k [] b
  codes_follow L array =
      codes_go code_seen (node_code e) nodes subs whole (λ (t : Ty) (k : ℕ) (b : Block). FollowsBy L (sub_at subs) t k [] b)
      (node-follows e L array (sub_at subs) (unfolded nodes))

  -- a node's code, where calls may be nested so deep
  node_sent : (h : Head) (n k : ℕ) (m : Node) (p : ℕ) (v : Val) → slice_get nodes k ≡ Some m → depth (type_at nodes k) ≤ suc n
      → Is (type_at nodes k) v
      → ((i : ℕ) (q : ℕ) (w : Val) → i < length nodes → depth (type_at nodes i) ≤ n → Is (type_at nodes i) w
      → Sends e (called (sub_at subs) h n i w) q (send e (type_at nodes i) q w))
      → Sends e (steps (called (sub_at subs) h n) h (node_code e m) v) p (send e (type_at nodes k) p v)
  node_sent h n k m p v is low typed part =
      let same : type_at nodes k ≡ level (unfolded nodes) m = type_at-level nodes k m (below code_seen (node_code e) nodes subs whole) is in
      subst (λ (t : Ty). Sends e (steps (called (sub_at subs) h n) h (node_code e m) v) p (send e t p v)) (sym same)
      (node-sends e (scalars e) (arrays e) (unfolded nodes) h (called (sub_at subs) h n) n k
      (λ (i : ℕ) (q : ℕ) (w : Val) lt d ty. part i q w (omega (arith, lt, in_list nodes k m is)) d ty)
      m p v (below code_seen (node_code e) nodes subs whole k m is) (subst (λ (t : Ty). depth t ≤ suc n) same low) (subst (λ (t : Ty).
      IsOf t v) same typed.0)
      typed.1)

  call_sent : (h : Head) (n k : ℕ) (p : ℕ) (v : Val) → k < length nodes → depth (type_at nodes k) ≤ n → Is (type_at nodes k) v
      → Sends e (called (sub_at subs) h n k v) p (send e (type_at nodes k) p v)
  call_sent h zero k p v lt low typed = absurd (omega (arith, low, depth_some (type_at nodes k)))
  call_sent h (suc n) k p v lt low typed =
      let f = found nodes k lt in
      subst (λ (o : Option Block). Sends e (on_some o (λ b. steps (called (sub_at subs) h n) h b v)) p (send e (type_at nodes k) p v))
      (sym (sub_is code_seen (node_code e) nodes subs whole k f.node f.is))
      (node_sent h n k f.node p v f.is low typed (λ (i : ℕ) (q : ℕ) (w : Val) l d ty. call_sent h n i q w l d ty))

  enough : 32 ≤ suc deepest
  unfolding deepest
  enough = omega arith

  pub codes_send : CodesSend e nodes subs
  codes_send k ops is h v p place typed =
      let s = code_of code_seen (node_code e) nodes subs whole k ops is in
      let shallow : depth (type_at nodes k) ≤ suc deepest =
      omega (arith, enough, (sound_taken (type_at nodes k) (sound code_seen (node_code e) nodes subs whole k s.node s.is)).shallow) in
      subst (λ (b : Block). on_some (steps (called (sub_at subs) h deepest) h b v) (wrote p []) ≡ Some (send e (type_at nodes k) p v))
      (sym s.made)
      ((node_sent h deepest k s.node p v s.is shallow (typed.is_of, typed.light)
      (λ (i : ℕ) (q : ℕ) (w : Val) l d ty. call_sent h deepest i q w l d ty) place).1 p [] (omega arith))

-- ---- what is promised of all codes

pub all_send : (e : Encoding) (nodes : List Node) (subs : List (List SendOp)) → AreLowered e nodes (length nodes) subs
    → CodesSend e nodes subs
all_send e nodes subs whole = codes_send e nodes subs whole

pub all_follow : (e : Encoding) (nodes : List Node) (subs : List (List SendOp)) → AreLowered e nodes (length nodes) subs
    → AllFollow nodes subs
all_follow e nodes subs whole = codes_follow e nodes subs whole (λ a. IsLoop) (loops e)

pub all_turned : (e : Encoding) (nodes : List Node) (subs : List (List SendOp)) → AreLowered e nodes (length nodes) subs
    → AllTurned (layout_of e) nodes subs
all_turned e nodes subs whole = codes_follow e nodes subs whole (IsTurned (layout_of e)) (turned e)
