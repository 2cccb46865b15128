-- The code that is given, as the code of a number with its calls replaced.
use Rattle.std.proofs.Common.{◌≡◌, ℕ, suc, ◌+◌, ◌<◌, ◌≤◌, List, [], length, Option, Some, option_map, sym, ap, subst, ◌∙◌, arith}
use Rattle.mint.specs.Types.{Ty, type_at}
use Rattle.mint.specs.Blank.{depth}
use Rattle.mint.specs.Sound.{IsSound}
use Rattle.mint.proofs.Measuring.{sound_taken}
use Rattle.cast_stub.specs.declared.recv.RecvOp.{RecvOp}
use Rattle.cast_stub.specs.declared.recv.RecvCode.{RecvCode}
use Rattle.cast_stub.specs.RecvBlock.{Recv, code_seen}
use Rattle.cast_stub.specs.RecvAppend.{append, rebase}
use Rattle.cast_stub.specs.Subs.{deepest}
use Rattle.cast_stub.specs.Got.{no_subs, called, sub_at, calls_of}
use Rattle.cast_stub.specs.Draft.{Draft, fresh}
use Rattle.cast_stub.specs.Fill.{fill, settled}
use Rattle.cast_stub.specs.Runs.{Run, gives, refuses, strays, if_some}
use Rattle.cast_stub.specs.Runs.{Holds}
use Rattle.copy_inline.specs.RecvCallFree.{HasNoCall}
use Rattle.cast_stub.specs.Traces.{IsLoop, Loops, TracesBy, IsTurned}
use Rattle.copy_inline.specs.RecvSpliced.{inlined, spliced_or_stop, spliced}
use Rattle.copy_inline.specs.RecvInlined.{Does, Goes, Turns}
use Rattle.copy_inline.proofs.Whole.{sub_there}
use Rattle.copy_inline.proofs.RecvBlocks.{rebase-none}
use Rattle.copy_inline.proofs.RecvSame.{agrees}
use Rattle.copy_inline.proofs.RecvFree.{inlined_free}
use Rattle.copy_inline.proofs.RecvFollowed.{AreKept, goes, loops_kept, turns_kept}

-- the code of a number, after nothing and for the whole
pub plainly : (subs : List (List RecvOp)) (k n : ℕ) (empty out : List RecvOp) (here : List ℕ) → n ≡ 1 + deepest → empty ≡ [] → here ≡ []
    → code_seen out ≡ append (code_seen empty) (rebase here (inlined (sub_at subs) n k))
    → code_seen out ≡ inlined (sub_at subs) (suc deepest) k
plainly subs k n empty out here e f g is =
    let levels : n ≡ suc deepest = omega (arith, e) in
    is ∙ ap (λ (x : List RecvOp). append (code_seen x) (rebase here (inlined (sub_at subs) n k))) f
    ∙ ap (λ (q : List ℕ). rebase q (inlined (sub_at subs) n k)) g
    ∙ rebase-none (inlined (sub_at subs) n k) ∙ ap (λ (m : ℕ). inlined (sub_at subs) m k) levels

held_inside : (x : Run Draft) → Holds (settled x) → Holds x
held_inside (gives d t) h = tt
held_inside refuses h = tt
held_inside strays h = h

pub does : (subs : List (List RecvOp)) (k : ℕ) (code : RecvCode) → code_seen code.ops ≡ inlined (sub_at subs) (suc deepest) k
    → Does subs k code
does subs k code is ops t s there held =
    let own : called (sub_at subs) (suc deepest) k (fresh t) s ≡ fill (called (sub_at subs) deepest) (code_seen ops) (fresh t) s =
    ap (λ (o : Option (List RecvOp)). if_some (option_map code_seen o) (λ b. fill (called (sub_at subs) deepest) b (fresh t) s))
    there in
    let inside : Holds (called (sub_at subs) (suc deepest) k (fresh t) s) =
    subst Holds (sym own) (held_inside (fill (called (sub_at subs) deepest) (code_seen ops) (fresh t) s) held) in
    ap (λ (b : Recv). settled (fill (calls_of code.subs deepest) b (fresh t) s)) is
    ∙ ap settled (agrees (sub_at subs) (calls_of code.subs deepest) (suc deepest) k (fresh t) s inside ∙ own)

pub free : (subs : List (List RecvOp)) (k : ℕ) (ops : List RecvOp) → code_seen ops ≡ inlined (sub_at subs) (suc deepest) k
    → HasNoCall (code_seen ops)
free subs k ops is = subst HasNoCall (sym is) (inlined_free (sub_at subs) (suc deepest) k)

module _ (L : Loops) (kept : AreKept L) (subs : List (List RecvOp)) (k : ℕ) (ops : List RecvOp) (there : k < length subs)
    (is : code_seen ops ≡ inlined (sub_at subs) (suc deepest) k) where
  by : (t : Ty) → IsSound t → ((b : Recv) → sub_at subs k ≡ Some b → TracesBy L (sub_at subs) t k [] b)
      → TracesBy L no_subs t k [] (code_seen ops)
  unfolding deepest
  by t sound all =
      let sub = sub_there code_seen subs k there in
      let shallow : depth t ≤ 32 = (sound_taken t sound).shallow in
      let made = goes L kept (sub_at subs) t deepest k k [] sub.0 (omega (arith, shallow)) (all sub.0 sub.1) in
      let same : spliced (inlined (sub_at subs) deepest) sub.0 ≡ code_seen ops =
      ap (spliced_or_stop (inlined (sub_at subs) deepest)) (sym sub.1) ∙ sym is in
      subst (TracesBy L no_subs t k []) same made

pub does_go : (subs : List (List RecvOp)) (k : ℕ) (ops : List RecvOp) → k < length subs
    → code_seen ops ≡ inlined (sub_at subs) (suc deepest) k → Goes subs k (record { ops = ops; subs = [] })
does_go subs k ops there is nodes sound all = by (λ a. IsLoop) loops_kept subs k ops there is (type_at nodes k) sound (all k)

pub does_turn : (subs : List (List RecvOp)) (k : ℕ) (ops : List RecvOp) → k < length subs
    → code_seen ops ≡ inlined (sub_at subs) (suc deepest) k → Turns subs k (record { ops = ops; subs = [] })
does_turn subs k ops there is layout nodes sound all =
    by (IsTurned layout) (turns_kept layout) subs k ops there is (type_at nodes k) sound (all k)
