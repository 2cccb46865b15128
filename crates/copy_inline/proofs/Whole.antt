-- The code that is given, as the code of a number with its calls replaced.
use Rattle.std.proofs.Common.{◌≡◌, ◌⊎◌, inl, inr, ℕ, suc, ◌+◌, ◌<◌, ◌≤◌, List, [], length, get_or, Option, Some, None, option_map, sym, ap, subst, ◌∙◌, arith}
use Rattle.std.specs.Prelude.{slice_get}
use Rattle.std.proofs.lemmas.Option.{slice_get_cases}
use Rattle.mint.specs.Types.{Ty, type_at}
use Rattle.mint.specs.Blank.{depth}
use Rattle.mint.specs.Sound.{IsSound}
use Rattle.mint.proofs.Measuring.{sound_taken}
use Rattle.cast_stub.specs.declared.send.SendOp.{SendOp}
use Rattle.cast_stub.specs.declared.send.SendCode.{SendCode}
use Rattle.cast_stub.specs.Block.{Block, code_seen}
use Rattle.cast_stub.specs.Append.{append, rebase}
use Rattle.cast_stub.specs.Steps.{steps}
use Rattle.cast_stub.specs.Parts.{on_some}
use Rattle.cast_stub.specs.Subs.{no_subs, called, deepest, sub_at, calls_of}
use Rattle.cast_stub.specs.CallFree.{HasNoCall}
use Rattle.cast_stub.specs.Follows.{IsLoop, Loops, FollowsBy}
use Rattle.cast_stub.specs.Turned.{IsTurned}
use Rattle.copy_inline.specs.Spliced.{inlined, spliced_or_stop, spliced}
use Rattle.cast_stub.specs.Rowless.{IsRowless, HasNoRow}
use Rattle.cast_stub.proofs.Followed.{through_rowless}
use Rattle.copy_inline.specs.Inlined.{Does, Goes, GoThroughTypes, Turns}
use Rattle.copy_inline.proofs.Blocks.{rebase-none}
use Rattle.copy_inline.proofs.Same.{agrees}
use Rattle.copy_inline.proofs.Free.{inlined_free}
use Rattle.copy_inline.proofs.Followed.{AreKept, goes, loops_kept, turns_kept}

-- the code of a number, after nothing and for the whole
pub plainly : (subs : List (List SendOp)) (k n : ℕ) (empty out : List SendOp) (here : List ℕ) → n ≡ 1 + deepest → empty ≡ [] → here ≡ []
    → code_seen out ≡ append (code_seen empty) (rebase here (inlined (sub_at subs) n k))
    → code_seen out ≡ inlined (sub_at subs) (suc deepest) k
plainly subs k n empty out here e f g is =
    let levels : n ≡ suc deepest = omega (arith, e) in
    is ∙ ap (λ (x : List SendOp). append (code_seen x) (rebase here (inlined (sub_at subs) n k))) f
    ∙ ap (λ (q : List ℕ). rebase q (inlined (sub_at subs) n k)) g
    ∙ rebase-none (inlined (sub_at subs) n k) ∙ ap (λ (m : ℕ). inlined (sub_at subs) m k) levels

pub does : (subs : List (List SendOp)) (k : ℕ) (code : SendCode) → code_seen code.ops ≡ inlined (sub_at subs) (suc deepest) k
    → Does subs k code
does subs k code is ops h v ss there met =
    let own : called (sub_at subs) h (suc deepest) k v ≡ Some ss = ap
    (λ (o : Option (List SendOp)). on_some (option_map code_seen o) (λ b. steps (called (sub_at subs) h deepest) h b v)) there ∙ met in
    ap (λ (b : Block). steps (calls_of code.subs h deepest) h b v) is
    ∙ agrees (sub_at subs) h (calls_of code.subs h deepest) (suc deepest) k v ss own

pub free : (subs : List (List SendOp)) (k : ℕ) (ops : List SendOp) → code_seen ops ≡ inlined (sub_at subs) (suc deepest) k
    → HasNoCall (code_seen ops)
free subs k ops is = subst HasNoCall (sym is) (inlined_free (sub_at subs) (suc deepest) k)

-- the code at a place
pub sub_there : {O B : Type 0} (seen : List O → B) (subs : List (List O)) (k : ℕ) → k < length subs
    → (b : B) × (option_map seen (slice_get subs k) ≡ Some b)
sub_there {O} {B} seen subs k lt = found (slice_get_cases subs k).1 where
  found : ((x : List O) × (k < length subs) × (slice_get subs k ≡ Some x) × (get_or subs k x ≡ x))
      ⊎ ((length subs ≤ k) × (slice_get subs k ≡ None))
      → (b : B) × (option_map seen (slice_get subs k) ≡ Some b)
  found (inl f) = (seen f.0, ap (option_map seen) f.2)
  found (inr n) = absurd (omega (arith, lt, n.0))

module _ (L : Loops) (kept : AreKept L) (subs : List (List SendOp)) (k : ℕ) (ops : List SendOp) (there : k < length subs)
    (is : code_seen ops ≡ inlined (sub_at subs) (suc deepest) k) where
  by : (t : Ty) → IsSound t → ((b : Block) → sub_at subs k ≡ Some b → FollowsBy L (sub_at subs) t k [] b)
      → FollowsBy L no_subs t k [] (code_seen ops)
  unfolding deepest
  by t sound all =
      let sub = sub_there code_seen subs k there in
      let shallow : depth t ≤ 32 = (sound_taken t sound).shallow in
      let made = goes L kept (sub_at subs) t deepest k k [] sub.0 (omega (arith, shallow)) (all sub.0 sub.1) in
      let same : spliced (inlined (sub_at subs) deepest) sub.0 ≡ code_seen ops =
      ap (spliced_or_stop (inlined (sub_at subs) deepest)) (sym sub.1) ∙ sym is in
      subst (FollowsBy L no_subs t k []) same made

pub does_go : (subs : List (List SendOp)) (k : ℕ) (ops : List SendOp) → k < length subs
    → code_seen ops ≡ inlined (sub_at subs) (suc deepest) k → Goes subs k (record { ops = ops; subs = [] })
does_go subs k ops there is nodes sound all = by (λ a. IsLoop) loops_kept subs k ops there is (type_at nodes k) sound (all k)

pub does_turn : (subs : List (List SendOp)) (k : ℕ) (ops : List SendOp) → k < length subs
    → code_seen ops ≡ inlined (sub_at subs) (suc deepest) k → Turns subs k (record { ops = ops; subs = [] })
does_turn subs k ops there is layout nodes sound all =
    by (IsTurned layout) (turns_kept layout) subs k ops there is (type_at nodes k) sound (all k)

-- no codes
nothing_there : (k : ℕ) (b : Block) → sub_at [] k ≡ Some b → IsRowless b
nothing_there k b e = absurd cc

pub does_rowless : (subs : List (List SendOp)) (k : ℕ) (ops : List SendOp) (left : List (List SendOp)) → k < length subs
    → GoThroughTypes subs → code_seen ops ≡ inlined (sub_at subs) (suc deepest) k → left ≡ []
    → HasNoRow (record { ops = ops; subs = left })
does_rowless subs k ops left there given is none =
    let through = does_go subs k ops there is given.0 (given.1 k) given.2 in
    record {
      ops = through_rowless (type_at given.0 k) k [] (code_seen ops) through;
      subs = λ j b e. nothing_there j b (subst (λ (l : List (List SendOp)). sub_at l j ≡ Some b) none e);
    }
