-- One more field, element or arm.
use Rattle.std.proofs.Common.{◌≡◌, ℕ, suc, ◌+◌, ◌<◌, ◌≤◌, ℤ, List, [], ◌∷◌, ◌++◌, length, get_or, drop, Option, None, Some, IsTrue, refl, sym, ap, ◌∙◌, arith, add-one, int_eq, Bool, true, false, cond, append_assoc, length-append}
use Rattle.std.proofs.Common.{zero}
use Rattle.std.specs.List.{AllByRecursion}
use Rattle.std.proofs.Math.Seq.{drop-cons}
use Rattle.mint.specs.declared.kind.Kind.{Kind}
use Rattle.mint.specs.declared.kind.Count.{Count}
use Rattle.mint.specs.Values.{Val, void, num, row, group, items, arm, absent, present, row_in, seen, all_seen}
use Rattle.mint.specs.Types.{Ty, at, fields_at, array_type, row_of}
use Rattle.mint.specs.Typed.{IsOf, IsArray, AreOf}
use Rattle.std.proofs.lemmas.List.{drop_all}
use Rattle.mint.specs.declared.value.Value.{Value}
use Rattle.wire_def.specs.declared.encoding.Encoding.{Encoding}
use Rattle.wire_def.specs.Send.{send, send_fields, send_each}
use Rattle.mint.proofs.Arms.{arm_below}
use Rattle.mint.proofs.Fitting.{count-all_seen, are_many}
use Rattle.plain_wire.proofs.Arms.{arm_typed, arm_none, arm_sent}
use Rattle.std.proofs.lemmas.Int.{to_z-of_z}
use Rattle.std.proofs.lemmas.List.{append-nil}

pub are_more : (us : List Ty) (is : List ℕ) (vs : List Value) (k : ℕ) (d : Value) → k < length is → k < length vs
    → AreOf (fields_at us (drop k is)) (all_seen (drop k vs))
    → IsOf (at us (get_or is k 0)) (seen (get_or vs k d)) × AreOf (fields_at us (drop (k + 1) is)) (all_seen (drop (k + 1) vs))
are_more us is vs k d h j p = rw add-one (rw (drop-cons is k 0, drop-cons vs k d) at p)

pub fields_left : (e : Encoding) (us : List Ty) (is : List ℕ) (vs : List Value) (k p : ℕ) (d : Value) → k < length is → k < length vs
    → send_fields e (fields_at us (drop k is)) p (all_seen (drop k vs))
    ≡ send e (at us (get_or is k 0)) p (seen (get_or vs k d)) ++ send_fields e (fields_at us (drop (k + 1) is))
    (p + length (send e (at us (get_or is k 0)) p (seen (get_or vs k d)))) (all_seen (drop (k + 1) vs))
unfolding send
fields_left e us is vs k p d h j = rw (add-one, drop-cons is k 0, drop-cons vs k d) refl

pub each_left : (one : ℕ → Val → List ℕ) (vs : List Value) (k p : ℕ) (d : Value) → k < length vs
    → send_each one p (all_seen (drop k vs))
    ≡ one p (seen (get_or vs k d)) ++ send_each one (p + length (one p (seen (get_or vs k d)))) (all_seen (drop (k + 1) vs))
each_left one vs k p d h = rw (add-one, drop-cons vs k d) refl

pub are_here : (us : List Ty) (is : List ℕ) (vs : List Value) (k : ℕ) (v : Value)
    → AreOf (fields_at us (drop k is)) (all_seen (drop k vs)) → k < length is → k < length vs → v ≡ get_or vs k v
    → IsOf (at us (get_or is k 0)) (seen v)
are_here us is vs k v p h j same = rw same (are_more us is vs k v h j p).0

pub fields_none : (e : Encoding) (us : List Ty) (is : List ℕ) (vs : List Value) (k p : ℕ) → length is ≤ k
    → send_fields e (fields_at us (drop k is)) p (all_seen (drop k vs)) ≡ []
unfolding send
fields_none e us is vs k p h = rw (drop_all k is h) refl

pub each_none : (one : ℕ → Val → List ℕ) (vs : List Value) (k p : ℕ) → length vs ≤ k → send_each one p (all_seen (drop k vs)) ≡ []
each_none one vs k p h = rw (drop_all k vs h) refl

-- a row of the type
pub row_typed : (t : Ty) (v : Val) (k l : Kind) (c : Count) (ns : List ℤ) → t ≡ array_type (row_of l c) → Some (k, ns) ≡ row_in v → IsOf t v
    → IsArray (row_of l c) k ns
row_typed t (row k' ns') k l c ns is there h =
    let pair : (k, ns) ≡ (k', ns') = cc in
    let one : k ≡ k' = ap (λ (x : Kind × List ℤ). x.0) pair in
    let two : ns ≡ ns' = ap (λ (x : Kind × List ℤ). x.1) pair in
    let typed : IsArray (row_of l c) k' ns' = rw is at h in
    rw (one, two) typed
row_typed t void k l c ns is there h = absurd cc
row_typed t (num n) k l c ns is there h = absurd cc
row_typed t (group vs) k l c ns is there h = absurd cc
row_typed t (items vs) k l c ns is there h = absurd cc
row_typed t (arm n v) k l c ns is there h = absurd cc
row_typed t absent k l c ns is there h = absurd cc
row_typed t (present v) k l c ns is there h = absurd cc

pub ruleset values = (
  to_z-of_z,
  append-nil,
  append_assoc,
  length-append,
  fields_none,
  each_none,
  count-all_seen,
  are_many,
  are_here,
  arm_typed,
  arm_none,
  arm_sent,
  arm_below,
)

pub all_at : (k : ℕ) (is : List ℕ) (i : ℕ) → i < length is → AllByRecursion (λ x. x < k) is → get_or is i 0 < k
all_at k [] i h p = absurd (omega arith)
all_at k (x ∷ is) zero h p = p.0
all_at k (x ∷ is) (suc i) h p = all_at k is i (omega arith) p.1
