-- How many elements a value has: at most the greatest number of its node, and numbers of its kind.
use Rattle.std.proofs.Common.{◌≡◌, ℕ, suc, ◌≤◌, ℤ, List, [], ◌∷◌, length, map, Option, Some, refl, sym, ap, ◌∙◌, subst, arith}
use Rattle.mint.specs.declared.kind.Kind.{Kind}
use Rattle.mint.specs.declared.kind.Count.{Count}
use Rattle.mint.specs.declared.kind.Count.TheVariants.{Any, AtMost, Exactly}
use Rattle.mint.specs.declared.node.Node.{Node}
use Rattle.mint.specs.declared.node.Node.TheVariants as node
use Rattle.mint.specs.Kinds.{Allows}
use Rattle.mint.specs.Values.{Val, num, row, items, Vals, vals_of, count, row_in}
use Rattle.cast_stub.specs.Parts.{elements_in, length_in}
use Rattle.stub_flat.specs.Places.{row_kind, most_of, greatest}
use Rattle.stub_flat.proofs.PartsTyped.{IsOfNode, row_part}
use Rattle.stub_cover.proofs.Rooms.{some_same}

count_numbers : (ns : List ℤ) → count (vals_of (map num ns)) ≡ length ns
count_numbers [] = refl
count_numbers (n ∷ ns) = ap suc (count_numbers ns)

pub length_elements : (v : Val) (vs : Vals) → elements_in v ≡ Some vs → length_in v ≡ Some (count vs)
length_elements (items xs) vs e = ap (λ (x : Vals). Some (count x)) (some_same xs vs e)
length_elements (row k ns) vs e =
    ap (λ (n : ℕ). Some n) (sym (count_numbers ns)) ∙ ap (λ (x : Vals). Some (count x)) (some_same (vals_of (map num ns)) vs e)
length_elements _ vs e = absurd cc

pub length_row : (v : Val) (r : Kind × List ℤ) → row_in v ≡ Some r → length_in v ≡ Some (length r.1)
length_row (row k ns) r e = let same : (k, ns) ≡ r = cc in ap (λ (x : Kind × List ℤ). Some (length x.1)) same
length_row _ r e = absurd cc

allowed : (c : Count) (l n : ℕ) → Allows c l → most_of c ≡ Some n → l ≤ n
allowed Any l n h e = absurd cc
allowed (AtMost k) l n h e = let same : k ≡ n = some_same k n e in omega (arith, same, h.0)
allowed (Exactly k) l n h e = let same : k ≡ n = some_same k n e in omega (arith, same, h)

-- a length is at most the greatest of its type
pub few : (N : List Node) (o : Option Node) (v : Val) (m n : ℕ) → IsOfNode N o v → length_in v ≡ Some m → greatest o ≡ Some n → m ≤ n
few N (Some (node.Row k c)) (row k' ns) m n h l e =
    subst (λ (x : ℕ). x ≤ n) (some_same (length ns) m l) (allowed c (length ns) n h.1 e)
few N (Some (node.Text c)) (row k' ns) m n h l e =
    subst (λ (x : ℕ). x ≤ n) (some_same (length ns) m l) (allowed c (length ns) n h.1 e)
few N (Some (node.Items i c)) (items vs) m n h l e =
    subst (λ (x : ℕ). x ≤ n) (some_same (count vs) m l) (allowed c (count vs) n h.0 e)
few N (Some (node.Row k c)) _ m n h l e = absurd h
few N (Some (node.Text c)) _ m n h l e = absurd h
few N (Some (node.Items i c)) _ m n h l e = absurd h
few N _ v m n h l e = absurd cc

-- the numbers of a row are of its node's kind
pub kind_known : (N : List Node) (o : Option Node) (v : Val) (r : Kind × List ℤ) (k : Kind) → IsOfNode N o v → row_in v ≡ Some r
    → row_kind o ≡ Some k → r.0 ≡ k
kind_known N o v r k h e f =
    let t = row_part N o k v f h in
    let same : r ≡ (k, t.numbers) = some_same r (k, t.numbers) (sym e ∙ ap row_in t.is) in
    ap (λ (x : Kind × List ℤ). x.0) same
