-- How many operations the interfaces before one have, by induction on the interfaces.
use Rattle.std.proofs.Common.{◌≡◌, ◌⊎◌, inl, inr, ◌+◌, ◌<◌, ◌≤◌, ℕ, zero, suc, true, false, ltb, ltb-true, ltb-false, List, [], ◌∷◌, map, drop, take, length, get_or, sym, ap, ◌∙◌, arith}
use Rattle.std.specs.List.Sorted.{IsPartitionPoint}
use Rattle.std.proofs.lemmas.List.{length-map, get_or-map}
use Rattle.wire_def.specs.declared.encoding.Back.TheVariants as back
use Rattle.aoi.specs.declared.interfaces.Interface.{Interface}
use Rattle.aoi.specs.Plain.{PlainInterface, plain_interface}
use Rattle.pres.specs.declared.ops.Op.{Op}
use Rattle.pres.specs.Bindings.{Binding, IsBinding}
use Rattle.head_kit.proofs.Named as kit
use Rattle.back_xdr.specs.declared.call.OncCall.{OncCall}
use Rattle.back_xdr.specs.Procedures.{numbers, procedures, homes, before}
use Rattle.back_xdr.specs.Seeking.{is_called, has_number, named_from}
use Rattle.back_xdr.proofs.Counting.{counted, length-procedures}
use Rattle.back_xdr.proofs.Homes.{homes_from, homes_are, below_or, in_own, in_others, many_all, above}

-- those of one more interface
after_more : (k : ℕ) (is : List PlainInterface) (d : PlainInterface) → k < length is
    → before (suc k) is ≡ before k is + length (numbers (get_or is k d))
after_more k [] d h = absurd (omega (arith, h))
after_more zero (i ∷ is) d h = omega (arith, length-procedures i [])
after_more (suc k) (i ∷ is) d h =
    let one : before (suc (suc k)) (i ∷ is) ≡ length (numbers i) + before (suc k) is = length-procedures i (take (suc k) is) in
    let other : before (suc k) (i ∷ is) ≡ length (numbers i) + before k is = length-procedures i (take k is) in
    omega (arith, one, other, after_more k is d (omega (arith, h)))

before_more : (k : ℕ) (is : List PlainInterface) (d : PlainInterface) → k < length is
    → before (k + 1) is ≡ before k is + length (numbers (get_or is k d))
before_more k is d h =
    let next : k + 1 ≡ suc k = omega arith in
    ap (λ (n : ℕ). before n is) next ∙ after_more k is d h

pub before_within : (k : ℕ) (is : List PlainInterface) → before k is ≤ length (procedures is)
before_within zero is = omega arith
before_within (suc k) [] = omega arith
before_within (suc k) (i ∷ is) =
    omega (arith, length-procedures i (take k is), length-procedures i is, before_within k is)

-- their interfaces are below
module _ (k m : ℕ) (i : PlainInterface) (is : List PlainInterface) where
  below_by : (n : ℕ) → n < before (suc m) (i ∷ is)
      → ((d : ℕ) → d < before m is → get_or (homes_from (suc k) is) d 0 < suc k + m)
      → (n < length (numbers i)) ⊎ ((d : ℕ) × (n ≡ length (numbers i) + d)) → get_or (homes_from k (i ∷ is)) n 0 < k + suc m
  below_by n h rest (inl p) = omega (arith, in_own k i is n p)
  below_by n h rest (inr (d, e)) =
      let at : get_or (homes_from k (i ∷ is)) n 0 ≡ get_or (homes_from (suc k) is) d 0 = rw e (in_others k i is d) in
      omega (arith, at, rest d (omega (arith, e, h, length-procedures i (take m is))))

  from_by : (n : ℕ) → before (suc m) (i ∷ is) ≤ n → n < length (homes_from k (i ∷ is))
      → ((d : ℕ) → before m is ≤ d → d < length (homes_from (suc k) is) → suc k + m ≤ get_or (homes_from (suc k) is) d 0)
      → (n < length (numbers i)) ⊎ ((d : ℕ) × (n ≡ length (numbers i) + d)) → k + suc m ≤ get_or (homes_from k (i ∷ is)) n 0
  from_by n h l rest (inl p) = absurd (omega (arith, h, p, length-procedures i (take m is)))
  from_by n h l rest (inr (d, e)) =
      let at : get_or (homes_from k (i ∷ is)) n 0 ≡ get_or (homes_from (suc k) is) d 0 = rw e (in_others k i is d) in
      let far = rest d (omega (arith, e, h, length-procedures i (take m is))) (omega (arith, e, l, many_all k i is)) in
      omega (arith, at, far)

below : (k m : ℕ) (is : List PlainInterface) (n : ℕ) → n < before m is → get_or (homes_from k is) n 0 < k + m
below k zero is n h = absurd (omega (arith, h))
below k (suc m) [] n h = absurd (omega (arith, h))
below k (suc m) (i ∷ is) n h = below_by k m i is n h (below (suc k) m is) (below_or n (length (numbers i)))

-- and those of the others are not
from : (k m : ℕ) (is : List PlainInterface) (n : ℕ) → before m is ≤ n → n < length (homes_from k is) → k + m ≤ get_or (homes_from k is) n 0
from k zero is n h l = omega (arith, above k is n l)
from k (suc m) [] n h l = absurd (omega (arith, l))
from k (suc m) (i ∷ is) n h l = from_by k m i is n h l (from (suc k) m is) (below_or n (length (numbers i)))

-- the place from which on no operation is of an interface below is how many the interfaces below have
nobody : Op
nobody = record { interface = 0; name = []; request = 0; reply = 0; has_reply = false }

module _ (b : Binding) (stands : IsBinding b) (xdr : b.back ≡ back.Xdr) (k p : ℕ) (ops : List Op) (all : ops ≡ b.ops)
    (most : p ≤ length ops)
    (point : IsPartitionPoint (λ (q : Op). ltb q.interface k ≡ true) (λ (q : Op). ltb q.interface k ≡ false) ops p) where
  abbrev is : List PlainInterface
  is = b.unit.interfaces

  same : homes ops ≡ homes_from 0 is
  same = ap homes all ∙ homes_are b stands xdr

  many : length (homes_from 0 is) ≡ length ops
  many = ap length (sym same) ∙ length-map ops (λ (q : Op). q.interface)

  at : (n : ℕ) → n < length ops → get_or (homes_from 0 is) n 0 ≡ (get_or ops n nobody).interface
  at n h = ap (λ (js : List ℕ). get_or js n 0) (sym same) ∙ get_or-map (λ (q : Op). q.interface) ops n nobody 0 h

  within : before k is ≤ length ops
  within = omega (arith, before_within k is, counted b stands xdr, ap length all)

  equal_by : (p < before k is) ⊎ ((d : ℕ) × (p ≡ before k is + d)) → (before k is < p) ⊎ ((d : ℕ) × (before k is ≡ p + d)) → p ≡ before k is
  equal_by (inl h) q =
      let there : p < length ops = omega (arith, h, within) in
      absurd (omega (arith, below 0 k is p h, at p there, ltb-false _ _ (point.1 p nobody (omega arith) there)))
  equal_by (inr (d, e)) (inl h) =
      let there : before k is < length ops = omega (arith, h, most) in
      absurd (omega (
        arith,
        from 0 k is (before k is) (omega arith) (omega (arith, there, many)),
        at (before k is) there,
        ltb-true _ _ (point.0 (before k is) nobody (omega arith) h),
      ))
  equal_by (inr (d, e)) (inr (c, f)) = omega (arith, e, f)

  pub point_is : p ≡ before k is
  point_is = equal_by (below_or p (before k is)) (below_or (before k is) p)

-- ---- the operation that a call names

more_of : (k : ℕ) (is : List Interface) (i : Interface) → k < length is → i ≡ get_or is k i
    → before (k + 1) (map plain_interface is) ≡ before k (map plain_interface is) + length (numbers (plain_interface i))
more_of k is i h e =
    let plain : get_or (map plain_interface is) k (plain_interface i) ≡ plain_interface i =
    get_or-map plain_interface is k i (plain_interface i) h ∙ ap plain_interface (sym e) in
    before_more k (map plain_interface is) (plain_interface i) (omega (arith, h, length-map is plain_interface))
    ∙ ap (λ (j : PlainInterface). before k (map plain_interface is) + length (numbers j)) plain

-- the interfaces up to one have no more than all
pub before_room : (k : ℕ) (is : List Interface) (i : Interface) → k < length is → i ≡ get_or is k i
    → before k (map plain_interface is) + length (numbers (plain_interface i)) ≤ length (procedures (map plain_interface is))
before_room k is i h e = omega (arith, more_of k is i h e, before_within (k + 1) (map plain_interface is))

-- past an interface that is not called
pub named_past : (k : ℕ) (is : List Interface) (i : Interface) (c : OncCall) → k < length is → i ≡ get_or is k i
    → is_called c (plain_interface i) ≡ false
    → named_from (before k (map plain_interface is)) (map plain_interface (drop k is)) c
    ≡ named_from (before (k + 1) (map plain_interface is)) (map plain_interface (drop (k + 1) is)) c
named_past k is i c h e other =
    kit.named_past numbers (is_called c) (has_number c) plain_interface (before k (map plain_interface is)) k is i h e other
    ∙ ap (λ (n : ℕ). named_from n (map plain_interface (drop (k + 1) is)) c) (sym (more_of k is i h e))
