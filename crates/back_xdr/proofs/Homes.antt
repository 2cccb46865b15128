-- The procedure of an operation is found in the operation's own interface, by induction on the interfaces.
use Rattle.std.proofs.Common.{◌≡◌, ◌≢◌, ◌⊎◌, inl, inr, ◌+◌, ◌-◌, ◌<◌, ◌≤◌, ℕ, zero, suc, true, false, ltb, ltb-true, ltb-false, List, [], ◌∷◌, ◌++◌, map, length, get_or, None, Some, option_map, slice_get, length-append, refl, sym, ap, ◌∙◌, subst, arith}
use Rattle.std.specs.List.Sorted.{IsNonDecreasingBy, IsPartitionPoint}
use Rattle.std.proofs.lemmas.List.{length-map, map-append, get_or-map, get_or_append_left, get_or-append-add}
use Rattle.std.proofs.lemmas.Option.{slice_get-map, same_Some, none-some}
use Rattle.std.proofs.lemmas.Simd.{map-map}
use Rattle.aoi.specs.declared.interfaces.Interface.{Interface}
use Rattle.wire_def.specs.declared.encoding.Back.TheVariants as back
use Rattle.aoi.specs.Plain.{PlainInterface, PlainOperation, plain_interface}
use Rattle.pres.specs.declared.ops.Op.{Op}
use Rattle.pres.specs.Bindings.{Binding, IsBinding}
use Rattle.pres.specs.Faces.{Face, faces}
use Rattle.pres.specs.Offers.{Offer, operations, offer, offer_at, offers, offers_from, type_faces}
use Rattle.back_xdr.specs.declared.procedures.Procedure.{Procedure}
use Rattle.back_xdr.specs.Procedures.{numbers, procedure_in, procedures_of, procedures, procedure_of, homes, IsFirst}

abbrev none : Procedure
none = record { program = 0; version = 0; number = 0 }

-- the interfaces of the operations that interfaces offer, counted from k
abbrev pub homes_from : ℕ → List PlainInterface → List ℕ
homes_from k [] = []
homes_from k (i ∷ is) = map (λ (n : ℕ). k) (numbers i) ++ homes_from (suc k) is

-- ---- numbers that stand side by side

all_same : (k : ℕ) (ns : List ℕ) (n : ℕ) → n < length ns → get_or (map (λ (m : ℕ). k) ns) n 0 ≡ k
all_same k ns n h = get_or-map (λ (m : ℕ). k) ns n 0 0 h

pub below_or : (n m : ℕ) → (n < m) ⊎ ((d : ℕ) × (n ≡ m + d))
below_or n zero = inr (n, omega arith)
below_or zero (suc m) = inl (omega arith)
below_or (suc n) (suc m) = one_more (below_or n m) where
  one_more : (n < m) ⊎ ((d : ℕ) × (n ≡ m + d)) → (suc n < suc m) ⊎ ((d : ℕ) × (suc n ≡ suc m + d))
  one_more (inl h) = inl (omega (arith, h))
  one_more (inr (d, e)) = inr (d, omega (arith, e))

-- the numbers of an interface's operations stand before those of the others
module _ (k : ℕ) (i : PlainInterface) (is : List PlainInterface) where
  abbrev own : ℕ
  own = length (numbers i)

  abbrev of_own : List ℕ
  of_own = map (λ (n : ℕ). k) (numbers i)

  abbrev of_others : List ℕ
  of_others = homes_from (suc k) is

  many_own : length of_own ≡ own
  many_own = length-map (numbers i) (λ (n : ℕ). k)

  pub in_own : (n : ℕ) → n < own → get_or (of_own ++ of_others) n 0 ≡ k
  in_own n h = get_or_append_left of_own of_others 0 n (omega (arith, h, many_own)) ∙ all_same k (numbers i) n h

  pub in_others : (d : ℕ) → get_or (of_own ++ of_others) (own + d) 0 ≡ get_or of_others d 0
  in_others d = rw many_own at (get_or-append-add of_own of_others d 0)

  pub many_all : length (of_own ++ of_others) ≡ own + length of_others
  many_all = omega (arith, many_own, length-append of_own of_others)

-- none is below the first
module _ (k : ℕ) (i : PlainInterface) (is : List PlainInterface) where
  above_by : (n : ℕ) → (n < own k i is) ⊎ ((d : ℕ) × (n ≡ own k i is + d))
      → ((d : ℕ) → d < length (of_others k i is) → suc k ≤ get_or (of_others k i is) d 0)
      → n < length (of_own k i is ++ of_others k i is) → k ≤ get_or (of_own k i is ++ of_others k i is) n 0
  above_by n (inl h) rest long = omega (arith, in_own k i is n h)
  above_by n (inr (d, e)) rest long =
      let there : d < length (of_others k i is) = omega (arith, e, long, many_all k i is) in
      let at : get_or (of_own k i is ++ of_others k i is) n 0 ≡ get_or (of_others k i is) d 0 = rw e (in_others k i is d) in
      omega (arith, at, rest d there)

pub above : (k : ℕ) (is : List PlainInterface) (n : ℕ) → n < length (homes_from k is) → k ≤ get_or (homes_from k is) n 0
above k [] n h = absurd (omega (arith, h))
above k (i ∷ is) n h = above_by k i is n (below_or n (length (numbers i))) (above (suc k) is) h

-- the interfaces rise
module _ (k : ℕ) (i : PlainInterface) (is : List PlainInterface) where
  rises_by : (m n : ℕ) → m ≤ n → n < length (homes_from k (i ∷ is))
      → ((c d : ℕ) → c ≤ d → d < length (of_others k i is) → get_or (of_others k i is) c 0 ≤ get_or (of_others k i is) d 0)
      → (m < own k i is) ⊎ ((c : ℕ) × (m ≡ own k i is + c)) → (n < own k i is) ⊎ ((d : ℕ) × (n ≡ own k i is + d))
      → get_or (homes_from k (i ∷ is)) m 0 ≤ get_or (homes_from k (i ∷ is)) n 0
  rises_by m n le h rest (inl p) q = omega (arith, in_own k i is m p, above k (i ∷ is) n h)
  rises_by m n le h rest (inr (c, e)) (inl q) = absurd (omega (arith, le, e, q))
  rises_by m n le h rest (inr (c, e)) (inr (d, f)) =
      let first : get_or (homes_from k (i ∷ is)) m 0 ≡ get_or (of_others k i is) c 0 = rw e (in_others k i is c) in
      let last : get_or (homes_from k (i ∷ is)) n 0 ≡ get_or (of_others k i is) d 0 = rw f (in_others k i is d) in
      omega (arith, first, last, rest c d (omega (arith, le, e, f)) (omega (arith, f, h, many_all k i is)))

rises : (k : ℕ) (is : List PlainInterface) (m n : ℕ) → m ≤ n → n < length (homes_from k is)
    → get_or (homes_from k is) m 0 ≤ get_or (homes_from k is) n 0
rises k [] m n le h = absurd (omega (arith, h))
rises k (i ∷ is) m n le h =
    rises_by k i is m n le h (rises (suc k) is) (below_or m (length (numbers i))) (below_or n (length (numbers i)))

-- ---- the interface of an operation

-- the operation at n, whose interface's first operation stands at a place: it is of the m-th interface, and its procedure there
record IsAt (k : ℕ) (is : List PlainInterface) (n first : ℕ) : Type 0 where
  pub m : ℕ
  pub home : get_or (homes_from k is) n 0 ≡ k + m
  pub i : PlainInterface
  pub there : slice_get is m ≡ Some i
  pub below : n - first < length (numbers i)
  pub is_it : get_or (procedures is) n none ≡ procedure_in i (get_or (numbers i) (n - first) 0)

module _ (k : ℕ) (i : PlainInterface) (is : List PlainInterface) where
  abbrev among : List ℕ
  among = homes_from k (i ∷ is)

  -- in the first interface the first operation is that at 0
  first_is_0 : (n first : ℕ) → n < length (numbers i) → IsFirst among n first → first ≡ 0
  first_is_0 n zero h f = refl
  first_is_0 n (suc j) h f =
      let within : suc j ≤ n = f.within in
      absurd (f.apart j refl (in_own k i is j (omega (arith, within, h)) ∙ sym (in_own k i is n h)))

  in_first : (n first : ℕ) → n < length (numbers i) → first ≡ 0 → IsAt k (i ∷ is) n first
  in_first n first h e =
      let same : n ≡ n - first = omega (arith, e) in
      let long : n < length (procedures_of i) = omega (arith, h, length-map (numbers i) (procedure_in i)) in
      record {
        m = 0;
        home = in_own k i is n h ∙ omega arith;
        i = i;
        there = refl;
        below = omega (arith, h, e);
        is_it = get_or_append_left (procedures_of i) (procedures is) none n long
            ∙ get_or-map (procedure_in i) (numbers i) n 0 none h ∙ ap (λ (j : ℕ). procedure_in i (get_or (numbers i) j 0)) same;
      }

  -- after it the first operation is after it too
  first_after : (d first : ℕ) → length (numbers i) + d < length among → IsFirst among (length (numbers i) + d) first
      → (first < length (numbers i)) ⊎ ((j : ℕ) × (first ≡ length (numbers i) + j))
      → (j : ℕ) × (first ≡ length (numbers i) + j)
  first_after d first long f (inl h) =
      let within : first ≤ length (numbers i) + d = f.within in
      let same = sym (in_own k i is first h) ∙ f.same first (omega arith) within ∙ in_others k i is d in
      let there : d < length (homes_from (suc k) is) = omega (arith, long, many_all k i is) in
      absurd (omega (arith, same, above (suc k) is d there))
  first_after d first long f (inr j) = j

  -- what is first among all is first among the others
  among_others : (d j : ℕ) → IsFirst among (length (numbers i) + d) (length (numbers i) + j) → IsFirst (homes_from (suc k) is) d j
  among_others d j f = record {
    within = (let h : length (numbers i) + j ≤ length (numbers i) + d = f.within in omega (arith, h));
    same = λ n a b. sym (in_others k i is n) ∙ f.same (length (numbers i) + n) (omega (arith, a)) (omega (arith, b)) ∙ in_others k i is d;
    apart = λ n e. λ s. f.apart (length (numbers i) + n) (omega (arith, e)) (in_others k i is n ∙ s ∙ sym (in_others k i is d));
  }

  after_first : (d : ℕ) → get_or (procedures (i ∷ is)) (length (numbers i) + d) none ≡ get_or (procedures is) d none
  after_first d = rw length-map at (get_or-append-add (procedures_of i) (procedures is) d none)

  in_rest : (d j : ℕ) → IsAt (suc k) is d j → IsAt k (i ∷ is) (length (numbers i) + d) (length (numbers i) + j)
  in_rest d j a =
      let same : d - j ≡ length (numbers i) + d - (length (numbers i) + j) = omega arith in
      record {
        m = suc a.m;
        home = in_others k i is d ∙ a.home ∙ omega arith;
        i = a.i;
        there = a.there;
        below = subst (λ (n : ℕ). n < length (numbers a.i)) same a.below;
        is_it = after_first d ∙ a.is_it ∙ ap (λ (n : ℕ). procedure_in a.i (get_or (numbers a.i) n 0)) same;
      }

  in_either : (n first : ℕ) → n < length among → IsFirst among n first
      → ((d j : ℕ) → d < length (homes_from (suc k) is) → IsFirst (homes_from (suc k) is) d j → IsAt (suc k) is d j)
      → (n < length (numbers i)) ⊎ ((d : ℕ) × (n ≡ length (numbers i) + d)) → IsAt k (i ∷ is) n first
  in_either n first long f rest (inl h) = in_first n first h (first_is_0 n first h f)
  in_either n first long f rest (inr (d, e)) =
      let here = subst (λ (p : ℕ). IsFirst among p first) e f in
      let far : length (numbers i) + d < length among = omega (arith, e, long) in
      let (j, g) = first_after d first far here (below_or first (length (numbers i))) in
      let both = subst (λ (q : ℕ). IsFirst among (length (numbers i) + d) q) g here in
      let found = in_rest d j (rest d j (omega (arith, far, many_all k i is)) (among_others d j both)) in
      subst (λ (p : ℕ). IsAt k (i ∷ is) p first) (sym e)
      (subst (λ (q : ℕ). IsAt k (i ∷ is) (length (numbers i) + d) q) (sym g) found)

is_at : (k : ℕ) (is : List PlainInterface) (n first : ℕ) → n < length (homes_from k is) → IsFirst (homes_from k is) n first
    → IsAt k is n first
is_at k [] n first h f = absurd (omega (arith, h))
is_at k (i ∷ is) n first h f = in_either k i is n first h f (is_at (suc k) is) (below_or n (length (numbers i)))

-- ---- over a binding

first_homes : (fs : List Face) (k : ℕ) (i : PlainInterface)
    → map (λ (x : Offer). x.interface) (map (offer fs back.Xdr k) (operations back.Xdr i)) ≡ map (λ (n : ℕ). k) (numbers i)
first_homes fs k i = map-map (λ (x : Offer). x.interface) (offer fs back.Xdr k) (operations back.Xdr i)
    ∙ sym (map-map (λ (n : ℕ). k) (λ (op : PlainOperation). op.proc_no) (operations back.Xdr i))

homes-offers : (fs : List Face) (k : ℕ) (is : List PlainInterface)
    → map (λ (x : Offer). x.interface) (offers_from fs back.Xdr k is) ≡ homes_from k is
homes-offers fs k [] = refl
homes-offers fs k (i ∷ is) =
    map-append (λ (x : Offer). x.interface) (map (offer fs back.Xdr k) (operations back.Xdr i)) (offers_from fs back.Xdr (suc k) is)
    ∙ ap (λ (l : List ℕ). l ++ map (λ (x : Offer). x.interface) (offers_from fs back.Xdr (suc k) is)) (first_homes fs k i)
    ∙ ap (λ (l : List ℕ). map (λ (n : ℕ). k) (numbers i) ++ l) (homes-offers fs (suc k) is)

pub homes_are : (b : Binding) → IsBinding b → b.back ≡ back.Xdr → homes b.ops ≡ homes_from 0 b.unit.interfaces
homes_are b stands xdr =
    sym (map-map (λ (x : Offer). x.interface) (offer_at (faces b.nodes b.shapes)) b.ops)
    ∙ ap (map (λ (x : Offer). x.interface)) (stands.offered ∙ ap (offers b.unit) xdr)
    ∙ homes-offers (type_faces b.unit) 0 b.unit.interfaces

abbrev interface_of : Op → ℕ
interface_of o = o.interface

-- the operations of a binding are there interface by interface
pub operations_rise : (b : Binding) → IsBinding b → b.back ≡ back.Xdr → IsNonDecreasingBy (λ (o : Op). o.interface) b.ops
operations_rise b stands xdr m n d le h =
    let same = homes_are b stands xdr in
    let many : length (homes b.ops) ≡ length b.ops = length-map b.ops interface_of in
    let up = rises 0 b.unit.interfaces m n le (omega (arith, h, many, ap length same)) in
    let first = get_or-map interface_of b.ops m d 0 (omega (arith, le, h)) in
    let last = get_or-map interface_of b.ops n d 0 h in
    omega (arith, up, first, last, ap (λ (js : List ℕ). get_or js m 0) same, ap (λ (js : List ℕ). get_or js n 0) same)

-- the place from which on no operation is of an interface below is that of the first of the interface
module _ (ops : List Op) (place first : ℕ) (o : Op) (there : place < length ops) (is_it : o ≡ get_or ops place o)
    (up : IsNonDecreasingBy (λ (p : Op). p.interface) ops)
    (point : IsPartitionPoint (λ (p : Op). ltb p.interface o.interface ≡ true) (λ (p : Op). ltb p.interface o.interface ≡ false)
    ops first) where
  interface_at : (k : ℕ) → k < length ops → get_or (homes ops) k 0 ≡ (get_or ops k o).interface
  interface_at k h = get_or-map interface_of ops k o 0 h

  home : get_or (homes ops) place 0 ≡ o.interface
  home = interface_at place there ∙ ap interface_of (sym is_it)

  below_point : (k : ℕ) → k < first → k < length ops → get_or (homes ops) k 0 < o.interface
  below_point k h l = omega (arith, interface_at k l, ltb-true _ _ (point.0 k o (omega arith) h))

  from_point : (k : ℕ) → first ≤ k → k ≤ place → get_or (homes ops) k 0 ≡ get_or (homes ops) place 0
  from_point k h l =
      let long : k < length ops = omega (arith, l, there) in
      omega (
        arith,
        home,
        interface_at k long,
        interface_at place there,
        ltb-false _ _ (point.1 k o h long),
        up k place o l there,
      )

  within_point : (place < first) ⊎ ((d : ℕ) × (place ≡ first + d)) → first ≤ place
  within_point (inl h) = absurd (omega (arith, home, below_point place h there))
  within_point (inr (d, e)) = omega (arith, e)

  pub first_from_point : IsFirst (homes ops) place first
  first_from_point =
      let within = within_point (below_or place first) in
      record {
        within = within;
        same = from_point;
        apart = λ k e. λ s. absurd (omega (arith, home, s, below_point k (omega (arith, e)) (omega (arith, e, within, there))));
      }

-- the operation of a binding is that of its interface
operation_is_at : (b : Binding) (op first : ℕ) → IsBinding b → b.back ≡ back.Xdr → op < length b.ops
    → IsFirst (homes b.ops) op first → IsAt 0 b.unit.interfaces op first
operation_is_at b op first stands xdr h f =
    let same = homes_are b stands xdr in
    let many : length (homes b.ops) ≡ length b.ops = length-map b.ops (λ (o : Op). o.interface) in
    is_at 0 b.unit.interfaces op first (omega (arith, h, many, ap length same)) (subst (λ (js : List ℕ). IsFirst js op first) same f)

-- an operation of a binding, over the operations and the interfaces as they are stored
module _ (b : Binding) (op first : ℕ) (o : Op) (ops : List Op) (is : List Interface) (stands : IsBinding b) (xdr : b.back ≡ back.Xdr)
    (there : op < length b.ops) (all : ops ≡ b.ops) (f : IsFirst (homes ops) op first)
    (same : map plain_interface is ≡ b.unit.interfaces) where
  found : IsAt 0 b.unit.interfaces op first
  found = operation_is_at b op first stands xdr there (subst (λ (l : List Op). IsFirst (homes l) op first) all f)

  abbrev number : ℕ
  number = (get_or ops op o).interface

  is_number : number ≡ found.m
  is_number =
      let own = get_or-map interface_of b.ops op o 0 there in
      omega (
        arith,
        own,
        ap (λ (l : List Op). (get_or l op o).interface) all,
        ap (λ (js : List ℕ). get_or js op 0) (homes_are b stands xdr),
        found.home,
      )

  plain_there : slice_get (map plain_interface is) number ≡ Some found.i
  plain_there = ap (λ (js : List PlainInterface). slice_get js number) same ∙ ap (slice_get b.unit.interfaces) is_number ∙ found.there

  pub is_there : slice_get is number ≢ None
  is_there e = none-some found.i (sym (slice_get-map plain_interface is number ∙ ap (option_map plain_interface) e) ∙ plain_there)

  module _ (i : Interface) (e : slice_get is number ≡ Some i) where
    is_own : found.i ≡ plain_interface i
    is_own = same_Some _ _ (sym plain_there ∙ slice_get-map plain_interface is number ∙ ap (option_map plain_interface) e)

    pub place_within : op - first < length (numbers (plain_interface i))
    place_within = subst (λ (j : PlainInterface). op - first < length (numbers j)) is_own found.below

    pub procedure_is : procedure_of b op ≡ procedure_in (plain_interface i) (get_or (numbers (plain_interface i)) (op - first) 0)
    procedure_is = found.is_it ∙ ap (λ (j : PlainInterface). procedure_in j (get_or (numbers j) (op - first) 0)) is_own
