-- Operations by their names and numbers, interface by interface, by induction on the operations of one.
use Rattle.std.proofs.Common.{◌≡◌, Bool, true, false, cond, ℕ, zero, suc, ◌+◌, ◌-◌, ◌<◌, ◌≤◌, min, List, [], ◌∷◌, ◌++◌, length, map, take, drop, get_or, Option, None, Some, bytes_eq, codes, refl, sym, ap, subst, ◌∙◌, length-drop, length-take, arith}
use Rattle.std.specs.Prelude.{if◌then◌else◌, slice_index_or}
use Rattle.std.specs.List.{position_from}
use Rattle.std.proofs.Math.ListN.{get_or-append}
use Rattle.std.proofs.lemmas.List.{length-map, take-append-drop, drop-drop, drop_more, drop-map, get_or-take, get_or-drop, get_or-append-add, nil_from_length, take_all}
use Rattle.std.specs.List.{slice_get}
use Rattle.std.proofs.lemmas.Option.{slice_get_read}
use Rattle.wire_def.specs.declared.encoding.Back.{Back}
use Rattle.aoi.specs.declared.interfaces.Interface.{Interface}
use Rattle.aoi.specs.Units.{Parts}
use Rattle.aoi.specs.Plain.{PlainOperation, PlainInterface, PlainUnit, plain, plain_operation, plain_interface}
use Rattle.pres.specs.declared.ops.Op.{Op}
use Rattle.pres.specs.Bindings.{Binding, IsBinding}
use Rattle.pres.specs.Offers.{operations, gets_null, null_operation}
use Rattle.pres.specs.Raises.{sources, sources_of}
use Rattle.json_shape.specs.Homes.{homes, homes_from, Leads}
use Rattle.json_shape.specs.Operations.{dotted, interface_name, op_from, op_named}
use Rattle.json_shape.specs.Texts.{text_of}
use Rattle.json_shape.proofs.Homes.{AreOf, are_of, bound_homes, count_within}

-- ---- the first place of two tests that agree

pub alike : (f g : Op → Bool) → ((o : Op) → f o ≡ g o) → (n : ℕ) (ops : List Op) → position_from f n ops ≡ position_from g n ops
alike f g h n [] = refl
alike f g h n (o ∷ ops) =
    ap (λ (t : Bool). cond t (Some n) (position_from f (n + 1) ops)) (h o)
    ∙ ap (λ (r : Option ℕ). cond (g o) (Some n) r) (alike f g h (n + 1) ops)

pub never : (f : Op → Bool) → ((o : Op) → f o ≡ false) → (n : ℕ) (ops : List Op) → position_from f n ops ≡ None
never f h n [] = refl
never f h n (o ∷ ops) = ap (λ (t : Bool). cond t (Some n) (position_from f (n + 1) ops)) (h o) ∙ never f h (n + 1) ops

-- ---- those of one interface by a name

-- a name, a dot and an operation's name are the string
abbrev pub is_called : List ℕ → List ℕ → Op → Bool
is_called name s o = bytes_eq (text_of (name ++ (codes "." ++ o.name))) s

called_here : (is : List PlainInterface) (s name : List ℕ) (k : ℕ) → interface_name is k ≡ name → (o : Op) → o.interface ≡ k
    → bytes_eq (text_of (dotted is o)) s ≡ is_called name s o
called_here is s name k named o e =
    ap (λ (n : List ℕ). bytes_eq (text_of (n ++ (codes "." ++ o.name))) s) (ap (λ (m : ℕ). interface_name is m) e ∙ named)

one_less : (is : List PlainInterface) (s name : List ℕ) (n from : ℕ) (x : Op) (xs ys : List Op) (t : Bool) → is_called name s x ≡ t
    → bytes_eq (text_of (dotted is x)) s ≡ is_called name s x → position_from (is_called name s) from (x ∷ xs) ≡ None
    → (position_from (is_called name s) (from + 1) xs ≡ None → op_from is s (suc n) (xs ++ ys) ≡ op_from is s (suc n + length xs) ys)
    → op_from is s n (x ∷ (xs ++ ys)) ≡ op_from is s (n + length (x ∷ xs)) ys
one_less is s name n from x xs ys true t same e more =
    let here : Some from ≡ None = ap (λ (u : Bool). cond u (Some from) (position_from (is_called name s) (from + 1) xs)) (sym t) ∙ e in
    absurd cc
one_less is s name n from x xs ys false t same e more =
    let past : position_from (is_called name s) (from + 1) xs ≡ None =
    ap (λ (u : Bool). cond u (Some from) (position_from (is_called name s) (from + 1) xs)) (sym t) ∙ e in
    let at : suc n + length xs ≡ n + length (x ∷ xs) = omega arith in
    ap (λ (u : Bool). if u then Some (n, x) else op_from is s (suc n) (xs ++ ys)) (same ∙ t) ∙ more past
    ∙ ap (λ (m : ℕ). op_from is s m ys) at

-- none of the interface's operations has the name
none_called : (is : List PlainInterface) (s name : List ℕ) (k : ℕ) → interface_name is k ≡ name → (xs ys : List Op) (n from : ℕ)
    → AreOf k xs → position_from (is_called name s) from xs ≡ None
    → op_from is s n (xs ++ ys) ≡ op_from is s (n + length xs) ys
none_called is s name k named [] ys n from h e =
    let at : n ≡ n + 0 = omega arith in
    ap (λ (m : ℕ). op_from is s m ys) at
none_called is s name k named (x ∷ xs) ys n from h e =
    one_less is s name n from x xs ys (is_called name s x) refl (called_here is s name k named x h.0) e
    (none_called is s name k named xs ys (suc n) (from + 1) h.1)

-- one of them has it, at a place that is counted from a number
record Hit (is : List PlainInterface) (s : List ℕ) (xs ys : List Op) (n from i : ℕ) (d : Op) : Type 0 where
  place : ℕ
  at : i ≡ from + place
  found : op_from is s n (xs ++ ys) ≡ Some (n + place, get_or xs place d)

one_more : (is : List PlainInterface) (s name : List ℕ) (n from i : ℕ) (d x : Op) (xs ys : List Op) (t : Bool) → is_called name s x ≡ t
    → bytes_eq (text_of (dotted is x)) s ≡ is_called name s x → position_from (is_called name s) from (x ∷ xs) ≡ Some i
    → (position_from (is_called name s) (from + 1) xs ≡ Some i → Hit is s xs ys (suc n) (from + 1) i d)
    → Hit is s (x ∷ xs) ys n from i d
one_more is s name n from i d x xs ys true t same e more =
    let here : Some from ≡ Some i = ap (λ (u : Bool). cond u (Some from) (position_from (is_called name s) (from + 1) xs)) (sym t) ∙ e in
    let first : from ≡ i = cc in
    let own : n ≡ n + 0 = omega arith in
    record {
      place = 0;
      at = omega (arith, first);
      found = ap (λ (u : Bool). if u then Some (n, x) else op_from is s (suc n) (xs ++ ys)) (same ∙ t) ∙ ap (λ (m : ℕ). Some (m, x)) own;
    }
one_more is s name n from i d x xs ys false t same e more =
    let rest : Hit is s xs ys (suc n) (from + 1) i d =
    more (ap (λ (u : Bool). cond u (Some from) (position_from (is_called name s) (from + 1) xs)) (sym t) ∙ e) in
    let step : suc n + rest.place ≡ n + suc rest.place = omega arith in
    record {
      place = suc rest.place;
      at = omega (arith, rest.at);
      found =
          ap (λ (u : Bool). if u then Some (n, x) else op_from is s (suc n) (xs ++ ys)) (same ∙ t) ∙ rest.found
          ∙ ap (λ (m : ℕ). Some (m, get_or xs rest.place d)) step;
    }

hit_from : (is : List PlainInterface) (s name : List ℕ) (k : ℕ) → interface_name is k ≡ name → (xs ys : List Op) (n from i : ℕ) (d : Op)
    → AreOf k xs → position_from (is_called name s) from xs ≡ Some i → Hit is s xs ys n from i d
hit_from is s name k named [] ys n from i d h e = absurd cc
hit_from is s name k named (x ∷ xs) ys n from i d h e =
    one_more is s name n from i d x xs ys (is_called name s x) refl (called_here is s name k named x h.0) e
    (hit_from is s name k named xs ys (suc n) (from + 1) i d h.1)

one_called : (is : List PlainInterface) (s name : List ℕ) (k : ℕ) → interface_name is k ≡ name → (xs ys : List Op) (n p : ℕ) (d : Op)
    → AreOf k xs → position_from (is_called name s) 0 xs ≡ Some p
    → op_from is s n (xs ++ ys) ≡ Some (n + p, get_or xs p d)
one_called is s name k named xs ys n p d h e =
    let hit : Hit is s xs ys n 0 p d = hit_from is s name k named xs ys n 0 p d h e in
    let same : hit.place ≡ p = omega (arith, hit.at) in
    hit.found ∙ ap (λ (m : ℕ). Some (n + m, get_or xs m d)) same

-- ---- interface by interface

-- what a slice from a place on has
pub after_place : (all ops : List Op) (from : ℕ) → all ≡ ops → take (length all - from) (drop from all) ≡ drop from ops
after_place all ops from e =
    take_all (length all - from) (drop from all) (omega (arith, length-drop from all)) ∙ ap (λ (l : List Op). drop from l) e

pub place_within : (all ops : List Op) (from count p : ℕ) → all ≡ ops → from ≤ length ops
    → p < length (take count (take (length all - from) (drop from all)))
    → (p < count) × (from + p < length ops)
place_within all ops from count p e h less =
    let cut : length (take count (take (length all - from) (drop from all))) ≡ length (take count (drop from ops)) =
    ap (λ (l : List Op). length (take count l)) (after_place all ops from e) in
    let long : length (take count (drop from ops)) ≡ min count (length (drop from ops)) = length-take count (drop from ops) in
    let rest : length (drop from ops) ≡ length ops - from = length-drop from ops in
    (omega (arith, less, cut, long), omega (arith, less, cut, long, rest, h))

-- the operations from a place on are those of the interfaces from k on, and decide what a string names
pub record Sought (b : Binding) (s : List ℕ) (from k : ℕ) : Type 0 where
  pub within : from ≤ length b.ops
  pub same : op_named b s ≡ op_from b.unit.interfaces s from (drop from b.ops)
  pub rest : homes (drop from b.ops) ≡ homes_from b.back k (drop k b.unit.interfaces)

pub first_sought : (b : Binding) (s : List ℕ) → IsBinding b → Sought b s 0 0
first_sought b s h = record { within = omega arith; same = refl; rest = bound_homes b h }

-- the interfaces of a unit are those of its plain tree
pub are_plain : (b : Binding) (u : Parts) (named js : List Interface) → plain u ≡ b.unit → named ≡ u.interfaces → js ≡ named
    → map plain_interface js ≡ b.unit.interfaces
are_plain b u named js e of is = ap (map plain_interface) (is ∙ of) ∙ ap (λ (p : PlainUnit). p.interfaces) e

-- the k-th interface is the first of those from k on
cut_at : (js : List Interface) (is : List PlainInterface) (k : ℕ) (j : Interface) → map plain_interface js ≡ is → k < length js
    → j ≡ get_or js k j → drop k is ≡ plain_interface j ∷ drop (k + 1) is
cut_at js is k j e h at =
    ap (drop k) (sym e) ∙ drop-map plain_interface k js ∙ ap (map plain_interface) (drop_more js k j h)
    ∙ ap (λ (z : Interface). plain_interface z ∷ map plain_interface (drop (k + 1) js)) (sym at)
    ∙ ap (λ (l : List PlainInterface). plain_interface j ∷ l) (sym (drop-map plain_interface (k + 1) js) ∙ ap (drop (k + 1)) e)

name_at : (js : List Interface) (is : List PlainInterface) (k : ℕ) (j : Interface) → map plain_interface js ≡ is → k < length js
    → j ≡ get_or js k j → interface_name is k ≡ j.name
name_at js is k j e h at = ap (λ (l : List PlainInterface). interface_name l k) (sym e) ∙ by js k j h at where
  by : (js : List Interface) (k : ℕ) (j : Interface) → k < length js → j ≡ get_or js k j
      → interface_name (map plain_interface js) k ≡ j.name
  by [] k j h at = absurd (omega (arith, h))
  by (i ∷ js) zero j h at = ap (λ (z : Interface). z.name) (sym at)
  by (i ∷ js) (suc k) j h at = by js k j (omega (arith, h)) at

-- what is known where the loop has come to the k-th interface
module _ (b : Binding) (s : List ℕ) (from k : ℕ) (js : List Interface) (j : Interface) (sought : Sought b s from k)
    (are : map plain_interface js ≡ b.unit.interfaces) (h : k < length js) (at : j ≡ get_or js k j) where
  pub leads : Leads b.back k (plain_interface j) (drop from b.ops)
  leads = record {
    others = drop (k + 1) b.unit.interfaces;
    are =
        sought.rest ∙ ap (λ (l : List PlainInterface). homes_from b.back k l) (cut_at js b.unit.interfaces k j are h at);
  }

  own_of : AreOf k (take (length (operations b.back (plain_interface j))) (drop from b.ops))
      × (homes (drop (length (operations b.back (plain_interface j))) (drop from b.ops))
      ≡ homes_from b.back (suc k) (drop (k + 1) b.unit.interfaces))
  unfolding leads
  own_of =
      are_of k (operations b.back (plain_interface j)) (homes_from b.back (suc k) (drop (k + 1) b.unit.interfaces))
      (drop from b.ops) leads.are

  module _ (bk : Back) (all : List Op) (same_back : bk ≡ b.back) (same_ops : all ≡ b.ops) where
    pub leads_in : Leads bk k (plain_interface j) (take (length all - from) (drop from all))
    leads_in =
        subst (λ (l : List Op). Leads bk k (plain_interface j) l) (sym (after_place all b.ops from same_ops))
        (subst (λ (m : Back). Leads m k (plain_interface j) (drop from b.ops)) (sym same_back) leads)

    module _ (count : ℕ) (name : List ℕ) (named : name ≡ j.name) (counted : count ≡ length (operations bk (plain_interface j))) where
      e : count ≡ length (operations b.back (plain_interface j))
      e = counted ∙ ap (λ (m : Back). length (operations m (plain_interface j))) same_back

      named_so : interface_name b.unit.interfaces k ≡ name
      named_so = name_at js b.unit.interfaces k j are h at ∙ sym named

      own : AreOf k (take count (drop from b.ops))
      own = subst (λ (n : ℕ). AreOf k (take n (drop from b.ops))) (sym e) own_of.0

      cut : take count (take (length all - from) (drop from all)) ≡ take count (drop from b.ops)
      cut = ap (take count) (after_place all b.ops from same_ops)

      pub sought_on : None ≡ position_from (is_called name s) 0 (take count (take (length all - from) (drop from all)))
          → Sought b s (from + count) (k + 1)
      sought_on none =
          let fits : count ≤ length (drop from b.ops) =
          subst (λ (n : ℕ). n ≤ length (drop from b.ops)) (sym e) (count_within b.back k (plain_interface j) (drop from b.ops) leads) in
          let long : length (take count (drop from b.ops)) ≡ count = omega (arith, fits, length-take count (drop from b.ops)) in
          let last : drop count (drop from b.ops) ≡ drop (from + count) b.ops = drop-drop count from b.ops in
          let next : suc k ≡ k + 1 = omega arith in
          let not_here : position_from (is_called name s) 0 (take count (drop from b.ops)) ≡ None =
          ap (λ (l : List Op). position_from (is_called name s) 0 l) (sym cut) ∙ sym none in
          record {
            within = omega (arith, fits, sought.within, length-drop from b.ops);
            same =
                sought.same ∙ ap (λ (l : List Op). op_from b.unit.interfaces s from l) (sym (take-append-drop count (drop from b.ops)))
                ∙ none_called b.unit.interfaces s name k named_so (take count (drop from b.ops)) (drop count (drop from b.ops))
                from 0 own not_here
                ∙ ap (λ (n : ℕ). op_from b.unit.interfaces s (from + n) (drop count (drop from b.ops))) long
                ∙ ap (λ (l : List Op). op_from b.unit.interfaces s (from + count) l) last;
            rest =
                ap homes (sym last) ∙ ap (λ (n : ℕ). homes (drop n (drop from b.ops))) e ∙ own_of.1
                ∙ ap (λ (n : ℕ). homes_from b.back n (drop (k + 1) b.unit.interfaces)) next;
          }

      pub found_here : (p : ℕ) (o : Op)
          → Some p ≡ position_from (is_called name s) 0 (take count (take (length all - from) (drop from all)))
          → p < length (take count (take (length all - from) (drop from all))) → o ≡ get_or all (from + p) o
          → Some (from + p, o) ≡ op_named b s
      found_here p o some less is =
          let here : position_from (is_called name s) 0 (take count (drop from b.ops)) ≡ Some p =
          ap (λ (l : List Op). position_from (is_called name s) 0 l) (sym cut) ∙ sym some in
          let got : get_or (take count (drop from b.ops)) p o ≡ o =
          get_or-take count (drop from b.ops) p o (place_within all b.ops from count p same_ops sought.within less).0
          ∙ get_or-drop from b.ops p o ∙ ap (λ (l : List Op). get_or l (from + p) o) (sym same_ops) ∙ sym is in
          sym (sought.same ∙ ap (λ (l : List Op). op_from b.unit.interfaces s from l) (sym (take-append-drop count (drop from b.ops)))
          ∙ one_called b.unit.interfaces s name k named_so (take count (drop from b.ops)) (drop count (drop from b.ops)) from p o own here
          ∙ ap (λ (z : Op). Some (from + p, z)) got)

none_left : (b : Back) (k : ℕ) (is : List PlainInterface) (ops : List Op) → length is ≡ 0 → homes ops ≡ homes_from b k is → ops ≡ []
none_left b k [] [] h e = refl
none_left b k [] (o ∷ ops) h e = absurd cc
none_left b k (i ∷ is) ops h e = absurd (omega (arith, h))

-- where an operation is found
pub there_at : (all ops : List Op) (from count p number : ℕ) (o : Op) → all ≡ ops → from ≤ length ops
    → p < length (take count (take (length all - from) (drop from all))) → number ≡ from + p → o ≡ get_or all (from + p) o
    → slice_get ops number ≡ Some o
there_at all ops from count p number o e h less same is =
    ap (λ (n : ℕ). slice_get ops n) same
    ∙ slice_get_read ops (length ops) (from + p) o refl (place_within all ops from count p e h less).1
    (is ∙ ap (λ (l : List Op). get_or l (from + p) o) e)

pub homes_are : (b : Binding) (bk : Back) (all : List Op) (js : List Interface) → IsBinding b → bk ≡ b.back → all ≡ b.ops
    → map plain_interface js ≡ b.unit.interfaces → homes all ≡ homes_from bk 0 (map plain_interface js)
homes_are b bk all js is same_back same_ops are =
    ap homes same_ops ∙ bound_homes b is ∙ ap (λ (m : Back). homes_from m 0 b.unit.interfaces) (sym same_back)
    ∙ ap (λ (l : List PlainInterface). homes_from bk 0 l) (sym are)

-- no interface is left
pub sought_through : (b : Binding) (s : List ℕ) (from k : ℕ) (js : List Interface) → Sought b s from k
    → map plain_interface js ≡ b.unit.interfaces → length js ≤ k → None ≡ op_named b s
sought_through b s from k js sought are h =
    let long : length b.unit.interfaces ≡ length js =
    ap (λ (l : List PlainInterface). length l) (sym are) ∙ length-map js plain_interface in
    let ended : drop from b.ops ≡ [] =
    none_left b.back k (drop k b.unit.interfaces) (drop from b.ops) (omega (arith, h, long, length-drop k b.unit.interfaces)) sought.rest in
    sym (sought.same ∙ ap (λ (l : List Op). op_from b.unit.interfaces s from l) ended)

-- ---- by a number

-- the operation of a number is sought among the operations of the interfaces from j on
pub record Sourcing (bk : Back) (js : List Interface) (ops : List Op) (k from j left : ℕ) : Type 0 where
  pub within : from ≤ length ops
  pub same : slice_index_or (sources bk (map plain_interface js)) k None
      ≡ slice_index_or (sources bk (map plain_interface (drop j js))) left None
  pub rest : homes (drop from ops) ≡ homes_from bk j (map plain_interface (drop j js))

own_sources : (ops : List PlainOperation) (t : Bool) → length (map (λ (op : PlainOperation). Some op) ops ++ (if t then None ∷ [] else []))
    ≡ length (ops ++ (if t then null_operation ∷ [] else []))
own_sources [] true = refl
own_sources [] false = refl
own_sources (o ∷ ops) t = ap suc (own_sources ops t)

past_sources : (ops : List PlainOperation) (t : Bool) (n : ℕ) → length ops ≤ n
    → slice_index_or (map (λ (op : PlainOperation). Some op) ops ++ (if t then None ∷ [] else [])) n None ≡ None
past_sources [] true zero h = refl
past_sources [] true (suc n) h = refl
past_sources [] false n h = refl
past_sources (o ∷ ops) t zero h = absurd (omega (arith, h))
past_sources (o ∷ ops) t (suc n) h = past_sources ops t n (omega (arith, h))

module _ (bk : Back) (js : List Interface) (ops : List Op) (k from n left : ℕ) (j : Interface) (sourcing : Sourcing bk js ops k from n left)
    (h : n < length js) (at : j ≡ get_or js n j) where
  cut_js : drop n js ≡ j ∷ drop (n + 1) js
  cut_js = drop_more js n j h ∙ ap (λ (z : Interface). z ∷ drop (n + 1) js) (sym at)

  pub leading : Leads bk n (plain_interface j) (drop from ops)
  leading = record {
    others = map plain_interface (drop (n + 1) js);
    are = sourcing.rest ∙ ap (λ (l : List Interface). homes_from bk n (map plain_interface l)) cut_js;
  }

  pub leading_in : Leads bk n (plain_interface j) (take (length ops - from) (drop from ops))
  leading_in = subst (λ (l : List Op). Leads bk n (plain_interface j) l) (sym (after_place ops ops from refl)) leading

  split : slice_index_or (sources bk (map plain_interface js)) k None
      ≡ slice_index_or (sources_of bk (plain_interface j) ++ sources bk (map plain_interface (drop (n + 1) js))) left None
  split = sourcing.same ∙ ap (λ (l : List Interface). slice_index_or (sources bk (map plain_interface l)) left None) cut_js

  count_is : (count : ℕ) → count ≡ length (operations bk (plain_interface j)) → length (sources_of bk (plain_interface j)) ≡ count
  count_is count e = own_sources (plain_interface j).ops (gets_null bk (plain_interface j)) ∙ sym e

  -- the procedure that the interface gets has no source
  pub no_source : (count own : ℕ) → count ≡ length (operations bk (plain_interface j)) → own ≡ length j.ops → own ≤ left → left < count
      → None ≡ slice_index_or (sources bk (map plain_interface js)) k None
  no_source count own e mine above below =
      sym (split
      ∙ get_or-append (sources_of bk (plain_interface j)) (sources bk (map plain_interface (drop (n + 1) js))) None left
      (omega (arith, below, count_is count e))
      ∙ past_sources (plain_interface j).ops (gets_null bk (plain_interface j)) left
      (omega (arith, above, mine, length-map j.ops plain_operation)))

  pub sourcing_on : (count : ℕ) → count ≡ length (operations bk (plain_interface j)) → count ≤ left
      → Sourcing bk js ops k (from + count) (n + 1) (left - count)
  unfolding leading
  sourcing_on count e below =
      let rest : List (Option PlainOperation) = sources bk (map plain_interface (drop (n + 1) js)) in
      let long : length (sources_of bk (plain_interface j)) ≡ count = count_is count e in
      let sum : left ≡ length (sources_of bk (plain_interface j)) + (left - count) = omega (arith, long, below) in
      let fits : count ≤ length (drop from ops) =
      subst (λ (m : ℕ). m ≤ length (drop from ops)) (sym e) (count_within bk n (plain_interface j) (drop from ops) leading) in
      let last : drop count (drop from ops) ≡ drop (from + count) ops = drop-drop count from ops in
      let next : suc n ≡ n + 1 = omega arith in
      record {
        within = omega (arith, fits, sourcing.within, length-drop from ops);
        same =
            split ∙ ap (λ (m : ℕ). slice_index_or (sources_of bk (plain_interface j) ++ rest) m None) sum
            ∙ get_or-append-add (sources_of bk (plain_interface j)) rest (left - count) None;
        rest =
            ap homes (sym last) ∙ ap (λ (m : ℕ). homes (drop m (drop from ops))) e
            ∙ (are_of n (operations bk (plain_interface j)) (homes_from bk (suc n) (map plain_interface (drop (n + 1) js)))
            (drop from ops) leading.are).1
            ∙ ap (λ (m : ℕ). homes_from bk m (map plain_interface (drop (n + 1) js))) next;
      }

pub first_sourcing : (bk : Back) (js : List Interface) (ops : List Op) (k : ℕ) → homes ops ≡ homes_from bk 0 (map plain_interface js)
    → Sourcing bk js ops k 0 0 k
first_sourcing bk js ops k e = record { within = omega arith; same = refl; rest = e }

pub no_more_sources : (bk : Back) (js : List Interface) (ops : List Op) (k from j left : ℕ) → Sourcing bk js ops k from j left
    → length js ≤ j
    → None ≡ slice_index_or (sources bk (map plain_interface js)) k None
no_more_sources bk js ops k from j left sourcing h =
    let ended : drop j js ≡ [] = nil_from_length (drop j js) (omega (arith, h, length-drop j js)) in
    sym (sourcing.same ∙ ap (λ (l : List Interface). slice_index_or (sources bk (map plain_interface l)) left None) ended)
