-- The parts of a value of a type are of the types of the parts, by induction on the path to the part.
use Rattle.std.proofs.Common.{◌≡◌, ℕ, zero, suc, ℤ, List, [], ◌∷◌, length, map, Option, None, Some, refl, sym, ap, subst, ◌∙◌, IsTrue}
use Rattle.std.specs.List.{list_all}
use Rattle.mint.specs.declared.kind.Kind.{Kind}
use Rattle.mint.specs.declared.kind.Kind.TheVariants as kind
use Rattle.mint.specs.declared.kind.Count.{Count}
use Rattle.mint.specs.Kinds.{Allows, in_range, is_letter}
use Rattle.mint.specs.Types.{number, text, row_of, Ty, scalar_type, array_type, group_type, items_type, choice_type, maybe_type, Tys, no_fields, field, Arms}
use Rattle.mint.specs.Typed.{IsOf, AreOf, IsOfArm, Each}
use Rattle.mint.specs.Values.{Val, num, row, group, items, arm, absent, present, Vals, no_more, val, vals_of, count, arm_in}
use Rattle.cast_stub.specs.Parts.{on_some, at, in_group, elements_in, length_in}
use Rattle.cast_stub.specs.Parts as part
use Rattle.cast_stub.specs.Steps.{Steps, over, if_present}
use Rattle.cast_stub.specs.PartTypes.{field_type, in_group_type, ty_at, elements_type, present_type, arms_type, element_at, present_at, arms_at}
use Rattle.std.proofs.lemmas.Bool.{and_parts}
use Rattle.cast_stub.proofs.Filled.{opened}

field-typed : (n : ℕ) (ts : Tys) (vs : Vals) (u : Ty) (w : Val) → AreOf ts vs → field_type n ts ≡ Some u → part.field n vs ≡ Some w
    → IsOf u w
field-typed n no_fields vs u w h e f = absurd cc
field-typed n (field t ts) no_more u w h e f = absurd h
field-typed zero (field t ts) (val v vs) u w h e f =
    let a : t ≡ u = cc in
    let b : v ≡ w = cc in
    subst (λ (x : Ty). IsOf x w) a (subst (λ (y : Val). IsOf t y) b h.0)
field-typed (suc n) (field t ts) (val v vs) u w h e f = field-typed n ts vs u w h.1 e f

group-typed : (n : ℕ) (t : Ty) (v : Val) (u : Ty) (w : Val) → IsOf t v → in_group_type n t ≡ Some u → in_group n v ≡ Some w → IsOf u w
group-typed n (group_type ts) (group vs) u w h e f = field-typed n ts vs u w h e f
group-typed n (group_type ts) _ u w h e f = absurd h
group-typed n _ v u w h e f = absurd cc

part_step : (x : Option Ty) (y : Option Val) (p : List ℕ) (u : Ty) (w : Val) → on_some x (ty_at p) ≡ Some u → on_some y (at p) ≡ Some w
    → ((t : Ty) (v : Val) → x ≡ Some t → y ≡ Some v → ty_at p t ≡ Some u → at p v ≡ Some w → IsOf u w) → IsOf u w
part_step None y p u w e f go = absurd cc
part_step (Some t) None p u w e f go = absurd cc
part_step (Some t) (Some v) p u w e f go = go t v refl refl e f

pub at-typed : (p : List ℕ) (t : Ty) (v : Val) (u : Ty) (w : Val) → IsOf t v → ty_at p t ≡ Some u → at p v ≡ Some w → IsOf u w
at-typed [] t v u w h e f =
    let a : t ≡ u = cc in
    let b : v ≡ w = cc in
    subst (λ (x : Ty). IsOf x w) a (subst (λ (y : Val). IsOf t y) b h)
at-typed (n ∷ p) t v u w h e f =
    part_step (in_group_type n t) (in_group n v) p u w e f
    (λ (t' : Ty) (v' : Val) a b e' f'. at-typed p t' v' u w (group-typed n t v t' v' h a b) e' f')

-- ---- elements

numbers-each : (k : Kind) (ns : List ℤ) → IsTrue (list_all (in_range k) ns) → Each (IsOf (scalar_type (number k))) (vals_of (map num ns))
numbers-each k [] h = tt
numbers-each k (n ∷ ns) h = let b = and_parts (in_range k n) (list_all (in_range k) ns) h in (b.0, numbers-each k ns b.1)

letters-each : (ns : List ℤ) → IsTrue (list_all is_letter ns) → Each (IsOf (scalar_type (number kind.Char))) (vals_of (map num ns))
letters-each [] h = tt
letters-each (n ∷ ns) h = let b = and_parts (is_letter n) (list_all is_letter ns) h in ((and_parts _ _ b.0).0, letters-each ns b.1)

count-numbers : (ns : List ℤ) → count (vals_of (map num ns)) ≡ length ns
count-numbers [] = refl
count-numbers (n ∷ ns) = ap suc (count-numbers ns)

-- elements of a type, of an allowed number
pub record AreElements (t : Ty) (c : Count) (vs : Vals) : Type 0 where
  pub typed : Each (IsOf t) vs
  pub allowed : Allows c (count vs)

elements-typed : (u : Ty) (w : Val) (e : Ty × Count) (vs : Vals) → IsOf u w → elements_type u ≡ Some e → elements_in w ≡ Some vs
    → AreElements e.0 e.1 vs
elements-typed (items_type c t) (items xs) e vs h a b =
    let a' : (t, c) ≡ e = cc in
    let b' : xs ≡ vs = cc in
    subst (λ (x : Ty × Count). AreElements x.0 x.1 vs) a' (subst (AreElements t c) b' (record { typed = h.1; allowed = h.0 }))
elements-typed (array_type (row_of k c)) (row k' ns) e vs h a b =
    let a' : (scalar_type (number k), c) ≡ e = cc in
    let b' : vals_of (map num ns) ≡ vs = cc in
    subst (λ (x : Ty × Count). AreElements x.0 x.1 vs) a' (subst (AreElements (scalar_type (number k)) c) b'
    (record { typed = numbers-each k ns h.2; allowed = subst (Allows c) (sym (count-numbers ns)) h.1 }))
elements-typed (array_type (text c)) (row k' ns) e vs h a b =
    let a' : (scalar_type (number kind.Char), c) ≡ e = cc in
    let b' : vals_of (map num ns) ≡ vs = cc in
    subst (λ (x : Ty × Count). AreElements x.0 x.1 vs) a' (subst (AreElements (scalar_type (number kind.Char)) c) b'
    (record { typed = letters-each ns h.2; allowed = subst (Allows c) (sym (count-numbers ns)) h.1 }))
elements-typed (items_type c t) _ e vs h a b = absurd h
elements-typed (array_type (row_of k c)) _ e vs h a b = absurd h
elements-typed (array_type (text c)) _ e vs h a b = absurd h
elements-typed _ w e vs h a b = absurd cc

length-count : (w : Val) (vs : Vals) → elements_in w ≡ Some vs → length_in w ≡ Some (count vs)
length-count (items xs) vs e = let s : xs ≡ vs = cc in ap (λ (x : Vals). Some (count x)) s
length-count (row k ns) vs e =
    let s : vals_of (map num ns) ≡ vs = cc in
    ap (λ (n : ℕ). Some n) (sym (count-numbers ns)) ∙ ap (λ (x : Vals). Some (count x)) s
length-count _ vs e = absurd cc

-- ---- what is done over parts

abbrev pub length_at : List ℕ → Val → Option ℕ
length_at p v = on_some (at p v) length_in

-- a fact of steps over the elements at a path
pub each-part : (f : Val → Steps) (p : List ℕ) (t : Ty) (v : Val) (e : Ty × Count) (Q : Steps → Type 0) → IsOf t v → element_at p t ≡ Some e
    → Q None → ((vs : Vals) → length_at p v ≡ Some (count vs) → AreElements e.0 e.1 vs → Q (over f vs))
    → Q (on_some (on_some (at p v) elements_in) (over f))
each-part f p t v e Q h is none go =
    let u = opened (ty_at p t) elements_type e is in
    at_part (at p v) refl u.0 u.1 u.2 where
      at_elements : (w : Val) → at p v ≡ Some w → (u : Ty) → elements_type u ≡ Some e → IsOf u w → (x : Option Vals) → elements_in w ≡ x
          → Q (on_some x (over f))
      at_elements w there u of o None same = none
      at_elements w there u of o (Some vs) same =
          go vs (ap (λ (x : Option Val). on_some x length_in) there ∙ length-count w vs same) (elements-typed u w e vs o of same)

      at_part : (y : Option Val) → at p v ≡ y → (u : Ty) → ty_at p t ≡ Some u → elements_type u ≡ Some e
          → Q (on_some (on_some y elements_in) (over f))
      at_part None there u typed of = none
      at_part (Some w) there u typed of = at_elements w there u of (at-typed p t v u w h typed there) (elements_in w) refl

-- of steps on the value that may be there
pub some-part : (f : Val → Steps) (p : List ℕ) (t : Ty) (v : Val) (u : Ty) (Q : Steps → Type 0) → IsOf t v → present_at p t ≡ Some u
    → Q None → Q (Some []) → ((w : Val) → IsOf u w → Q (f w))
    → Q (on_some (at p v) (if_present f))
some-part f p t v u Q h is none nothing go =
    let m = opened (ty_at p t) present_type u is in
    at_part (at p v) refl m.0 m.1 m.2 where
      of_maybe : (m : Ty) (w : Val) → present_type m ≡ Some u → IsOf m w → Q (if_present f w)
      of_maybe (maybe_type t) absent e o = nothing
      of_maybe (maybe_type t) (present w) e o = let s : t ≡ u = cc in go w (subst (λ (x : Ty). IsOf x w) s o)
      of_maybe (maybe_type t) _ e o = absurd o
      of_maybe _ w e o = absurd cc

      at_part : (y : Option Val) → at p v ≡ y → (m : Ty) → ty_at p t ≡ Some m → present_type m ≡ Some u → Q (on_some y (if_present f))
      at_part None there m typed of = none
      at_part (Some w) there m typed of = of_maybe m w of (at-typed p t v m w h typed there)

-- of steps on the value of the arm
pub switch-part : (f : ℤ → Val → Steps) (p : List ℕ) (t : Ty) (v : Val) (arms : Arms) (Q : Steps → Type 0) → IsOf t v
    → arms_at p t ≡ Some arms → Q None → ((n : ℤ) (w : Val) → IsOfArm arms n w → Q (f n w))
    → Q (on_some (on_some (at p v) arm_in) (λ a. f a.0 a.1))
switch-part f p t v arms Q h is none go =
    let m = opened (ty_at p t) arms_type arms is in
    at_part (at p v) refl m.0 m.1 m.2 where
      of_choice : (m : Ty) (w : Val) → arms_type m ≡ Some arms → IsOf m w → Q (on_some (arm_in w) (λ a. f a.0 a.1))
      of_choice (choice_type s as') (arm n w) e o = let s : as' ≡ arms = cc in go n w (subst (λ (x : Arms). IsOfArm x n w) s o.1)
      of_choice (choice_type s as') _ e o = absurd o
      of_choice _ w e o = absurd cc

      at_part : (y : Option Val) → at p v ≡ y → (m : Ty) → ty_at p t ≡ Some m → arms_type m ≡ Some arms
          → Q (on_some (on_some y arm_in) (λ a. f a.0 a.1))
      at_part None there m typed of = none
      at_part (Some w) there m typed of = of_choice m w of (at-typed p t v m w h typed there)
