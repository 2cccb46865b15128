-- `Keyed` as a type that may hold the type that holds it.
use mathlib.Core.Bool.{Bool, true}
use mathlib.Core.HLevel.{×_prop, Unit-prop, →_prop}
use mathlib.Core.Path.{◌≡◌, refl, sym, ap, subst}
use mathlib.Core.List.{List, [], ◌∷◌, map}
use mathlib.Core.Former.{Former, this, const, pair, list, via, children}
use lib.IntN.{ℤ}
use base.Stored.{Coded-set, coded_bool, coded×, coded_ℤ, code_map, gcons}
use denote.Builtin.{i128}
use denote.RattleType.{RattleType}
use denote.HoleLaws.{Alike}
use denote.HolePlaces.{Recodes, struct_places, laid}
use denote.Hole.Carrier.{listed}
use denote.Hole.Fix.{over}
use denote.Param.Weighed.{Weighed, w_list, w_pair, w_const}
use denote.Model.Placed.{view_places}
use denote.Struct.Tuple.{Tuple, tuple_type}
use Rattle.std.specs.formers.vec.Vec as vec
use Rattle.std.specs.List.{AllByRecursion}
use Rattle.std.specs.Prelude.{int_lt}
use Rattle.std.specs.declared.alloc.Global.{Global}
use Rattle.std.specs.contracts.alloc.Global as heap
use Rattle.std.specs.contracts.impls.GlobalAllocator.TheImpl.{ghosts}
use Rattle.mint.specs.Keyed.{Rise, IsMark}
use Rattle.mint.specs.declared.keyed.Keyed.TheInside.{Inside}
use Rattle.mint.specs.declared.keyed.Keyed.TheView.{view, invariant}
use Rattle.mint.specs.contracts.keyed.Keyed as C
use Rattle.mint.specs.contracts.keyed.Keyed.TheInside as I

-- an entry, with its number
abbrev entry : Former {0} → Former {0}
entry g = pair (const ℤ) g

abbrev pub the_former : Former {0} → Former {0}
the_former g = list (entry g)

abbrev pub the_weighed : {g : Former {0}} → Weighed g → Weighed (the_former g)
the_weighed w = w_list (w_pair (w_const ℤ) w)

pub the_empty : List (ℤ × ⊥)
the_empty = []

abbrev pub the_items : (X : Type 0) → List (ℤ × X) → List X
the_items X d = map (λ e. e.1) d

pub the_items_listed : (X : Type 0) (d : List (ℤ × X)) → listed _ (children (the_former this) X d) ≡ the_items X d
the_items_listed X [] = refl
the_items_listed X (e ∷ es) = ap (λ l. e.1 ∷ l) (the_items_listed X es)

abbrev fields : Former {0}
fields = via (pair (vec.the_former (entry this) Global) (const Bool)) Inside (λ X a. (a.entries, a.rising))
    (λ X v. record { entries = v.0; rising = v.1 }) (λ X a. refl) (λ X v. refl)

-- an entry, with a function applied to what has the number
abbrev on_entry : {X Y : Type 0} → (X → Y) → ℤ × X → ℤ × Y
on_entry h e = (e.0, h e.1)

All-prop : (n : ℤ) (ms : List ℤ) → IsProp (AllByRecursion (λ m. int_lt n m ≡ true) ms)
All-prop n [] = Unit-prop
All-prop n (m ∷ ms) = ×_prop (Coded-set coded_bool _ _) (All-prop n ms)

Rise-prop : (ns : List ℤ) → IsProp (Rise ns)
Rise-prop [] = Unit-prop
Rise-prop (n ∷ ns) = ×_prop (All-prop n ns) (Rise-prop ns)

mark : (b : Bool) (ns : List ℤ) → IsProp (IsMark b ns)
mark b ns = →_prop (Rise-prop ns)

numbers_stay : {X Y : Type 0} (h : X → Y) (es : List (ℤ × X)) → map (λ (e : ℤ × Y). e.0) (map (on_entry h) es) ≡ map (λ (e : ℤ × X). e.0) es
numbers_stay h [] = refl
numbers_stay h (e ∷ es) = ap (λ l. e.0 ∷ l) (numbers_stay h es)

module _ (R S : RattleType) (h : R.Denot → S.Denot) where
  entry_places : Alike R S h → Alike (Tuple (i128 ∷ R ∷ [])) (Tuple (i128 ∷ S ∷ [])) (on_entry h)
  entry_places a = struct_places (tuple_type (i128 ∷ R ∷ [])) (tuple_type (i128 ∷ S ∷ [])) (λ n. n, (h, tt)) _ (λ d. refl) refl
      ((refl, (λ n. refl, λ n. refl)), (laid _ _ _ a, tt))

  pub the_places : Alike R S h → Alike (C.the_row R) (C.the_row S) ((the_former this).map R.Denot S.Denot h)
  the_places a = view_places fields (the_former this) view (λ X Y k u. refl) (λ X u. refl) R.Denot S.Denot h
      (C.the_row R).coded (C.the_row S).coded
      (invariant R.Denot) (invariant S.Denot) (λ u. mark u.rising _) (λ u. mark u.rising _)
      (λ u. subst (IsMark u.rising) (sym (numbers_stay h u.entries.items))) (λ u. subst (IsMark u.rising) (numbers_stay h u.entries.items))
      (over (I.the_row R)) (over (I.the_row S))
      (struct_places (I.the_type R) (I.the_type S) (vec.mapped (on_entry h), (λ b. b, tt)) _ (λ d. refl) refl (
        laid _ _ _ (vec.the_places heap.the_row ghosts (Tuple (i128 ∷ R ∷ [])) (Tuple (i128 ∷ S ∷ [])) (on_entry h) (entry_places a)),
        ((refl, (λ n. refl, λ n. refl)), tt),
      ))

  pub the_codes_placed : Recodes R S h → Recodes (C.the_row R) (C.the_row S) ((the_former this).map R.Denot S.Denot h)
  the_codes_placed e d = sym (code_map (coded× coded_ℤ R.coded).code (coded× coded_ℤ S.coded).code (on_entry h)
      (λ x i. gcons (coded_ℤ.code x.0) (sym (e x.1) i)) d)
