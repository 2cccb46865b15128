-- Enumerations are sound, and their labels are the numbers of their items, by induction on the items.
use Rattle.std.proofs.Common.{◌≡◌, ℕ, ℤ, pos, true, List, [], ◌∷◌, ◌++◌, length, sym, subst}
use Rattle.std.specs.Prelude.{Ok}
use Rattle.aoi.specs.Shapes.{Shape}
use Rattle.aoi.specs.Sound.{are_distinct}
use Rattle.idl_names.specs.Lists.{is_some_list}
use Rattle.idl_names.specs.Labels.{labelled}
use Rattle.idl_names.proofs.Parts.{then_ok, ok_same}
use Rattle.idl_names.proofs.Tables.{append_map}
use Rattle.idl_names.proofs.Different.{distinct_push}
use Rattle.idl_names.proofs.Forming.{some_push}
use Rattle.idl_names.proofs.Numbering.{Item_, numbers, names, LabelsAre, label_is, labels_added}
use Rattle.idl_exprs.specs.declared.tree.Identifier.{Identifier}
use Rattle.corba_scopes.specs.declared.meanings.Meaning.TheVariants as M
use Rattle.corba_scopes.specs.Names.{declared_on}
use Rattle.corba_shapes.specs.Enums.{Items, items_on}
use Rattle.corba_shapes.proofs.Standing.{ScopeIs, declared_ok, declared_is}
use Rattle.corba_shapes.proofs.Filling.{Fresh, fresh_push}

-- what the items so far have made of the names and labels
pub record ItemsAre (types : List Shape) (base : List (ℕ × ℤ)) (k place : ℕ) (s : Items) : Type 0 where
  pub standing : ScopeIs types base s.names
  pub labelling : LabelsAre k place base s.labels (numbers s.items)
  pub different : are_distinct (names s.items) ≡ true
  pub fresh : Fresh s.names (names s.items)

pub items_are : (types : List Shape) (base : List (ℕ × ℤ)) (d : ℕ) (k place : ℕ) (s out : Items) (list : List Identifier)
    → ItemsAre types base k place s → items_on d k place s list ≡ Ok out
    → ItemsAre types base k place out × (is_some_list s.items ≡ true → is_some_list out.items ≡ true)
    × (is_some_list list ≡ true → is_some_list out.items ≡ true)
items_are types base d k place s out [] are h =
    let same = ok_same s out h in (
      subst (ItemsAre types base k place) same are,
      λ some. subst (λ (z : Items). is_some_list z.items ≡ true) same some,
      λ some. absurd cc,
    )
items_are types base d k place s out (i ∷ list) are h =
    let n = pos (length s.items) in
    let a = then_ok (declared_on d s.names i.name (M.Number n)) _ out h in
    let b = then_ok (labelled d k place s.labels n) _ out a.rest in
    let one = declared_ok d s.names i.name (M.Number n) a.given a.first in
    let last : Item_ = (i.name, n) in
    let next : Items = record { names = a.given; labels = b.given; items = s.items ++ last ∷ [] } in
    let free = are.fresh i.name one.new in
    let names' : names (s.items ++ last ∷ []) ≡ names s.items ++ i.name ∷ [] = append_map (λ (i : Item_). i.0) s.items last in
    let numbers' : numbers (s.items ++ last ∷ []) ≡ numbers s.items ++ n ∷ [] = append_map (λ (i : Item_). i.1) s.items last in
    let whole : ItemsAre types base k place next = record {
      standing = declared_is types base s.names i.name (M.Number n) a.given are.standing tt one;
      labelling =
          subst (LabelsAre k place base b.given) (sym numbers')
          (labels_added k place base s.labels b.given (numbers s.items) n are.labelling (label_is d k place s.labels b.given n b.first));
      different = subst (λ z. are_distinct z ≡ true) (sym names') (distinct_push (names s.items) i.name are.different free);
      fresh =
          subst
          (λ z. Fresh a.given z) (sym names') (fresh_push s.names a.given (names s.items) i.name (M.Number n) are.fresh one);
    } in
    let rest = items_are types base d k place next out list whole b.rest in
    (rest.0, λ _. rest.1 (some_push s.items last), λ _. rest.1 (some_push s.items last))
