-- Names that stay undeclared, by induction on the items.
use Rattle.std.proofs.Common.{◌≡◌, ℕ, ℤ, false, List, [], ◌∷◌, ◌++◌, refl, sym, ap, subst, Option, ◌∙◌}
use Rattle.std.specs.Prelude.{Ok}
use Rattle.std.specs.Str.{bytes_eq}
use Rattle.std.proofs.lemmas.Bool.{or_parts}
use Rattle.aoi.specs.declared.faults.NameFault.TheVariants.{Twice}
use Rattle.onc_syntax.specs.declared.tree.Item.{Item}
use Rattle.front_onc.specs.declared.meaning.Meaning.TheVariants.{Constant}
use Rattle.idl_names.specs.Answers.{refused}
use Rattle.idl_names.specs.Names.{is_declared}
use Rattle.front_onc.specs.State.{State, declared}
use Rattle.front_onc.specs.Enums.{with_label, item_number, short, item_on, items_on, is_item}
use Rattle.idl_names.proofs.Parts.{then_ok, ok_same}
use Rattle.idl_names.proofs.Tables.{stays_undeclared}
use Rattle.idl_names.specs.Labels.{labelled}

pub label_scope : (d k place : ℕ) (s t : State) (n : ℤ) → with_label d k place s n ≡ Ok t → t.scope ≡ s.scope
label_scope d k place s t n h = let x =
    then_ok (labelled d k place s.labels n) _ t h in ap (λ z. z.scope) (sym (ok_same (record s { labels = x.given }) t x.rest))

pub item_keeps : (name : List ℕ) (d k place : ℕ) (s : State) (previous : Option ℤ) (i : Item) (r : State × ℤ)
    → item_on d k place s previous i ≡ Ok r → is_declared name s.scope ≡ false → bytes_eq name i.name ≡ false
    → is_declared name r.0.scope ≡ false
item_keeps name d k place s previous i r h old new =
    let a = then_ok (refused Twice d (is_declared i.name s.scope)) _ r h in
    let b = then_ok (item_number s.scope d previous i.value) _ r a.rest in
    let c = then_ok (short d b.given) _ r b.rest in
    let e = then_ok (with_label d k place s c.given) _ r c.rest in
    let same = label_scope d k place s e.given c.given e.first in
    let none = stays_undeclared name i.name (Constant c.given) e.given.scope (ap (is_declared name) same ∙ old) new in
    let made : State × ℤ = (declared i.name (Constant c.given) e.given, c.given) in
    subst (λ z. is_declared name z ≡ false) (ap (λ (z : State × ℤ). z.0.scope) (ok_same made r e.rest)) none

pub items_keep : (name : List ℕ) (d k place : ℕ) (s : State) (done : List (List ℕ × ℤ)) (previous : Option ℤ)
    (items : List Item) (r : State × List (List ℕ × ℤ))
    → items_on d k place s done previous items ≡ Ok r → is_declared name s.scope ≡ false → is_item name items ≡ false
    → is_declared name r.0.scope ≡ false
items_keep name d k place s done previous [] r h old new =
    let here : State × List (List ℕ × ℤ) = (s, done) in
    subst (λ z. is_declared name z ≡ false) (ap (λ (z : State × List (List ℕ × ℤ)). z.0.scope) (ok_same here r h)) old
items_keep name d k place s done previous (i ∷ items) r h old new =
    let a = then_ok (item_on d k place s previous i) _ r h in
    let parts = or_parts _ _ new in
    let here = item_keeps name d k place s previous i a.given a.first old parts.0 in
    items_keep name d k place a.given.0 _ _ items r a.rest here parts.1
