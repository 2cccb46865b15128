-- Enums are sound, and their labels are the numbers of their items, by induction on the items.
use Rattle.std.proofs.Common.{◌≡◌, ℕ, ℤ, true, false, List, [], ◌∷◌, ◌++◌, map, Option, Some, None, refl, sym, ap, subst, ◌∙◌}
use Rattle.std.specs.Prelude.{Ok}
use Rattle.std.specs.Str.{bytes_eq}
use Rattle.std.proofs.lemmas.Bool.{or_parts, or_from}
use Rattle.aoi.specs.declared.faults.NameFault.TheVariants.{Twice}
use Rattle.aoi.specs.Sound.{is_sound_enum, are_distinct}
use Rattle.onc_syntax.specs.declared.tree.Item.{Item}
use Rattle.idl_names.specs.Names.{has, is_declared}
use Rattle.idl_names.specs.Lists.{is_some_list}
use Rattle.idl_names.proofs.Tables.{append_map}
use Rattle.idl_names.proofs.Forming.{some_push}
use Rattle.front_onc.specs.declared.meaning.Meaning.{Meaning}
use Rattle.front_onc.specs.declared.meaning.Meaning.TheVariants.{Constant}
use Rattle.idl_names.specs.Answers.{Answer, refused}
use Rattle.front_onc.specs.Names.{Scope}
use Rattle.front_onc.specs.State.{State, declared}
use Rattle.front_onc.specs.Enums.{with_label, item_number, short, item_on, items_on}
use Rattle.idl_names.proofs.Parts.{then_ok, refused_ok, ok_same}
use Rattle.idl_names.proofs.Different.{distinct_push}
use Rattle.idl_names.specs.Labels.{labelled}
use Rattle.idl_names.proofs.Numbering.{numbers, names, LabelsAre, Labelled, labels_added, label_is, Item_, enum_sound as sound_items}

-- what the items so far have made of a state
pub record ItemsAre (k place : ℕ) (s t : State) (items : List Item_) : Type 0 where
  pub types : t.types ≡ s.types
  pub interfaces : t.interfaces ≡ s.interfaces
  pub versions : t.versions ≡ s.versions
  pub scope : t.scope ≡ s.scope ++ map (λ i. (i.0, Constant i.1)) items
  pub labels : LabelsAre k place s.labels t.labels (numbers items)
  pub different : are_distinct (names items) ≡ true

-- a state whose labels have a number more, or had it
abbrev state_is : State → Answer State
state_is s = Ok s

pub record LabelIs (k place : ℕ) (s t : State) (n : ℤ) : Type 0 where
  pub types : t.types ≡ s.types
  pub interfaces : t.interfaces ≡ s.interfaces
  pub versions : t.versions ≡ s.versions
  pub scope : t.scope ≡ s.scope
  pub labels : Labelled k place s.labels t.labels n

pub state_label_is : (d k place : ℕ) (s t : State) (n : ℤ) → with_label d k place s n ≡ Ok t → LabelIs k place s t n
state_label_is d k place s t n h =
    let a = then_ok (labelled d k place s.labels n) (λ labels. state_is (record s { labels = labels })) t h in
    let same = sym (ok_same (record s { labels = a.given }) t a.rest) in
    record {
      types = ap (λ z. z.types) same;
      interfaces = ap (λ z. z.interfaces) same;
      versions = ap (λ z. z.versions) same;
      scope = ap (λ z. z.scope) same;
      labels = subst (λ z. Labelled k place s.labels z n) (sym (ap (λ z. z.labels) same)) (label_is d k place s.labels a.given n a.first);
    }

-- ---- one more item

none_of_them : (scope : Scope) (items : List Item_) (name : List ℕ)
    → is_declared name (scope ++ map (λ i. (i.0, Constant i.1)) items) ≡ false
    → has name (names items) ≡ false
none_of_them [] [] name h = refl
none_of_them [] (i ∷ items) name h = let parts =
    or_parts (bytes_eq name i.0) _ h in or_from _ _ parts.0 (none_of_them [] items name parts.1)
none_of_them (e ∷ scope) items name h = let parts = or_parts (bytes_eq name e.0) _ h in none_of_them scope items name parts.1

added : {A : Type 0} (xs ys : List A) (z : A) → (xs ++ ys) ++ z ∷ [] ≡ xs ++ (ys ++ z ∷ [])
added [] ys z = refl
added (x ∷ xs) ys z = ap (λ w. x ∷ w) (added xs ys z)

pub item_added : (d k place : ℕ) (s t : State) (items : List Item_) (previous : Option ℤ) (i : Item) (r : State × ℤ)
    → ItemsAre k place s t items → item_on d k place t previous i ≡ Ok r
    → ItemsAre k place s r.0 (items ++ (i.name, r.1) ∷ [])
item_added d k place s t items previous i r are h =
    let a = then_ok (refused Twice d (is_declared i.name t.scope)) _ r h in
    let b = then_ok (item_number t.scope d previous i.value) _ r a.rest in
    let c = then_ok (short d b.given) _ r b.rest in
    let e = then_ok (with_label d k place t c.given) _ r c.rest in
    let new = refused_ok Twice d (is_declared i.name t.scope) a.given a.first in
    let free = none_of_them s.scope items i.name (ap (is_declared i.name) (sym are.scope) ∙ new) in
    let l = state_label_is d k place t e.given c.given e.first in
    let f : Item_ → List ℕ × Meaning = λ i. (i.0, Constant i.1) in
    let last : Item_ = (i.name, c.given) in
    let made : State × ℤ = (declared i.name (Constant c.given) e.given, c.given) in
    subst (λ (r : State × ℤ). ItemsAre k place s r.0 (items ++ (i.name, r.1) ∷ [])) (ok_same made r e.rest) (record {
      types = l.types ∙ are.types;
      interfaces = l.interfaces ∙ are.interfaces;
      versions = l.versions ∙ are.versions;
      scope =
          ap (λ z. z ++ (i.name, Constant c.given) ∷ []) (l.scope ∙ are.scope) ∙ added s.scope (map f items) (f last) ∙ ap (λ z.
          s.scope ++ z) (sym (append_map f items last));
      labels =
          subst (LabelsAre k place s.labels e.given.labels)
          (sym (append_map
          (λ (i : Item_).
          i.1) items last)) (labels_added k place s.labels t.labels e.given.labels (numbers items) c.given are.labels l.labels);
      different =
          subst
          (λ z.
          are_distinct z ≡ true)
          (sym (append_map (λ (i : Item_). i.0) items last)) (distinct_push (names items) i.name are.different free);
    })

pub items_are : (d k place : ℕ) (s t : State) (items : List Item_) (previous : Option ℤ) (list : List Item) (r : State × List Item_)
    → ItemsAre k place s t items → items_on d k place t items previous list ≡ Ok r
    → ItemsAre k place s r.0 r.1 × (is_some_list items ≡ true → is_some_list r.1 ≡ true)
items_are d k place s t items previous [] r are h =
    let here : State × List Item_ = (t, items) in
    let same = ok_same here r h in (
      subst (λ (r : State × List Item_). ItemsAre k place s r.0 r.1) same are,
      λ some.
          subst (λ (r : State × List Item_). is_some_list r.1 ≡ true) same some,
    )
items_are d k place s t items previous (i ∷ list) r are h =
    let a = then_ok (item_on d k place t previous i) _ r h in
    let rest = items_are d k place s a.given.0 (items ++ (i.name, a.given.1) ∷ []) (Some a.given.1) list r
    (item_added d k place s t items previous i a.given are a.first) a.rest in
    (rest.0, λ _. rest.1 (some_push items (i.name, a.given.1)))

pub items_some : (d k place : ℕ) (s : State) (list : List Item) (r : State × List Item_) → ItemsAre k place s s []
    → is_some_list list ≡ true → items_on d k place s [] None list ≡ Ok r
    → is_some_list r.1 ≡ true
items_some d k place s [] r are some h = absurd cc
items_some d k place s (i ∷ list) r are some h =
    let a = then_ok (item_on d k place s None i) _ r h in
    (items_are d k place s a.given.0 ((i.name, a.given.1) ∷ []) (Some a.given.1) list r
    (item_added d k place s s [] None i a.given are a.first) a.rest).1 refl

pub enum_sound : (k place : ℕ) (s t : State) (items : List Item_) → ItemsAre k place s t items → is_some_list items ≡ true
    → is_sound_enum items ≡ true
enum_sound k place s t items are some = sound_items items some are.labels.few are.different
