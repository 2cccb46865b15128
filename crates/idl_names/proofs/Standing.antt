-- What a type that is used stands for, over the types so far.
use Rattle.std.proofs.Common.{◌≡◌, ℕ, ℤ, ◌<◌, ◌≤◌, true, List, ◌++◌, length, refl, ap, ◌∙◌, arith}
use Rattle.std.specs.List.{list_any}
use Rattle.std.specs.Ordering.{int_eq}
use Rattle.std.proofs.lemmas.Bool.{lt-ltb}
use Rattle.std.proofs.lemmas.List.{get_or_append_left, length-append}
use Rattle.aoi.specs.Shapes.{Shape, void, number, enumeration}
use Rattle.aoi.specs.Sound.{unfolded, is_sound_type}
use Rattle.idl_names.specs.declared.uses.Tag.{Tag}
use Rattle.idl_names.specs.declared.uses.Tag.TheVariants as tag
use Rattle.idl_names.specs.declared.uses.Use.{Use}
use Rattle.idl_names.specs.declared.uses.Use.TheVariants.{Number, Declared}
use Rattle.idl_names.specs.Uses.{shape_of_use}
use Rattle.idl_names.specs.Labels.{is_label}
use Rattle.idl_names.proofs.Growing.{at, unfolded_grow}

-- what the k-th type is once its names are followed
abbrev pub Ends : List Shape → ℕ → Shape → Type 0
Ends types k e = (n : ℕ) → k ≤ n → unfolded n types k (at types k) ≡ e

-- the labels of an enum are numbers of its items
abbrev pub AreItems : List (ℕ × ℤ) → ℕ → List (List ℕ × ℤ) → Type 0
AreItems labels j items = (n : ℤ) → is_label j n labels ≡ true → list_any (λ i. int_eq i.1 n) items ≡ true

pub record EnumIs (types : List Shape) (labels : List (ℕ × ℤ)) (k j : ℕ) : Type 0 where
  pub below : j < length types
  pub items : List (List ℕ × ℤ)
  pub ends : Ends types k (enumeration items)
  pub numbers : AreItems labels j items

abbrev pub TagIs : List Shape → List (ℕ × ℤ) → ℕ → Tag → Type 0
TagIs types labels k (tag.Number kind) = Ends types k (number kind)
TagIs types labels k (tag.Enum j) = EnumIs types labels k j
TagIs types labels k tag.Other = Unit {0}

abbrev pub UseIs : List Shape → List (ℕ × ℤ) → Use → Type 0
UseIs types labels (Number k) = Unit {0}
UseIs types labels (Declared k t) = (k < length types) × TagIs types labels k t

-- the labels of the types so far are no more than they were
abbrev pub FewerBelow : ℕ → List (ℕ × ℤ) → List (ℕ × ℤ) → Type 0
FewerBelow count labels labels' = (j : ℕ) (n : ℤ) → j < count → is_label j n labels' ≡ true → is_label j n labels ≡ true

pub fewer_same : (count : ℕ) (labels : List (ℕ × ℤ)) → FewerBelow count labels labels
fewer_same count labels j n lt h = h

-- ---- growing

pub ends_grow : (types more : List Shape) (k : ℕ) (e : Shape) → k < length types → Ends types k e → Ends (types ++ more) k e
ends_grow types more k e lt h n le =
    let below : k ≤ length types = omega (arith, lt) in
    ap (unfolded n (types ++ more) k) (get_or_append_left types more void k lt) ∙ unfolded_grow n types more k (at types k) below ∙ h n le

pub longer : (types more : List Shape) (k : ℕ) → k < length types → k < length (types ++ more)
longer types more k lt = let count = length-append types more in omega (arith, lt, count)

pub tag_grow : (types more : List Shape) (labels labels' : List (ℕ × ℤ)) (k : ℕ) (t : Tag)
    → FewerBelow (length types) labels labels' → k < length types → TagIs types labels k t
    → TagIs (types ++ more) labels' k t
tag_grow types more labels labels' k (tag.Number kind) fewer lt h = ends_grow types more k (number kind) lt h
tag_grow types more labels labels' k (tag.Enum j) fewer lt h = record {
  below = longer types more j h.below;
  items = h.items;
  ends = ends_grow types more k (enumeration h.items) lt h.ends;
  numbers = λ n is. h.numbers n (fewer j n h.below is);
}
tag_grow types more labels labels' k tag.Other fewer lt h = tt

pub use_grow : (types more : List Shape) (labels labels' : List (ℕ × ℤ)) (u : Use)
    → FewerBelow (length types) labels labels' → UseIs types labels u
    → UseIs (types ++ more) labels' u
use_grow types more labels labels' (Number k) fewer h = tt
use_grow types more labels labels' (Declared k t) fewer h = (longer types more k h.0, tag_grow types more labels labels' k t fewer h.0 h.1)

-- ---- the shape of a use

pub use_sound : (types : List Shape) (labels : List (ℕ × ℤ)) (u : Use) → UseIs types labels u
    → is_sound_type types (length types) (shape_of_use u) ≡ true
use_sound types labels (Number k) h = refl
use_sound types labels (Declared k t) h = lt-ltb k (length types) h.0
