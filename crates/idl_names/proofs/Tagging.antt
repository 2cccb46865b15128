-- What a new type is as the tag of a union.
use Rattle.std.proofs.Common.{◌≡◌, ℕ, ℤ, zero, suc, ◌<◌, List, [], ◌∷◌, ◌++◌, length, refl, ap, ◌∙◌}
use Rattle.std.specs.List.{list_any}
use Rattle.std.specs.Ordering.{int_eq}
use Rattle.std.proofs.lemmas.List.{get_or_push}
use Rattle.aoi.specs.Shapes.{Shape, void, number, enumeration, named}
use Rattle.aoi.specs.Sound.{unfolded}
use Rattle.idl_names.specs.declared.uses.Tag.TheVariants as tag
use Rattle.idl_names.specs.declared.uses.Use.{Use}
use Rattle.idl_names.specs.declared.uses.Use.TheVariants.{Number, Declared}
use Rattle.idl_names.specs.Uses.{shape_of_use, tag_of_use}
use Rattle.idl_names.proofs.Growing.{at}
use Rattle.idl_names.proofs.Different.{same_test}
use Rattle.idl_names.proofs.Standing.{Ends, TagIs, UseIs, ends_grow, longer}
use Rattle.idl_names.proofs.Numbering.{numbers}
use Rattle.idl_names.proofs.Labelling.{number_ends, named_ends}

pub last_is : (types : List Shape) (new : Shape) → at (types ++ new ∷ []) (length types) ≡ new
last_is types new = get_or_push types new void (length types) refl

pub enum_ends : (n : ℕ) (types : List Shape) (limit : ℕ) (items : List (List ℕ × ℤ))
    → unfolded n types limit (enumeration items) ≡ enumeration items
enum_ends zero types limit items = refl
enum_ends (suc n) types limit items = refl

new_named : (types : List Shape) (j : ℕ) (e : Shape) → j < length types → Ends types j e → Ends (types ++ named j ∷ []) (length types) e
new_named types j e lt ends n le =
    let new = named j in
    ap (unfolded n (types ++ new ∷ []) (length types)) (last_is types new)
    ∙ named_ends (types ++ new ∷ []) n (length types) j e le lt (ends_grow types (new ∷ []) j e lt ends)

pub use_tagged : (types : List Shape) (labels : List (ℕ × ℤ)) (u : Use) → UseIs types labels u
    → TagIs (types ++ shape_of_use u ∷ []) labels (length types) (tag_of_use u)
use_tagged types labels (Number k) is =
    λ n le.
    ap (unfolded n (types ++ number k ∷ []) (length types)) (last_is types (number k))
    ∙ number_ends n (types ++ number k ∷ []) (length types) k
use_tagged types labels (Declared j (tag.Number kind)) is = new_named types j (number kind) is.0 is.1
use_tagged types labels (Declared j (tag.Enum k)) is =
    record {
      below = longer types (named j ∷ []) k is.1.below;
      items = is.1.items;
      ends =
          new_named types j (enumeration is.1.items) is.0 is.1.ends;
      numbers = is.1.numbers;
    }
use_tagged types labels (Declared j tag.Other) is = tt

pub items_turned : (items : List (List ℕ × ℤ)) (n : ℤ) → list_any (λ i. int_eq i.1 n) items ≡ list_any (int_eq n) (numbers items)
items_turned [] n = refl
items_turned (i ∷ items) n = rw (same_test i.1 n, items_turned items n) refl
