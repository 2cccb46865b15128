-- The numbers of enums, and the labels of unions.
use Rattle.std.specs.Prelude.{Bool, false, not, nat_le, ◌&&◌, ◌||◌, ◌==◌, ℕ, ◌-◌, ℤ, List, [], ◌∷◌, ◌++◌, length, Ok, if◌then◌else◌}
use Rattle.std.specs.List.{list_any}
use Rattle.std.specs.Ordering.{int_eq}
use Rattle.kit_base.specs.Limits.{most_labels}
use Rattle.mint.specs.Kinds.{in_range}
use Rattle.aoi.specs.declared.faults.NameFault.TheVariants.{Label, Limit}
use Rattle.idl_names.specs.declared.uses.Tag.{Tag}
use Rattle.idl_names.specs.declared.uses.Tag.TheVariants as tag
use Rattle.idl_names.specs.Answers.{Answer, and_then, refused}

-- a number of an enum
abbrev pub is_label : ℕ → ℤ → List (ℕ × ℤ) → Bool
is_label k n labels = list_any (λ l. k == l.0 && int_eq n l.1) labels

-- a number is one of the k-th type's, of which there are at most 4,096; those of other enums come before the place
abbrev pub labelled : ℕ → ℕ → ℕ → List (ℕ × ℤ) → ℤ → Answer (List (ℕ × ℤ))
labelled d k place labels n =
    if is_label k n labels then Ok labels
    else and_then (refused Limit d (nat_le most_labels (length labels - place))) (λ _. Ok (labels ++ (k, n) ∷ []))

-- a number that the tag may have
abbrev pub is_of : List (ℕ × ℤ) → Tag → ℤ → Bool
is_of labels (tag.Number k) n = in_range k n
is_of labels (tag.Enum k) n = is_label k n labels
is_of labels tag.Other n = false

-- the number of a union's label, after those that come before it: it is one of the tag's, is there once, and is one of at most 4,096
abbrev pub numbered : List (ℕ × ℤ) → Tag → ℕ → List ℤ → ℤ → Answer (List ℤ)
numbered labels tag d numbers n =
    and_then (refused Label d (not (is_of labels tag n) || list_any (int_eq n) numbers)) (λ _.
    and_then (refused Limit d (nat_le most_labels (length numbers))) (λ _.
    Ok (numbers ++ n ∷ [])))
