-- The types and constants that enums make.
use Rattle.std.specs.Prelude.{Bool, ◌||◌, ℕ, ℤ, pos, ◌+ℤ◌, List, [], ◌∷◌, ◌++◌, length, Option, Some, None, Ok, if◌then◌else◌}
use Rattle.std.specs.List.{list_any}
use Rattle.std.specs.Str.{bytes_eq}
use Rattle.mint.specs.Kinds.{in_range}
use Rattle.mint.specs.declared.kind.Kind.TheVariants as kind
use Rattle.aoi.specs.declared.faults.NameFault.TheVariants.{Twice, Range}
use Rattle.aoi.specs.Shapes.{enumeration}
use Rattle.onc_syntax.specs.declared.tree.Value.{Value}
use Rattle.onc_syntax.specs.declared.tree.Item.{Item}
use Rattle.idl_names.specs.declared.uses.Tag.TheVariants as tag
use Rattle.front_onc.specs.declared.meaning.Meaning.TheVariants as M
use Rattle.idl_names.specs.Answers.{Answer, fault, and_then, refused}
use Rattle.idl_names.specs.Labels.{labelled}
use Rattle.idl_names.specs.Names.{is_declared}
use Rattle.front_onc.specs.Names.{Scope, value}
use Rattle.front_onc.specs.State.{State, declared, with_type}

-- the number after the previous one, or 0
abbrev pub next : Option ℤ → ℤ
next None = pos 0
next (Some n) = n +ℤ pos 1

-- the number of an item; without a value it is the next one
abbrev pub item_number : Scope → ℕ → Option ℤ → Option Value → Answer ℤ
item_number scope d previous None = Ok (next previous)
item_number scope d previous (Some v) = value scope d v

-- a number of 32 signed bits
abbrev pub short : ℕ → ℤ → Answer ℤ
short d n = if in_range kind.I32 n then Ok n else fault Range d

-- a number is one of the k-th type's, of which there are at most 4,096; those of other enums come before the place
abbrev pub with_label : ℕ → ℕ → ℕ → State → ℤ → Answer State
with_label d k place s n = and_then (labelled d k place s.labels n) (λ labels. Ok (record s { labels = labels }))

-- an item is a constant, and its number one of the enum's
abbrev pub item_on : ℕ → ℕ → ℕ → State → Option ℤ → Item → Answer (State × ℤ)
item_on d k place s previous i =
    and_then (refused Twice d (is_declared i.name s.scope)) (λ _.
    and_then (item_number s.scope d previous i.value) (λ n.
    and_then (short d n) (λ n.
    and_then (with_label d k place s n) (λ s.
    Ok (declared i.name (M.Constant n) s, n)))))

-- items after those before them
abbrev pub items_on : ℕ → ℕ → ℕ → State → List (List ℕ × ℤ) → Option ℤ → List Item → Answer (State × List (List ℕ × ℤ))
items_on d k place s items previous [] = Ok (s, items)
items_on d k place s items previous (i ∷ is) = and_then (item_on d k place s previous i)
    (λ r. items_on d k place r.0 (items ++ (i.name, r.1) ∷ []) (Some r.1) is)

-- an item has the name
abbrev pub is_item : List ℕ → List Item → Bool
is_item name items = list_any (λ i. bytes_eq name i.name) items

-- its items are declared before its own name
abbrev pub enum_on : ℕ → State → List ℕ → List Item → Answer State
enum_on d s name items =
    and_then (refused Twice d (is_declared name s.scope || is_item name items)) (λ _.
    and_then (items_on d (length s.types) (length s.labels) s [] None items) (λ r.
    Ok (with_type name (enumeration r.1) (tag.Enum (length s.types)) r.0)))
