-- Enumerations.
use Rattle.std.specs.Prelude.{ℕ, ℤ, pos, List, [], ◌∷◌, ◌++◌, map, length, Option, Some, None, Ok, if◌then◌else◌}
use Rattle.aoi.specs.declared.faults.NameFault.{NameFault}
use Rattle.aoi.specs.declared.faults.NameFault.TheVariants.{Twice, CaseClash}
use Rattle.aoi.specs.Shapes.{enumeration}
use Rattle.idl_names.specs.declared.uses.Tag.TheVariants as tag
use Rattle.idl_names.specs.Answers.{Answer, and_then}
use Rattle.idl_names.specs.Names.{has}
use Rattle.idl_names.specs.Labels.{labelled}
use Rattle.idl_exprs.specs.declared.tree.Identifier.{Identifier}
use Rattle.corba_decls.specs.declared.member_tree.Enum.{Enum}
use Rattle.corba_scopes.specs.declared.meanings.Meaning.TheVariants as M
use Rattle.corba_scopes.specs.Names.{Names, lower, clash, lower_of, refused_by, declared_on}
use Rattle.corba_shapes.specs.State.{State, with_type}

-- why an enum may not have its name among its items: one of them has it, or has it but for the case of letters
abbrev pub item_clash : List ℕ → List Identifier → Option NameFault
item_clash name items =
    if has name (map (λ i. i.name) items) then Some Twice
    else if has (lower name) (map (λ i. lower i.name) items) then Some CaseClash
    else None

-- the names and numbers so far, and the items
pub record Items : Type 0 where
  pub names : Names
  pub labels : List (ℕ × ℤ)
  pub items : List (List ℕ × ℤ)

-- items of the k-th type after those before them: each is a constant, whose number is its place
abbrev pub items_on : ℕ → ℕ → ℕ → Items → List Identifier → Answer Items
items_on d k place s [] = Ok s
items_on d k place s (i ∷ is) =
    and_then (declared_on d s.names i.name (M.Number (pos (length s.items)))) (λ names.
    and_then (labelled d k place s.labels (pos (length s.items))) (λ labels.
    items_on d k place (record { names = names; labels = labels; items = s.items ++ (i.name, pos (length s.items)) ∷ [] }) is))

-- an enum and its items belong to one scope: its name is tested where it is, and declared after them
abbrev pub enum_on : ℕ → State → Enum → Answer State
enum_on d s e =
    and_then (refused_by d (lower_of (clash s.names e.name.name) (item_clash e.name.name e.items))) (λ _.
    and_then (items_on d (length s.types) (length s.labels)
    (record { names = s.names; labels = s.labels; items = [] }) e.items) (λ r.
    with_type d e.name.name (enumeration r.items) (tag.Enum (length s.types)) None (record s { names = r.names; labels = r.labels })))
