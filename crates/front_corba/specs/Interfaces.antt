-- Interfaces.
use Rattle.std.specs.Prelude.{ℕ, ◌+◌, nat_le, List, [], ◌∷◌, ◌++◌, map, length, Ok}
use Rattle.kit_base.specs.Limits.{most_interfaces}
use Rattle.aoi.specs.declared.faults.NameFault.TheVariants.{Twice, Limit}
use Rattle.idl_names.specs.Answers.{Answer, and_then, refused}
use Rattle.idl_names.specs.Names.{has}
use Rattle.corba_syntax.specs.declared.interface_tree.Export.{Export}
use Rattle.corba_syntax.specs.declared.interface_tree.Export.TheVariants as E
use Rattle.corba_syntax.specs.declared.interface_tree.Interface.{Interface}
use Rattle.corba_scopes.specs.declared.meanings.Meaning.TheVariants as M
use Rattle.corba_scopes.specs.Names.{Names, here, entered, left, clash, refused_by, declared_on}
use Rattle.corba_shapes.specs.State.{counted}
use Rattle.corba_shapes.specs.Declarations.{declaration_on}
use Rattle.front_corba.specs.State.{PlainOffer, Body, with_names, Heirs, no_bases, PlainOffering, File, at_names}
use Rattle.front_corba.specs.Bases.{bases_on}
use Rattle.front_corba.specs.Operations.{operation_on}
use Rattle.front_corba.specs.Attributes.{attributes_on}

-- one export of an interface, by its number as a declaration
abbrev pub export_on : ℕ → ℕ → Body → Export → Answer Body
export_on d home b (E.Declaration x) = and_then (declaration_on d b.state x) (λ s. Ok (record b { state = s }))
export_on d home b (E.Attribute a) = attributes_on d home b a
export_on d home b (E.Operation o) = operation_on d home b o

-- what an interface declares after what is before it, each a declaration
abbrev pub exports_on : ℕ → Body → List Export → Answer Body
exports_on home b [] = Ok b
exports_on home b (x ∷ xs) =
    and_then (export_on (b.state.count + 1) home (record b { state = counted b.state }) x) (λ b. exports_on home b xs)

-- the full names of interfaces
abbrev pub full_names : List PlainOffering → List (List ℕ)
full_names is = map (λ i. i.name) is

-- an interface by its full name
abbrev pub offering : List ℕ → List PlainOffer → PlainOffering
offering name ops = record { name = name; ops = ops }

-- the number and the full name of an interface that may be beside these, of which there are at most 64; its name is tested where it is
abbrev pub seat_on : ℕ → Names → List PlainOffering → List ℕ → Answer (ℕ × List ℕ)
seat_on d s interfaces name =
    and_then (refused_by d (clash s name)) (λ _.
    and_then (refused Twice d (has (here s ++ name) (full_names interfaces))) (λ _.
    and_then (refused Limit d (nat_le most_interfaces (length interfaces))) (λ _.
    Ok (length interfaces, here s ++ name))))

-- what an interface has of its bases
abbrev pub heritage_on : ℕ → File → Interface → Answer Heirs
heritage_on d s i = bases_on d i.name.name s.interfaces (no_bases s.state.names) i.bases

-- the name of an interface, which is declared after its bases, and what it declares in its own scope after their operations
abbrev pub entered_on : ℕ → ℕ → Body → Interface → Answer Body
entered_on d home b i =
    and_then (declared_on d b.state.names i.name.name (M.Interface home)) (λ names.
    and_then (exports_on home (with_names (entered i.name.name names) b) i.exports) (λ b.
    Ok (with_names (left b.state.names) b)))

-- an interface of this number and full name, which has these operations of its bases, after the others
abbrev pub built_on : ℕ → File → Interface → ℕ × List ℕ → List PlainOffer → Answer File
built_on d s i seat ops =
    and_then (entered_on d seat.0 (record { state = s.state; ops = ops }) i) (λ b.
    Ok (record { state = b.state; interfaces = s.interfaces ++ offering seat.1 b.ops ∷ [] }))

-- an interface of this number and full name after the others
abbrev pub seated_on : ℕ → File → Interface → ℕ × List ℕ → Answer File
seated_on d s i seat = and_then (heritage_on d s i) (λ h. built_on d (at_names h.names s) i seat h.ops)

-- an interface after the others
abbrev pub interface_on : ℕ → File → Interface → Answer File
interface_on d s i = and_then (seat_on d s.state.names s.interfaces i.name.name) (seated_on d s i)
