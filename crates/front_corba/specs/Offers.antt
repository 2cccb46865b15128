-- The operations of an interface, and their names.
use Rattle.std.specs.Prelude.{ℕ, ◌+◌, nat_le, List, [], ◌∷◌, ◌++◌, map, length, Option, Some, None, Ok, if◌then◌else◌}
use Rattle.kit_base.specs.Limits.{most_operations}
use Rattle.aoi.specs.declared.faults.NameFault.{NameFault}
use Rattle.aoi.specs.declared.faults.NameFault.TheVariants.{Twice, CaseClash, Limit}
use Rattle.aoi.specs.Plain.{PlainOperation}
use Rattle.idl_names.specs.Answers.{Answer, and_then, refused}
use Rattle.idl_names.specs.Names.{has}
use Rattle.corba_scopes.specs.declared.meanings.Meaning.TheVariants as M
use Rattle.corba_scopes.specs.Names.{Names, lower, clash, declared_on, lower_of}
use Rattle.front_corba.specs.State.{PlainOffer, Body}

-- the names of operations
abbrev pub offer_names : List PlainOffer → List (List ℕ)
offer_names ops = map (λ o. o.operation.name) ops

-- why no operation may have a name beside these: one of them has it but for the case of letters
abbrev pub case_clash : List ℕ → List PlainOffer → Option NameFault
case_clash name ops = if has (lower name) (map lower (offer_names ops)) then Some CaseClash else None

-- the same, and where one of them has it
abbrev pub operation_clash : List ℕ → List PlainOffer → Option NameFault
operation_clash name ops = if has name (offer_names ops) then Some Twice else case_clash name ops

-- the lower fault of a name here and beside these operations
abbrev pub own_clash : Names → List ℕ → List PlainOffer → Option NameFault
own_clash s name ops = lower_of (clash s name) (operation_clash name ops)

-- an operation at its place: procedures are numbered from 1, slots from 0
abbrev pub at_place : ℕ → PlainOperation → PlainOperation
at_place n o = record o { proc_no = n + 1; slot = n }

-- an operation of an interface at its place
abbrev pub placed : ℕ → ℕ → PlainOperation → PlainOffer
placed home n o = record { home = home; operation = at_place n o }

-- an operation after the others, of which there are at most 256
abbrev pub added_on : ℕ → ℕ → PlainOperation → List PlainOffer → Answer (List PlainOffer)
added_on d home o ops =
    and_then (refused Limit d (nat_le most_operations (length ops))) (λ _.
    Ok (ops ++ placed home (length ops) o ∷ []))

-- an operation after the others, whose name is declared here
abbrev pub offered_on : ℕ → ℕ → Body → PlainOperation → Answer Body
offered_on d home b o =
    and_then (declared_on d b.state.names o.name M.Other) (λ names.
    and_then (added_on d home o b.ops) (λ ops.
    Ok (record { state = record b.state { names = names }; ops = ops })))
