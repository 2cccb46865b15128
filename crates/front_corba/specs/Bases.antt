-- The operations of bases.
use Rattle.std.specs.Prelude.{Bool, false, ◌&&◌, ◌==◌, nat_eq, ℕ, List, [], ◌∷◌, ◌++◌, Option, Some, None, Ok, slice_get, if◌then◌else◌}
use Rattle.std.specs.List.{list_any}
use Rattle.std.specs.Str.{bytes_eq}
use Rattle.aoi.specs.declared.faults.NameFault.{NameFault}
use Rattle.aoi.specs.declared.faults.NameFault.TheVariants.{Unknown, NotType}
use Rattle.idl_names.specs.Answers.{Answer, fault, and_then}
use Rattle.idl_names.specs.Names.{has}
use Rattle.corba_syntax.specs.declared.operation_tree.Reference.{Reference}
use Rattle.corba_scopes.specs.declared.meanings.Meaning.{Meaning}
use Rattle.corba_scopes.specs.declared.meanings.Meaning.TheVariants as M
use Rattle.corba_scopes.specs.Names.{refused_by, lower_of}
use Rattle.corba_scopes.specs.Finding.{named, meaning, inheriting}
use Rattle.front_corba.specs.State.{PlainOffer, Heirs, PlainOffering}
use Rattle.front_corba.specs.Offers.{offer_names, operation_clash, added_on}

-- an operation is another: it is declared in the same interface, by the same name
abbrev pub is_same : PlainOffer → PlainOffer → Bool
is_same o p = p.home == o.home && bytes_eq p.operation.name o.operation.name

-- an operation is one of these
abbrev pub is_there : PlainOffer → List PlainOffer → Bool
is_there o ops = list_any (is_same o) ops

-- whether an operation is one of these, if one has its name
abbrev pub sought : PlainOffer → List PlainOffer → Option Bool
sought o ops = if has o.operation.name (offer_names ops) then Some (is_there o ops) else None

-- an operation is this one, if there is one
abbrev pub is_this : PlainOffer → Option PlainOffer → Bool
is_this o None = false
is_this o (Some p) = is_same o p

-- why the operation of a base may not be beside these: another has its name, or has it but for the case of letters
abbrev pub offer_clash : List PlainOffer → PlainOffer → Option NameFault
offer_clash ops o = if is_there o ops then None else operation_clash o.operation.name ops

-- the lowest fault of the operations of a base
abbrev pub base_clash : List PlainOffer → List PlainOffer → Option NameFault
base_clash ops [] = None
base_clash ops (o ∷ os) = lower_of (offer_clash ops o) (base_clash ops os)

-- the operation of a base after the others, unless it is there
abbrev pub inherited : ℕ → List PlainOffer → PlainOffer → Answer (List PlainOffer)
inherited d ops o = if is_there o ops then Ok ops else added_on d o.home o.operation ops

-- the operations of a base after the others, without those that are there
abbrev pub inherited_on : ℕ → List PlainOffer → List PlainOffer → Answer (List PlainOffer)
inherited_on d ops [] = Ok ops
inherited_on d ops (o ∷ os) = and_then (inherited d ops o) (λ ops. inherited_on d ops os)

-- the operations of a base after the others, or their lowest fault
abbrev pub all_joined_on : ℕ → List PlainOffer → List PlainOffer → Answer (List PlainOffer)
all_joined_on d ops base = and_then (refused_by d (base_clash ops base)) (λ _. inherited_on d ops base)

-- the same of a base, if it is there
abbrev pub joined_on : ℕ → List PlainOffer → Option PlainOffering → Answer (List PlainOffer)
joined_on d ops None = Ok ops
joined_on d ops (Some i) = all_joined_on d ops i.ops

-- ---- names

-- the number of an interface
abbrev pub interface_of_meaning : ℕ → Meaning → Answer ℕ
interface_of_meaning d (M.Interface k) = Ok k
interface_of_meaning d _ = fault NotType d

abbrev pub interface_at : ℕ → Option Meaning → Answer ℕ
interface_at d None = fault Unknown d
interface_at d (Some m) = interface_of_meaning d m

-- a base that is not one of those before it, after them, and its line after that of the interface by this name
abbrev pub new_base : ℕ → List ℕ → List PlainOffering → Heirs → Reference → ℕ → Answer Heirs
new_base d name interfaces b r k =
    and_then (joined_on d b.ops (slice_get interfaces k)) (λ ops.
    Ok (record { names = inheriting name (named b.names r.name) b.names; numbers = b.numbers ++ k ∷ []; ops = ops }))

-- a base after those before it; one that comes again adds nothing
abbrev pub next_base : ℕ → List ℕ → List PlainOffering → Heirs → Reference → ℕ → Answer Heirs
next_base d name interfaces b r k = if list_any (nat_eq k) b.numbers then Ok b else new_base d name interfaces b r k

-- a base by its name after those before it
abbrev pub base_on : ℕ → List ℕ → List PlainOffering → Heirs → Reference → Answer Heirs
base_on d name interfaces b r = and_then (interface_at d (meaning (named b.names r.name))) (next_base d name interfaces b r)

-- bases after those before them
abbrev pub bases_on : ℕ → List ℕ → List PlainOffering → Heirs → List Reference → Answer Heirs
bases_on d name interfaces b [] = Ok b
bases_on d name interfaces b (r ∷ rs) = and_then (base_on d name interfaces b r) (λ b. bases_on d name interfaces b rs)
