-- Attributes.
use Rattle.std.specs.Prelude.{Bool, false, ℕ, List, [], ◌∷◌, ◌++◌, codes, Option, None, Ok, if◌then◌else◌}
use Rattle.aoi.specs.declared.faults.NameFault.{NameFault}
use Rattle.aoi.specs.Shapes.{Shape, void}
use Rattle.aoi.specs.Plain.{PlainOperation}
use Rattle.idl_names.specs.Answers.{Answer, and_then}
use Rattle.idl_exprs.specs.declared.tree.Identifier.{Identifier}
use Rattle.corba_syntax.specs.declared.operation_tree.Attribute.{Attribute}
use Rattle.corba_scopes.specs.declared.meanings.Meaning.TheVariants as M
use Rattle.corba_scopes.specs.Names.{Names, clash, refused_by, declared_on, lower_of}
use Rattle.corba_shapes.specs.declared.forms.Form.{Form}
use Rattle.corba_shapes.specs.Forms.{type_form, form_shape}
use Rattle.front_corba.specs.State.{PlainOffer, Body, with_names}
use Rattle.front_corba.specs.Offers.{own_clash, offered_on}
use Rattle.front_corba.specs.Operations.{operation_of}

-- the names of the operations that an attribute stands for
abbrev pub get_name : List ℕ → List ℕ
get_name x = codes "_get_" ++ x

abbrev pub set_name : List ℕ → List ℕ
set_name x = codes "_set_" ++ x

-- the operations that an attribute stands for: one gives it, and one sets it
abbrev pub getter : List ℕ → Shape → PlainOperation
getter x s = operation_of (get_name x) false [] [] s []

abbrev pub setter : List ℕ → Shape → PlainOperation
setter x s = operation_of (set_name x) false ((x, s) ∷ []) [] void []

-- why the operation that sets an attribute may not be beside these, unless the attribute can only be read
abbrev pub set_clash : Names → List PlainOffer → Bool → List ℕ → Option NameFault
set_clash s ops readonly x = if readonly then None else own_clash s (set_name x) ops

-- the lowest fault of an attribute's name and the names of its operations
abbrev pub attribute_clash : Names → List PlainOffer → Bool → List ℕ → Option NameFault
attribute_clash s ops readonly x = lower_of (clash s x) (lower_of (own_clash s (get_name x) ops) (set_clash s ops readonly x))

-- the operation that sets an attribute after the others, unless the attribute can only be read
abbrev pub setter_on : ℕ → ℕ → Bool → Form → Body → List ℕ → Answer Body
setter_on d home readonly f b x = if readonly then Ok b else offered_on d home b (setter x (form_shape f []))

-- an attribute of a type: its name, and its operations
abbrev pub attribute_on : ℕ → ℕ → Bool → Form → Body → List ℕ → Answer Body
attribute_on d home readonly f b x =
    and_then (refused_by d (attribute_clash b.state.names b.ops readonly x)) (λ _.
    and_then (declared_on d b.state.names x M.Other) (λ names.
    and_then (offered_on d home (with_names names b) (getter x (form_shape f []))) (λ b.
    setter_on d home readonly f b x)))

-- attributes of a type after those before them
abbrev pub attribute_names_on : ℕ → ℕ → Bool → Form → Body → List Identifier → Answer Body
attribute_names_on d home readonly f b [] = Ok b
attribute_names_on d home readonly f b (x ∷ xs) =
    and_then (attribute_on d home readonly f b x.name) (λ b. attribute_names_on d home readonly f b xs)

-- attributes of one type
abbrev pub attributes_on : ℕ → ℕ → Body → Attribute → Answer Body
attributes_on d home b a =
    and_then (type_form b.state.names d a.of.0 a.of.1) (λ f. attribute_names_on d home a.readonly f b a.names)
