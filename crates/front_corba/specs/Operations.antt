-- Operations.
use Rattle.std.specs.Prelude.{Bool, not, ◌&&◌, ◌||◌, nat_le, ℕ, List, [], length, Option, Some, None, Ok}
use Rattle.std.specs.Option.{is_some}
use Rattle.kit_base.specs.Limits.{most_operations}
use Rattle.aoi.specs.declared.faults.NameFault.TheVariants.{Limit, Oneway}
use Rattle.aoi.specs.Shapes.{Shape, void, members_of}
use Rattle.aoi.specs.Plain.{PlainRaise, PlainOperation}
use Rattle.idl_names.specs.Answers.{Answer, and_then, refused}
use Rattle.idl_names.specs.Lists.{is_some_list}
use Rattle.idl_exprs.specs.Trees.{Tree}
use Rattle.corba_decls.specs.declared.type_tree.Base.{Base}
use Rattle.corba_syntax.specs.declared.operation_tree.Operation.{Operation}
use Rattle.corba_scopes.specs.Names.{Names, entered, left, refused_by}
use Rattle.corba_shapes.specs.Forms.{type_form, form_shape}
use Rattle.front_corba.specs.State.{PlainOffer, Body, with_names}
use Rattle.front_corba.specs.Offers.{own_clash, offered_on}
use Rattle.front_corba.specs.Parameters.{are_in, no_parameters, parameters_on, raises_on}

-- an operation gives something back: a result, what a parameter brings out, or an exception
abbrev pub gives_back : Operation → Bool
gives_back o = is_some o.result || not (are_in o.parameters) || is_some_list o.raises

-- the plain tree of a result
abbrev pub result_of : Names → ℕ → Option (List (Option Tree) × Base) → Answer Shape
result_of s d None = Ok void
result_of s d (Some t) = and_then (type_form s d t.0 t.1) (λ f. Ok (form_shape f []))

-- an operation of these parts, before it has its place
abbrev pub operation_of : List ℕ → Bool → List (List ℕ × Shape) → List (List ℕ × Shape) → Shape → List PlainRaise → PlainOperation
operation_of name oneway ins outs result raises = record {
  name = name;
  proc_no = 0;
  slot = 0;
  ins = members_of ins;
  outs = members_of outs;
  result = result;
  raises = raises;
  oneway = oneway;
}

-- the plain tree of the result of an operation that may be beside these: its name is tested where it is
abbrev pub judged_on : ℕ → Names → List PlainOffer → Operation → Answer Shape
judged_on d s ops o =
    and_then (refused Oneway d (o.oneway && gives_back o)) (λ _.
    and_then (result_of s d o.result) (λ result.
    and_then (refused_by d (own_clash s o.name.name ops)) (λ _.
    and_then (refused Limit d (nat_le most_operations (length ops))) (λ _.
    Ok result))))

-- the names with those of the parameters, and an operation of a result; the names are at a place in its own scope
abbrev pub signed_on : ℕ → Names → List PlainRaise → Operation → Shape → Answer (Names × PlainOperation)
signed_on d s exceptions o result =
    and_then (parameters_on d (no_parameters s) o.parameters) (λ ps.
    and_then (raises_on ps.names exceptions d [] o.raises) (λ raises.
    Ok (ps.names, operation_of o.name.name o.oneway ps.ins ps.outs result raises)))

-- an operation, whose name is declared after it
abbrev pub operation_on : ℕ → ℕ → Body → Operation → Answer Body
operation_on d home b o =
    and_then (judged_on d b.state.names b.ops o) (λ result.
    and_then (signed_on d (entered o.name.name b.state.names) b.state.exceptions o result) (λ made.
    offered_on d home (with_names (left made.0) b) made.1))
