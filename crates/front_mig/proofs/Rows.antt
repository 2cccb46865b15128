-- Files worked out by hand.
use Rattle.std.proofs.Common.{◌≡◌, ℕ, [], ◌∷◌, Some, None, Bool, true, false, List, refl}
use Rattle.std.specs.Prelude.{pos, codes, Ok}
use Rattle.mint.specs.declared.kind.Kind.TheVariants as kind
use Rattle.mint.specs.declared.kind.Count.TheVariants.{AtMost}
use Rattle.aoi.specs.Shapes.{Shape, Members, void, number, array, named, member, no_more}
use Rattle.aoi.specs.Plain.{PlainOperation, PlainInterface, PlainUnit}
use Rattle.aoi.specs.declared.faults.NameFault.TheVariants as fault_
use Rattle.idl_const.specs.declared.tree.BinaryOp.TheVariants as B
use Rattle.idl_exprs.specs.declared.tree.Leaf.TheVariants as L
use Rattle.idl_exprs.specs.Trees.{leaf, binary}
use Rattle.mig_syntax.specs.declared.tree.Direction.TheVariants as D
use Rattle.mig_syntax.specs.declared.tree.TypeForm.TheVariants as T
use Rattle.mig_syntax.specs.declared.tree.Parameter.{Parameter}
use Rattle.mig_syntax.specs.declared.tree.Statement.{Statement}
use Rattle.mig_syntax.specs.declared.tree.Statement.TheVariants as V
use Rattle.mig_syntax.specs.declared.tree.Subsystem.{Subsystem}
use Rattle.idl_names.specs.Answers.{Answer, fault}
use Rattle.front_mig.specs.Resolved.{resolved}

abbrev calc : List Statement → Subsystem
calc statements = record { name = codes "calc"; base = leaf (L.Number (pos 500)); statements = statements }

abbrev given_ : List ℕ → List ℕ → Parameter
given_ name of = record { direction = None; name = name; of = of }

abbrev server : Parameter
server = given_ (codes "server") (codes "mach_port_t")

-- a base that is divided by 0
row1 : resolved (record { name = codes "s"; base = binary B.Div (leaf (L.Number (pos 1))) (leaf (L.Number (pos 0))); statements = [] })
    ≡ fault fault_.Range 1
row1 = refl

-- what one routine offers
abbrev one : List ℕ → ℕ → Members → Bool → PlainOperation
one name slot ins oneway =
    record { name = name; proc_no = 1; slot = slot; ins = ins; outs = no_more; result = void; raises = []; oneway = oneway }

abbrev calc_unit : List (List ℕ × Shape) → ℕ → PlainOperation → Answer PlainUnit
calc_unit types slots op =
    let i : PlainInterface = record { name = codes "calc"; program = 536870912; version = 1; base = 500; slots = slots; ops = op ∷ [] } in
    Ok (record { types = types; interfaces = i ∷ [] })

-- two numbers go in, and the port is in no body
row2 : resolved (calc (V.Routine (record {
  simple = false;
  name = codes "add";
  parameters = server ∷ given_ (codes "a") (codes "int") ∷ given_ (codes "b") (codes "int") ∷ [];
}) ∷ []))
    ≡ calc_unit [] 1
    (one (codes "add") 0 (member (codes "a") (number kind.I32) (member (codes "b") (number kind.I32) no_more)) false)
row2 = refl

-- a known name declared again, up to 4 of it in a row, and a `skip`
row3 : resolved (calc (V.Type (codes "int") (T.Named (codes "short"))
    ∷ V.Type (codes "row") (T.VariableArray (leaf (L.Number (pos 4))) (codes "int")) ∷ V.Skip
    ∷ V.Routine (record { simple = true; name = codes "put"; parameters = server ∷ given_ (codes "r") (codes "row") ∷ [] }) ∷ []))
    ≡ calc_unit ((codes "int", number kind.I16) ∷ (codes "row", array (named 0) (AtMost 4)) ∷ []) 2
    (one (codes "put") 1 (member (codes "r") (named 1) no_more) true)
row3 = refl

-- what comes out of a simpleroutine
row4 : resolved (calc (V.Routine (record {
  simple = true;
  name = codes "put";
  parameters = server ∷ record { direction = Some D.Out; name = codes "a"; of = codes "int" } ∷ [];
}) ∷ []))
    ≡ fault fault_.Oneway 2
row4 = refl

-- the size of a number that is not its own
row5 : resolved (calc (V.Skip ∷ V.Type (codes "t") (T.Sized (codes "char") (leaf (L.Number (pos 16)))) ∷ [])) ≡ fault fault_.Range 3
row5 = refl
