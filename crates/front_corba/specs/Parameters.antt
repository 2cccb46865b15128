-- The parameters and exceptions of an operation.
use Rattle.std.specs.Prelude.{Bool, true, false, not, nat_le, ℕ, List, [], ◌∷◌, ◌++◌, length, Option, Some, None, Ok, slice_get, if◌then◌else◌}
use Rattle.std.specs.List.{list_all}
use Rattle.kit_base.specs.Limits.{most_raises}
use Rattle.aoi.specs.declared.faults.NameFault.TheVariants.{Unknown, NotType, Limit}
use Rattle.aoi.specs.Shapes.{Shape}
use Rattle.aoi.specs.Plain.{PlainRaise}
use Rattle.idl_names.specs.Answers.{Answer, fault, and_then, refused}
use Rattle.corba_syntax.specs.declared.operation_tree.Direction.{Direction}
use Rattle.corba_syntax.specs.declared.operation_tree.Direction.TheVariants as D
use Rattle.corba_syntax.specs.declared.operation_tree.Parameter.{Parameter}
use Rattle.corba_syntax.specs.declared.operation_tree.Reference.{Reference}
use Rattle.corba_scopes.specs.declared.meanings.Meaning.{Meaning}
use Rattle.corba_scopes.specs.declared.meanings.Meaning.TheVariants as M
use Rattle.corba_scopes.specs.Names.{Names, declared_on}
use Rattle.corba_scopes.specs.Finding.{named, meaning}
use Rattle.corba_shapes.specs.Forms.{type_form, form_shape}

-- from the client to the server, and from the server to the client
abbrev pub goes_in : Direction → Bool
goes_in D.Out = false
goes_in _ = true

abbrev pub comes_out : Direction → Bool
comes_out D.In = false
comes_out _ = true

-- nothing comes out by parameters
abbrev pub are_in : List Parameter → Bool
are_in ps = list_all (λ p. not (comes_out p.direction)) ps

-- the names so far, and the parameters of both directions
pub record Parameters : Type 0 where
  pub names : Names
  pub ins : List (List ℕ × Shape)
  pub outs : List (List ℕ × Shape)

-- no parameters, beside these names
abbrev pub no_parameters : Names → Parameters
no_parameters names = record { names = names; ins = []; outs = [] }

-- a field after the others, where something holds
abbrev pub with_field : Bool → List (List ℕ × Shape) → List ℕ × Shape → List (List ℕ × Shape)
with_field b fields f = if b then fields ++ f ∷ [] else fields

-- a parameter after the others of its directions; its name is declared after it, and hides others
abbrev pub parameter_on : ℕ → Parameters → Parameter → Answer Parameters
parameter_on d ps p =
    and_then (type_form ps.names d p.of.0 p.of.1) (λ f.
    and_then (declared_on d ps.names p.name.name M.Other) (λ names.
    Ok (record {
      names = names;
      ins = with_field (goes_in p.direction) ps.ins (p.name.name, form_shape f []);
      outs = with_field (comes_out p.direction) ps.outs (p.name.name, form_shape f []);
    })))

-- parameters after those before them
abbrev pub parameters_on : ℕ → Parameters → List Parameter → Answer Parameters
parameters_on d ps [] = Ok ps
parameters_on d ps (p ∷ rest) = and_then (parameter_on d ps p) (λ ps. parameters_on d ps rest)

-- ---- exceptions

-- the number of an exception
abbrev pub exception_of_meaning : ℕ → Meaning → Answer ℕ
exception_of_meaning d (M.Exception k) = Ok k
exception_of_meaning d _ = fault NotType d

abbrev pub exception_at : ℕ → Option Meaning → Answer ℕ
exception_at d None = fault Unknown d
exception_at d (Some m) = exception_of_meaning d m

-- an exception, if it is there, after the others
abbrev pub with_raise : List PlainRaise → Option PlainRaise → List PlainRaise
with_raise raises None = raises
with_raise raises (Some e) = raises ++ e ∷ []

-- an exception by its name after the others, of which there are at most 4,095
abbrev pub raised_by : Names → List PlainRaise → ℕ → List PlainRaise → Reference → Answer (List PlainRaise)
raised_by s exceptions d raises r =
    and_then (exception_at d (meaning (named s r.name))) (λ k.
    and_then (refused Limit d (nat_le most_raises (length raises))) (λ _.
    Ok (with_raise raises (slice_get exceptions k))))

-- exceptions by their names after those before them
abbrev pub raises_on : Names → List PlainRaise → ℕ → List PlainRaise → List Reference → Answer (List PlainRaise)
raises_on s exceptions d raises [] = Ok raises
raises_on s exceptions d raises (r ∷ rs) = and_then (raised_by s exceptions d raises r) (λ raises. raises_on s exceptions d raises rs)
