-- The fields of structs and exceptions.
use Rattle.std.specs.Prelude.{ℕ, List, [], ◌∷◌, ◌++◌, Ok}
use Rattle.mint.specs.declared.kind.Count.{Count}
use Rattle.mint.specs.declared.kind.Count.TheVariants.{Exactly}
use Rattle.aoi.specs.Shapes.{Shape}
use Rattle.idl_names.specs.Answers.{Answer, and_then}
use Rattle.corba_decls.specs.declared.member_tree.Dimension.{Dimension}
use Rattle.corba_decls.specs.declared.member_tree.Declarator.{Declarator}
use Rattle.corba_decls.specs.declared.member_tree.Member.{Member}
use Rattle.corba_scopes.specs.declared.meanings.Meaning.TheVariants as M
use Rattle.corba_scopes.specs.Names.{Names, clash, refused_by, declared_on}
use Rattle.corba_scopes.specs.Consts.{length_of}
use Rattle.corba_shapes.specs.declared.forms.Form.{Form}
use Rattle.corba_shapes.specs.Forms.{type_form, form_shape}

-- the lengths of an array, after those before them
abbrev pub lengths_on : Names → ℕ → List Count → List Dimension → Answer (List Count)
lengths_on s d done [] = Ok done
lengths_on s d done (x ∷ xs) = and_then (length_of s d x.length) (λ n. lengths_on s d (done ++ Exactly n ∷ []) xs)

-- a name that hides others in its scope, and its lengths: it is tested where it is, and declared at the end of its declarator
abbrev pub placed_on : ℕ → Names → Declarator → Answer (Names × List Count)
placed_on d s x =
    and_then (refused_by d (clash s x.name.name)) (λ _.
    and_then (lengths_on s d [] x.dimensions) (λ ns.
    and_then (declared_on d s x.name.name M.Other) (λ s.
    Ok (s, ns))))

-- the names so far, and the fields
pub record Body : Type 0 where
  pub names : Names
  pub fields : List (List ℕ × Shape)

-- fields of one type after those before them
abbrev pub fields_on : ℕ → Form → Body → List Declarator → Answer Body
fields_on d f b [] = Ok b
fields_on d f b (x ∷ xs) =
    and_then (placed_on d b.names x) (λ r.
    fields_on d f (record { names = r.0; fields = b.fields ++ (x.name.name, form_shape f r.1) ∷ [] }) xs)

-- members after those before them
abbrev pub members_on : ℕ → Body → List Member → Answer Body
members_on d b [] = Ok b
members_on d b (m ∷ ms) =
    and_then (type_form b.names d m.of.0 m.of.1) (λ f.
    and_then (fields_on d f b m.declarators) (λ b.
    members_on d b ms))
