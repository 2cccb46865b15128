-- Typedefs.
use Rattle.std.specs.Prelude.{ℕ, List, [], ◌∷◌, length, None, Ok}
use Rattle.idl_names.specs.declared.uses.Tag.{Tag}
use Rattle.idl_names.specs.declared.uses.Tag.TheVariants as tag
use Rattle.idl_names.specs.declared.uses.Use.TheVariants.{Declared}
use Rattle.idl_names.specs.Answers.{Answer, and_then}
use Rattle.corba_decls.specs.declared.member_tree.Declarator.{Declarator}
use Rattle.corba_decls.specs.declared.decl_tree.Aliased.{Aliased}
use Rattle.corba_decls.specs.declared.decl_tree.Aliased.TheVariants as A
use Rattle.corba_decls.specs.declared.decl_tree.Typedef.{Typedef}
use Rattle.corba_scopes.specs.Names.{clash, refused_by}
use Rattle.corba_shapes.specs.declared.forms.Core.TheVariants as C
use Rattle.corba_shapes.specs.declared.forms.Form.{Form}
use Rattle.corba_shapes.specs.State.{State, with_type}
use Rattle.corba_shapes.specs.Forms.{single, type_form, form_shape, form_tag, form_text}
use Rattle.corba_shapes.specs.Fields.{lengths_on}
use Rattle.corba_shapes.specs.Structs.{struct_on}
use Rattle.corba_shapes.specs.Enums.{enum_on}
use Rattle.corba_shapes.specs.Unions.{union_on}

-- the type that is declared next, as one that is used
abbrev pub next_form : State → Tag → Form
next_form s tag = single (C.Used (Declared (length s.types) tag) None)

-- what gets a name: a type that is used, or one that is declared here
abbrev pub aliased_on : ℕ → State → Aliased → Answer (State × Form)
aliased_on d s (A.Type t) = and_then (type_form s.names d t.0 t.1) (λ f. Ok (s, f))
aliased_on d s (A.Struct t) = and_then (struct_on d s t) (λ r. Ok (r, next_form s tag.Other))
aliased_on d s (A.Union u) = and_then (union_on d s u) (λ r. Ok (r, next_form s tag.Other))
aliased_on d s (A.Enum e) = and_then (enum_on d s e) (λ r. Ok (r, next_form s (tag.Enum (length s.types))))

-- a name of a type, tested where it is, and declared at the end of its declarator
abbrev pub alias_on : ℕ → Form → State → Declarator → Answer State
alias_on d f s x =
    and_then (refused_by d (clash s.names x.name.name)) (λ _.
    and_then (lengths_on s.names d [] x.dimensions) (λ ns.
    with_type d x.name.name (form_shape f ns) (form_tag f ns) (form_text f ns) s))

-- names of a type after those before them
abbrev pub aliases_on : ℕ → Form → State → List Declarator → Answer State
aliases_on d f s [] = Ok s
aliases_on d f s (x ∷ xs) = and_then (alias_on d f s x) (λ s. aliases_on d f s xs)

-- what a typedef declares
abbrev pub typedef_on : ℕ → State → Typedef → Answer State
typedef_on d s t = and_then (aliased_on d s t.of) (λ r. aliases_on d r.1 r.0 t.declarators)
