-- A declaration puts types after the others, if any.
use Rattle.std.proofs.Common.{◌≡◌, ℕ, ◌≤◌, List, [], ◌∷◌, ◌++◌, length, Option, None, subst, arith}
use Rattle.std.specs.Prelude.{Ok}
use Rattle.std.proofs.lemmas.List.{length-append}
use Rattle.mint.specs.declared.kind.Count.{Count}
use Rattle.aoi.specs.declared.faults.NameFault.TheVariants.{NotType}
use Rattle.aoi.specs.Shapes.{Shape, structure, enumeration, members_of}
use Rattle.idl_names.specs.declared.uses.Tag.{Tag}
use Rattle.idl_names.specs.declared.uses.Tag.TheVariants as tag
use Rattle.idl_names.specs.declared.uses.Use.TheVariants.{Declared as DeclaredType}
use Rattle.idl_names.specs.Answers.{refused}
use Rattle.idl_names.specs.Uses.{tag_of_use}
use Rattle.idl_names.proofs.Parts.{then_ok, ok_same}
use Rattle.corba_decls.specs.declared.member_tree.Declarator.{Declarator}
use Rattle.corba_decls.specs.declared.member_tree.Struct.{Struct}
use Rattle.corba_decls.specs.declared.member_tree.Enum.{Enum}
use Rattle.corba_decls.specs.declared.member_tree.Exception.{Exception}
use Rattle.corba_decls.specs.declared.decl_tree.Union.{Union}
use Rattle.corba_decls.specs.declared.decl_tree.Aliased.{Aliased}
use Rattle.corba_decls.specs.declared.decl_tree.Aliased.TheVariants as A
use Rattle.corba_decls.specs.declared.decl_tree.Typedef.{Typedef}
use Rattle.corba_decls.specs.declared.decl_tree.Constant.{Constant as ConstantTree}
use Rattle.corba_decls.specs.declared.decl_tree.Declaration.{Declaration}
use Rattle.corba_decls.specs.declared.decl_tree.Declaration.TheVariants as D
use Rattle.corba_scopes.specs.declared.meanings.Meaning.TheVariants as M
use Rattle.corba_scopes.specs.Names.{Names, here, entered, left, clash, refused_by, declared_on, lower_of}
use Rattle.corba_shapes.specs.declared.forms.Form.{Form}
use Rattle.corba_shapes.specs.Forms.{type_form, form_shape, form_tag, form_text}
use Rattle.corba_shapes.specs.State.{State, with_type}
use Rattle.corba_shapes.specs.Fields.{lengths_on, Body, members_on}
use Rattle.corba_shapes.specs.Structs.{struct_on, raised, exception_on}
use Rattle.corba_shapes.specs.Enums.{item_clash, Items, items_on, enum_on}
use Rattle.corba_shapes.specs.Unions.{tag_use, is_no_tag, Cases, cases_on, union_shape, union_on}
use Rattle.corba_shapes.specs.Aliases.{next_form, aliased_on, alias_on, aliases_on, typedef_on}
use Rattle.corba_shapes.specs.Constants.{constant_on}
use Rattle.corba_shapes.specs.Declarations.{declaration_on}
use Rattle.corba_shapes.proofs.Keeping.{constant_ok}

-- there are as many types as before, or more
abbrev pub Grows : State → State → Type 0
Grows s out = length s.types ≤ length out.types

typed_grows : (d : ℕ) (name : List ℕ) (shape : Shape) (t : Tag) (text : Option Count) (s out : State)
    → with_type d name shape t text s ≡ Ok out → Grows s out
typed_grows d name shape t text s out h =
    let a = then_ok (declared_on d s.names name (M.Type (DeclaredType (length s.types) t) text)) _ out h in
    let pair : List ℕ × Shape = (here s.names ++ name, shape) in
    let made : State = record s { names = a.given; types = s.types ++ pair ∷ [] } in
    let count = length-append s.types (pair ∷ []) in
    subst (Grows s) (ok_same made out a.rest) (omega (arith, count))

struct_grows : (d : ℕ) (s out : State) (t : Struct) → struct_on d s t ≡ Ok out → Grows s out
struct_grows d s out t h =
    let none : Body = record { names = entered t.name.name s.names; fields = [] } in
    let a = then_ok (refused_by d (clash s.names t.name.name)) _ out h in
    let b = then_ok (members_on d none t.members) _ out a.rest in
    typed_grows d t.name.name (structure (members_of b.given.fields)) tag.Other None (record s { names = left b.given.names }) out b.rest

exception_grows : (d : ℕ) (s out : State) (e : Exception) → exception_on d s e ≡ Ok out → Grows s out
exception_grows d s out e h =
    let none : Body = record { names = entered e.name.name s.names; fields = [] } in
    let a = then_ok (refused_by d (clash s.names e.name.name)) _ out h in
    let b = then_ok (members_on d none e.members) _ out a.rest in
    let c = then_ok (declared_on d (left b.given.names) e.name.name (M.Exception (length s.exceptions))) _ out b.rest in
    let last = raised (here c.given ++ e.name.name) (members_of b.given.fields) in
    let made : State = record s { names = c.given; exceptions = s.exceptions ++ last ∷ [] } in
    subst (Grows s) (ok_same made out c.rest) (omega arith)

enum_grows : (d : ℕ) (s out : State) (e : Enum) → enum_on d s e ≡ Ok out → Grows s out
enum_grows d s out e h =
    let k = length s.types in
    let none : Items = record { names = s.names; labels = s.labels; items = [] } in
    let a = then_ok (refused_by d (lower_of (clash s.names e.name.name) (item_clash e.name.name e.items))) _ out h in
    let b = then_ok (items_on d k (length s.labels) none e.items) _ out a.rest in
    typed_grows d e.name.name (enumeration b.given.items) (tag.Enum k) None
    (record s { names = b.given.names; labels = b.given.labels }) out b.rest

union_grows : (d : ℕ) (s out : State) (u : Union) → union_on d s u ≡ Ok out → Grows s out
union_grows d s out u h =
    let inner : Names = entered u.name.name s.names in
    let none : Cases = record { names = inner; numbers = []; arms = []; other = None } in
    let a = then_ok (refused_by d (clash s.names u.name.name)) _ out h in
    let b = then_ok (tag_use inner d u.tag) _ out a.rest in
    let c = then_ok (refused NotType d (is_no_tag (tag_of_use b.given))) _ out b.rest in
    let e = then_ok (cases_on s.labels (tag_of_use b.given) d none u.cases) _ out c.rest in
    typed_grows d u.name.name (union_shape b.given e.given) tag.Other None (record s { names = left e.given.names }) out e.rest

alias_grows : (d : ℕ) (f : Form) (s out : State) (x : Declarator) → alias_on d f s x ≡ Ok out → Grows s out
alias_grows d f s out x h =
    let a = then_ok (refused_by d (clash s.names x.name.name)) _ out h in
    let b = then_ok (lengths_on s.names d [] x.dimensions) _ out a.rest in
    typed_grows d x.name.name (form_shape f b.given) (form_tag f b.given) (form_text f b.given) s out b.rest

aliases_grow : (d : ℕ) (f : Form) (s out : State) (xs : List Declarator) → aliases_on d f s xs ≡ Ok out
    → Grows s out
aliases_grow d f s out [] h = subst (Grows s) (ok_same s out h) (omega arith)
aliases_grow d f s out (x ∷ xs) h =
    let a = then_ok (alias_on d f s x) _ out h in
    let one = alias_grows d f s a.given x a.first in
    let more = aliases_grow d f a.given out xs a.rest in
    omega (arith, one, more)

aliased_grows : (d : ℕ) (s : State) (of : Aliased) (r : State × Form) → aliased_on d s of ≡ Ok r → Grows s r.0
aliased_grows d s (A.Type t) r h =
    let a = then_ok (type_form s.names d t.0 t.1) _ r h in
    let made : State × Form = (s, a.given) in
    subst (λ (r : State × Form). Grows s r.0) (ok_same made r a.rest) (omega arith)
aliased_grows d s (A.Struct t) r h =
    let a = then_ok (struct_on d s t) _ r h in
    let made : State × Form = (a.given, next_form s tag.Other) in
    subst (λ (r : State × Form). Grows s r.0) (ok_same made r a.rest) (struct_grows d s a.given t a.first)
aliased_grows d s (A.Union u) r h =
    let a = then_ok (union_on d s u) _ r h in
    let made : State × Form = (a.given, next_form s tag.Other) in
    subst (λ (r : State × Form). Grows s r.0) (ok_same made r a.rest) (union_grows d s a.given u a.first)
aliased_grows d s (A.Enum e) r h =
    let a = then_ok (enum_on d s e) _ r h in
    let made : State × Form = (a.given, next_form s (tag.Enum (length s.types))) in
    subst (λ (r : State × Form). Grows s r.0) (ok_same made r a.rest) (enum_grows d s a.given e a.first)

typedef_grows : (d : ℕ) (s out : State) (t : Typedef) → typedef_on d s t ≡ Ok out → Grows s out
typedef_grows d s out t h =
    let a = then_ok (aliased_on d s t.of) _ out h in
    let one = aliased_grows d s t.of a.given a.first in
    let more = aliases_grow d a.given.1 a.given.0 out t.declarators a.rest in
    omega (arith, one, more)

constant_grows : (d : ℕ) (s out : State) (c : ConstantTree) → constant_on d s c ≡ Ok out → Grows s out
constant_grows d s out c h = subst (Grows s) (constant_ok d s out c h).made (omega arith)

-- a declaration takes no type away
pub declaration_grows : (d : ℕ) (s out : State) (x : Declaration) → declaration_on d s x ≡ Ok out → Grows s out
declaration_grows d s out (D.Typedef t) h = typedef_grows d s out t h
declaration_grows d s out (D.Struct t) h = struct_grows d s out t h
declaration_grows d s out (D.Union u) h = union_grows d s out u h
declaration_grows d s out (D.Enum e) h = enum_grows d s out e h
declaration_grows d s out (D.Constant c) h = constant_grows d s out c h
declaration_grows d s out (D.Exception e) h = exception_grows d s out e h
