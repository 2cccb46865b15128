-- Every declaration keeps what makes a unit sound.
use Rattle.std.proofs.Common.{◌≡◌, ℤ, ℕ, ◌+◌, ◌<◌, ◌≤◌, true, false, not, List, [], ◌∷◌, ◌++◌, length, map, Option, None, refl, sym, ap, subst, ◌∙◌, arith}
use Rattle.std.specs.Prelude.{Ok}
use Rattle.std.proofs.lemmas.List.{length-append, length-map}
use Rattle.mint.specs.declared.kind.Count.{Count}
use Rattle.aoi.specs.declared.faults.NameFault.TheVariants.{NotType, Range}
use Rattle.aoi.specs.Shapes.{Shape, enumeration, structure, members_of}
use Rattle.aoi.specs.Sound.{unfolded, is_sound_type, are_sound_types, are_distinct}
use Rattle.idl_names.specs.declared.uses.Tag.{Tag}
use Rattle.idl_names.specs.declared.uses.Tag.TheVariants as tag
use Rattle.idl_names.specs.declared.uses.Use.TheVariants as use_
use Rattle.idl_names.specs.Answers.{refused}
use Rattle.idl_names.specs.Lists.{is_some_list}
use Rattle.idl_names.specs.Uses.{tag_of_use}
use Rattle.idl_names.specs.Labels.{is_label}
use Rattle.idl_names.proofs.Parts.{then_ok, refused_ok, ok_same}
use Rattle.idl_names.proofs.Tables.{append_map}
use Rattle.idl_names.proofs.Growing.{types_push}
use Rattle.idl_names.proofs.Standing.{EnumIs, TagIs, UseIs, FewerBelow, fewer_same}
use Rattle.idl_names.proofs.Forming.{names_are, struct_sound}
use Rattle.idl_names.proofs.Numbering.{enum_sound}
use Rattle.idl_names.proofs.Tagging.{last_is, enum_ends, items_turned}
use Rattle.corba_decls.specs.declared.member_tree.Declarator.{Declarator}
use Rattle.corba_decls.specs.declared.member_tree.Struct.{Struct}
use Rattle.corba_decls.specs.declared.member_tree.Enum.{Enum}
use Rattle.corba_decls.specs.declared.member_tree.Exception.{Exception}
use Rattle.corba_decls.specs.declared.decl_tree.Union.{Union}
use Rattle.corba_decls.specs.declared.decl_tree.Aliased.{Aliased}
use Rattle.corba_decls.specs.declared.decl_tree.Aliased.TheVariants as A
use Rattle.corba_decls.specs.declared.decl_tree.Typedef.{Typedef}
use Rattle.corba_decls.specs.declared.decl_tree.Constant.{Constant as ConstantTree}
use Rattle.corba_decls.specs.declared.decl_tree.Declaration.{Declaration}
use Rattle.corba_decls.specs.declared.decl_tree.Declaration.TheVariants as D
use Rattle.corba_scopes.specs.declared.meanings.Meaning.{Meaning}
use Rattle.corba_scopes.specs.declared.meanings.Meaning.TheVariants as M
use Rattle.corba_scopes.specs.declared.meanings.Constant.{Constant}
use Rattle.corba_scopes.specs.declared.meanings.Constant.TheVariants as V
use Rattle.corba_scopes.specs.Names.{Names, here, entered, left, clash, refused_by, declared_on, lower_of}
use Rattle.corba_scopes.specs.Consts.{constant, meaning_of_constant}
use Rattle.corba_shapes.specs.declared.forms.Form.{Form}
use Rattle.corba_shapes.specs.Forms.{type_form, form_shape, form_tag, form_text}
use Rattle.corba_shapes.specs.State.{State, start, counted, with_type}
use Rattle.corba_shapes.specs.Fields.{lengths_on, Body, members_on}
use Rattle.corba_shapes.specs.Structs.{struct_on, raised, exception_on}
use Rattle.corba_shapes.specs.Enums.{item_clash, Items, items_on, enum_on}
use Rattle.corba_shapes.specs.Unions.{tag_use, is_no_tag, Cases, cases_on, union_shape, union_on}
use Rattle.corba_shapes.specs.Aliases.{next_form, aliased_on, alias_on, aliases_on, typedef_on}
use Rattle.corba_shapes.specs.Constants.{constant_core, is_no_constant, fits, constant_on}
use Rattle.corba_shapes.specs.Declarations.{declaration_on, has_field, is_whole_aliased, is_whole}
use Rattle.corba_shapes.proofs.Lasting.{RaiseIs, RaisesAre, raises_grow, raises_push}
use Rattle.corba_shapes.proofs.Standing.{MeaningIs, ScopeIs, scope_grow, declared_ok, declared_is}
use Rattle.corba_shapes.proofs.Shaping.{FormIs, form_is, form_sound, form_tagged, form_grow, lengths_are}
use Rattle.corba_shapes.proofs.Filling.{BodyIs, members_are}
use Rattle.corba_shapes.proofs.Counting.{ItemsAre, items_are}
use Rattle.corba_shapes.proofs.Choosing.{tag_use_is, CasesAre, cases_are, union_sound}

abbrev pub shapes_of : State → List Shape
shapes_of s = map (λ t. t.1) s.types

-- what makes the types and exceptions of a state sound
pub record StateIs (s : State) : Type 0 where
  pub types : are_sound_types (shapes_of s) 0 (shapes_of s) ≡ true
  pub scope : ScopeIs (shapes_of s) s.labels s.names
  pub labels : (k : ℕ) (n : ℤ) → length (shapes_of s) ≤ k → is_label k n s.labels ≡ false
  pub exceptions : RaisesAre (length (shapes_of s)) s.exceptions

pub start_is : StateIs start
start_is = record { types = refl; scope = tt; labels = λ k n le. refl; exceptions = tt }

pub counted_is : (s : State) → StateIs s → StateIs (counted s)
counted_is s is = record { types = is.types; scope = is.scope; labels = is.labels; exceptions = is.exceptions }

-- a state with other names
pub names_is : (s : State) (names : Names) → StateIs s → ScopeIs (shapes_of s) s.labels names → StateIs (record s { names = names })
names_is s names is scope = record { types = is.types; scope = scope; labels = is.labels; exceptions = is.exceptions }

-- ---- one more type

-- what a state has to be so that a type may be put after the others
record Takes (s : State) (new : Shape) (t : Tag) : Type 0 where
  types : are_sound_types (shapes_of s) 0 (shapes_of s) ≡ true
  sound : is_sound_type (shapes_of s) (length (shapes_of s)) new ≡ true
  scope : ScopeIs (shapes_of s ++ new ∷ []) s.labels s.names
  tag : TagIs (shapes_of s ++ new ∷ []) s.labels (length (shapes_of s)) t
  labels : (k : ℕ) (n : ℤ) → length (shapes_of s) < k → is_label k n s.labels ≡ false
  exceptions : RaisesAre (length (shapes_of s)) s.exceptions

-- what a type after the others makes of a state
pub record TypedIs (s : State) (t : Tag) (out : State) : Type 0 where
  pub is : StateIs out
  pub used : UseIs (shapes_of out) out.labels (use_.Declared (length s.types) t)
  pub forms : (f : Form) → FormIs (shapes_of s) s.labels f → FormIs (shapes_of out) out.labels f

typed_is : (d : ℕ) (name : List ℕ) (new : Shape) (t : Tag) (text : Option Count) (s out : State) → Takes s new t
    → with_type d name new t text s ≡ Ok out → TypedIs s t out
typed_is d name new t text s out take h =
    let old : List Shape = shapes_of s in
    let m : Meaning = M.Type (use_.Declared (length s.types) t) text in
    let a = then_ok (declared_on d s.names name m) _ out h in
    let one = declared_ok d s.names name m a.given a.first in
    let pair : List ℕ × Shape = (here s.names ++ name, new) in
    let made : State = record s { names = a.given; types = s.types ++ pair ∷ [] } in
    let grown : shapes_of made ≡ old ++ new ∷ [] = append_map (λ (t : List ℕ × Shape). t.1) s.types pair in
    let count : length (old ++ new ∷ []) ≡ length old + 1 = length-append old (new ∷ []) in
    let place : length s.types ≡ length old = sym (length-map s.types (λ t. t.1)) in
    let below : length s.types < length (old ++ new ∷ []) = omega (arith, count, place) in
    let tagged : TagIs (old ++ new ∷ []) s.labels (length s.types) t =
    subst (λ z. TagIs (old ++ new ∷ []) s.labels z t) (sym place) take.tag in
    let whole : ScopeIs (old ++ new ∷ []) s.labels a.given = declared_is (old ++ new ∷ []) s.labels s.names name m a.given
    take.scope (below, tagged) one in
    let stands : StateIs made = record {
      types = subst (λ z. are_sound_types z 0 z ≡ true) (sym grown) (types_push old new take.types take.sound);
      scope = subst (λ z. ScopeIs z s.labels a.given) (sym grown) whole;
      labels = λ k n le. take.labels k n (let le' = subst (λ z. length z ≤ k) grown le in omega (arith, le', count));
      exceptions =
          subst
          (λ z.
          RaisesAre (length z) s.exceptions) (sym grown)
          (raises_grow (length old) (length (old ++ new ∷ [])) s.exceptions (omega (arith, count)) take.exceptions);
    } in
    subst (TypedIs s t) (ok_same made out a.rest) (record {
      is = stands;
      used = subst (λ z. UseIs z s.labels (use_.Declared (length s.types) t)) (sym grown) (below, tagged);
      forms = λ f is. subst (λ z. FormIs z s.labels f) (sym grown) (form_grow old (new ∷ []) s.labels f is);
    })

-- the same where names and labels are as they were
takes : (s : State) (new : Shape) (t : Tag) → StateIs s → is_sound_type (shapes_of s) (length (shapes_of s)) new ≡ true
    → TagIs (shapes_of s ++ new ∷ []) s.labels (length (shapes_of s)) t → Takes s new t
takes s new t is sound tagged = record {
  types = is.types;
  sound = sound;
  scope = scope_grow (shapes_of s) (new ∷ []) s.labels s.labels s.names (fewer_same (length (shapes_of s)) s.labels) is.scope;
  tag = tagged;
  labels = λ k n lt. is.labels k n (omega (arith, lt));
  exceptions = is.exceptions;
}

-- ---- structs and exceptions

no_fields : (s : State) (name : List ℕ) → StateIs s
    → BodyIs (shapes_of s) s.labels (record { names = entered name s.names; fields = [] })
no_fields s name is = record { scope = is.scope; are = record { different = refl; sound = refl }; plain = refl; fresh = λ n h. refl }

pub struct_is : (d : ℕ) (s out : State) (t : Struct) → StateIs s → has_field t.members ≡ true → struct_on d s t
    ≡ Ok out → TypedIs s tag.Other out
struct_is d s out t is some h =
    let name = t.name.name in
    let none : Body = record { names = entered name s.names; fields = [] } in
    let a = then_ok (refused_by d (clash s.names name)) _ out h in
    let b = then_ok (members_on d none t.members) _ out a.rest in
    let are = members_are (shapes_of s) s.labels d none b.given t.members (no_fields s name is) b.first in
    let mid : State = record s { names = left b.given.names } in
    let new = structure (members_of b.given.fields) in
    let take = takes mid new tag.Other (names_is s (left b.given.names) is are.0.scope)
    (struct_sound (shapes_of s) b.given.fields are.0.are (are.2 some)) tt in
    let one = typed_is d name new tag.Other None mid out take b.rest in
    record { is = one.is; used = one.used; forms = one.forms }

pub exception_is : (d : ℕ) (s out : State) (e : Exception) → StateIs s → exception_on d s e ≡ Ok out → StateIs out
exception_is d s out e is h =
    let name = e.name.name in
    let none : Body = record { names = entered name s.names; fields = [] } in
    let m : Meaning = M.Exception (length s.exceptions) in
    let a = then_ok (refused_by d (clash s.names name)) _ out h in
    let b = then_ok (members_on d none e.members) _ out a.rest in
    let c = then_ok (declared_on d (left b.given.names) name m) _ out b.rest in
    let are = (members_are (shapes_of s) s.labels d none b.given e.members (no_fields s name is) b.first).0
    in
    let one = declared_ok d (left b.given.names) name m c.given c.first in
    let last = raised (here c.given ++ name) (members_of b.given.fields) in
    let made : State = record s { names = c.given; exceptions = s.exceptions ++ last ∷ [] } in
    let sound : RaiseIs (length (shapes_of s)) last =
    record { different = ap are_distinct (names_are b.given.fields) ∙ are.are.different; plain = are.plain } in
    subst StateIs (ok_same made out c.rest) (record {
      types = is.types;
      scope = declared_is (shapes_of s) s.labels (left b.given.names) name m c.given are.scope tt one;
      labels = is.labels;
      exceptions = raises_push (length (shapes_of s)) s.exceptions last is.exceptions sound;
    })

-- ---- enums

items_start : (s : State) (k : ℕ) → StateIs s → k ≡ length (shapes_of s)
    → ItemsAre (shapes_of s) s.labels k (length s.labels) (record { names = s.names; labels = s.labels; items = [] })
items_start s k is place = record {
  standing = is.scope;
  labelling = record { own = λ n. is.labels k n (omega (arith, place)); others = λ j n ne. refl; count = omega arith; few = omega arith };
  different = refl;
  fresh = λ n h. refl;
}

enum_takes : (s : State) (k : ℕ) (r : Items) → StateIs s → k ≡ length (shapes_of s)
    → ItemsAre (shapes_of s) s.labels k (length s.labels) r → is_some_list r.items ≡ true
    → Takes (record s { names = r.names; labels = r.labels }) (enumeration r.items) (tag.Enum k)
enum_takes s k r is place are some =
    let new = enumeration r.items in
    let old = shapes_of s in
    let fewer : FewerBelow (length old) s.labels r.labels =
    λ j n lt h. sym (are.labelling.others j n (λ e. omega (arith, lt, e, place))) ∙ h in
    let count : length (old ++ new ∷ []) ≡ length old + 1 = length-append old (new ∷ []) in
    let tagged : EnumIs (old ++ new ∷ []) r.labels (length old) k = record {
      below = omega (arith, count, place);
      items = r.items;
      ends = λ n le. ap (unfolded n (old ++ new ∷ []) (length old)) (last_is old new) ∙ enum_ends n (old ++ new ∷ []) (length old) r.items;
      numbers = λ n h. items_turned r.items n ∙ sym (are.labelling.own n) ∙ h;
    } in
    record {
      types = is.types;
      sound = enum_sound r.items some are.labelling.few are.different;
      scope = scope_grow old (new ∷ []) s.labels r.labels r.names fewer are.standing;
      tag = tagged;
      labels = λ j n lt. are.labelling.others j n (λ e. omega (arith, lt, e, place)) ∙ is.labels j n (omega (arith, lt));
      exceptions = is.exceptions;
    }

pub enum_is : (d : ℕ) (s out : State) (e : Enum) → StateIs s → is_some_list e.items ≡ true → enum_on d s e
    ≡ Ok out
    → StateIs out × UseIs (shapes_of out) out.labels (use_.Declared (length s.types) (tag.Enum (length s.types)))
enum_is d s out e is some h =
    let name = e.name.name in
    let k = length s.types in
    let place : k ≡ length (shapes_of s) = sym (length-map s.types (λ t. t.1)) in
    let none : Items = record { names = s.names; labels = s.labels; items = [] } in
    let a = then_ok (refused_by d (lower_of (clash s.names name) (item_clash name e.items))) _ out h in
    let b = then_ok (items_on d k (length s.labels) none e.items) _ out a.rest in
    let are = items_are (shapes_of s) s.labels d k (length s.labels) none b.given e.items (items_start s k is place) b.first in
    let mid : State = record s { names = b.given.names; labels = b.given.labels } in
    let one = typed_is d name (enumeration b.given.items) (tag.Enum k) None mid out
    (enum_takes s k b.given is place are.0 (are.2 some)) b.rest in
    (one.is, one.used)

-- ---- unions

pub union_is : (d : ℕ) (s out : State) (u : Union) → StateIs s → union_on d s u ≡ Ok out → TypedIs s tag.Other out
union_is d s out u is h =
    let name = u.name.name in
    let inner = entered name s.names in
    let none : Cases = record { names = inner; numbers = []; arms = []; other = None } in
    let a = then_ok (refused_by d (clash s.names name)) _ out h in
    let b = then_ok (tag_use inner d u.tag) _ out a.rest in
    let c = then_ok (refused NotType d (is_no_tag (tag_of_use b.given))) _ out b.rest in
    let e = then_ok (cases_on s.labels (tag_of_use b.given) d none u.cases) _ out c.rest in
    let fit = refused_ok NotType d (is_no_tag (tag_of_use b.given)) c.given c.first in
    let used = tag_use_is (shapes_of s) s.labels inner d u.tag b.given is.scope b.first in
    let first : CasesAre (shapes_of s) s.labels (tag_of_use b.given) none =
    record {
      standing = is.scope;
      choices =
          record { numbers = record { different = refl; few = omega arith; all = refl }; arms = refl; sound = refl };
      rest = refl;
    } in
    let are = cases_are (shapes_of s) s.labels (tag_of_use b.given) d none e.given u.cases first e.first in
    let mid : State = record s { names = left e.given.names } in
    let new = union_shape b.given e.given in
    let take = takes mid new tag.Other (names_is s (left e.given.names) is are.standing)
    (union_sound (shapes_of s) s.labels b.given e.given used fit are) tt in
    let one = typed_is d name new tag.Other None mid out take e.rest in
    record { is = one.is; used = one.used; forms = one.forms }

-- ---- typedefs

alias_is : (d : ℕ) (f : Form) (s out : State) (x : Declarator) → StateIs s → FormIs (shapes_of s) s.labels f
    → alias_on d f s x ≡ Ok out → StateIs out × FormIs (shapes_of out) out.labels f
alias_is d f s out x is form h =
    let name = x.name.name in
    let a = then_ok (refused_by d (clash s.names name)) _ out h in
    let b = then_ok (lengths_on s.names d [] x.dimensions) _ out a.rest in
    let are = lengths_are s.names d [] x.dimensions b.given refl b.first in
    let take = takes s (form_shape f b.given) (form_tag f b.given) is (form_sound (shapes_of s) s.labels f b.given form are)
    (form_tagged (shapes_of s) s.labels f b.given form) in
    let one = typed_is d name (form_shape f b.given) (form_tag f b.given) (form_text f b.given) s out take b.rest in
    (one.is, one.forms f form)

aliases_are : (d : ℕ) (f : Form) (s out : State) (xs : List Declarator) → StateIs s
    → FormIs (shapes_of s) s.labels f → aliases_on d f s xs ≡ Ok out → StateIs out
aliases_are d f s out [] is form h = subst StateIs (ok_same s out h) is
aliases_are d f s out (x ∷ xs) is form h =
    let a = then_ok (alias_on d f s x) _ out h in
    let one = alias_is d f s a.given x is form a.first in
    aliases_are d f a.given out xs one.0 one.1 a.rest

abbrev AliasedIs : State × Form → Type 0
AliasedIs r = StateIs r.0 × FormIs (shapes_of r.0) r.0.labels r.1

-- what gets a name is a type that is declared here
next_is : (s made : State) (t : Tag) (r : State × Form) → (made, next_form s t) ≡ r → StateIs made
    → UseIs (shapes_of made) made.labels (use_.Declared (length s.types) t) → AliasedIs r
next_is s made t r e is used = subst AliasedIs e (is, record { core = used; rows = refl })

aliased_is : (d : ℕ) (s : State) (of : Aliased) (r : State × Form) → StateIs s → is_whole_aliased of ≡ true
    → aliased_on d s of ≡ Ok r → AliasedIs r
aliased_is d s (A.Type t) r is whole h =
    let a = then_ok (type_form s.names d t.0 t.1) _ r h in
    let made : State × Form = (s, a.given) in
    subst AliasedIs (ok_same made r a.rest) (is, form_is (shapes_of s) s.labels s.names d t.0 t.1 a.given is.scope a.first)
aliased_is d s (A.Struct t) r is whole h =
    let a = then_ok (struct_on d s t) _ r h in
    let one = struct_is d s a.given t is whole a.first in
    next_is s a.given tag.Other r (ok_same (a.given, next_form s tag.Other) r a.rest) one.is one.used
aliased_is d s (A.Union u) r is whole h =
    let a = then_ok (union_on d s u) _ r h in
    let one = union_is d s a.given u is a.first in
    next_is s a.given tag.Other r (ok_same (a.given, next_form s tag.Other) r a.rest) one.is one.used
aliased_is d s (A.Enum e) r is whole h =
    let a = then_ok (enum_on d s e) _ r h in
    let one = enum_is d s a.given e is whole a.first in
    let t = tag.Enum (length s.types) in
    next_is s a.given t r (ok_same (a.given, next_form s t) r a.rest) one.0 one.1

typedef_is : (d : ℕ) (s out : State) (t : Typedef) → StateIs s → is_whole_aliased t.of ≡ true → typedef_on d s t
    ≡ Ok out → StateIs out
typedef_is d s out t is whole h =
    let a = then_ok (aliased_on d s t.of) _ out h in
    let one = aliased_is d s t.of a.given is whole a.first in
    aliases_are d a.given.1 a.given.0 out t.declarators one.0 one.1 a.rest

-- ---- constants

constant_means : (types : List Shape) (labels : List (ℕ × ℤ)) (v : Constant) → MeaningIs types labels (meaning_of_constant v)
constant_means types labels (V.Number n) = tt
constant_means types labels (V.Text n) = tt

-- what a constant makes of a state: one more name, which stands for its value
pub record ConstantIs (d : ℕ) (s out : State) (c : ConstantTree) : Type 0 where
  pub value : Constant
  pub names : Names
  pub declared : declared_on d s.names c.name.name (meaning_of_constant value) ≡ Ok names
  pub made : record s { names = names } ≡ out

pub constant_ok : (d : ℕ) (s out : State) (c : ConstantTree) → constant_on d s c ≡ Ok out
    → ConstantIs d s out c
constant_ok d s out c h =
    let name = c.name.name in
    let a = then_ok (constant_core s.names d c.of) _ out h in
    let b = then_ok (refused NotType d (is_no_constant a.given)) _ out a.rest in
    let e = then_ok (refused_by d (clash s.names name)) _ out b.rest in
    let f = then_ok (constant s.names d c.value) _ out e.rest in
    let g = then_ok (refused Range d (not (fits s.labels a.given f.given))) _ out f.rest in
    let i = then_ok (declared_on d s.names name (meaning_of_constant f.given)) _ out g.rest in
    record { value = f.given; names = i.given; declared = i.first; made = ok_same (record s { names = i.given }) out i.rest }

constant_is : (d : ℕ) (s out : State) (c : ConstantTree) → StateIs s → constant_on d s c ≡ Ok out → StateIs out
constant_is d s out c is h =
    let name = c.name.name in
    let i = constant_ok d s out c h in
    let m = meaning_of_constant i.value in
    let one = declared_ok d s.names name m i.names i.declared in
    subst StateIs i.made (names_is s i.names is (declared_is (shapes_of s) s.labels s.names name m i.names is.scope
    (constant_means (shapes_of s) s.labels i.value) one))

-- ---- declarations

-- a declaration keeps the types and exceptions sound
pub declaration_is : (d : ℕ) (s out : State) (x : Declaration) → StateIs s → is_whole x ≡ true
    → declaration_on d s x ≡ Ok out → StateIs out
declaration_is d s out (D.Typedef t) is whole h = typedef_is d s out t is whole h
declaration_is d s out (D.Struct t) is whole h = (struct_is d s out t is whole h).is
declaration_is d s out (D.Union u) is whole h = (union_is d s out u is h).is
declaration_is d s out (D.Enum e) is whole h = (enum_is d s out e is whole h).0
declaration_is d s out (D.Constant c) is whole h = constant_is d s out c is h
declaration_is d s out (D.Exception e) is whole h = exception_is d s out e is h
