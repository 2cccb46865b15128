-- Every definition keeps what makes a unit sound, by induction on the definitions.
use Rattle.std.proofs.Common.{◌≡◌, ℤ, ℕ, ◌+◌, ◌<◌, ◌≤◌, Bool, true, false, ◌||◌, List, [], ◌∷◌, ◌++◌, length, map, None, refl, sym, ap, subst, ◌∙◌, arith}
use Rattle.std.specs.Prelude.{Ok}
use Rattle.std.specs.List.{list_all}
use Rattle.std.proofs.lemmas.Bool.{and_parts}
use Rattle.std.proofs.lemmas.List.{length-append, length-map}
use Rattle.aoi.specs.declared.faults.NameFault.TheVariants.{Twice}
use Rattle.aoi.specs.Shapes.{Shape, enumeration, structure, members_of}
use Rattle.aoi.specs.Sound.{unfolded, is_sound_type, are_sound_types}
use Rattle.onc_syntax.specs.declared.tree.Value.{Value}
use Rattle.onc_syntax.specs.declared.tree.Decl.{Decl}
use Rattle.onc_syntax.specs.declared.tree.Decl.TheVariants as L
use Rattle.onc_syntax.specs.declared.tree.Item.{Item}
use Rattle.onc_syntax.specs.declared.tree.Member.{Member}
use Rattle.onc_syntax.specs.declared.tree.Version.{Version}
use Rattle.onc_syntax.specs.declared.tree.Union.{Union}
use Rattle.onc_syntax.specs.declared.tree.Def.{Def}
use Rattle.onc_syntax.specs.declared.tree.Def.TheVariants as D
use Rattle.idl_names.specs.declared.uses.Tag.{Tag}
use Rattle.idl_names.specs.declared.uses.Tag.TheVariants as tag
use Rattle.idl_names.specs.declared.uses.Use.TheVariants.{Declared}
use Rattle.idl_names.specs.Labels.{is_label}
use Rattle.idl_names.specs.Lists.{is_some_list}
use Rattle.idl_names.proofs.Tables.{append_map}
use Rattle.idl_names.proofs.Standing.{EnumIs, TagIs, FewerBelow, fewer_same}
use Rattle.idl_names.proofs.Forming.{struct_sound}
use Rattle.front_onc.specs.declared.meaning.Form.{Form}
use Rattle.front_onc.specs.declared.meaning.Form.TheVariants as F
use Rattle.front_onc.specs.declared.meaning.Meaning.{Meaning}
use Rattle.front_onc.specs.declared.meaning.Meaning.TheVariants as M
use Rattle.idl_names.specs.Answers.{refused, given}
use Rattle.idl_names.specs.Names.{is_declared}
use Rattle.front_onc.specs.Names.{Scope, value, type_use}
use Rattle.front_onc.specs.State.{State, counted, declared, with_type}
use Rattle.front_onc.specs.Declarations.{form, shape, tag_of, name_of, exactly, at_most, typedef, members_on, struct_on}
use Rattle.front_onc.specs.Enums.{is_item, items_on, enum_on}
use Rattle.front_onc.specs.Unions.{union_shape, union_on}
use Rattle.front_onc.specs.Programs.{number_of, versions_on, program_on}
use Rattle.front_onc.specs.Resolved.{const_on, defined, defined_on, start, has_label, is_whole}
use Rattle.idl_names.proofs.Parts.{then_ok, ok_same}
use Rattle.idl_names.proofs.Growing.{types_push}
use Rattle.idl_names.proofs.Tagging.{last_is, enum_ends, use_tagged, items_turned}
use Rattle.front_onc.proofs.Standing.{MeaningIs, ScopeIs, scope_grow, scope_push, type_use_is}
use Rattle.front_onc.proofs.Forming.{form_sound, members_are, members_some}
use Rattle.front_onc.proofs.Numbering.{ItemsAre, items_are, items_some, enum_sound}
use Rattle.front_onc.proofs.Labelling.{union_sound}
use Rattle.front_onc.proofs.Offering.{shapes_of, InterfacesAre, interfaces_grow, Offers, versions_are}

-- what makes the unit of a state sound
pub record StateIs (s : State) : Type 0 where
  pub types : are_sound_types (shapes_of s) 0 (shapes_of s) ≡ true
  pub scope : ScopeIs (shapes_of s) s.labels s.scope
  pub labels : (k : ℕ) (n : ℤ) → length (shapes_of s) ≤ k → is_label k n s.labels ≡ false
  pub interfaces : InterfacesAre (length (shapes_of s)) s.interfaces

counted_is : (s : State) → StateIs s → StateIs (counted s)
counted_is s is = record { types = is.types; scope = is.scope; labels = is.labels; interfaces = is.interfaces }

declared_is : (name : List ℕ) (m : Meaning) (s : State) → StateIs s → MeaningIs (shapes_of s) s.labels m → StateIs (declared name m s)
declared_is name m s is means =
    record {
      types = is.types;
      scope = scope_push (shapes_of s) s.labels s.scope (name, m) is.scope means;
      labels =
          is.labels;
      interfaces = is.interfaces;
    }

-- ---- one more type

-- what a state has to be so that a type may be put after the others
record Takes (s : State) (new : Shape) (t : Tag) : Type 0 where
  types : are_sound_types (shapes_of s) 0 (shapes_of s) ≡ true
  sound : is_sound_type (shapes_of s) (length (shapes_of s)) new ≡ true
  scope : ScopeIs (shapes_of s ++ new ∷ []) s.labels s.scope
  tag : TagIs (shapes_of s ++ new ∷ []) s.labels (length (shapes_of s)) t
  labels : (k : ℕ) (n : ℤ) → length (shapes_of s) < k → is_label k n s.labels ≡ false
  interfaces : InterfacesAre (length (shapes_of s)) s.interfaces

typed_is : (name : List ℕ) (new : Shape) (t : Tag) (s : State) → Takes s new t → StateIs (with_type name new t s)
typed_is name new t s take =
    let old : List Shape = shapes_of s in
    let pair : List ℕ × Shape = (name, new) in
    let grown : shapes_of (with_type name new t s) ≡ old ++ new ∷ [] = append_map (λ t. t.1) s.types pair in
    let count : length (old ++ new ∷ []) ≡ length old + 1 = length-append old (new ∷ []) in
    let place : length s.types ≡ length old = sym (length-map s.types (λ t. t.1)) in
    let below : length s.types < length (old ++ new ∷ []) = omega (arith, count, place) in
    let tagged : TagIs (old ++ new ∷ []) s.labels (length s.types) t =
    subst (λ z. TagIs (old ++ new ∷ []) s.labels z t) (sym place) take.tag in
    let whole : ScopeIs (old ++ new ∷ []) s.labels (s.scope ++ (name, M.Type (Declared (length s.types) t)) ∷ []) =
    scope_push (old ++ new ∷ []) s.labels s.scope _ take.scope (below, tagged) in
    record {
      types = rw grown (types_push old new take.types take.sound);
      scope = rw grown whole;
      labels = λ k n le. take.labels k n (let le' = subst (λ z. length z ≤ k) grown le in omega (arith, le', count));
      interfaces = rw grown (interfaces_grow (length old) (length (old ++ new ∷ [])) s.interfaces (omega (arith, count)) take.interfaces);
    }

-- the same where names and labels are as they were
takes : (s : State) (new : Shape) (t : Tag) → StateIs s → is_sound_type (shapes_of s) (length (shapes_of s)) new ≡ true
    → TagIs (shapes_of s ++ new ∷ []) s.labels (length (shapes_of s)) t
    → Takes s new t
takes s new t is sound tagged = record {
  types = is.types;
  sound = sound;
  scope = scope_grow (shapes_of s) (new ∷ []) s.labels s.labels s.scope (fewer_same (length (shapes_of s)) s.labels) is.scope;
  tag = tagged;
  labels = λ k n lt. is.labels k n (omega (arith, lt));
  interfaces = is.interfaces;
}

-- ---- what a new type is as a tag

form_tagged : (types : List Shape) (labels : List (ℕ × ℤ)) (scope : Scope) (d : ℕ) (taken : Bool) (decl : Decl) (f : Form)
    → ScopeIs types labels scope → form scope d taken decl ≡ Ok f
    → TagIs (types ++ shape f ∷ []) labels (length types) (tag_of f)
form_tagged types labels scope d taken (L.Plain t n) f is h =
    let a = then_ok (type_use scope d t) _ f h in
    let b = then_ok (refused Twice d taken) _ f a.rest in
    subst
    (λ f.
    TagIs (types ++ shape f ∷ []) labels (length types) (tag_of f)) (ok_same (F.Plain a.given) f b.rest)
    (use_tagged types labels a.given (type_use_is types labels scope d t a.given is a.first))
form_tagged types labels scope d taken (L.Array t n v) f is h =
    let a = then_ok (type_use scope d t) _ f h in let b = then_ok (refused Twice d taken) _ f a.rest in let c =
    then_ok (exactly scope d v) _ f b.rest in
    subst (λ f. TagIs (types ++ shape f ∷ []) labels (length types) (tag_of f)) (ok_same (F.Array a.given c.given) f c.rest) tt
form_tagged types labels scope d taken (L.List t n v) f is h =
    let a = then_ok (type_use scope d t) _ f h in let b = then_ok (refused Twice d taken) _ f a.rest in let c =
    then_ok (at_most scope d v) _ f b.rest in
    subst (λ f. TagIs (types ++ shape f ∷ []) labels (length types) (tag_of f)) (ok_same (F.Array a.given c.given) f c.rest) tt
form_tagged types labels scope d taken (L.Pointer t n) f is h =
    let a = then_ok (type_use scope d t) _ f h in let b = then_ok (refused Twice d taken) _ f a.rest in
    subst (λ f. TagIs (types ++ shape f ∷ []) labels (length types) (tag_of f)) (ok_same (F.Optional a.given) f b.rest) tt
form_tagged types labels scope d taken (L.OpaqueArray n v) f is h =
    let b = then_ok (refused Twice d taken) _ f h in let c = then_ok (exactly scope d v) _ f b.rest in
    subst (λ f. TagIs (types ++ shape f ∷ []) labels (length types) (tag_of f)) (ok_same (F.Opaque c.given) f c.rest) tt
form_tagged types labels scope d taken (L.OpaqueList n v) f is h =
    let b = then_ok (refused Twice d taken) _ f h in let c = then_ok (at_most scope d v) _ f b.rest in
    subst (λ f. TagIs (types ++ shape f ∷ []) labels (length types) (tag_of f)) (ok_same (F.Opaque c.given) f c.rest) tt
form_tagged types labels scope d taken (L.Text n v) f is h =
    let b = then_ok (refused Twice d taken) _ f h in let c = then_ok (at_most scope d v) _ f b.rest in
    subst (λ f. TagIs (types ++ shape f ∷ []) labels (length types) (tag_of f)) (ok_same (F.Text c.given) f c.rest) tt

-- ---- each definition

typedef_is : (d : ℕ) (s out : State) (decl : Decl) → StateIs s → typedef d s decl ≡ Ok out → StateIs out
typedef_is d s out decl is h =
    let taken = is_declared (name_of decl) s.scope in
    let a = then_ok (form s.scope d taken decl) _ out h in
    let f = a.given in
    let take = takes s (shape f) (tag_of f) is (form_sound (shapes_of s) s.labels s.scope d taken decl f is.scope a.first)
    (form_tagged (shapes_of s) s.labels s.scope d taken decl f is.scope a.first) in
    subst StateIs (ok_same (with_type (name_of decl) (shape f) (tag_of f) s) out a.rest)
    (typed_is (name_of decl) (shape f) (tag_of f) s take)

struct_is : (d : ℕ) (s out : State) (name : List ℕ) (members : List Member) → StateIs s → is_some_list members ≡ true
    → struct_on d s name members ≡ Ok out
    → StateIs out
struct_is d s out name members is some h =
    let a = then_ok (refused Twice d (is_declared name s.scope)) _ out h in
    let b = then_ok (members_on s.scope d [] members) _ out a.rest in
    let are =
    (members_are (shapes_of s) s.labels s.scope d [] b.given members is.scope (record { different = refl; sound = refl }) b.first).0
    in
    let there = members_some (shapes_of s) s.labels s.scope d b.given members is.scope some b.first in
    let new = structure (members_of b.given) in
    let take = takes s new tag.Other is (struct_sound (shapes_of s) b.given are there) tt in
    subst StateIs (ok_same (with_type name new tag.Other s) out b.rest) (typed_is name new tag.Other s take)

union_is : (d : ℕ) (s out : State) (u : Union) → StateIs s → has_label u.cases ≡ true → union_on d s u ≡ Ok out → StateIs out
union_is d s out u is some h =
    let a = then_ok (refused Twice d (is_declared u.name s.scope)) _ out h in
    let b = then_ok (type_use s.scope d u.tag) _ out a.rest in
    let c = then_ok (union_shape s d b.given u) _ out b.rest in
    let used = type_use_is (shapes_of s) s.labels s.scope d u.tag b.given is.scope b.first in
    let take = takes s c.given tag.Other is (union_sound s d b.given u c.given is.scope used some c.first) tt in
    subst StateIs (ok_same (with_type u.name c.given tag.Other s) out c.rest) (typed_is u.name c.given tag.Other s take)

constants_are : (types : List Shape) (labels : List (ℕ × ℤ)) (items : List (List ℕ × ℤ))
    → ScopeIs types labels (map (λ i. (i.0, M.Constant i.1)) items)
constants_are types labels [] = tt
constants_are types labels (i ∷ items) = (tt, constants_are types labels items)

scope_join : (types : List Shape) (labels : List (ℕ × ℤ)) (a b : Scope) → ScopeIs types labels a → ScopeIs types labels b
    → ScopeIs types labels (a ++ b)
scope_join types labels [] b h k = k
scope_join types labels (e ∷ a) b h k = (h.0, scope_join types labels a b h.1 k)

no_more : (scope : Scope) → scope ≡ scope ++ []
no_more [] = refl
no_more (e ∷ scope) = ap (λ z. e ∷ z) (no_more scope)

items_start : (s : State) (k : ℕ) → StateIs s → k ≡ length (shapes_of s) → ItemsAre k (length s.labels) s s []
items_start s k is place = record {
  types = refl;
  interfaces = refl;
  versions = refl;
  scope = no_more s.scope;
  labels = record { own = λ n. is.labels k n (omega (arith, place)); others = λ j n ne. refl; count = omega arith; few = omega arith };
  different = refl;
}

enum_takes : (s t : State) (k : ℕ) (items : List (List ℕ × ℤ)) → StateIs s → k ≡ length (shapes_of s)
    → ItemsAre k (length s.labels) s t items → is_some_list items ≡ true
    → Takes t (enumeration items) (tag.Enum k)
enum_takes s t k items is place are some =
    let new = enumeration items in
    let same : shapes_of t ≡ shapes_of s = ap (λ (z : List (List ℕ × Shape)). map (λ t. t.1) z) are.types in
    let fewer : FewerBelow (length (shapes_of s)) s.labels t.labels =
    λ j n lt h. sym (are.labels.others j n (λ e. omega (arith, lt, e, place))) ∙ h in
    let old : ScopeIs (shapes_of s ++ new ∷ []) t.labels s.scope = scope_grow (shapes_of s) (new ∷ []) s.labels t.labels s.scope fewer
    is.scope in
    let count : length (shapes_of s ++ new ∷ []) ≡ length (shapes_of s) + 1 = length-append (shapes_of s) (new ∷ []) in
    let tagged : EnumIs (shapes_of s ++ new ∷ []) t.labels (length (shapes_of s)) k = record {
      below = omega (arith, count, place);
      items = items;
      ends =
          λ n le.
          ap (unfolded n (shapes_of s ++ new ∷ []) (length (shapes_of s))) (last_is (shapes_of s) new)
          ∙ enum_ends n (shapes_of s ++ new ∷ []) (length (shapes_of s)) items;
      numbers = λ n h. items_turned items n ∙ sym (are.labels.own n) ∙ h;
    } in
    let whole = scope_join (shapes_of s ++ new ∷ []) t.labels s.scope _ old (constants_are (shapes_of s ++ new ∷ []) t.labels items) in
    record {
      types = rw same is.types;
      sound = enum_sound k (length s.labels) s t items are some;
      scope = rw (same, are.scope) whole;
      tag = rw same tagged;
      labels =
          λ j n lt. let lt' = subst (λ z. length z < j) same lt in are.labels.others j n (λ e.
          omega (arith, lt', e, place)) ∙ is.labels j n (omega (arith, lt'));
      interfaces = rw (same, are.interfaces) is.interfaces;
    }

enum_is : (d : ℕ) (s out : State) (name : List ℕ) (list : List Item) → StateIs s → is_some_list list ≡ true → enum_on d s name list ≡ Ok out
    → StateIs out
enum_is d s out name list is some h =
    let k = length s.types in
    let place : k ≡ length (shapes_of s) = sym (length-map s.types (λ t. t.1)) in
    let a = then_ok (refused Twice d (is_declared name s.scope || is_item name list)) _ out h in
    let b = then_ok (items_on d k (length s.labels) s [] None list) _ out a.rest in
    let first = items_start s k is place in
    let are = (items_are d k (length s.labels) s s [] None list b.given first b.first).0 in
    let there = items_some d k (length s.labels) s list b.given first some b.first in
    let take = enum_takes s b.given.0 k b.given.1 is place are there in
    subst StateIs (ok_same (with_type name (enumeration b.given.1) (tag.Enum k) b.given.0) out b.rest)
    (typed_is name (enumeration b.given.1) (tag.Enum k) b.given.0 take)

const_is : (d : ℕ) (s out : State) (name : List ℕ) (v : Value) → StateIs s → const_on d s name v ≡ Ok out → StateIs out
const_is d s out name v is h =
    let a = then_ok (refused Twice d (is_declared name s.scope)) _ out h in
    let b = then_ok (value s.scope d v) _ out a.rest in
    subst StateIs (ok_same (declared name (M.Constant b.given) s) out b.rest) (declared_is name (M.Constant b.given) s is tt)

offers_is : (s t : State) → StateIs s → Offers s t → StateIs t
offers_is s t is offers =
    let same : shapes_of t ≡ shapes_of s = ap (λ (z : List (List ℕ × Shape)). map (λ t. t.1) z) offers.types in
    record {
      types = rw same is.types;
      scope = rw (same, offers.labels, offers.scope) is.scope;
      labels = λ k n le. rw offers.labels (is.labels k n (subst (λ z. length z ≤ k) same le));
      interfaces = rw same offers.interfaces;
    }

program_is : (d : ℕ) (s out : State) (name : List ℕ) (list : List Version) (v : Value) → StateIs s → program_on d s name list v ≡ Ok out
    → StateIs out
program_is d s out name list v is h =
    let number = number_of s.scope d v in
    let a = then_ok (refused Twice d (is_declared name s.scope)) _ out h in
    let b = then_ok (versions_on name (given number) [] s list) _ out a.rest in
    let c = then_ok number _ out b.rest in
    let none : Offers s s = record { scope = refl; labels = refl; types = refl; interfaces = is.interfaces } in
    let offers = versions_are name (given number) [] s s b.given list is.scope none b.first in
    subst StateIs (ok_same (declared name M.Program b.given) out c.rest)
    (declared_is name M.Program b.given (offers_is s b.given is offers) tt)

-- ---- the file

defined_is : (d : ℕ) (s out : State) (def : Def) → StateIs s → is_whole def ≡ true → defined d s def ≡ Ok out → StateIs out
defined_is d s out (D.Typedef decl) is whole h = typedef_is d s out decl is h
defined_is d s out (D.Const name v) is whole h = const_is d s out name v is h
defined_is d s out (D.Program name list v) is whole h = program_is d s out name list v is h
defined_is d s out (D.Enum name list) is whole h = enum_is d s out name list is whole h
defined_is d s out (D.Struct name members) is whole h = struct_is d s out name members is whole h
defined_is d s out (D.Union u) is whole h = union_is d s out u is whole h

pub defined_all : (s out : State) (tree : List Def) → StateIs s → list_all is_whole tree ≡ true → defined_on s tree ≡ Ok out → StateIs out
defined_all s out [] is whole h = subst StateIs (ok_same s out h) is
defined_all s out (def ∷ tree) is whole h =
    let a = then_ok (defined (s.count + 1) (counted s) def) _ out h in
    let parts = and_parts (is_whole def) (list_all is_whole tree) whole in
    defined_all a.given out tree (defined_is (s.count + 1) (counted s) a.given def (counted_is s is) parts.0 a.first) parts.1 a.rest

pub start_is : StateIs start
start_is = record {
  types = refl;
  scope = (tt, (tt, (tt, (tt, (tt, (tt, (tt, (tt, (tt, tt)))))))));
  labels = λ k n le. refl;
  interfaces = tt;
}
