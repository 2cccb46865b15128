-- The fields of structs and exceptions are sound, by induction on the members and on the declarators of each.
use Rattle.std.proofs.Common.{◌≡◌, ℕ, ℤ, true, false, List, [], ◌∷◌, ◌++◌, length, map, refl, sym, subst}
use Rattle.std.specs.Prelude.{Ok}
use Rattle.std.specs.List.{list_all}
use Rattle.std.specs.Str.{bytes_eq}
use Rattle.std.proofs.lemmas.Bool.{or_parts, or_from}
use Rattle.mint.specs.declared.kind.Count.{Count}
use Rattle.aoi.specs.Shapes.{Shape, members_of}
use Rattle.aoi.specs.Sound.{is_some_count}
use Rattle.idl_names.specs.Names.{has, is_declared}
use Rattle.idl_names.specs.Lists.{is_some_list}
use Rattle.idl_names.proofs.Parts.{then_ok, ok_same}
use Rattle.idl_names.proofs.Tables.{append_map}
use Rattle.idl_names.proofs.Forming.{FieldsAre, fields_push, some_push, Field}
use Rattle.corba_decls.specs.declared.member_tree.Declarator.{Declarator}
use Rattle.corba_decls.specs.declared.member_tree.Member.{Member}
use Rattle.corba_scopes.specs.declared.meanings.Meaning.{Meaning}
use Rattle.corba_scopes.specs.declared.meanings.Meaning.TheVariants as M
use Rattle.corba_scopes.specs.Names.{Names, here, clash, refused_by, declared_on}
use Rattle.corba_shapes.specs.declared.forms.Form.{Form}
use Rattle.corba_shapes.specs.Forms.{type_form, form_shape}
use Rattle.corba_shapes.specs.Fields.{lengths_on, placed_on, Body, fields_on, members_on}
use Rattle.corba_shapes.specs.Declarations.{has_field}
use Rattle.corba_shapes.proofs.Standing.{ScopeIs, Declared, declared_ok, declared_is, apart, differ}
use Rattle.corba_shapes.proofs.Shaping.{FormIs, form_is, form_plain, form_sound, lengths_are}
use Rattle.idl_names.proofs.Plainness.{are_plain, plain_push}

-- ---- names that come once

-- no name that is not declared here is one of these
abbrev pub Fresh : Names → List (List ℕ) → Type 0
Fresh s names = (n : List ℕ) → is_declared (here s ++ n) s.meanings ≡ false → has n names ≡ false

not_added : (n : List ℕ) (names : List (List ℕ)) (name : List ℕ) → has n names ≡ false → bytes_eq n name ≡ false
    → has n (names ++ name ∷ []) ≡ false
not_added n [] name a b = or_from _ _ b refl
not_added n (m ∷ names) name a b = let h = or_parts _ _ a in or_from _ _ h.0 (not_added n names name h.1 b)

fresh_by : (s : Names) (names : List (List ℕ)) (name : List ℕ) (m : Meaning) → Fresh s names → (n : List ℕ)
    → is_declared (here s ++ n) (s.meanings ++ (here s ++ name, m) ∷ []) ≡ false → has n (names ++ name ∷ []) ≡ false
fresh_by s names name m fresh n h =
    let two = apart (here s ++ n) (here s ++ name) m s.meanings h in
    not_added n names name (fresh n two.0) (differ (here s) n name two.1)

pub fresh_push : (s out : Names) (names : List (List ℕ)) (name : List ℕ) (m : Meaning) → Fresh s names → Declared s name m out
    → Fresh out (names ++ name ∷ [])
fresh_push s out names name m fresh h =
    subst (λ (z : Names). Fresh z (names ++ name ∷ [])) h.same (fresh_by s names name m fresh)

-- ---- declarators

pub record Placed (types : List Shape) (labels : List (ℕ × ℤ)) (s : Names) (x : Declarator)
    (r : Names × List Count) : Type 0 where
  pub declared : Declared s x.name.name M.Other r.0
  pub scope : ScopeIs types labels r.0
  pub lengths : list_all is_some_count r.1 ≡ true

pub placed_is : (types : List Shape) (labels : List (ℕ × ℤ)) (d : ℕ) (s : Names) (x : Declarator)
    (r : Names × List Count) → ScopeIs types labels s → placed_on d s x ≡ Ok r → Placed types labels s x r
placed_is types labels d s x r is h =
    let a = then_ok (refused_by d (clash s x.name.name)) _ r h in
    let b = then_ok (lengths_on s d [] x.dimensions) _ r a.rest in
    let c = then_ok (declared_on d s x.name.name M.Other) _ r b.rest in
    let one = declared_ok d s x.name.name M.Other c.given c.first in
    let made : Names × List Count = (c.given, b.given) in
    subst (Placed types labels s x) (ok_same made r c.rest) (record {
      declared = one;
      scope = declared_is types labels s x.name.name M.Other c.given is tt one;
      lengths = lengths_are s d [] x.dimensions b.given refl b.first;
    })

-- ---- fields

pub record BodyIs (types : List Shape) (labels : List (ℕ × ℤ)) (b : Body) : Type 0 where
  pub scope : ScopeIs types labels b.names
  pub are : FieldsAre types b.fields
  pub plain : are_plain (length types) (members_of b.fields) ≡ true
  pub fresh : Fresh b.names (map (λ f. f.0) b.fields)

pub fields_are : (types : List Shape) (labels : List (ℕ × ℤ)) (d : ℕ) (f : Form) (b out : Body)
    (xs : List Declarator) → FormIs types labels f → BodyIs types labels b → fields_on d f b xs ≡ Ok out
    → BodyIs types labels out × (is_some_list b.fields ≡ true → is_some_list out.fields ≡ true)
    × (is_some_list xs ≡ true → is_some_list out.fields ≡ true)
fields_are types labels d f b out [] form is h =
    let same = ok_same b out h in (
      subst (BodyIs types labels) same is,
      λ some. subst (λ (z : Body). is_some_list z.fields ≡ true) same some,
      λ some. absurd cc,
    )
fields_are types labels d f b out (x ∷ xs) form is h =
    let a = then_ok (placed_on d b.names x) _ out h in
    let one = placed_is types labels d b.names x a.given is.scope a.first in
    let name = x.name.name in
    let new : has name (map (λ f. f.0) b.fields) ≡ false = is.fresh name one.declared.new in
    let last : Field = (name, form_shape f a.given.1) in
    let next : Body = record { names = a.given.0; fields = b.fields ++ last ∷ [] } in
    let names : map (λ (f : Field). f.0) (b.fields ++ last ∷ []) ≡ map (λ (f : Field).
    f.0) b.fields ++ name ∷ [] = append_map (λ (f : Field). f.0) b.fields last in
    let whole : BodyIs types labels next = record {
      scope = one.scope;
      plain = plain_push (length types) b.fields last is.plain (form_plain types labels f a.given.1 form one.lengths);
      are = fields_push types b.fields name (form_shape f a.given.1) is.are new (form_sound types labels f a.given.1 form one.lengths);
      fresh =
          subst
          (λ z.
          Fresh a.given.0 z) (sym names)
          (fresh_push b.names a.given.0 (map (λ f. f.0) b.fields) name M.Other is.fresh one.declared);
    } in
    let rest = fields_are types labels d f next out xs form whole a.rest in
    (rest.0, λ _. rest.1 (some_push b.fields last), λ _. rest.1 (some_push b.fields last))

pub members_are : (types : List Shape) (labels : List (ℕ × ℤ)) (d : ℕ) (b out : Body) (ms : List Member)
    → BodyIs types labels b → members_on d b ms ≡ Ok out
    → BodyIs types labels out × (is_some_list b.fields ≡ true → is_some_list out.fields ≡ true)
    × (has_field ms ≡ true → is_some_list out.fields ≡ true)
members_are types labels d b out [] is h =
    let same = ok_same b out h in (
      subst (BodyIs types labels) same is,
      λ some. subst (λ (z : Body). is_some_list z.fields ≡ true) same some,
      λ some. absurd cc,
    )
members_are types labels d b out (m ∷ ms) is h =
    let a = then_ok (type_form b.names d m.of.0 m.of.1) _ out h in
    let c = then_ok (fields_on d a.given b m.declarators) _ out a.rest in
    let form = form_is types labels b.names d m.of.0 m.of.1 a.given is.scope a.first in
    let one = fields_are types labels d a.given b c.given m.declarators form is c.first in
    let rest = members_are types labels d c.given out ms one.0 c.rest in
    (rest.0, λ some. rest.1 (one.1 some), λ some. rest.1 (one.2 some))
