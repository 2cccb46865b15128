-- The types of declarations and structs are sound, by induction on the members.
use Rattle.std.proofs.Common.{◌≡◌, ℕ, ℤ, Bool, true, false, List, [], ◌∷◌, ◌++◌, length, map, Option, Some, None, refl, subst}
use Rattle.std.specs.Prelude.{Ok}
use Rattle.std.proofs.lemmas.Bool.{and_from}
use Rattle.mint.specs.declared.kind.Count.{Count}
use Rattle.mint.specs.declared.kind.Count.TheVariants.{Exactly, AtMost, Any}
use Rattle.aoi.specs.declared.faults.NameFault.TheVariants.{Twice}
use Rattle.aoi.specs.Shapes.{Shape}
use Rattle.aoi.specs.Sound.{is_sound_type, is_some_count, is_open}
use Rattle.onc_syntax.specs.declared.tree.Value.{Value}
use Rattle.onc_syntax.specs.declared.tree.Decl.{Decl}
use Rattle.onc_syntax.specs.declared.tree.Decl.TheVariants as D
use Rattle.onc_syntax.specs.declared.tree.Member.{Member}
use Rattle.idl_names.specs.Names.{has}
use Rattle.idl_names.specs.Lists.{is_some_list}
use Rattle.idl_names.proofs.Standing.{use_sound}
use Rattle.front_onc.specs.declared.meaning.Form.{Form}
use Rattle.front_onc.specs.declared.meaning.Form.TheVariants as F
use Rattle.idl_names.specs.Answers.{refused, natural}
use Rattle.front_onc.specs.Names.{Scope, value, type_use}
use Rattle.front_onc.specs.Declarations.{exactly, at_most, form, shape, name_of, members_on}
use Rattle.idl_names.proofs.Parts.{then_ok, refused_ok, ok_same}
use Rattle.idl_names.proofs.Forming.{some_push, fields_push, FieldsAre, natural_low, Field}
use Rattle.front_onc.proofs.Standing.{ScopeIs, type_use_is}

exactly_some : (scope : Scope) (d : ℕ) (v : Value) (c : Count) → exactly scope d v ≡ Ok c → is_some_count c ≡ true
exactly_some scope d v c h =
    let a = then_ok (value scope d v) _ c h in
    let b = then_ok (natural 1 d a.given) _ c a.rest in
    subst (λ z. is_some_count z ≡ true) (ok_same (Exactly b.given) c b.rest) (natural_low 1 d b.given a.given b.first)

at_most_open : (scope : Scope) (d : ℕ) (v : Option Value) (c : Count) → at_most scope d v ≡ Ok c
    → (is_some_count c ≡ true) × (is_open c ≡ true)
at_most_open scope d None c h = subst (λ z. (is_some_count z ≡ true) × (is_open z ≡ true)) (ok_same Any c h) (refl, refl)
at_most_open scope d (Some v) c h =
    let a = then_ok (value scope d v) _ c h in
    let b = then_ok (natural 0 d a.given) _ c a.rest in
    subst (λ z. (is_some_count z ≡ true) × (is_open z ≡ true)) (ok_same (AtMost b.given) c b.rest) (refl, refl)

abbrev Sound : List Shape → Form → Type 0
Sound types f = is_sound_type types (length types) (shape f) ≡ true

pub form_sound : (types : List Shape) (labels : List (ℕ × ℤ)) (scope : Scope) (d : ℕ) (taken : Bool) (decl : Decl) (f : Form)
    → ScopeIs types labels scope → form scope d taken decl ≡ Ok f
    → Sound types f
form_sound types labels scope d taken (D.Plain t n) f s h =
    let a = then_ok (type_use scope d t) _ f h in
    let b = then_ok (refused Twice d taken) _ f a.rest in
    subst (Sound types) (ok_same (F.Plain a.given) f b.rest)
    (use_sound types labels a.given (type_use_is types labels scope d t a.given s a.first))
form_sound types labels scope d taken (D.Pointer t n) f s h =
    let a = then_ok (type_use scope d t) _ f h in
    let b = then_ok (refused Twice d taken) _ f a.rest in
    subst (Sound types) (ok_same (F.Optional a.given) f b.rest)
    (use_sound types labels a.given (type_use_is types labels scope d t a.given s a.first))
form_sound types labels scope d taken (D.Array t n v) f s h =
    let a = then_ok (type_use scope d t) _ f h in
    let b = then_ok (refused Twice d taken) _ f a.rest in
    let c = then_ok (exactly scope d v) _ f b.rest in
    let sound = use_sound types labels a.given (type_use_is types labels scope d t a.given s a.first) in
    subst (Sound types) (ok_same (F.Array a.given c.given) f c.rest) (and_from _ _ (exactly_some scope d v c.given c.first) sound)
form_sound types labels scope d taken (D.List t n v) f s h =
    let a = then_ok (type_use scope d t) _ f h in
    let b = then_ok (refused Twice d taken) _ f a.rest in
    let c = then_ok (at_most scope d v) _ f b.rest in
    let sound = use_sound types labels a.given (type_use_is types labels scope d t a.given s a.first) in
    subst (Sound types) (ok_same (F.Array a.given c.given) f c.rest) (and_from _ _ (at_most_open scope d v c.given c.first).0 sound)
form_sound types labels scope d taken (D.OpaqueArray n v) f s h =
    let b = then_ok (refused Twice d taken) _ f h in
    let c = then_ok (exactly scope d v) _ f b.rest in
    subst (Sound types) (ok_same (F.Opaque c.given) f c.rest) (and_from _ _ (exactly_some scope d v c.given c.first) refl)
form_sound types labels scope d taken (D.OpaqueList n v) f s h =
    let b = then_ok (refused Twice d taken) _ f h in
    let c = then_ok (at_most scope d v) _ f b.rest in
    subst (Sound types) (ok_same (F.Opaque c.given) f c.rest) (and_from _ _ (at_most_open scope d v c.given c.first).0 refl)
form_sound types labels scope d taken (D.Text n v) f s h =
    let b = then_ok (refused Twice d taken) _ f h in
    let c = then_ok (at_most scope d v) _ f b.rest in
    subst (Sound types) (ok_same (F.Text c.given) f c.rest) (at_most_open scope d v c.given c.first).1

-- what a form that was not refused says of its name
pub form_free : (scope : Scope) (d : ℕ) (taken : Bool) (decl : Decl) (f : Form) → form scope d taken decl ≡ Ok f → taken ≡ false
form_free scope d taken (D.Plain t n) f h =
    let a = then_ok (type_use scope d t) _ f h in let b = then_ok (refused Twice d taken) _ f a.rest in refused_ok Twice d taken b.given
    b.first
form_free scope d taken (D.Pointer t n) f h =
    let a = then_ok (type_use scope d t) _ f h in let b = then_ok (refused Twice d taken) _ f a.rest in refused_ok Twice d taken b.given
    b.first
form_free scope d taken (D.Array t n v) f h =
    let a = then_ok (type_use scope d t) _ f h in let b = then_ok (refused Twice d taken) _ f a.rest in refused_ok Twice d taken b.given
    b.first
form_free scope d taken (D.List t n v) f h =
    let a = then_ok (type_use scope d t) _ f h in let b = then_ok (refused Twice d taken) _ f a.rest in refused_ok Twice d taken b.given
    b.first
form_free scope d taken (D.OpaqueArray n v) f h = let b = then_ok (refused Twice d taken) _ f h in refused_ok Twice d taken b.given b.first
form_free scope d taken (D.OpaqueList n v) f h = let b = then_ok (refused Twice d taken) _ f h in refused_ok Twice d taken b.given b.first
form_free scope d taken (D.Text n v) f h = let b = then_ok (refused Twice d taken) _ f h in refused_ok Twice d taken b.given b.first

-- ---- members

pub members_are : (types : List Shape) (labels : List (ℕ × ℤ)) (scope : Scope) (d : ℕ) (fields out : List Field) (ms : List Member)
    → ScopeIs types labels scope → FieldsAre types fields → members_on scope d fields ms ≡ Ok out
    → FieldsAre types out × (is_some_list fields ≡ true → is_some_list out ≡ true)
members_are types labels scope d fields out [] s are h =
    (subst (FieldsAre types) (ok_same fields out h) are, λ some. subst (λ z. is_some_list z ≡ true) (ok_same fields out h) some)
members_are types labels scope d fields out (m ∷ ms) s are h =
    let taken = has (name_of m.decl) (map (λ f. f.0) fields) in
    let a = then_ok (form scope d taken m.decl) _ out h in
    let next = fields_push types fields (name_of m.decl) (shape a.given) are (form_free scope d taken m.decl a.given a.first)
    (form_sound types labels scope d taken m.decl a.given s a.first) in
    let rest = members_are types labels scope d (fields ++ (name_of m.decl, shape a.given) ∷ []) out ms s next a.rest in
    (rest.0, λ _. rest.1 (some_push fields (name_of m.decl, shape a.given)))

pub members_some : (types : List Shape) (labels : List (ℕ × ℤ)) (scope : Scope) (d : ℕ) (out : List Field) (ms : List Member)
    → ScopeIs types labels scope → is_some_list ms ≡ true → members_on scope d [] ms ≡ Ok out
    → is_some_list out ≡ true
members_some types labels scope d out [] s some h = absurd cc
members_some types labels scope d out (m ∷ ms) s some h =
    let taken = has (name_of m.decl) [] in
    let a = then_ok (form scope d taken m.decl) _ out h in
    let next = fields_push types [] (name_of m.decl) (shape a.given) (record { different = refl; sound = refl }) refl
    (form_sound types labels scope d taken m.decl a.given s a.first) in
    (members_are types labels scope d ((name_of m.decl, shape a.given) ∷ []) out ms s next a.rest).1 refl
