-- The operations of interfaces are sound, by induction on parameters, raises, attribute names and inherited operations.
use Rattle.std.proofs.Common.{◌≡◌, ◌⊎◌, inl, inr, ℤ, ℕ, zero, suc, ◌<◌, ◌≤◌, Bool, true, false, ◌&&◌, nat_le, List, [], ◌∷◌, ◌++◌, length, Option, Some, None, refl, sym, subst, ◌∙◌, arith, if◌then◌else◌}
use Rattle.std.specs.Prelude.{Ok, slice_get}
use Rattle.std.proofs.lemmas.Bool.{and_from, leb-false}
use Rattle.std.proofs.lemmas.List.{length-append}
use Rattle.aoi.specs.declared.faults.NameFault.TheVariants.{Limit, Oneway}
use Rattle.aoi.specs.Shapes.{Shape, void, members_of}
use Rattle.aoi.specs.Plain.{PlainRaise, PlainOperation}
use Rattle.idl_names.specs.Answers.{refused}
use Rattle.idl_names.proofs.Parts.{then_ok, refused_ok, ok_same}
use Rattle.idl_exprs.specs.Trees.{Tree}
use Rattle.idl_exprs.specs.declared.tree.Identifier.{Identifier}
use Rattle.corba_decls.specs.declared.type_tree.Base.{Base}
use Rattle.corba_syntax.specs.declared.operation_tree.Parameter.{Parameter}
use Rattle.corba_syntax.specs.declared.operation_tree.Reference.{Reference}
use Rattle.corba_syntax.specs.declared.operation_tree.Attribute.{Attribute}
use Rattle.corba_syntax.specs.declared.operation_tree.Operation.{Operation}
use Rattle.corba_scopes.specs.declared.meanings.Meaning.TheVariants as M
use Rattle.corba_scopes.specs.Names.{Names, entered, left, refused_by, declared_on}
use Rattle.corba_scopes.specs.Finding.{named, meaning}
use Rattle.corba_shapes.specs.declared.forms.Form.{Form}
use Rattle.corba_shapes.specs.Forms.{type_form, form_shape}
use Rattle.corba_shapes.proofs.Lasting.{RaiseIs, RaisesAre, raises_grow, raises_push}
use Rattle.corba_shapes.proofs.Standing.{ScopeIs, declared_ok, declared_is}
use Rattle.corba_shapes.proofs.Shaping.{FormIs, form_is, form_plain}
use Rattle.corba_shapes.proofs.Keeping.{shapes_of, StateIs, names_is}
use Rattle.front_corba.specs.State.{PlainOffer, Body, with_names}
use Rattle.front_corba.specs.Offers.{at_place, placed, added_on, offered_on, own_clash}
use Rattle.front_corba.specs.Bases.{is_there, inherited, inherited_on}
use Rattle.front_corba.specs.Parameters.{goes_in, comes_out, Parameters, no_parameters, with_field, parameter_on, parameters_on, exception_at, with_raise, raised_by, raises_on}
use Rattle.front_corba.specs.Operations.{gives_back, result_of, operation_of, judged_on, signed_on, operation_on}
use Rattle.front_corba.specs.Attributes.{getter, setter, attribute_clash, setter_on, attribute_on, attribute_names_on, attributes_on}
use Rattle.idl_names.proofs.Plainness.{is_plain, are_plain, plain_grow, members_grow, plain_push}

-- ---- operations

-- a result is void or plain
abbrev pub ResultIs : ℕ → Shape → Type 0
ResultIs limit s = (s ≡ void) ⊎ (is_plain limit s ≡ true)

-- an operation whose types stand below a limit
pub record OperationIs (limit : ℕ) (o : PlainOperation) : Type 0 where
  pub ins : are_plain limit o.ins ≡ true
  pub outs : are_plain limit o.outs ≡ true
  pub result : ResultIs limit o.result
  pub raises : RaisesAre limit o.raises
  pub few : length o.raises ≤ 4095

abbrev pub OffersAre : ℕ → ℕ → List PlainOffer → Type 0
OffersAre limit slots [] = Unit {0}
OffersAre limit slots (o ∷ os) = OperationIs limit o.operation × ((o.operation.slot < slots) × OffersAre limit slots os)

-- operations whose slots are below their number, at most 256
pub record SeatedAre (limit : ℕ) (offers : List PlainOffer) : Type 0 where
  pub ops : OffersAre limit (length offers) offers
  pub few : length offers ≤ 256

result_grow : (low high : ℕ) (s : Shape) → low ≤ high → ResultIs low s → ResultIs high s
result_grow low high s le (inl h) = inl h
result_grow low high s le (inr h) = inr (plain_grow low high s le h)

operation_grow : (low high : ℕ) (o : PlainOperation) → low ≤ high → OperationIs low o → OperationIs high o
operation_grow low high o le h = record {
  ins = members_grow low high o.ins le h.ins;
  outs = members_grow low high o.outs le h.outs;
  result = result_grow low high o.result le h.result;
  raises = raises_grow low high o.raises le h.raises;
  few = h.few;
}

offers_grow : (low high few many : ℕ) (os : List PlainOffer) → low ≤ high → few ≤ many → OffersAre low few os → OffersAre high many os
offers_grow low high few many [] le more h = tt
offers_grow low high few many (o ∷ os) le more h =
    let below = h.1.0 in
    (operation_grow low high o.operation le h.0, (omega (arith, below, more), offers_grow low high few many os le more h.1.1))

pub seated_grow : (low high : ℕ) (os : List PlainOffer) → low ≤ high → SeatedAre low os → SeatedAre high os
seated_grow low high os le h =
    let same : length os ≤ length os = omega arith in
    record { ops = offers_grow low high (length os) (length os) os le same h.ops; few = h.few }

offers_push : (limit slots : ℕ) (os : List PlainOffer) (o : PlainOffer) → OffersAre limit slots os → OperationIs limit o.operation
    → o.operation.slot < slots → OffersAre limit slots (os ++ o ∷ [])
offers_push limit slots [] o h is below = (is, (below, tt))
offers_push limit slots (p ∷ os) o h is below = (h.0, (h.1.0, offers_push limit slots os o h.1.1 is below))

-- an operation after the others
pub added_is : (limit d home : ℕ) (o : PlainOperation) (ops out : List PlainOffer) → SeatedAre limit ops → OperationIs limit o
    → added_on d home o ops ≡ Ok out → SeatedAre limit out
added_is limit d home o ops out are is h =
    let a = then_ok (refused Limit d (nat_le 256 (length ops))) _ out h in
    let room = leb-false 256 (length ops) (refused_ok Limit d _ a.given a.first) in
    let last = placed home (length ops) o in
    let count = length-append ops (last ∷ []) in
    let same : limit ≤ limit = omega arith in
    let more : length ops ≤ length (ops ++ last ∷ []) = omega (arith, count) in
    let below : length ops < length (ops ++ last ∷ []) = omega (arith, count) in
    let one : OperationIs limit (at_place (length ops) o) = record
    { ins = is.ins; outs = is.outs; result = is.result; raises = is.raises; few = is.few } in
    subst (SeatedAre limit) (ok_same (ops ++ last ∷ []) out a.rest) (record {
      ops = offers_push limit (length (ops ++ last ∷ [])) ops last
          (offers_grow limit limit (length ops) (length (ops ++ last ∷ [])) ops same more are.ops) one below;
      few = omega (arith, count, room);
    })

-- ---- bases

inherited_by : (b : Bool) (limit d : ℕ) (o : PlainOffer) (ops out : List PlainOffer) → SeatedAre limit ops → OperationIs limit o.operation
    → (if b then Ok ops else added_on d o.home o.operation ops) ≡ Ok out → SeatedAre limit out
inherited_by true limit d o ops out are is h = subst (SeatedAre limit) (ok_same ops out h) are
inherited_by false limit d o ops out are is h = added_is limit d o.home o.operation ops out are is h

pub inherited_are : (limit slots d : ℕ) (ops out base : List PlainOffer) → SeatedAre limit ops → OffersAre limit slots base
    → inherited_on d ops base ≡ Ok out → SeatedAre limit out
inherited_are limit slots d ops out [] are is h = subst (SeatedAre limit) (ok_same ops out h) are
inherited_are limit slots d ops out (o ∷ base) are is h =
    let a = then_ok (inherited d ops o) _ out h in
    inherited_are limit slots d a.given out base (inherited_by (is_there o ops) limit d o ops a.given are is.0 a.first) is.1.1 a.rest

-- ---- parameters

abbrev Field : Type 0
Field = List ℕ × Shape

field_with : (b : Bool) (limit : ℕ) (fields : List Field) (f : Field) → are_plain limit (members_of fields) ≡ true
    → is_plain limit f.1 ≡ true → are_plain limit (members_of (with_field b fields f)) ≡ true
field_with true limit fields f are is = plain_push limit fields f are is
field_with false limit fields f are is = are

record ParametersAre (types : List Shape) (labels : List (ℕ × ℤ)) (ps : Parameters) : Type 0 where
  scope : ScopeIs types labels ps.names
  ins : are_plain (length types) (members_of ps.ins) ≡ true
  outs : are_plain (length types) (members_of ps.outs) ≡ true

parameter_is : (types : List Shape) (labels : List (ℕ × ℤ)) (d : ℕ) (ps out : Parameters) (p : Parameter)
    → ParametersAre types labels ps → parameter_on d ps p ≡ Ok out → ParametersAre types labels out
parameter_is types labels d ps out p is h =
    let name = p.name.name in
    let a = then_ok (type_form ps.names d p.of.0 p.of.1) _ out h in
    let b = then_ok (declared_on d ps.names name M.Other) _ out a.rest in
    let form = form_is types labels ps.names d p.of.0 p.of.1 a.given is.scope a.first in
    let plain = form_plain types labels a.given [] form refl in
    let one = declared_ok d ps.names name M.Other b.given b.first in
    let f : Field = (name, form_shape a.given []) in
    let made : Parameters =
    record { names = b.given; ins = with_field (goes_in p.direction) ps.ins f; outs = with_field (comes_out p.direction) ps.outs f } in
    subst (ParametersAre types labels) (ok_same made out b.rest) (record {
      scope = declared_is types labels ps.names name M.Other b.given is.scope tt one;
      ins = field_with (goes_in p.direction) (length types) ps.ins f is.ins plain;
      outs = field_with (comes_out p.direction) (length types) ps.outs f is.outs plain;
    })

parameters_are : (types : List Shape) (labels : List (ℕ × ℤ)) (d : ℕ) (ps out : Parameters) (list : List Parameter)
    → ParametersAre types labels ps → parameters_on d ps list ≡ Ok out
    → ParametersAre types labels out
parameters_are types labels d ps out [] is h = subst (ParametersAre types labels) (ok_same ps out h) is
parameters_are types labels d ps out (p ∷ list) is h =
    let a = then_ok (parameter_on d ps p) _ out h in
    parameters_are types labels d a.given out list (parameter_is types labels d ps a.given p is a.first) a.rest

-- ---- exceptions

abbrev IfRaise : ℕ → Option PlainRaise → Type 0
IfRaise limit None = Unit {0}
IfRaise limit (Some e) = RaiseIs limit e

raise_there : (limit : ℕ) (es : List PlainRaise) (k : ℕ) → RaisesAre limit es → IfRaise limit (slice_get es k)
raise_there limit [] k h = tt
raise_there limit (e ∷ es) zero h = h.0
raise_there limit (e ∷ es) (suc k) h = raise_there limit es k h.1

record RaisedAre (limit : ℕ) (raises : List PlainRaise) : Type 0 where
  are : RaisesAre limit raises
  few : length raises ≤ 4095

raise_with : (limit : ℕ) (raises : List PlainRaise) (e : Option PlainRaise) → RaisedAre limit raises → length raises < 4095
    → IfRaise limit e → RaisedAre limit (with_raise raises e)
raise_with limit raises None h room is = h
raise_with limit raises (Some e) h room is =
    let count = length-append raises (e ∷ []) in record { are = raises_push limit raises e h.are is; few = omega (arith, count, room) }

raises_are : (limit : ℕ) (s : Names) (es : List PlainRaise) (d : ℕ) (raises out : List PlainRaise)
    (list : List Reference) → RaisesAre limit es → RaisedAre limit raises
    → raises_on s es d raises list ≡ Ok out → RaisedAre limit out
raises_are limit s es d raises out [] all is h = subst (RaisedAre limit) (ok_same raises out h) is
raises_are limit s es d raises out (r ∷ list) all is h =
    let a = then_ok (raised_by s es d raises r) _ out h in
    let b = then_ok (exception_at d (meaning (named s r.name))) _ a.given a.first in
    let c = then_ok (refused Limit d (nat_le 4095 (length raises))) _ a.given b.rest in
    let room = leb-false 4095 (length raises) (refused_ok Limit d _ c.given c.first) in
    let one = raise_with limit raises (slice_get es b.given) is room (raise_there limit es b.given all) in
    raises_are limit s es d a.given out list all
    (subst (RaisedAre limit) (ok_same (with_raise raises (slice_get es b.given)) a.given c.rest) one) a.rest

-- ---- an interface so far

pub record BodyIs (b : Body) : Type 0 where
  pub state : StateIs b.state
  pub ops : SeatedAre (length (shapes_of b.state)) b.ops

result_is : (types : List Shape) (labels : List (ℕ × ℤ)) (s : Names) (d : ℕ)
    (t : Option (List (Option Tree) × Base)) (r : Shape) → ScopeIs types labels s → result_of s d t ≡ Ok r → ResultIs (length types) r
result_is types labels s d None r is h = inl (sym (ok_same void r h))
result_is types labels s d (Some t) r is h =
    let a = then_ok (type_form s d t.0 t.1) _ r h in
    let form = form_is types labels s d t.0 t.1 a.given is a.first in
    inr (subst (λ z. is_plain (length types) z ≡ true) (ok_same (form_shape a.given []) r a.rest)
    (form_plain types labels a.given [] form refl))

-- an operation, whose name is declared, after the others
offered_is : (d : ℕ) (home : ℕ) (b out : Body) (o : PlainOperation) → BodyIs b
    → OperationIs (length (shapes_of b.state)) o → offered_on d home b o ≡ Ok out → BodyIs out
offered_is d home b out o is one h =
    let s = b.state in
    let a = then_ok (declared_on d s.names o.name M.Other) _ out h in
    let c = then_ok (added_on d home o b.ops) _ out a.rest in
    let here = declared_ok d s.names o.name M.Other a.given a.first in
    let made : Body = record { state = record s { names = a.given }; ops = c.given } in
    subst BodyIs (ok_same made out c.rest) (record {
      state = names_is s a.given is.state (declared_is (shapes_of s) s.labels s.names o.name M.Other a.given is.state.scope tt here);
      ops = added_is (length (shapes_of s)) d home o b.ops c.given is.ops one c.first;
    })

-- what is put after the others keeps the types and numbers as they are
pub record Same (b out : Body) : Type 0 where
  pub types : out.state.types ≡ b.state.types
  pub labels : out.state.labels ≡ b.state.labels

offered_same : (d : ℕ) (home : ℕ) (b out : Body) (o : PlainOperation) → offered_on d home b o ≡ Ok out → Same b out
offered_same d home b out o h =
    let a = then_ok (declared_on d b.state.names o.name M.Other) _ out h in
    let c = then_ok (added_on d home o b.ops) _ out a.rest in
    let made : Body = record { state = record b.state { names = a.given }; ops = c.given } in
    subst (Same b) (ok_same made out c.rest) (record { types = refl; labels = refl })

-- an interface after one more of what it declares
pub record Goes (b out : Body) : Type 0 where
  pub is : BodyIs out
  pub same : Same b out

-- the result of an operation that may be declared
judged_of : (d : ℕ) (s : Names) (ops : List PlainOffer) (o : Operation) (r : Shape) → judged_on d s ops o ≡ Ok r
    → result_of s d o.result ≡ Ok r
judged_of d s ops o r h =
    let a = then_ok (refused Oneway d (o.oneway && gives_back o)) _ r h in
    let c = then_ok (result_of s d o.result) _ r a.rest in
    let e = then_ok (refused_by d (own_clash s o.name.name ops)) _ r c.rest in
    let f = then_ok (refused Limit d (nat_le 256 (length ops))) _ r e.rest in
    subst (λ z. result_of s d o.result ≡ Ok z) (ok_same c.given r f.rest) c.first

pub operation_is : (d : ℕ) (home : ℕ) (b out : Body) (o : Operation) → BodyIs b
    → operation_on d home b o ≡ Ok out → Goes b out
operation_is d home b out o is h =
    let s = b.state in
    let types = shapes_of s in
    let inner = entered o.name.name s.names in
    let none = no_parameters inner in
    let nothing : List PlainRaise = [] in
    let j = then_ok (judged_on d s.names b.ops o) _ out h in
    let result = result_is types s.labels s.names d o.result j.given is.state.scope (judged_of d s.names b.ops o j.given j.first) in
    let k = then_ok (signed_on d inner s.exceptions o j.given) _ out j.rest in
    let g = then_ok (parameters_on d none o.parameters) _ k.given k.first in
    let i = then_ok (raises_on g.given.names s.exceptions d nothing o.raises) _ k.given g.rest in
    let start : ParametersAre types s.labels none = record { scope = is.state.scope; ins = refl; outs = refl } in
    let ps = parameters_are types s.labels d none g.given o.parameters start g.first in
    let empty : RaisedAre (length types) nothing = record { are = tt; few = omega arith } in
    let rs = raises_are (length types) g.given.names s.exceptions d nothing i.given o.raises is.state.exceptions empty i.first in
    let mid = with_names (left g.given.names) b in
    let made = operation_of o.name.name o.oneway g.given.ins g.given.outs j.given i.given in
    let one : OperationIs (length types) made = record { ins = ps.ins; outs = ps.outs; result = result; raises = rs.are; few = rs.few } in
    let mid_is : BodyIs mid = record { state = names_is s (left g.given.names) is.state ps.scope; ops = is.ops } in
    let pair : Names × PlainOperation = (g.given.names, made) in
    let last : offered_on d home mid made ≡ Ok out =
    subst (λ (z : Names × PlainOperation). offered_on d home (with_names (left z.0) b) z.1 ≡ Ok out)
    (sym (ok_same pair k.given i.rest)) k.rest in
    let same = offered_same d home mid out made last in
    record {
      is = offered_is d home mid out made mid_is one last;
      same = record { types = same.types; labels = same.labels };
    }

-- ---- attributes

getter_is : (limit : ℕ) (x : List ℕ) (s : Shape) → is_plain limit s ≡ true → OperationIs limit (getter x s)
getter_is limit x s h = record { ins = refl; outs = refl; result = inr h; raises = tt; few = omega arith }

setter_is : (limit : ℕ) (x : List ℕ) (s : Shape) → is_plain limit s ≡ true → OperationIs limit (setter x s)
setter_is limit x s h = record { ins = and_from _ _ h refl; outs = refl; result = inl refl; raises = tt; few = omega arith }

-- a form over the types of a body
abbrev FormOf : Body → Form → Type 0
FormOf b f = FormIs (shapes_of b.state) b.state.labels f

form_same : (b out : Body) (f : Form) → Same b out → FormOf b f → FormOf out f
form_same b out f same is = rw (same.types, same.labels) is

same_as : (b : Body) → Same b b
same_as b = record { types = refl; labels = refl }

same_then : (a b c : Body) → Same a b → Same b c → Same a c
same_then a b c first more = record { types = more.types ∙ first.types; labels = more.labels ∙ first.labels }

setter_by : (readonly : Bool) (d : ℕ) (home : ℕ) (f : Form) (b out : Body) (x : List ℕ) → BodyIs b → FormOf b f
    → setter_on d home readonly f b x ≡ Ok out → Goes b out
setter_by true d home f b out x is form h = subst (Goes b) (ok_same b out h) (record { is = is; same = same_as b })
setter_by false d home f b out x is form h =
    let types = shapes_of b.state in
    let set = setter x (form_shape f []) in
    let one = setter_is (length types) x (form_shape f []) (form_plain types b.state.labels f [] form refl) in
    record { is = offered_is d home b out set is one h; same = offered_same d home b out set h }

attribute_is : (d : ℕ) (home : ℕ) (readonly : Bool) (f : Form) (b out : Body) (x : List ℕ) → BodyIs b → FormOf b f
    → attribute_on d home readonly f b x ≡ Ok out → Goes b out
attribute_is d home readonly f b out x is form h =
    let s = b.state in
    let types = shapes_of s in
    let a = then_ok (refused_by d (attribute_clash s.names b.ops readonly x)) _ out h in
    let c = then_ok (declared_on d s.names x M.Other) _ out a.rest in
    let here = declared_ok d s.names x M.Other c.given c.first in
    let mid : Body = record b { state = record s { names = c.given } } in
    let get = getter x (form_shape f []) in
    let e = then_ok (offered_on d home mid get) _ out c.rest in
    let mid_is : BodyIs mid =
    record {
      state = names_is s c.given is.state (declared_is types s.labels s.names x M.Other c.given is.state.scope tt here);
      ops = is.ops;
    } in
    let one = getter_is (length types) x (form_shape f []) (form_plain types s.labels f [] form refl) in
    let next = offered_is d home mid e.given get mid_is one e.first in
    let got = offered_same d home mid e.given get e.first in
    let same : Same b e.given = record { types = got.types; labels = got.labels } in
    let last = setter_by readonly d home f e.given out x next (form_same b e.given f same form) e.rest in
    record { is = last.is; same = same_then b e.given out same last.same }

attribute_names_are : (d : ℕ) (home : ℕ) (readonly : Bool) (f : Form) (b out : Body) (xs : List Identifier) → BodyIs b
    → FormOf b f → attribute_names_on d home readonly f b xs ≡ Ok out → Goes b out
attribute_names_are d home readonly f b out [] is form h = subst (Goes b) (ok_same b out h) (record { is = is; same = same_as b })
attribute_names_are d home readonly f b out (x ∷ xs) is form h =
    let a = then_ok (attribute_on d home readonly f b x.name) _ out h in
    let one = attribute_is d home readonly f b a.given x.name is form a.first in
    let more = attribute_names_are d home readonly f a.given out xs one.is (form_same b a.given f one.same form) a.rest in
    record { is = more.is; same = same_then b a.given out one.same more.same }

pub attributes_are : (d : ℕ) (home : ℕ) (b out : Body) (t : Attribute) → BodyIs b
    → attributes_on d home b t ≡ Ok out → Goes b out
attributes_are d home b out t is h =
    let s = b.state in
    let a = then_ok (type_form s.names d t.of.0 t.of.1) _ out h in
    let form = form_is (shapes_of s) s.labels s.names d t.of.0 t.of.1 a.given is.state.scope a.first in
    attribute_names_are d home t.readonly a.given b out t.names is form a.rest
