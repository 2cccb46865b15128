-- Interfaces are sound, by induction on the versions, the procedures of each and their parameters.
use Rattle.std.proofs.Common.{◌≡◌, ◌⊎◌, inl, inr, ℤ, ℕ, ◌+◌, ◌-◌, ◌^◌, ◌<◌, ◌≤◌, Bool, true, false, nat_le, nat_eq, List, [], ◌∷◌, ◌++◌, length, map, Option, Some, None, refl, sym, subst, ◌∙◌, arith, if◌then◌else◌}
use Rattle.std.specs.Prelude.{Ok}
use Rattle.std.specs.List.{list_any}
use Rattle.std.proofs.lemmas.Bool.{leb-false, lt-ltb}
use Rattle.std.proofs.lemmas.List.{length-append}
use Rattle.mint.specs.declared.kind.Count.TheVariants.{Any}
use Rattle.aoi.specs.declared.faults.NameFault.TheVariants.{Twice, Limit}
use Rattle.aoi.specs.Shapes.{Shape, void, number, text, no_more, members_of}
use Rattle.aoi.specs.Plain.{PlainInterface, PlainOperation}
use Rattle.onc_syntax.specs.declared.tree.ProcType.{ProcType}
use Rattle.onc_syntax.specs.declared.tree.ProcType.TheVariants as P
use Rattle.onc_syntax.specs.declared.tree.Procedure.{Procedure}
use Rattle.onc_syntax.specs.declared.tree.Version.{Version}
use Rattle.idl_names.specs.declared.uses.Use.{Use}
use Rattle.idl_names.specs.declared.uses.Use.TheVariants.{Number, Declared}
use Rattle.idl_names.specs.Answers.{Answer, refused}
use Rattle.idl_names.specs.Names.{has}
use Rattle.idl_names.specs.Uses.{shape_of_use}
use Rattle.idl_names.proofs.Standing.{UseIs}
use Rattle.front_onc.specs.Names.{Scope, type_use}
use Rattle.front_onc.specs.State.{State, counted}
use Rattle.front_onc.specs.Programs.{number_of, result_of, parameter, argument, parameters_on, is_void, parameters, Procedures, operation, procedure_on, procedures_on, operations, interface, are_twins, version_offered, version_on, versions_on}
use Rattle.idl_names.proofs.Parts.{then_ok, refused_ok, ok_same}
use Rattle.front_onc.proofs.Standing.{ScopeIs, type_use_is}
use Rattle.idl_names.proofs.Plainness.{are_plain, is_plain, members_grow, plain_grow, plain_push}

-- ---- the types of procedures: numbers, texts without a fixed length, and names of types below a limit

use_simple : (types : List Shape) (labels : List (ℕ × ℤ)) (u : Use) → UseIs types labels u
    → is_plain (length types) (shape_of_use u) ≡ true
use_simple types labels (Number k) h = refl
use_simple types labels (Declared k t) h = lt-ltb k (length types) h.0

-- a result is void or simple
abbrev pub ResultIs : ℕ → Shape → Type 0
ResultIs limit s = (s ≡ void) ⊎ (is_plain limit s ≡ true)

result_is : (types : List Shape) (labels : List (ℕ × ℤ)) (scope : Scope) (d : ℕ) (t : ProcType) (s : Shape)
    → ScopeIs types labels scope → result_of scope d t ≡ Ok s
    → ResultIs (length types) s
result_is types labels scope d P.Void s is h = inl (sym (ok_same void s h))
result_is types labels scope d P.Text s is h = inr (subst (λ z. is_plain (length types) z ≡ true) (ok_same (text Any) s h) refl)
result_is types labels scope d (P.Plain t) s is h =
    let a = then_ok (type_use scope d t) _ s h in
    inr (subst (λ z. is_plain (length types) z ≡ true) (ok_same (shape_of_use a.given) s a.rest)
    (use_simple types labels a.given (type_use_is types labels scope d t a.given is a.first)))

parameter_is : (types : List Shape) (labels : List (ℕ × ℤ)) (scope : Scope) (d : ℕ) (t : ProcType) (s : Shape)
    → ScopeIs types labels scope → parameter scope d t ≡ Ok s
    → is_plain (length types) s ≡ true
parameter_is types labels scope d P.Void s is h = absurd cc
parameter_is types labels scope d P.Text s is h = subst (λ z. is_plain (length types) z ≡ true) (ok_same (text Any) s h) refl
parameter_is types labels scope d (P.Plain t) s is h =
    let a = then_ok (type_use scope d t) _ s h in
    subst
    (λ z.
    is_plain (length types) z ≡ true) (ok_same (shape_of_use a.given) s a.rest)
    (use_simple types labels a.given (type_use_is types labels scope d t a.given is a.first))

abbrev Field : Type 0
Field = List ℕ × Shape

parameters_are : (types : List Shape) (labels : List (ℕ × ℤ)) (scope : Scope) (d : ℕ) (fields out : List Field) (list : List ProcType)
    → ScopeIs types labels scope → are_plain (length types) (members_of fields) ≡ true → parameters_on scope d fields list ≡ Ok out
    → are_plain (length types) (members_of out) ≡ true
parameters_are types labels scope d fields out [] is are h =
    subst (λ z. are_plain (length types) (members_of z) ≡ true) (ok_same fields out h) are
parameters_are types labels scope d fields out (p ∷ list) is are h =
    let a = then_ok (parameter scope d p) _ out h in
    parameters_are types labels scope d (fields ++ (argument (length fields + 1), a.given) ∷ []) out list is
    (plain_push (length types) fields (argument (length fields + 1), a.given) are
    (parameter_is types labels scope d p a.given is a.first)) a.rest

abbrev fields_given : List Field → Answer (List Field)
fields_given f = Ok f

by_void : (b : Bool) (limit : ℕ) (rest : Answer (List Field)) (out : List Field)
    → (rest ≡ fields_given out → are_plain limit (members_of out) ≡ true) → (if b then fields_given [] else rest) ≡ fields_given out
    → are_plain limit (members_of out) ≡ true
by_void true limit rest out f h = subst (λ z. are_plain limit (members_of z) ≡ true) (ok_same [] out h) refl
by_void false limit rest out f h = f h

ins_are : (types : List Shape) (labels : List (ℕ × ℤ)) (scope : Scope) (d : ℕ) (out : List Field) (list : List ProcType)
    → ScopeIs types labels scope → parameters scope d list ≡ Ok out
    → are_plain (length types) (members_of out) ≡ true
ins_are types labels scope d out list is h = by_void (is_void list) (length types) (parameters_on scope d [] list) out
    (λ h. parameters_are types labels scope d [] out list is refl h) h

-- ---- operations

pub record OperationIs (limit slots : ℕ) (o : PlainOperation) : Type 0 where
  pub ins : are_plain limit o.ins ≡ true
  pub outs : o.outs ≡ no_more
  pub result : ResultIs limit o.result
  pub raises : o.raises ≡ []
  pub slot : o.slot < slots

abbrev pub OperationsAre : ℕ → ℕ → List PlainOperation → Type 0
OperationsAre limit slots [] = Unit {0}
OperationsAre limit slots (o ∷ os) = OperationIs limit slots o × OperationsAre limit slots os

result_grow : (low high : ℕ) (s : Shape) → low ≤ high → ResultIs low s → ResultIs high s
result_grow low high s le (inl h) = inl h
result_grow low high s le (inr h) = inr (plain_grow low high s le h)

operations_grow : (low high few many : ℕ) (os : List PlainOperation) → low ≤ high → few ≤ many → OperationsAre low few os
    → OperationsAre high many os
operations_grow low high few many [] le more h = tt
operations_grow low high few many (o ∷ os) le more h = (
  record {
    ins = members_grow low high o.ins le h.0.ins;
    outs = h.0.outs;
    result =
        result_grow low high o.result le h.0.result;
    raises = h.0.raises;
    slot = omega (arith, h.0.slot, more);
  },
  operations_grow low high few many os le more h.1,
)

operations_push : (limit slots : ℕ) (os : List PlainOperation) (o : PlainOperation) → OperationsAre limit slots os
    → OperationIs limit slots o
    → OperationsAre limit slots (os ++ o ∷ [])
operations_push limit slots [] o h is = (is, tt)
operations_push limit slots (p ∷ os) o h is = (h.0, operations_push limit slots os o h.1 is)

-- operations whose slots are their places, at most 256
pub record ProceduresAre (limit : ℕ) (os : List PlainOperation) : Type 0 where
  pub ops : OperationsAre limit (length os) os
  pub few : length os ≤ 256

procedure_added : (types : List Shape) (labels : List (ℕ × ℤ)) (scope : Scope) (d : ℕ) (ps out : Procedures) (p : Procedure)
    → ScopeIs types labels scope → ProceduresAre (length types) ps.ops → procedure_on scope d ps p ≡ Ok out
    → ProceduresAre (length types) out.ops
procedure_added types labels scope d ps out p is are h =
    let a = then_ok (result_of scope d p.result) _ out h in
    let b = then_ok (refused Twice d (has p.name ps.names)) _ out a.rest in
    let c = then_ok (refused Limit d (nat_le 256 (length ps.ops))) _ out b.rest in
    let e = then_ok (parameters scope d p.parameters) _ out c.rest in
    let f = then_ok (number_of scope d p.number) _ out e.rest in
    let g = then_ok (refused Twice d (list_any (nat_eq f.given) ps.numbers)) _ out f.rest in
    let room = leb-false 256 (length ps.ops) (refused_ok Limit d _ c.given c.first) in
    let o = operation (length ps.ops) p.name f.given e.given a.given in
    let made : Procedures = record { names = ps.names ++ p.name ∷ []; numbers = ps.numbers ++ f.given ∷ []; ops = ps.ops ++ o ∷ [] } in
    let count = length-append ps.ops (o ∷ []) in
    let same : length types ≤ length types = omega arith in
    let more : length ps.ops ≤ length (ps.ops ++ o ∷ []) = omega (arith, count) in
    let one : OperationIs (length types) (length (ps.ops ++ o ∷ [])) o = record {
      ins = ins_are types labels scope d e.given p.parameters is e.first;
      outs = refl;
      result = result_is types labels scope d p.result a.given is a.first;
      raises = refl;
      slot = omega (arith, count);
    } in
    let whole : ProceduresAre (length types) (ps.ops ++ o ∷ []) = record {
      ops =
          operations_push (length types) _ ps.ops o
          (operations_grow (length types) (length types) (length ps.ops) _ ps.ops same more are.ops) one;
      few = omega (arith, count, room);
    } in
    subst (λ (z : Procedures). ProceduresAre (length types) z.ops) (ok_same made out g.rest) whole

-- ---- versions

-- a state that differs in counts alone
pub record Same (s t : State) : Type 0 where
  pub scope : t.scope ≡ s.scope
  pub labels : t.labels ≡ s.labels
  pub types : t.types ≡ s.types
  pub interfaces : t.interfaces ≡ s.interfaces
  pub versions : t.versions ≡ s.versions

abbrev pub shapes_of : State → List Shape
shapes_of s = map (λ t. t.1) s.types

procedures_are : (s0 s : State) (ps : Procedures) (list : List Procedure) (r : State × Procedures)
    → ScopeIs (shapes_of s0) s0.labels s0.scope → Same s0 s → ProceduresAre (length (shapes_of s0)) ps.ops → procedures_on s ps list ≡ Ok r
    → Same s0 r.0 × ProceduresAre (length (shapes_of s0)) r.1.ops
procedures_are s0 s ps [] r is same are h =
    let here : State × Procedures = (s, ps) in
    subst (λ (r : State × Procedures). Same s0 r.0 × ProceduresAre (length (shapes_of s0)) r.1.ops) (ok_same here r h) (same, are)
procedures_are s0 s ps (p ∷ list) r is same are h =
    let a = then_ok (procedure_on s.scope (s.count + 1) ps p) _ r h in
    let scope = subst (ScopeIs (shapes_of s0) s0.labels) (sym same.scope) is in
    let next : Same s0 (counted s) =
    record { scope = same.scope; labels = same.labels; types = same.types; interfaces = same.interfaces; versions = same.versions } in
    procedures_are s0 (counted s) a.given list r is next
    (procedure_added (shapes_of s0) s0.labels s.scope (s.count + 1) ps a.given p scope are a.first) a.rest

operations_are : (s : State) (list : List Procedure) (r : State × List PlainOperation)
    → ScopeIs (shapes_of s) s.labels s.scope → operations s list ≡ Ok r
    → Same s r.0 × ProceduresAre (length (shapes_of s)) r.1
operations_are s list r is h =
    let none : Procedures = record { names = []; numbers = []; ops = [] } in
    let a = then_ok (procedures_on s none list) _ r h in
    let self : Same s s = record { scope = refl; labels = refl; types = refl; interfaces = refl; versions = refl } in
    let empty : ProceduresAre (length (shapes_of s)) [] = record { ops = tt; few = omega arith } in
    let are = procedures_are s s none list a.given is self empty a.first in
    let made : State × List PlainOperation = (a.given.0, a.given.1.ops) in
    subst (λ (r : State × List PlainOperation). Same s r.0 × ProceduresAre (length (shapes_of s)) r.1) (ok_same made r a.rest) are

pub record InterfaceIs (limit : ℕ) (i : PlainInterface) : Type 0 where
  pub ids : i.base + i.slots + 100 ≤ 2 ^ 31 - 1
  pub ops : OperationsAre limit i.slots i.ops

abbrev pub InterfacesAre : ℕ → List PlainInterface → Type 0
InterfacesAre limit [] = Unit {0}
InterfacesAre limit (i ∷ is) = InterfaceIs limit i × InterfacesAre limit is

pub interfaces_grow : (low high : ℕ) (is : List PlainInterface) → low ≤ high → InterfacesAre low is → InterfacesAre high is
interfaces_grow low high [] le h = tt
interfaces_grow low high (i ∷ is) le h = (
  record { ids = h.0.ids; ops = operations_grow low high i.slots i.slots i.ops le (omega arith) h.0.ops },
  interfaces_grow low high is le h.1,
)

interfaces_push : (limit : ℕ) (is : List PlainInterface) (i : PlainInterface) → InterfacesAre limit is → InterfaceIs limit i
    → InterfacesAre limit (is ++ i ∷ [])
interfaces_push limit [] i h one = (one, tt)
interfaces_push limit (j ∷ is) i h one = (h.0, interfaces_push limit is i h.1 one)

-- what versions make of a state
pub record Offers (s t : State) : Type 0 where
  pub scope : t.scope ≡ s.scope
  pub labels : t.labels ≡ s.labels
  pub types : t.types ≡ s.types
  pub interfaces : InterfacesAre (length (shapes_of s)) t.interfaces

version_out : (d : ℕ) (program : List ℕ) (number : Option ℕ) (name : List ℕ) (version : ℕ) (ops : List PlainOperation) (s t out : State)
    → Same s t → t.versions < 64 → InterfacesAre (length (shapes_of s)) s.interfaces
    → ProceduresAre (length (shapes_of s)) ops → version_offered d program number name version ops t ≡ Ok out
    → Offers s out
version_out d program None name version ops s t out same room are ps h =
    let next : State = record t { versions = t.versions + 1 } in
    subst (Offers s) (ok_same next out h)
    (record {
      scope = same.scope;
      labels = same.labels;
      types = same.types;
      interfaces =
          subst (InterfacesAre (length (shapes_of s))) (sym same.interfaces) are;
    })
version_out d program (Some n) name version ops s t out same room are ps h =
    let i = interface t.versions program n name version ops in
    let a = then_ok (refused Twice d (list_any (λ j. are_twins j i) t.interfaces)) _ out h in
    let one : InterfaceIs (length (shapes_of s)) i = record { ids = omega (arith, room, ps.few); ops = ps.ops } in
    let next : State = record t { interfaces = t.interfaces ++ i ∷ []; versions = t.versions + 1 } in
    subst (Offers s) (ok_same next out a.rest) (record {
      scope = same.scope;
      labels = same.labels;
      types = same.types;
      interfaces =
          interfaces_push (length (shapes_of s)) t.interfaces i (subst (InterfacesAre (length (shapes_of s))) (sym same.interfaces) are)
          one;
    })

version_is : (d : ℕ) (program : List ℕ) (given_ : Option ℕ) (names : List (List ℕ)) (s out : State) (v : Version)
    → ScopeIs (shapes_of s) s.labels s.scope → InterfacesAre (length (shapes_of s)) s.interfaces
    → version_on d program given_ names s v ≡ Ok out
    → Offers s out
version_is d program given_ names s out v is are h =
    let a = then_ok (refused Twice d (has v.name names)) _ out h in
    let b = then_ok (refused Limit d (nat_le 64 s.versions)) _ out a.rest in
    let c = then_ok (operations s v.procedures) _ out b.rest in
    let e = then_ok (number_of c.given.0.scope d v.number) _ out c.rest in
    let room = leb-false 64 s.versions (refused_ok Limit d _ b.given b.first) in
    let ops = operations_are s v.procedures c.given is c.first in
    let seats : c.given.0.versions < 64 = subst (λ z. z < 64) (sym ops.0.versions) room in
    version_out d program given_ v.name e.given c.given.1 s c.given.0 out ops.0 seats are ops.1 e.rest

pub versions_are : (program : List ℕ) (given_ : Option ℕ) (names : List (List ℕ)) (s0 s out : State) (list : List Version)
    → ScopeIs (shapes_of s0) s0.labels s0.scope → Offers s0 s → versions_on program given_ names s list ≡ Ok out
    → Offers s0 out
versions_are program given_ names s0 s out [] is offers h = subst (Offers s0) (ok_same s out h) offers
versions_are program given_ names s0 s out (v ∷ list) is offers h =
    let a = then_ok (version_on (s.count + 1) program given_ names (counted s) v) _ out h in
    let scope : ScopeIs (shapes_of s0) s0.labels s.scope = subst (ScopeIs (shapes_of s0) s0.labels) (sym offers.scope) is in
    let scope' : ScopeIs (shapes_of s) s.labels s.scope = rw (offers.labels, offers.types) scope in
    let are : InterfacesAre (length (shapes_of s)) s.interfaces = rw offers.types offers.interfaces in
    let one = version_is (s.count + 1) program given_ names (counted s) a.given v scope' are a.first in
    let next : Offers s0 a.given =
    record {
      scope = one.scope ∙ offers.scope;
      labels = one.labels ∙ offers.labels;
      types = one.types ∙ offers.types;
      interfaces =
          subst
          (λ (z : List (List ℕ × Shape)). InterfacesAre (length (map (λ t. t.1) z)) a.given.interfaces) offers.types one.interfaces;
    } in
    versions_are program given_ (names ++ v.name ∷ []) s0 a.given out list is next a.rest
