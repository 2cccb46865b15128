-- Every statement keeps what makes a unit sound, by induction on the statements.
use Rattle.std.proofs.Common.{◌≡◌, ℕ, ◌+◌, ◌<◌, ◌≤◌, Bool, true, false, not, ◌&&◌, nat_le, List, [], ◌∷◌, ◌++◌, length, map, refl, sym, ap, subst, ◌∙◌, arith}
use Rattle.std.specs.Prelude.{Ok}
use Rattle.std.proofs.lemmas.Bool.{and_from, and_parts, lt-ltb, ltb-true, not-false}
use Rattle.std.proofs.lemmas.List.{length-append, length-map}
use Rattle.aoi.specs.declared.faults.NameFault.TheVariants.{Twice, Range, Limit, Oneway, Port}
use Rattle.aoi.specs.Shapes.{Shape, void, number, enumeration, text, array, structure, choice, optional, named, Members, no_more, member, members_of}
use Rattle.aoi.specs.Sound.{are_sound}
use Rattle.aoi.specs.Plain.{PlainOperation}
use Rattle.mig_syntax.specs.declared.tree.Parameter.{Parameter}
use Rattle.mig_syntax.specs.declared.tree.Routine.{Routine}
use Rattle.mig_syntax.specs.declared.tree.TypeForm.{TypeForm}
use Rattle.mig_syntax.specs.declared.tree.Statement.{Statement}
use Rattle.mig_syntax.specs.declared.tree.Statement.TheVariants as V
use Rattle.idl_names.specs.declared.uses.Tag.{Tag}
use Rattle.idl_names.specs.declared.uses.Tag.TheVariants as tag
use Rattle.idl_names.specs.declared.uses.Use.{Use}
use Rattle.idl_names.specs.declared.uses.Use.TheVariants.{Declared}
use Rattle.front_mig.specs.declared.meaning.Meaning.TheVariants as M
use Rattle.front_mig.specs.declared.meaning.Form.{Form}
use Rattle.front_mig.specs.declared.meaning.Form.TheVariants as F
use Rattle.idl_names.specs.Answers.{refused}
use Rattle.idl_names.specs.Names.{has, is_declared}
use Rattle.idl_names.specs.Uses.{shape_of_use, tag_of_use}
use Rattle.front_mig.specs.Numbers.{ids_fit}
use Rattle.front_mig.specs.Types.{Scope, type_of, data_in, form}
use Rattle.front_mig.specs.State.{State, with_type, with_form, type_on, skip_on}
use Rattle.front_mig.specs.Routines.{Fields, Parameters, goes_in, comes_out, is_requestport, is_port, port_on, with_field, parameter_on, parameters_on, parameters, operation, with_routine, routine_on}
use Rattle.front_mig.specs.Resolved.{stated, stated_on}
use Rattle.idl_names.proofs.Parts.{then_ok, refused_ok, ok_same}
use Rattle.idl_names.proofs.Tables.{append_map}
use Rattle.front_mig.proofs.Standing.{is_datum, datum_sound, is_simple, AreSimple, simple_push, DataIs, ScopeIs, scope_grow, scope_join, type_is, data_is, shape_datum, shape_simple, FormIs, form_is}

-- ---- parameters

abbrev pub are_data : ℕ → Members → Bool
are_data limit no_more = true
are_data limit (member n s ms) = is_datum limit s && are_data limit ms

pub members_sound : (types : List Shape) (limit : ℕ) (ms : Members) → are_data limit ms ≡ true → are_sound types limit ms ≡ true
members_sound types limit no_more h = refl
members_sound types limit (member n s ms) h =
    let parts = and_parts (is_datum limit s) (are_data limit ms) h in
    and_from _ _ (datum_sound types limit s parts.0) (members_sound types limit ms parts.1)

datum_grow : (low high : ℕ) (s : Shape) → low ≤ high → is_datum low s ≡ true → is_datum high s ≡ true
datum_grow low high void le h = absurd cc
datum_grow low high (number k) le h = refl
datum_grow low high (enumeration items) le h = absurd cc
datum_grow low high (text c) le h = absurd cc
datum_grow low high (array s c) le h = absurd cc
datum_grow low high (structure ms) le h = absurd cc
datum_grow low high (choice s arms) le h = absurd cc
datum_grow low high (optional s) le h = absurd cc
datum_grow low high (named k) le h = let lt = ltb-true k low h in lt-ltb k high (omega (arith, lt, le))

members_grow : (low high : ℕ) (ms : Members) → low ≤ high → are_data low ms ≡ true → are_data high ms ≡ true
members_grow low high no_more le h = refl
members_grow low high (member n s ms) le h =
    let parts = and_parts (is_datum low s) (are_data low ms) h in
    and_from _ _ (datum_grow low high s le parts.0) (members_grow low high ms le parts.1)

field_push : (limit : ℕ) (fields : Fields) (name : List ℕ) (s : Shape) → are_data limit (members_of fields) ≡ true
    → is_datum limit s ≡ true → are_data limit (members_of (fields ++ (name, s) ∷ [])) ≡ true
field_push limit [] name s a b = and_from _ _ b refl
field_push limit (g ∷ fields) name s a b =
    let parts = and_parts (is_datum limit g.1) (are_data limit (members_of fields)) a in
    and_from _ _ parts.0 (field_push limit fields name s parts.1 b)

field_is : (limit : ℕ) (b : Bool) (fields : Fields) (name : List ℕ) (x : Use) → are_data limit (members_of fields) ≡ true → DataIs limit x
    → are_data limit (members_of (with_field b name x fields)) ≡ true
field_is limit true fields name x are is = field_push limit fields name (shape_of_use x) are (shape_datum limit x is)
field_is limit false fields name x are is = are

pub record ParametersAre (limit : ℕ) (ps : Parameters) : Type 0 where
  pub ins : are_data limit (members_of ps.ins) ≡ true
  pub outs : are_data limit (members_of ps.outs) ≡ true

port_is : (limit : ℕ) (scope : Scope) (d : ℕ) (simple : Bool) (p : Parameter) (out : Parameters) → port_on scope d simple p ≡ Ok out
    → ParametersAre limit out
port_is limit scope d simple p out h =
    let a = then_ok (refused Oneway d (simple && comes_out p.direction)) _ out h in
    let b = then_ok (type_of scope d p.of) _ out a.rest in
    let c = then_ok (refused Port d (not (is_port b.given))) _ out b.rest in
    let made : Parameters = record { names = p.name ∷ []; ins = []; outs = [] } in
    subst (ParametersAre limit) (ok_same made out c.rest) (record { ins = refl; outs = refl })

parameter_is : (limit : ℕ) (scope : Scope) (d : ℕ) (simple : Bool) (ps : Parameters) (p : Parameter) (out : Parameters)
    → ScopeIs limit scope → ParametersAre limit ps → parameter_on scope d simple ps p ≡ Ok out → ParametersAre limit out
parameter_is limit scope d simple ps p out is are h =
    let a = then_ok (refused Oneway d (simple && comes_out p.direction)) _ out h in
    let b = then_ok (refused Port d (is_requestport p.direction)) _ out a.rest in
    let c = then_ok (refused Twice d (has p.name ps.names)) _ out b.rest in
    let m = then_ok (type_of scope d p.of) _ out c.rest in
    let x = then_ok (data_in d m.given) _ out m.rest in
    let one = data_is limit d m.given x.given (type_is limit scope d p.of m.given is m.first) x.first in
    let made : Parameters = record {
      names = ps.names ++ p.name ∷ [];
      ins = with_field (goes_in p.direction) p.name x.given ps.ins;
      outs = with_field (comes_out p.direction) p.name x.given ps.outs;
    } in
    subst (ParametersAre limit) (ok_same made out x.rest) (record {
      ins = field_is limit (goes_in p.direction) ps.ins p.name x.given are.ins one;
      outs = field_is limit (comes_out p.direction) ps.outs p.name x.given are.outs one;
    })

parameters_on_are : (limit : ℕ) (scope : Scope) (d : ℕ) (simple : Bool) (ps : Parameters) (list : List Parameter) (out : Parameters)
    → ScopeIs limit scope → ParametersAre limit ps → parameters_on scope d simple ps list ≡ Ok out → ParametersAre limit out
parameters_on_are limit scope d simple ps [] out is are h = subst (ParametersAre limit) (ok_same ps out h) are
parameters_on_are limit scope d simple ps (p ∷ list) out is are h =
    let a = then_ok (parameter_on scope d simple ps p) _ out h in
    parameters_on_are limit scope d simple a.given list out is (parameter_is limit scope d simple ps p a.given is are a.first) a.rest

abbrev FieldsAre : ℕ → Fields × Fields → Type 0
FieldsAre limit f = (are_data limit (members_of f.0) ≡ true) × (are_data limit (members_of f.1) ≡ true)

parameters_are : (limit : ℕ) (scope : Scope) (d : ℕ) (simple : Bool) (list : List Parameter) (out : Fields × Fields) → ScopeIs limit scope
    → parameters scope d simple list ≡ Ok out → FieldsAre limit out
parameters_are limit scope d simple [] out is h = absurd cc
parameters_are limit scope d simple (p ∷ rest) out is h =
    let a = then_ok (port_on scope d simple p) _ out h in
    let b = then_ok (parameters_on scope d simple a.given rest) _ out a.rest in
    let are = parameters_on_are limit scope d simple a.given rest b.given is (port_is limit scope d simple p a.given a.first) b.first in
    let made : Fields × Fields = (b.given.ins, b.given.outs) in
    subst (FieldsAre limit) (ok_same made out b.rest) (are.ins, are.outs)

-- ---- operations

pub record OperationIs (limit slots : ℕ) (o : PlainOperation) : Type 0 where
  pub ins : are_data limit o.ins ≡ true
  pub outs : are_data limit o.outs ≡ true
  pub result : o.result ≡ void
  pub raises : o.raises ≡ []
  pub slot : o.slot < slots

abbrev pub OperationsAre : ℕ → ℕ → List PlainOperation → Type 0
OperationsAre limit slots [] = Unit {0}
OperationsAre limit slots (o ∷ os) = OperationIs limit slots o × OperationsAre limit slots os

operations_grow : (low high few many : ℕ) (os : List PlainOperation) → low ≤ high → few ≤ many → OperationsAre low few os
    → OperationsAre high many os
operations_grow low high few many [] le more h = tt
operations_grow low high few many (o ∷ os) le more h = (
  record {
    ins = members_grow low high o.ins le h.0.ins;
    outs = members_grow low high o.outs le h.0.outs;
    result = h.0.result;
    raises =
        h.0.raises;
    slot = omega (arith, h.0.slot, more);
  },
  operations_grow low high few many os le more h.1,
)

operations_push : (limit slots : ℕ) (os : List PlainOperation) (o : PlainOperation) → OperationsAre limit slots os
    → OperationIs limit slots o → OperationsAre limit slots (os ++ o ∷ [])
operations_push limit slots [] o h is = (is, tt)
operations_push limit slots (p ∷ os) o h is = (h.0, operations_push limit slots os o h.1 is)

-- ---- states

abbrev pub shapes_of : State → List Shape
shapes_of s = map (λ t. t.1) s.types

-- what makes the unit of a state sound
pub record StateIs (base : ℕ) (s : State) : Type 0 where
  pub types : AreSimple 0 (shapes_of s)
  pub scope : ScopeIs (length s.types) s.scope
  pub ops : OperationsAre (length s.types) s.slots s.ops
  pub ids : ids_fit base s.slots ≡ true

type_added : (base : ℕ) (s : State) (name : List ℕ) (shape : Shape) (tag : Tag) → StateIs base s → is_simple (length s.types) shape ≡ true
    → StateIs base (with_type name shape tag s)
type_added base s name shape tag is simple =
    let n = length s.types in
    let m = length (s.types ++ (name, shape) ∷ []) in
    let view : List ℕ × Shape → Shape = λ t. t.1 in
    let count = length-append s.types ((name, shape) ∷ []) in
    let mapped : length (shapes_of s) ≡ n = length-map s.types view in
    let place : n ≡ 0 + length (shapes_of s) = omega (arith, mapped) in
    let more : n ≤ m = omega (arith, count) in
    let below : n < m = omega (arith, count) in
    let same : s.slots ≤ s.slots = omega arith in
    record {
      types = subst (AreSimple 0) (sym (append_map view s.types (name, shape))) (simple_push 0 n (shapes_of s) shape place is.types simple);
      scope = scope_join m s.scope ((name, M.Data (Declared n tag)) ∷ []) (scope_grow n m s.scope more is.scope) (below, tt);
      ops = operations_grow n m s.slots s.slots s.ops more same is.ops;
      ids = is.ids;
    }

form_added : (base : ℕ) (s : State) (name : List ℕ) (f : Form) → StateIs base s → FormIs (length s.types) f
    → StateIs base (with_form name f s)
form_added base s name F.Port is one =
    record {
      types = is.types;
      scope = scope_join (length s.types) s.scope ((name, M.Port) ∷ []) is.scope (tt, tt);
      ops = is.ops;
      ids =
          is.ids;
    }
form_added base s name (F.Data x) is one = type_added base s name (shape_of_use x) (tag_of_use x) is (shape_simple (length s.types) x one)
form_added base s name (F.Row x c) is one =
    type_added base s name (array (shape_of_use x) c) tag.Other is (and_from _ _ one.1 (shape_datum (length s.types) x one.0))

type_keeps : (base d : ℕ) (s out : State) (name : List ℕ) (t : TypeForm) → StateIs base s → type_on d s name t ≡ Ok out → StateIs base out
type_keeps base d s out name t is h =
    let a = then_ok (refused Twice d (is_declared name s.scope)) _ out h in
    let f = then_ok (form s.scope d t) _ out a.rest in
    subst (StateIs base) (ok_same (with_form name f.given s) out f.rest)
    (form_added base s name f.given is (form_is (length s.types) s.scope d t f.given is.scope f.first))

-- one message id more, and nothing else
pub record Skips (base : ℕ) (s t : State) : Type 0 where
  pub same : t ≡ record s { slots = s.slots + 1 }
  pub ids : ids_fit base (s.slots + 1) ≡ true

skip_is : (base d : ℕ) (s out : State) → skip_on d base s ≡ Ok out → Skips base s out
skip_is base d s out h =
    let a = then_ok (refused Range d (not (ids_fit base (s.slots + 1)))) _ out h in
    let next : State = record s { slots = s.slots + 1 } in
    record { same = sym (ok_same next out a.rest); ids = not-false _ (refused_ok Range d _ a.given a.first) }

skip_keeps : (base d : ℕ) (s out : State) → StateIs base s → skip_on d base s ≡ Ok out → StateIs base out
skip_keeps base d s out is h =
    let one = skip_is base d s out h in
    let whole : length s.types ≤ length s.types = omega arith in
    let more : s.slots ≤ s.slots + 1 = omega arith in
    let ops = operations_grow (length s.types) (length s.types) s.slots (s.slots + 1) s.ops whole more is.ops in
    let next : StateIs base (record s { slots = s.slots + 1 }) = record { types = is.types; scope = is.scope; ops = ops; ids = one.ids } in
    subst (StateIs base) (sym one.same) next

routine_keeps : (base d : ℕ) (s out : State) (r : Routine) → StateIs base s → routine_on d base s r ≡ Ok out → StateIs base out
routine_keeps base d s out r is h =
    let a = then_ok (refused Twice d (has r.name s.names)) _ out h in
    let b = then_ok (skip_on d base s) _ out a.rest in
    let c = then_ok (refused Limit d (nat_le 256 (length s.ops))) _ out b.rest in
    let f = then_ok (parameters s.scope d r.simple r.parameters) _ out c.rest in
    let one = skip_is base d s b.given b.first in
    let are = parameters_are (length s.types) s.scope d r.simple r.parameters f.given is.scope f.first in
    let o = operation (length s.ops) s.slots r.name r.simple f.given.0 f.given.1 in
    let next : State = record s { slots = s.slots + 1 } in
    let fits : OperationIs (length s.types) (s.slots + 1) o =
    record { ins = are.0; outs = are.1; result = refl; raises = refl; slot = omega arith } in
    let whole : length s.types ≤ length s.types = omega arith in
    let more : s.slots ≤ s.slots + 1 = omega arith in
    let ops =
    operations_push (length s.types) (s.slots + 1) s.ops o
    (operations_grow (length s.types) (length s.types) s.slots (s.slots + 1) s.ops whole more is.ops) fits in
    let made : StateIs base (with_routine r.name o next) = record { types = is.types; scope = is.scope; ops = ops; ids = one.ids } in
    subst (StateIs base) (ap (with_routine r.name o) (sym one.same) ∙ ok_same (with_routine r.name o b.given) out f.rest) made

statement_keeps : (base d : ℕ) (s out : State) (x : Statement) → StateIs base s → stated base d s x ≡ Ok out → StateIs base out
statement_keeps base d s out (V.Type name t) is h = type_keeps base d s out name t is h
statement_keeps base d s out (V.Routine r) is h = routine_keeps base d s out r is h
statement_keeps base d s out (V.Prefix side name) is h = subst (StateIs base) (ok_same s out h) is
statement_keeps base d s out (V.Import importer file) is h = subst (StateIs base) (ok_same s out h) is
statement_keeps base d s out V.Skip is h = skip_keeps base d s out is h

pub statements_keep : (base count : ℕ) (s out : State) (xs : List Statement) → StateIs base s → stated_on base count s xs ≡ Ok out
    → StateIs base out
statements_keep base count s out [] is h = subst (StateIs base) (ok_same s out h) is
statements_keep base count s out (x ∷ xs) is h =
    let a = then_ok (stated base (count + 1) s x) _ out h in
    statements_keep base (count + 1) a.given out xs (statement_keeps base (count + 1) s a.given x is a.first) a.rest
