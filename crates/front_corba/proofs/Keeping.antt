-- Every definition keeps what makes a unit sound, by induction on the depth of modules and the definitions.
use Rattle.std.proofs.Common.{◌≡◌, ℤ, ℕ, zero, suc, ◌+◌, ◌<◌, ◌≤◌, true, false, nat_le, nat_eq, List, [], ◌∷◌, ◌++◌, length, map, Option, Some, None, Bool, refl, sym, ap, subst, ◌∙◌, arith, if◌then◌else◌}
use Rattle.std.specs.Prelude.{Ok, slice_get}
use Rattle.std.specs.List.{list_all, list_any}
use Rattle.std.proofs.lemmas.Bool.{and_parts, leb-false}
use Rattle.std.proofs.lemmas.List.{length-append, length-map}
use Rattle.aoi.specs.declared.faults.NameFault.TheVariants.{Twice, Limit}
use Rattle.aoi.specs.Shapes.{Shape}
use Rattle.aoi.specs.Sound.{are_distinct}
use Rattle.idl_names.specs.Answers.{refused}
use Rattle.idl_names.specs.Names.{has}
use Rattle.idl_names.proofs.Parts.{then_ok, refused_ok, ok_same}
use Rattle.idl_names.proofs.Tables.{append_map}
use Rattle.idl_names.proofs.Different.{distinct_push}
use Rattle.corba_syntax.specs.declared.operation_tree.Reference.{Reference}
use Rattle.corba_syntax.specs.declared.interface_tree.Export.{Export}
use Rattle.corba_syntax.specs.declared.interface_tree.Export.TheVariants as E
use Rattle.corba_syntax.specs.declared.interface_tree.Interface.{Interface}
use Rattle.corba_syntax.specs.declared.definition_tree.Definition.{Definition, out-Definition}
use Rattle.corba_syntax.specs.declared.definition_tree.Definition.TheOpen.{Definition-F, Module-F}
use Rattle.corba_syntax.specs.declared.definition_tree.Definition.TheFolds.{fold-roll-Definition, fold-roll-Module}
use Rattle.corba_syntax.specs.declared.definition_tree.Definition.TheViews.{roll-Definition, roll-out-Definition, roll-out-Module}
use Rattle.corba_syntax.specs.declared.definition_tree.Module.{Module, out-Module}
use Rattle.corba_scopes.specs.declared.meanings.Meaning.TheVariants as M
use Rattle.corba_scopes.specs.Names.{Names, here, entered, left, clash, refused_by, declared_on}
use Rattle.corba_scopes.specs.Finding.{Entry, found, named, meaning, inheriting}
use Rattle.corba_shapes.specs.State.{State, counted}
use Rattle.corba_shapes.specs.Declarations.{declaration_on}
use Rattle.corba_shapes.proofs.Standing.{ScopeIs, declared_ok, declared_is}
use Rattle.corba_shapes.proofs.Keeping.{shapes_of, StateIs, counted_is, names_is, declaration_is, start_is}
use Rattle.front_corba.specs.State.{PlainOffer, Body, with_names, Heirs, no_bases, PlainOffering, File, at_names, start, next}
use Rattle.front_corba.specs.Bases.{base_clash, joined_on, interface_at, new_base, next_base, base_on, bases_on}
use Rattle.front_corba.specs.Interfaces.{export_on, exports_on, full_names, offering, seat_on, heritage_on, entered_on, seated_on, interface_on}
use Rattle.front_corba.specs.Resolved.{is_module, begun_on, Walk, walks_on, module_level, definition_level, walk, module_walk, definitions_on, is_whole_export, is_whole_level, is_whole_definition, is_whole_outermost}
use Rattle.front_corba.proofs.Growing.{Grows, declaration_grows}
use Rattle.front_corba.proofs.Offering.{SeatedAre, seated_grow, inherited_are, BodyIs, Goes, operation_is, attributes_are}

-- ---- bases

abbrev pub OfferingsAre : ℕ → List PlainOffering → Type 0
OfferingsAre limit [] = Unit {0}
OfferingsAre limit (i ∷ is) = SeatedAre limit i.ops × OfferingsAre limit is

offerings_grow : (low high : ℕ) (is : List PlainOffering) → low ≤ high → OfferingsAre low is → OfferingsAre high is
offerings_grow low high [] le h = tt
offerings_grow low high (i ∷ is) le h = (seated_grow low high i.ops le h.0, offerings_grow low high is le h.1)

offerings_push : (limit : ℕ) (is : List PlainOffering) (i : PlainOffering) → OfferingsAre limit is → SeatedAre limit i.ops
    → OfferingsAre limit (is ++ i ∷ [])
offerings_push limit [] i h one = (one, tt)
offerings_push limit (j ∷ is) i h one = (h.0, offerings_push limit is i h.1 one)

abbrev IfOffering : ℕ → Option PlainOffering → Type 0
IfOffering limit None = Unit {0}
IfOffering limit (Some i) = SeatedAre limit i.ops

offering_there : (limit : ℕ) (is : List PlainOffering) (k : ℕ) → OfferingsAre limit is → IfOffering limit (slice_get is k)
offering_there limit [] k h = tt
offering_there limit (i ∷ is) zero h = h.0
offering_there limit (i ∷ is) (suc k) h = offering_there limit is k h.1

joined_is : (limit d : ℕ) (ops out : List PlainOffer) (i : Option PlainOffering) → SeatedAre limit ops → IfOffering limit i
    → joined_on d ops i ≡ Ok out → SeatedAre limit out
joined_is limit d ops out None are is h = subst (SeatedAre limit) (ok_same ops out h) are
joined_is limit d ops out (Some i) are is h =
    let a = then_ok (refused_by d (base_clash ops i.ops)) _ out h in
    inherited_are limit (length i.ops) d ops out i.ops are is.ops a.rest

-- names keep what they stand for where one more base is put into the line of an interface
inheriting_is : (types : List Shape) (labels : List (ℕ × ℤ)) (name : List ℕ) (e : Option Entry) (s : Names) → ScopeIs types labels s
    → ScopeIs types labels (inheriting name e s)
inheriting_is types labels name None s is = is
inheriting_is types labels name (Some e) s is = is

-- what an interface has of its bases is sound
record HeirsAre (types : List Shape) (labels : List (ℕ × ℤ)) (b : Heirs) : Type 0 where
  scope : ScopeIs types labels b.names
  ops : SeatedAre (length types) b.ops

module _ (types : List Shape) (labels : List (ℕ × ℤ)) (d : ℕ) (name : List ℕ) (is : List PlainOffering)
    (all : OfferingsAre (length types) is) where
  base_by : (there : Bool) (b out : Heirs) (r : Reference) (k : ℕ) → HeirsAre types labels b
      → (if there then Ok b else new_base d name is b r k) ≡ Ok out → HeirsAre types labels out
  base_by true b out r k are h = subst (HeirsAre types labels) (ok_same b out h) are
  base_by false b out r k are h =
      let a = then_ok (joined_on d b.ops (slice_get is k)) _ out h in
      let one = joined_is (length types) d b.ops a.given (slice_get is k) are.ops (offering_there (length types) is k all) a.first in
      let names : Names = inheriting name (named b.names r.name) b.names in
      let made : Heirs = record { names = names; numbers = b.numbers ++ k ∷ []; ops = a.given } in
      subst (HeirsAre types labels) (ok_same made out a.rest)
      (record { scope = inheriting_is types labels name (named b.names r.name) b.names are.scope; ops = one })

  bases_are : (b out : Heirs) (list : List Reference) → HeirsAre types labels b → bases_on d name is b list ≡ Ok out
      → HeirsAre types labels out
  bases_are b out [] are h = subst (HeirsAre types labels) (ok_same b out h) are
  bases_are b out (r ∷ list) are h =
      let a = then_ok (base_on d name is b r) _ out h in
      let c = then_ok (interface_at d (meaning (named b.names r.name))) (next_base d name is b r) a.given a.first in
      bases_are a.given out list (base_by (list_any (nat_eq c.given) b.numbers) b a.given r c.given are c.rest) a.rest

-- ---- interfaces

-- more types than before are more plain trees
more_shapes : (s t : State) → Grows s t → length (shapes_of s) ≤ length (shapes_of t)
more_shapes s t le =
    let a = length-map s.types (λ t. t.1) in
    let b = length-map t.types (λ t. t.1) in
    omega (arith, a, b, le)

-- an interface after more of what it declares
record Grown (b out : Body) : Type 0 where
  is : BodyIs out
  grows : Grows b.state out.state

goes_grown : (b out : Body) → Goes b out → Grown b out
goes_grown b out h =
    let same : length out.state.types ≡ length b.state.types = ap length h.same.types in
    record { is = h.is; grows = omega (arith, same) }

export_is : (d : ℕ) (home : ℕ) (b out : Body) (x : Export) → BodyIs b → is_whole_export x ≡ true
    → export_on d home b x ≡ Ok out → Grown b out
export_is d home b out (E.Declaration x) is whole h =
    let a = then_ok (declaration_on d b.state x) _ out h in
    let grows = declaration_grows d b.state a.given x a.first in
    let more = more_shapes b.state a.given grows in
    let made : Body = record b { state = a.given } in
    subst (Grown b) (ok_same made out a.rest) (record {
      is = record {
        state = declaration_is d b.state a.given x is.state whole a.first;
        ops = seated_grow (length (shapes_of b.state)) (length (shapes_of a.given)) b.ops more is.ops;
      };
      grows = grows;
    })
export_is d home b out (E.Attribute t) is whole h = goes_grown b out (attributes_are d home b out t is h)
export_is d home b out (E.Operation o) is whole h = goes_grown b out (operation_is d home b out o is h)

exports_are : (home : ℕ) (b out : Body) (list : List Export) → BodyIs b → list_all is_whole_export list ≡ true
    → exports_on home b list ≡ Ok out → Grown b out
exports_are home b out [] is whole h = subst (Grown b) (ok_same b out h) (record { is = is; grows = omega arith })
exports_are home b out (x ∷ list) is whole h =
    let parts = and_parts (is_whole_export x) (list_all is_whole_export list) whole in
    let mid : Body = record b { state = counted b.state } in
    let a = then_ok (export_on (b.state.count + 1) home mid x) _ out h in
    let one = export_is (b.state.count + 1) home mid a.given x (record { state = counted_is b.state is.state; ops = is.ops }) parts.0
    a.first in
    let more = exports_are home a.given out list one.is parts.1 a.rest in
    let first = one.grows in
    let next = more.grows in
    record { is = more.is; grows = omega (arith, first, next) }

-- ---- files

pub record FileIs (s : File) : Type 0 where
  pub state : StateIs s.state
  pub offerings : OfferingsAre (length (shapes_of s.state)) s.interfaces
  pub few : length s.interfaces ≤ 64
  pub apart : are_distinct (full_names s.interfaces) ≡ true

pub start_file : FileIs start
start_file = record { state = start_is; offerings = tt; few = omega arith; apart = refl }

next_is : (s : File) → FileIs s → FileIs (next s)
next_is s is = record { state = counted_is s.state is.state; offerings = is.offerings; few = is.few; apart = is.apart }

named_file : (s : File) (names : Names) → FileIs s → ScopeIs (shapes_of s.state) s.state.labels names → FileIs (at_names names s)
named_file s names is scope =
    record { state = names_is s.state names is.state scope; offerings = is.offerings; few = is.few; apart = is.apart }

-- where an interface has a seat, the others have other names, and there is room
record SeatIs (s : Names) (interfaces : List PlainOffering) (name : List ℕ) (seat : ℕ × List ℕ) : Type 0 where
  is : seat ≡ (length interfaces, here s ++ name)
  new : has (here s ++ name) (full_names interfaces) ≡ false
  room : length interfaces < 64

seat_is : (d : ℕ) (s : Names) (interfaces : List PlainOffering) (name : List ℕ) (seat : ℕ × List ℕ)
    → seat_on d s interfaces name ≡ Ok seat → SeatIs s interfaces name seat
seat_is d s interfaces name seat h =
    let full = here s ++ name in
    let pair : ℕ × List ℕ = (length interfaces, full) in
    let a = then_ok (refused_by d (clash s name)) _ seat h in
    let b = then_ok (refused Twice d (has full (full_names interfaces))) _ seat a.rest in
    let c = then_ok (refused Limit d (nat_le 64 (length interfaces))) _ seat b.rest in
    record {
      is = sym (ok_same pair seat c.rest);
      new = refused_ok Twice d _ b.given b.first;
      room = leb-false 64 (length interfaces) (refused_ok Limit d _ c.given c.first);
    }

entered_is : (d home : ℕ) (b out : Body) (i : Interface) → BodyIs b → list_all is_whole_export i.exports ≡ true
    → entered_on d home b i ≡ Ok out → Grown b out
entered_is d home b out i is whole h =
    let name = i.name.name in
    let types = shapes_of b.state in
    let f = then_ok (declared_on d b.state.names name (M.Interface home)) _ out h in
    let one = declared_ok d b.state.names name (M.Interface home) f.given f.first in
    let scope = declared_is types b.state.labels b.state.names name (M.Interface home) f.given is.state.scope tt one in
    let inner : Names = entered name f.given in
    let mid = with_names inner b in
    let g = then_ok (exports_on home mid i.exports) _ out f.rest in
    let grown = exports_are home mid g.given i.exports (record { state = names_is b.state inner is.state scope; ops = is.ops }) whole
    g.first in
    let made = with_names (left g.given.state.names) g.given in
    subst (Grown b) (ok_same made out g.rest) (record {
      is = record {
        state = names_is g.given.state (left g.given.state.names) grown.is.state grown.is.state.scope;
        ops = grown.is.ops;
      };
      grows = grown.grows;
    })

interface_is : (d : ℕ) (s out : File) (i : Interface) → FileIs s → list_all is_whole_export i.exports ≡ true
    → interface_on d s i ≡ Ok out → FileIs out
interface_is d s out i is whole h =
    let full = here s.state.names ++ i.name.name in
    let types = shapes_of s.state in
    let none = no_bases s.state.names in
    let empty : SeatedAre (length types) [] = record { ops = tt; few = omega arith } in
    let a = then_ok (seat_on d s.state.names s.interfaces i.name.name) (seated_on d s i) out h in
    let seat = seat_is d s.state.names s.interfaces i.name.name a.given a.first in
    let b = then_ok (heritage_on d s i) _ out a.rest in
    let heirs = bases_are types s.state.labels d i.name.name s.interfaces is.offerings none b.given i.bases
    (record { scope = is.state.scope; ops = empty }) b.first in
    let begun : Body = record { state = record s.state { names = b.given.names }; ops = b.given.ops } in
    let c = then_ok (entered_on d a.given.0 begun i) _ out b.rest in
    let grown = entered_is d a.given.0 begun c.given i
    (record { state = names_is s.state b.given.names is.state heirs.scope; ops = heirs.ops }) whole c.first in
    let more = more_shapes s.state c.given.state grown.grows in
    let last = offering a.given.1 c.given.ops in
    let made : File = record { state = c.given.state; interfaces = s.interfaces ++ last ∷ [] } in
    let count = length-append s.interfaces (last ∷ []) in
    let room = seat.room in
    let named : a.given.1 ≡ full = ap (λ (z : ℕ × List ℕ). z.1) seat.is in
    let names : full_names (s.interfaces ++ last ∷ []) ≡ full_names s.interfaces ++ full ∷ [] =
    append_map (λ (i : PlainOffering). i.name) s.interfaces last ∙ ap (λ z. full_names s.interfaces ++ z ∷ []) named in
    subst FileIs (ok_same made out c.rest) (record {
      state = grown.is.state;
      offerings = offerings_push (length (shapes_of c.given.state)) s.interfaces last
          (offerings_grow (length types) (length (shapes_of c.given.state)) s.interfaces more is.offerings) grown.is.ops;
      few = omega (arith, count, room);
      apart = ap are_distinct names ∙ distinct_push (full_names s.interfaces) full is.apart seat.new;
    })

-- ---- definitions

begun_by : (b : Bool) (types : List Shape) (labels : List (ℕ × ℤ)) (d : ℕ) (s out : Names) (name : List ℕ) → ScopeIs types labels s
    → (if b then Ok s else declared_on d s name M.Module) ≡ Ok out → ScopeIs types labels out
begun_by true types labels d s out name is h = subst (ScopeIs types labels) (ok_same s out h) is
begun_by false types labels d s out name is h =
    declared_is types labels s name M.Module out is tt (declared_ok d s name M.Module out h)

-- what a walk keeps
abbrev Keeps : Walk → Type 0
Keeps w = (s out : File) → FileIs s → w s ≡ Ok out → FileIs out

abbrev AllKeep : List Walk → Type 0
AllKeep [] = Unit {0}
AllKeep (w ∷ ws) = Keeps w × AllKeep ws

walks_keep : (ws : List Walk) → AllKeep ws → Keeps (walks_on ws)
walks_keep [] keep s out is h = subst FileIs (ok_same s out h) is
walks_keep (w ∷ ws) keep s out is h =
    let a = then_ok (w (next s)) _ out h in
    walks_keep ws keep.1 a.given out (keep.0 (next s) a.given (next_is s is) a.first) a.rest

all_keep : (f : Definition → Bool) (list : List Definition) → ((d : Definition) → f d ≡ true → Keeps (walk d)) → list_all f list ≡ true
    → AllKeep (map walk list)
all_keep f [] one whole = tt
all_keep f (d ∷ list) one whole = let parts = and_parts (f d) (list_all f list) whole in (one d parts.0, all_keep f list one parts.1)

module_keeps : (m : Module-F Walk Walk) → AllKeep m.definitions → Keeps (module_level m)
module_keeps m keep s out is h =
    let old = s.state.names in
    let name = m.name.name in
    let a = then_ok (begun_on s.state.count old name) _ out h in
    let scope = begun_by (is_module (meaning (found old (here old) name))) (shapes_of s.state) s.state.labels s.state.count old a.given
    name is.state.scope a.first in
    let mid = at_names (entered name a.given) s in
    let b = then_ok (walks_on m.definitions mid) _ out a.rest in
    let inner = walks_keep m.definitions keep mid b.given (named_file s (entered name a.given) is scope) b.first in
    let names = left b.given.state.names in
    subst FileIs (ok_same (at_names names b.given) out b.rest) (named_file b.given names inner inner.state.scope)

-- the walk of a module, by what stands in it
module_walks : (m : Module)
    → module_walk m ≡ module_level (record { name = (out-Module m).name; definitions = map walk (out-Module m).definitions })
module_walks m = ap module_walk (sym (roll-out-Module m)) ∙ fold-roll-Module Walk Walk definition_level module_level (out-Module m)

declaration_keeps : (s out t : File) → FileIs s → Grows s.state t.state → StateIs t.state
    → t.interfaces ≡ s.interfaces → FileIs t
declaration_keeps s out t is grows state same = record {
  state = state;
  offerings = subst (OfferingsAre (length (shapes_of t.state))) (sym same)
      (offerings_grow (length (shapes_of s.state)) (length (shapes_of t.state)) s.interfaces (more_shapes s.state t.state grows)
      is.offerings);
  few = subst (λ z. length z ≤ 64) (sym same) is.few;
  apart = ap (λ z. are_distinct (full_names z)) same ∙ is.apart;
}

module _ (n : ℕ) (inner : (d : Definition) → is_whole_definition n d ≡ true → Keeps (walk d)) where
  level_keeps : (f : Definition-F Definition Module) → is_whole_level (is_whole_definition n) f ≡ true → Keeps (walk (roll-Definition f))
  level_keeps (Definition-F.Module m) whole s out is h =
      let steps = ap (λ (w : Walk). w s)
      (sym (fold-roll-Definition Walk Walk definition_level module_level (Definition-F.Module m) ∙ module_walks m)) in
      let made : Module-F Walk Walk = record { name = (out-Module m).name; definitions = map walk (out-Module m).definitions } in
      module_keeps made (all_keep (is_whole_definition n) (out-Module m).definitions inner whole) s out is (steps ∙ h)
  level_keeps (Definition-F.Interface i) whole s out is h =
      let step = ap (λ (w : Walk). w s)
      (sym (fold-roll-Definition Walk Walk definition_level module_level (Definition-F.Interface i))) in
      interface_is s.state.count s out i is whole (step ∙ h)
  level_keeps (Definition-F.Declaration x) whole s out is h =
      let step = ap (λ (w : Walk). w s)
      (sym (fold-roll-Definition Walk Walk definition_level module_level (Definition-F.Declaration x))) in
      let a = then_ok (declaration_on s.state.count s.state x) _ out (step ∙ h) in
      let made : File = record s { state = a.given } in
      let grows = declaration_grows s.state.count s.state a.given x a.first in
      subst FileIs (ok_same made out a.rest)
      (declaration_keeps s out made is grows (declaration_is s.state.count s.state a.given x is.state whole a.first) refl)

definition_keeps : (n : ℕ) (d : Definition) → is_whole_definition n d ≡ true → Keeps (walk d)
definition_keeps zero d whole = absurd cc
definition_keeps (suc n) d whole = subst (λ z. Keeps (walk z)) (roll-out-Definition d)
    (level_keeps n (definition_keeps n) (out-Definition d) whole)

outermost_keeps : (d : Definition) → is_whole_outermost d ≡ true → Keeps (walk d)
unfolding is_whole_outermost
outermost_keeps d whole = definition_keeps 32 d whole

-- definitions keep what makes a unit sound
pub definitions_keep : (tree : List Definition) → list_all is_whole_outermost tree ≡ true → Keeps (definitions_on tree)
definitions_keep tree whole = walks_keep (map walk tree) (all_keep is_whole_outermost tree outermost_keeps whole)
