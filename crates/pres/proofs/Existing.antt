-- Each sound unit that has no reason against it has a binding.
use Rattle.std.proofs.Common.{◌≡◌, Bool, true, false, ◌≤◌, ℕ, List, [], ◌++◌, length, length-append, nat_lt, if◌then◌else◌, Option, None, Some, refl, ap, ◌∙◌, subst, arith}
use Rattle.std.specs.List.{AllByRecursion, list_any}
use Rattle.std.proofs.lemmas.Bool.{ltb-false, or_parts}
use Rattle.std.proofs.lemmas.List.{length-map}
use Rattle.wire_def.specs.declared.encoding.Back.{Back}
use Rattle.aoi.specs.Shapes as aoi
use Rattle.aoi.specs.Plain.{PlainUnit, plain_shapes, IsSoundPlain}
use Rattle.pres.specs.declared.errors.BindErr.{BindErr}
use Rattle.pres.specs.declared.errors.BindErr.TheVariants as err
use Rattle.pres.specs.declared.ops.Op.{Op}
use Rattle.pres.specs.Bindings.{Binding}
use Rattle.pres.specs.Faces.{Face, faces, faces_from}
use Rattle.pres.specs.Faults.{has_long_in, is_deep, is_heavy, is_spread, is_wide, bind_fault}
use Rattle.pres.specs.Laws.{UnitsAreBound}
use Rattle.pres.specs.Made.{made_in_types, made_in_interfaces, all_made}
use Rattle.pres.specs.Offers.{faces_of, type_faces, offers}
use Rattle.pres.specs.Drafts.{Sketch, IsSketch, drawn, known, IsDrawableInterface, AreOffered}
use Rattle.pres.proofs.Building.{Fits, fits_first, draw_interfaces, draw_types}
use Rattle.pres.proofs.Drafting.{sketch}
use Rattle.pres.proofs.Faulty.{table_faces, bound}
use Rattle.pres.proofs.SoundUnit.{unit_drawable}
use Rattle.pres.proofs.Whole.{faces_count}

-- nothing is drawn yet
start : Sketch
start = sketch [] [] []

start_is : IsSketch start
unfolding start
start_is = record { table = λ k n is. cc; named = tt; few = omega arith; below = tt }

start_drawn : drawn start ≡ []
unfolding start drawn faces faces_from
start_drawn = refl

start_known : known start ≡ []
unfolding start known
start_known = refl

-- the nodes and operations of a unit
record IsDrawnUnit (u : PlainUnit) (b : Back) : Type 0 where
  new : Sketch
  ops : List Op
  is : IsSketch new
  nodes : drawn new ≡ all_made u b
  there : AreOffered new ops (offers u b)

draw_unit : (u : PlainUnit) (b : Back) → IsSoundPlain u → length (all_made u b) ≤ 65536 → IsDrawnUnit u b
unfolding all_made type_faces
draw_unit u b sound few =
    let d = unit_drawable u sound in
    let first : List Face = made_in_types [] (plain_shapes u) in
    let fs : List Face = faces_of [] (plain_shapes u) in
    let rest : List Face = made_in_interfaces fs b u.interfaces in
    let room : Fits start (first ++ rest) = omega (arith, few, ap length start_drawn) in
    let t = draw_types (plain_shapes u) [] start start_is start_known d.types (fits_first start first rest room) in
    let nodes : drawn t.new ≡ first = t.nodes ∙ ap (λ z. z ++ first) start_drawn in
    let count : length u.types ≡ length fs =
    omega (arith, faces_count [] (plain_shapes u), length-map u.types (λ (x : List ℕ × aoi.Shape). x.1)) in
    let drawable = subst (λ n. AllByRecursion (IsDrawableInterface n) u.interfaces) count d.interfaces in
    let fits : Fits t.new rest = omega (arith, few, length-append first rest, ap length nodes) in
    let e = draw_interfaces u.interfaces b 0 fs t.new t.is t.types drawable fits in
    record { new = e.new; ops = e.ops; is = e.is; nodes = e.grows.nodes ∙ ap (λ z. z ++ rest) nodes; there = e.there }

-- no reason, and so not too many nodes
not_many : (q : Bool) (x : Option BindErr) → (if q then Some err.Many else x) ≡ None → q ≡ false
not_many true x h = absurd cc
not_many false x h = refl

few_made : (u : PlainUnit) (b : Back) → bind_fault u b ≡ None → length (all_made u b) ≤ 65536
few_made u b h =
    omega (
      arith,
      ltb-false 65536 (length (all_made u b))
          (not_many (nat_lt 65536 (length (all_made u b))) _ h),
    )

-- no reason, and so no long name
not_wide : (q r s t : Bool)
    → (if q then Some err.Many else (if r then Some err.Deep else (if s then Some err.Heavy
    else (if t then Some err.Wide else None)))) ≡ None
    → t ≡ false
not_wide true r s t h = absurd cc
not_wide false true s t h = absurd cc
not_wide false false true t h = absurd cc
not_wide false false false true h = absurd cc
not_wide false false false false h = refl

short_made : (u : PlainUnit) (b : Back) → bind_fault u b ≡ None → list_any has_long_in u.interfaces ≡ false
short_made u b h =
    let narrow : is_wide u b ≡ false =
    not_wide (nat_lt 65536 (length (all_made u b))) (list_any is_deep (all_made u b))
    (list_any is_heavy (all_made u b)) (is_wide u b) h in
    (or_parts (list_any has_long_in u.interfaces) (is_spread (offers u b)) narrow).0

pub units_bound : UnitsAreBound
units_bound u b sound none =
    let d = draw_unit u b sound (few_made u b none) in
    let made : Binding = record { nodes = d.new.nodes; shapes = d.new.shapes; ops = d.ops; unit = u; back = b } in
    let stands = bound d.new made sound (short_made u b none) d.is.named refl refl d.there in
    (made, stands, refl, refl, table_faces d.new d.new.nodes d.new.shapes refl refl ∙ d.nodes)
