-- Each operation of a bound unit is a routine, and ids have 31 bits, by induction on the interfaces.
use Rattle.std.proofs.Common.{◌≡◌, ◌+◌, ◌<◌, ◌≤◌, ◌^◌, ℕ, zero, suc, Bool, true, List, [], ◌∷◌, ◌++◌, get_or, map, length, append-nil, ap, sym, ◌∙◌, arith}
use Rattle.std.specs.Prelude.{◌&&◌, nat_le, nat_lt}
use Rattle.std.specs.List.{list_all, AllByRecursion}
use Rattle.std.proofs.lemmas.Bool.{and_parts, leb-true, ltb-true}
use Rattle.std.proofs.lemmas.List.{length-map}
use Rattle.wire_def.specs.declared.encoding.Back.TheVariants as back
use Rattle.kit_base.specs.Limits.{most_raises}
use Rattle.aoi.specs.Shapes.{Shape}
use Rattle.aoi.specs.Sound.{are_sound, or_void, is_sound_type, are_sound_types}
use Rattle.aoi.specs.Plain.{PlainInterface, PlainOperation, PlainUnit, plain_shapes, is_sound_plain_raise, is_sound_plain_operation, is_sound_plain_interface, IsSoundPlain}
use Rattle.pres.specs.Bindings.{Binding, IsBinding}
use Rattle.pres.specs.Offers.{operations}
use Rattle.pres.proofs.Counting as pres
use Rattle.back_mach.specs.declared.routines.Routine.{Routine}
use Rattle.back_mach.specs.Routines.{no_routine, routine_in, routines_in, routines}

-- no operation is gotten
pub own_alone : (i : PlainInterface) → operations back.Mach i ≡ i.ops
own_alone i = append-nil i.ops

pub counted : (b : Binding) → IsBinding b → b.back ≡ back.Mach → length (routines b.unit.interfaces) ≡ length b.ops
counted b stands mach =
    pres.counted routines_in b stands (λ i.
    length-map i.ops (routine_in i) ∙ ap length (sym (own_alone i)) ∙ ap (λ k. length (operations k i)) (sym mach))

-- ---- ids

-- the id of a request, and that of its reply, have 31 bits
abbrev HasSmall : Routine → Type 0
HasSmall r = r.id + 100 < 2 ^ 31

slot_below : (types : List Shape) (slots : ℕ) (op : PlainOperation) → is_sound_plain_operation types slots op ≡ true → op.slot < slots
slot_below types slots op h =
    let ins : Bool = are_sound types (length types) op.ins in
    let outs : Bool = are_sound types (length types) op.outs in
    let result : Bool = or_void op.result (is_sound_type types (length types) op.result) in
    let many : Bool = nat_le (length op.raises) most_raises in
    let raises : Bool = list_all (is_sound_plain_raise types) op.raises in
    ltb-true _ _ (and_parts (ins && outs && result && many && raises) (nat_lt op.slot slots) h).1

small_in : (types : List Shape) (i : PlainInterface) (ops : List PlainOperation) → i.base + i.slots + 100 ≤ 2147483647
    → list_all (is_sound_plain_operation types i.slots) ops ≡ true
    → AllByRecursion HasSmall (map (routine_in i) ops)
small_in types i [] fits h = tt
small_in types i (op ∷ ops) fits h =
    let p = and_parts (is_sound_plain_operation types i.slots op) (list_all (is_sound_plain_operation types i.slots) ops) h in
    let below = slot_below types i.slots op p.0 in
    (omega (arith, fits, below), small_in types i ops fits p.1)

all_append : (xs ys : List Routine) → AllByRecursion HasSmall xs → AllByRecursion HasSmall ys → AllByRecursion HasSmall (xs ++ ys)
all_append [] ys h g = g
all_append (x ∷ xs) ys h g = (h.0, all_append xs ys h.1 g)

small : (types : List Shape) (is : List PlainInterface) → list_all (is_sound_plain_interface types) is ≡ true
    → AllByRecursion HasSmall (routines is)
small types [] h = tt
small types (i ∷ is) h =
    let p = and_parts (is_sound_plain_interface types i) (list_all (is_sound_plain_interface types) is) h in
    let q = and_parts (nat_le (i.base + i.slots + 100) 2147483647) (list_all (is_sound_plain_operation types i.slots) i.ops) p.0 in
    all_append (routines_in i) (routines is) (small_in types i i.ops (leb-true _ _ q.0) q.1) (small types is p.1)

all_at : (rs : List Routine) (n : ℕ) → AllByRecursion HasSmall rs → n < length rs → HasSmall (get_or rs n no_routine)
all_at [] n h below = absurd (omega (arith, below))
all_at (r ∷ rs) zero h below = h.0
all_at (r ∷ rs) (suc n) h below = all_at rs n h.1 (omega (arith, below))

-- so it is of each operation of a unit that is sound
pub ids_small : (u : PlainUnit) (n : ℕ) → IsSoundPlain u → n < length (routines u.interfaces)
    → (get_or (routines u.interfaces) n no_routine).id + 100 < 2 ^ 31
ids_small u n sound below =
    all_at (routines u.interfaces) n
    (small (plain_shapes u) u.interfaces
    (and_parts (are_sound_types (plain_shapes u) 0 (plain_shapes u)) (list_all (is_sound_plain_interface (plain_shapes u)) u.interfaces)
    sound).1) below
