-- Octets that are put into a buffer.
use Rattle.std.proofs.Common.{◌≡◌, ℕ, ◌+◌, ◌≤◌, List, length, take, drop, refl, arith}
use Rattle.std.proofs.lemmas.List.{take_at, drop_at, length-drop}
use Rattle.kit_base.specs.Bytes.{written}
use Rattle.wire_def.specs.declared.head.Order.{Order}
use Rattle.wire_def.specs.declared.head.Order.TheVariants.{Big, Little}
use Rattle.wire_def.specs.Orders.{in_order}
use Rattle.giop_head.specs.Printed.{long_octets}

-- octets at the first place are the first
pub stored_first : (front o : List ℕ) → take (length o) (written front 0 o) ≡ o
stored_first front o = take_at o (drop (0 + length o) front) (length o) refl

pub stored_rest : (front o : List ℕ) → length o ≤ length front → length (drop (length o) (written front 0 o)) + length o ≡ length front
stored_rest front o h =
    let rest : drop (length o) (written front 0 o) ≡ drop (0 + length o) front = drop_at o (drop (0 + length o) front) (length o) refl in
    let long = length-drop (0 + length o) front in
    rw rest (omega (arith, long, h))

pub ruleset putting = (stored_first, stored_rest)

pub in_order_long : (r : Order) (n : ℕ) → in_order r 4 n ≡ long_octets r n
in_order_long Big n = refl
in_order_long Little n = refl

pub ruleset sizing = (in_order_long)
