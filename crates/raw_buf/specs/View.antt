-- A message that is read, as its octets, the place where reading is, and what was tested.
use Rattle.std.specs.Prelude.{ℕ, List, Option, None, Some}
use Rattle.std.specs.Int.{Width}
use Rattle.kit_swap.specs.Swapped.{swapped}
use Rattle.wire_def.specs.declared.head.Order.{Order}
use Rattle.wire_def.specs.declared.head.Order.TheVariants.{Big, Little}
use Rattle.wire_def.specs.Orders.{loaded}

pub record View : Type 0 where
  -- the message
  pub octets : List ℕ
  -- the place of the next octet
  pub pos : ℕ
  -- how many octets from there on are known to be there
  pub near : ℕ
  -- the tests of whether octets are there
  pub tests : ℕ

-- the number that octets hold, in an order, if they have a width; otherwise 0
abbrev pub loaded_of : Order → Option Width → List ℕ → ℕ
loaded_of o None os = 0
loaded_of o (Some x) os = loaded o x os

-- the octets of numbers of a width that are in an order, with the least significant octet of each first
abbrev pub in_little : Order → ℕ → List ℕ → List ℕ
in_little Big w o = swapped w o
in_little Little w o = o
