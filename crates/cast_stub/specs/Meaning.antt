-- What steps write, what they cost, and whether the room that they need is ensured.
use Rattle.std.specs.Prelude.{ℕ, ◌+◌, ◌-◌, ◌^◌, ◌%◌, ◌≤◌, max, List, [], ◌∷◌, ◌++◌, length, replicate, Option, None, Some, option_map, nat_le, if◌then◌else◌, ◌&&◌}
use Rattle.kit_base.specs.Bytes.{written}
use Rattle.mint.specs.Values.{Val}
use Rattle.mint.specs.Types.{Ty}
use Rattle.mint.specs.Typed.{IsWellTyped}
use Rattle.wire_def.specs.declared.head.Order.{Order}
use Rattle.wire_def.specs.declared.head.Head.{Head}
use Rattle.wire_def.specs.Scalars.{gap}
use Rattle.wire_def.specs.Orders.{in_order}
use Rattle.cast_stub.specs.declared.send.SendCode.{SendCode}
use Rattle.cast_stub.specs.Parts.{on_some, IsThere}
use Rattle.cast_stub.specs.Puts.{IsHead}
use Rattle.cast_stub.specs.Steps.{Step, Room, Pad, Stored, Widened, Copied, Patched, Steps}
use Rattle.cast_stub.specs.Subs.{sent_steps}

-- ---- octets

-- octets from a base on, with the length of the message so far, less a number, at a place of the message
abbrev pub patched : ℕ → ℕ → ℕ → Order → List ℕ → Option (List ℕ)
patched base at sub order o =
    if nat_le base at && nat_le (at + 4) (base + length o)
    then Some (written o (at - base) (in_order order 4 ((base + length o + 2 ^ 32 - sub) % 2 ^ 32))) else None

-- octets that stand from a base on, and after them what the steps append
abbrev pub wrote : ℕ → List ℕ → List Step → Option (List ℕ)
wrote base o [] = Some o
wrote base o (Room n ∷ ss) = wrote base o ss
wrote base o (Pad a ∷ ss) = wrote base (o ++ replicate (gap (base + length o) a) 0) ss
wrote base o (Stored os k ∷ ss) = wrote base (o ++ os) ss
wrote base o (Widened os k ∷ ss) = wrote base (o ++ os) ss
wrote base o (Copied os ∷ ss) = wrote base (o ++ os) ss
wrote base o (Patched at sub order ∷ ss) = on_some (patched base at sub order o) (λ a. wrote base a ss)

-- the octets that a send code appends at a position
abbrev pub meaning : SendCode → Head → Val → ℕ → Option (List ℕ)
meaning code h v p = on_some (sent_steps code h v) (wrote p [])

-- ---- cost

-- how often a buffer is looked at, its cursor moved, a store made, a row given as a block
pub record Cost : Type 0 where
  pub checks : ℕ
  pub moves : ℕ
  pub stores : ℕ
  pub rows : ℕ

-- no calls of a buffer
abbrev pub no_cost : Cost
no_cost = record { checks = 0; moves = 0; stores = 0; rows = 0 }

-- two costs together
abbrev pub sum : Cost → Cost → Cost
sum a b = record { checks = a.checks + b.checks; moves = a.moves + b.moves; stores = a.stores + b.stores; rows = a.rows + b.rows }

-- what a step costs
abbrev pub cost_of : Step → Cost
cost_of (Room n) = record no_cost { checks = 1 }
cost_of (Pad a) = record no_cost { moves = 1 }
cost_of (Stored os k) = record no_cost { moves = 1; stores = k }
cost_of (Widened os k) = record no_cost { moves = 1; stores = k }
cost_of (Copied os) = record no_cost { rows = 1 }
cost_of (Patched at sub order) = record no_cost { stores = 1 }

-- what steps cost together
abbrev pub costs : List Step → Cost
costs [] = no_cost
costs (s ∷ ss) = sum (cost_of s) (costs ss)

-- what a send code costs
abbrev pub cost : SendCode → Head → Val → Option Cost
cost code h v = option_map costs (sent_steps code h v)

-- ---- room

-- from a position, with so many octets ensured, nothing is appended that was not ensured
abbrev pub HasRoom : ℕ → ℕ → List Step → Type 0
HasRoom p a [] = Unit {0}
HasRoom p a (Room n ∷ ss) = HasRoom p (max n a) ss
HasRoom p a (Pad x ∷ ss) = (gap p x ≤ a) × HasRoom (p + gap p x) (a - gap p x) ss
HasRoom p a (Stored os k ∷ ss) = (length os ≤ a) × HasRoom (p + length os) (a - length os) ss
HasRoom p a (Widened os k ∷ ss) = (length os ≤ a) × HasRoom (p + length os) (a - length os) ss
HasRoom p a (Copied os ∷ ss) = (length os ≤ a) × HasRoom (p + length os) (a - length os) ss
HasRoom p a (Patched at sub order ∷ ss) = HasRoom p a ss

-- the steps are defined, they write from a position, and what is ensured is enough
abbrev pub AreCovered : Steps → ℕ → Type 0
AreCovered None p = ⊥
AreCovered (Some ss) p = IsThere (wrote p [] ss) × HasRoom p 0 ss

-- at a position, for every head of numbers that words can hold and every value of the type
abbrev pub IsCovered : Ty → ℕ → SendCode → Type 0
IsCovered t p code = (h : Head) (v : Val) → IsHead h → IsWellTyped t v → AreCovered (sent_steps code h v) p
