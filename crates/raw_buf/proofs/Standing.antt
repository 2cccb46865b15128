-- Counts that do not fall, call after call.
use Rattle.std.proofs.Common.{ℕ, ◌≤◌, arith}
use Rattle.kit_base.specs.Causes.{raised}
use Rattle.raw_buf.specs.declared.tally.Tally.{Tally}
use Rattle.raw_buf.specs.Buf.{NoneFell, checked, moved, stored, rowed}

pub none_fell-refl : (t : Tally) → NoneFell t t
none_fell-refl t = record { checks = omega arith; moves = omega arith; stores = omega arith; rows = omega arith }

pub none_fell-trans : (a b c : Tally) → NoneFell a b → NoneFell b c → NoneFell a c
none_fell-trans a b c h k = record {
  checks = omega (arith, h.checks, k.checks);
  moves = omega (arith, h.moves, k.moves);
  stores = omega (arith, h.stores, k.stores);
  rows = omega (arith, h.rows, k.rows);
}

raised-least : (n k : ℕ) → n ≤ raised n k
raised-least n k = omega arith

pub none_fell-checked : (t : Tally) → NoneFell t (checked t)
none_fell-checked t = record { checks = raised-least t.checks 1; moves = omega arith; stores = omega arith; rows = omega arith }

pub none_fell-moved : (t : Tally) → NoneFell t (moved t)
none_fell-moved t = record { checks = omega arith; moves = raised-least t.moves 1; stores = omega arith; rows = omega arith }

pub none_fell-stored : (t : Tally) → NoneFell t (stored t)
none_fell-stored t = record { checks = omega arith; moves = omega arith; stores = raised-least t.stores 1; rows = omega arith }

pub none_fell-rowed : (t : Tally) → NoneFell t (rowed t)
none_fell-rowed t = record { checks = omega arith; moves = omega arith; stores = omega arith; rows = raised-least t.rows 1 }

pub ruleset none_fell = (none_fell-refl, none_fell-trans, none_fell-checked, none_fell-moved, none_fell-stored, none_fell-rowed)
