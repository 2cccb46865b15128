-- Reading a value from left to right.
use Rattle.std.specs.Prelude.{ℕ, zero, ℤ, pos, List, if◌then◌else◌}
use Rattle.std.specs.Ordering.{int_eq}
use Rattle.mint.specs.Values.{Val, void, num, row, group, items, arm, absent, present, Vals, no_more, val, vals_of}
use Rattle.mint.specs.Types.{Scalar, Ty, void_type, scalar_type, array_type, group_type, items_type, choice_type, maybe_type, Tys, no_fields, field, Arms, no_other, others, arm_type}
use Rattle.mint.specs.Typed.{has_arm}
use Rattle.wire_def.specs.declared.encoding.Encoding.{Encoding}
use Rattle.wire_def.specs.declared.fault.FaultKind.{FaultKind}
use Rattle.wire_def.specs.declared.fault.FaultKind.TheVariants.{BadValue}
use Rattle.wire_def.specs.Grammar.{Reading, got, stop, Reader, map_got, both, times}
use Rattle.wire_def.specs.Lone.{read_lone, read_pass}
use Rattle.wire_def.specs.Arrays.{read_count, read_array, kind_of}
use Rattle.wire_def.specs.Send.{flag}

-- a discriminant that has an arm, read from a position
abbrev pub read_tag : Encoding → Scalar → Arms → Reader FaultKind ℤ
read_tag e s arms = read_pass e s (has_arm arms) BadValue

-- the value after a flag
abbrev pub read_after : Reader FaultKind Val → ℤ → Reader FaultKind Val
read_after r (pos zero) p o = got absent p o
read_after r _ p o = map_got present (r p o)

-- a value of the type from a position; the values of fields; the value of the number's arm
unfoldable mutual
  pub read : Encoding → Ty → ℕ → List ℕ → Reading FaultKind Val
  read e void_type p o = got void p o
  read e (scalar_type s) p o = map_got num (read_lone e s p o)
  read e (array_type a) p o = map_got (row (kind_of a)) (read_array e a p o)
  read e (group_type ts) p o = map_got group (read_fields e ts p o)
  read e (items_type c t) p o = map_got (λ x. items (vals_of x.1)) (both (read_count e c) (λ n. times (read e t) n) p o)
  read e (choice_type s arms) p o = map_got (λ x. arm x.0 x.1) (both (read_tag e s arms) (λ n q b. read_arm e arms n q b) p o)
  read e (maybe_type t) p o = map_got (λ x. x.1) (both (read_lone e flag) (λ n. read_after (read e t) n) p o)

  pub read_fields : Encoding → Tys → ℕ → List ℕ → Reading FaultKind Vals
  read_fields e no_fields p o = got no_more p o
  read_fields e (field t ts) p o = map_got (λ x. val x.0 x.1) (both (read e t) (λ v q b. read_fields e ts q b) p o)

  pub read_arm : Encoding → Arms → ℤ → ℕ → List ℕ → Reading FaultKind Val
  read_arm e no_other n p o = stop BadValue p
  read_arm e (others t) n p o = read e t p o
  read_arm e (arm_type m t arms) n p o = if int_eq n m then read e t p o else read_arm e arms n p o
