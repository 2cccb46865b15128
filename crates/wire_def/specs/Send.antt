-- The octets of a value, field by field.
use Rattle.std.specs.Prelude.{ℕ, ◌+◌, ℤ, pos, List, [], ◌++◌, length, if◌then◌else◌}
use Rattle.std.specs.Ordering.{int_eq}
use Rattle.mint.specs.declared.kind.Kind.TheVariants as kind
use Rattle.mint.specs.Values.{Val, num, row, group, items, arm, absent, present, Vals, no_more, val, count}
use Rattle.mint.specs.Types.{Scalar, number, Ty, scalar_type, array_type, group_type, items_type, choice_type, maybe_type, Tys, field, Arms, no_other, others, arm_type}
use Rattle.wire_def.specs.declared.encoding.Encoding.{Encoding}
use Rattle.wire_def.specs.Lone.{lone_octets}
use Rattle.wire_def.specs.Arrays.{count_octets, array_octets}

-- the octets, and those that begin after them
abbrev pub followed : ℕ → List ℕ → (ℕ → List ℕ) → List ℕ
followed p o more = o ++ more (p + length o)

-- each of the values, one after the other
abbrev pub send_each : (ℕ → Val → List ℕ) → ℕ → Vals → List ℕ
send_each one p no_more = []
send_each one p (val v vs) = followed p (one p v) (λ q. send_each one q vs)

-- the scalar that says whether an optional value is present
abbrev pub flag : Scalar
flag = number kind.Bool

-- the octets of a value of the type from the position; of the values of fields; of the value of the number's arm
unfoldable mutual
  pub send : Encoding → Ty → ℕ → Val → List ℕ
  send e (scalar_type s) p (num n) = lone_octets e s p n
  send e (array_type a) p (row k ns) = array_octets e a p ns
  send e (group_type ts) p (group vs) = send_fields e ts p vs
  send e (items_type c t) p (items vs) = followed p (count_octets e c p (count vs)) (λ q. send_each (send e t) q vs)
  send e (choice_type s arms) p (arm n v) = followed p (lone_octets e s p n) (λ q. send_arm e arms n q v)
  send e (maybe_type t) p absent = lone_octets e flag p (pos 0)
  send e (maybe_type t) p (present v) = followed p (lone_octets e flag p (pos 1)) (λ q. send e t q v)
  send e _ p _ = []

  pub send_fields : Encoding → Tys → ℕ → Vals → List ℕ
  send_fields e (field t ts) p (val v vs) = followed p (send e t p v) (λ q. send_fields e ts q vs)
  send_fields e _ p _ = []

  pub send_arm : Encoding → Arms → ℤ → ℕ → Val → List ℕ
  send_arm e no_other n p v = []
  send_arm e (others t) n p v = send e t p v
  send_arm e (arm_type m t arms) n p v = if int_eq n m then send e t p v else send_arm e arms n p v
