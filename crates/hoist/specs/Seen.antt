-- What the code keeps, as what the definitions speak of.
use Rattle.std.specs.Prelude.{◌≡◌, ℕ, ℤ, List, reverse}
use Rattle.mint.specs.Types.{Ty, at}
use Rattle.wire_def.specs.declared.encoding.Encoding.{Encoding}
use Rattle.cast_stub.specs.declared.send.SendOp.{SendOp}
use Rattle.cast_stub.specs.Block.{Block, op_seen, code_seen}
use Rattle.cast_stub.specs.InStep.{InStep, AllInStep}
use Rattle.hoist.specs.declared.ahead.Ahead.{Ahead}
use Rattle.hoist.specs.declared.ahead.Ahead.TheVariants as ahead
use Rattle.hoist.specs.declared.ahead.Plan.{Plan as CodePlan}
use Rattle.hoist.specs.declared.ahead.Plan.TheVariants as plan
use Rattle.hoist.specs.declared.roles.Role.{Role as CodeRole}
use Rattle.hoist.specs.declared.roles.Role.TheVariants as role
use Rattle.hoist.specs.Hoisted.{Pending, nothing, octets, row, Hoisted, Plan, small, loop, apart, Role, is_small, is_row, is_break, Roles, closed, hoisted, IsTaken}
use Rattle.hoist.specs.Regions.{roles}
use Rattle.hoist.specs.SpanSizes.{sizes}

abbrev pub ahead_seen : Ahead → Pending
ahead_seen ahead.Nothing = nothing
ahead_seen (ahead.Octets n k) = octets n k
ahead_seen (ahead.Row p u n) = row p u n

abbrev pub plan_seen : List ℕ → CodePlan → Plan
plan_seen p (plan.Small n k) = small n k
plan_seen p (plan.Loop u) = loop p u
plan_seen p plan.Apart = apart

abbrev pub role_seen : CodeRole → Role
role_seen (role.Small k) = is_small k
role_seen role.Row = is_row
role_seen role.Break = is_break

-- code in reverse, with what is to be ensured before it
abbrev pub after : List SendOp → Ahead → Hoisted
after back a = (code_seen (reverse back), ahead_seen a)

-- the roles by the spans of an encoding
abbrev pub span_roles : Encoding → Roles
span_roles e = roles (sizes e)

-- wherever the first is hoisted code, the second is that with an operation before it
abbrev pub InFront : Encoding → Ty → SendOp → Hoisted → Hoisted → Type 0
InFront e t o x y = (r : Block) → hoisted (span_roles e) t r ≡ x → hoisted (span_roles e) t (op_seen o r) ≡ y

-- a body is that of the same number, hoisted by itself
abbrev pub IsHoisted : Encoding → Ty → ℤ × List SendOp → ℤ × List SendOp → Type 0
IsHoisted e t c b = (b.0 ≡ c.0) × (code_seen b.1 ≡ closed (hoisted (span_roles e) t (code_seen c.1)))

-- a body is that of the same number, hoisted for the node of an arm
abbrev pub HoistedFor : Encoding → List Ty → ℤ × ℕ → ℤ × List SendOp → ℤ × List SendOp → Type 0
HoistedFor e us a c b = IsHoisted e (at us a.1) c b

-- so are bodies, in step with arms
abbrev pub AreHoisted : Encoding → List Ty → List (ℤ × ℕ) → List (ℤ × List SendOp) → List (ℤ × List SendOp) → Type 0
AreHoisted e us = AllInStep (HoistedFor e us)

-- a body is taken for the node of an arm
abbrev pub TakenFor : Encoding → List Ty → ℤ × ℕ → ℤ × List SendOp → Type 0
TakenFor e us a c = IsTaken (span_roles e) (at us a.1) (code_seen c.1)

-- so are bodies, in step with arms
abbrev pub ArmsTaken : Encoding → List Ty → List (ℤ × ℕ) → List (ℤ × List SendOp) → Type 0
ArmsTaken e us = InStep (TakenFor e us)
