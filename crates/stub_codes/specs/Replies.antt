-- The arms of replies, and their messages.
use Rattle.std.specs.Prelude.{◌≡◌, ◌<◌, ℕ, ℤ, pos, List, [], ◌++◌, length, Option, None, Some, slice_get, unwrap_or, is_some, IsTrue}
use Rattle.mint.specs.declared.kind.Kind.TheVariants as kind
use Rattle.mint.specs.Types.{Ty, type_at, void_type, choice_type, Arms, number}
use Rattle.mint.specs.Values.{Val, arm}
use Rattle.cast_stub.specs.Draft.{type_of_arm}
use Rattle.wire_def.specs.declared.head.Head.{Head}
use Rattle.wire_def.specs.Send.{send}
use Rattle.pres.specs.Bindings.{Binding}
pub use Rattle.skeleton.specs.Exchanges.{reply_type}
use Rattle.stub_codes.specs.Backs.{encoding, reply_lead, sized}

-- a choice by an unsigned number of 32 bits
abbrev pub IsChoice : Ty → Type 0
IsChoice t = (arms : Arms) × (t ≡ choice_type (number kind.U32) arms)

-- the type of an arm's value, where a choice has the arm
abbrev pub arm_type_in : Ty → ℕ → Option Ty
arm_type_in (choice_type s arms) k = type_of_arm arms (pos k)
arm_type_in _ k = None

-- the reply to an operation has the arm
abbrev pub HasArm : Binding → ℕ → ℕ → Type 0
HasArm b op k = IsTrue (is_some (arm_type_in (reply_type b op) k))

-- the type of the value of the arm of a reply
abbrev pub arm_type : Binding → ℕ → ℕ → Ty
arm_type b op k = unwrap_or (arm_type_in (reply_type b op) k) void_type

-- the nodes of the arms of an operation's reply, each at the place of its number
abbrev pub AreArms : Binding → ℕ → List (ℤ × ℕ) → Type 0
AreArms b op arms = (k : ℕ) (a : ℤ × ℕ) → slice_get arms k ≡ Some a → (a.1 < length b.nodes) × (type_at b.nodes a.1 ≡ arm_type b op k)

-- the head of a reply with an arm, in a version, and the arm's value at the position after the head
abbrev pub arm_parts : Binding → ℕ → ℕ → ℕ → Head → Val → List ℕ
arm_parts b m op k head w =
    reply_lead b m op k head ++ send (encoding b.back) (arm_type b op k) (length (reply_lead b m op k head)) w

-- the two, in which the length of the whole is stated
abbrev pub arm_message : Binding → ℕ → ℕ → ℕ → Head → Val → List ℕ
arm_message b m op k head w = sized b.back (arm_parts b m op k head w)

-- the message of a reply, in a version: that of the arm that its value is of
abbrev pub reply_message : Binding → ℕ → ℕ → Head → Val → List ℕ
reply_message b m op head (arm (pos k) w) = arm_message b m op k head w
reply_message b m op head _ = []
