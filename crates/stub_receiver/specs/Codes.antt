-- What the codes of a machine do to its drafts.
use Rattle.std.specs.Prelude.{◌≡◌, ℕ, ℤ, List, Option, Some, Result}
use Rattle.mint.specs.declared.kind.Kind.{Kind}
use Rattle.mint.specs.Types.{type_at}
use Rattle.mint.specs.Values.{Val}
use Rattle.raw_buf.specs.View.{View}
use Rattle.wire_def.specs.Arrays.{kind_of}
use Rattle.cast_stub.specs.declared.recv.RecvOp.{RecvOp}
use Rattle.cast_stub.specs.RecvBlock.{finish, op_seen, code_seen, cases_seen}
use Rattle.cast_stub.specs.Draft.{Draft, fresh, digit}
use Rattle.cast_stub.specs.Fill.{Callees, fill, fill_case, fill_each, fill_arm, fill_present, settled, settled_number}
use Rattle.cast_stub.specs.Got.{calls_of}
use Rattle.cast_stub.specs.Runs.{Place, Run}
use Rattle.stub_receiver.specs.declared.draft.Filling.{Filling}
use Rattle.stub_receiver.specs.declared.errors.Halt.{Halt}
use Rattle.stub_receiver.specs.declared.machine.Machine.{Machine}
use Rattle.stub_receiver.specs.Acting.{acted, part_path}
use Rattle.stub_receiver.specs.Drawn.{drawn, array_at}
use Rattle.stub_receiver.specs.Ran.{place_of, Ran, Gave}

-- what the calls in a machine's codes do, nested at most so deep
abbrev pub callees : Machine → ℕ → Callees
callees m calls = calls_of m.subs.now calls

-- an operation acts on the part at a path
abbrev pub ActsAt : RecvOp → List ℕ → Type 0
ActsAt op path = part_path (op_seen op finish) ≡ Some path

-- the kind of the numbers of a node's row or text
abbrev pub kind_in : Machine → ℕ → Kind
kind_in m id = kind_of (array_at m.mint.now id)

-- ---- the run of a code on a draft of the machine, from where a view is

-- of operations
abbrev pub code_run : Machine → ℕ → List RecvOp → Filling → View → Run Draft
code_run m calls code d v = fill (callees m calls) (code_seen code) (drawn m.mint.now d) (place_of v)

-- of one operation
abbrev pub op_run : Machine → ℕ → RecvOp → Filling → View → Run Draft
op_run m calls op d v = fill (callees m calls) (op_seen op finish) (drawn m.mint.now d) (place_of v)

-- of an operation on the part at its path
abbrev pub part_run : Machine → ℕ → RecvOp → Filling → View → Run Draft
part_run m calls op d v = acted (callees m calls) (op_seen op finish) (drawn m.mint.now d) (place_of v)

-- of the code of a number
abbrev pub called_run : Machine → ℕ → ℕ → Filling → View → Run Draft
called_run m calls k d v = callees m calls k (drawn m.mint.now d) (place_of v)

-- of a body on each element
abbrev pub each_run : Machine → ℕ → List RecvOp → Filling → View → Run Draft
each_run m calls body d v = fill_each (fill (callees m calls) (code_seen body)) (drawn m.mint.now d) (place_of v)

-- of a body on the value that may be there
abbrev pub some_run : Machine → ℕ → List RecvOp → Filling → View → Run Draft
some_run m calls body d v = fill_present (fill (callees m calls) (code_seen body)) (drawn m.mint.now d) (place_of v)

-- of the bodies of a switch on the arm of a union
abbrev pub arm_run : Machine → ℕ → List (ℤ × List RecvOp) → Option (List RecvOp) → Filling → View → Run Draft
arm_run m calls cases other d v = fill_arm (fill_case (callees m calls) (cases_seen cases other)) (drawn m.mint.now d) (place_of v)

-- ---- the run of a body from a place

-- on a value of a node, of which nothing was read
abbrev pub value_run : Machine → ℕ → List RecvOp → ℕ → Place → Run Val
value_run m calls body id = λ s. settled (fill (callees m calls) (code_seen body) (fresh (type_at m.mint.now id)) s)

-- on a number of a node's row or text
abbrev pub number_run : Machine → ℕ → List RecvOp → ℕ → Place → Run ℤ
number_run m calls body id = λ s. settled_number (fill (callees m calls) (code_seen body) (digit (array_at m.mint.now id)) s)

-- ---- what a call answers

-- the draft and the view are as the run gives them, or a test failed
abbrev pub HasRun : Machine → Result (Unit {0}) Halt → Filling → View → Run Draft → Type 0
HasRun m result d v x = Ran result (drawn m.mint.now d) (place_of v) x

-- the same of a draft that is returned
abbrev pub HasFilled : Machine → Result Filling Halt → View → Run Draft → Type 0
HasFilled m result v x = Gave (drawn m.mint.now) result (place_of v) x
