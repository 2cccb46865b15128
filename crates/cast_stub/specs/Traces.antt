-- When a receive code goes through a type in order.
use Rattle.std.specs.Prelude.{◌≡◌, ◌⊎◌, ℕ, suc, ◌+◌, ◌<◌, ◌≤◌, List, [], ◌∷◌, ◌++◌, Option, None, Some, option_map}
use Rattle.mint.specs.declared.kind.Count.{Count}
use Rattle.mint.specs.declared.kind.Count.TheVariants.{Exactly}
use Rattle.mint.specs.declared.node.Node.{Node}
use Rattle.mint.specs.Types.{Array, Ty, void_type, scalar_type, array_type, group_type, items_type, choice_type, maybe_type, Tys, no_fields, field, Arms, no_other, others, arm_type, type_at}
use Rattle.wire_def.specs.declared.head.Order.{Order}
use Rattle.cast_stub.specs.declared.recv.Get.{Get}
use Rattle.cast_stub.specs.declared.recv.Get.TheVariants as get
use Rattle.cast_stub.specs.declared.recv.RecvOp.{RecvOp}
use Rattle.cast_stub.specs.RecvBlock.{Recv, finish, need, skip_any, skip_zero, pass, desc, each, switch, if_there, call, Cases, no_default, default, case}
use Rattle.cast_stub.specs.RecvAppend.{append}
use Rattle.cast_stub.specs.Got.{sub_at}
use Rattle.cast_stub.specs.Turned.{Layout}

-- how many descriptors stand among tests, skips and takes alone
abbrev pub descs : Recv → Option ℕ
descs finish = Some 0
descs (need n r) = descs r
descs (skip_any a r) = descs r
descs (skip_zero a r) = descs r
descs (pass n gs r) = descs r
descs (desc p name size mul r) = option_map suc (descs r)
descs _ = None

-- a get of the value at a path, or of octets that must be these
abbrev pub IsGetAt : List ℕ → Get → Type 0
IsGetAt p (get.Num off q w o) = q ≡ p
IsGetAt p (get.Tag off q w o) = q ≡ p
IsGetAt p (get.Flag off q w o) = q ≡ p
IsGetAt p (get.Count off q mul add w o) = q ≡ p
IsGetAt p (get.Const off os) = Unit {0}

abbrev pub AreGetsAt : List ℕ → List Get → Type 0
AreGetsAt p [] = Unit {0}
AreGetsAt p (g ∷ gs) = IsGetAt p g × AreGetsAt p gs

-- the gets and descriptors among tests, skips and takes are of the value at a path
abbrev pub IsAt : List ℕ → Recv → Type 0
IsAt p (need n r) = IsAt p r
IsAt p (skip_any a r) = IsAt p r
IsAt p (skip_zero a r) = IsAt p r
IsAt p (pass n gs r) = AreGetsAt p gs × IsAt p r
IsAt p (desc q name size mul r) = (q ≡ p) × IsAt p r
IsAt p _ = Unit {0}

-- tests, skips and takes alone, for the value at a path
abbrev pub IsFlat : List ℕ → Recv → Type 0
IsFlat p b = (descs b ≡ Some 0) × IsAt p b

-- a loop with tests, skips and takes in its turn, before it and after it, and at most one descriptor outside
pub record IsLoop (p : List ℕ) (b : Recv) : Type 0 where
  pub before : Recv
  pub turn : Recv
  pub after : Recv
  -- how many descriptors stand before the loop and after it
  pub first : ℕ
  pub last : ℕ
  pub whole : b ≡ append before (each p turn after)
  pub begins : (descs before ≡ Some first) × IsAt p before
  pub turns : IsFlat [] turn
  pub ends : (descs after ≡ Some last) × IsAt p after
  pub few : first + last ≤ 1

-- what comes before the loop over the list at a path
abbrev pub IsCount : List ℕ → Count → Recv → Type 0
IsCount p (Exactly n) b = b ≡ finish
IsCount p _ b = IsFlat p b

-- what is said of code for the value at a path, whose calls name codes below a number
abbrev pub Going : Type 1
Going = ℕ → List ℕ → Recv → Type 0

-- a child's own code, or one call of such a code
abbrev pub Child : (ℕ → Option Recv) → Going → Going
Child subs F below p b = F below p b ⊎ ((k : ℕ) × (code : Recv) × (b ≡ call k p finish) × (k < below) × (subs k ≡ Some code) × F k [] code)

-- what the code of a row or text is, for the value at a path
abbrev pub Loops : Type 1
Loops = Array → List ℕ → Recv → Type 0

abbrev mutual
  -- each operation in the type's order, where L says what the code of a row or text is
  pub TracesBy : Loops → (ℕ → Option Recv) → Ty → Going
  TracesBy L subs void_type below p b = b ≡ finish
  TracesBy L subs (scalar_type s) below p b = IsFlat p b
  TracesBy L subs (array_type a) below p b = L a p b
  TracesBy L subs (group_type ts) below p b = FieldsTraceBy L subs ts 0 below p b
  TracesBy L subs (items_type c t) below p b = (a : Recv) × (body : Recv) × (b ≡ append a (each p body finish)) × IsCount p c a
      × Child subs (TracesBy L subs t) below [] body
  TracesBy L subs (choice_type s arms) below p b = (a : Recv) × (cases : Cases) × (b ≡ append a (switch p cases finish)) × IsFlat p a
      × ArmsTraceBy L subs arms below cases
  TracesBy L subs (maybe_type t) below p b = (a : Recv) × (body : Recv) × (b ≡ append a (if_there p body finish)) × IsFlat p a
      × Child subs (TracesBy L subs t) below [] body

  -- the fields, the first of them of this number
  pub FieldsTraceBy : Loops → (ℕ → Option Recv) → Tys → ℕ → Going
  FieldsTraceBy L subs no_fields i below p b = b ≡ finish
  FieldsTraceBy L subs (field t ts) i below p b = (a : Recv) × (r : Recv) × (b ≡ append a r)
      × Child subs (TracesBy L subs t) below (p ++ i ∷ []) a × FieldsTraceBy L subs ts (suc i) below p r

  -- a body for each arm, and for the default
  pub ArmsTraceBy : Loops → (ℕ → Option Recv) → Arms → ℕ → Cases → Type 0
  ArmsTraceBy L subs no_other below cases = cases ≡ no_default
  ArmsTraceBy L subs (others t) below cases = (b : Recv) × (cases ≡ default b) × Child subs (TracesBy L subs t) below [] b
  ArmsTraceBy L subs (arm_type n t arms) below cases = (b : Recv) × (cs : Cases) × (cases ≡ case n b cs)
      × Child subs (TracesBy L subs t) below [] b × ArmsTraceBy L subs arms below cs

-- each operation in the type's order, at the path of its value
abbrev pub Traces : (ℕ → Option Recv) → Ty → Going
Traces = TracesBy (λ a. IsLoop)

-- one number of a width, in an order, and nothing else
abbrev pub IsNumber : Option (ℕ × Order) → Recv → Type 0
IsNumber None b = Unit {0}
IsNumber (Some x) b = b ≡ need x.0 (pass x.0 (get.Num 0 [] x.0 x.1 ∷ []) finish)

-- a loop whose turn is one number, where the row may be received as a block
pub record IsTurned (layout : Layout) (a : Array) (p : List ℕ) (b : Recv) : Type 0 where
  pub loop : IsLoop p b
  pub number : IsNumber (layout a) loop.turn

-- each code of a list goes through the node of its number
abbrev pub AllTrace : List Node → List (List RecvOp) → Type 0
AllTrace nodes subs = (k : ℕ) (b : Recv) → sub_at subs k ≡ Some b → Traces (sub_at subs) (type_at nodes k) k [] b

-- each code of a list goes through its node, with such loops
abbrev pub AllTurned : Layout → List Node → List (List RecvOp) → Type 0
AllTurned layout nodes subs = (k : ℕ) (b : Recv) → sub_at subs k ≡ Some b
    → TracesBy (IsTurned layout) (sub_at subs) (type_at nodes k) k [] b
