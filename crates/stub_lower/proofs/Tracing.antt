-- The code of a node that receives goes through its type in order.
use Rattle.std.proofs.Common.{◌≡◌, inr, ℕ, zero, suc, ◌<◌, ◌≤◌, ℤ, List, [], ◌∷◌, Option, Some, None, refl, arith, Bool, true, false, if◌then◌else◌}
use Rattle.std.specs.Prelude.{nat_eq, nat_lt}
use Rattle.mint.specs.declared.kind.Count.{Count}
use Rattle.mint.specs.declared.kind.Count.TheVariants.{Exactly, AtMost, Any}
use Rattle.mint.specs.declared.node.Node.{Node}
use Rattle.mint.specs.declared.node.Node.TheVariants as node
use Rattle.mint.specs.Types.{Scalar, number, label, Array, text, row_of, Ty, at, fields_at, arms_at, scalar_of, level, HasChildrenBelow, AreBelow, ArmsBelow, IsBelow}
use Rattle.wire_def.specs.declared.encoding.Encoding.{Encoding}
use Rattle.wire_def.specs.declared.encoding.Encoding.TheVariants.{Xdr, CdrBig, CdrLittle, Mach}
use Rattle.wire_def.specs.declared.head.Order.{Order}
use Rattle.wire_def.specs.Described.{is_long}
use Rattle.wire_def.specs.Arrays.{counted, count_of, kind_of, is_octets}
use Rattle.wire_def.specs.Send.{flag}
use Rattle.cast_stub.specs.declared.recv.Get.{Get}
use Rattle.cast_stub.specs.declared.recv.Get.TheVariants as get
use Rattle.cast_stub.specs.RecvBlock.{Recv, finish, skip_any, skip_zero, call}
use Rattle.cast_stub.specs.Traces.{descs, IsGetAt, IsAt, IsFlat, IsLoop, IsCount, IsNumber, Child, Loops, TracesBy, FieldsTraceBy, ArmsTraceBy, IsTurned}
use Rattle.cast_stub.specs.Layouts.{layout_of, order_of, scalar_width, element_width, is_gapped}
use Rattle.stub_lower.specs.Items.{number_at}
use Rattle.stub_lower.specs.RecvCodes.{take_code, number_get, length_get, scalar_code, count_code, ended_code, row_code, fixed_code, free_code, described_code, head_code, gapped_turn, turn_code, after_code, array_code, tag_code, flag_code, call_here, calls_from, cases_at, node_code}

-- ---- what an encoding gives

-- code with at most one descriptor, for the current value
record Headed (b : Recv) : Type 0 where
  first : ℕ
  is : descs b ≡ Some first
  here : IsAt [] b
  few : first ≤ 1

headed : (b : Recv) → IsFlat [] b → Headed b
headed b h = record { first = 0; is = h.0; here = h.1; few = omega arith }

-- the same after a skip, or not
skipped_flat : (g : Bool) (w : ℕ) (b : Recv) → IsFlat [] b → IsFlat [] (if g then b else skip_any w b)
skipped_flat true w b h = h
skipped_flat false w b h = h

-- a scalar, given a get of the current value
scalars : (e : Encoding) (s : Scalar) (g : Get) → IsGetAt [] g → IsFlat [] (scalar_code e s g)
scalars Xdr s g h = (refl, ((h, tt), tt))
scalars CdrBig s g h =
    skipped_flat (nat_eq (scalar_width CdrBig s) 1) (scalar_width CdrBig s) (take_code (scalar_width CdrBig s) g) (refl, ((h, tt), tt))
scalars CdrLittle s g h = skipped_flat (nat_eq (scalar_width CdrLittle s) 1) (scalar_width CdrLittle s)
    (take_code (scalar_width CdrLittle s) g) (refl, ((h, tt), tt))
scalars Mach s g h = (refl, ((tt, (h, tt)), tt))

counts : (e : Encoding) (c : Count) → IsCount [] c (count_code e c)
counts e (Exactly m) = refl
counts e (AtMost m) = scalars e counted (length_get e 0) refl
counts e Any = scalars e counted (length_get e 0) refl

count_flat : (e : Encoding) (c : Count) → IsFlat [] (count_code e c)
count_flat e (Exactly m) = (refl, tt)
count_flat e (AtMost m) = counts e (AtMost m)
count_flat e Any = counts e Any

row_flat : (e : Encoding) (w : ℕ) (c : Count) → IsFlat [] (row_code e w c)
row_flat e w (Exactly zero) = (refl, tt)
row_flat e w (Exactly (suc m)) = skipped_flat (nat_eq w 1) w finish (refl, tt)
row_flat e w (AtMost m) = counts e (AtMost m)
row_flat e w Any = counts e Any

-- a descriptor in one form, or in either
described : (c : Count) (s : Scalar) → Headed (described_code c s)
described (Exactly m) s = either (is_long (Exactly m) s) where
  either : (b : Bool) → Headed (if b then free_code s else fixed_code s m)
  either true = record { first = 1; is = refl; here = (refl, tt); few = omega arith }
  either false = record { first = 0; is = refl; here = ((tt, tt), tt); few = omega arith }
described (AtMost m) s = record { first = 1; is = refl; here = (refl, tt); few = omega arith }
described Any s = record { first = 1; is = refl; here = (refl, tt); few = omega arith }

heads : (e : Encoding) (a : Array) → Headed (head_code e a)
heads Xdr a = headed (count_code Xdr (count_of a)) (count_flat Xdr (count_of a))
heads CdrBig (text c) = headed (ended_code CdrBig) (scalars CdrBig counted (length_get CdrBig 1) refl)
heads CdrBig (row_of k c) =
    headed (row_code CdrBig (element_width CdrBig (row_of k c)) c) (row_flat CdrBig (element_width CdrBig (row_of k c)) c)
heads CdrLittle (text c) = headed (ended_code CdrLittle) (scalars CdrLittle counted (length_get CdrLittle 1) refl)
heads CdrLittle (row_of k c) =
    headed (row_code CdrLittle (element_width CdrLittle (row_of k c)) c) (row_flat CdrLittle (element_width CdrLittle (row_of k c)) c)
heads Mach a = described (count_of a) (number (kind_of a))

after_flat : (e : Encoding) (a : Array) → IsFlat [] (after_code e a)
after_flat Xdr a = either (is_octets a) where
  either : (b : Bool) → IsFlat [] (if b then skip_zero 4 finish else finish)
  either true = (refl, tt)
  either false = (refl, tt)
after_flat CdrBig (text c) = (refl, ((tt, tt), tt))
after_flat CdrBig (row_of k c) = (refl, tt)
after_flat CdrLittle (text c) = (refl, ((tt, tt), tt))
after_flat CdrLittle (row_of k c) = (refl, tt)
after_flat Mach a = either (nat_lt (element_width Mach a) 4) where
  either : (b : Bool) → IsFlat [] (if b then skip_any 4 finish else finish)
  either true = (refl, tt)
  either false = (refl, tt)

-- a turn, which is one number where the array may go as a block
abbrev Turns : Option (ℕ × Order) → Recv → Type 0
Turns l b = IsFlat [] b × IsNumber l b

gapped : (e : Encoding) (w : ℕ) (g : Bool) → Turns (if g then None else Some (w, order_of e)) (gapped_turn e w g)
gapped e w true = ((refl, ((refl, tt), tt)), tt)
gapped e w false = ((refl, ((refl, tt), tt)), refl)

turns : (e : Encoding) (a : Array) → Turns (layout_of e a) (turn_code e a)
turns Xdr a = ((refl, ((refl, tt), tt)), refl)
turns CdrBig a = gapped CdrBig (element_width CdrBig a) (is_gapped a)
turns CdrLittle a = gapped CdrLittle (element_width CdrLittle a) (is_gapped a)
turns Mach a = ((refl, ((refl, tt), tt)), refl)

pub array_turned : (e : Encoding) (a : Array) → IsTurned (layout_of e) a [] (array_code e a)
array_turned e a =
    let h = heads e a in
    let t = turns e a in record {
      loop = record {
        before = head_code e a;
        turn = turn_code e a;
        after = after_code e a;
        first = h.first;
        last = 0;
        whole = refl;
        begins = (h.is, h.here);
        turns = t.0;
        ends = after_flat e a;
        few = omega (arith, h.few);
      };
      number = t.1;
    }

pub array_loops : (e : Encoding) (a : Array) → IsLoop [] (array_code e a)
array_loops e a = (array_turned e a).loop

-- ---- a node, over codes that follow its parts, its rows and texts being such loops

module _ (e : Encoding) (L : Loops) (array : (a : Array) → L a [] (array_code e a)) (subs : ℕ → Option Recv) (us : List Ty) (b : ℕ)
    (child : (i : ℕ) → i < b → (code : Recv) × (subs i ≡ Some code) × TracesBy L subs (at us i) i [] code) where
  called : (i : ℕ) (p : List ℕ) → i < b → Child subs (TracesBy L subs (at us i)) b p (call i p finish)
  called i p lt = let c = child i lt in inr (i, c.0, refl, lt, c.1, c.2)

  fields-trace : (is : List ℕ) (j : ℕ) → AreBelow b is → FieldsTraceBy L subs (fields_at us is) j b [] (calls_from j is)
  fields-trace [] j below = refl
  fields-trace (i ∷ is) j below =
      (call i (j ∷ []) finish, calls_from (suc j) is, refl, called i (j ∷ []) below.0, fields-trace is (suc j) below.1)

  arms-trace : (arms : List (ℤ × ℕ)) (other : Option ℕ) → ArmsBelow b arms → IsBelow b other
      → ArmsTraceBy L subs (arms_at us arms other) b (cases_at arms other)
  arms-trace [] None below last = refl
  arms-trace [] (Some i) below last = (call_here i, refl, called i [] last)
  arms-trace (a ∷ arms) other below last =
      (call_here a.1, cases_at arms other, refl, called a.1 [] below.0, arms-trace arms other below.1 last)

  pub node-traces : (m : Node) → HasChildrenBelow b m → TracesBy L subs (level us m) b [] (node_code e m)
  node-traces node.Void below = refl
  node-traces (node.Num k) below = scalars e (number k) (number_get e (number k)) refl
  node-traces (node.Enum ls) below = scalars e (label ls) (number_get e (label ls)) refl
  node-traces (node.Text c) below = array (text c)
  node-traces (node.Row k c) below = array (row_of k c)
  node-traces (node.Group ids) below = fields-trace ids 0 below
  node-traces (node.Items i c) below = (count_code e c, call_here i, refl, counts e c, called i [] below)
  node-traces (node.Choice t arms other) below = (
    tag_code e (scalar_of t),
    cases_at arms other,
    refl,
    scalars e (scalar_of t) (get.Tag (number_at e) [] (scalar_width e (scalar_of t)) (order_of e)) refl,
    arms-trace arms other below.0 below.1,
  )
  node-traces (node.Maybe i) below = (
    flag_code e,
    call_here i,
    refl,
    scalars e flag (get.Flag (number_at e) [] (scalar_width e flag) (order_of e)) refl,
    called i [] below,
  )
