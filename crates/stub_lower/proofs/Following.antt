-- The code of a node goes through its type in order.
use Rattle.std.proofs.Common.{◌≡◌, inr, ℕ, zero, suc, ◌+◌, ◌<◌, ◌≤◌, ℤ, List, [], ◌∷◌, replicate, Option, Some, None, refl, ap, arith, Bool, true, false}
use Rattle.kit_base.specs.Bytes.{le}
use Rattle.std.specs.Prelude.{nat_eq, nat_lt, if◌then◌else◌}
use Rattle.mint.specs.declared.kind.Count.{Count}
use Rattle.mint.specs.declared.kind.Count.TheVariants.{Exactly, AtMost, Any}
use Rattle.mint.specs.declared.node.Node.{Node}
use Rattle.mint.specs.declared.node.Node.TheVariants as node
use Rattle.mint.specs.Types.{Scalar, number, label, Array, text, row_of, Ty, at, fields_at, arms_at, scalar_of, level, HasChildrenBelow, AreBelow, ArmsBelow, IsBelow}
use Rattle.wire_def.specs.declared.encoding.Encoding.TheVariants.{Xdr, CdrBig, CdrLittle, Mach}
use Rattle.wire_def.specs.declared.encoding.Encoding.{Encoding}
use Rattle.wire_def.specs.declared.head.Order.{Order}
use Rattle.wire_def.specs.Lone.{scalar_word, filling}
use Rattle.wire_def.specs.Described.{is_long}
use Rattle.wire_def.specs.Arrays.{counted, count_of, kind_of, is_octets}
use Rattle.wire_def.specs.Send.{flag}
use Rattle.cast_stub.specs.declared.put.Put.{Put}
use Rattle.cast_stub.specs.declared.put.Put.TheVariants as put
use Rattle.cast_stub.specs.Block.{Block, stop, align, chunk, call}
use Rattle.cast_stub.specs.Follows.{flat, own_put, IsFlat, IsLoop, IsCount, Child, Loops, FollowsBy, FieldsFollowBy, ArmsFollowBy}
use Rattle.cast_stub.specs.Turned.{IsNumber, IsTurned}
use Rattle.cast_stub.specs.Layouts.{layout_of, order_of, scalar_width, element_width, is_gapped}
use Rattle.stub_lower.specs.Items.{number_at, item_rest}
use Rattle.stub_lower.specs.Codes.{scalar_code, length_put, count_code, row_code, long_code, short_code, described_code, head_code, gapped_turn, turn_code, after_code, array_code, tag_code, flag_code, call_here, calls_from, cases_at, node_code}

-- ---- what an encoding gives

-- chunks and aligns, with at most so many puts and aligns
abbrev Few : ℕ → Block → Type 0
Few = IsFlat

aligned-few : (t : Bool) (w : ℕ) (x : Put) → Few 2 (if t then chunk w (x ∷ []) stop else align w (chunk w (x ∷ []) stop))
aligned-few true w x = (1, refl, omega arith)
aligned-few false w x = (2, refl, omega arith)

-- how many puts and aligns a scalar by itself has at most
abbrev most : Encoding → ℕ
most Mach = 3
most _ = 2

two-most : (e : Encoding) → 2 ≤ most e
two-most Xdr = omega arith
two-most CdrBig = omega arith
two-most CdrLittle = omega arith
two-most Mach = omega arith

most-three : (e : Encoding) → most e ≤ 3
most-three Xdr = omega arith
most-three CdrBig = omega arith
most-three CdrLittle = omega arith
most-three Mach = omega arith

item-few : (w : ℕ) (none : Bool) (first x last : Put) → Few 3 (chunk w (first ∷ x ∷ (if none then [] else last ∷ [])) stop)
item-few w true first x last = (2, refl, omega arith)
item-few w false first x last = (3, refl, omega arith)

scalar-few : (e : Encoding) (s : Scalar) (x : Put) → Few (most e) (scalar_code e s x)
scalar-few Xdr s x = (1, refl, omega arith)
scalar-few CdrBig s x = aligned-few (nat_eq (scalar_width CdrBig s) 1) (scalar_width CdrBig s) x
scalar-few CdrLittle s x = aligned-few (nat_eq (scalar_width CdrLittle s) 1) (scalar_width CdrLittle s) x
scalar-few Mach s x = item-few (4 + item_rest s) (nat_eq (filling s) 0) (put.Const 0 (le 4 (scalar_word s))) x
    (put.Const (4 + scalar_width Mach s) (replicate (filling s) 0))

pub flat_scalar : (e : Encoding) (s : Scalar) (x : Put) → IsFlat 3 (scalar_code e s x)
flat_scalar e s x = let f = scalar-few e s x in (f.0, f.1, omega (arith, f.2, most-three e))

counts : (e : Encoding) (c : Count) → IsCount c (count_code e c)
counts e (Exactly m) = refl
counts e (AtMost m) = flat_scalar e counted (length_put e 0)
counts e Any = flat_scalar e counted (length_put e 0)

count-few : (e : Encoding) (c : Count) → Few (most e) (count_code e c)
count-few e (Exactly m) = (0, refl, omega (arith, two-most e))
count-few e (AtMost m) = scalar-few e counted (length_put e 0)
count-few e Any = scalar-few e counted (length_put e 0)

row-few : (e : Encoding) (w : ℕ) (c : Count) → Few (most e) (row_code e w c)
row-few e w (Exactly zero) = (0, refl, omega (arith, two-most e))
row-few e w (Exactly (suc m)) = either (nat_eq w 1) where
  either : (t : Bool) → Few (most e) (if t then stop else align w stop)
  either true = (0, refl, omega (arith, two-most e))
  either false = (1, refl, omega (arith, two-most e))
row-few e w (AtMost m) = count-few e (AtMost m)
row-few e w Any = count-few e Any

described-few : (c : Count) (s : Scalar) → Few 2 (described_code c s)
described-few c s = either (is_long c s) where
  either : (t : Bool) → Few 2 (if t then long_code s else short_code s)
  either true = (2, refl, omega arith)
  either false = (1, refl, omega arith)

heads : (e : Encoding) (a : Array) → Few 2 (head_code e a)
heads Xdr a = count-few Xdr (count_of a)
heads CdrBig (text c) = scalar-few CdrBig counted (length_put CdrBig 1)
heads CdrBig (row_of k c) = row-few CdrBig (element_width CdrBig (row_of k c)) c
heads CdrLittle (text c) = scalar-few CdrLittle counted (length_put CdrLittle 1)
heads CdrLittle (row_of k c) = row-few CdrLittle (element_width CdrLittle (row_of k c)) c
heads Mach a = described-few (count_of a) (number (kind_of a))

-- what comes after elements, and a turn, which is one number where the array may go as a block; both have room beside a head
record Rest (e : Encoding) (a : Array) : Type 0 where
  turn : ℕ
  turn_is : flat (turn_code e a) ≡ Some turn
  after : ℕ
  after_is : flat (after_code e a) ≡ Some after
  few : (own_put (turn_code e a) ≡ 1) × (1 ≤ turn) × (turn + after ≤ 2)
  single : IsNumber (layout_of e a) (turn_code e a)

record Turn (l : Option (ℕ × Order)) (b : Block) : Type 0 where
  many : ℕ
  is : flat b ≡ Some many
  few : (own_put b ≡ 1) × (1 ≤ many) × (many ≤ 2)
  single : IsNumber l b

gapped-turn : (e : Encoding) (w : ℕ) (g : Bool) → Turn (if g then None else Some (w, order_of e)) (gapped_turn e w g)
gapped-turn e w true = record { many = 2; is = refl; few = (refl, omega arith, omega arith); single = tt }
gapped-turn e w false = record { many = 1; is = refl; few = (refl, omega arith, omega arith); single = refl }

filled : (t : Bool) → Few 1 (if t then align 4 stop else stop)
filled true = (1, refl, omega arith)
filled false = (0, refl, omega arith)

-- the turn alone
row_rest : (e : Encoding) (a : Array) → after_code e a ≡ stop → Turn (layout_of e a) (turn_code e a) → Rest e a
row_rest e a none t = record {
  turn = t.many;
  turn_is = t.is;
  after = 0;
  after_is = ap flat none;
  few = (t.few.0, t.few.1, omega (arith, t.few.2));
  single = t.single;
}

rests : (e : Encoding) (a : Array) → Rest e a
rests Xdr a =
    let f = filled (is_octets a) in
    record { turn = 1; turn_is = refl; after = f.0; after_is = f.1; few = (refl, omega arith, omega (arith, f.2)); single = refl }
rests CdrBig (text c) =
    record { turn = 1; turn_is = refl; after = 1; after_is = refl; few = (refl, omega arith, omega arith); single = refl }
rests CdrBig (row_of k c) =
    row_rest CdrBig (row_of k c) refl (gapped-turn CdrBig (element_width CdrBig (row_of k c)) (is_gapped (row_of k c)))
rests CdrLittle (text c) =
    record { turn = 1; turn_is = refl; after = 1; after_is = refl; few = (refl, omega arith, omega arith); single = refl }
rests CdrLittle (row_of k c) =
    row_rest CdrLittle (row_of k c) refl (gapped-turn CdrLittle (element_width CdrLittle (row_of k c)) (is_gapped (row_of k c)))
rests Mach a =
    let f = filled (nat_lt (element_width Mach a) 4) in
    record { turn = 1; turn_is = refl; after = f.0; after_is = f.1; few = (refl, omega arith, omega (arith, f.2)); single = refl }

pub turned : (e : Encoding) (a : Array) → IsTurned (layout_of e) a [] (array_code e a)
turned e a =
    let h = heads e a in
    let r = rests e a in (
      head_code e a,
      turn_code e a,
      after_code e a,
      h.0,
      r.turn,
      r.after,
      refl,
      h.1,
      r.turn_is,
      r.after_is,
      omega (arith, r.few.2),
      omega (arith, h.2, r.few.0, r.few.1, r.few.2),
      r.single,
    )

pub loops : (e : Encoding) (a : Array) → IsLoop [] (array_code e a)
loops e a = let t = turned e a in (t.0, t.1, t.2, t.3, t.4, t.5, t.6, t.7, t.8, t.9, t.10, t.11)

-- ---- a node, over codes that follow its parts, its rows and texts being such loops

module _ (e : Encoding) (L : Loops) (array : (a : Array) → L a [] (array_code e a)) (subs : ℕ → Option Block) (us : List Ty) (b : ℕ)
    (child : (i : ℕ) → i < b → (code : Block) × (subs i ≡ Some code) × FollowsBy L subs (at us i) i [] code) where
  called : (i : ℕ) (p : List ℕ) → i < b → Child subs (FollowsBy L subs (at us i)) b p (call i p stop)
  called i p lt = let c = child i lt in inr (i, c.0, refl, lt, c.1, c.2)

  fields-follow : (is : List ℕ) (j : ℕ) → AreBelow b is → FieldsFollowBy L subs (fields_at us is) j b [] (calls_from j is)
  fields-follow [] j below = refl
  fields-follow (i ∷ is) j below =
      (call i (j ∷ []) stop, calls_from (suc j) is, refl, called i (j ∷ []) below.0, fields-follow is (suc j) below.1)

  arms-follow : (arms : List (ℤ × ℕ)) (other : Option ℕ) → ArmsBelow b arms → IsBelow b other
      → ArmsFollowBy L subs (arms_at us arms other) b (cases_at arms other)
  arms-follow [] None below last = refl
  arms-follow [] (Some i) below last = (call_here i, refl, called i [] last)
  arms-follow (a ∷ arms) other below last =
      (call_here a.1, cases_at arms other, refl, called a.1 [] below.0, arms-follow arms other below.1 last)

  pub node-follows : (m : Node) → HasChildrenBelow b m → FollowsBy L subs (level us m) b [] (node_code e m)
  node-follows node.Void below = (0, refl, omega arith)
  node-follows (node.Num k) below = flat_scalar e (number k) (put.Num (number_at e) [] (scalar_width e (number k)) (order_of e))
  node-follows (node.Enum ls) below = flat_scalar e (label ls) (put.Num (number_at e) [] (scalar_width e (label ls)) (order_of e))
  node-follows (node.Text c) below = array (text c)
  node-follows (node.Row k c) below = array (row_of k c)
  node-follows (node.Group ids) below = fields-follow ids 0 below
  node-follows (node.Items i c) below = (count_code e c, call_here i, refl, counts e c, called i [] below)
  node-follows (node.Choice t arms other) below = (
    tag_code e (scalar_of t),
    cases_at arms other,
    refl,
    flat_scalar e (scalar_of t) (put.Tag (number_at e) [] (scalar_width e (scalar_of t)) (order_of e)),
    arms-follow arms other below.0 below.1,
  )
  node-follows (node.Maybe i) below =
      (flag_code e, call_here i, refl, flat_scalar e flag (put.Flag (number_at e) [] (scalar_width e flag) (order_of e)), called i [] below)
