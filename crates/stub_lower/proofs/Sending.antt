-- The code of a node sends its values, over those of its parts.
use Rattle.std.proofs.Common.{◌≡◌, ℕ, suc, ◌+◌, ◌<◌, ◌≤◌, ℤ, pos, List, [], ◌∷◌, ◌++◌, length, Option, Some, None, refl, sym, ap, subst, ◌∙◌, arith, Bool, true, false, if◌then◌else◌, MatchBool}
use Rattle.std.proofs.lemmas.List.{append-nil}
use Rattle.std.specs.List.{AllByRecursion}
use Rattle.std.specs.Ordering.{int_eq}
use Rattle.mint.specs.declared.node.Node.{Node}
use Rattle.mint.specs.declared.node.Node.TheVariants as node
use Rattle.mint.specs.Blank.{depth, fields_depth, arms_depth}
use Rattle.mint.specs.Types.{Scalar, number, label, text, row_of, Ty, at, fields_at, arms_at, scalar_of, level, HasChildrenBelow, ArmsBelow, IsBelow}
use Rattle.mint.specs.Typed.{IsOf, AreOf, IsOfArm, Each, IsScalar}
use Rattle.mint.specs.Values.{Val, void, num, row, group, items, arm, absent, present, Vals, no_more, val, count, weight, weights}
use Rattle.wire_def.specs.declared.encoding.Encoding.{Encoding}
use Rattle.wire_def.specs.declared.head.Head.{Head}
use Rattle.wire_def.specs.Send.{send, send_fields, send_each, send_arm, flag}
use Rattle.wire_def.specs.Lone.{lone_octets}
use Rattle.wire_def.specs.Arrays.{count_octets}
use Rattle.cast_stub.specs.declared.put.Put.TheVariants as put
use Rattle.cast_stub.specs.Parts.{on_some, field}
use Rattle.cast_stub.specs.Parts as part
use Rattle.cast_stub.specs.Puts.{word}
use Rattle.cast_stub.specs.Block.{Block, stop, each, switch, if_there}
use Rattle.cast_stub.specs.Append.{append}
use Rattle.cast_stub.specs.Steps.{Steps, Calls, steps, case_steps, over}
use Rattle.cast_stub.proofs.Appending.{steps-append}
use Rattle.stub_lower.specs.Items.{number_at}
use Rattle.stub_lower.specs.Codes.{count_code, tag_code, flag_code, call_here, calls_from, cases_at, node_code}
use Rattle.cast_stub.specs.Layouts.{order_of, scalar_width}
use Rattle.stub_lower.proofs.Writing.{Sends, both-sends, none-sends, sends_same, sends_stop}
use Rattle.stub_lower.proofs.Encoded.{ScalarsSend, ArraysSend, count-sends}

-- a value of the type and of a weight that values may have
abbrev pub IsLight : ℕ → Type 0
IsLight n = n ≤ 268435456

abbrev pub Is : Ty → Val → Type 0
Is t v = IsOf t v × IsLight (weight v)

light_each : (t : Ty) (vs : Vals) → Each (IsOf t) vs → IsLight (weights vs) → Each (Is t) vs
light_each t no_more h few = tt
light_each t (val v vs) h few = ((h.0, omega arith), light_each t vs h.1 (omega arith))

-- a list's elements
over-sends : (e : Encoding) (f : Val → Steps) (one : ℕ → Val → List ℕ) (P : Val → Type 0) (vs : Vals) (p : ℕ) → Each P vs
    → ((w : Val) (q : ℕ) → P w → Sends e (f w) q (one q w))
    → Sends e (over f vs) p (send_each one p vs)
over-sends e f one P no_more p typed m = none-sends e p
over-sends e f one P (val v vs) p typed m =
    both-sends e (f v) (over f vs) p (one p v) (send_each one (p + length (one p v)) vs) (m v p typed.0)
    (over-sends e f one P vs (p + length (one p v)) typed.1 m)

-- code before other code
append-sends : (e : Encoding) (c : Calls) (h : Head) (a b : Block) (v : Val) (p : ℕ) (o : List ℕ) (more : ℕ → List ℕ)
    → Sends e (steps c h a v) p o → Sends e (steps c h b v) (p + length o) (more (p + length o))
    → Sends e (steps c h (append a b) v) p (o ++ more (p + length o))
append-sends e c h a b v p o more first after =
    subst (λ (x : Steps). Sends e x p (o ++ more (p + length o))) (sym (steps-append c h a b v))
    (both-sends e (steps c h a v) (steps c h b v) p o (more (p + length o)) first after)

module _ (e : Encoding) (scalar : ScalarsSend e) (array : ArraysSend e) (us : List Ty) (h : Head) (c : Calls) (n b : ℕ)
    (child : (i : ℕ) (p : ℕ) (v : Val) → i < b → depth (at us i) ≤ n → Is (at us i) v → Sends e (c i v) p (send e (at us i) p v)) where
  -- a call on the current value
  here-sends : (i : ℕ) (v : Val) (p : ℕ) → i < b → depth (at us i) ≤ n → Is (at us i) v
      → Sends e (steps c h (call_here i) v) p (send e (at us i) p v)
  here-sends i v p below low typed = sends_stop e (c i v) p (send e (at us i) p v) (child i p v below low typed)

  call_part : (o : Option Val) (i : ℕ) (v : Val) (p : ℕ) (x : List ℕ) → o ≡ Some v → Sends e (c i v) p x
      → Sends e (on_some (on_some o (part.at [])) (c i)) p x
  call_part o i v p x same m = subst (λ (z : Option Val). Sends e (on_some (on_some z (part.at [])) (c i)) p x) (sym same) m

  fields-send : (is : List ℕ) (j : ℕ) (all vs : Vals) (p : ℕ) → ((i : ℕ) → field (j + i) all ≡ field i vs) → AllByRecursion (λ i. i < b) is
      → fields_depth (fields_at us is) ≤ n → AreOf (fields_at us is) vs → IsLight (weights vs)
      → Sends e (steps c h (calls_from j is) (group all)) p (send_fields e (fields_at us is) p vs)
  unfolding send
  fields-send [] j all no_more p shift below low typed few = none-sends e p
  fields-send [] j all (val v vs) p shift below low typed few = absurd typed
  fields-send (i ∷ is) j all no_more p shift below low typed few = absurd typed
  fields-send (i ∷ is) j all (val v vs) p shift below low typed few =
      let here : field j all ≡ Some v = ap (λ (k : ℕ). field k all) (omega arith) ∙ shift 0 in
      let more : (k : ℕ) → field (suc j + k) all ≡ field k vs = λ (k : ℕ). ap (λ (x : ℕ). field x all) (omega arith) ∙ shift (suc k) in
      both-sends e (on_some (on_some (field j all) (part.at [])) (c i)) (steps c h (calls_from (suc j) is) (group all)) p
      (send e (at us i) p v) (send_fields e (fields_at us is) (p + length (send e (at us i) p v)) vs)
      (call_part (field j all) i v p (send e (at us i) p v) here (child i p v below.0 (omega arith) (typed.0, omega arith)))
      (fields-send is (suc j) all vs (p + length (send e (at us i) p v)) more below.1 (omega arith) typed.1 (omega arith))

  items-send : (i : ℕ) (vs : Vals) (p : ℕ) → i < b → depth (at us i) ≤ n → Each (Is (at us i)) vs
      → Sends e (steps c h (each [] (call_here i) stop) (items vs)) p (send_each (send e (at us i)) p vs)
  items-send i vs p below low typed =
      sends_stop e (over (steps c h (call_here i)) vs) p (send_each (send e (at us i)) p vs)
      (over-sends e (steps c h (call_here i)) (send e (at us i)) (Is (at us i)) vs p typed (λ w q is. here-sends i w q below low is))

  -- the body of a number, or of one of the others
  either-sends : (t : Bool) (x y : Steps) (p : ℕ) (o o' : List ℕ) (P Q : Type 0) → (P → Sends e x p o) → (Q → Sends e y p o')
      → MatchBool t P Q
      → Sends e (if t then x else y) p (if t then o else o')
  either-sends true x y p o o' P Q first second typed = first typed
  either-sends false x y p o o' P Q first second typed = second typed

  arms-send : (arms : List (ℤ × ℕ)) (other : Option ℕ) (m : ℤ) (w : Val) (p : ℕ) → ArmsBelow b arms → IsBelow b other
      → arms_depth (arms_at us arms other) ≤ n → IsOfArm (arms_at us arms other) m w → IsLight (weight w)
      → Sends e (case_steps c h (cases_at arms other) m w) p (send_arm e (arms_at us arms other) m p w)
  unfolding send
  arms-send [] None m w p below last low typed few = absurd typed
  arms-send [] (Some i) m w p below last low typed few = here-sends i w p last low (typed, few)
  arms-send (a ∷ arms) other m w p below last low typed few =
      either-sends (int_eq m a.0) (steps c h (call_here a.1) w) (case_steps c h (cases_at arms other) m w) p (send e (at us a.1) p w)
      (send_arm e (arms_at us arms other) m p w)
      (IsOf (at us a.1) w) (IsOfArm (arms_at us arms other) m w)
      (λ is. here-sends a.1 w p below.0 (omega arith) (is, few)) (λ is. arms-send arms other m w p below.1 last (omega arith) is few) typed

  tag_scalar : (t : Scalar) (m : ℤ) (w : Val) (p : ℕ) → IsScalar t m → Sends e (steps c h (tag_code e t) (arm m w)) p (lone_octets e t p m)
  tag_scalar t m w p typed = scalar c h t m (put.Tag (number_at e) [] (scalar_width e t) (order_of e)) (arm m w) p typed refl refl

  flag_scalar : (v : Val) (m : ℤ) (p : ℕ) → part.flag_in v ≡ Some m → IsScalar flag m
      → Sends e (steps c h (flag_code e) v) p (lone_octets e flag p m)
  flag_scalar v m p is typed = scalar c h flag m (put.Flag (number_at e) [] (scalar_width e flag) (order_of e)) v p typed refl
      (ap (λ (o : Option ℤ). on_some o (word (scalar_width e flag) (order_of e))) is)

  pub node-sends : (m : Node) (p : ℕ) (v : Val) → HasChildrenBelow b m → depth (level us m) ≤ suc n → IsOf (level us m) v
      → IsLight (weight v)
      → Sends e (steps c h (node_code e m) v) p (send e (level us m) p v)
  unfolding send
  node-sends node.Void p void below low typed few = none-sends e p
  node-sends node.Void p _ below low typed few = absurd typed
  node-sends (node.Num k) p (num z) below low typed few =
      scalar c h (number k) z (put.Num (number_at e) [] (scalar_width e (number k)) (order_of e)) (num z) p typed refl refl
  node-sends (node.Num k) p _ below low typed few = absurd typed
  node-sends (node.Enum ls) p (num z) below low typed few =
      scalar c h (label ls) z (put.Num (number_at e) [] (scalar_width e (label ls)) (order_of e)) (num z) p typed refl refl
  node-sends (node.Enum ls) p _ below low typed few = absurd typed
  node-sends (node.Text x) p (row k ns) below low typed few = array c h (text x) k ns p typed (omega arith)
  node-sends (node.Text x) p _ below low typed few = absurd typed
  node-sends (node.Row m x) p (row k ns) below low typed few = array c h (row_of m x) k ns p typed (omega arith)
  node-sends (node.Row m x) p _ below low typed few = absurd typed
  node-sends (node.Group ids) p (group vs) below low typed few =
      fields-send ids 0 vs vs p (λ (i : ℕ). ap (λ (k : ℕ). field k vs) (omega arith)) below (omega arith) typed few
  node-sends (node.Group ids) p _ below low typed few = absurd typed
  node-sends (node.Items i x) p (items vs) below low typed few =
      append-sends e c h (count_code e x) (each [] (call_here i) stop) (items vs) p (count_octets e x p (count vs))
      (λ q. send_each (send e (at us i)) q vs)
      (count-sends e scalar c h x (items vs) (count vs) p refl typed.0)
      (items-send i vs (p + length (count_octets e x p (count vs))) below (omega arith) (light_each (at us i) vs typed.1 (omega arith)))
  node-sends (node.Items i x) p _ below low typed few = absurd typed
  node-sends (node.Choice t arms other) p (arm m w) below low typed few =
      append-sends e c h (tag_code e (scalar_of t)) (switch [] (cases_at arms other) stop) (arm m w) p (lone_octets e (scalar_of t) p m)
      (λ q. send_arm e (arms_at us arms other) m q w)
      (tag_scalar (scalar_of t) m w p typed.0)
      (sends_stop e (case_steps c h (cases_at arms other) m w) (p + length (lone_octets e (scalar_of t) p m))
      (send_arm e (arms_at us arms other) m (p + length (lone_octets e (scalar_of t) p m)) w)
      (arms-send arms other m w (p + length (lone_octets e (scalar_of t) p m)) below.0 below.1 (omega arith) typed.1 (omega arith)))
  node-sends (node.Choice t arms other) p _ below low typed few = absurd typed
  node-sends (node.Maybe i) p absent below low typed few =
      sends_same e (steps c h (node_code e (node.Maybe i)) absent) p (lone_octets e flag p (pos 0) ++ []) (lone_octets e flag p (pos 0))
      (append-nil (lone_octets e flag p (pos 0)))
      (append-sends e c h (flag_code e) (if_there [] (call_here i) stop) absent p (lone_octets e flag p (pos 0)) (λ q. [])
      (flag_scalar absent (pos 0) p refl refl) (none-sends e (p + length (lone_octets e flag p (pos 0)))))
  node-sends (node.Maybe i) p (present w) below low typed few =
      append-sends e c h (flag_code e) (if_there [] (call_here i) stop) (present w) p (lone_octets e flag p (pos 1))
      (λ q. send e (at us i) q w)
      (flag_scalar (present w) (pos 1) p refl refl)
      (sends_stop e (steps c h (call_here i) w) (p + length (lone_octets e flag p (pos 1)))
      (send e (at us i) (p + length (lone_octets e flag p (pos 1))) w)
      (here-sends i w (p + length (lone_octets e flag p (pos 1))) below (omega arith) (typed, omega arith)))
  node-sends (node.Maybe i) p _ below low typed few = absurd typed
