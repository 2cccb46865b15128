-- The reply that a line gives: there is one, or none.
use Rattle.std.proofs.Common.{◌≡◌, ◌⊎◌, inl, inr, ℕ, zero, suc, ◌<◌, ◌≤◌, List, [], ◌∷◌, length, map, Result, Ok, Err, Option, Some, None, refl, sym, ap, ◌∙◌, subst, arith}
use Rattle.std.specs.Prelude.{IfNone, IfOk, IfSome, OnOk, nat_lt, slice_get, slice_index_or}
use Rattle.kit_base.specs.Limits.{longest_message}
use Rattle.mint.specs.declared.node.Node.{Node}
use Rattle.mint.specs.Typed.{IsWellTyped}
use Rattle.mint.specs.Types.{type_at}
use Rattle.mint.specs.Values.{Val, seen}
use Rattle.wire_def.specs.declared.head.Head.{Head}
use Rattle.pres.specs.declared.ops.Op.{Op}
use Rattle.pres.specs.Bindings.{Binding}
use Rattle.serde_json.specs.Data.{Data}
use Rattle.json_shape.specs.declared.errors.RecordErr.{RecordErr}
use Rattle.json_shape.specs.declared.errors.RecordErr.TheVariants as errors
use Rattle.json_shape.specs.declared.records.RequestRec.{RequestRec}
use Rattle.json_shape.specs.Laws.{IsPresented}
use Rattle.json_shape.specs.Presents.{Presents}
use Rattle.json_shape.specs.Records.{Begun, Comes}
use Rattle.json_shape.specs.Replies.{given_of}
use Rattle.json_shape.proofs.Deciding.{value_or_none}
use Rattle.json_shape.proofs.Options.{one_some}
use Rattle.json_shape.proofs.Shown.{shown}
use Rattle.flick_engine.specs.Received.{IsShort}
use Rattle.flick_engine.specs.Replies.{reply_message}
use Rattle.flick_engine.proofs.Existing.{above_or_not}
use Rattle.flick_lines.specs.Marshalled.{tree_of}
use Rattle.flick_serve.specs.Given.{IsReplyOf, IsInTree, IsGiven, message_of, Finds, IsFitting}

-- ---- there is one at most

one_value : (r : Begun) (v w : Val) → Presents r.face r.tree v → Presents r.face r.tree w → v ≡ w
one_value r v w p q = one_some v w (sym (shown r.face r.tree v p.shows) ∙ shown r.face r.tree w q.shows)

-- one operation, and one reply to it
abbrev pub AreOne : ℕ → Val → ℕ → Val → Type 0
AreOne n v m w = (n ≡ m) × (v ≡ w)

one_reply : (b : Binding) (x : Result Begun RecordErr) (n m : ℕ) (v w : Val) → IsReplyOf b x n v → IsReplyOf b x m w → AreOne n v m w
one_reply b (Err e) n m v w h g = absurd h
one_reply b (Ok r) n m v w h g = (h.0 ∙ sym g.0, one_value r v w h.1 g.1)

one_in_tree : (b : Binding) (t : Option Data) (n m : ℕ) (v w : Val) → IsInTree b t n v → IsInTree b t m w → AreOne n v m w
one_in_tree b None n m v w h g = absurd h
one_in_tree b (Some tree) n m v w h g = one_reply b (given_of b tree) n m v w h g

-- a line gives one reply at most
pub one_given : (b : Binding) (line : List ℕ) (n m : ℕ) (v w : Val) → IsGiven b line n v → IsGiven b line m w → AreOne n v m w
one_given b line n m v w h g = one_in_tree b (tree_of line) n m v w h g

-- ---- there is one, or none

-- a reply to an operation is one of these
abbrev pub IsThere : (ℕ → Val → Type 0) → Type 0
IsThere Is = (op : ℕ) × (v : Val) × Is op v

-- none is one of these
abbrev pub IsNowhere : (ℕ → Val → Type 0) → Type 0
IsNowhere Is = (op : ℕ) (v : Val) → Is op v → ⊥

-- the message of a reply that a record presents is too long
too_long : (b : Binding) (r : Begun) (v : Val) → Presents r.face r.tree v
    → longest_message < length (reply_message b 0 r.op r.head v) → IsNowhere (IsReplyOf b (Ok r))
too_long b r v p long op w h =
    let short : length (reply_message b 0 r.op r.head v) ≤ longest_message =
    subst (λ (u : Val). IsShort (reply_message b 0 r.op r.head u)) (one_value r w v h.1 p) h.2 in
    absurd (omega (arith, long, short))

by_length : (b : Binding) (r : Begun) (v : Val) → Presents r.face r.tree v
    → (longest_message < length (reply_message b 0 r.op r.head v)) ⊎ (length (reply_message b 0 r.op r.head v) ≤ longest_message)
    → IsThere (IsReplyOf b (Ok r)) ⊎ IsNowhere (IsReplyOf b (Ok r))
by_length b r v p (inl long) = inr (too_long b r v p long)
by_length b r v p (inr short) = inl (r.op, v, (refl, p, short))

by_value : (b : Binding) (r : Begun) → IsPresented r.face r.tree ⊎ (IsPresented r.face r.tree → ⊥)
    → IsThere (IsReplyOf b (Ok r)) ⊎ IsNowhere (IsReplyOf b (Ok r))
by_value b r (inl (v, p)) =
    let m : List ℕ = reply_message b 0 r.op r.head v in
    by_length b r v p (above_or_not longest_message (length m) (nat_lt longest_message (length m)) refl)
by_value b r (inr none) = inr (λ op v h. none (v, h.1))

reply_or_none : (b : Binding) (x : Result Begun RecordErr) → IsThere (IsReplyOf b x) ⊎ IsNowhere (IsReplyOf b x)
reply_or_none b (Err e) = inr (λ op v h. h)
reply_or_none b (Ok r) = by_value b r (value_or_none r.face r.tree)

in_tree_or_none : (b : Binding) (t : Option Data) → IsThere (IsInTree b t) ⊎ IsNowhere (IsInTree b t)
in_tree_or_none b None = inr (λ op v h. h)
in_tree_or_none b (Some tree) = reply_or_none b (given_of b tree)

-- a line gives a reply or none
pub given_or_none : (b : Binding) (line : List ℕ) → IsThere (IsGiven b line) ⊎ IsNowhere (IsGiven b line)
given_or_none b line = in_tree_or_none b (tree_of line)

-- ---- what is found

-- the message of a record that was read is that of the record that was begun
same_message : (b : Binding) (begun : Begun) (r : RequestRec) → Comes (Ok begun) (Ok r)
    → message_of b r ≡ reply_message b 0 begun.op begun.head (seen r.value)
same_message b begun r comes =
    ap (λ n. reply_message b 0 n r.head (seen r.value)) comes.0
    ∙ ap (λ (h : Head). reply_message b 0 begun.op h (seen r.value)) comes.1

-- what is found of a record that was read, unless its message is too long
pub found_by : (b : Binding) (x : Result Begun RecordErr) (r : RequestRec) → Comes x (Ok r) → (o : Option RequestRec)
    → IfSome o (λ s. s ≡ r) → IfSome o (λ s. IsShort (message_of b r)) → IfNone o (longest_message < length (message_of b r))
    → Finds (IsReplyOf b x) o
found_by b (Err e) r comes o same short long = absurd comes
found_by b (Ok begun) r comes (Some s) same short long =
    let fits : IsShort (reply_message b 0 begun.op begun.head (seen r.value)) =
    subst (λ (m : List ℕ). IsShort m) (same_message b begun r comes) short in
    subst (λ (t : RequestRec). IsReplyOf b (Ok begun) t.op (seen t.value)) (sym same) (comes.0, comes.2, fits)
found_by b (Ok begun) r comes None same short long =
    too_long b begun (seen r.value) comes.2
    (subst (λ (m : List ℕ). longest_message < length m) (same_message b begun r comes) long)

-- nothing is found where no record was read, unless memory ran out
pub found_none : (b : Binding) (x : Result Begun RecordErr) (e : RecordErr) → Comes x (Err e) → (e ≡ errors.NoMemory → ⊥)
    → IsNowhere (IsReplyOf b x)
found_none b (Err f) e comes other = λ op v h. h
found_none b (Ok begun) errors.NoMemory comes other = absurd (other refl)
found_none b (Ok begun) errors.Shape comes other = λ op v h. comes v h.1
found_none b (Ok begun) errors.Request comes other = absurd comes
found_none b (Ok begun) errors.Op comes other = absurd comes
found_none b (Ok begun) errors.Head comes other = absurd comes

-- what was read by a binding of another name
pub read_over : (b c : Binding) (tree : Data) (r : Result RequestRec RecordErr) → c ≡ b → Comes (given_of c tree) r
    → Comes (given_of b tree) r
read_over b c tree r same comes = subst (λ (x : Binding). Comes (given_of x tree) r) same comes

-- the same as the answer of a call
pub found_read : {E : Type 0} (b : Binding) (x : Result Begun RecordErr) (r : RequestRec) → Comes x (Ok r)
    → (y : Result (Option RequestRec) E) → IfOk y (λ o. IfSome o (λ s. s ≡ r))
    → IfOk y (λ o. IfSome o (λ s. IsShort (message_of b r))) → IfOk y (λ o. IfNone o (longest_message < length (message_of b r)))
    → IfOk y (Finds (IsReplyOf b x))
found_read b x r comes (Ok o) same short long = found_by b x r comes o same short long
found_read b x r comes (Err e) same short long = tt

none_at : (Is : ℕ → Val → Type 0) (o : Option RequestRec) → o ≡ None → IsNowhere Is → Finds Is o
none_at Is o e none = subst (λ (x : Option RequestRec). Finds Is x) (sym e) none

pub none_read : {E : Type 0} (b : Binding) (x : Result Begun RecordErr) (e : RecordErr) → Comes x (Err e)
    → (y : Result (Option RequestRec) E) → IfOk y (λ o. o ≡ None) → OnOk y (e ≡ errors.NoMemory → ⊥)
    → IfOk y (Finds (IsReplyOf b x))
none_read b x e comes (Ok o) is other = none_at (IsReplyOf b x) o is (found_none b x e comes other)
none_read b x e comes (Err f) is other = tt

-- what is found by the tree of a line
pub tree_read : {E : Type 0} (b : Binding) (line : List ℕ) (tree : Data) (y : Result (Option RequestRec) E) → Some tree ≡ tree_of line
    → IfOk y (Finds (IsReplyOf b (given_of b tree))) → IfOk y (Finds (IsGiven b line))
tree_read b line tree y same found = subst (λ (t : Option Data). IfOk y (Finds (IsInTree b t))) same found

-- a line that is not JSON gives none
pub no_tree : (b : Binding) (line : List ℕ) → None ≡ tree_of line → IsNowhere (IsGiven b line)
no_tree b line same = subst (λ (t : Option Data). IsNowhere (IsInTree b t)) same (λ op v h. h)

-- ---- its value is a reply of its operation

typed_in : (nodes : List Node) (ops : List Op) (n : ℕ) (v : Val) → n < length ops
    → IfSome (slice_get ops n) (λ o. IsWellTyped (type_at nodes o.reply) v)
    → IsWellTyped (type_at nodes (slice_index_or (map (λ (o : Op). o.reply) ops) n 0)) v
typed_in nodes [] n v h t = absurd (omega (arith, h))
typed_in nodes (o ∷ os) zero v h t = t
typed_in nodes (o ∷ os) (suc n) v h t = typed_in nodes os n v (omega (arith, h)) t

fits : (b : Binding) (r : RequestRec) → r.op < length b.ops
    → IfSome (slice_get b.ops r.op) (λ o. IsWellTyped (type_at b.nodes o.reply) (seen r.value)) → IsFitting b r
fits b r below typed = record { op = below; typed = typed_in b.nodes b.ops r.op (seen r.value) below typed }

-- the same by a binding of another name
pub fits_over : (b c : Binding) (r : RequestRec) → c ≡ b → r.op < length c.ops
    → IfSome (slice_get c.ops r.op) (λ o. IsWellTyped (type_at c.nodes o.reply) (seen r.value)) → IsFitting b r
fits_over b c r same below typed = subst (λ (x : Binding). IsFitting x r) same (fits c r below typed)

-- what is found of a record fits as the record does
pub found_fits : {E : Type 0} (b : Binding) (r : RequestRec) (y : Result (Option RequestRec) E)
    → IfOk y (λ o. IfSome o (λ s. s ≡ r)) → IsFitting b r → IfOk y (λ o. IfSome o (IsFitting b))
found_fits b r (Ok (Some s)) same f = subst (λ (t : RequestRec). IsFitting b t) (sym same) f
found_fits b r (Ok None) same f = tt
found_fits b r (Err e) same f = tt

pub none_fits : {E : Type 0} (b : Binding) (y : Result (Option RequestRec) E) → IfOk y (λ o. o ≡ None)
    → IfOk y (λ o. IfSome o (IsFitting b))
none_fits b (Ok o) is = subst (λ (x : Option RequestRec). IfSome x (IsFitting b)) (sym is) tt
none_fits b (Err e) is = tt
