-- Code that goes through a type, with its rows as blocks, is allowed few tests for a value, by induction on the type.
use Rattle.std.proofs.Common.{◌≡◌, ℕ, suc, ◌+◌, ◌-◌, ◌*◌, ◌≤◌, ℤ, List, [], ◌∷◌, ◌++◌, length, map, Option, Some, option_map, Bool, true, false, if◌then◌else◌, refl, sym, ap, subst, ◌∙◌, arith}
use Rattle.std.specs.Prelude.{MatchBool, nat_eq}
use Rattle.std.specs.Ordering.{int_eq}
use Rattle.std.proofs.Math.Path.{fun_ext}
use Rattle.mint.specs.declared.kind.Count.{Count}
use Rattle.mint.specs.declared.kind.Count.TheVariants.{Exactly, AtMost, Any}
use Rattle.mint.specs.declared.kind.Kind.{Kind}
use Rattle.mint.specs.Kinds.{width}
use Rattle.mint.specs.Types.{Ty, void_type, scalar_type, array_type, group_type, items_type, choice_type, maybe_type, Tys, no_fields, field, Arms, no_other, others, arm_type}
use Rattle.mint.specs.Typed.{IsOf, AreOf, IsOfArm, Each}
use Rattle.mint.specs.Values.{Val, num, row, group, items, arm, absent, present, Vals, no_more, val, vals_of, arm_in}
use Rattle.wire_def.specs.declared.encoding.Encoding.{Encoding}
use Rattle.wire_def.specs.declared.head.Order.{Order}
use Rattle.wire_def.specs.Arrays.{kind_of}
use Rattle.cast_stub.specs.Entries.{array_entries, inner_entries, fields_entries, arm_entries, entries}
use Rattle.cast_stub.specs.Got.{no_subs}
use Rattle.cast_stub.specs.Layouts.{order_of, layout_of, element_width, is_looped}
use Rattle.cast_stub.specs.Met.{of_some, of_each, of_present}
use Rattle.cast_stub.specs.PartTypes.{ty_at, present_type, present_at, arms_type, arms_at}
use Rattle.cast_stub.specs.Parts.{on_some, at, elements_in}
use Rattle.cast_stub.specs.RecvAppend.{append}
use Rattle.cast_stub.specs.RecvBlock.{Recv, finish, need, need_row, skip_any, skip_zero, pass, desc, row_block, row_wide, each, switch, if_there, call, Cases, no_default, default, case}
use Rattle.cast_stub.specs.Traces.{descs, IsCount, IsTurned, TracesBy, FieldsTraceBy, ArmsTraceBy}
use Rattle.cast_stub.proofs.Followed.{mapped}
use Rattle.cast_stub.proofs.RecvAppending.{append-finish, append-assoc}
use Rattle.chunker.specs.RecvKept.{skeleton, cases_skeleton}
use Rattle.copy_inline.specs.declared.sorts.Sort.TheVariants as sort
use Rattle.copy_inline.specs.Rowed.{by_type}
use Rattle.copy_inline.specs.RecvRowed.{row_or_loop, loop_rowed, rowed, cases_rowed}
use Rattle.copy_inline.proofs.RecvFollowed.{own}
use Rattle.copy_inline.proofs.RecvRowEmitting.{rowed-append}
use Rattle.hoist.proofs.Ways.{AreFrom, from-first, from-next, from-head, ty-field, at-field}
use Rattle.hoist.proofs.Standing.{ValuesFrom, values-first, values-next, values-head}
use Rattle.stub_codes.specs.Asked.{asked_after, case_asked}

-- ---- needs, skips and takes count for nothing

each_same : (f g : Val → ℕ) → ((w : Val) → f w ≡ g w) → (vs : Vals) → of_each f vs ≡ of_each g vs
each_same f g e vs = ap (λ (x : Val → ℕ). of_each x vs) (fun_ext e)

present_same : (f g : Val → ℕ) → ((w : Val) → f w ≡ g w) → (v : Val) → of_present f v ≡ of_present g v
present_same f g e v = ap (λ (x : Val → ℕ). of_present x v) (fun_ext e)

some_same : {A : Type 0} (o : Option A) (f g : A → ℕ) → ((a : A) → f a ≡ g a) → of_some o f ≡ of_some o g
some_same o f g e = ap (of_some o) (fun_ext e)

if_same : (t : Bool) (x x' y y' : ℕ) → x ≡ x' → y ≡ y' → (if t then x else y) ≡ (if t then x' else y')
if_same true x x' y y' e f = e
if_same false x x' y y' e f = f

mutual
  bare_asked : (b : Recv) (v : Val) → asked_after 7 (skeleton b) v ≡ asked_after 7 b v
  bare_asked finish v = refl
  bare_asked (need n r) v = bare_asked r v
  bare_asked (need_row p u e r) v = ap (λ (k : ℕ). 1 + (7 + k)) (bare_asked r v)
  bare_asked (skip_any a r) v = bare_asked r v
  bare_asked (skip_zero a r) v = bare_asked r v
  bare_asked (pass n gs r) v = bare_asked r v
  bare_asked (desc p name size mul r) v = ap (λ (k : ℕ). 2 + (7 + k)) (bare_asked r v)
  bare_asked (row_block p o r) v = ap (λ (k : ℕ). 7 + k) (bare_asked r v)
  bare_asked (row_wide p o r) v = ap (λ (k : ℕ). 7 + k) (bare_asked r v)
  bare_asked (each p b r) v =
      let f : Val → ℕ = λ w. 7 + asked_after 7 (skeleton b) w in
      let g : Val → ℕ = λ w. 7 + asked_after 7 b w in
      let turns : of_some (on_some (at p v) elements_in) (of_each f) ≡ of_some (on_some (at p v) elements_in) (of_each g) =
      some_same (on_some (at p v) elements_in) (of_each f) (of_each g)
      (each_same f g (λ (w : Val). ap (λ (k : ℕ). 7 + k) (bare_asked b w))) in
      let rest = bare_asked r v in
      omega (arith, turns, rest)
  bare_asked (switch p cs r) v =
      let body : of_some (on_some (at p v) arm_in) (λ a. case_asked 7 (cases_skeleton cs) a.0 a.1)
      ≡ of_some (on_some (at p v) arm_in) (λ a. case_asked 7 cs a.0 a.1) =
      some_same (on_some (at p v) arm_in) (λ a. case_asked 7 (cases_skeleton cs) a.0 a.1) (λ a. case_asked 7 cs a.0 a.1)
      (λ a. case_bare cs a.0 a.1) in
      let rest = bare_asked r v in
      omega (arith, body, rest)
  bare_asked (if_there p b r) v =
      let f : Val → ℕ = λ w. 7 + asked_after 7 (skeleton b) w in
      let g : Val → ℕ = λ w. 7 + asked_after 7 b w in
      let body : of_some (at p v) (of_present f) ≡ of_some (at p v) (of_present g) =
      some_same (at p v) (of_present f) (of_present g) (present_same f g (λ (w : Val). ap (λ (k : ℕ). 7 + k) (bare_asked b w))) in
      let rest = bare_asked r v in
      omega (arith, body, rest)
  bare_asked (call k p r) v = ap (λ (k : ℕ). 7 + k) (bare_asked r v)

  case_bare : (cs : Cases) (n : ℤ) (w : Val) → case_asked 7 (cases_skeleton cs) n w ≡ case_asked 7 cs n w
  case_bare no_default n w = refl
  case_bare (default b) n w = ap (λ (k : ℕ). 7 + k) (bare_asked b w)
  case_bare (case m b cs) n w =
      if_same (int_eq n m) (7 + asked_after 7 (skeleton b) w) (7 + asked_after 7 b w) (case_asked 7 (cases_skeleton cs) n w)
      (case_asked 7 cs n w) (ap (λ (k : ℕ). 7 + k) (bare_asked b w)) (case_bare cs n w)

-- blocks of one skeleton are allowed as many
pub same_asked : (a b : Recv) (v : Val) → skeleton a ≡ skeleton b → asked_after 7 a v ≡ asked_after 7 b v
same_asked a b v e = sym (bare_asked a v) ∙ ap (λ (x : Recv). asked_after 7 x v) e ∙ bare_asked b v

-- ---- blocks before others

-- so many more than those of what stands behind it
abbrev pub Held : Recv → Val → ℕ → Type 0
Held x v m = (r : Recv) → asked_after 7 (append x r) v ≤ m + asked_after 7 r v

held_less : (x : Recv) (v : Val) (m i : ℕ) → m ≤ i → Held x v m → Held x v i
held_less x v m i le f r = let most = f r in omega (arith, most, le)

held_append : (x y : Recv) (v : Val) (m i : ℕ) → Held x v m → Held y v i → Held (append x y) v (m + i)
held_append x y v m i f k r =
    let first = f (append y r) in
    let rest = k r in
    subst (λ (b : Recv). asked_after 7 b v ≤ m + i + asked_after 7 r v) (sym (append-assoc x y r)) (omega (arith, first, rest))

some_is : {A : Type 0} (a b : A) → Some a ≡ Some b → a ≡ b
some_is a b e = cc

one_more : (n m : ℕ) (x : Option ℕ) → option_map suc x ≡ Some n → x ≡ Some m → suc m ≡ n
one_more n m x e is = some_is (suc m) n (sym (ap (option_map suc) is) ∙ e)

-- needs, skips and takes with so many descriptors
held_flat : (b : Recv) (n : ℕ) (v : Val) → descs b ≡ Some n → Held b v (9 * n)
held_flat finish n v f = λ r. omega arith
held_flat (need k b) n v f = held_flat b n v f
held_flat (skip_any a b) n v f = held_flat b n v f
held_flat (skip_zero a b) n v f = held_flat b n v f
held_flat (pass k gs b) n v f = held_flat b n v f
held_flat (desc p name size mul b) n v f = λ r.
    let m = mapped suc (descs b) n f in
    let sum = one_more n m.0 (descs b) f m.1 in
    let rest = held_flat b m.0 v m.1 r in
    omega (arith, sum, rest)
held_flat _ n v f = absurd cc

flat_rowed : (e : Encoding) (t : Ty) (b : Recv) (n : ℕ) → descs b ≡ Some n → rowed e t b ≡ b
flat_rowed e t finish n f = refl
flat_rowed e t (need k b) n f = ap (need k) (flat_rowed e t b n f)
flat_rowed e t (skip_any a b) n f = ap (skip_any a) (flat_rowed e t b n f)
flat_rowed e t (skip_zero a b) n f = ap (skip_zero a) (flat_rowed e t b n f)
flat_rowed e t (pass k gs b) n f = ap (pass k gs) (flat_rowed e t b n f)
flat_rowed e t (desc p name size mul b) n f =
    let m = mapped suc (descs b) n f in ap (desc p name size mul) (flat_rowed e t b m.0 m.1)
flat_rowed e t _ n f = absurd cc

-- a body by itself
in_held : (x : Recv) (v : Val) (m : ℕ) → Held x v m → asked_after 7 x v ≤ m
in_held x v m f =
    let most = subst (λ (b : Recv). asked_after 7 b v ≤ m + 0) (append-finish x) (f finish) in
    omega (arith, most)

-- ---- rows and texts

turn_asked : (turn : Recv) → descs turn ≡ Some 0 → (ns : List ℤ)
    → of_each (λ w. 7 + asked_after 7 turn w) (vals_of (map num ns)) ≤ 7 * length ns
turn_asked turn f [] = omega arith
turn_asked turn f (n ∷ ns) =
    let none = in_held turn (num n) 0 (held_flat turn 0 (num n) f) in
    let rest = turn_asked turn f ns in
    omega (arith, none, rest)

loop_held : (p : List ℕ) (turn : Recv) (v0 : Val) (k : Kind) (ns : List ℤ) → descs turn ≡ Some 0 → at p v0 ≡ Some (row k ns)
    → Held (each p turn finish) v0 (7 * length ns + 7)
loop_held p turn v0 k ns f here =
    let turns : of_some (on_some (at p v0) elements_in) (of_each (λ w. 7 + asked_after 7 turn w)) ≤ 7 * length ns =
    subst (λ (x : Option Val). of_some (on_some x elements_in) (of_each (λ w. 7 + asked_after 7 turn w)) ≤ 7 * length ns) (sym here)
    (turn_asked turn f ns) in
    λ r. omega (arith, turns)

-- a row or text by its sort, and what comes after it
array_held : (looped same : Bool) (w : ℕ) (o : Order) (p : List ℕ) (turn rest : Recv) (v0 : Val) (k : Kind) (ns : List ℤ) (m : ℕ)
    → descs turn ≡ Some 0 → descs rest ≡ Some m → m ≤ 1 → at p v0 ≡ Some (row k ns)
    → Held (row_or_loop (if looped then sort.Looped else if same then sort.Block else sort.Wide) w o p turn rest) v0
    (24 * array_entries looped (row k ns) + 9 * m - 9)
array_held true same w o p turn rest v0 k ns m f after le here = λ r.
    let loop = loop_held p turn v0 k ns f here (append rest r) in
    let last = held_flat rest m v0 after r in
    omega (arith, loop, last)
array_held false true w o p turn rest v0 k ns m f after le here = λ r.
    let last = held_flat rest m v0 after r in omega (arith, last)
array_held false false w o p turn rest v0 k ns m f after le here = λ r.
    let last = held_flat rest m v0 after r in omega (arith, last)

-- at most one descriptor before it and after it
array_sum : (looped : Bool) (k : Kind) (ns : List ℤ) (a b : ℕ) → a + b ≤ 1
    → 9 * a + (24 * array_entries looped (row k ns) + 9 * b - 9) ≤ 24 * array_entries looped (row k ns)
array_sum true k ns a b le = omega (arith, le)
array_sum false k ns a b le = omega (arith, le)

-- ---- lists and bodies

each_asked : (x : Recv) (f : Val → ℕ) (t : Ty) (vs : Vals) → Each (IsOf t) vs → ((w : Val) → IsOf t w → Held x w (24 * f w))
    → of_each (λ w. 7 + asked_after 7 x w) vs ≤ 24 * of_each (λ w. suc (f w)) vs
each_asked x f t no_more of k = omega arith
each_asked x f t (val w vs) of k =
    let one = in_held x w (24 * f w) (k w of.0) in
    let rest = each_asked x f t vs of.1 k in
    omega (arith, one, rest)

module _ (e : Encoding) where
  -- what stands before the operations of a type that have bodies
  before_held : (t : Ty) (a b : Recv) (v : Val) (k m : ℕ) → descs a ≡ Some k → Held (rowed e t b) v m
      → Held (rowed e t (append a b)) v (9 * k + m)
  before_held t a b v k m f j =
      subst (λ (x : Recv). Held x v (9 * k + m))
      (sym (rowed-append e t a b ∙ ap (λ (x : Recv). append x (rowed e t b)) (flat_rowed e t a k f)))
      (held_append a (rowed e t b) v (9 * k) m (held_flat a k v f) j)

  count_held : (t : Ty) (p : List ℕ) (s : Count) (a b : Recv) (v : Val) (m : ℕ) → IsCount p s a → Held (rowed e t b) v m
      → Held (rowed e t (append a b)) v m
  count_held t p (Exactly i) a b v m f j = subst (λ (x : Recv). Held (rowed e t (append x b)) v m) (sym f) j
  count_held t p (AtMost i) a b v m f j = held_less (rowed e t (append a b)) v (9 * 0 + m) m (omega arith) (before_held t a b v 0 m f.0 j)
  count_held t p Any a b v m f j = held_less (rowed e t (append a b)) v (9 * 0 + m) m (omega arith) (before_held t a b v 0 m f.0 j)

  -- a value behind a flag
  some_held : (t : Ty) (below : ℕ) (p : List ℕ) (b : Recv) (t0 : Ty) (v0 v : Val) (i : ℕ) → ty_at p t0 ≡ Some (maybe_type t)
      → at p v0 ≡ Some v → (f : TracesBy (IsTurned (layout_of e)) no_subs (maybe_type t) below p b)
      → of_present (λ w. 7 + asked_after 7 (rowed e t f.1) w) v ≤ 7 + 24 * i
      → Held (rowed e t0 b) v0 (24 * suc (suc i))
  some_held t below p b t0 v0 v i is here f most =
      let x : Recv = rowed e t f.1 in
      let few : of_some (at p v0) (of_present (λ w. 7 + asked_after 7 x w)) ≤ 7 + 24 * i =
      subst (λ (z : Option Val). of_some z (of_present (λ w. 7 + asked_after 7 x w)) ≤ 7 + 24 * i) (sym here) most in
      let typed : present_at p t0 ≡ Some t = ap (λ (z : Option Ty). on_some z present_type) is in
      let one : Held (if_there p x finish) v0 (24 * suc (suc i)) = λ r. omega (arith, few) in
      let there : Held (rowed e t0 (if_there p f.1 finish)) v0 (24 * suc (suc i)) =
      subst (λ (z : Option Ty). Held (if_there p (by_type z f.1 (λ u. rowed e u f.1)) finish) v0 (24 * suc (suc i))) (sym typed) one in
      subst (λ (y : Recv). Held (rowed e t0 y) v0 (24 * suc (suc i))) (sym f.2)
      (held_less (rowed e t0 (append f.0 (if_there p f.1 finish))) v0 (9 * 0 + 24 * suc (suc i)) (24 * suc (suc i)) (omega arith)
      (before_held t0 f.0 (if_there p f.1 finish) v0 0 (24 * suc (suc i)) (f.3).0 there))

  -- the body of an arm
  arm_if : (q : Bool) (P Q : Type 0) (x y i j : ℕ) → MatchBool q P Q → (P → x ≤ 7 + 24 * i) → (Q → y ≤ 7 + 24 * j)
      → (if q then x else y) ≤ 7 + 24 * (if q then i else j)
  arm_if true P Q x y i j h f k = f h
  arm_if false P Q x y i j h f k = k h

  body_held : (x : Recv) (w : Val) (i : ℕ) → Held x w (24 * i) → 7 + asked_after 7 x w ≤ 7 + 24 * i
  body_held x w i f = let most = in_held x w (24 * i) f in omega (arith, most)

  mutual
    pub held : (t : Ty) (below : ℕ) (p : List ℕ) (b : Recv) (t0 : Ty) (v0 v : Val) → ty_at p t0 ≡ Some t → at p v0 ≡ Some v
        → IsOf t v → TracesBy (IsTurned (layout_of e)) no_subs t below p b
        → Held (rowed e t0 b) v0 (24 * inner_entries e t v)
    held void_type below p b t0 v0 v is here of f =
        subst (λ (x : Recv). Held (rowed e t0 x) v0 (24 * 0)) (sym f) (λ r. omega arith)
    held (scalar_type s) below p b t0 v0 v is here of f =
        subst (λ (x : Recv). Held x v0 (24 * 0)) (sym (flat_rowed e t0 b 0 f.0)) (held_flat b 0 v0 f.0)
    held (array_type a) below p b t0 v0 (row k ns) is here of f =
        let l = f.loop in
        let m : ℕ = 24 * array_entries (is_looped e a) (row k ns) + 9 * l.last - 9 in
        let few = l.few in
        let loop = array_held (is_looped e a) (nat_eq (element_width e a) (width (kind_of a))) (element_width e a) (order_of e) p l.turn
        l.after v0 k ns l.last (l.turns).0 (l.ends).0 (omega (arith, few)) here in
        let typed : Held (loop_rowed e (ty_at p t0) p l.turn (λ u. rowed e u l.turn) l.after) v0 m =
        subst (λ (x : Option Ty). Held (loop_rowed e x p l.turn (λ u. rowed e u l.turn) l.after) v0 m) (sym is) loop in
        let there : Held (rowed e t0 (each p l.turn l.after)) v0 m =
        subst (λ (x : Recv). Held (loop_rowed e (ty_at p t0) p l.turn (λ u. rowed e u l.turn) x) v0 m)
        (sym (flat_rowed e t0 l.after l.last (l.ends).0)) typed in
        subst (λ (x : Recv). Held (rowed e t0 x) v0 (24 * inner_entries e (array_type a) (row k ns))) (sym l.whole)
        (held_less (rowed e t0 (append l.before (each p l.turn l.after))) v0 (9 * l.first + m)
        (24 * array_entries (is_looped e a) (row k ns)) (array_sum (is_looped e a) k ns l.first l.last few)
        (before_held t0 l.before (each p l.turn l.after) v0 l.first m (l.begins).0 there))
    held (group_type ts) below p b t0 v0 (group vs) is here of f =
        fields_held ts vs 0 ts vs below p b t0 v0 is here (from-first ts) (values-first vs) of f
    held (items_type k t) below p b t0 v0 (items vs) is here of f =
        let x : Recv = rowed e t f.1 in
        let body : (w : Val) → IsOf t w → Held x w (24 * inner_entries e t w) =
        λ w o. held t below [] f.1 t w w refl refl o (own (TracesBy (IsTurned (layout_of e)) no_subs t) below [] f.1 f.4) in
        let i : ℕ = of_each (λ w. suc (inner_entries e t w)) vs in
        let few : of_some (on_some (at p v0) elements_in) (of_each (λ w. 7 + asked_after 7 x w)) ≤ 24 * i =
        subst (λ (z : Option Val). of_some (on_some z elements_in) (of_each (λ w. 7 + asked_after 7 x w)) ≤ 24 * i) (sym here)
        (each_asked x (inner_entries e t) t vs of.1 body) in
        let one : Held (each p x finish) v0 (24 * suc i) = λ r. omega (arith, few) in
        let there : Held (rowed e t0 (each p f.1 finish)) v0 (24 * suc i) =
        subst (λ (z : Option Ty). Held (loop_rowed e z p f.1 (λ u. rowed e u f.1) finish) v0 (24 * suc i)) (sym is) one in
        subst (λ (y : Recv). Held (rowed e t0 y) v0 (24 * suc i)) (sym f.2)
        (count_held t0 p k f.0 (each p f.1 finish) v0 (24 * suc i) f.3 there)
    held (choice_type s arms) below p b t0 v0 (arm n w) is here of f =
        let xs : Cases = cases_rowed e arms f.1 in
        let i : ℕ = arm_entries e arms n w in
        let body : case_asked 7 xs n w ≤ 7 + 24 * i = arms_held arms below f.1 n w of.1 f.4 in
        let few : of_some (on_some (at p v0) arm_in) (λ a. case_asked 7 xs a.0 a.1) ≤ 7 + 24 * i =
        subst (λ (z : Option Val). of_some (on_some z arm_in) (λ a. case_asked 7 xs a.0 a.1) ≤ 7 + 24 * i) (sym here) body in
        let typed : arms_at p t0 ≡ Some arms = ap (λ (z : Option Ty). on_some z arms_type) is in
        let one : Held (switch p xs finish) v0 (24 * suc (suc i)) = λ r. omega (arith, few) in
        let there : Held (rowed e t0 (switch p f.1 finish)) v0 (24 * suc (suc i)) =
        subst (λ (z : Option Arms). Held (switch p (by_type z f.1 (λ arms. cases_rowed e arms f.1)) finish) v0 (24 * suc (suc i)))
        (sym typed) one in
        subst (λ (y : Recv). Held (rowed e t0 y) v0 (24 * suc (suc i))) (sym f.2)
        (held_less (rowed e t0 (append f.0 (switch p f.1 finish))) v0 (9 * 0 + 24 * suc (suc i)) (24 * suc (suc i)) (omega arith)
        (before_held t0 f.0 (switch p f.1 finish) v0 0 (24 * suc (suc i)) (f.3).0 there))
    held (maybe_type t) below p b t0 v0 absent is here of f = some_held t below p b t0 v0 absent 0 is here f (omega arith)
    held (maybe_type t) below p b t0 v0 (present w) is here of f =
        some_held t below p b t0 v0 (present w) (inner_entries e t w) is here f
        (body_held (rowed e t f.1) w (inner_entries e t w)
        (held t below [] f.1 t w w refl refl of (own (TracesBy (IsTurned (layout_of e)) no_subs t) below [] f.1 f.4)))
    held (array_type a) below p b t0 v0 _ is here of f = absurd of
    held (group_type ts) below p b t0 v0 _ is here of f = absurd of
    held (items_type k t) below p b t0 v0 _ is here of f = absurd of
    held (choice_type s arms) below p b t0 v0 _ is here of f = absurd of
    held (maybe_type t) below p b t0 v0 _ is here of f = absurd of

    fields_held : (ts : Tys) (vs : Vals) (i : ℕ) (all : Tys) (whole : Vals) (below : ℕ) (p : List ℕ) (b : Recv) (t0 : Ty) (v0 : Val)
        → ty_at p t0 ≡ Some (group_type all) → at p v0 ≡ Some (group whole) → AreFrom i all ts → ValuesFrom i whole vs → AreOf ts vs
        → FieldsTraceBy (IsTurned (layout_of e)) no_subs ts i below p b
        → Held (rowed e t0 b) v0 (24 * fields_entries e ts vs)
    fields_held no_fields no_more i all whole below p b t0 v0 is here from values of f =
        subst (λ (x : Recv). Held (rowed e t0 x) v0 (24 * 0)) (sym f) (λ r. omega arith)
    fields_held (field t ts) (val v vs) i all whole below p b t0 v0 is here from values of f =
        let first = held t below (p ++ i ∷ []) f.0 t0 v0 v (ty-field p i t0 (group_type all) t is (from-head i all t ts from))
        (at-field p i v0 whole v here (values-head i whole v vs values)) of.0
        (own (TracesBy (IsTurned (layout_of e)) no_subs t) below (p ++ i ∷ []) f.0 f.3) in
        let rest = fields_held ts vs (suc i) all whole below p f.1 t0 v0 is here (from-next i all t ts from)
        (values-next i whole v vs values) of.1 f.4 in
        let m : ℕ = 24 * fields_entries e (field t ts) (val v vs) in
        subst (λ (x : Recv). Held (rowed e t0 x) v0 m) (sym f.2)
        (subst (λ (x : Recv). Held x v0 m) (sym (rowed-append e t0 f.0 f.1))
        (held_less (append (rowed e t0 f.0) (rowed e t0 f.1)) v0 (24 * inner_entries e t v + 24 * fields_entries e ts vs) m (omega arith)
        (held_append (rowed e t0 f.0) (rowed e t0 f.1) v0 (24 * inner_entries e t v) (24 * fields_entries e ts vs) first rest)))
    fields_held no_fields (val v vs) i all whole below p b t0 v0 is here from values of f = absurd of
    fields_held (field t ts) no_more i all whole below p b t0 v0 is here from values of f = absurd of

    arms_held : (arms : Arms) (below : ℕ) (cs : Cases) (n : ℤ) (w : Val) → IsOfArm arms n w
        → ArmsTraceBy (IsTurned (layout_of e)) no_subs arms below cs
        → case_asked 7 (cases_rowed e arms cs) n w ≤ 7 + 24 * arm_entries e arms n w
    arms_held no_other below cs n w of f = absurd of
    arms_held (others t) below cs n w of f =
        subst (λ (x : Cases). case_asked 7 (cases_rowed e (others t) x) n w ≤ 7 + 24 * inner_entries e t w) (sym f.1)
        (body_held (rowed e t f.0) w (inner_entries e t w)
        (held t below [] f.0 t w w refl refl of (own (TracesBy (IsTurned (layout_of e)) no_subs t) below [] f.0 f.2)))
    arms_held (arm_type k t arms) below cs n w of f =
        subst (λ (x : Cases). case_asked 7 (cases_rowed e (arm_type k t arms) x) n w ≤ 7 + 24 * arm_entries e (arm_type k t arms) n w)
        (sym f.2)
        (arm_if (int_eq n k) (IsOf t w) (IsOfArm arms n w) (7 + asked_after 7 (rowed e t f.0) w) (case_asked 7 (cases_rowed e arms f.1) n w)
        (inner_entries e t w) (arm_entries e arms n w) of
        (λ o. body_held (rowed e t f.0) w (inner_entries e t w)
        (held t below [] f.0 t w w refl refl o (own (TracesBy (IsTurned (layout_of e)) no_subs t) below [] f.0 f.3)))
        (λ o. arms_held arms below f.1 n w o f.4))

  -- a whole code
  pub few_asked : (t : Ty) (below : ℕ) (b : Recv) (v : Val) → IsOf t v → TracesBy (IsTurned (layout_of e)) no_subs t below [] b
      → 7 + asked_after 7 (rowed e t b) v ≤ 24 * entries e t v
  few_asked t below b v of f =
      let most = in_held (rowed e t b) v (24 * inner_entries e t v) (held t below [] b t v v refl refl of f) in
      omega (arith, most)
