-- A sound unit can be drawn, and its nodes are regular, by induction on its types and on its interfaces.
use Rattle.std.proofs.Common.{◌≡◌, IsTrue, Bool, true, false, not, ◌&&◌, ◌==◌, ℕ, suc, ◌+◌, ◌-◌, ◌^◌, ◌<◌, ◌≤◌, ℤ, pos, List, [], ◌∷◌, ◌++◌, length, map, nat_lt, nat_le, if◌then◌else◌, Some, refl, sym, ap, ◌∙◌, subst, arith, length-append, slice_index_or, ◌⊎◌, inl, inr}
use Rattle.std.specs.List.{list_all, AllByRecursion}
use Rattle.std.proofs.Math.ListN.{get_or-append}
use Rattle.std.proofs.Math.Seq.{get_or-append_seam, take-length}
use Rattle.std.proofs.lemmas.Bool.{ltb-true, ltb-false, lt-ltb, le-leb, leb-true, and_parts}
use Rattle.std.proofs.lemmas.List.{length-map, take-append-le}
use Rattle.mint.specs.declared.kind.Kind.TheVariants as kind
use Rattle.mint.specs.Kinds.{in_range}
use Rattle.mint.specs.Blank.{blank}
use Rattle.mint.specs.Values.{weight}
use Rattle.mint.specs.Sound.{arm_numbers, rise_from}
use Rattle.wire_def.specs.declared.encoding.Back.{Back}
use Rattle.aoi.specs.Shapes as aoi
use Rattle.aoi.specs.Plain.{PlainRaise, PlainOperation, PlainInterface, PlainUnit, plain_shapes, is_sound_plain_raise, is_sound_plain_operation, is_sound_plain_interface, is_sound_plain}
use Rattle.aoi.specs.Sound.{are_distinct, count_different, names_of, has_member, unfolded, is_sound_union, is_some_count, or_void, is_sound_type, are_sound, are_sound_arms, are_sound_types}
use Rattle.pres.specs.Faces.{Face, nothing, type_of, arm_types_of}
use Rattle.pres.specs.Made.{made, made_inside, made_in_types, made_raised, made_request, made_answer, made_reply, made_by, made_in_interfaces, all_made}
use Rattle.pres.specs.Offers.{face_of, faces_of, type_faces, exception, raised, reply_of, null_operation, gets_null, gotten}
use Rattle.pres.specs.Drafts.{is_drawable, are_drawable, arms_drawable, AreDrawable, IsDrawableOperation, IsDrawableInterface, IsDrawableUnit}
use Rattle.pres.specs.Regular.{IsRegular, AreRegular}
use Rattle.pres.proofs.Regular.{regular_both, regular_one}
use Rattle.pres.proofs.Soundly.{Standing, made_regular, made_weighs, inside_regular, void_or}

-- ---- what is sound is drawable

mutual
  drawable : (ss : List aoi.Shape) (l : ℕ) (s : aoi.Shape) → is_sound_type ss l s ≡ true → is_drawable l s ≡ true
  drawable ss l aoi.void h = refl
  drawable ss l (aoi.number k) h = refl
  drawable ss l (aoi.enumeration items) h =
      (and_parts (not (length items == 0) && nat_le (count_different (map (λ i. i.1) items)) 4096)
      (are_distinct (map (λ i. i.0) items)) h).1
  drawable ss l (aoi.text c) h = refl
  drawable ss l (aoi.array s c) h = drawable ss l s ((and_parts (is_some_count c) (is_sound_type ss l s) h).1)
  drawable ss l (aoi.structure ms) h =
      let p = and_parts (has_member ms && are_distinct (names_of ms)) (are_sound ss l ms) h in
      let q = and_parts (has_member ms) (are_distinct (names_of ms)) p.0 in
      rw (q.1, all_drawable ss l ms p.1) refl
  drawable ss l (aoi.choice tag arms) h =
      let p = and_parts (is_sound_type ss l tag && is_sound_union (unfolded l ss l tag) arms) (are_sound_arms ss l arms) h in
      let q = and_parts (is_sound_type ss l tag) (is_sound_union (unfolded l ss l tag) arms) p.0 in
      rw (drawable ss l tag q.0, after_drawable ss l arms p.1) refl
  drawable ss l (aoi.optional s) h = drawable ss l s h
  drawable ss l (aoi.named k) h = h

  all_drawable : (ss : List aoi.Shape) (l : ℕ) (ms : aoi.Members) → are_sound ss l ms ≡ true → are_drawable l ms ≡ true
  all_drawable ss l aoi.no_more h = refl
  all_drawable ss l (aoi.member n s ms) h =
      let p = and_parts (is_sound_type ss l s) (are_sound ss l ms) h in
      rw (drawable ss l s p.0, all_drawable ss l ms p.1) refl

  after_drawable : (ss : List aoi.Shape) (l : ℕ) (arms : aoi.Arms) → are_sound_arms ss l arms ≡ true → arms_drawable l arms ≡ true
  after_drawable ss l aoi.no_default h = refl
  after_drawable ss l (aoi.default s) h = or_drawable ss l s h (drawable ss l s)
  after_drawable ss l (aoi.arm n s arms) h =
      let p = and_parts (or_void s (is_sound_type ss l s)) (are_sound_arms ss l arms) h in
      rw (or_drawable ss l s p.0 (drawable ss l s), after_drawable ss l arms p.1) refl

  or_drawable : (ss : List aoi.Shape) (l : ℕ) (s : aoi.Shape) → or_void s (is_sound_type ss l s) ≡ true
      → (is_sound_type ss l s ≡ true → is_drawable l s ≡ true)
      → is_drawable l s ≡ true
  or_drawable ss l aoi.void h f = refl
  or_drawable ss l (aoi.number k) h f = f h
  or_drawable ss l (aoi.enumeration items) h f = f h
  or_drawable ss l (aoi.text c) h f = f h
  or_drawable ss l (aoi.array s c) h f = f h
  or_drawable ss l (aoi.structure ms) h f = f h
  or_drawable ss l (aoi.choice tag arms) h f = f h
  or_drawable ss l (aoi.optional s) h f = f h
  or_drawable ss l (aoi.named k) h f = f h

types_drawable : (ss : List aoi.Shape) (l : ℕ) (rest : List aoi.Shape) → are_sound_types ss l rest ≡ true → AreDrawable l rest
types_drawable ss l [] h = tt
types_drawable ss l (s ∷ rest) h =
    let p = and_parts (is_sound_type ss l s) (are_sound_types ss (l + 1) rest) h in
    let next : l + 1 ≡ suc l = omega arith in
    (drawable ss l s p.0, types_drawable ss (suc l) rest (rw next at p.1))

-- the parts of a sound operation
record IsSoundOperation (ss : List aoi.Shape) (op : PlainOperation) : Type 0 where
  ins : are_sound ss (length ss) op.ins ≡ true
  outs : are_sound ss (length ss) op.outs ≡ true
  result : or_void op.result (is_sound_type ss (length ss) op.result) ≡ true
  few : length op.raises ≤ 4095
  raises : list_all (is_sound_plain_raise ss) op.raises ≡ true

operation_parts : (ss : List aoi.Shape) (slots : ℕ) (op : PlainOperation) → is_sound_plain_operation ss slots op ≡ true
    → IsSoundOperation ss op
operation_parts ss slots op h =
    let n : ℕ = length ss in
    let i : Bool = are_sound ss n op.ins in
    let o : Bool = are_sound ss n op.outs in
    let r : Bool = or_void op.result (is_sound_type ss n op.result) in
    let f : Bool = nat_le (length op.raises) 4095 in
    let e : Bool = list_all (is_sound_plain_raise ss) op.raises in
    let a = and_parts ((((i && o) && r) && f) && e) (nat_lt op.slot slots) h in
    let b = and_parts (((i && o) && r) && f) e a.0 in
    let c = and_parts ((i && o) && r) f b.0 in
    let d = and_parts (i && o) r c.0 in
    let g = and_parts i o d.0 in
    record { ins = g.0; outs = g.1; result = d.1; few = leb-true (length op.raises) 4095 c.1; raises = b.1 }

raises_drawable : (ss : List aoi.Shape) (rs : List PlainRaise) → list_all (is_sound_plain_raise ss) rs ≡ true
    → AllByRecursion (λ r. IsTrue (is_drawable (length ss) (exception r))) rs
raises_drawable ss [] h = tt
raises_drawable ss (r ∷ rs) h =
    let p = and_parts (is_sound_plain_raise ss r) (list_all (is_sound_plain_raise ss) rs) h in
    let q = and_parts (are_distinct (names_of r.members)) (are_sound ss (length ss) r.members) p.0 in
    (rw (q.0, all_drawable ss (length ss) r.members q.1) refl, raises_drawable ss rs p.1)

operation_drawable : (ss : List aoi.Shape) (op : PlainOperation) → IsSoundOperation ss op → IsDrawableOperation (length ss) op
operation_drawable ss op s = record {
  ins = all_drawable ss (length ss) op.ins s.ins;
  outs = all_drawable ss (length ss) op.outs s.outs;
  result = or_drawable ss (length ss) op.result s.result (drawable ss (length ss) op.result);
  raises = raises_drawable ss op.raises s.raises;
}

operations_drawable : (ss : List aoi.Shape) (slots : ℕ) (ops : List PlainOperation)
    → list_all (is_sound_plain_operation ss slots) ops ≡ true
    → AllByRecursion (IsDrawableOperation (length ss)) ops
operations_drawable ss slots [] h = tt
operations_drawable ss slots (op ∷ ops) h =
    let p = and_parts (is_sound_plain_operation ss slots op) (list_all (is_sound_plain_operation ss slots) ops) h in
    (operation_drawable ss op (operation_parts ss slots op p.0), operations_drawable ss slots ops p.1)

interfaces_drawable : (ss : List aoi.Shape) (is : List PlainInterface) → list_all (is_sound_plain_interface ss) is ≡ true
    → AllByRecursion (IsDrawableInterface (length ss)) is
interfaces_drawable ss [] h = tt
interfaces_drawable ss (i ∷ is) h =
    let p = and_parts (is_sound_plain_interface ss i) (list_all (is_sound_plain_interface ss) is) h in
    let q = and_parts (nat_le (i.base + i.slots + 100) (2 ^ 31 - 1)) (list_all (is_sound_plain_operation ss i.slots) i.ops) p.0 in
    (operations_drawable ss i.slots i.ops q.1, interfaces_drawable ss is p.1)

pub unit_drawable : (u : PlainUnit) → is_sound_plain u ≡ true → IsDrawableUnit u
unit_drawable u h =
    let ss : List aoi.Shape = plain_shapes u in
    let p = and_parts (are_sound_types ss 0 ss) (list_all (is_sound_plain_interface ss) u.interfaces) h in
    let count : length ss ≡ length u.types = length-map u.types (λ (t : List ℕ × aoi.Shape). t.1) in
    record {
      types = types_drawable ss 0 ss p.0;
      interfaces = subst (λ n. AllByRecursion (IsDrawableInterface n) u.interfaces) count (interfaces_drawable ss u.interfaces p.1);
    }

-- ---- what is sound is regular

-- one more type that is there
stand_on : (ss : List aoi.Shape) (fs : List Face) (l : ℕ) (s : aoi.Shape) → l ≡ length fs → Standing ss fs l
    → slice_index_or ss l aoi.void ≡ s → is_sound_type ss l s ≡ true
    → Standing ss (fs ++ face_of fs s ∷ []) (suc l)
stand_on ss fs l s long st is h = record {
  sound = λ k lt. elim (last k lt) [ inl less ↦ st.sound k less | inr same ↦ rw (same, is) h ];
  named = λ k lt. elim (last k lt) [
    | inl less ↦ get_or-append fs (face_of fs s ∷ []) nothing k (omega (arith, less, long)) ∙ st.named k less
        ∙ ap (λ z. face_of z (slice_index_or ss k aoi.void)) (sym (take-append-le k fs (face_of fs s ∷ []) (omega (arith, less, long))))
    | inr same ↦ rw (same, is, long) (get_or-append_seam fs (face_of fs s) [] nothing
        ∙ ap (λ z. face_of z s) (sym (take-append-le (length fs) fs (face_of fs s ∷ []) (omega arith) ∙ take-length fs)))
  ];
  weigh = λ k lt. elim (last k lt) [
    | inl less ↦ subst
        (λ f.
        1 ≤ weight (blank (type_of f))) (sym (get_or-append fs (face_of fs s ∷ []) nothing k (omega (arith, less, long))))
        (st.weigh k less)
    | inr same ↦ rw (same, long)
        (subst (λ f. 1 ≤ weight (blank (type_of f))) (sym (get_or-append_seam fs (face_of fs s) [] nothing)) (made_weighs ss fs l s st h))
  ];
}
  where
    last : (k : ℕ) → k < suc l → (k < l) ⊎ (k ≡ l)
    last k lt = by (nat_lt k l) refl where
      by : (b : Bool) → nat_lt k l ≡ b → (k < l) ⊎ (k ≡ l)
      by true e = inl (ltb-true k l e)
      by false e = inr (omega (arith, lt, ltb-false k l e))

types_regular : (ss : List aoi.Shape) (fs : List Face) (l : ℕ) (rest : List aoi.Shape) → l ≡ length fs → Standing ss fs l
    → ((k : ℕ) → slice_index_or rest k aoi.void ≡ slice_index_or ss (l + k) aoi.void) → are_sound_types ss l rest ≡ true
    → AreRegular (made_in_types fs rest) × Standing ss (faces_of fs rest) (l + length rest)
types_regular ss fs l [] long st same h = let zero_more : l + 0 ≡ l = omega arith in (tt, rw zero_more st)
types_regular ss fs l (s ∷ rest) long st same h =
    let p = and_parts (is_sound_type ss l s) (are_sound_types ss (l + 1) rest) h in
    let next : l + 1 ≡ suc l = omega arith in
    let zero_more : l + 0 ≡ l = omega arith in
    let is : slice_index_or ss l aoi.void ≡ s = sym (rw zero_more at (same 0)) in
    let longer : suc l ≡ length (fs ++ face_of fs s ∷ []) = omega (arith, long, length-append fs (face_of fs s ∷ [])) in
    let on = types_regular ss (fs ++ face_of fs s ∷ []) (suc l) rest longer (stand_on ss fs l s long st is p.0)
    (λ k. let shift : suc l + k ≡ l + suc k = omega arith in rw shift (same (suc k))) (rw next at p.1) in
    let shift : suc l + length rest ≡ l + suc (length rest) = omega arith in
    (regular_both (made fs s) _ (made_regular ss fs l s st p.0) on.0, rw (← shift) on.1)

raised_numbers : (fs : List Face) (k : ℕ) (rs : List PlainRaise)
    → rise_from (Some (pos k)) (arm_numbers (arm_types_of (raised fs (suc k) rs))) ≡ true
raised_numbers fs k [] = refl
raised_numbers fs k (r ∷ rs) = let up : nat_lt k (suc k) ≡ true = lt-ltb k (suc k) (omega arith) in rw (up, raised_numbers fs (suc k) rs)
    refl

pub raised_count : (fs : List Face) (k : ℕ) (rs : List PlainRaise) → length (arm_numbers (arm_types_of (raised fs k rs))) ≡ length rs
raised_count fs k [] = refl
raised_count fs k (r ∷ rs) = ap suc (raised_count fs (suc k) rs)

raised_ranged : (fs : List Face) (k : ℕ) (rs : List PlainRaise) → k + length rs ≤ 4096
    → list_all (in_range kind.U32) (arm_numbers (arm_types_of (raised fs k rs))) ≡ true
raised_ranged fs k [] few = refl
raised_ranged fs k (r ∷ rs) few =
    let here : nat_lt k 4294967296 ≡ true = lt-ltb k 4294967296 (omega (arith, few)) in
    rw (here, raised_ranged fs (suc k) rs (omega (arith, few))) refl

reply_regular : (fs : List Face) (op : PlainOperation) → length op.raises ≤ 4095 → IsRegular (type_of (reply_of fs op))
reply_regular fs op few =
    let ns : List ℤ = arm_numbers (arm_types_of (raised fs 1 op.raises)) in
    let count : nat_le (suc (length ns)) 4096 ≡ true = le-leb _ _ (omega (arith, few, raised_count fs 1 op.raises)) in
    let rise : rise_from (Some (pos 0)) ns ≡ true = raised_numbers fs 0 op.raises in
    let range : list_all (in_range kind.U32) ns ≡ true = raised_ranged fs 1 op.raises (omega (arith, few)) in
    record { fit = refl; full = refl; labelled = λ r. rw (count, rise, range) refl }

raises_regular : (ss : List aoi.Shape) (fs : List Face) (rs : List PlainRaise) → Standing ss fs (length ss)
    → list_all (is_sound_plain_raise ss) rs ≡ true
    → AreRegular (made_raised fs rs)
raises_regular ss fs [] st h = tt
raises_regular ss fs (r ∷ rs) st h =
    let p = and_parts (is_sound_plain_raise ss r) (list_all (is_sound_plain_raise ss) rs) h in
    let q = and_parts (are_distinct (names_of r.members)) (are_sound ss (length ss) r.members) p.0 in
    regular_both (made fs (exception r)) (made_raised fs rs)
    (regular_one (made_inside fs r.members) _ (inside_regular ss fs (length ss) r.members st q.1)
    (record { fit = refl; full = refl; labelled = λ r. refl }))
    (raises_regular ss fs rs st p.1)

operation_regular : (ss : List aoi.Shape) (fs : List Face) (op : PlainOperation) → Standing ss fs (length ss) → IsSoundOperation ss op
    → AreRegular (made_request fs op ++ made_reply fs op)
operation_regular ss fs op st s =
    let n : ℕ = length ss in
    let result : AreRegular (made fs op.result) = void_or ss fs n op.result s.result (made_regular ss fs n op.result st) in
    let outs : AreRegular (made_inside fs op.outs) = inside_regular ss fs n op.outs st s.outs in
    let answer : AreRegular (made_answer fs op) = regular_one _ _ (regular_both (made fs op.result) (made_inside fs op.outs) result outs)
    (record { fit = refl; full = refl; labelled = λ r. refl }) in
    regular_both (made_request fs op) (made_reply fs op)
    (regular_one (made_inside fs op.ins) _ (inside_regular ss fs n op.ins st s.ins)
    (record { fit = refl; full = refl; labelled = λ r. refl }))
    (regular_one (made_answer fs op ++ made_raised fs op.raises) _
    (regular_both (made_answer fs op) (made_raised fs op.raises) answer (raises_regular ss fs op.raises st s.raises))
    (reply_regular fs op s.few))

operations_regular : (ss : List aoi.Shape) (fs : List Face) (slots : ℕ) (ops : List PlainOperation)
    → Standing ss fs (length ss) → list_all (is_sound_plain_operation ss slots) ops ≡ true
    → AreRegular (made_by fs ops)
operations_regular ss fs slots [] st h = tt
operations_regular ss fs slots (op ∷ ops) st h =
    let p = and_parts (is_sound_plain_operation ss slots op) (list_all (is_sound_plain_operation ss slots) ops) h in
    regular_both (made_request fs op ++ made_reply fs op) (made_by fs ops)
    (operation_regular ss fs op st (operation_parts ss slots op p.0)) (operations_regular ss fs slots ops st p.1)

null_sound : (ss : List aoi.Shape) → IsSoundOperation ss null_operation
null_sound ss = record { ins = refl; outs = refl; result = refl; few = omega arith; raises = refl }

gotten_regular : (ss : List aoi.Shape) (fs : List Face) (b : Back) (i : PlainInterface) → Standing ss fs (length ss)
    → AreRegular (made_by fs (gotten b i))
gotten_regular ss fs b i st = by (gets_null b i) where
  by : (t : Bool) → AreRegular (made_by fs (if t then null_operation ∷ [] else []))
  by true = regular_both (made_request fs null_operation ++ made_reply fs null_operation) []
      (operation_regular ss fs null_operation st (null_sound ss)) tt
  by false = tt

interfaces_regular : (ss : List aoi.Shape) (fs : List Face) (b : Back) (is : List PlainInterface)
    → Standing ss fs (length ss) → list_all (is_sound_plain_interface ss) is ≡ true
    → AreRegular (made_in_interfaces fs b is)
interfaces_regular ss fs b [] st h = tt
interfaces_regular ss fs b (i ∷ is) st h =
    let p = and_parts (is_sound_plain_interface ss i) (list_all (is_sound_plain_interface ss) is) h in
    let q = and_parts (nat_le (i.base + i.slots + 100) (2 ^ 31 - 1)) (list_all (is_sound_plain_operation ss i.slots) i.ops) p.0 in
    regular_both (made_by fs i.ops ++ made_by fs (gotten b i)) (made_in_interfaces fs b is)
    (regular_both (made_by fs i.ops) (made_by fs (gotten b i)) (operations_regular ss fs i.slots i.ops st q.1)
    (gotten_regular ss fs b i st))
    (interfaces_regular ss fs b is st p.1)

pub unit_regular : (u : PlainUnit) (b : Back) → is_sound_plain u ≡ true → AreRegular (all_made u b)
unfolding all_made type_faces
unit_regular u b h =
    let ss : List aoi.Shape = plain_shapes u in
    let p = and_parts (are_sound_types ss 0 ss) (list_all (is_sound_plain_interface ss) u.interfaces) h in
    let none : Standing ss [] 0 =
    record {
      sound = λ k lt. absurd (omega (arith, lt));
      named = λ k lt. absurd (omega (arith, lt));
      weigh = λ k lt.
          absurd (omega (arith, lt));
    } in
    let front = types_regular ss [] 0 ss refl none (λ k. let same : 0 + k ≡ k = omega arith in rw same refl) p.0 in
    let same : 0 + length ss ≡ length ss = omega arith in
    regular_both (made_in_types [] ss) _ front.0 (interfaces_regular ss (type_faces u) b u.interfaces (rw same at front.1) p.1)
