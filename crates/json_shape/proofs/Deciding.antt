-- A value is well typed or it is not; so a tree presents a value or none, by mutual induction on types, fields, arms.
use Rattle.std.proofs.Common.{◌≡◌, ◌⊎◌, inl, inr, ℕ, ◌<◌, ◌≤◌, ℤ, List, length, Bool, true, false, ltb, leb, int_eq, IsTrue, MatchBool, refl, Option, Some, None, arith}
use Rattle.std.specs.List.{list_all}
use Rattle.std.proofs.lemmas.Bool.{ltb-true, lt-ltb, leb-true, le-leb}
use Rattle.mint.specs.declared.kind.Kind.{Kind}
use Rattle.mint.specs.declared.kind.Kind.TheVariants as kind
use Rattle.mint.specs.declared.kind.Count.{Count}
use Rattle.mint.specs.declared.kind.Count.TheVariants.{Exactly, AtMost, Any}
use Rattle.mint.specs.Kinds.{Allows, in_range, is_letter}
use Rattle.mint.specs.Values.{Val, void, num, row, group, items, arm, absent, present, Vals, no_more, val, count, weight}
use Rattle.mint.specs.Types.{Array, text, row_of, Ty, void_type, scalar_type, array_type, group_type, items_type, choice_type, maybe_type, Tys, no_fields, field, Arms, no_other, others, arm_type}
use Rattle.mint.specs.Typed.{is_scalar, IsArray, IsOf, AreOf, IsOfArm, Each, IsWellTyped}
use Rattle.pres.specs.Faces.{Face, type_of}
use Rattle.serde_json.specs.Data.{Data}
use Rattle.json_shape.specs.Laws.{IsPresented, ValueOrNone}
use Rattle.json_shape.specs.Reading.{value_of}
use Rattle.json_shape.proofs.Shown.{read_presents, none_presented, misfit_presented}

-- it holds, or it does not
abbrev pub Decided : Type 0 → Type 0
Decided P = P ⊎ (P → ⊥)

two : {P Q : Type 0} → Decided P → Decided Q → Decided (P × Q)
two (inl p) (inl q) = inl (p, q)
two (inl p) (inr miss) = inr (λ h. miss h.1)
two (inr miss) q = inr (λ h. miss h.0)

three : {P Q R : Type 0} → Decided P → Decided Q → Decided R → Decided (P × Q × R)
three (inl p) (inl q) (inl r) = inl (p, q, r)
three (inl p) (inl q) (inr miss) = inr (λ h. miss h.2)
three (inl p) (inr miss) r = inr (λ h. miss h.1)
three (inr miss) q r = inr (λ h. miss h.0)

never : Decided ⊥
never = inr (λ h. h)

test : (b : Bool) → Decided (IsTrue b)
test true = inl refl
test false = inr (λ h. absurd (cc h))

less_by : (m n : ℕ) (b : Bool) → ltb m n ≡ b → Decided (m < n)
less_by m n true e = inl (ltb-true m n e)
less_by m n false e = inr (λ h. absurd (cc (e, lt-ltb m n h)))

less : (m n : ℕ) → Decided (m < n)
less m n = less_by m n (ltb m n) refl

most_by : (m n : ℕ) (b : Bool) → leb m n ≡ b → Decided (m ≤ n)
most_by m n true e = inl (leb-true m n e)
most_by m n false e = inr (λ h. absurd (cc (e, le-leb m n h)))

most : (m n : ℕ) → Decided (m ≤ n)
most m n = most_by m n (leb m n) refl

same_by : (m n : ℕ) → Decided (m ≤ n) → Decided (n ≤ m) → Decided (m ≡ n)
same_by m n (inl a) (inl b) = inl (omega (arith, a, b))
same_by m n (inr miss) b = inr (λ e. miss (omega (arith, e)))
same_by m n a (inr miss) = inr (λ e. miss (omega (arith, e)))

same : (m n : ℕ) → Decided (m ≡ n)
same m n = same_by m n (most m n) (most n m)

same_kind : (j k : Kind) → Decided (j ≡ k)
same_kind kind.Octet kind.Octet = inl refl
same_kind kind.I8 kind.I8 = inl refl
same_kind kind.U8 kind.U8 = inl refl
same_kind kind.Char kind.Char = inl refl
same_kind kind.I16 kind.I16 = inl refl
same_kind kind.U16 kind.U16 = inl refl
same_kind kind.I32 kind.I32 = inl refl
same_kind kind.U32 kind.U32 = inl refl
same_kind kind.I64 kind.I64 = inl refl
same_kind kind.U64 kind.U64 = inl refl
same_kind kind.Bool kind.Bool = inl refl
same_kind _ _ = inr (λ e. cc)

allowed : (c : Count) (n : ℕ) → Decided (Allows c n)
allowed (Exactly m) n = same n m
allowed (AtMost m) n = two (most n m) (less n 4294967296)
allowed Any n = less n 4294967296

array_decided : (a : Array) (k : Kind) (ns : List ℤ) → Decided (IsArray a k ns)
array_decided (text c) k ns = three (same_kind k kind.Char) (allowed c (length ns)) (test (list_all is_letter ns))
array_decided (row_of j c) k ns = three (same_kind k j) (allowed c (length ns)) (test (list_all (in_range j) ns))

each_decided : (P : Val → Type 0) → ((v : Val) → Decided (P v)) → (vs : Vals) → Decided (Each P vs)
each_decided P one no_more = inl tt
each_decided P one (val v vs) = two (one v) (each_decided P one vs)

arm_by : (b : Bool) (P Q : Type 0) → Decided P → Decided Q → Decided (MatchBool b P Q)
arm_by true P Q p q = p
arm_by false P Q p q = q

mutual
  is_of_decided : (t : Ty) (v : Val) → Decided (IsOf t v)
  is_of_decided void_type void = inl tt
  is_of_decided (scalar_type s) (num n) = test (is_scalar s n)
  is_of_decided (array_type a) (row k ns) = array_decided a k ns
  is_of_decided (group_type ts) (group vs) = are_of_decided ts vs
  is_of_decided (items_type c t) (items vs) = two (allowed c (count vs)) (each_decided (IsOf t) (is_of_decided t) vs)
  is_of_decided (choice_type s arms) (arm n v) = two (test (is_scalar s n)) (of_arm_decided arms n v)
  is_of_decided (maybe_type t) absent = inl tt
  is_of_decided (maybe_type t) (present v) = is_of_decided t v
  is_of_decided _ _ = never

  are_of_decided : (ts : Tys) (vs : Vals) → Decided (AreOf ts vs)
  are_of_decided no_fields no_more = inl tt
  are_of_decided (field t ts) (val v vs) = two (is_of_decided t v) (are_of_decided ts vs)
  are_of_decided _ _ = never

  of_arm_decided : (arms : Arms) (n : ℤ) (v : Val) → Decided (IsOfArm arms n v)
  of_arm_decided no_other n v = never
  of_arm_decided (others t) n v = is_of_decided t v
  of_arm_decided (arm_type m t arms) n v = arm_by (int_eq n m) (IsOf t v) (IsOfArm arms n v) (is_of_decided t v) (of_arm_decided arms n v)

typed_by : (t : Ty) (v : Val) → Decided (IsOf t v) → Decided (weight v ≤ 268435456) → Decided (IsWellTyped t v)
typed_by t v (inl is) (inl light) = inl (record { is_of = is; light = light })
typed_by t v (inr miss) light = inr (λ h. miss h.is_of)
typed_by t v is (inr miss) = inr (λ h. miss h.light)

typed_decided : (t : Ty) (v : Val) → Decided (IsWellTyped t v)
typed_decided t v = typed_by t v (is_of_decided t v) (most (weight v) 268435456)

typed_presented : (f : Face) (j : Data) (v : Val) → value_of f j ≡ Some v → Decided (IsWellTyped (type_of f) v) → Decided (IsPresented f j)
typed_presented f j v e (inl typed) = inl (v, read_presents f j v (type_of f) refl e typed)
typed_presented f j v e (inr miss) = inr (λ h. misfit_presented f j v (type_of f) refl e miss h.0 h.1)

presented_by : (f : Face) (j : Data) (o : Option Val) → value_of f j ≡ o → Decided (IsPresented f j)
presented_by f j None e = inr (λ h. none_presented f j e h.0 h.1)
presented_by f j (Some v) e = typed_presented f j v e (typed_decided (type_of f) v)

-- a tree presents a value, or none
pub value_or_none : ValueOrNone
value_or_none = λ f j. presented_by f j (value_of f j) refl
