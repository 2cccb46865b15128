-- What is sent is a spelling, by mutual induction on types, fields and arms.
use Rattle.std.proofs.Common.{◌≡◌, ℕ, zero, suc, ◌+◌, ◌<◌, ◌≤◌, ℤ, pos, negsuc, List, [], ◌∷◌, length, replicate, Bool, not, true, false, cond, ltb, int_eq, true≢false, refl, sym, arith}
use Rattle.std.specs.Prelude.{MatchBool}
use Rattle.std.specs.List.{list_all}
use Rattle.std.specs.Int.{Width, w8, w16, w32}
use Rattle.std.proofs.Math.Nat.{mod-lt}
use Rattle.std.proofs.lemmas.Bool.{ltb-true, lt-ltb, le-leb}
use Rattle.std.proofs.lemmas.List.{length-replicate}
use Rattle.mint.specs.declared.kind.Kind.{Kind}
use Rattle.mint.specs.declared.kind.Kind.TheVariants as kind
use Rattle.mint.specs.declared.kind.Count.{Count}
use Rattle.mint.specs.declared.kind.Count.TheVariants.{Exactly, AtMost, Any}
use Rattle.mint.specs.Kinds.{Allows, in_range, is_letter}
use Rattle.mint.specs.Values.{Val, void, num, row, group, items, arm, absent, present, Vals, no_more, val, count, list_of, weight, weights}
use Rattle.mint.specs.Types.{Scalar, number, label, Array, text, row_of, Ty, void_type, scalar_type, array_type, group_type, items_type, choice_type, maybe_type, Tys, no_fields, field, Arms, no_other, others, arm_type}
use Rattle.mint.specs.Typed.{IsScalar, IsArray, IsOf, AreOf, IsOfArm, Each, has_arm}
use Rattle.wire_def.specs.declared.encoding.Encoding.{Encoding}
use Rattle.wire_def.specs.declared.encoding.Encoding.TheVariants.{Xdr, CdrBig, CdrLittle, Mach}
use Rattle.wire_def.specs.Grammar.{SpellTimes}
use Rattle.kit_base.specs.Bytes.{le}
use Rattle.wire_def.specs.Lone.{scalar_word, filling, lone_octets, LoneSpells}
use Rattle.wire_def.specs.Scalars.{full, gap, residue, width_of, alignment_of, WordSpells, scalar_octets, ScalarSpells}
use Rattle.wire_def.specs.Arrays.{natural, counted, ended_octets, EndedSpells, head_octets, HeadSpells, trailing, TailSpells, count_of, count_octets, CountSpells, OctetSpells, kind_of, element_octets, elements_octets, ElementSpells, array_octets, ArraySpells}
use Rattle.wire_def.specs.Send.{flag, send_each, send, send_fields, send_arm}
use Rattle.wire_def.specs.Spells.{Spells, FieldsSpell, ArmSpells}
use Rattle.wire_def.proofs.DescribedGrammar.{is_allowed, described_sent}
use Rattle.wire_def.proofs.ScalarGrammar.{left_true, right_true}

full_pos : (w : Width) → 0 < full w
full_pos w8 = omega arith
full_pos w16 = omega arith
full_pos w32 = omega arith
full_pos _ = omega arith

residue_below : (w : Width) (n : ℤ) → residue w n < full w
residue_below w (pos n) = mod-lt n (full_pos w)
residue_below w (negsuc n) = omega (arith, full_pos w)

pub scalar_sent : (e : Encoding) (s : Scalar) (p : ℕ) (n : ℤ) → IsScalar s n → ScalarSpells e s p (scalar_octets e s p n) n
unfolding ScalarSpells scalar_octets WordSpells
scalar_sent e s p n h = ((replicate (gap p (alignment_of e s)) 0, length-replicate _ _, refl, residue_below (width_of e s) n), h)

pub word_below : (s : Scalar) → scalar_word s < 4294967296
word_below (label labels) = omega arith
word_below (number kind.Octet) = omega arith
word_below (number kind.I8) = omega arith
word_below (number kind.U8) = omega arith
word_below (number kind.Char) = omega arith
word_below (number kind.I16) = omega arith
word_below (number kind.U16) = omega arith
word_below (number kind.I32) = omega arith
word_below (number kind.U32) = omega arith
word_below (number kind.I64) = omega arith
word_below (number kind.U64) = omega arith
word_below (number kind.Bool) = omega arith

pub lone_sent : (e : Encoding) (s : Scalar) (p : ℕ) (n : ℤ) → IsScalar s n → LoneSpells e s p (lone_octets e s p n) n
unfolding WordSpells
lone_sent Xdr s p n h = scalar_sent Xdr s p n h
lone_sent CdrBig s p n h = scalar_sent CdrBig s p n h
lone_sent CdrLittle s p n h = scalar_sent CdrLittle s p n h
lone_sent Mach s p n h =
    let none : gap p 1 ≡ 0 = omega arith in (
      le 4 (scalar_word s),
      _,
      refl,
      ([], sym none, refl, word_below s),
      (scalar_octets Mach s (p + 4) n, replicate (filling s) 0, refl, scalar_sent Mach s (p + 4) n h, length-replicate (filling s) 0),
    )

count_sent : (e : Encoding) (c : Count) (p n : ℕ) → Allows c n → CountSpells e c p (count_octets e c p n) n
unfolding CountSpells count_octets
count_sent e (Exactly m) p n h = (refl, sym h)
count_sent e (AtMost m) p n h = (lone_sent e counted p (pos n) (lt-ltb n 4294967296 h.1), le-leb n m h.0)
count_sent e Any p n h = lone_sent e counted p (pos n) (lt-ltb n 4294967296 h)

ended_sent : (e : Encoding) (c : Count) (p n : ℕ) → Allows c n → n < 268435456 → EndedSpells e c p (ended_octets e p n) n
ended_sent e c p n h few = (scalar_sent e counted p (pos (suc n)) (lt-ltb (suc n) 4294967296 (omega arith)), is_allowed c n h)

head_sent : (e : Encoding) (a : Array) (p n : ℕ) → Allows (count_of a) n → n < 268435456 → HeadSpells e a p (head_octets e a p n) n
unfolding HeadSpells head_octets
head_sent Xdr a p n h few = count_sent Xdr (count_of a) p n h
head_sent Mach a p n h few = described_sent (count_of a) (number (kind_of a)) p n h few
head_sent CdrBig (text c) p n h few = ended_sent CdrBig c p n h few
head_sent CdrBig (row_of k c) p n h few = count_sent CdrBig c p n h
head_sent CdrLittle (text c) p n h few = ended_sent CdrLittle c p n h few
head_sent CdrLittle (row_of k c) p n h few = count_sent CdrLittle c p n h

tail_sent : (e : Encoding) (a : Array) (p n : ℕ) → TailSpells e a n p (replicate (trailing e a n) 0) tt
unfolding TailSpells
tail_sent Xdr a p n = refl
tail_sent CdrBig a p n = refl
tail_sent CdrLittle a p n = refl
tail_sent Mach a p n = length-replicate (trailing Mach a n) 0

-- what an element of the array is
abbrev pub is_element : Array → ℤ → Bool
is_element (text c) = is_letter
is_element (row_of k c) = in_range k

octet_sent : (test : ℕ → Bool) (k : Kind) (p : ℕ) (n : ℤ) → in_range k n ≡ true → Rattle.mint.specs.Kinds.under k ≡ 0
    → test (natural n) ≡ true
    → OctetSpells test p (natural n ∷ []) n
unfolding OctetSpells
octet_sent test k p (pos n) h none ok = (n, refl, refl, ok)
octet_sent test k p (negsuc n) h none ok = absurd (omega (arith, ltb-true _ _ h))

letter_ok : (n : ℤ) → is_letter n ≡ true → ltb 0 (natural n) ≡ true
letter_ok (pos zero) h = absurd (true≢false (sym (right_true (in_range kind.Char (pos 0)) (not (int_eq (pos 0) (pos 0))) h)))
letter_ok (pos (suc n)) h = lt-ltb 0 (suc n) (omega arith)
letter_ok (negsuc n) h = absurd (omega (arith, ltb-true n 0 (left_true _ _ h)))

element_sent : (e : Encoding) (a : Array) (p : ℕ) (n : ℤ) → is_element a n ≡ true → ElementSpells e a p (element_octets e a p n) n
unfolding ElementSpells element_octets
element_sent e (text c) p n h = octet_sent _ kind.Char p n (left_true _ _ h) refl (letter_ok n h)
element_sent e (row_of kind.Octet c) p n h = octet_sent _ kind.Octet p n h refl refl
element_sent e (row_of k c) p n h = scalar_sent e (number k) p n h

elements_sent : (e : Encoding) (a : Array) (p : ℕ) (ns : List ℤ) → list_all (is_element a) ns ≡ true
    → SpellTimes (ElementSpells e a) (length ns) p (elements_octets (element_octets e a) p ns) ns
unfolding elements_octets
elements_sent e a p [] h = refl
elements_sent e a p (n ∷ ns) h = (
  element_octets e a p n,
  _,
  refl,
  element_sent e a p n (left_true _ _ h),
  elements_sent e a (p + length (element_octets e a p n)) ns
      (right_true _ _ h),
)

array_sent : (e : Encoding) (a : Array) (p : ℕ) (k : Kind) (ns : List ℤ) → IsArray a k ns → length ns < 268435456
    → (k ≡ kind_of a) × ArraySpells e a p (array_octets e a p ns) ns
unfolding ArraySpells array_octets
array_sent e (text c) p k ns h few = (
  h.0,
  (
    _,
    _,
    refl,
    head_sent e (text c) p (length ns) h.1 few,
    (_, _, refl, elements_sent e (text c) _ ns h.2, tail_sent e (text c) _ (length ns)),
  ),
)
array_sent e (row_of k' c) p k ns h few = (
  h.0,
  (
    _,
    _,
    refl,
    head_sent e (row_of k' c) p (length ns) h.1 few,
    (_, _, refl, elements_sent e (row_of k' c) _ ns h.2, tail_sent e (row_of k' c) _ (length ns)),
  ),
)

-- values of a weight
abbrev pub IsLight : ℕ → Type 0
IsLight n = n ≤ 268435456

-- each of the elements
each_sent : (e : Encoding) (t : Ty) → ((p : ℕ) (v : Val) → IsOf t v → IsLight (weight v) → Spells e t p (send e t p v) v)
    → (p : ℕ) (vs : Vals) → Each (IsOf t) vs → IsLight (weights vs)
    → SpellTimes (Spells e t) (count vs) p (send_each (send e t) p vs) (list_of vs)
each_sent e t one p no_more h few = refl
each_sent e t one p (val v vs) h few =
    (_, _, refl, one p v h.0 (omega arith), each_sent e t one (p + length (send e t p v)) vs h.1 (omega arith))

armed_at : (P Q : Type 0) (b : Bool) {c : Bool} → MatchBool b P Q → (Q → c ≡ true) → cond b true c ≡ true
armed_at P Q true h more = refl
armed_at P Q false h more = more h

armed : (arms : Arms) (n : ℤ) (v : Val) → IsOfArm arms n v → has_arm arms n ≡ true
armed no_other n v h = absurd h
armed (others t) n v h = refl
armed (arm_type m t arms) n v h = armed_at (IsOf t v) (IsOfArm arms n v) (int_eq n m) h (armed arms n v)

arm_at : (b : Bool) {P Q : Type 0} (x y : List ℕ) (S T : List ℕ → Type 0) → (P → S x) → (Q → T y) → MatchBool b P Q
    → MatchBool b (S (cond b x y)) (T (cond b x y))
arm_at true x y S T f g h = f h
arm_at false x y S T f g h = g h

mutual
  unfolding send

  pub sent : (e : Encoding) (t : Ty) (p : ℕ) (v : Val) → IsOf t v → IsLight (weight v) → Spells e t p (send e t p v) v
  sent e void_type p void h few = refl
  sent e (scalar_type s) p (num n) h few = lone_sent e s p n h
  sent e (array_type a) p (row k ns) h few = array_sent e a p k ns h (omega arith)
  sent e (group_type ts) p (group vs) h few = fields_sent e ts p vs h few
  sent e (items_type c t) p (items vs) h few =
      (_, _, refl, count_sent e c p (count vs) h.0, each_sent e t (sent e t) _ vs h.1 (omega arith))
  sent e (choice_type s arms) p (arm n v) h few =
      (_, _, refl, (lone_sent e s p n h.0, armed arms n v h.1), arm_sent e arms n _ v h.1 (omega arith))
  sent e (maybe_type t) p absent h few = lone_sent e flag p (pos 0) refl
  sent e (maybe_type t) p (present v) h few = (_, _, refl, lone_sent e flag p (pos 1) refl, sent e t _ v h (omega arith))
  sent e _ p _ h few = absurd h

  pub fields_sent : (e : Encoding) (ts : Tys) (p : ℕ) (vs : Vals) → AreOf ts vs → IsLight (weights vs)
      → FieldsSpell e ts p (send_fields e ts p vs) vs
  fields_sent e no_fields p no_more h few = refl
  fields_sent e (field t ts) p (val v vs) h few = (_, _, refl, sent e t p v h.0 (omega arith), fields_sent e ts _ vs h.1 (omega arith))
  fields_sent e _ p _ h few = absurd h

  pub arm_sent : (e : Encoding) (arms : Arms) (n : ℤ) (p : ℕ) (v : Val) → IsOfArm arms n v → IsLight (weight v)
      → ArmSpells e arms n p (send_arm e arms n p v) v
  arm_sent e no_other n p v h few = absurd h
  arm_sent e (others t) n p v h few = sent e t p v h few
  arm_sent e (arm_type m t arms) n p v h few = arm_at (int_eq n m) (send e t p v) (send_arm e arms n p v)
      (λ o. Spells e t p o v) (λ o. ArmSpells e arms n p o v) (λ j. sent e t p v j few) (λ j. arm_sent e arms n p v j few) h
