-- Each weighted part of a value begins at an octet, and few at one, by mutual induction on types, fields and arms.
use Rattle.std.proofs.Common.{◌≡◌, ◌⊎◌, inl, inr, ℕ, zero, suc, ◌+◌, ◌*◌, ◌≤◌, ℤ, pos, List, [], ◌∷◌, length, Bool, true, false, ◌&&◌, int_eq, refl, ap, arith, length-append}
use Rattle.std.specs.Prelude.{MatchBool}
use Rattle.std.specs.Int.{Width, w8, w16, w32, w64, byte_len}
use Rattle.std.proofs.Math.Nat.{mul-le-mul_left, mul-le-mul_right}
use Rattle.mint.specs.declared.kind.Kind.TheVariants as kind
use Rattle.mint.specs.declared.kind.Count.{Count}
use Rattle.mint.specs.declared.kind.Count.TheVariants.{Exactly, AtMost, Any}
use Rattle.mint.specs.Values.{Val, void, num, row, group, items, arm, absent, present, Vals, no_more, val, count, list_of, weight, weights}
use Rattle.mint.specs.Types.{Scalar, number, Array, text, row_of, Ty, void_type, scalar_type, array_type, group_type, items_type, choice_type, maybe_type, Tys, no_fields, field, Arms, no_other, others, arm_type}
use Rattle.wire_def.specs.declared.encoding.Encoding.{Encoding}
use Rattle.wire_def.specs.declared.encoding.Encoding.TheVariants.{Xdr, CdrBig, CdrLittle, Mach}
use Rattle.wire_def.specs.Grammar.{Spelling, SpellTimes}
use Rattle.wire_def.specs.Scalars.{residue, width_of, WordSpells, ScalarSpells}
use Rattle.wire_def.specs.Lone.{LoneSpells}
use Rattle.wire_def.specs.Arrays.{counted, CountSpells, HeadSpells, OctetSpells, count_of, kind_of, ElementSpells, ArraySpells}
use Rattle.wire_def.specs.Spells.{Spells, FieldsSpell, ArmSpells}
use Rattle.mint.specs.Blank.{depth, fields_depth, arms_depth}
use Rattle.mint.specs.Sound.{IsSound}
use Rattle.wire_def.specs.Hollow.{is_hollow, are_hollow}
use Rattle.wire_def.proofs.Sound.{IsCount, TakesRoom, FieldsTakeRoom, ArmsTakeRoom, room, shallow}
use Rattle.wire_def.proofs.Words.{wide}
use Rattle.wire_def.proofs.DescribedGrammar.{described_long}

byte_len_least : (w : Width) → 1 ≤ byte_len w
byte_len_least w8 = omega arith
byte_len_least w16 = omega arith
byte_len_least w32 = omega arith
byte_len_least w64 = omega arith
byte_len_least _ = omega arith

not_both : (a b : Bool) → a && b ≡ false → (a ≡ false) ⊎ (b ≡ false)
not_both false b h = inl refl
not_both true b h = inr h

pub match_either : (b : Bool) {P Q R : Type 0} → MatchBool b P Q → (P → R) → (Q → R) → R
match_either true h f g = f h
match_either false h f g = g h

-- one of weight 1 before octets that have their weight
one_more : (d l m : ℕ) → l ≤ m → 1 ≤ m → suc (suc d * l) ≤ suc (suc d) * m
one_more d l m h j = omega (arith, mul-le-mul_left (suc d) h)

some : (d m : ℕ) → 1 ≤ m → 1 ≤ suc d * m
some d m h = omega (arith, mul-le-mul_left (suc d) h)

each_room : {A : Type 0} (S : Spelling A) → ((p : ℕ) (o : List ℕ) (x : A) → S p o x → 1 ≤ length o)
    → (n p : ℕ) (o : List ℕ) (xs : List A) → SpellTimes S n p o xs
    → n ≤ length o
each_room S one zero p o xs h = omega arith
each_room S one (suc n) p o [] h = absurd h
each_room S one (suc n) p o (x ∷ xs) (a, b, is, first, more) =
    let here = one p a x first in
    let after = each_room S one n (p + length a) b xs more in
    rw (is, length-append) (omega (arith, here, after))

each_heavy : (S : Spelling Val) (k : ℕ) → ((p : ℕ) (o : List ℕ) (v : Val) → S p o v → weight v ≤ k * length o)
    → (vs : Vals) (p : ℕ) (o : List ℕ) → SpellTimes S (count vs) p o (list_of vs)
    → weights vs ≤ k * length o
each_heavy S k one no_more p o h = omega arith
each_heavy S k one (val v vs) p o (a, b, is, first, more) =
    let here = one p a v first in
    let after = each_heavy S k one vs (p + length a) b more in
    rw (is, length-append) (omega (arith, here, after))

scalar_long : (e : Encoding) (s : Scalar) (p : ℕ) (o : List ℕ) (n : ℤ) → ScalarSpells e s p o n → 1 ≤ length o
unfolding ScalarSpells WordSpells
scalar_long e s p o n ((junk, len, is, lt), ok) =
    let long = (wide e s).len (residue (width_of e s) n) in
    rw (is, length-append) (omega (arith, long, byte_len_least (width_of e s)))

lone_long : (e : Encoding) (s : Scalar) (p : ℕ) (o : List ℕ) (n : ℤ) → LoneSpells e s p o n → 1 ≤ length o
lone_long Xdr s p o n h = scalar_long Xdr s p o n h
lone_long CdrBig s p o n h = scalar_long CdrBig s p o n h
lone_long CdrLittle s p o n h = scalar_long CdrLittle s p o n h
lone_long Mach s p o n (a, b, is, first, (c, d, is', second, third)) =
    let long = scalar_long Mach s (p + length a) c n second in
    rw (is, is', length-append, length-append) (omega (arith, long))

head_either : (e : Encoding) (a : Array) (p : ℕ) (o : List ℕ) (n : ℕ) → HeadSpells e a p o n
    → CountSpells e (count_of a) p o n ⊎ 1 ≤ length o
unfolding HeadSpells
head_either Xdr a p o n h = inl h
head_either Mach a p o n h = inr (described_long (count_of a) (number (kind_of a)) p o n h)
head_either CdrBig (text c) p o n h = inr (scalar_long CdrBig counted p o (pos (suc n)) h.0)
head_either CdrBig (row_of k c) p o n h = inl h
head_either CdrLittle (text c) p o n h = inr (scalar_long CdrLittle counted p o (pos (suc n)) h.0)
head_either CdrLittle (row_of k c) p o n h = inl h

module _ (e : Encoding) where
  scalar_room : (s : Scalar) (p : ℕ) (o : List ℕ) (n : ℤ) → ScalarSpells e s p o n → 1 ≤ length o
  scalar_room s p o n h = scalar_long e s p o n h

  lone_room : (s : Scalar) (p : ℕ) (o : List ℕ) (n : ℤ) → LoneSpells e s p o n → 1 ≤ length o
  lone_room s p o n h = lone_long e s p o n h

  count_room : (c : Count) (p : ℕ) (o : List ℕ) (n : ℕ) → IsCount c → CountSpells e c p o n → 1 ≤ length o + n
  unfolding CountSpells
  count_room (Exactly m) p o n some h = omega (arith, h.1)
  count_room (AtMost m) p o n some h = omega (arith, lone_room _ p o (pos n) h.0)
  count_room Any p o n some h = omega (arith, lone_room _ p o (pos n) h)

  octet_room : (test : ℕ → Bool) (p : ℕ) (o : List ℕ) (n : ℤ) → OctetSpells test p o n → 1 ≤ length o
  unfolding OctetSpells
  octet_room test p o n (b, is, same, ok) = rw is (omega arith)

  element_room : (a : Array) (p : ℕ) (o : List ℕ) (n : ℤ) → ElementSpells e a p o n → 1 ≤ length o
  unfolding ElementSpells
  element_room (text c) p o n h = octet_room _ p o n h
  element_room (row_of kind.Octet c) p o n h = octet_room _ p o n h
  element_room (row_of k c) p o n h = scalar_room (number k) p o n h

  head_room : (a : Array) (p : ℕ) (o : List ℕ) (n : ℕ) → IsCount (count_of a) → HeadSpells e a p o n → 1 ≤ length o + n
  head_room a p o n some h =
      elim (head_either e a p o n h) [ inl count ↦ count_room (count_of a) p o n some count | inr long ↦ omega (arith, long) ]

  array_room : (a : Array) (p : ℕ) (o : List ℕ) (ns : List ℤ) → IsCount (count_of a) → ArraySpells e a p o ns
      → (1 ≤ length o) × (length ns ≤ length o)
  unfolding ArraySpells
  array_room a p o ns some (x, y, is, head, (u, v, is', elements, tail)) =
      let first = head_room a p x (length ns) some head in
      let second = each_room (ElementSpells e a) (element_room a) (length ns) (p + length x) u ns elements in
      let long : length o ≡ length x + (length u + length v) =
      omega (arith, ap length is, length-append x y, ap length is', length-append u v) in
      (omega (arith, first, second, long), omega (arith, second, long))

  array_heavy : (a : Array) (d p : ℕ) (o : List ℕ) (ns : List ℤ) → 1 ≤ d → IsCount (count_of a) → ArraySpells e a p o ns
      → suc (length ns) ≤ suc d * length o
  array_heavy a d p o ns deep some h =
      let room = array_room a p o ns some h in
      let two : 2 * length o ≤ suc d * length o = mul-le-mul_right (length o) (omega arith) in
      omega (arith, room.0, room.1, two)

  mutual
    pub filled : (t : Ty) → TakesRoom t → is_hollow t ≡ false → (p : ℕ) (o : List ℕ) (v : Val) → Spells e t p o v → 1 ≤ length o
    filled void_type r f p o v h = absurd cc
    filled (scalar_type s) r f p o (num n) h = lone_room s p o n h
    filled (array_type a) r f p o (row k ns) h = (array_room a p o ns r h.1).0
    filled (group_type ts) r f p o (group vs) h = fields_filled ts r f p o vs h
    filled (items_type c t) r f p o (items vs) (a, b, is, first, more) =
        let head = count_room c p a (count vs) r.0 first in
        let after = each_room (Spells e t) (filled t r.2 r.1) (count vs) (p + length a) b (list_of vs) more in
        rw (is, length-append) (omega (arith, head, after))
    filled (choice_type s arms) r f p o (arm n v) (a, b, is, first, more) =
        let head = lone_room s p a n first.0 in
        rw (is, length-append) (omega (arith, head))
    filled (maybe_type t) r f p o absent h = lone_room _ p o (pos 0) h
    filled (maybe_type t) r f p o (present v) (a, b, is, first, more) =
        let head = lone_room _ p a (pos 1) first in
        rw (is, length-append) (omega (arith, head))
    filled _ r f p o v h = absurd h

    fields_filled : (ts : Tys) → FieldsTakeRoom ts → are_hollow ts ≡ false → (p : ℕ) (o : List ℕ) (vs : Vals) → FieldsSpell e ts p o vs
        → 1 ≤ length o
    fields_filled no_fields r f p o vs h = absurd cc
    fields_filled (field t ts) r f p o no_more h = absurd h
    fields_filled (field t ts) r f p o (val v vs) (a, b, is, first, more) =
        rw (is, length-append) (elim (not_both (is_hollow t) (are_hollow ts) f) [
          | inl here ↦ let long = filled t r.0 here p a v first in omega (arith, long)
          | inr after ↦ let long = fields_filled ts r.1 after (p + length a) b vs more in omega (arith, long)
        ])

  mutual
    pub heavy : (t : Ty) → TakesRoom t → (d : ℕ) → depth t ≤ d → (p : ℕ) (o : List ℕ) (v : Val) → Spells e t p o v
        → weight v ≤ suc d * length o
    heavy void_type r d deep p o void h = omega arith
    heavy (scalar_type s) r d deep p o (num n) h = some d (length o) (lone_room s p o n h)
    heavy (array_type a) r d deep p o (row k ns) h = array_heavy a d p o ns deep r h.1
    heavy (group_type ts) r d deep p o (group vs) h = fields_heavy ts r d (omega arith) p o vs h
    heavy (items_type c t) r zero deep p o v h = absurd (omega arith)
    heavy (items_type c t) r (suc d) deep p o (items vs) (a, b, is, first, more) =
        let all = filled (items_type c t) r refl p o (items vs) (a, b, is, first, more) in
        let after = each_heavy (Spells e t) (suc d) (heavy t r.2 d (omega arith)) vs (p + length a) b more in
        let long : length b ≤ length o = omega (arith, ap length is, length-append a b) in
        omega (arith, after, one_more d (length b) (length o) long all)
    heavy (choice_type s arms) r zero deep p o v h = absurd (omega arith)
    heavy (choice_type s arms) r (suc d) deep p o (arm n v) (a, b, is, first, more) =
        let all = filled (choice_type s arms) r refl p o (arm n v) (a, b, is, first, more) in
        let after = arm_heavy arms r d (omega arith) n (p + length a) b v more in
        let long : length b ≤ length o = omega (arith, ap length is, length-append a b) in
        omega (arith, after, one_more d (length b) (length o) long all)
    heavy (maybe_type t) r d deep p o absent h = some d (length o) (lone_room _ p o (pos 0) h)
    heavy (maybe_type t) r zero deep p o v h = absurd (omega arith)
    heavy (maybe_type t) r (suc d) deep p o (present v) (a, b, is, first, more) =
        let all = filled (maybe_type t) r refl p o (present v) (a, b, is, first, more) in
        let after = heavy t r d (omega arith) (p + length a) b v more in
        let long : length b ≤ length o = omega (arith, ap length is, length-append a b) in
        omega (arith, after, one_more d (length b) (length o) long all)
    heavy _ r d deep p o v h = absurd h

    fields_heavy : (ts : Tys) → FieldsTakeRoom ts → (d : ℕ) → fields_depth ts ≤ d → (p : ℕ) (o : List ℕ) (vs : Vals)
        → FieldsSpell e ts p o vs
        → weights vs ≤ suc d * length o
    fields_heavy no_fields r d deep p o no_more h = omega arith
    fields_heavy (field t ts) r d deep p o (val v vs) (a, b, is, first, more) =
        let here = heavy t r.0 d (omega arith) p a v first in
        let after = fields_heavy ts r.1 d (omega arith) (p + length a) b vs more in
        rw (is, length-append) (omega (arith, here, after))
    fields_heavy _ r d deep p o vs h = absurd h

    arm_heavy : (arms : Arms) → ArmsTakeRoom arms → (d : ℕ) → arms_depth arms ≤ d
        → (n : ℤ) (p : ℕ) (o : List ℕ) (v : Val) → ArmSpells e arms n p o v
        → weight v ≤ suc d * length o
    arm_heavy no_other r d deep n p o v h = absurd h
    arm_heavy (others t) r d deep n p o v h = heavy t r d deep p o v h
    arm_heavy (arm_type m t arms) r d deep n p o v h =
        match_either (int_eq n m) h (heavy t r.0 d (omega arith) p o v) (arm_heavy arms r.1 d (omega arith) n p o v)

  pub light : (t : Ty) → IsSound t → (p : ℕ) (o : List ℕ) (v : Val) → length o ≤ 4194304 → Spells e t p o v → weight v ≤ 138412032
  light t sound p o v short h =
      let bound = heavy t (room t sound) 32 (shallow t sound) p o v h in
      omega (arith, bound)
