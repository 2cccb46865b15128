-- Octets that are a value make it one of the type, by mutual induction on types, fields and arms.
use Rattle.std.proofs.Common.{◌≡◌, ℕ, zero, suc, ◌+◌, ◌<◌, ℤ, pos, List, [], ◌∷◌, length, Bool, not, true, false, ltb, int_eq, refl, sym, arith}
use Rattle.std.specs.Prelude.{MatchBool}
use Rattle.std.specs.List.{list_all}
use Rattle.std.proofs.lemmas.Bool.{ltb-true, lt-ltb, leb-true, and_from}
use Rattle.std.proofs.lemmas.Bool.Decides.{Decides-int_eq, Decides-not}
use Rattle.mint.specs.declared.kind.Kind.{Kind}
use Rattle.mint.specs.declared.kind.Kind.TheVariants as kind
use Rattle.mint.specs.declared.kind.Count.{Count}
use Rattle.mint.specs.declared.kind.Count.TheVariants.{Exactly, AtMost, Any}
use Rattle.mint.specs.Kinds.{Allows, is_letter}
use Rattle.mint.specs.Values.{Val, void, num, row, group, items, arm, absent, present, Vals, no_more, val, count, list_of}
use Rattle.mint.specs.Types.{Scalar, number, Array, text, row_of, Ty, void_type, scalar_type, array_type, group_type, items_type, choice_type, maybe_type, Tys, no_fields, field, Arms, no_other, others, arm_type}
use Rattle.mint.specs.Typed.{IsScalar, IsArray, IsOf, AreOf, IsOfArm, Each}
use Rattle.wire_def.specs.declared.encoding.Encoding.{Encoding}
use Rattle.wire_def.specs.declared.encoding.Encoding.TheVariants.{Xdr, CdrBig, CdrLittle, Mach}
use Rattle.wire_def.specs.Grammar.{Spelling, AreOctets, SpellTimes}
use Rattle.wire_def.specs.Scalars.{ScalarSpells}
use Rattle.wire_def.specs.Lone.{LoneSpells}
use Rattle.wire_def.specs.Arrays.{counted, CountSpells, EndedSpells, HeadSpells, OctetSpells, count_of, kind_of, may_stand, ElementSpells, ArraySpells}
use Rattle.wire_def.specs.Spells.{Spells, FieldsSpell, ArmSpells}
use Rattle.wire_def.proofs.Grammars.{octets_after, octets_before}
use Rattle.wire_def.proofs.DescribedGrammar.{allows, described_typed}
use Rattle.wire_def.proofs.Sent.{is_element}

pub match_both : (b : Bool) {P Q R S : Type 0} → MatchBool b P Q → (P → R) → (Q → S) → MatchBool b R S
match_both true h f g = f h
match_both false h f g = g h

scalar_typed : (e : Encoding) (s : Scalar) (p : ℕ) (o : List ℕ) (n : ℤ) → ScalarSpells e s p o n → IsScalar s n
unfolding ScalarSpells
scalar_typed e s p o n h = h.1

lone_typed : (e : Encoding) (s : Scalar) (p : ℕ) (o : List ℕ) (n : ℤ) → LoneSpells e s p o n → IsScalar s n
lone_typed Xdr s p o n h = scalar_typed Xdr s p o n h
lone_typed CdrBig s p o n h = scalar_typed CdrBig s p o n h
lone_typed CdrLittle s p o n h = scalar_typed CdrLittle s p o n h
lone_typed Mach s p o n (a, b, is, first, (c, d, is', second, third)) = scalar_typed Mach s (p + length a) c n second

count_typed : (e : Encoding) (c : Count) (p : ℕ) (o : List ℕ) (n : ℕ) → CountSpells e c p o n → Allows c n
unfolding CountSpells
count_typed e (Exactly m) p o n h = sym h.1
count_typed e (AtMost m) p o n h = (leb-true n m h.1, ltb-true n 4294967296 (lone_typed e counted p o (pos n) h.0))
count_typed e Any p o n h = ltb-true n 4294967296 (lone_typed e counted p o (pos n) h)

ended_typed : (e : Encoding) (c : Count) (p : ℕ) (o : List ℕ) (n : ℕ) → EndedSpells e c p o n → Allows c n
ended_typed e c p o n (first, ok) =
    let many : suc n < 4294967296 = ltb-true (suc n) 4294967296 (scalar_typed e counted p o (pos (suc n)) first) in
    allows c n (omega arith) ok

head_typed : (e : Encoding) (a : Array) (p : ℕ) (o : List ℕ) (n : ℕ) → HeadSpells e a p o n → Allows (count_of a) n
unfolding HeadSpells
head_typed Xdr a p o n h = count_typed Xdr (count_of a) p o n h
head_typed Mach a p o n h = described_typed (count_of a) (number (kind_of a)) p o n h
head_typed CdrBig (text c) p o n h = ended_typed CdrBig c p o n h
head_typed CdrBig (row_of k c) p o n h = count_typed CdrBig c p o n h
head_typed CdrLittle (text c) p o n h = ended_typed CdrLittle c p o n h
head_typed CdrLittle (row_of k c) p o n h = count_typed CdrLittle c p o n h

octet_fits : (test : ℕ → Bool) (p : ℕ) (o : List ℕ) (n : ℤ) → AreOctets o → OctetSpells test p o n
    → (b : ℕ) × (n ≡ pos b) × (b < 256) × (test b ≡ true)
unfolding OctetSpells
octet_fits test p o n oct (b, is, same, ok) =
    let there = rw is at oct in
    (b, same, there.0, ok)

letter_typed : (b : ℕ) → b < 256 → ltb 0 b ≡ true → is_letter (pos b) ≡ true
letter_typed zero h ok = absurd (omega (arith, ltb-true 0 0 ok))
letter_typed (suc b) h ok =
    let differs : pos (suc b) ≡ pos 0 → ⊥ = λ (same : pos (suc b) ≡ pos 0). cc in
    let test = int_eq (pos (suc b)) (pos 0) in
    and_from (ltb (suc b) 256) (not test) (lt-ltb (suc b) 256 h) ((Decides-not test (Decides-int_eq (pos (suc b)) (pos 0))).1 differs)

element_typed : (e : Encoding) (a : Array) (p : ℕ) (o : List ℕ) (n : ℤ) → AreOctets o → ElementSpells e a p o n → is_element a n ≡ true
unfolding ElementSpells
element_typed e (text c) p o n oct h =
    let m = octet_fits (may_stand (text c)) p o n oct h in
    rw m.1 (letter_typed m.0 m.2 m.3)
element_typed e (row_of kind.Octet c) p o n oct h =
    let m = octet_fits (λ b. true) p o n oct h in
    rw m.1 (lt-ltb m.0 256 m.2)
element_typed e (row_of k c) p o n oct h = scalar_typed e (number k) p o n h

elements_typed : (S : Spelling ℤ) (test : ℤ → Bool) → ((p : ℕ) (o : List ℕ) (n : ℤ) → AreOctets o → S p o n → test n ≡ true)
    → (n p : ℕ) (o : List ℕ) (ns : List ℤ) → AreOctets o → SpellTimes S n p o ns → list_all test ns ≡ true
elements_typed S test one zero p o [] oct h = refl
elements_typed S test one zero p o (x ∷ xs) oct h = absurd h
elements_typed S test one (suc n) p o [] oct h = absurd h
elements_typed S test one (suc n) p o (x ∷ xs) oct (a, b, is, first, more) =
    let whole = rw is at oct in
    and_from (test x) (list_all test xs) (one p a x (octets_before a b whole) first)
    (elements_typed S test one n (p + length a) b xs (octets_after a b whole) more)

array_typed : (e : Encoding) (a : Array) (p : ℕ) (o : List ℕ) (ns : List ℤ) → AreOctets o → ArraySpells e a p o ns
    → Allows (count_of a) (length ns) × (list_all (is_element a) ns ≡ true)
unfolding ArraySpells
array_typed e a p o ns oct (x, y, is, head, (u, v, is', elements, tail)) =
    let after = octets_after x y (rw is at oct) in
    let there = octets_before u v (rw is' at after) in (
      head_typed e a p x (length ns) head,
      elements_typed (ElementSpells e a) (is_element a) (element_typed e a) (length ns) (p + length x)
          u ns there elements,
    )

row_typed : (e : Encoding) (a : Array) (p : ℕ) (o : List ℕ) (k : Kind) (ns : List ℤ) → AreOctets o
    → (k ≡ kind_of a) × ArraySpells e a p o ns
    → IsArray a k ns
row_typed e (text c) p o k ns oct h = let m = array_typed e (text c) p o ns oct h.1 in (h.0, m.0, m.1)
row_typed e (row_of k' c) p o k ns oct h = let m = array_typed e (row_of k' c) p o ns oct h.1 in (h.0, m.0, m.1)

each_typed : (S : Spelling Val) (P : Val → Type 0) → ((p : ℕ) (o : List ℕ) (v : Val) → AreOctets o → S p o v → P v)
    → (vs : Vals) (p : ℕ) (o : List ℕ) → AreOctets o → SpellTimes S (count vs) p o (list_of vs)
    → Each P vs
each_typed S P one no_more p o oct h = tt
each_typed S P one (val v vs) p o oct (a, b, is, first, more) =
    let whole = rw is at oct in
    (one p a v (octets_before a b whole) first, each_typed S P one vs (p + length a) b (octets_after a b whole) more)

mutual
  pub typed : (e : Encoding) (t : Ty) (p : ℕ) (o : List ℕ) (v : Val) → AreOctets o → Spells e t p o v → IsOf t v
  typed e void_type p o void oct h = tt
  typed e (scalar_type s) p o (num n) oct h = lone_typed e s p o n h
  typed e (array_type a) p o (row k ns) oct h = row_typed e a p o k ns oct h
  typed e (group_type ts) p o (group vs) oct h = fields_typed e ts p o vs oct h
  typed e (items_type c t) p o (items vs) oct (a, b, is, first, more) =
      let whole = rw is at oct in (
        count_typed e c p a (count vs) first,
        each_typed (Spells e t) (IsOf t) (typed e t) vs (p + length a) b (octets_after a b whole)
            more,
      )
  typed e (choice_type s arms) p o (arm n v) oct (a, b, is, first, more) =
      let whole = rw is at oct in
      (lone_typed e s p a n first.0, arm_typed e arms n (p + length a) b v (octets_after a b whole) more)
  typed e (maybe_type t) p o absent oct h = tt
  typed e (maybe_type t) p o (present v) oct (a, b, is, first, more) =
      let whole = rw is at oct in
      typed e t (p + length a) b v (octets_after a b whole) more
  typed e _ p o v oct h = absurd h

  pub fields_typed : (e : Encoding) (ts : Tys) (p : ℕ) (o : List ℕ) (vs : Vals) → AreOctets o → FieldsSpell e ts p o vs → AreOf ts vs
  fields_typed e no_fields p o no_more oct h = tt
  fields_typed e (field t ts) p o (val v vs) oct (a, b, is, first, more) =
      let whole = rw is at oct in
      (typed e t p a v (octets_before a b whole) first, fields_typed e ts (p + length a) b vs (octets_after a b whole) more)
  fields_typed e _ p o vs oct h = absurd h

  pub arm_typed : (e : Encoding) (arms : Arms) (n : ℤ) (p : ℕ) (o : List ℕ) (v : Val) → AreOctets o → ArmSpells e arms n p o v
      → IsOfArm arms n v
  arm_typed e no_other n p o v oct h = absurd h
  arm_typed e (others t) n p o v oct h = typed e t p o v oct h
  arm_typed e (arm_type m t arms) n p o v oct h = match_both (int_eq n m) h (typed e t p o v oct) (arm_typed e arms n p o v oct)
