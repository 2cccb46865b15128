-- Every type is a grammar, by mutual induction on types, fields and arms.
use Rattle.std.proofs.Common.{◌≡◌, ◌⊎◌, inl, inr, ℕ, zero, suc, ◌+◌, ℤ, pos, negsuc, List, [], ◌∷◌, ◌++◌, length, refl, sym, ap, ◌∙◌, ◌↔◌, arith}
use Rattle.std.proofs.lemmas.List.{append-nil}
use Rattle.std.specs.Ordering.{int_eq}
use Rattle.std.proofs.lemmas.Bool.{ltb-true}
use Rattle.mint.specs.declared.kind.Count.{Count}
use Rattle.mint.specs.Values.{Val, void, num, row, group, items, arm, absent, present, Vals, no_more, val, count, list_of, vals_of}
use Rattle.mint.specs.Types.{Scalar, Array, Ty, void_type, scalar_type, array_type, group_type, items_type, choice_type, maybe_type, Tys, no_fields, field, Arms, no_other, others, arm_type}
use Rattle.mint.specs.Typed.{has_arm}
use Rattle.mint.proofs.Blanks.{vals_of-list_of}
use Rattle.wire_def.specs.declared.encoding.Encoding.{Encoding}
use Rattle.wire_def.specs.declared.encoding.Encoding.TheVariants.{Xdr, CdrBig, CdrLittle, Mach}
use Rattle.wire_def.specs.declared.fault.FaultKind.{FaultKind}
use Rattle.wire_def.specs.declared.fault.FaultKind.TheVariants.{BadValue}
use Rattle.wire_def.specs.Grammar.{Reader, Spelling, Stopping, Parts, SpellTimes, IsGrammar}
use Rattle.wire_def.specs.Scalars.{ScalarSpells}
use Rattle.wire_def.specs.Lone.{LoneSpells, LoneStops}
use Rattle.wire_def.specs.Arrays.{CountSpells, ArraySpells, kind_of}
use Rattle.wire_def.specs.Send.{flag}
use Rattle.wire_def.specs.Spells.{Spells, FieldsSpell, ArmSpells, TagSpells}
use Rattle.wire_def.specs.Stops.{Stops, FieldsStop, ArmStops}
use Rattle.wire_def.specs.Reading.{read, read_fields, read_arm, read_after}
use Rattle.wire_def.proofs.Grammars.{done, mapped, both_are, times_are, reshaped}
use Rattle.wire_def.proofs.ArrayGrammar.{count_is, array_is, times_length}
use Rattle.wire_def.proofs.LoneGrammar.{lone_is, pass_is}
use Rattle.wire_def.proofs.DescribedGrammar.{chosen}
use Rattle.mint.proofs.Fitting.{count-vals_of}

list_of-vals_of : (xs : List Val) → list_of (vals_of xs) ≡ xs
list_of-vals_of [] = refl
list_of-vals_of (x ∷ xs) = ap (λ z. x ∷ z) (list_of-vals_of xs)

length-list_of : (vs : Vals) → length (list_of vs) ≡ count vs
length-list_of no_more = refl
length-list_of (val v vs) = ap suc (length-list_of vs)

-- ---- lists

module _ (e : Encoding) (c : Count) (t : Ty) where
  ItemsSpell : Spelling Val
  ItemsSpell p o v = Spells e (items_type c t) p o v

  items_forth : (p : ℕ) (o : List ℕ) (x : ℕ × List Val)
      → Parts p o (λ a. CountSpells e c p a x.0) (λ q b. SpellTimes (Spells e t) x.0 q b x.1)
      → Spells e (items_type c t) p o (items (vals_of x.1))
  items_forth p o (n, xs) (a, b, is, first, second) =
      let many : n ≡ count (vals_of xs) = sym (count-vals_of xs ∙ times_length (Spells e t) n (p + length a) b xs second) in
      rw (list_of-vals_of xs, ← many) (a, b, is, first, second)

  items_back : (p : ℕ) (o : List ℕ) (v : Val) → Spells e (items_type c t) p o v
      → (x : ℕ × List Val) × (items (vals_of x.1) ≡ v)
      × Parts p o (λ a. CountSpells e c p a x.0) (λ q b. SpellTimes (Spells e t) x.0 q b x.1)
  items_back p o (items vs) h = ((count vs, list_of vs), ap items (vals_of-list_of vs), h)
  items_back p o _ h = absurd h

-- ---- flags

scalar_flags : (e : Encoding) (p : ℕ) (o : List ℕ) (n : ℤ) → ScalarSpells e flag p o n → (n ≡ pos 0) ⊎ (n ≡ pos 1)
unfolding ScalarSpells
scalar_flags e p o (pos zero) h = inl refl
scalar_flags e p o (pos (suc zero)) h = inr refl
scalar_flags e p o (pos (suc (suc n))) h = absurd (omega (arith, ltb-true (suc (suc n)) 2 h.1))
scalar_flags e p o (negsuc n) h = absurd (omega (arith, ltb-true n 0 h.1))

flags : (e : Encoding) (p : ℕ) (o : List ℕ) (n : ℤ) → LoneSpells e flag p o n → (n ≡ pos 0) ⊎ (n ≡ pos 1)
flags Xdr p o n h = scalar_flags Xdr p o n h
flags CdrBig p o n h = scalar_flags CdrBig p o n h
flags CdrLittle p o n h = scalar_flags CdrLittle p o n h
flags Mach p o n (a, b, is, first, (c, d, is', second, third)) = scalar_flags Mach (p + length a) c n second

-- what may follow a flag
AfterSpells : Spelling Val → ℤ → Spelling Val
AfterSpells S (pos zero) p o v = (o ≡ []) × (absent ≡ v)
AfterSpells S _ p o v = (w : Val) × (present w ≡ v) × S p o w

AfterStops : Stopping FaultKind → ℤ → Stopping FaultKind
AfterStops F (pos zero) p o k at = ⊥
AfterStops F _ p o k at = F p o k at

after_is : {r : Reader FaultKind Val} {S : Spelling Val} {F : Stopping FaultKind} → IsGrammar r S F → (n : ℤ)
    → IsGrammar (read_after r n) (AfterSpells S n) (AfterStops F n)
unfolding AfterSpells AfterStops
after_is g (pos zero) = done absent _ (λ p. (refl, refl)) (λ p o y h. h)
after_is g (pos (suc n)) = mapped present _ g (λ p o x h. (x, refl, h)) (λ p o y h. h)
after_is g (negsuc n) = mapped present _ g (λ p o x h. (x, refl, h)) (λ p o y h. h)

module _ (e : Encoding) (t : Ty) where
  maybe_forth : (p : ℕ) (o : List ℕ) (n : ℤ) (v : Val) (a b : List ℕ) → o ≡ a ++ b → LoneSpells e flag p a n
      → AfterSpells (Spells e t) n (p + length a) b v
      → Spells e (maybe_type t) p o v
  unfolding AfterSpells
  maybe_forth p o (pos zero) v a b is first (none, same) =
      rw (← same, is, none, append-nil) first
  maybe_forth p o (pos (suc zero)) v a b is first (w, same, second) = rw (← same) (a, b, is, first, second)
  maybe_forth p o (pos (suc (suc n))) v a b is first second =
      elim (flags e p a (pos (suc (suc n))) first) [ inl h ↦ absurd cc | inr h ↦ absurd cc ]
  maybe_forth p o (negsuc n) v a b is first second = elim (flags e p a (negsuc n) first) [ inl h ↦ absurd cc | inr h ↦ absurd cc ]

  maybe_back : (p : ℕ) (o : List ℕ) (v : Val) → Spells e (maybe_type t) p o v
      → (x : ℤ × Val) × (x.1 ≡ v) × Parts p o (λ a. LoneSpells e flag p a x.0) (λ q b. AfterSpells (Spells e t) x.0 q b x.1)
  unfolding AfterSpells
  maybe_back p o absent h = ((pos 0, absent), refl, (o, [], sym (append-nil o), h, (refl, refl)))
  maybe_back p o (present v) (a, b, is, first, second) = ((pos 1, present v), refl, (a, b, is, first, (v, refl, second)))
  maybe_back p o _ h = absurd h

  maybe_stops_to : (p : ℕ) (o : List ℕ) (k : FaultKind) (at : ℕ) (n : ℤ) (a b : List ℕ) → o ≡ a ++ b
      → LoneSpells e flag p a n → AfterStops (Stops e t) n (p + length a) b k at
      → Stops e (maybe_type t) p o k at
  unfolding AfterStops
  maybe_stops_to p o k at (pos zero) a b is first f = absurd f
  maybe_stops_to p o k at (pos (suc zero)) a b is first f = inr (a, b, is, first, f)
  maybe_stops_to p o k at (pos (suc (suc n))) a b is first f =
      elim (flags e p a (pos (suc (suc n))) first) [ inl h ↦ absurd cc | inr h ↦ absurd cc ]
  maybe_stops_to p o k at (negsuc n) a b is first f = elim (flags e p a (negsuc n) first) [ inl h ↦ absurd cc | inr h ↦ absurd cc ]

  maybe_stops : (p : ℕ) (o : List ℕ) (k : FaultKind) (at : ℕ)
      → Stops e (maybe_type t) p o k at ↔ (LoneStops e flag p o k at
      ⊎ ((n : ℤ) × Parts p o (λ a. LoneSpells e flag p a n) (λ q b. AfterStops (Stops e t) n q b k at)))
  unfolding AfterStops
  maybe_stops p o k at = (to, from) where
    to : Stops e (maybe_type t) p o k at → LoneStops e flag p o k at
        ⊎ ((n : ℤ) × Parts p o (λ a. LoneSpells e flag p a n) (λ q b. AfterStops (Stops e t) n q b k at))
    to (inl f) = inl f
    to (inr h) = inr (pos 1, h)

    from : LoneStops e flag p o k at
        ⊎ ((n : ℤ)
        × Parts p o (λ a. LoneSpells e flag p a n) (λ q b. AfterStops (Stops e t) n q b k at)) → Stops e (maybe_type t) p o k at
    from (inl f) = inl f
    from (inr (n, (a, b, is, first, f))) = maybe_stops_to p o k at n a b is first f

-- ---- the values of each type

scalar_back : (e : Encoding) (s : Scalar) (p : ℕ) (o : List ℕ) (v : Val) → Spells e (scalar_type s) p o v
    → (n : ℤ) × (num n ≡ v) × LoneSpells e s p o n
scalar_back e s p o (num n) h = (n, refl, h)
scalar_back e s p o _ h = absurd h

array_back : (e : Encoding) (a : Array) (p : ℕ) (o : List ℕ) (v : Val) → Spells e (array_type a) p o v
    → (ns : List ℤ) × (row (kind_of a) ns ≡ v) × ArraySpells e a p o ns
array_back e a p o (row k ns) (same, h) = (ns, ap (λ z. row z ns) (sym same), h)
array_back e a p o _ h = absurd h

group_back : (e : Encoding) (ts : Tys) (p : ℕ) (o : List ℕ) (v : Val) → Spells e (group_type ts) p o v
    → (vs : Vals) × (group vs ≡ v) × FieldsSpell e ts p o vs
group_back e ts p o (group vs) h = (vs, refl, h)
group_back e ts p o _ h = absurd h

choice_back : (e : Encoding) (s : Scalar) (arms : Arms) (p : ℕ) (o : List ℕ) (v : Val) → Spells e (choice_type s arms) p o v
    → (x : ℤ × Val) × (arm x.0 x.1 ≡ v) × Parts p o (λ a. TagSpells e s arms p a x.0) (λ q b. ArmSpells e arms x.0 q b x.1)
choice_back e s arms p o (arm n v) h = ((n, v), refl, h)
choice_back e s arms p o _ h = absurd h

void_only : (e : Encoding) (p : ℕ) (o : List ℕ) (v : Val) → Spells e void_type p o v → (o ≡ []) × (void ≡ v)
void_only e p o void h = (h, refl)
void_only e p o _ h = absurd h

none_only : (e : Encoding) (p : ℕ) (o : List ℕ) (vs : Vals) → FieldsSpell e no_fields p o vs → (o ≡ []) × (no_more ≡ vs)
none_only e p o no_more h = (h, refl)
none_only e p o (val v vs) h = absurd h

field_back : (e : Encoding) (t : Ty) (ts : Tys) (p : ℕ) (o : List ℕ) (vs : Vals) → FieldsSpell e (field t ts) p o vs
    → (x : Val × Vals) × (val x.0 x.1 ≡ vs) × Parts p o (λ a. Spells e t p a x.0) (λ q b. FieldsSpell e ts q b x.1)
field_back e t ts p o no_more h = absurd h
field_back e t ts p o (val v vs) h = ((v, vs), refl, h)

no_arm : (e : Encoding) (n : ℤ) → IsGrammar (read_arm e no_other n) (ArmSpells e no_other n) (ArmStops e no_other n)
unfolding read_arm
no_arm e n = record {
  reads = λ p o rest x h. absurd h;
  spelled = λ p o x q rest oct h. absurd cc;
  stops = λ p o k at (which, there). rw (which, there) refl;
  faulty = λ p o k at oct h. (cc, cc);
}

mutual
  unfolding read

  pub type_is : (e : Encoding) → (t : Ty) → IsGrammar (read e t) (Spells e t) (Stops e t)
  type_is e void_type = done void _ (λ p. refl) (void_only e)
  type_is e (scalar_type s) = mapped num _ (lone_is e s) (λ p o x h. h) (scalar_back e s)
  type_is e (array_type a) = mapped (row (kind_of a)) _ (array_is e a) (λ p o x h. (refl, h)) (array_back e a)
  type_is e (group_type ts) = mapped group _ (fields_are e ts) (λ p o x h. h) (group_back e ts)
  type_is e (items_type c t) =
      mapped
      (λ x. items (vals_of x.1)) _ (both_are (count_is e c) (λ n. times_are n (type_is e t))) (items_forth e c t) (items_back e c t)
  type_is e (choice_type s arms) =
      mapped (λ x. arm x.0 x.1) _ (both_are (pass_is e s (has_arm arms) BadValue) (λ n. arm_is e arms n)) (λ p o x h.
      h) (choice_back e s arms)
  type_is e (maybe_type t) =
      reshaped
      (mapped (λ x. x.1) (Spells e (maybe_type t)) (both_are (lone_is e flag) (λ n. after_is (type_is e t) n)) (λ p o x h.
      maybe_forth e t p o x.0 x.1 h.0 h.1 h.2 h.3 h.4) (maybe_back e t))
      (λ p o. refl) (λ p o x h. h) (λ p o x h. h) (λ p o k at. (maybe_stops e t p o k at).0) (λ p o k at. (maybe_stops e t p o k at).1)

  pub fields_are : (e : Encoding) → (ts : Tys) → IsGrammar (read_fields e ts) (FieldsSpell e ts) (FieldsStop e ts)
  fields_are e no_fields = done no_more _ (λ p. refl) (none_only e)
  fields_are e (field t ts) = mapped (λ x. val x.0 x.1) _ (both_are (type_is e t) (λ v. fields_are e ts)) (λ p o x h. h) (field_back e t ts)

  pub arm_is : (e : Encoding) → (arms : Arms) (n : ℤ) → IsGrammar (read_arm e arms n) (ArmSpells e arms n) (ArmStops e arms n)
  arm_is e no_other n = no_arm e n
  arm_is e (others t) n = type_is e t
  arm_is e (arm_type m t arms) n = chosen (int_eq n m) (type_is e t) (arm_is e arms n)
