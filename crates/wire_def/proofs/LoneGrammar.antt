-- Scalars by themselves are grammars.
use Rattle.std.proofs.Common.{◌≡◌, ℕ, ◌+◌, ◌≤◌, ℤ, List, ◌++◌, length, take, drop, Bool, false, IsTrue, ltb, refl, sym, ap, ◌∙◌, arith}
use Rattle.std.specs.Prelude.{nat_eq}
use Rattle.std.specs.Int.{w32}
use Rattle.std.proofs.lemmas.Bool.{ltb-false, ltb-true, le-ltb, lt-ltb, eq-eqb, eqb-true}
use Rattle.std.proofs.lemmas.List.{drop_at, take-append-drop, length-take, length-append}
use Rattle.mint.specs.Types.{Scalar}
use Rattle.wire_def.specs.declared.encoding.Encoding.{Encoding}
use Rattle.wire_def.specs.declared.encoding.Encoding.TheVariants.{Xdr, CdrBig, CdrLittle, Mach}
use Rattle.wire_def.specs.declared.fault.FaultKind.{FaultKind}
use Rattle.wire_def.specs.declared.fault.FaultKind.TheVariants.{Short, BadItem}
use Rattle.wire_def.specs.Grammar.{Reader, Spelling, Stopping, got, stop, AreOctets, IsGrammar}
use Rattle.wire_def.specs.Scalars.{scalar_place, ScalarSpells}
use Rattle.wire_def.specs.Lone.{AnySpell, AnyStop, read_any, scalar_word, DescSpells, DescStops, read_desc, filling, ItemSpells, ItemStops, read_item, LoneSpells, LoneStops, read_lone, PassSpells, PassStops, read_pass}
use Rattle.wire_def.proofs.Grammars.{mapped, both_are, tested_are, reshaped}
use Rattle.wire_def.proofs.Words.{picked_got, picked_stop, word_is, desc_wide}
use Rattle.wire_def.proofs.ScalarGrammar.{scalar_is}

module _ (n : ℕ) where
  any_reads : (p : ℕ) (o rest : List ℕ) (x : Unit {0}) → AnySpell n p o x → read_any n p (o ++ rest) ≡ got x (p + length o) rest
  unfolding read_any
  any_reads p o rest x len =
      let enough : ltb (length (o ++ rest)) n ≡ false = le-ltb _ _ (omega (arith, len, length-append o rest)) in
      rw (enough, drop_at o rest n len, len) refl

  any_spelled : (p : ℕ) (o : List ℕ) (x : Unit {0}) (q : ℕ) (rest : List ℕ) → AreOctets o → read_any n p o ≡ got x q rest
      → (a : List ℕ) × (o ≡ a ++ rest) × (q ≡ p + length a) × AnySpell n p a x
  unfolding read_any
  any_spelled p o x q rest oct is =
      let t = picked_got (ltb (length o) n) Short (p + length o) tt x (p + n) q (drop n o) rest is in
      let enough : n ≤ length o = ltb-false _ _ t.0 in
      let long : length (take n o) ≡ n = omega (arith, length-take n o) in
      (take n o, sym (ap (λ z. take n o ++ z) (sym t.3) ∙ take-append-drop n o), omega (arith, t.2, long), long)

  any_stops : (p : ℕ) (o : List ℕ) (k : FaultKind) (at : ℕ) → AnyStop n p o k at → read_any n p o ≡ stop k at
  unfolding read_any
  any_stops p o k at (short, which, there) = rw (lt-ltb _ _ short, which, there) refl

  any_faulty : (p : ℕ) (o : List ℕ) (k : FaultKind) (at : ℕ) → AreOctets o → read_any n p o ≡ stop k at → AnyStop n p o k at
  unfolding read_any
  any_faulty p o k at oct is =
      let t = picked_stop (ltb (length o) n) Short k (p + length o) at tt (p + n) (drop n o) is in
      (ltb-true _ _ t.0, t.1, t.2)

  pub any_are : IsGrammar (read_any n) (AnySpell n) (AnyStop n)
  any_are = record { reads = any_reads; spelled = any_spelled; stops = any_stops; faulty = any_faulty }

pub desc_is : (w : ℕ) → IsGrammar (read_desc w) (DescSpells w) (DescStops w)
unfolding read_desc DescStops
desc_is w = mapped (λ (m : ℕ). tt) (DescSpells w) (tested_are (λ m. nat_eq m w) BadItem (λ q. q) (word_is Mach 1 w32 desc_wide))
    (λ p o m h. rw (← eqb-true m w h.1) h.0)
    (λ p o x h. (w, refl, (h, eq-eqb w w refl)))

pub item_is : {A : Type 0} (s : Scalar) {r : Reader FaultKind A} {S : Spelling A} {F : Stopping FaultKind} → IsGrammar r S F
    → IsGrammar (read_item s r) (ItemSpells s S) (ItemStops s S F)
item_is {A} s {r} {S} {F} g =
    mapped
    (λ (x : Unit {0} × (A × Unit {0})). x.1.0) (ItemSpells s S) (both_are (desc_is (scalar_word s)) (λ _.
    both_are g (λ _. any_are (filling s))))
    (λ p o x h. h)
    (λ p o x h. ((tt, (x, tt)), refl, h))

pub lone_is : (e : Encoding) (s : Scalar) → IsGrammar (read_lone e s) (LoneSpells e s) (LoneStops e s)
lone_is Xdr s = scalar_is Xdr s
lone_is CdrBig s = scalar_is CdrBig s
lone_is CdrLittle s = scalar_is CdrLittle s
lone_is Mach s = item_is s (scalar_is Mach s)

module _ (s : Scalar) (test : ℤ → Bool) where
  abbrev Tested : Spelling ℤ
  Tested p o n = ScalarSpells Mach s p o n × IsTrue (test n)

  item_to : (p : ℕ) (o : List ℕ) (n : ℤ) → ItemSpells s Tested p o n → PassSpells Mach s test p o n
  item_to p o n (a, b, is, first, (c, d, is', second, third)) = ((a, b, is, first, (c, d, is', second.0, third)), second.1)

  item_from : (p : ℕ) (o : List ℕ) (n : ℤ) → PassSpells Mach s test p o n → ItemSpells s Tested p o n
  item_from p o n ((a, b, is, first, (c, d, is', second, third)), ok) = (a, b, is, first, (c, d, is', (second, ok), third))

pub pass_is : (e : Encoding) (s : Scalar) (test : ℤ → Bool) (fault : FaultKind)
    → IsGrammar (read_pass e s test fault) (PassSpells e s test) (PassStops e s test fault)
pass_is Xdr s test fault = tested_are test fault (scalar_place Xdr s) (scalar_is Xdr s)
pass_is CdrBig s test fault = tested_are test fault (scalar_place CdrBig s) (scalar_is CdrBig s)
pass_is CdrLittle s test fault = tested_are test fault (scalar_place CdrLittle s) (scalar_is CdrLittle s)
pass_is Mach s test fault = reshaped (item_is s (tested_are test fault (scalar_place Mach s) (scalar_is Mach s)))
    (λ p o. refl) (item_from s test) (item_to s test) (λ p o k at f. f) (λ p o k at f. f)
