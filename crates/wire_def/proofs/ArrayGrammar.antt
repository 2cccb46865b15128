-- Counts, rows and texts are grammars, and the zeros after them, by induction on how many there are.
use Rattle.std.proofs.Common.{◌≡◌, ◌⊎◌, ℕ, zero, suc, ◌+◌, ℤ, pos, negsuc, List, [], ◌∷◌, ◌++◌, length, replicate, Bool, true, false, cond, refl, sym, ap, arith, add-zero}
use Rattle.std.proofs.lemmas.Bool.{ltb-true}
use Rattle.mint.specs.declared.kind.Kind.TheVariants as kind
use Rattle.mint.specs.declared.kind.Count.{Count}
use Rattle.mint.specs.declared.kind.Count.TheVariants.{Exactly, AtMost, Any}
use Rattle.mint.specs.Types.{number, Array, text, row_of}
use Rattle.wire_def.specs.declared.encoding.Encoding.{Encoding}
use Rattle.wire_def.specs.declared.encoding.Encoding.TheVariants.{Xdr, CdrBig, CdrLittle, Mach}
use Rattle.wire_def.specs.declared.fault.FaultKind.{FaultKind}
use Rattle.wire_def.specs.declared.fault.FaultKind.TheVariants.{OverBound, BadPad, BadText}
use Rattle.wire_def.specs.Grammar.{got, stop, Spelling, AreOctets, Parts, SpellTimes, IsGrammar, map_got, tested}
use Rattle.wire_def.specs.Scalars.{scalar_place, ScalarSpells, ScalarStops, read_scalar}
use Rattle.wire_def.specs.Lone.{lone_place, LoneSpells, LoneStops, read_lone}
use Rattle.wire_def.specs.Arrays.{natural, counted, CountSpells, CountStops, read_count, OctetSpells, OctetStops, read_octet, ZerosStop, read_zeros, count_of, kind_of, may_stand, is_some, less_one, EndedSpells, EndedStops, read_ended, HeadSpells, HeadStops, read_head, trailing, TailSpells, TailStops, read_tail, ElementSpells, ElementStops, read_element, ArraySpells, ArrayStops, read_array}
use Rattle.wire_def.proofs.Grammars.{done, mapped, both_are, times_are, tested_are}
use Rattle.wire_def.proofs.ScalarGrammar.{scalar_is}
use Rattle.wire_def.specs.Described.{allowed}
use Rattle.wire_def.proofs.LoneGrammar.{any_are, lone_is}
use Rattle.wire_def.proofs.DescribedGrammar.{described_is}

counted_is : (e : Encoding) (p : ℕ) (o : List ℕ) (x : ℤ) → ScalarSpells e counted p o x → pos (natural x) ≡ x
unfolding ScalarSpells
counted_is e p o (pos n) h = refl
counted_is e p o (negsuc n) h = absurd (omega (arith, ltb-true n 0 h.1))

lone_counted : (e : Encoding) (p : ℕ) (o : List ℕ) (x : ℤ) → LoneSpells e counted p o x → pos (natural x) ≡ x
lone_counted Xdr p o x h = counted_is Xdr p o x h
lone_counted CdrBig p o x h = counted_is CdrBig p o x h
lone_counted CdrLittle p o x h = counted_is CdrLittle p o x h
lone_counted Mach p o x (a, b, is, first, (c, d, is', second, third)) = counted_is Mach (p + length a) c x second

abbrev Counting : Encoding → Spelling ℕ
Counting e p o n = LoneSpells e counted p o (pos n)

counting : (e : Encoding) → IsGrammar (λ p o. map_got natural (read_lone e counted p o)) (Counting e) (LoneStops e counted)
counting e = mapped natural (Counting e) (lone_is e counted) (λ p o x h. rw (lone_counted e p o x h) h) (λ p o n h. (pos n, refl, h))

pub count_is : (e : Encoding) (c : Count) → IsGrammar (read_count e c) (CountSpells e c) (CountStops e c)
unfolding CountSpells CountStops read_count
count_is e (Exactly m) = done m _ (λ p. (refl, refl)) (λ p o y h. h)
count_is e (AtMost m) = tested_are _ OverBound (lone_place e counted) (counting e)
count_is e Any = counting e

-- ---- lengths that count the octet after a text

abbrev Ending : Encoding → Spelling ℕ
Ending e p o n = ScalarSpells e counted p o (pos (suc n))

one_less : (x : ℤ) → is_some x ≡ true → pos (suc (less_one x)) ≡ x
one_less (pos zero) h = absurd cc
one_less (pos (suc n)) h = refl
one_less (negsuc n) h = absurd cc

ending_forth : (e : Encoding) (p : ℕ) (o : List ℕ) (x : ℤ) → ScalarSpells e counted p o x × (is_some x ≡ true) → Ending e p o (less_one x)
ending_forth e p o x h = rw (one_less x h.1) h.0

ending : (e : Encoding)
    → IsGrammar (λ p o. map_got less_one (tested (read_scalar e counted) is_some BadText (scalar_place e counted) p o))
    (Ending e) (λ p o k at. ScalarStops e counted p o k at ⊎ ((m : ℤ) × Parts p o (λ a. ScalarSpells e counted p a m)
    (λ q b. (is_some m ≡ false) × (k ≡ BadText) × (at ≡ scalar_place e counted p))))
ending e = mapped less_one (Ending e) (tested_are is_some BadText (scalar_place e counted) (scalar_is e counted))
    (ending_forth e) (λ p o n h. (pos (suc n), refl, (h, refl)))

ended_is : (e : Encoding) (c : Count) → IsGrammar (read_ended e c) (EndedSpells e c) (EndedStops e c)
ended_is e c = tested_are (allowed c) OverBound (scalar_place e counted) (ending e)

pub head_is : (e : Encoding) (a : Array) → IsGrammar (read_head e a) (HeadSpells e a) (HeadStops e a)
unfolding HeadSpells HeadStops read_head
head_is Xdr a = count_is Xdr (count_of a)
head_is Mach a = described_is (count_of a) (number (kind_of a))
head_is CdrBig (text c) = ended_is CdrBig c
head_is CdrBig (row_of k c) = count_is CdrBig c
head_is CdrLittle (text c) = ended_is CdrLittle c
head_is CdrLittle (row_of k c) = count_is CdrLittle c

-- ---- octets

octet_read : (test : ℕ → Bool) (fault : FaultKind) (p : ℕ) (b : ℕ) (o : List ℕ) (x : ℤ) (q : ℕ) (rest : List ℕ) (t : Bool)
    → cond t (got (pos b) (p + 1) o) (stop fault p) ≡ got x q rest
    → (t ≡ true) × (pos b ≡ x) × (p + 1 ≡ q) × (o ≡ rest)
octet_read test fault p b o x q rest true e = (refl, cc, cc, cc)
octet_read test fault p b o x q rest false e = absurd cc

octet_stopped : (fault : FaultKind) (p : ℕ) (b : ℕ) (o : List ℕ) (k : FaultKind) (at : ℕ) (t : Bool)
    → cond t (got (pos b) (p + 1) o) (stop fault p) ≡ stop k at
    → (t ≡ false) × (k ≡ fault) × (at ≡ p)
octet_stopped fault p b o k at true e = absurd cc
octet_stopped fault p b o k at false e = (refl, cc, cc)

module _ (test : ℕ → Bool) (fault : FaultKind) where
  octet_spelled : (p : ℕ) (o : List ℕ) (x : ℤ) (q : ℕ) (rest : List ℕ) → AreOctets o → read_octet test fault p o ≡ got x q rest
      → (a : List ℕ) × (o ≡ a ++ rest) × (q ≡ p + length a) × OctetSpells test p a x
  unfolding read_octet OctetSpells
  octet_spelled p [] x q rest oct e = absurd cc
  octet_spelled p (b ∷ o) x q rest oct e =
      let t = octet_read test fault p b o x q rest (test b) e in
      (b ∷ [], ap (λ z. b ∷ z) t.3, sym t.2, (b, refl, sym t.1, t.0))

  octet_stops : (p : ℕ) (o : List ℕ) (k : FaultKind) (at : ℕ) → OctetStops test fault p o k at → read_octet test fault p o ≡ stop k at
  unfolding read_octet OctetStops
  octet_stops p [] k at (which, there) = rw (which, there) refl
  octet_stops p (b ∷ o) k at (fails, which, there) = rw (fails, which, there) refl

  octet_faulty : (p : ℕ) (o : List ℕ) (k : FaultKind) (at : ℕ) → AreOctets o → read_octet test fault p o ≡ stop k at
      → OctetStops test fault p o k at
  unfolding read_octet OctetStops
  octet_faulty p [] k at oct e = (cc, cc)
  octet_faulty p (b ∷ o) k at oct e = octet_stopped fault p b o k at (test b) e

  pub octet_is : IsGrammar (read_octet test fault) (OctetSpells test) (OctetStops test fault)
  unfolding read_octet OctetSpells
  octet_is = record {
    reads = λ p o rest x (b, is, same, ok). rw (is, same, ok) refl;
    spelled = octet_spelled;
    stops = octet_stops;
    faulty = octet_faulty;
  }

module _ (fault : FaultKind) where
  zeros_reads : (n p : ℕ) (o rest : List ℕ) (x : Unit {0}) → o ≡ replicate n 0
      → read_zeros n fault p (o ++ rest) ≡ got x (p + length o) rest
  unfolding read_zeros
  zeros_reads zero p o rest x is = rw (is, add-zero) refl
  zeros_reads (suc n) p o rest x is = rw (is, zeros_reads n (p + 1) (replicate n 0) rest tt refl)
      (ap (λ (m : ℕ). got tt m rest) (omega arith))

  zeros_spelled : (n p : ℕ) (o : List ℕ) (x : Unit {0}) (q : ℕ) (rest : List ℕ) → AreOctets o → read_zeros n fault p o ≡ got x q rest
      → (a : List ℕ) × (o ≡ a ++ rest) × (q ≡ p + length a) × (a ≡ replicate n 0)
  unfolding read_zeros
  zeros_spelled zero p o x q rest oct e =
      let same : p ≡ q = cc in
      ([], cc, rw add-zero (sym same), refl)
  zeros_spelled (suc n) p [] x q rest oct e = absurd cc
  zeros_spelled (suc n) p (zero ∷ o) x q rest oct e =
      let m = zeros_spelled n (p + 1) o x q rest oct.1 e in
      (0 ∷ m.0, ap (λ z. 0 ∷ z) m.1, omega (arith, m.2), ap (λ z. 0 ∷ z) m.3)
  zeros_spelled (suc n) p (suc b ∷ o) x q rest oct e = absurd cc

  zeros_stops : (n p : ℕ) (o : List ℕ) (k : FaultKind) (at : ℕ) → ZerosStop n fault p o k at → read_zeros n fault p o ≡ stop k at
  unfolding read_zeros ZerosStop
  zeros_stops zero p o k at f = absurd f
  zeros_stops (suc n) p [] k at (which, there) = rw (which, there) refl
  zeros_stops (suc n) p (zero ∷ o) k at f = zeros_stops n (p + 1) o k at f
  zeros_stops (suc n) p (suc b ∷ o) k at (which, there) = rw (which, there) refl

  zeros_faulty : (n p : ℕ) (o : List ℕ) (k : FaultKind) (at : ℕ) → AreOctets o → read_zeros n fault p o ≡ stop k at
      → ZerosStop n fault p o k at
  unfolding read_zeros ZerosStop
  zeros_faulty zero p o k at oct e = absurd cc
  zeros_faulty (suc n) p [] k at oct e = (cc, cc)
  zeros_faulty (suc n) p (zero ∷ o) k at oct e = zeros_faulty n (p + 1) o k at oct.1 e
  zeros_faulty (suc n) p (suc b ∷ o) k at oct e = (cc, cc)

  pub zeros_are : (n : ℕ) → IsGrammar (read_zeros n fault) (λ p o x. o ≡ replicate n 0) (ZerosStop n fault)
  zeros_are n = record { reads = zeros_reads n; spelled = zeros_spelled n; stops = zeros_stops n; faulty = zeros_faulty n }

pub element_is : (e : Encoding) (a : Array) → IsGrammar (read_element e a) (ElementSpells e a) (ElementStops e a)
unfolding read_element ElementSpells ElementStops
element_is e (text c) = octet_is (may_stand (text c)) BadText
element_is e (row_of kind.Octet c) = octet_is (λ b. true) BadText
element_is e (row_of k c) = scalar_is e (number k)

tail_is : (e : Encoding) (a : Array) (n : ℕ) → IsGrammar (read_tail e a n) (TailSpells e a n) (TailStops e a n)
unfolding read_tail TailSpells TailStops
tail_is Xdr a n = zeros_are BadPad (trailing Xdr a n)
tail_is CdrBig a n = zeros_are BadText (trailing CdrBig a n)
tail_is CdrLittle a n = zeros_are BadText (trailing CdrLittle a n)
tail_is Mach a n = any_are (trailing Mach a n)

pub times_length : {A : Type 0} (S : Spelling A) (n p : ℕ) (o : List ℕ) (xs : List A) → SpellTimes S n p o xs → length xs ≡ n
times_length S zero p o [] h = refl
times_length S zero p o (x ∷ xs) h = absurd h
times_length S (suc n) p o [] h = absurd h
times_length S (suc n) p o (x ∷ xs) (a, b, is, first, more) = ap suc (times_length S n (p + length a) b xs more)

pub array_is : (e : Encoding) (a : Array) → IsGrammar (read_array e a) (ArraySpells e a) (ArrayStops e a)
unfolding ArraySpells ArrayStops read_array
array_is e a = mapped (λ (x : ℕ × (List ℤ × Unit {0})). x.1.0) (ArraySpells e a)
    (both_are (head_is e a) (λ n. both_are (times_are n (element_is e a)) (λ _. tail_is e a n)))
    (λ p o x h. forth p o x.0 x.1.0 h)
    (λ p o ns h. ((length ns, (ns, tt)), refl, h))
  where
    forth : (p : ℕ) (o : List ℕ) (n : ℕ) (ns : List ℤ)
        → Parts p o
        (λ x. HeadSpells e a p x n) (λ q b. Parts q b (λ x. SpellTimes (ElementSpells e a) n q x ns) (λ r d. TailSpells e a n r d tt))
        → ArraySpells e a p o ns
    forth p o n ns (x, y, is, head, (u, v, is', elements, tail)) =
        rw (times_length (ElementSpells e a) n (p + length x) u ns elements) (x, y, is, head, (u, v, is', elements, tail))
