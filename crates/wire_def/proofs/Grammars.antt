-- What is put together of grammars is one, repeated ones by induction on the number of items.
use Rattle.std.proofs.Common.{◌≡◌, ◌⊎◌, inl, inr, ℕ, zero, suc, ◌+◌, List, [], ◌∷◌, ◌++◌, length, Bool, true, false, IsTrue, cond, refl, sym, ap, subst, ◌∙◌, append_assoc, length-append, add_assoc, add-zero, arith}
use Rattle.wire_def.specs.Grammar.{Reading, got, stop, Reader, Spelling, Stopping, AreOctets, then_on, map_got, both, times, tested, Parts, SpellTimes, StopTimes, StopsInOrder, TestedSpells, TestedStops, IsGrammar}

pub octets_after : (a b : List ℕ) → AreOctets (a ++ b) → AreOctets b
octets_after [] b h = h
octets_after (x ∷ a) b h = octets_after a b h.1

pub octets_before : (a b : List ℕ) → AreOctets (a ++ b) → AreOctets a
octets_before [] b h = tt
octets_before (x ∷ a) b h = (h.0, octets_before a b h.1)

pub then_got : {E A B : Type 0} (r : Reading E A) (f : A → Reader E B) (y : B) (q : ℕ) (rest : List ℕ) → then_on r f ≡ got y q rest
    → (x : A) × (m : ℕ) × (b : List ℕ) × (r ≡ got x m b) × (f x m b ≡ got y q rest)
then_got (got x m b) f y q rest e = (x, m, b, refl, e)
then_got (stop k at) f y q rest e = absurd cc

pub then_stop : {E A B : Type 0} (r : Reading E A) (f : A → Reader E B) (k : E) (at : ℕ) → then_on r f ≡ stop k at
    → (r ≡ stop k at) ⊎ ((x : A) × (m : ℕ) × (b : List ℕ) × (r ≡ got x m b) × (f x m b ≡ stop k at))
then_stop (got x m b) f k at e = inr (x, m, b, refl, e)
then_stop (stop k' at') f k at e = inl (cc)

pub mapped_got : {E A B : Type 0} (f : A → B) (r : Reading E A) (y : B) (q : ℕ) (rest : List ℕ) → map_got f r ≡ got y q rest
    → (x : A) × (r ≡ got x q rest) × (f x ≡ y)
mapped_got f (got x m b) y q rest e = (x, cc, cc)
mapped_got f (stop k at) y q rest e = absurd cc

pub mapped_stop : {E A B : Type 0} (f : A → B) (r : Reading E A) (k : E) (at : ℕ) → map_got f r ≡ stop k at → r ≡ stop k at
mapped_stop f (got x m b) k at e = absurd cc
mapped_stop f (stop k' at') k at e = cc

-- nothing
pub done : {E A : Type 0} (x : A) (S : Spelling A) → ((p : ℕ) → S p [] x) → ((p : ℕ) (o : List ℕ) (y : A) → S p o y → (o ≡ []) × (x ≡ y))
    → IsGrammar {E = E} (λ p o. got x p o) S (λ p o k at. ⊥)
done x S here only = record {
  reads = λ p o rest y s. let is = only p o y s in rw (is.0, is.1) (ap (λ n. got y n rest) (sym (add-zero p)));
  spelled = λ p o y q rest oct e.
      let same : p ≡ q = cc in
      let the : x ≡ y = cc in
      ([], cc, rw add-zero (sym same), rw (← the) (here p));
  stops = λ p o k at f. absurd f;
  faulty = λ p o k at oct e. absurd cc;
}

-- the same, seen otherwise
pub mapped : {E A B : Type 0} {r : Reader E A} {S : Spelling A} {F : Stopping E} (f : A → B) (T : Spelling B) → IsGrammar r S F
    → ((p : ℕ) (o : List ℕ) (x : A) → S p o x → T p o (f x)) → ((p : ℕ) (o : List ℕ) (y : B) → T p o y → (x : A) × (f x ≡ y) × S p o x)
    → IsGrammar (λ p o. map_got f (r p o)) T F
mapped {E} {A} {B} {r} {S} {F} f T g forth back = record {
  reads = λ p o rest y t. let x = back p o y t in rw (g.reads p o rest x.0 x.2, x.1) refl;
  spelled = λ p o y q rest oct e.
      let m = mapped_got f (r p o) y q rest e in
      let s = g.spelled p o m.0 q rest oct m.1 in
      (s.0, s.1, s.2, subst (λ z. T p s.0 z) m.2 (forth p s.0 m.0 s.3));
  stops = λ p o k at f'. rw (g.stops p o k at f') refl;
  faulty = λ p o k at oct e. g.faulty p o k at oct (mapped_stop f (r p o) k at e);
}

-- one after the other
pub both_are : {E A B : Type 0} {r : Reader E A} {S : Spelling A} {F : Stopping E} {s : A → Reader E B}
    {T : A → Spelling B} {G : A → Stopping E}
    → IsGrammar r S F → ((x : A) → IsGrammar (s x) (T x) (G x))
    → IsGrammar (both r s) (λ p o xy. Parts p o (λ a. S p a xy.0) (λ q b. T xy.0 q b xy.1)) (StopsInOrder S F G)
both_are {E} {A} {B} {r} {S} {F} {s} {T} {G} g h = record {
  reads = λ p o rest xy t.
      let first = g.reads p t.0 (t.1 ++ rest) xy.0 t.3 in
      let second = (h xy.0).reads (p + length t.0) t.1 rest xy.1 t.4 in
      rw (t.2, append_assoc, first, second, length-append, add_assoc) refl;
  spelled = λ p o xy q rest oct e.
      let m = then_got (r p o) (λ x q' rest'. map_got (λ y. (x, y)) (s x q' rest')) xy q rest e in
      let a = g.spelled p o m.0 m.1 m.2 oct m.3 in
      let n = mapped_got (λ (y : B). (m.0, y)) (s m.0 m.1 m.2) xy q rest m.4 in
      let b = (h m.0).spelled m.1 m.2 n.0 q rest (octets_after a.0 m.2 (rw a.1 at oct)) n.1 in (
        a.0 ++ b.0,
        a.1 ∙ ap (λ z. a.0 ++ z) b.1 ∙ sym (append_assoc a.0 b.0 rest),
        omega (arith, a.2, b.2, length-append a.0 b.0),
        (
          a.0,
          b.0,
          refl,
          subst (λ (z : A × B). S p a.0 z.0) n.2 a.3,
          subst (λ (z : A × B). T z.0 (p + length a.0) b.0 z.1) n.2 (subst (λ z. T m.0 z b.0 n.0) a.2 b.3),
        ),
      );
  stops = λ p o k at f. both_stop p o k at f;
  faulty = λ p o k at oct e.
      elim (then_stop (r p o) (λ x q' rest'. map_got (λ y. (x, y)) (s x q' rest')) k at e) [
        | inl e1 ↦ inl (g.faulty p o k at oct e1)
        | inr (x, m, b, e1, e2) ↦
            let a = g.spelled p o x m b oct e1 in
            inr (
              x,
              (
                a.0,
                b,
                a.1,
                a.3,
                subst (λ z. G x z b k at) a.2
                    ((h x).faulty m b k at (octets_after a.0 b (rw a.1 at oct)) (mapped_stop (λ (y : B). (x, y)) (s x m b) k at e2)),
              ),
            )
      ];
} where
  both_stop : (p : ℕ) (o : List ℕ) (k : E) (at : ℕ) → F p o k at
      ⊎ ((x : A) × Parts p o (λ a. S p a x) (λ q b. G x q b k at)) → both r s p o ≡ stop k at
  both_stop p o k at (inl f) = rw (g.stops p o k at f) refl
  both_stop p o k at (inr (x, (a, b, is, first, second))) = rw (is, g.reads p a b x first, (h x).stops (p + length a) b k at second) refl

-- so many, one after the other
times_reads : {E A : Type 0} {r : Reader E A} {S : Spelling A} {F : Stopping E} → IsGrammar r S F
    → (n p : ℕ) (o rest : List ℕ) (xs : List A) → SpellTimes S n p o xs
    → times r n p (o ++ rest) ≡ got xs (p + length o) rest
times_reads g zero p o rest [] s = rw (s, add-zero) refl
times_reads g zero p o rest (x ∷ xs) s = absurd s
times_reads g (suc n) p o rest [] s = absurd s
times_reads g (suc n) p o rest (x ∷ xs) (a, b, is, first, more) =
    rw (is, append_assoc, g.reads p a (b ++ rest) x first, times_reads g n (p + length a) b rest xs more, length-append, add_assoc) refl

times_spelled : {E A : Type 0} {r : Reader E A} {S : Spelling A} {F : Stopping E} → IsGrammar r S F
    → (n p : ℕ) (o : List ℕ) (xs : List A) (q : ℕ) (rest : List ℕ) → AreOctets o → times r n p o ≡ got xs q rest
    → (a : List ℕ) × (o ≡ a ++ rest) × (q ≡ p + length a) × SpellTimes S n p a xs
times_spelled {A = A} {S = S} g zero p o xs q rest oct e =
    let same : p ≡ q = cc in
    let none : [] ≡ xs = cc in
    ([], cc, rw add-zero (sym same), subst (λ z. SpellTimes {A = A} S zero p [] z) none refl)
times_spelled {A = A} {r = r} {S = S} g (suc n) p o xs q rest oct e =
    let m = then_got (r p o) (λ x q' rest'. map_got (λ (ys : List A). x ∷ ys) (times r n q' rest')) xs q rest e in
    let a = g.spelled p o m.0 m.1 m.2 oct m.3 in
    let l = mapped_got (λ (ys : List A). m.0 ∷ ys) (times r n m.1 m.2) xs q rest m.4 in
    let b = times_spelled g n m.1 m.2 l.0 q rest (octets_after a.0 m.2 (rw a.1 at oct)) l.1 in (
      a.0 ++ b.0,
      a.1 ∙ ap (λ z. a.0 ++ z) b.1 ∙ sym (append_assoc a.0 b.0 rest),
      omega (arith, a.2, b.2, length-append a.0 b.0),
      subst (λ z. SpellTimes S (suc n) p (a.0 ++ b.0) z) l.2 (a.0, b.0, refl, a.3, subst (λ z. SpellTimes S n z b.0 l.0) a.2 b.3),
    )

times_stops : {E A : Type 0} {r : Reader E A} {S : Spelling A} {F : Stopping E} → IsGrammar r S F
    → (n p : ℕ) (o : List ℕ) (k : E) (at : ℕ) → StopTimes S F n p o k at
    → times r n p o ≡ stop k at
times_stops g zero p o k at f = absurd f
times_stops g (suc n) p o k at (inl f) = rw (g.stops p o k at f) refl
times_stops g (suc n) p o k at (inr (x, (a, b, is, first, more))) =
    rw (is, g.reads p a b x first, times_stops g n (p + length a) b k at more) refl

times_faulty : {E A : Type 0} {r : Reader E A} {S : Spelling A} {F : Stopping E} → IsGrammar r S F
    → (n p : ℕ) (o : List ℕ) (k : E) (at : ℕ) → AreOctets o → times r n p o ≡ stop k at
    → StopTimes S F n p o k at
times_faulty g zero p o k at oct e = absurd cc
times_faulty {E} {A} {r} {S} {F} g (suc n) p o k at oct e =
    elim (then_stop (r p o) (λ x q' rest'. map_got (λ (ys : List A). x ∷ ys) (times r n q' rest')) k at e) [
      | inl e1 ↦ inl (g.faulty p o k at oct e1)
      | inr (x, m, b, e1, e2) ↦
          let a = g.spelled p o x m b oct e1 in
          inr (
            x,
            (
              a.0,
              b,
              a.1,
              a.3,
              subst (λ z. StopTimes S F n z b k at) a.2
                  (times_faulty g n m b k at (octets_after a.0 b (rw a.1 at oct))
                  (mapped_stop (λ (ys : List A). x ∷ ys) (times r n m b) k at e2)),
            ),
          )
    ]

pub times_are : {E A : Type 0} {r : Reader E A} {S : Spelling A} {F : Stopping E} (n : ℕ) → IsGrammar r S F
    → IsGrammar (times r n) (SpellTimes S n) (StopTimes S F n)
times_are n g = record {
  reads = times_reads g n;
  spelled = times_spelled g n;
  stops = times_stops g n;
  faulty = times_faulty g n;
}

-- a test after it
tested_got : {E A : Type 0} (b : Bool) (x y : A) (q m : ℕ) (rest o : List ℕ) (k : E) (p : ℕ) → cond b (got x q rest) (stop k p) ≡ got y m o
    → (b ≡ true) × (x ≡ y) × (q ≡ m) × (rest ≡ o)
tested_got true x y q m rest o k p e = (refl, cc, cc, cc)
tested_got false x y q m rest o k p e = absurd cc

tested_stop : {E A : Type 0} (b : Bool) (x : A) (q : ℕ) (rest : List ℕ) (k k' : E) (p at : ℕ)
    → cond b (got x q rest) (stop k p) ≡ stop k' at
    → (b ≡ false) × (k' ≡ k) × (at ≡ p)
tested_stop true x q rest k k' p at e = absurd cc
tested_stop false x q rest k k' p at e = (refl, cc, cc)

pub tested_are : {E A : Type 0} {r : Reader E A} {S : Spelling A} {F : Stopping E} (test : A → Bool) (k0 : E) (place : ℕ → ℕ)
    → IsGrammar r S F
    → IsGrammar (tested r test k0 place) (TestedSpells S test) (TestedStops S F test k0 place)
tested_are {E} {A} {r} {S} {F} test k0 place g = record {
  reads = λ p o rest x s. rw (g.reads p o rest x s.0, s.1) refl;
  spelled = λ p o x q rest oct e.
      let m = then_got (r p o) (λ y q' rest'. cond (test y) (got y q' rest') (stop k0 (place p))) x q rest e in
      let a = g.spelled p o m.0 m.1 m.2 oct m.3 in
      let t = tested_got (test m.0) m.0 x m.1 q m.2 rest k0 (place p) m.4 in
      (a.0, a.1 ∙ ap (λ z. a.0 ++ z) t.3, sym t.2 ∙ a.2, subst (λ y. S p a.0 y × IsTrue (test y)) t.1 (a.3, t.0));
  stops = λ p o k at f. tested_stops p o k at f;
  faulty = λ p o k at oct e.
      elim (then_stop (r p o) (λ y q' rest'. cond (test y) (got y q' rest') (stop k0 (place p))) k at e) [
        | inl e1 ↦ inl (g.faulty p o k at oct e1)
        | inr (x, m, b, e1, e2) ↦
            let a = g.spelled p o x m b oct e1 in
            inr (x, (a.0, b, a.1, a.3, tested_stop (test x) x m b k0 k (place p) at e2))
      ];
} where
  tested_stops : (p : ℕ) (o : List ℕ) (k : E) (at : ℕ) → F p o k at
      ⊎ ((x : A)
      × Parts p o (λ a. S p a x) (λ q b. (test x ≡ false) × (k ≡ k0) × (at ≡ place p))) → tested r test k0 place p o ≡ stop k at
  tested_stops p o k at (inl f) = rw (g.stops p o k at f) refl
  tested_stops p o k at (inr (x, (a, b, is, first, (fails, which, there)))) = rw (is, g.reads p a b x first, fails, which, there) refl

-- the same spellings and stops, said otherwise
pub reshaped : {E A : Type 0} {r r' : Reader E A} {S S' : Spelling A} {F F' : Stopping E} → IsGrammar r S F
    → ((p : ℕ) (o : List ℕ) → r p o ≡ r' p o) → ((p : ℕ) (o : List ℕ) (x : A) → S' p o x → S p o x)
    → ((p : ℕ) (o : List ℕ) (x : A) → S p o x → S' p o x) → ((p : ℕ) (o : List ℕ) (k : E) (at : ℕ) → F' p o k at → F p o k at)
    → ((p : ℕ) (o : List ℕ) (k : E) (at : ℕ) → F p o k at → F' p o k at)
    → IsGrammar r' S' F'
reshaped g same from to fault_from fault_to = record {
  reads = λ p o rest x s. sym (same p (o ++ rest)) ∙ g.reads p o rest x (from p o x s);
  spelled = λ p o x q rest oct e. let a = g.spelled p o x q rest oct (same p o ∙ e) in (a.0, a.1, a.2, to p a.0 x a.3);
  stops = λ p o k at f. sym (same p o) ∙ g.stops p o k at (fault_from p o k at f);
  faulty = λ p o k at oct e. fault_to p o k at (g.faulty p o k at oct (same p o ∙ e));
}
