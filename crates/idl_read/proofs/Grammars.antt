-- What is put together of grammars is one, rows by induction on their bound and on their items.
use Rattle.std.proofs.Common.{◌≡◌, ◌⊎◌, inl, inr, ℕ, zero, suc, ◌≤◌, List, [], ◌∷◌, ◌++◌, length, Option, Some, None, Bool, true, false, cond, refl, sym, ap, subst, ◌∙◌, append_assoc, length-append, arith}
use Rattle.idl_lex.specs.declared.kinds.Token.{Token}
use Rattle.idl_lex.specs.declared.kinds.TokenKind.{TokenKind}
use Rattle.idl_read.specs.Reading.{Read, Reader, then_on, map_read, both, mapped, either, option, repeat, many}
use Rattle.idl_read.specs.Grammar.{Text, ◌&◌, one_of, maybe, each, kinds, IsGrammar}

pub then_some : {A B : Type 0} (r : Read A) (f : A → Reader B) (y : B × List Token) → then_on r f ≡ Some y
    → (x : A × List Token) × (r ≡ Some x) × (f x.0 x.1 ≡ Some y)
then_some None f y e = absurd cc
then_some (Some x) f y e = (x, refl, e)

abbrev made : {A : Type 0} → A → List Token → Read A
made a ts = Some (a, ts)

pub read_is : {A : Type 0} (a b : A) (us vs : List Token) → made a us ≡ made b vs → (a ≡ b) × (us ≡ vs)
read_is {A} a b us vs e =
    let pair : Read A → A × List Token = λ r. elim r [ Some x ↦ x | None ↦ (a, us) ] in
    (ap (λ r. (pair r).0) e, ap (λ r. (pair r).1) e)

pub map_some : {A B : Type 0} (f : A → B) (r : Read A) (y : B) (rest : List Token) → map_read f r ≡ Some (y, rest)
    → (x : A) × (r ≡ Some (x, rest)) × (f x ≡ y)
map_some f None y rest e = absurd cc
map_some f (Some x) y rest e =
    let is = read_is (f x.0) y x.1 rest e in
    (x.0, ap (λ z. made x.0 z) is.1, is.0)

pub cond_some : {A : Type 0} (b : Bool) (p q : Read A) (y : A × List Token) → cond b p q ≡ Some y
    → ((b ≡ true) × (p ≡ Some y)) ⊎ ((b ≡ false) × (q ≡ Some y))
cond_some true p q y e = inl (refl, e)
cond_some false p q y e = inr (refl, e)

pub kinds-append : (a b : List Token) → kinds (a ++ b) ≡ kinds a ++ kinds b
kinds-append [] b = refl
kinds-append (t ∷ a) b = ap (λ ks. t.kind ∷ ks) (kinds-append a b)

-- where the kinds are two parts, the tokens are
pub parted : (ts : List Token) (a b : List TokenKind) → kinds ts ≡ a ++ b
    → (f : List Token) × (g : List Token) × (ts ≡ f ++ g) × (kinds f ≡ a) × (kinds g ≡ b)
parted ts [] b e = ([], ts, refl, refl, e)
parted [] (k ∷ a) b e = absurd cc
parted (t ∷ ts) (k ∷ a) b e =
    let one : t.kind ≡ k = cc in
    let rest : kinds ts ≡ a ++ b = cc in
    let p = parted ts a b rest in
    (t ∷ p.0, p.1, ap (λ us. t ∷ us) p.2, cc (one, p.3), p.4)

pub no_kinds : (ts : List Token) → kinds ts ≡ [] → ts ≡ []
no_kinds [] e = refl
no_kinds (t ∷ ts) e = absurd cc

-- the same, of another type
pub mapped_is : {A B : Type 0} {r : Reader A} {S : A → Text} {May : List Token → Type 0} (f : A → B) (T : B → Text) → IsGrammar r S May
    → ((x : A) (ks : List TokenKind) → S x ks → T (f x) ks) → ((y : B) (ks : List TokenKind) → T y ks → (x : A) × (f x ≡ y) × S x ks)
    → IsGrammar (mapped f r) T May
mapped_is {A} {B} {r} {S} {May} f T g forth back = record {
  found = λ ts y rest e.
      let m = map_some f (r ts) y rest e in
      let s = g.found ts m.0 rest m.1 in
      (s.0, s.1, subst (λ z. T z (kinds s.0)) m.2 (forth m.0 (kinds s.0) s.2));
  again = λ y front rest t may. let x = back y (kinds front) t in rw (g.again x.0 front rest x.2 may, x.1) refl;
}

-- one after the other
pub both_is : {A B : Type 0} {r : Reader A} {s : Reader B} {S : A → Text} {T : B → Text} {May May' : List Token → Type 0}
    → IsGrammar r S May → IsGrammar s T May'
    → ((b : B) (front rest : List Token) → T b (kinds front) → May' rest → May (front ++ rest))
    → IsGrammar (both r s) (λ x. S x.0 & T x.1) May'
both_is {A} {B} {r} {s} {S} {T} {May} {May'} g h next = record {
  found = λ ts y rest e.
      let m = then_some (r ts) (λ a us. then_on (s us) (λ b vs. Some ((a, b), vs))) (y, rest) e in
      let n = then_some (s m.0.1) (λ b vs. Some ((m.0.0, b), vs)) (y, rest) m.2 in
      let is = read_is (m.0.0, n.0.0) y n.0.1 rest n.2 in
      let a = g.found ts m.0.0 m.0.1 m.1 in
      let b = h.found m.0.1 n.0.0 n.0.1 n.1 in (
        a.0 ++ b.0,
        a.1 ∙ ap (λ z. a.0 ++ z) (b.1 ∙ ap (λ z. b.0 ++ z) is.1) ∙ sym (append_assoc a.0 b.0 rest),
        subst (λ (z : A × B). (S z.0 & T z.1) (kinds (a.0 ++ b.0))) is.0 (kinds a.0, kinds b.0, kinds-append a.0 b.0, a.2, b.2),
      );
  again = λ y front rest t may.
      let p = parted front t.0 t.1 t.2 in
      let first : S y.0 (kinds p.0) = subst (S y.0) (sym p.3) t.3 in
      let second : T y.1 (kinds p.1) = subst (T y.1) (sym p.4) t.4 in
      let one = g.again y.0 p.0 (p.1 ++ rest) first (next y.1 p.1 rest second may) in
      let two = h.again y.1 p.1 rest second may in
      rw (p.2, append_assoc, one, two) refl;
}

-- the second where the test fails
pub either_is : {A B : Type 0} {r : Reader A} {s : Reader B} {S : A → Text} {T : B → Text} {May : List Token → Type 0}
    (go : List Token → Bool)
    → IsGrammar r S May → IsGrammar s T May → ((a : A) (front rest : List Token) → S a (kinds front) → May rest → go (front ++ rest) ≡ true)
    → ((b : B) (front rest : List Token) → T b (kinds front) → May rest → go (front ++ rest) ≡ false)
    → IsGrammar (either go r s) (one_of S T) May
either_is {A} {B} {r} {s} {S} {T} {May} go g h does not_so = record {
  found = λ ts y rest e.
      elim (cond_some (go ts) (map_read inl (r ts)) (map_read inr (s ts)) (y, rest) e) [
        | inl (t, e1) ↦
            let m = map_some inl (r ts) y rest e1 in
            let a = g.found ts m.0 rest m.1 in
            (a.0, a.1, subst (λ (z : A ⊎ B). one_of S T z (kinds a.0)) m.2 a.2)
        | inr (t, e1) ↦
            let m = map_some inr (s ts) y rest e1 in
            let b = h.found ts m.0 rest m.1 in
            (b.0, b.1, subst (λ (z : A ⊎ B). one_of S T z (kinds b.0)) m.2 b.2)
      ];
  again = λ y front rest t may. chosen y front rest t may;
} where
  chosen : (y : A ⊎ B) (front rest : List Token) → one_of S T y (kinds front) → May rest → either go r s (front ++ rest) ≡ Some (y, rest)
  chosen (inl a) front rest t may = rw (does a front rest t may, g.again a front rest t may) refl
  chosen (inr b) front rest t may = rw (not_so b front rest t may, h.again b front rest t may) refl

-- one, where the test passes
pub option_is : {A : Type 0} {r : Reader A} {S : A → Text} {May : List Token → Type 0} (go : List Token → Bool)
    → IsGrammar r S May
    → ((a : A) (front rest : List Token) → S a (kinds front) → May rest → go (front ++ rest) ≡ true)
    → ((rest : List Token) → May rest → go rest ≡ false)
    → IsGrammar (option go r) (maybe S) May
option_is {A} {r} {S} {May} go g does not_so = record {
  found = λ ts y rest e.
      elim (cond_some (go ts) (map_read Some (r ts)) (Some (None, ts)) (y, rest) e) [
        | inl (t, e1) ↦
            let m = map_some Some (r ts) y rest e1 in
            let a = g.found ts m.0 rest m.1 in
            (a.0, a.1, subst (λ (z : Option A). maybe S z (kinds a.0)) m.2 a.2)
        | inr (t, e1) ↦
            let is = read_is None y ts rest e1 in
            ([], is.1, subst (λ (z : Option A). maybe S z []) is.0 refl)
      ];
  again = λ y front rest t may. chosen y front rest t may;
} where
  chosen : (y : Option A) (front rest : List Token) → maybe S y (kinds front) → May rest → option go r (front ++ rest) ≡ Some (y, rest)
  chosen None front rest t may = rw (no_kinds front t, not_so rest may) refl
  chosen (Some a) front rest t may = rw (does a front rest t may, g.again a front rest t may) refl

-- ---- many

-- what begins an item and what follows the last
pub record IsRow {A : Type 0} (go : List Token → Bool) (S : A → Text) (May : List Token → Type 0) : Type 0 where
  pub ends : go [] ≡ false
  pub begins : (a : A) (front rest : List Token) → S a (kinds front) → go (front ++ rest) ≡ true
  -- the next item may follow an item
  pub goes_on : (ts : List Token) → go ts ≡ true → May ts

repeat_found : {A : Type 0} {r : Reader A} {S : A → Text} {May : List Token → Type 0} (go : List Token → Bool)
    → IsGrammar r S May → (n : ℕ) (ts : List Token) (xs : List A) (rest : List Token) → repeat go r n ts ≡ Some (xs, rest)
    → (front : List Token) × (ts ≡ front ++ rest) × each S xs (kinds front)
repeat_found {A} {S = S} go g zero ts xs rest e =
    let is = read_is [] xs ts rest e in
    ([], is.1, subst (λ z. each S z []) is.0 refl)
repeat_found {A} {r} {S} go g (suc n) ts xs rest e =
    elim
    (cond_some (go ts)
    (then_on (r ts) (λ x us. then_on (repeat go r n us) (λ xs vs. Some (x ∷ xs, vs)))) (Some ([], ts)) (xs, rest) e) [
      | inl (t, e1) ↦
          let m = then_some (r ts) (λ x us. then_on (repeat go r n us) (λ xs vs. Some (x ∷ xs, vs))) (xs, rest) e1 in
          let l = then_some (repeat go r n m.0.1) (λ xs vs. Some (m.0.0 ∷ xs, vs)) (xs, rest) m.2 in
          let is = read_is (m.0.0 ∷ l.0.0) xs l.0.1 rest l.2 in
          let a = g.found ts m.0.0 m.0.1 m.1 in
          let b = repeat_found go g n m.0.1 l.0.0 l.0.1 l.1 in (
            a.0 ++ b.0,
            a.1 ∙ ap (λ z. a.0 ++ z) (b.1 ∙ ap (λ z. b.0 ++ z) is.1) ∙ sym (append_assoc a.0 b.0 rest),
            subst (λ z. each S z (kinds (a.0 ++ b.0))) is.0 (kinds a.0, kinds b.0, kinds-append a.0 b.0, a.2, b.2),
          )
      | inr (t, e1) ↦
          let is = read_is [] xs ts rest e1 in
          ([], is.1, subst (λ z. each S z []) is.0 refl)
    ]

-- an item has a token
not_empty : {A : Type 0} {S : A → Text} {May : List Token → Type 0} {go : List Token → Bool} → IsRow go S May
    → (a : A) (front : List Token) → S a (kinds front)
    → (t : Token) × (more : List Token) × (front ≡ t ∷ more)
not_empty {go = go} row a [] s = let does = row.begins a [] [] s in absurd (cc (does, row.ends))
not_empty row a (t ∷ more) s = (t, more, refl)

repeat_again : {A : Type 0} {r : Reader A} {S : A → Text} {May : List Token → Type 0} (go : List Token → Bool)
    → IsGrammar r S May → IsRow go S May → (xs : List A) (n : ℕ) (front rest : List Token) → length front ≤ n
    → each S xs (kinds front) → go rest ≡ false → May rest
    → repeat go r n (front ++ rest) ≡ Some (xs, rest)
repeat_again go g row [] zero front rest le t not_so may = rw (no_kinds front t) refl
repeat_again go g row [] (suc n) front rest le t not_so may = rw (no_kinds front t, not_so) refl
repeat_again {S = S} go g row (x ∷ xs) zero front rest le t not_so may =
    let p = parted front t.0 t.1 t.2 in
    let f = not_empty row x p.0 (subst (S x) (sym p.3) t.3) in
    absurd (omega (arith, ap length p.2, ap length f.2, length-append p.0 p.1))
repeat_again {A} {r} {S} {May} go g row (x ∷ xs) (suc n) front rest le t not_so may =
    let p = parted front t.0 t.1 t.2 in
    let first : S x (kinds p.0) = subst (S x) (sym p.3) t.3 in
    let others : each S xs (kinds p.1) = subst (each S xs) (sym p.4) t.4 in
    let f = not_empty row x p.0 first in
    let short : length p.1 ≤ n = omega (arith, ap length p.2, ap length f.2, length-append p.0 p.1) in
    let does = row.begins x p.0 (p.1 ++ rest) first in
    let one = g.again x p.0 (p.1 ++ rest) first (stands xs p.1 others) in
    let two = repeat_again go g row xs n p.1 rest short others not_so may in
    rw (p.2, append_assoc, does, one, two) refl
  where
    stands : (ys : List A) (us : List Token) → each S ys (kinds us) → May (us ++ rest)
    stands [] us t = rw (no_kinds us t) may
    stands (y ∷ ys) us t =
        let p = parted us t.0 t.1 t.2 in
        let first : S y (kinds p.0) = subst (S y) (sym p.3) t.3 in
        rw (p.2, append_assoc) (row.goes_on (p.0 ++ (p.1 ++ rest)) (row.begins y p.0 (p.1 ++ rest) first))

pub many_is : {A : Type 0} {r : Reader A} {S : A → Text} {May : List Token → Type 0} (go : List Token → Bool)
    → IsGrammar r S May → IsRow go S May
    → IsGrammar (many go r) (each S) (λ rest. (go rest ≡ false) × May rest)
many_is {A} {r} {S} {May} go g row = record {
  found = λ ts xs rest e. repeat_found go g (length ts) ts xs rest e;
  again =
      λ xs front rest t may.
      repeat_again go g row xs (length (front ++ rest)) front rest (omega (arith, length-append front rest)) t may.0 may.1;
}

-- ---- one tree

pub one_tree : {A : Type 0} {r : Reader A} {S : A → Text} {May : List Token → Type 0} → IsGrammar r S May → May []
    → (a b : A) (ts : List Token) → S a (kinds ts) → S b (kinds ts)
    → a ≡ b
one_tree g may a b ts s t = (read_is a b [] [] (sym (g.again a ts [] s may) ∙ g.again b ts [] t may)).0
