-- Lists of items, and how far a list of items goes, by induction on the items.
use Rattle.std.proofs.Common.{◌≡◌, ℕ, ◌≤◌, ◌<◌, List, [], ◌∷◌, ◌++◌, length, Some, None, Bool, true, false, refl, sym, ap, subst, ◌∙◌, append_assoc, length-append, arith}
use Rattle.idl_lex.specs.declared.kinds.Token.{Token}
use Rattle.idl_lex.specs.declared.kinds.TokenKind.{TokenKind}
use Rattle.idl_read.specs.Reading.{Reader, word_is, mark_is, begins_with, begins_other, cons, joined_at, until_at, while_at, if_some, some_at}
use Rattle.idl_read.specs.Grammar.{Text, mark, ◌&◌, each, joined, some, kinds, IsGrammar, Leads, Any}
use Rattle.idl_read.proofs.Grammars.{read_is, then_some, parted, mapped_is, both_is, many_is, IsRow, no_kinds}
use Rattle.idl_read.proofs.Leaves.{mark_reads, Apart, leads_mark, leads_both, begins_so, begins_else}
use Rattle.idl_read.proofs.Productions.{weaker, after_is, leads_after}

-- a first token of f is none of g
pub turns : (f g : TokenKind → Bool) → Apart f g → (ts : List Token) → begins_with f ts ≡ true → begins_with g ts ≡ false
turns f g apart [] h = absurd cc
turns f g apart (t ∷ ts) h = apart t.kind h

pub shorter_by : {A : Type 0} {r : Reader A} {S : A → Text} {May : List Token → Type 0} {f : TokenKind → Bool}
    → IsGrammar r S May → Leads S f → (ts : List Token) (x : A) (rest : List Token) → r ts ≡ Some (x, rest)
    → length rest < length ts
shorter_by {A} {r} {S} {May} {f} g l ts x rest e = let a = g.found ts x rest e in go a.0 a.1 a.2 where
  go : (front : List Token) → ts ≡ front ++ rest → S x (kinds front) → length rest < length ts
  go [] is s = let y = l x [] s in absurd (let h : [] ≡ y.0 ∷ y.1 = y.2 in cc)
  go (t ∷ front) is s = omega (arith, ap length is, length-append front rest)

pub joined_is : {A : Type 0} {r : Reader A} {S : A → Text} {May : List Token → Type 0} (m : List ℕ) → IsGrammar r S May
    → ((ts : List Token) → begins_with (mark_is m) ts ≡ true → May ts)
    → IsGrammar (joined_at m r) (joined m S) (λ rest. (begins_with (mark_is m) rest ≡ false) × May rest)
joined_is {A} {r} {S} {May} m g goes_on = mapped_is cons (joined m S)
    (both_is g (many_is (begins_with (mark_is m)) (after_is (mark_reads m) g) row) stands)
    (λ x ks s. s) back
  where
    row : IsRow (begins_with (mark_is m)) (λ y. mark m & S y) May
    row = record { ends = refl; begins = λ a front rest s. begins_so (leads_after S (leads_mark m)) a front rest s; goes_on = goes_on }

    stands : (ys : List A) (front rest : List Token)
        → each (λ y. mark m & S y) ys (kinds front) → (begins_with (mark_is m) rest ≡ false) × May rest → May (front ++ rest)
    stands [] front rest s may = subst (λ z. May (z ++ rest)) (sym (no_kinds front s)) may.1
    stands (y ∷ ys) front rest s may =
        goes_on (front ++ rest) (begins_so (leads_both (each (λ z. mark m & S z)) (leads_after S (leads_mark m))) (y, ys) front rest s)

    back : (xs : List A) (ks : List TokenKind) → joined m S xs ks → (x : A × List A) × (cons x ≡ xs)
        × (S x.0 & each (λ y. mark m & S y) x.1) ks
    back [] ks s = absurd s
    back (x ∷ xs) ks s = ((x, xs), refl, s)

pub until_is : {A : Type 0} {r : Reader A} {S : A → Text} {f : TokenKind → Bool} (close : List ℕ) → IsGrammar r S Any
    → Leads S f → Apart f (mark_is close)
    → IsGrammar (until_at close r) (each S) (λ rest. begins_other (mark_is close) rest ≡ false)
until_is {S = S} close g l apart =
    weaker
    (many_is (begins_other (mark_is close)) g
    (record {
      ends = refl;
      begins = λ a front rest s. begins_else (mark_is close) l apart a front rest s;
      goes_on = λ ts h.
          tt;
    })) (λ rest may. (may, tt))

pub while_is : {A : Type 0} {r : Reader A} {S : A → Text} (w : List ℕ) → IsGrammar r S Any → Leads S (word_is w)
    → IsGrammar (while_at w r) (each S) (λ rest. begins_with (word_is w) rest ≡ false)
while_is {S = S} w g l =
    weaker
    (many_is (begins_with (word_is w)) g
    (record { ends = refl; begins = λ a front rest s. begins_so l a front rest s; goes_on = λ ts h. tt })) (λ rest may. (may, tt))

pub some_is : {A : Type 0} {r : Reader (List A)} {S : A → Text} {May : List Token → Type 0} → IsGrammar r (each S) May
    → IsGrammar (some_at r) (some S) May
some_is {A} {r} {S} {May} g = record {
  found = λ ts xs rest e.
      let m = then_some (r ts) if_some (xs, rest) e in
      let is = same m.0.0 m.0.1 xs rest m.2 in
      let a = g.found ts m.0.0 m.0.1 m.1 in
      (a.0, a.1 ∙ ap (λ z. a.0 ++ z) is.1, is.2 (kinds a.0) a.2);
  again = λ xs front rest s may. reads xs front rest s may;
} where
  same : (ys : List A) (us : List Token) (xs : List A) (rest : List Token) → if_some ys us ≡ Some (xs, rest) → (ys ≡ xs) × (us ≡ rest)
      × ((ks : List TokenKind) → each S ys ks → some S xs ks)
  same [] us xs rest e = absurd cc
  same (y ∷ ys) us xs rest e = let is = read_is (y ∷ ys) xs us rest e in (is.0, is.1, λ ks s. subst (λ z. some S z ks) is.0 s)

  reads : (xs : List A) (front rest : List Token) → some S xs (kinds front) → May rest → some_at r (front ++ rest) ≡ Some (xs, rest)
  reads [] front rest s may = absurd s
  reads (x ∷ xs) front rest s may = rw (g.again (x ∷ xs) front rest s may) refl

pub leads_some : {A : Type 0} {S : A → Text} {f : TokenKind → Bool} → Leads S f → Leads (some S) f
leads_some {S = S} l [] ks s = absurd s
leads_some {S = S} l (x ∷ xs) ks s = leads_both (each S) l (x, xs) ks s

pub leads_joined : {A : Type 0} {S : A → Text} {f : TokenKind → Bool} (m : List ℕ) → Leads S f → Leads (joined m S) f
leads_joined {S = S} m l [] ks s = absurd s
leads_joined {S = S} m l (x ∷ xs) ks s = leads_both (each (λ y. mark m & S y)) l (x, xs) ks s

-- ---- the longest prefix that is items

-- where the next item is not read, no longer prefix is items
pub longest : {A : Type 0} {r : Reader A} {S : A → Text} → IsGrammar r S Any → (xs ys : List A) (front rest a b : List Token)
    → front ++ rest ≡ a ++ b → each S xs (kinds front) → each S ys (kinds a) → r rest ≡ None
    → length a ≤ length front
longest g xs [] front rest a b is s t none = omega (arith, ap length (no_kinds a t))
longest {r = r} {S = S} g [] (y ∷ ys) front rest a b is s t none =
    let q = parted a t.0 t.1 t.2 in
    let one = g.again y q.0 (q.1 ++ b) (subst (S y) (sym q.3) t.3) tt in
    let whole : rest ≡ q.0 ++ (q.1 ++ b) =
    ap (λ z. z ++ rest) (sym (no_kinds front s)) ∙ is ∙ ap (λ z. z ++ b) q.2 ∙ append_assoc q.0 q.1 b in
    let both_ways : Some (y, q.1 ++ b) ≡ None = sym one ∙ ap r (sym whole) ∙ none in
    absurd cc
longest {r = r} {S = S} g (x ∷ xs) (y ∷ ys) front rest a b is s t none =
    let p = parted front s.0 s.1 s.2 in
    let q = parted a t.0 t.1 t.2 in
    let one = g.again x p.0 (p.1 ++ rest) (subst (S x) (sym p.3) s.3) tt in
    let two = g.again y q.0 (q.1 ++ b) (subst (S y) (sym q.3) t.3) tt in
    let left : front ++ rest ≡ p.0 ++ (p.1 ++ rest) = ap (λ z. z ++ rest) p.2 ∙ append_assoc p.0 p.1 rest in
    let right : a ++ b ≡ q.0 ++ (q.1 ++ b) = ap (λ z. z ++ b) q.2 ∙ append_assoc q.0 q.1 b in
    let whole : p.0 ++ (p.1 ++ rest) ≡ q.0 ++ (q.1 ++ b) = sym left ∙ is ∙ right in
    let same = read_is x y (p.1 ++ rest) (q.1 ++ b) (sym one ∙ ap r whole ∙ two) in
    let others = longest g xs ys p.1 rest q.1 b same.1 (subst (each S xs) (sym p.4) s.4) (subst (each S ys) (sym q.4) t.4) none in
    omega (
      arith,
      others,
      ap length whole,
      ap length same.1,
      ap length p.2,
      ap length q.2,
      length-append p.0 p.1,
      length-append q.0 q.1,
      length-append p.0 (p.1 ++ rest),
      length-append q.0 (q.1 ++ b),
    )
