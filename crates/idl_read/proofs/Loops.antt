-- A loop over items reads what `repeat` reads.
use Rattle.std.proofs.Common.{◌≡◌, ℕ, zero, suc, ◌+◌, ◌-◌, ◌<◌, ◌≤◌, List, [], ◌∷◌, ◌++◌, length, Some, None, Bool, true, false, refl, sym, ap, ◌∙◌, append_assoc, arith}
use Rattle.std.proofs.lemmas.List.{append-nil}
use Rattle.idl_lex.specs.declared.kinds.Token.{Token}
use Rattle.idl_read.specs.Reading.{Read, Reader, then_on, map_read, repeat, cons, begins_with, mark_is, mark_at, after, joined_at}

abbrev pub with_prefix : {A : Type 0} → List A → Read (List A) → Read (List A)
with_prefix front read = then_on read (λ xs rest. Some (front ++ xs, rest))

-- the items so far, and what is read of the rest, are all
pub record Left {A : Type 0} (go : List Token → Bool) (r : Reader A) (n : ℕ) (xs : List A) (rest : List Token) (all : Read (List A)) : Type
    0 where
  pub whole : with_prefix xs (repeat go r n rest) ≡ all

same : {A : Type 0} (q : Read (List A)) → with_prefix [] q ≡ q
same None = refl
same (Some x) = refl

pub starts : {A : Type 0} (go : List Token → Bool) (r : Reader A) (n i : ℕ) (ts : List Token) → i ≡ 0
    → Left go r (n - i) [] ts (repeat go r n ts)
starts go r n i ts zero_is = record { whole = let k : n - i ≡ n = omega arith in rw k (same (repeat go r n ts)) }

regroup : {A : Type 0} (front : List A) (x : A) (q : Read (List A))
    → with_prefix front (then_on q (λ xs vs. Some (x ∷ xs, vs))) ≡ with_prefix (front ++ x ∷ []) q
regroup front x None = refl
regroup front x (Some y) = ap (λ zs. Some (zs, y.1)) (simp append_assoc)

pub goes_on : {A : Type 0} (go : List Token → Bool) (r : Reader A) (n i : ℕ) (xs : List A) (rest : List Token)
    (all : Read (List A)) (x : A) (tail : List Token)
    → Left go r (n - i) xs rest all → i < n → go rest ≡ true → r rest ≡ Some (x, tail)
    → Left go r (n - (i + 1)) (xs ++ x ∷ []) tail all
goes_on go r n i xs rest all x tail l lt does one =
    let k : n - i ≡ suc (n - (i + 1)) = omega arith in
    let h : with_prefix xs (repeat go r (n - i) rest) ≡ with_prefix (xs ++ x ∷ []) (repeat go r (n - (i + 1)) tail) =
    rw (k, does, one) (regroup xs x (repeat go r (n - (i + 1)) tail)) in
    record { whole = sym h ∙ l.whole }

pub fails : {A : Type 0} (go : List Token → Bool) (r : Reader A) (n i : ℕ) (xs : List A) (rest : List Token) (all : Read (List A))
    → Left go r (n - i) xs rest all → i < n → go rest ≡ true → r rest ≡ None → all ≡ None
fails go r n i xs rest all l lt does none =
    let k : n - i ≡ suc (n - (i + 1)) = omega arith in
    let h : with_prefix xs (repeat go r (n - i) rest) ≡ None = rw (k, does, none) refl in
    sym l.whole ∙ h

done_at : {A : Type 0} (go : List Token → Bool) (r : Reader A) (xs : List A) (rest : List Token) (n : ℕ) → go rest ≡ false
    → with_prefix xs (repeat go r n rest) ≡ Some (xs, rest)
done_at go r xs rest zero not_so = ap (λ zs. Some (zs, rest)) (append-nil xs)
done_at go r xs rest (suc n) not_so = rw not_so (ap (λ zs. Some (zs, rest)) (append-nil xs))

pub stands : {A : Type 0} (go : List Token → Bool) (r : Reader A) (n i : ℕ) (xs : List A) (rest : List Token) (all : Read (List A))
    → Left go r (n - i) xs rest all → go rest ≡ false
    → all ≡ Some (xs, rest)
stands go r n i xs rest all l not_so = sym l.whole ∙ done_at go r xs rest (n - i) not_so

pub used_up : {A : Type 0} (go : List Token → Bool) (r : Reader A) (n i : ℕ) (xs : List A) (rest : List Token) (all : Read (List A))
    → Left go r (n - i) xs rest all → n ≤ i
    → all ≡ Some (xs, rest)
used_up go r n i xs rest all l le =
    let k : n - i ≡ 0 = omega arith in
    let h : with_prefix xs (repeat go r (n - i) rest) ≡ Some (xs, rest) = rw k (ap (λ zs. Some (zs, rest)) (append-nil xs)) in
    sym l.whole ∙ h

begun_with : {A : Type 0} (x : A) (q : Read (List A)) → with_prefix (x ∷ []) q ≡ map_read cons (then_on q (λ b vs. Some ((x, b), vs)))
begun_with x None = refl
begun_with x (Some y) = refl

-- after the first of a joined list
pub begun : {A : Type 0} (m : List ℕ) (r : Reader A) (i : ℕ) (ts : List Token) (x : A) (rest : List Token) → i ≡ 0 → r ts ≡ Some (x, rest)
    → Left (begins_with (mark_is m)) (after (mark_at m) r) (length rest - i) (x ∷ []) rest (joined_at m r ts)
begun m r i ts x rest zero_is e = record {
  whole =
      let k : length rest - i ≡ length rest = omega arith in
      rw (k, e) (begun_with x (repeat (begins_with (mark_is m)) (after (mark_at m) r) (length rest) rest));
}
