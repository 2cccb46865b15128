-- A loop over items reads what `repeat` reads.
use Rattle.std.proofs.Common.{◌≡◌, ℕ, zero, suc, ◌+◌, ◌-◌, ◌<◌, ◌≤◌, List, [], ◌∷◌, ◌++◌, Some, None, refl, sym, ap, ◌∙◌, append_assoc, arith}
use Rattle.std.proofs.lemmas.List.{append-nil}
use Rattle.stub_read.specs.Reading.{Read, Reader, then_on, repeat}

abbrev pub with_prefix : {A : Type 0} → List A → Read (List A) → Read (List A)
with_prefix front read = then_on read (λ xs rest. Some (front ++ xs, rest))

-- the items so far, and what is read of the rest, are all
pub record Left {A K : Type 0} (lead : Reader K) (r : K → Reader A) (n : ℕ) (xs : List A) (rest : List ℕ) (all : Read (List A)) : Type 0
  where
    pub whole : with_prefix xs (repeat lead r n rest) ≡ all

same : {A : Type 0} (q : Read (List A)) → with_prefix [] q ≡ q
same None = refl
same (Some x) = refl

pub starts : {A K : Type 0} (lead : Reader K) (r : K → Reader A) (n i : ℕ) (t : List ℕ) → i ≡ 0
    → Left lead r (n - i) [] t (repeat lead r n t)
starts lead r n i t zero_is = record { whole = let k : n - i ≡ n = omega arith in rw k (same (repeat lead r n t)) }

regroup : {A : Type 0} (front : List A) (x : A) (q : Read (List A))
    → with_prefix front (then_on q (λ xs vs. Some (x ∷ xs, vs))) ≡ with_prefix (front ++ x ∷ []) q
regroup front x None = refl
regroup front x (Some y) = ap (λ zs. Some (zs, y.1)) (simp append_assoc)

pub goes_on : {A K : Type 0} (lead : Reader K) (r : K → Reader A) (n i : ℕ) (xs : List A) (rest : List ℕ)
    (all : Read (List A)) (k : K) (led : List ℕ) (x : A) (tail : List ℕ)
    → Left lead r (n - i) xs rest all → i < n → lead rest ≡ Some (k, led) → r k led ≡ Some (x, tail)
    → Left lead r (n - (i + 1)) (xs ++ x ∷ []) tail all
goes_on lead r n i xs rest all k led x tail l lt leads one =
    let m : n - i ≡ suc (n - (i + 1)) = omega arith in
    let h : with_prefix xs (repeat lead r (n - i) rest) ≡ with_prefix (xs ++ x ∷ []) (repeat lead r (n - (i + 1)) tail) =
    rw (m, leads, one) (regroup xs x (repeat lead r (n - (i + 1)) tail)) in
    record { whole = sym h ∙ l.whole }

pub fails : {A K : Type 0} (lead : Reader K) (r : K → Reader A) (n i : ℕ) (xs : List A) (rest : List ℕ) (all : Read (List A)) (k : K)
    (led : List ℕ) → Left lead r (n - i) xs rest all → i < n → lead rest ≡ Some (k, led) → r k led ≡ None → all ≡ None
fails lead r n i xs rest all k led l lt leads none =
    let m : n - i ≡ suc (n - (i + 1)) = omega arith in
    let h : with_prefix xs (repeat lead r (n - i) rest) ≡ None = rw (m, leads, none) refl in
    sym l.whole ∙ h

done_at : {A K : Type 0} (lead : Reader K) (r : K → Reader A) (xs : List A) (rest : List ℕ) (n : ℕ) → lead rest ≡ None
    → with_prefix xs (repeat lead r n rest) ≡ Some (xs, rest)
done_at lead r xs rest zero ends = ap (λ zs. Some (zs, rest)) (append-nil xs)
done_at lead r xs rest (suc n) ends = rw ends (ap (λ zs. Some (zs, rest)) (append-nil xs))

pub stands : {A K : Type 0} (lead : Reader K) (r : K → Reader A) (n i : ℕ) (xs : List A) (rest : List ℕ) (all : Read (List A))
    → Left lead r (n - i) xs rest all → lead rest ≡ None
    → all ≡ Some (xs, rest)
stands lead r n i xs rest all l ends = sym l.whole ∙ done_at lead r xs rest (n - i) ends

pub used_up : {A K : Type 0} (lead : Reader K) (r : K → Reader A) (n i : ℕ) (xs : List A) (rest : List ℕ) (all : Read (List A))
    → Left lead r (n - i) xs rest all → n ≤ i
    → all ≡ Some (xs, rest)
used_up lead r n i xs rest all l le =
    let k : n - i ≡ 0 = omega arith in
    let h : with_prefix xs (repeat lead r (n - i) rest) ≡ Some (xs, rest) = rw k (ap (λ zs. Some (zs, rest)) (append-nil xs)) in
    sym l.whole ∙ h

-- ---- the same by hand

-- where nothing leads on
pub ends_none : {A K : Type 0} (lead : Reader K) (r : K → Reader A) (n : ℕ) (t : List ℕ) → lead t ≡ None → repeat lead r n t ≡ Some
    ([], t)
ends_none lead r zero t e = refl
ends_none lead r (suc n) t e = rw e refl

-- where something leads to an item, and others follow
pub one_more : {A K : Type 0} (lead : Reader K) (r : K → Reader A) (n : ℕ) (t us vs ws : List ℕ) (k : K) (x : A) (xs : List A)
    → lead t ≡ Some (k, us) → r k us ≡ Some (x, vs) → repeat lead r n vs ≡ Some (xs, ws) → repeat lead r (suc n) t ≡ Some (x ∷ xs, ws)
one_more lead r n t us vs ws k x xs e f g = rw (e, f, g) refl

-- what is read, and then more
pub then_reads : {A B : Type 0} (q : Read A) (f : A → Reader B) (a : A) (us : List ℕ) (y : Read B) → q ≡ Some (a, us) → f a us ≡ y
    → then_on q f ≡ y
then_reads q f a us y e g = rw e g

pub ruleset loops = (starts, goes_on, fails, stands, used_up)
