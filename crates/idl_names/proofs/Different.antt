-- Names and numbers that are different from those before them, by induction on the list.
use Rattle.std.proofs.Common.{◌≡◌, ℕ, ℤ, ◌+◌, Bool, true, false, not, ◌||◌, List, [], ◌∷◌, ◌++◌, refl, sym, ap, ◌∙◌, arith, if◌then◌else◌}
use Rattle.std.specs.List.{list_any}
use Rattle.std.specs.Ordering.{int_eq}
use Rattle.std.specs.Str.{bytes_eq}
use Rattle.std.proofs.lemmas.Bool.Decides.{Decides-int_eq}
use Rattle.std.specs.Bool.{one_answer}
use Rattle.std.proofs.lemmas.Bool.{or_parts, or_from, and_parts, and_from, not_from_false, not-true}
use Rattle.aoi.specs.Sound.{are_distinct, are_different, count_different}
use Rattle.idl_names.specs.Names.{has}

-- ---- names

not_added : (p : List ℕ → Bool) (ns : List (List ℕ)) (n : List ℕ) → list_any p ns ≡ false → p n ≡ false → list_any p (ns ++ n ∷ []) ≡ false
not_added p [] n a b = or_from _ _ b refl
not_added p (m ∷ ns) n a b = let h = or_parts _ _ a in or_from _ _ h.0 (not_added p ns n h.1 b)

pub distinct_push : (ns : List (List ℕ)) (n : List ℕ) → are_distinct ns ≡ true → has n ns ≡ false → are_distinct (ns ++ n ∷ []) ≡ true
distinct_push [] n a b = refl
distinct_push (m ∷ ns) n a b =
    let parts = and_parts (not (list_any (λ k. bytes_eq k m) ns)) (are_distinct ns) a in
    let news = or_parts (bytes_eq n m) (has n ns) b in
    let none : list_any (λ k. bytes_eq k m) (ns ++ n ∷ []) ≡ false = not_added (λ k. bytes_eq k m) ns n (not-true _ parts.0) news.0 in
    and_from _ _ (not_from_false _ none) (distinct_push ns n parts.1 news.1)

-- ---- numbers

int_not_added : (p : ℤ → Bool) (ns : List ℤ) (n : ℤ) → list_any p ns ≡ false → p n ≡ false → list_any p (ns ++ n ∷ []) ≡ false
int_not_added p [] n a b = or_from _ _ b refl
int_not_added p (m ∷ ns) n a b = let h = or_parts _ _ a in or_from _ _ h.0 (int_not_added p ns n h.1 b)

pub different_push : (ns : List ℤ) (n : ℤ) → are_different ns ≡ true → list_any (int_eq n) ns ≡ false → are_different (ns ++ n ∷ []) ≡ true
different_push [] n a b = refl
different_push (m ∷ ns) n a b =
    let parts = and_parts (not (list_any (λ k. int_eq k m) ns)) (are_different ns) a in
    let news = or_parts (int_eq n m) (list_any (int_eq n) ns) b in
    let none : list_any (λ k. int_eq k m) (ns ++ n ∷ []) ≡ false = int_not_added (λ k. int_eq k m) ns n (not-true _ parts.0) news.0 in
    and_from _ _ (not_from_false _ none) (different_push ns n parts.1 news.1)

-- ---- counting

pub same_test : (a b : ℤ) → int_eq a b ≡ int_eq b a
same_test a b = one_answer (int_eq a b) (int_eq b a) (Decides-int_eq a b)
    (let d = Decides-int_eq b a in (λ t. sym (d.0 t), λ e. d.1 (sym e)))

any_turned : (ns : List ℤ) (n : ℤ) → list_any (λ k. int_eq k n) ns ≡ list_any (int_eq n) ns
any_turned [] n = refl
any_turned (m ∷ ns) n = rw (same_test m n, any_turned ns n) refl

pub any_last : (p : ℤ → Bool) (ns : List ℤ) (n : ℤ) → list_any p (ns ++ n ∷ []) ≡ (list_any p ns || p n)
any_last p [] n = or_nothing (p n)
  where
    or_nothing : (b : Bool) → (b || false) ≡ b
    or_nothing true = refl
    or_nothing false = refl
any_last p (m ∷ ns) n = ap (λ z. p m || z) (any_last p ns n) ∙ regrouped (p m) (list_any p ns) (p n)
  where
    regrouped : (a b c : Bool) → (a || (b || c)) ≡ ((a || b) || c)
    regrouped true b c = refl
    regrouped false b c = refl

abbrev one_if_new : Bool → ℕ
one_if_new b = if b then 0 else 1

head_counts : (t x y : Bool) (old : ℕ) → (t ≡ true → x ≡ y)
    → one_if_new (x || t) + (old + one_if_new y) ≡ one_if_new x + old + one_if_new (t || y)
head_counts true x y old same = cases x y (same refl)
  where
    cases : (x y : Bool) → x ≡ y → one_if_new (x || true) + (old + one_if_new y) ≡ one_if_new x + old + 0
    cases true true e = omega arith
    cases false false e = omega arith
    cases true false e = absurd cc
    cases false true e = absurd cc
head_counts false true y old same = omega arith
head_counts false false y old same = omega arith

pub count_push : (ns : List ℤ) (n : ℤ) → count_different (ns ++ n ∷ []) ≡ count_different ns + (if list_any (int_eq n) ns then 0 else 1)
count_push [] n = refl
count_push (m ∷ ns) n =
    let first = any_last (λ k. int_eq k m) ns n in
    let same : int_eq n m ≡ true → list_any (λ k. int_eq k m) ns ≡ list_any (int_eq n) ns =
    λ t. any_turned ns m ∙ ap (λ z. list_any (int_eq z) ns) (sym ((Decides-int_eq n m).0 t)) in
    rw (first, count_push ns n)
    (head_counts (int_eq n m) (list_any (λ k. int_eq k m) ns) (list_any (int_eq n) ns) (count_different ns) same)
