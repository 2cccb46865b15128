-- A number that is found by halving, by induction on the list.
use Rattle.std.proofs.Common.{◌≡◌, Bool, true, false, cond, ◌||◌, ℕ, zero, suc, ◌+◌, ◌<◌, ◌≤◌, ℤ, pos, negsuc, List, [], ◌∷◌, ◌++◌, length, map, Option, None, Some, get_or, slice_get, nat_lt, ◌-◌, refl, ap, sym, ◌∙◌, arith, true≢false}
use Rattle.std.specs.Prelude.{int_lt}
use Rattle.std.specs.List.{AllByRecursion, list_any, position_from}
use Rattle.std.specs.Ordering.{int_eq}
use Rattle.std.proofs.lemmas.Bool.{ltb-true, ltb-false, lt-ltb, le-ltb}
use Rattle.std.proofs.lemmas.Option.{get_or_from_slice_get}
use Rattle.std.proofs.lemmas.List.{get_or-map, length-map, get_or_default}
use Rattle.mint.specs.Keyed.{Rise, IsMark, place_of}

-- ---- numbers

below_trans : (a b c : ℤ) → int_lt a b ≡ true → int_lt b c ≡ true → int_lt a c ≡ true
below_trans (pos a) (pos b) (pos c) p q = lt-ltb a c (omega (arith, ltb-true a b p, ltb-true b c q))
below_trans (pos a) (pos b) (negsuc c) p q = absurd (true≢false (sym q))
below_trans (pos a) (negsuc b) c p q = absurd (true≢false (sym p))
below_trans (negsuc a) (pos b) (negsuc c) p q = absurd (true≢false (sym q))
below_trans (negsuc a) (negsuc b) (negsuc c) p q = lt-ltb c a (omega (arith, ltb-true b a p, ltb-true c b q))
below_trans (negsuc a) b (pos c) p q = refl

pub asym : (x y : ℤ) → int_lt x y ≡ true → int_lt y x ≡ false
asym (pos a) (pos b) h = le-ltb b a (omega (arith, ltb-true a b h))
asym (pos a) (negsuc b) h = absurd (true≢false (sym h))
asym (negsuc a) (pos b) h = refl
asym (negsuc a) (negsuc b) h = le-ltb a b (omega (arith, ltb-true b a h))

not_below : (n m : ℤ) → int_lt m n ≡ true → int_eq n m ≡ false
not_below n m h = rw (asym m n h, h) refl

not_above : (n m : ℤ) → int_lt n m ≡ true → int_eq n m ≡ false
not_above n m h = rw (asym n m h, h) refl

same : (n m : ℤ) → int_lt m n ≡ false → int_lt n m ≡ false → int_eq n m ≡ true
same n m low high = rw (high, low) refl

equal : (n m : ℤ) → int_lt m n ≡ false → int_lt n m ≡ false → n ≡ m
equal (pos a) (pos b) p q = ap pos (omega (arith, ltb-false b a p, ltb-false a b q))
equal (pos a) (negsuc b) p q = absurd (true≢false p)
equal (negsuc a) (pos b) p q = absurd (true≢false q)
equal (negsuc a) (negsuc b) p q = ap negsuc (omega (arith, ltb-false a b p, ltb-false b a q))

-- ---- numbers that rise

all_at : (n : ℤ) (ms : List ℤ) (i : ℕ) (d : ℤ) → AllByRecursion (λ m. int_lt n m ≡ true) ms → i < length ms
    → int_lt n (get_or ms i d) ≡ true
all_at n [] i d h p = absurd (omega arith)
all_at n (m ∷ ms) zero d h p = h.0
all_at n (m ∷ ms) (suc i) d h p = all_at n ms i d h.1 (omega arith)

-- of two places the later one has the greater number
rise_at : (ns : List ℤ) (i j : ℕ) (d : ℤ) → Rise ns → i < j → j < length ns → int_lt (get_or ns i d) (get_or ns j d) ≡ true
rise_at [] i j d h p q = absurd (omega arith)
rise_at (n ∷ ns) i zero d h p q = absurd (omega arith)
rise_at (n ∷ ns) zero (suc j) d h p q = all_at n ns j d h.0 (omega arith)
rise_at (n ∷ ns) (suc i) (suc j) d h p q = rise_at ns i j d h.1 (omega arith) (omega arith)

all_push : (n : ℤ) (ms : List ℤ) (m : ℤ) → AllByRecursion (λ k. int_lt n k ≡ true) ms → int_lt n m ≡ true
    → AllByRecursion (λ k. int_lt n k ≡ true) (ms ++ m ∷ [])
all_push n [] m h below = (below, tt)
all_push n (k ∷ ms) m h below = (h.0, all_push n ms m h.1 below)

-- the last of the numbers, if there is one, is below another
abbrev pub EndsBelow : List ℤ → ℤ → Type 0
EndsBelow [] m = Unit {0}
EndsBelow (n ∷ []) m = int_lt n m ≡ true
EndsBelow (n ∷ k ∷ ns) m = EndsBelow (k ∷ ns) m

pub ends_at : (ns : List ℤ) (k : ℕ) (d m : ℤ) → k + 1 ≡ length ns → int_lt (get_or ns k d) m ≡ true → EndsBelow ns m
ends_at [] k d m e h = tt
ends_at (n ∷ []) zero d m e h = h
ends_at (n ∷ []) (suc k) d m e h = absurd (omega (arith, e))
ends_at (n ∷ l ∷ ns) zero d m e h = absurd (omega (arith, e))
ends_at (n ∷ l ∷ ns) (suc k) d m e h = ends_at (l ∷ ns) k d m (omega (arith, e)) h

under : (n k : ℤ) (ns : List ℤ) (m : ℤ) → AllByRecursion (λ l. int_lt n l ≡ true) (k ∷ ns) → EndsBelow (k ∷ ns) m → int_lt n m ≡ true
under n k [] m h below = below_trans n k m h.0 below
under n k (l ∷ ns) m h below = under n l ns m h.1 below

-- one more number, above the last one
pub rise-push : (ns : List ℤ) (m : ℤ) → Rise ns → EndsBelow ns m → Rise (ns ++ m ∷ [])
rise-push [] m h below = (tt, tt)
rise-push (n ∷ []) m h below = ((below, tt), (tt, tt))
rise-push (n ∷ k ∷ ns) m h below = (all_push n (k ∷ ns) m h.0 (under n k ns m h.0 below), rise-push (k ∷ ns) m h.1 below)

-- ---- the place of a number

position_at : (n : ℤ) (ks : List ℤ) (from k : ℕ) (d : ℤ) → k < length ks → ((j : ℕ) → j < k → int_eq n (get_or ks j d) ≡ false)
    → int_eq n (get_or ks k d) ≡ true
    → position_from (int_eq n) from ks ≡ Some (from + k)
position_at n [] from k d p before here = absurd (omega arith)
position_at n (m ∷ ks) from zero d p before here = rw here (ap (λ i. Some i) (omega arith))
position_at n (m ∷ ks) from (suc k) d p before here =
    rw (before 0 (omega arith))
    (position_at n ks (from + 1) k d (omega arith) (λ j q. before (suc j) (omega (arith, q))) here ∙ ap (λ i. Some i) (omega arith))

position_none : (n : ℤ) (ks : List ℤ) (from : ℕ) (d : ℤ) → ((j : ℕ) → j < length ks → int_eq n (get_or ks j d) ≡ false)
    → position_from (int_eq n) from ks ≡ None
position_none n [] from d apart = refl
position_none n (m ∷ ks) from d apart =
    rw (apart 0 (omega arith)) (position_none n ks (from + 1) d (λ j q. apart (suc j) (omega (arith, q))))

abbrev keys : {X : Type 0} → List (ℤ × X) → List ℤ
keys es = map (λ e. e.0) es

position_map : {X : Type 0} (n : ℤ) (es : List (ℤ × X)) (from : ℕ)
    → position_from (λ (e : ℤ × X). int_eq n e.0) from es ≡ position_from (int_eq n) from (keys es)
position_map n [] from = refl
position_map n (e ∷ es) from = ap (λ o. cond (int_eq n e.0) (Some from) o) (position_map n es (from + 1))

key_at : {X : Type 0} (es : List (ℤ × X)) (i : ℕ) (x : ℤ × X) → i < length (keys es) → get_or (keys es) i x.0 ≡ (get_or es i x).0
key_at {X} es i x p = get_or-map (λ (e : ℤ × X). e.0) es i x x.0 (omega (arith, p, length-map es (λ (e : ℤ × X). e.0)))

-- ---- halving

-- what is before a place is below a number, and what is from another place on is above it
pub record Halved (ns : List ℤ) (n : ℤ) (low high : ℕ) : Type 0 where
  pub ordered : low ≤ high
  pub within : high ≤ length ns
  pub below : (k : ℕ) (d : ℤ) → k < low → int_lt (get_or ns k d) n ≡ true
  pub above : (k : ℕ) (d : ℤ) → high ≤ k → k < length ns → int_lt n (get_or ns k d) ≡ true

pub halved-start : (ns : List ℤ) (n : ℤ) → Halved ns n 0 (length ns)
halved-start ns n = record {
  ordered = omega arith;
  within = omega arith;
  below = λ k d p. absurd (omega arith);
  above = λ k d p q. absurd (omega arith);
}

-- a place below another and one more is below it, or is it
by_place : {A : Type 0} (k m : ℕ) → k < m + 1 → (k < m → A) → (k ≡ m → A) → A
by_place {A} k m p less here = by (nat_lt k m) refl where
  by : (t : Bool) → nat_lt k m ≡ t → A
  by true e = less (ltb-true k m e)
  by false e = here (omega (arith, ltb-false k m e))

-- the number at a place is below another: so is each before it
pub halved-up : (ns : List ℤ) (n : ℤ) (low high middle : ℕ) (d : ℤ) → Rise ns → Halved ns n low high → low ≤ middle → middle < high
    → int_lt (get_or ns middle d) n ≡ true → Halved ns n (middle + 1) high
halved-up ns n low high middle d rise h from until less = record {
  ordered = omega arith;
  within = h.within;
  below = λ k e p. by_place k middle p
      (λ q. below_trans (get_or ns k e) (get_or ns middle e) n (rise_at ns k middle e rise q there) (here e))
      (λ q. rw q (here e));
  above = h.above;
} where
  there : middle < length ns
  there = omega (arith, h.within)

  here : (e : ℤ) → int_lt (get_or ns middle e) n ≡ true
  here e = rw (get_or_default ns middle e d there) less

-- the number at a place is above another: so is each after it
pub halved-down : (ns : List ℤ) (n : ℤ) (low high middle : ℕ) (d : ℤ) → Rise ns → Halved ns n low high → low ≤ middle → middle < high
    → int_lt n (get_or ns middle d) ≡ true → Halved ns n low middle
halved-down ns n low high middle d rise h from until more = record {
  ordered = from;
  within = omega (arith, h.within);
  below = h.below;
  above = λ k e p q. by_place middle k (omega arith)
      (λ r. below_trans n (get_or ns middle e) (get_or ns k e) (here e) (rise_at ns middle k e rise r q))
      (λ r. rw (← r) (here e));
} where
  there : middle < length ns
  there = omega (arith, h.within)

  here : (e : ℤ) → int_lt n (get_or ns middle e) ≡ true
  here e = rw (get_or_default ns middle e d there) more

-- a number that is neither below nor above is the first
number_found : (ns : List ℤ) (n : ℤ) (middle : ℕ) (d : ℤ) → Rise ns → middle < length ns
    → int_lt (get_or ns middle d) n ≡ false → int_lt n (get_or ns middle d) ≡ false → position_from (int_eq n) 0 ns ≡ Some middle
number_found ns n middle d rise there low high =
    position_at n ns 0 middle d there before (same n (get_or ns middle d) low high) ∙ ap (λ i. Some i) (omega arith) where
      before : (j : ℕ) → j < middle → int_eq n (get_or ns j d) ≡ false
      before j p = not_below n (get_or ns j d) (rw (equal n (get_or ns middle d) low high) (rise_at ns j middle d rise p there))

-- where nothing is left no number is found
number_missed : (ns : List ℤ) (n : ℤ) (low high : ℕ) → Halved ns n low high → high ≤ low → position_from (int_eq n) 0 ns ≡ None
number_missed ns n low high h over = position_none n ns 0 (pos 0) (λ j p. by j p (nat_lt j low) refl) where
  by : (j : ℕ) → j < length ns → (t : Bool) → nat_lt j low ≡ t → int_eq n (get_or ns j (pos 0)) ≡ false
  by j p true e = not_below n (get_or ns j (pos 0)) (h.below j (pos 0) (ltb-true j low e))
  by j p false e = not_above n (get_or ns j (pos 0)) (h.above j (pos 0) (omega (arith, ltb-false j low e, over)) p)

-- ---- numbers among those that rise

any_at : (n : ℤ) (ks : List ℤ) (k : ℕ) (d : ℤ) → k < length ks → int_eq (get_or ks k d) n ≡ true → list_any (λ l. int_eq l n) ks ≡ true
any_at n [] k d p here = absurd (omega arith)
any_at n (m ∷ ks) zero d p here = rw here refl
any_at n (m ∷ ks) (suc k) d p here = by (int_eq m n) (any_at n ks k d (omega arith) here) where
  by : (t : Bool) → list_any (λ l. int_eq l n) ks ≡ true → (t || list_any (λ l. int_eq l n) ks) ≡ true
  by true rest = refl
  by false rest = rest

any_none : (n : ℤ) (ks : List ℤ) (d : ℤ) → ((j : ℕ) → j < length ks → int_eq (get_or ks j d) n ≡ false)
    → list_any (λ l. int_eq l n) ks ≡ false
any_none n [] d apart = refl
any_none n (m ∷ ks) d apart = rw (apart 0 (omega arith)) (any_none n ks d (λ j q. apart (suc j) (omega (arith, q))))

pub any_found : (ns : List ℤ) (n : ℤ) (low high middle : ℕ) (d : ℤ) → Halved ns n low high → middle < high
    → int_lt (get_or ns middle d) n ≡ false → int_lt n (get_or ns middle d) ≡ false → true ≡ list_any (λ l. int_eq l n) ns
any_found ns n low high middle d h until less more =
    sym (any_at n ns middle d (omega (arith, until, h.within)) (same (get_or ns middle d) n more less))

pub any_missed : (ns : List ℤ) (n : ℤ) (low high : ℕ) → Halved ns n low high → high ≤ low → false ≡ list_any (λ l. int_eq l n) ns
any_missed ns n low high h over = sym (any_none n ns (pos 0) (λ j p. by j p (nat_lt j low) refl)) where
  by : (j : ℕ) → j < length ns → (t : Bool) → nat_lt j low ≡ t → int_eq (get_or ns j (pos 0)) n ≡ false
  by j p true e = not_above (get_or ns j (pos 0)) n (h.below j (pos 0) (ltb-true j low e))
  by j p false e = not_below (get_or ns j (pos 0)) n (h.above j (pos 0) (omega (arith, ltb-false j low e, over)) p)

label_ends : (ns : List ℤ) (n m : ℤ) → Some n ≡ slice_get ns (length ns - 1) → int_lt n m ≡ true → EndsBelow ns m
label_ends [] n m last below = tt
label_ends (k ∷ ns) n m last below =
    let at_end : get_or (k ∷ ns) (length ns) n ≡ n =
    get_or_from_slice_get (k ∷ ns) (length ns) n n (ap (slice_get (k ∷ ns)) (omega arith) ∙ sym last) in
    ends_at (k ∷ ns) (length ns) n m (omega arith) (rw at_end below)

-- one more number, where the last one is below it
pub label_more : (ns : List ℤ) (n m : ℤ) → Some n ≡ slice_get ns (length ns - 1) → int_lt n m ≡ true → Rise ns → Rise (ns ++ m ∷ [])
label_more ns n m last below rise = rise-push ns m rise (label_ends ns n m last below)

-- ---- the same over entries

pub entry_up : {X : Type 0} (es : List (ℤ × X)) (x : ℤ × X) (n : ℤ) (low high middle : ℕ) → Rise (keys es) → Halved (keys es) n low high
    → low ≤ middle → middle < high → int_lt (get_or es middle x).0 n ≡ true → Halved (keys es) n (middle + 1) high
entry_up es x n low high middle rise h from until less =
    halved-up (keys es) n low high middle x.0 rise h from until (rw (key_at es middle x (omega (arith, until, h.within))) less)

pub entry_down : {X : Type 0} (es : List (ℤ × X)) (x : ℤ × X) (n : ℤ) (low high middle : ℕ) → Rise (keys es) → Halved (keys es) n low high
    → low ≤ middle → middle < high → int_lt n (get_or es middle x).0 ≡ true → Halved (keys es) n low middle
entry_down es x n low high middle rise h from until more =
    halved-down (keys es) n low high middle x.0 rise h from until (rw (key_at es middle x (omega (arith, until, h.within))) more)

pub entry_found : {X : Type 0} (es : List (ℤ × X)) (x : ℤ × X) (n : ℤ) (low high middle : ℕ) → Rise (keys es) → Halved (keys es) n low high
    → middle < high → int_lt (get_or es middle x).0 n ≡ false → int_lt n (get_or es middle x).0 ≡ false → Some middle ≡ place_of n es
entry_found es x n low high middle rise h until less more =
    let there : middle < length (keys es) = omega (arith, until, h.within) in
    sym (position_map n es 0
    ∙ number_found (keys es) n middle x.0 rise there (rw (key_at es middle x there) less) (rw (key_at es middle x there) more))

pub entry_missed : {X : Type 0} (es : List (ℤ × X)) (n : ℤ) (low high : ℕ) → Halved (keys es) n low high → high ≤ low → None ≡ place_of n es
entry_missed es n low high h over = sym (position_map n es 0 ∙ number_missed (keys es) n low high h over)

ends_with : {X : Type 0} (es : List (ℤ × X)) (e : ℤ × X) (m : ℤ) → Some e ≡ slice_get es (length es - 1) → int_lt e.0 m ≡ true
    → EndsBelow (keys es) m
ends_with [] e m last below = tt
ends_with {X} (x ∷ es) e m last below =
    let at_end : get_or (x ∷ es) (length es) e ≡ e =
    get_or_from_slice_get (x ∷ es) (length es) e e (ap (slice_get (x ∷ es)) (omega arith) ∙ sym last) in
    let size : length (keys es) ≡ length es = length-map es (λ (e : ℤ × X). e.0) in
    ends_at (keys (x ∷ es)) (length es) e.0 m (omega (arith, size)) (rw (key_at (x ∷ es) (length es) e (omega (arith, size)), at_end) below)

-- one more entry, where the last one is below it
pub entry_more : {X : Type 0} (es : List (ℤ × X)) (e : ℤ × X) (m : ℤ) → Some e ≡ slice_get es (length es - 1) → int_lt e.0 m ≡ true
    → Rise (keys es) → Rise (keys es ++ m ∷ [])
entry_more es e m last below rise = rise-push (keys es) m rise (ends_with es e m last below)
