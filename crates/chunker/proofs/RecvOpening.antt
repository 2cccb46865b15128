-- The open take and where the given code is: what closes it, and what goes on with it.
use Rattle.std.proofs.Common.{◌≡◌, ℕ, zero, suc, ◌+◌, ◌-◌, ◌<◌, ◌≤◌, List, [], ◌∷◌, ◌++◌, length, take, drop, drop-drop, length-drop, max, replicate, nat_eq, nat_le, ◌||◌, ◌&&◌, ne_eqb, Option, None, Some, Bool, true, false, if◌then◌else◌, refl, sym, ap, ◌∙◌, subst, arith, le-leb, le-ltb}
use Rattle.std.specs.Int.{Width, w8, w16, w32, w64}
use Rattle.std.proofs.lemmas.List.{length-replicate}
use Rattle.kit_base.specs.Causes.{raised}
use Rattle.wire_def.specs.declared.head.Order.TheVariants.{Big}
use Rattle.wire_def.specs.Orders.{loaded}
use Rattle.cast_stub.specs.declared.recv.Get.{Get}
use Rattle.cast_stub.specs.RecvBlock.{Recv}
use Rattle.cast_stub.specs.Draft.{Draft}
use Rattle.cast_stub.specs.Into.{passed, num_into, all_zero, same_octets}
use Rattle.cast_stub.specs.Fill.{all_got, Callees, fill}
use Rattle.cast_stub.specs.Runs.{Place, Run, gives, refuses, strays, then_run, if_passed}
use Rattle.cast_stub.specs.Steps.{is_width}
use Rattle.chunker.specs.RecvChunked.{zeros, unread, seen_with, taken, closed}
use Rattle.chunker.specs.RecvKept.{after_tests, EndsAs}
use Rattle.chunker.proofs.RecvMoved.{IsBefore, all-append}
use Rattle.chunker.proofs.RecvStuck.{after_need, Refused}

-- one test, if octets are tested
abbrev pub one_test : ℕ → ℕ
one_test zero = 0
one_test (suc m) = 1

one_most : (m : ℕ) → one_test m ≤ 1
one_most zero = omega arith
one_most (suc m) = omega arith

-- the given code has a draft at a place, behind a take that is open over another draft at its beginning
pub record Opens (n : ℕ) (gs : List Get) (m : ℕ) (e : Draft) (t : Place) (d : Draft) (s : Place) : Type 0 where
  pub pos : s.pos ≡ t.pos + n
  pub left : s.left ≡ drop n t.left
  pub near : s.near + n ≡ max m t.near
  pub there : m ≤ length t.left
  pub tests : raised t.tests (one_test m) ≤ s.tests
  pub got : (u : Place) → u.left ≡ t.left → max m t.near ≤ u.near → all_got gs e u ≡ gives d u

-- no take is open
pub opens_none : (d : Draft) (s : Place) (k : ℕ) → k ≤ s.tests → Opens 0 [] 0 d (after_tests k s) d s
opens_none d s k le = record {
  pos = omega arith;
  left = refl;
  near = omega arith;
  there = omega arith;
  tests = omega (arith, le);
  got = λ u same near. refl;
}

-- the place behind so many octets
abbrev pub behind : ℕ → Place → Place
behind n s = record { pos = s.pos + n; left = drop n s.left; near = s.near - n; tests = s.tests }

abbrev place : ℕ → List ℕ → ℕ → ℕ → Place
place p l a k = record { pos = p; left = l; near = a; tests = k }

places_same : (p q : ℕ) (l o : List ℕ) (a b j k : ℕ) → p ≡ q → l ≡ o → a ≡ b → j ≡ k → place p l a j ≡ place q o b k
places_same p q l o a b j k e f g h =
    ap (λ (x : ℕ). place x l a j) e ∙ ap (λ (x : List ℕ). place q x a j) f ∙ ap (λ (x : ℕ). place q o x j) g ∙ ap (place q o b) h

left_length : (n : ℕ) (s t : Place) → s.left ≡ drop n t.left → length s.left ≡ length t.left - n
left_length n s t e = ap length e ∙ length-drop n t.left

module _ (n : ℕ) (gs : List Get) (m : ℕ) (e : Draft) (t : Place) (d : Draft) (s : Place) (o : Opens n gs m e t d s) where
  -- a place in the same octets, of which all is known that the take tests, is so far before the given code's
  pub before : (u : Place) → u.left ≡ t.left → max m t.near ≤ u.near → IsBefore n s u
  before u same near = record { left = o.left ∙ ap (drop n) (sym same); near = omega (arith, o.near, near) }

  -- ---- the take is closed

  taken_gives : (c : Callees) (gs : List Get) (r : Recv) (u : Place) → all_got gs e u ≡ gives d u → n ≤ u.near
      → fill c (taken n gs r) e u ≡ fill c r d (behind n u)
  taken_gives c gs r u is le = by_gets gs n is le where
    over : (j : ℕ) (hs : List Get) → all_got hs e u ≡ gives d u → j ≤ u.near
        → then_run (all_got hs e u) (λ x v. then_run (passed j x v) (fill c r)) ≡ fill c r d (behind j u)
    over j hs is le =
        ap (λ z. then_run z (λ x v. then_run (passed j x v) (fill c r))) is
        ∙ ap (λ (b : Bool). then_run (if b then gives d (behind j u) else strays) (fill c r)) (le-leb j u.near le)

    none_behind : behind 0 u ≡ u
    none_behind = places_same (u.pos + 0) u.pos u.left u.left (u.near - 0) u.near u.tests u.tests (omega arith) refl (omega arith) refl

    by_gets : (hs : List Get) (j : ℕ) → all_got hs e u ≡ gives d u → j ≤ u.near → fill c (taken j hs r) e u ≡ fill c r d (behind j u)
    by_gets (g ∷ hs) j is le = over j (g ∷ hs) is le
    by_gets [] (suc j) is le = over (suc j) [] is le
    by_gets [] zero is le = let same : e ≡ d = cc in ap (λ (x : Draft). fill c r x u) same ∙ ap (fill c r d) (sym none_behind)

  pub close_gives : (c : Callees) (r : Recv) → fill c (closed n gs m r) e t ≡ fill c r d (after_tests (raised t.tests (one_test m)) s)
  close_gives c r = by_tested m o.near o.there o.got where
    ends_at : (a k : ℕ) → a - n ≡ s.near → behind n (place t.pos t.left a k) ≡ after_tests k s
    ends_at a k near = places_same (t.pos + n) s.pos (drop n t.left) s.left (a - n) s.near k k (sym o.pos) (sym o.left) near refl

    by_tested : (j : ℕ) → s.near + n ≡ max j t.near → j ≤ length t.left
        → ((u : Place) → u.left ≡ t.left → max j t.near ≤ u.near → all_got gs e u ≡ gives d u)
        → fill c (closed n gs j r) e t ≡ fill c r d (after_tests (raised t.tests (one_test j)) s)
    by_tested zero near there got =
        let none : t.tests ≡ raised t.tests 0 = omega arith in
        taken_gives c gs r t (got t refl (omega arith)) (omega (arith, near))
        ∙ ap (fill c r d) (ends_at t.near t.tests (omega (arith, near)))
        ∙ ap (λ (k : ℕ). fill c r d (after_tests k s)) none
    by_tested (suc j) near there got =
        let u : Place = after_need (suc j) t in
        ap (λ (b : Bool). then_run (if b then refuses else gives e u) (fill c (taken n gs r))) (le-ltb (length t.left) (suc j) there)
        ∙ taken_gives c gs r u (got u refl (omega arith)) (omega (arith, near))
        ∙ ap (fill c r d) (ends_at (max (suc j) t.near) (raised t.tests 1) (omega (arith, near)))

  pub ended : (c : Callees) (r : Recv) (x : Run Draft) → EndsAs x (fill c r d (after_tests (raised t.tests (one_test m)) s))
      → EndsAs x (fill c (closed n gs m r) e t)
  ended c r x h = subst (λ z. EndsAs x z) (sym (close_gives c r)) h

  -- ---- the take goes on

  pub lacks : (k : ℕ) → length s.left < k → length t.left < seen_with m n k
  lacks zero lt = absurd (omega (arith, lt))
  lacks (suc k) lt = let long = left_length n s t o.left in omega (arith, lt, long)

  pub opens_need : (k : ℕ) → k ≤ length s.left → Opens n gs (seen_with m n k) e t d (after_need k s)
  opens_need zero le = record {
    pos = o.pos;
    left = o.left;
    near = omega (arith, o.near);
    there = o.there;
    tests = omega (arith, o.tests);
    got = o.got;
  }
  opens_need (suc k) le =
      let long = left_length n s t o.left in
      let one = one_most (max m (n + suc k)) in
      let more : t.tests ≤ s.tests = omega (arith, o.tests) in
      record {
        pos = o.pos;
        left = o.left;
        near = omega (arith, o.near);
        there = omega (arith, o.there, le, long);
        tests = omega (arith, more, one);
        got = λ (u : Place) same near. o.got u same (omega (arith, near));
      }

  pub opens_pass : (k : ℕ) → k ≤ s.near → Opens (n + k) gs m e t d (behind k s)
  opens_pass k le = record {
    pos = omega (arith, o.pos);
    left = ap (drop k) o.left ∙ drop-drop k n t.left;
    near = omega (arith, o.near, le);
    there = o.there;
    tests = o.tests;
    got = o.got;
  }

  -- gets more
  pub opens_gets : (hs : List Get) (x : Draft)
      → ((u : Place) → u.left ≡ t.left → max m t.near ≤ u.near → all_got hs d u ≡ gives x u)
      → Opens n (gs ++ hs) m e t x s
  opens_gets hs x f = record {
    pos = o.pos;
    left = o.left;
    near = o.near;
    there = o.there;
    tests = o.tests;
    got = λ (u : Place) same near.
        all-append gs hs e u ∙ ap (λ z. then_run z (all_got hs)) (o.got u same near) ∙ f u same near;
  }

  -- gets more that refuse
  pub refused_gets : (hs : List Get) → ((u : Place) → u.left ≡ t.left → max m t.near ≤ u.near → all_got hs d u ≡ refuses)
      → Refused (gs ++ hs) m e t
  refused_gets hs f u same near = all-append gs hs e u ∙ ap (λ z. then_run z (all_got hs)) (o.got u same near) ∙ f u same near

-- ---- skips as gets

-- a number of no width refuses
no_width : (a b c d : Bool) → (a || b || c || d) ≡ false
    → (if a then Some w8 else if b then Some w16 else if c then Some w32 else if d then Some w64 else None) ≡ None
no_width true b c d h = absurd cc
no_width false true c d h = absurd cc
no_width false false true d h = absurd cc
no_width false false false true h = absurd cc
no_width false false false false h = refl

pub unread_refuses : (n a : ℕ) (d : Draft) (u : Place) → is_width a ≡ false → all_got (unread n a) d u ≡ refuses
unread_refuses n a d u e =
    ap (λ (z : Option Width). then_run (if_passed z (λ x. if nat_le (n + a) u.near
    then num_into x (loaded Big x (take a (drop n u.left))) d u else strays)) (all_got []))
    (no_width (nat_eq a 1) (nat_eq a 2) (nat_eq a 4) (nat_eq a 8) e)

zeros_same : (k : ℕ) (l : List ℕ) → k ≤ length l → same_octets (replicate k 0) (take k l) ≡ all_zero (take k l)
zeros_same zero l le = refl
zeros_same (suc k) [] le = absurd (omega (arith, le))
zeros_same (suc k) (zero ∷ l) le = zeros_same k l (omega (arith, le))
zeros_same (suc k) (suc b ∷ l) le =
    ap (λ (t : Bool). t && same_octets (replicate k 0) (take k l)) (ne_eqb 0 (suc b) (λ (e : 0 ≡ suc b). absurd cc))

-- zeros that are read, as they are tested
pub zeros_got : (n k : ℕ) (d : Draft) (u : Place) → n + k ≤ u.near → k ≤ length (drop n u.left)
    → all_got (zeros n k) d u ≡ (if all_zero (take k (drop n u.left)) then gives d u else refuses)
zeros_got n zero d u near le = refl
zeros_got n (suc k) d u near le =
    let z : List ℕ = replicate (suc k) 0 in
    let l : List ℕ = drop n u.left in
    let long : length z ≡ suc k = length-replicate {A = ℕ} (suc k) 0 in
    ap (λ (b : Bool). then_run (if b then (if same_octets z (take (length z) l) then gives d u else refuses) else strays) (all_got []))
    (le-leb (n + length z) u.near (omega (arith, near, long)))
    ∙ ap (λ (j : ℕ). then_run (if same_octets z (take j l) then gives d u else refuses) (all_got [])) long
    ∙ ap (λ (b : Bool). then_run (if b then gives d u else refuses) (all_got [])) (zeros_same (suc k) l le)
    ∙ by_test (all_zero (take (suc k) l))
  where
    by_test : (b : Bool) → then_run (if b then gives d u else refuses) (all_got []) ≡ (if b then gives d u else refuses)
    by_test true = refl
    by_test false = refl
