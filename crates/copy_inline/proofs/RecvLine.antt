-- Numbers that are received one by one, and the same as a row, by induction on how many there are.
use Rattle.std.proofs.Common.{◌≡◌, ℕ, zero, suc, ◌+◌, ◌-◌, ◌*◌, ◌≤◌, ℤ, List, [], ◌∷◌, length, take, drop, Option, None, Some, option_map, refl, sym, ap, subst, ◌∙◌, arith, length-drop, Bool, true, false, if◌then◌else◌}
use Rattle.std.specs.Prelude.{nat_le, nat_lt, max}
use Rattle.std.specs.Int.{Width, w8, w16, w32, w64}
use Rattle.std.proofs.lemmas.Bool.{ltb-true, ltb-false, lt-ltb, le-ltb, le-leb}
use Rattle.std.proofs.lemmas.List.{drop-drop}
use Rattle.kit_base.specs.Causes.{raised}
use Rattle.mint.specs.Types.{number, Array}
use Rattle.mint.specs.Values.{num, row}
use Rattle.wire_def.specs.declared.head.Order.{Order}
use Rattle.wire_def.specs.Scalars.{is_signed, number_of}
use Rattle.wire_def.specs.Arrays.{kind_of}
use Rattle.wire_def.specs.Orders.{width_in, loaded}
use Rattle.cast_stub.specs.declared.recv.Get.TheVariants as get
use Rattle.cast_stub.specs.Draft.{Draft, digit, done}
use Rattle.cast_stub.specs.Into.{needed, is_digit, numbers_at, fill_block}
use Rattle.cast_stub.specs.Fill.{Callees, fill, fill_row, settled_number, runs}
use Rattle.cast_stub.specs.RecvBlock.{Recv, need, pass, finish}
use Rattle.cast_stub.specs.Runs.{Place, Run, gives, refuses, strays, Going, then_run, map_run, if_passed}
use Rattle.copy_inline.specs.RecvRows.{EndsAlike}
use Rattle.cast_stub.proofs.Widths.{Wide, one, two, four, eight}
use Rattle.copy_inline.proofs.RecvTimed.{timed, map_alike}

width_there : (w : ℕ) → Wide w → (x : Width) × (width_in w ≡ Some x)
width_there _ one = (w8, refl)
width_there _ two = (w16, refl)
width_there _ four = (w32, refl)
width_there _ eight = (w64, refl)

-- the test and take of one number
abbrev pub number_turn : ℕ → Order → Recv
number_turn w o = need w (pass w (get.Num 0 [] w o ∷ []) finish)

abbrev place : ℕ → ℕ → List ℕ → ℕ → Place
place m i l j = record { pos = i; left = l; near = j; tests = m }

module _ (c : Callees) (w : ℕ) (o : Order) (a : Array) (x : Width) (is : width_in w ≡ Some x) where
  -- the number of the first octets
  abbrev read : List ℕ → ℤ
  read l = number_of (is_signed (number (kind_of a))) x (loaded o x (take w l))

  -- the place after so many numbers
  abbrev after : ℕ → Place → ℕ → Place
  after n s m = record { pos = s.pos + n * w; left = drop (n * w) s.left; near = max (n * w) s.near - n * w; tests = m }

  abbrev turn : Going ℤ
  turn s = settled_number (fill c (number_turn w o) (digit a) s)

  -- the place after one
  abbrev next : Place → Place
  next s = record { pos = s.pos + w; left = drop w s.left; near = max w s.near - w; tests = raised s.tests 1 }

  read_one : (y : Option Width) (b q : Bool) (s : Place) → y ≡ Some x → nat_le w (max w s.near) ≡ b → is_digit a (read s.left) ≡ q
      → settled_number (then_run (then_run (if_passed y (λ x. if b
      then (if is_digit a (number_of (is_signed (number (kind_of a))) x (loaded o x (take w s.left)))
      then gives (done (num (number_of (is_signed (number (kind_of a))) x (loaded o x (take w s.left)))))
      (record { pos = s.pos; left = s.left; near = max w s.near; tests = raised s.tests 1 })
      else refuses)
      else strays)) (λ d t. gives d t)) (λ d t. then_run
      (if nat_le w t.near then gives d (record { pos = t.pos + w; left = drop w t.left; near = t.near - w; tests = t.tests }) else strays)
      (λ d t. gives d t)))
      ≡ (if q then gives (read s.left) (next s) else refuses)
  read_one y true true s e f g = rw (e, g, f) refl
  read_one y true false s e f g = rw (e, g) refl
  read_one y false q s e f g = absurd (let here : nat_le w (max w s.near) ≡ true = le-leb w (max w s.near) (omega arith) in cc)

  -- one turn: a test, and a number of the row
  turn_is : (s : Place)
      → turn s ≡ (if nat_lt (length s.left) w then refuses else if is_digit a (read s.left) then gives (read s.left) (next s) else refuses)
  turn_is s = by (nat_lt (length s.left) w) refl where
    by : (b : Bool) → nat_lt (length s.left) w ≡ b
        → turn s ≡ (if b then refuses else if is_digit a (read s.left) then gives (read s.left) (next s) else refuses)
    by true e = rw e refl
    by false e =
        let zero' : 0 + w ≡ w = omega arith in
        rw (e, zero') (read_one (width_in w) (nat_le w (max w s.near)) (is_digit a (read s.left)) s is refl refl)

  -- all of them at once
  abbrev whole : ℕ → Place → ℕ → Run (List ℤ)
  whole n s m = if nat_lt (length s.left) (n * w) then refuses else if_passed (numbers_at a o x w n s.left) (λ zs. gives zs (after n s m))

  whole_none : (n : ℕ) (s : Place) (m : ℕ) → is_digit a (read s.left) ≡ false → whole (suc n) s m ≡ refuses
  whole_none n s m e = by (nat_lt (length s.left) (suc n * w)) where
    by : (b : Bool) → (if b then refuses else if_passed (numbers_at a o x w (suc n) s.left) (λ zs. gives zs (after (suc n) s m))) ≡ refuses
    by true = refl
    by false = rw e refl

  after_more : (n : ℕ) (s : Place) (m : ℕ) → after n (next s) m ≡ after (suc n) s m
  after_more n s m =
      let k : ℕ = n * w in
      let long : suc n * w ≡ w + k = omega arith in
      let far : s.pos + w + k ≡ s.pos + suc n * w = omega (arith, long) in
      let left : drop k (drop w s.left) ≡ drop (suc n * w) s.left =
      drop-drop k w s.left ∙ ap (λ (i : ℕ). drop i s.left) (omega (arith, long)) in
      let near : max k (max w s.near - w) - k ≡ max (suc n * w) s.near - suc n * w = omega (arith, long) in
      ap (λ (i : ℕ). place m i (drop k (drop w s.left)) (max k (max w s.near - w) - k)) far
      ∙ ap (λ (z : List ℕ). place m (s.pos + suc n * w) z (max k (max w s.near - w) - k)) left
      ∙ ap (λ (i : ℕ). place m (s.pos + suc n * w) (drop (suc n * w) s.left) i) near

  shorter : (n : ℕ) (s : Place) → w ≤ length s.left → nat_lt (length (drop w s.left)) (n * w) ≡ nat_lt (length s.left) (suc n * w)
  shorter n s le = by (nat_lt (length s.left) (suc n * w)) refl where
    long : suc n * w ≡ w + n * w
    long = omega arith

    by : (b : Bool) → nat_lt (length s.left) (suc n * w) ≡ b → nat_lt (length (drop w s.left)) (n * w) ≡ b
    by true e = lt-ltb (length (drop w s.left)) (n * w) (omega (arith, ltb-true _ _ e, length-drop w s.left, long))
    by false e = le-ltb (length (drop w s.left)) (n * w) (omega (arith, ltb-false _ _ e, length-drop w s.left, long))

  passed_more : (y : Option (List ℤ)) (z : ℤ) (p q : Place) → p ≡ q
      → map_run (λ xs. z ∷ xs) (if_passed y (λ zs. gives zs p)) ≡ if_passed (option_map (λ zs. z ∷ zs) y) (λ zs. gives zs q)
  passed_more None z p q e = refl
  passed_more (Some zs) z p q e = ap (gives (z ∷ zs)) e

  -- one more than all that follow
  whole_more : (n : ℕ) (s : Place) (m : ℕ) → w ≤ length s.left → is_digit a (read s.left) ≡ true
      → map_run (λ xs. read s.left ∷ xs) (whole n (next s) m) ≡ whole (suc n) s m
  whole_more n s m le ok = by (nat_lt (length s.left) (suc n * w)) refl where
    by : (b : Bool) → nat_lt (length s.left) (suc n * w) ≡ b
        → map_run (λ xs. read s.left ∷ xs) (whole n (next s) m)
        ≡ (if b then refuses else if_passed (numbers_at a o x w (suc n) s.left) (λ zs. gives zs (after (suc n) s m)))
    by true e = let f : nat_lt (length (drop w s.left)) (n * w) ≡ true = shorter n s le ∙ e in rw f refl
    by false e =
        let f : nat_lt (length (drop w s.left)) (n * w) ≡ false = shorter n s le ∙ e in
        rw (f, ok)
        (passed_more (numbers_at a o x w n (drop w s.left)) (read s.left) (after n (next s) m) (after (suc n) s m) (after_more n s m))

  first_place : (s : Place) (m : ℕ) → after 0 s m ≡ timed m s
  first_place s m =
      let none : 0 * w ≡ 0 = omega arith in
      let far : s.pos + 0 * w ≡ s.pos = omega (arith, none) in
      let near : max (0 * w) s.near - 0 * w ≡ s.near = omega (arith, none) in
      let left : drop (0 * w) s.left ≡ s.left = ap (λ (i : ℕ). drop i s.left) none in
      ap (λ (i : ℕ). place m i (drop (0 * w) s.left) (max (0 * w) s.near - 0 * w)) far
      ∙ ap (λ (z : List ℕ). place m s.pos z (max (0 * w) s.near - 0 * w)) left ∙ ap (λ (i : ℕ). place m s.pos s.left i) near

  -- so many turns end as all at once, but for their tests
  turns_alike : (n : ℕ) (s : Place) (m : ℕ) → EndsAlike (runs turn n s) (whole n s m)
  turns_alike zero s m =
      let some : nat_lt (length s.left) (0 * w) ≡ false = le-ltb (length s.left) (0 * w) (omega arith) in
      (m, rw some (ap (gives []) (first_place s m)))
  turns_alike (suc n) s m = by (nat_lt (length s.left) w) (is_digit a (read s.left)) refl refl (turns_alike n (next s) m) where
    by : (b q : Bool) → nat_lt (length s.left) w ≡ b → is_digit a (read s.left) ≡ q → EndsAlike (runs turn n (next s)) (whole n (next s) m)
        → EndsAlike (runs turn (suc n) s) (whole (suc n) s m)
    by true q e f rest =
        let none : turn s ≡ refuses = turn_is s
        ∙ ap (λ (b : Bool). if b then refuses else if is_digit a (read s.left) then gives (read s.left) (next s) else refuses) e in
        let cut : nat_lt (length s.left) (suc n * w) ≡ true = lt-ltb (length s.left) (suc n * w) (omega (arith, ltb-true _ _ e)) in
        subst (λ (y : Run ℤ). EndsAlike (then_run y (λ z t. map_run (λ zs. z ∷ zs) (runs turn n t))) (whole (suc n) s m)) (sym none)
        (rw cut refl)
    by false false e f rest =
        let none : turn s ≡ refuses = turn_is s
        ∙ ap (λ (b : Bool). if b then refuses else if is_digit a (read s.left) then gives (read s.left) (next s) else refuses) e
        ∙ ap (λ (q : Bool). if q then gives (read s.left) (next s) else refuses) f in
        subst (λ (y : Run ℤ). EndsAlike (then_run y (λ z t. map_run (λ zs. z ∷ zs) (runs turn n t))) (whole (suc n) s m)) (sym none)
        (whole_none n s m f)
    by false true e f rest =
        let one : turn s ≡ gives (read s.left) (next s) = turn_is s
        ∙ ap (λ (b : Bool). if b then refuses else if is_digit a (read s.left) then gives (read s.left) (next s) else refuses) e
        ∙ ap (λ (q : Bool). if q then gives (read s.left) (next s) else refuses) f in
        subst (λ (y : Run ℤ). EndsAlike (then_run y (λ z t. map_run (λ zs. z ∷ zs) (runs turn n t))) (whole (suc n) s m)) (sym one)
        (subst (EndsAlike (map_run (λ zs. read s.left ∷ zs) (runs turn n (next s)))) (whole_more n s m (ltb-false _ _ e) f)
        (map_alike (λ zs. read s.left ∷ zs) (runs turn n (next s)) (whole n (next s) m) rest))

  abbrev filled : List ℤ → Draft
  filled zs = done (row (kind_of a) zs)

  passed_row : (y : Option (List ℤ)) (p : Place) → if_passed y (λ zs. gives (filled zs) p) ≡ map_run filled (if_passed y (λ zs. gives zs p))
  passed_row None p = refl
  passed_row (Some zs) p = refl

  -- one test, and the row
  block_is : (n : ℕ) (d : Draft) (s : Place)
      → then_run (needed (n * w + 0) d s) (λ y t. fill_block o w a n t) ≡ map_run filled (whole n s (raised s.tests 1))
  block_is n d s = by (nat_lt (length s.left) (n * w)) refl where
    none : n * w + 0 ≡ n * w
    none = omega arith

    by : (b : Bool) → nat_lt (length s.left) (n * w) ≡ b
        → then_run (needed (n * w + 0) d s) (λ y t. fill_block o w a n t)
        ≡ map_run filled (if b then refuses else if_passed (numbers_at a o x w n s.left) (λ zs. gives zs (after n s (raised s.tests 1))))
    by true e = rw (none, e) refl
    by false e =
        let there : nat_le (n * w) (max (n * w) s.near) ≡ true = le-leb (n * w) (max (n * w) s.near) (omega arith) in
        rw (none, e, is, there) (passed_row (numbers_at a o x w n s.left) (after n s (raised s.tests 1)))

  -- the loop over a row ends as the row, but for its tests
  loop_alike : (n : ℕ) (d : Draft) (s : Place) (m : ℕ)
      → EndsAlike (fill_row (fill c (number_turn w o)) a n s) (then_run (needed (n * w + 0) d (timed m s)) (λ y t. fill_block o w a n t))
  loop_alike n d s m =
      subst (EndsAlike (fill_row (fill c (number_turn w o)) a n s)) (sym (block_is n d (timed m s)))
      (map_alike filled (runs turn n s) (whole n s (raised m 1)) (turns_alike n s (raised m 1)))

pub line_alike : (c : Callees) (w : ℕ) (o : Order) (a : Array) → Wide w → (n : ℕ) (d : Draft) (s : Place) (m : ℕ)
    → EndsAlike (fill_row (fill c (number_turn w o)) a n s) (then_run (needed (n * w + 0) d (timed m s)) (λ y t. fill_block o w a n t))
line_alike c w o a wide n d s m = let x = width_there w wide in loop_alike c w o a x.0 x.1 n d s m
