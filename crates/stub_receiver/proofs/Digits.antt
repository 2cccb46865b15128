-- A number of a row stays one of the row's numbers, by induction on the code and the depth of calls.
use Rattle.std.proofs.Common.{◌≡◌, ◌⊎◌, inl, inr, ℕ, zero, suc, ◌+◌, ◌-◌, ◌*◌, ℤ, List, [], ◌∷◌, length, take, drop, Option, Some, None, refl, sym, ap, subst, ◌∙◌, Bool, true, false, if◌then◌else◌}
use Rattle.std.specs.Prelude.{nat_eq, nat_le, nat_lt, max, ◌&&◌, ◌/◌, ◌%◌, ◌^◌}
use Rattle.std.specs.Int.{Width, w16, w32}
use Rattle.kit_base.specs.Causes.{raised}
use Rattle.mint.specs.Types.{Array, number}
use Rattle.mint.specs.Values.{num}
use Rattle.wire_def.specs.declared.head.Order.{Order}
use Rattle.wire_def.specs.Scalars.{gap, is_signed, number_of}
use Rattle.wire_def.specs.Arrays.{kind_of}
use Rattle.wire_def.specs.Described.{is_marked}
use Rattle.wire_def.specs.Orders.{width_in, loaded}
use Rattle.cast_stub.specs.declared.recv.Get.{Get}
use Rattle.cast_stub.specs.declared.recv.Get.TheVariants as get
use Rattle.cast_stub.specs.Steps.{is_width}
use Rattle.cast_stub.specs.RecvBlock.{Recv, finish, need, need_row, skip_any, skip_zero, pass, desc, row_block, row_wide, each, switch, if_there, call}
use Rattle.cast_stub.specs.Draft.{Draft, digit, done, length_in, settle}
use Rattle.cast_stub.specs.Fill.{within, part, into, got, all_got, fill_each, fill_arm, fill_present, Callees, fill, fill_case}
use Rattle.cast_stub.specs.Into.{needed, passed, skipped, all_zero, word_at, same_octets, is_digit, num_into, count_into, little, units_into, short_into, long_into, form_into, desc_into, row_into, wide_into}
use Rattle.cast_stub.specs.Runs.{Place, Run, gives, refuses, strays, Filler, then_run, if_some, if_passed}
use Rattle.cast_stub.specs.Got.{called}

module _ (a : Array) where
  -- a number of the row, read or not yet
  abbrev pub IsDigit : Draft → Type 0
  IsDigit d = (d ≡ digit a) ⊎ ((n : ℤ) × (d ≡ done (num n)) × (is_digit a n ≡ true))

  -- so it is of what is given
  abbrev pub Keeps : Run Draft → Type 0
  Keeps (gives d s) = IsDigit d
  Keeps refuses = Unit {0}
  Keeps strays = Unit {0}

  abbrev pub Keeping : Filler → Type 0
  Keeping f = (d : Draft) (s : Place) → IsDigit d → Keeps (f d s)

  keeps_then : (x : Run Draft) (f : Filler) → Keeps x → Keeping f → Keeps (then_run x f)
  keeps_then (gives d s) f h k = k d s h
  keeps_then refuses f h k = tt
  keeps_then strays f h k = tt

  needed_keeps : (n : ℕ) → Keeping (needed n)
  needed_keeps n d s h = either (nat_lt (length s.left) n) where
    either : (b : Bool)
        → Keeps (if b then refuses else gives d (record { pos = s.pos; left = s.left; near = max n s.near; tests = raised s.tests 1 }))
    either true = tt
    either false = h

  passed_keeps : (n : ℕ) → Keeping (passed n)
  passed_keeps n d s h = either (nat_le n s.near) where
    either : (b : Bool)
        → Keeps (if b then gives d (record { pos = s.pos + n; left = drop n s.left; near = s.near - n; tests = s.tests }) else strays)
    either true = h
    either false = tt

  skipped_keeps : (test : List ℕ → Bool) (w : ℕ) → Keeping (skipped test w)
  skipped_keeps test w d s h = either (is_width w) where
    tested : Keeping (λ d t. if test (take (gap s.pos w) t.left) then passed (gap s.pos w) d t else refuses)
    tested e t k = or (test (take (gap s.pos w) t.left)) where
      or : (b : Bool) → Keeps (if b then passed (gap s.pos w) e t else refuses)
      or true = passed_keeps (gap s.pos w) e t k
      or false = tt

    either : (b : Bool)
        → Keeps
        (if b
        then then_run (needed (gap s.pos w) d s) (λ d t. if test (take (gap s.pos w) t.left) then passed (gap s.pos w) d t else refuses)
        else refuses)
    either true = keeps_then (needed (gap s.pos w) d s)
        (λ d t. if test (take (gap s.pos w) t.left) then passed (gap s.pos w) d t else refuses) (needed_keeps (gap s.pos w) d s h) tested
    either false = tt

  -- only the whole of it is a part
  within_keeps : (p : List ℕ) (f : Filler) → ((d : Draft) (s : Place) → IsDigit d → Keeps (f d s)) → Keeping (within p f)
  within_keeps [] f k d s h = k d s h
  within_keeps (n ∷ p) f k d s (inl e) = subst (λ (x : Draft). Keeps (within (n ∷ p) f x s)) (sym e) tt
  within_keeps (n ∷ p) f k d s (inr h) = subst (λ (x : Draft). Keeps (within (n ∷ p) f x s)) (sym h.1) tt

  num_keeps : (x : Width) (m : ℕ) → Keeping (num_into x m)
  num_keeps x m d s (inr h) = subst (λ (y : Draft). Keeps (num_into x m y s)) (sym h.1) tt
  num_keeps x m d s (inl e) = subst (λ (y : Draft). Keeps (num_into x m y s)) (sym e)
      (either (is_digit a (number_of (is_signed (number (kind_of a))) x m)) refl) where
        either : (b : Bool) → is_digit a (number_of (is_signed (number (kind_of a))) x m) ≡ b
            → Keeps (if b then gives (done (num (number_of (is_signed (number (kind_of a))) x m))) s else refuses)
        either true is = inr (number_of (is_signed (number (kind_of a))) x m, refl, is)
        either false is = tt

  -- what gives nothing of such a draft
  strays_keeps : (f : Filler) → ((s : Place) → Keeps (f (digit a) s)) → ((n : ℤ) (s : Place) → Keeps (f (done (num n)) s)) → Keeping f
  strays_keeps f k l d s (inl e) = subst (λ (y : Draft). Keeps (f y s)) (sym e) (k s)
  strays_keeps f k l d s (inr h) = subst (λ (y : Draft). Keeps (f y s)) (sym h.1) (l h.0 s)

  into_keeps : (g : Get) (x : Width) (m : ℕ) → Keeping (into g x m)
  into_keeps (get.Num off p w o) x m = num_keeps x m
  into_keeps (get.Tag off p w o) x m = strays_keeps (into (get.Tag off p w o) x m) (λ (s : Place). tt) (λ (n : ℤ) (s : Place). tt)
  into_keeps (get.Flag off p w o) x m = strays_keeps (into (get.Flag off p w o) x m) (λ (s : Place). tt) (λ (n : ℤ) (s : Place). tt)
  into_keeps (get.Count off p mul add w o) x m =
      strays_keeps (into (get.Count off p mul add w o) x m) (λ (s : Place). tt) (λ (n : ℤ) (s : Place). tt)
  into_keeps (get.Const off os) x m = strays_keeps (into (get.Const off os) x m) (λ (s : Place). tt) (λ (n : ℤ) (s : Place). tt)

  -- a descriptor gives nothing of a draft that has no length to be read
  module _ (d : Draft) (mul : ℕ) (none : (m : ℕ) (t : Place) → count_into mul 0 m d t ≡ strays) where
    units_keeps : (right : Bool) (many n : ℕ) (s : Place)
        → Keeps (if right then then_run (count_into mul 0 many d s) (passed n) else refuses)
    units_keeps true many n s = subst (λ (z : Run Draft). Keeps (then_run z (passed n))) (sym (none many s)) tt
    units_keeps false many n s = tt

    after_test : (short : Bool) (s : Place) (f : Filler) → Keeps (f d s) → Keeps (then_run (if short then refuses else gives d s) f)
    after_test true s f h = tt
    after_test false s f h = h

    form_keeps : (long short : Bool) (name size first : ℕ) (s : Place)
        → Keeps (if long then long_into name size mul d s else if short then short_into name size mul first d s else refuses)
    form_keeps true short name size first s =
        let t : Place = record { pos = s.pos; left = s.left; near = max 12 s.near; tests = raised s.tests 1 } in
        after_test (nat_lt (length s.left) 12) t
        (λ x t. units_into (nat_eq (little w16 4 2 t.left) name && nat_eq (little w16 6 2 t.left) size) mul (little w32 8 4 t.left) 12 x t)
        (units_keeps (nat_eq (little w16 4 2 s.left) name && nat_eq (little w16 6 2 s.left) size) (little w32 8 4 s.left) 12 t)
    form_keeps false true name size first s =
        units_keeps (nat_eq (first % 256) name && nat_eq (first / 256 % 256) size) (first / 65536 % 4096) 4 s
    form_keeps false false name size first s = tt

    desc_none : (name size : ℕ) (s : Place) → Keeps (desc_into name size mul d s)
    desc_none name size s =
        let t : Place = record { pos = s.pos; left = s.left; near = max 4 s.near; tests = raised s.tests 1 } in
        after_test (nat_lt (length s.left) 4) t (λ x t. form_into name size mul (little w32 0 4 t.left) x t)
        (form_keeps (is_marked (little w32 0 4 s.left)) (nat_eq (little w32 0 4 s.left / 2 ^ 28) 1) name size (little w32 0 4 s.left) t)

  desc_keeps : (name size mul : ℕ) → Keeping (desc_into name size mul)
  desc_keeps name size mul = strays_keeps (desc_into name size mul)
      (λ (s : Place). desc_none (digit a) mul (λ (m : ℕ) (t : Place). refl) name size s)
      (λ (n : ℤ) (s : Place). desc_none (done (num n)) mul (λ (m : ℕ) (t : Place). refl) name size s)

  word_keeps : (off w : ℕ) (p : List ℕ) (o : Order) (g : Get) → Keeping (λ d s. word_at off w o s (λ x m. within p (into g x m) d s))
  word_keeps off w p o g d s h = wide (width_in w) where
    near : (b : Bool) (x : Width) (m : ℕ) → Keeps (if b then within p (into g x m) d s else strays)
    near true x m = within_keeps p (into g x m) (into_keeps g x m) d s h
    near false x m = tt

    wide : (z : Option Width)
        → Keeps
        (if_passed z (λ x. if nat_le (off + w) s.near then within p (into g x (loaded o x (take w (drop off s.left)))) d s else strays))
    wide None = tt
    wide (Some x) = near (nat_le (off + w) s.near) x (loaded o x (take w (drop off s.left)))

  got_keeps : (g : Get) → Keeping (got g)
  got_keeps (get.Num off p w o) = word_keeps off w p o (get.Num off p w o)
  got_keeps (get.Tag off p w o) = word_keeps off w p o (get.Tag off p w o)
  got_keeps (get.Flag off p w o) = word_keeps off w p o (get.Flag off p w o)
  got_keeps (get.Count off p mul add w o) = word_keeps off w p o (get.Count off p mul add w o)
  got_keeps (get.Const off os) = λ (d : Draft) (s : Place) h. either d s h (nat_le (off + length os) s.near)
      (same_octets os (take (length os) (drop off s.left))) where
        either : (d : Draft) (s : Place) → IsDigit d → (b g : Bool) → Keeps (if b then (if g then gives d s else refuses) else strays)
        either d s h true true = h
        either d s h true false = tt
        either d s h false g = tt

  all_keeps : (gs : List Get) → Keeping (all_got gs)
  all_keeps [] d s h = h
  all_keeps (g ∷ gs) d s h = keeps_then (got g d s) (all_got gs) (got_keeps g d s h) (all_keeps gs)

  pub fill_keeps : (c : Callees) → ((k : ℕ) → Keeping (c k)) → (b : Recv) → Keeping (fill c b)
  fill_keeps c hc finish d s h = h
  fill_keeps c hc (need n r) d s h = keeps_then (needed n d s) (fill c r) (needed_keeps n d s h) (fill_keeps c hc r)
  fill_keeps c hc (need_row p u e r) d s h = keeps_then (if_some (part p d) (λ x. if_some (length_in x) (λ n. needed (n * u + e) d s)))
      (fill c r) (looked (part p d)) (fill_keeps c hc r) where
        many : (o : Option ℕ) → Keeps (if_some o (λ n. needed (n * u + e) d s))
        many None = tt
        many (Some n) = needed_keeps (n * u + e) d s h

        looked : (o : Option Draft) → Keeps (if_some o (λ x. if_some (length_in x) (λ n. needed (n * u + e) d s)))
        looked None = tt
        looked (Some x) = many (length_in x)
  fill_keeps c hc (skip_any w r) d s h =
      keeps_then (skipped (λ o. true) w d s) (fill c r) (skipped_keeps (λ o. true) w d s h) (fill_keeps c hc r)
  fill_keeps c hc (skip_zero w r) d s h =
      keeps_then (skipped all_zero w d s) (fill c r) (skipped_keeps all_zero w d s h) (fill_keeps c hc r)
  fill_keeps c hc (pass n gs r) d s h =
      keeps_then (all_got gs d s) (λ x t. then_run (passed n x t) (fill c r)) (all_keeps gs d s h)
      (λ (x : Draft) (t : Place) k. keeps_then (passed n x t) (fill c r) (passed_keeps n x t k) (fill_keeps c hc r))
  fill_keeps c hc (desc p name size mul r) d s h = keeps_then (within p (desc_into name size mul) d s) (fill c r)
      (within_keeps p (desc_into name size mul) (desc_keeps name size mul) d s h) (fill_keeps c hc r)
  fill_keeps c hc (row_block p o r) d s h = keeps_then (within p (row_into o) d s) (fill c r)
      (within_keeps p (row_into o) (strays_keeps (row_into o) (λ (t : Place). tt) (λ (n : ℤ) (t : Place). tt)) d s h) (fill_keeps c hc r)
  fill_keeps c hc (row_wide p o r) d s h = keeps_then (within p (wide_into o) d s) (fill c r)
      (within_keeps p (wide_into o) (strays_keeps (wide_into o) (λ (t : Place). tt) (λ (n : ℤ) (t : Place). tt)) d s h) (fill_keeps c hc r)
  fill_keeps c hc (each p b r) d s h = keeps_then (within p (fill_each (fill c b)) d s) (fill c r)
      (within_keeps p (fill_each (fill c b)) (strays_keeps (fill_each (fill c b)) (λ (t : Place). tt) (λ (n : ℤ) (t : Place). tt)) d s h)
      (fill_keeps c hc r)
  fill_keeps c hc (switch p cs r) d s h = keeps_then (within p (fill_arm (fill_case c cs)) d s) (fill c r)
      (within_keeps p (fill_arm (fill_case c cs)) (strays_keeps (fill_arm (fill_case c cs)) (λ (t : Place). tt) (λ (n : ℤ) (t : Place). tt))
      d s h) (fill_keeps c hc r)
  fill_keeps c hc (if_there p b r) d s h = keeps_then (within p (fill_present (fill c b)) d s) (fill c r)
      (within_keeps p (fill_present (fill c b)) (strays_keeps (fill_present (fill c b)) (λ (t : Place). tt) (λ (n : ℤ) (t : Place). tt)) d s
      h) (fill_keeps c hc r)
  fill_keeps c hc (call k p r) d s h = keeps_then (within p (c k) d s) (fill c r) (within_keeps p (c k) (hc k) d s h) (fill_keeps c hc r)

  pub called_keeps : (subs : ℕ → Option Recv) (n k : ℕ) → Keeping (called subs n k)
  called_keeps subs zero k d s h = tt
  called_keeps subs (suc n) k d s h = sub (subs k) (called_keeps subs n) where
    sub : (o : Option Recv) → ((j : ℕ) → Keeping (called subs n j)) → Keeps (if_some o (λ b. fill (called subs n) b d s))
    sub None hc = tt
    sub (Some b) hc = fill_keeps (called subs n) hc b d s h

  -- what such a draft has become
  pub digit_become : (d : Draft) (n : ℤ) → IsDigit d → settle d ≡ Some (num n) → is_digit a n ≡ true
  digit_become d n (inl e) is = absurd (let none = ap settle (sym e) ∙ is in cc)
  digit_become d n (inr h) is =
      let same = ap settle (sym h.1) ∙ is in
      let one : h.0 ≡ n = cc in
      subst (λ (m : ℤ). is_digit a m ≡ true) one h.2
