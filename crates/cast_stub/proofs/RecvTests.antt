-- Tests before a run change neither what it gives nor where it ends, and are added, by induction on code and calls.
use Rattle.std.proofs.Common.{◌≡◌, ℕ, zero, suc, ◌+◌, ◌-◌, ◌*◌, ◌≤◌, ℤ, List, [], ◌∷◌, length, take, drop, Option, None, Some, refl, sym, ap, subst, Bool, true, false, if◌then◌else◌, arith}
use Rattle.std.specs.Prelude.{nat_eq, nat_le, nat_lt, max, ◌&&◌, ◌/◌, ◌%◌, ◌^◌}
use Rattle.std.specs.Int.{Width, w16, w32}
use Rattle.std.specs.Ordering.{int_eq}
use Rattle.std.proofs.lemmas.Bool.{leb-true, le-leb}
use Rattle.kit_base.specs.Causes.{raised}
use Rattle.mint.specs.Blank.{least}
use Rattle.mint.specs.Types.{Scalar, number, Array, Ty, scalar_type, array_type, items_type, choice_type, maybe_type}
use Rattle.mint.specs.declared.kind.Count.{Count}
use Rattle.mint.specs.Typed.{is_scalar}
use Rattle.mint.specs.Values.{Val, num_in, num, row, items, arm, absent, present, vals_of}
use Rattle.wire_def.specs.declared.head.Order.{Order}
use Rattle.wire_def.specs.Scalars.{gap, is_signed, number_of}
use Rattle.wire_def.specs.Send.{flag}
use Rattle.wire_def.specs.Arrays.{count_of, kind_of}
use Rattle.wire_def.specs.Described.{is_marked}
use Rattle.mint.specs.Kinds.{width}
use Rattle.wire_def.specs.Orders.{width_in, loaded}
use Rattle.cast_stub.specs.declared.recv.Get.{Get}
use Rattle.cast_stub.specs.declared.recv.Get.TheVariants as get
use Rattle.cast_stub.specs.Steps.{is_width}
use Rattle.cast_stub.specs.Subs.{deepest}
use Rattle.cast_stub.specs.RecvBlock.{Recv, finish, need, need_row, skip_any, skip_zero, pass, desc, row_block, row_wide, each, switch, if_there, call, Cases, no_default, default, case, code_seen}
use Rattle.cast_stub.specs.Draft.{Draft, raw, digit, listed, lined, tagged, flagged, done, fields, Drafts, no_draft, draft, fresh, settle, length_in}
use Rattle.cast_stub.specs.Into.{needed, passed, skipped, all_zero, is_digit, scalar_into, num_into, arm_draft, tag_into, flag_draft, flag_into, length_of, allows, length_into, count_into, same_octets, little, units_into, short_into, long_into, form_into, desc_into, numbers_at, fill_block, row_into, wide_into}
use Rattle.cast_stub.specs.Fill.{at_field, within, part, into, word_got, got, all_got, settled, settled_number, runs, fill_items, fill_row, fill_each, fill_arm, fill_present, Callees, fill, fill_case}
use Rattle.cast_stub.specs.Runs.{Place, Run, gives, refuses, strays, Going, Filler, then_run, map_run, if_some, if_passed, Holds}
use Rattle.cast_stub.specs.Got.{called, calls_of, sub_at, received, reported, untested}
use Rattle.cast_stub.specs.Laws.{later, TestsAdd}

module _ (k : ℕ) where
  -- the same place, where more is known to be there, and so many tests more were made
  abbrev pub ahead : ℕ → Place → Place
  ahead m s = record { pos = s.pos; left = s.left; near = m; tests = raised k s.tests }

  -- a run from there ends likewise
  abbrev pub Likewise : {A : Type 0} → Run A → Run A → Type 0
  Likewise (gives x s) y = (m : ℕ) × (s.near ≤ m) × (y ≡ gives x (ahead m s))
  Likewise refuses y = y ≡ refuses
  Likewise strays y = Unit {0}

  abbrev pub Steady : {A : Type 0} → Going A → Type 0
  Steady f = (s : Place) (m : ℕ) → s.near ≤ m → Likewise (f s) (f (ahead m s))

  abbrev pub AreSteady : Filler → Type 0
  AreSteady f = (d : Draft) → Steady (f d)

  stays : {A : Type 0} (x : A) → Steady (gives x)
  stays x s m le = (m, le, refl)

  then_steady : {A B : Type 0} (x y : Run A) (f : A → Place → Run B) → Likewise x y → ((a : A) → Steady (f a))
      → Likewise (then_run x f) (then_run y f)
  then_steady (gives a s) y f h g = subst (λ z. Likewise (f a s) (then_run z f)) (sym h.2) (g a s h.0 h.1)
  then_steady refuses y f h g = ap (λ z. then_run z f) h
  then_steady strays y f h g = tt

  map_steady : {A B : Type 0} (h : A → B) (x y : Run A) → Likewise x y → Likewise (map_run h x) (map_run h y)
  map_steady h (gives a s) y e = (e.0, e.1, ap (map_run h) e.2)
  map_steady h refuses y e = ap (map_run h) e
  map_steady h strays y e = tt

  if_steady : {A : Type 0} (b : Bool) (x x' y y' : Run A) → Likewise x x' → Likewise y y'
      → Likewise (if b then x else y) (if b then x' else y')
  if_steady true x x' y y' h g = h
  if_steady false x x' y y' h g = g

  some_steady : {A B : Type 0} (o : Option A) (f : A → Place → Run B) → ((a : A) → Steady (f a)) → (s : Place) (m : ℕ) → s.near ≤ m
      → Likewise (if_some o (λ a. f a s)) (if_some o (λ a. f a (ahead m s)))
  some_steady None f h s m le = tt
  some_steady (Some a) f h s m le = h a s m le

  passed_some : {A B : Type 0} (o : Option A) (f : A → Place → Run B) → ((a : A) → Steady (f a)) → (s : Place) (m : ℕ) → s.near ≤ m
      → Likewise (if_passed o (λ a. f a s)) (if_passed o (λ a. f a (ahead m s)))
  passed_some None f h s m le = refl
  passed_some (Some a) f h s m le = h a s m le

  -- what is known to be there is known with more
  near_steady : {A : Type 0} (n : ℕ) (f : Going A) → ((s : Place) (m : ℕ) → n ≤ s.near → s.near ≤ m → Likewise (f s) (f (ahead m s)))
      → (s : Place) (m : ℕ) → s.near ≤ m → Likewise (if nat_le n s.near then f s else strays) (if nat_le n m then f (ahead m s) else strays)
  near_steady n f h s m le = checked (nat_le n s.near) refl where
    checked : (b : Bool) → nat_le n s.near ≡ b → Likewise (if b then f s else strays) (if nat_le n m then f (ahead m s) else strays)
    checked true e =
        let within : n ≤ s.near = leb-true n s.near e in
        let far : nat_le n m ≡ true = le-leb n m (omega (arith, within, le)) in
        subst (λ (b : Bool). Likewise (f s) (if b then f (ahead m s) else strays)) (sym far) (h s m within le)
    checked false e = tt

  needed_steady : (n : ℕ) → AreSteady (needed n)
  needed_steady n d s m le =
      if_steady (nat_lt (length s.left) n) refuses refuses
      (gives d (record { pos = s.pos; left = s.left; near = max n s.near; tests = raised s.tests 1 }))
      (gives d (record { pos = s.pos; left = s.left; near = max n m; tests = raised (raised k s.tests) 1 })) refl
      (max n m, omega (arith, le), ap (λ (t : ℕ). gives d (record { pos = s.pos; left = s.left; near = max n m; tests = t })) added) where
        added : raised (raised k s.tests) 1 ≡ raised k (raised s.tests 1)
        added = omega arith

  passed_steady : (n : ℕ) → AreSteady (passed n)
  passed_steady n d = near_steady n (λ s. gives d (record { pos = s.pos + n; left = drop n s.left; near = s.near - n; tests = s.tests }))
      (λ (s : Place) (m : ℕ) within le. (m - n, omega (arith, le), refl))

  skipped_steady : (test : List ℕ → Bool) (a : ℕ) → AreSteady (skipped test a)
  skipped_steady test a d s m le =
      let f : Draft → Place → Run Draft = λ d t. if test (take (gap s.pos a) t.left) then passed (gap s.pos a) d t else refuses in
      let over : (x : Draft) → Steady (f x) =
      λ (x : Draft) (t : Place) (j : ℕ) near.
      if_steady (test (take (gap s.pos a) t.left)) (passed (gap s.pos a) x t) (passed (gap s.pos a) x (ahead j t)) refuses refuses
      (passed_steady (gap s.pos a) x t j near) refl in
      if_steady (is_width a) (then_run (needed (gap s.pos a) d s) f) (then_run (needed (gap s.pos a) d (ahead m s)) f) refuses refuses
      (then_steady (needed (gap s.pos a) d s) (needed (gap s.pos a) d (ahead m s)) f (needed_steady (gap s.pos a) d s m le) over) refl

  -- ---- numbers

  scalar_steady : (t : Scalar) (f : ℤ → Option Draft) (x : Width) (n : ℕ) → Steady (scalar_into t f x n)
  scalar_steady t f x n s m le =
      let z : ℤ = number_of (is_signed t) x n in
      if_steady (is_scalar t z)
      (if_passed (f z) (λ d. gives d s)) (if_passed (f z) (λ d. gives d (ahead m s))) refuses refuses (passed_some (f z) (λ d.
      gives d) stays s m le) refl

  num_steady : (x : Width) (n : ℕ) → AreSteady (num_into x n)
  num_steady x n (raw (scalar_type t)) = scalar_steady t (λ z. Some (done (num z))) x n
  num_steady x n (digit a) = λ (s : Place) (m : ℕ) le.
      let z : ℤ = number_of (is_signed (number (kind_of a))) x n in
      if_steady (is_digit a z) (gives (done (num z)) s) (gives (done (num z)) (ahead m s)) refuses refuses (stays (done (num z)) s m le)
      refl
  num_steady x n _ = λ (s : Place) (m : ℕ) le. tt

  tag_steady : (x : Width) (n : ℕ) → AreSteady (tag_into x n)
  tag_steady x n (raw (choice_type t arms)) = scalar_steady t (arm_draft arms) x n
  tag_steady x n _ = λ (s : Place) (m : ℕ) le. tt

  flag_steady : (x : Width) (n : ℕ) → AreSteady (flag_into x n)
  flag_steady x n (raw (maybe_type t)) = scalar_steady flag (flag_draft t) x n
  flag_steady x n _ = λ (s : Place) (m : ℕ) le. tt

  length_steady : (c : Count) (f : ℕ → Draft) (mul add n : ℕ) → Steady (length_into c f mul add n)
  length_steady c f mul add n s m le =
      passed_some (length_of mul add n) (λ l u. if allows c l then gives (f l) u else refuses)
      (λ (l : ℕ) (u : Place) (j : ℕ) near.
      if_steady (allows c l) (gives (f l) u) (gives (f l) (ahead j u)) refuses refuses (stays (f l) u j near) refl) s m le

  count_steady : (mul add n : ℕ) → AreSteady (count_into mul add n)
  count_steady mul add n (raw (items_type c t)) = length_steady c (listed t) mul add n
  count_steady mul add n (raw (array_type a)) = length_steady (count_of a) (lined a) mul add n
  count_steady mul add n _ = λ (s : Place) (m : ℕ) le. tt

  -- ---- descriptors

  units_steady : (right : Bool) (mul many n : ℕ) → AreSteady (units_into right mul many n)
  units_steady right mul many n d s m le =
      if_steady right (then_run (count_into mul 0 many d s) (passed n)) (then_run (count_into mul 0 many d (ahead m s)) (passed n))
      refuses refuses
      (then_steady (count_into mul 0 many d s) (count_into mul 0 many d (ahead m s)) (passed n) (count_steady mul 0 many d s m le)
      (passed_steady n)) refl

  desc_steady : (name size mul : ℕ) → AreSteady (desc_into name size mul)
  desc_steady name size mul d s m le =
      then_steady (needed 4 d s) (needed 4 d (ahead m s))
      (λ x t. form_into name size mul (little w32 0 4 t.left) x t) (needed_steady 4 d s m le) form where
        long : AreSteady (long_into name size mul)
        long x t j near =
            then_steady (needed 12 x t) (needed 12 x (ahead j t))
            (λ y u.
            units_into (nat_eq (little w16 4 2 u.left) name && nat_eq (little w16 6 2 u.left) size) mul (little w32 8 4 u.left) 12 y u)
            (needed_steady 12 x t j near)
            (λ (y : Draft) (u : Place) (i : ℕ) le.
            units_steady (nat_eq (little w16 4 2 u.left) name && nat_eq (little w16 6 2 u.left) size) mul (little w32 8 4 u.left) 12 y u i
            le)

        form : (x : Draft) → Steady (λ t. form_into name size mul (little w32 0 4 t.left) x t)
        form x t j near =
            let first : ℕ = little w32 0 4 t.left in
            if_steady (is_marked first) (long_into name size mul x t) (long_into name size mul x (ahead j t))
            (if nat_eq (first / 2 ^ 28) 1 then short_into name size mul first x t else refuses)
            (if nat_eq (first / 2 ^ 28) 1 then short_into name size mul first x (ahead j t) else refuses)
            (long x t j near)
            (if_steady (nat_eq (first / 2 ^ 28) 1) (short_into name size mul first x t)
            (short_into name size mul first x (ahead j t)) refuses
            refuses
            (units_steady (nat_eq (first % 256) name && nat_eq (first / 256 % 256) size) mul (first / 65536 % 4096) 4 x t j near) refl)

  -- ---- rows as blocks

  block_steady : (o : Order) (w : ℕ) (a : Array) (n : ℕ) → Steady (fill_block o w a n)
  block_steady o w a n = λ (s : Place) (m : ℕ) le. wide (width_in w) s m le where
    there : (x : Width) (s : Place) (m : ℕ) → n * w ≤ s.near → s.near ≤ m
        → Likewise
        (if_passed (numbers_at a o x w n s.left)
        (λ zs.
        gives (done (row (kind_of a) zs))
        (record { pos = s.pos + n * w; left = drop (n * w) s.left; near = s.near - n * w; tests = s.tests })))
        (if_passed (numbers_at a o x w n s.left)
        (λ zs.
        gives (done (row (kind_of a) zs))
        (record { pos = s.pos + n * w; left = drop (n * w) s.left; near = m - n * w; tests = raised k s.tests })))
    there x s m within le = read (numbers_at a o x w n s.left) where
      read : (z : Option (List ℤ)) → Likewise
          (if_passed z
          (λ zs.
          gives (done (row (kind_of a) zs))
          (record { pos = s.pos + n * w; left = drop (n * w) s.left; near = s.near - n * w; tests = s.tests })))
          (if_passed z
          (λ zs.
          gives (done (row (kind_of a) zs))
          (record { pos = s.pos + n * w; left = drop (n * w) s.left; near = m - n * w; tests = raised k s.tests })))
      read None = refl
      read (Some zs) = (m - n * w, omega (arith, le), refl)

    wide : (z : Option Width) (s : Place) (m : ℕ) → s.near ≤ m
        → Likewise
        (if_some z
        (λ x. if nat_le (n * w) s.near then if_passed (numbers_at a o x w n s.left) (λ zs.
        gives (done (row (kind_of a) zs))
        (record { pos = s.pos + n * w; left = drop (n * w) s.left; near = s.near - n * w; tests = s.tests })) else strays))
        (if_some z
        (λ x. if nat_le (n * w) m then if_passed (numbers_at a o x w n s.left) (λ zs.
        gives (done (row (kind_of a) zs))
        (record { pos = s.pos + n * w; left = drop (n * w) s.left; near = m - n * w; tests = raised k s.tests })) else strays))
    wide None s m le = tt
    wide (Some x) s m le =
        near_steady (n * w)
        (λ u.
        if_passed (numbers_at a o x w n u.left)
        (λ zs.
        gives (done (row (kind_of a) zs))
        (record { pos = u.pos + n * w; left = drop (n * w) u.left; near = u.near - n * w; tests = u.tests }))) (there x) s m le

  row_steady : (o : Order) → AreSteady (row_into o)
  row_steady o (lined a n) = block_steady o (width (kind_of a)) a n
  row_steady o (raw (array_type a)) = block_steady o (width (kind_of a)) a (least (count_of a))
  row_steady o _ = λ (s : Place) (m : ℕ) le. tt

  wide_steady : (o : Order) → AreSteady (wide_into o)
  wide_steady o (lined a n) = block_steady o 4 a n
  wide_steady o (raw (array_type a)) = block_steady o 4 a (least (count_of a))
  wide_steady o _ = λ (s : Place) (m : ℕ) le. tt

  -- ---- parts and gets

  field_steady : (n : ℕ) (f : Filler) → AreSteady f → (ds : Drafts) → Steady (at_field n f ds)
  field_steady n f h no_draft = λ (s : Place) (m : ℕ) le. tt
  field_steady zero f h (draft d ds) = λ (s : Place) (m : ℕ) le. map_steady (λ x. draft x ds) (f d s) (f d (ahead m s)) (h d s m le)
  field_steady (suc n) f h (draft d ds) =
      λ (s : Place) (m : ℕ) le. map_steady (draft d) (at_field n f ds s) (at_field n f ds (ahead m s)) (field_steady n f h ds s m le)

  within_steady : (p : List ℕ) (f : Filler) → AreSteady f → AreSteady (within p f)
  within_steady [] f h d = h d
  within_steady (n ∷ p) f h (fields ds) =
      λ (s : Place) (m : ℕ) le.
      map_steady fields (at_field n (within p f) ds s) (at_field n (within p f) ds (ahead m s))
      (field_steady n (within p f) (within_steady p f h) ds s m le)
  within_steady (n ∷ p) f h _ = λ (s : Place) (m : ℕ) le. tt

  into_steady : (g : Get) (x : Width) (n : ℕ) → AreSteady (into g x n)
  into_steady (get.Num off p w o) x n = num_steady x n
  into_steady (get.Tag off p w o) x n = tag_steady x n
  into_steady (get.Flag off p w o) x n = flag_steady x n
  into_steady (get.Count off p mul add w o) x n = count_steady mul add n
  into_steady (get.Const off os) x n = λ (d : Draft) (s : Place) (m : ℕ) le. tt

  word_steady : (g : Get) (off : ℕ) (p : List ℕ) (w : ℕ) (o : Order) → AreSteady (word_got g off p w o)
  word_steady g off p w o d s m le =
      passed_some (width_in w)
      (λ x u. if nat_le (off + w) u.near then within p (into g x (loaded o x (take w (drop off u.left)))) d u else strays)
      (λ (x : Width) (u : Place) (j : ℕ) near. near_steady (off + w) (λ v. within p (into g x (loaded o x (take w (drop off v.left)))) d v)
      (λ (v : Place) (i : ℕ) there far.
      within_steady p (into g x (loaded o x (take w (drop off v.left)))) (into_steady g x (loaded o x (take w (drop off v.left)))) d v
      i far) u j near) s m le

  got_steady : (g : Get) → AreSteady (got g)
  got_steady (get.Num off p w o) = word_steady (get.Num off p w o) off p w o
  got_steady (get.Tag off p w o) = word_steady (get.Tag off p w o) off p w o
  got_steady (get.Flag off p w o) = word_steady (get.Flag off p w o) off p w o
  got_steady (get.Count off p mul add w o) = word_steady (get.Count off p mul add w o) off p w o
  got_steady (get.Const off os) =
      λ (d : Draft).
      near_steady (off + length os) (λ s. if same_octets os (take (length os) (drop off s.left)) then gives d s else refuses)
      (λ (s : Place) (m : ℕ) there le.
      if_steady (same_octets os (take (length os) (drop off s.left))) (gives d s) (gives d (ahead m s)) refuses refuses
      (stays d s m le) refl)

  all_steady : (gs : List Get) → AreSteady (all_got gs)
  all_steady [] = stays
  all_steady (g ∷ gs) =
      λ (d : Draft) (s : Place) (m : ℕ) le.
      then_steady (got g d s) (got g d (ahead m s)) (all_got gs) (got_steady g d s m le) (all_steady gs)

  -- ---- operations with bodies

  settled_steady : (x y : Run Draft) → Likewise x y → Likewise (settled x) (settled y)
  settled_steady (gives d s) y h =
      subst (λ z. Likewise (settled (gives d s)) (settled z)) (sym h.2) (some_steady (settle d) (λ v. gives v) stays s h.0 h.1)
  settled_steady refuses y h = ap settled h
  settled_steady strays y h = tt

  number_steady : (x y : Run Draft) → Likewise x y → Likewise (settled_number x) (settled_number y)
  number_steady x y h =
      then_steady (settled x) (settled y)
      (λ v s. if_some (num_in v) (λ n. gives n s)) (settled_steady x y h) (λ (v : Val). some_steady (num_in v) (λ n. gives n) stays)

  runs_steady : {A : Type 0} (f : Going A) → Steady f → (n : ℕ) → Steady (runs f n)
  runs_steady f h zero = stays []
  runs_steady {A} f h (suc n) = λ (s : Place) (m : ℕ) le.
      then_steady (f s) (f (ahead m s)) (λ x t. map_run (λ xs. x ∷ xs) (runs f n t)) (h s m le)
      (λ (x : A) (t : Place) (j : ℕ) near. map_steady (λ xs. x ∷ xs) (runs f n t) (runs f n (ahead j t)) (runs_steady f h n t j near))

  items_steady : (f : Filler) → AreSteady f → (t : Ty) (n : ℕ) → Steady (fill_items f t n)
  items_steady f h t n s m le =
      let one : Going Val = λ u. settled (f (fresh t) u) in
      map_steady
      (λ vs. done (items (vals_of vs))) (runs one n s) (runs one n (ahead m s)) (runs_steady one (λ (u : Place) (j : ℕ) near.
      settled_steady (f (fresh t) u) (f (fresh t) (ahead j u)) (h (fresh t) u j near)) n s m le)

  line_steady : (f : Filler) → AreSteady f → (a : Array) (n : ℕ) → Steady (fill_row f a n)
  line_steady f h a n s m le =
      let one : Going ℤ = λ u. settled_number (f (digit a) u) in
      map_steady
      (λ ns. done (row (kind_of a) ns)) (runs one n s) (runs one n (ahead m s)) (runs_steady one (λ (u : Place) (j : ℕ) near.
      number_steady (f (digit a) u) (f (digit a) (ahead j u)) (h (digit a) u j near)) n s m le)

  each_steady : (f : Filler) → AreSteady f → AreSteady (fill_each f)
  each_steady f h (raw (items_type c t)) = items_steady f h t (least c)
  each_steady f h (raw (array_type a)) = line_steady f h a (least (count_of a))
  each_steady f h (listed t n) = items_steady f h t n
  each_steady f h (lined a n) = line_steady f h a n
  each_steady f h _ = λ (s : Place) (m : ℕ) le. tt

  arm_steady : (f : ℤ → Filler) → ((n : ℤ) → AreSteady (f n)) → AreSteady (fill_arm f)
  arm_steady f h (tagged n t) =
      λ (s : Place) (m : ℕ) le.
      map_steady
      (λ v.
      done (arm n v)) (settled (f n (fresh t) s)) (settled (f n (fresh t) (ahead m s)))
      (settled_steady (f n (fresh t) s) (f n (fresh t) (ahead m s)) (h n (fresh t) s m le))
  arm_steady f h _ = λ (s : Place) (m : ℕ) le. tt

  present_steady : (f : Filler) → AreSteady f → AreSteady (fill_present f)
  present_steady f h (flagged t) =
      λ (s : Place) (m : ℕ) le.
      map_steady
      (λ v.
      done (present v)) (settled (f (fresh t) s)) (settled (f (fresh t) (ahead m s)))
      (settled_steady (f (fresh t) s) (f (fresh t) (ahead m s)) (h (fresh t) s m le))
  present_steady f h (done absent) = stays (done absent)
  present_steady f h _ = λ (s : Place) (m : ℕ) le. tt

  module _ (c : Callees) (hc : (i : ℕ) → AreSteady (c i)) where
    row_need : (p : List ℕ) (u e : ℕ) → AreSteady (λ d s. if_some (part p d) (λ x. if_some (length_in x) (λ n. needed (n * u + e) d s)))
    row_need p u e d =
        some_steady (part p d) (λ x s. if_some (length_in x) (λ n. needed (n * u + e) d s)) (λ (x : Draft).
        some_steady (length_in x) (λ n. needed (n * u + e) d) (λ (n : ℕ). needed_steady (n * u + e) d))

    mutual
      fill_steady : (b : Recv) → AreSteady (fill c b)
      fill_steady finish d s m le = stays d s m le
      fill_steady (need n r) d s m le = then_steady (needed n d s) (needed n d (ahead m s)) (fill c r) (needed_steady n d s m le)
          (fill_steady r)
      fill_steady (need_row p u e r) d s m le =
          then_steady
          (if_some (part p d) (λ x. if_some (length_in x) (λ n. needed (n * u + e) d s))) (if_some (part p d) (λ x.
          if_some (length_in x) (λ n. needed (n * u + e) d (ahead m s)))) (fill c r) (row_need p u e d s m le) (fill_steady r)
      fill_steady (skip_any a r) d s m le =
          then_steady
          (skipped (λ o. true) a d s) (skipped (λ o. true) a d (ahead m s)) (fill c r) (skipped_steady (λ o.
          true) a d s m le) (fill_steady r)
      fill_steady (skip_zero a r) d s m le = then_steady (skipped all_zero a d s) (skipped all_zero a d (ahead m s)) (fill c r)
          (skipped_steady all_zero a d s m le) (fill_steady r)
      fill_steady (pass n gs r) d s m le =
          then_steady (all_got gs d s) (all_got gs d (ahead m s)) (λ x t. then_run (passed n x t) (fill c r)) (all_steady gs d s m le)
          (λ (x : Draft) (t : Place) (j : ℕ) near.
          then_steady (passed n x t) (passed n x (ahead j t)) (fill c r) (passed_steady n x t j near) (fill_steady r))
      fill_steady (desc p name size mul r) d s m le =
          then_steady (within p (desc_into name size mul) d s) (within p (desc_into name size mul) d (ahead m s)) (fill c r)
          (within_steady p (desc_into name size mul) (desc_steady name size mul) d s m le) (fill_steady r)
      fill_steady (row_block p o r) d s m le = then_steady (within p (row_into o) d s) (within p (row_into o) d (ahead m s)) (fill c r)
          (within_steady p (row_into o) (row_steady o) d s m le) (fill_steady r)
      fill_steady (row_wide p o r) d s m le = then_steady (within p (wide_into o) d s) (within p (wide_into o) d (ahead m s)) (fill c r)
          (within_steady p (wide_into o) (wide_steady o) d s m le) (fill_steady r)
      fill_steady (each p b r) d s m le =
          then_steady (within p (fill_each (fill c b)) d s) (within p (fill_each (fill c b)) d (ahead m s)) (fill c r)
          (within_steady p (fill_each (fill c b)) (each_steady (fill c b) (fill_steady b)) d s m le) (fill_steady r)
      fill_steady (switch p cs r) d s m le =
          then_steady (within p (fill_arm (fill_case c cs)) d s) (within p (fill_arm (fill_case c cs)) d (ahead m s)) (fill c r)
          (within_steady p (fill_arm (fill_case c cs)) (arm_steady (fill_case c cs) (case_steady cs)) d s m le) (fill_steady r)
      fill_steady (if_there p b r) d s m le =
          then_steady (within p (fill_present (fill c b)) d s) (within p (fill_present (fill c b)) d (ahead m s)) (fill c r)
          (within_steady p (fill_present (fill c b)) (present_steady (fill c b) (fill_steady b)) d s m le) (fill_steady r)
      fill_steady (call i p r) d s m le = then_steady (within p (c i) d s) (within p (c i) d (ahead m s)) (fill c r)
          (within_steady p (c i) (hc i) d s m le) (fill_steady r)

      case_steady : (cs : Cases) (n : ℤ) → AreSteady (fill_case c cs n)
      case_steady no_default n d s m le = tt
      case_steady (default b) n d s m le = fill_steady b d s m le
      case_steady (case j b cs) n d s m le = if_steady (int_eq n j) (fill c b d s) (fill c b d (ahead m s)) (fill_case c cs n d s)
          (fill_case c cs n d (ahead m s)) (fill_steady b d s m le) (case_steady cs n d s m le)

  called_steady : (subs : ℕ → Option Recv) (n i : ℕ) → AreSteady (called subs n i)
  called_steady subs zero i d s m le = tt
  called_steady subs (suc n) i d s m le =
      some_steady (subs i) (λ b. fill (called subs n) b d) (λ (b : Recv). fill_steady (called subs n) (called_steady subs n) b d) s m le

  ends_likewise : (x y : Run Val) → Likewise x y → Holds x → reported y ≡ later k (reported x)
  ends_likewise (gives v s) y h held = ap reported h.2
  ends_likewise refuses y h held = ap reported h
  ends_likewise strays y h held = absurd held

pub tests_add : TestsAdd
tests_add code t s held =
    let start = untested s.pos s.left in
    let body = fill (calls_of code.subs deepest) (code_seen code.ops) in
    let run = fill_steady s.tests (calls_of code.subs deepest) (called_steady s.tests (sub_at code.subs) deepest) (code_seen code.ops)
    (fresh t) start s.near (omega arith) in
    let from : ahead s.tests s.near start ≡ s = same s in
    ends_likewise s.tests (received code t start) (received code t s)
    (subst
    (λ (u : Place).
    Likewise s.tests (received code t start) (received code t u)) from
    (settled_steady s.tests (body (fresh t) start) (body (fresh t) (ahead s.tests s.near start)) run)) held
  where
    same : (s : Place) → ahead s.tests s.near (untested s.pos s.left) ≡ s
    same s = let none : raised s.tests 0
        ≡ s.tests = omega arith in ap (λ (n : ℕ). record { pos = s.pos; left = s.left; near = s.near; tests = n }) none
