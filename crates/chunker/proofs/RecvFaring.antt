-- Two runs from the same place, one of them after fewer tests, that end alike; and where a run ends. What is done with both.
use Rattle.std.proofs.Common.{◌≡◌, ℕ, zero, suc, ◌+◌, ◌-◌, ◌*◌, ◌≤◌, ◌/◌, ◌%◌, ◌^◌, ℤ, List, [], ◌∷◌, length, take, drop, max, nat_eq, nat_lt, nat_le, Option, None, Some, Bool, true, false, ◌&&◌, if◌then◌else◌, refl, sym, ap, subst, arith}
use Rattle.std.specs.Int.{Width, w16, w32}
use Rattle.kit_base.specs.Causes.{raised}
use Rattle.mint.specs.Blank.{least}
use Rattle.mint.specs.Kinds.{width}
use Rattle.mint.specs.Types.{Array, Ty, array_type, items_type}
use Rattle.mint.specs.Values.{Val, num_in, row, items, arm, absent, present, vals_of}
use Rattle.wire_def.specs.declared.head.Order.{Order}
use Rattle.wire_def.specs.Scalars.{gap}
use Rattle.wire_def.specs.Arrays.{count_of, kind_of}
use Rattle.wire_def.specs.Described.{is_marked}
use Rattle.wire_def.specs.Orders.{width_in}
use Rattle.cast_stub.specs.Steps.{is_width}
use Rattle.cast_stub.specs.Draft.{Draft, raw, digit, listed, lined, tagged, flagged, done, fields, Drafts, no_draft, draft, fresh, settle}
use Rattle.cast_stub.specs.Into.{needed, passed, skipped, count_into, little, units_into, short_into, long_into, form_into, desc_into, numbers_at, fill_block, row_into, wide_into}
use Rattle.cast_stub.specs.Fill.{at_field, within, settled, settled_number, runs, fill_items, fill_row, fill_each, fill_arm, fill_present}
use Rattle.cast_stub.specs.Runs.{Place, Run, gives, refuses, strays, Going, Filler, then_run, map_run, if_some, if_passed}
use Rattle.chunker.specs.RecvKept.{after_tests, EndsAs}
use Rattle.chunker.proofs.RecvMoved.{Same, count_same}

-- ---- where a run ends

-- what is given is given at such a place
abbrev pub Stands : {A : Type 0} → (ℕ → Type 0) → Run A → Type 0
Stands Q (gives x s) = Q s.pos
Stands Q refuses = Unit {0}
Stands Q strays = Unit {0}

-- from such places to such places
abbrev pub Leads : {A : Type 0} → (ℕ → Type 0) → Going A → (ℕ → Type 0) → Type 0
Leads P f Q = (s : Place) → P s.pos → Stands Q (f s)

abbrev pub AllLead : (ℕ → Type 0) → Filler → (ℕ → Type 0) → Type 0
AllLead P f Q = (d : Draft) → Leads P (f d) Q

pub stands_to : {A : Type 0} (P Q : ℕ → Type 0) (x : Run A) → ((p : ℕ) → P p → Q p) → Stands P x → Stands Q x
stands_to P Q (gives x s) f h = f s.pos h
stands_to P Q refuses f h = tt
stands_to P Q strays f h = tt

pub stands_then : {A B : Type 0} (P Q : ℕ → Type 0) (x : Run A) (f : A → Place → Run B) → Stands P x → ((a : A) → Leads P (f a) Q)
    → Stands Q (then_run x f)
stands_then P Q (gives a s) f h g = g a s h
stands_then P Q refuses f h g = tt
stands_then P Q strays f h g = tt

stands_map : {A B : Type 0} (Q : ℕ → Type 0) (f : A → B) (x : Run A) → Stands Q x → Stands Q (map_run f x)
stands_map Q f (gives a s) h = h
stands_map Q f refuses h = tt
stands_map Q f strays h = tt

pub stands_some : {A B : Type 0} (Q : ℕ → Type 0) (o : Option A) (f : A → Run B) → ((a : A) → Stands Q (f a)) → Stands Q (if_some o f)
stands_some Q None f h = tt
stands_some Q (Some a) f h = h a

stands_passed : {A B : Type 0} (Q : ℕ → Type 0) (o : Option A) (f : A → Run B) → ((a : A) → Stands Q (f a)) → Stands Q (if_passed o f)
stands_passed Q None f h = tt
stands_passed Q (Some a) f h = h a

stands_if : {A : Type 0} (Q : ℕ → Type 0) (b : Bool) (x y : Run A) → Stands Q x → Stands Q y → Stands Q (if b then x else y)
stands_if Q true x y h g = h
stands_if Q false x y h g = g

-- what a run gives where it began
pub stands_same : {A : Type 0} (Q : ℕ → Type 0) (s t : Place) (x y : Run A) → Same s x t y → Q s.pos → Stands Q x
stands_same Q s t (gives a u) y h at = subst (λ (v : Place). Q v.pos) (sym h.0) at
stands_same Q s t refuses y h at = tt
stands_same Q s t strays y h at = tt

pub needed_leads : (P : ℕ → Type 0) (n : ℕ) → AllLead P (needed n) P
needed_leads P n d s at =
    stands_if P (nat_lt (length s.left) n) refuses
    (gives d (record { pos = s.pos; left = s.left; near = max n s.near; tests = raised s.tests 1 })) tt at

pub passed_leads : (P Q : ℕ → Type 0) (n : ℕ) → ((p : ℕ) → P p → Q (p + n)) → AllLead P (passed n) Q
passed_leads P Q n f d s at =
    stands_if Q (nat_le n s.near) (gives d (record { pos = s.pos + n; left = drop n s.left; near = s.near - n; tests = s.tests })) strays
    (f s.pos at) tt

-- octets up to a multiple
pub skipped_leads : (P Q : ℕ → Type 0) (test : List ℕ → Bool) (a : ℕ) → ((p : ℕ) → is_width a ≡ true → P p → Q (p + gap p a))
    → AllLead P (skipped test a) Q
skipped_leads P Q test a f d s at = by_width (is_width a) refl where
  g : ℕ
  g = gap s.pos a

  by_width : (b : Bool) → is_width a ≡ b → Stands Q (if b then then_run (needed g d s) (λ x t. if test (take g t.left) then passed g x t
      else refuses) else refuses)
  by_width true e =
      stands_then (λ p. p ≡ s.pos) Q (needed g d s) (λ x t. if test (take g t.left) then passed g x t else refuses)
      (needed_leads (λ p. p ≡ s.pos) g d s refl)
      (λ (x : Draft) (t : Place) here.
      stands_if Q (test (take g t.left)) (passed g x t) refuses
      (passed_leads (λ p. p ≡ s.pos) Q g (λ (p : ℕ) same. subst (λ (i : ℕ). Q (i + g)) (sym same) (f s.pos e at)) x t here) tt)
  by_width false e = tt

field_leads : (P Q : ℕ → Type 0) (n : ℕ) (f : Filler) → AllLead P f Q → (ds : Drafts) → Leads P (at_field n f ds) Q
field_leads P Q n f h no_draft = λ (s : Place) at. tt
field_leads P Q zero f h (draft d ds) = λ (s : Place) at. stands_map Q (λ x. draft x ds) (f d s) (h d s at)
field_leads P Q (suc n) f h (draft d ds) = λ (s : Place) at. stands_map Q (draft d) (at_field n f ds s) (field_leads P Q n f h ds s at)

pub within_leads : (P Q : ℕ → Type 0) (p : List ℕ) (f : Filler) → AllLead P f Q → AllLead P (within p f) Q
within_leads P Q [] f h d = h d
within_leads P Q (n ∷ p) f h (fields ds) =
    λ (s : Place) at. stands_map Q fields (at_field n (within p f) ds s) (field_leads P Q n (within p f) (within_leads P Q p f h) ds s at)
within_leads P Q (n ∷ p) f h _ = λ (s : Place) at. tt

-- the numbers of a row, each in so many octets
pub block_leads : (P Q : ℕ → Type 0) (o : Order) (w : ℕ) (a : Array) (n : ℕ) → ((p : ℕ) → P p → Q (p + n * w))
    → Leads P (fill_block o w a n) Q
block_leads P Q o w a n f s at =
    stands_some Q (width_in w)
    (λ x. if nat_le (n * w) s.near then if_passed (numbers_at a o x w n s.left) (λ zs.
    gives (done (row (kind_of a) zs)) (record { pos = s.pos + n * w; left = drop (n * w) s.left; near = s.near - n * w; tests = s.tests }))
    else strays)
    (λ (x : Width).
    stands_if Q (nat_le (n * w) s.near)
    (if_passed (numbers_at a o x w n s.left) (λ zs.
    gives (done (row (kind_of a) zs)) (record { pos = s.pos + n * w; left = drop (n * w) s.left; near = s.near - n * w; tests = s.tests })))
    strays
    (stands_passed Q (numbers_at a o x w n s.left) (λ zs.
    gives (done (row (kind_of a) zs)) (record { pos = s.pos + n * w; left = drop (n * w) s.left; near = s.near - n * w; tests = s.tests }))
    (λ zs. f s.pos at)) tt)

pub wide_leads : (P Q : ℕ → Type 0) (o : Order) → ((p n : ℕ) → P p → Q (p + n * 4)) → AllLead P (wide_into o) Q
wide_leads P Q o f (lined a n) = block_leads P Q o 4 a n (λ p at. f p n at)
wide_leads P Q o f (raw (array_type a)) = block_leads P Q o 4 a (least (count_of a)) (λ p at. f p (least (count_of a)) at)
wide_leads P Q o f _ = λ (s : Place) at. tt

pub stands_settled : (Q : ℕ → Type 0) (x : Run Draft) → Stands Q x → Stands Q (settled x)
stands_settled Q (gives d s) h = stands_some Q (settle d) (λ v. gives v s) (λ v. h)
stands_settled Q refuses h = tt
stands_settled Q strays h = tt

stands_number : (Q : ℕ → Type 0) (x : Run Draft) → Stands Q x → Stands Q (settled_number x)
stands_number Q x h =
    stands_then Q Q (settled x) (λ v s. if_some (num_in v) (λ n. gives n s)) (stands_settled Q x h)
    (λ (v : Val) (s : Place) at. stands_some Q (num_in v) (λ n. gives n s) (λ n. at))

runs_lead : {A : Type 0} (P : ℕ → Type 0) (f : Going A) → Leads P f P → (n : ℕ) → Leads P (runs f n) P
runs_lead P f h zero s at = at
runs_lead {A} P f h (suc n) s at =
    stands_then P P (f s) (λ x t. map_run (λ xs. x ∷ xs) (runs f n t)) (h s at)
    (λ (x : A) (t : Place) here. stands_map P (λ xs. x ∷ xs) (runs f n t) (runs_lead P f h n t here))

items_lead : (P : ℕ → Type 0) (f : Filler) → AllLead P f P → (t : Ty) (n : ℕ) → Leads P (fill_items f t n) P
items_lead P f h t n s at =
    let one : Going Val = λ u. settled (f (fresh t) u) in
    stands_map P (λ vs. done (items (vals_of vs))) (runs one n s)
    (runs_lead P one (λ (u : Place) here. stands_settled P (f (fresh t) u) (h (fresh t) u here)) n s at)

line_leads : (P : ℕ → Type 0) (f : Filler) → AllLead P f P → (a : Array) (n : ℕ) → Leads P (fill_row f a n) P
line_leads P f h a n s at =
    let one : Going ℤ = λ u. settled_number (f (digit a) u) in
    stands_map P (λ ns. done (row (kind_of a) ns)) (runs one n s)
    (runs_lead P one (λ (u : Place) here. stands_number P (f (digit a) u) (h (digit a) u here)) n s at)

pub each_leads : (P : ℕ → Type 0) (f : Filler) → AllLead P f P → AllLead P (fill_each f) P
each_leads P f h (raw (items_type c t)) = items_lead P f h t (least c)
each_leads P f h (raw (array_type a)) = line_leads P f h a (least (count_of a))
each_leads P f h (listed t n) = items_lead P f h t n
each_leads P f h (lined a n) = line_leads P f h a n
each_leads P f h _ = λ (s : Place) at. tt

pub arm_leads : (P Q : ℕ → Type 0) (f : ℤ → Filler) → ((n : ℤ) → AllLead P (f n) Q) → AllLead P (fill_arm f) Q
arm_leads P Q f h (tagged n t) =
    λ (s : Place) at. stands_map Q (λ v. done (arm n v)) (settled (f n (fresh t) s))
    (stands_settled Q (f n (fresh t) s) (h n (fresh t) s at))
arm_leads P Q f h _ = λ (s : Place) at. tt

pub present_leads : (P Q : ℕ → Type 0) (f : Filler) → ((p : ℕ) → P p → Q p) → AllLead P f Q → AllLead P (fill_present f) Q
present_leads P Q f k h (flagged t) =
    λ (s : Place) at. stands_map Q (λ v. done (present v)) (settled (f (fresh t) s)) (stands_settled Q (f (fresh t) s) (h (fresh t) s at))
present_leads P Q f k h (done absent) = λ (s : Place) at. k s.pos at
present_leads P Q f k h _ = λ (s : Place) at. tt

-- ---- two runs

-- from such places, after no more tests, the second ends as the first
abbrev pub Fares : {A : Type 0} → (ℕ → Type 0) → Going A → Going A → Type 0
Fares P f g = (s : Place) (k : ℕ) → P s.pos → k ≤ s.tests → EndsAs (f s) (g (after_tests k s))

abbrev pub AllFare : (ℕ → Type 0) → Filler → Filler → Type 0
AllFare P f g = (d : Draft) → Fares P (f d) (g d)

-- anywhere
abbrev pub Somewhere : ℕ → Type 0
Somewhere p = Unit {0}

pub stands_somewhere : {A : Type 0} (x : Run A) → Stands Somewhere x
stands_somewhere (gives x s) = tt
stands_somewhere refuses = tt
stands_somewhere strays = tt

pub ends_then : {A B : Type 0} (Q : ℕ → Type 0) (x y : Run A) (f g : A → Place → Run B) → EndsAs x y → Stands Q x
    → ((a : A) → Fares Q (f a) (g a)) → EndsAs (then_run x f) (then_run y g)
ends_then Q (gives a s) y f g h at k = subst (λ z. EndsAs (f a s) (then_run z g)) (sym h.2) (k a s h.0 at h.1)
ends_then Q refuses y f g h at k = ap (λ z. then_run z g) h
ends_then Q strays y f g h at k = tt

ends_map : {A B : Type 0} (f : A → B) (x y : Run A) → EndsAs x y → EndsAs (map_run f x) (map_run f y)
ends_map f (gives a s) y h = (h.0, h.1, ap (map_run f) h.2)
ends_map f refuses y h = ap (map_run f) h
ends_map f strays y h = tt

ends_if : {A : Type 0} (b : Bool) (x x' y y' : Run A) → EndsAs x x' → EndsAs y y' → EndsAs (if b then x else y) (if b then x' else y')
ends_if true x x' y y' h g = h
ends_if false x x' y y' h g = g

pub ends_some : {A B : Type 0} (o : Option A) (f g : A → Run B) → ((a : A) → EndsAs (f a) (g a)) → EndsAs (if_some o f) (if_some o g)
ends_some None f g h = tt
ends_some (Some a) f g h = h a

ends_passed : {A B : Type 0} (o : Option A) (f g : A → Run B) → ((a : A) → EndsAs (f a) (g a)) → EndsAs (if_passed o f) (if_passed o g)
ends_passed None f g h = refl
ends_passed (Some a) f g h = h a

-- what looks at no octets
ends_same : {A : Type 0} (s : Place) (k : ℕ) (x y : Run A) → k ≤ s.tests → Same s x (after_tests k s) y → EndsAs x y
ends_same s k (gives a u) y le h = subst (λ (v : Place). EndsAs (gives a v) y) (sym h.0) (k, le, h.1)
ends_same s k refuses y le h = h
ends_same s k strays y le h = tt

pub needed_fares : (P : ℕ → Type 0) (n : ℕ) → AllFare P (needed n) (needed n)
needed_fares P n d s k at le =
    ends_if (nat_lt (length s.left) n) refuses refuses
    (gives d (record { pos = s.pos; left = s.left; near = max n s.near; tests = raised s.tests 1 }))
    (gives d (record { pos = s.pos; left = s.left; near = max n s.near; tests = raised k 1 })) refl (raised k 1, fewer, refl)
  where
    fewer : raised k 1 ≤ raised s.tests 1
    fewer = omega (arith, le)

passed_fares : (P : ℕ → Type 0) (n : ℕ) → AllFare P (passed n) (passed n)
passed_fares P n d s k at le =
    ends_if (nat_le n s.near) (gives d (record { pos = s.pos + n; left = drop n s.left; near = s.near - n; tests = s.tests }))
    (gives d (record { pos = s.pos + n; left = drop n s.left; near = s.near - n; tests = k })) strays strays (k, le, refl) tt

pub skipped_fares : (P : ℕ → Type 0) (test : List ℕ → Bool) (a : ℕ) → AllFare P (skipped test a) (skipped test a)
skipped_fares P test a d s k at le =
    let g : ℕ = gap s.pos a in
    let f : Draft → Place → Run Draft = λ x t. if test (take g t.left) then passed g x t else refuses in
    ends_if (is_width a) (then_run (needed g d s) f) (then_run (needed g d (after_tests k s)) f) refuses refuses
    (ends_then Somewhere (needed g d s) (needed g d (after_tests k s)) f f (needed_fares P g d s k at le) (stands_somewhere (needed g d s))
    (λ (x : Draft) (t : Place) (j : ℕ) here few.
    ends_if (test (take g t.left)) (passed g x t) (passed g x (after_tests j t)) refuses refuses
    (passed_fares Somewhere g x t j here few) refl)) refl

units_fare : (right : Bool) (mul many n : ℕ) → AllFare Somewhere (units_into right mul many n) (units_into right mul many n)
units_fare right mul many n d s k at le =
    ends_if right (then_run (count_into mul 0 many d s) (passed n)) (then_run (count_into mul 0 many d (after_tests k s)) (passed n))
    refuses refuses
    (ends_then Somewhere (count_into mul 0 many d s) (count_into mul 0 many d (after_tests k s)) (passed n) (passed n)
    (ends_same s k (count_into mul 0 many d s) (count_into mul 0 many d (after_tests k s)) le (count_same mul 0 many d s (after_tests k s)))
    (stands_somewhere (count_into mul 0 many d s)) (passed_fares Somewhere n)) refl

pub desc_fares : (P : ℕ → Type 0) (name size mul : ℕ) → AllFare P (desc_into name size mul) (desc_into name size mul)
desc_fares P name size mul d s k at le =
    ends_then Somewhere (needed 4 d s) (needed 4 d (after_tests k s)) (λ x t. form_into name size mul (little w32 0 4 t.left) x t)
    (λ x t. form_into name size mul (little w32 0 4 t.left) x t) (needed_fares P 4 d s k at le) (stands_somewhere (needed 4 d s)) form
  where
    long : (x : Draft) → Fares Somewhere (long_into name size mul x) (long_into name size mul x)
    long x t j here few =
        ends_then Somewhere (needed 12 x t) (needed 12 x (after_tests j t))
        (λ y u.
        units_into (nat_eq (little w16 4 2 u.left) name && nat_eq (little w16 6 2 u.left) size) mul (little w32 8 4 u.left) 12 y u)
        (λ y u.
        units_into (nat_eq (little w16 4 2 u.left) name && nat_eq (little w16 6 2 u.left) size) mul (little w32 8 4 u.left) 12 y u)
        (needed_fares Somewhere 12 x t j here few) (stands_somewhere (needed 12 x t))
        (λ (y : Draft) (u : Place) (i : ℕ) there less.
        units_fare (nat_eq (little w16 4 2 u.left) name && nat_eq (little w16 6 2 u.left) size) mul (little w32 8 4 u.left) 12 y u i there
        less)

    form : (x : Draft) → Fares Somewhere (λ t. form_into name size mul (little w32 0 4 t.left) x t)
        (λ t. form_into name size mul (little w32 0 4 t.left) x t)
    form x t j here few =
        let first : ℕ = little w32 0 4 t.left in
        ends_if (is_marked first) (long_into name size mul x t) (long_into name size mul x (after_tests j t))
        (if nat_eq (first / 2 ^ 28) 1 then short_into name size mul first x t else refuses)
        (if nat_eq (first / 2 ^ 28) 1 then short_into name size mul first x (after_tests j t) else refuses) (long x t j here few)
        (ends_if (nat_eq (first / 2 ^ 28) 1) (short_into name size mul first x t) (short_into name size mul first x (after_tests j t))
        refuses refuses
        (units_fare (nat_eq (first % 256) name && nat_eq (first / 256 % 256) size) mul (first / 65536 % 4096) 4 x t j here few) refl)

block_fares : (P : ℕ → Type 0) (o : Order) (w : ℕ) (a : Array) (n : ℕ) → Fares P (fill_block o w a n) (fill_block o w a n)
block_fares P o w a n s k at le =
    ends_some (width_in w) (λ x. block x s.tests) (λ x. block x k)
    (λ (x : Width).
    ends_if (nat_le (n * w) s.near) (read x s.tests) (read x k) strays strays
    (ends_passed (numbers_at a o x w n s.left) (λ zs. gives (done (row (kind_of a) zs)) (there s.tests))
    (λ zs. gives (done (row (kind_of a) zs)) (there k)) (λ zs. (k, le, refl))) tt)
  where
    there : ℕ → Place
    there i = record { pos = s.pos + n * w; left = drop (n * w) s.left; near = s.near - n * w; tests = i }

    read : Width → ℕ → Run Draft
    read x i = if_passed (numbers_at a o x w n s.left) (λ zs. gives (done (row (kind_of a) zs)) (there i))

    block : Width → ℕ → Run Draft
    block x i = if nat_le (n * w) s.near then read x i else strays

pub row_fares : (P : ℕ → Type 0) (o : Order) → AllFare P (row_into o) (row_into o)
row_fares P o (lined a n) = block_fares P o (width (kind_of a)) a n
row_fares P o (raw (array_type a)) = block_fares P o (width (kind_of a)) a (least (count_of a))
row_fares P o _ = λ (s : Place) (k : ℕ) at le. tt

pub wide_fares : (P : ℕ → Type 0) (o : Order) → AllFare P (wide_into o) (wide_into o)
wide_fares P o (lined a n) = block_fares P o 4 a n
wide_fares P o (raw (array_type a)) = block_fares P o 4 a (least (count_of a))
wide_fares P o _ = λ (s : Place) (k : ℕ) at le. tt

field_fares : (P : ℕ → Type 0) (n : ℕ) (f g : Filler) → AllFare P f g → (ds : Drafts) → Fares P (at_field n f ds) (at_field n g ds)
field_fares P n f g h no_draft = λ (s : Place) (k : ℕ) at le. tt
field_fares P zero f g h (draft d ds) =
    λ (s : Place) (k : ℕ) at le. ends_map (λ x. draft x ds) (f d s) (g d (after_tests k s)) (h d s k at le)
field_fares P (suc n) f g h (draft d ds) =
    λ (s : Place) (k : ℕ) at le.
    ends_map (draft d) (at_field n f ds s) (at_field n g ds (after_tests k s)) (field_fares P n f g h ds s k at le)

pub within_fares : (P : ℕ → Type 0) (p : List ℕ) (f g : Filler) → AllFare P f g → AllFare P (within p f) (within p g)
within_fares P [] f g h d = h d
within_fares P (n ∷ p) f g h (fields ds) =
    λ (s : Place) (k : ℕ) at le.
    ends_map fields (at_field n (within p f) ds s) (at_field n (within p g) ds (after_tests k s))
    (field_fares P n (within p f) (within p g) (within_fares P p f g h) ds s k at le)
within_fares P (n ∷ p) f g h _ = λ (s : Place) (k : ℕ) at le. tt

pub ends_settled : (x y : Run Draft) → EndsAs x y → EndsAs (settled x) (settled y)
ends_settled (gives d s) y h =
    subst (λ z. EndsAs (settled (gives d s)) (settled z)) (sym h.2)
    (ends_some (settle d) (λ v. gives v s) (λ v. gives v (after_tests h.0 s)) (λ (v : Val). (h.0, h.1, refl)))
ends_settled refuses y h = ap settled h
ends_settled strays y h = tt

ends_number : (x y : Run Draft) → EndsAs x y → EndsAs (settled_number x) (settled_number y)
ends_number x y h =
    ends_then Somewhere (settled x) (settled y) (λ v s. if_some (num_in v) (λ n. gives n s)) (λ v s. if_some (num_in v) (λ n. gives n s))
    (ends_settled x y h) (stands_somewhere (settled x))
    (λ (v : Val) (s : Place) (k : ℕ) at le.
    ends_some (num_in v) (λ n. gives n s) (λ n. gives n (after_tests k s)) (λ (n : ℤ). (k, le, refl)))

runs_fare : {A : Type 0} (P : ℕ → Type 0) (f g : Going A) → Fares P f g → Leads P f P → (n : ℕ) → Fares P (runs f n) (runs g n)
runs_fare P f g h l zero s k at le = (k, le, refl)
runs_fare {A} P f g h l (suc n) s k at le =
    ends_then P (f s) (g (after_tests k s)) (λ x t. map_run (λ xs. x ∷ xs) (runs f n t)) (λ x t. map_run (λ xs. x ∷ xs) (runs g n t))
    (h s k at le) (l s at)
    (λ (x : A) (t : Place) (j : ℕ) here few.
    ends_map (λ xs. x ∷ xs) (runs f n t) (runs g n (after_tests j t)) (runs_fare P f g h l n t j here few))

items_fare : (P : ℕ → Type 0) (f g : Filler) → AllFare P f g → AllLead P f P → (t : Ty) (n : ℕ)
    → Fares P (fill_items f t n) (fill_items g t n)
items_fare P f g h l t n s k at le =
    let one : Going Val = λ u. settled (f (fresh t) u) in
    let two : Going Val = λ u. settled (g (fresh t) u) in
    ends_map (λ vs. done (items (vals_of vs))) (runs one n s) (runs two n (after_tests k s))
    (runs_fare P one two
    (λ (u : Place) (j : ℕ) here few. ends_settled (f (fresh t) u) (g (fresh t) (after_tests j u)) (h (fresh t) u j here few))
    (λ (u : Place) here. stands_settled P (f (fresh t) u) (l (fresh t) u here)) n s k at le)

line_fares : (P : ℕ → Type 0) (f g : Filler) → AllFare P f g → AllLead P f P → (a : Array) (n : ℕ)
    → Fares P (fill_row f a n) (fill_row g a n)
line_fares P f g h l a n s k at le =
    let one : Going ℤ = λ u. settled_number (f (digit a) u) in
    let two : Going ℤ = λ u. settled_number (g (digit a) u) in
    ends_map (λ ns. done (row (kind_of a) ns)) (runs one n s) (runs two n (after_tests k s))
    (runs_fare P one two
    (λ (u : Place) (j : ℕ) here few. ends_number (f (digit a) u) (g (digit a) (after_tests j u)) (h (digit a) u j here few))
    (λ (u : Place) here. stands_number P (f (digit a) u) (l (digit a) u here)) n s k at le)

pub each_fares : (P : ℕ → Type 0) (f g : Filler) → AllFare P f g → AllLead P f P → AllFare P (fill_each f) (fill_each g)
each_fares P f g h l (raw (items_type c t)) = items_fare P f g h l t (least c)
each_fares P f g h l (raw (array_type a)) = line_fares P f g h l a (least (count_of a))
each_fares P f g h l (listed t n) = items_fare P f g h l t n
each_fares P f g h l (lined a n) = line_fares P f g h l a n
each_fares P f g h l _ = λ (s : Place) (k : ℕ) at le. tt

pub arm_fares : (P : ℕ → Type 0) (f g : ℤ → Filler) → ((n : ℤ) → AllFare P (f n) (g n)) → AllFare P (fill_arm f) (fill_arm g)
arm_fares P f g h (tagged n t) =
    λ (s : Place) (k : ℕ) at le.
    ends_map (λ v. done (arm n v)) (settled (f n (fresh t) s)) (settled (g n (fresh t) (after_tests k s)))
    (ends_settled (f n (fresh t) s) (g n (fresh t) (after_tests k s)) (h n (fresh t) s k at le))
arm_fares P f g h _ = λ (s : Place) (k : ℕ) at le. tt

pub present_fares : (P : ℕ → Type 0) (f g : Filler) → AllFare P f g → AllFare P (fill_present f) (fill_present g)
present_fares P f g h (flagged t) =
    λ (s : Place) (k : ℕ) at le.
    ends_map (λ v. done (present v)) (settled (f (fresh t) s)) (settled (g (fresh t) (after_tests k s)))
    (ends_settled (f (fresh t) s) (g (fresh t) (after_tests k s)) (h (fresh t) s k at le))
present_fares P f g h (done absent) = λ (s : Place) (k : ℕ) at le. (k, le, refl)
present_fares P f g h _ = λ (s : Place) (k : ℕ) at le. tt
