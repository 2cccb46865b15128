-- What operations that receive give: the draft itself, or so many tests more at most.
use Rattle.std.proofs.Common.{◌≡◌, ℕ, ◌-◌, zero, suc, ◌+◌, ◌*◌, ◌≤◌, ◌/◌, ◌%◌, ◌^◌, List, [], ◌∷◌, length, take, drop, max, nat_eq, nat_lt, nat_le, Option, None, Some, Bool, true, false, ◌&&◌, if◌then◌else◌, refl, sym, ◌∙◌, subst, arith}
use Rattle.std.specs.Int.{Width, w16, w32}
use Rattle.kit_base.specs.Causes.{raised}
use Rattle.mint.specs.Types.{Array, array_type}
use Rattle.mint.specs.Blank.{least}
use Rattle.mint.specs.Kinds.{width}
use Rattle.mint.specs.Values.{row}
use Rattle.wire_def.specs.declared.head.Order.{Order}
use Rattle.wire_def.specs.Arrays.{count_of, kind_of}
use Rattle.wire_def.specs.Described.{is_marked}
use Rattle.wire_def.specs.Orders.{width_in}
use Rattle.wire_def.specs.Scalars.{gap}
use Rattle.cast_stub.specs.declared.recv.Get.{Get}
use Rattle.cast_stub.specs.Draft.{Draft, raw, lined, done, fields, Drafts, no_draft, draft, length_in}
use Rattle.cast_stub.specs.Fill.{at_field, within, part, all_got}
use Rattle.cast_stub.specs.Into.{needed, passed, skipped, count_into, desc_into, row_into, wide_into, fill_block, numbers_at, units_into, short_into, long_into, form_into, little}
use Rattle.cast_stub.specs.Runs.{Place, Run, gives, refuses, strays, Filler, then_run, map_run, if_some, if_passed}
use Rattle.cast_stub.specs.Steps.{is_width}
use Rattle.chunker.proofs.RecvMoved.{Same, count_same, all_moved}

-- what holds of what is given, if something is given
abbrev pub Gives : {A : Type 0} → Run A → (A → Place → Type 0) → Type 0
Gives (gives x s) P = P x s
Gives refuses P = Unit {0}
Gives strays P = Unit {0}

pub gives_then : {A B : Type 0} (x : Run A) (f : A → Place → Run B) (P : A → Place → Type 0) (Q : B → Place → Type 0) → Gives x P
    → ((a : A) (t : Place) → P a t → Gives (f a t) Q) → Gives (then_run x f) Q
gives_then (gives a t) f P Q h g = g a t h
gives_then refuses f P Q h g = tt
gives_then strays f P Q h g = tt

pub gives_map : {A B : Type 0} (f : A → B) (x : Run A) (P : B → Place → Type 0) → Gives x (λ a. P (f a)) → Gives (map_run f x) P
gives_map f (gives a t) P h = h
gives_map f refuses P h = tt
gives_map f strays P h = tt

pub gives_to : {A : Type 0} (x : Run A) (P Q : A → Place → Type 0) → Gives x P → ((a : A) (t : Place) → P a t → Q a t) → Gives x Q
gives_to (gives a t) P Q h g = g a t h
gives_to refuses P Q h g = tt
gives_to strays P Q h g = tt

pub gives_some : {A B : Type 0} (o : Option A) (f : A → Run B) (Q : B → Place → Type 0) → ((a : A) → o ≡ Some a → Gives (f a) Q)
    → Gives (if_some o f) Q
gives_some None f Q h = tt
gives_some (Some a) f Q h = h a refl

pub gives_passed : {A B : Type 0} (o : Option A) (f : A → Run B) (Q : B → Place → Type 0) → ((a : A) → Gives (f a) Q)
    → Gives (if_passed o f) Q
gives_passed None f Q h = tt
gives_passed (Some a) f Q h = h a

pub gives_if : {A : Type 0} (b : Bool) (x y : Run A) (Q : A → Place → Type 0) → Gives x Q → Gives y Q → Gives (if b then x else y) Q
gives_if true x y Q h g = h
gives_if false x y Q h g = g

pub both_give : {A : Type 0} (x : Run A) (P Q : A → Place → Type 0) → Gives x P → Gives x Q → Gives x (λ a t. P a t × Q a t)
both_give (gives a t) P Q h g = (h, g)
both_give refuses P Q h g = tt
both_give strays P Q h g = tt

pub gives_any : {A : Type 0} (x : Run A) (P : A → Place → Type 0) → ((a : A) (t : Place) → P a t) → Gives x P
gives_any (gives a t) P h = h a t
gives_any refuses P h = tt
gives_any strays P h = tt

pub gives_same : {A : Type 0} (s t : Place) (x y : Run A) (P : A → Place → Type 0) → Same s x t y → ((a : A) → P a s) → Gives x P
gives_same s t (gives a u) y P h g = subst (λ (v : Place). P a v) (sym h.0) (g a)
gives_same s t refuses y P h g = tt
gives_same s t strays y P h g = tt

pub needed_same : (n : ℕ) (d : Draft) (s : Place) → Gives (needed n d s) (λ x u. (x ≡ d) × (u.tests ≤ s.tests + 1))
needed_same n d s =
    gives_if (nat_lt (length s.left) n) refuses
    (gives d (record { pos = s.pos; left = s.left; near = max n s.near; tests = raised s.tests 1 }))
    (λ x u. (x ≡ d) × (u.tests ≤ s.tests + 1)) tt (refl, more)
  where
    more : raised s.tests 1 ≤ s.tests + 1
    more = omega arith

pub passed_same : (n : ℕ) (d : Draft) (s : Place) → Gives (passed n d s) (λ x u. (x ≡ d) × (u.tests ≤ s.tests + 0))
passed_same n d s =
    gives_if (nat_le n s.near) (gives d (record { pos = s.pos + n; left = drop n s.left; near = s.near - n; tests = s.tests })) strays
    (λ x u. (x ≡ d) × (u.tests ≤ s.tests + 0)) (refl, same) tt
  where
    same : s.tests ≤ s.tests + 0
    same = omega arith

pub skipped_same : (test : List ℕ → Bool) (a : ℕ) (d : Draft) (s : Place)
    → Gives (skipped test a d s) (λ x u. (x ≡ d) × (u.tests ≤ s.tests + 1))
skipped_same test a d s =
    let g : ℕ = gap s.pos a in
    let f : Draft → Place → Run Draft = λ x t. if test (take g t.left) then passed g x t else refuses in
    gives_if (is_width a) (then_run (needed g d s) f) refuses (λ x u. (x ≡ d) × (u.tests ≤ s.tests + 1))
    (gives_then (needed g d s) f (λ x u. (x ≡ d) × (u.tests ≤ s.tests + 1)) (λ x u. (x ≡ d) × (u.tests ≤ s.tests + 1)) (needed_same g d s)
    (λ (y : Draft) (t : Place) h.
    gives_if (test (take g t.left)) (passed g y t) refuses (λ x u. (x ≡ d) × (u.tests ≤ s.tests + 1))
    (gives_to (passed g y t) (λ x u. (x ≡ y) × (u.tests ≤ t.tests + 0)) (λ x u. (x ≡ d) × (u.tests ≤ s.tests + 1)) (passed_same g y t)
    (λ (x : Draft) (u : Place) k. (k.0 ∙ h.0, omega (arith, h.1, k.1)))) tt)) tt

-- a descriptor: two tests at most
pub units_up : (right : Bool) (mul many n : ℕ) (d : Draft) (s : Place)
    → Gives (units_into right mul many n d s) (λ x u. u.tests ≤ s.tests + 0)
units_up right mul many n d s =
    gives_if right (then_run (count_into mul 0 many d s) (passed n)) refuses (λ x u. u.tests ≤ s.tests + 0)
    (gives_then (count_into mul 0 many d s) (passed n) (λ x u. u.tests ≤ s.tests) (λ x u. u.tests ≤ s.tests + 0)
    (gives_same s s (count_into mul 0 many d s) _ (λ x u. u.tests ≤ s.tests) (count_same mul 0 many d s s) (λ x. all_of s.tests))
    (λ (y : Draft) (t : Place) le.
    gives_to (passed n y t) (λ x u. (x ≡ y) × (u.tests ≤ t.tests + 0)) (λ x u. u.tests ≤ s.tests + 0) (passed_same n y t)
    (λ (x : Draft) (u : Place) k. omega (arith, le, k.1)))) tt
  where
    all_of : (k : ℕ) → k ≤ k
    all_of k = omega arith

pub desc_up : (name size mul : ℕ) (d : Draft) (s : Place) → Gives (desc_into name size mul d s) (λ x u. u.tests ≤ s.tests + 2)
desc_up name size mul d s =
    gives_then (needed 4 d s) (λ x t. form_into name size mul (little w32 0 4 t.left) x t) (λ x u. (x ≡ d) × (u.tests ≤ s.tests + 1))
    (λ x u. u.tests ≤ s.tests + 2) (needed_same 4 d s) form
  where
    units : (right : Bool) (many n : ℕ) (y : Draft) (t : Place) → t.tests ≤ s.tests + 2
        → Gives (units_into right mul many n y t) (λ x u. u.tests ≤ s.tests + 2)
    units right many n y t le =
        gives_to (units_into right mul many n y t) (λ x u. u.tests ≤ t.tests + 0) (λ x u. u.tests ≤ s.tests + 2)
        (units_up right mul many n y t) (λ (x : Draft) (u : Place) k. omega (arith, le, k))

    form : (y : Draft) (t : Place) → (y ≡ d) × (t.tests ≤ s.tests + 1)
        → Gives (form_into name size mul (little w32 0 4 t.left) y t) (λ x u. u.tests ≤ s.tests + 2)
    form y t h =
        let first : ℕ = little w32 0 4 t.left in
        gives_if (is_marked first) (long_into name size mul y t)
        (if nat_eq (first / 2 ^ 28) 1 then short_into name size mul first y t else refuses) (λ x u. u.tests ≤ s.tests + 2)
        (gives_then (needed 12 y t)
        (λ x u.
        units_into (nat_eq (little w16 4 2 u.left) name && nat_eq (little w16 6 2 u.left) size) mul (little w32 8 4 u.left) 12 x u)
        (λ x u. (x ≡ y) × (u.tests ≤ t.tests + 1)) (λ x u. u.tests ≤ s.tests + 2) (needed_same 12 y t)
        (λ (x : Draft) (u : Place) k.
        units (nat_eq (little w16 4 2 u.left) name && nat_eq (little w16 6 2 u.left) size) (little w32 8 4 u.left) 12 x u
        (omega (arith, h.1, k.1))))
        (gives_if (nat_eq (first / 2 ^ 28) 1) (short_into name size mul first y t) refuses (λ x u. u.tests ≤ s.tests + 2)
        (units (nat_eq (first % 256) name && nat_eq (first / 256 % 256) size) (first / 65536 % 4096) 4 y t (omega (arith, h.1))) tt)

-- what is said of the place alone holds of a part too
pub field_up : (P : Place → Place → Type 0) (n : ℕ) (f : Filler) → ((d : Draft) (s : Place) → Gives (f d s) (λ x u. P s u)) → (ds : Drafts)
    (s : Place)
    → Gives (at_field n f ds s) (λ x u. P s u)
field_up P n f h no_draft s = tt
field_up P zero f h (draft d ds) s = gives_map (λ x. draft x ds) (f d s) (λ x u. P s u) (h d s)
field_up P (suc n) f h (draft d ds) s = gives_map (draft d) (at_field n f ds s) (λ x u. P s u) (field_up P n f h ds s)

pub within_up : (P : Place → Place → Type 0) (q : List ℕ) (f : Filler) → ((d : Draft) (s : Place) → Gives (f d s) (λ x u. P s u))
    → (d : Draft) (s : Place)
    → Gives (within q f d s) (λ x u. P s u)
within_up P [] f h d s = h d s
within_up P (n ∷ q) f h (fields ds) s =
    gives_map fields (at_field n (within q f) ds s) (λ x u. P s u) (field_up P n (within q f) (within_up P q f h) ds s)
within_up P (n ∷ q) f h _ s = tt

-- a row in one piece makes no test
pub block_by : (o : Order) (w : ℕ) (a : Array) (n : ℕ) (s : Place) → Gives (fill_block o w a n s) (λ x u. u.tests ≤ s.tests + 0)
block_by o w a n s =
    let there : Place = record { pos = s.pos + n * w; left = drop (n * w) s.left; near = s.near - n * w; tests = s.tests } in
    let same : s.tests ≤ s.tests + 0 = omega arith in
    gives_some (width_in w)
    (λ x. if nat_le (n * w) s.near then if_passed (numbers_at a o x w n s.left) (λ zs. gives (done (row (kind_of a) zs)) there) else strays)
    (λ x u. u.tests ≤ s.tests + 0)
    (λ (x : Width) is.
    gives_if (nat_le (n * w) s.near) (if_passed (numbers_at a o x w n s.left) (λ zs. gives (done (row (kind_of a) zs)) there)) strays
    (λ x u. u.tests ≤ s.tests + 0)
    (gives_passed (numbers_at a o x w n s.left) (λ zs. gives (done (row (kind_of a) zs)) there) (λ x u. u.tests ≤ s.tests + 0) (λ zs. same))
    tt)

pub row_up : (o : Order) (d : Draft) (s : Place) → Gives (row_into o d s) (λ x u. u.tests ≤ s.tests + 0)
row_up o (lined a n) = block_by o (width (kind_of a)) a n
row_up o (raw (array_type a)) = block_by o (width (kind_of a)) a (least (count_of a))
row_up o _ = λ (s : Place). tt

pub wide_up : (o : Order) (d : Draft) (s : Place) → Gives (wide_into o d s) (λ x u. u.tests ≤ s.tests + 0)
wide_up o (lined a n) = block_by o 4 a n
wide_up o (raw (array_type a)) = block_by o 4 a (least (count_of a))
wide_up o _ = λ (s : Place). tt

-- gets make no test
pub gets_up : (gs : List Get) (d : Draft) (s : Place) → Gives (all_got gs d s) (λ x u. u.tests ≤ s.tests)
gets_up gs d s =
    gives_same s s (all_got gs d s) _ (λ x u. u.tests ≤ s.tests) (all_moved gs 0 d s s (record { left = refl; near = omega arith }))
    (λ x. all_of s.tests)
  where
    all_of : (k : ℕ) → k ≤ k
    all_of k = omega arith

pub row_need_same : (p : List ℕ) (m e : ℕ) (d : Draft) (s : Place)
    → Gives (if_some (part p d) (λ x. if_some (length_in x) (λ n. needed (n * m + e) d s))) (λ x u. (x ≡ d) × (u.tests ≤ s.tests + 1))
row_need_same p m e d s =
    gives_some (part p d) (λ x. if_some (length_in x) (λ n. needed (n * m + e) d s)) (λ x u. (x ≡ d) × (u.tests ≤ s.tests + 1))
    (λ (x : Draft) is.
    gives_some (length_in x) (λ n. needed (n * m + e) d s) (λ x u. (x ≡ d) × (u.tests ≤ s.tests + 1))
    (λ (n : ℕ) here. needed_same (n * m + e) d s))
