-- How often was tested before changes neither what operations give nor where they end.
use Rattle.std.proofs.Common.{ℕ, zero, suc, ◌+◌, ℤ, List, [], ◌∷◌, length, take, drop, Option, None, Some, refl, sym, ap, subst, Bool, true, false, if◌then◌else◌}
use Rattle.std.specs.Prelude.{nat_eq, nat_le, nat_lt, ◌&&◌, ◌/◌, ◌%◌, ◌^◌}
use Rattle.std.specs.Int.{Width, w16, w32}
use Rattle.kit_base.specs.Causes.{raised}
use Rattle.mint.specs.declared.kind.Count.{Count}
use Rattle.mint.specs.Types.{Scalar, number, scalar_type, array_type, items_type, choice_type, maybe_type}
use Rattle.mint.specs.Typed.{is_scalar}
use Rattle.mint.specs.Values.{Val, num, num_in}
use Rattle.wire_def.specs.declared.head.Order.{Order}
use Rattle.wire_def.specs.Scalars.{gap, is_signed, number_of}
use Rattle.wire_def.specs.Send.{flag}
use Rattle.wire_def.specs.Arrays.{count_of, kind_of}
use Rattle.wire_def.specs.Described.{is_marked}
use Rattle.wire_def.specs.Orders.{width_in, loaded}
use Rattle.cast_stub.specs.declared.recv.Get.{Get}
use Rattle.cast_stub.specs.declared.recv.Get.TheVariants as get
use Rattle.cast_stub.specs.Steps.{is_width}
use Rattle.cast_stub.specs.Draft.{Draft, raw, digit, listed, lined, done, fields, Drafts, no_draft, draft, settle}
use Rattle.cast_stub.specs.Into.{needed, passed, skipped, is_digit, scalar_into, num_into, arm_draft, tag_into, flag_draft, flag_into, length_of, allows, length_into, count_into, same_octets, little, units_into, short_into, long_into, form_into, desc_into}
use Rattle.cast_stub.specs.Fill.{at_field, within, into, word_got, got, all_got, settled, settled_number, runs}
use Rattle.cast_stub.specs.Runs.{Place, Run, gives, refuses, strays, Going, Filler, then_run, map_run, if_some, if_passed}
use Rattle.copy_inline.specs.RecvRows.{EndsAlike}

-- the same place, after so many tests
abbrev pub timed : ℕ → Place → Place
timed m s = record { pos = s.pos; left = s.left; near = s.near; tests = m }

-- two ways from a place, of which the second does likewise after any number of tests
abbrev pub Pairs : {A : Type 0} → Going A → Going A → Type 0
Pairs f g = (s : Place) (m : ℕ) → EndsAlike (f s) (g (timed m s))

abbrev pub Even : {A : Type 0} → Going A → Type 0
Even f = Pairs f f

abbrev pub AreEven : Filler → Type 0
AreEven f = (d : Draft) → Even (f d)

pub given : {A : Type 0} (x : A) → Even (gives x)
given x s m = (m, refl)

pub then_alike : {A B : Type 0} (x y : Run A) (f g : A → Place → Run B) → EndsAlike x y → ((a : A) → Pairs (f a) (g a))
    → EndsAlike (then_run x f) (then_run y g)
then_alike (gives a s) y f g h go = subst (λ z. EndsAlike (f a s) (then_run z g)) (sym h.1) (go a s h.0)
then_alike refuses y f g h go = ap (λ z. then_run z g) h
then_alike strays y f g h go = tt

pub map_alike : {A B : Type 0} (h : A → B) (x y : Run A) → EndsAlike x y → EndsAlike (map_run h x) (map_run h y)
map_alike h (gives a s) y e = (e.0, ap (map_run h) e.1)
map_alike h refuses y e = ap (map_run h) e
map_alike h strays y e = tt

pub if_alike : {A : Type 0} (b : Bool) (x x' y y' : Run A) → EndsAlike x x' → EndsAlike y y'
    → EndsAlike (if b then x else y) (if b then x' else y')
if_alike true x x' y y' h g = h
if_alike false x x' y y' h g = g

some_even : {A B : Type 0} (o : Option A) (f : A → Place → Run B) → ((a : A) → Even (f a)) → (s : Place) (m : ℕ)
    → EndsAlike (if_some o (λ a. f a s)) (if_some o (λ a. f a (timed m s)))
some_even None f h s m = tt
some_even (Some a) f h s m = h a s m

passed_some : {A B : Type 0} (o : Option A) (f : A → Place → Run B) → ((a : A) → Even (f a)) → (s : Place) (m : ℕ)
    → EndsAlike (if_passed o (λ a. f a s)) (if_passed o (λ a. f a (timed m s)))
passed_some None f h s m = refl
passed_some (Some a) f h s m = h a s m

pub needed_even : (n : ℕ) → AreEven (needed n)
needed_even n d s m = if_alike (nat_lt (length s.left) n) refuses refuses _ _ refl (raised m 1, refl)

pub passed_even : (n : ℕ) → AreEven (passed n)
passed_even n d s m = if_alike (nat_le n s.near) _ _ strays strays (m, refl) tt

pub skipped_even : (test : List ℕ → Bool) (a : ℕ) → AreEven (skipped test a)
skipped_even test a d s m =
    let f : Draft → Place → Run Draft = λ d t. if test (take (gap s.pos a) t.left) then passed (gap s.pos a) d t else refuses in
    let over : (x : Draft) → Pairs (f x) (f x) = λ (x : Draft) (t : Place) (j : ℕ). if_alike (test (take (gap s.pos a) t.left))
    (passed (gap s.pos a) x t) (passed (gap s.pos a) x (timed j t)) refuses refuses (passed_even (gap s.pos a) x t j) refl in
    if_alike (is_width a) (then_run (needed (gap s.pos a) d s) f) (then_run (needed (gap s.pos a) d (timed m s)) f) refuses refuses
    (then_alike (needed (gap s.pos a) d s) (needed (gap s.pos a) d (timed m s)) f f (needed_even (gap s.pos a) d s m) over) refl

-- ---- numbers

scalar_even : (t : Scalar) (f : ℤ → Option Draft) (x : Width) (n : ℕ) → Even (scalar_into t f x n)
scalar_even t f x n s m =
    let z : ℤ = number_of (is_signed t) x n in
    if_alike (is_scalar t z) (if_passed (f z) (λ d. gives d s)) (if_passed (f z) (λ d. gives d (timed m s))) refuses refuses
    (passed_some (f z) (λ d. gives d) given s m) refl

num_even : (x : Width) (n : ℕ) → AreEven (num_into x n)
num_even x n (raw (scalar_type t)) = scalar_even t (λ z. Some (done (num z))) x n
num_even x n (digit a) = λ (s : Place) (m : ℕ).
    let z : ℤ = number_of (is_signed (number (kind_of a))) x n in
    if_alike (is_digit a z) (gives (done (num z)) s) (gives (done (num z)) (timed m s)) refuses refuses (m, refl) refl
num_even x n _ = λ (s : Place) (m : ℕ). tt

tag_even : (x : Width) (n : ℕ) → AreEven (tag_into x n)
tag_even x n (raw (choice_type t arms)) = scalar_even t (arm_draft arms) x n
tag_even x n _ = λ (s : Place) (m : ℕ). tt

flag_even : (x : Width) (n : ℕ) → AreEven (flag_into x n)
flag_even x n (raw (maybe_type t)) = scalar_even flag (flag_draft t) x n
flag_even x n _ = λ (s : Place) (m : ℕ). tt

length_even : (c : Count) (f : ℕ → Draft) (mul add n : ℕ) → Even (length_into c f mul add n)
length_even c f mul add n s m =
    passed_some (length_of mul add n) (λ l u. if allows c l then gives (f l) u else refuses)
    (λ (l : ℕ) (u : Place) (j : ℕ). if_alike (allows c l) (gives (f l) u) (gives (f l) (timed j u)) refuses refuses (j, refl) refl) s m

count_even : (mul add n : ℕ) → AreEven (count_into mul add n)
count_even mul add n (raw (items_type c t)) = length_even c (listed t) mul add n
count_even mul add n (raw (array_type a)) = length_even (count_of a) (lined a) mul add n
count_even mul add n _ = λ (s : Place) (m : ℕ). tt

-- ---- descriptors

units_even : (right : Bool) (mul many n : ℕ) → AreEven (units_into right mul many n)
units_even right mul many n d s m =
    if_alike right (then_run (count_into mul 0 many d s) (passed n)) (then_run (count_into mul 0 many d (timed m s)) (passed n)) refuses
    refuses
    (then_alike (count_into mul 0 many d s) (count_into mul 0 many d (timed m s)) (passed n) (passed n) (count_even mul 0 many d s m)
    (passed_even n)) refl

pub desc_even : (name size mul : ℕ) → AreEven (desc_into name size mul)
desc_even name size mul d s m = then_alike (needed 4 d s) (needed 4 d (timed m s)) _
    (λ x t. form_into name size mul (little w32 0 4 t.left) x t) (needed_even 4 d s m) form where
      long : AreEven (long_into name size mul)
      long x t j =
          then_alike (needed 12 x t) (needed 12 x (timed j t)) _
          (λ y u. units_into (nat_eq (little w16 4 2 u.left) name && nat_eq (little w16 6 2 u.left) size) mul (little w32 8 4 u.left) 12 y
          u)
          (needed_even 12 x t j) (λ (y : Draft) (u : Place) (i : ℕ). units_even
          (nat_eq (little w16 4 2 u.left) name && nat_eq (little w16 6 2 u.left) size) mul (little w32 8 4 u.left) 12 y u i)

      form : (x : Draft) → Even (λ t. form_into name size mul (little w32 0 4 t.left) x t)
      form x t j =
          let first : ℕ = little w32 0 4 t.left in
          if_alike (is_marked first) (long_into name size mul x t) (long_into name size mul x (timed j t))
          (if nat_eq (first / 2 ^ 28) 1 then short_into name size mul first x t else refuses)
          (if nat_eq (first / 2 ^ 28) 1 then short_into name size mul first x (timed j t) else refuses)
          (long x t j)
          (if_alike (nat_eq (first / 2 ^ 28) 1) (short_into name size mul first x t) (short_into name size mul first x (timed j t)) refuses
          refuses
          (units_even (nat_eq (first % 256) name && nat_eq (first / 256 % 256) size) mul (first / 65536 % 4096) 4 x t j) refl)

-- ---- parts and gets

field_even : (n : ℕ) (f : Filler) → AreEven f → (ds : Drafts) → Even (at_field n f ds)
field_even n f h no_draft = λ (s : Place) (m : ℕ). tt
field_even zero f h (draft d ds) = λ (s : Place) (m : ℕ). map_alike (λ x. draft x ds) (f d s) (f d (timed m s)) (h d s m)
field_even (suc n) f h (draft d ds) =
    λ (s : Place) (m : ℕ). map_alike (draft d) (at_field n f ds s) (at_field n f ds (timed m s)) (field_even n f h ds s m)

pub within_even : (p : List ℕ) (f : Filler) → AreEven f → AreEven (within p f)
within_even [] f h d = h d
within_even (n ∷ p) f h (fields ds) = λ (s : Place) (m : ℕ). map_alike fields (at_field n (within p f) ds s)
    (at_field n (within p f) ds (timed m s)) (field_even n (within p f) (within_even p f h) ds s m)
within_even (n ∷ p) f h _ = λ (s : Place) (m : ℕ). tt

into_even : (g : Get) (x : Width) (n : ℕ) → AreEven (into g x n)
into_even (get.Num off p w o) x n = num_even x n
into_even (get.Tag off p w o) x n = tag_even x n
into_even (get.Flag off p w o) x n = flag_even x n
into_even (get.Count off p mul add w o) x n = count_even mul add n
into_even (get.Const off os) x n = λ (d : Draft) (s : Place) (m : ℕ). tt

word_even : (g : Get) (off : ℕ) (p : List ℕ) (w : ℕ) (o : Order) → AreEven (word_got g off p w o)
word_even g off p w o d s m =
    passed_some (width_in w)
    (λ x u. if nat_le (off + w) u.near then within p (into g x (loaded o x (take w (drop off u.left)))) d u else strays)
    (λ (x : Width) (u : Place) (j : ℕ). if_alike (nat_le (off + w) u.near) (within p (into g x (loaded o x (take w (drop off u.left)))) d u)
    (within p (into g x (loaded o x (take w (drop off u.left)))) d (timed j u)) strays strays
    (within_even p (into g x (loaded o x (take w (drop off u.left)))) (into_even g x (loaded o x (take w (drop off u.left)))) d u j) tt) s m

got_even : (g : Get) → AreEven (got g)
got_even (get.Num off p w o) = word_even (get.Num off p w o) off p w o
got_even (get.Tag off p w o) = word_even (get.Tag off p w o) off p w o
got_even (get.Flag off p w o) = word_even (get.Flag off p w o) off p w o
got_even (get.Count off p mul add w o) = word_even (get.Count off p mul add w o) off p w o
got_even (get.Const off os) = λ (d : Draft) (s : Place) (m : ℕ).
    if_alike (nat_le (off + length os) s.near) (if same_octets os (take (length os) (drop off s.left)) then gives d s else refuses)
    (if same_octets os (take (length os) (drop off s.left)) then gives d (timed m s) else refuses) strays strays
    (if_alike (same_octets os (take (length os) (drop off s.left))) (gives d s) (gives d (timed m s)) refuses refuses (m, refl) refl) tt

pub all_even : (gs : List Get) → AreEven (all_got gs)
all_even [] = given
all_even (g ∷ gs) = λ (d : Draft) (s : Place) (m : ℕ). then_alike (got g d s) (got g d (timed m s)) (all_got gs) (all_got gs)
    (got_even g d s m) (all_even gs)

-- ---- what was filled

pub settled_alike : (x y : Run Draft) → EndsAlike x y → EndsAlike (settled x) (settled y)
settled_alike (gives d s) y h =
    subst (λ z. EndsAlike (settled (gives d s)) (settled z)) (sym h.1) (some_even (settle d) (λ v. gives v) given s h.0)
settled_alike refuses y h = ap settled h
settled_alike strays y h = tt

pub number_alike : (x y : Run Draft) → EndsAlike x y → EndsAlike (settled_number x) (settled_number y)
number_alike x y h = then_alike (settled x) (settled y) _ (λ v s. if_some (num_in v) (λ n. gives n s)) (settled_alike x y h)
    (λ (v : Val). some_even (num_in v) (λ n. gives n) given)

pub runs_alike : {A : Type 0} (f g : Going A) → Pairs f g → (n : ℕ) → Pairs (runs f n) (runs g n)
runs_alike f g h zero = given []
runs_alike {A} f g h (suc n) = λ (s : Place) (m : ℕ).
    then_alike (f s) (g (timed m s)) (λ x t. map_run (λ xs. x ∷ xs) (runs f n t)) (λ x t. map_run (λ xs. x ∷ xs) (runs g n t)) (h s m)
    (λ (x : A) (t : Place) (j : ℕ). map_alike (λ xs. x ∷ xs) (runs f n t) (runs g n (timed j t)) (runs_alike f g h n t j))
