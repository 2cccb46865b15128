-- Drafts of types, and operations that keep their types.
use Rattle.std.proofs.Common.{◌≡◌, ℕ, zero, suc, ◌+◌, ℤ, pos, negsuc, List, [], ◌∷◌, length, take, drop, Option, None, Some, option_map, refl, ap, ◌∙◌, Bool, true, false, if◌then◌else◌}
use Rattle.std.specs.Prelude.{nat_eq, nat_le, nat_lt, ◌&&◌, ◌/◌, ◌%◌, ◌^◌}
use Rattle.std.specs.Int.{Width, w16, w32}
use Rattle.mint.specs.declared.kind.Count.{Count}
use Rattle.mint.specs.Types.{Scalar, Ty, scalar_type, array_type, group_type, items_type, choice_type, maybe_type, Tys, no_fields, field, Arms}
use Rattle.mint.specs.Typed.{is_scalar}
use Rattle.mint.specs.Values.{num}
use Rattle.wire_def.specs.declared.head.Order.{Order}
use Rattle.wire_def.specs.Scalars.{gap, is_signed, number_of}
use Rattle.wire_def.specs.Send.{flag}
use Rattle.wire_def.specs.Arrays.{count_of}
use Rattle.wire_def.specs.Described.{is_marked}
use Rattle.wire_def.specs.Orders.{width_in, loaded}
use Rattle.cast_stub.specs.declared.recv.Get.{Get}
use Rattle.cast_stub.specs.declared.recv.Get.TheVariants as get
use Rattle.cast_stub.specs.Steps.{is_width}
use Rattle.cast_stub.specs.Parts.{on_some}
use Rattle.cast_stub.specs.PartTypes.{field_type, in_group_type, ty_at}
use Rattle.cast_stub.specs.Draft.{Draft, raw, digit, listed, lined, tagged, flagged, done, fields, Drafts, no_draft, draft, fresh, all_fresh, type_of_arm}
use Rattle.cast_stub.specs.Into.{needed, passed, skipped, num_into, arm_draft, tag_into, flag_draft, flag_into, length_of, allows, count_into, same_octets, little, units_into, short_into, long_into, form_into, desc_into}
use Rattle.cast_stub.specs.Fill.{at_field, within, into, word_got, got, all_got}
use Rattle.cast_stub.specs.Runs.{Place, Run, gives, refuses, strays, Filler, then_run, map_run, if_passed}

abbrev mutual
  -- what a value of a type may be filled from
  pub IsDraft : Ty → Draft → Type 0
  IsDraft t (raw u) = t ≡ u
  IsDraft t (digit a) = ⊥
  IsDraft t (listed u n) = (c : Count) × (t ≡ items_type c u)
  IsDraft t (lined a n) = t ≡ array_type a
  IsDraft t (tagged n u) = (s : Scalar) × (arms : Arms) × (t ≡ choice_type s arms) × (type_of_arm arms n ≡ Some u)
  IsDraft t (flagged u) = t ≡ maybe_type u
  IsDraft t (done v) = Unit {0}
  IsDraft t (fields ds) = (ts : Tys) × (t ≡ group_type ts) × AreDrafts ts ds

  pub AreDrafts : Tys → Drafts → Type 0
  AreDrafts no_fields no_draft = Unit {0}
  AreDrafts (field t ts) (draft d ds) = IsDraft t d × AreDrafts ts ds
  AreDrafts _ _ = ⊥

mutual
  pub fresh_is : (t : Ty) → IsDraft t (fresh t)
  fresh_is (group_type ts) = (ts, refl, all_fresh_are ts)
  fresh_is _ = refl

  all_fresh_are : (ts : Tys) → AreDrafts ts (all_fresh ts)
  all_fresh_are no_fields = tt
  all_fresh_are (field t ts) = (fresh_is t, all_fresh_are ts)

-- a fact of what a run gives
abbrev pub Gives : {A : Type 0} → (A → Type 0) → Run A → Type 0
Gives P (gives a s) = P a
Gives P refuses = Unit {0}
Gives P strays = Unit {0}

pub then_gives : {A B : Type 0} (P : A → Type 0) (Q : B → Type 0) (x : Run A) (f : A → Place → Run B) → Gives P x
    → ((a : A) (t : Place) → P a → Gives Q (f a t))
    → Gives Q (then_run x f)
then_gives P Q (gives a s) f h go = go a s h
then_gives P Q refuses f h go = tt
then_gives P Q strays f h go = tt

pub map_gives : {A B : Type 0} (P : A → Type 0) (Q : B → Type 0) (f : A → B) (x : Run A) → Gives P x → ((a : A) → P a → Q (f a))
    → Gives Q (map_run f x)
map_gives P Q f (gives a s) h go = go a h
map_gives P Q f refuses h go = tt
map_gives P Q f strays h go = tt

if_gives : {A : Type 0} (P : A → Type 0) (b : Bool) (x y : Run A) → Gives P x → Gives P y → Gives P (if b then x else y)
if_gives P true x y h k = h
if_gives P false x y h k = k

module _ (P : Draft → Type 0) (d : Draft) (h : P d) where
  pub needed_gives : (n : ℕ) (s : Place) → Gives P (needed n d s)
  needed_gives n s = if_gives P (nat_lt (length s.left) n) refuses _ tt h

  pub passed_gives : (n : ℕ) (s : Place) → Gives P (passed n d s)
  passed_gives n s = if_gives P (nat_le n s.near) _ strays h tt

pub skipped_gives : (P : Draft → Type 0) (test : List ℕ → Bool) (a : ℕ) (d : Draft) (s : Place) → P d → Gives P (skipped test a d s)
skipped_gives P test a d s h =
    if_gives P (is_width a) (then_run (needed (gap s.pos a) d s) _) refuses
    (then_gives P P (needed (gap s.pos a) d s) (λ d t. if test (take (gap s.pos a) t.left) then passed (gap s.pos a) d t else refuses)
    (needed_gives P d h (gap s.pos a) s)
    (λ x t k. if_gives P (test (take (gap s.pos a) t.left)) (passed (gap s.pos a) x t) refuses (passed_gives P x k (gap s.pos a) t) tt)) tt

-- a filler that keeps the type
abbrev pub Keeps : Ty → Filler → Type 0
Keeps t f = (d : Draft) (s : Place) → IsDraft t d → Gives (IsDraft t) (f d s)

-- ---- parts

field_keeps : (n : ℕ) (ts : Tys) (ds : Drafts) (f : Filler) (s : Place) → ((w : Ty) → field_type n ts ≡ Some w → Keeps w f)
    → AreDrafts ts ds
    → Gives (AreDrafts ts) (at_field n f ds s)
field_keeps n no_fields no_draft f s go h = tt
field_keeps zero (field t ts) (draft d ds) f s go h =
    map_gives (IsDraft t) (AreDrafts (field t ts)) (λ x. draft x ds) (f d s) (go t refl d s h.0) (λ x k. (k, h.1))
field_keeps (suc n) (field t ts) (draft d ds) f s go h =
    map_gives (AreDrafts ts) (AreDrafts (field t ts)) (draft d) (at_field n f ds s) (field_keeps n ts ds f s go h.1) (λ x k. (h.0, k))
field_keeps n no_fields (draft d ds) f s go h = absurd h
field_keeps n (field t ts) no_draft f s go h = absurd h

pub within_keeps : (p : List ℕ) (t : Ty) (f : Filler) → ((u : Ty) → ty_at p t ≡ Some u → Keeps u f) → Keeps t (within p f)
within_keeps [] t f go d s h = go t refl d s h
within_keeps (n ∷ p) t f go (fields ds) s h =
    let step : (w : Ty) → field_type n h.0 ≡ Some w → Keeps w (within p f) =
    λ w e. within_keeps p w f
    (λ u is. go u (ap (λ (x : Ty). on_some (in_group_type n x) (ty_at p)) h.1 ∙ ap (λ (x : Option Ty). on_some x (ty_at p)) e ∙ is)) in
    map_gives (AreDrafts h.0) (IsDraft t) fields (at_field n (within p f) ds s) (field_keeps n h.0 ds (within p f) s step h.2)
    (λ x k. (h.0, h.1, k))
within_keeps (n ∷ p) t f go _ s h = tt

-- ---- numbers

num_keeps : (t : Ty) (x : Width) (n : ℕ) → Keeps t (num_into x n)
num_keeps t x n (raw (scalar_type u)) s h =
    if_gives (IsDraft t) (is_scalar u (number_of (is_signed u) x n)) (gives (done (num (number_of (is_signed u) x n))) s) refuses tt tt
num_keeps t x n (digit a) s h = absurd h
num_keeps t x n _ s h = tt

tag_keeps : (t : Ty) (x : Width) (n : ℕ) → Keeps t (tag_into x n)
tag_keeps t x n (raw (choice_type u arms)) s h =
    let z : ℤ = number_of (is_signed u) x n in
    if_gives (IsDraft t) (is_scalar u z) (if_passed (arm_draft arms z) (λ d. gives d s)) refuses (arm (type_of_arm arms z) refl) tt where
      arm : (y : Option Ty) → type_of_arm arms (number_of (is_signed u) x n) ≡ y
          → Gives (IsDraft t) (if_passed (option_map (tagged (number_of (is_signed u) x n)) y) (λ d. gives d s))
      arm None e = tt
      arm (Some w) e = (u, arms, h, e)
tag_keeps t x n _ s h = tt

flag_given : (t u : Ty) (z : ℤ) (s : Place) → t ≡ maybe_type u → Gives (IsDraft t) (if_passed (flag_draft u z) (λ d. gives d s))
flag_given t u (pos zero) s h = tt
flag_given t u (pos (suc n)) s h = h
flag_given t u (negsuc n) s h = h

flag_keeps : (t : Ty) (x : Width) (n : ℕ) → Keeps t (flag_into x n)
flag_keeps t x n (raw (maybe_type u)) s h =
    if_gives (IsDraft t) (is_scalar flag (number_of (is_signed flag) x n))
    (if_passed (flag_draft u (number_of (is_signed flag) x n)) (λ d. gives d s)) refuses
    (flag_given t u (number_of (is_signed flag) x n) s h) tt
flag_keeps t x n _ s h = tt

length_gives : (P : Draft → Type 0) (c : Count) (f : ℕ → Draft) (s : Place) (y : Option ℕ) → ((n : ℕ) → P (f n))
    → Gives P (if_passed y (λ n. if allows c n then gives (f n) s else refuses))
length_gives P c f s None go = tt
length_gives P c f s (Some n) go = if_gives P (allows c n) (gives (f n) s) refuses (go n) tt

count_keeps : (t : Ty) (mul add n : ℕ) → Keeps t (count_into mul add n)
count_keeps t mul add n (raw (items_type c u)) s h = length_gives (IsDraft t) c (listed u) s (length_of mul add n) (λ k. (c, h))
count_keeps t mul add n (raw (array_type a)) s h = length_gives (IsDraft t) (count_of a) (lined a) s (length_of mul add n) (λ k. h)
count_keeps t mul add n _ s h = tt

-- ---- descriptors

units_keeps : (t : Ty) (right : Bool) (mul many n : ℕ) → Keeps t (units_into right mul many n)
units_keeps t right mul many n d s h =
    if_gives (IsDraft t) right (then_run (count_into mul 0 many d s) (passed n)) refuses
    (then_gives (IsDraft t) (IsDraft t) (count_into mul 0 many d s) (passed n) (count_keeps t mul 0 many d s h)
    (λ x u k. passed_gives (IsDraft t) x k n u)) tt

pub desc_keeps : (t : Ty) (name size mul : ℕ) → Keeps t (desc_into name size mul)
desc_keeps t name size mul d s h =
    then_gives (IsDraft t) (IsDraft t) (needed 4 d s) (λ x u. form_into name size mul (little w32 0 4 u.left) x u)
    (needed_gives (IsDraft t) d h 4 s) form where
      long : Keeps t (long_into name size mul)
      long x u k =
          then_gives (IsDraft t) (IsDraft t) (needed 12 x u) (λ y v. units_into
          (nat_eq (little w16 4 2 v.left) name && nat_eq (little w16 6 2 v.left) size) mul (little w32 8 4 v.left) 12 y v)
          (needed_gives (IsDraft t) x k 12 u) (λ y v j. units_keeps t
          (nat_eq (little w16 4 2 v.left) name && nat_eq (little w16 6 2 v.left) size) mul (little w32 8 4 v.left) 12 y v j)

      form : (x : Draft) (u : Place) → IsDraft t x → Gives (IsDraft t) (form_into name size mul (little w32 0 4 u.left) x u)
      form x u k =
          let first : ℕ = little w32 0 4 u.left in
          if_gives (IsDraft t) (is_marked first) (long_into name size mul x u)
          (if nat_eq (first / 2 ^ 28) 1 then short_into name size mul first x u else refuses) (long x u k)
          (if_gives (IsDraft t) (nat_eq (first / 2 ^ 28) 1) (short_into name size mul first x u) refuses
          (units_keeps t (nat_eq (first % 256) name && nat_eq (first / 256 % 256) size) mul (first / 65536 % 4096) 4 x u k) tt)

-- ---- gets

into_keeps : (g : Get) (t : Ty) (x : Width) (n : ℕ) → Keeps t (into g x n)
into_keeps (get.Num off p w o) t x n = num_keeps t x n
into_keeps (get.Tag off p w o) t x n = tag_keeps t x n
into_keeps (get.Flag off p w o) t x n = flag_keeps t x n
into_keeps (get.Count off p mul add w o) t x n = count_keeps t mul add n
into_keeps (get.Const off os) t x n = λ (d : Draft) (s : Place) h. tt

word_keeps : (t : Ty) (g : Get) (off : ℕ) (p : List ℕ) (w : ℕ) (o : Order) → Keeps t (word_got g off p w o)
word_keeps t g off p w o d s h = by (width_in w) where
  by : (z : Option Width)
      → Gives (IsDraft t)
      (if_passed z (λ x. if nat_le (off + w) s.near then within p (into g x (loaded o x (take w (drop off s.left)))) d s else strays))
  by None = tt
  by (Some x) =
      let m : ℕ = loaded o x (take w (drop off s.left)) in
      if_gives (IsDraft t) (nat_le (off + w) s.near) (within p (into g x m) d s) strays
      (within_keeps p t (into g x m) (λ u is. into_keeps g u x m) d s h) tt

got_keeps : (t : Ty) (g : Get) → Keeps t (got g)
got_keeps t (get.Num off p w o) = word_keeps t (get.Num off p w o) off p w o
got_keeps t (get.Tag off p w o) = word_keeps t (get.Tag off p w o) off p w o
got_keeps t (get.Flag off p w o) = word_keeps t (get.Flag off p w o) off p w o
got_keeps t (get.Count off p mul add w o) = word_keeps t (get.Count off p mul add w o) off p w o
got_keeps t (get.Const off os) = λ (d : Draft) (s : Place) h.
    if_gives (IsDraft t) (nat_le (off + length os) s.near)
    (if same_octets os (take (length os) (drop off s.left)) then gives d s else refuses) strays
    (if_gives (IsDraft t) (same_octets os (take (length os) (drop off s.left))) (gives d s) refuses h tt) tt

pub all_keep : (t : Ty) (gs : List Get) → Keeps t (all_got gs)
all_keep t [] d s h = h
all_keep t (g ∷ gs) d s h = then_gives (IsDraft t) (IsDraft t) (got g d s) (all_got gs) (got_keeps t g d s h) (λ x u k. all_keep t gs x u k)
