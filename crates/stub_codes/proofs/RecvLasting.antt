-- What a run of code without calls has filled stays, by induction on the block.
use Rattle.std.proofs.Common.{◌≡◌, ℕ, zero, suc, ◌+◌, ◌*◌, ◌≤◌, ◌/◌, ◌%◌, ◌^◌, ℤ, List, [], ◌∷◌, length, take, drop, nat_eq, nat_le, Some, Bool, true, ◌&&◌, if◌then◌else◌, refl, sym, ap, ◌∙◌, subst}
use Rattle.std.specs.Int.{Width, w16, w32}
use Rattle.mint.specs.Types.{Array, Ty}
use Rattle.mint.specs.Values.{Val, absent}
use Rattle.wire_def.specs.declared.head.Order.{Order}
use Rattle.wire_def.specs.Described.{is_marked}
use Rattle.wire_def.specs.Orders.{width_in, loaded}
use Rattle.cast_stub.specs.declared.recv.Get.{Get}
use Rattle.cast_stub.specs.declared.recv.Get.TheVariants as get
use Rattle.cast_stub.specs.Draft.{Draft, raw, digit, listed, lined, tagged, flagged, done, fields, Drafts, no_draft, draft, length_in}
use Rattle.cast_stub.specs.Fill.{at_field, in_fields, within, field_at, part, got, all_got, fill_each, fill_arm, fill_present, Callees, fill, fill_case}
use Rattle.cast_stub.specs.Into.{needed, passed, skipped, all_zero, word_at, same_octets, num_into, tag_into, flag_into, count_into, desc_into, row_into, wide_into, units_into, short_into, long_into, form_into, little}
use Rattle.cast_stub.specs.Parts.{on_some}
use Rattle.cast_stub.specs.RecvBlock.{Recv, finish, need, need_row, skip_any, skip_zero, pass, desc, row_block, row_wide, each, switch, if_there, call}
use Rattle.cast_stub.specs.Runs.{Place, Run, gives, refuses, strays, Filler, then_run, if_some}
use Rattle.copy_inline.specs.RecvCallFree.{HasNoCall}
use Rattle.stub_codes.proofs.RecvGiven.{Gives, gives_then, gives_map, gives_to, gives_passed, gives_if, gives_any, needed_same, passed_same, skipped_same, row_need_same}

-- a part that was read is still there
abbrev pub Kept : Draft → Draft → Type 0
Kept d x = (p : List ℕ) (w : Val) → part p d ≡ Some (done w) → part p x ≡ Some (done w)

abbrev pub Keeps : Filler → Type 0
Keeps f = (d : Draft) (s : Place) → Gives (f d s) (λ x u. Kept d x)

pub kept_then : (d : Draft) (x : Run Draft) (f : Draft → Place → Run Draft) → Gives x (λ y t. Kept d y)
    → ((y : Draft) (t : Place) → Gives (f y t) (λ z u. Kept y z)) → Gives (then_run x f) (λ z u. Kept d z)
kept_then d x f h g =
    gives_then x f (λ y t. Kept d y) (λ z u. Kept d z) h
    (λ (y : Draft) (t : Place) k. gives_to (f y t) (λ z u. Kept y z) (λ z u. Kept d z) (g y t) (λ (z : Draft) (u : Place) l p w e.
    l p w (k p w e)))

pub open_raw : (t : Ty) (p : List ℕ) (w : Val) → part p (raw t) ≡ Some (done w) → ⊥
open_raw t [] w e = absurd cc
open_raw t (n ∷ p) w e = absurd cc

pub open_digit : (a : Array) (p : List ℕ) (w : Val) → part p (digit a) ≡ Some (done w) → ⊥
open_digit a [] w e = absurd cc
open_digit a (n ∷ p) w e = absurd cc

pub open_listed : (t : Ty) (m : ℕ) (p : List ℕ) (w : Val) → part p (listed t m) ≡ Some (done w) → ⊥
open_listed t m [] w e = absurd cc
open_listed t m (n ∷ p) w e = absurd cc

pub open_lined : (a : Array) (m : ℕ) (p : List ℕ) (w : Val) → part p (lined a m) ≡ Some (done w) → ⊥
open_lined a m [] w e = absurd cc
open_lined a m (n ∷ p) w e = absurd cc

pub open_tagged : (m : ℤ) (t : Ty) (p : List ℕ) (w : Val) → part p (tagged m t) ≡ Some (done w) → ⊥
open_tagged m t [] w e = absurd cc
open_tagged m t (n ∷ p) w e = absurd cc

pub open_flagged : (t : Ty) (p : List ℕ) (w : Val) → part p (flagged t) ≡ Some (done w) → ⊥
open_flagged t [] w e = absurd cc
open_flagged t (n ∷ p) w e = absurd cc

-- what goes into neither a struct nor what was read
pub keeps_open : (f : Filler) → ((ds : Drafts) (s : Place) → Gives (f (fields ds) s) (λ x u. ⊥))
    → ((v : Val) (s : Place) → Gives (f (done v) s) (λ x u. x ≡ done v)) → Keeps f
keeps_open f g h (raw t) s = gives_any (f (raw t) s) (λ x u. Kept (raw t) x) (λ x u p w e. absurd (open_raw t p w e))
keeps_open f g h (digit a) s = gives_any (f (digit a) s) (λ x u. Kept (digit a) x) (λ x u p w e. absurd (open_digit a p w e))
keeps_open f g h (listed t m) s = gives_any (f (listed t m) s) (λ x u. Kept (listed t m) x) (λ x u p w e. absurd (open_listed t m p w e))
keeps_open f g h (lined a m) s = gives_any (f (lined a m) s) (λ x u. Kept (lined a m) x) (λ x u p w e. absurd (open_lined a m p w e))
keeps_open f g h (tagged m t) s = gives_any (f (tagged m t) s) (λ x u. Kept (tagged m t) x) (λ x u p w e. absurd (open_tagged m t p w e))
keeps_open f g h (flagged t) s = gives_any (f (flagged t) s) (λ x u. Kept (flagged t) x) (λ x u p w e. absurd (open_flagged t p w e))
keeps_open f g h (fields ds) s = gives_to (f (fields ds) s) (λ x u. ⊥) (λ x u. Kept (fields ds) x) (g ds s) (λ x u never. absurd never)
keeps_open f g h (done v) s =
    gives_to (f (done v) s) (λ x u. x ≡ done v) (λ x u. Kept (done v) x) (h v s) (λ (x : Draft) u same p w e. ap (part p) same ∙ e)

pub num_keeps : (x : Width) (m : ℕ) → Keeps (num_into x m)
num_keeps x m = keeps_open (num_into x m) (λ ds s. tt) (λ v s. tt)

pub tag_keeps : (x : Width) (m : ℕ) → Keeps (tag_into x m)
tag_keeps x m = keeps_open (tag_into x m) (λ ds s. tt) (λ v s. tt)

pub flag_keeps : (x : Width) (m : ℕ) → Keeps (flag_into x m)
flag_keeps x m = keeps_open (flag_into x m) (λ ds s. tt) (λ v s. tt)

pub count_keeps : (mul add m : ℕ) → Keeps (count_into mul add m)
count_keeps mul add m = keeps_open (count_into mul add m) (λ ds s. tt) (λ v s. tt)

pub row_keeps : (o : Order) → Keeps (row_into o)
row_keeps o = keeps_open (row_into o) (λ ds s. tt) (λ v s. tt)

pub wide_keeps : (o : Order) → Keeps (wide_into o)
wide_keeps o = keeps_open (wide_into o) (λ ds s. tt) (λ v s. tt)

pub each_keeps : (f : Filler) → Keeps (fill_each f)
each_keeps f = keeps_open (fill_each f) (λ ds s. tt) (λ v s. tt)

pub arm_keeps : (f : ℤ → Filler) → Keeps (fill_arm f)
arm_keeps f = keeps_open (fill_arm f) (λ ds s. tt) (λ v s. tt)

pub present_keeps : (f : Filler) → Keeps (fill_present f)
present_keeps f = keeps_open (fill_present f) (λ ds s. tt) over where
  over : (v : Val) (s : Place) → Gives (fill_present f (done v) s) (λ x u. x ≡ done v)
  over absent s = refl
  over _ s = tt

-- a descriptor of what has no length to be read
pub no_units : (right : Bool) (mul many n : ℕ) (d : Draft) (s : Place) → ((m : ℕ) (t : Place) → count_into mul 0 m d t ≡ strays)
    → Gives (units_into right mul many n d s) (λ x u. ⊥)
no_units right mul many n d s lacks =
    gives_if right (then_run (count_into mul 0 many d s) (passed n)) refuses (λ x u. ⊥)
    (subst (λ z. Gives (then_run z (passed n)) (λ x u. ⊥)) (sym (lacks many s)) tt) tt

pub no_desc : (name size mul : ℕ) (d : Draft) (s : Place) → ((m : ℕ) (t : Place) → count_into mul 0 m d t ≡ strays)
    → Gives (desc_into name size mul d s) (λ x u. ⊥)
no_desc name size mul d s lacks =
    gives_then (needed 4 d s) (λ x t. form_into name size mul (little w32 0 4 t.left) x t) (λ x u. (x ≡ d) × (u.tests ≤ s.tests + 1))
    (λ x u. ⊥) (needed_same 4 d s) form
  where
    none : (y : Draft) → y ≡ d → (m : ℕ) (t : Place) → count_into mul 0 m y t ≡ strays
    none y same m t = ap (λ (x : Draft). count_into mul 0 m x t) same ∙ lacks m t

    form : (y : Draft) (t : Place) → (y ≡ d) × (t.tests ≤ s.tests + 1)
        → Gives (form_into name size mul (little w32 0 4 t.left) y t) (λ x u. ⊥)
    form y t h =
        let first : ℕ = little w32 0 4 t.left in
        gives_if (is_marked first) (long_into name size mul y t)
        (if nat_eq (first / 2 ^ 28) 1 then short_into name size mul first y t else refuses) (λ x u. ⊥)
        (gives_then (needed 12 y t)
        (λ x u.
        units_into (nat_eq (little w16 4 2 u.left) name && nat_eq (little w16 6 2 u.left) size) mul (little w32 8 4 u.left) 12 x u)
        (λ x u. (x ≡ y) × (u.tests ≤ t.tests + 1)) (λ x u. ⊥) (needed_same 12 y t)
        (λ (x : Draft) (u : Place) k.
        no_units (nat_eq (little w16 4 2 u.left) name && nat_eq (little w16 6 2 u.left) size) mul (little w32 8 4 u.left) 12 x u
        (none x (k.0 ∙ h.0))))
        (gives_if (nat_eq (first / 2 ^ 28) 1) (short_into name size mul first y t) refuses (λ x u. ⊥)
        (no_units (nat_eq (first % 256) name && nat_eq (first / 256 % 256) size) mul (first / 65536 % 4096) 4 y t (none y h.0)) tt)

pub desc_keeps : (name size mul : ℕ) → Keeps (desc_into name size mul)
desc_keeps name size mul =
    keeps_open (desc_into name size mul) (λ ds s. no_desc name size mul (fields ds) s (λ m t. refl))
    (λ v s. gives_to (desc_into name size mul (done v) s) (λ x u. ⊥) (λ x u. x ≡ done v) (no_desc name size mul (done v) s (λ m t. refl))
    (λ x u never. absurd never))

-- fields of which each part that was read is still there
abbrev pub FieldsKept : Drafts → Drafts → Type 0
FieldsKept ds es = (k : ℕ) (p : List ℕ) (w : Val) → on_some (field_at k ds) (part p) ≡ Some (done w)
    → on_some (field_at k es) (part p) ≡ Some (done w)

pub field_keeps : (n : ℕ) (f : Filler) → Keeps f → (ds : Drafts) (s : Place) → Gives (at_field n f ds s) (λ es u. FieldsKept ds es)
field_keeps n f h no_draft s = tt
field_keeps zero f h (draft d ds) s =
    gives_map (λ x. draft x ds) (f d s) (λ es u. FieldsKept (draft d ds) es)
    (gives_to (f d s) (λ x u. Kept d x) (λ x u. FieldsKept (draft d ds) (draft x ds)) (h d s) (λ (x : Draft) (u : Place) k. first x k))
  where
    first : (x : Draft) → Kept d x → FieldsKept (draft d ds) (draft x ds)
    first x k zero p w e = k p w e
    first x k (suc j) p w e = e
field_keeps (suc n) f h (draft d ds) s =
    gives_map (draft d) (at_field n f ds s) (λ es u. FieldsKept (draft d ds) es)
    (gives_to (at_field n f ds s) (λ es u. FieldsKept ds es) (λ es u. FieldsKept (draft d ds) (draft d es)) (field_keeps n f h ds s)
    (λ (es : Drafts) (u : Place) k. rest es k))
  where
    rest : (es : Drafts) → FieldsKept ds es → FieldsKept (draft d ds) (draft d es)
    rest es k zero p w e = e
    rest es k (suc j) p w e = k j p w e

struct_keeps : (n : ℕ) (g : Filler) → Keeps g → Keeps (in_fields (at_field n g))
struct_keeps n g h = over where
  all : (ds es : Drafts) → FieldsKept ds es → Kept (fields ds) (fields es)
  all ds es k [] w e = absurd cc
  all ds es k (j ∷ p) w e = k j p w e

  over : Keeps (in_fields (at_field n g))
  over (fields ds) s =
      gives_map fields (at_field n g ds s) (λ x u. Kept (fields ds) x)
      (gives_to (at_field n g ds s) (λ es u. FieldsKept ds es) (λ es u. Kept (fields ds) (fields es)) (field_keeps n g h ds s)
      (λ (es : Drafts) (u : Place) k. all ds es k))
  over (raw t) s = tt
  over (digit a) s = tt
  over (listed t m) s = tt
  over (lined a m) s = tt
  over (tagged m t) s = tt
  over (flagged t) s = tt
  over (done v) s = tt

pub within_keeps : (q : List ℕ) (f : Filler) → Keeps f → Keeps (within q f)
within_keeps [] f h = h
within_keeps (n ∷ q) f h = struct_keeps n (within q f) (within_keeps q f h)

pub gets_keep : (gs : List Get) (d : Draft) (s : Place) → Gives (all_got gs d s) (λ x u. Kept d x)
gets_keep [] d s = λ p w e. e
gets_keep (g ∷ gs) d s = kept_then d (got g d s) (all_got gs) (got_keeps g) (gets_keep gs) where
  word_keeps : (off : ℕ) (p : List ℕ) (w : ℕ) (o : Order) (f : Width → ℕ → Filler) → ((x : Width) (m : ℕ) → Keeps (f x m))
      → Gives (word_at off w o s (λ x m. within p (f x m) d s)) (λ x u. Kept d x)
  word_keeps off p w o f h =
      gives_passed (width_in w)
      (λ x. if nat_le (off + w) s.near then within p (f x (loaded o x (take w (drop off s.left)))) d s else strays) (λ x u. Kept d x)
      (λ (x : Width).
      let m : ℕ = loaded o x (take w (drop off s.left)) in
      gives_if (nat_le (off + w) s.near) (within p (f x m) d s) strays (λ x u. Kept d x) (within_keeps p (f x m) (h x m) d s) tt)

  got_keeps : (g : Get) → Gives (got g d s) (λ x u. Kept d x)
  got_keeps (get.Num off p w o) = word_keeps off p w o num_into num_keeps
  got_keeps (get.Tag off p w o) = word_keeps off p w o tag_into tag_keeps
  got_keeps (get.Flag off p w o) = word_keeps off p w o flag_into flag_keeps
  got_keeps (get.Count off p mul add w o) = word_keeps off p w o (λ x m. count_into mul add m) (λ x m. count_keeps mul add m)
  got_keeps (get.Const off os) =
      gives_if (nat_le (off + length os) s.near)
      (if same_octets os (take (length os) (drop off s.left)) then gives d s else refuses) strays (λ x u. Kept d x)
      (gives_if (same_octets os (take (length os) (drop off s.left))) (gives d s) refuses (λ x u. Kept d x) (λ p w e. e) tt) tt

pub same_keeps : (d : Draft) (s : Place) (k : ℕ) (x : Run Draft) → Gives x (λ y u. (y ≡ d) × (u.tests ≤ s.tests + k))
    → Gives x (λ y u. Kept d y)
same_keeps d s k x h =
    gives_to x (λ y u. (y ≡ d) × (u.tests ≤ s.tests + k)) (λ y u. Kept d y) h (λ (y : Draft) (u : Place) g p w e. ap (part p) g.0 ∙ e)

module _ (c : Callees) where
  -- what a run of code without calls has filled stays
  pub lasts : (b : Recv) → HasNoCall b → Keeps (fill c b)
  lasts finish free d s = λ p w e. e
  lasts (need n r) free d s = kept_then d (needed n d s) (fill c r) (same_keeps d s 1 (needed n d s) (needed_same n d s)) (lasts r free)
  lasts (need_row p m e r) free d s =
      kept_then d (if_some (part p d) (λ x. if_some (length_in x) (λ n. needed (n * m + e) d s))) (fill c r)
      (same_keeps d s 1 (if_some (part p d) (λ x. if_some (length_in x) (λ n. needed (n * m + e) d s))) (row_need_same p m e d s))
      (lasts r free)
  lasts (skip_any a r) free d s =
      kept_then d (skipped (λ o. true) a d s) (fill c r) (same_keeps d s 1 (skipped (λ o. true) a d s) (skipped_same (λ o. true) a d s))
      (lasts r free)
  lasts (skip_zero a r) free d s =
      kept_then d (skipped all_zero a d s) (fill c r) (same_keeps d s 1 (skipped all_zero a d s) (skipped_same all_zero a d s))
      (lasts r free)
  lasts (pass n gs r) free d s =
      kept_then d (all_got gs d s) (λ x t. then_run (passed n x t) (fill c r)) (gets_keep gs d s)
      (λ (x : Draft) (t : Place).
      kept_then x (passed n x t) (fill c r) (same_keeps x t 0 (passed n x t) (passed_same n x t)) (lasts r free))
  lasts (desc p name size mul r) free d s =
      kept_then d (within p (desc_into name size mul) d s) (fill c r)
      (within_keeps p (desc_into name size mul) (desc_keeps name size mul) d s) (lasts r free)
  lasts (row_block p o r) free d s =
      kept_then d (within p (row_into o) d s) (fill c r) (within_keeps p (row_into o) (row_keeps o) d s) (lasts r free)
  lasts (row_wide p o r) free d s =
      kept_then d (within p (wide_into o) d s) (fill c r) (within_keeps p (wide_into o) (wide_keeps o) d s) (lasts r free)
  lasts (each p b r) free d s =
      kept_then d (within p (fill_each (fill c b)) d s) (fill c r) (within_keeps p (fill_each (fill c b)) (each_keeps (fill c b)) d s)
      (lasts r free.1)
  lasts (switch p cs r) free d s =
      kept_then d (within p (fill_arm (fill_case c cs)) d s) (fill c r)
      (within_keeps p (fill_arm (fill_case c cs)) (arm_keeps (fill_case c cs)) d s) (lasts r free.1)
  lasts (if_there p b r) free d s =
      kept_then d (within p (fill_present (fill c b)) d s) (fill c r)
      (within_keeps p (fill_present (fill c b)) (present_keeps (fill c b)) d s) (lasts r free.1)
  lasts (call k p r) free d s = absurd free
