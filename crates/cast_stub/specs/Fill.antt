-- What a receive code does: it fills a draft from octets.
use Rattle.std.specs.Prelude.{ℕ, zero, suc, ◌+◌, ◌*◌, ℤ, List, [], ◌∷◌, length, take, drop, Option, None, Some, true, nat_le, if◌then◌else◌}
use Rattle.std.specs.Int.{Width}
use Rattle.std.specs.Ordering.{int_eq}
use Rattle.mint.specs.Blank.{least}
use Rattle.mint.specs.Types.{Array, Ty, array_type, items_type}
use Rattle.mint.specs.Values.{Val, num_in, row, items, arm, absent, present, vals_of}
use Rattle.wire_def.specs.declared.head.Order.{Order}
use Rattle.wire_def.specs.Arrays.{count_of, kind_of}
use Rattle.cast_stub.specs.declared.recv.Get.{Get}
use Rattle.cast_stub.specs.declared.recv.Get.TheVariants as get
use Rattle.cast_stub.specs.Parts.{on_some}
use Rattle.cast_stub.specs.RecvBlock.{Recv, finish, need, need_row, skip_any, skip_zero, pass, desc, row_block, row_wide, each, switch, if_there, call, Cases, no_default, default, case}
use Rattle.cast_stub.specs.Draft.{Draft, raw, digit, listed, lined, tagged, flagged, done, fields, Drafts, no_draft, draft, fresh, settle, length_in}
use Rattle.cast_stub.specs.Into.{needed, passed, skipped, all_zero, word_at, num_into, tag_into, flag_into, count_into, desc_into, row_into, wide_into, same_octets}
use Rattle.cast_stub.specs.Runs.{Place, Run, gives, refuses, strays, Going, Filler, then_run, map_run, if_some}

-- ---- parts

-- the filler on the field of a number
abbrev pub at_field : ℕ → Filler → Drafts → Place → Run Drafts
at_field n f no_draft s = strays
at_field zero f (draft d ds) s = map_run (λ x. draft x ds) (f d s)
at_field (suc n) f (draft d ds) s = map_run (draft d) (at_field n f ds s)

-- a filler of fields, on a draft that has them
abbrev pub in_fields : (Drafts → Place → Run Drafts) → Filler
in_fields f (fields ds) s = map_run fields (f ds s)
in_fields f _ s = strays

-- the filler on the part at a path
abbrev pub within : List ℕ → Filler → Filler
within [] f = f
within (n ∷ p) f = in_fields (at_field n (within p f))

-- the field of a number
abbrev pub field_at : ℕ → Drafts → Option Draft
field_at n no_draft = None
field_at zero (draft d ds) = Some d
field_at (suc n) (draft d ds) = field_at n ds

-- the field of a number, of a draft that has fields
abbrev pub in_draft : ℕ → Draft → Option Draft
in_draft n (fields ds) = field_at n ds
in_draft n _ = None

-- the part at a path, from the first number on
abbrev pub part : List ℕ → Draft → Option Draft
part [] d = Some d
part (n ∷ p) d = on_some (in_draft n d) (part p)

-- ---- gets

-- what a get does with the number that its octets hold
abbrev pub into : Get → Width → ℕ → Filler
into (get.Num off p w o) x m = num_into x m
into (get.Tag off p w o) x m = tag_into x m
into (get.Flag off p w o) x m = flag_into x m
into (get.Count off p mul add w o) x m = count_into mul add m
into (get.Const off os) x m = λ d s. strays

-- a get of a number, at an offset, for the part at a path
abbrev pub word_got : Get → ℕ → List ℕ → ℕ → Order → Filler
word_got g off p w o d s = word_at off w o s (λ x m. within p (into g x m) d s)

-- octets at an offset that must be these
abbrev pub const_got : ℕ → List ℕ → Filler
const_got off os d s =
    if nat_le (off + length os) s.near then (if same_octets os (take (length os) (drop off s.left)) then gives d s else refuses)
    else strays

-- what a get does
abbrev pub got : Get → Filler
got (get.Num off p w o) d s = word_got (get.Num off p w o) off p w o d s
got (get.Tag off p w o) d s = word_got (get.Tag off p w o) off p w o d s
got (get.Flag off p w o) d s = word_got (get.Flag off p w o) off p w o d s
got (get.Count off p mul add w o) d s = word_got (get.Count off p mul add w o) off p w o d s
got (get.Const off os) d s = const_got off os d s

-- what gets do, one after the other
abbrev pub all_got : List Get → Filler
all_got [] d s = gives d s
all_got (g ∷ gs) d s = then_run (got g d s) (all_got gs)

-- ---- operations with bodies

-- the value of a draft that was filled; the run strays where something in it waits to be filled
abbrev pub settled : Run Draft → Run Val
settled (gives d s) = if_some (settle d) (λ v. gives v s)
settled refuses = refuses
settled strays = strays

-- the number of a draft that was filled
abbrev pub settled_number : Run Draft → Run ℤ
settled_number x = then_run (settled x) (λ v s. if_some (num_in v) (λ n. gives n s))

-- so many runs, one after the other, and the list of what they give
abbrev pub runs : {A : Type 0} → Going A → ℕ → Going (List A)
runs f zero s = gives [] s
runs f (suc n) s = then_run (f s) (λ x t. map_run (λ xs. x ∷ xs) (runs f n t))

-- so many values of a type
abbrev pub fill_items : Filler → Ty → ℕ → Going Draft
fill_items f t n s = map_run (λ vs. done (items (vals_of vs))) (runs (λ u. settled (f (fresh t) u)) n s)

-- so many numbers of a row or text
abbrev pub fill_row : Filler → Array → ℕ → Going Draft
fill_row f a n s = map_run (λ ns. done (row (kind_of a) ns)) (runs (λ u. settled_number (f (digit a) u)) n s)

-- each element of a list whose length is known
abbrev pub fill_each : Filler → Filler
fill_each f (raw (items_type c t)) s = fill_items f t (least c) s
fill_each f (raw (array_type a)) s = fill_row f a (least (count_of a)) s
fill_each f (listed t n) s = fill_items f t n s
fill_each f (lined a n) s = fill_row f a n s
fill_each f _ s = strays

-- the value of a union's arm
abbrev pub fill_arm : (ℤ → Filler) → Filler
fill_arm f (tagged n t) s = map_run (λ v. done (arm n v)) (settled (f n (fresh t) s))
fill_arm f _ s = strays

-- the value that may be there
abbrev pub fill_present : Filler → Filler
fill_present f (flagged t) s = map_run (λ v. done (present v)) (settled (f (fresh t) s))
fill_present f (done absent) s = gives (done absent) s
fill_present f _ s = strays

-- what a call of a number does
abbrev pub Callees : Type 0
Callees = ℕ → Filler

abbrev mutual
  -- a draft filled by a block
  pub fill : Callees → Recv → Filler
  fill c finish d s = gives d s
  fill c (need n r) d s = then_run (needed n d s) (fill c r)
  fill c (need_row p u e r) d s = then_run (if_some (part p d) (λ x. if_some (length_in x) (λ n. needed (n * u + e) d s))) (fill c r)
  fill c (skip_any a r) d s = then_run (skipped (λ o. true) a d s) (fill c r)
  fill c (skip_zero a r) d s = then_run (skipped all_zero a d s) (fill c r)
  fill c (pass n gs r) d s = then_run (all_got gs d s) (λ x t. then_run (passed n x t) (fill c r))
  fill c (desc p name size mul r) d s = then_run (within p (desc_into name size mul) d s) (fill c r)
  fill c (row_block p o r) d s = then_run (within p (row_into o) d s) (fill c r)
  fill c (row_wide p o r) d s = then_run (within p (wide_into o) d s) (fill c r)
  fill c (each p b r) d s = then_run (within p (fill_each (fill c b)) d s) (fill c r)
  fill c (switch p cs r) d s = then_run (within p (fill_arm (fill_case c cs)) d s) (fill c r)
  fill c (if_there p b r) d s = then_run (within p (fill_present (fill c b)) d s) (fill c r)
  fill c (call k p r) d s = then_run (within p (c k) d s) (fill c r)

  -- a draft filled by the body of a number
  pub fill_case : Callees → Cases → ℤ → Filler
  fill_case c no_default n d s = strays
  fill_case c (default b) n d s = fill c b d s
  fill_case c (case m b cs) n d s = if int_eq n m then fill c b d s else fill_case c cs n d s
