-- Code with its rows as blocks gives what the given code gives, but for how often it tests, by induction on the code.
use Rattle.std.proofs.Common.{◌≡◌, ℕ, zero, suc, ◌+◌, ◌*◌, arith, option_map, ℤ, List, [], ◌∷◌, length, Option, None, Some, refl, sym, ap, subst, ◌∙◌, Bool, true, false, if◌then◌else◌}
use Rattle.std.specs.Prelude.{nat_lt, max}
use Rattle.std.specs.Ordering.{int_eq}
use Rattle.kit_base.specs.Causes.{raised}
use Rattle.mint.specs.declared.kind.Count.{Count}
use Rattle.mint.specs.Blank.{least}
use Rattle.mint.specs.Kinds.{width}
use Rattle.mint.specs.Types.{Scalar, Array, Ty, array_type, group_type, items_type, choice_type, maybe_type, Tys, no_fields, field, Arms, no_other, others, arm_type}
use Rattle.mint.specs.Values.{Val, row, items, arm, absent, present, vals_of}
use Rattle.wire_def.specs.declared.encoding.Encoding.{Encoding}
use Rattle.wire_def.specs.declared.head.Order.{Order}
use Rattle.wire_def.specs.Arrays.{count_of, kind_of}
use Rattle.cast_stub.specs.Layouts.{order_of, element_width, layout_of}
use Rattle.cast_stub.specs.Parts.{on_some}
use Rattle.cast_stub.specs.PartTypes.{field_type, in_group_type, ty_at, present_type, present_at, arms_type, arms_at}
use Rattle.cast_stub.specs.PutPart.{put_part}
use Rattle.cast_stub.specs.RecvBlock.{Recv, finish, need, need_row, skip_any, skip_zero, pass, desc, row_block, row_wide, each, switch, if_there, call, Cases, no_default, default, case}
use Rattle.cast_stub.specs.Traces.{descs, IsNumber}
use Rattle.cast_stub.specs.Draft.{Draft, raw, digit, listed, lined, tagged, flagged, done, fields, Drafts, no_draft, draft, fresh, length_in, type_of_arm}
use Rattle.cast_stub.specs.Into.{needed, passed, skipped, all_zero, fill_block, row_into, wide_into, desc_into}
use Rattle.cast_stub.specs.Fill.{at_field, within, part, field_at, all_got, settled, settled_number, runs, fill_items, fill_row, fill_each, fill_arm, fill_present, Callees, fill, fill_case}
use Rattle.cast_stub.specs.Runs.{Place, Run, gives, refuses, strays, Filler, then_run, map_run, if_some}
use Rattle.cast_stub.proofs.RecvParts.{replaced, within_is, no_part}
use Rattle.copy_inline.specs.declared.sorts.Sort.{Sort}
use Rattle.copy_inline.specs.declared.sorts.Sort.TheVariants as sort
use Rattle.copy_inline.specs.Ready.{OfType}
use Rattle.copy_inline.specs.Rowed.{by_type}
use Rattle.copy_inline.specs.Sorts.{sort_of}
use Rattle.copy_inline.specs.RecvReady.{IsTurn, LoopIs, IsReady, CasesReady}
use Rattle.copy_inline.specs.RecvRowed.{row_or_loop, loop_rowed, rowed, cases_rowed}
use Rattle.copy_inline.specs.RecvRows.{EndsAlike}
use Rattle.copy_inline.proofs.RowSteps.{maybe_of, choice_of}
use Rattle.copy_inline.proofs.Sorted.{block_layout, wide_layout, element_wide}
use Rattle.cast_stub.proofs.Widths.{Wide}
use Rattle.copy_inline.proofs.RecvLine.{number_turn, line_alike}
use Rattle.copy_inline.proofs.RecvTimed.{timed, Pairs, AreEven, then_alike, map_alike, needed_even, passed_even, skipped_even, desc_even, within_even, all_even, settled_alike, number_alike, runs_alike}
use Rattle.copy_inline.proofs.RecvTyped.{IsDraft, AreDrafts, fresh_is, Gives, map_gives, needed_gives, passed_gives, skipped_gives, within_keeps, desc_keeps, all_keep}
use Rattle.cast_stub.proofs.Filled.{opened}

-- ---- a run from a draft of a type, and another that does likewise

-- what is given is a draft of the type, and the second ends likewise
abbrev Both : Ty → Run Draft → Run Draft → Type 0
Both t x y = Gives (IsDraft t) x × EndsAlike x y

abbrev Fills : Ty → Filler → Filler → Type 0
Fills t f g = (d : Draft) (s : Place) (m : ℕ) → IsDraft t d → Both t (f d s) (g d (timed m s))

then_both : (t : Ty) (x y : Run Draft) (f g : Filler) → Both t x y → Fills t f g → Both t (then_run x f) (then_run y g)
then_both t (gives d s) y f g h go =
    let k = go d s (h.1).0 h.0 in
    (k.0, subst (λ z. EndsAlike (f d s) (then_run z g)) (sym (h.1).1) k.1)
then_both t refuses y f g h go = (tt, ap (λ z. then_run z g) h.1)
then_both t strays y f g h go = (tt, tt)

-- ---- parts

typed_from : (p : List ℕ) (n : ℕ) (t : Ty) (ts : Tys) (w u : Ty) → t ≡ group_type ts → field_type n ts ≡ Some w → ty_at (n ∷ p) t ≡ Some u
    → ty_at p w ≡ Some u
typed_from p n t ts w u e f is =
    sym (ap (λ (x : Ty). on_some (in_group_type n x) (ty_at p)) e ∙ ap (λ (x : Option Ty). on_some x (ty_at p)) f) ∙ is

field_alike : (n : ℕ) (ts : Tys) (ds : Drafts) (f g : Filler) (s : Place) (m : ℕ)
    → ((w : Ty) (d : Draft) → field_type n ts ≡ Some w → IsDraft w d → EndsAlike (f d s) (g d (timed m s))) → AreDrafts ts ds
    → EndsAlike (at_field n f ds s) (at_field n g ds (timed m s))
field_alike n no_fields no_draft f g s m go h = tt
field_alike zero (field t ts) (draft d ds) f g s m go h = map_alike (λ x. draft x ds) (f d s) (g d (timed m s)) (go t d refl h.0)
field_alike (suc n) (field t ts) (draft d ds) f g s m go h =
    map_alike (draft d) (at_field n f ds s) (at_field n g ds (timed m s)) (field_alike n ts ds f g s m go h.1)
field_alike n no_fields (draft d ds) f g s m go h = absurd h
field_alike n (field t ts) no_draft f g s m go h = absurd h

within_alike : (p : List ℕ) (t u : Ty) (f g : Filler) → ty_at p t ≡ Some u
    → ((d : Draft) (s : Place) (m : ℕ) → IsDraft u d → EndsAlike (f d s) (g d (timed m s))) → (d : Draft) (s : Place) (m : ℕ) → IsDraft t d
    → EndsAlike (within p f d s) (within p g d (timed m s))
within_alike [] t u f g is go d s m h = let same : t ≡ u = cc in go d s m (subst (λ (x : Ty). IsDraft x d) same h)
within_alike (n ∷ p) t u f g is go (fields ds) s m h =
    map_alike fields (at_field n (within p f) ds s) (at_field n (within p g) ds (timed m s))
    (field_alike n h.0 ds (within p f) (within p g) s m (λ w d e k. within_alike p w u f g (typed_from p n t h.0 w u h.1 e is) go d s m k)
    h.2)
within_alike (n ∷ p) t u f g is go _ s m h = tt

only_type : {A : Type 0} (x : Option A) (a b : A) → x ≡ Some a → x ≡ Some b → a ≡ b
only_type None a b e f = absurd cc
only_type (Some c) a b e f = cc

within_both : (p : List ℕ) (t u : Ty) (f g : Filler) → ty_at p t ≡ Some u → Fills u f g → Fills t (within p f) (within p g)
within_both p t u f g is go d s m h = (
  within_keeps p t f (λ w e x v k. let same : u
      ≡ w = only_type (ty_at p t) u w is e in subst (λ (y : Ty). Gives (IsDraft y) (f x v)) same
      (go x v 0 (subst (λ (y : Ty). IsDraft y x) (sym same) k)).0) d s h,
  within_alike p t u f g is (λ x v j k. (go x v j k).1) d s m h,
)

-- the part at a path is a draft of its type
part_typed : (p : List ℕ) (t u : Ty) (d x : Draft) → ty_at p t ≡ Some u → part p d ≡ Some x → IsDraft t d → IsDraft u x
part_typed [] t u d x is e h =
    let a : t ≡ u = cc in
    let b : d ≡ x = cc in
    subst (λ (y : Ty). IsDraft y x) a (subst (IsDraft t) b h)
part_typed (n ∷ p) t u (fields ds) x is e h =
    at n h.0 ds h.2 (λ w f. typed_from p n t h.0 w u h.1 f is) (λ w y. part_typed p w u y x) e where
      at : (n : ℕ) (ts : Tys) (ds : Drafts) → AreDrafts ts ds → ((w : Ty) → field_type n ts ≡ Some w → ty_at p w ≡ Some u)
          → ((w : Ty) (y : Draft) → ty_at p w ≡ Some u → part p y ≡ Some x → IsDraft w y → IsDraft u x)
          → on_some (field_at n ds) (part p) ≡ Some x → IsDraft u x
      at n no_fields no_draft h go again e = absurd cc
      at zero (field t ts) (draft d ds) h go again e = again t d (go t refl) e h.0
      at (suc n) (field t ts) (draft d ds) h go again e = at n ts ds h.1 go again e
      at n no_fields (draft d ds) h go again e = absurd h
      at n (field t ts) no_draft h go again e = absurd h
part_typed (n ∷ p) t u _ x is e h = absurd cc

-- ---- a loop over a row, and the row

done_given : (t : Ty) (v : Val) → IsDraft t (done v)
done_given t v = tt

row_given : (f : Filler) (a : Array) (t : Ty) (n : ℕ) (s : Place) → Gives (IsDraft t) (fill_row f a n s)
row_given f a t n s = map_gives (λ ns. Unit {0}) (IsDraft t) (λ ns. done (row (kind_of a) ns))
    (runs (λ u. settled_number (f (digit a) u)) n s) (any (runs (λ u. settled_number (f (digit a) u)) n s)) (λ ns h. tt) where
      any : {A : Type 0} (x : Run A) → Gives (λ a. Unit {0}) x
      any (gives a s) = tt
      any refuses = tt
      any strays = tt

items_given : (f : Filler) (w t : Ty) (n : ℕ) (s : Place) → Gives (IsDraft t) (fill_items f w n s)
items_given f w t n s = map_gives (λ ns. Unit {0}) (IsDraft t) (λ vs. done (items (vals_of vs))) (runs (λ u. settled (f (fresh w) u)) n s)
    (any (runs (λ u. settled (f (fresh w) u)) n s)) (λ ns h. tt) where
      any : {A : Type 0} (x : Run A) → Gives (λ a. Unit {0}) x
      any (gives a s) = tt
      any refuses = tt
      any strays = tt

each_given : (f : Filler) (t : Ty) (x : Draft) (s : Place) → Gives (IsDraft t) (fill_each f x s)
each_given f t (raw (items_type c w)) s = items_given f w t (least c) s
each_given f t (raw (array_type a)) s = row_given f a t (least (count_of a)) s
each_given f t (listed w n) s = items_given f w t n s
each_given f t (lined a n) s = row_given f a t n s
each_given f t _ s = tt

-- one test of a row's numbers, and the row
abbrev tested : Filler → ℕ → Filler
tested into w x s = then_run (if_some (length_in x) (λ n. needed (n * w + 0) x s)) (λ y t. into x t)

module _ (c : Callees) (w : ℕ) (o : Order) (a : Array) (wide : Wide w) where
  abbrev Loop : Filler
  Loop = fill_each (fill c (number_turn w o))

  block_alike : w ≡ width (kind_of a) → (x : Draft) (s : Place) (m : ℕ) → IsDraft (array_type a) x
      → EndsAlike (Loop x s) (tested (row_into o) w x (timed m s))
  block_alike e (lined a' n) s m h =
      let same : a ≡ a' = cc in
      subst (λ (k : ℕ). EndsAlike (fill_row (fill c (number_turn w o)) a' n s)
      (then_run (needed (n * w + 0) (lined a' n) (timed m s)) (λ y t. fill_block o k a' n t)))
      (e ∙ ap (λ (y : Array). width (kind_of y)) same)
      (line_alike c w o a' wide n (lined a' n) s m)
  block_alike e (raw (array_type a')) s m h =
      let same : a ≡ a' = cc in
      subst (λ (k : ℕ). EndsAlike (fill_row (fill c (number_turn w o)) a' (least (count_of a')) s)
      (then_run (needed (least (count_of a') * w + 0) (raw (array_type a')) (timed m s))
      (λ y t. fill_block o k a' (least (count_of a')) t))) (e ∙ ap (λ (y : Array). width (kind_of y)) same)
      (line_alike c w o a' wide (least (count_of a')) (raw (array_type a')) s m)
  block_alike e (raw (items_type k t)) s m h = absurd cc
  block_alike e (listed t n) s m h = absurd (let is = h.1 in cc)
  block_alike e _ s m h = tt

  wide_alike : w ≡ 4 → (x : Draft) (s : Place) (m : ℕ) → IsDraft (array_type a) x
      → EndsAlike (Loop x s) (tested (wide_into o) w x (timed m s))
  wide_alike e (lined a' n) s m h =
      subst (λ (k : ℕ). EndsAlike (fill_row (fill c (number_turn w o)) a' n s)
      (then_run (needed (n * w + 0) (lined a' n) (timed m s)) (λ y t. fill_block o k a' n t))) e
      (line_alike c w o a' wide n (lined a' n) s m)
  wide_alike e (raw (array_type a')) s m h =
      subst (λ (k : ℕ). EndsAlike (fill_row (fill c (number_turn w o)) a' (least (count_of a')) s)
      (then_run (needed (least (count_of a') * w + 0) (raw (array_type a')) (timed m s))
      (λ y t. fill_block o k a' (least (count_of a')) t))) e
      (line_alike c w o a' wide (least (count_of a')) (raw (array_type a')) s m)
  wide_alike e (raw (items_type k t)) s m h = absurd cc
  wide_alike e (listed t n) s m h = absurd (let is = h.1 in cc)
  wide_alike e _ s m h = tt

-- the test and the row, at a path
abbrev tested_at : Filler → ℕ → List ℕ → Filler
tested_at into w p d s = then_run (if_some (part p d) (λ x. if_some (length_in x) (λ n. needed (n * w + 0) d s))) (λ y t. within p into y t)

run_if : (b : Bool) (d x : Draft) (t : Place) (f g : Filler) → f d t ≡ g x t
    → then_run (if b then refuses else gives d t) (λ y u. f y u) ≡ then_run (if b then refuses else gives x t) (λ y u. g x u)
run_if true d x t f g e = refl
run_if false d x t f g e = e

then_assoc : {A B C : Type 0} (x : Run A) (f : A → Place → Run B) (g : B → Place → Run C)
    → then_run (then_run x f) g ≡ then_run x (λ a t. then_run (f a t) g)
then_assoc (gives a s) f g = refl
then_assoc refuses f g = refl
then_assoc strays f g = refl

replaced_even : (p : List ℕ) (d y : Draft) → Pairs (replaced p d y) (replaced p d y)
replaced_even p d y s m = by (put_part p y d) where
  by : (z : Option Draft) → EndsAlike (if_some z (λ e. gives e s)) (if_some z (λ e. gives e (timed m s)))
  by None = tt
  by (Some e) = (m, refl)

module _ (into : Filler) (w : ℕ) (p : List ℕ) (d x : Draft) (is : part p d ≡ Some x) where
  tested_part : (s : Place) → tested_at into w p d s ≡ then_run (tested into w x s) (replaced p d)
  tested_part s =
      ap (λ (z : Option Draft). then_run (if_some z (λ x. if_some (length_in x) (λ n. needed (n * w + 0) d s))) (λ y t. within p into y t))
      is ∙ by (length_in x) where
        by : (z : Option ℕ)
            → then_run (if_some z (λ n. needed (n * w + 0) d s)) (λ y t. within p into y t)
            ≡ then_run (then_run (if_some z (λ n. needed (n * w + 0) x s)) (λ y t. into x t)) (replaced p d)
        by None = refl
        by (Some n) =
            run_if (nat_lt (length s.left) (n * w + 0)) d x
            (record { pos = s.pos; left = s.left; near = max (n * w + 0) s.near; tests = raised s.tests 1 }) (within p into)
            (λ x t. then_run (into x t) (replaced p d)) (within_is into x _ p d is)
            ∙ sym (then_assoc (needed (n * w + 0) x s) (λ y t. into x t) (replaced p d))

-- a loop, and the test and the row, at a path
at_alike : (loop into : Filler) (w : ℕ) (p : List ℕ) (t u : Ty) (d : Draft) (s : Place) (m : ℕ) → ty_at p t ≡ Some u → IsDraft t d
    → ((x : Draft) (s : Place) (m : ℕ) → IsDraft u x → EndsAlike (loop x s) (tested into w x (timed m s)))
    → EndsAlike (within p loop d s) (tested_at into w p d (timed m s))
at_alike loop into w p t u d s m is h go = by (part p d) refl where
  by : (z : Option Draft) → part p d ≡ z → EndsAlike (within p loop d s) (tested_at into w p d (timed m s))
  by None e = subst (λ (y : Run Draft). EndsAlike y (tested_at into w p d (timed m s))) (sym (no_part loop s p d e)) tt
  by (Some x) e =
      subst (λ (y : Run Draft). EndsAlike y (tested_at into w p d (timed m s))) (sym (within_is loop x s p d e))
      (subst (EndsAlike (then_run (loop x s) (replaced p d))) (sym (tested_part into w p d x e (timed m s)))
      (then_alike (loop x s) (tested into w x (timed m s)) (replaced p d) (replaced p d) (go x s m (part_typed p t u d x is e h))
      (replaced_even p d)))

-- ---- loops, arms and values that may be there

items_both : (f g : Filler) (k : Count) (u : Ty) → Fills u f g → Fills (items_type k u) (fill_each f) (fill_each g)
items_both f g k u go d s m h = (each_given f (items_type k u) d s, by d h) where
  each : (w : Ty) (n : ℕ) → u ≡ w → EndsAlike (fill_items f w n s) (fill_items g w n (timed m s))
  each w n same =
      map_alike (λ vs. done (items (vals_of vs))) (runs (λ v. settled (f (fresh w) v)) n s)
      (runs (λ v. settled (g (fresh w) v)) n (timed m s))
      (runs_alike (λ v. settled (f (fresh w) v)) (λ v. settled (g (fresh w) v))
      (λ v j. settled_alike (f (fresh w) v) (g (fresh w) (timed j v))
      (go (fresh w) v j (subst (λ (y : Ty). IsDraft y (fresh w)) (sym same) (fresh_is w))).1) n s m)

  by : (d : Draft) → IsDraft (items_type k u) d → EndsAlike (fill_each f d s) (fill_each g d (timed m s))
  by (raw (items_type c w)) h = let same : u ≡ w = cc in each w (least c) same
  by (listed w n) h = let is = h.1 in let same : u ≡ w = cc in each w n same
  by (raw (array_type a)) h = absurd cc
  by (lined a n) h = absurd cc
  by _ h = tt

lines_both : (f : Filler) (a : Array) → AreEven f → Fills (array_type a) (fill_each f) (fill_each f)
lines_both f a go d s m h = (each_given f (array_type a) d s, by d h) where
  each : (b : Array) (n : ℕ) → EndsAlike (fill_row f b n s) (fill_row f b n (timed m s))
  each b n =
      map_alike (λ ns. done (row (kind_of b) ns)) (runs (λ v. settled_number (f (digit b) v)) n s)
      (runs (λ v. settled_number (f (digit b) v)) n (timed m s))
      (runs_alike (λ v. settled_number (f (digit b) v)) (λ v. settled_number (f (digit b) v))
      (λ v j. number_alike (f (digit b) v) (f (digit b) (timed j v)) (go (digit b) v j)) n s m)

  by : (d : Draft) → IsDraft (array_type a) d → EndsAlike (fill_each f d s) (fill_each f d (timed m s))
  by (raw (array_type b)) h = each b (least (count_of b))
  by (lined b n) h = each b n
  by (raw (items_type c w)) h = absurd cc
  by (listed w n) h = absurd (let is = h.1 in cc)
  by _ h = tt

any_given : {A : Type 0} (t : Ty) (f : A → Val) (x : Run A) → Gives (IsDraft t) (map_run (λ v. done (f v)) x)
any_given t f (gives a s) = tt
any_given t f refuses = tt
any_given t f strays = tt

arm_both : (f g : ℤ → Filler) (s0 : Scalar) (arms : Arms) → ((n : ℤ) (w : Ty) → type_of_arm arms n ≡ Some w → Fills w (f n) (g n))
    → Fills (choice_type s0 arms) (fill_arm f) (fill_arm g)
arm_both f g s0 arms go (tagged n w) s m h =
    let same : h.1 ≡ arms = cc' h.2 in
    let there : type_of_arm arms n ≡ Some w = ap (λ (y : Arms). type_of_arm y n) (sym same) ∙ h.3 in (
      any_given (choice_type s0 arms) (λ v. arm n v) (settled (f n (fresh w) s)),
      map_alike (λ v. done (arm n v)) (settled (f n (fresh w) s)) (settled (g n (fresh w) (timed m s)))
          (settled_alike (f n (fresh w) s) (g n (fresh w) (timed m s)) (go n w there (fresh w) s m (fresh_is w)).1),
    ) where
      cc' : {x y : Scalar} {a b : Arms} → choice_type x a ≡ choice_type y b → b ≡ a
      cc' e = cc
arm_both f g s0 arms go _ s m h = (tt, tt)

present_both : (f g : Filler) (u : Ty) → Fills u f g → Fills (maybe_type u) (fill_present f) (fill_present g)
present_both f g u go (flagged w) s m h =
    let same : u ≡ w = cc in (
      any_given (maybe_type u) (λ v. present v) (settled (f (fresh w) s)),
      map_alike (λ v. done (present v)) (settled (f (fresh w) s)) (settled (g (fresh w) (timed m s))) (settled_alike (f (fresh w) s)
          (g (fresh w) (timed m s)) (go (fresh w) s m (subst (λ (y : Ty). IsDraft y (fresh w)) (sym same) (fresh_is w))).1),
    )
present_both f g u go (done absent) s m h = (tt, (m, refl))
present_both f g u go _ s m h = (tt, tt)

-- ---- the whole

module _ (e : Encoding) (c : Callees) where
  -- tests, skips and takes
  turn_even : (b : Recv) → descs b ≡ Some 0 → AreEven (fill c b)
  turn_even finish f d s m = (m, refl)
  turn_even (need n r) f d s m =
      then_alike (needed n d s) (needed n d (timed m s)) (fill c r) (fill c r) (needed_even n d s m) (turn_even r f)
  turn_even (skip_any a r) f d s m = then_alike (skipped (λ o. true) a d s) (skipped (λ o. true) a d (timed m s)) (fill c r) (fill c r)
      (skipped_even (λ o. true) a d s m) (turn_even r f)
  turn_even (skip_zero a r) f d s m = then_alike (skipped all_zero a d s) (skipped all_zero a d (timed m s)) (fill c r) (fill c r)
      (skipped_even all_zero a d s m) (turn_even r f)
  turn_even (pass n gs r) f d s m =
      then_alike (all_got gs d s) (all_got gs d (timed m s)) (λ x t. then_run (passed n x t) (fill c r))
      (λ x t. then_run (passed n x t) (fill c r)) (all_even gs d s m)
      (λ x t j. then_alike (passed n x t) (passed n x (timed j t)) (fill c r) (fill c r) (passed_even n x t j) (turn_even r f))
  turn_even (desc p name size mul r) f d s m = absurd (none (descs r) f) where
    none : (z : Option ℕ) → option_map suc z ≡ Some 0 → ⊥
    none None g = cc
    none (Some n) g = let g' : suc n ≡ 0 = cc in omega (arith, g')
  turn_even _ f d s m = absurd cc

  -- a loop each of whose turns is a number, and the test and the row
  row_both : (into : Filler) (a : Array) (p : List ℕ) (b r r' : Recv) (t : Ty) → ty_at p t ≡ Some (array_type a)
      → b ≡ number_turn (element_width e a) (order_of e)
      → ((x : Draft) (s : Place) (m : ℕ) → IsDraft (array_type a) x
      → EndsAlike (fill_each (fill c (number_turn (element_width e a) (order_of e))) x s) (tested into (element_width e a) x (timed m s)))
      → Fills t (fill c r) (fill c r')
      → Fills t (fill c (each p b r)) (λ d s. then_run (if_some (part p d) (λ x. if_some (length_in x)
      (λ n. needed (n * element_width e a + 0) d s))) (λ y u. then_run (within p into y u) (fill c r')))
  row_both into a p b r r' t is body alike rest d s m h =
      let loop : EndsAlike (within p (fill_each (fill c b)) d s) (tested_at into (element_width e a) p d (timed m s)) =
      subst (λ (y : Recv). EndsAlike (within p (fill_each (fill c y)) d s) (tested_at into (element_width e a) p d (timed m s))) (sym body)
      (at_alike (fill_each (fill c (number_turn (element_width e a) (order_of e)))) into (element_width e a) p t (array_type a) d s m is h
      alike) in
      subst (Both t (then_run (within p (fill_each (fill c b)) d s) (fill c r)))
      (then_assoc (if_some (part p d) (λ x. if_some (length_in x) (λ n. needed (n * element_width e a + 0) d (timed m s))))
      (λ y u. within p into y u) (fill c r'))
      (then_both t (within p (fill_each (fill c b)) d s) (tested_at into (element_width e a) p d (timed m s)) (fill c r) (fill c r')
      (within_keeps p t (fill_each (fill c b)) (λ u e' x v k. each_given (fill c b) u x v) d s h, loop) rest)

  -- the turn of a loop over an array of a layout
  turn_is : (a : Array) (b : Recv) (w : ℕ) → IsTurn e a b → layout_of e a ≡ Some (w, order_of e) → element_width e a ≡ w
      → b ≡ number_turn (element_width e a) (order_of e)
  turn_is a b w turn laid wide =
      subst (λ (l : Option (ℕ × Order)). IsNumber l b) (laid ∙ ap (λ (n : ℕ). Some (n, order_of e)) (sym wide)) turn.0

  array_both : (k : Sort) (a : Array) (p : List ℕ) (b r r' : Recv) (t : Ty) → sort_of e a ≡ k → ty_at p t ≡ Some (array_type a)
      → IsTurn e a b → Fills t (fill c r) (fill c r')
      → Fills t (fill c (each p b r)) (fill c (row_or_loop k (element_width e a) (order_of e) p b r'))
  array_both sort.Block a p b r r' t of is turn rest d s m h =
      let lay = block_layout e a of in
      row_both (row_into (order_of e)) a p b r r' t is (turn_is a b (width (kind_of a)) turn lay.0 lay.1)
      (block_alike c (element_width e a) (order_of e) a (element_wide e a) lay.1) rest d s m h
  array_both sort.Wide a p b r r' t of is turn rest d s m h =
      let lay = wide_layout e a of in
      row_both (wide_into (order_of e)) a p b r r' t is (turn_is a b 4 turn lay.0 lay.1)
      (wide_alike c (element_width e a) (order_of e) a (element_wide e a) lay.1) rest d s m h
  array_both sort.Looped a p b r r' t of is turn rest d s m h =
      then_both t (within p (fill_each (fill c b)) d s) (within p (fill_each (fill c b)) d (timed m s)) (fill c r) (fill c r')
      (within_both p t (array_type a) (fill_each (fill c b)) (fill_each (fill c b)) is (lines_both (fill c b) a (turn_even b turn.1)) d s m
      h) rest

  -- bodies that end likewise, by the types of their values
  abbrev Body : Recv → Type 0
  Body b = (u : Ty) → IsReady e u b → Fills u (fill c b) (fill c (rowed e u b))

  loop_both : (z : Option Ty) (p : List ℕ) (b r r' : Recv) (t : Ty) → ty_at p t ≡ z → LoopIs e z b (λ u. IsReady e u b) → Body b
      → Fills t (fill c r) (fill c r')
      → Fills t (fill c (each p b r)) (fill c (loop_rowed e z p b (λ u. rowed e u b) r'))
  loop_both (Some (array_type a)) p b r r' t is ready body rest d s m h = array_both (sort_of e a) a p b r r' t refl is ready rest d s m h
  loop_both (Some (items_type k u)) p b r r' t is ready body rest d s m h =
      then_both t (within p (fill_each (fill c b)) d s) (within p (fill_each (fill c (rowed e u b))) d (timed m s)) (fill c r) (fill c r')
      (within_both p t (items_type k u) (fill_each (fill c b)) (fill_each (fill c (rowed e u b))) is
      (items_both (fill c b) (fill c (rowed e u b)) k u (body u ready)) d s m h) rest
  loop_both None p b r r' t is ready body rest d s m h = absurd ready
  loop_both (Some _) p b r r' t is ready body rest d s m h = absurd ready

  some_both : (z : Option Ty) (p : List ℕ) (b : Recv) (t : Ty) → present_at p t ≡ z → OfType z (λ u. IsReady e u b) → Body b
      → Fills t (within p (fill_present (fill c b))) (within p (fill_present (fill c (by_type z b (λ u. rowed e u b)))))
  some_both None p b t is ready body d s m h = absurd ready
  some_both (Some u) p b t is ready body d s m h =
      let k = opened (ty_at p t) present_type u is in
      within_both p t (maybe_type u) (fill_present (fill c b)) (fill_present (fill c (rowed e u b))) (k.1 ∙ ap Some (maybe_of k.0 u k.2))
      (present_both (fill c b) (fill c (rowed e u b)) u (body u ready)) d s m h

  switch_both : (z : Option Arms) (p : List ℕ) (cs : Cases) (t : Ty) → arms_at p t ≡ z → OfType z (λ arms. CasesReady e arms cs)
      → ((arms : Arms) (n : ℤ) (w : Ty) → CasesReady e arms cs → type_of_arm arms n ≡ Some w
      → Fills w (fill_case c cs n) (fill_case c (cases_rowed e arms cs) n))
      → Fills t (within p (fill_arm (fill_case c cs))) (within p (fill_arm (fill_case c (by_type z cs (λ arms. cases_rowed e arms cs)))))
  switch_both None p cs t is ready body d s m h = absurd ready
  switch_both (Some arms) p cs t is ready body d s m h =
      let k = opened (ty_at p t) arms_type arms is in
      let ch = choice_of k.0 arms k.2 in
      within_both p t (choice_type ch.0 arms) (fill_arm (fill_case c cs)) (fill_arm (fill_case c (cases_rowed e arms cs)))
      (k.1 ∙ ap Some ch.1)
      (arm_both (fill_case c cs) (fill_case c (cases_rowed e arms cs)) ch.0 arms (λ n w there. body arms n w ready there)) d s m h

  if_both : (q : Bool) (u w : Ty) (arms : Arms) (n : ℤ) (f g f' g' : Filler) → (if q then Some u else type_of_arm arms n) ≡ Some w
      → Fills u f g → ((v : Ty) → type_of_arm arms n ≡ Some v → Fills v f' g') → (d : Draft) (s : Place) (m : ℕ) → IsDraft w d
      → Both w (if q then f d s else f' d s) (if q then g d (timed m s) else g' d (timed m s))
  if_both true u w arms n f g f' g' there go go' d s m h = let same : u ≡ w = cc in subst (λ (y : Ty). Fills y f g) same go d s m h
  if_both false u w arms n f g f' g' there go go' d s m h = go' w there d s m h

  mutual
    pub alike : (b : Recv) (t : Ty) → IsReady e t b → Fills t (fill c b) (fill c (rowed e t b))
    alike finish t ok d s m h = (h, (m, refl))
    alike (need n r) t ok d s m h = then_both t (needed n d s) (needed n d (timed m s)) (fill c r) (fill c (rowed e t r))
        (needed_gives (IsDraft t) d h n s, needed_even n d s m) (alike r t ok)
    alike (need_row p u x r) t ok d s m h = absurd ok
    alike (skip_any a r) t ok d s m h =
        then_both t (skipped (λ o. true) a d s) (skipped (λ o. true) a d (timed m s)) (fill c r) (fill c (rowed e t r))
        (skipped_gives (IsDraft t) (λ o. true) a d s h, skipped_even (λ o. true) a d s m) (alike r t ok)
    alike (skip_zero a r) t ok d s m h = then_both t (skipped all_zero a d s) (skipped all_zero a d (timed m s)) (fill c r)
        (fill c (rowed e t r)) (skipped_gives (IsDraft t) all_zero a d s h, skipped_even all_zero a d s m) (alike r t ok)
    alike (pass n gs r) t ok d s m h =
        then_both t (all_got gs d s) (all_got gs d (timed m s)) (λ x u. then_run (passed n x u) (fill c r))
        (λ x u. then_run (passed n x u) (fill c (rowed e t r))) (all_keep t gs d s h, all_even gs d s m)
        (λ x u j k. then_both t (passed n x u) (passed n x (timed j u)) (fill c r) (fill c (rowed e t r))
        (passed_gives (IsDraft t) x k n u, passed_even n x u j) (alike r t ok))
    alike (desc p name size mul r) t ok d s m h =
        then_both t (within p (desc_into name size mul) d s) (within p (desc_into name size mul) d (timed m s)) (fill c r)
        (fill c (rowed e t r)) (
          within_keeps p t (desc_into name size mul) (λ u is. desc_keeps u name size mul) d s h,
          within_even p (desc_into name size mul) (desc_even name size mul) d s m,
        ) (alike r t ok)
    alike (row_block p o r) t ok d s m h = absurd ok
    alike (row_wide p o r) t ok d s m h = absurd ok
    alike (each p b r) t ok d s m h = loop_both (ty_at p t) p b r (rowed e t r) t refl ok.0 (λ u. alike b u) (alike r t ok.1) d s m h
    alike (switch p cs r) t ok d s m h =
        then_both t (within p (fill_arm (fill_case c cs)) d s)
        (within p (fill_arm (fill_case c (by_type (arms_at p t) cs (λ arms. cases_rowed e arms cs)))) d (timed m s)) (fill c r)
        (fill c (rowed e t r))
        (switch_both (arms_at p t) p cs t refl ok.0 (λ arms n w. cases_alike cs arms n w) d s m h) (alike r t ok.1)
    alike (if_there p b r) t ok d s m h =
        then_both t (within p (fill_present (fill c b)) d s)
        (within p (fill_present (fill c (by_type (present_at p t) b (λ u. rowed e u b)))) d (timed m s)) (fill c r) (fill c (rowed e t r))
        (some_both (present_at p t) p b t refl ok.0 (λ u. alike b u) d s m h) (alike r t ok.1)
    alike (call k p r) t ok d s m h = absurd ok

    cases_alike : (cs : Cases) (arms : Arms) (n : ℤ) (w : Ty) → CasesReady e arms cs → type_of_arm arms n ≡ Some w
        → Fills w (fill_case c cs n) (fill_case c (cases_rowed e arms cs) n)
    cases_alike (default b) (others t) n w ok there d s m h =
        let same : t ≡ w = cc in
        subst (λ (y : Ty). Fills y (fill c b) (fill c (rowed e t b))) same (alike b t ok) d s m h
    cases_alike (case j b cs) (arm_type k t arms) n w ok there d s m h =
        if_both (int_eq n j) t w arms n (fill c b) (fill c (rowed e t b)) (fill_case c cs n) (fill_case c (cases_rowed e arms cs) n)
        (subst (λ (i : ℤ). (if int_eq n i then Some t else type_of_arm arms n) ≡ Some w) ok.0 there) (alike b t ok.1)
        (λ v is. cases_alike cs arms n v ok.2 is) d s m h
    cases_alike no_default no_other n w ok there d s m h = absurd cc
    cases_alike no_default (others t) n w ok there d s m h = absurd ok
    cases_alike no_default (arm_type k t arms) n w ok there d s m h = absurd ok
    cases_alike (default b) no_other n w ok there d s m h = absurd ok
    cases_alike (default b) (arm_type k t arms) n w ok there d s m h = absurd ok
    cases_alike (case j b cs) no_other n w ok there d s m h = absurd ok
    cases_alike (case j b cs) (others t) n w ok there d s m h = absurd ok
