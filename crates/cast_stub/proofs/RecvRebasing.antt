-- Code that receives, made for a part, on the whole, by induction on the code.
use Rattle.std.proofs.Common.{◌≡◌, ℕ, zero, suc, ◌+◌, ◌-◌, ◌*◌, List, [], ◌∷◌, ◌++◌, map, length, take, drop, Option, None, Some, option_map, refl, sym, ap, subst, ◌∙◌, Bool, true, false, if◌then◌else◌}
use Rattle.std.specs.Prelude.{nat_le, nat_lt, max}
use Rattle.std.specs.Int.{Width}
use Rattle.kit_base.specs.Causes.{raised}
use Rattle.wire_def.specs.declared.head.Order.{Order}
use Rattle.wire_def.specs.Scalars.{gap}
use Rattle.wire_def.specs.Orders.{width_in, loaded}
use Rattle.cast_stub.specs.declared.recv.Get.{Get}
use Rattle.cast_stub.specs.declared.recv.Get.TheVariants as get
use Rattle.cast_stub.specs.Steps.{is_width}
use Rattle.cast_stub.specs.Parts.{on_some, IsThere}
use Rattle.cast_stub.specs.RecvBlock.{Recv, finish, need, need_row, skip_any, skip_zero, pass, desc, row_block, row_wide, each, switch, if_there, call}
use Rattle.cast_stub.specs.RecvAppend.{get_rebased, rebase}
use Rattle.cast_stub.specs.Draft.{Draft, done, fields, Drafts, no_draft, draft, length_in}
use Rattle.cast_stub.specs.Fill.{at_field, within, field_at, in_draft, part, into, const_got, got, all_got, fill_each, fill_arm, fill_present, Callees, fill, fill_case}
use Rattle.cast_stub.specs.Into.{needed, passed, skipped, all_zero, word_at, same_octets}
use Rattle.cast_stub.specs.Runs.{Place, Run, gives, refuses, strays, Filler, then_run, map_run, if_some, if_passed}
use Rattle.cast_stub.specs.PutPart.{put_part, put_field}
use Rattle.cast_stub.specs.Into.{desc_into, row_into, wide_into}
use Rattle.cast_stub.proofs.RecvParts.{replaced, within_is, put_is_there}
use Rattle.cast_stub.proofs.Rebasing.{on_some-on_some, on_some_same}

-- ---- a part of a part

at_field_same : (n : ℕ) (f g : Filler) (ds : Drafts) (s : Place) → ((d : Draft) → f d s ≡ g d s) → at_field n f ds s ≡ at_field n g ds s
at_field_same n f g no_draft s e = refl
at_field_same zero f g (draft d ds) s e = ap (map_run (λ x. draft x ds)) (e d)
at_field_same (suc n) f g (draft d ds) s e = ap (map_run (draft d)) (at_field_same n f g ds s e)

pub within_within : (q p : List ℕ) (f : Filler) (d : Draft) (s : Place) → within (q ++ p) f d s ≡ within q (within p f) d s
within_within [] p f d s = refl
within_within (n ∷ q) p f (fields ds) s =
    ap (map_run fields) (at_field_same n (within (q ++ p) f) (within q (within p f)) ds s (λ (d : Draft). within_within q p f d s))
within_within (n ∷ q) p f _ s = refl

part-append : (q p : List ℕ) (d : Draft) → part (q ++ p) d ≡ on_some (part q d) (part p)
part-append [] p d = refl
part-append (n ∷ q) p d =
    on_some_same (in_draft n d) (part (q ++ p))
    (λ x. on_some (part q x) (part p)) (part-append q p) ∙ sym (on_some-on_some (in_draft n d) (part q) (part p))

-- ---- what was put at a path is there, and is replaced by what is put there next

some_map : {A B : Type 0} (h : A → B) (o : Option A) (b : B) → option_map h o ≡ Some b → (a : A) × (o ≡ Some a) × (h a ≡ b)
some_map h (Some a) b e = (a, refl, cc)
some_map h None b e = absurd cc

module _ (y : Draft) where
  field_put : (p : List ℕ) → ((d e : Draft) → put_part p y d ≡ Some e → part p e ≡ Some y) → (n : ℕ) (ds es : Drafts) → put_field n p y ds
      ≡ Some es → on_some (field_at n es) (part p) ≡ Some y
  field_put p h n no_draft es e = absurd cc
  field_put p h zero (draft d ds) es e =
      let m = some_map (λ x. draft x ds) (put_part p y d) es e in
      subst (λ (z : Drafts). on_some (field_at 0 z) (part p) ≡ Some y) m.2 (h d m.0 m.1)
  field_put p h (suc n) (draft d ds) es e =
      let m = some_map (draft d) (put_field n p y ds) es e in
      subst (λ (z : Drafts). on_some (field_at (suc n) z) (part p) ≡ Some y) m.2 (field_put p h n ds m.0 m.1)

  pub put_there : (p : List ℕ) (d e : Draft) → put_part p y d ≡ Some e → part p e ≡ Some y
  put_there [] d e h = sym h
  put_there (n ∷ p) (fields ds) e h =
      let m = some_map fields (put_field n p y ds) e h in
      subst (λ (z : Draft). part (n ∷ p) z ≡ Some y) m.2 (field_put p (put_there p) n ds m.0 m.1)
  put_there (n ∷ p) _ e h = absurd cc

module _ (y z : Draft) where
  field_again : (p : List ℕ) → ((d e : Draft) → put_part p y d ≡ Some e → put_part p z e ≡ put_part p z d) → (n : ℕ) (ds es : Drafts)
      → put_field n p y ds ≡ Some es → put_field n p z es ≡ put_field n p z ds
  field_again p h n no_draft es e = absurd cc
  field_again p h zero (draft d ds) es e =
      let m = some_map (λ x. draft x ds) (put_part p y d) es e in
      subst (λ (x : Drafts). put_field 0 p z x ≡ put_field 0 p z (draft d ds)) m.2 (ap (option_map (λ x. draft x ds)) (h d m.0 m.1))
  field_again p h (suc n) (draft d ds) es e =
      let m = some_map (draft d) (put_field n p y ds) es e in
      subst
      (λ (x : Drafts).
      put_field (suc n) p z x ≡ put_field (suc n) p z (draft d ds)) m.2 (ap (option_map (draft d)) (field_again p h n ds m.0 m.1))

  pub put_again : (p : List ℕ) (d e : Draft) → put_part p y d ≡ Some e → put_part p z e ≡ put_part p z d
  put_again [] d e h = refl
  put_again (n ∷ p) (fields ds) e h =
      let m = some_map fields (put_field n p y ds) e h in
      subst
      (λ (x : Draft).
      put_part (n ∷ p) z x ≡ put_part (n ∷ p) z (fields ds)) m.2 (ap (option_map fields) (field_again p (put_again p) n ds m.0 m.1))
  put_again (n ∷ p) _ e h = absurd cc

module _ (x : Draft) where
  field_same : (p : List ℕ) → ((d : Draft) → part p d ≡ Some x → put_part p x d ≡ Some d) → (n : ℕ) (ds : Drafts)
      → on_some (field_at n ds) (part p) ≡ Some x → put_field n p x ds ≡ Some ds
  field_same p h n no_draft e = absurd cc
  field_same p h zero (draft d ds) e = ap (option_map (λ z. draft z ds)) (h d e)
  field_same p h (suc n) (draft d ds) e = ap (option_map (draft d)) (field_same p h n ds e)

  pub put_same : (p : List ℕ) (d : Draft) → part p d ≡ Some x → put_part p x d ≡ Some d
  put_same [] d e = sym e
  put_same (n ∷ p) (fields ds) e = ap (option_map fields) (field_same p (put_same p) n ds e)
  put_same (n ∷ p) _ e = absurd cc

-- ---- one operation, and those after it

-- what is done to the whole is what is done to the part, put back
abbrev pub Lifts : List ℕ → Filler → Filler → Type 0
Lifts q g h = (d x : Draft) (s : Place) → part q d ≡ Some x → g d s ≡ then_run (h x s) (replaced q d)

module _ (q : List ℕ) (g h : Filler) (lifts : Lifts q g h) where
  lifted : (X : Run Draft) (d x : Draft) → part q d ≡ Some x → then_run (then_run X (replaced q d)) g
      ≡ then_run (then_run X h) (replaced q d)
  lifted refuses d x e = refl
  lifted strays d x e = refl
  lifted (gives y t) d x e = put (put_part q y d) refl (put_is_there q y x d e) where
    same : (f : Draft) → put_part q y d ≡ Some f → (z : Run Draft) → then_run z (replaced q f) ≡ then_run z (replaced q d)
    same f is (gives z u) = ap (λ (o : Option Draft). if_some o (λ e. gives e u)) (put_again y z q d f is)
    same f is refuses = refl
    same f is strays = refl

    put : (o : Option Draft) → put_part q y d ≡ o → IsThere (put_part q y d) → then_run (replaced q d y t) g
        ≡ then_run (h y t) (replaced q d)
    put None is there = absurd (subst IsThere is there)
    put (Some f) is there =
        ap (λ (o : Option Draft). then_run (if_some o (λ e. gives e t)) g) is ∙ lifts f y t (put_there y q d f is) ∙ same f is (h y t)

  pub after : (F G : Filler) → Lifts q F G → Lifts q (λ d s. then_run (F d s) g) (λ x s. then_run (G x s) h)
  after F G first d x s e = ap (λ (z : Run Draft). then_run z g) (first d x s e) ∙ lifted (G x s) d x e

-- what does not look at the draft, and leaves it
abbrev pub IsIdle : Filler → Type 0
IsIdle f = (d x : Draft) (s : Place) → f d s ≡ map_run (λ y. d) (f x s)

idle_lifts : (q : List ℕ) (f : Filler) → IsIdle f → Lifts q f f
idle_lifts q f idle d x s e = idle d x s ∙ back (f x s) (idle x x s) where
  back : (z : Run Draft) → z ≡ map_run (λ y. x) z → map_run (λ y. d) z ≡ then_run z (replaced q d)
  back refuses is = refl
  back strays is = refl
  back (gives y t) is =
      let same : y ≡ x = cc in
      sym (ap (λ (w : Draft). replaced q d w t) same ∙ ap (λ (o : Option Draft). if_some o (λ e. gives e t)) (put_same x q d e))

needed_idle : (n : ℕ) → IsIdle (needed n)
needed_idle n d x s = either (nat_lt (length s.left) n) where
  either : (b : Bool)
      → (if b then refuses else gives d (record { pos = s.pos; left = s.left; near = max n s.near; tests = raised s.tests 1 }))
      ≡ map_run
      (λ y. d) (if b then refuses else gives x (record { pos = s.pos; left = s.left; near = max n s.near; tests = raised s.tests 1 }))
  either true = refl
  either false = refl

passed_idle : (n : ℕ) → IsIdle (passed n)
passed_idle n d x s = either (nat_le n s.near) where
  either : (b : Bool)
      → (if b then gives d (record { pos = s.pos + n; left = drop n s.left; near = s.near - n; tests = s.tests }) else strays)
      ≡ map_run
      (λ y. d) (if b then gives x (record { pos = s.pos + n; left = drop n s.left; near = s.near - n; tests = s.tests }) else strays)
  either true = refl
  either false = refl

then_idle : (f g : Filler) → IsIdle f → IsIdle g → IsIdle (λ d s. then_run (f d s) g)
then_idle f g hf hg d x s = ap (λ (z : Run Draft). then_run z g) (hf d x s) ∙ both (f x s) (hf x x s) where
  both : (z : Run Draft) → z ≡ map_run (λ y. x) z → then_run (map_run (λ y. d) z) g ≡ map_run (λ y. d) (then_run z g)
  both refuses is = refl
  both strays is = refl
  both (gives y t) is = hg d y t

tested_idle : (test : List ℕ → Bool) (k : ℕ) → IsIdle (λ d t. if test (take k t.left) then passed k d t else refuses)
tested_idle test k d x t = either (test (take k t.left)) where
  either : (b : Bool) → (if b then passed k d t else refuses) ≡ map_run (λ y. d) (if b then passed k x t else refuses)
  either true = passed_idle k d x t
  either false = refl

skipped_idle : (test : List ℕ → Bool) (a : ℕ) → IsIdle (skipped test a)
skipped_idle test a d x s = either (is_width a) where
  either : (b : Bool)
      → (if b then then_run (needed (gap s.pos a) d s)
      (λ d t. if test (take (gap s.pos a) t.left) then passed (gap s.pos a) d t else refuses) else refuses)
      ≡ map_run
      (λ y. d) (if b then then_run (needed (gap s.pos a) x s) (λ d t.
      if test (take (gap s.pos a) t.left) then passed (gap s.pos a) d t else refuses) else refuses)
  either true =
      then_idle (needed (gap s.pos a))
      (λ d t.
      if test (take (gap s.pos a) t.left) then passed (gap s.pos a) d t else refuses) (needed_idle (gap s.pos a))
      (tested_idle test (gap s.pos a)) d x s
  either false = refl

const_idle : (off : ℕ) (os : List ℕ) → IsIdle (const_got off os)
const_idle off os d x s = either (nat_le (off + length os) s.near) (same_octets os (take (length os) (drop off s.left))) where
  either : (b g : Bool) → (if b then (if g then gives d s else refuses) else strays)
      ≡ map_run (λ y. d) (if b then (if g then gives x s else refuses) else strays)
  either true true = refl
  either true false = refl
  either false g = refl

-- ---- operations at paths

within_lifts : (q p : List ℕ) (f : Filler) → Lifts q (within (q ++ p) f) (within p f)
within_lifts q p f d x s e = within_within q p f d s ∙ within_is (within p f) x s q d e

word_lifts : (q p : List ℕ) (off w : ℕ) (o : Order) (f : Width → ℕ → Filler)
    → Lifts q (λ d s. word_at off w o s (λ x m. within (q ++ p) (f x m) d s)) (λ d s. word_at off w o s (λ x m. within p (f x m) d s))
word_lifts q p off w o f d x s e = wide (width_in w) where
  near : (b : Bool) (y : Width) (m : ℕ) → (if b then within (q ++ p) (f y m) d s else strays)
      ≡ then_run (if b then within p (f y m) x s else strays) (replaced q d)
  near true y m = within_lifts q p (f y m) d x s e
  near false y m = refl

  wide : (z : Option Width) → if_passed z
      (λ y. if nat_le (off + w) s.near then within (q ++ p) (f y (loaded o y (take w (drop off s.left)))) d s else strays)
      ≡ then_run
      (if_passed z
      (λ y. if nat_le (off + w) s.near then within p (f y (loaded o y (take w (drop off s.left)))) x s else strays)) (replaced q d)
  wide None = refl
  wide (Some y) = near (nat_le (off + w) s.near) y (loaded o y (take w (drop off s.left)))

got_lifts : (q : List ℕ) (g : Get) → Lifts q (got (get_rebased q g)) (got g)
got_lifts q (get.Num off p w o) = word_lifts q p off w o (into (get.Num off p w o))
got_lifts q (get.Tag off p w o) = word_lifts q p off w o (into (get.Tag off p w o))
got_lifts q (get.Flag off p w o) = word_lifts q p off w o (into (get.Flag off p w o))
got_lifts q (get.Count off p mul add w o) = word_lifts q p off w o (into (get.Count off p mul add w o))
got_lifts q (get.Const off os) = idle_lifts q (const_got off os) (const_idle off os)

stay_lifts : (q : List ℕ) → Lifts q (λ d s. gives d s) (λ d s. gives d s)
stay_lifts q = idle_lifts q (λ d s. gives d s) (λ (d : Draft) (x : Draft) (s : Place). refl)

all_lifts : (q : List ℕ) (gs : List Get) → Lifts q (all_got (map (get_rebased q) gs)) (all_got gs)
all_lifts q [] = stay_lifts q
all_lifts q (g ∷ gs) = after q (all_got (map (get_rebased q) gs)) (all_got gs) (all_lifts q gs) (got (get_rebased q g)) (got g)
    (got_lifts q g)

row_lifts : (q p : List ℕ) (u k : ℕ) → Lifts q
    (λ d s. if_some (part (q ++ p) d) (λ x. if_some (length_in x) (λ n. needed (n * u + k) d s))) (λ d s.
    if_some (part p d) (λ x. if_some (length_in x) (λ n. needed (n * u + k) d s)))
row_lifts q p u k d x s e =
    ap (λ (o : Option Draft).
    if_some o (λ y. if_some (length_in y) (λ n. needed (n * u + k) d s))) (part-append q p d ∙ ap (λ (o : Option Draft).
    on_some o (part p)) e) ∙ looked (part p x) where
      many : (o : Option ℕ) → if_some o (λ n. needed (n * u + k) d s) ≡ then_run (if_some o (λ n. needed (n * u + k) x s)) (replaced q d)
      many None = refl
      many (Some n) = idle_lifts q (needed (n * u + k)) (needed_idle (n * u + k)) d x s e

      looked : (o : Option Draft) → if_some o
          (λ y. if_some (length_in y) (λ n. needed (n * u + k) d s)) ≡ then_run (if_some o (λ y.
          if_some (length_in y) (λ n. needed (n * u + k) x s))) (replaced q d)
      looked None = refl
      looked (Some y) = many (length_in y)

-- code that is made for a part, on the whole: where the part is there, the part is filled and put back
pub fill-rebase : (c : Callees) (q : List ℕ) (b : Recv) → Lifts q (fill c (rebase q b)) (fill c b)
fill-rebase c q finish = stay_lifts q
fill-rebase c q (need n r) = after q (fill c (rebase q r)) (fill c r) (fill-rebase c q r) (needed n) (needed n)
    (idle_lifts q (needed n) (needed_idle n))
fill-rebase c q (need_row p u e r) =
    after q (fill c (rebase q r)) (fill c r) (fill-rebase c q r)
    (λ d s. if_some (part (q ++ p) d) (λ x. if_some (length_in x) (λ n. needed (n * u + e) d s))) (λ d s.
    if_some (part p d) (λ x. if_some (length_in x) (λ n. needed (n * u + e) d s))) (row_lifts q p u e)
fill-rebase c q (skip_any a r) = after q (fill c (rebase q r)) (fill c r) (fill-rebase c q r)
    (skipped (λ o. true) a) (skipped (λ o. true) a) (idle_lifts q (skipped (λ o. true) a) (skipped_idle (λ o. true) a))
fill-rebase c q (skip_zero a r) = after q (fill c (rebase q r)) (fill c r) (fill-rebase c q r) (skipped all_zero a) (skipped all_zero a)
    (idle_lifts q (skipped all_zero a) (skipped_idle all_zero a))
fill-rebase c q (pass n gs r) =
    after q (λ x t. then_run (passed n x t) (fill c (rebase q r))) (λ x t. then_run (passed n x t) (fill c r))
    (after q (fill c (rebase q r)) (fill c r) (fill-rebase c q r) (passed n) (passed n) (idle_lifts q (passed n) (passed_idle n)))
    (all_got (map (get_rebased q) gs)) (all_got gs) (all_lifts q gs)
fill-rebase c q (desc p name size mul r) = after q (fill c (rebase q r)) (fill c r) (fill-rebase c q r)
    (within (q ++ p) (desc_into name size mul)) (within p (desc_into name size mul)) (within_lifts q p (desc_into name size mul))
fill-rebase c q (row_block p o r) = after q (fill c (rebase q r)) (fill c r) (fill-rebase c q r) (within (q ++ p) (row_into o))
    (within p (row_into o)) (within_lifts q p (row_into o))
fill-rebase c q (row_wide p o r) = after q (fill c (rebase q r)) (fill c r) (fill-rebase c q r) (within (q ++ p) (wide_into o))
    (within p (wide_into o)) (within_lifts q p (wide_into o))
fill-rebase c q (each p a r) = after q (fill c (rebase q r)) (fill c r) (fill-rebase c q r) (within (q ++ p) (fill_each (fill c a)))
    (within p (fill_each (fill c a))) (within_lifts q p (fill_each (fill c a)))
fill-rebase c q (switch p cs r) = after q (fill c (rebase q r)) (fill c r) (fill-rebase c q r)
    (within (q ++ p) (fill_arm (fill_case c cs))) (within p (fill_arm (fill_case c cs))) (within_lifts q p (fill_arm (fill_case c cs)))
fill-rebase c q (if_there p a r) = after q (fill c (rebase q r)) (fill c r) (fill-rebase c q r)
    (within (q ++ p) (fill_present (fill c a))) (within p (fill_present (fill c a))) (within_lifts q p (fill_present (fill c a)))
fill-rebase c q (call k p r) = after q (fill c (rebase q r)) (fill c r) (fill-rebase c q r) (within (q ++ p) (c k)) (within p (c k))
    (within_lifts q p (c k))
