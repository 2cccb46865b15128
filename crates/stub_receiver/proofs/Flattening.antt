-- Structs of numbers whose fields are read in order, by induction on the values that were read.
use Rattle.std.proofs.Common.{◌≡◌, ℕ, ℤ, zero, suc, ◌+◌, ◌-◌, ◌<◌, ◌≤◌, List, [], ◌∷◌, ◌++◌, length, drop, get_or, map, Option, None, Some, option_map, slice_get, refl, sym, ap, subst, ◌∙◌, Bool, true, false, if◌then◌else◌, add-one, arith, length-append}
use Rattle.std.specs.Prelude.{Ok, nat_le, nat_lt, max}
use Rattle.std.specs.Int.{Width}
use Rattle.std.proofs.Math.Seq.{drop-cons, drop-drop}
use Rattle.std.proofs.lemmas.List.{drop_all, length-map, map-append}
use Rattle.std.proofs.lemmas.Bool.{leb-true, le-leb}
use Rattle.kit_base.specs.Causes.{raised}
use Rattle.mint.specs.declared.node.Node.{Node}
use Rattle.mint.specs.declared.value.Value.{Value}
use Rattle.mint.specs.declared.value.Value.TheVariants as value
use Rattle.mint.specs.Types.{Ty, void_type, scalar_type, array_type, group_type, items_type, choice_type, maybe_type, unfolded, type_at, fields_at}
use Rattle.mint.specs.Values.{Val, num, group, Vals, no_more, val, vals_of, seen, all_seen}
use Rattle.raw_buf.specs.View.{View}
use Rattle.wire_def.specs.declared.head.Order.{Order}
use Rattle.wire_def.specs.Orders.{IsWidth, width_as}
use Rattle.cast_stub.specs.declared.recv.Get.{Get}
use Rattle.cast_stub.specs.declared.recv.Get.TheVariants as get
use Rattle.cast_stub.specs.declared.recv.RecvOp.{RecvOp}
use Rattle.cast_stub.specs.declared.recv.RecvOp.TheVariants as op
use Rattle.cast_stub.specs.Parts.{IsThere, on_some}
use Rattle.cast_stub.specs.RecvBlock.{Recv, finish, need, pass, code_seen, op_seen}
use Rattle.cast_stub.specs.Draft.{Draft, done, fields, Drafts, no_draft, draft, fresh, all_fresh, settle, settles}
use Rattle.cast_stub.specs.Fill.{at_field, within, word_got, got, all_got, fill, settled, Callees}
use Rattle.cast_stub.specs.Into.{num_into, needed, passed}
use Rattle.cast_stub.specs.Runs.{Place, Run, gives, refuses, strays, Filler, then_run, map_run, if_some, Holds}
use Rattle.cast_stub.proofs.RecvPieces.{seen-Need, seen-Take}
use Rattle.stub_receiver.specs.Drawn.{scalar_in, passing}
use Rattle.stub_receiver.specs.Ran.{place_of, Took}
use Rattle.stub_receiver.specs.Flat.{flat_path, flat_draft, flat_value, read_before, read_so_far, ReadsAll, take_run, flat_run}
use Rattle.stub_receiver.proofs.Putting.{holds_in}
use Rattle.stub_receiver.proofs.Getting.{scalar_taken, seen-Num}
use Rattle.stub_receiver.proofs.Becoming.{seen-Group}
use Rattle.stub_receiver.proofs.Within.{first_holds, word_of, word_holds, word_tested}

-- ---- fields that were read, before others

before_more : (vs : List Val) (v : Val) (ds : Drafts) → read_before (vs ++ v ∷ []) ds ≡ read_before vs (draft (done v) ds)
before_more [] v ds = refl
before_more (u ∷ vs) v ds = ap (draft (done u)) (before_more vs v ds)

before_settles : (vs : List Val) → settles (read_before vs no_draft) ≡ Some (vals_of vs)
before_settles [] = refl
before_settles (v ∷ vs) = ap (λ (o : Option Vals). on_some o (λ us. Some (val v us))) (before_settles vs)

flat_settles : (nested : Bool) (vs : List Val)
    → settle (flat_draft nested (read_before vs no_draft)) ≡ Some (flat_value nested (vals_of vs))
flat_settles false vs = ap (option_map group) (before_settles vs)
flat_settles true vs = ap (λ (o : Option Vals). option_map group (on_some (option_map group o) (λ v. Some (val v no_more))))
    (before_settles vs)

mapped_twice : {A B C : Type 0} (g : B → C) (f : A → B) (r : Run A) → map_run g (map_run f r) ≡ map_run (λ x. g (f x)) r
mapped_twice g f (gives x s) = refl
mapped_twice g f refuses = refl
mapped_twice g f strays = refl

before_at : (f : Filler) (vs : List Val) (x : Draft) (ds : Drafts) (s : Place)
    → at_field (length vs) f (read_before vs (draft x ds)) s ≡ map_run (λ y. read_before vs (draft y ds)) (f x s)
before_at f [] x ds s = refl
before_at f (v ∷ vs) x ds s = ap (map_run (draft (done v))) (before_at f vs x ds s)
    ∙ mapped_twice (draft (done v)) (λ y. read_before vs (draft y ds)) (f x s)

mapped_inside : (h : Draft → Drafts) (r : Run Draft)
    → map_run fields (map_run (λ z. draft z no_draft) (map_run fields (map_run h r)))
    ≡ map_run (λ y. fields (draft (fields (h y)) no_draft)) r
mapped_inside h (gives x s) = refl
mapped_inside h refuses = refl
mapped_inside h strays = refl

-- a filler on the field after those that were read
flat_within : (nested : Bool) (f : Filler) (vs : List Val) (x : Draft) (ds : Drafts) (s : Place)
    → within (flat_path nested (length vs)) f (flat_draft nested (read_before vs (draft x ds))) s
    ≡ map_run (λ y. flat_draft nested (read_before vs (draft y ds))) (f x s)
flat_within false f vs x ds s = ap (map_run fields) (before_at f vs x ds s)
    ∙ mapped_twice fields (λ y. read_before vs (draft y ds)) (f x s)
flat_within true f vs x ds s =
    ap (λ (r : Run Drafts). map_run fields (map_run (λ z. draft z no_draft) (map_run fields r))) (before_at f vs x ds s)
    ∙ mapped_inside (λ y. read_before vs (draft y ds)) (f x s)

-- ---- the field that is next

id_drop : (ids : List ℕ) (i id : ℕ) → slice_get ids i ≡ Some id → drop i ids ≡ id ∷ drop (i + 1) ids
id_drop [] i id e = absurd cc
id_drop (k ∷ ids) zero id e = let same : k ≡ id = cc in ap (λ (n : ℕ). n ∷ ids) same
id_drop (k ∷ ids) (suc i) id e =
    let next : suc i + 1 ≡ suc (i + 1) = omega arith in
    id_drop ids i id e ∙ sym (ap (λ (n : ℕ). id ∷ drop n (k ∷ ids)) next)

-- the drafts of the fields after a number of them
abbrev pub after : List Node → List ℕ → ℕ → Drafts
after nodes ids n = all_fresh (fields_at (unfolded nodes) (drop n ids))

next_field : (nodes : List Node) (nested : Bool) (ids : List ℕ) (vs : List Val) (id : ℕ) → slice_get ids (length vs) ≡ Some id
    → read_so_far nodes nested ids vs
    ≡ flat_draft nested (read_before vs (draft (fresh (type_at nodes id)) (after nodes ids (length vs + 1))))
next_field nodes nested ids vs id e =
    ap (λ (l : List ℕ). flat_draft nested (read_before vs (all_fresh (fields_at (unfolded nodes) l)))) (id_drop ids (length vs) id e)

more_read : (nodes : List Node) (nested : Bool) (ids : List ℕ) (vs : List Val) (v : Val)
    → flat_draft nested (read_before vs (draft (done v) (after nodes ids (length vs + 1))))
    ≡ read_so_far nodes nested ids (vs ++ v ∷ [])
more_read nodes nested ids vs v =
    let many : length vs + 1 ≡ length (vs ++ v ∷ []) = omega (arith, length-append vs (v ∷ [])) in
    ap (λ (ds : Drafts). flat_draft nested ds) (sym (before_more vs v (after nodes ids (length vs + 1))))
    ∙ ap (λ (n : ℕ). flat_draft nested (read_before (vs ++ v ∷ []) (after nodes ids n))) many

fresh_scalar : (T : Ty) (x : Width) (m : ℕ) (s : Place) → Holds (num_into x m (fresh T) s) → IsThere (scalar_in T)
fresh_scalar (scalar_type t) x m s h = tt
fresh_scalar void_type x m s h = absurd h
fresh_scalar (array_type a) x m s h = absurd h
fresh_scalar (group_type ts) x m s h = absurd h
fresh_scalar (items_type c t) x m s h = absurd h
fresh_scalar (choice_type t a) x m s h = absurd h
fresh_scalar (maybe_type t) x m s h = absurd h

fresh_taken : (T : Ty) (x : Width) (m : ℕ) (s : Place) (o : Option ℤ) → on_some (scalar_in T) (passing x m) ≡ o
    → Holds (num_into x m (fresh T) s)
    → Took (λ n. done (num n)) o s (num_into x m (fresh T) s)
fresh_taken (scalar_type t) x m s o e h = scalar_taken (scalar_type t) x m s o e h
fresh_taken void_type x m s o e h = absurd h
fresh_taken (array_type a) x m s o e h = absurd h
fresh_taken (group_type ts) x m s o e h = absurd h
fresh_taken (items_type c t) x m s o e h = absurd h
fresh_taken (choice_type t a) x m s o e h = absurd h
fresh_taken (maybe_type t) x m s o e h = absurd h

module _ (nodes : List Node) (nested : Bool) (ids : List ℕ) (values : List Value) (many id off : ℕ) (p : List ℕ) (w : ℕ) (o : Order)
    (s : Place) (wide : IsWidth w) (read : many ≡ length values) (leads : p ≡ flat_path nested many) (next : slice_get ids many ≡ Some id)
    (holds : Holds (word_got (get.Num off p w o) off p w o (read_so_far nodes nested ids (map seen values)) s))
    (m : ℕ) (is : m ≡ word_of off w o s) where
  -- the values of the fields that were read
  abbrev old : List Val
  old = map seen values

  long : many ≡ length old
  long = read ∙ sym (length-map values seen)

  here : flat_path nested (length old) ≡ p
  here = sym (leads ∙ ap (flat_path nested) long)

  there : slice_get ids (length old) ≡ Some id
  there = ap (slice_get ids) (sym long) ∙ next

  abbrev field_type : Ty
  field_type = type_at nodes id

  abbrev with_field : Draft → Draft
  with_field y = flat_draft nested (read_before old (draft y (after nodes ids (length old + 1))))

  inside : within (flat_path nested (length old)) (num_into (width_as w) m) (read_so_far nodes nested ids old) s
      ≡ map_run with_field (num_into (width_as w) m (fresh field_type) s)
  inside =
      ap (λ (d : Draft). within (flat_path nested (length old)) (num_into (width_as w) m) d s) (next_field nodes nested ids old id there)
      ∙ flat_within nested (num_into (width_as w) m) old (fresh field_type) (after nodes ids (length old + 1)) s

  held : Holds (num_into (width_as w) m (fresh field_type) s)
  held = holds_in with_field (num_into (width_as w) m (fresh field_type) s) (subst Holds inside
      (word_holds (get.Num off p w o) off p (flat_path nested (length old)) w o (read_so_far nodes nested ids old) s wide here holds m is))

  pub number_there : IsThere (scalar_in (type_at nodes id))
  number_there = fresh_scalar field_type (width_as w) m s held

  pub number_given : (n : ℤ) → on_some (scalar_in (type_at nodes id)) (passing (width_as w) m) ≡ Some n
      → word_got (get.Num off p w o) off p w o (read_so_far nodes nested ids (map seen values)) s
      ≡ gives (read_so_far nodes nested ids (map seen values ++ num n ∷ [])) s
  number_given n e = word_tested (get.Num off p w o) off p (flat_path nested (length old)) w o (read_so_far nodes nested ids old) s wide
      here holds m true (read_so_far nodes nested ids (old ++ num n ∷ [])) is
      (inside ∙ ap (map_run with_field) (fresh_taken field_type (width_as w) m s (Some n) e held)
      ∙ ap (λ (d : Draft). gives d s) (more_read nodes nested ids old (num n)))

  pub number_refused : on_some (scalar_in (type_at nodes id)) (passing (width_as w) m) ≡ None
      → word_got (get.Num off p w o) off p w o (read_so_far nodes nested ids (map seen values)) s ≡ refuses
  number_refused e = word_tested (get.Num off p w o) off p (flat_path nested (length old)) w o (read_so_far nodes nested ids old) s wide
      here holds m false (fresh field_type) is
      (inside ∙ ap (map_run with_field) (fresh_taken field_type (width_as w) m s None e held))

-- ---- one get after the other

pub gets_drop : (gs : List Get) (i : ℕ) (g : Get) → i < length gs → g ≡ get_or gs i g → drop i gs ≡ g ∷ drop (i + 1) gs
gets_drop gs i g lt is =
    let split : drop i gs ≡ get_or gs i g ∷ drop (i + 1) gs = rw (add-one, drop-cons gs i g) refl in
    split ∙ ap (λ (h : Get). h ∷ drop (i + 1) gs) (sym is)

module _ (gs : List Get) (i : ℕ) (g : Get) (d0 d : Draft) (s : Place) (lt : i < length gs) (split : drop i gs ≡ g ∷ drop (i + 1) gs)
    (left : all_got gs d0 s ≡ all_got (drop i gs) d s) where
  opened : all_got gs d0 s ≡ then_run (got g d s) (all_got (drop (i + 1) gs))
  opened = left ∙ ap (λ (l : List Get). all_got l d s) split

  pub get_holds : Holds (all_got gs d0 s) → Holds (got g d s)
  get_holds h = first_holds (got g d s) (all_got (drop (i + 1) gs)) (subst Holds opened h)

  pub get_gives : (e : Draft) → got g d s ≡ gives e s → all_got gs d0 s ≡ all_got (drop (i + 1) gs) e s
  get_gives e ran = opened ∙ ap (λ (r : Run Draft). then_run r (all_got (drop (i + 1) gs))) ran

  pub get_refuses : got g d s ≡ refuses → all_got gs d0 s ≡ refuses
  get_refuses ran = opened ∙ ap (λ (r : Run Draft). then_run r (all_got (drop (i + 1) gs))) ran

-- one value more
pub values_more : (vs : List Value) (n : ℤ) → map seen (vs ++ value.Num n ∷ []) ≡ map seen vs ++ num n ∷ []
values_more vs n = map-append seen vs (value.Num n ∷ []) ∙ ap (λ (v : Val). map seen vs ++ v ∷ []) (seen-Num n)

-- all fields were read
pub read_all : (nodes : List Node) (nested : Bool) (ids : List ℕ) (vs : List Value) → length vs ≡ length ids
    → read_so_far nodes nested ids (map seen vs) ≡ flat_draft nested (read_before (map seen vs) no_draft)
read_all nodes nested ids vs many =
    let past : drop (length (map seen vs)) ids ≡ [] = drop_all (length (map seen vs)) ids (omega (arith, length-map vs seen, many)) in
    ap (λ (l : List ℕ). flat_draft nested (read_before (map seen vs) (all_fresh (fields_at (unfolded nodes) l)))) past

pub ruleset reading = (values_more, read_all)

-- the value of a struct whose fields were all read
pub flat_settled : (nested : Bool) (vs : List Value) (x : Run Draft) (v : Val) (s : Place)
    → x ≡ gives (flat_draft nested (read_before (map seen vs) no_draft)) s → v ≡ flat_value nested (all_seen vs)
    → settled x ≡ gives v s
flat_settled nested vs x v s ran is =
    ap settled ran ∙ ap (λ (o : Option Val). if_some o (λ w. gives w s)) (flat_settles nested (map seen vs))
    ∙ ap (λ (w : Val). gives w s) (sym is)

-- what gets of all fields have done
all_read : (nested : Bool) (s : Place) (x : Run Draft) (o : Option (List Value)) (vs : List Value) → ReadsAll nested s x (Ok o)
    → o ≡ Some vs → x ≡ gives (flat_draft nested (read_before (map seen vs) no_draft)) s
all_read nested s x o vs h e = subst (λ (z : Option (List Value)). ReadsAll nested s x (Ok z)) e h

pub plain_read : (nested : Bool) (s : Place) (x : Run Draft) (o : Option (List Value)) (vs : List Value) → ReadsAll nested s x (Ok o)
    → o ≡ Some vs → nested ≡ false → settled x ≡ gives (seen (value.Group vs)) s
plain_read nested s x o vs h e is = flat_settled nested vs x (seen (value.Group vs)) s (all_read nested s x o vs h e)
    (seen-Group vs ∙ ap (λ (b : Bool). flat_value b (all_seen vs)) (sym is))

pub inner_read : (nested : Bool) (s : Place) (x : Run Draft) (o : Option (List Value)) (vs : List Value) (v : Value)
    → ReadsAll nested s x (Ok o) → o ≡ Some vs → nested ≡ true → seen v ≡ group (val (seen (value.Group vs)) no_more)
    → settled x ≡ gives (seen v) s
inner_read nested s x o vs v h e is made = flat_settled nested vs x (seen v) s (all_read nested s x o vs h e)
    (made ∙ ap (λ (w : Val). group (val w no_more)) (seen-Group vs) ∙ ap (λ (b : Bool). flat_value b (all_seen vs)) (sym is))

-- ---- the struct

pub outer_fresh : (nodes : List Node) (T : Ty) (ids : List ℕ) → T ≡ group_type (fields_at (unfolded nodes) ids)
    → fresh T ≡ read_so_far nodes false ids []
outer_fresh nodes T ids is = ap fresh is

pub inner_fresh : (nodes : List Node) (T : Ty) (outer : List ℕ) (id : ℕ) (ids : List ℕ)
    → T ≡ group_type (fields_at (unfolded nodes) outer) → outer ≡ id ∷ [] → type_at nodes id ≡ group_type (fields_at (unfolded nodes) ids)
    → fresh T ≡ read_so_far nodes true ids []
inner_fresh nodes T outer id ids is one inner =
    ap fresh (is ∙ ap (λ (l : List ℕ). group_type (fields_at (unfolded nodes) l)) one)
    ∙ ap (λ (t : Ty). fields (draft (fresh t) no_draft)) inner

-- ---- a take

-- the place after octets that were taken
abbrev pub after_take : ℕ → Place → Place
after_take n s = record { pos = s.pos + n; left = drop n s.left; near = s.near - n; tests = s.tests }

-- the place after a test of so many octets
abbrev pub after_test : ℕ → Place → Place
after_test n s = record { pos = s.pos; left = s.left; near = max n s.near; tests = raised s.tests 1 }

if_settled : (o : Option Val) (t s : Place) (v : Val) → if_some o (λ w. gives w t) ≡ gives v s → (o ≡ Some v) × (t ≡ s)
if_settled (Some w) t s v e =
    let same : w ≡ v = cc in
    let here : t ≡ s = cc in
    (ap (λ (u : Val). Some u) same, here)
if_settled None t s v e = absurd cc

passed_near : (n : ℕ) (d : Draft) (s : Place) → Holds (settled (passed n d s)) → n ≤ s.near
passed_near n d s h = checked (nat_le n s.near) refl h where
  checked : (b : Bool) → nat_le n s.near ≡ b
      → Holds (settled (if b then gives d (after_take n s) else strays))
      → n ≤ s.near
  checked true e k = leb-true n s.near e
  checked false e k = absurd k

passed_is : (n : ℕ) (d : Draft) (s : Place) → n ≤ s.near
    → passed n d s ≡ gives d (after_take n s)
passed_is n d s h =
    ap (λ (b : Bool). if b then gives d (after_take n s) else strays)
    (le-leb n s.near h)

module _ (x : Run Draft) (n : ℕ) (v : Val) (s : Place) (ran : settled x ≡ gives v s) (holds : Holds (settled (then_run x (passed n)))) where
  pub take_near : n ≤ s.near
  take_near = near_of x ran holds where
    near_of : (y : Run Draft) → settled y ≡ gives v s → Holds (settled (then_run y (passed n))) → n ≤ s.near
    near_of (gives d t) e h =
        let k = if_settled (settle d) t s v e in
        subst (λ (u : Place). n ≤ u.near) k.1 (passed_near n d t h)
    near_of refuses e h = absurd cc
    near_of strays e h = absurd h

  pub take_gives : (u : Place) → u ≡ after_take n s
      → settled (then_run x (passed n)) ≡ gives v u
  take_gives u is = given x ran where
    given : (y : Run Draft) → settled y ≡ gives v s → settled (then_run y (passed n)) ≡ gives v u
    given (gives d t) e =
        let k = if_settled (settle d) t s v e in
        ap (λ (z : Place). settled (passed n d z)) k.1 ∙ ap settled (passed_is n d s take_near)
        ∙ ap (λ (o : Option Val). if_some o (λ w. gives w (after_take n s)))
        k.0 ∙ ap (λ (z : Place). gives v z) (sym is)
    given refuses e = absurd cc
    given strays e = absurd cc

pub take_first : (x : Run Draft) (n : ℕ) → Holds (settled (then_run x (passed n))) → Holds x
take_first (gives d t) n h = tt
take_first refuses n h = tt
take_first strays n h = h

pub take_refuses : (x : Run Draft) (n : ℕ) → x ≡ refuses → settled (then_run x (passed n)) ≡ refuses
take_refuses x n e = ap (λ (r : Run Draft). settled (then_run r (passed n))) e

abbrev pub placed_at : ℕ → List ℕ → ℕ → ℕ → Place
placed_at a l n t = record { pos = a; left = l; near = n; tests = t }

-- the place after octets that were taken
pub place_taken : (v w : View) (n : ℕ) → w.pos ≡ v.pos + n → w.near ≡ v.near - n → w.tests ≡ v.tests → w.octets ≡ v.octets
    → place_of w ≡ after_take n (place_of v)
place_taken v w n pos near tests octets =
    let left : drop w.pos w.octets ≡ drop n (drop v.pos v.octets) = ap (λ (l : List ℕ). drop w.pos l) octets
    ∙ ap (λ (k : ℕ). drop k v.octets) pos ∙ sym (drop-drop n v.pos v.octets) in
    same_place _ _ _ _ _ _ _ _ pos left near tests where
      same_place : (a b : ℕ) (l m : List ℕ) (c d e f : ℕ) → a ≡ b → l ≡ m → c ≡ d → e ≡ f
          → placed_at a l c e ≡ placed_at b m d f
      same_place a b l m c d e f p q r t = rw (p, q, r, t) refl

-- ---- a need before it

module _ (nodes : List Node) (wanted size : ℕ) (gs : List Get) (id : ℕ) (v w : View) where
  pub flat_needed : nat_lt (length (place_of v).left) wanted ≡ false
      → place_of w ≡ after_test wanted (place_of v)
      → flat_run nodes wanted size gs id (place_of v) ≡ take_run nodes size gs id (place_of w)
  flat_needed there is =
      ap (λ (b : Bool). then_run (if b then refuses
      else gives (fresh (type_at nodes id)) (after_test wanted (place_of v)))
      (λ d t. settled (then_run (all_got gs d t) (passed size)))) there
      ∙ ap (λ (z : Place). take_run nodes size gs id z) (sym is)

  pub flat_short : nat_lt (length (place_of v).left) wanted ≡ true → flat_run nodes wanted size gs id (place_of v) ≡ refuses
  flat_short short =
      ap (λ (b : Bool). then_run (if b then refuses
      else gives (fresh (type_at nodes id)) (after_test wanted (place_of v)))
      (λ d t. settled (then_run (all_got gs d t) (passed size)))) short

-- ---- a code of a need and a take

pub finished : (c : Callees) (r : Run Draft) → then_run r (fill c finish) ≡ r
finished c (gives d s) = refl
finished c refuses = refl
finished c strays = refl

then_same : {A B : Type 0} (f g : A → Place → Run B) → ((x : A) (s : Place) → f x s ≡ g x s) → (r : Run A) → then_run r f ≡ then_run r g
then_same f g h (gives x s) = h x s
then_same f g h refuses = refl
then_same f g h strays = refl

settled_then : (f : Filler) (g : Draft → Place → Run Val) → ((d : Draft) (s : Place) → settled (f d s) ≡ g d s) → (r : Run Draft)
    → settled (then_run r f) ≡ then_run r g
settled_then f g h (gives d s) = h d s
settled_then f g h refuses = refl
settled_then f g h strays = refl

two_seen : (body : List RecvOp) (wanted size : ℕ) (gs : List Get) → body ≡ op.Need wanted ∷ op.Take size gs ∷ []
    → code_seen body ≡ need wanted (pass size gs finish)
two_seen body wanted size gs is =
    ap code_seen is ∙ ap (λ (f : Recv → Recv). f (op_seen (op.Take size gs) finish)) (seen-Need wanted)
    ∙ ap (λ (f : Recv → Recv). need wanted (f finish)) (seen-Take size gs)

pub flat_is : (nodes : List Node) (c : Callees) (body : List RecvOp) (wanted size : ℕ) (gs : List Get) (id : ℕ) (s : Place)
    → body ≡ op.Need wanted ∷ op.Take size gs ∷ []
    → settled (fill c (code_seen body) (fresh (type_at nodes id)) s) ≡ flat_run nodes wanted size gs id s
flat_is nodes c body wanted size gs id s is =
    ap (λ (b : Recv). settled (fill c b (fresh (type_at nodes id)) s)) (two_seen body wanted size gs is)
    ∙ settled_then (fill c (pass size gs finish)) (λ d t. settled (then_run (all_got gs d t) (passed size)))
    (λ d t. ap settled (then_same (λ x u. then_run (passed size x u) (fill c finish)) (passed size)
    (λ x u. finished c (passed size x u)) (all_got gs d t)))
    (needed wanted (fresh (type_at nodes id)) s)

two_ops : (ops : List RecvOp) (a b x y : RecvOp) → length ops ≡ 2 → a ≡ get_or ops 0 x → b ≡ get_or ops 1 y → ops ≡ a ∷ b ∷ []
two_ops [] a b x y e p q = absurd (omega (arith, e))
two_ops (o ∷ []) a b x y e p q = absurd (omega (arith, e))
two_ops (o ∷ r ∷ []) a b x y e p q = ap (λ (z : RecvOp). z ∷ r ∷ []) (sym p) ∙ ap (λ (z : RecvOp). a ∷ z ∷ []) (sym q)
two_ops (o ∷ r ∷ t ∷ ops) a b x y e p q = absurd (omega (arith, e))

pub need_then_take : (ops : List RecvOp) (a b x y : RecvOp) (wanted size : ℕ) (gs : List Get) → length ops ≡ 2
    → a ≡ get_or ops 0 x → b ≡ get_or ops 1 y → a ≡ op.Need wanted → b ≡ op.Take size gs
    → ops ≡ op.Need wanted ∷ op.Take size gs ∷ []
need_then_take ops a b x y wanted size gs e p q f g =
    two_ops ops a b x y e p q ∙ ap (λ (z : RecvOp). z ∷ b ∷ []) f ∙ ap (λ (z : RecvOp). op.Need wanted ∷ z ∷ []) g
