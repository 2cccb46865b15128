-- Types that are drawn, part by part, by induction on the members and on the arms.
use Rattle.std.proofs.Common.{◌≡◌, IsTrue, Bool, true, false, ℕ, zero, suc, ◌+◌, ◌-◌, ◌<◌, ◌≤◌, ℤ, List, [], ◌∷◌, ◌++◌, map, length, get_or, drop, Option, None, Some, if◌then◌else◌, refl, sym, ap, ◌∙◌, subst, length-append, append_assoc, append-nil, Result, Ok, Err, OnOk, IfOk, IfErr, IsErrAnd, arith, rules}
use Rattle.std.specs.Prelude.{int_lt}
use Rattle.std.specs.List.{AllByRecursion}
use Rattle.std.specs.Option.{unwrap_or}
use Rattle.std.proofs.Math.ListN.{get_or-append}
use Rattle.std.proofs.Math.Seq.{drop-cons}
use Rattle.std.proofs.lemmas.List.{map-append}
use Rattle.mint.specs.declared.kind.Kind.{Kind}
use Rattle.mint.specs.declared.kind.Kind.TheVariants as kind
use Rattle.mint.specs.Types.{ArmsBelow, IsBelow}
use Rattle.aoi.specs.declared.types.Ty.{Ty, the_lemmas}
use Rattle.aoi.specs.declared.types.Field.{Field}
use Rattle.aoi.specs.Shapes as aoi
use Rattle.aoi.specs.Sound.{names_of}
use Rattle.pres.specs.declared.errors.BindErr.{BindErr}
use Rattle.pres.specs.Faces.{Face, nothing, scalar, number, item, numbers, values, members, list, choice, maybe, Arms, no_other, other, arm, at, parts_at, arms_at}
use Rattle.pres.specs.Made.{made, made_inside, made_after}
use Rattle.pres.specs.Offers.{face_of, parts_of, arms_of, packed, sign_in, unnamed, put_arm}
use Rattle.pres.specs.Rising.{put_pair}
use Rattle.pres.specs.Drafts.{Sketch, drawn, Grows, IsDrawn, AreDrawn, AreArms, Overflows, is_drawable, are_drawable, arms_drawable, faces_inside, number_in, enum_in}
use Rattle.pres.proofs.Drafting.{below_more, below_push, at_stays}
use Rattle.pres.proofs.Facing.{arms_agree}
use Rattle.pres.proofs.Ordered.{put_pair-face}
use Rattle.std.proofs.lemmas.Bool.{and_parts}

pub overflows_more : (fs gs : List Face) (e : BindErr) → Overflows fs e → length fs ≤ length gs → Overflows gs e
overflows_more fs gs e h le = λ ne. ((h ne).0, omega (arith, (h ne).1, le))

pub grows_twice : (a b c : Sketch) (xs ys : List Face) → Grows a b xs → Grows b c ys → Grows a c (xs ++ ys)
grows_twice a b c xs ys g h = record {
  nodes = h.nodes ∙ ap (λ z. z ++ ys) g.nodes ∙ append_assoc (drawn a) xs ys;
  types = h.types ∙ g.types;
}

-- ---- scalars

pub packed_by : (f : Face) (k : Kind) → Some k ≡ number_in f → packed (scalar (number k)) ≡ packed f
packed_by (scalar (number j)) k is = let same : k ≡ j = cc in ap (λ z. packed (scalar (number z))) same
packed_by nothing k is = absurd cc
packed_by (scalar (item items)) k is = absurd cc
packed_by (numbers a) k is = absurd cc
packed_by (values ps) k is = absurd cc
packed_by (members ps) k is = absurd cc
packed_by (list c f) k is = absurd cc
packed_by (choice s arms) k is = absurd cc
packed_by (maybe f) k is = absurd cc

pub sign_by : (f : Face) → None ≡ enum_in f → number (unwrap_or (number_in f) kind.U32) ≡ sign_in f
sign_by (scalar (number j)) is = refl
sign_by nothing is = refl
sign_by (scalar (item items)) is = absurd cc
sign_by (numbers a) is = refl
sign_by (values ps) is = refl
sign_by (members ps) is = refl
sign_by (list c f) is = refl
sign_by (choice s arms) is = refl
sign_by (maybe f) is = refl

-- ---- fields

pub field_seen : (f : Field) → aoi.seen_field f ≡ (f.name, aoi.seen f.ty)
field_seen f = search (rules, the_lemmas)

cut_fields : (fields : List Field) (i : ℕ) (f : Field) → i < length fields → f ≡ get_or fields i f
    → aoi.members (drop i fields) ≡ aoi.member f.name (aoi.seen f.ty) (aoi.members (drop (i + 1) fields))
cut_fields fields i f lt is =
    let next : i + 1 ≡ suc i = omega arith in
    let cut : drop i fields ≡ f ∷ drop (i + 1) fields = rw next (drop-cons fields i f lt ∙ ap (λ z. z ∷ drop (suc i) fields) (sym is)) in
    ap aoi.members cut ∙ ap (λ z. aoi.member z.0 z.1 (aoi.members (drop (i + 1) fields))) (field_seen f)

pub field_left : (n : ℕ) (fields : List Field) (i : ℕ) (f : Field) → i < length fields → f ≡ get_or fields i f
    → IsTrue (are_drawable n (aoi.members (drop i fields)))
    → IsTrue (is_drawable n (aoi.seen f.ty)) × IsTrue (are_drawable n (aoi.members (drop (i + 1) fields)))
field_left n fields i f lt is h = and_parts _ _ (rw (cut_fields fields i f lt is) at h)

pub field_nodes : (fs : List Face) (fields : List Field) (i : ℕ) (f : Field) (mid new all : List Face) → i < length fields
    → f ≡ get_or fields i f → mid ++ made_inside fs (aoi.members (drop i fields)) ≡ all → new ≡ mid ++ made fs (aoi.seen f.ty)
    → new ++ made_inside fs (aoi.members (drop (i + 1) fields)) ≡ all
field_nodes fs fields i f mid new all lt is h new_is =
    ap (λ z. z ++ made_inside fs (aoi.members (drop (i + 1) fields))) new_is
    ∙ append_assoc mid (made fs (aoi.seen f.ty)) (made_inside fs (aoi.members (drop (i + 1) fields)))
    ∙ (rw (cut_fields fields i f lt is) at h)

pub field_ids : (fs : List Face) (fields : List Field) (i : ℕ) (f : Field) (mid new : Sketch) (more : List Face)
    (ids ids' : List ℕ) (id : ℕ) (all : List Face)
    → i < length fields → f ≡ get_or fields i f → Grows mid new more → AllByRecursion (λ j. j < length (drawn mid)) ids
    → IsDrawn new id (face_of fs (aoi.seen f.ty)) → ids' ≡ ids ++ id ∷ []
    → map (at (drawn mid)) ids ++ faces_inside fs (aoi.members (drop i fields)) ≡ all
    → AllByRecursion (λ j. j < length (drawn new)) ids'
    × (map (at (drawn new)) ids' ++ faces_inside fs (aoi.members (drop (i + 1) fields)) ≡ all)
field_ids fs fields i f mid new more ids ids' id all lt is g below d ids_are h =
    let longer : length (drawn new) ≡ length (drawn mid) + length more = ap length g.nodes ∙ length-append (drawn mid) more in
    let inside : AllByRecursion
    (λ j. j < length (drawn new)) ids = below_more (length (drawn mid)) (length (drawn new)) ids (omega (arith, longer)) below in
    let stay : map (at (drawn new)) ids ≡ map (at (drawn mid)) ids = rw g.nodes (at_stays (drawn mid) more ids below) in
    let rest : List Face = faces_inside fs (aoi.members (drop (i + 1) fields)) in
    let all_ids : map (at (drawn new)) ids' ≡ map (at (drawn mid)) ids ++ face_of fs (aoi.seen f.ty) ∷ [] =
    ap (map (at (drawn new))) ids_are ∙ map-append (at (drawn new)) ids (id ∷ [])
    ∙ ap (λ z. z ++ at (drawn new) id ∷ []) stay ∙ ap (λ z. map (at (drawn mid)) ids ++ z ∷ []) d.is in (
      subst (AllByRecursion (λ j. j < length (drawn new))) (sym ids_are) (below_push (length (drawn new)) ids id inside d.below),
      ap (λ z.
          z ++ rest) all_ids ∙ append_assoc (map (at (drawn mid)) ids) (face_of fs (aoi.seen f.ty) ∷ []) rest
          ∙ (rw (cut_fields fields i f lt is) at h),
    )

-- names and nodes in step give the parts
parts_by : (gs fs : List Face) (ids : List ℕ) (ms : aoi.Members) → map (at gs) ids ≡ faces_inside fs ms
    → parts_at gs (names_of ms) ids ≡ parts_of fs ms
parts_by gs fs [] aoi.no_more is = refl
parts_by gs fs [] (aoi.member n s ms) is = absurd cc
parts_by gs fs (i ∷ ids) aoi.no_more is = absurd cc
parts_by gs fs (i ∷ ids) (aoi.member n s ms) is =
    let first : at gs i ≡ face_of fs s = cc in
    let rest : map (at gs) ids ≡ faces_inside fs ms = cc in
    rw (first, parts_by gs fs ids ms rest) refl

-- nodes without names give the parts without theirs
pub unnamed_by : (gs fs : List Face) (ids : List ℕ) (ms : aoi.Members) → map (at gs) ids ≡ faces_inside fs ms
    → parts_at gs [] ids ≡ unnamed (parts_of fs ms)
unnamed_by gs fs [] aoi.no_more is = refl
unnamed_by gs fs [] (aoi.member n s ms) is = absurd cc
unnamed_by gs fs (i ∷ ids) aoi.no_more is = absurd cc
unnamed_by gs fs (i ∷ ids) (aoi.member n s ms) is =
    let first : at gs i ≡ face_of fs s = cc in
    let rest : map (at gs) ids ≡ faces_inside fs ms = cc in
    rw (first, unnamed_by gs fs ids ms rest) refl

pub names_each : (gs fs : List Face) (ids : List ℕ) (ms : aoi.Members) → map (at gs) ids ≡ faces_inside fs ms
    → length (names_of ms) ≡ length ids
names_each gs fs [] aoi.no_more is = refl
names_each gs fs [] (aoi.member n s ms) is = absurd cc
names_each gs fs (i ∷ ids) aoi.no_more is = absurd cc
names_each gs fs (i ∷ ids) (aoi.member n s ms) is = let rest : map (at gs) ids ≡ faces_inside fs ms =
    cc in ap suc (names_each gs fs ids ms rest)

pub members_by : (s : Sketch) (fs : List Face) (ids : List ℕ) (names : List (List ℕ)) (ms : aoi.Members)
    → AreDrawn s ids (faces_inside fs ms) → names ≡ names_of ms
    → members (parts_at (drawn s) names ids) ≡ members (parts_of fs ms)
members_by s fs ids names ms d is = ap members (ap (λ z. parts_at (drawn s) z ids) is ∙ parts_by (drawn s) fs ids ms d.are)

pub values_by : (s : Sketch) (fs : List Face) (ids : List ℕ) (ms : aoi.Members) → AreDrawn s ids (faces_inside fs ms)
    → values (parts_at (drawn s) [] ids) ≡ values (unnamed (parts_of fs ms))
values_by s fs ids ms d = ap values (unnamed_by (drawn s) fs ids ms d.are)

-- ---- arms

abbrev Pair : Type 0
Pair = ℤ × Ty

cut_arms : (arms : List Pair) (i : ℕ) (a : Pair) → i < length arms → a ≡ get_or arms (length arms - 1 - i) a
    → drop (length arms - (i + 1)) arms ≡ a ∷ drop (length arms - i) arms
cut_arms arms i a lt is =
    let k : ℕ = length arms - (i + 1) in
    let here : length arms - 1 - i ≡ k = omega arith in
    let next : length arms - i ≡ suc k = omega (arith, lt) in
    let found : a ≡ get_or arms k a = rw here at is in
    rw next (drop-cons arms k a (omega (arith, lt)) ∙ ap (λ z. z ∷ drop (suc k) arms) (sym found))

pub arm_drawable : (n : ℕ) (arms : List Pair) (o : Option aoi.Shape) (k : ℕ) (a : Pair)
    → IsTrue (arms_drawable n (aoi.arms_seen arms o)) → k < length arms → a ≡ get_or arms k a
    → IsTrue (is_drawable n (aoi.seen a.1))
arm_drawable n [] o k a h lt is = absurd (omega arith)
arm_drawable n (b ∷ arms) o zero a h lt is = rw is ((and_parts _ _ h).0)
arm_drawable n (b ∷ arms) o (suc k) a h lt is =
    arm_drawable n arms o k a ((and_parts (is_drawable n (aoi.seen b.1)) _ h).1) (omega arith) is

pub other_drawable : (n : ℕ) (arms : List Pair) (o : Option aoi.Shape) → IsTrue (arms_drawable n (aoi.arms_seen arms o))
    → IsTrue (arms_drawable n (aoi.default_of o))
other_drawable n [] o h = h
other_drawable n (b ∷ arms) o h = other_drawable n arms o ((and_parts (is_drawable n (aoi.seen b.1)) _ h).1)

pub after_room : (fs : List Face) (o : Option aoi.Shape) (arms : List Pair) (i : ℕ)
    → length (made_after fs (aoi.arms_seen (drop i arms) o)) ≤ length (made_after fs (aoi.arms_seen arms o))
after_room fs o [] zero = omega arith
after_room fs o [] (suc i) = omega arith
after_room fs o (a ∷ arms) zero = omega arith
after_room fs o (a ∷ arms) (suc i) =
    omega (arith, after_room fs o arms i, length-append (made_after fs (aoi.arms_seen arms o)) (made fs (aoi.seen a.1)))

pub arm_nodes : (fs : List Face) (o : Option aoi.Shape) (arms : List Pair) (i : ℕ) (a : Pair) (old mid new : List Face)
    → i < length arms → a ≡ get_or arms (length arms - 1 - i) a
    → mid ≡ old ++ made_after fs (aoi.arms_seen (drop (length arms - i) arms) o) → new ≡ mid ++ made fs (aoi.seen a.1)
    → new ≡ old ++ made_after fs (aoi.arms_seen (drop (length arms - (i + 1)) arms) o)
arm_nodes fs o arms i a old mid new lt is mid_is new_is =
    new_is
    ∙ ap (λ z.
    z ++ made fs (aoi.seen a.1)) mid_is ∙ append_assoc old (made_after fs (aoi.arms_seen (drop (length arms - i) arms) o))
    (made fs (aoi.seen a.1))
    ∙ ap (λ z. old ++ made_after fs (aoi.arms_seen z o)) (sym (cut_arms arms i a lt is))

pub arm_room : (fs : List Face) (o : Option aoi.Shape) (arms : List Pair) (i : ℕ) (a : Pair) (old mid : List Face) → i < length arms
    → a ≡ get_or arms (length arms - 1 - i) a → mid ≡ old ++ made_after fs (aoi.arms_seen (drop (length arms - i) arms) o)
    → length (mid ++ made fs (aoi.seen a.1)) ≤ length (old ++ made_after fs (aoi.arms_seen arms o))
arm_room fs o arms i a old mid lt is mid_is =
    let whole = arm_nodes fs o arms i a old mid (mid ++ made fs (aoi.seen a.1)) lt is mid_is refl in
    let k : ℕ = length arms - (i + 1) in
    omega (
      arith,
      ap length whole,
      length-append old (made_after fs (aoi.arms_seen (drop k arms) o)),
      length-append old (made_after fs (aoi.arms_seen arms o)),
      after_room fs o arms k,
    )

pub below_pair : (n : ℕ) (a : ℤ × ℕ) (arms : List (ℤ × ℕ)) → a.1 < n → ArmsBelow n arms → ArmsBelow n (put_pair a arms)
below_pair n a [] h below = (h, tt)
below_pair n a (b ∷ arms) h below = by (int_lt a.0 b.0) (below_pair n a arms h below.1) where
  by : (t : Bool) → ArmsBelow n (put_pair a arms) → ArmsBelow n (if t then a ∷ b ∷ arms else b ∷ put_pair a arms)
  by true ih = (h, below)
  by false ih = (below.0, ih)

arms_below_more : (n m : ℕ) (arms : List (ℤ × ℕ)) → n ≤ m → ArmsBelow n arms → ArmsBelow m arms
arms_below_more n m [] le below = tt
arms_below_more n m (a ∷ arms) le below = (omega (arith, below.0, le), arms_below_more n m arms le below.1)

other_below_more : (n m : ℕ) (o : Option ℕ) → n ≤ m → IsBelow n o → IsBelow m o
other_below_more n m None le below = tt
other_below_more n m (Some i) le below = omega (arith, below, le)

pub arms_stay : (mid new : Sketch) (more : List Face) (arms : List (ℤ × ℕ)) (o : Option ℕ) (gs : Arms)
    → Grows mid new more → AreArms mid arms o gs
    → AreArms new arms o gs
arms_stay mid new more arms o gs g are =
    let longer : length (drawn new) ≡ length (drawn mid) + length more = ap length g.nodes ∙ length-append (drawn mid) more in
    record {
      below = arms_below_more (length (drawn mid)) _ arms (omega (arith, longer)) are.below;
      other = other_below_more (length (drawn mid)) _ o (omega (arith, longer)) are.other;
      are = arms_agree (length (drawn mid)) (drawn new) (drawn mid) arms o
          (λ i h. rw g.nodes (get_or-append (drawn mid) more nothing i h)) are.below are.other ∙ are.are;
    }

pub arm_on : (fs : List Face) (o : Option aoi.Shape) (arms : List Pair) (i : ℕ) (a : Pair) (mid new : Sketch)
    (more : List Face) (sorted sorted' : List (ℤ × ℕ)) (last : Option ℕ) (id : ℕ)
    → i < length arms → a ≡ get_or arms (length arms - 1 - i) a → Grows mid new more → IsDrawn new id (face_of fs (aoi.seen a.1))
    → sorted' ≡ put_pair (a.0, id) sorted → AreArms mid sorted last (arms_of fs (aoi.arms_seen (drop (length arms - i) arms) o))
    → AreArms new sorted' last (arms_of fs (aoi.arms_seen (drop (length arms - (i + 1)) arms) o))
arm_on fs o arms i a mid new more sorted sorted' last id lt is g d sorted_is are =
    let still = arms_stay mid new more sorted last _ g are in
    let rest : Arms = arms_of fs (aoi.arms_seen (drop (length arms - i) arms) o) in
    let arms_are : arms_at (drawn new) (put_pair (a.0, id) sorted) last ≡ arms_of fs (aoi.arms_seen (drop (length arms - (i + 1)) arms) o) =
    put_pair-face (drawn new) (a.0, id) sorted last
    ∙ ap (λ z. put_arm a.0 z (arms_at (drawn new) sorted last)) d.is ∙ ap (put_arm a.0 (face_of fs (aoi.seen a.1))) still.are
    ∙ ap (λ z. arms_of fs (aoi.arms_seen z o)) (sym (cut_arms arms i a lt is)) in
    record {
      below = subst (ArmsBelow (length (drawn new))) (sym sorted_is) (below_pair (length (drawn new)) (a.0, id) sorted d.below still.below);
      other = still.other;
      are = ap (λ z. arms_at (drawn new) z last) sorted_is ∙ arms_are;
    }

-- ---- a choice

-- arms with another end
abbrev pub with_end : Arms → Arms → Arms
with_end (arm n f arms) d = arm n f (with_end arms d)
with_end no_other d = d
with_end (other f) d = d

put_before : (n : ℤ) (f : Face) (arms d : Arms) → put_arm n f d ≡ arm n f d → put_arm n f (with_end arms d) ≡ with_end (put_arm n f arms) d
put_before n f no_other d end_ = end_
put_before n f (other g) d end_ = end_
put_before n f (arm m g arms) d end_ = by (int_lt n m) refl (put_before n f arms d end_) where
  by : (t : Bool) → int_lt n m ≡ t → put_arm n f (with_end arms d) ≡ with_end (put_arm n f arms) d
      → put_arm n f (with_end (arm m g arms) d) ≡ with_end (put_arm n f (arm m g arms)) d
  by true e ih = rw e refl
  by false e ih = rw e (ap (arm m g) ih)

end_first : (fs : List Face) (o : Option aoi.Shape) (n : ℤ) (f : Face)
    → put_arm n f (arms_of fs (aoi.default_of o)) ≡ arm n f (arms_of fs (aoi.default_of o))
end_first fs None n f = refl
end_first fs (Some s) n f = refl

arms_end : (fs : List Face) (o : Option aoi.Shape) (arms : List Pair)
    → arms_of fs (aoi.arms_seen arms o) ≡ with_end (arms_of fs (aoi.arms_seen arms None)) (arms_of fs (aoi.default_of o))
arms_end fs o [] = refl
arms_end fs o (a ∷ arms) =
    ap (put_arm a.0 (face_of fs (aoi.seen a.1))) (arms_end fs o arms)
    ∙ put_before a.0 (face_of fs (aoi.seen a.1)) (arms_of fs (aoi.arms_seen arms None)) (arms_of fs (aoi.default_of o))
    (end_first fs o a.0 (face_of fs (aoi.seen a.1)))

arms_at-end : (fs : List Face) (arms : List (ℤ × ℕ)) (o : Option ℕ) → arms_at fs arms o ≡ with_end (arms_at fs arms None) (arms_at fs [] o)
arms_at-end fs [] o = refl
arms_at-end fs (a ∷ arms) o = ap (arm a.0 (at fs a.1)) (arms_at-end fs arms o)

pub after_split : (fs : List Face) (o : Option aoi.Shape) (arms : List Pair)
    → made_after fs (aoi.arms_seen arms o) ≡ made_after fs (aoi.default_of o) ++ made_after fs (aoi.arms_seen arms None)
after_split fs o [] = sym (append-nil (made_after fs (aoi.default_of o)))
after_split fs o (a ∷ arms) =
    ap (λ z.
    z ++ made fs (aoi.seen a.1)) (after_split fs o arms)
    ∙ append_assoc (made_after fs (aoi.default_of o)) (made_after fs (aoi.arms_seen arms None)) (made fs (aoi.seen a.1))

pub arms_drawable_alone : (n : ℕ) (o : Option aoi.Shape) (arms : List Pair) → IsTrue (arms_drawable n (aoi.arms_seen arms o))
    → IsTrue (arms_drawable n (aoi.arms_seen arms None))
arms_drawable_alone n o [] h = refl
arms_drawable_alone n o (a ∷ arms) h =
    let parts = and_parts (is_drawable n (aoi.seen a.1)) (arms_drawable n (aoi.arms_seen arms o)) h in
    rw parts.0 (arms_drawable_alone n o arms parts.1)

-- the default drawn, and then the arms
pub choice_arms : (fs : List Face) (o : Option aoi.Shape) (arms : List Pair) (a b : Sketch) (more : List Face)
    (ids : List (ℤ × ℕ)) (id : Option ℕ)
    → Grows a b more → AreArms a [] id (arms_of fs (aoi.default_of o)) → AreArms b ids None (arms_of fs (aoi.arms_seen arms None))
    → AreArms b ids id (arms_of fs (aoi.arms_seen arms o))
choice_arms fs o arms a b more ids id g other_ are =
    let still = arms_stay a b more [] id _ g other_ in
    record {
      below = are.below;
      other = still.other;
      are = arms_at-end (drawn b) ids id
          ∙ ap (λ z.
          with_end z (arms_at (drawn b) [] id)) are.are ∙ ap (with_end (arms_of fs (aoi.arms_seen arms None))) still.are
          ∙ sym (arms_end fs o arms);
    }

pub choice_nodes : (old a b new : Sketch) (ds es : List Face) (f g : Face) (all : List Face) → all ≡ ds ++ es → f ≡ g
    → Grows old a ds → Grows a b es → Grows b new (f ∷ [])
    → Grows old new (all ++ g ∷ [])
choice_nodes old a b new ds es f g all all_is same x y z =
    let whole = grows_twice old b new (ds ++ es) (f ∷ []) (grows_twice old a b ds es x y) z in
    record {
      nodes =
          whole.nodes
          ∙ ap (λ z. drawn old ++ (z ++ f ∷ [])) (sym all_is) ∙ ap (λ z. drawn old ++ (all ++ z ∷ [])) same;
      types = whole.types;
    }

-- a node after those inside it
pub node_after : (old mid new : Sketch) (xs : List Face) (f g : Face) → f ≡ g → Grows old mid xs → Grows mid new (f ∷ [])
    → Grows old new (xs ++ g ∷ [])
node_after old mid new xs f g same x y = subst (λ z. Grows old new (xs ++ z ∷ [])) same (grows_twice old mid new xs (f ∷ []) x y)

pub drawn_as : (s : Sketch) (id : ℕ) (f g : Face) → f ≡ g → IsDrawn s id f → IsDrawn s id g
drawn_as s id f g same d = subst (IsDrawn s id) same d

-- ---- room

room_after : (old xs ys : List Face) → length (old ++ xs) ≤ length (old ++ (xs ++ ys))
room_after old xs ys = omega (arith, length-append old xs, length-append old (xs ++ ys), length-append xs ys)

pub after_overflows : (old xs ys all : List Face) (e : BindErr) → all ≡ xs ++ ys → Overflows (old ++ xs) e → Overflows (old ++ all) e
after_overflows old xs ys all e is h = overflows_more _ _ e h (rw is (room_after old xs ys))

pub next_overflows : (old mid xs ys zs all : List Face) (e : BindErr) → all ≡ xs ++ (ys ++ zs) → mid ≡ old ++ xs → Overflows (mid ++ ys) e
    → Overflows (old ++ all) e
next_overflows old mid xs ys zs all e is mid_is h =
    overflows_more _ _ e h
    (omega (
      arith,
      length-append mid ys,
      ap length mid_is,
      length-append old xs,
      length-append old all,
      ap length is,
      length-append xs (ys ++ zs),
      length-append ys zs,
    ))

pub last_overflows : (old mid xs all : List Face) (f g : Face) (e : BindErr) → all ≡ xs ++ g ∷ [] → mid ≡ old ++ xs
    → Overflows (mid ++ f ∷ []) e
    → Overflows (old ++ all) e
last_overflows old mid xs all f g e is mid_is h =
    overflows_more _ _ e h
    (omega (
      arith,
      length-append mid (f ∷ []),
      ap length mid_is,
      length-append old xs,
      length-append old all,
      ap length is,
      length-append xs (g ∷ []),
    ))

pub made_split : (fs : List Face) (o : Option aoi.Shape) (arms : List Pair) (f : Face)
    → made_after fs (aoi.arms_seen arms o) ++ f ∷ []
    ≡ made_after fs (aoi.default_of o) ++ (made_after fs (aoi.arms_seen arms None) ++ f ∷ [])
made_split fs o arms f =
    ap (λ z.
    z ++ f ∷ []) (after_split fs o arms) ∙ append_assoc (made_after fs (aoi.default_of o)) (made_after fs (aoi.arms_seen arms None))
    (f ∷ [])

-- ---- answers

pub on_ok : {T E : Type 0} (r : Result T E) (P Q : Type 0) → (P → Q) → OnOk r P → OnOk r Q
on_ok (Ok x) P Q f h = f h
on_ok (Err e) P Q f h = h

pub if_ok : {T E : Type 0} (r : Result T E) (P Q : T → Type 0) → ((x : T) → P x → Q x) → IfOk r P → IfOk r Q
if_ok (Ok x) P Q f h = f x h
if_ok (Err e) P Q f h = h

pub if_err : {T E : Type 0} (r : Result T E) (P Q : E → Type 0) → ((e : E) → P e → Q e) → IfErr r P → IfErr r Q
if_err (Ok x) P Q f h = h
if_err (Err e) P Q f h = f e h

pub handed_on : {T E : Type 0} (r : Result T E) (e : E) (Q : E → Type 0) → IsErrAnd r (λ z. z ≡ e) → Q e → IfErr r Q
handed_on (Ok x) e Q h q = absurd h
handed_on (Err d) e Q h q = rw h q

pub cause_more : {T : Type 0} (r : Result T BindErr) (xs ys : List Face) → length xs ≤ length ys → IfErr r (Overflows xs)
    → IfErr r (Overflows ys)
cause_more (Ok x) xs ys le h = h
cause_more (Err e) xs ys le h = overflows_more xs ys e h le

pub cause_last : {T : Type 0} (r : Result T BindErr) (old mid xs : List Face) (f g : Face) → mid ≡ old ++ xs
    → IfErr r (Overflows (mid ++ f ∷ []))
    → IfErr r (Overflows (old ++ (xs ++ g ∷ [])))
cause_last r old mid xs f g is h =
    cause_more r (mid ++ f ∷ []) (old ++ (xs ++ g ∷ []))
    (omega (
      arith,
      length-append mid (f ∷ []),
      ap length is,
      length-append old xs,
      length-append old (xs ++ g ∷ []),
      length-append xs (g ∷ []),
    )) h
