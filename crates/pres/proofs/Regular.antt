-- The nodes of enums and arrays are regular, and an array's blank value weighs something.
use Rattle.std.proofs.Common.{◌≡◌, Bool, true, false, not, ◌&&◌, ◌==◌, ℕ, zero, suc, ◌<◌, ◌≤◌, List, [], ◌∷◌, ◌++◌, length, map, nat_lt, nat_le, nat_eq, Option, None, Some, refl, sym, ap, arith, true≢false}
use Rattle.std.specs.List.{list_all}
use Rattle.std.proofs.lemmas.Bool.{lt-ltb, ne_eqb, le-leb, leb-true, and_parts}
use Rattle.mint.specs.declared.kind.Kind.{Kind}
use Rattle.mint.specs.declared.kind.Kind.TheVariants as kind
use Rattle.mint.specs.declared.kind.Count.{Count}
use Rattle.mint.specs.declared.kind.Count.TheVariants.{Exactly, AtMost, Any}
use Rattle.mint.specs.Kinds.{in_range}
use Rattle.mint.specs.Blank.{blank}
use Rattle.mint.specs.Values.{weight}
use Rattle.mint.specs.Types.{text, row_of}
use Rattle.mint.specs.Sound.{is_zero, are_labels}
use Rattle.aoi.specs.Sound.{are_distinct, count_different, is_open, is_some_count, is_sound_enum}
use Rattle.pres.specs.Faces.{ItemList, number, item, Face, nothing, scalar, numbers, values, members, list, choice, maybe, labels_of, type_of}
use Rattle.pres.specs.Made.{kept}
use Rattle.pres.specs.Offers.{packed, elements_by, elements}
use Rattle.pres.specs.Regular.{IsRegular, AreRegular}
use Rattle.pres.proofs.Rises.{labels_rise, labels_few, labels_some}

-- ---- lists of regular faces

pub regular_both : (fs gs : List Face) → AreRegular fs → AreRegular gs → AreRegular (fs ++ gs)
regular_both [] gs a b = b
regular_both (f ∷ fs) gs a b = (a.0, regular_both fs gs a.1 b)

pub regular_one : (fs : List Face) (f : Face) → AreRegular fs → IsRegular (type_of f) → AreRegular (fs ++ f ∷ [])
regular_one fs f a h = regular_both fs (f ∷ []) a (h, tt)

-- ---- scalars

pub enum_labels : (items : ItemList) → is_sound_enum items ≡ true → list_all (in_range kind.I32) (labels_of items) ≡ true
    → are_labels (labels_of items) ≡ true
enum_labels items sound ranged =
    let names : Bool = are_distinct (map (λ i. i.0) items) in
    let front = and_parts (not (length items == 0) && nat_le (count_different (map (λ i. i.1) items)) 4096) names sound in
    let first = and_parts (not (length items == 0)) (nat_le (count_different (map (λ i. i.1) items)) 4096) front.0 in
    let count : count_different (map (λ i. i.1) items) ≤ 4096 = leb-true _ _ first.1 in
    let there : 0 < length items = some_items items first.0 in
    let a : nat_lt 0 (length (labels_of items)) ≡ true = lt-ltb _ _ (labels_some items there) in
    let b : nat_le (length (labels_of items)) 4096 ≡ true = le-leb _ _ (omega (arith, labels_few items, count)) in
    rw (ranged, a, b, labels_rise items) refl
  where
    some_items : (items : ItemList) → not (length items == 0) ≡ true → 0 < length items
    some_items [] h = absurd (true≢false (sym h))
    some_items (i ∷ items) h = omega arith

pub enum_regular : (items : ItemList) → is_sound_enum items ≡ true → IsRegular (type_of (scalar (item items)))
enum_regular items sound = record { fit = refl; full = refl; labelled = λ r. ap not (enum_labels items sound r) }

-- ---- arrays

not_zero : (c : Count) → is_some_count c ≡ true → is_zero c ≡ false
not_zero (Exactly zero) h = absurd (true≢false (sym h))
not_zero (Exactly (suc n)) h = ne_eqb _ _ (omega arith)
not_zero (AtMost n) h = refl
not_zero Any h = refl

pub open_text : (c : Count) → is_open c ≡ true → IsRegular (type_of (numbers (text c)))
open_text (Exactly n) h = absurd (true≢false (sym h))
open_text (AtMost n) h = record { fit = refl; full = refl; labelled = λ r. refl }
open_text Any h = record { fit = refl; full = refl; labelled = λ r. refl }

weighs : (n : ℕ) → 1 ≤ n → nat_eq n 0 ≡ false
weighs n h = ne_eqb n 0 (omega (arith, h))

list_regular : (c : Count) (f : Face) → is_some_count c ≡ true → 1 ≤ weight (blank (type_of f)) → IsRegular (type_of (list c f))
list_regular c f h w = record { fit = refl; full = rw (not_zero c h, weighs (weight (blank (type_of f))) w) refl; labelled = λ r. refl }

row_regular : (k : Kind) (c : Count) → Some k ≡ packed (scalar (number k)) → is_some_count c ≡ true
    → IsRegular (type_of (numbers (row_of k c)))
row_regular kind.Octet c p h = record { fit = refl; full = not_zero c h; labelled = λ r. refl }
row_regular kind.I8 c p h = record { fit = refl; full = not_zero c h; labelled = λ r. refl }
row_regular kind.U8 c p h = record { fit = refl; full = not_zero c h; labelled = λ r. refl }
row_regular kind.Char c p h = record { fit = refl; full = not_zero c h; labelled = λ r. refl }
row_regular kind.I16 c p h = record { fit = refl; full = not_zero c h; labelled = λ r. refl }
row_regular kind.U16 c p h = record { fit = refl; full = not_zero c h; labelled = λ r. refl }
row_regular kind.I32 c p h = record { fit = refl; full = not_zero c h; labelled = λ r. refl }
row_regular kind.U32 c p h = record { fit = refl; full = not_zero c h; labelled = λ r. refl }
row_regular kind.I64 c p h = record { fit = refl; full = not_zero c h; labelled = λ r. refl }
row_regular kind.U64 c p h = record { fit = refl; full = not_zero c h; labelled = λ r. refl }
row_regular kind.Bool c p h = absurd cc

packed_own : (f : Face) (k : Kind) → packed f ≡ Some k → Some k ≡ packed (scalar (number k))
packed_own (scalar (number kind.Octet)) k h = let e : k ≡ kind.Octet = cc in rw e refl
packed_own (scalar (number kind.I8)) k h = let e : k ≡ kind.I8 = cc in rw e refl
packed_own (scalar (number kind.U8)) k h = let e : k ≡ kind.U8 = cc in rw e refl
packed_own (scalar (number kind.Char)) k h = let e : k ≡ kind.Char = cc in rw e refl
packed_own (scalar (number kind.I16)) k h = let e : k ≡ kind.I16 = cc in rw e refl
packed_own (scalar (number kind.U16)) k h = let e : k ≡ kind.U16 = cc in rw e refl
packed_own (scalar (number kind.I32)) k h = let e : k ≡ kind.I32 = cc in rw e refl
packed_own (scalar (number kind.U32)) k h = let e : k ≡ kind.U32 = cc in rw e refl
packed_own (scalar (number kind.I64)) k h = let e : k ≡ kind.I64 = cc in rw e refl
packed_own (scalar (number kind.U64)) k h = let e : k ≡ kind.U64 = cc in rw e refl
packed_own (scalar (number kind.Bool)) k h = absurd cc
packed_own (scalar (item items)) k h = absurd cc
packed_own nothing k h = absurd cc
packed_own (numbers a) k h = absurd cc
packed_own (values ps) k h = absurd cc
packed_own (members ps) k h = absurd cc
packed_own (list c f) k h = absurd cc
packed_own (choice s arms) k h = absurd cc
packed_own (maybe f) k h = absurd cc

pub array_regular : (c : Count) (f : Face) (inside : List Face) → is_some_count c ≡ true
    → 1 ≤ weight (blank (type_of f)) → AreRegular inside
    → AreRegular (kept (packed f) inside ++ elements c f ∷ [])
array_regular c f inside h w a = by (packed f) refl where
  by : (o : Option Kind) → packed f ≡ o → AreRegular (kept (packed f) inside ++ elements_by (packed f) c f ∷ [])
  by None e = rw e (regular_one inside (list c f) a (list_regular c f h w))
  by (Some k) e = rw e (row_regular k c (packed_own f k e) h, tt)

pub array_weighs : (c : Count) (f : Face) → 1 ≤ weight (blank (type_of (elements c f)))
array_weighs c f = by (packed f) refl where
  by : (o : Option Kind) → packed f ≡ o → 1 ≤ weight (blank (type_of (elements_by (packed f) c f)))
  by None e = rw e (omega arith)
  by (Some k) e = rw e (omega arith)
