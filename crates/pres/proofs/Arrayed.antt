-- Arrays of arrays that are drawn, the innermost first, by induction on the counts.
use Rattle.std.proofs.Common.{◌≡◌, IsTrue, ℕ, zero, suc, ◌+◌, ◌-◌, ◌<◌, ◌≤◌, List, [], ◌∷◌, ◌++◌, length, get_or, drop, Option, None, Some, refl, sym, ap, ◌∙◌, length-append, arith}
use Rattle.std.proofs.Math.Seq.{drop-cons}
use Rattle.std.proofs.Math.ListN.{drop_of_length-le}
use Rattle.mint.specs.declared.kind.Kind.{Kind}
use Rattle.mint.specs.declared.kind.Count.{Count}
use Rattle.aoi.specs.Shapes as aoi
use Rattle.pres.specs.declared.elements.Element.{Element}
use Rattle.pres.specs.declared.elements.Element.TheVariants.{Packed, Drawn}
use Rattle.pres.specs.Faces.{Face, list}
use Rattle.pres.specs.Made.{made}
use Rattle.pres.specs.Offers.{face_of, packed, elements_by, elements}
use Rattle.pres.specs.Drafts.{Sketch, drawn, Grows, IsDrawn, IsElement, IsPlaced, elements_at, made_within, is_drawable}
use Rattle.pres.proofs.Drawn.{node_after, drawn_as}

pub arrayed_drawable : (n : ℕ) (s : aoi.Shape) (cs : List Count) → IsTrue (is_drawable n (aoi.arrayed s cs)) → IsTrue (is_drawable n s)
arrayed_drawable n s [] h = h
arrayed_drawable n s (c ∷ cs) h = arrayed_drawable n s cs h

-- ---- elements

by_kind : (o : Option Kind) (c : Count) (f : Face) → packed (elements_by o c f) ≡ None
by_kind None c f = refl
by_kind (Some k) c f = refl

elements_are : (s : Sketch) (e : Element) (f : Face) (c : Count) → IsElement s e f → elements_at (drawn s) e c ≡ elements c f
elements_are s (Packed k) f c h = ap (λ z. elements_by z c f) (sym h)
elements_are s (Drawn id) f c h = ap (list c) h.1.is ∙ ap (λ z. elements_by z c f) (sym h.0)

pub element_placed : (s : Sketch) (e : Element) (f : Face) → IsElement s e f → IsPlaced (length (drawn s)) e
element_placed s (Packed k) f h = tt
element_placed s (Drawn id) f h = h.1.below

-- a row is no number, and so its node is made
row_within : (fs : List Face) (s : aoi.Shape) (c : Count)
    → made_within fs (aoi.array s c) ≡ made_within fs s ++ elements c (face_of fs s) ∷ []
row_within fs s c = rw (by_kind (packed (face_of fs s)) c (face_of fs s)) refl

-- ---- counts, the last first

cut_counts : (cs : List Count) (i : ℕ) (c d : Count) → i < length cs → c ≡ get_or cs (length cs - 1 - i) d
    → drop (length cs - (i + 1)) cs ≡ c ∷ drop (length cs - i) cs
cut_counts cs i c d lt is =
    let here : length cs - (i + 1) ≡ length cs - 1 - i = omega (arith, lt) in
    let next : length cs - i ≡ suc (length cs - 1 - i) = omega (arith, lt) in
    rw (here, next) (drop-cons cs (length cs - 1 - i) d (omega (arith, lt)) ∙ ap (λ z. z ∷ drop (suc (length cs - 1 - i)) cs) (sym is))

-- the arrays that are drawn after i of the counts
abbrev pub some_of : aoi.Shape → List Count → ℕ → aoi.Shape
some_of s cs i = aoi.arrayed s (drop (length cs - i) cs)

pub none_yet : (s : aoi.Shape) (cs : List Count) → some_of s cs 0 ≡ s
none_yet s cs = ap (aoi.arrayed s) (drop_of_length-le cs (omega arith))

pub all_of : (s : aoi.Shape) (cs : List Count) (i : ℕ) → length cs ≤ i → some_of s cs i ≡ aoi.arrayed s cs
all_of s cs i le = let over : length cs - i ≡ 0 = omega (arith, le) in ap (λ z. aoi.arrayed s (drop z cs)) over

one_more : (s : aoi.Shape) (cs : List Count) (i : ℕ) (c d : Count) → i < length cs → c ≡ get_or cs (length cs - 1 - i) d
    → some_of s cs (i + 1) ≡ aoi.array (some_of s cs i) c
one_more s cs i c d lt is = ap (aoi.arrayed s) (cut_counts cs i c d lt is)

-- one more row around what is drawn
pub row_on : (fs : List Face) (s : aoi.Shape) (cs : List Count) (i : ℕ) (c d : Count) (old mid new : Sketch) (e : Element) (id : ℕ)
    → i < length cs → c ≡ get_or cs (length cs - 1 - i) d
    → Grows old mid (made_within fs (some_of s cs i)) → IsElement mid e (face_of fs (some_of s cs i))
    → Grows mid new (elements_at (drawn mid) e c ∷ []) → IsDrawn new id (elements_at (drawn mid) e c)
    → Grows old new (made_within fs (some_of s cs (i + 1))) × IsElement new (Drawn id) (face_of fs (some_of s cs (i + 1)))
row_on fs s cs i c d old mid new e id lt is g el h row =
    let one = one_more s cs i c d lt is in
    let f = face_of fs (some_of s cs i) in
    let same : elements_at (drawn mid) e c ≡ elements c f = elements_are mid e f c el in
    let whole = node_after old mid new (made_within fs (some_of s cs i)) _ (elements c f) same g h in (
      rw (one, row_within fs (some_of s cs i) c) whole,
      rw one (by_kind (packed f) c f, drawn_as new id _ _ same row),
    )

-- the last row
pub row_last : (fs : List Face) (s : aoi.Shape) (cs : List Count) (i : ℕ) (c : Count) (old mid : Sketch) (e : Element)
    → length cs ≤ i → Grows old mid (made_within fs (some_of s cs i)) → IsElement mid e (face_of fs (some_of s cs i))
    → Grows old mid (made_within fs (aoi.arrayed s cs))
    × (elements_at (drawn mid) e c ≡ face_of fs (aoi.array (aoi.arrayed s cs) c))
row_last fs s cs i c old mid e le g el =
    let all = all_of s cs i le in
    (rw all at g, elements_are mid e (face_of fs (aoi.arrayed s cs)) c (rw all at el))

-- ---- room

more_within : (fs : List Face) (s : aoi.Shape) (cs : List Count) (k : ℕ)
    → length (made_within fs (aoi.arrayed s (drop k cs))) ≤ length (made_within fs (aoi.arrayed s cs))
more_within fs s [] zero = omega arith
more_within fs s [] (suc k) = omega arith
more_within fs s (c ∷ cs) zero = omega arith
more_within fs s (c ∷ cs) (suc k) =
    let inner = aoi.arrayed s cs in
    omega (
      arith,
      more_within fs s cs k,
      ap length (row_within fs inner c),
      length-append (made_within fs inner) (elements c (face_of fs inner) ∷ []),
    )

-- what is drawn of some of the rows, and one more, is no more than all
pub room_for_row : (fs : List Face) (s : aoi.Shape) (cs : List Count) (i : ℕ) (c : Count) (old mid : Sketch) (f : Face)
    → Grows old mid (made_within fs (some_of s cs i))
    → length (drawn mid ++ f ∷ []) ≤ length (drawn old ++ made fs (aoi.array (aoi.arrayed s cs) c))
room_for_row fs s cs i c old mid f g =
    let some = made_within fs (some_of s cs i) in
    let all = made_within fs (aoi.arrayed s cs) in
    let last = face_of fs (aoi.array (aoi.arrayed s cs) c) in
    omega (
      arith,
      more_within fs s cs (length cs - i),
      length-append (drawn mid) (f ∷ []),
      ap length g.nodes,
      length-append (drawn old) some,
      length-append (drawn old) (all ++ last ∷ []),
      length-append all (last ∷ []),
    )

pub room_for_element : (fs : List Face) (s : aoi.Shape) (cs : List Count) (c : Count) (old : List Face)
    → length (old ++ made_within fs s) ≤ length (old ++ made fs (aoi.array (aoi.arrayed s cs) c))
room_for_element fs s cs c old =
    let all = made_within fs (aoi.arrayed s cs) in
    let last = face_of fs (aoi.array (aoi.arrayed s cs) c) in
    let none : length (made_within fs (some_of s cs 0)) ≡ length (made_within fs s) = ap (λ z. length (made_within fs z)) (none_yet s cs) in
    omega (
      arith,
      none,
      more_within fs s cs (length cs - 0),
      length-append old (made_within fs s),
      length-append old (all ++ last ∷ []),
      length-append all (last ∷ []),
    )
