-- The names of fields, by induction on the fields.
use Rattle.std.proofs.Common.{◌≡◌, ◌<◌, ℕ, zero, suc, List, [], ◌∷◌, length, map, get_or, Box, String, string_bytes, refl, ap, sym, ◌∙◌, subst, arith}
use Rattle.std.specs.Prelude.{slice_index_or}
use Rattle.std.specs.declared.alloc.Global.{Global}
use Rattle.std.specs.Str.{IsAscii}
use Rattle.aoi.specs.declared.types.Field.{Field}
use Rattle.aoi.specs.Shapes.{Shape, members}
use Rattle.aoi.specs.Sound.{names_of}
use Rattle.pres.specs.declared.held.Held.{Held}
use Rattle.pres.specs.declared.held.Held.TheVariants.{Own, Ordered, Texted, Members}
use Rattle.pres.specs.declared.held.NamesAndTexts.{NamesAndTexts}
use Rattle.pres.specs.declared.held.NamesInOrder.{NamesInOrder}
use Rattle.pres.specs.Fielded.{AreTexted, names_held}
use Rattle.pres.specs.Tables.{AreAscii, text_of, texts_of}
use Rattle.pres.proofs.Drawn.{field_seen}
use Rattle.pres.proofs.Tabled.{text_at}

-- there is a name for each field
pub many : (fs : List Field) → length (names_of (members fs)) ≡ length fs
many [] = refl
many (f ∷ fs) = ap suc (many fs)

-- the name of the field at a place
pub name_there : (fs : List Field) (i : ℕ) (f : Field) → i < length fs → f ≡ get_or fs i f
    → f.name ≡ slice_index_or (names_of (members fs)) i []
name_there [] i f h is = absurd (omega (arith, h))
name_there (g ∷ fs) zero f h is =
    let here : f ≡ g = is in
    ap (λ (x : Field). x.name) here ∙ ap (λ (z : List ℕ × Shape). z.0) (sym (field_seen g))
name_there (g ∷ fs) (suc i) f h is = name_there fs i f (omega (arith, h)) is

-- a name of those of ASCII
pub ascii_there : (names : List (List ℕ)) (i : ℕ) → AreAscii names → i < length names → IsAscii (slice_index_or names i [])
ascii_there [] i a h = absurd (omega (arith, h))
ascii_there (n ∷ ns) zero a h = a.0
ascii_there (n ∷ ns) (suc i) a h = ascii_there ns i a.1 (omega (arith, h))

-- a place among the names of fields is one among the fields
pub place_within : (fs : List Field) (i : ℕ) → i < length (names_of (members fs)) → i < length fs
place_within fs i h = subst (λ (n : ℕ). i < n) (many fs) h

-- the string beside a name
pub text_held : (held : Held) (both : NamesAndTexts) (slice : List (String Global)) (i : ℕ) (d : String Global) → held ≡ Texted both
    → AreTexted held → slice ≡ both.texts → i < length (names_held held) → d ≡ get_or slice i d
    → string_bytes d ≡ text_of (slice_index_or (names_held held) i [])
text_held held both slice i d is texts same place there =
    let texts_are : map string_bytes both.texts ≡ texts_of both.names = subst AreTexted is texts in
    let within : i < length both.names = subst (λ (h : Held). i < length (names_held h)) is place in
    ap string_bytes there ∙ ap (λ (l : List (String Global)). string_bytes (get_or l i d)) same
    ∙ text_at both.texts both.names i d texts_are within
    ∙ ap (λ (h : Held). text_of (slice_index_or (names_held h) i [])) (sym is)

-- names of a table's own, without strings, are of ASCII
pub ascii_own : (held : Held) (names : Box (List (List ℕ)) Global) → held ≡ Own names → AreTexted held → AreAscii (names_held held)
ascii_own held names is texts = subst (λ (h : Held). AreAscii (names_held h)) (sym is) (subst AreTexted is texts)

-- names whose order is kept are of ASCII
pub ascii_ordered : (held : Held) (both : NamesInOrder) → held ≡ Ordered both → AreTexted held → AreAscii (names_held held)
ascii_ordered held both is texts = subst (λ (h : Held). AreAscii (names_held h)) (sym is) (subst AreTexted is texts)

-- names of an exception's members are of ASCII
pub ascii_members : (held : Held) (fs : List Field) → held ≡ Members fs → AreTexted held → AreAscii (names_held held)
ascii_members held fs is texts = subst (λ (h : Held). AreAscii (names_held h)) (sym is) (subst AreTexted is texts)

-- a name of those of ASCII is of ASCII
pub ascii_name : (names : List (List ℕ)) (i : ℕ) (name : List ℕ) → AreAscii names → i < length names
    → name ≡ slice_index_or names i [] → IsAscii name
ascii_name names i name all place there = subst IsAscii (sym there) (ascii_there names i all place)
