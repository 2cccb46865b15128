-- How wide the numbers of each sort are.
use Rattle.std.proofs.Common.{◌≡◌, ◌⊎◌, inl, inr, ℕ, ℤ, List, [], ◌∷◌, Option, None, Some, refl, sym, ap, subst, ◌∙◌, Bool, true, false, IsTrue, if◌then◌else◌}
use Rattle.std.specs.Prelude.{nat_eq}
use Rattle.std.specs.List.{list_all}
use Rattle.std.specs.Int.{Width, byte_len}
use Rattle.std.proofs.lemmas.Bool.{eqb-true, eq-eqb, and_parts, and_from}
use Rattle.mint.specs.declared.kind.Kind.{Kind}
use Rattle.mint.specs.declared.kind.Kind.TheVariants as kind
use Rattle.mint.specs.Kinds.{in_range, is_letter, width}
use Rattle.mint.specs.Types.{number, Array, text, row_of}
use Rattle.mint.specs.Typed.{IsArray}
use Rattle.wire_def.specs.declared.encoding.Encoding.{Encoding}
use Rattle.wire_def.specs.declared.encoding.Encoding.TheVariants.{Xdr, CdrBig, CdrLittle, Mach}
use Rattle.wire_def.specs.declared.head.Order.{Order}
use Rattle.wire_def.specs.Scalars.{own_width, width_of}
use Rattle.wire_def.specs.Arrays.{kind_of, is_octets}
use Rattle.wire_def.proofs.Words.{IsOwn, is8, is16, is32, is64, own_of}
use Rattle.cast_stub.specs.Layouts.{order_of, scalar_width, element_width, is_looped, layout_of}
use Rattle.copy_inline.specs.declared.sorts.Sort.TheVariants as sort
use Rattle.copy_inline.specs.Sorts.{sort_of}
use Rattle.cast_stub.proofs.Widths.{Wide, one, two, four, eight}

-- ---- widths

own_wide : (w : Width) → IsOwn w → Wide (byte_len w)
own_wide _ is8 = one
own_wide _ is16 = two
own_wide _ is32 = four
own_wide _ is64 = eight

either_wide : (q : Bool) (n : ℕ) → Wide n → Wide (if q then 1 else n)
either_wide true n h = one
either_wide false n h = h

pub element_wide : (e : Encoding) (a : Array) → Wide (element_width e a)
element_wide e a = either_wide (is_octets a) (scalar_width e (number (kind_of a)))
    (own_wide (width_of e (number (kind_of a))) (own_of e (number (kind_of a))))

xdr_width : (k : Kind) → (scalar_width Xdr (number k) ≡ width k) ⊎ (scalar_width Xdr (number k) ≡ 4)
xdr_width kind.I32 = inl refl
xdr_width kind.U32 = inl refl
xdr_width kind.I64 = inl refl
xdr_width kind.U64 = inl refl
xdr_width _ = inr refl

cdr_width : (k : Kind) → byte_len (own_width (number k)) ≡ width k
cdr_width kind.Octet = refl
cdr_width _ = refl

mach_width : (k : Kind) → (scalar_width Mach (number k) ≡ width k) ⊎ (scalar_width Mach (number k) ≡ 4)
mach_width kind.Bool = inr refl
mach_width _ = inl refl

number_width : (e : Encoding) (k : Kind) → (scalar_width e (number k) ≡ width k) ⊎ (scalar_width e (number k) ≡ 4)
number_width Xdr k = xdr_width k
number_width CdrBig k = inl (cdr_width k)
number_width CdrLittle k = inl (cdr_width k)
number_width Mach k = mach_width k

octets_wide : (a : Array) → is_octets a ≡ true → 1 ≡ width (kind_of a)
octets_wide (row_of kind.I16 c) e = absurd cc
octets_wide (row_of kind.U16 c) e = absurd cc
octets_wide (row_of kind.I32 c) e = absurd cc
octets_wide (row_of kind.U32 c) e = absurd cc
octets_wide (row_of kind.I64 c) e = absurd cc
octets_wide (row_of kind.U64 c) e = absurd cc
octets_wide _ e = refl

element_either : (e : Encoding) (a : Array) → (element_width e a ≡ width (kind_of a)) ⊎ (element_width e a ≡ 4)
element_either e a = by (is_octets a) refl where
  by : (q : Bool) → is_octets a ≡ q
      → ((if q then 1 else scalar_width e (number (kind_of a))) ≡ width (kind_of a))
      ⊎ ((if q then 1 else scalar_width e (number (kind_of a))) ≡ 4)
  by true is = inl (octets_wide a is)
  by false is = number_width e (kind_of a)

-- ---- sorts

block_if : (q w : Bool) → (if q then sort.Looped else if w then sort.Block else sort.Wide) ≡ sort.Block → (q ≡ false) × (w ≡ true)
block_if true w e = absurd cc
block_if false true e = (refl, refl)
block_if false false e = absurd cc

wide_if : (q w : Bool) → (if q then sort.Looped else if w then sort.Block else sort.Wide) ≡ sort.Wide → (q ≡ false) × (w ≡ false)
wide_if true w e = absurd cc
wide_if false true e = absurd cc
wide_if false false e = (refl, refl)

laid_out : (q : Bool) (x : Option (ℕ × Order)) → q ≡ false → (if q then None else x) ≡ x
laid_out true x e = absurd cc
laid_out false x e = refl

-- how a block is laid out: each number as wide as in an image
pub block_layout : (e : Encoding) (a : Array) → sort_of e a ≡ sort.Block
    → (layout_of e a ≡ Some (width (kind_of a), order_of e)) × (element_width e a ≡ width (kind_of a))
block_layout e a is =
    let two = block_if (is_looped e a) (nat_eq (element_width e a) (width (kind_of a))) is in
    let same : element_width e a ≡ width (kind_of a) = eqb-true (element_width e a) (width (kind_of a)) two.1 in
    (laid_out (is_looped e a) (Some (element_width e a, order_of e)) two.0 ∙ ap (λ (n : ℕ). Some (n, order_of e)) same, same)

-- a wide row: each number in four octets
pub wide_layout : (e : Encoding) (a : Array) → sort_of e a ≡ sort.Wide → (layout_of e a ≡ Some (4, order_of e)) × (element_width e a ≡ 4)
wide_layout e a is =
    let two = wide_if (is_looped e a) (nat_eq (element_width e a) (width (kind_of a))) is in
    let same : element_width e a ≡ 4 = of_four (element_either e a) two.1 in
    (laid_out (is_looped e a) (Some (element_width e a, order_of e)) two.0 ∙ ap (λ (n : ℕ). Some (n, order_of e)) same, same) where
      of_four : (element_width e a ≡ width (kind_of a)) ⊎ (element_width e a ≡ 4) → nat_eq (element_width e a) (width (kind_of a)) ≡ false
          → element_width e a ≡ 4
      of_four (inl same) other = absurd (let here : true ≡ false = sym (eq-eqb (element_width e a) (width (kind_of a)) same) ∙ other in cc)
      of_four (inr same) other = same

pub image_width : (a : Array) → Wide (width (kind_of a))
image_width a = by (kind_of a) where
  by : (k : Kind) → Wide (width k)
  by k = subst Wide (cdr_width k) (own_wide (own_width (number k)) (own_of CdrBig (number k)))

-- ---- the numbers of an array

letters_ranged : (ns : List ℤ) → IsTrue (list_all is_letter ns) → IsTrue (list_all (in_range kind.Char) ns)
letters_ranged [] h = refl
letters_ranged (n ∷ ns) h =
    let b = and_parts (is_letter n) (list_all is_letter ns) h in
    and_from (in_range kind.Char n) (list_all (in_range kind.Char) ns) (and_parts (in_range kind.Char n) _ b.0).0 (letters_ranged ns b.1)

pub array_ranged : (a : Array) (k : Kind) (ns : List ℤ) → IsArray a k ns → (k ≡ kind_of a) × IsTrue (list_all (in_range (kind_of a)) ns)
array_ranged (text c) k ns h = (h.0, letters_ranged ns h.2)
array_ranged (row_of k' c) k ns h = (h.0, h.2)
