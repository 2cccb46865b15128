-- Numbers, items, texts and rows that are written are read, by induction on numbers, octets and items.
use Rattle.std.proofs.Common.{◌≡◌, ℕ, zero, suc, ◌<◌, ℤ, pos, negsuc, List, [], ◌∷◌, map, Bool, true, false, ◌||◌, not, nat_lt, nat_abs, int_eq, int_lt, Some, option_map, option_and_then, bytes_eq, refl, ap, arith}
use Rattle.std.specs.Prelude.{if◌then◌else◌}
use Rattle.std.specs.List.{list_all, list_any}
use Rattle.std.proofs.Math.Utf8.{scalars, low_scalar}
use Rattle.std.proofs.lemmas.Bool.{ltb-true}
use Rattle.std.proofs.lemmas.Bool.Decides.{Decides-int_eq}
use Rattle.std.proofs.lemmas.Slice.Eq.{bytes_eq-Decides}
use Rattle.std.proofs.lemmas.Str.{chars-encodes, encodes_same}
use Rattle.hex.specs.Hex.{IsBytes, encode_lower}
use Rattle.hex.proofs.HexLemmas.{decode_of-encode_lower}
use Rattle.mint.specs.declared.kind.Kind.{Kind}
use Rattle.mint.specs.declared.kind.Kind.TheVariants as kind
use Rattle.mint.specs.Kinds.{in_range, is_letter}
use Rattle.mint.specs.Types.{Array, text, row_of}
use Rattle.mint.specs.Typed.{IsScalar, IsArray}
use Rattle.aoi.specs.Sound.{are_distinct}
use Rattle.pres.specs.Faces.{ItemList, Sign, put_in, labels_of, scalar_of}
use Rattle.pres.specs.Faces as face
use Rattle.serde_json.specs.Data.{number, string}
use Rattle.serde_json.specs.Find.{of_integer, as_integer}
use Rattle.json_shape.specs.Named.{is_named_sign}
use Rattle.json_shape.specs.Texts.{is_octet, are_octets, octets_of, octets_in, hex_in, text_of}
use Rattle.wire_def.specs.Arrays.{kind_of}
use Rattle.json_shape.specs.Scalars.{flag, only, whole_in, number_in, number_named, sign_in, each_in, row_in, array_in}
use Rattle.json_shape.specs.Written.{letters, number_tree, number_json, name_of, sign_json, each_json, row_json}
use Rattle.wire_def.proofs.ScalarGrammar.{left_true, right_true}

-- octets are characters
octet_scalars : (os : List ℕ) → are_octets os ≡ true → scalars os ≡ true
octet_scalars [] h = refl
octet_scalars (o ∷ os) h =
    let small : o < 256 = ltb-true o 256 (left_true (is_octet o) (are_octets os) h) in
    rw (low_scalar o (omega (arith, small)), octet_scalars os (right_true (is_octet o) (are_octets os) h)) refl

octets_written : (os : List ℕ) → are_octets os ≡ true → octets_of (text_of os) ≡ Some os
octets_written os h = rw (chars-encodes os (octet_scalars os h), h) refl

-- numbers that are octets
abbrev are_small : List ℤ → Bool
are_small = list_all (in_range kind.Char)

small_octets : (ns : List ℤ) → are_small ns ≡ true → are_octets (map nat_abs ns) ≡ true
small_octets [] h = refl
small_octets (pos n ∷ ns) h =
    rw (left_true (nat_lt n 256) (are_small ns) h, small_octets ns (right_true (nat_lt n 256) (are_small ns) h)) refl
small_octets (negsuc n ∷ ns) h = absurd (omega (arith, ltb-true n 0 (left_true (nat_lt n 0) (are_small ns) h)))

small_again : (ns : List ℤ) → are_small ns ≡ true → map pos (map nat_abs ns) ≡ ns
small_again [] h = refl
small_again (pos n ∷ ns) h = ap (λ ms. pos n ∷ ms) (small_again ns (right_true (nat_lt n 256) (are_small ns) h))
small_again (negsuc n ∷ ns) h = absurd (omega (arith, ltb-true n 0 (left_true (nat_lt n 0) (are_small ns) h)))

letters_written : (ns : List ℤ) → are_small ns ≡ true → option_map (map pos) (octets_in (letters ns)) ≡ Some ns
letters_written ns h = rw (octets_written (map nat_abs ns) (small_octets ns h)) (ap Some (small_again ns h))

octet_bytes : (os : List ℕ) → are_octets os ≡ true → IsBytes os
octet_bytes [] h i = omega arith
octet_bytes (o ∷ os) h zero = ltb-true o 256 (left_true (is_octet o) (are_octets os) h)
octet_bytes (o ∷ os) h (suc i) = octet_bytes os (right_true (is_octet o) (are_octets os) h) i

hex_written : (ns : List ℤ) → are_small ns ≡ true → option_map (map pos) (hex_in (string (encode_lower (map nat_abs ns)))) ≡ Some ns
hex_written ns h =
    rw (decode_of-encode_lower (map nat_abs ns) (octet_bytes (map nat_abs ns) (small_octets ns h))) (ap Some (small_again ns h))

-- numbers of kinds
integer_again : (n : ℤ) → as_integer (of_integer n) ≡ Some n
integer_again (pos n) = refl
integer_again (negsuc n) = refl

whole_written : (k : Kind) (n : ℤ) → in_range k n ≡ true → whole_in k (number (of_integer n)) ≡ Some n
whole_written k n h = rw (integer_again n, h) refl

letter_written : (n : ℤ) → in_range kind.Char n ≡ true → option_and_then only (octets_in (letters (n ∷ []))) ≡ Some n
letter_written (pos n) h = rw (octets_written (n ∷ []) (rw h refl)) refl
letter_written (negsuc n) h = absurd (omega (arith, ltb-true n 0 h))

truth_written : (n : ℤ) → in_range kind.Bool n ≡ true → flag (not (int_eq n (pos 0))) ≡ n
truth_written (pos zero) h = refl
truth_written (pos (suc zero)) h = refl
truth_written (pos (suc (suc n))) h = absurd (omega (arith, ltb-true (suc (suc n)) 2 h))
truth_written (negsuc n) h = absurd (omega (arith, ltb-true n 0 h))

tree_written : (k : Kind) (n : ℤ) → in_range k n ≡ true → number_in k (number_tree k n) ≡ Some n
tree_written kind.Bool n h = ap Some (truth_written n h)
tree_written kind.Char n h = letter_written n h
tree_written k n h = whole_written k n h

pub number_written : (k : Kind) (n : ℤ) → in_range k n ≡ true → number_in k (number_json k n) ≡ Some n
number_written k n h = rw h (tree_written k n h)

each_written : (k : Kind) (ns : List ℤ) → list_all (in_range k) ns ≡ true → each_in k (each_json k ns) ≡ Some ns
each_written k [] h = refl
each_written k (n ∷ ns) h =
    rw (
      number_written k n (left_true (in_range k n) (list_all (in_range k) ns) h),
      each_written k ns
          (right_true (in_range k n) (list_all (in_range k) ns) h),
    ) refl

row_written : (k : Kind) (ns : List ℤ) → list_all (in_range k) ns ≡ true → row_in k (row_json k ns) ≡ Some ns
row_written kind.Octet ns h = hex_written ns h
row_written kind.Char ns h = letters_written ns h
row_written k ns h = each_written k ns h

letters_small : (ns : List ℤ) → list_all is_letter ns ≡ true → are_small ns ≡ true
letters_small [] h = refl
letters_small (n ∷ ns) h =
    let here = left_true (in_range kind.Char n) (not (int_eq n (pos 0))) (left_true (is_letter n) (list_all is_letter ns) h) in
    rw (here, letters_small ns (right_true (is_letter n) (list_all is_letter ns) h)) refl

pub array_written : (a : Array) (k : Kind) (ns : List ℤ) → IsArray a k ns → (k ≡ kind_of a) × (array_in a (row_json k ns) ≡ Some ns)
array_written (text c) k ns h = (h.0, rw h.0 (letters_written ns (letters_small ns h.2)))
array_written (row_of k' c) k ns h = (h.0, rw h.0 (row_written k' ns h.2))

-- items of enums

abbrev has_number : ItemList → ℤ → Bool
has_number items n = list_any (λ i. int_eq i.1 n) items

abbrev pub is_name : List (List ℕ) → List ℕ → Bool
is_name names name = list_any (λ m. bytes_eq m name) names

put_any : (p : ℤ → Bool) (m : ℤ) (ls : List ℤ) → list_any p (put_in m ls) ≡ true → (p m || list_any p ls) ≡ true
put_any p m [] h = h
put_any p m (l ∷ ls) h = step (put_any p m ls) (int_eq m l) (int_lt m l) h where
  after : (a b c d : Bool) → (a || b) ≡ true → (b ≡ true → (c || d) ≡ true) → (c || (a || d)) ≡ true
  after true b true d h f = refl
  after true b false d h f = refl
  after false b true d h f = refl
  after false b false d h f = f h

  either : (a b : Bool) → b ≡ true → (a || b) ≡ true
  either true b h = refl
  either false b h = h

  step : (list_any p (put_in m ls) ≡ true → (p m || list_any p ls) ≡ true) → (s t : Bool)
      → list_any p (if s then l ∷ ls else (if t then m ∷ l ∷ ls else l ∷ put_in m ls)) ≡ true
      → (p m || list_any p (l ∷ ls)) ≡ true
  step f true t h = either (p m) (list_any p (l ∷ ls)) h
  step f false true h = h
  step f false false h = after (p l) (list_any p (put_in m ls)) (p m) (list_any p ls) h f

label_there : (items : ItemList) (n : ℤ) → list_any (λ l. int_eq l n) (labels_of items) ≡ true → has_number items n ≡ true
label_there [] n h = h
label_there (i ∷ items) n h =
    more (int_eq i.1 n) (list_any (λ l. int_eq l n) (labels_of items)) (has_number items n)
    (put_any (λ l. int_eq l n) i.1 (labels_of items) h) (label_there items n) where
      more : (a b c : Bool) → (a || b) ≡ true → (b ≡ true → c ≡ true) → (a || c) ≡ true
      more true b c h f = refl
      more false b c h f = f h

-- the first name with a number names it, and is a name
record Names (items : ItemList) (n : ℤ) (name : List ℕ) : Type 0 where
  pub named : number_named items (text_of name) ≡ Some n
  pub there : is_name (map (λ i. i.0) items) name ≡ true

names_first : (i : List ℕ × ℤ) (items : ItemList) (n : ℤ) → int_eq i.1 n ≡ true → Names (i ∷ items) n i.0
names_first i items n h = record {
  named = rw ((bytes_eq-Decides (text_of i.0) (text_of i.0)).1 refl) (ap Some ((Decides-int_eq i.1 n).0 h));
  there = rw ((bytes_eq-Decides i.0 i.0).1 refl) refl;
}

names_later : (i : List ℕ × ℤ) (items : ItemList) (n : ℤ) (name : List ℕ) → not (is_name (map (λ i. i.0) items) i.0) ≡ true
    → Names items n name
    → Names (i ∷ items) n name
names_later i items n name new names = record {
  named =
      later (bytes_eq (text_of i.0) (text_of name))
      (λ same. clash (encodes_same i.0 name ((bytes_eq-Decides (text_of i.0) (text_of name)).0 same)));
  there = either (bytes_eq i.0 name) (is_name (map (λ i. i.0) items) name) names.there;
} where
  either : (a b : Bool) → b ≡ true → (a || b) ≡ true
  either true b h = refl
  either false b h = h

  clash : i.0 ≡ name → ⊥
  clash same =
      let twice : is_name (map (λ i. i.0) items) i.0 ≡ true = rw same names.there in let no : not true ≡ true = rw twice at new in absurd cc

  later : (b : Bool) → (b ≡ true → ⊥) → (if b then Some i.1 else number_named items (text_of name)) ≡ Some n
  later true h = absurd (h refl)
  later false h = names.named

names : (items : ItemList) (n : ℤ) → has_number items n ≡ true → are_distinct (map (λ i. i.0) items) ≡ true
    → Names items n (name_of items n)
names [] n h distinct = absurd cc
names (i ∷ items) n h distinct =
    step (λ k. names items n k (right_true (not (is_name (map (λ i. i.0) items) i.0)) (are_distinct (map (λ i. i.0) items)) distinct))
    (int_eq i.1 n) refl h where
      new : not (is_name (map (λ i. i.0) items) i.0) ≡ true
      new = left_true (not (is_name (map (λ i. i.0) items) i.0)) (are_distinct (map (λ i. i.0) items)) distinct

      step : (has_number items n ≡ true → Names items n (name_of items n)) → (b : Bool) → int_eq i.1 n ≡ b
          → (b || has_number items n) ≡ true
          → Names (i ∷ items) n (if b then i.0 else name_of items n)
      step f true is h = names_first i items n is
      step f false is h = names_later i items n (name_of items n) new (f h)

pub sign_written : (s : Sign) (n : ℤ) → is_named_sign s ≡ true → IsScalar (scalar_of s) n → sign_in s (sign_json s n) ≡ Some n
sign_written (face.number k) n distinct h = number_written k n h
sign_written (face.item items) n distinct h =
    (names items n (label_there items n (right_true (in_range kind.I32 n) (list_any (λ l. int_eq l n) (labels_of items)) h)) distinct).named
