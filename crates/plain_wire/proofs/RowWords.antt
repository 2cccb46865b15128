-- The numbers of a row are read as their image, or cut at the first that is not there, by induction on their number.
use Rattle.std.proofs.Common.{◌≡◌, ◌≢◌, ◌⊎◌, inl, inr, ℕ, zero, suc, ◌+◌, ◌-◌, ◌*◌, ◌/◌, ◌%◌, ◌<◌, ◌≤◌, ℤ, List, [], ◌∷◌, ◌++◌, length, take, drop, Bool, true, false, cond, ltb, nat_lt, refl, sym, ap, ◌∙◌, subst, zero-mul, add-zero, add-one, arith, reverse, length-take, length-drop}
use Rattle.std.specs.Prelude.{if◌then◌else◌, IsTrue}
use Rattle.std.specs.List.{AllByRecursion}
use Rattle.std.specs.Int.{Width, w8, byte_len, from_le_bytes, from_be_bytes}
use Rattle.std.proofs.Math.Nat.{add-div_left, div-eq_of_lt, mul-div_cancel, mul-mod_left, le-div_iff_mul-le}
use Rattle.std.proofs.lemmas.Bool.{cases_lt, lt-ltb, le-ltb, ltb-false}
use Rattle.std.proofs.lemmas.List.{drop-drop, take-append-drop, take_at, drop_at, length-reverse, reverse-append}
use Rattle.mint.specs.declared.kind.Kind.{Kind}
use Rattle.mint.specs.declared.kind.Kind.TheVariants as kind
use Rattle.mint.specs.Kinds.{in_range, word, width}
use Rattle.mint.specs.Row.{Numbers, number_from, number_in, numbers_in, numbers_of}
use Rattle.mint.specs.Types.{number}
use Rattle.mint.proofs.Images.{AreOctets, octet_at, number_ranged, octets_taken, octets_dropped, numbers-both, some_octets}
use Rattle.wire_def.specs.declared.encoding.Encoding.{Encoding}
use Rattle.wire_def.specs.declared.encoding.Encoding.TheVariants.{Xdr, CdrBig, CdrLittle, Mach}
use Rattle.wire_def.specs.declared.fault.FaultKind.{FaultKind}
use Rattle.wire_def.specs.declared.fault.FaultKind.TheVariants.{Short, BadValue}
use Rattle.wire_def.specs.Grammar.{Reader, got, stop, then_on, map_got, times}
use Rattle.wire_def.specs.Scalars.{is_signed, width_of, octets_number, number_of}
use Rattle.kit_swap.specs.Swapped.{swapped, IsSwapWidth}
use Rattle.kit_swap.proofs.Swapping.{swapped-first, length-swapped, first_run}
use Rattle.plain_wire.specs.Readers.{read_here}
use Rattle.plain_wire.specs.Rows.{IsLittle, InImage, IsWay, arranged}
use Rattle.plain_wire.specs.declared.widths.Way.{Way}
use Rattle.plain_wire.specs.declared.widths.Way.TheVariants.{Copied, Swapped, Single}
use Rattle.plain_wire.proofs.Words.{word_here}
use Rattle.plain_wire.proofs.RowImages.{IsMany, two, four, eight, many, whole_words, swapped_piece}
use Rattle.wire_def.proofs.RowWords.{word_number, words_read, words_first}

-- ---- words as they are read

pub each_octet : (o : List ℕ) → AreOctets o → AllByRecursion (λ b. b < 256) o
each_octet [] h = tt
each_octet (b ∷ o) h = (h 0, each_octet o (λ i. h (suc i)))

-- words that all are numbers: read as one block, or cut at the first that is not there
module _ (r : Reader FaultKind ℤ) (value : List ℕ → ℤ) (w : ℕ) (some : 0 < w)
    (step : (p : ℕ) (o : List ℕ) → AreOctets o
    → r p o ≡ (if nat_lt (length o) w then stop Short p else got (value (take w o)) (p + w) (drop w o)))
  where
    words_there : (n p : ℕ) (o : List ℕ) → AreOctets o → n * w ≤ length o
        → times r n p o ≡ got (words_read value w n o) (p + n * w) (drop (n * w) o)
    words_there zero p o oct h = rw (zero-mul, add-zero) refl
    words_there (suc n) p o oct h =
        let long : w + n * w ≡ suc n * w = omega arith in
        let there : ltb (length o) w ≡ false = le-ltb _ _ (omega (arith, long)) in
        let rest : n * w ≤ length (drop w o) = omega (arith, long, length-drop w o) in
        let place : p + w + n * w ≡ p + suc n * w = omega (arith, long) in
        let after : drop (n * w) (drop w o) ≡ drop (suc n * w) o = drop-drop (n * w) w o ∙ ap (λ z. drop z o) long in
        rw (step p o oct, there, words_there n (p + w) (drop w o) (octets_dropped w o oct) rest) (rw (place, after) refl)

    words_cut : (n p : ℕ) (o : List ℕ) → AreOctets o → length o / w < n → times r n p o ≡ stop Short (p + length o / w * w)
    words_cut zero p o oct h = absurd (omega arith)
    words_cut (suc n) p o oct h = elim (cases_lt (length o) w) [
      | inl lt ↦
          let none : length o / w ≡ 0 = div-eq_of_lt lt in
          rw (step p o oct, lt-ltb _ _ lt, none, zero-mul, add-zero) refl
      | inr le ↦
          let split : length o ≡ w + length (drop w o) = omega (arith, length-drop w o) in
          let more : length o / w ≡ suc (length (drop w o) / w) =
          ap (λ z. z / w) split ∙ add-div_left (length (drop w o)) some ∙ add-one (length (drop w o) / w) in
          let rest = words_cut n (p + w) (drop w o) (octets_dropped w o oct) (omega (arith, more)) in
          let m : ℕ = length (drop w o) / w in
          let long : w + m * w ≡ suc m * w = omega arith in
          let place : p + w + m * w ≡ p + suc m * w = omega (arith, long) in
          rw (step p o oct, le-ltb _ _ le, rest, more) (rw place refl)
    ]

-- ---- the words of kinds

narrow_number : (e : Encoding) (o : List ℕ) → octets_number e w8 o ≡ from_le_bytes w8 o
narrow_number Xdr o = refl
narrow_number CdrBig o = refl
narrow_number CdrLittle o = refl
narrow_number Mach o = refl

little_number : (e : Encoding) (w : Width) (o : List ℕ) → IsLittle e → octets_number e w o ≡ from_le_bytes w o
little_number Xdr w o h = absurd h
little_number CdrBig w o h = absurd h
little_number CdrLittle w o h = refl
little_number Mach w o h = refl

copied_number : (e : Encoding) (w : Width) (o : List ℕ) → IsLittle e ⊎ (w ≡ w8) → octets_number e w o ≡ from_le_bytes w o
copied_number e w o (inl little) = little_number e w o little
copied_number e w o (inr narrow) = rw narrow (narrow_number e o)

swapped_number : (w : Width) → IsMany w → (o : List ℕ) → length o ≡ byte_len w → from_be_bytes w o ≡ from_le_bytes w (reverse o)
swapped_number _ two (a ∷ b ∷ []) len = omega arith
swapped_number _ four (a ∷ b ∷ c ∷ d ∷ []) len = omega arith
swapped_number _ eight (a ∷ b ∷ c ∷ d ∷ e ∷ f ∷ g ∷ h ∷ []) len = omega arith
swapped_number _ _ _ len = absurd cc

big_number : (e : Encoding) (w : Width) (o : List ℕ) → (IsLittle e → ⊥) → octets_number e w o ≡ from_be_bytes w o
big_number Xdr w o big = refl
big_number CdrBig w o big = refl
big_number CdrLittle w o big = absurd (big tt)
big_number Mach w o big = absurd (big tt)

-- the number of a word as it travels
abbrev word_value : Way → Kind → List ℕ → ℤ
word_value Swapped k o = number_in k (reverse o)
word_value _ k o = number_in k o

way_word : (e : Encoding) (k : Kind) (way : Way) → IsWay e k way → way ≢ Single → (o : List ℕ) → length o ≡ width k
    → number_from k (octets_number e (word k) o) ≡ word_value way k o
unfolding number_in
way_word e k Copied way block o len = ap (number_from k) (copied_number e (word k) o way.1)
way_word e k Swapped way block o len = ap (number_from k) (big_number e (word k) o way.1 ∙ swapped_number (word k) (many k way.2) o len)
way_word e k Single way block o len = absurd (block refl)

joined : (x y : List ℕ) → AllByRecursion (λ b. b < 256) x → AllByRecursion (λ b. b < 256) y → AllByRecursion (λ b. b < 256) (x ++ y)
joined [] y g h = h
joined (b ∷ x) y g h = (g.0, joined x y g.1 h)

turned_octets : (o : List ℕ) → AllByRecursion (λ b. b < 256) o → AllByRecursion (λ b. b < 256) (reverse o)
turned_octets [] h = tt
turned_octets (a ∷ o) h =
    subst (AllByRecursion (λ b. b < 256)) (sym (reverse-append (a ∷ []) o)) (joined (reverse o) (a ∷ []) (turned_octets o h.1) (h.0, tt))

reversed : (o : List ℕ) → AreOctets o → AreOctets (reverse o)
reversed o oct = octet_at (reverse o) (turned_octets o (each_octet o oct))

way_ranged : (k : Kind) (way : Way) → k ≢ kind.Bool → (o : List ℕ) → AreOctets o → IsTrue (in_range k (word_value way k o))
way_ranged k Copied other o oct = number_ranged k o other oct
way_ranged k Swapped other o oct = number_ranged k (reverse o) other (reversed o oct)
way_ranged k Single other o oct = number_ranged k o other oct

in_image : (e : Encoding) (k : Kind) (way : Way) → IsWay e k way → way ≢ Single → InImage e k
in_image e k Copied way block = way.0
in_image e k Swapped way block = way.0
in_image e k Single way block = absurd (block refl)

-- a number of a kind all of whose words are numbers, where it begins
here_word : (e : Encoding) (k : Kind) (value : List ℕ → ℤ) → InImage e k
    → ((o : List ℕ) → length o ≡ width k → number_from k (octets_number e (word k) o) ≡ value o)
    → ((o : List ℕ) → AreOctets o → IsTrue (in_range k (value o))) → (p : ℕ) (o : List ℕ) → AreOctets o
    → read_here e (number k) p o
    ≡ (if nat_lt (length o) (width k) then stop Short p else got (value (take (width k) o)) (p + width k) (drop (width k) o))
here_word e k value same is ranged p o oct =
    ap (λ r. then_on (map_got (number_of (is_signed (number k)) (width_of e (number k))) r) (λ n q b.
    if in_range k n then got n q b else stop BadValue p)) (word_here e (width_of e (number k)) p o)
    ∙ ap (λ w.
    then_on
    (map_got (number_of (is_signed (number k)) w)
    (if nat_lt (length o) (byte_len w) then stop Short p else got (octets_number e w (take (byte_len w) o)) (p + byte_len w)
    (drop (byte_len w) o))) (λ n q b. if in_range k n then got n q b else stop BadValue p)) same
    ∙ by (ltb (length o) (width k)) refl where
      x : List ℕ
      x = take (width k) o

      by : (t : Bool) → ltb (length o) (width k) ≡ t
          → then_on
          (map_got (number_of (is_signed (number k)) (word k))
          (cond t (stop Short p) (got (octets_number e (word k) x) (p + width k) (drop (width k) o))))
          (λ n q b. if in_range k n then got n q b else stop BadValue p)
          ≡ cond t (stop Short p) (got (value x) (p + width k) (drop (width k) o))
      by true cut = refl
      by false there =
          let long : length x ≡ width k = omega (arith, length-take (width k) o, ltb-false _ _ there) in
          rw (word_number k (octets_number e (word k) x), is x long, ranged x (octets_taken (width k) o oct)) refl

copied_words : (k : Kind) (n : ℕ) (o : List ℕ) → words_read (number_in k) (width k) n o ≡ numbers_in k n o
unfolding numbers_in
copied_words k zero o = refl
copied_words k (suc n) o = ap (λ z. number_in k (take (width k) o) ∷ z) (copied_words k n (drop (width k) o))

swapped_words : (k : Kind) → IsSwapWidth (width k) → (n : ℕ) (o : List ℕ) → length o ≡ n * width k
    → words_read (λ x. number_in k (reverse x)) (width k) n o ≡ numbers_in k n (swapped (width k) o)
unfolding numbers_in
swapped_words k is zero o len = refl
swapped_words k is (suc n) o len =
    let w : ℕ = width k in
    let f : List ℕ = take w o in
    let r : List ℕ = drop w o in
    let s = first_run w n o len in
    let turn : length (reverse f) ≡ w = length-reverse f ∙ s.0 in
    let split : swapped w o ≡ reverse f ++ swapped w r =
    ap (swapped w) (sym (take-append-drop w o)) ∙ swapped-first w f r (some_octets k) s.0 in
    rw (split, take_at (reverse f) (swapped w r) w turn, drop_at (reverse f) (swapped w r) w turn, swapped_words k is n r s.1) refl

first_long : (w n : ℕ) (o : List ℕ) → n * w ≤ length o → length (take (n * w) o) ≡ n * w
first_long w n o h = omega (arith, length-take (n * w) o)

pub within : (k : Kind) (n l : ℕ) → n ≤ l / width k → n * width k ≤ l
within k n l h = (le-div_iff_mul-le (some_octets k)).0 h

-- the numbers of octets that travel
way_words : (e : Encoding) (k : Kind) (way : Way) → IsWay e k way → way ≢ Single → (n : ℕ) (o : List ℕ) → length o ≡ n * width k
    → words_read (word_value way k) (width k) n o ≡ numbers_of k (arranged way (width k) o)
unfolding numbers_of
way_words e k Copied way block n o len = copied_words k n o
    ∙ ap (λ m. numbers_in k m o) (sym (ap (λ z. z / width k) len ∙ mul-div_cancel n (some_octets k)))
way_words e k Swapped way block n o len =
    let whole : length o % width k ≡ 0 = ap (λ z. z % width k) len ∙ mul-mod_left n (width k) in
    let same : length (swapped (width k) o) / width k
    ≡ n = ap (λ z. z / width k) (length-swapped (width k) o way.2 whole ∙ len) ∙ mul-div_cancel n (some_octets k) in
    swapped_words k way.2 n o len ∙ ap (λ m. numbers_in k m (swapped (width k) o)) (sym same)
way_words e k Single way block n o len = absurd (block refl)

module _ (e : Encoding) (k : Kind) (way : Way) (is : IsWay e k way) (block : way ≢ Single) (other : k ≢ kind.Bool)
    (n p : ℕ) (o : List ℕ) (oct : AreOctets o) where
  step : (q : ℕ) (b : List ℕ) → AreOctets b
      → read_here e (number k) q b ≡ (if nat_lt (length b) (width k) then stop Short q
      else got (word_value way k (take (width k) b)) (q + width k) (drop (width k) b))
  step = here_word e k (word_value way k) (in_image e k way is block) (way_word e k way is block) (way_ranged k way other)

  pub image_there : n ≤ length o / width k
      → times (read_here e (number k)) n p o
      ≡ got (numbers_of k (arranged way (width k) (take (n * width k) o))) (p + n * width k) (drop (n * width k) o)
  image_there h =
      let fits = within k n (length o) h in
      let value : words_read (word_value way k) (width k) n o ≡ numbers_of k (arranged way (width k) (take (n * width k) o)) =
      sym (words_first (word_value way k) (width k) n o fits)
      ∙ way_words e k way is block n (take (n * width k) o) (first_long (width k) n o fits) in
      words_there (read_here e (number k)) (word_value way k) (width k) (some_octets k) step n p o oct fits
      ∙ ap (λ z. got z (p + n * width k) (drop (n * width k) o)) value

  pub image_cut : length o / width k < n → times (read_here e (number k)) n p o ≡ stop Short (p + length o / width k * width k)
  image_cut h = words_cut (read_here e (number k)) (word_value way k) (width k) (some_octets k) step n p o oct h

pub image_whole : (k : Kind) (n : ℕ) (o : List ℕ) → n ≤ length o / width k → length (take (n * width k) o) % width k ≡ 0
image_whole k n o h = rw (first_long (width k) n o (within k n (length o) h)) (mul-mod_left n (width k))

pub ruleset images = (image_there, image_cut, image_whole, within)

-- the numbers of a swapped piece and of the rest
pub numbers_piece : (k : Kind) (n : ℕ) (o : List ℕ) → IsSwapWidth (width k) → n % width k ≡ 0 → n ≤ length o
    → numbers_of k (swapped (width k) o) ≡ numbers_of k (swapped (width k) (take n o)) ++ numbers_of k (swapped (width k) (drop n o))
numbers_piece k n o is whole h =
    let long : length (take n o) ≡ n = omega (arith, length-take n o) in
    let even : length (take n o) % width k ≡ 0 = rw long whole in
    let same : length (swapped (width k) (take n o)) ≡ n = length-swapped (width k) (take n o) is even ∙ long in
    ap (numbers_of k) (swapped_piece (width k) n o is whole h)
    ∙ numbers-both k (n / width k) (swapped (width k) (take n o)) (swapped (width k) (drop n o))
    (same ∙ whole_words (width k) n whole)

pub same_row : (r : Numbers) (k : Kind) (ns : List ℤ) → r.kind ≡ k → r.numbers ≡ ns → r ≡ record { kind = k; numbers = ns }
same_row r k ns first second = ap (λ j. record { kind = j; numbers = r.numbers }) first ∙ ap (λ z. record { kind = k; numbers = z }) second
