-- The words of a line are read as what they are printed from, by induction on digits and on lists.
use Rattle.std.proofs.Common.{◌≡◌, ◌≢◌, ℕ, zero, suc, ◌+◌, ◌-◌, ◌*◌, ◌/◌, ◌%◌, ◌^◌, ◌<◌, ◌≤◌, inl, inr, Bool, true, false, not, ◌&&◌, ◌||◌, ◌==◌, cond, ℤ, pos, negsuc, List, [], ◌∷◌, ◌++◌, length, take, drop, Some, None, refl, sym, ap, ◌∙◌, append_assoc, arith, codes, le-leb, ne_eqb, lt-ltb, le-ltb, ltb, leb, length-append}
use Rattle.std.specs.List.{prefix_len}
use Rattle.std.proofs.lemmas.Bool.{false≢true, and_from, and_right, lt-leb, cases_lt}
use Rattle.std.proofs.lemmas.List.Elements.{All-head, All-tail}
use Rattle.kit_base.specs.Lines.{HasNoEnd}
use Rattle.wire_def.specs.declared.head.Order.{Order}
use Rattle.wire_def.specs.declared.head.Order.TheVariants.{Big, Little}
use Rattle.stub_print.specs.Words.{digits, numeral, integer, points, path_word, order_word, hex_digit, hex}
use Rattle.stub_read.specs.Reading.{Read, Reader, then_on, map_read, begins, word_at, mapped, before, repeat}
use Rattle.stub_read.specs.Words.{space, feed, is_digit, begins_digit, digits_on, most_word, number_at, most_signed, minus, integer_at, begins_field, point_at, fields_at, bare_path_at, path_at, order_at, is_hex, hex_value, hex_digit_at, octets_at, parted_at, line_at}
use Rattle.stub_read.proofs.Loops.{ends_none, one_more}
use Rattle.stub_read.specs.Stubs.{IsWord, AreWords, IsSigned, AreOctets}

-- ---- digits

few : (k n : ℕ) → n < 10 → digits (suc k) n ≡ (48 + n) ∷ []
few k n h = ap (λ t. cond t ((48 + n) ∷ []) (digits k (n / 10) ++ ((48 + n % 10) ∷ []))) (lt-ltb n 10 h)

more : (k n : ℕ) → 10 ≤ n → digits (suc k) n ≡ digits k (n / 10) ++ ((48 + n % 10) ∷ [])
more k n h = ap (λ t. cond t ((48 + n) ∷ []) (digits k (n / 10) ++ ((48 + n % 10) ∷ []))) (le-ltb n 10 h)

digit_is : (d : ℕ) → d < 10 → is_digit (48 + d) ≡ true
digit_is d l = and_from (leb 48 (48 + d)) (leb (48 + d) 57) (le-leb 48 (48 + d) (omega arith)) (le-leb (48 + d) 57 (omega arith))

-- one more digit
one_digit : (most m d n : ℕ) (t : List ℕ) → d < 10 → 10 * m + d ≡ n → n ≤ most → digits_on most m ((48 + d) ∷ t) ≡ digits_on most n t
one_digit most m d n t l is fits =
    let same : 10 * m + ((48 + d) - 48) ≡ n = omega arith in
    ap (λ b. cond b (cond (leb (10 * m + ((48 + d) - 48)) most) (digits_on most (10 * m + ((48 + d) - 48)) t) None)
    (Some (m, (48 + d) ∷ t))) (digit_is d l)
    ∙ ap (λ k. cond (leb k most) (digits_on most k t) None) same
    ∙ ap (λ b. cond b (digits_on most n t) None) (le-leb n most fits)

-- digits are read on as the number that they write
digits_read : (k most n : ℕ) (t : List ℕ) → n < k → n ≤ most → digits_on most 0 (digits k n ++ t) ≡ digits_on most n t
digits_read zero most n t h fits = absurd (omega arith)
digits_read (suc k) most n t h fits = elim (cases_lt n 10) [
  | inl l ↦ ap (λ w. digits_on most 0 (w ++ t)) (few k n l) ∙ one_digit most 0 n n t l (omega arith) fits
  | inr g ↦ ap (λ w. digits_on most 0 (w ++ t)) (more k n g)
      ∙ ap (digits_on most 0) (append_assoc (digits k (n / 10)) ((48 + n % 10) ∷ []) t)
      ∙ digits_read k most (n / 10) ((48 + n % 10) ∷ t) (omega arith) (omega arith)
      ∙ one_digit most (n / 10) (n % 10) n t (omega arith) (omega arith) fits
]

stops_at : (most n c : ℕ) (t : List ℕ) → is_digit c ≡ false → digits_on most n (c ∷ t) ≡ Some (n, c ∷ t)
stops_at most n c t ends =
    ap (λ b. cond b (cond (leb (10 * n + (c - 48)) most) (digits_on most (10 * n + (c - 48)) t) None) (Some (n, c ∷ t))) ends

pub numeral_reads : (most n c : ℕ) (t : List ℕ) → n ≤ most → is_digit c ≡ false → digits_on most 0 (numeral n ++ c ∷ t) ≡ Some (n, c ∷ t)
unfolding numeral
numeral_reads most n c t fits ends = digits_read (suc n) most n (c ∷ t) (omega arith) fits ∙ stops_at most n c t ends

-- the first octet of a number is a digit
first_digit : (k n : ℕ) (t : List ℕ) → n < k → begins_digit (digits k n ++ t) ≡ true
first_digit zero n t h = absurd (omega arith)
first_digit (suc k) n t h = elim (cases_lt n 10) [
  | inl l ↦ ap (λ w. begins_digit (w ++ t)) (few k n l) ∙ digit_is n l
  | inr g ↦ ap (λ w. begins_digit (w ++ t)) (more k n g) ∙ ap begins_digit (append_assoc (digits k (n / 10)) ((48 + n % 10) ∷ []) t)
      ∙ first_digit k (n / 10) ((48 + n % 10) ∷ t) (omega arith)
]

pub numeral_begins : (n : ℕ) (t : List ℕ) → begins_digit (numeral n ++ t) ≡ true
unfolding numeral
numeral_begins n t = first_digit (suc n) n t (omega arith)

-- ---- numbers before a word

fits_word : (n : ℕ) → IsWord n → n ≤ most_word
unfolding most_word
fits_word n h = omega arith

then_read : {A : Type 0} (q : Read A) (a : A) (w t us : List ℕ) → q ≡ Some (a, us) → word_at w us ≡ Some (tt, t)
    → then_on q (λ b vs. then_on (word_at w vs) (λ u xs. Some (b, xs))) ≡ Some (a, t)
then_read q a w t us e f = rw (e, f) refl

pub number_spaced : (n : ℕ) (t : List ℕ) → IsWord n → number_at space (numeral n ++ 32 ∷ t) ≡ Some (n, t)
number_spaced n t h = then_read _ n space t (32 ∷ t) (numeral_reads most_word n 32 t (fits_word n h) refl) refl

pub number_ended : (n : ℕ) (t : List ℕ) → IsWord n → number_at feed (numeral n ++ 10 ∷ t) ≡ Some (n, t)
number_ended n t h = then_read _ n feed t (10 ∷ t) (numeral_reads most_word n 10 t (fits_word n h) refl) refl

-- ---- numbers with a sign

no_minus : (t : List ℕ) → begins_digit t ≡ true → begins (codes "-") t ≡ false
no_minus [] h = refl
no_minus (c ∷ t) h = ap (λ b. b && true) (ne_eqb 45 c (λ e. false≢true (ap is_digit e ∙ h)))

signed_fits : (n : ℕ) → n < 2 ^ 127 → n ≤ most_signed
unfolding most_signed
signed_fits n h = omega arith

sized_fits : (n : ℕ) → n < 2 ^ 127 → suc n ≤ most_signed + 1
unfolding most_signed
sized_fits n h = omega arith

mapped_reads : {A B : Type 0} (f : A → B) (q : Read A) (a : A) (t : List ℕ) → q ≡ Some (a, t) → map_read f q ≡ Some (f a, t)
mapped_reads f q a t e = ap (map_read f) e

pub integer_ended : (z : ℤ) (t : List ℕ) → IsSigned z → integer_at feed (integer z ++ 10 ∷ t) ≡ Some (z, t)
unfolding integer
integer_ended (pos n) t h =
    ap (λ b. cond b (before (mapped minus (digits_on (most_signed + 1) 0)) feed (drop 1 (numeral n ++ 10 ∷ t)))
    (before (mapped pos (digits_on most_signed 0)) feed (numeral n ++ 10 ∷ t))) (no_minus (numeral n ++ 10 ∷ t) (numeral_begins n
    (10 ∷ t)))
    ∙ then_read _ (pos n) feed t (10 ∷ t) (mapped_reads pos _ n (10 ∷ t) (numeral_reads most_signed n 10 t (signed_fits n h) refl)) refl
integer_ended (negsuc n) t h =
    then_read _ (negsuc n) feed t (10 ∷ t)
    (mapped_reads minus _ (suc n) (10 ∷ t) (numeral_reads (most_signed + 1) (suc n) 10 t (sized_fits n h) refl)) refl

-- ---- paths

field_leads : (n : ℕ) (t : List ℕ) → point_at (46 ∷ (numeral n ++ t)) ≡ Some (tt, numeral n ++ t)
field_leads n t = ap (λ b. cond b (Some (tt, numeral n ++ t)) None) (numeral_begins n t)

no_point : (c : ℕ) (t : List ℕ) → c ≢ 46 → point_at (c ∷ t) ≡ None
no_point c t other = ap (λ b. cond ((b && true) && begins_digit t) (Some (tt, t)) None) (ne_eqb 46 c (λ e. other (sym e)))

-- the number of a field ends where the next field, or what follows, begins
last_digit : (n : ℕ) (ns : List ℕ) (c : ℕ) (t : List ℕ) → IsWord n → is_digit c ≡ false
    → digits_on most_word 0 (numeral n ++ (points ns ++ c ∷ t)) ≡ Some (n, points ns ++ c ∷ t)
last_digit n [] c t h ends = numeral_reads most_word n c t (fits_word n h) ends
last_digit n (m ∷ ns) c t h ends = numeral_reads most_word n 46 ((numeral m ++ points ns) ++ c ∷ t) (fits_word n h) refl

-- fields, where so many octets may be looked at
fields_read : (ns : List ℕ) (c : ℕ) (t : List ℕ) (k : ℕ) → AreWords ns → is_digit c ≡ false → c ≢ 46 → length ns ≤ k
    → repeat point_at (λ u. digits_on most_word 0) k (points ns ++ c ∷ t) ≡ Some (ns, c ∷ t)
fields_read [] c t k h ends other l = ends_none point_at (λ u. digits_on most_word 0) k (c ∷ t) (no_point c t other)
fields_read (n ∷ ns) c t zero h ends other l = absurd (omega arith)
fields_read (n ∷ ns) c t (suc k) h ends other l =
    ap (λ w. repeat point_at (λ u. digits_on most_word 0) (suc k) (46 ∷ w)) (append_assoc (numeral n) (points ns) (c ∷ t))
    ∙ one_more point_at (λ u. digits_on most_word 0) k (46 ∷ (numeral n ++ (points ns ++ c ∷ t))) (numeral n ++ (points ns ++ c ∷ t))
    (points ns ++ c ∷ t) (c ∷ t) tt n ns (field_leads n (points ns ++ c ∷ t)) (last_digit n ns c t h.0 ends)
    (fields_read ns c t k h.1 ends other (omega arith))

fields_long : (ns : List ℕ) (t : List ℕ) → length ns ≤ length (points ns ++ t)
fields_long [] t = omega arith
fields_long (n ∷ ns) t =
    omega (arith, fields_long ns t, ap length (append_assoc (numeral n) (points ns) t), length-append (numeral n) (points ns ++ t))

begins_points : (n : ℕ) (ns t : List ℕ) → begins_field (points (n ∷ ns) ++ t) ≡ true
begins_points n ns t = ap begins_digit (append_assoc (numeral n) (points ns) t) ∙ numeral_begins n (points ns ++ t)

bare_path_reads : (p : List ℕ) (c : ℕ) (t : List ℕ) → AreWords p → is_digit c ≡ false → c ≢ 46
    → bare_path_at (path_word p ++ c ∷ t) ≡ Some (p, c ∷ t)
unfolding path_word
bare_path_reads [] c t h ends other =
    ap (λ b. cond b (fields_at (46 ∷ (c ∷ t))) (mapped (λ u. []) (word_at (codes ".")) (46 ∷ (c ∷ t)))) ends
bare_path_reads (n ∷ ns) c t h ends other =
    ap (λ b. cond b (fields_at (points (n ∷ ns) ++ c ∷ t)) (mapped (λ u. []) (word_at (codes ".")) (points (n ∷ ns) ++ c ∷ t)))
    (begins_points n ns (c ∷ t))
    ∙ fields_read (n ∷ ns) c t (length (points (n ∷ ns) ++ c ∷ t)) h ends other (fields_long (n ∷ ns) (c ∷ t))

pub path_spaced : (p t : List ℕ) → AreWords p → path_at space (path_word p ++ 32 ∷ t) ≡ Some (p, t)
path_spaced p t h = then_read _ p space t (32 ∷ t) (bare_path_reads p 32 t h refl (λ e. absurd (omega (arith, e)))) refl

pub path_ended : (p t : List ℕ) → AreWords p → path_at feed (path_word p ++ 10 ∷ t) ≡ Some (p, t)
path_ended p t h = then_read _ p feed t (10 ∷ t) (bare_path_reads p 10 t h refl (λ e. absurd (omega (arith, e)))) refl

-- ---- orders, octets and names

pub order_ended : (o : Order) (t : List ℕ) → order_at (order_word o ++ 10 ∷ t) ≡ Some (o, t)
order_ended Big t = refl
order_ended Little t = refl

is_hex_low : (d : ℕ) → d < 10 → is_hex (48 + d) ≡ true
is_hex_low d l = ap (λ b. b || (leb 97 (48 + d) && leb (48 + d) 102)) (digit_is d l)

is_hex_high : (d : ℕ) → 10 ≤ d → d < 16 → is_hex (87 + d) ≡ true
is_hex_high d g l =
    ap (λ b. b || (leb 97 (87 + d) && leb (87 + d) 102)) (and_right (leb 48 (87 + d)) (leb (87 + d) 57) (lt-leb (87 + d) 57
    (omega arith)))
    ∙ and_from (leb 97 (87 + d)) (leb (87 + d) 102) (le-leb 97 (87 + d) (omega arith)) (le-leb (87 + d) 102 (omega arith))

hex_reads : (c d : ℕ) (t : List ℕ) → is_hex c ≡ true → hex_value c ≡ d → hex_digit_at (c ∷ t) ≡ Some (d, t)
hex_reads c d t h e = ap (λ b. cond b (Some (hex_value c, t)) None) h ∙ ap (λ v. Some (v, t)) e

low_reads : (d : ℕ) (t : List ℕ) → d < 10 → hex_digit_at ((48 + d) ∷ t) ≡ Some (d, t)
low_reads d t l =
    hex_reads (48 + d) d t (is_hex_low d l)
    (ap (λ b. cond b ((48 + d) - 48) ((48 + d) - 87)) (le-leb (48 + d) 57 (omega arith)) ∙ omega arith)

high_reads : (d : ℕ) (t : List ℕ) → 10 ≤ d → d < 16 → hex_digit_at ((87 + d) ∷ t) ≡ Some (d, t)
high_reads d t g l =
    hex_reads (87 + d) d t (is_hex_high d g l)
    (ap (λ b. cond b ((87 + d) - 48) ((87 + d) - 87)) (lt-leb (87 + d) 57 (omega arith)) ∙ omega arith)

digit_reads : (d : ℕ) (t : List ℕ) → d < 16 → hex_digit_at (hex_digit d ∷ t) ≡ Some (d, t)
digit_reads d t l = elim (cases_lt d 10) [
  | inl s ↦ ap (λ b. hex_digit_at (cond b (48 + d) (87 + d) ∷ t)) (lt-ltb d 10 s) ∙ low_reads d t s
  | inr g ↦ ap (λ b. hex_digit_at (cond b (48 + d) (87 + d) ∷ t)) (le-ltb d 10 g) ∙ high_reads d t g l
]

abbrev octet_after : ℕ → Reader ℕ
octet_after a = mapped (λ b. 16 * a + b) hex_digit_at

octet_reads : (o : ℕ) (t : List ℕ) → octet_after (o / 16) (hex_digit (o % 16) ∷ t) ≡ Some (o, t)
octet_reads o t =
    let same : 16 * (o / 16) + o % 16 ≡ o = omega arith in
    ap (map_read (λ b. 16 * (o / 16) + b)) (digit_reads (o % 16) t (omega arith)) ∙ ap (λ v. Some (v, t)) same

octets_read : (os t : List ℕ) (k : ℕ) → AreOctets os → length os ≤ k → repeat hex_digit_at octet_after k (hex os ++ 10 ∷ t) ≡ Some
    (os, 10 ∷ t)
octets_read [] t k h l = ends_none hex_digit_at octet_after k (10 ∷ t) refl
octets_read (o ∷ os) t zero h l = absurd (omega arith)
octets_read (o ∷ os) t (suc k) h l =
    one_more hex_digit_at octet_after k (hex (o ∷ os) ++ 10 ∷ t) (hex_digit (o % 16) ∷ (hex os ++ 10 ∷ t)) (hex os ++ 10 ∷ t) (10 ∷ t)
    (o / 16) o os (digit_reads (o / 16) (hex_digit (o % 16) ∷ (hex os ++ 10 ∷ t)) (omega (arith, h.0))) (octet_reads o (hex os ++ 10 ∷ t))
    (octets_read os t k h.1 (omega arith))

octets_long : (os t : List ℕ) → length os ≤ length (hex os ++ t)
octets_long [] t = omega arith
octets_long (o ∷ os) t = omega (arith, octets_long os t)

pub octets_ended : (os t : List ℕ) → AreOctets os → before octets_at feed (hex os ++ 10 ∷ t) ≡ Some (os, t)
octets_ended os t h =
    then_read _ os feed t (10 ∷ t) (octets_read os t (length (hex os ++ 10 ∷ t)) h (octets_long os (10 ∷ t))) refl

abbrev read_as : List ℕ → List ℕ → Read (List ℕ)
read_as w t = Some (w, t)

abbrev stays : ℕ → Bool
stays o = not (o == 10)

line_length : (n t : List ℕ) → HasNoEnd n → prefix_len stays (n ++ 10 ∷ t) ≡ length n
line_length [] t h = refl
line_length (c ∷ n) t h =
    let rest = line_length n t (All-tail (λ x. x ≢ 10) c n h) in
    ap (λ b. cond (not b) (1 + prefix_len stays (n ++ 10 ∷ t)) 0) (ne_eqb c 10 (All-head (λ x. x ≢ 10) c n h)) ∙ omega (arith, rest)

pub take_first : (n t : List ℕ) → take (length n) (n ++ t) ≡ n
take_first [] t = refl
take_first (c ∷ n) t = ap (λ w. c ∷ w) (take_first n t)

drop_first : (n : List ℕ) (c : ℕ) (t : List ℕ) → drop (length n + 1) (n ++ c ∷ t) ≡ t
drop_first [] c t = refl
drop_first (d ∷ n) c t =
    let next : length (d ∷ n) + 1 ≡ suc (length n + 1) = omega arith in
    ap (λ k. drop k (d ∷ (n ++ c ∷ t))) next ∙ drop_first n c t

pub line_reads : (n t : List ℕ) → HasNoEnd n → line_at (n ++ 10 ∷ t) ≡ Some (n, t)
line_reads n t h =
    let k = line_length n t h in
    let within : length n < length (n ++ 10 ∷ t) = omega (arith, length-append n (10 ∷ t)) in
    ap (λ i. parted_at (n ++ 10 ∷ t) (cond (ltb i (length (n ++ 10 ∷ t))) (Some i) None)) k
    ∙ ap (λ b. parted_at (n ++ 10 ∷ t) (cond b (Some (length n)) None)) (lt-ltb (length n) (length (n ++ 10 ∷ t)) within)
    ∙ ap (λ w. read_as w (drop (length n + 1) (n ++ 10 ∷ t))) (take_first n (10 ∷ t)) ∙ ap (read_as n) (drop_first n 10 t)
