-- What octets tell: lines of words, and in words numbers, paths, orders and octets.
use Rattle.std.proofs.Common.{◌≡◌, ◌≢◌, ℕ, zero, suc, ◌+◌, ◌-◌, ◌*◌, ◌/◌, ◌%◌, ◌<◌, ◌≤◌, Bool, true, false, not, ◌&&◌, cond, if◌then◌else◌, eqb, ltb, ℤ, pos, negsuc, List, [], ◌∷◌, ◌++◌, length, refl, ap, ◌∙◌, arith, codes, ne_eqb, lt-ltb, le-ltb, inl, inr}
use Rattle.std.specs.List.{list_all}
use Rattle.std.proofs.lemmas.List.Elements.{All-head, All-tail}
use Rattle.kit_base.specs.Lines.{HasNoEnd}
use Rattle.wire_def.specs.declared.head.Order.{Order}
use Rattle.wire_def.specs.declared.head.Order.TheVariants.{Big, Little}
use Rattle.stub_print.specs.Words.{numeral, integer, points, path_word, order_word, hex_digit, hex, words, line}
use Rattle.stub_print.proofs.Numerals.{value, value_numeral, AreDigits, numeral_digits, numeral_some}
use Rattle.std.proofs.lemmas.Bool.{and_parts, and_from, cases_lt}

-- ---- lines and words

abbrev pub Line : Type 0
Line = List (List ℕ)

-- neither a space nor the end of a line
abbrev pub is_clean : ℕ → Bool
is_clean c = not (eqb c 10) && not (eqb c 32)

abbrev pub IsClean : List ℕ → Type 0
IsClean w = list_all is_clean w ≡ true

abbrev pub AreClean : Line → Type 0
AreClean [] = Unit {0}
AreClean (w ∷ ws) = IsClean w × AreClean ws

abbrev new_word : List Line → List Line
new_word [] = []
new_word (ws ∷ ls) = ([] ∷ ws) ∷ ls

abbrev first_with : ℕ → Line → Line
first_with c [] = []
first_with c (w ∷ ws) = (c ∷ w) ∷ ws

abbrev with_octet : ℕ → List Line → List Line
with_octet c [] = []
with_octet c (ws ∷ ls) = first_with c ws ∷ ls

-- the lines of octets, each with its words
abbrev pub rows : List ℕ → List Line
rows [] = []
rows (c ∷ cs) = if eqb c 10 then ([] ∷ []) ∷ rows cs else (if eqb c 32 then new_word (rows cs) else with_octet c (rows cs))

neither : (a b : Bool) (x y z : List Line) → not a && not b ≡ true → (if a then x else (if b then y else z)) ≡ z
neither false false x y z h = refl
neither false true x y z h = absurd cc
neither true b x y z h = absurd cc

rows_octet : (c : ℕ) (r : List ℕ) → is_clean c ≡ true → rows (c ∷ r) ≡ with_octet c (rows r)
rows_octet c r h = neither (eqb c 10) (eqb c 32) (([] ∷ []) ∷ rows r) (new_word (rows r)) (with_octet c (rows r)) h

rows_word : (w r : List ℕ) (ws : Line) (ls : List Line) → IsClean w → rows r ≡ ([] ∷ ws) ∷ ls → rows (w ++ r) ≡ (w ∷ ws) ∷ ls
rows_word [] r ws ls h e = e
rows_word (c ∷ w) r ws ls h e =
    let clean = and_parts (is_clean c) (list_all is_clean w) h in
    rows_octet c (w ++ r) clean.0 ∙ ap (with_octet c) (rows_word w r ws ls clean.1 e)

rows_words : (ws : Line) (rest : List ℕ) → AreClean ws → rows (words ws rest) ≡ ([] ∷ ws) ∷ rows rest
rows_words [] rest h = refl
rows_words (w ∷ ws) rest h = ap new_word (rows_word w (words ws rest) ws (rows rest) h.0 (rows_words ws rest h.1))

pub rows_line : (w : List ℕ) (ws : Line) (rest : List ℕ) → IsClean w → AreClean ws → rows (line w ws rest) ≡ (w ∷ ws) ∷ rows rest
rows_line w ws rest h k = rows_word w (words ws rest) ws (rows rest) h (rows_words ws rest k)

-- a name ends where its line does
pub same_names : (n m r s : List ℕ) → HasNoEnd n → HasNoEnd m → n ++ (10 ∷ r) ≡ m ++ (10 ∷ s) → (n ≡ m) × (r ≡ s)
same_names [] [] r s h k e = (refl, ap tail e)
  where
    tail : List ℕ → List ℕ
    tail [] = []
    tail (x ∷ xs) = xs
same_names [] (c ∷ m) r s h k e = absurd (All-head (λ x. x ≢ 10) c m k cc)
same_names (c ∷ n) [] r s h k e = absurd (All-head (λ x. x ≢ 10) c n h cc)
same_names (c ∷ n) (d ∷ m) r s h k e =
    let first : c ≡ d = cc in
    let others : n ++ (10 ∷ r) ≡ m ++ (10 ∷ s) = cc in
    let more = same_names n m r s (All-tail (λ x. x ≢ 10) c n h) (All-tail (λ x. x ≢ 10) d m k) others in
    (rw (first, more.0) refl, more.1)

-- ---- words

-- whether two words are the same
abbrev pub same : List ℕ → List ℕ → Bool
same [] [] = true
same (c ∷ cs) (d ∷ ds) = eqb c d && same cs ds
same _ _ = false

-- the word at a place
abbrev pub word_at : ℕ → Line → List ℕ
word_at n [] = []
word_at zero (w ∷ ws) = w
word_at (suc n) (w ∷ ws) = word_at n ws

digit_clean : (c : ℕ) → 48 ≤ c → is_clean c ≡ true
digit_clean c h =
    let line_end : eqb c 10 ≡ false = ne_eqb c 10 (λ e. omega arith) in
    let space : eqb c 32 ≡ false = ne_eqb c 32 (λ e. omega arith) in
    rw (line_end, space) refl

pub digits_clean : (w : List ℕ) → AreDigits w → IsClean w
digits_clean [] h = refl
digits_clean (c ∷ w) h = and_from (is_clean c) (list_all is_clean w) (digit_clean c h.0) (digits_clean w h.1)

pub clean_numeral : (n : ℕ) → IsClean (numeral n)
clean_numeral n = digits_clean (numeral n) (numeral_digits n)

-- ---- numbers with a sign

abbrev minus : ℕ → ℤ
minus zero = pos 0
minus (suc n) = negsuc n

abbrev pub integer_of : List ℕ → ℤ
integer_of [] = pos 0
integer_of (c ∷ cs) = if eqb c 45 then minus (value 0 cs) else pos (value 0 (c ∷ cs))

unsigned : (w : List ℕ) → AreDigits w → integer_of w ≡ pos (value 0 w)
unsigned [] h = refl
unsigned (c ∷ w) h = let no : eqb c 45 ≡ false = ne_eqb c 45 (λ e. omega (arith, h.0)) in rw no refl

pub integer_read : (z : ℤ) → integer_of (integer z) ≡ z
unfolding integer
integer_read (pos n) = unsigned (numeral n) (numeral_digits n) ∙ ap pos (value_numeral n)
integer_read (negsuc n) = ap minus (value_numeral (suc n))

pub clean_integer : (z : ℤ) → IsClean (integer z)
unfolding integer
clean_integer (pos n) = clean_numeral n
clean_integer (negsuc n) = clean_numeral (suc n)

-- ---- paths

-- digits up to a point, and the numbers after points
data Path : Type 0 where
  path : List ℕ → List ℕ → Path

abbrev pointed : Path → Path
pointed (path [] ns) = path [] ns
pointed (path (d ∷ ds) ns) = path [] (value 0 (d ∷ ds) ∷ ns)

abbrev with_digit : ℕ → Path → Path
with_digit c (path w ns) = path (c ∷ w) ns

abbrev path_in : List ℕ → Path
path_in [] = path [] []
path_in (c ∷ cs) = if eqb c 46 then pointed (path_in cs) else with_digit c (path_in cs)

abbrev numbers_in : Path → List ℕ
numbers_in (path w ns) = ns

pub path_of : List ℕ → List ℕ
path_of w = numbers_in (path_in w)

path_digits : (w r ns : List ℕ) → AreDigits w → path_in r ≡ path [] ns → path_in (w ++ r) ≡ path w ns
path_digits [] r ns h e = e
path_digits (c ∷ w) r ns h e =
    let no : eqb c 46 ≡ false = ne_eqb c 46 (λ i. omega (arith, h.0)) in
    rw no (ap (with_digit c) (path_digits w r ns h.1 e))

pointed_some : (w ns : List ℕ) → 0 < length w → pointed (path w ns) ≡ path [] (value 0 w ∷ ns)
pointed_some [] ns h = absurd (omega arith)
pointed_some (c ∷ w) ns h = refl

points_read : (ns : List ℕ) → path_in (points ns) ≡ path [] ns
points_read [] = refl
points_read (n ∷ ns) =
    ap pointed (path_digits (numeral n) (points ns) ns (numeral_digits n) (points_read ns)) ∙ pointed_some (numeral n) ns (numeral_some n)
    ∙ ap (λ m. path [] (m ∷ ns)) (value_numeral n)

pub path_read : (p : List ℕ) → path_of (path_word p) ≡ p
unfolding path_word path_of
path_read [] = refl
path_read (n ∷ ns) = ap numbers_in (points_read (n ∷ ns))

clean-append : (v w : List ℕ) → IsClean v → IsClean w → IsClean (v ++ w)
clean-append [] w h k = k
clean-append (c ∷ v) w h k =
    let clean = and_parts (is_clean c) (list_all is_clean v) h in
    and_from (is_clean c) (list_all is_clean (v ++ w)) clean.0 (clean-append v w clean.1 k)

clean_points : (ns : List ℕ) → IsClean (points ns)
clean_points [] = refl
clean_points (n ∷ ns) = clean-append (numeral n) (points ns) (clean_numeral n) (clean_points ns)

pub clean_path : (p : List ℕ) → IsClean (path_word p)
unfolding path_word
clean_path [] = refl
clean_path (n ∷ ns) = clean_points (n ∷ ns)

-- which of the two a path is
pub path_alone : (p : List ℕ) → length p ≡ 0 → codes "." ≡ path_word p
unfolding path_word
path_alone [] h = refl
path_alone (n ∷ ns) h = absurd (omega arith)

pub path_points : (p : List ℕ) → (length p ≡ 0 → ⊥) → points p ≡ path_word p
unfolding path_word
path_points [] h = absurd (h refl)
path_points (n ∷ ns) h = refl

-- ---- orders

abbrev pub order_of : List ℕ → Order
order_of w = if same w (codes "be") then Big else Little

pub order_read : (o : Order) → order_of (order_word o) ≡ o
order_read Big = refl
order_read Little = refl

pub clean_order : (o : Order) → IsClean (order_word o)
clean_order Big = refl
clean_order Little = refl

-- ---- octets

abbrev digit_in : ℕ → ℕ
digit_in c = if ltb c 58 then c - 48 else c - 87

abbrev pub octets_of : List ℕ → List ℕ
octets_of [] = []
octets_of (c ∷ []) = []
octets_of (c ∷ (d ∷ r)) = (digit_in c * 16 + digit_in d) ∷ octets_of r

low_digit : (d : ℕ) → d < 10 → hex_digit d ≡ 48 + d
low_digit d l = ap (λ t. cond t (48 + d) (87 + d)) (lt-ltb d 10 l)

high_digit : (d : ℕ) → 10 ≤ d → hex_digit d ≡ 87 + d
high_digit d g = ap (λ t. cond t (48 + d) (87 + d)) (le-ltb d 10 g)

low_in : (c : ℕ) → c < 58 → digit_in c ≡ c - 48
low_in c l = ap (λ t. cond t (c - 48) (c - 87)) (lt-ltb c 58 l)

high_in : (c : ℕ) → 58 ≤ c → digit_in c ≡ c - 87
high_in c g = ap (λ t. cond t (c - 48) (c - 87)) (le-ltb c 58 g)

digit_read : (d : ℕ) → digit_in (hex_digit d) ≡ d
digit_read d = elim (cases_lt d 10) [
  | inl l ↦ ap digit_in (low_digit d l) ∙ low_in (48 + d) (omega arith) ∙ omega arith
  | inr g ↦ ap digit_in (high_digit d g) ∙ high_in (87 + d) (omega arith) ∙ omega arith
]

octet_read : (o a b : ℕ) → a ≡ o / 16 → b ≡ o % 16 → a * 16 + b ≡ o
octet_read o a b h k = omega arith

pub hex_read : (os : List ℕ) → octets_of (hex os) ≡ os
hex_read [] = refl
hex_read (o ∷ os) =
    ap (λ z.
    z ∷ octets_of (hex os)) (octet_read o (digit_in (hex_digit (o / 16))) (digit_in (hex_digit (o % 16))) (digit_read (o / 16))
    (digit_read (o % 16)))
    ∙ ap (λ z. o ∷ z) (hex_read os)

hex_digit_from : (d : ℕ) → 48 ≤ hex_digit d
hex_digit_from d = elim (cases_lt d 10) [
  | inl l ↦ rw (low_digit d l) (omega arith)
  | inr g ↦ rw (high_digit d g) (omega arith)
]

hex_digits : (os : List ℕ) → AreDigits (hex os)
hex_digits [] = tt
hex_digits (o ∷ os) = (hex_digit_from (o / 16), (hex_digit_from (o % 16), hex_digits os))

pub clean_hex : (os : List ℕ) → IsClean (hex os)
clean_hex os = digits_clean (hex os) (hex_digits os)
