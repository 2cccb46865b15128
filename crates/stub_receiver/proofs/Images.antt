-- The numbers of a row are those of its image, by induction on how many numbers there are.
use Rattle.std.proofs.Common.{◌≡◌, ℕ, zero, suc, ◌+◌, ◌-◌, ◌*◌, ◌/◌, ◌≤◌, ℤ, List, [], ◌∷◌, ◌++◌, length, take, drop, reverse, Bool, true, false, Option, None, Some, option_map, refl, sym, ap, ◌∙◌, inl, inr, arith, length-take, length-append}
use Rattle.std.specs.Prelude.{if◌then◌else◌, ◌&&◌, Ok, Err}
use Rattle.std.specs.List.{list_all}
use Rattle.std.specs.Int.{Width, w8, w16, w32, w64, from_le_bytes, from_be_bytes}
use Rattle.std.proofs.Math.Nat.{mul-div_cancel, zero-div}
use Rattle.std.proofs.lemmas.List.{take-append-drop, take_at, drop_at, length-reverse}
use Rattle.mint.specs.declared.kind.Kind.{Kind}
use Rattle.mint.specs.declared.kind.Kind.TheVariants as kind
use Rattle.mint.specs.Kinds.{word, width}
use Rattle.mint.specs.Row.{Numbers, number_in, numbers_in, numbers_of}
use Rattle.mint.specs.Types.{Array, number}
use Rattle.wire_def.specs.declared.head.Order.{Order}
use Rattle.wire_def.specs.declared.head.Order.TheVariants.{Big, Little}
use Rattle.wire_def.specs.Scalars.{is_signed, number_of}
use Rattle.wire_def.specs.Arrays.{kind_of}
use Rattle.kit_swap.specs.Swapped.{swapped}
use Rattle.kit_swap.proofs.Swapping.{swapped-first, first_run}
use Rattle.wire_def.specs.Orders.{IsWidth, width_as, loaded}
use Rattle.raw_buf.specs.View.{in_little}
use Rattle.mint.specs.declared.node.Node.{Node}
use Rattle.mint.specs.declared.value.Value.TheVariants as value
use Rattle.cast_stub.specs.Into.{is_digit, numbers_at, fill_block}
use Rattle.cast_stub.specs.Runs.{Place, gives, refuses, Holds}
use Rattle.stub_receiver.specs.declared.draft.Filling.TheVariants as filling
use Rattle.stub_receiver.specs.declared.errors.Halt.{Halt}
use Rattle.stub_receiver.specs.declared.errors.Halt.TheVariants.{Refused}
use Rattle.stub_receiver.specs.Drawn.{drawn}
use Rattle.stub_receiver.specs.Ran.{IsFound, IsTested}
use Rattle.stub_receiver.proofs.Blocking.{block_near, block_gives, block_refuses}
use Rattle.mint.proofs.Images.{some_octets}
use Rattle.wire_def.proofs.RowWords.{word_number, words_read, words_first}

-- ---- a test, as an answer

pub passing : (b : Bool) (u : Unit {0}) → IsTested b (Ok u) → b ≡ true
passing true u t = refl
passing false u t = absurd cc

pub failing : (b : Bool) (h : Halt) → IsTested b (Err h) → (b ≡ false) × (h ≡ Refused)
failing true h t = absurd cc
failing false h t = (refl, cc)

pub finding : (x : Option ℤ) (n : ℤ) → IsFound x (Ok n) → x ≡ Some n
finding (Some m) n f = cc
finding None n f = absurd cc

pub missing : (x : Option ℤ) (h : Halt) → IsFound x (Err h) → (x ≡ None) × (h ≡ Refused)
missing (Some m) h f = absurd cc
missing None h f = (refl, cc)

-- ---- words

turned_1 : (o : List ℕ) → length o ≡ 1 → from_be_bytes w8 o ≡ from_le_bytes w8 (reverse o)
turned_1 (a ∷ []) len = omega arith
turned_1 _ len = absurd cc

turned_2 : (o : List ℕ) → length o ≡ 2 → from_be_bytes w16 o ≡ from_le_bytes w16 (reverse o)
turned_2 (a ∷ b ∷ []) len = omega arith
turned_2 _ len = absurd cc

turned_4 : (o : List ℕ) → length o ≡ 4 → from_be_bytes w32 o ≡ from_le_bytes w32 (reverse o)
turned_4 (a ∷ b ∷ c ∷ d ∷ []) len = omega arith
turned_4 _ len = absurd cc

turned_8 : (o : List ℕ) → length o ≡ 8 → from_be_bytes w64 o ≡ from_le_bytes w64 (reverse o)
turned_8 (a ∷ b ∷ c ∷ d ∷ e ∷ f ∷ g ∷ h ∷ []) len = omega arith
turned_8 _ len = absurd cc

turned_word : (k : Kind) (o : List ℕ) → length o ≡ width k → from_be_bytes (word k) o ≡ from_le_bytes (word k) (reverse o)
turned_word kind.Octet o len = turned_1 o len
turned_word kind.I8 o len = turned_1 o len
turned_word kind.U8 o len = turned_1 o len
turned_word kind.Char o len = turned_1 o len
turned_word kind.Bool o len = turned_1 o len
turned_word kind.I16 o len = turned_2 o len
turned_word kind.U16 o len = turned_2 o len
turned_word kind.I32 o len = turned_4 o len
turned_word kind.U32 o len = turned_4 o len
turned_word kind.I64 o len = turned_8 o len
turned_word kind.U64 o len = turned_8 o len

pub own_width : (k : Kind) → width_as (width k) ≡ word k
own_width kind.Octet = refl
own_width kind.I8 = refl
own_width kind.U8 = refl
own_width kind.Char = refl
own_width kind.Bool = refl
own_width kind.I16 = refl
own_width kind.U16 = refl
own_width kind.I32 = refl
own_width kind.U32 = refl
own_width kind.I64 = refl
own_width kind.U64 = refl

pub is_width : (k : Kind) → IsWidth (width k)
is_width kind.Octet = inl refl
is_width kind.I8 = inl refl
is_width kind.U8 = inl refl
is_width kind.Char = inl refl
is_width kind.Bool = inl refl
is_width kind.I16 = inr (inl refl)
is_width kind.U16 = inr (inl refl)
is_width kind.I32 = inr (inr (inl refl))
is_width kind.U32 = inr (inr (inl refl))
is_width kind.I64 = inr (inr (inr refl))
is_width kind.U64 = inr (inr (inr refl))

-- ---- the numbers of words

abbrev value_of : Order → Kind → List ℕ → ℤ
value_of o k p = number_of (is_signed (number k)) (word k) (loaded o (word k) p)

little_words : (k : Kind) (n : ℕ) (o : List ℕ) → words_read (value_of Little k) (width k) n o ≡ numbers_in k n o
unfolding numbers_in number_in
little_words k zero o = refl
little_words k (suc n) o = rw (word_number k (from_le_bytes (word k) (take (width k) o)), little_words k n (drop (width k) o)) refl

big_words : (k : Kind) (n : ℕ) (o : List ℕ) → length o ≡ n * width k
    → words_read (value_of Big k) (width k) n o ≡ numbers_in k n (swapped (width k) o)
unfolding numbers_in number_in
big_words k zero o len = refl
big_words k (suc n) o len =
    let w : ℕ = width k in
    let f : List ℕ = take w o in
    let r : List ℕ = drop w o in
    let s = first_run w n o len in
    let turn : length (reverse f) ≡ w = length-reverse f ∙ s.0 in
    let split : swapped w o ≡ reverse f ++ swapped w r =
    ap (swapped w) (sym (take-append-drop w o)) ∙ swapped-first w f r (some_octets k) s.0 in
    rw (
      split,
      take_at (reverse f) (swapped w r) w turn,
      drop_at (reverse f) (swapped w r) w turn,
      word_number k (from_be_bytes (word k) f),
      turned_word k f s.0,
      big_words k n r s.1,
    ) refl

none_swapped : (w : ℕ) → swapped w [] ≡ []
unfolding swapped
none_swapped w = rw (zero-div w) refl

swapped_long : (k : Kind) (n : ℕ) (o : List ℕ) → length o ≡ n * width k → length (swapped (width k) o) ≡ n * width k
swapped_long k zero [] len = ap length (none_swapped (width k)) ∙ len
swapped_long k zero (x ∷ o) len = absurd (omega arith)
swapped_long k (suc n) o len =
    let w : ℕ = width k in
    let long : w + n * w ≡ suc n * w = omega arith in
    let f : List ℕ = take w o in
    let r : List ℕ = drop w o in
    let s = first_run w n o len in
    ap (λ (z : List ℕ). length (swapped w z)) (sym (take-append-drop w o)) ∙ ap length (swapped-first w f r (some_octets k) s.0)
    ∙ length-append (reverse f) (swapped w r)
    ∙ omega (arith, length-reverse f, s.0, s.1, swapped_long k n r s.1, long, len)

image_words : (o : Order) (k : Kind) (n : ℕ) (os : List ℕ) → length os ≡ n * width k
    → words_read (value_of o k) (width k) n os ≡ numbers_of k (in_little o (width k) os)
unfolding numbers_of
image_words Little k n os len =
    little_words k n os ∙ ap (λ (m : ℕ). numbers_in k m os) (sym (ap (λ (z : ℕ). z / width k) len ∙ mul-div_cancel n (some_octets k)))
image_words Big k n os len =
    big_words k n os len ∙ ap (λ (m : ℕ). numbers_in k m (swapped (width k) os))
    (sym (ap (λ (z : ℕ). z / width k) (swapped_long k n os len) ∙ mul-div_cancel n (some_octets k)))

-- ---- numbers that are tested one by one, and all at once

abbrev if_all : (ℤ → Bool) → List ℤ → Option (List ℤ)
if_all p zs = if list_all p zs then Some zs else None

all_more : (b c : Bool) (z : ℤ) (zs : List ℤ)
    → (if b then option_map (λ ys. z ∷ ys) (if c then Some zs else None) else None) ≡ (if b && c then Some (z ∷ zs) else None)
all_more true true z zs = refl
all_more true false z zs = refl
all_more false c z zs = refl

tested_words : (a : Array) (o : Order) (n : ℕ) (os : List ℕ)
    → numbers_at a o (word (kind_of a)) (width (kind_of a)) n os
    ≡ if_all (is_digit a) (words_read (value_of o (kind_of a)) (width (kind_of a)) n os)
tested_words a o zero os = refl
tested_words a o (suc n) os =
    let k = kind_of a in
    let z = value_of o k (take (width k) os) in
    let zs = words_read (value_of o k) (width k) n (drop (width k) os) in
    ap (λ (y : Option (List ℤ)). if is_digit a z then option_map (λ ys. z ∷ ys) y else None) (tested_words a o n (drop (width k) os))
    ∙ all_more (is_digit a z) (list_all (is_digit a) zs) z zs

-- the numbers of a block, as they are taken and as they are read
abbrev pub block_numbers : Array → Order → ℕ → List ℕ → List ℤ
block_numbers a o n os = numbers_of (kind_of a) (in_little o (width (kind_of a)) (take (n * width (kind_of a)) os))

pub block_read : (a : Array) (o : Order) (n : ℕ) (os : List ℕ) → n * width (kind_of a) ≤ length os
    → numbers_at a o (width_as (width (kind_of a))) (width (kind_of a)) n os ≡ if_all (is_digit a) (block_numbers a o n os)
block_read a o n os h =
    let k = kind_of a in
    let w : ℕ = width k in
    let long : length (take (n * w) os) ≡ n * w = omega (arith, length-take (n * w) os, h) in
    ap (λ (x : Width). numbers_at a o x w n os) (own_width k) ∙ tested_words a o n os
    ∙ ap (if_all (is_digit a)) (sym (words_first (value_of o k) w n os h) ∙ image_words o k n (take (n * w) os) long)

chosen : (b c : Bool) (zs : List ℤ) → b ≡ c → c ≡ true → (if b then Some zs else None) ≡ Some zs
chosen true c zs e t = refl
chosen false c zs e t = absurd cc

missed : (b c : Bool) (zs : List ℤ) → b ≡ c → c ≡ false → (if b then Some zs else None) ≡ None
missed true c zs e t = absurd cc
missed false c zs e t = refl

pub block_given : (a : Array) (o : Order) (n : ℕ) (os : List ℕ) (r : Numbers) (b : Bool) → n * width (kind_of a) ≤ length os
    → r.numbers ≡ block_numbers a o n os → b ≡ list_all (is_digit a) r.numbers → b ≡ true
    → numbers_at a o (width_as (width (kind_of a))) (width (kind_of a)) n os ≡ Some r.numbers
block_given a o n os r b h same is b-true =
    block_read a o n os h ∙ ap (if_all (is_digit a)) (sym same) ∙ chosen (list_all (is_digit a) r.numbers) b r.numbers (sym is) b-true

pub block_missed : (a : Array) (o : Order) (n : ℕ) (os : List ℕ) (r : Numbers) (b : Bool) → n * width (kind_of a) ≤ length os
    → r.numbers ≡ block_numbers a o n os → b ≡ list_all (is_digit a) r.numbers → b ≡ false
    → numbers_at a o (width_as (width (kind_of a))) (width (kind_of a)) n os ≡ None
block_missed a o n os r b h same is b-false =
    block_read a o n os h ∙ ap (if_all (is_digit a)) (sym same) ∙ missed (list_all (is_digit a) r.numbers) b r.numbers (sym is) b-false

-- ---- the whole block

module _ (a : Array) (o : Order) (n : ℕ) (s : Place) (k : Kind) (r : Numbers) (b : Bool) (is : k ≡ kind_of a)
    (held : Holds (fill_block o (width (kind_of a)) a n s)) (near : s.near ≤ length s.left)
    (row : r ≡ record { kind = k; numbers = numbers_of k (in_little o (width k) (take (n * width k) s.left)) })
    (tested : b ≡ list_all (is_digit a) r.numbers) where
  fits : n * width (kind_of a) ≤ s.near
  fits = block_near o (width (kind_of a)) a n s (is_width (kind_of a)) held

  numbers : r.numbers ≡ block_numbers a o n s.left
  numbers = ap (λ (q : Numbers). q.numbers) row ∙ ap (λ (j : Kind). numbers_of j (in_little o (width j) (take (n * width j) s.left))) is

  pub whole_given : (ns : List Node) (t : Place) → b ≡ true
      → t ≡ record { pos = s.pos + n * width k; left = drop (n * width k) s.left; near = s.near - n * width k; tests = s.tests }
      → fill_block o (width (kind_of a)) a n s ≡ gives (drawn ns (filling.Done (value.Row r))) t
  whole_given ns t all at =
      block_gives o (width (kind_of a)) a n s (is_width (kind_of a)) ns r t fits
      (block_given a o n s.left r b (omega (arith, fits, near)) numbers tested all) (ap (λ (q : Numbers). q.kind) row ∙ is)
      (at
      ∙ ap
      (λ (j : Kind). record { pos = s.pos + n * width j; left = drop (n * width j) s.left; near = s.near - n * width j; tests = s.tests })
      is)

  pub whole_refused : b ≡ false → fill_block o (width (kind_of a)) a n s ≡ refuses
  whole_refused some = block_refuses o (width (kind_of a)) a n s (is_width (kind_of a)) fits
      (block_missed a o n s.left r b (omega (arith, fits, near)) numbers tested some)
