-- The images of rows, as they are and with each number's octets reversed, by induction on how many numbers there are.
use Rattle.std.proofs.Common.{◌≡◌, ◌≢◌, ◌≤◌, inl, inr, ℕ, suc, ◌+◌, ◌-◌, ◌*◌, ◌/◌, ◌%◌, ℤ, min, List, [], ◌∷◌, ◌++◌, length, take, drop, reverse, sym, ap, refl, ◌∙◌, arith, length-append, length-take, length-drop}
use Rattle.std.proofs.Math.Nat.{mul-mod_left}
use Rattle.std.proofs.Math.Seq.{take-add}
use Rattle.std.proofs.lemmas.List.{take_at, drop_at, take_all, length-take-le}
use Rattle.mint.specs.declared.kind.Kind.{Kind}
use Rattle.mint.specs.declared.kind.Kind.TheVariants as kind
use Rattle.mint.specs.Kinds.{width}
use Rattle.mint.specs.Row.{Numbers, octets_of, image_of, numbers_of}
use Rattle.mint.proofs.Images.{octets_many, numbers-none, numbers-both}
use Rattle.kit_swap.specs.Swapped.{swapped, IsSwapWidth}
use Rattle.kit_swap.proofs.Swapping.{at_width, swapped-first, swapped-none, swapped-append, length-swapped, swaps_some, whole_runs, swapped-octets}

pub image_many : (k : Kind) (ns : List ℤ) → length (image_of k ns) ≡ length ns * width k
image_many k [] = omega arith
image_many k (n ∷ ns) =
    let more : width k + length ns * width k ≡ suc (length ns) * width k = omega arith in
    length-append (octets_of k n) (image_of k ns) ∙ omega (arith, octets_many k n, image_many k ns, more)

-- an image is whole numbers
pub image_whole : (k : Kind) (ns : List ℤ) → length (image_of k ns) % width k ≡ 0
image_whole k ns = ap (λ (l : ℕ). l % width k) (image_many k ns) ∙ mul-mod_left (length ns) (width k)

-- an image in the other order is each number in the other order
pub image_swapped : (k : Kind) (n : ℤ) (ns : List ℤ) → IsSwapWidth (width k)
    → swapped (width k) (image_of k (n ∷ ns)) ≡ reverse (octets_of k n) ++ swapped (width k) (image_of k ns)
image_swapped k n ns is = swapped-first (width k) (octets_of k n) (image_of k ns) (swaps_some (width k) is) (octets_many k n)

-- ---- a space that begins with an image in the other order

module _ (w : ℕ) (o f g : List ℕ) (is : IsSwapWidth w) (whole : length o % w ≡ 0) (so : g ≡ swapped w o ++ drop (length o) f) where
  pub swapped_fits : length o ≤ length g
  swapped_fits = omega (arith, ap length so, length-append (swapped w o) (drop (length o) f), length-swapped w o is whole)

  pub swapped_done : take (length o) g ≡ swapped w o
  swapped_done = ap (take (length o)) so ∙ take_at (swapped w o) (drop (length o) f) (length o) (length-swapped w o is whole)

  pub swapped_left : drop (length o) g ≡ drop (length o) f
  swapped_left = ap (drop (length o)) so ∙ drop_at (swapped w o) (drop (length o) f) (length o) (length-swapped w o is whole)

-- ---- the numbers of an image, part by part

-- a width above one has two orders
pub swap_width : (k : Kind) → width k ≢ 1 → IsSwapWidth (width k)
swap_width kind.Octet h = absurd (h refl)
swap_width kind.I8 h = absurd (h refl)
swap_width kind.U8 h = absurd (h refl)
swap_width kind.Char h = absurd (h refl)
swap_width kind.Bool h = absurd (h refl)
swap_width kind.I16 h = inl refl
swap_width kind.U16 h = inl refl
swap_width kind.I32 h = inr (inl refl)
swap_width kind.U32 h = inr (inl refl)
swap_width kind.I64 h = inr (inr refl)
swap_width kind.U64 h = inr (inr refl)

-- a number of one octet has one order
pub single_octets : (k : Kind) (o : List ℕ) → width k ≡ 1 → swapped (width k) o ≡ o
single_octets k o is = ap (λ (w : ℕ). swapped w o) is ∙ swapped-octets o

-- the number of the first octets, and the numbers of those that follow
pub numbers-joined : (k : Kind) (a o : List ℕ) → length a % width k ≡ 0 → numbers_of k (a ++ o) ≡ numbers_of k a ++ numbers_of k o
numbers-joined k a o whole = numbers-both k (length a / width k) a o (whole_runs (width k) (length a) whole)

-- ---- a row that is turned block by block

abbrev row_of : Kind → List ℤ → Numbers
row_of k ns = record { kind = k; numbers = ns }

abbrev pub turned_to : Kind → ℕ → List ℕ → Numbers
turned_to k at image = row_of k (numbers_of k (swapped (width k) (take at image)))

pub zero_start : (w : ℕ) → IsSwapWidth w → 0 % w ≡ 0
zero_start w is = at_width (λ (n : ℕ). 0 % n ≡ 0) refl refl refl w is

pub turned_start : (k : Kind) (image : List ℕ) → IsSwapWidth (width k) → row_of k [] ≡ turned_to k 0 image
turned_start k image is = ap (row_of k) (sym (ap (numbers_of k) (swapped-none (width k) is) ∙ numbers-none k))

pub turned_end : (k : Kind) (at : ℕ) (image : List ℕ) (r : Numbers) → r ≡ turned_to k at image → length image ≤ at
    → r ≡ row_of k (numbers_of k (swapped (width k) image))
turned_end k at image r so past = so ∙ ap (λ (o : List ℕ). row_of k (numbers_of k (swapped (width k) o))) (take_all at image past)

-- how many octets the next block has
size_whole : (w at l size : ℕ) → IsSwapWidth w → at % w ≡ 0 → l % w ≡ 0 → at ≤ l → size ≡ min (l - at) 512 → size % w ≡ 0
size_whole w at l size is a b le so =
    at_width (λ (n : ℕ). at % n ≡ 0 → l % n ≡ 0 → size % n ≡ 0) (λ x y. omega (arith, x, y, le, so)) (λ x y.
    omega (arith, x, y, le, so)) (λ x y. omega (arith, x, y, le, so)) w is a b

pub block_whole : (w at size : ℕ) (image : List ℕ) → IsSwapWidth w → at % w ≡ 0 → length image % w ≡ 0
    → at ≤ length image → size ≡ min (length image - at) 512
    → length (take (at + size - at) (drop at image)) % w ≡ 0
block_whole w at size image is a b le so =
    let long : length (take (at + size - at) (drop at image))
    ≡ size = omega (arith, length-take (at + size - at) (drop at image), length-drop at image, le, so) in
    ap (λ (n : ℕ). n % w) long ∙ size_whole w at (length image) size is a b le so

pub block_next : (w at l size : ℕ) → IsSwapWidth w → at % w ≡ 0 → l % w ≡ 0 → at ≤ l → size ≡ min (l - at) 512 → (at + size) % w ≡ 0
block_next w at l size is a b le so =
    at_width (λ (n : ℕ). at % n ≡ 0 → size % n ≡ 0 → (at + size) % n ≡ 0) (λ x y. omega (arith, x, y)) (λ x y.
    omega (arith, x, y)) (λ x y. omega (arith, x, y)) w is a (size_whole w at l size is a b le so)

pub turned_more : (k : Kind) (at size : ℕ) (image : List ℕ) (r s : Numbers) → IsSwapWidth (width k) → at % width k ≡ 0
    → at ≤ length image → r ≡ turned_to k at image
    → s ≡ record r { numbers = r.numbers ++ numbers_of r.kind (swapped (width r.kind) (take (at + size - at) (drop at image))) }
    → s ≡ turned_to k (at + size) image
turned_more k at size image r s is start within so put =
    let w : ℕ = width k in
    let a = take at image in
    let b = take size (drop at image) in
    let piece = take (at + size - at) (drop at image) in
    let many : at + size - at ≡ size = omega arith in
    let part : piece ≡ b = ap (λ (n : ℕ). take n (drop at image)) many in
    let long : length a ≡ at = length-take-le at image within in
    let whole : length a % w ≡ 0 = ap (λ (z : ℕ). z % w) long ∙ start in
    let turned : length (swapped w a) % w ≡ 0 = ap (λ (z : ℕ). z % w) (length-swapped w a is whole) ∙ whole in
    put ∙ ap (λ (q : Numbers). record q { numbers = q.numbers ++ numbers_of q.kind (swapped (width q.kind) piece) }) so
    ∙ ap (λ (p : List ℕ). row_of k (numbers_of k (swapped w a) ++ numbers_of k (swapped w p))) part
    ∙ ap (row_of k) (sym (numbers-joined k (swapped w a) (swapped w b) turned)
    ∙ ap (numbers_of k) (sym (swapped-append w a b is whole) ∙ ap (swapped w) (sym (take-add at size image))))
