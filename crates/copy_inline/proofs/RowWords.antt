-- Numbers that a loop puts one by one, and the row's octets, by induction on the numbers.
use Rattle.std.proofs.Common.{◌≡◌, ℕ, ℤ, List, [], ◌∷◌, ◌++◌, length, map, replicate, reverse, Option, None, Some, option_map, refl, sym, ap, subst, ◌∙◌, IsTrue}
use Rattle.std.specs.List.{list_all}
use Rattle.mint.specs.declared.kind.Kind.{Kind}
use Rattle.mint.specs.Kinds.{in_range, width}
use Rattle.mint.specs.Row.{octets_of, image_of}
use Rattle.mint.specs.Values.{num, vals_of}
use Rattle.wire_def.specs.declared.head.Head.{Head}
use Rattle.wire_def.specs.declared.head.Order.{Order}
use Rattle.wire_def.specs.declared.head.Order.TheVariants.{Big, Little}
use Rattle.wire_def.specs.Orders.{in_order}
use Rattle.cast_stub.specs.declared.put.Put.TheVariants as put
use Rattle.cast_stub.specs.Parts.{on_some}
use Rattle.cast_stub.specs.Puts as puts
use Rattle.cast_stub.specs.Puts.{half_of, wrapped, placed, put_all, full}
use Rattle.cast_stub.specs.Block.{chunk, stop}
use Rattle.cast_stub.specs.Steps.{Step, Stored, Steps, both, chunk_steps, swapped, wide, Calls, over, steps}
use Rattle.cast_stub.proofs.Putting.{placed_whole, full_whole}
use Rattle.cast_stub.proofs.Widths.{Wide, one, two, four, eight}
use Rattle.cast_stub.proofs.RowWords.{word_little, word_big}
use Rattle.std.proofs.lemmas.Bool.{and_parts}

-- ---- one number

long_order : (w : ℕ) → Wide w → (o : Order) (n : ℕ) → length (in_order o w n) ≡ w
long_order _ one Big n = refl
long_order _ one Little n = refl
long_order _ two Big n = refl
long_order _ two Little n = refl
long_order _ four Big n = refl
long_order _ four Little n = refl
long_order _ eight Big n = refl
long_order _ eight Little n = refl

long_word : (w : ℕ) (o : Order) (x : Option ℕ) (os : List ℕ) → Wide w → on_some x (λ n. Some (in_order o w n)) ≡ Some os → length os ≡ w
long_word w o None os is e = absurd cc
long_word w o (Some n) os is e = let same : in_order o w n ≡ os = cc in ap length (sym same) ∙ long_order w is o n

stored_word : (h : Head) (z : ℤ) (w : ℕ) (x : Option (List ℕ)) → ((os : List ℕ) → x ≡ Some os → length os ≡ w)
    → on_some (on_some (on_some (on_some x (λ os. placed 0 os (replicate w None))) (put_all h (num z) [])) full)
    (λ o. Some (Stored o 1 ∷ []))
    ≡ on_some x (λ os. Some (Stored os 1 ∷ []))
stored_word h z w None long = refl
stored_word h z w (Some os) long =
    subst (λ (k : ℕ). on_some (on_some (on_some (placed 0 os (replicate k None)) (put_all h (num z) [])) full) (λ o. Some (Stored o 1 ∷ []))
    ≡ Some (Stored os 1 ∷ [])) (long os refl)
    (rw (placed_whole os, full_whole os) refl)

-- the chunk of one number
number_chunk : (h : Head) (w : ℕ) (o : Order) (z : ℤ) → Wide w
    → chunk_steps w (put.Num 0 [] w o ∷ []) h (num z) ≡ on_some (puts.word w o z) (λ os. Some (Stored os 1 ∷ []))
number_chunk h w o z is = stored_word h z w (puts.word w o z) (λ os e. long_word w o (on_some (half_of w) (λ k. wrapped k z)) os is e)

-- ---- the numbers of a row

-- the octets of each number, if it fits
abbrev pub pieces : ℕ → Order → List ℤ → Option (List (List ℕ))
pieces w o [] = Some []
pieces w o (n ∷ ns) = on_some (puts.word w o n) (λ a. on_some (pieces w o ns) (λ ps. Some (a ∷ ps)))

-- each stored by itself
abbrev pub stores : List (List ℕ) → List Step
stores [] = []
stores (o ∷ os) = Stored o 1 ∷ stores os

-- one after the other
abbrev pub together : List (List ℕ) → List ℕ
together [] = []
together (o ∷ os) = o ++ together os

one_stored : (x : Option (List ℕ)) (y : Option (List (List ℕ)))
    → both (both (on_some x (λ os. Some (Stored os 1 ∷ []))) (Some [])) (option_map stores y)
    ≡ option_map stores (on_some x (λ a. on_some y (λ ps. Some (a ∷ ps))))
one_stored None y = refl
one_stored (Some a) None = refl
one_stored (Some a) (Some ps) = refl

-- the loop stores piece by piece
pub loop_stores : (c : Calls) (h : Head) (w : ℕ) (o : Order) (ns : List ℤ) → Wide w
    → over (steps c h (chunk w (put.Num 0 [] w o ∷ []) stop)) (vals_of (map num ns)) ≡ option_map stores (pieces w o ns)
loop_stores c h w o [] is = refl
loop_stores c h w o (n ∷ ns) is =
    ap (λ (x : Steps). both (both x (Some [])) (over (steps c h (chunk w (put.Num 0 [] w o ∷ []) stop)) (vals_of (map num ns))))
    (number_chunk h w o n is)
    ∙ ap (both (both (on_some (puts.word w o n) (λ os. Some (Stored os 1 ∷ []))) (Some []))) (loop_stores c h w o ns is)
    ∙ one_stored (puts.word w o n) (pieces w o ns)

wide_one : (x : Option (List ℕ)) (y : Option (List (List ℕ)))
    → on_some x (λ a. on_some (option_map together y) (λ b. Some (a ++ b)))
    ≡ option_map together (on_some x (λ a. on_some y (λ ps. Some (a ∷ ps))))
wide_one None y = refl
wide_one (Some a) None = refl
wide_one (Some a) (Some ps) = refl

pub wide_pieces : (o : Order) (ns : List ℤ) → wide o ns ≡ option_map together (pieces 4 o ns)
wide_pieces o [] = refl
wide_pieces o (n ∷ ns) = ap (λ (y : Option (List ℕ)). on_some (puts.word 4 o n) (λ a. on_some y (λ b. Some (a ++ b)))) (wide_pieces o ns)
    ∙ wide_one (puts.word 4 o n) (pieces 4 o ns)

-- ---- the image

one_image : (x : Option (List ℕ)) (a : List ℕ) (y : Option (List (List ℕ))) (b : List ℕ) → x ≡ Some a → option_map together y ≡ Some b
    → option_map together (on_some x (λ a. on_some y (λ ps. Some (a ∷ ps)))) ≡ Some (a ++ b)
one_image x a y b e f = sym (wide_one x y)
    ∙ ap (λ (x : Option (List ℕ)). on_some x (λ a. on_some (option_map together y) (λ b. Some (a ++ b)))) e
    ∙ ap (λ (y : Option (List ℕ)). on_some y (λ b. Some (a ++ b))) f

pub image_pieces : (k : Kind) (ns : List ℤ) → IsTrue (list_all (in_range k) ns)
    → option_map together (pieces (width k) Little ns) ≡ Some (image_of k ns)
image_pieces k [] h = refl
image_pieces k (n ∷ ns) h =
    let b = and_parts (in_range k n) (list_all (in_range k) ns) h in
    one_image (puts.word (width k) Little n) (octets_of k n) (pieces (width k) Little ns) (image_of k ns) (word_little k n b.0)
    (image_pieces k ns b.1)

pub swapped_pieces : (k : Kind) (ns : List ℤ) → IsTrue (list_all (in_range k) ns)
    → option_map together (pieces (width k) Big ns) ≡ Some (swapped k ns)
swapped_pieces k [] h = refl
swapped_pieces k (n ∷ ns) h =
    let b = and_parts (in_range k n) (list_all (in_range k) ns) h in
    one_image (puts.word (width k) Big n) (reverse (octets_of k n)) (pieces (width k) Big ns) (swapped k ns) (word_big k n b.0)
    (swapped_pieces k ns b.1)

one_order : (w : ℕ) (o : Order) (z : ℤ) → w ≡ 1 → puts.word w o z ≡ puts.word w Little z
one_order w Big z e = subst (λ (k : ℕ). puts.word k Big z ≡ puts.word k Little z) (sym e) refl
one_order w Little z e = refl

-- numbers of one octet have one order
pub one_octet : (w : ℕ) (o : Order) (ns : List ℤ) → w ≡ 1 → pieces w o ns ≡ pieces w Little ns
one_octet w o [] e = refl
one_octet w o (n ∷ ns) e =
    ap (λ (x : Option (List ℕ)). on_some x (λ a. on_some (pieces w o ns) (λ ps. Some (a ∷ ps)))) (one_order w o n e)
    ∙ ap (λ (y : Option (List (List ℕ))). on_some (puts.word w Little n) (λ a. on_some y (λ ps. Some (a ∷ ps)))) (one_octet w o ns e)
