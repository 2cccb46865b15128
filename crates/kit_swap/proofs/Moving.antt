-- One more vector, and one more number, of a row that is swapped from its beginning on.
use Rattle.std.proofs.Common.{◌≡◌, ◌≤◌, ◌<◌, ℕ, ◌+◌, ◌*◌, ◌%◌, w8, map, get_or, List, [], ◌∷◌, ◌++◌, length, take, drop, reverse, refl, sym, ap, ◌∙◌, subst, arith, append-nil, append_assoc, length-append, length-drop}
use Rattle.std.specs.List.{range_with_len}
use Rattle.std.specs.Simd.Lanes.{chunk, put_chunk}
use Rattle.std.proofs.Math.Seq.{take-add, drop-drop}
use Rattle.std.proofs.lemmas.List.{take_at, drop_at, length-reverse, ext_get_or, length-take-le, take_all, drop_all}
use Rattle.std.proofs.lemmas.List.FromFn.{length-map-range_with_len, get_or-map-range_with_len}
use Rattle.std.proofs.lemmas.Simd.{swz_l, length-chunk, put_chunk_is}
use Rattle.kit_base.specs.Bytes.{written}
use Rattle.kit_swap.specs.Swapped.{swapped, swapped_to, IsSwapWidth}
use Rattle.kit_swap.specs.Lanes.{SwapsLanes}
use Rattle.kit_swap.proofs.Swapping.{at_width, swapped-append, swapped-one, swapped-none, length-swapped}

abbrev listed : (ℕ → ℕ) → ℕ → List ℕ
listed f n = map f (range_with_len 0 n)

-- a fact of each list of n numbers, from the same of n numbers written out
spelled : (P : List ℕ → Type 0) (n : ℕ) → ((f : ℕ → ℕ) → P (listed f n)) → (xs : List ℕ) → length xs ≡ n → P xs
spelled P n h xs long =
    let f = λ (k : ℕ). get_or xs k 0 in
    let many = length-map-range_with_len f 0 n in
    subst P (ext_get_or 0 _ xs (many ∙ sym long) (λ i l. get_or-map-range_with_len f 0 n i i 0 (omega arith) (omega arith))) (h f)

abbrev pub two_lanes : List ℕ
two_lanes = 1 ∷ 0 ∷ 3 ∷ 2 ∷ 5 ∷ 4 ∷ 7 ∷ 6 ∷ 9 ∷ 8 ∷ 11 ∷ 10 ∷ 13 ∷ 12 ∷ 15 ∷ 14 ∷ []

abbrev pub four_lanes : List ℕ
four_lanes = 3 ∷ 2 ∷ 1 ∷ 0 ∷ 7 ∷ 6 ∷ 5 ∷ 4 ∷ 11 ∷ 10 ∷ 9 ∷ 8 ∷ 15 ∷ 14 ∷ 13 ∷ 12 ∷ []

abbrev pub eight_lanes : List ℕ
eight_lanes = 7 ∷ 6 ∷ 5 ∷ 4 ∷ 3 ∷ 2 ∷ 1 ∷ 0 ∷ 15 ∷ 14 ∷ 13 ∷ 12 ∷ 11 ∷ 10 ∷ 9 ∷ 8 ∷ []

pub two_swap : SwapsLanes 2 two_lanes
unfolding swapped
two_swap =
    record {
      there = (tt, (tt, (tt, (tt, (tt, (tt, (tt, (tt, (tt, (tt, (tt, (tt, (tt, (tt, (tt, (tt, tt))))))))))))))));
      swaps =
          λ v long. spelled (λ xs. swz_l w8 16 xs 0 two_lanes ≡ swapped 2 xs) 16 (λ f. refl) v long;
    }

pub four_swap : SwapsLanes 4 four_lanes
unfolding swapped
four_swap =
    record {
      there = (tt, (tt, (tt, (tt, (tt, (tt, (tt, (tt, (tt, (tt, (tt, (tt, (tt, (tt, (tt, (tt, tt))))))))))))))));
      swaps =
          λ v long. spelled (λ xs. swz_l w8 16 xs 0 four_lanes ≡ swapped 4 xs) 16 (λ f. refl) v long;
    }

pub eight_swap : SwapsLanes 8 eight_lanes
unfolding swapped
eight_swap =
    record {
      there = (tt, (tt, (tt, (tt, (tt, (tt, (tt, (tt, (tt, (tt, (tt, (tt, (tt, (tt, (tt, (tt, tt))))))))))))))));
      swaps =
          λ v long. spelled (λ xs. swz_l w8 16 xs 0 eight_lanes ≡ swapped 8 xs) 16 (λ f. refl) v long;
    }

-- ---- places where a number begins

-- there is room for a number where the end is not reached
pub one_fits : (w at l : ℕ) → IsSwapWidth w → at % w ≡ 0 → l % w ≡ 0 → at < l → at + w ≤ l
one_fits w at l is a b lt =
    at_width (λ n. at % n ≡ 0 → l % n ≡ 0 → at + n ≤ l) (λ x y. omega (arith, x, y, lt)) (λ x y. omega (arith, x, y, lt)) (λ x y.
    omega (arith, x, y, lt)) w is a b

pub next_start : (w at : ℕ) → IsSwapWidth w → at % w ≡ 0 → (at + w) % w ≡ 0
next_start w at is a =
    at_width (λ n. at % n ≡ 0 → (at + n) % n ≡ 0) (λ x. omega (arith, x)) (λ x. omega (arith, x)) (λ x. omega (arith, x)) w is a

pub first_start : (w at : ℕ) → IsSwapWidth w → at % 16 ≡ 0 → at % w ≡ 0
first_start w at is a = at_width (λ n. at % n ≡ 0) (omega arith) (omega arith) (omega arith) w is

-- ---- octets in the place of others, after those that are swapped

pub put_next : (a b r : List ℕ) (at n : ℕ) → length a ≡ at → length b ≡ n
    → take at (a ++ r) ++ (b ++ drop (at + n) (a ++ r)) ≡ (a ++ b) ++ drop n r
put_next a b r at n la lb =
    let past : drop (at + n) (a ++ r) ≡ drop n r = sym (drop-drop n at (a ++ r)) ∙ ap (drop n) (drop_at a r at la) in
    rw (past, take_at a r at la) (sym (append_assoc a b (drop n r)))

wholes : (w at : ℕ) (image : List ℕ) → at ≤ length image → at % w ≡ 0 → length (take at image) % w ≡ 0
wholes w at image within whole = ap (λ z. z % w) (length-take-le at image within) ∙ whole

-- n octets more
pub more : (w at n : ℕ) (image old : List ℕ) → IsSwapWidth w → at % w ≡ 0 → n % w ≡ 0 → at + n ≤ length image
    → take at (swapped_to w at image old) ++ (swapped w (chunk at n image) ++ drop (at + n) (swapped_to w at image old))
    ≡ swapped_to w (at + n) image old
more w at n image old is start step within =
    let a = take at image in
    let b = chunk at n image in
    let la : length a ≡ at = length-take-le at image (omega arith) in
    let lb : length b ≡ n = length-chunk at n image within in
    let swapped_a : length (swapped w a) ≡ at = length-swapped w a is (ap (λ z. z % w) la ∙ start) ∙ la in
    let swapped_b : length (swapped w b) ≡ n = length-swapped w b is (ap (λ z. z % w) lb ∙ step) ∙ lb in
    put_next (swapped w a) (swapped w b) (drop at old) at n swapped_a swapped_b
    ∙ (rw (drop-drop n at old, take-add at n image)
    (ap (λ z. z ++ drop (at + n) old) (sym (swapped-append w a b is (ap (λ z. z % w) la ∙ start)))))

length-swapped_to : (w at : ℕ) (image old : List ℕ) → IsSwapWidth w → at % w ≡ 0 → at ≤ length image → length old ≡ length image
    → length (swapped_to w at image old) ≡ length image
length-swapped_to w at image old is start within room =
    let la : length (take at image) ≡ at = length-take-le at image within in
    let lb : length (swapped w (take at image)) ≡ at = length-swapped w (take at image) is (ap (λ z. z % w) la ∙ start) ∙ la in
    length-append (swapped w (take at image)) (drop at old) ∙ omega (arith, length-drop at old)

-- a vector more
pub more_vectors : (w k : ℕ) (lanes image old : List ℕ) → IsSwapWidth w → SwapsLanes w lanes → (k + 1) * 16 ≤ length image
    → length old ≡ length image → (now new : List ℕ) → now ≡ swapped_to w (k * 16) image old
    → new ≡ put_chunk (k * 16) now (swz_l w8 16 (chunk (k * 16) 16 image) 0 lanes)
    → new ≡ swapped_to w ((k + 1) * 16) image old
more_vectors w k lanes image old is moves within room now new so_far put =
    let at : ℕ = k * 16 in
    let next : (k + 1) * 16 ≡ at + 16 = omega arith in
    let b = chunk at 16 image in
    let lb : length b ≡ 16 = length-chunk at 16 image (omega arith) in
    let so = swapped_to w at image old in
    let v = swz_l w8 16 b 0 lanes in
    let same : v ≡ swapped w b = moves.swaps b lb in
    let sixteen : 16 % w ≡ 0 = at_width (λ n. 16 % n ≡ 0) refl refl refl w is in
    let start : at % w ≡ 0 = first_start w at is (omega arith) in
    let lv : length (swapped w b) ≡ 16 = length-swapped w b is (ap (λ z. z % w) lb ∙ sixteen) ∙ lb in
    let long : length so ≡ length image = length-swapped_to w at image old is start (omega arith) room in
    put ∙ (λ i. put_chunk at (so_far i) (same i)) ∙ put_chunk_is at so (swapped w b) (omega (arith))
    ∙ ap (λ z. take at so ++ (swapped w b ++ z)) (ap (λ n. drop n (drop at so)) lv ∙ drop-drop 16 at so)
    ∙ more w at 16 image old is start sixteen (omega arith) ∙ ap (λ n. swapped_to w n image old) (sym next)

-- a number more
pub more_numbers : (w at : ℕ) (image old : List ℕ) → IsSwapWidth w → at % w ≡ 0 → at + w ≤ length image → (now new : List ℕ)
    → now ≡ swapped_to w at image old → new ≡ written now at (reverse (chunk at w image)) → new ≡ swapped_to w (at + w) image old
more_numbers w at image old is start within now new so_far put =
    let b = chunk at w image in
    let lb : length b ≡ w = length-chunk at w image within in
    let self : w % w ≡ 0 = at_width (λ n. n % n ≡ 0) refl refl refl w is in
    let so = swapped_to w at image old in
    let lr : length (reverse b) ≡ w = length-reverse b ∙ lb in
    put ∙ ap (λ o. written o at (reverse b)) so_far ∙ append_assoc (take at so) (reverse b) (drop (at + length (reverse b)) so)
    ∙ ap (λ n. take at so ++ (reverse b ++ drop (at + n) so)) lr
    ∙ ap (λ z. take at so ++ (z ++ drop (at + w) so)) (sym (swapped-one w b is lb))
    ∙ more w at w image old is start self within

-- nothing is swapped yet
pub begun : (w : ℕ) (image old : List ℕ) → IsSwapWidth w → old ≡ swapped_to w 0 image old
begun w image old is = ap (λ z. z ++ old) (sym (swapped-none w is))

-- all is swapped
pub ended : (w at : ℕ) (image old new : List ℕ) → new ≡ swapped_to w at image old → at ≡ length image → length old ≡ length image
    → new ≡ swapped w image
ended w at image old new so there room =
    so ∙ ap (λ n. swapped_to w n image old) (there ∙ sym room) ∙ ap (λ z. swapped w (take z image) ++ drop (length old) old) room
    ∙ rw (take_all (length image) image (omega arith), drop_all (length old) old (omega arith)) (append-nil (swapped w image))

-- the first octets of a row that is swapped up to a place
pub before : (w at : ℕ) (image old new : List ℕ) → IsSwapWidth w → at % w ≡ 0 → at ≤ length image → new ≡ swapped_to w at image old
    → take at new ≡ swapped w (take at image)
before w at image old new is start within so =
    let la : length (take at image) ≡ at = length-take-le at image within in
    ap (take at) so ∙ take_at (swapped w (take at image)) (drop at old) at
    (length-swapped w (take at image) is (ap (λ z. z % w) la ∙ start) ∙ la)
