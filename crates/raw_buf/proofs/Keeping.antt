-- Octets that were put, ensured and advanced over.
use Rattle.std.proofs.Common.{◌≡◌, ◌+◌, ◌≤◌, ℕ, List, ◌++◌, length, take, drop, sym, ap, ◌∙◌, arith, append_assoc}
use Rattle.std.proofs.lemmas.Grind.{elements}
use Rattle.std.proofs.lemmas.List.{drop-take, take-take, length-take-le}
use Rattle.std.proofs.Math.Seq.{drop-append-add, drop-append_seam, take-append_seam}
use Rattle.kit_base.specs.Bytes.{written}
use Rattle.raw_buf.specs.Laws.{PutsAreDone}

-- the octets at their place
in_place : (f o : List ℕ) (off : ℕ) → off + length o ≤ length f → take (length o) (drop off (written f off o)) ≡ o
in_place f o off h =
    let front : length (take off f) ≡ off = length-take-le off f (omega (arith, h)) in
    ap (λ (k : ℕ). take (length o) (drop k (written f off o))) (sym front)
    ∙ ap (λ (l : List ℕ). take (length o) (drop (length (take off f)) l)) (append_assoc (take off f) o (drop (off + length o) f))
    ∙ ap (take (length o)) (drop-append_seam (take off f) (o ++ drop (off + length o) f)) ∙ take-append_seam o (drop (off + length o) f)

-- a piece of the first octets, in any list that begins with them
piece_of : (w e : List ℕ) (off k m : ℕ) → take (length w) e ≡ w → off + k ≤ length w → off + k ≤ m
    → take k (drop off (take m e)) ≡ take k (drop off w)
piece_of w e off k m begins within far =
    sym (drop-take off k (take m e)) ∙ ap (drop off)
    (take-take (off + k) m e far ∙ sym (take-take (off + k) (length w) e within) ∙ ap (take (off + k)) begins) ∙ drop-take off k w

pub puts : PutsAreDone
puts front octets off n m put ensured fits is ensures far =
    let long : length (written front off octets) ≡ length front = length_written front octets off fits in
    ap (take (length octets)) (drop-append-add put.done (take m ensured.front) off)
    ∙ piece_of (written front off octets) ensured.front off (length octets) m
    (ap (λ (x : List ℕ). take (length x) ensured.front) (sym is) ∙ ensures.kept ∙ is) (rw long fits) far
    ∙ in_place front octets off fits
  where
    length_written : (f o : List ℕ) (off : ℕ) → off + length o ≤ length f → length (written f off o) ≡ length f
    length_written f o off h = grind (arith, elements)
