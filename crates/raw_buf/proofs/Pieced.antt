-- Octets that are stored in three pieces.
use Rattle.std.proofs.Common.{◌≡◌, ◌≤◌, ◌+◌, ℕ, List, ◌++◌, length, take, drop, ap, sym, ◌∙◌, arith, append_assoc, length-append}
use Rattle.std.proofs.lemmas.List.{drop-drop, length-take-le}
use Rattle.kit_base.specs.Bytes.{written}
use Rattle.raw_buf.proofs.Views.{written-after}

-- a piece behind another
written_behind : (front a b : List ℕ) (off : ℕ) → off + (length a + length b) ≤ length front
    → written (written front off a) (off + length a) b ≡ written front off (a ++ b)
written_behind front a b off h =
    let t = take off front in
    let r = drop (off + length a) front in
    let long : length (t ++ a) ≡ off + length a = length-append t a
    ∙ ap (λ (k : ℕ). k + length a) (length-take-le off front (omega (arith, h))) in
    let place : off + length a ≡ length (t ++ a) + 0 = omega (arith, long) in
    let none : 0 + length b ≡ length b = omega arith in
    let more : off + length a + length b ≡ off + length (a ++ b) = omega (arith, length-append a b) in
    ap (λ (n : ℕ). written ((t ++ a) ++ r) n b) place
    ∙ written-after (t ++ a) r b 0
    ∙ ap (λ (n : ℕ). (t ++ a) ++ (b ++ drop n r)) none
    ∙ ap (λ (z : List ℕ). (t ++ a) ++ (b ++ z)) (drop-drop (length b) (off + length a) front)
    ∙ ap (λ (n : ℕ). (t ++ a) ++ (b ++ drop n front)) more
    ∙ sym (append_assoc (t ++ a) b (drop (off + length (a ++ b)) front))
    ∙ ap (λ (z : List ℕ). z ++ drop (off + length (a ++ b)) front) (append_assoc t a b)

-- three pieces, one behind the other
pub written_three : (front a b c : List ℕ) (off : ℕ) → off + length (a ++ (b ++ c)) ≤ length front
    → written (written (written front off a) (off + length a) b) (off + length a + length b) c ≡ written front off (a ++ (b ++ c))
written_three front a b c off h =
    let whole : length (a ++ (b ++ c)) ≡ length a + (length b + length c) =
    length-append a (b ++ c) ∙ ap (λ (n : ℕ). length a + n) (length-append b c) in
    let two : length (a ++ b) ≡ length a + length b = length-append a b in
    let place : off + length a + length b ≡ off + length (a ++ b) = omega (arith, two) in
    ap (λ (z : List ℕ). written z (off + length a + length b) c) (written_behind front a b off (omega (arith, h, whole)))
    ∙ ap (λ (n : ℕ). written (written front off (a ++ b)) n c) place
    ∙ written_behind front (a ++ b) c off (omega (arith, h, whole, two))
    ∙ ap (λ (z : List ℕ). written front off z) (append_assoc a b c)
