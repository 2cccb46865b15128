-- What is found stays, whatever follows: by induction on the headers that are read.
use Rattle.std.proofs.Common.{◌≡◌, ℕ, zero, suc, ◌+◌, ◌<◌, ◌≤◌, List, [], ◌∷◌, ◌++◌, length, take, drop, Bool, true, false, refl, sym, ap, ◌∙◌, length-append, subst, arith}
use Rattle.std.proofs.lemmas.Bool.{ltb-false, le-ltb}
use Rattle.std.proofs.lemmas.List.{drop-append-le, take-append-le, length-drop}
use Rattle.std.specs.Prelude.{nat_lt, if◌then◌else◌, slice_index, ◌%◌, ◌==◌}
use Rattle.std.specs.Int.{w32, from_le_bytes}
use Rattle.wire_def.specs.declared.encoding.Back.{Back}
use Rattle.wire_def.specs.declared.encoding.Back.TheVariants.{Xdr, CdrBig, CdrLittle, Mach}
use Rattle.wire_frames.specs.declared.frames.FrameErr.TheVariants.{Magic, Size}
use Rattle.wire_frames.specs.Framed.{has_magic, giop_length, mach_length, ordered}
use Rattle.wire_frames.specs.First.{First, whole, bad, more, after, record_within, size_in, is_last, octets_in, behind, sized, first_giop, first_mach, first}
use Rattle.wire_frames.proofs.Choosing.{short, long, cut_off, ended, going, chooses_long, chooses_last, chooses_next, far, cut_short, there, is_sized, sizes_far, sizes_there}
use Rattle.wire_frames.proofs.Fragments.{step, same_size, same_last, same_octets, same_behind}

-- a message or a fault
abbrev pub IsSettled : First → Type 0
IsSettled (whole m n) = Unit {0}
IsSettled (bad e) = Unit {0}
IsSettled more = ⊥

settled_after : (a : List ℕ) (n : ℕ) (x : First) → IsSettled (after a n x) → IsSettled x
settled_after a n (whole m k) h = tt
settled_after a n (bad e) h = tt
settled_after a n more h = absurd h

pub settles : (x y : First) → x ≡ y → IsSettled x → IsSettled y
settles x y e h = subst IsSettled e h

pub records_stay : (k j sum : ℕ) (s t : List ℕ) → k ≤ j → IsSettled (record_within k sum s)
    → record_within j sum (s ++ t) ≡ record_within k sum s
records_stay zero j sum s t h settled = absurd settled
records_stay (suc k) zero sum s t h settled = absurd (omega (arith, h))
records_stay (suc k) (suc j) sum s t h settled = elim (step k sum s _ refl) [
  | short less is ↦ absurd (settles _ more is settled)
  | long header over is ↦
      let size : size_in (s ++ t) ≡ size_in s = same_size s t header in
      chooses_long (length (s ++ t)) sum (size_in (s ++ t)) _ _ (is_last (s ++ t)) (omega (arith, header, length-append s t))
      (omega (arith, over, size)) ∙ sym is
  | cut_off header few less is ↦ absurd (settles _ more is settled)
  | ended all few last is ↦
      let header : 4 ≤ length s = omega (arith, all) in
      let size : size_in (s ++ t) ≡ size_in s = same_size s t header in
      chooses_last (length (s ++ t)) sum (size_in (s ++ t)) _ _ (is_last (s ++ t)) (omega (arith, size, all, length-append s t))
      (omega (arith, size, few)) (same_last s t header ∙ last)
      ∙ (λ i. whole (same_octets s t all i) (4 + size i)) ∙ sym is
  | going all few last is ↦
      let header : 4 ≤ length s = omega (arith, all) in
      let size : size_in (s ++ t) ≡ size_in s = same_size s t header in
      let inner : IsSettled (record_within k (sum + size_in s) (behind s)) =
      settled_after (octets_in s) (4 + size_in s) _ (settles _ _ is settled) in
      chooses_next (length (s ++ t)) sum (size_in (s ++ t)) _ _ (is_last (s ++ t)) (omega (arith, size, all, length-append s t))
      (omega (arith, size, few)) (same_last s t header ∙ last)
      ∙ (λ i. after (same_octets s t all i) (4 + size i) (record_within j (sum + size i) (same_behind s t all i)))
      ∙ ap (after (octets_in s) (4 + size_in s)) (records_stay k j (sum + size_in s) (behind s) t (omega (arith, h)) inner)
      ∙ sym is
]

sizes_stay : (n : ℕ) (s t : List ℕ) → IsSettled (sized n s) → sized n (s ++ t) ≡ sized n s
sizes_stay n s t settled = elim (is_sized (length s) n (whole (take n s) n) _ refl) [
  | far over is ↦ sizes_far (length (s ++ t)) n _ over ∙ sym is
  | cut_short few less is ↦ absurd (settles _ more is settled)
  | there few all is ↦
      sizes_there (length (s ++ t)) n _ few (omega (arith, all, length-append s t))
      ∙ ap (λ (m : List ℕ). whole m n) (take-append-le n s t all) ∙ sym is
]

-- ---- the first octets decide

-- two streams that begin with the same 12 octets
first_octet : (i : ℕ) (s t : List ℕ) → i < length s → slice_index (s ++ t) i ≡ slice_index s i
first_octet i [] t h = absurd (omega (arith, h))
first_octet zero (x ∷ s) t h = refl
first_octet (suc i) (x ∷ s) t h = first_octet i s t (omega (arith, h))

module _ (s t : List ℕ) where
  pub same_magic : 12 ≤ length s → has_magic (s ++ t) ≡ has_magic s
  same_magic h =
      let a : 0 < length s = omega (arith, h) in
      let b : 1 < length s = omega (arith, h) in
      let c : 2 < length s = omega (arith, h) in
      let d : 3 < length s = omega (arith, h) in
      rw (first_octet 0 s t a, first_octet 1 s t b, first_octet 2 s t c, first_octet 3 s t d) refl

  pub same_giop : 12 ≤ length s → giop_length (s ++ t) ≡ giop_length s
  same_giop h =
      let order : slice_index (s ++ t) 6 ≡ slice_index s 6 = first_octet 6 s t (omega (arith, h)) in
      let eight : 8 ≤ length s = omega (arith, h) in
      let four : 4 ≤ length (drop 8 s) = omega (arith, h, length-drop 8 s) in
      let octets : take 4 (drop 8 (s ++ t)) ≡ take 4 (drop 8 s) =
      ap (take 4) (drop-append-le 8 s t eight) ∙ take-append-le 4 (drop 8 s) t four in
      (λ i. 12 + ordered (order i % 2 == 1) (octets i))

  pub same_mach : 8 ≤ length s → mach_length (s ++ t) ≡ mach_length s
  same_mach h =
      let enough : 4 ≤ length s = omega (arith, h) in
      let four : 4 ≤ length (drop 4 s) = omega (arith, h, length-drop 4 s) in
      let octets : take 4 (drop 4 (s ++ t)) ≡ take 4 (drop 4 s) =
      ap (take 4) (drop-append-le 4 s t enough) ∙ take-append-le 4 (drop 4 s) t four in
      ap (λ (o : List ℕ). from_le_bytes w32 o) octets

  giops_stay : IsSettled (first_giop s) → first_giop (s ++ t) ≡ first_giop s
  unfolding first_giop
  giops_stay settled = by_length (nat_lt (length s) 12) refl settled where
    by_magic : (b : Bool) → has_magic s ≡ b → 12 ≤ length s → IsSettled (if b then sized (giop_length s) s else bad Magic)
        → (if has_magic (s ++ t) then sized (giop_length (s ++ t)) (s ++ t) else bad Magic)
        ≡ (if b then sized (giop_length s) s else bad Magic)
    by_magic true is h settled =
        rw (same_magic h, is, same_giop h) (sizes_stay (giop_length s) s t settled)
    by_magic false is h settled = rw (same_magic h, is) refl

    by_length : (b : Bool) → nat_lt (length s) 12 ≡ b
        → IsSettled (if b then more else if has_magic s then sized (giop_length s) s else bad Magic)
        → (if nat_lt (length (s ++ t)) 12 then more
        else if has_magic (s ++ t) then sized (giop_length (s ++ t)) (s ++ t) else bad Magic)
        ≡ (if b then more else if has_magic s then sized (giop_length s) s else bad Magic)
    by_length true is settled = absurd settled
    by_length false is settled =
        let h : 12 ≤ length s = ltb-false _ _ is in
        let all : 12 ≤ length (s ++ t) = omega (arith, h, length-append s t) in
        rw (le-ltb (length (s ++ t)) 12 all) (by_magic (has_magic s) refl h settled)

  machs_stay : IsSettled (first_mach s) → first_mach (s ++ t) ≡ first_mach s
  unfolding first_mach
  machs_stay settled = by_length (nat_lt (length s) 8) refl settled where
    by_size : (b : Bool) → nat_lt (mach_length s) 24 ≡ b → 8 ≤ length s → IsSettled (if b then bad Size else sized (mach_length s) s)
        → (if nat_lt (mach_length (s ++ t)) 24 then bad Size else sized (mach_length (s ++ t)) (s ++ t))
        ≡ (if b then bad Size else sized (mach_length s) s)
    by_size true is h settled = rw (same_mach h, is) refl
    by_size false is h settled = rw (same_mach h, is) (sizes_stay (mach_length s) s t settled)

    by_length : (b : Bool) → nat_lt (length s) 8 ≡ b
        → IsSettled (if b then more else if nat_lt (mach_length s) 24 then bad Size else sized (mach_length s) s)
        → (if nat_lt (length (s ++ t)) 8 then more
        else if nat_lt (mach_length (s ++ t)) 24 then bad Size else sized (mach_length (s ++ t)) (s ++ t))
        ≡ (if b then more else if nat_lt (mach_length s) 24 then bad Size else sized (mach_length s) s)
    by_length true is settled = absurd settled
    by_length false is settled =
        let h : 8 ≤ length s = ltb-false _ _ is in
        let all : 8 ≤ length (s ++ t) = omega (arith, h, length-append s t) in
        rw (le-ltb (length (s ++ t)) 8 all) (by_size (nat_lt (mach_length s) 24) refl h settled)

-- a message or a fault that stands first stands first whatever follows
pub first_stays : (back : Back) (s t : List ℕ) → IsSettled (first back s) → first back (s ++ t) ≡ first back s
first_stays Xdr s t settled = records_stay (length s) (length (s ++ t)) 0 s t (omega (arith, length-append s t)) settled
first_stays CdrBig s t settled = giops_stay s t settled
first_stays CdrLittle s t settled = giops_stay s t settled
first_stays Mach s t settled = machs_stay s t settled
