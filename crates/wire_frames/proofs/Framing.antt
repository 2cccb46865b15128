-- A frame that stands first is found, and what is found is a frame.
use Rattle.std.proofs.Common.{◌≡◌, ◌⊎◌, inl, inr, ℕ, zero, suc, ◌+◌, ◌%◌, ◌^◌, ◌<◌, ◌≤◌, List, [], ◌∷◌, ◌++◌, length, take, drop, Bool, true, false, refl, sym, ap, ◌∙◌, append_assoc, length-append, arith}
use Rattle.std.proofs.lemmas.Bool.{le-ltb}
use Rattle.std.proofs.lemmas.Bool.Decides.{nat_tests}
use Rattle.std.proofs.lemmas.List.{take_at, drop_at, take-append-drop, length-drop, length-take, length-take-le}
use Rattle.std.proofs.Math.Seq.{take-add}
use Rattle.std.specs.List.{concat}
use Rattle.std.specs.Prelude.{nat_le, if◌then◌else◌}
use Rattle.kit_base.specs.Bytes.{be}
use Rattle.kit_base.specs.Limits.{longest_message}
use Rattle.wire_def.specs.declared.encoding.Back.{Back}
use Rattle.wire_def.specs.declared.encoding.Back.TheVariants.{Xdr, CdrBig, CdrLittle, Mach}
use Rattle.wire_def.specs.Grammar.{AreOctets}
use Rattle.wire_def.proofs.Grammars.{octets_after, octets_before}
use Rattle.wire_def.proofs.Words.{wide32}
use Rattle.wire_frames.specs.Framed.{fragment, fragments, IsRecord, IsFramed, IsGiop, IsMach, has_magic, giop_length, mach_length}
use Rattle.wire_frames.specs.First.{whole, after, record_within, record_from, word_in, size_in, is_last, octets_in, behind, sized, first_giop, first_mach, first}
use Rattle.wire_frames.specs.Laws.{FramesAreFound, FoundAreFrames}
use Rattle.wire_frames.proofs.Choosing.{chooses_last, chooses_next, short, long, cut_off, ended, going, sizes_there}
use Rattle.wire_frames.proofs.Fragments.{step}
use Rattle.wire_frames.proofs.Staying.{same_magic, same_giop, same_mach}
use Rattle.wire_frames.proofs.Found.{found_after, same_message, giop_found, mach_found, first_fits}

-- ---- a fragment before other octets

module _ (p t : List ℕ) (few : length p ≤ longest_message) where
  -- the number in the header of a fragment
  written : (bit : ℕ) → bit ≤ 2 ^ 31 → word_in ((be 4 (length p + bit) ++ p) ++ t) ≡ length p + bit
  written bit h =
      let fits : length p + bit < 2 ^ 32 = omega (arith, few, h) in
      wide32.again (length p + bit) fits

  modulo : (bit : ℕ) → (bit ≡ 0) ⊎ (bit ≡ 2 ^ 31) → (length p + bit) % 2 ^ 31 ≡ length p
  modulo bit (inl h) = omega (arith, few, h)
  modulo bit (inr h) = omega (arith, few, h)

  module _ (bit : ℕ) (either : (bit ≡ 0) ⊎ (bit ≡ 2 ^ 31)) where
    abbrev stream : List ℕ
    stream = (be 4 (length p + bit) ++ p) ++ t

    small : bit ≤ 2 ^ 31
    small = elim either [ inl h ↦ omega (arith, h) | inr h ↦ omega (arith, h) ]

    size_is : size_in stream ≡ length p
    size_is = ap (λ (w : ℕ). w % 2 ^ 31) (written bit small) ∙ modulo bit either

    octets_are : octets_in stream ≡ p
    octets_are = ap (λ (n : ℕ). take n (p ++ t)) size_is ∙ take_at p t (length p) refl

    header_long : length (be 4 (length p + bit) ++ p) ≡ 4 + length p
    header_long = omega arith

    behind_is : behind stream ≡ t
    behind_is = ap (λ (n : ℕ). drop (4 + n) stream) size_is ∙ drop_at (be 4 (length p + bit) ++ p) t (4 + length p) header_long

    there : 4 + size_in stream ≤ length stream
    there = omega (arith, size_is, length-append p t)

  pub first_next : (k sum : ℕ) → sum + length p ≤ longest_message
      → record_within (suc k) sum (fragment false p ++ t) ≡ after p (4 + length p) (record_within k (sum + length p) t)
  first_next k sum h =
      let size = size_is 0 (inl refl) in
      let last : is_last (fragment false p ++ t) ≡ false =
      ap (λ (w : ℕ). nat_le (2 ^ 31) w) (written 0 (omega arith)) ∙ grind (arith, nat_tests, few) in
      chooses_next (length (fragment false p ++ t)) sum (size_in (fragment false p ++ t)) _ _ (is_last (fragment false p ++ t))
      (there 0 (inl refl)) (omega (arith, size, h)) last
      ∙ (λ i. after (octets_are 0 (inl refl) i) (4 + size i) (record_within k (sum + size i) (behind_is 0 (inl refl) i)))

  pub first_last : (k sum : ℕ) → sum + length p ≤ longest_message
      → record_within (suc k) sum (fragment true p ++ t) ≡ whole p (4 + length p)
  first_last k sum h =
      let size = size_is (2 ^ 31) (inr refl) in
      let last : is_last (fragment true p ++ t) ≡ true =
      ap (λ (w : ℕ). nat_le (2 ^ 31) w) (written (2 ^ 31) (omega arith)) ∙ grind (arith, nat_tests, few) in
      chooses_last (length (fragment true p ++ t)) sum (size_in (fragment true p ++ t)) _ _ (is_last (fragment true p ++ t))
      (there (2 ^ 31) (inr refl)) (omega (arith, size, h)) last
      ∙ (λ i. whole (octets_are (2 ^ 31) (inr refl) i) (4 + size i))

-- ---- records

-- a fragment before others: what is found behind it, after its octets
module _ (last t : List ℕ) where
  pub record_found : (parts : List (List ℕ)) (k sum : ℕ) → sum + length (concat parts ++ last) ≤ longest_message → length parts < k
      → record_within k sum ((fragments parts ++ fragment true last) ++ t)
      ≡ whole (concat parts ++ last) (length (fragments parts ++ fragment true last))
  record_found parts zero sum few h = absurd (omega (arith, h))
  record_found [] (suc k) sum few h =
      let long : 4 + length last ≡ length (fragment true last) = omega arith in
      first_last last t (omega (arith, few)) k sum few ∙ ap (whole last) long
  record_found (p ∷ parts) (suc k) sum few h =
      let inner = fragments parts ++ fragment true last in
      let size : length ((p ++ concat parts) ++ last) ≡ length p + length (concat parts ++ last) =
      omega (arith, length-append (p ++ concat parts) last, length-append p (concat parts), length-append (concat parts) last) in
      let little : sum + length p + length (concat parts ++ last) ≤ longest_message = omega (arith, few, size) in
      let apart : ((fragment false p ++ fragments parts) ++ fragment true last) ++ t ≡ fragment false p ++ (inner ++ t) =
      ap (λ (x : List ℕ). x ++ t) (append_assoc (fragment false p) (fragments parts) (fragment true last))
      ∙ append_assoc (fragment false p) inner t in
      let long : 4 + length p + length inner ≡ length ((fragment false p ++ fragments parts) ++ fragment true last) =
      omega (arith, ap length (append_assoc (fragment false p) (fragments parts) (fragment true last)), length-append p inner) in
      let octets : p ++ (concat parts ++ last) ≡ (p ++ concat parts) ++ last = sym (append_assoc p (concat parts) last) in
      ap (record_within (suc k) sum) apart
      ∙ first_next p (inner ++ t) (omega (arith, little)) k sum (omega (arith, little))
      ∙ ap (after p (4 + length p)) (record_found parts k (sum + length p) little (omega (arith, h)))
      ∙ (λ i. whole (octets i) (long i))

-- a fragment is at least its header
headers_few : (parts : List (List ℕ)) → length parts ≤ length (fragments parts)
headers_few [] = omega arith
headers_few (p ∷ parts) = let ih = headers_few parts in omega (arith, ih, length-append p (fragments parts))

-- a fragment that was read is written so
module _ (s : List ℕ) (oct : AreOctets s) (all : 4 + size_in s ≤ length s) where
  word_back : be 4 (word_in s) ≡ take 4 s
  word_back =
      let long : length (take 4 s) ≡ 4 = omega (arith, length-take 4 s, all) in
      wide32.back (take 4 s) long (octets_before (take 4 s) (drop 4 s) (rw take-append-drop oct))

  word_below : word_in s < 2 ^ 32
  word_below =
      let long : length (take 4 s) ≡ 4 = omega (arith, length-take 4 s, all) in
      wide32.below (take 4 s) long (octets_before (take 4 s) (drop 4 s) (rw take-append-drop oct))

  size_back : length (octets_in s) ≡ size_in s
  size_back = omega (arith, length-take (size_in s) (drop 4 s), length-drop 4 s, all)

  pub fragment_back : (last : Bool) → is_last s ≡ last → take (4 + size_in s) s ≡ fragment last (octets_in s)
  fragment_back last is = parts ∙ (λ i. (sym word_back ∙ ap (be 4) (number last is)) i ++ octets_in s) where
    number : (last : Bool) → is_last s ≡ last → word_in s ≡ length (octets_in s) + (if last then 2 ^ 31 else 0)
    number true is =
        let high : 2 ^ 31 ≤ word_in s = grind (arith, nat_tests, is) in
        omega (arith, size_back, word_below, high)
    number false is =
        let low : word_in s < 2 ^ 31 = grind (arith, nat_tests, is) in
        omega (arith, size_back, low)

    parts : take (4 + size_in s) s ≡ take 4 s ++ octets_in s
    parts = take-add 4 (size_in s) s

pub record_framed : (k sum : ℕ) (s m : List ℕ) (n : ℕ) → AreOctets s → record_within k sum s ≡ whole m n → IsRecord m (take n s)
record_framed zero sum s m n oct e = absurd cc
record_framed (suc k) sum s m n oct e = elim (step k sum s _ e) [
  | short less is ↦ absurd cc
  | long header over is ↦ absurd cc
  | cut_off header few less is ↦ absurd cc
  | ended all few last is ↦
      let same = same_message _ _ _ _ (sym is) in
      ([], octets_in s, same.0, ap (λ (j : ℕ). take j s) same.1 ∙ fragment_back s oct all true last)
  | going all few last is ↦
      let f = found_after (octets_in s) (4 + size_in s) _ m n (sym is) in
      let after_it : AreOctets (behind s) = octets_after (take (4 + size_in s) s) (behind s) (rw take-append-drop oct) in
      let inner = record_framed k (sum + size_in s) (behind s) f.0 f.1 after_it f.2 in (
        octets_in s ∷ inner.0,
        inner.1,
        f.3 ∙ ap (λ (x : List ℕ). octets_in s ++ x) inner.2 ∙ sym (append_assoc (octets_in s) (concat inner.0) inner.1),
        ap (λ (j : ℕ). take j s) f.4 ∙ take-add (4 + size_in s) f.1 s
            ∙ (λ i. fragment_back s oct all false last i ++ inner.3 i)
            ∙ sym (append_assoc (fragment false (octets_in s)) (fragments inner.0) (fragment true inner.1)),
      )
]

-- ---- messages that say their own length

giop_framed : (s m : List ℕ) (n : ℕ) → first_giop s ≡ whole m n → (m ≡ take n s) × IsGiop (take n s)
giop_framed s m n e =
    let f = giop_found s m n e in
    let long : length (take n s) ≡ n = length-take-le n s f.fits.within in
    let header : 12 ≤ n = omega (arith, f.long) in
    let whole_header : 12 ≤ length (take n s) = omega (arith, long, header) in
    let apart : take n s ++ drop n s ≡ s = take-append-drop n s in
    let magic : has_magic (take n s) ≡ true = sym (same_magic (take n s) (drop n s) whole_header) ∙ ap has_magic apart ∙ f.magic in
    let size : giop_length (take n s) ≡ giop_length s =
    sym (same_giop (take n s) (drop n s) whole_header) ∙ ap giop_length apart in
    (f.prefix, (whole_header, magic, long ∙ f.long ∙ sym size))

mach_framed : (s m : List ℕ) (n : ℕ) → first_mach s ≡ whole m n → (m ≡ take n s) × IsMach (take n s)
mach_framed s m n e =
    let f = mach_found s m n e in
    let long : length (take n s) ≡ n = length-take-le n s f.fits.within in
    let header : 24 ≤ length (take n s) = omega (arith, long, f.header) in
    let enough : 8 ≤ length (take n s) = omega (arith, header) in
    let size : mach_length (take n s) ≡ mach_length s =
    sym (same_mach (take n s) (drop n s) enough) ∙ ap mach_length (take-append-drop n s) in
    (f.prefix, (header, long ∙ f.long ∙ sym size))

module _ (f rest : List ℕ) where
  sized_first : (n : ℕ) → length f ≡ n → length f ≤ longest_message → sized n (f ++ rest) ≡ whole f (length f)
  sized_first n is few =
      sizes_there (length (f ++ rest)) n _ (omega (arith, is, few)) (omega (arith, is, length-append f rest))
      ∙ (λ i. whole (take_at f rest n is i) (sym is i))

  giop_first : IsGiop f → length f ≤ longest_message → first_giop (f ++ rest) ≡ whole f (length f)
  unfolding first_giop
  giop_first (header, magic, own) few =
      let all : 12 ≤ length (f ++ rest) = omega (arith, header, length-append f rest) in
      let letters : has_magic (f ++ rest) ≡ true = same_magic f rest header ∙ magic in
      let size : giop_length (f ++ rest) ≡ length f = same_giop f rest header ∙ sym own in
      rw (le-ltb (length (f ++ rest)) 12 all, letters, size) (sized_first (length f) refl few)

  mach_first : IsMach f → length f ≤ longest_message → first_mach (f ++ rest) ≡ whole f (length f)
  unfolding first_mach
  mach_first (header, own) few =
      let eight : 8 ≤ length f = omega (arith, header) in
      let all : 8 ≤ length (f ++ rest) = omega (arith, header, length-append f rest) in
      let size : mach_length (f ++ rest) ≡ length f = same_mach f rest eight ∙ sym own in
      rw (le-ltb (length (f ++ rest)) 8 all, size, le-ltb (length f) 24 header) (sized_first (length f) refl few)

-- ---- each back end's own

giop_is_found : (m f rest : List ℕ) → (m ≡ f) → IsGiop f → length m ≤ longest_message → first_giop (f ++ rest) ≡ whole m (length f)
giop_is_found m f rest same is few =
    giop_first f rest is (omega (arith, few, ap length same)) ∙ ap (λ (x : List ℕ). whole x (length f)) (sym same)

pub frames_are_found : FramesAreFound
frames_are_found Xdr m f rest (parts, last, is, frame) few =
    let s = fragments parts ++ fragment true last in
    let headers : length parts < length (s ++ rest) =
    omega (arith, headers_few parts, length-append s rest, length-append (fragments parts) (fragment true last)) in
    let little : 0 + length (concat parts ++ last) ≤ longest_message = omega (arith, few, ap length is) in
    ap (λ (x : List ℕ). record_from 0 (x ++ rest)) frame
    ∙ record_found last rest parts (length (s ++ rest)) 0 little headers
    ∙ (λ i. whole (sym is i) (length (sym frame i)))
frames_are_found CdrBig m f rest (same, is) few = giop_is_found m f rest same is few
frames_are_found CdrLittle m f rest (same, is) few = giop_is_found m f rest same is few
frames_are_found Mach m f rest (same, is) few =
    mach_first f rest is (omega (arith, few, ap length same)) ∙ ap (λ (x : List ℕ). whole x (length f)) (sym same)

found_framed : (back : Back) (s m : List ℕ) (n : ℕ) → AreOctets s → first back s ≡ whole m n → IsFramed back m (take n s)
found_framed Xdr s m n oct e = record_framed (length s) 0 s m n oct e
found_framed CdrBig s m n oct e = giop_framed s m n e
found_framed CdrLittle s m n oct e = giop_framed s m n e
found_framed Mach s m n oct e = mach_framed s m n e

pub found_are_frames : FoundAreFrames
found_are_frames back s m n oct e =
    let f = first_fits back s m n e in
    (found_framed back s m n oct e, (omega (arith, f.some), f.within), omega (arith, f.few))
