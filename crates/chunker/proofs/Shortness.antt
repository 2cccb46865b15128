-- In chunked code at most seven chunks and aligns stand together: each align that is kept makes a greater multiple known.
use Rattle.std.proofs.Common.{◌≡◌, ℕ, suc, ◌+◌, ◌%◌, ◌≤◌, List, [], ◌∷◌, ◌++◌, map, Option, Some, None, Bool, true, false, nat_eq, if◌then◌else◌, refl, arith}
use Rattle.wire_def.specs.Scalars.{gap}
use Rattle.cast_stub.specs.declared.put.Put.{Put}
use Rattle.cast_stub.specs.Block.{Block, stop, ensure, ensure_row, align, chunk, row_copy, row_swap, row_wide, each, switch, if_there, call, patch, Cases, no_default, default, case}
use Rattle.cast_stub.specs.Steps.{is_width}
use Rattle.chunker.specs.declared.phase.Phase.{Phase}
use Rattle.chunker.specs.Chunked.{moved, consts_joined, zeros, chunk_of, closed, chunked, cases_chunked}
use Rattle.chunker.specs.Left.{meet_end, or_unknown, by_fours, leave, cases_leave, looped, switched, perhaps}
use Rattle.chunker.specs.Phases.{unknown, modulo, shift, is_known, aligned, meet}
use Rattle.cast_stub.specs.Skeletons.{IsShortAfter, AreShort, IsRunShort}
use Rattle.cast_stub.proofs.Widths.{Wide, one, two, four, eight, wide_is}

-- how many chunks and aligns may stand before a place of which so much is known
pub data Allows : ℕ → ℕ → Type 0 where
  by_one : Allows 1 0
  by_two : Allows 2 2
  by_four : Allows 4 4
  by_eight : Allows 8 6

pub record Allowed (m : ℕ) : Type 0 where
  pub many : ℕ
  pub allows : Allows m many

pub allowed : (m : ℕ) → Wide m → Allowed m
allowed _ one = record { many = 0; allows = by_one }
allowed _ two = record { many = 2; allows = by_two }
allowed _ four = record { many = 4; allows = by_four }
allowed _ eight = record { many = 6; allows = by_eight }

pub six : (m w : ℕ) → Allows m w → w ≤ 6
six _ _ by_one = omega arith
six _ _ by_two = omega arith
six _ _ by_four = omega arith
six _ _ by_eight = omega arith

pub allows_known : (ph : Phase) (w : ℕ) → Allows ph.m w → Wide ph.m
allows_known ph w g = wide_of ph.m w g where
  wide_of : (m w : ℕ) → Allows m w → Wide m
  wide_of _ _ by_one = one
  wide_of _ _ by_two = two
  wide_of _ _ by_four = four
  wide_of _ _ by_eight = eight

-- an align that is kept allows two more
pub two_more : (m w a x : ℕ) → Allows m w → Allows a x → nat_eq (m % a) 0 ≡ false → w + 2 ≤ x
two_more _ _ _ _ by_one by_one e = absurd cc
two_more _ _ _ _ by_one by_two e = omega arith
two_more _ _ _ _ by_one by_four e = omega arith
two_more _ _ _ _ by_one by_eight e = omega arith
two_more _ _ _ _ by_two by_one e = absurd cc
two_more _ _ _ _ by_two by_two e = absurd cc
two_more _ _ _ _ by_two by_four e = omega arith
two_more _ _ _ _ by_two by_eight e = omega arith
two_more _ _ _ _ by_four by_one e = absurd cc
two_more _ _ _ _ by_four by_two e = absurd cc
two_more _ _ _ _ by_four by_four e = absurd cc
two_more _ _ _ _ by_four by_eight e = omega arith
two_more _ _ _ _ by_eight by_one e = absurd cc
two_more _ _ _ _ by_eight by_two e = absurd cc
two_more _ _ _ _ by_eight by_four e = absurd cc
two_more _ _ _ _ by_eight by_eight e = absurd cc

-- behind so many, with one more perhaps
short_chunk : (k n : ℕ) (qs : List Put) (r : Block) → ((j : ℕ) → j ≤ suc k → IsShortAfter 7 j r) → IsShortAfter 7 k (chunk_of n qs r)
short_chunk k n [] r f = f k (omega arith)
short_chunk k n (q ∷ qs) r f = f (suc k) (omega arith)

short_closed : (k n : ℕ) (ps : List Put) (r : Block) → ((j : ℕ) → j ≤ suc k → IsShortAfter 7 j r) → IsShortAfter 7 k (closed n ps r)
short_closed k n ps r f = short_chunk k n (consts_joined 0 [] ps) r f

short_if : (k : ℕ) (t : Bool) (x y : Block) → IsShortAfter 7 k x → (t ≡ false → IsShortAfter 7 k y) → IsShortAfter 7 k (if t then x else y)
short_if k true x y f g = f
short_if k false x y f g = g refl

-- the greatest multiple that is known of a place is one of four
abbrev pub Known : Phase → Type 0
Known ph = Wide ph.m

three_known : (r : ℕ) (x y z : Bool) → Known (if x then modulo 8 r else if y then modulo 4 r else if z then modulo 2 r else unknown)
three_known r true y z = eight
three_known r false true z = four
three_known r false false true = two
three_known r false false false = one

pub meet_known : (a b : Phase) → Known (meet a b)
meet_known a b = three_known a.r _ _ _

pub aligned_known : (ph : Phase) (a : ℕ) → Known ph → Known (aligned ph a)
aligned_known ph a k = by_width (is_width a) refl where
  by_known : (s : Bool) → is_width a ≡ true → Known (if s then shift ph (gap ph.r a) else modulo a 0)
  by_known true w = k
  by_known false w = wide_is a w

  by_width : (t : Bool) → is_width a ≡ t → Known (if t then (if is_known ph a then shift ph (gap ph.r a) else modulo a 0) else ph)
  by_width true w = by_known (is_known ph a) w
  by_width false w = k

-- an end that may not be there
abbrev pub EndKnown : Option Phase → Type 0
EndKnown None = Unit {0}
EndKnown (Some x) = Known x

pub meet_end_known : (e : Option Phase) (b : Phase) → Known b → Known (meet_end e b)
meet_end_known None b k = k
meet_end_known (Some a) b k = meet_known a b

mutual
  leave_known : (b : Block) (ph : Phase) → Known ph → Known (leave ph b)
  leave_known stop ph k = k
  leave_known (ensure n r) ph k = leave_known r ph k
  leave_known (ensure_row p u e r) ph k = leave_known r ph k
  leave_known (align a r) ph k = leave_known r (aligned ph a) (aligned_known ph a k)
  leave_known (chunk s ps r) ph k = leave_known r (shift ph s) k
  leave_known (row_copy p r) ph k = leave_known r unknown one
  leave_known (row_swap p r) ph k = leave_known r unknown one
  leave_known (row_wide p o r) ph k = leave_known r (by_fours ph) (meet_known ph (shift ph 4))
  leave_known (each p b r) ph k = leave_known r (looped ph b) (meet_known ph (leave unknown b))
  leave_known (switch p cs r) ph k = leave_known r (switched ph cs) (ends_known cs ph None k tt)
  leave_known (if_there p b r) ph k = leave_known r (perhaps ph b) (meet_known ph (leave ph b))
  leave_known (call c p r) ph k = leave_known r unknown one
  leave_known (patch x s o r) ph k = leave_known r ph k

  ends_known : (cs : Cases) (ph : Phase) (e : Option Phase) → Known ph → EndKnown e → Known (or_unknown (cases_leave ph e cs))
  ends_known no_default ph None k l = one
  ends_known no_default ph (Some x) k l = l
  ends_known (default b) ph e k l = meet_end_known e (leave ph b) (leave_known b ph k)
  ends_known (case n b cs) ph e k l = ends_known cs ph (Some (meet_end e (leave ph b))) k (meet_end_known e (leave ph b)
      (leave_known b ph k))

align_short : (a : ℕ) (r : Block) (ph : Phase) (w k n : ℕ) (ps : List Put) → Allows ph.m w → k ≤ w
    → IsShortAfter 7 k (chunked (shift ph (gap ph.r a)) (n + gap ph.r a) (ps ++ zeros n (gap ph.r a)) r)
    → ((x i : ℕ) → Allows a x → i ≤ x → IsShortAfter 7 i (chunked (modulo a 0) 0 [] r))
    → IsShortAfter 7 k (chunked ph n ps r)
    → IsShortAfter 7 k (chunked ph n ps (align a r))
align_short a r ph w k n ps g le on off same = by_width (is_width a) refl where
  by_known : (s : Bool) → is_known ph a ≡ s → is_width a ≡ true → IsShortAfter 7 k (if s then
      chunked (shift ph (gap ph.r a)) (n + gap ph.r a) (ps ++ zeros n (gap ph.r a)) r
      else closed n ps (align a (chunked (modulo a 0) 0 [] r)))
  by_known true e v = on
  by_known false e v =
      let x = allowed a (wide_is a v) in
      short_closed k n ps (align a (chunked (modulo a 0) 0 [] r)) (λ j l.
      off x.many (suc j) x.allows (omega (arith, l, le, two_more ph.m w a x.many g x.allows e)))

  by_width : (t : Bool) → is_width a ≡ t → IsShortAfter 7 k (if t then (if is_known ph a then
      chunked (shift ph (gap ph.r a)) (n + gap ph.r a) (ps ++ zeros n (gap ph.r a)) r
      else closed n ps (align a (chunked (modulo a 0) 0 [] r))) else chunked ph n ps r)
  by_width true v = by_known (is_known ph a) refl v
  by_width false v = same

-- at the start of a block
fresh_of : (b : Block) (ph : Phase) → Known ph → ((w : ℕ) → Allows ph.m w → IsRunShort 7 (chunked ph 0 [] b))
    → IsRunShort 7 (chunked ph 0 [] b)
fresh_of b ph known f = let x = allowed ph.m known in f x.many x.allows

mutual
  pub short : (b : Block) (ph : Phase) (w k n : ℕ) (ps : List Put) → Allows ph.m w → k ≤ w → IsShortAfter 7 k (chunked ph n ps b)
  short stop ph w k n ps g le = short_closed k n ps stop (λ j l. omega (arith, l, le, six ph.m w g))
  short (ensure x r) ph w k n ps g le =
      short_closed k n ps (ensure x (chunked ph 0 [] r)) (λ j l. (omega (arith, l, le, six ph.m w g), short r ph w 0 0 [] g (omega arith)))
  short (ensure_row q u x r) ph w k n ps g le =
      short_closed k n ps (ensure_row q u x (chunked ph 0 [] r)) (λ j l. (
        omega (arith, l, le, six ph.m w g),
        short r ph w 0 0 [] g
            (omega arith),
      ))
  short (align a r) ph w k n ps g le =
      align_short a r ph w k n ps g le (short r (shift ph (gap ph.r a)) w k (n + gap ph.r a) (ps ++ zeros n (gap ph.r a)) g le)
      (λ x i y m. short r (modulo a 0) x i 0 [] y m) (short r ph w k n ps g le)
  short (chunk s qs r) ph w k n ps g le = short r (shift ph s) w k (n + s) (ps ++ map (moved n) qs) g le
  short (row_copy q r) ph w k n ps g le =
      short_closed k n ps (row_copy q (chunked unknown 0 [] r)) (λ j l. (
        omega (arith, l, le, six ph.m w g),
        fresh_of r unknown one
            (λ z y. short r unknown z 0 0 [] y (omega arith)),
      ))
  short (row_swap q r) ph w k n ps g le =
      short_closed k n ps (row_swap q (chunked unknown 0 [] r)) (λ j l. (
        omega (arith, l, le, six ph.m w g),
        fresh_of r unknown one
            (λ z y. short r unknown z 0 0 [] y (omega arith)),
      ))
  short (row_wide q o r) ph w k n ps g le =
      short_closed k n ps (row_wide q o (chunked (by_fours ph) 0 [] r)) (λ j l. (
        omega (arith, l, le, six ph.m w g),
        fresh_of r (by_fours ph) (meet_known ph (shift ph 4)) (λ z y. short r (by_fours ph) z 0 0 [] y
            (omega arith)),
      ))
  short (each q b r) ph w k n ps g le =
      let s = looped ph b in
      let known = meet_known ph (leave unknown b) in
      short_closed k n ps (each q (chunked s 0 [] b) (chunked s 0 [] r)) (λ j l. (
        omega (arith, l, le, six ph.m w g),
        (
          fresh_of b s known (λ z y. short b s z 0 0 [] y (omega arith)),
          fresh_of r s known
              (λ z y. short r s z 0 0 [] y (omega arith)),
        ),
      ))
  short (switch q cs r) ph w k n ps g le =
      let s = switched ph cs in
      short_closed k n ps (switch q (cases_chunked ph cs) (chunked s 0 [] r)) (λ j l. (
        omega (arith, l, le, six ph.m w g),
        (
          short_cases cs ph w g,
          fresh_of r s (ends_known cs ph None (allows_known ph w g) tt)
              (λ z y. short r s z 0 0 [] y (omega arith)),
        ),
      ))
  short (if_there q b r) ph w k n ps g le =
      let s = perhaps ph b in
      short_closed k n ps (if_there q (chunked ph 0 [] b) (chunked s 0 [] r)) (λ j l. (
        omega (arith, l, le, six ph.m w g),
        (
          short b ph w 0 0 [] g (omega arith),
          fresh_of r s (meet_known ph (leave ph b))
              (λ z y. short r s z 0 0 [] y (omega arith)),
        ),
      ))
  short (call c q r) ph w k n ps g le =
      short_closed k n ps (call c q (chunked unknown 0 [] r)) (λ j l. (
        omega (arith, l, le, six ph.m w g),
        fresh_of r unknown one
            (λ z y. short r unknown z 0 0 [] y (omega arith)),
      ))
  short (patch x s o r) ph w k n ps g le =
      short_closed k n ps (patch x s o (chunked ph 0 [] r)) (λ j l. (
        omega (arith, l, le, six ph.m w g),
        short r ph w 0 0 [] g
            (omega arith),
      ))

  pub short_cases : (cs : Cases) (ph : Phase) (w : ℕ) → Allows ph.m w → AreShort 7 (cases_chunked ph cs)
  short_cases no_default ph w g = tt
  short_cases (default b) ph w g = short b ph w 0 0 [] g (omega arith)
  short_cases (case m b cs) ph w g = (short b ph w 0 0 [] g (omega arith), short_cases cs ph w g)

pub fresh : (b : Block) (ph : Phase) → Known ph → IsRunShort 7 (chunked ph 0 [] b)
fresh b ph known = fresh_of b ph known (λ w g. short b ph w 0 0 [] g (omega arith))
