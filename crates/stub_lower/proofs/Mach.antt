-- What the leaves of Mach messages append: items, descriptors, rows and texts.
use Rattle.std.proofs.Common.{◌≡◌, ℕ, ◌+◌, ◌*◌, ◌/◌, ◌%◌, ◌<◌, ◌≤◌, ℤ, pos, negsuc, List, [], ◌∷◌, ◌++◌, length, map, replicate, Option, Some, None, option_map, refl, sym, ap, subst, ◌∙◌, arith, append_assoc, length-append, IsTrue, Bool, true, false, if◌then◌else◌}
use Rattle.std.specs.Prelude.{nat_lt, nat_eq}
use Rattle.std.specs.List.{list_all}
use Rattle.std.proofs.lemmas.Bool.{ltb-true, ltb-false, lt-ltb, eqb-true}
use Rattle.std.proofs.lemmas.List.{append-nil, length-replicate}
use Rattle.kit_base.specs.Bytes.{le}
use Rattle.mint.specs.declared.kind.Kind.{Kind}
use Rattle.mint.specs.declared.kind.Kind.TheVariants as kind
use Rattle.mint.specs.declared.kind.Count.{Count}
use Rattle.mint.specs.declared.kind.Count.TheVariants.{Exactly, AtMost, Any}
use Rattle.mint.specs.Kinds.{Allows, in_range}
use Rattle.mint.specs.Types.{Scalar, number, text, row_of}
use Rattle.mint.specs.Typed.{IsArray}
use Rattle.mint.specs.Values.{Val, num, row, vals_of}
use Rattle.wire_def.specs.declared.encoding.Encoding.TheVariants.{Mach}
use Rattle.wire_def.specs.declared.head.Head.{Head}
use Rattle.wire_def.specs.declared.head.Order.TheVariants.{Little}
use Rattle.wire_def.specs.Places.{IsPlace}
use Rattle.wire_def.specs.Scalars.{gap, scalar_octets, number_octets, residue, width_of}
use Rattle.wire_def.specs.Lone.{unit_name, unit_bits, units_of, short_word, scalar_word, filling, lone_octets}
use Rattle.wire_def.specs.Described.{is_long, long_mark, long_words, described_octets}
use Rattle.wire_def.specs.Descriptors.{descriptor}
use Rattle.wire_def.specs.Arrays.{natural, counted, head_octets, element_octets, elements_octets, array_octets}
use Rattle.wire_def.proofs.Words.{wide}
use Rattle.cast_stub.specs.declared.put.Put.{Put}
use Rattle.cast_stub.specs.declared.put.Put.TheVariants as put
use Rattle.cast_stub.specs.Parts.{on_some}
use Rattle.cast_stub.specs.Puts.{Cells, put_octets, offset, word, placed, put_all, full, filled}
use Rattle.cast_stub.specs.Block.{Block, stop, align, each}
use Rattle.cast_stub.specs.Append.{append}
use Rattle.cast_stub.specs.Steps.{Steps, Stored, Calls, steps, over, chunk_steps}
use Rattle.cast_stub.specs.Meaning.{wrote}
use Rattle.cast_stub.specs.Layouts.{scalar_width}
use Rattle.cast_stub.proofs.Appending.{steps-append}
use Rattle.cast_stub.proofs.Putting.{full_whole}
use Rattle.stub_lower.specs.Items.{item_rest}
use Rattle.stub_lower.specs.Codes.{filling_puts, item_code, long_octets, long_code, short_code, described_code, number_put, number_chunk, filling_code}
use Rattle.stub_lower.proofs.Writing.{Writes, both-writes, none-writes, writes_same, writes_stop, Sends, put-writes}
use Rattle.stub_lower.proofs.Words as words
use Rattle.stub_lower.proofs.Words.{width_same, word-octet}
use Rattle.stub_lower.proofs.Encoded.{ScalarsSend, ArraysSend, over-writes, octets_long, letters_are_octets}
use Rattle.stub_lower.proofs.RecvItems.{rest_whole}
use Rattle.stub_lower.proofs.UnitLaws.{Units, single, twice, units, along, along_one, along_words, along_times}
use Rattle.wire_def.proofs.DescribedGrammar.{name_small, bits_small}

-- ---- puts, each of which begins where the one before it ends

-- cells for so many octets, none of them put
abbrev blanks : List ℕ → Cells
blanks [] = []
blanks (x ∷ xs) = None ∷ blanks xs

blanks_are : (xs : List ℕ) → replicate {A = Option ℕ} (length xs) None ≡ blanks xs
blanks_are [] = refl
blanks_are (x ∷ xs) = ap (λ (cs : Cells). None ∷ cs) (blanks_are xs)

placed_blank : (os rest : List ℕ) → placed 0 os (blanks (os ++ rest)) ≡ Some (map Some os ++ blanks rest)
placed_blank [] rest = refl
placed_blank (o ∷ os) rest = ap (option_map (λ ds. Some o ∷ ds)) (placed_blank os rest)

placed_after : (front os rest : List ℕ)
    → placed (length front) os (map Some front ++ blanks (os ++ rest)) ≡ Some (map Some (front ++ os) ++ blanks rest)
placed_after [] os rest = placed_blank os rest
placed_after (x ∷ front) os rest = ap (option_map (λ ds. Some x ∷ ds)) (placed_after front os rest)

put_next : (h : Head) (v : Val) (x : Put) (ps : List Put) (front os rest : List ℕ) → offset x ≡ length front
    → put_octets h x v ≡ Some os
    → put_all h v (x ∷ ps) (map Some front ++ blanks (os ++ rest)) ≡ put_all h v ps (map Some (front ++ os) ++ blanks rest)
put_next h v x ps front os rest first is =
    let cs : Cells = map Some front ++ blanks (os ++ rest) in
    ap (λ (o : Option (List ℕ)). on_some (on_some o (λ b. placed (offset x) b cs)) (put_all h v ps)) is
    ∙ ap (λ (n : ℕ). on_some (placed n os cs) (put_all h v ps)) first
    ∙ ap (λ (o : Option Cells). on_some o (put_all h v ps)) (placed_after front os rest)

-- the puts of octets and of a number, and zeros after them, unless there are none
abbrev item_puts : Bool → List ℕ → Put → ℕ → ℕ → List Put
item_puts none front x w z = put.Const 0 front ∷ x ∷ (if none then [] else put.Const (4 + w) (replicate z 0) ∷ [])

item_filled : (none : Bool) (x : Put) (h : Head) (v : Val) (front os : List ℕ) (w z : ℕ) → (none ≡ true → z ≡ 0) → length front ≡ 4
    → offset x ≡ length front → put_octets h x v ≡ Some os → length os ≡ w
    → on_some (put_all h v (item_puts none front x w z) (blanks (front ++ (os ++ replicate z 0)))) full
    ≡ Some (front ++ (os ++ replicate z 0))
item_filled true x h v front os w z blank four first is long =
    subst
    (λ (n : ℕ). on_some (put_all h v (put.Const 0 front ∷ x ∷ []) (blanks (front ++ (os ++ replicate n 0)))) full
    ≡ Some (front ++ (os ++ replicate n 0))) (sym (blank refl))
    (ap (λ (o : Option Cells). on_some o full)
    (put_next h v (put.Const 0 front) (x ∷ []) [] front (os ++ []) refl refl ∙ put_next h v x [] front os [] first is)
    ∙ ap full (append-nil (map Some (front ++ os))) ∙ full_whole (front ++ os)
    ∙ ap (λ (l : List ℕ). Some (front ++ l)) (sym (append-nil os)))
item_filled false x h v front os w z blank four first is long =
    let zeros : List ℕ = replicate z 0 in
    let last : Put = put.Const (4 + w) zeros in
    let after : 4 + w ≡ length (front ++ os) = omega (arith, length-append front os, four, long) in
    ap (λ (o : Option Cells). on_some o full)
    (put_next h v (put.Const 0 front) (x ∷ last ∷ []) [] front (os ++ zeros) refl refl
    ∙ put_next h v x (last ∷ []) front os zeros first is
    ∙ ap (λ (l : List ℕ). put_all h v (last ∷ []) (map Some (front ++ os) ++ blanks l)) (sym (append-nil zeros))
    ∙ put_next h v last [] (front ++ os) zeros [] after refl)
    ∙ ap full (append-nil (map Some ((front ++ os) ++ zeros))) ∙ full_whole ((front ++ os) ++ zeros)
    ∙ ap Some (append_assoc front os zeros)

item-writes : (none : Bool) (size : ℕ) (x : Put) (h : Head) (v : Val) (front os : List ℕ) (w z p : ℕ) → (none ≡ true → z ≡ 0)
    → length front ≡ 4 → offset x ≡ length front → put_octets h x v ≡ Some os → length os ≡ w
    → length (front ++ (os ++ replicate z 0)) ≡ size
    → Writes (chunk_steps size (item_puts none front x w z) h v) p (front ++ (os ++ replicate z 0))
item-writes none size x h v front os w z p blank four first is same long base before at =
    let all : List ℕ = front ++ (os ++ replicate z 0) in
    let ps : List Put = item_puts none front x w z in
    let whole : filled (length all) ps h v ≡ Some all = ap (λ (cs : Cells). on_some (put_all h v ps cs) full) (blanks_are all)
    ∙ item_filled none x h v front os w z blank four first is same in
    subst (λ (k : ℕ). on_some (chunk_steps k ps h v) (wrote base before) ≡ Some (before ++ all)) long
    (ap (λ (o : Option (List ℕ)). on_some (on_some o (λ b. Some (Stored b (length ps) ∷ []))) (wrote base before)) whole)

-- ---- items

-- over Mach a scalar has no gap
bare_octets : (s : Scalar) (p : ℕ) (n : ℤ) → scalar_octets Mach s p n ≡ number_octets Mach (width_of Mach s) (residue (width_of Mach s) n)
unfolding scalar_octets
bare_octets s p n =
    let none : gap p 1 ≡ 0 = omega arith in
    rw none refl

bare_long : (s : Scalar) (n : ℤ) → length (number_octets Mach (width_of Mach s) (residue (width_of Mach s) n)) ≡ scalar_width Mach s
bare_long s n = (wide Mach s).len (residue (width_of Mach s) n) ∙ sym (width_same Mach s)

pub mach_scalar : ScalarsSend Mach
mach_scalar c h s n x v p typed first is place =
    let os : List ℕ = number_octets Mach (width_of Mach s) (residue (width_of Mach s) n) in
    let front : List ℕ = le 4 (scalar_word s) in
    let zeros : List ℕ = replicate (filling s) 0 in
    let sent : front ++ (os ++ zeros) ≡ lone_octets Mach s p n =
    ap (λ (l : List ℕ). front ++ (l ++ zeros)) (sym (bare_octets s (p + 4) n)) in
    let size : length (front ++ (os ++ zeros)) ≡ 4 + item_rest s =
    length-append front (os ++ zeros) ∙ ap (λ (k : ℕ). 4 + k) (length-append os zeros ∙ ap (λ (k : ℕ). k + length zeros) (bare_long s n)
    ∙ ap (λ (k : ℕ). scalar_width Mach s + k) (length-replicate {A = ℕ} (filling s) 0)) in
    let whole : (4 + item_rest s) % 4 ≡ 0 = omega (arith, rest_whole s) in (
      subst (λ (o : List ℕ). IsPlace Mach (length o)) sent (subst (IsPlace Mach) (sym size) whole),
      writes_same (steps c h (item_code s x) v) p (front ++ (os ++ zeros)) (lone_octets Mach s p n) sent
          (writes_stop (chunk_steps (4 + item_rest s) (put.Const 0 front ∷ x ∷ filling_puts s) h v) p (front ++ (os ++ zeros))
          (item-writes (nat_eq (filling s) 0) (4 + item_rest s) x h v front os (scalar_width Mach s) (filling s) p
          (eqb-true (filling s) 0) refl first
          (is ∙ words.scalar_word Mach s n typed) (bare_long s n) size)),
    )

-- ---- descriptors

descriptor_is : (name bits n : ℕ) → name < 256 → bits < 256 → n ≤ 4095 → descriptor name bits n ≡ Some (le 4 (short_word name bits n))
descriptor_is name bits n h j few =
    let same : name + bits * 256 + n * 65536 + 268435456 ≡ short_word name bits n = omega arith in
    rw (lt-ltb name 256 h, lt-ltb bits 256 j, lt-ltb n 4096 (omega (arith, few))) (ap (λ (w : ℕ). Some (le 4 w)) same)

-- a number of elements that the count allows has few units, where the descriptor is short
few_units : (c : Count) (s : Scalar) (n : ℕ) → is_long c s ≡ false → Allows c n → n * units_of s ≤ 4095
few_units c s n short ok = either c short ok (units s) where
  less : (m : ℕ) → n ≤ m → nat_lt 4095 (m * units_of s) ≡ false → Units s → n * units_of s ≤ 4095
  less m le is (single u w k) =
      let top = ltb-false 4095 (m * units_of s) is in
      let one : m * 1 ≤ 4095 = subst (λ (z : ℕ). m * z ≤ 4095) u top in
      rw u (omega (arith, le, one))
  less m le is (twice u w k) =
      let top = ltb-false 4095 (m * units_of s) is in
      let two : m * 2 ≤ 4095 = subst (λ (z : ℕ). m * z ≤ 4095) u top in
      rw u (omega (arith, le, two))

  either : (c : Count) → is_long c s ≡ false → Allows c n → Units s → n * units_of s ≤ 4095
  either (Exactly m) is ok u = less m (omega (arith, ok)) is u
  either (AtMost m) is ok u = less m ok.0 is u
  either Any is ok u = absurd cc

many_units : (s : Scalar) (n : ℕ) → n < 268435456 → n * units_of s < 4294967296
many_units s n few = either (units s) where
  either : Units s → n * units_of s < 4294967296
  either (single u w k) = rw u (omega (arith, few))
  either (twice u w k) = rw u (omega (arith, few))

-- the last 8 octets of a long descriptor, name and size apart from the number
long_split : (name bits m : ℕ) → name < 256 → bits < 256 → m < 4294967296
    → le 4 (long_words name bits 0) ++ le 4 m ≡ le 8 (long_words name bits m)
long_split name bits m h j few =
    let x : ℕ = long_words name bits m in
    let y : ℕ = long_words name bits 0 in
    let one : x % 256 ≡ y % 256 = omega arith in
    let two : x / 256 % 256 ≡ y / 256 % 256 = omega arith in
    let three : x / 65536 % 256 ≡ y / 65536 % 256 = omega arith in
    let four : x / 16777216 % 256 ≡ y / 16777216 % 256 = omega arith in
    let five : x / 4294967296 % 256 ≡ m % 256 = omega arith in
    let six : x / 1099511627776 % 256 ≡ m / 256 % 256 = omega arith in
    let seven : x / 281474976710656 % 256 ≡ m / 65536 % 256 = omega arith in
    let eight : x / 72057594037927936 % 256 ≡ m / 16777216 % 256 = omega arith in
    sym (rw (one, two, three, four, five, six, seven, eight) refl)

short-sends : (c : Calls) (h : Head) (b : Count) (s : Scalar) (k : Kind) (ns : List ℤ) (p : ℕ) → is_long b s ≡ false → Allows b (length ns)
    → Writes (steps c h (short_code s) (row k ns)) p (le 4 (short_word (unit_name s) (unit_bits s) (length ns * units_of s)))
short-sends c h b s k ns p short ok =
    writes_stop (chunk_steps 4 (put.Short 0 [] (unit_name s) (unit_bits s) (units_of s) ∷ []) h (row k ns)) p
    (le 4 (short_word (unit_name s) (unit_bits s) (length ns * units_of s)))
    (put-writes 4 (put.Short 0 [] (unit_name s) (unit_bits s) (units_of s)) h (row k ns)
    (le 4 (short_word (unit_name s) (unit_bits s) (length ns * units_of s))) p refl
    (descriptor_is (unit_name s) (unit_bits s) (length ns * units_of s) (name_small s) (bits_small s) (few_units b s (length ns) short ok))
    refl)

long-sends : (c : Calls) (h : Head) (s : Scalar) (k : Kind) (ns : List ℤ) (p : ℕ) → length ns < 268435456
    → Writes (steps c h (long_code s) (row k ns)) p
    (le 4 long_mark ++ le 8 (long_words (unit_name s) (unit_bits s) (length ns * units_of s)))
unfolding long_octets
long-sends c h s k ns p few base before at =
    let m : ℕ = length ns * units_of s in
    let none : m + 0 ≡ m = omega arith in
    let small : m < 4294967296 = many_units s (length ns) few in
    let wrapped : m % 4294967296 ≡ m = omega (arith, small) in
    let count : word 4 Little (pos (m + 0)) ≡ Some (le 4 m) = ap (λ (z : ℕ). word 4 Little (pos z)) none
    ∙ words.scalar_word Mach counted (pos m) (lt-ltb m 4294967296 small) ∙ ap (λ (z : ℕ). Some (le 4 z)) wrapped in
    rw (count, ← long_split (unit_name s) (unit_bits s) m (name_small s) (bits_small s) small) refl

described-sends : (c : Calls) (h : Head) (b : Count) (s : Scalar) (k : Kind) (ns : List ℤ) (p : ℕ) → Allows b (length ns)
    → length ns < 268435456
    → (length (described_octets b s (length ns)) % 4 ≡ 0)
    × Writes (steps c h (described_code b s) (row k ns)) p (described_octets b s (length ns))
unfolding described_octets
described-sends c h b s k ns p ok few = either (is_long b s) refl where
  either : (long : Bool) → is_long b s ≡ long
      →
      (length (if long then le 4 long_mark ++ le 8 (long_words (unit_name s) (unit_bits s) (length ns * units_of s)) else le 4
      (short_word (unit_name s) (unit_bits s) (length ns * units_of s))) % 4
      ≡ 0)
      × Writes (steps c h (if long then long_code s else short_code s) (row k ns)) p
      (if long then le 4 long_mark ++ le 8 (long_words (unit_name s) (unit_bits s) (length ns * units_of s)) else le 4
      (short_word (unit_name s) (unit_bits s) (length ns * units_of s)))
  either true is = (refl, long-sends c h s k ns p few)
  either false is = (refl, short-sends c h b s k ns p is ok)

-- ---- rows and texts

abbrev octet_one : ℕ → ℤ → List ℕ
octet_one p n = natural n ∷ []

octet-writes : (c : Calls) (h : Head) (n : ℤ) (q : ℕ) → IsTrue (in_range kind.Octet n)
    → Writes (steps c h (number_chunk Mach 1) (num n)) q (octet_one q n)
octet-writes c h (pos n) q typed = writes_stop (chunk_steps 1 (number_put Mach 1 ∷ []) h (num (pos n))) q (n ∷ [])
    (put-writes 1 (number_put Mach 1) h (num (pos n)) (n ∷ []) q refl (word-octet Little n (ltb-true n 256 typed)) refl)
octet-writes c h (negsuc n) q typed = absurd (none n typed) where
  none : (m : ℕ) → IsTrue (nat_lt m 0) → ⊥
  none m t = omega (arith, ltb-true m 0 t)

number-writes : (c : Calls) (h : Head) (k : Kind) (n : ℤ) (q : ℕ) → IsTrue (in_range k n)
    → Writes (steps c h (number_chunk Mach (scalar_width Mach (number k))) (num n)) q (scalar_octets Mach (number k) q n)
number-writes c h k n q typed =
    let os : List ℕ = number_octets Mach (width_of Mach (number k)) (residue (width_of Mach (number k)) n) in
    let x = number_put Mach (scalar_width Mach (number k)) in
    writes_same (steps c h (number_chunk Mach (scalar_width Mach (number k))) (num n)) q os (scalar_octets Mach (number k) q n)
    (sym (bare_octets (number k) q n))
    (writes_stop (chunk_steps (scalar_width Mach (number k)) (x ∷ []) h (num n)) q os
    (put-writes (scalar_width Mach (number k)) x h (num n) os q refl (words.scalar_word Mach (number k) n typed) (bare_long (number k) n)))

numbers_long : (k : Kind) (p : ℕ) (ns : List ℤ)
    → length (elements_octets (scalar_octets Mach (number k)) p ns) ≡ along (length ns) (scalar_width Mach (number k))
unfolding elements_octets
numbers_long k p [] = refl
numbers_long k p (n ∷ ns) =
    length-append (scalar_octets Mach (number k) p n)
    (elements_octets (scalar_octets Mach (number k)) (p + length (scalar_octets Mach (number k) p n)) ns)
    ∙ ap (λ (m : ℕ). m + length (elements_octets (scalar_octets Mach (number k)) (p + length (scalar_octets Mach (number k) p n)) ns))
    (ap length (bare_octets (number k) p n) ∙ bare_long (number k) n)
    ∙ ap (λ (m : ℕ). scalar_width Mach (number k) + m) (numbers_long k (p + length (scalar_octets Mach (number k) p n)) ns)

-- zeros up to a multiple of 4
up_to_four : (c : Calls) (h : Head) (v : Val) (q n : ℕ) → gap q 4 ≡ n → Writes (steps c h (align 4 stop) v) q (replicate n 0)
up_to_four c h v q n same base before at = ap (λ (m : ℕ). Some (before ++ replicate m 0)) (ap (λ (x : ℕ). gap x 4) at ∙ same)

fill-writes : (c : Calls) (h : Head) (v : Val) (w n q : ℕ) → (nat_lt w 4 ≡ false → w % 4 ≡ 0) → gap q 4 ≡ gap (n * w) 4
    → Writes (steps c h (filling_code w) v) q (replicate (gap (n * w) 4) 0)
fill-writes c h v w n q whole same = either (nat_lt w 4) refl where
  either : (b : Bool) → nat_lt w 4 ≡ b → Writes (steps c h (if b then align 4 stop else stop) v) q (replicate (gap (n * w) 4) 0)
  either true is = up_to_four c h v q (gap (n * w) 4) same
  either false is =
      let words : along n w % 4 ≡ 0 = along_words n w (whole is) in
      let long = along_times w n in
      let none : gap (n * w) 4 ≡ 0 = omega (arith, words, long) in
      rw none (none-writes q)

-- an array of elements of so many octets, which are less than a word, or whole words
array-sends : (c : Calls) (h : Head) (b : Count) (s : Scalar) (w : ℕ) (turn : Block) (one : ℕ → ℤ → List ℕ) (k : Kind) (ns : List ℤ) (p : ℕ)
    → (nat_lt w 4 ≡ false → w % 4 ≡ 0) → Allows b (length ns) → length ns < 268435456
    → ((q : ℕ)
    → (length (elements_octets one q ns) ≡ along (length ns) w)
    × Writes (over (steps c h turn) (vals_of (map num ns))) q (elements_octets one q ns))
    → Sends Mach (steps c h (append (described_code b s) (each [] turn (filling_code w))) (row k ns)) p (described_octets b s (length ns)
    ++ (elements_octets one (p + length (described_octets b s (length ns))) ns ++ replicate (gap (length ns * w) 4) 0))
array-sends c h b s w turn one k ns p whole ok few elements place =
    let head : List ℕ = described_octets b s (length ns) in
    let q : ℕ = p + length head in
    let els : List ℕ = elements_octets one q ns in
    let zeros : List ℕ = replicate (gap (length ns * w) 4) 0 in
    let first = described-sends c h b s k ns p ok few in
    let e = elements q in
    let long : length els ≡ length ns * w = e.0 ∙ along_times w (length ns) in
    let sum : length (head ++ (els ++ zeros)) ≡ length head + (length ns * w + gap (length ns * w) 4) =
    length-append head (els ++ zeros) ∙ ap (λ (m : ℕ). length head + m) (length-append els zeros ∙ ap (λ (m : ℕ). m + length zeros) long
    ∙ ap (λ (m : ℕ). length ns * w + m) (length-replicate {A = ℕ} (gap (length ns * w) 4) 0)) in
    let four : (length head + (length ns * w + gap (length ns * w) 4)) % 4 ≡ 0 = omega (arith, first.0) in (
      subst (IsPlace Mach) (sym sum) four,
      subst (λ (x : Steps). Writes x p (head ++ (els ++ zeros)))
          (sym (steps-append c h (described_code b s) (each [] turn (filling_code w)) (row k ns)))
          (both-writes (steps c h (described_code b s) (row k ns)) (steps c h (each [] turn (filling_code w)) (row k ns)) p head
          (els ++ zeros) first.1
          (both-writes (over (steps c h turn) (vals_of (map num ns))) (steps c h (filling_code w) (row k ns)) q els zeros e.1
          (fill-writes c h (row k ns) w (length ns) (q + length els) whole (omega (arith, place, first.0, long))))),
    )

octets-send : (c : Calls) (h : Head) (b : Count) (s : Scalar) (k : Kind) (ns : List ℤ) (p : ℕ) → Allows b (length ns)
    → length ns < 268435456 → IsTrue (list_all (in_range kind.Octet) ns)
    → Sends Mach (steps c h (append (described_code b s) (each [] (number_chunk Mach 1) (filling_code 1))) (row k ns)) p
    (described_octets b s (length ns)
    ++ (elements_octets octet_one (p + length (described_octets b s (length ns))) ns ++ replicate (gap (length ns * 1) 4) 0))
octets-send c h b s k ns p ok few all =
    array-sends c h b s 1 (number_chunk Mach 1) octet_one k ns p (λ is. cc) ok few
    (λ (q : ℕ). (
      octets_long q ns ∙ sym (along_one (length ns)),
      over-writes octet_one (steps c h (number_chunk Mach 1)) (in_range kind.Octet) ns q all (octet-writes c h),
    ))

numbers-send : (c : Calls) (h : Head) (b : Count) (m k : Kind) (ns : List ℤ) (p : ℕ)
    → (nat_lt (scalar_width Mach (number m)) 4 ≡ false → scalar_width Mach (number m) % 4 ≡ 0) → IsArray (row_of m b) k ns
    → length ns < 268435456
    → Sends Mach (steps c h (append (described_code b (number m))
    (each [] (number_chunk Mach (scalar_width Mach (number m))) (filling_code (scalar_width Mach (number m))))) (row k ns)) p
    (described_octets b (number m) (length ns)
    ++ (elements_octets (scalar_octets Mach (number m)) (p + length (described_octets b (number m) (length ns))) ns
    ++ replicate (gap (length ns * scalar_width Mach (number m)) 4) 0))
numbers-send c h b m k ns p whole typed few =
    array-sends c h b (number m) (scalar_width Mach (number m)) (number_chunk Mach (scalar_width Mach (number m)))
    (scalar_octets Mach (number m)) k ns p whole typed.1 few
    (λ (q : ℕ). (
      numbers_long m q ns,
      over-writes (scalar_octets Mach (number m)) (steps c h (number_chunk Mach (scalar_width Mach (number m)))) (in_range m) ns q typed.2
          (number-writes c h m),
    ))

pub mach_array : ArraysSend Mach
unfolding array_octets element_octets head_octets
mach_array c h (text b) k ns p typed few = octets-send c h b (number kind.Char) k ns p typed.1 few (letters_are_octets ns typed.2)
mach_array c h (row_of kind.Octet b) k ns p typed few = octets-send c h b (number kind.Octet) k ns p typed.1 few typed.2
mach_array c h (row_of kind.I8 b) k ns p typed few = numbers-send c h b kind.I8 k ns p (λ is. cc) typed few
mach_array c h (row_of kind.U8 b) k ns p typed few = numbers-send c h b kind.U8 k ns p (λ is. cc) typed few
mach_array c h (row_of kind.Char b) k ns p typed few = numbers-send c h b kind.Char k ns p (λ is. cc) typed few
mach_array c h (row_of kind.I16 b) k ns p typed few = numbers-send c h b kind.I16 k ns p (λ is. cc) typed few
mach_array c h (row_of kind.U16 b) k ns p typed few = numbers-send c h b kind.U16 k ns p (λ is. cc) typed few
mach_array c h (row_of kind.I32 b) k ns p typed few = numbers-send c h b kind.I32 k ns p (λ is. refl) typed few
mach_array c h (row_of kind.U32 b) k ns p typed few = numbers-send c h b kind.U32 k ns p (λ is. refl) typed few
mach_array c h (row_of kind.I64 b) k ns p typed few = numbers-send c h b kind.I64 k ns p (λ is. refl) typed few
mach_array c h (row_of kind.U64 b) k ns p typed few = numbers-send c h b kind.U64 k ns p (λ is. refl) typed few
mach_array c h (row_of kind.Bool b) k ns p typed few = numbers-send c h b kind.Bool k ns p (λ is. refl) typed few
