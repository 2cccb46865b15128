-- What the leaves of CDR append: numbers after their alignment, texts that end, rows.
use Rattle.std.proofs.Common.{◌≡◌, ℕ, zero, suc, ◌+◌, ◌*◌, ◌%◌, ◌<◌, ℤ, pos, negsuc, List, [], ◌∷◌, ◌++◌, length, map, replicate, Some, refl, sym, ap, subst, ◌∙◌, arith, append_assoc, length-append, IsTrue}
use Rattle.std.specs.Prelude.{nat_lt}
use Rattle.std.specs.List.{list_all}
use Rattle.std.specs.Int.{Width, byte_len}
use Rattle.std.proofs.lemmas.Bool.{ltb-true, lt-ltb}
use Rattle.std.proofs.lemmas.List.{append-nil, length-replicate}
use Rattle.mint.specs.declared.kind.Kind.{Kind}
use Rattle.mint.specs.declared.kind.Kind.TheVariants as kind
use Rattle.mint.specs.declared.kind.Count.{Count}
use Rattle.mint.specs.declared.kind.Count.TheVariants.{Exactly, AtMost, Any}
use Rattle.mint.specs.Kinds.{Allows, in_range}
use Rattle.mint.specs.Types.{Scalar, number, text, row_of}
use Rattle.mint.specs.Typed.{IsScalar}
use Rattle.mint.specs.Values.{Val, num, row, vals_of}
use Rattle.wire_def.specs.declared.encoding.Encoding.{Encoding}
use Rattle.wire_def.specs.declared.encoding.Encoding.TheVariants.{CdrBig, CdrLittle}
use Rattle.wire_def.specs.declared.head.Head.{Head}
use Rattle.wire_def.specs.Scalars.{gap, scalar_octets, number_octets, residue, own_width, width_of, alignment_of}
use Rattle.wire_def.specs.Lone.{lone_octets}
use Rattle.wire_def.specs.Arrays.{natural, counted, ended_octets, count_octets, head_octets, element_octets, elements_octets, array_octets}
use Rattle.wire_def.proofs.Words.{IsOwn, is8, is16, is32, is64, own_of, wide}
use Rattle.wire_def.proofs.Short.{scalar_long}
use Rattle.cast_stub.specs.declared.put.Put.{Put}
use Rattle.cast_stub.specs.declared.put.Put.TheVariants as put
use Rattle.cast_stub.specs.Puts.{put_octets, offset, word}
use Rattle.cast_stub.specs.Block.{Block, stop, align, chunk, each}
use Rattle.cast_stub.specs.Append.{append}
use Rattle.cast_stub.specs.Steps.{Steps, Calls, steps, over, chunk_steps, align_steps}
use Rattle.cast_stub.proofs.Appending.{steps-append}
use Rattle.wire_def.specs.Places.{IsPlace}
use Rattle.stub_lower.specs.Items.{number_at}
use Rattle.stub_lower.specs.Codes.{aligned, scalar_code, length_put, ended_code, number_put, number_chunk, gapped_turn, count_code, row_code, end_code}
use Rattle.cast_stub.specs.Layouts.{order_of, scalar_width, element_width, is_free, is_gapped}
use Rattle.stub_lower.proofs.Writing.{Writes, both-writes, none-writes, writes_same, writes_stop, put-writes}
use Rattle.stub_lower.proofs.Encoded.{ScalarsSend, ArraysSend, count-sends, first_true, second_true, letters_are_octets, over-writes}
use Rattle.stub_lower.proofs.Words.{width_same, scalar_word, word-octet}

-- ---- alignment

align-writes : (a p : ℕ) → align_steps a ≡ Some (Rattle.cast_stub.specs.Steps.Pad a ∷ []) → Writes (align_steps a) p (replicate (gap p a) 0)
align-writes a p is base front at =
    rw is (ap (λ (x : ℕ). Some (front ++ replicate (gap x a) 0)) at)

-- code at a multiple of a width, whatever it is
aligned-writes : (w : Width) → IsOwn w → (c : Calls) (h : Head) (b : Block) (v : Val) (p : ℕ) (o : List ℕ)
    → Writes (steps c h b v) (p + length (replicate {A = ℕ} (gap p (byte_len w)) 0)) o
    → Writes (steps c h (aligned (byte_len w) b) v) p (replicate (gap p (byte_len w)) 0 ++ o)
aligned-writes _ is8 c h b v p o m =
    let none : gap p 1 ≡ 0 = omega arith in
    let here : p + 0 ≡ p = omega arith in
    rw none (rw (none, here) at m)
aligned-writes _ is16 c h b v p o m = both-writes (align_steps 2) (steps c h b v) p (replicate (gap p 2) 0) o (align-writes 2 p refl) m
aligned-writes _ is32 c h b v p o m = both-writes (align_steps 4) (steps c h b v) p (replicate (gap p 4) 0) o (align-writes 4 p refl) m
aligned-writes _ is64 c h b v p o m = both-writes (align_steps 8) (steps c h b v) p (replicate (gap p 8) 0) o (align-writes 8 p refl) m

aligned-stop : (w : Width) → IsOwn w → (c : Calls) (h : Head) (v : Val) (p : ℕ)
    → Writes (steps c h (aligned (byte_len w) stop) v) p (replicate (gap p (byte_len w)) 0)
aligned-stop w own c h v p =
    writes_same (steps c h (aligned (byte_len w) stop) v) p (replicate (gap p (byte_len w)) 0 ++ []) (replicate (gap p (byte_len w)) 0)
    (append-nil (replicate (gap p (byte_len w)) 0))
    (aligned-writes w own c h stop v p [] (none-writes (p + length (replicate {A = ℕ} (gap p (byte_len w)) 0))))

pub no_gap_after : (w : Width) → IsOwn w → (p : ℕ) → gap (p + gap p (byte_len w)) (byte_len w) ≡ 0
no_gap_after _ is8 p = omega arith
no_gap_after _ is16 p = omega arith
no_gap_after _ is32 p = omega arith
no_gap_after _ is64 p = omega arith

pub still_none : (w : Width) → IsOwn w → (p : ℕ) → gap p (byte_len w) ≡ 0 → gap (p + byte_len w) (byte_len w) ≡ 0
still_none _ is8 p h = omega arith
still_none _ is16 p h = omega (arith, h)
still_none _ is32 p h = omega (arith, h)
still_none _ is64 p h = omega (arith, h)

-- behind a count, which is a word, numbers of at most 32 bits have no gap
pub one_fits : (q : ℕ) → q % 4 ≡ 0 → gap q 1 ≡ 0
one_fits q h = omega arith

pub two_fit : (q : ℕ) → q % 4 ≡ 0 → gap q 2 ≡ 0
two_fit q h = omega (arith, h)

pub four_fit : (q : ℕ) → q % 4 ≡ 0 → gap q 4 ≡ 0
four_fit q h = omega (arith, h)

-- ---- an encoding whose numbers are aligned to their widths

module _ (e : Encoding) (aligns : (s : Scalar) → alignment_of e s ≡ byte_len (width_of e s)) (any : (n : ℕ) → IsPlace e n)
    (code : (s : Scalar) (x : Put) → scalar_code e s x ≡ aligned (scalar_width e s) (chunk (scalar_width e s) (x ∷ []) stop))
    (lone : (s : Scalar) (p : ℕ) (n : ℤ) → lone_octets e s p n ≡ scalar_octets e s p n) (off : number_at e ≡ 0) where
  -- the octets of a scalar where it begins
  abbrev bare : Scalar → ℤ → List ℕ
  bare s n = number_octets e (width_of e s) (residue (width_of e s) n)

  bare_long : (s : Scalar) (n : ℤ) → length (bare s n) ≡ byte_len (width_of e s)
  bare_long s n = (wide e s).len (residue (width_of e s) n)

  in_octets : (s : Scalar) (p : ℕ) (n : ℤ) → scalar_octets e s p n ≡ replicate (gap p (byte_len (width_of e s))) 0 ++ bare s n
  unfolding scalar_octets
  in_octets s p n = ap (λ (a : ℕ). replicate (gap p a) 0 ++ bare s n) (aligns s)

  bare-writes : (c : Calls) (h : Head) (s : Scalar) (n : ℤ) (x : Put) (v : Val) (p : ℕ) → IsScalar s n → offset x ≡ 0
      → put_octets h x v ≡ word (scalar_width e s) (order_of e) n
      → Writes (steps c h (chunk (scalar_width e s) (x ∷ []) stop) v) p (bare s n)
  bare-writes c h s n x v p typed first is =
      writes_stop (chunk_steps (scalar_width e s) (x ∷ []) h v) p (bare s n)
      (put-writes (scalar_width e s) x h v (bare s n) p first (is ∙ scalar_word e s n typed) (bare_long s n ∙ sym (width_same e s)))

  scalar-writes : (c : Calls) (h : Head) (s : Scalar) (n : ℤ) (x : Put) (v : Val) (p : ℕ) → IsScalar s n → offset x ≡ 0
      → put_octets h x v ≡ word (scalar_width e s) (order_of e) n
      → Writes (steps c h (aligned (scalar_width e s) (chunk (scalar_width e s) (x ∷ []) stop)) v) p (scalar_octets e s p n)
  scalar-writes c h s n x v p typed first is =
      let q : ℕ = p + length (replicate {A = ℕ} (gap p (byte_len (width_of e s))) 0) in
      let inside = bare-writes c h s n x v q typed first is in
      let whole = aligned-writes (width_of e s) (own_of e s) c h (chunk (scalar_width e s) (x ∷ []) stop) v p (bare s n) inside in
      rw in_octets (subst (λ (w : ℕ). Writes (steps c h (aligned w (chunk (scalar_width e s) (x ∷ []) stop)) v) p
      (replicate (gap p (byte_len (width_of e s))) 0 ++ bare s n)) (sym (width_same e s)) whole)

  pub scalars-send : ScalarsSend e
  scalars-send c h s n x v p typed first is place =
      (any (length (lone_octets e s p n)), rw (code s x, lone s p n) (scalar-writes c h s n x v p typed (first ∙ off) is))

  -- ---- texts

  ended_code-writes : (c : Calls) (h : Head) (k : Kind) (ns : List ℤ) (p : ℕ) → length ns < 268435456
      → Writes (steps c h (ended_code e) (row k ns)) p (ended_octets e p (length ns))
  ended_code-writes c h k ns p few =
      let one : length ns * 1 + 1 ≡ suc (length ns) = omega arith in
      let fits : IsScalar counted (pos (suc (length ns))) = lt-ltb (suc (length ns)) 4294967296 (omega arith) in
      let x = length_put e 1 in
      rw (code counted x) (scalar-writes c h counted (pos (suc (length ns))) x (row k ns) p fits off
      (ap (λ (m : ℕ). word (scalar_width e counted) (order_of e) (pos m)) one))

  abbrev octet_one : ℕ → ℤ → List ℕ
  octet_one p n = natural n ∷ []

  octet-writes : (c : Calls) (h : Head) (n : ℤ) (q : ℕ) → IsTrue (in_range kind.Octet n)
      → Writes (steps c h (number_chunk e 1) (num n)) q (octet_one q n)
  octet-writes c h (pos n) q typed = writes_stop (chunk_steps 1 (number_put e 1 ∷ []) h (num (pos n))) q (n ∷ [])
      (put-writes 1 (number_put e 1) h (num (pos n)) (n ∷ []) q refl (word-octet (order_of e) n (ltb-true n 256 typed)) refl)
  octet-writes c h (negsuc n) q typed = absurd (none n typed) where
    none : (m : ℕ) → IsTrue (nat_lt m 0) → ⊥
    none m t = omega (arith, ltb-true m 0 t)

  end-writes : (c : Calls) (h : Head) (v : Val) (p : ℕ) → Writes (steps c h end_code v) p (0 ∷ [])
  end-writes c h v p = writes_stop (chunk_steps 1 (put.Const 0 (0 ∷ []) ∷ []) h v) p (0 ∷ [])
      (put-writes 1 (put.Const 0 (0 ∷ [])) h v (0 ∷ []) p refl refl refl)

  pub text-writes : (c : Calls) (h : Head) (k : Kind) (ns : List ℤ) (p : ℕ) → IsTrue (list_all (in_range kind.Octet) ns)
      → length ns < 268435456
      → Writes (steps c h (append (ended_code e) (each [] (number_chunk e 1) end_code)) (row k ns)) p
      (ended_octets e p (length ns) ++ (elements_octets octet_one (p + length (ended_octets e p (length ns))) ns ++ (0 ∷ [])))
  text-writes c h k ns p all few =
      let head : List ℕ = ended_octets e p (length ns) in
      let q : ℕ = p + length head in
      let els : List ℕ = elements_octets octet_one q ns in
      rw steps-append (both-writes (steps c h (ended_code e) (row k ns)) (steps c h (each [] (number_chunk e 1) end_code) (row k ns)) p head
      (els ++ (0 ∷ []))
      (ended_code-writes c h k ns p few)
      (both-writes (over (steps c h (number_chunk e 1)) (vals_of (map num ns))) (steps c h end_code (row k ns)) q els (0 ∷ [])
      (over-writes octet_one (steps c h (number_chunk e 1)) (in_range kind.Octet) ns q all (octet-writes c h))
      (end-writes c h (row k ns) (q + length els))))

  -- ---- rows

  -- numbers one after the other from where there is no gap
  bare-run : (c : Calls) (h : Head) (k : Kind) (ns : List ℤ) (p : ℕ) → gap p (byte_len (width_of e (number k))) ≡ 0
      → IsTrue (list_all (in_range k) ns)
      → Writes (over (steps c h (number_chunk e (scalar_width e (number k)))) (vals_of (map num ns))) p
      (elements_octets (scalar_octets e (number k)) p ns)
  unfolding elements_octets
  bare-run c h k [] p none all = none-writes p
  bare-run c h k (n ∷ ns) p none all =
      let here : scalar_octets e (number k) p n ≡ bare (number k) n =
      in_octets (number k) p n ∙ ap (λ (g : ℕ). replicate g 0 ++ bare (number k) n) none in
      let long : length (bare (number k) n) ≡ byte_len (width_of e (number k)) = bare_long (number k) n in
      let next : gap (p + length (scalar_octets e (number k) p n)) (byte_len (width_of e (number k))) ≡ 0 =
      rw (here, long) (still_none (width_of e (number k)) (own_of e (number k)) p none) in
      both-writes (steps c h (number_chunk e (scalar_width e (number k))) (num n))
      (over (steps c h (number_chunk e (scalar_width e (number k)))) (vals_of (map num ns))) p (scalar_octets e (number k) p n)
      (elements_octets (scalar_octets e (number k)) (p + length (scalar_octets e (number k) p n)) ns)
      (rw here (bare-writes c h (number k) n (number_put e (scalar_width e (number k))) (num n) p
      (first_true (in_range k n) (list_all (in_range k) ns) all) refl refl))
      (bare-run c h k ns (p + length (scalar_octets e (number k) p n)) next (second_true (in_range k n) (list_all (in_range k) ns) all))

  -- numbers each after its alignment
  aligned-run : (c : Calls) (h : Head) (k : Kind) (ns : List ℤ) (p : ℕ) → IsTrue (list_all (in_range k) ns)
      → Writes (over (steps c h (aligned (scalar_width e (number k)) (number_chunk e (scalar_width e (number k))))) (vals_of (map num ns)))
      p (elements_octets (scalar_octets e (number k)) p ns)
  aligned-run c h k ns p all =
      over-writes (scalar_octets e (number k))
      (steps c h (aligned (scalar_width e (number k)) (number_chunk e (scalar_width e (number k))))) (in_range k) ns p all
      (λ n q typed. scalar-writes c h (number k) n (number_put e (scalar_width e (number k))) (num n) q typed refl refl)

  -- the gap of the first element by itself
  first_apart : (k : Kind) (n : ℤ) (ns : List ℤ) (p : ℕ)
      → elements_octets (scalar_octets e (number k)) p (n ∷ ns)
      ≡ replicate (gap p (byte_len (width_of e (number k)))) 0
      ++ elements_octets (scalar_octets e (number k)) (p + length (replicate {A = ℕ} (gap p (byte_len (width_of e (number k)))) 0)) (n ∷ ns)
  unfolding elements_octets
  first_apart k n ns p =
      let w : ℕ = byte_len (width_of e (number k)) in
      let zeros : List ℕ = replicate (gap p w) 0 in
      let many : length zeros ≡ gap p w = length-replicate {A = ℕ} (gap p w) 0 in
      let q : ℕ = p + length zeros in
      let none : gap q w ≡ 0 = rw many (no_gap_after (width_of e (number k)) (own_of e (number k)) p) in
      let one : scalar_octets e (number k) p n ≡ zeros ++ bare (number k) n = in_octets (number k) p n in
      let two : scalar_octets e (number k) q n ≡ bare (number k) n =
      in_octets (number k) q n ∙ ap (λ (g : ℕ). replicate g 0 ++ bare (number k) n) none in
      let past : p + length (zeros ++ bare (number k) n) ≡ q + length (bare (number k) n) =
      omega (arith, length-append zeros (bare (number k) n)) in
      rw (one, two, past)
      (append_assoc zeros (bare (number k) n) (elements_octets (scalar_octets e (number k)) (q + length (bare (number k) n)) ns))

  abbrev loop : Calls → Head → Block → List ℤ → Steps
  loop c h b ns = over (steps c h b) (vals_of (map num ns))

  -- after code that is there, a loop and nothing more
  pub looped : (c : Calls) (h : Head) (a b : Block) (k : Kind) (ns : List ℤ) (p : ℕ) (head els : List ℕ)
      → Writes (steps c h a (row k ns)) p head → Writes (loop c h b ns) (p + length head) els
      → Writes (steps c h (append a (each [] b stop)) (row k ns)) p (head ++ (els ++ []))
  looped c h a b k ns p head els first after =
      rw (steps-append, append-nil) (both-writes (steps c h a (row k ns)) (steps c h (each [] b stop) (row k ns)) p head els first
      (writes_stop (loop c h b ns) (p + length head) els after))

  -- a row of a fixed length
  fixed-row : (c : Calls) (h : Head) (j k : Kind) (m : ℕ) (ns : List ℤ) (p : ℕ) → length ns ≡ m → IsTrue (list_all (in_range k) ns)
      → Writes
      (steps c h (append (row_code e (scalar_width e (number k)) (Exactly m)) (each [] (number_chunk e (scalar_width e (number k))) stop))
      (row j ns)) p ([] ++ (elements_octets (scalar_octets e (number k)) (p + 0) ns ++ []))
  unfolding elements_octets
  fixed-row c h j k zero [] p long all = none-writes p
  fixed-row c h j k zero (n ∷ ns) p long all = absurd cc
  fixed-row c h j k (suc m) [] p long all = absurd cc
  fixed-row c h j k (suc m) (n ∷ ns) p long all =
      let w = width_of e (number k) in
      let zeros : List ℕ = replicate (gap p (byte_len w)) 0 in
      let q : ℕ = p + length zeros in
      let many : length zeros ≡ gap p (byte_len w) = length-replicate {A = ℕ} (gap p (byte_len w)) 0 in
      let none : gap q (byte_len w) ≡ 0 = rw many (no_gap_after w (own_of e (number k)) p) in
      let head : Writes (steps c h (aligned (scalar_width e (number k)) stop) (row j (n ∷ ns))) p zeros =
      rw (width_same e (number k)) (aligned-stop w (own_of e (number k)) c h (row j (n ∷ ns)) p) in
      let whole = looped c h (aligned (scalar_width e (number k)) stop) (number_chunk e (scalar_width e (number k))) j (n ∷ ns) p zeros
      (elements_octets (scalar_octets e (number k)) q (n ∷ ns)) head (bare-run c h k (n ∷ ns) q none all) in
      let here : p + 0 ≡ p = omega arith in
      let same : zeros ++ (elements_octets (scalar_octets e (number k)) q (n ∷ ns) ++ [])
      ≡ elements_octets (scalar_octets e (number k)) (p + 0) (n ∷ ns) ++ [] =
      sym (append_assoc zeros (elements_octets (scalar_octets e (number k)) q (n ∷ ns)) []) ∙ ap (λ (z : List ℕ). z ++ [])
      (sym (first_apart k n ns p) ∙ ap (λ (z : ℕ). elements_octets (scalar_octets e (number k)) z (n ∷ ns)) (sym here)) in
      writes_same (steps c h (append (aligned (scalar_width e (number k)) stop) (each [] (number_chunk e (scalar_width e (number k))) stop))
      (row j (n ∷ ns))) p _ _ same whole

  -- a row after its count, whose numbers need no alignment there
  free-row : (four : byte_len (width_of e counted) ≡ 4) (c : Calls) (h : Head) (b : Count) (j k : Kind) (ns : List ℤ) (p : ℕ)
      → Allows b (length ns) → ((q : ℕ) → q % 4 ≡ 0 → gap q (byte_len (width_of e (number k))) ≡ 0)
      → (count_octets e b p (length ns) ≡ scalar_octets e counted p (pos (length ns))) → IsPlace e p → IsTrue (list_all (in_range k) ns)
      → Writes (steps c h (append (count_code e b) (each [] (number_chunk e (scalar_width e (number k))) stop)) (row j ns)) p
      (count_octets e b p (length ns)
      ++ (elements_octets (scalar_octets e (number k)) (p + length (count_octets e b p (length ns))) ns ++ []))
  free-row four c h b j k ns p ok small sent place all =
      let head : List ℕ = count_octets e b p (length ns) in
      let long : length head ≡ gap p 4 + 4 = rw sent (scalar_long e counted p (pos (length ns))
      ∙ word_gap p (alignment_of e counted) (byte_len (width_of e counted)) (aligns counted ∙ four) four) in
      let none = small (p + length head) (rw long (after_word p)) in
      looped c h (count_code e b) (number_chunk e (scalar_width e (number k))) j ns p head
      (elements_octets (scalar_octets e (number k)) (p + length head) ns)
      ((count-sends e scalars-send c h b (row j ns) (length ns) p refl ok place).1) (bare-run c h k ns (p + length head) none all)
    where
      word_gap : (q a w : ℕ) → a ≡ 4 → w ≡ 4 → gap q a + w ≡ gap q 4 + 4
      word_gap q a w one two = rw (one, two) refl

      after_word : (q : ℕ) → (q + (gap q 4 + 4)) % 4 ≡ 0
      after_word q = omega arith

  -- a row after its count, each number after its alignment
  gapped-row : (c : Calls) (h : Head) (b : Count) (j k : Kind) (ns : List ℤ) (p : ℕ) → Allows b (length ns) → IsPlace e p
      → IsTrue (list_all (in_range k) ns)
      → Writes
      (steps c h (append (count_code e b) (each [] (aligned (scalar_width e (number k)) (number_chunk e (scalar_width e (number k)))) stop))
      (row j ns)) p (count_octets e b p (length ns)
      ++ (elements_octets (scalar_octets e (number k)) (p + length (count_octets e b p (length ns))) ns ++ []))
  gapped-row c h b j k ns p ok place all =
      let head : List ℕ = count_octets e b p (length ns) in
      looped c h (count_code e b) (aligned (scalar_width e (number k)) (number_chunk e (scalar_width e (number k)))) j ns p head
      (elements_octets (scalar_octets e (number k)) (p + length head) ns)
      ((count-sends e scalars-send c h b (row j ns) (length ns) p refl ok place).1) (aligned-run c h k ns (p + length head) all)

  -- a row behind its head, in the octets of its count and its numbers
  abbrev Row : Calls → Head → Count → Block → (ℕ → ℤ → List ℕ) → Kind → List ℤ → ℕ → Type 0
  Row c h b code one j ns p =
      Writes (steps c h code (row j ns)) p
      (count_octets e b p (length ns) ++ (elements_octets one (p + length (count_octets e b p (length ns))) ns ++ []))

  -- a row of octets
  octet-row : (c : Calls) (h : Head) (b : Count) (j : Kind) (ns : List ℤ) (p : ℕ) → Allows b (length ns)
      → IsTrue (list_all (in_range kind.Octet) ns)
      → Row c h b (append (row_code e 1 b) (each [] (number_chunk e 1) stop)) octet_one j ns p
  unfolding count_octets
  octet-row c h b j ns p ok all =
      looped c h (row_code e 1 b) (number_chunk e 1) j ns p (count_octets e b p (length ns))
      (elements_octets octet_one (p + length (count_octets e b p (length ns))) ns) (head b ok)
      (over-writes octet_one (steps c h (number_chunk e 1)) (in_range kind.Octet) ns (p + length (count_octets e b p (length ns))) all
      (octet-writes c h))
    where
      head : (b : Count) → Allows b (length ns) → Writes (steps c h (row_code e 1 b) (row j ns)) p (count_octets e b p (length ns))
      head (Exactly zero) ok = none-writes p
      head (Exactly (suc m)) ok = none-writes p
      head (AtMost m) ok = (count-sends e scalars-send c h (AtMost m) (row j ns) (length ns) p refl ok (any p)).1
      head Any ok = (count-sends e scalars-send c h Any (row j ns) (length ns) p refl ok (any p)).1

  module _ (own : (k : Kind) → width_of e (number k) ≡ own_width (number k)) where
    -- a row of numbers of at most 32 bits
    small-row : (k : Kind) → ((q : ℕ) → q % 4 ≡ 0 → gap q (byte_len (own_width (number k))) ≡ 0) → (c : Calls) (h : Head) (b : Count)
        (j : Kind) (ns : List ℤ) (p : ℕ) → Allows b (length ns) → IsTrue (list_all (in_range k) ns)
        → Row c h b (append (row_code e (scalar_width e (number k)) b) (each [] (number_chunk e (scalar_width e (number k))) stop))
        (scalar_octets e (number k)) j ns p
    unfolding count_octets
    small-row k small c h b j ns p ok all = cases b ok where
      free : (q : ℕ) → q % 4 ≡ 0 → gap q (byte_len (width_of e (number k))) ≡ 0
      free = subst (λ (w : Width). (q : ℕ) → q % 4 ≡ 0 → gap q (byte_len w) ≡ 0) (sym (own k)) small

      cases : (b : Count) → Allows b (length ns)
          → Row c h b (append (row_code e (scalar_width e (number k)) b) (each [] (number_chunk e (scalar_width e (number k))) stop))
          (scalar_octets e (number k)) j ns p
      cases (Exactly m) ok = fixed-row c h j k m ns p ok all
      cases (AtMost m) ok =
          free-row (ap byte_len (own kind.U32)) c h (AtMost m) j k ns p ok free (lone counted p (pos (length ns))) (any p) all
      cases Any ok = free-row (ap byte_len (own kind.U32)) c h Any j k ns p ok free (lone counted p (pos (length ns))) (any p) all

    -- one of numbers of 64 bits
    wide-row : (k : Kind) → byte_len (own_width (number k)) ≡ 8 → (c : Calls) (h : Head) (b : Count) (j : Kind) (ns : List ℤ) (p : ℕ)
        → Allows b (length ns) → IsTrue (list_all (in_range k) ns)
        → Row c h b (append (row_code e (scalar_width e (number k)) b)
        (each [] (gapped_turn e (scalar_width e (number k)) (is_free b)) stop))
        (scalar_octets e (number k)) j ns p
    unfolding count_octets
    wide-row k wide c h b j ns p ok all = cases b ok where
      by_eight : aligned (scalar_width e (number k)) (number_chunk e (scalar_width e (number k)))
          ≡ align 8 (number_chunk e (scalar_width e (number k)))
      by_eight = ap (λ (w : ℕ). aligned w (number_chunk e (scalar_width e (number k)))) (ap byte_len (own k) ∙ wide)

      gapped : (b : Count) → Allows b (length ns)
          → Row c h b (append (count_code e b) (each [] (align 8 (number_chunk e (scalar_width e (number k)))) stop))
          (scalar_octets e (number k)) j ns p
      gapped b ok =
          subst (λ (x : Block). Row c h b (append (count_code e b) (each [] x stop)) (scalar_octets e (number k)) j ns p) by_eight
          (gapped-row c h b j k ns p ok (any p) all)

      cases : (b : Count) → Allows b (length ns)
          → Row c h b (append (row_code e (scalar_width e (number k)) b) (each [] (gapped_turn e (scalar_width e (number k)) (is_free b))
          stop)) (scalar_octets e (number k)) j ns p
      cases (Exactly m) ok = fixed-row c h j k m ns p ok all
      cases (AtMost m) ok = gapped (AtMost m) ok
      cases Any ok = gapped Any ok

    pub cdr-row : (m : Kind) (c : Calls) (h : Head) (b : Count) (j : Kind) (ns : List ℤ) (p : ℕ) → Allows b (length ns)
        → IsTrue (list_all (in_range m) ns)
        → Row c h b (append (row_code e (element_width e (row_of m b)) b)
        (each [] (gapped_turn e (element_width e (row_of m b)) (is_gapped (row_of m b))) stop)) (element_octets e (row_of m b)) j ns p
    unfolding element_octets
    cdr-row kind.Octet = octet-row
    cdr-row kind.I8 = small-row kind.I8 one_fits
    cdr-row kind.U8 = small-row kind.U8 one_fits
    cdr-row kind.Char = small-row kind.Char one_fits
    cdr-row kind.Bool = small-row kind.Bool one_fits
    cdr-row kind.I16 = small-row kind.I16 two_fit
    cdr-row kind.U16 = small-row kind.U16 two_fit
    cdr-row kind.I32 = small-row kind.I32 four_fit
    cdr-row kind.U32 = small-row kind.U32 four_fit
    cdr-row kind.I64 = wide-row kind.I64 refl
    cdr-row kind.U64 = wide-row kind.U64 refl

pub big_scalar : ScalarsSend CdrBig
big_scalar = scalars-send CdrBig (λ s. refl) (λ n. tt) (λ s x. refl) (λ s p n. refl) refl

pub big_array : ArraysSend CdrBig
unfolding array_octets head_octets element_octets
big_array c h (text b) k ns p typed few place =
    (tt, text-writes CdrBig (λ s. refl) (λ n. tt) (λ s x. refl) (λ s p n. refl) refl c h k ns p (letters_are_octets ns typed.2) few)
big_array c h (row_of m b) k ns p typed few place =
    (tt, cdr-row CdrBig (λ s. refl) (λ n. tt) (λ s x. refl) (λ s p n. refl) refl (λ m. refl) m c h b k ns p typed.1 typed.2)

pub little_scalar : ScalarsSend CdrLittle
little_scalar = scalars-send CdrLittle (λ s. refl) (λ n. tt) (λ s x. refl) (λ s p n. refl) refl

pub little_array : ArraysSend CdrLittle
unfolding array_octets head_octets element_octets
little_array c h (text b) k ns p typed few place =
    (tt, text-writes CdrLittle (λ s. refl) (λ n. tt) (λ s x. refl) (λ s p n. refl) refl c h k ns p (letters_are_octets ns typed.2) few)
little_array c h (row_of m b) k ns p typed few place =
    (tt, cdr-row CdrLittle (λ s. refl) (λ n. tt) (λ s x. refl) (λ s p n. refl) refl (λ m. refl) m c h b k ns p typed.1 typed.2)
