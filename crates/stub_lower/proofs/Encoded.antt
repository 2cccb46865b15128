-- What an encoding's leaves append: a scalar, a count, an array.
use Rattle.std.proofs.Common.{◌≡◌, ℕ, zero, suc, ◌+◌, ◌*◌, ◌%◌, ◌<◌, ℤ, pos, negsuc, List, [], ◌∷◌, ◌++◌, length, map, replicate, Option, Some, refl, sym, ap, subst, ◌∙◌, arith, length-append, IsTrue, Bool, true, false, ◌&&◌, not}
use Rattle.std.specs.Prelude.{nat_lt}
use Rattle.std.specs.List.{list_all}
use Rattle.std.specs.Ordering.{int_eq}
use Rattle.std.proofs.lemmas.Bool.{ltb-true, lt-ltb}
use Rattle.mint.specs.declared.kind.Kind.{Kind}
use Rattle.mint.specs.declared.kind.Kind.TheVariants as kind
use Rattle.mint.specs.declared.kind.Count.{Count}
use Rattle.mint.specs.declared.kind.Count.TheVariants.{Exactly, AtMost, Any}
use Rattle.mint.specs.Kinds.{Allows, in_range, is_letter}
use Rattle.mint.specs.Types.{Scalar, number, Array, text, row_of}
use Rattle.mint.specs.Typed.{IsScalar, IsArray}
use Rattle.mint.specs.Values.{Val, num, row, vals_of}
use Rattle.wire_def.specs.declared.encoding.Encoding.{Encoding}
use Rattle.wire_def.specs.declared.encoding.Encoding.TheVariants.{Xdr}
use Rattle.wire_def.specs.declared.head.Head.{Head}
use Rattle.wire_def.specs.declared.head.Order.TheVariants.{Big}
use Rattle.wire_def.specs.Scalars.{gap, scalar_octets, number_octets, residue, width_of}
use Rattle.wire_def.specs.Lone.{lone_octets}
use Rattle.wire_def.specs.Arrays.{natural, counted, count_octets, head_octets, element_octets, elements_octets, array_octets}
use Rattle.cast_stub.specs.declared.put.Put.{Put}
use Rattle.cast_stub.specs.declared.put.Put.TheVariants as put
use Rattle.cast_stub.specs.Parts.{on_some, at, length_in}
use Rattle.cast_stub.specs.Puts.{put_octets, offset, word}
use Rattle.cast_stub.specs.Block.{Block, stop, align, chunk, each}
use Rattle.cast_stub.specs.Append.{append}
use Rattle.cast_stub.specs.Steps.{Steps, Calls, steps, over, chunk_steps}
use Rattle.cast_stub.proofs.Appending.{steps-append}
use Rattle.wire_def.specs.Places.{IsPlace}
use Rattle.stub_lower.specs.Items.{number_at}
use Rattle.stub_lower.specs.Codes.{scalar_code, length_put, count_code, array_code}
use Rattle.cast_stub.specs.Layouts.{order_of, scalar_width}
use Rattle.stub_lower.proofs.Writing.{place_sum, Writes, both-writes, none-writes, writes_same, writes_stop, Sends, both-sends, none-sends, sends_stop, put-writes}
use Rattle.stub_lower.proofs.Words.{scalar_word, word-octet}

-- what has to be known of an encoding, so that lowered code sends what it says: that a scalar whose put gives its number
abbrev pub ScalarsSend : Encoding → Type 0
ScalarsSend e = (c : Calls) (h : Head) (s : Scalar) (n : ℤ) (x : Put) (v : Val) (p : ℕ) → IsScalar s n → offset x ≡ number_at e
    → put_octets h x v ≡ word (scalar_width e s) (order_of e) n
    → Sends e (steps c h (scalar_code e s x) v) p (lone_octets e s p n)

-- and an array are sent
abbrev pub ArraysSend : Encoding → Type 0
ArraysSend e = (c : Calls) (h : Head) (a : Array) (k : Kind) (ns : List ℤ) (p : ℕ) → IsArray a k ns → length ns < 268435456
    → Sends e (steps c h (array_code e a) (row k ns)) p (array_octets e a p ns)

-- ---- a scalar over XDR

-- over XDR a scalar has no gap
xdr_octets : (s : Scalar) (p : ℕ) (n : ℤ) → scalar_octets Xdr s p n ≡ number_octets Xdr (width_of Xdr s) (residue (width_of Xdr s) n)
unfolding scalar_octets
xdr_octets s p n =
    let none : gap p 1 ≡ 0 = omega arith in
    rw none refl

pub first_true : (a b : Bool) → IsTrue (a && b) → IsTrue a
first_true true b e = refl
first_true false b e = e

pub second_true : (a b : Bool) → IsTrue (a && b) → IsTrue b
second_true true b e = e
second_true false b e = absurd cc

scalar_long : (s : Scalar) (m : ℕ) → length (number_octets Xdr (width_of Xdr s) m) ≡ scalar_width Xdr s
scalar_long (number kind.Octet) m = refl
scalar_long _ m = refl

scalar_placed : (s : Scalar) → IsPlace Xdr (scalar_width Xdr s)
scalar_placed (number kind.Octet) = refl
scalar_placed _ = refl

-- one chunk, filled by the number
chunk-sends : (h : Head) (s : Scalar) (n : ℤ) (x : Put) (v : Val) (p : ℕ) → IsScalar s n → offset x ≡ 0
    → put_octets h x v ≡ word (scalar_width Xdr s) Big n
    → Sends Xdr (chunk_steps (scalar_width Xdr s) (x ∷ []) h v) p (scalar_octets Xdr s p n)
chunk-sends h s n x v p typed first is ok =
    let os : List ℕ = number_octets Xdr (width_of Xdr s) (residue (width_of Xdr s) n) in
    let long : length os ≡ scalar_width Xdr s = scalar_long s (residue (width_of Xdr s) n) in
    let same : os ≡ scalar_octets Xdr s p n = sym (xdr_octets s p n) in (
      subst (λ (o : List ℕ). IsPlace Xdr (length o)) same (subst (IsPlace Xdr) (sym long) (scalar_placed s)),
      writes_same (chunk_steps (scalar_width Xdr s) (x ∷ []) h v) p os (scalar_octets Xdr s p n) same
          (put-writes (scalar_width Xdr s) x h v os p first (is ∙ scalar_word Xdr s n typed) long),
    )

pub xdr_scalar : ScalarsSend Xdr
xdr_scalar c h s n x v p typed first is =
    sends_stop Xdr (chunk_steps (scalar_width Xdr s) (x ∷ []) h v) p (scalar_octets Xdr s p n) (chunk-sends h s n x v p typed first is)

-- ---- a count

pub below_full : (m : ℕ) → m < 4294967296 → IsScalar counted (pos m)
below_full m lt = lt-ltb m 4294967296 lt

pub counted-sends : (e : Encoding) → ScalarsSend e → (c : Calls) (h : Head) (v : Val) (n p : ℕ) → length_in v ≡ Some n → n < 4294967296
    → Sends e (steps c h (scalar_code e counted (length_put e 0)) v) p (lone_octets e counted p (pos n))
counted-sends e scalar c h v n p is lt =
    let one : n * 1 + 0 ≡ n = omega arith in
    scalar c h counted (pos n) (length_put e 0) v p (below_full n lt) refl
    (ap (λ (o : Option ℕ). on_some o (λ m. word (scalar_width e counted) (order_of e) (pos (m * 1 + 0)))) is
    ∙ ap (λ (m : ℕ). word (scalar_width e counted) (order_of e) (pos m)) one)

-- the octets of a count, where it is sent
pub count-sends : (e : Encoding) → ScalarsSend e → (c : Calls) (h : Head) (b : Count) (v : Val) (n p : ℕ) → length_in v ≡ Some n
    → Allows b n
    → Sends e (steps c h (count_code e b) v) p (count_octets e b p n)
unfolding count_octets
count-sends e scalar c h (Exactly m) v n p is ok = none-sends e p
count-sends e scalar c h (AtMost m) v n p is ok = counted-sends e scalar c h v n p is ok.1
count-sends e scalar c h Any v n p is ok = counted-sends e scalar c h v n p is ok

-- ---- the numbers of an array, one after the other

pub over-writes : (one : ℕ → ℤ → List ℕ) (f : Val → Steps) (test : ℤ → Bool) (ns : List ℤ) (p : ℕ) → IsTrue (list_all test ns)
    → ((n : ℤ) (q : ℕ) → IsTrue (test n) → Writes (f (num n)) q (one q n))
    → Writes (over f (vals_of (map num ns))) p (elements_octets one p ns)
unfolding elements_octets
over-writes one f test [] p all each_one = none-writes p
over-writes one f test (n ∷ ns) p all each_one =
    both-writes (f (num n)) (over f (vals_of (map num ns))) p (one p n) (elements_octets one (p + length (one p n)) ns)
    (each_one n p (first_true (test n) (list_all test ns) all))
    (over-writes one f test ns (p + length (one p n)) (second_true (test n) (list_all test ns) all) each_one)

over-sends : (e : Encoding) (one : ℕ → ℤ → List ℕ) (f : Val → Steps) (test : ℤ → Bool) (ns : List ℤ) (p : ℕ) → IsTrue (list_all test ns)
    → ((n : ℤ) (q : ℕ) → IsTrue (test n) → Sends e (f (num n)) q (one q n))
    → Sends e (over f (vals_of (map num ns))) p (elements_octets one p ns)
unfolding elements_octets
over-sends e one f test [] p all each_one = none-sends e p
over-sends e one f test (n ∷ ns) p all each_one =
    both-sends e (f (num n)) (over f (vals_of (map num ns))) p (one p n) (elements_octets one (p + length (one p n)) ns)
    (each_one n p (first_true (test n) (list_all test ns) all))
    (over-sends e one f test ns (p + length (one p n)) (second_true (test n) (list_all test ns) all) each_one)

-- ---- octets over XDR

abbrev octet_one : ℕ → ℤ → List ℕ
octet_one p n = natural n ∷ []

abbrev octet_turn : Block
octet_turn = chunk 1 (put.Num 0 [] 1 Big ∷ []) stop

octet-writes : (c : Calls) (h : Head) (n : ℤ) (q : ℕ) → IsTrue (in_range kind.Octet n)
    → Writes (steps c h octet_turn (num n)) q (octet_one q n)
octet-writes c h (pos n) q typed = writes_stop (chunk_steps 1 (put.Num 0 [] 1 Big ∷ []) h (num (pos n))) q (n ∷ [])
    (put-writes 1 (put.Num 0 [] 1 Big) h (num (pos n)) (n ∷ []) q refl (word-octet Big n (ltb-true n 256 typed)) refl)
octet-writes c h (negsuc n) q typed = absurd (none n typed) where
  none : (m : ℕ) → IsTrue (nat_lt m 0) → ⊥
  none m t = omega (arith, ltb-true m 0 t)

pub octets_long : (p : ℕ) (ns : List ℤ) → length (elements_octets octet_one p ns) ≡ length ns
unfolding elements_octets
octets_long p [] = refl
octets_long p (n ∷ ns) = ap suc (octets_long (p + 1) ns)

length-zeros : (n : ℕ) → length (replicate {A = ℕ} n 0) ≡ n
length-zeros zero = refl
length-zeros (suc n) = ap suc (length-zeros n)

align-writes : (c : Calls) (h : Head) (v : Val) (q n : ℕ) → gap q 4 ≡ n → Writes (steps c h (align 4 stop) v) q (replicate n 0)
align-writes c h v q n same base front at = ap (λ (m : ℕ). Some (front ++ replicate m 0)) (ap (λ (x : ℕ). gap x 4) at ∙ same)

loop-writes : (c : Calls) (h : Head) (k : Kind) (ns : List ℤ) (p : ℕ) → p % 4 ≡ 0 → IsTrue (list_all (in_range kind.Octet) ns)
    → Writes (steps c h (each [] octet_turn (align 4 stop)) (row k ns)) p
    (elements_octets octet_one p ns ++ replicate (gap (length ns) 4) 0)
loop-writes c h k ns p ok all =
    let els : List ℕ = elements_octets octet_one p ns in
    let long : length els ≡ length ns = octets_long p ns in
    both-writes (over (steps c h octet_turn) (vals_of (map num ns))) (steps c h (align 4 stop) (row k ns)) p els
    (replicate (gap (length ns) 4) 0)
    (over-writes octet_one (steps c h octet_turn) (in_range kind.Octet) ns p all (octet-writes c h))
    (align-writes c h (row k ns) (p + length els) (gap (length ns) 4) (omega (arith, long, ok)))

whole_of_four : (h n z : ℕ) → h % 4 ≡ 0 → z ≡ gap n 4 → (h + (n + z)) % 4 ≡ 0
whole_of_four h n z ok is = omega (arith, ok, is)

octets-send : (c : Calls) (h : Head) (b : Count) (k : Kind) (ns : List ℤ) (p : ℕ) → Allows b (length ns)
    → IsTrue (list_all (in_range kind.Octet) ns)
    → Sends Xdr (steps c h (append (count_code Xdr b) (each [] octet_turn (align 4 stop))) (row k ns)) p (count_octets Xdr b p (length ns)
    ++ (elements_octets octet_one (p + length (count_octets Xdr b p (length ns))) ns ++ replicate (gap (length ns) 4) 0))
octets-send c h b k ns p ok all at =
    let head : List ℕ = count_octets Xdr b p (length ns) in
    let q : ℕ = p + length head in
    let first = count-sends Xdr xdr_scalar c h b (row k ns) (length ns) p refl ok at in
    let els : List ℕ = elements_octets octet_one q ns in
    let zeros : List ℕ = replicate (gap (length ns) 4) 0 in
    let sum : length (head ++ (els ++ zeros)) ≡ length head + (length ns + gap (length ns) 4) =
    length-append head (els ++ zeros) ∙ ap (λ (m : ℕ). length head + m) (length-append els zeros
    ∙ ap (λ (m : ℕ). m + length zeros) (octets_long q ns) ∙ ap (λ (m : ℕ). length ns + m) (length-zeros (gap (length ns) 4))) in (
      subst (IsPlace Xdr) (sym sum) (whole_of_four (length head) (length ns) (gap (length ns) 4) first.0 refl),
      subst (λ (x : Steps). Writes x p (head ++ (els ++ zeros)))
          (sym (steps-append c h (count_code Xdr b) (each [] octet_turn (align 4 stop)) (row k ns)))
          (both-writes (steps c h (count_code Xdr b) (row k ns)) (steps c h (each [] octet_turn (align 4 stop)) (row k ns)) p head
          (els ++ zeros) first.1
          (loop-writes c h k ns q (place_sum Xdr p (length head) at first.0) all)),
    )

-- ---- numbers over XDR

number-sends : (c : Calls) (h : Head) (k : Kind) (n : ℤ) (q : ℕ) → IsTrue (in_range k n)
    → Sends Xdr (steps c h (chunk (scalar_width Xdr (number k)) (put.Num 0 [] (scalar_width Xdr (number k)) Big ∷ []) stop) (num n)) q
    (scalar_octets Xdr (number k) q n)
number-sends c h k n q typed = xdr_scalar c h (number k) n (put.Num 0 [] (scalar_width Xdr (number k)) Big) (num n) q typed refl refl

numbers-send : (c : Calls) (h : Head) (b : Count) (k : Kind) (ns : List ℤ) (p : ℕ) → Allows b (length ns)
    → IsTrue (list_all (in_range k) ns)
    → Sends Xdr (steps c h (append (count_code Xdr b)
    (each [] (chunk (scalar_width Xdr (number k)) (put.Num 0 [] (scalar_width Xdr (number k)) Big ∷ []) stop) stop)) (row k ns)) p
    (count_octets Xdr b p (length ns)
    ++ (elements_octets (scalar_octets Xdr (number k)) (p + length (count_octets Xdr b p (length ns))) ns ++ []))
numbers-send c h b k ns p ok all =
    let turn : Block = chunk (scalar_width Xdr (number k)) (put.Num 0 [] (scalar_width Xdr (number k)) Big ∷ []) stop in
    let head : List ℕ = count_octets Xdr b p (length ns) in
    let els : List ℕ = elements_octets (scalar_octets Xdr (number k)) (p + length head) ns in
    subst (λ (x : Steps). Sends Xdr x p (head ++ (els ++ []))) (sym (steps-append c h (count_code Xdr b) (each [] turn stop) (row k ns)))
    (both-sends Xdr (steps c h (count_code Xdr b) (row k ns)) (steps c h (each [] turn stop) (row k ns)) p head (els ++ [])
    (count-sends Xdr xdr_scalar c h b (row k ns) (length ns) p refl ok)
    (both-sends Xdr (over (steps c h turn) (vals_of (map num ns))) (Some []) (p + length head) els []
    (over-sends Xdr (scalar_octets Xdr (number k)) (steps c h turn) (in_range k) ns (p + length head) all (number-sends c h k))
    (none-sends Xdr (p + length head + length els))))

-- the letters of a text are octets
pub letters_are_octets : (ns : List ℤ) → IsTrue (list_all is_letter ns) → IsTrue (list_all (in_range kind.Octet) ns)
letters_are_octets [] h = refl
letters_are_octets (n ∷ ns) h = both_true (in_range kind.Octet n) (list_all (in_range kind.Octet) ns)
    (letter n (first_true (is_letter n) (list_all is_letter ns) h))
    (letters_are_octets ns (second_true (is_letter n) (list_all is_letter ns) h)) where
      both_true : (a b : Bool) → IsTrue a → IsTrue b → IsTrue (a && b)
      both_true true b t u = u
      both_true false b t u = t

      letter : (m : ℤ) → IsTrue (is_letter m) → IsTrue (in_range kind.Octet m)
      letter (pos m) t = first_true (in_range kind.Char (pos m)) (not (int_eq (pos m) (pos 0))) t
      letter (negsuc m) t = first_true (in_range kind.Char (negsuc m)) (not (int_eq (negsuc m) (pos 0))) t

-- a row of this kind
of_kind : (c : Calls) (h : Head) (b : Count) (m k : Kind) (ns : List ℤ) (p : ℕ) → IsArray (row_of m b) k ns
    → Sends Xdr (steps c h (append (count_code Xdr b)
    (each [] (chunk (scalar_width Xdr (number m)) (put.Num 0 [] (scalar_width Xdr (number m)) Big ∷ []) stop) stop)) (row k ns)) p
    (count_octets Xdr b p (length ns)
    ++ (elements_octets (scalar_octets Xdr (number m)) (p + length (count_octets Xdr b p (length ns))) ns ++ []))
of_kind c h b m k ns p typed =
    subst (λ (j : Kind). Sends Xdr (steps c h (append (count_code Xdr b)
    (each [] (chunk (scalar_width Xdr (number m)) (put.Num 0 [] (scalar_width Xdr (number m)) Big ∷ []) stop) stop)) (row j ns)) p
    (count_octets Xdr b p (length ns)
    ++ (elements_octets (scalar_octets Xdr (number m)) (p + length (count_octets Xdr b p (length ns))) ns ++ []))) (sym typed.0)
    (numbers-send c h b m ns p typed.1 typed.2)

pub xdr_array : ArraysSend Xdr
unfolding array_octets element_octets head_octets
xdr_array c h (text b) k ns p typed few = octets-send c h b k ns p typed.1 (letters_are_octets ns typed.2)
xdr_array c h (row_of kind.Octet b) k ns p typed few = octets-send c h b k ns p typed.1 typed.2
xdr_array c h (row_of kind.I8 b) k ns p typed few = of_kind c h b kind.I8 k ns p typed
xdr_array c h (row_of kind.U8 b) k ns p typed few = of_kind c h b kind.U8 k ns p typed
xdr_array c h (row_of kind.Char b) k ns p typed few = of_kind c h b kind.Char k ns p typed
xdr_array c h (row_of kind.I16 b) k ns p typed few = of_kind c h b kind.I16 k ns p typed
xdr_array c h (row_of kind.U16 b) k ns p typed few = of_kind c h b kind.U16 k ns p typed
xdr_array c h (row_of kind.I32 b) k ns p typed few = of_kind c h b kind.I32 k ns p typed
xdr_array c h (row_of kind.U32 b) k ns p typed few = of_kind c h b kind.U32 k ns p typed
xdr_array c h (row_of kind.I64 b) k ns p typed few = of_kind c h b kind.I64 k ns p typed
xdr_array c h (row_of kind.U64 b) k ns p typed few = of_kind c h b kind.U64 k ns p typed
xdr_array c h (row_of kind.Bool b) k ns p typed few = of_kind c h b kind.Bool k ns p typed
