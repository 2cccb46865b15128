-- The numbers of words one after the other, by induction on how many they are.
use Rattle.std.proofs.Common.{◌≡◌, ℕ, zero, suc, ◌+◌, ◌-◌, ◌*◌, ◌≤◌, ℤ, pos, negsuc, List, [], ◌∷◌, ◌++◌, length, take, drop, Bool, true, false, cond, ltb, refl, ap, arith, length-take, length-drop}
use Rattle.std.proofs.Math.Seq.{take-add}
use Rattle.std.proofs.lemmas.List.{drop-take, take_at}
use Rattle.mint.specs.declared.kind.Kind.{Kind}
use Rattle.mint.specs.declared.kind.Kind.TheVariants as kind
use Rattle.mint.specs.Kinds.{word}
use Rattle.mint.specs.Row.{number_from}
use Rattle.mint.specs.Types.{number}
use Rattle.wire_def.specs.Scalars.{is_signed, number_of}

signed_word : (b : Bool) (m f : ℕ) → cond b (pos m) (negsuc (f - 1 - m)) ≡ cond b (pos m) (negsuc (f - suc m))
signed_word true m f = refl
signed_word false m f = ap negsuc (omega arith)

-- the number of a word of a kind
pub word_number : (k : Kind) (m : ℕ) → number_of (is_signed (number k)) (word k) m ≡ number_from k m
word_number kind.Octet m = refl
word_number kind.U8 m = refl
word_number kind.Char m = refl
word_number kind.Bool m = refl
word_number kind.U16 m = refl
word_number kind.U32 m = refl
word_number kind.U64 m = refl
word_number kind.I8 m = signed_word (ltb m 128) m 256
word_number kind.I16 m = signed_word (ltb m 32768) m 65536
word_number kind.I32 m = signed_word (ltb m 2147483648) m 4294967296
word_number kind.I64 m = signed_word (ltb m 9223372036854775808) m 18446744073709551616

-- the numbers of so many words
abbrev pub words_read : (List ℕ → ℤ) → ℕ → ℕ → List ℕ → List ℤ
words_read value w zero o = []
words_read value w (suc n) o = value (take w o) ∷ words_read value w n (drop w o)

-- the numbers of an image are those of its first words
pub words_first : (value : List ℕ → ℤ) (w n : ℕ) (o : List ℕ) → n * w ≤ length o
    → words_read value w n (take (n * w) o) ≡ words_read value w n o
words_first value w zero o h = refl
words_first value w (suc n) o h =
    let long : suc n * w ≡ w + n * w = omega arith in
    let front : take w (take (w + n * w) o) ≡ take w o =
    rw take-add (take_at (take w o) (take (n * w) (drop w o)) w (omega (arith, length-take w o, long))) in
    let rest : n * w ≤ length (drop w o) = omega (arith, long, length-drop w o) in
    rw (long, front, drop-take w (n * w) o, words_first value w n (drop w o) rest) refl
