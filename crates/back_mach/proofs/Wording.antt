-- Words that are put, one after the other.
use Rattle.std.proofs.Common.{◌≡◌, ℕ, suc, ◌+◌, ◌≤◌, ◌<◌, List, ◌++◌, length, take, drop, get_or, sym, ap, ◌∙◌, arith}
use Rattle.std.proofs.Math.Seq.{take-suc}
use Rattle.std.proofs.lemmas.List.{flat_map_more, take_at, drop_at, length-drop}
use Rattle.kit_base.specs.Bytes.{written}
use Rattle.raw_buf.specs.declared.tally.Tally.{Tally}
use Rattle.raw_buf.specs.Buf.{NoneFell, moved, stored}
use Rattle.back_mach.specs.Words.{word, words}

pub none_fell-put : (t : Tally) → NoneFell t (moved (stored t))
none_fell-put t = record { checks = omega arith; moves = omega arith; stores = omega arith; rows = omega arith }

pub none_fell-refl : (a : Tally) → NoneFell a a
none_fell-refl a = record { checks = omega arith; moves = omega arith; stores = omega arith; rows = omega arith }

-- a word at the first place is the first
pub word_first : (front : List ℕ) (n : ℕ) → take 4 (written front 0 (word n)) ≡ word n
word_first front n = take_at (word n) (drop 4 front) 4 refl_four where
  refl_four : length (word n) ≡ 4
  refl_four = omega arith

pub word_rest : (front : List ℕ) (n : ℕ) → 4 ≤ length front → length (drop 4 (written front 0 (word n))) + 4 ≡ length front
word_rest front n h =
    let rest = drop_at (word n) (drop 4 front) 4 (omega arith) in
    omega (arith, h, ap length rest, length-drop 4 front)

-- one word after others
pub words_more : (d ns : List ℕ) (i : ℕ) → i < length ns → (d ++ words (take i ns)) ++ word (get_or ns i 0) ≡ d ++ words (take (i + 1) ns)
words_more d ns i lt =
    let next : suc i ≡ i + 1 = omega arith in
    flat_map_more word d (take i ns) (get_or ns i 0)
    ∙ ap (λ (l : List ℕ). d ++ words l) (sym (take-suc ns i 0 lt) ∙ ap (λ (k : ℕ). take k ns) next)
