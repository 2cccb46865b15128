-- The octets of numbers that words can hold, and octets that fill a chunk.
use Rattle.std.proofs.Common.{◌≡◌, ℕ, ◌<◌, pos, List, [], ◌∷◌, length, map, replicate, Option, Some, None, option_map, refl, ap, ◌∙◌, Bool, true, false, if◌then◌else◌}
use Rattle.std.specs.Prelude.{nat_lt}
use Rattle.std.proofs.lemmas.Bool.{lt-ltb}
use Rattle.kit_base.specs.Bytes.{be}
use Rattle.wire_def.specs.declared.head.Order.TheVariants.{Big}
use Rattle.cast_stub.specs.Parts.{on_some}
use Rattle.cast_stub.specs.Puts.{word, placed, full}

-- what is given where a test holds
pub if_so : (b : Bool) (n : ℕ) → b ≡ true → (if b then Some n else None) ≡ Some n
if_so true n e = refl
if_so false n e = absurd cc

-- what is given of a number below a bound
pub if_below : (n r m most : ℕ) → n < most → r ≡ m → (if nat_lt n most then Some r else None) ≡ Some m
if_below n r m most lt same = if_so (nat_lt n most) r (lt-ltb n most lt) ∙ ap Some same

-- the word of a number that it can hold
pub word_of : (n : ℕ) → n < 4294967296 → word 4 Big (pos n) ≡ Some (be 4 n)
word_of n h = ap (λ (o : Option ℕ). on_some o (λ (m : ℕ). Some (be 4 m))) (if_below n n n 4294967296 h refl)

-- octets that are as many as the cells
pub placed_whole : (os : List ℕ) → placed 0 os (replicate (length os) None) ≡ Some (map Some os)
placed_whole [] = refl
placed_whole (o ∷ os) = ap (option_map (λ ds. Some o ∷ ds)) (placed_whole os)

pub full_whole : (os : List ℕ) → full (map Some os) ≡ Some os
full_whole [] = refl
full_whole (o ∷ os) = ap (option_map (λ l. o ∷ l)) (full_whole os)
