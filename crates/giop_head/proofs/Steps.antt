-- Unsigned longs, unsigned shorts and booleans as they are read.
use Rattle.std.proofs.Common.{◌≡◌, ℕ, zero, suc, ◌+◌, ◌<◌, ◌≤◌, List, [], ◌∷◌, length, take, drop, true, false, refl, arith}
use Rattle.std.specs.Int.{w16, w32}
use Rattle.std.proofs.lemmas.Bool.{lt-leb, lt-ltb, le-ltb}
use Rattle.wire_def.specs.declared.fault.HeadErr.TheVariants.{Short, Item}
use Rattle.wire_def.specs.declared.head.Order.{Order}
use Rattle.wire_def.specs.Grammar.{got, stop}
use Rattle.wire_def.specs.Scalars.{gap, octets_number, read_word}
use Rattle.giop_head.specs.Versions.{read_target}
use Rattle.giop_head.specs.Items.{laid, read_long, read_short, short_place, read_flag}

pub long_short : (r : Order) (p : ℕ) (o : List ℕ) → length o < gap p 4 + 4 → read_long r p o ≡ stop Short (p + gap p 4)
unfolding read_long read_word
long_short r p o h = rw (lt-ltb _ _ h) refl

pub long_there : (r : Order) (p : ℕ) (o : List ℕ) → gap p 4 + 4 ≤ length o
    → read_long r p o ≡ got (octets_number (laid r) w32 (take 4 (drop (gap p 4) o))) (p + (gap p 4 + 4)) (drop 4 (drop (gap p 4) o))
unfolding read_long read_word
long_there r p o h = rw (le-ltb _ _ h) refl

pub ruleset longs = (long_short, long_there)

pub short_short : (r : Order) (p : ℕ) (o : List ℕ) → length o < gap p 2 + 2 → read_short r p o ≡ stop Short (p + gap p 2)
unfolding read_short read_word
short_short r p o h = rw (lt-ltb _ _ h) refl

pub short_there : (r : Order) (p : ℕ) (o : List ℕ) → gap p 2 + 2 ≤ length o
    → read_short r p o ≡ got (octets_number (laid r) w16 (take 2 (drop (gap p 2) o))) (p + (gap p 2 + 2)) (drop 2 (drop (gap p 2) o))
unfolding read_short read_word
short_there r p o h = rw (le-ltb _ _ h) refl

pub ruleset shorts = (short_short, short_there)

pub flag_none : (p : ℕ) (o : List ℕ) → length o ≡ 0 → read_flag p o ≡ stop Short p
unfolding read_flag
flag_none p [] none = refl
flag_none p (b ∷ o) none = absurd (omega (arith, none))

pub flag_zero : (p b : ℕ) (o rest : List ℕ) → o ≡ b ∷ rest → b ≡ 0 → read_flag p o ≡ got false (p + 1) rest
unfolding read_flag
flag_zero p b o rest is h = rw (is, h) refl

pub flag_one : (p b : ℕ) (o rest : List ℕ) → o ≡ b ∷ rest → b ≡ 1 → read_flag p o ≡ got true (p + 1) rest
unfolding read_flag
flag_one p b o rest is h = rw (is, h) refl

pub flag_above : (p b : ℕ) (o rest : List ℕ) → o ≡ b ∷ rest → (b ≡ 0 → ⊥) → (b ≡ 1 → ⊥) → read_flag p o ≡ stop Item p
unfolding read_flag
flag_above p zero o rest is none one = absurd (none refl)
flag_above p (suc zero) o rest is none one = absurd (one refl)
flag_above p (suc (suc b)) o rest is none one = rw is refl

pub ruleset flags = (flag_none, flag_zero, flag_one, flag_above)

-- the kind of a target that is above 2
pub target_above : (m : ℕ) (r : Order) (p : ℕ) (o : List ℕ) (t q : ℕ) (rest : List ℕ) → (m ≡ 0 → ⊥) → read_short r p o ≡ got t q rest
    → 2 < t → read_target m r p o ≡ stop Item (short_place p)
target_above zero r p o t q rest other is h = absurd (other refl)
target_above (suc m) r p o t q rest other is h = rw (is, lt-leb _ _ h) refl
