-- What stands first, by the tests that were made.
use Rattle.std.proofs.Common.{◌≡◌, ℕ, ◌+◌, ◌<◌, ◌≤◌, Bool, true, false, refl, sym, arith}
use Rattle.std.proofs.lemmas.Bool.{ltb-false, ltb-true, le-ltb, lt-ltb}
use Rattle.std.specs.Prelude.{nat_lt, if◌then◌else◌}
use Rattle.kit_base.specs.Limits.{longest_message}
use Rattle.wire_frames.specs.declared.frames.FrameErr.TheVariants.{TooLong}
use Rattle.wire_frames.specs.First.{First, bad, more}

-- ---- fragments

-- what stands first in so many octets, by the size of the first fragment and whether it is the last one
abbrev pub choice : ℕ → ℕ → ℕ → Bool → First → First → First
choice l sum n b w a =
    if nat_lt l 4 then more
    else if nat_lt longest_message (sum + n) then bad TooLong
    else if nat_lt l (4 + n) then more
    else if b then w
    else a

-- the test that decided
pub data Chosen (l sum n : ℕ) (b : Bool) (w a x : First) : Type 0 where
  short : l < 4 → x ≡ more → Chosen l sum n b w a x
  long : 4 ≤ l → longest_message < sum + n → x ≡ bad TooLong → Chosen l sum n b w a x
  cut_off : 4 ≤ l → sum + n ≤ longest_message → l < 4 + n → x ≡ more → Chosen l sum n b w a x
  ended : 4 + n ≤ l → sum + n ≤ longest_message → b ≡ true → x ≡ w → Chosen l sum n b w a x
  going : 4 + n ≤ l → sum + n ≤ longest_message → b ≡ false → x ≡ a → Chosen l sum n b w a x

module _ (l sum n : ℕ) (w a x : First) where
  by_last : (b : Bool) → 4 + n ≤ l → sum + n ≤ longest_message → (if b then w else a) ≡ x → Chosen l sum n b w a x
  by_last true there few e = ended there few refl (sym e)
  by_last false there few e = going there few refl (sym e)

  by_length : (b c : Bool) → nat_lt l (4 + n) ≡ c → 4 ≤ l → sum + n ≤ longest_message
      → (if c then more else if b then w else a) ≡ x → Chosen l sum n b w a x
  by_length b true is there few e = cut_off there few (ltb-true _ _ is) (sym e)
  by_length b false is there few e = by_last b (ltb-false _ _ is) few e

  by_limit : (b c : Bool) → nat_lt longest_message (sum + n) ≡ c → 4 ≤ l
      → (if c then bad TooLong else if nat_lt l (4 + n) then more else if b then w else a) ≡ x → Chosen l sum n b w a x
  by_limit b true is there e = long there (ltb-true _ _ is) (sym e)
  by_limit b false is there e = by_length b (nat_lt l (4 + n)) refl there (ltb-false _ _ is) e

  by_header : (b c : Bool) → nat_lt l 4 ≡ c
      → (if c then more
      else if nat_lt longest_message (sum + n) then bad TooLong else if nat_lt l (4 + n) then more else if b then w else a) ≡ x
      → Chosen l sum n b w a x
  by_header b true is e = short (ltb-true _ _ is) (sym e)
  by_header b false is e = by_limit b (nat_lt longest_message (sum + n)) refl (ltb-false _ _ is) e

  pub chosen : (b : Bool) → choice l sum n b w a ≡ x → Chosen l sum n b w a x
  chosen b e = by_header b (nat_lt l 4) refl e

module _ (l sum n : ℕ) (w a : First) where
  pub chooses_short : (b : Bool) → l < 4 → choice l sum n b w a ≡ more
  chooses_short b h = rw (lt-ltb l 4 h) refl

  pub chooses_long : (b : Bool) → 4 ≤ l → longest_message < sum + n → choice l sum n b w a ≡ bad TooLong
  chooses_long b there far = rw (le-ltb l 4 there, lt-ltb longest_message (sum + n) far) refl

  pub chooses_cut : (b : Bool) → 4 ≤ l → sum + n ≤ longest_message → l < 4 + n → choice l sum n b w a ≡ more
  chooses_cut b there few h = rw (le-ltb l 4 there, le-ltb longest_message (sum + n) few, lt-ltb l (4 + n) h) refl

  pub chooses_last : (b : Bool) → 4 + n ≤ l → sum + n ≤ longest_message → b ≡ true → choice l sum n b w a ≡ w
  chooses_last b there few is =
      let enough : 4 ≤ l = omega (arith, there) in
      rw (le-ltb l 4 enough, le-ltb longest_message (sum + n) few, le-ltb l (4 + n) there, is) refl

  pub chooses_next : (b : Bool) → 4 + n ≤ l → sum + n ≤ longest_message → b ≡ false → choice l sum n b w a ≡ a
  chooses_next b there few is =
      let enough : 4 ≤ l = omega (arith, there) in
      rw (le-ltb l 4 enough, le-ltb longest_message (sum + n) few, le-ltb l (4 + n) there, is) refl

-- ---- messages that say their own length

-- a message of so many octets, unless they are too many or not all there
abbrev pub sizing : ℕ → ℕ → First → First
sizing l n w = if nat_lt longest_message n then bad TooLong else if nat_lt l n then more else w

-- the test that decided
pub data Sized (l n : ℕ) (w x : First) : Type 0 where
  far : longest_message < n → x ≡ bad TooLong → Sized l n w x
  cut_short : n ≤ longest_message → l < n → x ≡ more → Sized l n w x
  there : n ≤ longest_message → n ≤ l → x ≡ w → Sized l n w x

module _ (l n : ℕ) (w x : First) where
  size_there : (c : Bool) → nat_lt l n ≡ c → n ≤ longest_message → (if c then more else w) ≡ x → Sized l n w x
  size_there true is few e = cut_short few (ltb-true _ _ is) (sym e)
  size_there false is few e = there few (ltb-false _ _ is) (sym e)

  size_few : (c : Bool) → nat_lt longest_message n ≡ c → (if c then bad TooLong else if nat_lt l n then more else w) ≡ x
      → Sized l n w x
  size_few true is e = far (ltb-true _ _ is) (sym e)
  size_few false is e = size_there (nat_lt l n) refl (ltb-false _ _ is) e

  pub is_sized : sizing l n w ≡ x → Sized l n w x
  is_sized e = size_few (nat_lt longest_message n) refl e

pub sizes_far : (l n : ℕ) (w : First) → longest_message < n → sizing l n w ≡ bad TooLong
sizes_far l n w h = rw (lt-ltb longest_message n h) refl

pub sizes_short : (l n : ℕ) (w : First) → n ≤ longest_message → l < n → sizing l n w ≡ more
sizes_short l n w few h = rw (le-ltb longest_message n few, lt-ltb l n h) refl

pub sizes_there : (l n : ℕ) (w : First) → n ≤ longest_message → n ≤ l → sizing l n w ≡ w
sizes_there l n w few h = rw (le-ltb longest_message n few, le-ltb l n h) refl
