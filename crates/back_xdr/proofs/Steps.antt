-- Pads, octet by octet.
use Rattle.std.proofs.Common.{◌≡◌, ℕ, zero, suc, ◌+◌, ◌-◌, List, [], ◌∷◌, length, refl, arith, sub-one}
use Rattle.wire_def.specs.declared.fault.HeadErr.TheVariants.{Short, Pad}
use Rattle.wire_def.specs.Grammar.{got, stop}
use Rattle.back_xdr.specs.Auth.{read_pad}

pub pad_short : (n p : ℕ) (o : List ℕ) → (n ≡ 0 → ⊥) → length o ≡ 0 → read_pad n p o ≡ stop Short p
unfolding read_pad
pad_short zero p o some none = absurd (some refl)
pad_short (suc n) p [] some none = refl
pad_short (suc n) p (b ∷ o) some none = absurd (omega (arith, none))

pub pad_dirty : (n p : ℕ) (b : ℕ) (o rest : List ℕ) → (n ≡ 0 → ⊥) → o ≡ b ∷ rest → (b ≡ 0 → ⊥) → read_pad n p o ≡ stop Pad p
unfolding read_pad
pad_dirty zero p b o rest some is dirty = absurd (some refl)
pad_dirty (suc n) p zero o rest some is dirty = absurd (dirty refl)
pad_dirty (suc n) p (suc b) o rest some is dirty = rw is refl

pub pad_clean : (n p : ℕ) (b : ℕ) (o rest : List ℕ) → (n ≡ 0 → ⊥) → o ≡ b ∷ rest → b ≡ 0 → read_pad n p o ≡ read_pad (n - 1) (p + 1) rest
unfolding read_pad
pad_clean zero p b o rest some is clean = absurd (some refl)
pad_clean (suc n) p b o rest some is clean = rw (is, clean, sub-one) refl

pub pad_none : (p : ℕ) (o : List ℕ) → read_pad 0 p o ≡ got tt p o
unfolding read_pad
pad_none p o = refl

pub ruleset pads = (pad_none, pad_short, pad_dirty, pad_clean)
