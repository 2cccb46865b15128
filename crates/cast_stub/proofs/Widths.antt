-- Widths of 1, 2, 4 and 8 octets.
use Rattle.std.proofs.Common.{◌≡◌, ℕ, Bool, true, false, nat_eq, ◌||◌, refl, sym, subst}
use Rattle.std.proofs.lemmas.Bool.{eqb-true}
use Rattle.mint.specs.declared.kind.Kind.{Kind}
use Rattle.mint.specs.declared.kind.Kind.TheVariants as kind
use Rattle.mint.specs.Kinds.{width}
use Rattle.cast_stub.specs.Steps.{is_width}

-- a width
pub data Wide : ℕ → Type 0 where
  one : Wide 1
  two : Wide 2
  four : Wide 4
  eight : Wide 8

by_tests : (n : ℕ) (a b c d : Bool) → nat_eq n 1 ≡ a → nat_eq n 2 ≡ b → nat_eq n 4 ≡ c → nat_eq n 8 ≡ d → (a || b || c || d) ≡ true
    → Wide n
by_tests n true b c d e f g h t = subst Wide (sym (eqb-true n 1 e)) one
by_tests n false true c d e f g h t = subst Wide (sym (eqb-true n 2 f)) two
by_tests n false false true d e f g h t = subst Wide (sym (eqb-true n 4 g)) four
by_tests n false false false true e f g h t = subst Wide (sym (eqb-true n 8 h)) eight
by_tests n false false false false e f g h t = absurd cc

pub wide_is : (n : ℕ) → is_width n ≡ true → Wide n
wide_is n e = by_tests n (nat_eq n 1) (nat_eq n 2) (nat_eq n 4) (nat_eq n 8) refl refl refl refl e

pub is_wide : (n : ℕ) → Wide n → is_width n ≡ true
is_wide _ one = refl
is_wide _ two = refl
is_wide _ four = refl
is_wide _ eight = refl

pub width_wide : (k : Kind) → Wide (width k)
width_wide kind.I16 = two
width_wide kind.U16 = two
width_wide kind.I32 = four
width_wide kind.U32 = four
width_wide kind.I64 = eight
width_wide kind.U64 = eight
width_wide _ = one
