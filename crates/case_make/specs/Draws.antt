-- Draws from a state of 64 bits.
use Rattle.std.specs.Prelude.{ℕ, zero, suc, ◌+◌, ◌*◌, ◌/◌, ◌%◌, ◌^◌, min, ℤ, pos, ◌-ℤ◌, List, [], ◌∷◌, length, slice_index_or}
use Rattle.mint.specs.declared.kind.Kind.{Kind}
use Rattle.mint.specs.declared.kind.Count.{Count}
use Rattle.mint.specs.declared.kind.Count.TheVariants.{Exactly, AtMost, Any}
use Rattle.mint.specs.Kinds.{above, under}
use Rattle.mint.specs.Types.{Scalar, number, label}

-- what is drawn, and the state after it
pub record Drawn (A : Type 0) : Type 0 where
  pub value : A
  pub state : ℕ

-- what is drawn, as something else
abbrev pub drawn_as : {A B : Type 0} → (A → B) → Drawn A → Drawn B
drawn_as f d = record { value = f d.value; state = d.state }

-- the state after a draw
unfoldable pub next : ℕ → ℕ
next s = (s * 6364136223846793005 + 1442695040888963407) % 2 ^ 64

-- a number below another, by one draw
unfoldable pub below : ℕ → ℕ → ℕ
below many s = next s / 2 ^ 33 % many

abbrev pub drawing : ℕ → ℕ → Drawn ℕ
drawing many s = record { value = below many s; state = next s }

-- so many, one after the other
abbrev pub several : {A : Type 0} → (ℕ → Drawn A) → ℕ → ℕ → Drawn (List A)
several f zero s = record { value = []; state = s }
several f (suc n) s = drawn_as (λ xs. (f s).value ∷ xs) (several f n (f s).state)

-- how many numbers of a kind can be drawn: the size of its range, and 2^31 at most
unfoldable pub span : Kind → ℕ
span k = min (2 ^ 31) (above k + under k)

-- a number of a kind: the least one and a draw
abbrev pub drawn_number : Kind → ℕ → Drawn ℤ
drawn_number k s = drawn_as (λ n. pos n -ℤ pos (under k)) (drawing (span k) s)

-- one of several numbers; where there is none, the other without a draw
abbrev pub drawn_one : ℤ → List ℤ → ℕ → Drawn ℤ
drawn_one other [] s = record { value = other; state = s }
drawn_one other (n ∷ ns) s = drawn_as (λ i. slice_index_or (n ∷ ns) i other) (drawing (length (n ∷ ns)) s)

abbrev pub drawn_scalar : Scalar → ℕ → Drawn ℤ
drawn_scalar (number k) s = drawn_number k s
drawn_scalar (label ns) s = drawn_one (pos 0) ns s

-- a length: of those that are allowed one up to 8
abbrev pub drawn_length : Count → ℕ → Drawn ℕ
drawn_length (Exactly n) s = record { value = n; state = s }
drawn_length (AtMost n) s = drawing (min n 8 + 1) s
drawn_length Any s = drawing 9 s

-- an octet of a text
abbrev pub drawn_letter : ℕ → Drawn ℤ
drawn_letter s = drawn_as (λ n. pos (n + 1)) (drawing 255 s)
