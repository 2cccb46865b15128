-- What the lines of a text give, by those that are left.
use Rattle.std.proofs.Common.{◌≡◌, inl, inr, ℕ, ◌+◌, List, [], ◌∷◌, Option, Result, Ok, Err, refl, sym, subst}
use Rattle.std.specs.Borrow.{Bor}
use Rattle.std.specs.Option.{option_map_or}
use Rattle.kit_base.specs.Lines.{chomp}
use Rattle.pres.specs.Bindings.{Binding}
use Rattle.flick_serve.specs.Given.{Given, Adds, Give, lines_of}
use Rattle.flick_serve.proofs.Taking.{IsWrong}

-- the lines of what is left of a text
abbrev pub lines_left : Option (Bor (List ℕ)) → List (List ℕ)
lines_left rest = option_map_or (λ text. lines_of text.now) rest []

-- lines from a number on, and the replies before them
pub record Stand : Type 0 where
  pub number : ℕ
  pub given : Given
  pub lines : List (List ℕ)

-- what lines give
abbrev pub Gives : Binding → Stand → Result Given ℕ → Type 0
Gives b s x = Give b s.number s.given s.lines x

-- whatever is given there is given here
abbrev pub GoesOn : Binding → Stand → Stand → Type 0
GoesOn b old new = (x : Result Given ℕ) → Gives b new x → Gives b old x

module _ (b : Binding) (old : Stand) (n : ℕ) (g : Given) (ls : List (List ℕ))
    (on : GoesOn b old (record { number = n; given = g; lines = ls })) where
  -- a line adds a reply, or none
  pub line_more : (line : List ℕ) (rest : List (List ℕ)) → ls ≡ line ∷ rest → (more : Given) → Adds b g (chomp line) more
      → GoesOn b old (record { number = n + 1; given = more; lines = rest })
  line_more line rest is more adds x give =
      on x (subst (λ (ms : List (List ℕ)). Give b n g ms x) (sym is) (inl (more, adds, give)))

  -- a line is wrong
  pub line_wrong : (line : List ℕ) (rest : List (List ℕ)) → ls ≡ line ∷ rest → IsWrong b g (chomp line) → Gives b old (Err n)
  line_wrong line rest is wrong =
      on (Err n) (subst (λ (ms : List (List ℕ)). Give b n g ms (Err n)) (sym is) (inr (wrong, refl)))

  -- no lines are left
  pub lines_done : ls ≡ [] → Gives b old (Ok g)
  lines_done is = on (Ok g) (subst (λ (ms : List (List ℕ)). Give b n g ms (Ok g)) (sym is) refl)
