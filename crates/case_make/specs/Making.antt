-- What a maker does.
use Rattle.std.specs.Prelude.{◌≡◌, ℕ, ◌+◌, ◌<◌, List}
use Rattle.mint.specs.Values.{Val, vals_of, weights}
use Rattle.case_make.specs.declared.maker.Maker.{Maker}
use Rattle.case_make.specs.Draws.{Drawn}

-- what values weigh together
abbrev pub weigh_all : List Val → ℕ
weigh_all vs = weights (vals_of vs)

-- something is what was drawn, and its weight is taken from what was left
pub record IsMade {A : Type 0} (weigh : A → ℕ) (old new : Maker) (d : Drawn A) (a : A) : Type 0 where
  pub value : a ≡ d.value
  pub state : new.state ≡ d.state
  pub left : new.left + weigh a ≡ old.left

-- what was drawn weighs more than was left
abbrev pub IsTooHeavy : {A : Type 0} → (A → ℕ) → Maker → Drawn A → Type 0
IsTooHeavy weigh old d = old.left < weigh d.value
