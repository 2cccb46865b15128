-- How many exceptions operations raise.
use Rattle.std.specs.Prelude.{ℕ, length}
use Rattle.pres.specs.Bindings.{Binding}
use Rattle.pres.specs.Raises.{raises}

-- the number of an operation's exceptions, as its file lists them
abbrev pub exceptions : Binding → ℕ → ℕ
exceptions b op = length (raises b op)
