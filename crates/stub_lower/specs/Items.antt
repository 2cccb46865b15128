-- What code has of the items of Mach messages.
use Rattle.std.specs.Prelude.{ℕ, ◌+◌}
use Rattle.mint.specs.Types.{Scalar}
use Rattle.wire_def.specs.declared.encoding.Encoding.{Encoding}
use Rattle.wire_def.specs.declared.encoding.Encoding.TheVariants.{Mach}
use Rattle.wire_def.specs.Lone.{filling}
use Rattle.cast_stub.specs.Layouts.{scalar_width}

-- where the number of a scalar is in its octets: in an item after the descriptor
abbrev pub number_at : Encoding → ℕ
number_at Mach = 4
number_at _ = 0

-- the octets of an item after its descriptor: the number, and what fills it up
abbrev pub item_rest : Scalar → ℕ
item_rest s = scalar_width Mach s + filling s
