-- Words of four octets, the most significant octet first.
use Rattle.std.specs.Prelude.{ℕ, List, flat_map}
use Rattle.kit_base.specs.Bytes.{be}
use Rattle.kit_base.specs.Causes.{raised}
use Rattle.raw_buf.specs.declared.tally.Tally.{Tally}

-- the octets of words, one after another
abbrev pub words : List ℕ → List ℕ
words numbers = flat_map (be 4) numbers

-- so many words more, each by a store and a move
abbrev pub worded : ℕ → Tally → Tally
worded n t = record t { moves = raised t.moves n; stores = raised t.stores n }
