-- Puts that are joined so far, with a constant behind them that may go on.
use Rattle.std.specs.Prelude.{◌≡◌, List, ◌∷◌, ◌++◌}
use Rattle.cast_stub.specs.declared.put.Put.{Put}
use Rattle.chunker.specs.declared.joining.Joining.{Joining}
use Rattle.chunker.specs.Chunked.{consts_joined}

-- what is joined so far, with what the rest becomes
abbrev pub awaits : Joining → List Put → List Put
awaits j ps = j.out ++ consts_joined j.at j.octets ps

-- one more put, before every rest
abbrev pub Joins : Put → Joining → Joining → Type 0
Joins p old new = (ps : List Put) → awaits new ps ≡ awaits old (p ∷ ps)
