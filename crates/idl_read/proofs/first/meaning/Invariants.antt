use Rattle.std.proofs.Common.{◌≡◌, map, drop}
use Rattle.idl_read.specs.Reading.{word_in}
use Rattle.idl_read.proofs.first.meaning.Given as goal

abbrev pub invariant-loop-word : goal.invariant-loop-word
invariant-loop-word g l = word_in (map (λ e. (e.0.now, e.1)) l.table) l.token.kind
    ≡ word_in (map (λ e. (e.0.now, e.1)) (drop l.word-index l.table)) l.token.kind
