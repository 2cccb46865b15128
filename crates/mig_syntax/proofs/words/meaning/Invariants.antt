use Rattle.std.proofs.Common.{◌≡◌, map, drop}
use Rattle.mig_syntax.specs.Words.{like_in}
use Rattle.mig_syntax.proofs.words.meaning.Given as goal

abbrev pub invariant-loop-word : goal.invariant-loop-word
invariant-loop-word g l = like_in (map (λ e. (e.0.now, e.1)) l.table) l.token.kind
    ≡ like_in (map (λ e. (e.0.now, e.1)) (drop l.word-index l.table)) l.token.kind
