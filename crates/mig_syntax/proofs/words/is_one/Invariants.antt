use Rattle.std.proofs.Common.{◌≡◌, map, drop}
use Rattle.std.specs.Str.{str_to_ascii_lowercase}
use Rattle.mig_syntax.specs.Words.{is_one_of}
use Rattle.mig_syntax.proofs.words.is_one.Given as goal

abbrev pub invariant-loop-word : goal.invariant-loop-word
invariant-loop-word l = is_one_of (str_to_ascii_lowercase l.name) (map (λ w. w.now) l.words)
    ≡ is_one_of (str_to_ascii_lowercase l.name) (map (λ w. w.now) (drop l.word-index l.words))
