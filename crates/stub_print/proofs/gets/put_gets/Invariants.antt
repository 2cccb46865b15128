use Rattle.std.proofs.Common.{◌≡◌, ℕ, List, ◌++◌, drop}
use Rattle.stub_print.specs.RecvText.{gets_text}
use Rattle.stub_print.proofs.gets.put_gets.Given as goal

-- what is put, and what is left
abbrev pub invariant-loop-get : goal.invariant-loop-get
invariant-loop-get l = (rest : List ℕ) → l.fn.out ++ gets_text l.get-items rest ≡ l.out ++ gets_text (drop l.get-index l.get-items) rest
