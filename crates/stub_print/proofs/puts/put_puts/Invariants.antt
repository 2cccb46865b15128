use Rattle.std.proofs.Common.{◌≡◌, ℕ, List, ◌++◌, drop}
use Rattle.stub_print.specs.SendText.{puts_text}
use Rattle.stub_print.proofs.puts.put_puts.Given as goal

-- what is put, and what is left
abbrev pub invariant-loop-put : goal.invariant-loop-put
invariant-loop-put l = (rest : List ℕ) → l.fn.out ++ puts_text l.put-items rest ≡ l.out ++ puts_text (drop l.put-index l.put-items) rest
