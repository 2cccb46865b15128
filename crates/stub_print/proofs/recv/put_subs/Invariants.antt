use Rattle.std.proofs.Common.{◌≡◌, ℕ, List, ◌++◌, drop, map}
use Rattle.cast_stub.specs.RecvBlock.{code_seen}
use Rattle.stub_print.specs.RecvText.{subs_text}
use Rattle.stub_print.proofs.recv.put_subs.Given as goal

-- what is put, and what is left
abbrev pub invariant-loop-k : goal.invariant-loop-k
invariant-loop-k l = (rest : List ℕ) → l.fn.out ++ subs_text 0 (map code_seen l.ops-items) rest
    ≡ l.out ++ subs_text l.k (map code_seen (drop l.k l.ops-items)) rest
