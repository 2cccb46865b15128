use Rattle.std.proofs.Common.{◌≡◌, ℕ, List, ◌++◌, drop}
use Rattle.cast_stub.specs.RecvBlock.{code_seen, cases_seen}
use Rattle.stub_print.specs.RecvText.{block_text, cases_text}
use Rattle.stub_print.proofs.recv.+put.Given as goal

-- what is put, and what is left
abbrev pub invariant-put_ops-loop-op : goal.invariant-put_ops-loop-op
invariant-put_ops-loop-op l = (rest : List ℕ) → l.fn.out ++ block_text (code_seen l.op-items) rest
    ≡ l.out ++ block_text (code_seen (drop l.op-index l.op-items)) rest

-- what is put since the line of the switch, and what is left
abbrev pub invariant-put_op-loop-case : goal.invariant-put_op-loop-case
invariant-put_op-loop-case l = (rest : List ℕ) → l.initial.out ++ cases_text (cases_seen l.case-items l.other) rest
    ≡ l.out ++ cases_text (cases_seen (drop l.case-index l.case-items) l.other) rest
