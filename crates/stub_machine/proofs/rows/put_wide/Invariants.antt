use Rattle.stub_machine.proofs.Rowing.{WideLeft}
use Rattle.stub_machine.proofs.rows.put_wide.Given as goal

abbrev pub invariant-loop-i : goal.invariant-loop-i
invariant-loop-i l = WideLeft l.order l.row.numbers l.fn.buf l.buf l.i
