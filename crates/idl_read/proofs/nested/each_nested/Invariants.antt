use Rattle.std.proofs.Common.{length, ◌-◌}
use Rattle.idl_read.specs.Reading.{many}
use Rattle.idl_read.proofs.Loops.{Left}
use Rattle.idl_read.proofs.nested.each_nested.Given as goal

abbrev pub invariant-items : goal.invariant-items
invariant-items g l =
    let goes = g.T.Nested.goes in
    let within = g.T.Nested.within in
    Left goes (within l.levels) (length l.tokens - l.counter) l.items l.rest (many goes (within l.levels) l.fn.tokens)
