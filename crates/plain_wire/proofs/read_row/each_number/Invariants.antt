use Rattle.std.proofs.Common.{◌≡◌, ◌-◌}
use Rattle.mint.specs.Types.{number}
use Rattle.wire_def.specs.Grammar.{times}
use Rattle.plain_wire.specs.Readers.{read_here}
use Rattle.plain_wire.proofs.Reading.{with_prefix}
use Rattle.plain_wire.proofs.read_row.each_number.Given as goal

abbrev pub invariant-loop-i : goal.invariant-loop-i
invariant-loop-i l = record {
  kind : l.row.kind ≡ l.kind;
  reported : with_prefix l.row.numbers (times (read_here l.enc (number l.kind)) (l.n - l._i) l.at.place l.at.rest.now)
      ≡ times (read_here l.enc (number l.kind)) l.n l.fn.at.place l.fn.at.rest.now;
}
