use Rattle.std.proofs.Common.{◌≡◌, ◌≤◌, ◌+◌, ◌++◌, drop, length}
use Rattle.plain_wire.specs.Rows.{numbers_octets}
use Rattle.plain_wire.proofs.send_array.put_each.Given as goal

abbrev pub invariant-loop-i : goal.invariant-loop-i
invariant-loop-i l = record {
  reported : l.fn.out ++ numbers_octets l.enc l.kind l.row.numbers ≡ l.out ++ numbers_octets l.enc l.kind (drop l.i l.row.numbers);
  placed : l.at + length l.fn.out ≡ l.place + length l.out;
  grown : length l.fn.out ≤ length l.out;
}
