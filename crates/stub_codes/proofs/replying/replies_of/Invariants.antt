use Rattle.std.proofs.Common.{◌≡◌, length}
use Rattle.stub_codes.proofs.Chained.{AreKept}
use Rattle.stub_codes.proofs.replying.replies_of.Given as goal

abbrev pub invariant-loop-i : goal.invariant-loop-i
invariant-loop-i l = record { many : length l.codes ≡ l.i; each : AreKept l.bound l.minor l.op l.codes }
