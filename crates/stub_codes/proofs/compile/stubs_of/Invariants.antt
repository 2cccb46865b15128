use Rattle.std.proofs.Common.{◌≡◌, true, length}
use Rattle.stub_codes.specs.Stubs.{AreReplying, AreStubs}
use Rattle.stub_codes.proofs.compile.stubs_of.Given as goal

abbrev pub invariant-loop-i : goal.invariant-loop-i
invariant-loop-i l = record {
  many : length l.stubs ≡ l.i;
  each : AreStubs l.bound l.minor l.stubs;
  replying : l.answers ≡ true → AreReplying l.bound l.stubs;
}
