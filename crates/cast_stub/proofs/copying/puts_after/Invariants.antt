use Rattle.std.proofs.Common.{◌≡◌, map}
use Rattle.std.proofs.Math.ListN.{take}
use Rattle.cast_stub.specs.Append.{put_rebased}
use Rattle.cast_stub.proofs.copying.puts_after.Given as goal

abbrev pub invariant-loop-put : goal.invariant-loop-put
invariant-loop-put l = l.copy ≡ map (put_rebased l.prefix) (take l.put-index l.put-items)
