use Rattle.std.proofs.Common.{◌≡◌, ◌+◌, ◌*◌}
use Rattle.std.proofs.Math.ListN.{drop}
use Rattle.cast_stub.specs.Block.{code_seen, cases_seen}
use Rattle.stub_cover.specs.Covers.{is_plain, are_plain}
use Rattle.stub_rooms.proofs.covers_plain.+plain.Given as goal

abbrev pub invariant-is_plain-loop-op : goal.invariant-is_plain-loop-op
invariant-is_plain-loop-op l = is_plain (code_seen l.op-items) ≡ is_plain (code_seen (drop l.op-index l.op-items))

abbrev pub invariant-are_plain-loop-case : goal.invariant-are_plain-loop-case
invariant-are_plain-loop-case l = are_plain (cases_seen l.case-items l.last)
    ≡ are_plain (cases_seen (drop l.case-index l.case-items) l.last)

abbrev pub decreases-is_plain : goal.decreases-is_plain
decreases-is_plain l = 3 * l.walk.now.depth

abbrev pub decreases-is_plain_op : goal.decreases-is_plain_op
decreases-is_plain_op l = 3 * l.walk.now.depth + 2

abbrev pub decreases-are_plain : goal.decreases-are_plain
decreases-are_plain l = 3 * l.walk.now.depth + 1
