use Rattle.std.proofs.Common.{◌≡◌, ◌+◌, ◌*◌}
use Rattle.std.proofs.Math.ListN.{take}
use Rattle.cast_stub.specs.Append.{append, rebase}
use Rattle.cast_stub.specs.Block.{code_seen}
use Rattle.copy_inline.specs.Spliced.{spliced, inlined, pairs_seen, pairs_spliced}
use Rattle.cast_stub.specs.Subs.{sub_at}
use Rattle.copy_inline.proofs.inlining.+inline.Given as goal

abbrev pub decreases-put_code : goal.decreases-put_code
decreases-put_code l = 6 * l.nested

abbrev pub decreases-put_op : goal.decreases-put_op
decreases-put_op l = 6 * l.nested + 4

abbrev pub decreases-body_of : goal.decreases-body_of
decreases-body_of l = 6 * l.nested + 1

abbrev pub decreases-put_called : goal.decreases-put_called
decreases-put_called l = 6 * l.nested + 1

abbrev pub invariant-put_code-loop-op : goal.invariant-put_code-loop-op
invariant-put_code-loop-op l =
    code_seen l.out ≡ append (code_seen l.fn.out)
    (rebase l.prefix (spliced (inlined (sub_at l.subs) l.calls) (code_seen (take l.op-index l.op-items))))

abbrev pub decreases-bodies_of : goal.decreases-bodies_of
decreases-bodies_of l = 6 * l.nested + 3

abbrev pub decreases-last_of : goal.decreases-last_of
decreases-last_of l = 6 * l.nested + 3

abbrev pub invariant-bodies_of-loop-case : goal.invariant-bodies_of-loop-case
invariant-bodies_of-loop-case l = pairs_seen l.bodies ≡ pairs_spliced (inlined (sub_at l.subs) l.calls) (take l.case-index l.case-items)
