use Rattle.std.proofs.Common.{◌≡◌, ◌≤◌, ◌++◌, ◌+◌, ◌*◌, [], map, length}
use Rattle.std.specs.Vec.Iter.{into_iter_items, into_iter_len}
use Prim.Native.Nat.{max}
use denote.Param.Weighed.{most}
use Rattle.cast_stub.specs.declared.send.SendOp.TheShapes.{weighed-SendOp-Switch-1, weighed-SendOp-Switch-2}
use Rattle.cast_stub.specs.Block.{code_seen}
use Rattle.cast_stub.proofs.send.SendOp.TheLaws.{the_size}
use Rattle.cast_stub.proofs.Directions.{sends}
use Rattle.cast_stub.proofs.Trees.{shown, made}
use Rattle.chunker.specs.Chunked.{chunked}
use Rattle.chunker.specs.Makes.{under}
use Rattle.chunker.specs.Phases.{IsPhase}
use Rattle.chunker.proofs.pass.+chunk.Given as goal

-- what is made, and what is left
abbrev pub invariant-chunk_ops-loop-op : goal.invariant-chunk_ops-loop-op
invariant-chunk_ops-loop-op l = record {
  next : (goal.iterator-chunk_ops-loop-op).can_next l.op-iterator;
  finite : (goal.iterator-chunk_ops-loop-op).is_finite l.op-iterator;
  long : into_iter_len l.op-iterator ≡ length (into_iter_items l.op-iterator);
  made : under l.run (code_seen (into_iter_items l.op-iterator)) ≡ chunked l.fn.phase 0 [] (code_seen l.fn.ops);
  phase : IsPhase l.run.phase;
  deep : most the_size (into_iter_items l.op-iterator) ≤ most the_size l.fn.ops;
}

abbrev pub invariant-chunk_switch-loop-number : goal.invariant-chunk_switch-loop-number
invariant-chunk_switch-loop-number l = record {
  next : (goal.iterator-chunk_switch-loop-number).can_next l.number-iterator;
  finite : (goal.iterator-chunk_switch-loop-number).is_finite l.number-iterator;
  long : into_iter_len l.number-iterator ≡ length (into_iter_items l.number-iterator);
  made : map (shown sends) l.bodies ++ map (made sends (chunked l.phase 0 [])) (into_iter_items l.number-iterator)
      ≡ map (made sends (chunked l.phase 0 [])) l.fn.cases;
  deep : weighed-SendOp-Switch-1.weight _ the_size (into_iter_items l.number-iterator)
      ≤ weighed-SendOp-Switch-1.weight _ the_size l.fn.cases;
  last : l.last ≡ l.fn.last;
}

-- how deep operations and bodies nest
abbrev pub decreases-put_op : goal.decreases-put_op
decreases-put_op l = 4 * goal.size-put_op l

abbrev pub decreases-chunk_ops : goal.decreases-chunk_ops
decreases-chunk_ops l = 4 * goal.size-chunk_ops l + 1

abbrev pub decreases-chunk_last : goal.decreases-chunk_last
decreases-chunk_last l = 4 * goal.size-chunk_last l + 2

abbrev pub decreases-chunk_switch : goal.decreases-chunk_switch
decreases-chunk_switch l = 4 * max (goal.size-chunk_switch l) (weighed-SendOp-Switch-2.weight _ the_size l.last) + 3
