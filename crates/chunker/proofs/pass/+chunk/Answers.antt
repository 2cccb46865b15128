use Rattle.std.proofs.Common.{rules, ◌≡◌, ℤ, [], List, ◌++◌, length, map, option_map, refl, sym, ap, ◌∙◌, arith}
use Rattle.std.specs.Int.{w128}
use Rattle.std.specs.Vec.Iter.{into_iter_items}
use Rattle.std.proofs.lemmas.List.{nil_from_length, map-append}
use Rattle.std.proofs.lemmas.Int.{to_z-of_z}
use Rattle.std.proofs.lemmas.Result.{IfOk-weaker}
use denote.Param.Weighed.{most}
use Rattle.cast_stub.specs.declared.send.SendOp.{SendOp, the_lemmas}
use Rattle.cast_stub.specs.declared.send.SendOp.TheShapes.{weighed-SendOp-Switch-1, weighed-SendOp-Switch-2}
use Rattle.cast_stub.specs.Block.{stop, switch, op_seen, code_seen, cases_seen}
use Rattle.chunker.specs.Chunked.{chunked, cases_chunked}
use Rattle.chunker.specs.Left.{switched}
use Rattle.chunker.specs.Makes.{under}
use Rattle.cast_stub.proofs.Appending.{append-stop}
use Rattle.cast_stub.proofs.Directions.{sends}
use Rattle.cast_stub.proofs.Trees.{pair, shown, made, bodies_same}
use Rattle.cast_stub.proofs.send.SendOp.TheLaws.{the_size}
use Rattle.chunker.proofs.Going.{one-made, all-made}
use Rattle.chunker.proofs.Making.{goes, other_takes, switch_seen, switch_put, op_taken, if_ok}
use Rattle.chunker.proofs.pass.+chunk.Goals as goal

pub chunk_ops-loop-op-init : goal.chunk_ops-loop-op-init
chunk_ops-loop-op-init t c =
    let all : into_iter_items c.into_iter-op-iterator.result ≡ c.args.ops =
    c.into_iter-op-iterator.ensures.into_iter_gives.0 ∙ c.into_items-op-items.ensures in
    record {
      next = tt;
      finite = tt;
      long =
          omega (
            arith,
            c.into_iter-op-iterator.ensures.into_iter_gives.1,
            ap length c.into_iter-op-iterator.ensures.into_iter_gives.0,
            c.into_items-op-items.result.ok.0,
          );
      made = search rules;
      phase = search rules;
      deep = omega (arith, ap (most the_size) all);
    }

pub chunk_ops-put_op-requires : goal.chunk_ops-put_op-requires
chunk_ops-put_op-requires t c = (
  omega (arith, ap (most the_size) c.in-Some.ensures.steps.0, c.loop-op.invariant.deep),
  c.loop-op.invariant.phase,
)

pub chunk_ops-loop-op-preserved : goal.chunk_ops-loop-op-preserved
chunk_ops-loop-op-preserved t c = record {
  next = tt;
  finite = tt;
  long = omega (arith, c.loop-op.invariant.long, c.in-Some.ensures.steps.1, ap length c.in-Some.ensures.steps.0);
  made = op_taken c.loop-op.run c.put_op.new.run (into_iter_items c.loop-op.op-iterator) (into_iter_items c.next.new.self) c.in-Some.op _
      c.in-Some.ensures.steps.0 c.in_ok-put_op.ensures c.loop-op.invariant.made;
  phase = c.in_ok-put_op.ensures.phase;
  deep = omega (arith, ap (most the_size) c.in-Some.ensures.steps.0, c.loop-op.invariant.deep);
}

pub chunk_ops-returns : goal.chunk_ops-returns
chunk_ops-returns t c =
    sym (append-stop (code_seen c.close.new.run.out)) ∙ c.in_ok-close.ensures.made stop
    ∙ ap (λ (l : List SendOp). under c.loop-op.run (code_seen l))
    (sym (nil_from_length (into_iter_items c.loop-op.op-iterator)
    (omega (arith, c.loop-op.invariant.long, c.in-None.ensures.steps.0))))
    ∙ c.loop-op.invariant.made

pub chunk_switch-loop-number-init : goal.chunk_switch-loop-number-init
chunk_switch-loop-number-init t c =
    let each = made sends (chunked c.args.phase 0 []) in
    let all : into_iter_items c.into_iter-number-iterator.result ≡ c.args.cases =
    c.into_iter-number-iterator.ensures.into_iter_gives.0 ∙ c.into_entries-number-items.ensures in
    record {
      next = tt;
      finite = tt;
      long =
          omega (
            arith,
            c.into_iter-number-iterator.ensures.into_iter_gives.1,
            ap length c.into_iter-number-iterator.ensures.into_iter_gives.0,
            c.into_entries-number-items.result.ok.0,
          );
      made = ap (λ (l : List (ℤ × List SendOp)). map (shown sends) l ++ map each (into_iter_items c.into_iter-number-iterator.result))
          c.new-bodies.ensures
          ∙ ap (map each) all;
      deep = omega (arith, ap (weighed-SendOp-Switch-1.weight _ the_size) all);
      last = refl;
    }

pub chunk_switch-chunk_ops-requires : goal.chunk_switch-chunk_ops-requires
chunk_switch-chunk_ops-requires t c = (
  omega (arith, ap (weighed-SendOp-Switch-1.weight _ the_size) c.in-Some.ensures.steps.0, c.loop-number.invariant.deep),
  c.requires.phase,
)

pub chunk_switch-loop-number-preserved : goal.chunk_switch-loop-number-preserved
chunk_switch-loop-number-preserved t c = record {
  next = tt;
  finite = tt;
  long = omega (arith, c.loop-number.invariant.long, c.in-Some.ensures.steps.1, ap length c.in-Some.ensures.steps.0);
  made = one-made (made sends (chunked c.args.phase 0 [])) (map (shown sends) c.loop-number.bodies)
      (map (shown sends) c.push.new.self) _ _ _ (pair c.in-Some.number c.in-Some.body)
      _ c.loop-number.invariant.made c.in-Some.ensures.steps.0
      (ap (map (shown sends)) c.in_ok-push.ensures.ok ∙ map-append (shown sends) c.loop-number.bodies _)
      (ap (λ (n : ℤ). pair n (code_seen c.in_ok-chunk_ops.field-0)) (to_z-of_z w128 c.in-Some.number (search rules))
      ∙ ap (pair c.in-Some.number) c.in_ok-chunk_ops.ensures);
  deep = omega (arith, ap (weighed-SendOp-Switch-1.weight _ the_size) c.in-Some.ensures.steps.0, c.loop-number.invariant.deep);
  last = c.loop-number.invariant.last;
}

pub chunk_switch-chunk_last-requires : goal.chunk_switch-chunk_last-requires
chunk_switch-chunk_last-requires t c = (
  omega (arith, ap (weighed-SendOp-Switch-2.weight _ the_size) c.loop-number.invariant.last),
  c.requires.phase,
)

pub chunk_switch-returns : goal.chunk_switch-returns
chunk_switch-returns t c =
    let ph = c.args.phase in
    let each = made sends (chunked ph 0 []) in
    IfOk-weaker c.switch.result _ _
    (λ o e. switch_seen o c.args.path c.loop-number.bodies c.in_ok-other.other (cases_chunked ph (cases_seen c.args.cases c.args.last)) e
    (bodies_same sends (chunked ph 0 []) (cases_chunked ph) (goes ph) c.loop-number.bodies c.args.cases c.in_ok-other.other c.args.last
    (all-made each (map (shown sends) c.loop-number.bodies) _ (into_iter_items c.loop-number.number-iterator)
    (nil_from_length _ (omega (arith, c.loop-number.invariant.long, c.in-None.ensures.steps.0))) c.loop-number.invariant.made)
    (c.in_ok-other.ensures
    ∙ ap (option_map (λ (b : List SendOp). chunked ph 0 [] (code_seen b))) c.loop-number.invariant.last)))
    c.switch.ensures

pub put_op-chunk_switch-requires : goal.put_op-chunk_switch-requires
put_op-chunk_switch-requires t c = (
  search (rules, the_lemmas),
  c.requires.phase,
)

pub put_op-returns-in_ok-made-in-Switch : goal.put_op-returns-in_ok-made-in-Switch
put_op-returns-in_ok-made-in-Switch t c =
    let ph = c.args.run.now.phase in
    if_ok c.put_other-in-Switch.result c.put_other-in-Switch.ensures (λ places.
    other_takes _ c.switched-phase.result (op_seen c.args.op) c.args.run.now c.put_other-in-Switch.new.run places
    c.switched-phase.ensures.phase
    (switch_put ph c.args.run.now.size c.args.run.now.puts c.args.op c.in_ok-made-in-Switch.made c.in-Switch.path c.in-Switch.cases
    c.in-Switch.last c.switched-phase.result c.in-Switch.is
    (c.in_ok-made-in-Switch.ensures
    ∙ ap (λ (l : List (ℤ × List SendOp)). switch c.in-Switch.path (cases_chunked ph (cases_seen l c.in-Switch.last)))
    c.into_value.ensures)
    (c.switched-phase.ensures.is
    ∙ ap (λ (l : List (ℤ × List SendOp)). switched ph (cases_seen l c.in-Switch.last)) c.deref.ensures)))
