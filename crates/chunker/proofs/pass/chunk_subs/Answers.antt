use Rattle.std.proofs.Common.{[], map, length, ap, ◌∙◌, arith}
use Rattle.std.specs.Vec.Iter.{into_iter_items}
use Rattle.std.proofs.lemmas.List.{nil_from_length, map-append}
use Rattle.cast_stub.specs.Block.{code_seen}
use Rattle.chunker.specs.declared.phase.Phase.{Phase}
use Rattle.chunker.specs.Chunked.{chunked}
use Rattle.chunker.specs.Phases.{unknown}
use Rattle.chunker.proofs.Going.{one-made, all-made}
use Rattle.chunker.proofs.pass.chunk_subs.Goals as goal

pub loop-sub-preserved : goal.loop-sub-preserved
loop-sub-preserved c = record {
  next = tt;
  finite = tt;
  long = omega (arith, c.loop-sub.invariant.long, c.in-Some.ensures.steps.1, ap length c.in-Some.ensures.steps.0);
  made = one-made (λ s. chunked unknown 0 [] (code_seen s)) (map code_seen c.loop-sub.made) (map code_seen c.push.new.self) _ _ _
      c.in-Some.sub
      (code_seen c.in_ok-chunk_ops.field-0) c.loop-sub.invariant.made c.in-Some.ensures.steps.0
      (ap (map code_seen) c.in_ok-push.ensures.ok ∙ map-append code_seen c.loop-sub.made _)
      (c.in_ok-chunk_ops.ensures ∙ ap (λ (p : Phase). chunked p 0 [] (code_seen c.in-Some.sub)) c.unknown.ensures.is);
}

pub returns : goal.returns
returns c =
    all-made (λ s. chunked unknown 0 [] (code_seen s)) (map code_seen c.loop-sub.made) _ (into_iter_items c.loop-sub.sub-iterator)
    (nil_from_length _ (omega (arith, c.loop-sub.invariant.long, c.in-None.ensures.steps.0))) c.loop-sub.invariant.made
