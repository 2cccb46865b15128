use Rattle.std.proofs.Common.{subst, sym, List, None, replicate}
use Rattle.mint.specs.Values.{seen}
use Rattle.cast_stub.specs.declared.put.Put.{Put}
use Rattle.cast_stub.specs.Parts.{IsThere}
use Rattle.cast_stub.specs.Puts.{put_all}
use Rattle.stub_machine.proofs.Filling.{puts_start, puts_fit, puts_step, puts_end}
use Rattle.stub_machine.proofs.puts.run_puts.Goals as goal

pub loop-put-init : goal.loop-put-init
loop-put-init c = puts_start _ _ _ _ _ c.requires.within

pub run_put-requires : goal.run_put-requires
run_put-requires c =
    let there = subst (λ (ps : List Put). IsThere (put_all c.args.head.now (seen c.args.value.now) ps (replicate c.args.size None)))
    (sym c.as_slice-put-items.ensures) c.requires.there in
    let k = puts_fit _ _ _ _ _ _ _ c.put-item.result c.loop-put.invariant c.loop-put-test.true there c.put-item.is in
    record { there = k.0; within = k.1 }

pub loop-put-preserved : goal.loop-put-preserved
loop-put-preserved c =
    let there = subst (λ (ps : List Put). IsThere (put_all c.args.head.now (seen c.args.value.now) ps (replicate c.args.size None)))
    (sym c.as_slice-put-items.ensures) c.requires.there in
    puts_step _ _ _ _ _ _ _ _ c.put-item.result c.loop-put.invariant c.loop-put-test.true there c.put-item.is c.run_put.ensures

pub returns : goal.returns
returns c =
    let k = puts_end _ _ _ _ _ _ _ c.loop-put.invariant c.loop-put-test.false in
    rw (← c.as_slice-put-items.ensures) (record { over = k.0; front = k.1; done = k.2; tally = k.3; spent = k.4 })
