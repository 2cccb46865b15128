use Rattle.std.proofs.Common.{arith}
use Rattle.mint.specs.Values.{seen}
use Rattle.stub_machine.specs.Run.{state_of}
use Rattle.stub_machine.proofs.Filling.{chunk-runs, chunk-ends}
use Rattle.stub_machine.proofs.puts.run_chunk.Goals as goal

pub run_puts-requires : goal.run_puts-requires
run_puts-requires c =
    let k = chunk-runs c.args.head.now (seen c.args.value.now) c.args.puts.now c.args.size (state_of c.args.buf.now) c.requires in
    record { there = k.0; within = k.2 }

pub advance-requires : goal.advance-requires
advance-requires c =
    let k = chunk-runs c.args.head.now (seen c.args.value.now) c.args.puts.now c.args.size (state_of c.args.buf.now) c.requires in
    omega (arith, k.2, c.run_puts.ensures.front)

pub returns : goal.returns
returns c =
    let p = c.run_puts.ensures in
    let a = c.advance.ensures in
    chunk-ends c.args.head.now (seen c.args.value.now) c.args.puts.now c.args.size c.args.buf.now c.run_puts.new.buf c.advance.new.self
    c.requires p.over p.front p.done p.tally p.spent a.done a.front a.tally a.spent
