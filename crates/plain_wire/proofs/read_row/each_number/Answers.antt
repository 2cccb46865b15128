use Rattle.std.specs.Int.{w128}
use Rattle.std.proofs.Common.{rules, SFits, arith, ◌≡◌, ◌-◌, ◌+◌, suc, sym, ◌∙◌, ap}
use Rattle.std.proofs.lemmas.Int.{to_z-of_z}
use Rattle.mint.specs.Row.{Numbers}
use Rattle.mint.specs.Types.{number}
use Rattle.plain_wire.specs.Readers.{read_here}
use Rattle.plain_wire.proofs.Reading.{front_got}
use Rattle.plain_wire.proofs.read_row.each_number.Goals as goal

pub loop-i-preserved : goal.loop-i-preserved
loop-i-preserved c =
    let one = read_here c.args.enc (number c.args.kind) in
    let more : c.args.n - c.loop-i._i ≡ suc (c.args.n - (c.loop-i._i + 1)) = omega arith in
    let step = front_got one c.loop-i.row.numbers (c.args.n - (c.loop-i._i + 1)) c.loop-i.at.place c.loop-i.at.rest.now c.in_ok-m.m
    c.in_ok-m.next.place c.in_ok-m.next.rest.now c.in_ok-m.ensures.read in
    let fits : SFits w128 c.in_ok-m.m = search rules in
    let pushed = simp (to_z-of_z, fits) at c.in_ok-push.ensures.ok in
    record {
      kind = ap (λ (r : Numbers). r.kind) pushed ∙ c.loop-i.invariant.kind;
      reported = rw (ap (λ (r : Numbers). r.numbers) pushed) (sym step ∙ rw more at c.loop-i.invariant.reported);
    }
