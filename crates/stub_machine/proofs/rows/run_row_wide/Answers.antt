use Rattle.std.proofs.Common.{◌≡◌, ◌*◌, ◌++◌, ◌∙◌, ℕ, ap, length, take, drop, arith}
use Rattle.mint.specs.Values.{seen, row_in}
use Rattle.cast_stub.specs.Parts.{at, on_some}
use Rattle.stub_machine.specs.Run.{state_of}
use Rattle.stub_machine.proofs.Rowing.{widened_fits, widened_ends, wide_kept}
use Rattle.stub_machine.proofs.rows.run_row_wide.Goals as goal

pub put_wide-requires-clause-within : goal.put_wide-requires-clause-within
put_wide-requires-clause-within c =
    (widened_fits c.args.order (on_some (at c.args.path.now (seen c.args.value.now)) row_in) c.in-Some.row.now.kind
    c.in-Some.row.now.numbers c.in-Some.ensures (state_of c.args.buf.now) c.requires).1

pub overflow_mul-len : goal.overflow_mul-len
overflow_mul-len c =
    let w = widened_fits c.args.order (on_some (at c.args.path.now (seen c.args.value.now)) row_in) c.in-Some.row.now.kind
    c.in-Some.row.now.numbers c.in-Some.ensures (state_of c.args.buf.now) c.requires in
    omega (arith, w.1, c.len.ensures, c.ahead-room.ensures, c.ahead-room.type_inv)

pub advance-requires : goal.advance-requires
advance-requires c =
    let ns = c.in-Some.row.now.numbers in
    let w = widened_fits c.args.order (on_some (at c.args.path.now (seen c.args.value.now)) row_in) c.in-Some.row.now.kind ns
    c.in-Some.ensures (state_of c.args.buf.now) c.requires in
    omega (arith, c.len.ensures, wide_kept c.args.order ns c.args.buf.now.front c.put_wide.new.buf.front w.0 w.1 c.put_wide.ensures.front)

pub returns : goal.returns
returns c =
    let ns = c.in-Some.row.now.numbers in
    let z = on_some (at c.args.path.now (seen c.args.value.now)) row_in in
    let w = widened_fits c.args.order z c.in-Some.row.now.kind ns c.in-Some.ensures (state_of c.args.buf.now) c.requires in
    let p = c.put_wide.ensures in
    let a = c.advance.ensures in
    let many : 4 * c.len.result ≡ 4 * length ns = ap (λ (n : ℕ). 4 * n) c.len.ensures in
    let mid = c.put_wide.new.buf in
    widened_ends c.args.order z c.in-Some.row.now.kind ns c.in-Some.ensures c.args.buf.now mid c.advance.new.self w.0 w.1 p.done p.front
    p.tally p.spent
    (a.done ∙ ap (λ (n : ℕ). mid.done ++ take n mid.front) many) (a.front ∙ ap (λ (n : ℕ). drop n mid.front) many) a.tally a.spent
