use Rattle.std.proofs.Common.{◌≡◌, ◌≤◌, ◌++◌, ◌∙◌, List, ℕ, ap, sym, length, drop, arith}
use Rattle.mint.specs.Values.{seen, row_in}
use Rattle.mint.specs.Kinds.{width}
use Rattle.mint.specs.Row.{image_of}
use Rattle.cast_stub.specs.Parts.{at, on_some}
use Rattle.cast_stub.specs.Steps.{swapped}
use Rattle.stub_machine.specs.Run.{state_of}
use Rattle.stub_machine.proofs.Rowing.{copied_fits, copied_ends, single_swapped, image_turned, length-turned, turned_width}
use Rattle.stub_machine.proofs.rows.run_row_swap.Goals as goal

pub row_copy-requires : goal.row_copy-requires
row_copy-requires c =
    let k = c.in-Some.row.now.kind in
    let ns = c.in-Some.row.now.numbers in
    let fits : length (swapped k ns) ≤ length c.args.buf.now.front = copied_fits (λ r. swapped r.0 r.1)
    (on_some (at c.args.path.now (seen c.args.value.now)) row_in) k ns c.in-Some.ensures (state_of c.args.buf.now) c.requires in
    record { within = omega (arith, fits, length-turned k ns) }

pub row_swap-requires-clause-within : goal.row_swap-requires-clause-within
row_swap-requires-clause-within c =
    let k = c.in-Some.row.now.kind in
    let ns = c.in-Some.row.now.numbers in
    let fits : length (swapped k ns) ≤ length c.args.buf.now.front = copied_fits (λ r. swapped r.0 r.1)
    (on_some (at c.args.path.now (seen c.args.value.now)) row_in) k ns c.in-Some.ensures (state_of c.args.buf.now) c.requires in
    omega (arith, fits, length-turned k ns)

pub returns-then-width-eq1 : goal.returns-then-width-eq1
returns-then-width-eq1 c =
    let k = c.in-Some.row.now.kind in
    let ns = c.in-Some.row.now.numbers in
    let b = c.args.buf.now in
    let z = on_some (at c.args.path.now (seen c.args.value.now)) row_in in
    let one : width k ≡ 1 = sym (c.width.ensures ∙ ap width c.kind.ensures.value) ∙ c.if-width-eq1.true in
    let same : image_of k ns ≡ swapped k ns = sym (single_swapped k ns one) in
    let e = c.row_copy.ensures in
    copied_ends (λ r. swapped r.0 r.1) z k ns c.in-Some.ensures b c.row_copy.new.self
    (copied_fits (λ r. swapped r.0 r.1) z k ns c.in-Some.ensures (state_of b) c.requires) (e.done ∙ ap (λ (o : List ℕ). b.done ++ o) same)
    (e.front ∙ ap (λ (o : List ℕ). drop (length o) b.front) same) e.tally e.spent

pub returns-else-width-eq1 : goal.returns-else-width-eq1
returns-else-width-eq1 c =
    let k = c.in-Some.row.now.kind in
    let ns = c.in-Some.row.now.numbers in
    let b = c.args.buf.now in
    let z = on_some (at c.args.path.now (seen c.args.value.now)) row_in in
    let is = turned_width k c.width.result (c.width.ensures ∙ ap width c.kind.ensures.value) c.if-width-eq1.false in
    let e = c.row_swap.ensures in
    copied_ends (λ r. swapped r.0 r.1) z k ns c.in-Some.ensures b c.row_swap.new.self
    (copied_fits (λ r. swapped r.0 r.1) z k ns c.in-Some.ensures (state_of b) c.requires)
    (e.done ∙ ap (λ (o : List ℕ). b.done ++ o) (image_turned k ns is)) (e.front ∙ ap (λ (n : ℕ). drop n b.front) (sym (length-turned k ns)))
    e.tally e.spent
