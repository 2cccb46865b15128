use Rattle.std.proofs.Common.{ap, ◌∙◌, sym, arith, ◌++◌, length, length-append, take, drop, ℕ, [], ◌≡◌, drop_of_length-le, append-nil}
use Rattle.kit_swap.specs.Swapped.{swapped}
use Rattle.kit_swap.proofs.Swapping.{swapped-none}
use Rattle.plain_wire.proofs.Steps.{breaks, goes_on}
use Rattle.plain_wire.proofs.RowImages.{piece_turned}
use Rattle.plain_wire.proofs.send_array.put_swapped.Goals as goal

pub returns-in_err-at : goal.returns-in_err-at
returns-in_err-at c =
    let n = c.min-n.result in
    let rest = c.loop-rest.rest.now in
    let (sent, here, even, whole) = piece_turned c.args.width n rest c.swap_numbers.new.out (drop n c.loop-rest.piece) c.requires.width
    c.loop-rest.invariant.whole c.min-n.ensures (c.swap_numbers.ensures ∙ ap (swapped c.args.width) c.split_at.ensures.front) in
    let cut = rw sent at c.in_err-at.ensures in
    breaks c.from_residual.result c.in_err-at.field-0.0 c.args.out.now c.loop-rest.out c.put.new.out _ _ _ c.args.place c.loop-rest.at
    c.from_residual.ensures.0 (c.loop-rest.invariant.reported ∙ ap (λ z. c.loop-rest.out ++ z) here) c.loop-rest.invariant.grown cut

pub loop-rest-preserved : goal.loop-rest-preserved
loop-rest-preserved c =
    let n = c.min-n.result in
    let rest = c.loop-rest.rest.now in
    let (sent, here, even, whole) = piece_turned c.args.width n rest c.swap_numbers.new.out (drop n c.loop-rest.piece) c.requires.width
    c.loop-rest.invariant.whole c.min-n.ensures (c.swap_numbers.ensures ∙ ap (swapped c.args.width) c.split_at.ensures.front) in
    let new = rw sent at c.in_ok-at.ensures.0 in
    let left = here ∙ ap (λ z. swapped c.args.width (take n rest) ++ swapped c.args.width z) (sym c.split_at.ensures.back) in
    record {
      reported = goes_on c.args.out.now _ c.loop-rest.out c.put.new.out _ _
          (λ (q : ℕ).
          swapped c.args.width c.split_at.result.1.now) c.loop-rest.at c.in_ok-at.at c.loop-rest.invariant.reported left new
          c.in_ok-at.ensures.1;
      placed = omega (arith, c.in_ok-at.ensures.1, c.loop-rest.invariant.placed);
      grown = omega (arith, ap length new, length-append c.loop-rest.out (swapped c.args.width (take n rest)), c.loop-rest.invariant.grown);
      whole = rw c.split_at.ensures.back whole;
    }

pub returns : goal.returns
returns c =
    let none : c.loop-rest.rest.now ≡ [] = drop_of_length-le c.loop-rest.rest.now {i = 0} (omega arith) in
    let end = c.loop-rest.invariant.reported
    ∙ ap (λ z. c.loop-rest.out ++ swapped c.args.width z) none ∙ ap (λ z.
    c.loop-rest.out ++ z) (swapped-none c.args.width c.requires.width) ∙ append-nil c.loop-rest.out in
    (sym end, c.loop-rest.invariant.placed)
