use Rattle.std.proofs.Common.{ap, ◌∙◌, sym, arith, ◌++◌, take, drop, [], ◌≡◌, drop_of_length-le, append-nil, append_assoc}
use Rattle.mint.specs.Kinds.{width}
use Rattle.mint.specs.Row.{Numbers, numbers_of}
use Rattle.mint.proofs.Images.{numbers-none}
use Rattle.kit_swap.specs.Swapped.{swapped}
use Rattle.kit_swap.proofs.Swapping.{swapped-none}
use Rattle.plain_wire.proofs.RowImages.{piece_turned}
use Rattle.plain_wire.proofs.RowWords.{numbers_piece, same_row}
use Rattle.plain_wire.proofs.read_row.row_of_swapped.Goals as goal

pub loop-rest-preserved : goal.loop-rest-preserved
loop-rest-preserved c =
    let k = c.args.kind in
    let n = c.min-n.result in
    let rest = c.loop-rest.rest.now in
    let turned = rw c.width.ensures at c.swap_numbers.ensures in
    let (sent, here, even, whole) = piece_turned (width k) n rest c.swap_numbers.new.out (drop n c.loop-rest.piece) c.requires.width
    c.loop-rest.invariant.whole c.min-n.ensures (turned ∙ ap (swapped (width k)) c.split_at.ensures.front) in
    let new = rw (sent, c.loop-rest.invariant.kind) at c.in_ok-append_image.ensures.ok in
    let split = numbers_piece k n rest c.requires.width even (omega arith) in
    record {
      kind = ap (λ (r : Numbers). r.kind) new;
      reported =
          ap (λ (r : Numbers). r.numbers ++ numbers_of k (swapped (width k) c.split_at.result.1.now)) new
          ∙ ap (λ z.
          (c.loop-rest.row.numbers ++ numbers_of k (swapped (width k) (take n rest))) ++ numbers_of k (swapped (width k) z))
          c.split_at.ensures.back
          ∙ append_assoc c.loop-rest.row.numbers _ _ ∙ ap (λ z. c.loop-rest.row.numbers ++ z) (sym split) ∙ c.loop-rest.invariant.reported;
      whole = rw c.split_at.ensures.back whole;
    }

pub returns : goal.returns
returns c =
    let k = c.args.kind in
    let none : c.loop-rest.rest.now ≡ [] = drop_of_length-le c.loop-rest.rest.now {i = 0} (omega arith) in
    let end = sym (append-nil c.loop-rest.row.numbers)
    ∙ ap (λ z.
    c.loop-rest.row.numbers ++ z) (sym (numbers-none k) ∙ ap (numbers_of k) (sym (swapped-none (width k) c.requires.width))
    ∙ ap (λ z. numbers_of k (swapped (width k) z)) (sym none)) ∙ c.loop-rest.invariant.reported in
    same_row c.loop-rest.row c.args.kind _ c.loop-rest.invariant.kind end
