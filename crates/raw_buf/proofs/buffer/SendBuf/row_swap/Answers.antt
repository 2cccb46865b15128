use Rattle.std.proofs.Common.{◌≡◌, ◌%◌, ◌++◌, ap, ◌∙◌, length, take, drop, arith}
use Rattle.mint.specs.Kinds.{width}
use Rattle.mint.specs.Row.{image_of}
use Rattle.kit_swap.specs.Swapped.{swapped}
use Rattle.raw_buf.proofs.Images.{image_whole, swapped_fits, swapped_done, swapped_left}
use Rattle.raw_buf.proofs.buffer.SendBuf.row_swap.Goals as goal

pub store_swapped-requires-clause-whole : goal.store_swapped-requires-clause-whole
store_swapped-requires-clause-whole c =
    let wide : c.width.result ≡ width c.args.row.now.kind = c.width.ensures ∙ ap width c.kind.ensures.value in
    (λ i. length (c.image-image.ensures.value i) % wide i) ∙ image_whole c.args.row.now.kind c.args.row.now.numbers

pub pass-requires : goal.pass-requires
pass-requires c =
    let o = image_of c.args.row.now.kind c.args.row.now.numbers in
    let f = c.args.self.now.front in
    let wide : c.width.result ≡ width c.args.row.now.kind = c.width.ensures ∙ ap width c.kind.ensures.value in
    let so : c.store_swapped.new.self.front ≡ swapped (width c.args.row.now.kind) o ++ drop (length o) f =
    c.store_swapped.ensures.front
    ∙ (λ i. swapped (wide i) (c.image-image.ensures.value i) ++ drop (length (c.image-image.ensures.value i)) f) in
    omega (
      arith,
      ap length c.image-image.ensures.value,
      swapped_fits (width c.args.row.now.kind) o f c.store_swapped.new.self.front
          c.requires.width (image_whole c.args.row.now.kind c.args.row.now.numbers) so,
    )

pub returns-clause-done : goal.returns-clause-done
returns-clause-done c =
    let o = image_of c.args.row.now.kind c.args.row.now.numbers in
    let f = c.args.self.now.front in
    let wide : c.width.result ≡ width c.args.row.now.kind = c.width.ensures ∙ ap width c.kind.ensures.value in
    let so : c.store_swapped.new.self.front ≡ swapped (width c.args.row.now.kind) o ++ drop (length o) f =
    c.store_swapped.ensures.front
    ∙ (λ i. swapped (wide i) (c.image-image.ensures.value i) ++ drop (length (c.image-image.ensures.value i)) f) in
    let there = swapped_done (width c.args.row.now.kind) o f c.store_swapped.new.self.front c.requires.width
    (image_whole c.args.row.now.kind c.args.row.now.numbers) so in
    c.count_row.ensures.done ∙ c.pass.ensures.done
    ∙ (λ i. c.store_swapped.ensures.done i ++ take (length (c.image-image.ensures.value i)) c.store_swapped.new.self.front) ∙ ap (λ z.
    c.args.self.now.done ++ z) there

pub returns-clause-front : goal.returns-clause-front
returns-clause-front c =
    let o = image_of c.args.row.now.kind c.args.row.now.numbers in
    let f = c.args.self.now.front in
    let wide : c.width.result ≡ width c.args.row.now.kind = c.width.ensures ∙ ap width c.kind.ensures.value in
    let so : c.store_swapped.new.self.front ≡ swapped (width c.args.row.now.kind) o ++ drop (length o) f =
    c.store_swapped.ensures.front
    ∙ (λ i. swapped (wide i) (c.image-image.ensures.value i) ++ drop (length (c.image-image.ensures.value i)) f) in
    let there = swapped_left (width c.args.row.now.kind) o f c.store_swapped.new.self.front c.requires.width
    (image_whole c.args.row.now.kind c.args.row.now.numbers) so in
    c.count_row.ensures.front ∙ c.pass.ensures.front
    ∙ ap (λ z. drop (length z) c.store_swapped.new.self.front) c.image-image.ensures.value ∙ there
