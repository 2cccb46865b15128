use Rattle.std.proofs.Common.{◌≡◌, ◌≤◌, ◌+◌, length, ap, ◌∙◌, arith}
use Rattle.std.proofs.lemmas.Grind.{common_steps}
use Rattle.kit_swap.specs.Swapped.{swapped}
use Rattle.kit_swap.proofs.Swapping.{length-swapped}
use Rattle.raw_buf.proofs.Views.{front-written_first, length-written}
use Rattle.raw_buf.proofs.buffer.SendBuf.store_swapped.Goals as goal

pub returns-clause-front : goal.returns-clause-front
returns-clause-front c =
    let memory = c.self.inside.memory in
    let image = c.args.image.now in
    rw (← c.self.view_is, c.swap_at.ensures)
    (front-written_first memory (swapped c.args.width image) c.self.inside.len c.self.inside.ahead (length image) c.self.invariant.0
    (length-swapped c.args.width image c.requires.width c.requires.whole) (grind (arith, common_steps)))

pub invariant_of-self : goal.invariant_of-self
invariant_of-self c =
    let memory = c.self.inside.memory in
    let image = c.args.image.now in
    let turned = swapped c.args.width image in
    let long : length turned ≡ length image = length-swapped c.args.width image c.requires.width c.requires.whole in
    let fits : c.self.inside.len + length image ≤ length memory = grind (arith, common_steps) in
    let same : length c.swap_at.new.memory ≡ length memory = ap length c.swap_at.ensures
    ∙ length-written memory turned c.self.inside.len (omega (arith, fits, long)) in
    (omega (arith, same, c.self.invariant.0), omega (arith, same, c.self.invariant.1))
