use Rattle.std.proofs.Common.{◌≤◌, ◌+◌, arith, length, drop, length-drop, subst, sym}
use Rattle.std.proofs.lemmas.Grind.{common_steps}
use Rattle.kit_base.specs.Lines.{State}
use Rattle.kit_base.proofs.Searched.{searched-after}
use Rattle.kit_base.proofs.lines.Lines.refill.Goals as goal

pub invariant_of-self-2 : goal.invariant_of-self-2
invariant_of-self-2 g c =
    let s = c.self.inside in
    let kept = rw c.discard_prefix.ensures at c.in_ok-count.ensures.kept in
    let front : s.searched ≤ length (drop s.from s.buffer.items) = omega (arith, length-drop s.from s.buffer.items, c.self.invariant.3) in
    let count = rw c.discard_prefix.ensures at c.in_ok-count.ensures.count in
    let small : length (drop s.from s.buffer.items) ≤ s.longest + 1 =
    subst (λ (v : State). length v.kept ≤ v.longest + 1) (sym c.self.view_is) c.requires.small in (
      omega arith,
      grind (arith, common_steps),
      c.self.invariant.2,
      omega (arith, front, count.0),
      searched-after (drop s.from s.buffer.items) c.read_after.new.buffer.items s.searched kept front c.self.invariant.4,
      omega (arith, front, count.0, count.2, small, length-drop s.from s.buffer.items),
    )
