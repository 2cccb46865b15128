use Rattle.std.proofs.Common.{rules, ◌≤◌, ◌+◌}
use Rattle.kit_swap.proofs.Moving.{one_fits, next_start, more_numbers}
use Rattle.kit_swap.proofs.swap.swap_rest.Goals as goal

pub loop-at-preserved : goal.loop-at-preserved
loop-at-preserved c =
    let at = c.loop-at.at in
    let w = c.args.width in
    let fits : at + w ≤ _ = one_fits w at _ c.requires.width c.loop-at.invariant.start c.requires.whole (search rules) in
    record {
      start = next_start w at c.requires.width c.loop-at.invariant.start;
      within = fits;
      so =
          more_numbers w at _ _ c.requires.width c.loop-at.invariant.start fits _ _ c.loop-at.invariant.so c.swap_number.ensures;
    }
