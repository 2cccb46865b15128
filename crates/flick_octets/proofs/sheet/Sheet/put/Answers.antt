use Rattle.std.proofs.Common.{rules, ◌≤◌, refl}
use Rattle.flick_octets.proofs.Laying.{laid_more}
use Rattle.flick_octets.proofs.sheet.Sheet.put.Goals as goal

pub invariant_of-self-2 : goal.invariant_of-self-2
invariant_of-self-2 c =
    let within : c.self.inside.end ≤ c.args.end = search (rules, c.requires, c.self.view_is) in
    rw c.in_ok-push.ensures.items (laid_more 0 c.self.inside.entries.items c.self.inside.end _ c.self.invariant refl within)
