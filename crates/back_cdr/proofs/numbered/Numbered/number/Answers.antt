use Rattle.std.proofs.Common.{◌≡◌, ◌∙◌, Some, sym, arith}
use Rattle.std.specs.List.{position_from}
use Rattle.std.specs.Str.{bytes_eq}
use Rattle.back_cdr.proofs.Picking.{below}
use Rattle.back_cdr.proofs.numbered.Numbered.number.Goals as goal

pub overflow_add-result : goal.overflow_add-result
overflow_add-result c =
    let found : position_from (bytes_eq c.new.result.name) 0 c.self.inside.names ≡ Some c.in-Some.place =
    sym c.pick.ensures.place ∙ c.in-Some.is in
    let within = below (bytes_eq c.new.result.name) 0 c.in-Some.place c.self.inside.names found in
    omega (arith, within, c.self.invariant)
