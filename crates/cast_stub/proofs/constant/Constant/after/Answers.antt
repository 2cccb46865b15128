use Rattle.std.proofs.Common.{rules, ◌≡◌, ◌-◌, ◌∙◌, ap, sym, refl, [], ℕ, List, drop}
use Rattle.std.proofs.lemmas.List.{take_rest}
use Rattle.cast_stub.proofs.Around.{left_of}
use Rattle.cast_stub.proofs.constant.Constant.after.Goals as goal

pub returns-then-stands_before : goal.returns-then-stands_before
returns-then-stands_before c =
    let none : c.of-after.result ≡ [] = search rules in
    let place : c.saturating_sub-at.result ≡ c.self.inside.at - c.args.many = search rules in
    let whole : c.as_slice.result.now ≡ c.self.inside.own = c.as_slice.ensures in
    left_of c.self.inside.own _ c.self.inside.at c.args.many c.saturating_sub-at.result c.self.inside.piece c.args.self.now
    c.of-after.result c.append_around.new.self (sym c.self.view_is) c.self.invariant (c.if-stands_before.ensures refl) none place
    (take_rest c.as_slice.result.now c.args.many ∙ ap (λ (z : List ℕ). drop c.args.many z) whole) c.in_ok-append_around.ensures
