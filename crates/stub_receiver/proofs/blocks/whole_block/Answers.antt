use Rattle.std.proofs.Common.{◌≡◌, ◌∙◌, ◌*◌, ap, sym, subst, length, arith, rules, Err}
use Rattle.mint.specs.Kinds.{width}
use Rattle.wire_def.specs.Arrays.{kind_of}
use Rattle.cast_stub.specs.Into.{fill_block}
use Rattle.stub_receiver.specs.Drawn.{array_at, drawn}
use Rattle.stub_receiver.specs.Ran.{Gave, place_of}
use Rattle.stub_receiver.proofs.Blocking.{place_after}
use Rattle.stub_receiver.proofs.Images.{failing, passing, whole_given, whole_refused}
use Rattle.stub_receiver.proofs.blocks.whole_block.Goals as goal

pub returns-in_err-tested-clause-done : goal.returns-in_err-tested-clause-done
returns-in_err-tested-clause-done c =
    let v = c.args.view.now in
    let k = c.kind_at-kind.result in
    let same : c.from_residual-in_err-tested.result ≡ Err c.in_err-tested.field-0.0 = search rules in
    let failed = failing c.are_digits.result c.in_err-tested.field-0.0 c.in_err-tested.ensures in
    subst (λ r. Gave (drawn c.args.mint.now) r (place_of c.row.new.self) (fill_block c.args.order
    (width (kind_of (array_at c.args.mint.now c.args.id))) (array_at c.args.mint.now c.args.id) c.args.n (place_of v)))
    (sym (same ∙ ap Err failed.1))
    (whole_refused (array_at c.args.mint.now c.args.id) c.args.order c.args.n (place_of v) k c.in_ok-row.row c.are_digits.result
    c.kind_at-kind.ensures c.requires (omega (arith, c.rest-rest.ensures.near, ap length c.rest-rest.ensures.value)) c.in_ok-row.ensures.row
    c.are_digits.ensures
    failed.0)

pub returns-clause-done : goal.returns-clause-done
returns-clause-done c =
    let v = c.args.view.now in
    let k = c.kind_at-kind.result in
    let e = c.in_ok-row.ensures in
    whole_given (array_at c.args.mint.now c.args.id) c.args.order c.args.n (place_of v) k c.in_ok-row.row c.are_digits.result
    c.kind_at-kind.ensures c.requires (omega (arith, c.rest-rest.ensures.near, ap length c.rest-rest.ensures.value)) e.row
    c.are_digits.ensures
    c.args.mint.now (place_of c.row.new.self) (passing c.are_digits.result _ c.in_ok-tested.ensures)
    (place_after v c.row.new.self (c.args.n * width k) e.pos e.near e.tests e.octets)
