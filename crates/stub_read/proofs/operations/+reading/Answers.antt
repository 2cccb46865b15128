use Rattle.std.proofs.Common.{◌≡◌, ◌∙◌, ◌-◌, sym, length, Err, codes, rules, FitsSigned}
use Rattle.std.proofs.lemmas.Int.{to_z-of_z}
use Rattle.std.specs.Int.{w128}
use Rattle.stub_read.specs.Reading.{word_at, both}
use Rattle.stub_read.specs.Words.{feed, integer_at}
use Rattle.stub_read.specs.Leads.{lead_at}
use Rattle.stub_read.specs.Operations.{cases_at, op_at, ops_at}
use Rattle.stub_read.proofs.Loops.{stands}
use Rattle.stub_read.proofs.Starting.{ops_start, turned, refused, gives_err, case_reads}
use Rattle.stub_read.proofs.operations.+reading.Goals as goal

pub cases-returns-in_default : goal.cases-returns-in_default
cases-returns-in_default t c =
    stands (word_at (codes "case ")) (λ u. both (integer_at feed) (ops_at c.args.levels)) (length c.args.text.now) c.items.counter
    c.items.items c.items.rest.now (cases_at (ops_at c.args.levels) c.args.text.now) c.items.invariant (sym c.in_default.ensures)

pub cases-items-preserved : goal.cases-items-preserved
cases-items-preserved t c =
    let fits : FitsSigned w128 c.in_ok-n.n = search rules in
    turned (word_at (codes "case ")) (λ u. both (integer_at feed) (ops_at c.args.levels)) (length c.args.text.now) c.items.counter
    c.items.items c.items.rest.now (cases_at (ops_at c.args.levels) c.args.text.now) tt c.in-Some.led.now c.case_of.result
    c.in_ok-body.tail.now c.push.new.self c.items.invariant c.items-test.true (sym c.in-Some.ensures)
    (case_reads (integer_at feed) (ops_at c.args.levels) c.in-Some.led.now c.in_ok-n.behind.now c.in_ok-body.tail.now c.in_ok-n.n
    c.in_ok-body.body c.case_of.result c.in_ok-n.ensures c.in_ok-body.ensures
    (c.case_of.ensures.number ∙ to_z-of_z w128 c.in_ok-n.n fits) c.case_of.ensures.body)
    c.in_ok-push.ensures.ok

pub ops-items-init : goal.ops-items-init
ops-items-init t c = ops_start c.args.levels c.args.text.now c.new-items.result c.if-levels-eq0.false c.new-items.ensures

pub ops-returns-in_default : goal.ops-returns-in_default
ops-returns-in_default t c =
    stands lead_at (op_at (c.args.levels - 1) (ops_at (c.args.levels - 1))) (length c.args.text.now) c.items.counter c.items.items
    c.items.rest.now (ops_at c.args.levels c.args.text.now) c.items.invariant (sym c.in_default.ensures)

pub ops-returns-in_err-item : goal.ops-returns-in_err-item
ops-returns-in_err-item t c =
    let same : c.from_residual.result ≡ Err c.in_err-item.field-0.0 = search rules in
    gives_err (λ x. (x.0, x.1.now)) c.from_residual.result c.in_err-item.field-0.0 (ops_at c.args.levels c.args.text.now) same
    (refused c.in_err-item.field-0.0 lead_at (op_at (c.args.levels - 1) (ops_at (c.args.levels - 1))) (length c.args.text.now)
    c.items.counter c.items.items c.items.rest.now (ops_at c.args.levels c.args.text.now) c.in-Some.lead c.in-Some.led.now
    c.items.invariant c.items-test.true (sym c.in-Some.ensures) c.in_err-item.ensures)

pub ops-items-preserved : goal.ops-items-preserved
ops-items-preserved t c =
    turned lead_at (op_at (c.args.levels - 1) (ops_at (c.args.levels - 1))) (length c.args.text.now) c.items.counter c.items.items
    c.items.rest.now (ops_at c.args.levels c.args.text.now) c.in-Some.lead c.in-Some.led.now c.in_ok-item.item c.in_ok-item.tail.now
    c.push.new.self c.items.invariant c.items-test.true (sym c.in-Some.ensures) c.in_ok-item.ensures c.in_ok-push.ensures.ok
