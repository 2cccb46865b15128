use Rattle.std.proofs.Common.{◌≡◌, ℕ, ◌+◌, ◌<◌, ◌≤◌, length, drop, true, false, sym, ap, ◌∙◌, arith, subst}
use Rattle.std.specs.Prelude.{Some, Ok}
use Rattle.kit_base.specs.Limits.{longest_message}
use Rattle.wire_frames.specs.First.{size_in, is_last}
use Rattle.wire_frames.specs.Passed.{Passed}
use Rattle.wire_frames.proofs.Walking.{end_short, end_long, end_cut, end_last, passed_on}
use Rattle.wire_frames.proofs.finding.record_end.Goals as goal

pub returns-in_default-clause-value : goal.returns-in_default-clause-value
returns-in_default-clause-value c =
    let m = c.loop-header.mark in
    let rest = drop m.at c.args.kept.now in
    let less : length (rest) < 4 = omega (arith, ap length c.rest_from-rest.ensures, c.in_default.ensures.none) in
    sym (end_short c.args.kept.now m.at m.sum c.loop-header.invariant less)

pub returns-then-mark-header-clause-value : goal.returns-then-mark-header-clause-value
returns-then-mark-header-clause-value c =
    let m = c.loop-header.mark in
    let rest = drop m.at c.args.kept.now in
    let h = c.in-Some.ensures.some in
    let there : 4 ≤ length (rest) = omega (arith, ap length c.rest_from-rest.ensures, h.0) in
    let size : c.in-Some.header.size ≡ size_in (rest) = h.1 ∙ ap size_in c.rest_from-rest.ensures in
    let far : longest_message < m.sum + size_in (rest) = omega (arith, size, c.if-mark-header.true) in
    sym (end_long c.args.kept.now m.at m.sum c.loop-header.invariant there far)

pub returns-then-rest-header-clause-value : goal.returns-then-rest-header-clause-value
returns-then-rest-header-clause-value c =
    let m = c.loop-header.mark in
    let rest = drop m.at c.args.kept.now in
    let h = c.in-Some.ensures.some in
    let long = ap length c.rest_from-rest.ensures in
    let there : 4 ≤ length (rest) = omega (arith, long, h.0) in
    let size : c.in-Some.header.size ≡ size_in (rest) = h.1 ∙ ap size_in c.rest_from-rest.ensures in
    let few : m.sum + size_in (rest) ≤ longest_message = omega (arith, size, c.if-mark-header.false, c.loop-header.invariant.few) in
    let less : length (rest) < 4 + size_in (rest) =
    omega (arith, size, long, h.0, c.if-rest-header.true) in
    sym (end_cut c.args.kept.now m.at m.sum c.loop-header.invariant there few less)

pub returns-then-header-clause-value : goal.returns-then-header-clause-value
returns-then-header-clause-value c =
    let m = c.loop-header.mark in
    let rest = drop m.at c.args.kept.now in
    let h = c.in-Some.ensures.some in
    let long = ap length c.rest_from-rest.ensures in
    let size : c.in-Some.header.size ≡ size_in (rest) = h.1 ∙ ap size_in c.rest_from-rest.ensures in
    let few : m.sum + size_in (rest) ≤ longest_message = omega (arith, size, c.if-mark-header.false, c.loop-header.invariant.few) in
    let there : 4 + size_in (rest) ≤ length (rest) =
    omega (arith, size, long, h.0, c.if-rest-header.false) in
    let last : is_last (rest) ≡ true =
    sym (ap is_last c.rest_from-rest.ensures) ∙ sym h.2 ∙ c.if-header.true in
    let place : m.at + 4 + c.in-Some.header.size ≡ m.at + (4 + size_in (rest)) = omega (arith, size) in
    ap (λ (n : ℕ). Ok (Some n)) place ∙ sym (end_last c.args.kept.now m.at m.sum c.loop-header.invariant there few last)

pub loop-header-preserved : goal.loop-header-preserved
loop-header-preserved c =
    let m = c.loop-header.mark in
    let rest = drop m.at c.args.kept.now in
    let h = c.in-Some.ensures.some in
    let long = ap length c.rest_from-rest.ensures in
    let size : c.in-Some.header.size ≡ size_in (rest) = h.1 ∙ ap size_in c.rest_from-rest.ensures in
    let few : m.sum + size_in (rest) ≤ longest_message = omega (arith, size, c.if-mark-header.false, c.loop-header.invariant.few) in
    let there : 4 + size_in (rest) ≤ length (rest) =
    omega (arith, size, long, h.0, c.if-rest-header.false) in
    let last : is_last (rest) ≡ false =
    sym (ap is_last c.rest_from-rest.ensures) ∙ sym h.2 ∙ c.if-header.false in
    subst (λ (n : ℕ). Passed c.args.kept.now (m.at + (4 + n)) (m.sum + n)) (sym size)
    (passed_on c.args.kept.now m.at m.sum c.loop-header.invariant there few last)
