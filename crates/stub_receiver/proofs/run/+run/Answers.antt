use Rattle.std.proofs.Common.{suc, ◌-◌, arith, refl, sym, ap, subst, ◌∙◌, ◌≡◌, rules, FitsSigned, ◌<◌, Some, Err}
use Rattle.std.specs.Int.{w128}
use Rattle.std.proofs.lemmas.Int.{to_z-of_z}
use Rattle.std.specs.Option.{option_copied}
use Rattle.mint.specs.Kinds.{IsInRange}
use Rattle.mint.specs.Types.{type_at}
use Rattle.mint.specs.Values.{Val, seen, arm}
use Rattle.wire_def.specs.Arrays.{kind_of}
use Rattle.cast_stub.specs.RecvBlock.{finish, op_seen, code_seen, cases_seen}
use Rattle.cast_stub.specs.Draft.{fresh, digit}
use Rattle.cast_stub.specs.Fill.{fill, fill_case, fill_arm, settled, settled_number}
use Rattle.cast_stub.specs.Got.{calls_of, sub_at}
use Rattle.cast_stub.specs.Runs.{Run, Filler, Holds}
use Rattle.stub_receiver.specs.Drawn.{drawn, array_at}
use Rattle.stub_receiver.specs.Ran.{place_of, Gave, Ran}
use Rattle.stub_receiver.proofs.Drafting.{drawn-Digit}
use Rattle.stub_receiver.specs.Sizes.{code_size}
use Rattle.stub_receiver.proofs.Sizing.{op-in-code, cases-in-op, called-is-less}
use Rattle.stub_receiver.proofs.Within.{put_fits, put_again}
use Rattle.stub_receiver.proofs.Running.{op_holds, op_gives, op_halts, settle_holds, turn_holds, item_turn, each_acted, some_acted, switch_acted, part_there, part_holds, part_gives, part_halts, no_arm, arm_given, arm_halts, digit_there, no_digit, digit_is, values_given, numbers_given, number_turn, numbers_end, called_is}
use Rattle.stub_receiver.proofs.Flattening.{flat_is}
use Rattle.stub_receiver.proofs.run.+run.Goals as goal

pub act-returns-in-Each-clause-done : goal.act-returns-in-Each-clause-done
act-returns-in-Each-clause-done t c = subst (λ (f : Filler). Gave (drawn c.args.machine.now.mint.now) c.run_each.result
    (place_of c.run_each.new.view) (f (drawn c.args.machine.now.mint.now c.args.part) (place_of c.args.view.now)))
    (sym (each_acted (calls_of c.args.machine.now.subs.now c.args.calls) c.args.op.now c.in-Each.field-0 c.in-Each.body c.in-Each.is))
    c.run_each.ensures.done

pub act-returns-in-Some-clause-done : goal.act-returns-in-Some-clause-done
act-returns-in-Some-clause-done t c = subst (λ (f : Filler). Gave (drawn c.args.machine.now.mint.now) c.run_some.result
    (place_of c.run_some.new.view) (f (drawn c.args.machine.now.mint.now c.args.part) (place_of c.args.view.now)))
    (sym (some_acted (calls_of c.args.machine.now.subs.now c.args.calls) c.args.op.now c.in-Some.field-0 c.in-Some.body c.in-Some.is))
    c.run_some.ensures.done

pub act-run_switch-requires : goal.act-run_switch-requires
act-run_switch-requires t c = (
  omega (arith, cases-in-op c.args.op.now c.in-Switch.field-0 c.in-Switch.cases c.in-Switch.other c.in-Switch.is),
  subst (λ (f : Filler). Holds (f (drawn c.args.machine.now.mint.now c.args.part) (place_of c.args.view.now)))
      (switch_acted (calls_of c.args.machine.now.subs.now c.args.calls) c.args.op.now c.in-Switch.field-0 c.in-Switch.cases
      c.in-Switch.other c.in-Switch.is) c.requires,
)

pub act-returns-in-Switch-clause-done : goal.act-returns-in-Switch-clause-done
act-returns-in-Switch-clause-done t c = subst (λ (f : Filler). Gave (drawn c.args.machine.now.mint.now) c.run_switch.result
    (place_of c.run_switch.new.view) (f (drawn c.args.machine.now.mint.now c.args.part) (place_of c.args.view.now)))
    (sym (switch_acted (calls_of c.args.machine.now.subs.now c.args.calls) c.args.op.now c.in-Switch.field-0 c.in-Switch.cases
    c.in-Switch.other c.in-Switch.is)) c.run_switch.ensures.done

pub run_at-exchange_part-requires-clause-there : goal.run_at-exchange_part-requires-clause-there
run_at-exchange_part-requires-clause-there t c = part_there (calls_of c.args.machine.now.subs.now c.args.calls) c.args.op.now
    c.args.path.now c.as_slice-path.result.now (drawn c.args.machine.now.mint.now c.args.draft.now) (place_of c.args.view.now)
    c.requires.path c.as_slice-path.ensures c.requires.holds

pub run_at-act-requires : goal.run_at-act-requires
run_at-act-requires t c = (
  omega arith,
  part_holds (calls_of c.args.machine.now.subs.now c.args.calls) c.args.op.now c.args.path.now c.as_slice-path.result.now
      (drawn c.args.machine.now.mint.now c.args.draft.now) (place_of c.args.view.now) c.requires.path c.as_slice-path.ensures _
      c.requires.holds c.exchange_part.ensures.taken,
)

pub run_at-returns-in_err-new-clause-done : goal.run_at-returns-in_err-new-clause-done
run_at-returns-in_err-new-clause-done t c =
    let same : c.from_residual.result ≡ Err c.in_err-new.field-0.0 = search rules in
    subst (λ r. Ran r (drawn c.args.machine.now.mint.now c.exchange_part.new.draft) (place_of c.act.new.view)
    (fill (calls_of c.args.machine.now.subs.now c.args.calls) (op_seen c.args.op.now finish)
    (drawn c.args.machine.now.mint.now c.args.draft.now) (place_of c.args.view.now))) (sym same)
    (part_halts (calls_of c.args.machine.now.subs.now c.args.calls) c.args.op.now c.args.path.now c.as_slice-path.result.now
    (drawn c.args.machine.now.mint.now c.args.draft.now) (place_of c.args.view.now) c.requires.path c.as_slice-path.ensures _ _ _
    c.in_err-new.field-0.0 (drawn c.args.machine.now.mint.now) c.exchange_part.ensures.taken c.in_err-new.ensures.done)

pub run_at-exchange_part-requires-2-clause-there : goal.run_at-exchange_part-requires-2-clause-there
run_at-exchange_part-requires-2-clause-there t c = put_fits c.as_slice-path.result.now _
    (drawn c.args.machine.now.mint.now c.args.draft.now) (drawn c.args.machine.now.mint.now c.exchange_part.new.draft)
    c.exchange_part.ensures.put

pub run_at-returns-clause-done : goal.run_at-returns-clause-done
run_at-returns-clause-done t c = part_gives (calls_of c.args.machine.now.subs.now c.args.calls) c.args.op.now c.args.path.now
    c.as_slice-path.result.now (drawn c.args.machine.now.mint.now c.args.draft.now) (place_of c.args.view.now) c.requires.path
    c.as_slice-path.ensures c.as_slice-path.result.now _ _ _ _ _ c.as_slice-path.ensures c.exchange_part.ensures.taken
    (λ z. put_again c.as_slice-path.result.now _ z _ _ c.exchange_part.ensures.put) c.in_ok-new.ensures.done
    c.exchange_part-2.ensures.put

pub run_block-run_op-requires : goal.run_block-run_op-requires
run_block-run_op-requires t c = (
  omega (
    arith,
    op-in-code c.as_slice-op-items.result.now c.loop-op.op-index c.op-item.result c.loop-op-test.true c.op-item.is,
    ap code_size c.as_slice-op-items.ensures,
  ),
  op_holds (calls_of c.args.machine.now.subs.now c.args.calls) c.args.code.now c.as_slice-op-items.result.now c.loop-op.op-index
      c.op-item.result _ _ _ _ c.as_slice-op-items.ensures c.loop-op-test.true c.op-item.is c.loop-op.invariant.0 c.requires,
)

pub run_block-returns-in_err-run_op-clause-done : goal.run_block-returns-in_err-run_op-clause-done
run_block-returns-in_err-run_op-clause-done t c =
    let same : c.from_residual.result ≡ Err c.in_err-run_op.field-0.0 = search rules in
    subst (λ r. Ran r (drawn c.args.machine.now.mint.now c.run_op.new.draft) (place_of c.run_op.new.view)
    (fill (calls_of c.args.machine.now.subs.now c.args.calls) (code_seen c.args.code.now)
    (drawn c.args.machine.now.mint.now c.args.draft.now) (place_of c.args.view.now))) (sym same)
    (op_halts (calls_of c.args.machine.now.subs.now c.args.calls) c.args.code.now c.as_slice-op-items.result.now c.loop-op.op-index
    c.op-item.result _ _ _ _ c.as_slice-op-items.ensures c.loop-op-test.true c.op-item.is c.loop-op.invariant.0 _ _
    c.in_err-run_op.field-0.0 c.in_err-run_op.ensures.done)

pub run_block-loop-op-preserved : goal.run_block-loop-op-preserved
run_block-loop-op-preserved t c = (
  op_gives (calls_of c.args.machine.now.subs.now c.args.calls) c.args.code.now
      c.as_slice-op-items.result.now c.loop-op.op-index c.op-item.result _ _ _ _ c.as_slice-op-items.ensures c.loop-op-test.true
      c.op-item.is
      c.loop-op.invariant.0 _ _ c.in_ok-run_op.ensures.done,
  c.in_ok-run_op.ensures.octets ∙ c.loop-op.invariant.1,
)

pub run_called-run_block-requires : goal.run_called-run_block-requires
run_called-run_block-requires t c =
    let subs = c.args.machine.now.subs.now in
    let deeper : c.args.calls ≡ suc (c.args.calls - 1) = omega arith in
    let less = called-is-less subs c.args.calls (c.args.calls - 1) c.args.k c.in-Some.code.now deeper (sym c.in-Some.ensures) in (
      omega (arith, less),
      subst Holds
          (called_is subs c.args.calls (c.args.calls - 1) c.args.k c.in-Some.code.now (drawn c.args.machine.now.mint.now c.args.part)
          (place_of c.args.view.now) deeper (sym c.in-Some.ensures)) c.requires,
    )

pub run_digit-settle-requires : goal.run_digit-settle-requires
run_digit-settle-requires t c = digit_there ((fill (calls_of c.args.machine.now.subs.now c.args.calls) (code_seen c.args.body.now))
    (digit (array_at c.args.machine.now.mint.now c.args.id)) (place_of c.args.view.now)) _ _
    (ap (λ d. (fill (calls_of c.args.machine.now.subs.now c.args.calls) (code_seen c.args.body.now)) d (place_of c.args.view.now))
    (sym (drawn-Digit c.args.machine.now.mint.now c.args.id)) ∙ c.in_ok-run_block.ensures.done) c.requires

pub run_digit-unreachable-requires : goal.run_digit-unreachable-requires
run_digit-unreachable-requires t c = no_digit ((fill (calls_of c.args.machine.now.subs.now c.args.calls) (code_seen c.args.body.now))
    (digit (array_at c.args.machine.now.mint.now c.args.id)) (place_of c.args.view.now)) _ _ _
    (ap (λ d. (fill (calls_of c.args.machine.now.subs.now c.args.calls) (code_seen c.args.body.now)) d (place_of c.args.view.now))
    (sym (drawn-Digit c.args.machine.now.mint.now c.args.id)) ∙ c.in_ok-run_block.ensures.done) c.in_ok-value.ensures
    (sym c.as_num.ensures ∙ c.in-None.is) c.requires

pub run_digit-returns-clause-ranged : goal.run_digit-returns-clause-ranged
run_digit-returns-clause-ranged t c =
    let fits : FitsSigned w128 c.in-Some.n = search rules in
    subst (IsInRange (kind_of (array_at c.args.machine.now.mint.now c.args.id))) (sym (to_z-of_z w128 _ fits))
    (digit_is (array_at c.args.machine.now.mint.now c.args.id) (sub_at c.args.machine.now.subs.now) c.args.calls (code_seen c.args.body.now)
    (place_of c.args.view.now) _ _ _ _ _ c.in_ok-run_block.ensures.done (drawn-Digit c.args.machine.now.mint.now c.args.id)
    c.in_ok-value.ensures (sym c.as_num.ensures ∙ c.in-Some.is))

pub run_each-returns-in-Values-clause-done : goal.run_each-returns-in-Values-clause-done
run_each-returns-in-Values-clause-done t c = values_given c.args.machine.now.mint.now
    (fill (calls_of c.args.machine.now.subs.now c.args.calls) (code_seen c.args.body.now)) (drawn c.args.machine.now.mint.now c.args.part)
    c.in-Values.item c.in-Values.n (place_of c.args.view.now) c.in-Values.ensures c.in_ok-values-in-Values.values _
    c.in_ok-values-in-Values.ensures.done

pub run_each-returns-in-Numbers-clause-done : goal.run_each-returns-in-Numbers-clause-done
run_each-returns-in-Numbers-clause-done t c = numbers_given c.args.machine.now.mint.now
    (fill (calls_of c.args.machine.now.subs.now c.args.calls) (code_seen c.args.body.now)) (drawn c.args.machine.now.mint.now c.args.part)
    c.in-Numbers.id c.in-Numbers.n (place_of c.args.view.now) c.in-Numbers.ensures c.in_ok-row-in-Numbers.row _
    c.in_ok-row-in-Numbers.ensures.done c.in_ok-row-in-Numbers.ensures.kind

pub run_fresh-settle-requires : goal.run_fresh-settle-requires
run_fresh-settle-requires t c = settle_holds ((fill (calls_of c.args.machine.now.subs.now c.args.calls) (code_seen c.args.body.now))
    (fresh (type_at c.args.machine.now.mint.now c.args.item)) (place_of c.args.view.now)) _ _
    (ap (λ d. (fill (calls_of c.args.machine.now.subs.now c.args.calls) (code_seen c.args.body.now)) d (place_of c.args.view.now))
    (sym c.in_ok-draft.ensures) ∙ c.in_ok-run_block.ensures.done) c.requires

pub run_fresh-run_flat-requires : goal.run_fresh-run_flat-requires
run_fresh-run_flat-requires t c = subst Holds (flat_is c.args.machine.now.mint.now (calls_of c.args.machine.now.subs.now c.args.calls)
    c.args.body.now c.in-Some.wanted c.in-Some.size c.in-Some.gets.now c.args.item (place_of c.args.view.now) c.in-Some.ensures) c.requires

pub run_fresh-returns-in-Some-clause-done : goal.run_fresh-returns-in-Some-clause-done
run_fresh-returns-in-Some-clause-done t c = subst (λ (x : Run Val). Gave seen c.run_flat.result (place_of c.run_flat.new.view) x)
    (sym (flat_is c.args.machine.now.mint.now (calls_of c.args.machine.now.subs.now c.args.calls) c.args.body.now c.in-Some.wanted
    c.in-Some.size c.in-Some.gets.now c.args.item (place_of c.args.view.now) c.in-Some.ensures)) c.run_flat.ensures.done

pub run_items-run_fresh-requires : goal.run_items-run_fresh-requires
run_items-run_fresh-requires t c =
    let lt : c.loop.counter < c.args.n = omega (arith, c.loop-test.true) in (
      omega arith,
      turn_holds (λ u. settled ((fill (calls_of c.args.machine.now.subs.now c.args.calls) (code_seen c.args.body.now))
          (fresh (type_at c.args.machine.now.mint.now c.args.item)) u)) c.args.n c.loop.counter _ _ _ lt c.loop.invariant.0 c.requires,
    )

pub run_items-loop-preserved : goal.run_items-loop-preserved
run_items-loop-preserved t c =
    let lt : c.loop.counter < c.args.n = omega (arith, c.loop-test.true) in (
      item_turn (λ u. settled ((fill (calls_of c.args.machine.now.subs.now c.args.calls) (code_seen c.args.body.now))
          (fresh (type_at c.args.machine.now.mint.now c.args.item)) u)) c.args.n c.loop.counter _ _ _ lt c.loop.invariant.0 c.loop.values _
          c.in_ok-run_fresh.field-0 _ refl c.in_ok-run_fresh.ensures.done c.in_ok-push.ensures.ok,
      c.in_ok-run_fresh.ensures.octets ∙ c.loop.invariant.1,
    )

pub run_numbers-run_digit-requires : goal.run_numbers-run_digit-requires
run_numbers-run_digit-requires t c =
    let lt : c.loop.counter < c.args.n = omega (arith, c.loop-test.true) in (
      omega arith,
      turn_holds (λ u. settled_number ((fill (calls_of c.args.machine.now.subs.now c.args.calls) (code_seen c.args.body.now))
          (digit (array_at c.args.machine.now.mint.now c.args.id)) u)) c.args.n c.loop.counter _ _ _ lt c.loop.invariant.0 c.requires,
    )

pub run_numbers-loop-preserved : goal.run_numbers-loop-preserved
run_numbers-loop-preserved t c =
    let fits : FitsSigned w128 c.in_ok-run_digit.field-0 = search rules in
    let lt : c.loop.counter < c.args.n = omega (arith, c.loop-test.true) in
    let next = number_turn (λ u. settled_number ((fill (calls_of c.args.machine.now.subs.now c.args.calls) (code_seen c.args.body.now))
    (digit (array_at c.args.machine.now.mint.now c.args.id)) u)) c.args.n c.loop.counter _ _ _ lt c.loop.invariant.0 _ c.loop.row.kind _
    c.in_ok-run_digit.field-0 _ _ c.in_ok-run_digit.ensures.done c.loop.invariant.1 (to_z-of_z w128 _ fits) c.in_ok-push.ensures.ok in
    (next.0, next.1, c.in_ok-run_digit.ensures.octets ∙ c.loop.invariant.2)

pub run_numbers-returns-clause-done : goal.run_numbers-returns-clause-done
run_numbers-returns-clause-done t c = numbers_end
    (λ u. settled_number ((fill (calls_of c.args.machine.now.subs.now c.args.calls) (code_seen c.args.body.now))
    (digit (array_at c.args.machine.now.mint.now c.args.id)) u)) c.args.n c.loop.counter _ _ _ (omega (arith, c.loop-test.false))
    c.loop.invariant.0

pub run_switch-unreachable-requires : goal.run_switch-unreachable-requires
run_switch-unreachable-requires t c =
    let fits : FitsSigned w128 c.in-Tagged.n = search rules in
    no_arm c.args.machine.now.mint.now (calls_of c.args.machine.now.subs.now c.args.calls) c.args.cases.now c.args.other.now c.args.part
    c.in-Tagged.n _ c.in-Tagged.item _ (place_of c.args.view.now) c.in-Tagged.is (to_z-of_z w128 _ fits) c.body_of.ensures.picks
    (ap option_copied c.in_default.is) c.requires

pub run_switch-returns-in_err-value-in-Tagged-clause-done : goal.run_switch-returns-in_err-value-in-Tagged-clause-done
run_switch-returns-in_err-value-in-Tagged-clause-done t c =
    let fits : FitsSigned w128 c.in-Tagged.n = search rules in
    let same : c.from_residual.result ≡ Err c.in_err-value-in-Tagged.field-0.0 = search rules in
    subst (λ r. Gave (drawn c.args.machine.now.mint.now) r (place_of c.run_fresh.new.view)
    (fill_arm (fill_case (calls_of c.args.machine.now.subs.now c.args.calls) (cases_seen c.args.cases.now c.args.other.now))
    (drawn c.args.machine.now.mint.now c.args.part) (place_of c.args.view.now))) (sym same)
    (arm_halts c.args.machine.now.mint.now (calls_of c.args.machine.now.subs.now c.args.calls) c.args.cases.now c.args.other.now c.args.part
    c.in-Tagged.n _ c.in-Tagged.item (Some c.in-Some.body.now) (place_of c.args.view.now) c.in-Tagged.is (to_z-of_z w128 _ fits)
    c.in-Some.ensures.picks seen (drawn c.args.machine.now.mint.now) _ _ c.in_err-value-in-Tagged.field-0.0
    c.in_err-value-in-Tagged.ensures.done)

pub run_switch-returns-clause-done : goal.run_switch-returns-clause-done
run_switch-returns-clause-done t c =
    let fits : FitsSigned w128 c.in-Tagged.n = search rules in
    arm_given c.args.machine.now.mint.now (calls_of c.args.machine.now.subs.now c.args.calls) c.args.cases.now c.args.other.now c.args.part
    c.in-Tagged.n _ c.in-Tagged.item (Some c.in-Some.body.now) (place_of c.args.view.now) c.in-Tagged.is (to_z-of_z w128 _ fits)
    c.in-Some.ensures.picks (seen c.in_ok-value-in-Tagged.value) c.in_ok-arm-in-Tagged.field-0 _ c.in_ok-value-in-Tagged.ensures.done
    (c.in_ok-arm-in-Tagged.ensures ∙ ap (λ k. arm k (seen c.in_ok-value-in-Tagged.value)) (to_z-of_z w128 _ fits))
