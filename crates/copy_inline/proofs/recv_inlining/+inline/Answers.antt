use Rattle.std.proofs.Common.{◌≡◌, ◌<◌, ℤ, List, ◌++◌, length, get_or, refl, sym, ap, ◌∙◌, subst, arith}
use Rattle.std.specs.Prelude.{OnOk}
use Rattle.cast_stub.specs.declared.recv.RecvOp.{RecvOp}
use Rattle.cast_stub.specs.declared.recv.RecvOp.TheVariants as variants
use Rattle.cast_stub.specs.RecvAppend.{append}
use Rattle.cast_stub.specs.RecvBlock.{Recv, finish, op_seen, code_seen, cases_seen}
use Rattle.cast_stub.proofs.Directions.{receives}
use Rattle.cast_stub.proofs.Trees.{one_more, bodies_turn, bodies_same, pair_is, switch_is, each_has, there_has, switch_has, call_has, without_last, last_alone, one_body}
use Rattle.copy_inline.specs.RecvSpliced.{inlined, spliced, cases_spliced}
use Rattle.cast_stub.specs.Got.{sub_at}
use Rattle.copy_inline.specs.RecvNested.{CasesAre, IsShallow, Within}
use Rattle.copy_inline.proofs.RecvShallow.{has_level, one_op, of_each}
use Rattle.copy_inline.proofs.RecvEmitting.{placed, placed-append, goes_into}
use Rattle.copy_inline.proofs.recv_inlining.+inline.Goals as goal

pub put_code-loop-op-preserved : goal.put_code-loop-op-preserved
put_code-loop-op-preserved t c =
    let inl = inlined (sub_at c.args.subs.now) c.args.calls in
    one_more receives (placed inl c.args.prefix.now) (placed-append inl c.args.prefix.now) _ _ c.op-item.result _ _ _
    c.loop-op-test.true c.op-item.is
    c.loop-op.invariant c.in_ok-put_op.ensures

pub bodies_of-loop-case-preserved : goal.bodies_of-loop-case-preserved
bodies_of-loop-case-preserved t c =
    bodies_turn receives (spliced (inlined (sub_at c.args.subs.now) c.args.calls)) c.as_slice-case-items.result.now
    c.loop-case.case-index c.case-item.result
    c.case_of.result _ _ c.in_ok-body.body c.loop-case-test.true c.case-item.is c.loop-case.invariant
    (pair_is c.case_of.result c.case-item.result.0 c.in_ok-body.body c.case_of.ensures.number c.case_of.ensures.body) c.in_ok-body.ensures
    c.in_ok-push.ensures.ok

pub put_op-returns-in_ok-switch-in-Switch : goal.put_op-returns-in_ok-switch-in-Switch
put_op-returns-in_ok-switch-in-Switch t c =
    let inl = inlined (sub_at c.args.subs.now) c.args.calls in
    subst (λ (b : Recv). OnOk c.add-in-Switch.result (code_seen c.add-in-Switch.new.out ≡ append (code_seen c.args.out.now) b))
    (ap (λ (o : RecvOp). op_seen o finish) c.in_ok-switch-in-Switch.ensures
    ∙ switch_is receives (placed inl c.args.prefix.now) c.args.op.now c.in-Switch.path _ (c.args.prefix.now ++ c.in-Switch.path)
    c.deref.result.now _
    c.in-Switch.other _ (cases_spliced inl (cases_seen c.deref.result.now c.in-Switch.other)) (c.in-Switch.is
    ∙ ap (λ (l : List (ℤ × List RecvOp)). variants.Switch c.in-Switch.path l c.in-Switch.other) (sym c.deref.ensures)) refl
    c.in_ok-part-in-Switch.ensures
    (bodies_same receives (spliced inl) (cases_spliced inl) (goes_into inl) _ _ _ _ c.in_ok-bodies-in-Switch.ensures
    c.in_ok-last-in-Switch.ensures))
    c.add-in-Switch.ensures

pub bodies_of-body_of-requires : goal.bodies_of-body_of-requires
bodies_of-body_of-requires t c = (
  omega arith,
  (
    c.requires.calls,
    one_body receives (IsShallow (sub_at c.args.subs.now) c.args.nested) (CasesAre (IsShallow (sub_at c.args.subs.now) c.args.nested))
        (of_each (IsShallow (sub_at c.args.subs.now) c.args.nested)) c.args.cases.now c.loop-case.case-index c.case-item.result
        c.case-item.result
        (subst (λ (l : List (ℤ × List RecvOp)). c.loop-case.case-index < length l) c.as_slice-case-items.ensures c.loop-case-test.true)
        (subst (λ (l : List (ℤ × List RecvOp)). c.case-item.result ≡ get_or l c.loop-case.case-index c.case-item.result)
        c.as_slice-case-items.ensures c.case-item.is)
        c.requires.levels,
  ),
)

pub put_code-put_op-requires : goal.put_code-put_op-requires
put_code-put_op-requires t c =
    let few = has_level (sub_at c.args.subs.now) c.args.nested (code_seen c.args.code.now) c.requires.levels in (
      omega (arith, few),
      (
        omega (arith, few, c.requires.calls),
        one_op (sub_at c.args.subs.now) c.args.nested c.args.code.now c.loop-op.op-index c.op-item.result c.op-item.result
            (subst (λ (l : List RecvOp). c.loop-op.op-index < length l) c.as_slice-op-items.ensures c.loop-op-test.true)
            (subst (λ (l : List RecvOp). c.op-item.result ≡ get_or l c.loop-op.op-index c.op-item.result) c.as_slice-op-items.ensures
            c.op-item.is)
            c.requires.levels,
      ),
    )

pub put_op-body_of-requires : goal.put_op-body_of-requires
put_op-body_of-requires t c = (
  omega arith,
  (
    omega (arith, c.requires.calls),
    (each_has receives (Within (sub_at c.args.subs.now) (IsShallow (sub_at c.args.subs.now) c.args.nested)) c.args.op.now
        c.requires.levels c.in-Each.path
        c.in-Each.body c.in-Each.is).0,
  ),
)

pub put_op-body_of-requires-in-Some : goal.put_op-body_of-requires-in-Some
put_op-body_of-requires-in-Some t c = (
  omega arith,
  (
    omega (arith, c.requires.calls),
    (there_has receives (Within (sub_at c.args.subs.now) (IsShallow (sub_at c.args.subs.now) c.args.nested)) c.args.op.now
        c.requires.levels c.in-Some.path
        c.in-Some.body c.in-Some.is).0,
  ),
)

pub put_op-bodies_of-requires : goal.put_op-bodies_of-requires
put_op-bodies_of-requires t c = (
  omega arith,
  (
    omega (arith, c.requires.calls),
    without_last receives (IsShallow (sub_at c.args.subs.now) c.args.nested) (CasesAre (IsShallow (sub_at c.args.subs.now)
        c.args.nested)) (of_each (IsShallow (sub_at c.args.subs.now) c.args.nested)) c.deref.result.now c.in-Switch.other
        (switch_has receives (Within (sub_at c.args.subs.now) (IsShallow (sub_at c.args.subs.now) c.args.nested)) c.args.op.now
        c.requires.levels c.in-Switch.path c.deref.result.now c.in-Switch.other (c.in-Switch.is
        ∙ ap (λ (l : List (ℤ × List RecvOp)). variants.Switch c.in-Switch.path l c.in-Switch.other) (sym c.deref.ensures))).0,
  ),
)

pub put_op-last_of-requires : goal.put_op-last_of-requires
put_op-last_of-requires t c = (
  omega arith,
  (
    omega (arith, c.requires.calls),
    last_alone receives (IsShallow (sub_at c.args.subs.now) c.args.nested) (CasesAre (IsShallow (sub_at c.args.subs.now)
        c.args.nested)) (of_each (IsShallow (sub_at c.args.subs.now) c.args.nested)) c.deref.result.now c.in-Switch.other
        (switch_has receives (Within (sub_at c.args.subs.now) (IsShallow (sub_at c.args.subs.now) c.args.nested)) c.args.op.now
        c.requires.levels c.in-Switch.path c.deref.result.now c.in-Switch.other (c.in-Switch.is
        ∙ ap (λ (l : List (ℤ × List RecvOp)). variants.Switch c.in-Switch.path l c.in-Switch.other) (sym c.deref.ensures))).0,
  ),
)

pub put_op-put_called-requires : goal.put_op-put_called-requires
put_op-put_called-requires t c = (
  omega arith,
  (
    c.requires.calls,
    (call_has receives (Within (sub_at c.args.subs.now) (IsShallow (sub_at c.args.subs.now) c.args.nested)) c.args.op.now
        c.requires.levels c.in-Call.k
        c.in-Call.path c.in-Call.is).0,
  ),
)
