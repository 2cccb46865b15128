use Rattle.std.proofs.Common.{◌≡◌, ◌∙◌, ◌+◌, ◌-◌, suc, None, sym, ap, arith}
use Rattle.idl_exprs.specs.Readers.{within_at, climb, chain_on, operator_at}
use Rattle.idl_exprs.proofs.Chains.{begins, fails, too_high, goes_on, stays, same_over, is_high, is_low}
use Rattle.idl_exprs.proofs.expressions.+climbing.Goals as goal

pub climb-chain-init : goal.climb-chain-init
climb-chain-init t c = (
  begins (within_at c.args.below) c.args.below (suc c.args.below - 0) c.args.language c.args.angle c.args.loose
      (c.args.loose - 1) c.args.tokens.now
      (c.in_ok-tree.tree, c.in_ok-tree.height) c.in_ok-tree.rest.now
      (omega (arith, c.if-loose-eq0.false)) (omega arith) c.in_ok-tree.ensures.read,
  c.in_ok-tree.ensures.fits,
)

pub climb-returns-in-Err-clause-read : goal.climb-returns-in-Err-clause-read
climb-returns-in-Err-clause-read t c =
    fails (within_at c.args.below c.args.language c.args.angle (c.args.loose - 1))
    (operator_at c.args.language c.args.angle (c.args.loose - 1)) (suc c.args.below)
    (suc c.args.below - c.chain.counter) (c.args.below - c.chain.counter)
    (c.chain.tree, c.chain.height) c.chain.rest.now
    (climb (within_at c.args.below) c.args.below c.args.language c.args.angle c.args.loose c.args.tokens.now)
    c.chain.invariant.0 (omega (arith, c.chain-test.true)) c.in-Some.op (sym c.in-Some.ensures) c.past-next.result.now c.past-next.ensures
    c.in-Err.halt c.in-Err.ensures.read

pub climb-returns-then-height-below-clause-read : goal.climb-returns-then-height-below-clause-read
climb-returns-then-height-below-clause-read t c =
    too_high (within_at c.args.below c.args.language c.args.angle (c.args.loose - 1))
    (operator_at c.args.language c.args.angle (c.args.loose - 1)) (suc c.args.below)
    (suc c.args.below - c.chain.counter) (c.args.below - c.chain.counter)
    (c.chain.tree, c.chain.height) c.chain.rest.now
    (climb (within_at c.args.below) c.args.below c.args.language c.args.angle c.args.loose c.args.tokens.now)
    c.chain.invariant.0 (omega (arith, c.chain-test.true)) c.in-Some.op (sym c.in-Some.ensures) c.past-next.result.now c.past-next.ensures
    (c.in-Ok.right, c.in-Ok.above) c.in-Ok.after.now c.in-Ok.ensures.read
    (is_high c.in-Some.op (c.chain.tree, c.chain.height) (c.in-Ok.right, c.in-Ok.above) c.max-height.result (suc c.args.below)
    c.max-height.ensures (omega (arith, c.if-height-below.true)))

pub climb-returns-in_default-clause-read : goal.climb-returns-in_default-clause-read
climb-returns-in_default-clause-read t c =
    let none : operator_at c.args.language c.args.angle (c.args.loose - 1) c.chain.rest.now ≡ None =
    cc (c.operator.ensures, c.in_default.is) in
    stays (within_at c.args.below c.args.language c.args.angle (c.args.loose - 1))
    (operator_at c.args.language c.args.angle (c.args.loose - 1)) (suc c.args.below)
    (suc c.args.below - c.chain.counter) (c.args.below - c.chain.counter) (c.chain.tree, c.chain.height) c.chain.rest.now
    (climb (within_at c.args.below) c.args.below c.args.language c.args.angle c.args.loose c.args.tokens.now)
    c.chain.invariant.0 (omega (arith, c.chain-test.true)) none

pub climb-chain-preserved : goal.climb-chain-preserved
climb-chain-preserved t c = (
  goes_on (within_at c.args.below c.args.language c.args.angle (c.args.loose - 1))
      (operator_at c.args.language c.args.angle (c.args.loose - 1)) (suc c.args.below)
      (suc c.args.below - c.chain.counter) (suc c.args.below - (c.chain.counter + 1))
      (c.chain.tree, c.chain.height) c.chain.rest.now
      (climb (within_at c.args.below) c.args.below c.args.language c.args.angle c.args.loose c.args.tokens.now)
      c.chain.invariant.0 (omega (arith, c.chain-test.true)) c.in-Some.op (sym c.in-Some.ensures) c.past-next.result.now
      c.past-next.ensures (c.in-Ok.right, c.in-Ok.above) c.in-Ok.after.now c.in-Ok.ensures.read
      (is_low c.in-Some.op (c.chain.tree, c.chain.height) (c.in-Ok.right, c.in-Ok.above) c.max-height.result (suc c.args.below)
      c.max-height.ensures (omega (arith, c.if-height-below.false)))
      ∙ ap (λ z.
      chain_on (within_at c.args.below c.args.language c.args.angle (c.args.loose - 1))
      (operator_at c.args.language c.args.angle (c.args.loose - 1))
      (suc c.args.below) (suc c.args.below - (c.chain.counter + 1)) z c.in-Ok.after.now)
      (same_over c.in-Some.op (c.chain.tree, c.chain.height) (c.in-Ok.right, c.in-Ok.above) c.in_ok-tree-in-Ok.tree
      (c.max-height.result + 1) c.in_ok-tree-in-Ok.ensures (omega (arith, c.max-height.ensures))),
  omega (arith, c.if-height-below.false),
)

pub within-climb-requires : goal.within-climb-requires
within-climb-requires t c =
    (omega (arith, c.requires.levels, c.requires.loose, c.if-levels-eq0.false), (omega (arith, c.requires.levels), c.requires.loose))
