use Rattle.std.proofs.Common.{◌-◌, sym, ap, ◌∙◌}
use Rattle.stub_flat.specs.Residues.{closing, closed}
use Rattle.stub_compare.specs.CompareSets.{applied}
use Rattle.stub_places.specs.Sets.{set_of}
use Rattle.stub_compare.proofs.CompareTables.{agree_each, each_agree, turn_ends, turn_goes, turns_end}
use Rattle.stub_compare.proofs.compare_tables.closed.Goals as goal

pub loop-turn-init : goal.loop-turn-init
loop-turn-init c = λ r lt. ap (λ n. closing (8 - n) (applied 8 c.args.table.now) (set_of c.args.set.now) r) c.size-turn.ensures.is

pub loop-turn-preserved : goal.loop-turn-preserved
loop-turn-preserved c =
    turn_goes c.args.table.now (set_of c.loop-turn.made) (set_of c.applied-next.result) (set_of c.sum-made.result)
    (closed (applied 8 c.args.table.now) (set_of c.args.set.now)) c.loop-turn.turn c.loop-turn-test.true c.applied-next.ensures
    (sym c.is_within.ensures ∙ c.if-is_within.false)
    (agree_each _ c.sum-made.result c.sum-made.ensures) c.loop-turn.invariant

pub returns-then-is_within : goal.returns-then-is_within
returns-then-is_within c =
    c.copied.ensures ∙ each_agree _ _ (turn_ends c.args.table.now (set_of c.loop-turn.made) (set_of c.applied-next.result)
    (closed (applied 8 c.args.table.now) (set_of c.args.set.now)) c.loop-turn.turn c.loop-turn-test.true c.applied-next.ensures
    (sym c.is_within.ensures ∙ c.if-is_within.true) c.loop-turn.invariant)

pub returns : goal.returns
returns c =
    c.copied-2.ensures ∙ each_agree _ _ (turns_end c.args.table.now (set_of c.loop-turn.made)
    (closed (applied 8 c.args.table.now) (set_of c.args.set.now)) c.loop-turn.turn c.loop-turn-test.false c.loop-turn.invariant)
