use Rattle.std.proofs.Common.{Bool, refl, subst}
use Rattle.flick_texts.specs.Counted.{IsMade}
use Rattle.flick_texts.proofs.Counting.{counted_within, counted_long}
use Rattle.flick_texts.proofs.sums.Sums.count.Goals as goal

pub returns-then-is_within : goal.returns-then-is_within
returns-then-is_within c = λ m made.
    counted_within m c.args.message.now c.args.self.now _
    (subst (λ (b : Bool). IsMade b m c.args.message.now) c.if-is_within.true made) refl refl c.folded-self.ensures

pub returns-else-is_within : goal.returns-else-is_within
returns-else-is_within c = λ m made.
    counted_long m c.args.message.now c.args.self.now _
    (subst (λ (b : Bool). IsMade b m c.args.message.now) c.if-is_within.false made) refl refl refl
