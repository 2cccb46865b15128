use Rattle.std.proofs.Common.{◌≡◌, ◌≤◌, refl, sym, ap, ◌∙◌, subst, arith, Err}
use Rattle.wire_frames.specs.Reading.{Reader, work}
use Rattle.wire_frames.proofs.Stepping.{advances-refl, advances-fed, gives-found, still, kept-same, same-first, gives-last, stops-so, stops-over, stops-unfound, falls-found, fewer-fed, falls-last}
use Rattle.wire_frames.proofs.messages.Messages.read_on.Goals as goal

pub returns-in-Ok-Some-clause-reads : goal.returns-in-Ok-Some-clause-reads
returns-in-Ok-Some-clause-reads g c =
    gives-found _ _ _ c.loop-self.self c.found.new.self c.close.new.self _ c.in-Ok-Some.part refl
    (sym c.in-Ok-Some.field-0-is ∙ c.in-Ok-Some.ensures.value) c.in-Ok-Some.ensures.kept c.close.ensures c.loop-self.invariant.read
    (c.took_more.ensures.within c.if-took_more.false)

pub returns-in-Ok-Some-clause-falls : goal.returns-in-Ok-Some-clause-falls
returns-in-Ok-Some-clause-falls g c =
    falls-found c.args.self.now c.loop-self.self c.found.new.self c.close.new.self _ c.in-Ok-Some.part refl
    (sym c.in-Ok-Some.field-0-is ∙ c.in-Ok-Some.ensures.value) c.in-Ok-Some.ensures.kept c.close.ensures c.loop-self.invariant.going
    c.loop-self.invariant.fewer

pub returns-in-Err-refill-clause-reads : goal.returns-in-Err-refill-clause-reads
returns-in-Err-refill-clause-reads g c =
    let (advances, within, none, same) = still _ _ _ c.loop-self.self c.found.new.self _ refl
    (sym c.in-Ok-None.field-0-is ∙ c.in-Ok-None.ensures.value) c.in-Ok-None.ensures.kept c.loop-self.invariant.read
    (c.took_more.ensures.within c.if-took_more.false) in
    stops-so _ _ _ _ c.found.new.self c.refill.new.self c.in-Err-refill.error
    (λ e. c.refill.ensures.none (c.in-Err-refill.is ∙ ap Err e)) (λ e. c.refill.ensures.few (c.in-Err-refill.is ∙ ap Err e))
    (λ e. c.refill.ensures.too_much (c.in-Err-refill.is ∙ ap Err e)) advances within none

pub returns-then-count-eq0-clause-reads : goal.returns-then-count-eq0-clause-reads
returns-then-count-eq0-clause-reads g c =
    let (advances, within, none, same) = still _ _ _ c.loop-self.self c.found.new.self _ refl
    (sym c.in-Ok-None.field-0-is ∙ c.in-Ok-None.ensures.value) c.in-Ok-None.ensures.kept c.loop-self.invariant.read
    (c.took_more.ensures.within c.if-took_more.false) in
    let count = c.in-Ok.ensures.count in
    let empty : c.in-Ok.count ≡ 0 = omega (arith, c.if-count-eq0.true) in
    let kept = kept-same c.found.new.self c.refill.new.self c.in-Ok.count c.in-Ok.ensures.kept count.0 empty in
    gives-last _ _ _ c.refill.new.self c.last.new.self c.last.result
    (advances-fed _ _ _ _ c.found.new.self c.refill.new.self c.in-Ok.count advances c.in-Ok.ensures.kept count.0 count.1
    c.refill.ensures.same.0 c.refill.ensures.same.1 c.in-Ok.ensures.got)
    (omega (arith, within, count.1, empty, c.refill.ensures.same.1))
    (same-first c.found.new.self c.refill.new.self c.refill.ensures.same.0 kept ∙ none) (c.in-Ok.ensures.end empty)
    c.last.ensures.none c.last.ensures.some

pub returns-then-count-eq0-clause-falls : goal.returns-then-count-eq0-clause-falls
returns-then-count-eq0-clause-falls g c =
    let (advances, within, none, same) = still _ _ _ c.loop-self.self c.found.new.self _ refl
    (sym c.in-Ok-None.field-0-is ∙ c.in-Ok-None.ensures.value) c.in-Ok-None.ensures.kept c.loop-self.invariant.read
    (c.took_more.ensures.within c.if-took_more.false) in
    let count = c.in-Ok.ensures.count in
    let fewer = subst (λ (s : Reader). work s ≤ work c.args.self.now) (sym same) c.loop-self.invariant.fewer in
    falls-last c.args.self.now c.refill.new.self c.last.new.self c.last.result
    (fewer-fed c.args.self.now c.found.new.self c.refill.new.self c.in-Ok.count count.0 count.1 c.refill.ensures.same.1
    c.refill.ensures.same.2 c.refill.ensures.bound fewer)
    (c.refill.ensures.same.2 ∙ ap (λ (s : Reader). s.over) same ∙ c.loop-self.invariant.going) c.last.ensures.some

pub loop-self-init : goal.loop-self-init
loop-self-init g c = record { read = advances-refl _ _; going = c.requires; fewer = omega arith; reads = refl }

pub loop-self-preserved : goal.loop-self-preserved
loop-self-preserved g c =
    let (advances, within, none, same) = still _ _ _ c.loop-self.self c.found.new.self _ refl
    (sym c.in-Ok-None.field-0-is ∙ c.in-Ok-None.ensures.value) c.in-Ok-None.ensures.kept c.loop-self.invariant.read
    (c.took_more.ensures.within c.if-took_more.false) in
    let count = c.in-Ok.ensures.count in
    let fewer = subst (λ (s : Reader). work s ≤ work c.args.self.now) (sym same) c.loop-self.invariant.fewer in
    record {
      read =
          advances-fed _ _ _ _ c.found.new.self c.refill.new.self c.in-Ok.count advances c.in-Ok.ensures.kept count.0 count.1
          c.refill.ensures.same.0 c.refill.ensures.same.1 c.in-Ok.ensures.got;
      going = c.refill.ensures.same.2 ∙ ap (λ (s : Reader). s.over) same ∙ c.loop-self.invariant.going;
      fewer =
          fewer-fed c.args.self.now c.found.new.self c.refill.new.self c.in-Ok.count count.0 count.1 c.refill.ensures.same.1
          c.refill.ensures.same.2 c.refill.ensures.bound fewer;
      reads = c.loop-self.invariant.reads ∙ c.refill.ensures.reported (λ e. absurd (cc (e, c.in-Ok.is)));
    }
