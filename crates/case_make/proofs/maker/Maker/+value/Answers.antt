use Rattle.std.proofs.Common.{◌≡◌, ℕ, ◌+◌, ◌-◌, List, drop, get_or, Err, IfOk, IfErr, sym, ap, ◌∙◌, subst, refl, arith, rules, FitsSigned}
use Rattle.std.specs.Int.{w128}
use Rattle.std.proofs.lemmas.Int.{to_z-of_z}
use Rattle.mint.specs.declared.value.Value.{Void}
use Rattle.mint.specs.Types.{type_at, unfolded, fields_at, at, level}
use Rattle.mint.specs.Values.{Val, seen, weight}
use Rattle.mint.proofs.Arms.{arm_below}
use Rattle.mint.proofs.Seen.{seen-Void}
use Rattle.case_make.specs.declared.maker.Stop.TheVariants.{Heavy}
use Rattle.case_make.specs.Draws.{Drawn, several}
use Rattle.case_make.specs.Made.{drawn, drawn_fields}
use Rattle.case_make.specs.Making.{IsMade, IsTooHeavy, weigh_all}
use Rattle.case_make.proofs.Choosing.{arm_drawn, none_drawn, tagged_by, choice_made, choice_heavy}
use Rattle.case_make.proofs.Weighing.{fields_next, items_on, pushed_on, too_heavy, items_heavy}
use Rattle.case_make.proofs.maker.Maker.+value.Goals as goal

-- ---- the arm of a number

pub arm-value-requires : goal.arm-value-requires
arm-value-requires t c =
    let below = arm_below c.args.arms.now c.args.other c.args.n.now c.args.id c.in-Some.item (sym c.in-Some.ensures) c.requires.below
    c.requires.other in
    (omega arith, omega arith)

pub arm-returns-in-Some-clause-ok : goal.arm-returns-in-Some-clause-ok
arm-returns-in-Some-clause-ok t c =
    subst (λ (d : Drawn Val). IfOk c.value.result (λ v. IsMade weight c.args.self.now c.value.new.self d (seen v)))
    (sym (arm_drawn (unfolded c.args.mint.now) c.args.arms.now c.args.other c.args.n.now c.in-Some.item c.args.self.now.state
    (sym c.in-Some.ensures))) c.value.ensures.ok

pub arm-returns-in-Some-clause-heavy : goal.arm-returns-in-Some-clause-heavy
arm-returns-in-Some-clause-heavy t c =
    subst (λ (d : Drawn Val). IfErr c.value.result (λ e. e ≡ Heavy → IsTooHeavy weight c.args.self.now d))
    (sym (arm_drawn (unfolded c.args.mint.now) c.args.arms.now c.args.other c.args.n.now c.in-Some.item c.args.self.now.state
    (sym c.in-Some.ensures))) c.value.ensures.heavy

pub arm-returns-in-None-clause-ok : goal.arm-returns-in-None-clause-ok
arm-returns-in-None-clause-ok t c =
    subst (λ (d : Drawn Val). IsMade weight c.args.self.now c.args.self.now d (seen Void))
    (sym (none_drawn (unfolded c.args.mint.now) c.args.arms.now c.args.other c.args.n.now c.args.self.now.state (sym c.in-None.ensures)))
    (record { value = seen-Void; state = refl; left = omega (arith, ap weight seen-Void) })

-- ---- a union

pub choice-returns-in_err-inner-clause-heavy : goal.choice-returns-in_err-inner-clause-heavy
choice-returns-in_err-inner-clause-heavy t c =
    let same : c.from_residual-in_err-inner.result ≡ Err c.in_err-inner.field-0.0 = search rules in
    let fits : FitsSigned w128 c.tag-n.result = search rules in
    let number = to_z-of_z w128 c.tag-n.result fits ∙ c.tag-n.ensures.value in
    let tagged = tagged_by _ _ c.args.self.now c.weigh.new.self c.tag-n.new.self _ c.in_ok-weigh.ensures.ok c.weigh.ensures.state number
    c.tag-n.ensures.state c.tag-n.ensures.left in
    rw same
    (λ h.
    choice_heavy _ (unfolded c.args.mint.now) c.args.arms.now c.args.other c.args.self.now c.tag-n.new.self _ tagged
    (c.in_err-inner.ensures.heavy h))

pub choice-returns-clause-ok : goal.choice-returns-clause-ok
choice-returns-clause-ok t c =
    let fits : FitsSigned w128 c.tag-n.result = search rules in
    let number = to_z-of_z w128 c.tag-n.result fits ∙ c.tag-n.ensures.value in
    let tagged = tagged_by _ _ c.args.self.now c.weigh.new.self c.tag-n.new.self _ c.in_ok-weigh.ensures.ok c.weigh.ensures.state number
    c.tag-n.ensures.state c.tag-n.ensures.left in
    choice_made _ (unfolded c.args.mint.now) c.args.arms.now c.args.other c.args.self.now c.tag-n.new.self c.arm.new.self _ _ _ tagged
    c.in_ok-inner.ensures.ok c.in_ok-arm.ensures

-- ---- fields

pub fields-returns-in_err-value-clause-heavy : goal.fields-returns-in_err-value-clause-heavy
fields-returns-in_err-value-clause-heavy t c =
    let same : c.from_residual.result ≡ Err c.in_err-value.field-0.0 = search rules in
    let u = unfolded c.args.mint.now in
    let xs = c.as_slice-field-items.result.now in
    let going = fields_next u xs c.loop-field.field-index _ _ _ _ c.loop-field-test.true c.loop-field.invariant in
    rw same
    (λ h.
    subst
    (λ (ys : List ℕ).
    IsTooHeavy weigh_all c.args.self.now (drawn_fields (fields_at u ys) c.args.self.now.state)) c.as_slice-field-items.ensures
    (too_heavy (drawn (at u (get_or xs c.loop-field.field-index 0))) (drawn_fields (fields_at u (drop (c.loop-field.field-index + 1) xs)))
    _ _ c.args.self.now c.loop-field.self going (c.in_err-value.ensures.heavy h)))

pub fields-loop-field-preserved : goal.fields-loop-field-preserved
fields-loop-field-preserved t c =
    let u = unfolded c.args.mint.now in
    let xs = c.as_slice-field-items.result.now in
    let going = fields_next u xs c.loop-field.field-index _ _ _ _ c.loop-field-test.true c.loop-field.invariant in
    pushed_on (drawn (at u (get_or xs c.loop-field.field-index 0))) (drawn_fields (fields_at u (drop (c.loop-field.field-index + 1) xs)))
    _ _ _ _ c.args.self.now c.loop-field.self c.value.new.self c.in_ok-push.ensures.ok going c.in_ok-value.ensures.ok

-- ---- elements

pub items-returns-in_err-value-clause-heavy : goal.items-returns-in_err-value-clause-heavy
items-returns-in_err-value-clause-heavy t c =
    let same : c.from_residual.result ≡ Err c.in_err-value.field-0.0 = search rules in
    let f = drawn (type_at c.args.mint.now c.args.item) in
    let going = items_on f c.args.many c.loop.counter _ _ _ _ c.loop-test.true c.loop.invariant in
    rw same
    (λ h.
    too_heavy f (several f (c.args.many - (c.loop.counter + 1))) _ _ c.args.self.now c.loop.self going
    (c.in_err-value.ensures.heavy h))

pub items-loop-preserved : goal.items-loop-preserved
items-loop-preserved t c =
    let f = drawn (type_at c.args.mint.now c.args.item) in
    let going = items_on f c.args.many c.loop.counter _ _ _ _ c.loop-test.true c.loop.invariant in
    pushed_on f (several f (c.args.many - (c.loop.counter + 1))) _ _ _ _ c.args.self.now c.loop.self c.value.new.self
    c.in_ok-push.ensures.ok going c.in_ok-value.ensures.ok

pub value-returns-in_err-items-in-Items-clause-heavy : goal.value-returns-in_err-items-in-Items-clause-heavy
value-returns-in_err-items-in-Items-clause-heavy t c =
    let same : c.from_residual-in_err-items-in-Items.result ≡ Err c.in_err-items-in-Items.field-0.0 = search rules in
    let is = c.in-Some.ensures.is ∙ ap (level (unfolded c.args.mint.now)) c.in-Items.is in
    rw same
    (λ h.
    items_heavy _ _ _ c.args.self.now c.weigh-in-Items.new.self c.length-many.new.self _ is c.in_ok-weigh-in-Items.ensures.ok
    c.weigh-in-Items.ensures.state
    c.length-many.ensures.value c.length-many.ensures.state c.length-many.ensures.left (c.in_err-items-in-Items.ensures.heavy h))
