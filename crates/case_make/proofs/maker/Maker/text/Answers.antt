use Rattle.std.proofs.Common.{◌≡◌, ◌+◌, ◌<◌, ℤ, pos, List, sym, ap, ◌∙◌, subst, arith, rules, FitsSigned}
use Rattle.std.specs.Int.{w128}
use Rattle.std.proofs.lemmas.Int.{to_z-of_z}
use Rattle.mint.specs.declared.kind.Kind.TheVariants as kind
use Rattle.mint.specs.declared.kind.Kind.{Kind}
use Rattle.mint.specs.Row.{Numbers}
use Rattle.mint.specs.Values.{row, weight}
use Rattle.case_make.specs.Draws.{drawn_letter, drawn_as, drawn_length}
use Rattle.case_make.specs.Made.{as_many}
use Rattle.case_make.specs.Making.{IsMade}
use Rattle.case_make.proofs.Weighing.{Rowing, row_on, row_made, heavy_row, whatever}
use Rattle.case_make.proofs.maker.Maker.text.Goals as goal

pub returns-in_err-weigh-clause-heavy : goal.returns-in_err-weigh-clause-heavy
returns-in_err-weigh-clause-heavy c =
    let less : c.args.self.now.left < 1 + c.length-many.result =
    omega (arith, c.in_err-weigh.ensures.err.1, c.from.ensures, c.length-many.ensures.left) in
    whatever c.from_residual.result _ (heavy_row drawn_letter c.args.count c.args.self.now.state c.args.self.now.left c.length-many.result
    less c.length-many.ensures.value)

pub loop-preserved : goal.loop-preserved
loop-preserved c =
    let fits : FitsSigned w128 c.from-in-loop.result = search rules in
    let is = to_z-of_z w128 _ fits ∙ c.from-in-loop.ensures ∙ ap (λ n. pos (n + 1)) c.draw.ensures.value in
    let more = row_on drawn_letter c.length-many.result c.loop.counter c.loop.row.numbers c.weigh.new.self.state c.loop.self.state
    c.draw.new.self.state _ c.loop-test.true c.loop.invariant.2 is c.draw.ensures.state in (
      ap (λ (r : Numbers). r.kind) c.in_ok-push.ensures.ok ∙ c.loop.invariant.0,
      c.draw.ensures.left ∙ c.loop.invariant.1,
      subst (λ (ns : List ℤ). Rowing drawn_letter c.length-many.result (c.loop.counter + 1) ns c.weigh.new.self.state c.draw.new.self.state)
          (sym (ap (λ (r : Numbers). r.numbers) c.in_ok-push.ensures.ok)) more,
    )

pub returns-clause-ok : goal.returns-clause-ok
returns-clause-ok c =
    let left : c.loop.self.left + (1 + c.length-many.result) ≡ c.args.self.now.left =
    omega (arith, c.loop.invariant.1, c.in_ok-weigh.ensures.ok, c.from.ensures, c.length-many.ensures.left) in
    subst
    (λ (k : Kind).
    IsMade weight c.args.self.now c.loop.self
    (drawn_as (row kind.Char) (as_many drawn_letter (drawn_length c.args.count c.args.self.now.state))) (row k c.loop.row.numbers))
    (sym c.loop.invariant.0)
    (row_made kind.Char drawn_letter c.args.count c.args.self.now c.loop.self c.length-many.result c.loop.counter c.weigh.new.self.state
    c.loop.row.numbers c.loop-test.false c.loop.invariant.2
    c.length-many.ensures.value (c.weigh.ensures.state ∙ c.length-many.ensures.state) left)
