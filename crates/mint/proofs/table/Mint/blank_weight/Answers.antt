use Rattle.std.proofs.Common.{ap, arith}
use Rattle.mint.specs.declared.size.Size.{Size}
use Rattle.mint.specs.Values.{weight}
use Rattle.mint.specs.Types.{level, type_at, unfolded}
use Rattle.mint.specs.Blank.{blank, least}
use Rattle.mint.proofs.Measuring.{weights-copies}
use Rattle.mint.proofs.table.Mint.blank_weight.Goals as goal

pub returns-in-Items : goal.returns-in-Items
returns-in-Items c =
    let whole = ap (λ n. weight (blank (level (unfolded c.args.self.now) n))) c.in-Items.is in
    let kept = ap (λ (z : Size). z.weight) c.size.ensures.value in
    let many = weights-copies (least c.in-Items.count) (blank (type_at c.args.self.now c.in-Items.item)) in
    rw (c.from-in-Items.ensures, c.least-in-Items.ensures, c.from-in-Items-2.ensures, kept) (omega arith)
