use Rattle.json_shape.proofs.Letters.{starts, goes_on, stops, ends}
use Rattle.json_shape.proofs.texts.each_octet.Goals as goal

pub loop-c-init : goal.loop-c-init
loop-c-init c =
    rw (c.new-octets.ensures, c.into_iter-c-iterator.ensures.into_iter_gives, c.chars-c-items.ensures.rest)
    (starts c.args.text.now c.utf8.text)

pub returns-then-code-gt255 : goal.returns-then-code-gt255
returns-then-code-gt255 c =
    stops c.loop-c.octets _ _ c.args.text.now _ c.in-Some.c c.from-code.ensures c.loop-c.invariant c.in-Some.ensures.steps.0
    c.if-code-gt255.true

pub loop-c-preserved : goal.loop-c-preserved
loop-c-preserved c =
    rw c.in_ok-push.ensures.ok
    (goes_on c.loop-c.octets _ _ c.args.text.now _ c.in-Some.c c.from-code.ensures c.loop-c.invariant
    c.in-Some.ensures.steps.0 c.if-code-gt255.false)

pub returns : goal.returns
returns c = ends c.loop-c.octets _ c.args.text.now c.loop-c.invariant c.in-None.ensures.steps.0.0
