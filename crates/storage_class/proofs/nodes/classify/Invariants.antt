use Rattle.std.proofs.Common.{◌≡◌, length}
use Rattle.storage_class.specs.Spans.{AreSpans}
use Rattle.storage_class.proofs.nodes.classify.Given as goal

abbrev pub invariant-loop-id : goal.invariant-loop-id
invariant-loop-id l = record
    { enc : l.classes.enc ≡ l.enc; all : length l.classes.spans ≡ l.id; known : AreSpans l.enc l.mint l.classes.spans }
