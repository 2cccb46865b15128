use Rattle.std.proofs.Common.{◌+◌, ◌*◌, ◌%◌, ap, ◌∙◌}
use Rattle.flick_texts.proofs.Counting.{folded_with_is}
use Rattle.flick_texts.proofs.sums.folded_with.Goals as goal

pub returns : goal.returns
returns c =
    ap (λ o. (c.args.fold * 31 % 4294967296 + o) % 4294967296) c.from.ensures ∙ folded_with_is c.args.fold c.args.octet
