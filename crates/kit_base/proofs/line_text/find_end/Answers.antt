use Rattle.std.proofs.Common.{◌+◌, ◌<◌, IfNone, length, subst, sym, arith}
use Rattle.std.proofs.lemmas.List.{length-drop}
use Rattle.kit_base.specs.Lines.{HasNoEnd}
use Rattle.kit_base.proofs.Sought.{IsFirstEnd, IsWithout, none_before, cut_at, none_at_all}
use Rattle.kit_base.proofs.line_text.find_end.Goals as goal

pub returns-in_err-found-clause-none : goal.returns-in_err-found-clause-none
returns-in_err-found-clause-none c =
    let octets = c.args.octets.now in
    let none = subst IsWithout c.rest_from.ensures c.in_err-found.ensures in
    let all = none_at_all octets c.args.from c.requires.within c.requires.searched none in
    subst (λ r. IfNone r (HasNoEnd octets)) (sym c.from_residual.ensures) all

pub returns-clause-found : goal.returns-clause-found
returns-clause-found c =
    let octets = c.args.octets.now in
    let from = c.args.from in
    let n = c.in_ok-found.found in
    let found = subst (λ rest. IsFirstEnd rest n) c.rest_from.ensures c.in_ok-found.ensures in
    let count = length-drop from octets in
    let within : from + n < length octets = omega (arith, found.0.high, count, c.requires.within) in
    let before = none_before octets from n c.requires.searched found.0.before (omega (arith, within)) in
    (within, before, cut_at octets from n within found.1)
