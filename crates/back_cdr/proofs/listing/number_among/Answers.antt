use Rattle.std.proofs.Common.{◌+◌, ℕ, option_map, sym, ap, ◌∙◌}
use Rattle.back_cdr.proofs.Listed.{number_placed}
use Rattle.back_cdr.proofs.listing.number_among.Goals as goal

pub returns-in-Some : goal.returns-in-Some
returns-in-Some c =
    ap (option_map (λ (n : ℕ). 1 + n)) (sym c.in-Some.is)
    ∙ number_placed c.args.names.now c.args.name.now c.place_of.result c.place_of.ensures.place

pub returns-in-None : goal.returns-in-None
returns-in-None c =
    ap (option_map (λ (n : ℕ). 1 + n)) (sym c.in-None.is)
    ∙ number_placed c.args.names.now c.args.name.now c.place_of.result c.place_of.ensures.place
