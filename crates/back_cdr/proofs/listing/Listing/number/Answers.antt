use Rattle.std.proofs.Common.{◌+◌, ◌<◌, ◌^◌, ℕ, List, length, subst, sym, ap, ◌∙◌}
use Rattle.back_cdr.specs.Offered.{Offered, number_in}
use Rattle.back_cdr.proofs.Listed.{few_listed, number_listed}
use Rattle.back_cdr.proofs.listing.Listing.number.Goals as goal

pub returns-in-Some : goal.returns-in-Some
returns-in-Some c =
    c.number.ensures
    ∙ number_listed c.self.inside.names c.args.self.now c.self.inside.tree c.in-Some.tree c.args.name.now c.self.view_is c.self.invariant
    c.in-Some.is

pub number_among-requires : goal.number_among-requires
number_among-requires c =
    subst (λ (l : List (List ℕ)). length l + 1 < 2 ^ 32) (sym c.as_slice.ensures)
    (few_listed c.self.inside.names c.self.inside.tree c.self.invariant c.in-None.is)

pub returns-in-None : goal.returns-in-None
returns-in-None c =
    c.number_among.ensures
    ∙ ap (λ (l : List (List ℕ)). number_in (record { first = 1; names = l }) c.args.name.now) c.as_slice.ensures
    ∙ ap (λ (x : Offered). number_in x c.args.name.now) c.self.view_is
