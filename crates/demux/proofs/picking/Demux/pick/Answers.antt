use Rattle.std.proofs.Common.{◌∙◌, List, ℕ, ap}
use Rattle.std.specs.List.{position_from}
use Rattle.std.specs.Str.{bytes_eq}
use Rattle.demux.specs.declared.tree.Node.{Node}
use Rattle.demux.specs.Trees.{place_in}
use Rattle.demux.proofs.picking.Demux.pick.Goals as goal

pub returns-clause-place : goal.returns-clause-place
returns-clause-place c =
    c.sought.ensures.place ∙ ap (λ (t : List Node). place_in t c.args.name.now.name) c.as_slice.ensures.value
    ∙ c.self.invariant.1 c.args.name.now.name c.has_octets.ensures
    ∙ ap (λ (l : List (List ℕ)). position_from (bytes_eq c.args.name.now.name) 0 l) c.self.view_is
