use Rattle.std.proofs.Common.{◌≡◌, ◌≤◌, ◌+◌, ◌*◌, length, Some, ap, ◌∙◌, FitsSigned, rules}
use Rattle.std.specs.Int.{w128}
use Rattle.std.proofs.lemmas.Int.{to_z-of_z}
use Rattle.mint.specs.Row.{Numbers, numbers_of}
use Rattle.mint.proofs.Places.{place_within, number_got, none_got}
use Rattle.mint.proofs.row.Row.get.Goals as goal

pub overflow_mul-at : goal.overflow_mul-at
overflow_mul-at c =
    let within : c.args.i * c.width-width.result + c.width-width.result ≤ length c.as_slice-octets.result.now =
    place_within c.self.inside.kind c.args.i _ c.width-width.result c.width-width.ensures c.if-i-octets.false in
    search rules

pub overflow_add-at : goal.overflow_add-at
overflow_add-at c =
    let within : c.args.i * c.width-width.result + c.width-width.result ≤ length c.as_slice-octets.result.now =
    place_within c.self.inside.kind c.args.i _ c.width-width.result c.width-width.ensures c.if-i-octets.false in
    search rules

pub slice_bounds-number-end : goal.slice_bounds-number-end
slice_bounds-number-end c =
    let within : c.args.i * c.width-width.result + c.width-width.result ≤ length c.as_slice-octets.result.now =
    place_within c.self.inside.kind c.args.i _ c.width-width.result c.width-width.ensures c.if-i-octets.false in
    search rules

pub returns : goal.returns
returns c =
    let k = c.self.inside.kind in
    let same : numbers_of k c.as_slice-octets.result.now ≡ c.args.self.now.numbers = ap (numbers_of k) c.as_slice-octets.ensures
    ∙ ap (λ (r : Numbers). r.numbers) c.self.view_is in
    let fits : FitsSigned w128 c.number.result = search rules in
    ap Some (to_z-of_z w128 c.number.result fits) ∙ number_got k _ _ c.args.i _ _ c.width-width.ensures same c.if-i-octets.false
    c.number.ensures

pub returns-then-i-octets : goal.returns-then-i-octets
returns-then-i-octets c =
    let k = c.self.inside.kind in
    let same : numbers_of k c.as_slice-octets.result.now ≡ c.args.self.now.numbers = ap (numbers_of k) c.as_slice-octets.ensures
    ∙ ap (λ (r : Numbers). r.numbers) c.self.view_is in
    none_got k _ _ c.args.i _ c.width-width.ensures same c.if-i-octets.true
