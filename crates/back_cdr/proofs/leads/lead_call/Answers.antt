use Rattle.std.proofs.Common.{◌≡◌, ℕ}
use Rattle.back_cdr.specs.Coded.{with_id}
use Rattle.back_cdr.specs.Leads.{lead}
use Rattle.back_cdr.specs.Targets.{has_body, order_of, target_of}
use Rattle.back_cdr.proofs.Coding.{leads_along}
use Rattle.back_cdr.proofs.Growing.{call_long, call_put}
use Rattle.back_cdr.proofs.Short.{call_few}
use Rattle.back_cdr.proofs.leads.lead_call.Goals as goal

pub code_of-requires-clause-many : goal.code_of-requires-clause-many
code_of-requires-clause-many c =
    let t = target_of c.args.bound.now c.args.op in
    let has = has_body c.args.bound.now c.args.op in
    rw (c.in_ok-octets.ensures, c.id_place.ensures.value)
    (call_long c.args.minor has c.sent_order-order.result t)

pub code_of-requires-clause-few : goal.code_of-requires-clause-few
code_of-requires-clause-few c =
    let t = target_of c.args.bound.now c.args.op in
    let has = has_body c.args.bound.now c.args.op in
    rw c.in_ok-octets.ensures
    (call_few c.args.minor has c.sent_order-order.result t 0 (c.names_are_short.ensures c.args.op))

pub returns-clause-means : goal.returns-clause-means
returns-clause-means c =
    let t = target_of c.args.bound.now c.args.op in
    let r = order_of c.args.bound.now.back in
    let has = has_body c.args.bound.now c.args.op in
    let same : (id : ℕ) → with_id c.sent_order-order.result c.id_place.result c.in_ok-octets.octets id
    ≡ lead c.args.minor has r t id =
    λ id.
    rw (c.in_ok-octets.ensures, c.id_place.ensures.value, c.sent_order-order.ensures)
    (call_put c.args.minor has r t id) in
    leads_along c.code_of.result (with_id c.sent_order-order.result c.id_place.result c.in_ok-octets.octets)
    (lead c.args.minor has r t) same c.code_of.ensures.means
