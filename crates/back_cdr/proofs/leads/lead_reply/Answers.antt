use Rattle.std.proofs.Common.{◌≡◌, ℕ}
use Rattle.back_cdr.specs.Coded.{with_id}
use Rattle.back_cdr.specs.Leads.{reply_lead}
use Rattle.back_cdr.specs.Targets.{order_of, target_of}
use Rattle.back_cdr.proofs.Coding.{leads_along}
use Rattle.back_cdr.proofs.Growing.{reply_long, reply_put}
use Rattle.back_cdr.proofs.Short.{reply_few}
use Rattle.back_cdr.proofs.leads.lead_reply.Goals as goal

pub code_of-requires-clause-many : goal.code_of-requires-clause-many
code_of-requires-clause-many c =
    let t = target_of c.args.bound.now c.args.op in
    rw (c.in_ok-octets.ensures, c.id_place.ensures.value)
    (reply_long c.args.minor c.sent_order-order.result t c.args.arm)

pub code_of-requires-clause-few : goal.code_of-requires-clause-few
code_of-requires-clause-few c =
    let t = target_of c.args.bound.now c.args.op in
    rw c.in_ok-octets.ensures
    (reply_few c.args.minor c.sent_order-order.result t c.args.arm 0 (c.names_are_short.ensures c.args.op))

pub returns-clause-means : goal.returns-clause-means
returns-clause-means c =
    let t = target_of c.args.bound.now c.args.op in
    let r = order_of c.args.bound.now.back in
    let same : (id : ℕ) → with_id c.sent_order-order.result c.id_place.result c.in_ok-octets.octets id
    ≡ reply_lead c.args.minor r t c.args.arm id =
    λ id.
    rw (c.in_ok-octets.ensures, c.id_place.ensures.value, c.sent_order-order.ensures)
    (reply_put c.args.minor r t c.args.arm id) in
    leads_along c.code_of.result (with_id c.sent_order-order.result c.id_place.result c.in_ok-octets.octets)
    (reply_lead c.args.minor r t c.args.arm) same c.code_of.ensures.means
