-- What is read in two ways: the minor number of what is read, and requests among all that asks.
use Rattle.std.proofs.Common.{ℕ, List, length, refl, subst}
use Rattle.wire_def.specs.declared.head.Head.{Head}
use Rattle.giop_head.specs.declared.header.HeadKind.TheVariants.{Requests}
use Rattle.giop_head.specs.Header.{IsMinor}
use Rattle.giop_head.specs.Call.{request, search_for, addressing}
use Rattle.giop_head.specs.Reported.{requested, ReportedRequest, request_reported, BeginsCall, BeginsRequest}
use Rattle.giop_head.proofs.Headers.{is_minor, asked_once}

-- a request that is read has the minor number of a version that is read
pub minor_of_request : (o : List ℕ) (t : ReportedRequest) → BeginsRequest o t → IsMinor t.minor
minor_of_request o t (x, used, (there, (a, b, is, header, fields)), reported) =
    subst (λ (z : ReportedRequest). IsMinor z.minor) reported
    (is_minor Requests (length o) a (record { order = x.order; message_type = 0; minor = x.minor }) header.1)

-- a request that is read among all that asks is read where requests alone are
pub asks_requests : (o : List ℕ) (head : Head) (key name : List ℕ) (used m : ℕ) → BeginsCall o (requested head key name used m)
    → (t : ReportedRequest) × BeginsRequest o t
asks_requests o head key name used m (request r k q, n, (there, (a, b, is, header, fields)), reported) = (
  request_reported (record { order = r; minor = k; request = q }) n,
  (
    record { order = r; minor = k; request = q },
    n,
    (
      there,
      (a, b, is, (header.0, asked_once (length o) a (record { order = r; message_type = 0; minor = k }) refl header.1), fields),
    ),
    refl,
  ),
)
asks_requests o head key name used m (search_for r k s, n, begins, reported) = absurd cc
asks_requests o head key name used m (addressing r k s, n, begins, reported) = absurd cc
