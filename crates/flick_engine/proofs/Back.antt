-- What is sent is what is received.
use Rattle.std.proofs.Common.{◌≡◌, ℕ, List, ◌++◌, length, length-append, drop, refl, arith}
use Rattle.mint.specs.Types.{Ty}
use Rattle.mint.specs.Values.{Val}
use Rattle.mint.specs.Typed.{IsWellTyped}
use Rattle.wire_def.specs.declared.encoding.Encoding.{Encoding}
use Rattle.wire_def.specs.Send.{send}
use Rattle.wire_def.specs.Spells.{IsSpelling}
use Rattle.wire_def.proofs.Encodings.{sent_spells}
use Rattle.giop_head.specs.Laws.{MayFollow}
use Rattle.back_cdr.specs.Targets.{has_body}
use Rattle.flick_engine.specs.Backs.{encoding, lead}
use Rattle.flick_engine.specs.Messages.{request_type, message}
use Rattle.flick_engine.specs.Laws.{IsReadBack}
use Rattle.flick_engine.proofs.Bodies.{nothing_sent}
use Rattle.flick_engine.proofs.HeadsOfBacks.{received, long_lead, same_length}

-- what is sent after a lead spells the value from the lead's end, where it follows the head
pub spells_after : (e f : Encoding) (t : Ty) (p used : ℕ) (o : List ℕ) (v : Val) → f ≡ e → used ≡ p → drop used o ≡ send e t p v
    → IsWellTyped t v → IsSpelling f t used (drop used o) v
spells_after e f t p used o v same long after typed = rw (after, same, long) (sent_spells e t p v typed)

pub read_back : IsReadBack
read_back b m op head v c says named typed short =
    let is = received b m op head c says in
    let body = send (encoding b.back) (request_type b op) (length (lead b m op head)) v in
    let hollow : MayFollow (has_body b op) body =
    λ none. nothing_sent (encoding b.back) (request_type b op) none (length (lead b m op head)) v in
    let lead_long = long_lead b.back b m op head in
    let same : length (message b m op head v) ≡ length (lead b m op head ++ body) =
    same_length b.back (lead b m op head ++ body) (omega (arith, lead_long, length-append (lead b m op head) body)) in (
      c,
      op,
      (short, is.begins body hollow (omega (arith, short, same)), named),
      (
        refl,
        refl,
        spells_after (encoding b.back) c.encoding (request_type b op) (length (lead b m op head)) c.used (message b m op head v) v
            is.encoding is.used (is.follows body) typed,
      ),
    )
