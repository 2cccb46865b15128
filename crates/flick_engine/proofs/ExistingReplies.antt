-- Octets are always something as a reply to an operation.
use Rattle.std.proofs.Common.{◌≡◌, ◌⊎◌, inl, inr, ◌+◌, ◌<◌, ◌≤◌, ℕ, pos, Bool, true, false, List, [], ◌∷◌, ◌++◌, Result, Ok, Err, length, take, drop, refl, arith, append-nil}
use Rattle.std.specs.Prelude.{nat_lt}
use Rattle.std.proofs.lemmas.List.{length-drop, take-append-drop}
use Rattle.kit_base.specs.Limits.{longest_message}
use Rattle.mint.specs.Sound.{IsSound}
use Rattle.mint.specs.Values.{Val, arm}
use Rattle.wire_def.specs.declared.outcome.Refusal.{Refusal}
use Rattle.wire_def.specs.Grammar.{AreOctets}
use Rattle.wire_def.specs.Laws.{BeginsSpelled, HasFault}
use Rattle.wire_def.specs.Spells.{IsSpelling}
use Rattle.wire_def.proofs.Encodings.{decided}
use Rattle.wire_def.proofs.Grammars.{octets_after}
use Rattle.pres.specs.Bindings.{Binding}
use Rattle.flick_engine.specs.declared.errors.MessageErr.{MessageErr}
use Rattle.flick_engine.specs.declared.errors.MessageErr.TheVariants as err
use Rattle.flick_engine.specs.declared.replies.Fate.{Fate}
use Rattle.flick_engine.specs.declared.replies.Fate.TheVariants as fates
use Rattle.flick_engine.specs.Backs.{BeginsReply, ReplyStops}
use Rattle.flick_engine.specs.Fates.{Heard, is_followed}
use Rattle.flick_engine.specs.Received.{IsShort}
use Rattle.flick_engine.specs.Replies.{arm_type}
use Rattle.flick_engine.specs.RepliesReceived.{answered, refused, Replied, Says, ReadReply}
use Rattle.flick_engine.proofs.Existing.{above_or_not, trails}
use Rattle.flick_engine.proofs.RepliesOfBacks.{HasReply, one_reply, has_reply}

module _ (b : Binding) (op : ℕ) (sound : (k : ℕ) → IsSound (arm_type b op k)) (o : List ℕ) (oct : AreOctets o) where
  abbrev Something : Type 0
  Something = (x : Result Replied MessageErr) × ReadReply b op o x

  -- a body that begins with the spelling of an arm's value
  spelled : (t : Heard) (k : ℕ) → Says b op o t (fates.Arm k) → (a rest : List ℕ) (w : Val) → drop t.used o ≡ a ++ rest
      → IsSpelling t.encoding (arm_type b op k) t.used a w → Something
  spelled t k says a [] w is spells = (
    Ok (record { head = t.head; came = answered (arm (pos k) w) }),
    (t, k, says, (refl, (w, refl, rw (is, append-nil) spells))),
  )
  spelled t k says a (x ∷ rest) w is spells = (
    Err (err.Trailing (t.used + length a)),
    inl (t, k, says, trails t.encoding (arm_type b op k) t.used o a x rest w is spells),
  )

  -- a body
  body : (t : Heard) (k : ℕ) → Says b op o t (fates.Arm k)
      → BeginsSpelled t.encoding (arm_type b op k) t.used (drop t.used o) ⊎ HasFault t.encoding (arm_type b op k) t.used (drop t.used o)
      → Something
  body t k says (inl (a, rest, w, is, spells)) = spelled t k says a rest w is spells
  body t k says (inr (kind, at, stops)) = (Err (err.Body (record { kind = kind; at = at })), (t, k, says, stops))

  -- a refusal that octets follow which may not, or another
  refusal : (t : Heard) (why : Refusal) (followed : Bool) → is_followed why t.used o ≡ followed → Says b op o t (fates.Refused why)
      → Something
  refusal t why false is says = (Ok (record { head = t.head; came = refused why }), (t, why, says, (refl, refl, is)))
  refusal t why true is says = (Err (err.Trailing t.used), inr (t, why, says, (refl, is)))

  -- a head that tells how the call fared
  after : (t : Heard) (f : Fate) → Says b op o t f → Something
  after t (fates.Arm k) says =
      let octets : AreOctets (drop t.used o) = octets_after (take t.used o) (drop t.used o) (rw take-append-drop oct) in
      let within = (one_reply b op o).within t says.1 in
      let short : t.used + length (drop t.used o) ≤ longest_message = omega (arith, length-drop t.used o, within, says.0) in
      body t k says (decided t.encoding (arm_type b op k) (sound k) t.used (drop t.used o) octets short).either
  after t (fates.Refused why) says = refusal t why (is_followed why t.used o) refl says

  -- a head, or its fault
  head : IsShort o → HasReply (BeginsReply b op o) (ReplyStops b op o) → Something
  head short (inl (t, begins)) = after t t.fate (short, begins, refl)
  head short (inr (e, stops)) = (Err (err.Head e), (short, stops))

  size : (longest_message < length o) ⊎ IsShort o → Something
  size (inl long) = (Err err.Long, long)
  size (inr short) = head short (has_reply b op o oct)

  pub something_reply : Something
  something_reply = size (above_or_not longest_message (length o) (nat_lt longest_message (length o)) refl)
