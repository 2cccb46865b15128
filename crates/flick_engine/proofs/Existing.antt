-- Octets are always something.
use Rattle.std.proofs.Common.{◌≡◌, ◌⊎◌, inl, inr, ◌+◌, ◌<◌, ◌≤◌, ℕ, Bool, true, false, List, [], ◌∷◌, ◌++◌, Result, Ok, Err, length, take, drop, refl, ap, arith, append-nil, length-append}
use Rattle.std.specs.Prelude.{nat_lt}
use Rattle.std.proofs.lemmas.Bool.{ltb-true, ltb-false}
use Rattle.std.proofs.lemmas.List.{length-drop, take-append-drop, take_at}
use Rattle.kit_base.specs.Limits.{longest_message}
use Rattle.mint.specs.Sound.{IsSound}
use Rattle.mint.specs.Types.{Ty}
use Rattle.mint.specs.Values.{Val}
use Rattle.wire_def.specs.declared.encoding.Encoding.{Encoding}
use Rattle.wire_def.specs.Grammar.{AreOctets}
use Rattle.wire_def.specs.Laws.{BeginsSpelled, HasFault}
use Rattle.wire_def.specs.Spells.{IsSpelling}
use Rattle.wire_def.proofs.Encodings.{decided}
use Rattle.wire_def.proofs.Grammars.{octets_after}
use Rattle.plain_wire.specs.Answered.{FirstSpell}
use Rattle.head_kit.specs.declared.call_head.CallHead.{CallHead}
use Rattle.head_kit.specs.declared.call_head.CallTarget.{CallTarget}
use Rattle.head_kit.specs.declared.call_head.CallTarget.TheVariants as naming
use Rattle.head_kit.specs.Calls.{HasHead}
use Rattle.pres.specs.Bindings.{Binding}
use Rattle.flick_engine.specs.declared.errors.MessageErr.{MessageErr}
use Rattle.flick_engine.specs.declared.errors.MessageErr.TheVariants as err
use Rattle.flick_engine.specs.Backs.{Begins, Stops}
use Rattle.flick_engine.specs.Messages.{request_type}
use Rattle.flick_engine.specs.Received.{Asked, IsShort, Names, ReadCall}
use Rattle.flick_engine.proofs.HeadsOfBacks.{one_head, has_head}

pub above_or_not : (m n : ℕ) (t : Bool) → nat_lt m n ≡ t → (m < n) ⊎ (n ≤ m)
above_or_not m n true is = inl (ltb-true m n is)
above_or_not m n false is = inr (ltb-false m n is)

-- a body begins with the spelling of a value, and octets follow it at this place
abbrev pub Trails : Encoding → Ty → ℕ → List ℕ → ℕ → Type 0
Trails e t used o at = (v : Val) × (n : ℕ) × FirstSpell e t used (drop used o) v n × (at ≡ used + n) × (at < length o)

-- so it is where octets follow what spells the value
pub trails : (e : Encoding) (t : Ty) (used : ℕ) (o a : List ℕ) (x : ℕ) (rest : List ℕ) (v : Val) → drop used o ≡ a ++ x ∷ rest
    → IsSpelling e t used a v → Trails e t used o (used + length a)
trails e t used o a x rest v is spells = (
  v,
  length a,
  record {
    there = omega (arith, ap length is, length-append a (x ∷ rest));
    spelled = rw (is, take_at a (x ∷ rest) (length a) refl) spells;
  },
  refl,
  omega (arith, ap length is, length-append a (x ∷ rest), length-drop used o),
)

module _ (b : Binding) (sound : (op : ℕ) → IsSound (request_type b op)) (o : List ℕ) (oct : AreOctets o) where
  abbrev Something : Type 0
  Something = (x : Result Asked MessageErr) × ReadCall b o x

  -- a body that begins with a value's spelling
  spelled : (c : CallHead) (op : ℕ) → Names b o c (naming.Operation op) → (a rest : List ℕ) (v : Val) → drop c.used o ≡ a ++ rest
      → IsSpelling c.encoding (request_type b op) c.used a v → Something
  spelled c op names a [] v is spells = (
    Ok (record { op = op; head = c.head; value = v }),
    (c, op, names, (refl, refl, rw (is, append-nil) spells)),
  )
  spelled c op names a (x ∷ rest) v is spells = (
    Err (err.Trailing (c.used + length a)),
    (c, op, names, trails c.encoding (request_type b op) c.used o a x rest v is spells),
  )

  -- a body
  body : (c : CallHead) (op : ℕ) → Names b o c (naming.Operation op)
      → BeginsSpelled c.encoding (request_type b op) c.used (drop c.used o)
      ⊎ HasFault c.encoding (request_type b op) c.used (drop c.used o) → Something
  body c op names (inl (a, rest, v, is, spells)) = spelled c op names a rest v is spells
  body c op names (inr (k, at, stops)) = (Err (err.Body (record { kind = k; at = at })), (c, op, names, stops))

  -- a call that names this
  after : (c : CallHead) (n : CallTarget) → Names b o c n → Something
  after c naming.NoInterface names = (Err err.NoInterface, (c, names))
  after c naming.NoOperation names = (Err err.NoOperation, (c, names))
  after c (naming.Operation op) names =
      let octets : AreOctets (drop c.used o) = octets_after (take c.used o) (drop c.used o) (rw take-append-drop oct) in
      let within = (one_head b o).within c names.1 in
      let short : c.used + length (drop c.used o) ≤ longest_message = omega (arith, length-drop c.used o, within, names.0) in
      body c op names (decided c.encoding (request_type b op) (sound op) c.used (drop c.used o) octets short).either

  -- a head, or its fault
  head : IsShort o → HasHead (Begins b o) (Stops b.back o) → Something
  head short (inl (c, begins)) = after c c.naming (short, begins, refl)
  head short (inr (e, stops)) = (Err (err.Head e), (short, stops))

  size : (longest_message < length o) ⊎ IsShort o → Something
  size (inl long) = (Err err.Long, long)
  size (inr short) = head short (has_head b o oct)

  pub something : Something
  something = size (above_or_not longest_message (length o) (nat_lt longest_message (length o)) refl)
