-- What a message is, by what its body was read as.
use Rattle.std.proofs.Common.{◌≡◌, ◌+◌, ◌<◌, ◌≤◌, ℕ, List, Err, Ok, length, take, drop, refl, arith}
use Rattle.std.proofs.lemmas.List.{length-drop, take_all}
use Rattle.mint.specs.Values.{Val}
use Rattle.plain_wire.specs.Answered.{FirstSpell}
use Rattle.head_kit.specs.declared.call_head.CallHead.{CallHead}
use Rattle.head_kit.specs.declared.call_head.CallTarget.TheVariants.{Operation}
use Rattle.pres.specs.Bindings.{Binding}
use Rattle.flick_engine.specs.declared.errors.MessageErr.TheVariants as err
use Rattle.flick_engine.specs.Backs.{Begins}
use Rattle.flick_engine.specs.Messages.{request_type}
use Rattle.flick_engine.specs.Received.{Names, IsExactly}
use Rattle.flick_engine.proofs.HeadsOfBacks.{one_head}
use Rattle.flick_engine.proofs.Deciding.{exactly}

-- the head of a call lies within the message
pub head_within : (b : Binding) (o : List ℕ) (c : CallHead) → Begins b o c → c.used ≤ length o
head_within b o c begins = (one_head b o).within c begins

module _ (b : Binding) (o : List ℕ) (c : CallHead) (op : ℕ) (names : Names b o c (Operation op)) (v : Val) (used : ℕ)
    (spells : FirstSpell c.encoding (request_type b op) c.used (drop c.used o) v used) where
  -- a body lies within the message
  pub body_within : c.used + used ≤ length o
  body_within =
      let within = head_within b o c names.1 in
      omega (arith, within, spells.there, length-drop c.used o)

  -- octets follow
  pub is_trailing : c.used + used < length o → IsExactly b o (Err (err.Trailing (c.used + used)))
  is_trailing more = exactly b o _ (c, op, names, (v, used, spells, refl, more))

  -- none follow
  pub is_request : length o ≤ c.used + used → IsExactly b o (Ok (record { op = op; head = c.head; value = v }))
  is_request none =
      let all : take used (drop c.used o) ≡ drop c.used o = take_all used (drop c.used o) (omega (arith, length-drop c.used o)) in
      exactly b o _ (c, op, names, (refl, refl, rw all at spells.spelled))
