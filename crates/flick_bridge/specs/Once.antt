-- A message asks one thing at most, or is refused for one reason at most: the law of the ends of a bridge.
use Rattle.std.proofs.Common.{◌≡◌, ℕ, Result, Ok, Err, ap, subst}
use Rattle.mint.specs.Values.{Val}
use Rattle.wire_def.specs.declared.head.Head.{Head}
use Rattle.gateway.specs.Ends.{AtMostOne}
use Rattle.flick_engine.specs.declared.errors.MessageErr.{MessageErr}
use Rattle.flick_engine.specs.Received.{Asked}
use Rattle.flick_engine.proofs.Deciding.{determined}
use Rattle.flick_bridge.specs.Bridged.{asks, declines}

-- what is asked, as a request
abbrev request : ℕ → Head → Val → Asked
request op head v = record { op = op; head = head; value = v }

-- what a message is
abbrev Read : Type 0
Read = Result Asked MessageErr

-- this is read
abbrev is_read : Asked → Read
is_read r = Ok r

-- this is why nothing is read
abbrev is_refused : MessageErr → Read
is_refused e = Err e

-- what is read, or else this
abbrev read_or : Asked → Read → Asked
read_or other (Ok r) = r
read_or other (Err e) = other

-- why nothing is read, or else this
abbrev reason_or : MessageErr → Read → MessageErr
reason_or other (Ok r) = other
reason_or other (Err e) = e

-- something is read
abbrev IsSomething : Read → Type 0
IsSomething (Ok r) = Unit {0}
IsSomething (Err e) = ⊥

parts : (op other : ℕ) (head its : Head) (v w : Val) → is_read (request op head v) ≡ is_read (request other its w)
    → (op ≡ other) × (head ≡ its) × (v ≡ w)
parts op other head its v w e =
    let same : request op head v ≡ request other its w = ap (read_or (request op head v)) e in
    (ap (λ (r : Asked). r.op) same, ap (λ (r : Asked). r.head) same, ap (λ (r : Asked). r.value) same)

reasons : (x y : MessageErr) → is_refused x ≡ is_refused y → x ≡ y
reasons x y e = ap (reason_or x) e

never : (r : Asked) (x : MessageErr) → is_read r ≡ is_refused x → ⊥
never r x e = subst IsSomething e tt

pub one : AtMostOne asks declines
one = record {
  request = λ s o op other head its v w a b.
      parts op other head its v w (determined s.from.binding o (is_read (request op head v)) (is_read (request other its w)) a b);
  reason = λ s o x y a b. reasons x y (determined s.from.binding o (is_refused x) (is_refused y) a b);
  apart = λ s o op head v x a b.
      never (request op head v) x (determined s.from.binding o (is_read (request op head v)) (is_refused x) a b);
}
