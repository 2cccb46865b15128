-- The requests that a number makes, and their messages.
use Rattle.std.specs.Prelude.{◌≡◌, ℕ, ◌+◌, ◌%◌, ◌^◌, ◌==◌, Bool, true, false, if◌then◌else◌, List, length, Ok, Err}
use Rattle.wire_def.specs.declared.head.Head.{Head}
use Rattle.wire_def.specs.declared.head.Order.TheVariants.{Big}
use Rattle.case_make.specs.Made.{made}
use Rattle.mint.specs.Values.{Val}
use Rattle.pres.specs.Bindings.{Binding}
use Rattle.flick_engine.specs.Messages.{request_type, message}
use Rattle.flick_engine.specs.Received.{asked, ReadCall}
use Rattle.flick_texts.specs.declared.trip.Trip.{Trip}
use Rattle.flick_texts.specs.declared.trip.Trip.TheVariants.{Long, Read, Refused}
use Rattle.flick_texts.specs.Counted.{messages_from, made_line, IsMade}

-- the operation whose turn it is
abbrev pub turn : Binding → ℕ → ℕ
turn b i = i % length b.ops

-- the head of request i
abbrev pub made_head : ℕ → Head
made_head i = record { id = i; remote = 0; local = 0; wants = true; order = Big }

-- the value of request i: the one that the number plus i makes, modulo 2^64, for the operation whose turn it is
abbrev pub made_value : Binding → ℕ → ℕ → Val
made_value b number i = made (request_type b (turn b i)) ((number + i) % 2 ^ 64)

-- the message of request i in a version
abbrev pub made_message : Binding → ℕ → ℕ → ℕ → List ℕ
made_message b m number i = message b m (turn b i) (made_head i) (made_value b number i)

-- so many requests; none where there is no operation
abbrev pub so_many_of : Binding → ℕ → ℕ
so_many_of b many = if length b.ops == 0 then 0 else many

-- the messages of so many requests from 0 on
abbrev pub messages : Binding → ℕ → ℕ → ℕ → List (List ℕ)
messages b m number many = messages_from (made_message b m number) 0 (so_many_of b many)

-- what is said of the messages of so many requests
abbrev pub make_text : Binding → ℕ → ℕ → ℕ → List ℕ
make_text b m number many = made_line (messages b m number many)

-- ---- what becomes of a request

-- what became of a request: its message is read as the message that it is
abbrev pub IsRead : Binding → List ℕ → Trip → Type 0
IsRead b m Long = ⊥
IsRead b m (Read r) = ReadCall b m (Ok (asked r))
IsRead b m (Refused e) = ReadCall b m (Err e)

-- the message of a request is within the limit
abbrev pub is_within : Trip → Bool
is_within Long = false
is_within _ = true

-- a message was made, and where it is within the limit it was read
pub record IsTrip (b : Binding) (m : List ℕ) (t : Trip) (done : List ℕ) : Type 0 where
  pub made : IsMade (is_within t) m done
  pub read : is_within t ≡ true → IsRead b m t
