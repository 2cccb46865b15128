-- What a receive code gives, and when it gives what the octets spell.
use Rattle.std.specs.Prelude.{◌≡◌, ℕ, zero, suc, ◌+◌, ◌≤◌, List, length, drop, Option, None, option_map, slice_get}
use Rattle.kit_base.specs.Limits.{longest_message}
use Rattle.mint.specs.Values.{Val}
use Rattle.mint.specs.Types.{Ty}
use Rattle.wire_def.specs.declared.encoding.Encoding.{Encoding}
use Rattle.wire_def.specs.Grammar.{AreOctets}
use Rattle.wire_def.specs.Laws.{BeginsWith}
use Rattle.cast_stub.specs.declared.recv.RecvOp.{RecvOp}
use Rattle.cast_stub.specs.declared.recv.RecvCode.{RecvCode}
use Rattle.cast_stub.specs.Subs.{deepest}
use Rattle.cast_stub.specs.RecvBlock.{Recv, code_seen}
use Rattle.cast_stub.specs.Draft.{fresh}
use Rattle.cast_stub.specs.Fill.{Callees, fill, settled}
use Rattle.cast_stub.specs.Runs.{Place, Run, gives, refuses, strays, if_some}

-- callees where there is no code: each call strays
abbrev pub no_calls : Callees
no_calls k d s = strays

-- no codes
abbrev pub no_subs : ℕ → Option Recv
no_subs k = None

-- the codes of a list, where calls stand within one another at most so many deep
abbrev pub called : (ℕ → Option Recv) → ℕ → Callees
called subs zero k d s = strays
called subs (suc n) k d s = if_some (subs k) (λ b. fill (called subs n) b d s)

-- the code at a place
abbrev pub sub_at : List (List RecvOp) → ℕ → Option Recv
sub_at subs k = option_map code_seen (slice_get subs k)

-- the same of a list of codes
abbrev pub calls_of : List (List RecvOp) → ℕ → Callees
calls_of subs n = called (sub_at subs) n

-- the run of a code over the octets from a place: it gives a value of the type, refuses or strays
abbrev pub received : RecvCode → Ty → Place → Run Val
received code t s = settled (fill (calls_of code.subs deepest) (code_seen code.ops) (fresh t) s)

-- what a code gives: a value, the position after it, and the tests so far; or that it gives none
pub data Got : Type 0 where
  given : Val → ℕ → ℕ → Got
  not_given : Got

-- what a run gives; a run that refuses or strays gives none
abbrev pub reported : Run Val → Got
reported (gives v s) = given v s.pos s.tests
reported refuses = not_given
reported strays = not_given

-- what a code gives over the octets from a place
abbrev pub got_by : RecvCode → Ty → Place → Got
got_by code t s = reported (received code t s)

-- octets from a position on, of which nothing was tested
abbrev pub untested : ℕ → List ℕ → Place
untested p o = record { pos = p; left = o; near = 0; tests = 0 }

-- the value that the first octets spell, or none where they spell none; the run never strays
abbrev pub IsExact : Encoding → Ty → ℕ → List ℕ → Run Val → Type 0
IsExact e t p o (gives v s) = (used : ℕ) × (s.pos ≡ p + used) × (s.left ≡ drop used o) × BeginsWith e t p o v used
IsExact e t p o refuses = (v : Val) (used : ℕ) → BeginsWith e t p o v used → ⊥
IsExact e t p o strays = ⊥

-- so it is from each place at these positions, whatever was tested before, over the octets that a message can hold
abbrev pub IsSoundCode : Encoding → Ty → (ℕ → Type 0) → RecvCode → Type 0
IsSoundCode e t IsPlace code = (s : Place) → IsPlace s.pos → AreOctets s.left → s.pos + length s.left ≤ longest_message
    → IsExact e t s.pos s.left (received code t s)
