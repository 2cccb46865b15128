-- How many tests are allowed for a value by the code that receives it.
use Rattle.std.specs.Prelude.{◌≡◌, ℕ, ◌+◌, ◌*◌, ◌≤◌, ℤ, length, if◌then◌else◌}
use Rattle.std.specs.Ordering.{int_eq}
use Rattle.kit_base.specs.Limits.{longest_message}
use Rattle.mint.specs.Types.{Ty}
use Rattle.mint.specs.Values.{Val, arm_in}
use Rattle.wire_def.specs.declared.encoding.Encoding.{Encoding}
use Rattle.wire_def.specs.Grammar.{AreOctets}
use Rattle.wire_def.specs.Places.{IsPlace}
use Rattle.cast_stub.specs.declared.recv.RecvCode.{RecvCode}
use Rattle.cast_stub.specs.Entries.{entries}
use Rattle.cast_stub.specs.Got.{received}
use Rattle.cast_stub.specs.Met.{of_some, of_each, of_present}
use Rattle.cast_stub.specs.Parts.{on_some, at, elements_in}
use Rattle.cast_stub.specs.RecvBlock.{Recv, finish, need, need_row, skip_any, skip_zero, pass, desc, row_block, row_wide, each, switch, if_there, call, Cases, no_default, default, case}
use Rattle.cast_stub.specs.Runs.{Place, gives}

abbrev mutual
  -- tests behind the needs, skips and takes that a block begins with, for a value: so many behind each other operation and
  -- at the beginning of each body that is run, one for each row's test, two for each descriptor
  pub asked_after : ℕ → Recv → Val → ℕ
  asked_after m finish v = 0
  asked_after m (need n r) v = asked_after m r v
  asked_after m (need_row p u e r) v = 1 + (m + asked_after m r v)
  asked_after m (skip_any a r) v = asked_after m r v
  asked_after m (skip_zero a r) v = asked_after m r v
  asked_after m (pass n gs r) v = asked_after m r v
  asked_after m (desc p name size mul r) v = 2 + (m + asked_after m r v)
  asked_after m (row_block p o r) v = m + asked_after m r v
  asked_after m (row_wide p o r) v = m + asked_after m r v
  asked_after m (each p b r) v = of_some (on_some (at p v) elements_in) (of_each (λ w. m + asked_after m b w)) + (m + asked_after m r v)
  asked_after m (switch p cs r) v = of_some (on_some (at p v) arm_in) (λ a. case_asked m cs a.0 a.1) + (m + asked_after m r v)
  asked_after m (if_there p b r) v = of_some (at p v) (of_present (λ w. m + asked_after m b w)) + (m + asked_after m r v)
  asked_after m (call k p r) v = m + asked_after m r v

  -- those of the body of a number, on a value
  pub case_asked : ℕ → Cases → ℤ → Val → ℕ
  case_asked m no_default n w = 0
  case_asked m (default b) n w = m + asked_after m b w
  case_asked m (case k b cs) n w = if int_eq n k then m + asked_after m b w else case_asked m cs n w

-- at most 24 tests for each entry of the value that is received, from each place of the encoding
abbrev pub TestsFew : Encoding → Ty → RecvCode → Type 0
TestsFew e t code = (s : Place) (v : Val) (u : Place) → IsPlace e s.pos → AreOctets s.left → s.pos + length s.left ≤ longest_message
    → received code t s ≡ gives v u → u.tests ≤ s.tests + 24 * entries e t v
