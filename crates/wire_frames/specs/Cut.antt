-- A stream, cut into its messages.
use Rattle.std.specs.Prelude.{◌≡◌, ℕ, zero, suc, ◌≤◌, List, [], ◌∷◌, ◌++◌, length, drop, Option, Some, None}
use Rattle.kit_base.specs.Limits.{longest_message}
use Rattle.wire_def.specs.declared.encoding.Back.{Back}
use Rattle.wire_frames.specs.declared.frames.FrameErr.{FrameErr}
use Rattle.wire_frames.specs.Framed.{IsFramed}
use Rattle.wire_frames.specs.First.{First, whole, bad, more, first}

-- the messages of a stream, what is left behind them, and perhaps why it will never be a message
pub record Cut : Type 0 where
  pub messages : List (List ℕ)
  pub rest : List ℕ
  pub fault : Option FrameErr

-- a stream without a message
abbrev pub uncut : List ℕ → Option FrameErr → Cut
uncut s fault = record { messages = []; rest = s; fault = fault }

-- messages before those of a stream
abbrev pub before : List (List ℕ) → Cut → Cut
before messages c = record c { messages = messages ++ c.messages }

-- a stream cut by what stands first in it, where what follows is cut so
abbrev pub cut_by : (List ℕ → Cut) → List ℕ → First → Cut
cut_by next s (whole m used) = before (m ∷ []) (next (drop used s))
cut_by next s (bad e) = uncut s (Some e)
cut_by next s more = uncut s None

-- a stream cut into at most so many messages
abbrev pub cut_within : ℕ → Back → List ℕ → Cut
cut_within zero back s = uncut s None
cut_within (suc k) back s = cut_by (λ rest. cut_within k back rest) s (first back s)

-- a stream, cut: a frame takes an octet at the least
abbrev pub cut : Back → List ℕ → Cut
cut back s = cut_within (length s) back s

-- a stream is the frames of these messages, each within the limit, one after the other
abbrev pub AreFramed : Back → List (List ℕ) → List ℕ → Type 0
AreFramed back [] s = s ≡ []
AreFramed back (m ∷ ms) s = (frame : List ℕ) × (rest : List ℕ)
    × (s ≡ frame ++ rest) × IsFramed back m frame × (length m ≤ longest_message) × AreFramed back ms rest

-- of the octets that were fed these messages were given and these octets are kept, whatever follows
abbrev pub HasGiven : Back → List ℕ → List (List ℕ) → List ℕ → Type 0
HasGiven back fed messages kept = (more : List ℕ) → cut back (fed ++ more) ≡ before messages (cut back (kept ++ more))
