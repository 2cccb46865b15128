-- The answers of the verbs to the octets of a line.
use Rattle.std.specs.Prelude.{ℕ, List}
use Rattle.stub_codes.specs.Stubs.{Coded}
use Rattle.flick_lines.specs.declared.verb.Verb.{Verb}
use Rattle.flick_lines.specs.declared.verb.Verb.TheVariants.{Marshal, Unmarshal, Reply, Unreply, Count}
use Rattle.flick_lines.specs.Counted.{IsCounted}
use Rattle.flick_lines.specs.Marshalled.{IsMarshalled, IsReplied}
use Rattle.flick_lines.specs.Unmarshalled.{IsUnmarshalled, IsUnreplied}

-- the answer of a verb to the octets of a line, over a binding with the code of its operations
abbrev pub IsAnswerTo : Verb → Coded → List ℕ → List ℕ → Type 0
IsAnswerTo Marshal c octets a = IsMarshalled c.binding c.minor octets a
IsAnswerTo Unmarshal c octets a = IsUnmarshalled c.binding octets a
IsAnswerTo Reply c octets a = IsReplied c.binding c.minor octets a
IsAnswerTo Unreply c octets a = IsUnreplied c.binding octets a
IsAnswerTo Count c octets a = IsCounted c octets a
