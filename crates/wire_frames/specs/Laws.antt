-- The laws of streams.
use Rattle.std.specs.Prelude.{◌≡◌, ℕ, ◌<◌, ◌≤◌, List, [], ◌∷◌, ◌++◌, length, take, drop, Some, None}
use Rattle.kit_base.specs.Limits.{longest_message}
use Rattle.wire_def.specs.declared.encoding.Back.{Back}
use Rattle.wire_def.specs.Grammar.{AreOctets}
use Rattle.wire_frames.specs.declared.frames.FrameErr.{FrameErr}
use Rattle.wire_frames.specs.Framed.{IsFramed}
use Rattle.wire_frames.specs.First.{first, whole}
use Rattle.wire_frames.specs.Cut.{AreFramed, HasGiven, before, cut, uncut}

-- a frame that stands first is found, whatever follows
abbrev pub FramesAreFound : Type 0
FramesAreFound = (back : Back) (message frame rest : List ℕ) → IsFramed back message frame → length message ≤ longest_message
    → first back (frame ++ rest) ≡ whole message (length frame)

-- what is found is a frame, of at least one octet, and its message is within the limit
abbrev pub FoundAreFrames : Type 0
FoundAreFrames = (back : Back) (stream message : List ℕ) (used : ℕ) → AreOctets stream → first back stream ≡ whole message used
    → IsFramed back message (take used stream) × ((0 < used) × (used ≤ length stream)) × (length message ≤ longest_message)

-- the frames of messages, joined, have exactly these messages, and neither a rest nor a fault
abbrev pub FramesAreCut : Type 0
FramesAreCut = (back : Back) (messages : List (List ℕ)) (stream : List ℕ) → AreFramed back messages stream
    → cut back stream ≡ before messages (uncut [] None)

-- what follows a first frame does not change its message: the others are those of what follows it
abbrev pub FirstStays : Type 0
FirstStays = (back : Back) (message frame rest more : List ℕ) → IsFramed back message frame → length message ≤ longest_message
    → cut back ((frame ++ rest) ++ more) ≡ before (message ∷ []) (cut back (rest ++ more))

-- a stream that has a fault keeps its messages and its fault, whatever follows
abbrev pub FaultsStay : Type 0
FaultsStay = (back : Back) (stream more : List ℕ) (fault : FrameErr) → (cut back stream).fault ≡ Some fault
    → cut back (stream ++ more) ≡ record (cut back stream) { rest = (cut back stream).rest ++ more }

-- a stream and more octets: the messages of the stream, and then those of its rest with these octets
abbrev pub CutsGoOn : Type 0
CutsGoOn = (back : Back) (stream more : List ℕ)
    → cut back (stream ++ more) ≡ before (cut back stream).messages (cut back ((cut back stream).rest ++ more))

-- what was given of a stream that is fed in pieces and asked for messages: the first messages of all that was fed, and the others are
-- those of what is kept
pub record PiecesAreCut : Type 0 where
  pub none : (back : Back) → HasGiven back [] [] []
  pub feed : (back : Back) (fed kept piece : List ℕ) (given : List (List ℕ)) → HasGiven back fed given kept
      → HasGiven back (fed ++ piece) given (kept ++ piece)
  pub next : (back : Back) (fed kept message : List ℕ) (given : List (List ℕ)) (used : ℕ) → HasGiven back fed given kept
      → first back kept ≡ whole message used → HasGiven back fed (given ++ message ∷ []) (drop used kept)
  pub messages : (back : Back) (fed kept : List ℕ) (given : List (List ℕ)) → HasGiven back fed given kept
      → cut back fed ≡ before given (cut back kept)
