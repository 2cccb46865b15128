-- The parts of a stream, by the messages that were given and by what is kept.
use Rattle.std.proofs.Common.{◌≡◌, ◌≢◌, ℕ, List, [], ◌∷◌, ◌++◌, map, refl, sym, ap, ◌∙◌, append_assoc, append-nil, subst}
use Rattle.std.proofs.lemmas.List.{map-append}
use Rattle.std.specs.Prelude.{Option, Some, None}
use Rattle.wire_def.specs.declared.encoding.Back.{Back}
use Rattle.wire_frames.specs.declared.frames.FrameErr.{FrameErr}
use Rattle.wire_frames.specs.declared.messages.Part.{Part}
use Rattle.wire_frames.specs.declared.messages.Part.TheVariants as part
use Rattle.wire_frames.specs.First.{bad, more, first}
use Rattle.wire_frames.specs.Cut.{Cut, HasGiven, before, cut}
use Rattle.wire_frames.specs.Reading.{ending, parts}
use Rattle.wire_frames.proofs.Cutting.{cut_bad, cut_more, cuts_go_on, faults_stay, pieces_are_cut}
use Rattle.wire_frames.proofs.Staying.{IsSettled, first_stays}

-- the parts of a stream that is cut so
abbrev parts_of : Cut → List Part
parts_of c = map part.Message c.messages ++ ending c.fault c.rest

-- messages before a stream come before its parts
parts_before : (ms : List (List ℕ)) (c : Cut) → parts_of (before ms c) ≡ map part.Message ms ++ parts_of c
parts_before ms c =
    ap (λ (l : List Part). l ++ ending c.fault c.rest) (map-append part.Message ms c.messages)
    ∙ append_assoc (map part.Message ms) (map part.Message c.messages) (ending c.fault c.rest)

-- the beginning of a message is the last part
ending_cut : (kept : List ℕ) → kept ≢ [] → ending None kept ≡ part.Cut ∷ []
ending_cut [] h = absurd (h refl)
ending_cut (x ∷ kept) h = refl

-- what follows a stream does not change its messages
pub messages-grow : (back : Back) (s t : List ℕ)
    → (ms : List (List ℕ)) × ((cut back (s ++ t)).messages ≡ (cut back s).messages ++ ms)
messages-grow back s t =
    ((cut back ((cut back s).rest ++ t)).messages, ap (λ (c : Cut). c.messages) (cuts_go_on back s t))

pub parts-grow : (back : Back) (s t : List ℕ)
    → parts back (s ++ t) ≡ map part.Message (cut back s).messages ++ parts back ((cut back s).rest ++ t)
parts-grow back s t =
    ap parts_of (cuts_go_on back s t) ∙ parts_before (cut back s).messages (cut back ((cut back s).rest ++ t))

-- a fault ends the parts, whatever is behind it
same_ending : (o : Option FrameErr) (e : FrameErr) (rest behind : List ℕ) → o ≡ Some e → ending o rest ≡ ending o behind
same_ending None e rest behind is = absurd (cc is)
same_ending (Some f) e rest behind is = refl

-- what follows a fault does not change the parts
pub parts-stay : (back : Back) (s t : List ℕ) (e : FrameErr) → (cut back s).fault ≡ Some e → parts back (s ++ t) ≡ parts back s
parts-stay back s t e is =
    let c = cut back s in
    ap parts_of (faults_stay back s t e is)
    ∙ ap (λ (l : List Part). map part.Message c.messages ++ l) (same_ending c.fault e (c.rest ++ t) c.rest is)

-- of the octets that were fed these messages were given, and these octets are kept
module _ (back : Back) (fed kept : List ℕ) (ms : List (List ℕ)) (given : HasGiven back fed ms kept) where
  -- the parts of what was fed and what follows begin with the messages
  pub parts-on : (rest : List ℕ) → parts back (fed ++ rest) ≡ map part.Message ms ++ parts back (kept ++ rest)
  parts-on rest = ap parts_of (given rest) ∙ parts_before ms (cut back (kept ++ rest))

  -- a fault of what is kept is the last part, whatever follows
  pub parts-bad : (e : FrameErr) → first back kept ≡ bad e → (rest : List ℕ)
      → parts back (fed ++ rest) ≡ map part.Message ms ++ part.Fault e ∷ []
  parts-bad e is rest =
      let stays : first back (kept ++ rest) ≡ bad e = first_stays back kept rest (subst IsSettled (sym is) tt) ∙ is in
      parts-on rest ∙ ap (λ (c : Cut). map part.Message ms ++ parts_of c) (cut_bad back (kept ++ rest) e stays)

  -- where nothing follows
  parts_all : parts back fed ≡ map part.Message ms ++ parts back kept
  parts_all =
      ap (parts back) (sym (append-nil fed)) ∙ parts-on []
      ∙ ap (λ (o : List ℕ). map part.Message ms ++ parts back o) (append-nil kept)

  -- the beginning of a message is the last part
  pub parts-cut : first back kept ≡ more → kept ≢ [] → parts back fed ≡ map part.Message ms ++ part.Cut ∷ []
  parts-cut is some =
      parts_all ∙ ap (λ (c : Cut). map part.Message ms ++ parts_of c) (cut_more back kept is)
      ∙ ap (λ (l : List Part). map part.Message ms ++ l) (ending_cut kept some)

  -- where nothing is kept, the messages are all
  pub parts-end : kept ≡ [] → parts back fed ≡ map part.Message ms
  parts-end is =
      parts_all ∙ ap (λ (o : List ℕ). map part.Message ms ++ parts back o) is ∙ append-nil (map part.Message ms)

  -- where nothing more is found, the messages are those of what was fed
  pub messages-ended : first back kept ≡ more → (cut back fed).messages ≡ ms
  messages-ended is =
      ap (λ (c : Cut). c.messages) (pieces_are_cut.messages back fed kept ms given)
      ∙ ap (λ (c : Cut). ms ++ c.messages) (cut_more back kept is) ∙ append-nil ms

  -- a fault of what is kept is that of what was fed
  pub fault-told : (e : FrameErr) → first back kept ≡ bad e → (cut back fed).fault ≡ Some e
  fault-told e is =
      ap (λ (c : Cut). c.fault) (pieces_are_cut.messages back fed kept ms given)
      ∙ ap (λ (c : Cut). c.fault) (cut_bad back kept e is)
