-- The items of an input, each of which is answered by itself, and how an input is cut into them.
use Rattle.std.specs.Prelude.{◌≡◌, ℕ, List, [], ◌∷◌, ◌++◌, map, Bool, true, false, is_some, if◌then◌else◌, ◌==◌}
use Rattle.std.specs.List.{list_any}
use Rattle.kit_base.specs.Limits.{longest_line}
use Rattle.kit_base.specs.Lines.{lines}
use Rattle.wire_def.specs.declared.encoding.Back.{Back}
use Rattle.wire_frames.specs.declared.messages.Part.TheVariants as part
use Rattle.wire_frames.specs.Cut.{cut}
use Rattle.wire_frames.specs.Reading.{parts}
use Rattle.flick_top.specs.declared.items.Item.{Item}
use Rattle.flick_top.specs.declared.items.Item.TheVariants as items

-- a way to cut an input: into the items of the whole, and into those that have ended, whatever follows
pub record Cutting : Type 0 where
  pub whole : List ℕ → List Item
  pub ended : List ℕ → List Item
  -- nothing is read behind these octets
  pub stops : List ℕ → Bool

-- a line ends in these octets
abbrev pub has_end : List ℕ → Bool
has_end octets = list_any (λ x. x == 10) octets

-- the octets up to the last end of a line
abbrev pub ended_part : List ℕ → List ℕ
ended_part [] = []
ended_part (x ∷ xs) = if has_end (x ∷ xs) then x ∷ ended_part xs else []

-- into lines
abbrev pub by_lines : Cutting
by_lines = record {
  whole = λ octets. map items.Line (lines longest_line octets);
  ended = λ octets. map items.Line (lines longest_line (ended_part octets));
  stops = λ octets. false;
}

-- messages as items
abbrev pub messages_as : List (List ℕ) → List Item
messages_as ms = map items.Part (map part.Message ms)

-- into the parts of a raw stream: a fault is the last one
abbrev pub by_frames : Back → Cutting
by_frames back = record {
  whole = λ octets. map items.Part (parts back octets);
  ended = λ octets. messages_as (cut back octets).messages;
  stops = λ octets. is_some (cut back octets).fault;
}

-- these are the first of those
abbrev pub Begin : List Item → List Item → Type 0
Begin these those = (more : List Item) × (those ≡ these ++ more)

-- the items that have ended are the first of those that have ended in more octets, and of the whole of these; what is not read does not
-- change the whole
pub record IsCutting (c : Cutting) : Type 0 where
  pub ended : (octets more : List ℕ) → Begin (c.ended octets) (c.ended (octets ++ more))
  pub whole : (octets more : List ℕ) → Begin (c.ended octets) (c.whole (octets ++ more))
  pub stays : (octets more : List ℕ) → c.stops octets ≡ true → c.whole (octets ++ more) ≡ c.whole octets
