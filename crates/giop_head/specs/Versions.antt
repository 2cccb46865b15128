-- What differs between versions: the minor number 0 stands for version 1.0, any other for version 1.2.
use Rattle.std.specs.Prelude.{◌≡◌, ℕ, zero, suc, ◌%◌, [], length, Bool, ◌==◌, slice_index}
use Rattle.wire_def.specs.declared.fault.HeadErr.{HeadErr}
use Rattle.wire_def.specs.declared.fault.HeadErr.TheVariants.{Item}
use Rattle.wire_def.specs.declared.head.Order.{Order}
use Rattle.wire_def.specs.Grammar.{got, Reader, Spelling, Stopping, map_got, both, tested, Parts, StopsInOrder, TestedSpells, TestedStops}
use Rattle.wire_def.specs.HeadItems.{BodyStops, read_body}
use Rattle.head_kit.specs.Words.{up_to}
use Rattle.giop_head.specs.Items.{ShortSpells, ShortStops, read_short, short_place, FlagSpells, FlagStops, read_flag, SequenceStops, PaddingSpells, PaddingStops, pass_padding}
use Rattle.giop_head.specs.Contexts.{ContextsSpell, ContextsStop, pass_contexts, AnySequence, pass_sequence}

-- ---- service contexts: first in version 1.0, last in version 1.2

-- service contexts before all other fields, in version 1.0
abbrev pub FirstSpell : ℕ → Order → Spelling (Unit {0})
FirstSpell zero r p o x = ContextsSpell r p o x
FirstSpell (suc m) r p o x = o ≡ []

-- such contexts that are cut off
abbrev pub FirstStop : ℕ → Order → Stopping HeadErr
FirstStop zero r p o k at = ContextsStop r p o k at
FirstStop (suc m) r p o k at = ⊥

-- such contexts, passed over
abbrev pub pass_first : ℕ → Order → Reader HeadErr (Unit {0})
pass_first zero r p o = pass_contexts r p o
pass_first (suc m) r p o = got tt p o

-- service contexts, and what leads up to the body of a message of so many octets
abbrev pub TailSpells : ℕ → Order → Spelling (Unit {0})
TailSpells n r p o x = Parts p o (λ a. ContextsSpell r p a tt) (λ q b. PaddingSpells n q b tt)

-- contexts that are cut off, or what leads up to the body
abbrev pub TailStops : ℕ → Order → Stopping HeadErr
TailStops n r = StopsInOrder (ContextsSpell r) (ContextsStop r) (λ contexts. PaddingStops n)

-- contexts and what leads up to the body, passed over
unfoldable pub pass_tail : ℕ → Order → Reader HeadErr (Unit {0})
pass_tail n r p o = map_got (λ x. x.1) (both (pass_contexts r) (λ contexts. pass_padding n) p o)

-- the last fields of a reply's head but for an exception, which version 1.2 alone has
abbrev pub LastSpell : ℕ → ℕ → Order → Spelling (Unit {0})
LastSpell zero n r p o x = o ≡ []
LastSpell (suc m) n r p o x = TailSpells n r p o x

-- such fields that are cut off
abbrev pub LastStop : ℕ → ℕ → Order → Stopping HeadErr
LastStop zero n r p o k at = ⊥
LastStop (suc m) n r p o k at = TailStops n r p o k at

-- such fields, passed over
abbrev pub pass_last : ℕ → ℕ → Order → Reader HeadErr (Unit {0})
pass_last zero n r p o = got tt p o
pass_last (suc m) n r p o = pass_tail n r p o

-- the last fields of a request's head: a principal in version 1.0
abbrev pub CloseSpells : ℕ → ℕ → Order → Spelling (Unit {0})
CloseSpells zero n r p o x = AnySequence r p o x
CloseSpells (suc m) n r p o x = TailSpells n r p o x

-- such fields that are cut off
abbrev pub CloseStops : ℕ → ℕ → Order → Stopping HeadErr
CloseStops zero n r p o k at = SequenceStops r p o k at
CloseStops (suc m) n r p o k at = TailStops n r p o k at

-- such fields, passed over
abbrev pub pass_close : ℕ → ℕ → Order → Reader HeadErr (Unit {0})
pass_close zero n r p o = pass_sequence r p o
pass_close (suc m) n r p o = pass_tail n r p o

-- ---- whether a reply is wanted: a boolean in version 1.0, four octets in version 1.2

-- a number that is not a multiple of 2
abbrev pub is_odd : ℕ → Bool
is_odd n = n % 2 == 1

-- a boolean; or octets of which the first is the response flags, whose bit 0 says it, and three are reserved
abbrev pub WantsSpells : ℕ → Spelling Bool
WantsSpells zero p o b = FlagSpells p o b
WantsSpells (suc m) p o b = (length o ≡ 4) × (is_odd (slice_index o 0) ≡ b)

-- a boolean that stops, or octets that are cut off
abbrev pub WantsStops : ℕ → Stopping HeadErr
WantsStops zero p o k at = FlagStops p o k at
WantsStops (suc m) p o k at = BodyStops 4 p o k at

-- whether a reply is wanted, read from a position
abbrev pub read_wants : ℕ → Reader HeadErr Bool
read_wants zero p o = read_flag p o
read_wants (suc m) p o = map_got (λ x. is_odd (slice_index x 0)) (read_body 4 p o)

-- ---- the target: an object key in version 1.0; in version 1.2 a short says of what kind it is

-- the kind of a target: 0 is an object key, 1 a profile, 2 a reference
abbrev pub TargetSpells : ℕ → Order → Spelling ℕ
TargetSpells zero r p o t = (o ≡ []) × (0 ≡ t)
TargetSpells (suc m) r p o t = TestedSpells (ShortSpells r) (up_to 2) p o t

-- a kind that is cut off, or is none of these
abbrev pub TargetStops : ℕ → Order → Stopping HeadErr
TargetStops zero r p o k at = ⊥
TargetStops (suc m) r p o k at = TestedStops (ShortSpells r) ShortStops (up_to 2) Item short_place p o k at

-- the kind of a target, read from a position
abbrev pub read_target : ℕ → Order → Reader HeadErr ℕ
read_target zero r p o = got 0 p o
read_target (suc m) r p o = tested (read_short r) (up_to 2) Item short_place p o
