-- Service contexts, which are passed over (OMG CORBA, chapter GIOP, section on object service data).
use Rattle.std.specs.Prelude.{ℕ, List}
use Rattle.wire_def.specs.declared.fault.HeadErr.{HeadErr}
use Rattle.wire_def.specs.declared.head.Order.{Order}
use Rattle.wire_def.specs.Grammar.{Reader, Spelling, Stopping, map_got, both, times, Parts, SpellTimes, StopTimes, StopsInOrder}
use Rattle.giop_head.specs.Items.{LongSpells, LongStops, read_long, SequenceSpells, SequenceStops, read_sequence}

-- an id, and a sequence of octets
abbrev pub Context : Type 0
Context = ℕ × List ℕ

-- a service context and its octets
abbrev pub ContextSpells : Order → Spelling Context
ContextSpells r p o c = Parts p o (λ a. LongSpells r p a c.0) (λ q b. SequenceSpells r q b c.1)

-- a service context that is cut off
abbrev pub ContextStops : Order → Stopping HeadErr
ContextStops r = StopsInOrder (LongSpells r) LongStops (λ id. SequenceStops r)

-- a service context, read from a position
unfoldable pub read_context : Order → Reader HeadErr Context
read_context r = both (read_long r) (λ id. read_sequence r)

-- so many contexts, whatever they are
abbrev pub ManySpell : Order → ℕ → Spelling (Unit {0})
ManySpell r n p o x = (cs : List Context) × SpellTimes (ContextSpells r) n p o cs

-- the first of so many contexts that is cut off
abbrev pub ManyStop : Order → ℕ → Stopping HeadErr
ManyStop r = StopTimes (ContextSpells r) (ContextStops r)

-- so many contexts, passed over
unfoldable pub pass_many : Order → ℕ → Reader HeadErr (Unit {0})
pass_many r n p o = map_got (λ cs. tt) (times (read_context r) n p o)

-- a number of contexts, and they
abbrev pub ContextsSpell : Order → Spelling (Unit {0})
ContextsSpell r p o x = (n : ℕ) × Parts p o (λ a. LongSpells r p a n) (λ q b. ManySpell r n q b tt)

-- a number of contexts that is cut off, or one of them
abbrev pub ContextsStop : Order → Stopping HeadErr
ContextsStop r = StopsInOrder (LongSpells r) LongStops (ManyStop r)

-- contexts, passed over
unfoldable pub pass_contexts : Order → Reader HeadErr (Unit {0})
pass_contexts r p o = map_got (λ x. x.1) (both (read_long r) (pass_many r) p o)

-- a sequence of octets, whatever it is
abbrev pub AnySequence : Order → Spelling (Unit {0})
AnySequence r p o x = (s : List ℕ) × SequenceSpells r p o s

-- a sequence, passed over
unfoldable pub pass_sequence : Order → Reader HeadErr (Unit {0})
pass_sequence r p o = map_got (λ s. tt) (read_sequence r p o)
