-- The heads of Reply messages (OMG CORBA, chapter GIOP, section on the Reply message).
use Rattle.std.specs.Prelude.{◌≡◌, ℕ, zero, suc, List, []}
use Rattle.wire_def.specs.declared.fault.HeadErr.{HeadErr}
use Rattle.wire_def.specs.declared.head.Order.{Order}
use Rattle.wire_def.specs.Grammar.{got, Reader, Spelling, Stopping, map_got, both, Parts, StopsInOrder}
use Rattle.giop_head.specs.Items.{LongSpells, LongStops, read_long, PassSpells, PassStops, read_pass, StringSpells, StringStops, read_string}
use Rattle.giop_head.specs.Versions.{FirstSpell, FirstStop, pass_first, LastSpell, LastStop, pass_last}
use Rattle.giop_head.specs.Header.{HeaderSpells, HeaderStops, read_header}
use Rattle.giop_head.specs.declared.header.HeadKind.TheVariants.{Replies}

-- how a request fared: an answer, a user exception by its repository id, or a system exception
pub data Fate : Type 0 where
  answer : Fate
  user : List ℕ → Fate
  system : List ℕ → ℕ → ℕ → Fate

-- the order of the octets, the minor number, the id of the request, and how it fared
pub record Reply : Type 0 where
  pub order : Order
  pub minor : ℕ
  pub id : ℕ
  pub fate : Fate

-- the number of a status: 0 for an answer, 1 for a user exception, 2 for a system exception
abbrev pub status_of : Fate → ℕ
status_of answer = 0
status_of (user s) = 1
status_of (system s minor completion) = 2

-- a repository id, the minor number, and the completion, which is at most 2
abbrev pub SystemSpells : Order → ℕ → List ℕ → (List ℕ × (ℕ × ℕ)) → Type 0
SystemSpells r p o x =
    Parts p o (λ a. StringSpells r p a x.0) (λ p1 o1.
    Parts p1 o1 (λ a. LongSpells r p1 a x.1.0) (λ p2 o2. PassSpells r 2 p2 o2 x.1.1))

-- what follows a status in the head: nothing of an answer, the id of a user exception, or a system exception
abbrev pub DetailSpells : Order → Spelling Fate
DetailSpells r p o answer = o ≡ []
DetailSpells r p o (user s) = StringSpells r p o s
DetailSpells r p o (system s minor completion) = SystemSpells r p o (s, (minor, completion))

-- the status, in version 1.2 service contexts and what leads up to the body, and what follows the status
abbrev pub FateSpells : ℕ → ℕ → Order → Spelling Fate
FateSpells m n r p0 o0 f =
    Parts p0 o0 (λ a. LongSpells r p0 a (status_of f)) (λ p1 o1.
    Parts p1 o1 (λ a. LastSpell m n r p1 a tt) (λ p2 o2. DetailSpells r p2 o2 f))

-- a header, in version 1.0 service contexts, the request's id, and how it fared
abbrev pub ReplySpells : ℕ → Spelling Reply
ReplySpells n p0 o0 y =
    Parts p0 o0 (λ a. HeaderSpells Replies n p0 a (record { order = y.order; message_type = 1; minor = y.minor })) (λ p1 o1.
    Parts p1 o1 (λ a. FirstSpell y.minor y.order p1 a tt) (λ p2 o2.
    Parts p2 o2 (λ a. LongSpells y.order p2 a y.id) (λ p3 o3. FateSpells y.minor n y.order p3 o3 y.fate)))

-- ---- where it stops

-- the first field of a system exception that is cut off or wrong
abbrev pub SystemStops : Order → Stopping HeadErr
SystemStops r =
    StopsInOrder (StringSpells r) (StringStops r) (λ s.
    StopsInOrder (LongSpells r) LongStops (λ minor. PassStops r 2))

-- the first field of what follows a status of this number
abbrev pub DetailStops : Order → ℕ → Stopping HeadErr
DetailStops r zero p o k at = ⊥
DetailStops r (suc zero) p o k at = StringStops r p o k at
DetailStops r _ p o k at = SystemStops r p o k at

-- a status that is cut off, or above 2, or a field after it
abbrev pub FateStops : ℕ → ℕ → Order → Stopping HeadErr
FateStops m n r =
    StopsInOrder (PassSpells r 2) (PassStops r 2) (λ status.
    StopsInOrder (LastSpell m n r) (LastStop m n r) (λ contexts. DetailStops r status))

-- the first field after the header that is cut off or wrong
abbrev pub FieldsStop : ℕ → ℕ → Order → Stopping HeadErr
FieldsStop m n r =
    StopsInOrder (FirstSpell m r) (FirstStop m r) (λ contexts. StopsInOrder (LongSpells r) LongStops (λ id. FateStops m n r))

-- a header that stops, or a field after it
abbrev pub ReplyStops : ℕ → Stopping HeadErr
ReplyStops n = StopsInOrder (HeaderSpells Replies n) (HeaderStops Replies n) (λ h. FieldsStop h.minor n h.order)

-- ---- reading it

-- a system exception, read from a position
unfoldable pub read_system : Order → Reader HeadErr Fate
read_system r p o = map_got (λ x. system x.0 x.1.0 x.1.1) (both (read_string r) (λ s. both (read_long r) (λ minor. read_pass r 2)) p o)

-- what follows a status of this number, read from a position
abbrev pub read_detail : Order → ℕ → Reader HeadErr Fate
read_detail r zero p o = got answer p o
read_detail r (suc zero) p o = map_got user (read_string r p o)
read_detail r (suc (suc n)) p o = read_system r p o

-- how a request fared, read from its status on
unfoldable pub read_fate : ℕ → ℕ → Order → Reader HeadErr Fate
read_fate m n r p o =
    map_got (λ x. x.1.1) (both (read_pass r 2) (λ status. both (pass_last m n r) (λ contexts. read_detail r status)) p o)

-- the head of a reply, read from a position
abbrev pub read_head_of_reply : ℕ → Reader HeadErr Reply
read_head_of_reply n p o = map_got (λ x. record { order = x.0.order; minor = x.0.minor; id = x.1.1.0; fate = x.1.1.1 })
    (both (read_header Replies n) (λ h.
    both (pass_first h.minor h.order) (λ contexts. both (read_long h.order) (λ id. read_fate h.minor n h.order))) p o)
