-- The head of a reply (RFC 5531, section 9), with its arm where exceptions are raised.
-- ONC has no exceptions: the arm is our own.
use Rattle.std.specs.Prelude.{◌≡◌, ℕ, zero, suc, ◌++◌}
use Rattle.wire_def.specs.declared.fault.HeadErr.{HeadErr}
use Rattle.wire_def.specs.declared.fault.HeadErr.TheVariants.{Type_, Item}
use Rattle.wire_def.specs.declared.reply.Status.{Status}
use Rattle.wire_def.specs.declared.reply.Status.TheVariants.{Answer, Raised, ProgUnavail, ProgMismatch, ProcUnavail, GarbageArgs, SystemErr, RpcMismatch, AuthError}
use Rattle.wire_def.specs.Grammar.{got, Reader, Spelling, Stopping, map_got, both, Parts, StopsInOrder}
use Rattle.head_arms.specs.Arms.{arm_status, IsRaised, where_raised}
use Rattle.head_arms.specs.Arms as arm
use Rattle.head_kit.specs.Words.{IsWord, WordStops, only, up_to}
use Rattle.back_xdr.specs.Words.{word, WordSpells, read_word, PassSpells, PassStops, read_pass}
use Rattle.back_xdr.specs.Auth.{Auth, AuthSpells, AuthStops, read_auth}

-- how a call fared: accepted, with a verifier, or denied
pub data Fate : Type 0 where
  accepted : Auth → Status → Fate
  denied : Status → Fate

-- a transaction, and how its call fared
pub record Reply : Type 0 where
  pub xid : ℕ
  pub fate : Fate

-- ---- what spells it

-- the state of an accepted call of a procedure that raises so many exceptions: its number, after 0 the arm's number where
-- it raises any, and after 2 the least and the greatest version that are served
abbrev pub AcceptedSpells : ℕ → Spelling Status
AcceptedSpells arms p o Answer = o ≡ word 0 ++ where_raised arms (word 0)
AcceptedSpells arms p o (Raised k) = (o ≡ word 0 ++ where_raised arms (word k)) × IsRaised arms k
AcceptedSpells arms p o ProgUnavail = o ≡ word 1
AcceptedSpells arms p o (ProgMismatch low high) = (o ≡ word 2 ++ (word low ++ word high)) × IsWord low × IsWord high
AcceptedSpells arms p o ProcUnavail = o ≡ word 3
AcceptedSpells arms p o GarbageArgs = o ≡ word 4
AcceptedSpells arms p o SystemErr = o ≡ word 5
AcceptedSpells arms p o _ = ⊥

-- why a call was denied: 0 and the least and the greatest version of the protocol, or 1 and what is wrong with the credentials
abbrev pub DeniedSpells : Spelling Status
DeniedSpells p o (RpcMismatch low high) = (o ≡ word 0 ++ (word low ++ word high)) × IsWord low × IsWord high
DeniedSpells p o (AuthError why) = (o ≡ word 1 ++ word why) × IsWord why
DeniedSpells p o _ = ⊥

-- how a call fared: 0, a verifier and the state, or 1 and why it was denied
abbrev pub FateSpells : ℕ → Spelling Fate
FateSpells arms p o (accepted verf s) =
    Parts p o (λ a. a ≡ word 0) (λ q b. Parts q b (λ c. AuthSpells q c verf) (λ r d. AcceptedSpells arms r d s))
FateSpells arms p o (denied s) = Parts p o (λ a. a ≡ word 1) (λ q b. DeniedSpells q b s)

-- a reply's head as octets: the transaction, 1 for a reply, and how its call fared
abbrev pub ReplySpells : ℕ → Spelling Reply
ReplySpells arms p o r =
    Parts p o (λ a. WordSpells p a r.xid) (λ q b. Parts q b (λ c. c ≡ word 1) (λ s d. FateSpells arms s d r.fate))

-- ---- where it stops

-- the first of two words that is cut off
abbrev pub TwoWordsStop : Stopping HeadErr
TwoWordsStop = StopsInOrder WordSpells WordStops (λ low. WordStops)

-- an arm's number that is cut off, or above the number of exceptions
abbrev pub ArmStops : ℕ → Stopping HeadErr
ArmStops arms = arm.ArmStops arms (PassStops (up_to arms) Item)

-- the first item after the number of a state: 0 has an arm's number there, 2 has two words, and no other has any
abbrev pub StateStops : ℕ → ℕ → Stopping HeadErr
StateStops arms zero p o k at = ArmStops arms p o k at
StateStops arms (suc (suc zero)) p o k at = TwoWordsStop p o k at
StateStops arms _ p o k at = ⊥

-- the first item of the state of an accepted call
abbrev pub AcceptedStops : ℕ → Stopping HeadErr
AcceptedStops arms = StopsInOrder (PassSpells (up_to 5)) (PassStops (up_to 5) Item) (StateStops arms)

-- the first item after the number of a denial: two words after 0, a word after 1
abbrev pub DenialStops : ℕ → Stopping HeadErr
DenialStops zero = TwoWordsStop
DenialStops _ = WordStops

-- the first item of a denial
abbrev pub DeniedStops : Stopping HeadErr
DeniedStops = StopsInOrder (PassSpells (up_to 1)) (PassStops (up_to 1) Item) DenialStops

-- the first item after the number that says whether a call was accepted
abbrev pub OutcomeStops : ℕ → ℕ → Stopping HeadErr
OutcomeStops arms zero = StopsInOrder AuthSpells AuthStops (λ verf. AcceptedStops arms)
OutcomeStops arms _ = DeniedStops

-- the first item of how a call fared
abbrev pub FateStops : ℕ → Stopping HeadErr
FateStops arms = StopsInOrder (PassSpells (up_to 1)) (PassStops (up_to 1) Item) (OutcomeStops arms)

-- the first item of a reply's head that is cut off or wrong
abbrev pub ReplyStops : ℕ → Stopping HeadErr
ReplyStops arms =
    StopsInOrder WordSpells WordStops (λ xid.
    StopsInOrder (PassSpells (only 1)) (PassStops (only 1) Type_) (λ type.
    FateStops arms))

-- ---- reading it

-- two numbers
abbrev pub read_two_words : Reader HeadErr (ℕ × ℕ)
read_two_words = both read_word (λ low. read_word)

-- the number of an arm, up to the number of exceptions
abbrev pub read_arm : ℕ → Reader HeadErr ℕ
read_arm arms p o = arm.read_arm arms (read_pass (up_to arms) Item) p o

-- the state of a number, with what follows the number
abbrev pub read_state : ℕ → ℕ → Reader HeadErr Status
read_state arms zero p o = map_got arm_status (read_arm arms p o)
read_state arms (suc zero) p o = got ProgUnavail p o
read_state arms (suc (suc zero)) p o = map_got (λ x. ProgMismatch x.0 x.1) (read_two_words p o)
read_state arms (suc (suc (suc zero))) p o = got ProcUnavail p o
read_state arms (suc (suc (suc (suc zero)))) p o = got GarbageArgs p o
read_state arms _ p o = got SystemErr p o

-- the state of an accepted call
unfoldable pub read_accepted : ℕ → Reader HeadErr Status
read_accepted arms p o = map_got (λ x. x.1) (both (read_pass (up_to 5) Item) (read_state arms) p o)

-- the reason of a number, with what follows the number
abbrev pub read_denial : ℕ → Reader HeadErr Status
read_denial zero p o = map_got (λ x. RpcMismatch x.0 x.1) (read_two_words p o)
read_denial _ p o = map_got AuthError (read_word p o)

-- why a call was denied
unfoldable pub read_denied : Reader HeadErr Status
read_denied p o = map_got (λ x. x.1) (both (read_pass (up_to 1) Item) read_denial p o)

-- how a call fared, from after the number that says whether it was accepted
abbrev pub read_outcome : ℕ → ℕ → Reader HeadErr Fate
read_outcome arms zero p o = map_got (λ x. accepted x.0 x.1) (both read_auth (λ verf. read_accepted arms) p o)
read_outcome arms _ p o = map_got denied (read_denied p o)

-- how a call fared
abbrev pub read_fate : ℕ → Reader HeadErr Fate
read_fate arms p o = map_got (λ x. x.1) (both (read_pass (up_to 1) Item) (read_outcome arms) p o)

-- a reply's head, item by item
abbrev pub read_head_of_reply : ℕ → Reader HeadErr Reply
read_head_of_reply arms p o = map_got (λ x. record { xid = x.0; fate = x.1.1 })
    (both read_word (λ xid. both (read_pass (only 1) Type_) (λ type. read_fate arms)) p o)
