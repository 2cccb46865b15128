-- The heads of replies are a grammar.
use Rattle.std.proofs.Common.{◌≡◌, ℕ, zero, suc, ◌+◌, ◌<◌, ◌≤◌, List, [], ◌++◌, refl, subst, arith}
use Rattle.std.proofs.lemmas.Bool.{eqb-true, leb-true, le-leb}
use Rattle.wire_def.specs.declared.fault.HeadErr.TheVariants.{Type_, Item}
use Rattle.wire_def.specs.declared.reply.Status.{Status}
use Rattle.wire_def.specs.declared.reply.Status.TheVariants.{Answer, Raised, ProgUnavail, ProgMismatch, ProcUnavail, GarbageArgs, SystemErr, RpcMismatch, AuthError}
use Rattle.wire_def.specs.declared.head.Order.TheVariants.{Big}
use Rattle.wire_def.specs.Grammar.{Spelling, Parts, IsGrammar}
use Rattle.wire_def.proofs.Grammars.{done, mapped, both_are}
use Rattle.head_arms.specs.Arms.{arm_status, IsRaised, where_raised}
use Rattle.head_kit.specs.Words as kit
use Rattle.head_kit.specs.Words.{only, up_to}
use Rattle.back_xdr.specs.Words.{word, WordSpells, PassSpells}
use Rattle.back_xdr.specs.Auth.{Auth, AuthSpells}
use Rattle.back_xdr.specs.Reply.{Fate, accepted, denied, Reply, AcceptedSpells, DeniedSpells, FateSpells, ReplySpells, TwoWordsStop, ArmStops, StateStops, AcceptedStops, DenialStops, DeniedStops, OutcomeStops, FateStops, ReplyStops, read_two_words, read_arm, read_state, read_accepted, read_denial, read_denied, read_outcome, read_fate, read_head_of_reply}
use Rattle.head_arms.specs.Arms as arms_
use Rattle.head_arms.proofs.Armed.{arm_is}
use Rattle.head_kit.proofs.Words.{word_is, pass_is}
use Rattle.back_xdr.proofs.Auths.{auth_is}

abbrev TwoWords : Spelling (ℕ × ℕ)
TwoWords p o x = Parts p o (λ a. WordSpells p a x.0) (λ q b. WordSpells q b x.1)

two_are : IsGrammar read_two_words TwoWords TwoWordsStop
two_are = both_are (word_is Big) (λ low. word_is Big)

-- ---- the state of an accepted call

-- nothing, which is this status
abbrev Bare : Status → Spelling Status
Bare s p o t = (o ≡ []) × (s ≡ t)

-- two words, which are this status
abbrev Two : (ℕ → ℕ → Status) → Spelling Status
Two status p o t = (x : ℕ × ℕ) × (status x.0 x.1 ≡ t) × TwoWords p o x

-- the number of an arm, which is its status
abbrev ArmSpells : ℕ → Spelling Status
ArmSpells arms p o t = (k : ℕ) × (arm_status k ≡ t) × arms_.ArmSpells arms (PassSpells (up_to arms)) p o k

abbrev StateSpells : ℕ → ℕ → Spelling Status
StateSpells arms zero = ArmSpells arms
StateSpells arms (suc zero) = Bare ProgUnavail
StateSpells arms (suc (suc zero)) = Two ProgMismatch
StateSpells arms (suc (suc (suc zero))) = Bare ProcUnavail
StateSpells arms (suc (suc (suc (suc zero)))) = Bare GarbageArgs
StateSpells arms _ = Bare SystemErr

two_is : (status : ℕ → ℕ → Status)
    → IsGrammar (λ p o. Rattle.wire_def.specs.Grammar.map_got (λ (x : ℕ × ℕ). status x.0 x.1) (read_two_words p o))
    (Two status) TwoWordsStop
two_is status = mapped (λ (x : ℕ × ℕ). status x.0 x.1) (Two status) two_are (λ p o x h. (x, refl, h)) (λ p o y h. h)

two_back : (status : ℕ → ℕ → Status) (p low high : ℕ) → kit.IsWord low → kit.IsWord high
    → Two status p (word low ++ word high) (status low high)
unfolding kit.WordSpells
two_back status p low high lows highs = ((low, high), refl, (word low, word high, refl, (refl, lows), (refl, highs)))

numbered_is : (arms : ℕ)
    → IsGrammar (λ p o. Rattle.wire_def.specs.Grammar.map_got arm_status (read_arm arms p o)) (ArmSpells arms) (ArmStops arms)
numbered_is arms =
    mapped arm_status (ArmSpells arms) (arm_is arms (pass_is Big (up_to arms) Item)) (λ p o x h. (x, refl, h)) (λ p o y h. h)

state_is : (arms n : ℕ) → IsGrammar (read_state arms n) (StateSpells arms n) (StateStops arms n)
state_is arms zero = numbered_is arms
state_is arms (suc zero) = done ProgUnavail (Bare ProgUnavail) (λ p. (refl, refl)) (λ p o y h. h)
state_is arms (suc (suc zero)) = two_is ProgMismatch
state_is arms (suc (suc (suc zero))) = done ProcUnavail (Bare ProcUnavail) (λ p. (refl, refl)) (λ p o y h. h)
state_is arms (suc (suc (suc (suc zero)))) = done GarbageArgs (Bare GarbageArgs) (λ p. (refl, refl)) (λ p o y h. h)
state_is arms (suc (suc (suc (suc (suc n))))) = done SystemErr (Bare SystemErr) (λ p. (refl, refl)) (λ p o y h. h)

abbrev Accepted : ℕ → ℕ → Spelling Status
Accepted arms n p o s = Parts p o (λ a. PassSpells (up_to 5) p a n) (λ q b. StateSpells arms n q b s)

-- the number of an arm, behind the state of success
numbered_forth : (arms k p : ℕ) (o b : List ℕ) → o ≡ word 0 ++ b → arms_.ArmSpells arms (PassSpells (up_to arms)) (p + 4) b k
    → AcceptedSpells arms p o (arm_status k)
unfolding kit.WordSpells
numbered_forth zero zero p o b is (none, same) = rw (is, none) refl
numbered_forth zero (suc k) p o b is (none, same) = absurd cc
numbered_forth (suc n) zero p o b is ((second, fits), few) = rw (is, second) refl
numbered_forth (suc n) (suc k) p o b is ((second, fits), few) = (rw (is, second) refl, (omega arith, leb-true _ _ few, fits))

accepted_forth : (arms n p : ℕ) (o : List ℕ) (s : Status) → Accepted arms n p o s → AcceptedSpells arms p o s
unfolding kit.WordSpells
accepted_forth arms zero p o s (a, b, is, ((first, fits), few), (k, same, number)) =
    subst (λ z. AcceptedSpells arms p o z) same
    (numbered_forth arms k p o b (rw first at is) (rw first at number))
accepted_forth arms (suc zero) p o s (a, b, is, ((first, fits), few), (none, same)) =
    subst (λ z. AcceptedSpells arms p o z) same (rw (is, first, none) refl)
accepted_forth arms (suc (suc zero)) p o s (a, b, is, ((first, fits), few), (x, same, (c, d, is', (low, lows), (high, highs)))) =
    subst (λ z. AcceptedSpells arms p o z) same (rw (is, first, is', low, high) refl, lows, highs)
accepted_forth arms (suc (suc (suc zero))) p o s (a, b, is, ((first, fits), few), (none, same)) =
    subst (λ z. AcceptedSpells arms p o z) same (rw (is, first, none) refl)
accepted_forth arms (suc (suc (suc (suc zero)))) p o s (a, b, is, ((first, fits), few), (none, same)) =
    subst (λ z. AcceptedSpells arms p o z) same (rw (is, first, none) refl)
accepted_forth arms (suc (suc (suc (suc (suc n))))) p o s (a, b, is, ((first, fits), few), (none, same)) =
    let most : suc (suc (suc (suc (suc n)))) ≤ 5 = leb-true _ _ few in
    let five : n ≡ 0 = omega (arith, most) in
    subst (λ z. AcceptedSpells arms p o z) same (rw (is, first, none, five) refl)

abbrev Stated : ℕ → ℕ → List ℕ → Status → Type 0
Stated arms p o s = (x : ℕ × Status) × (x.1 ≡ s) × Accepted arms x.0 p o x.1

answer_back : (arms p : ℕ) (o : List ℕ) → o ≡ word 0 ++ where_raised arms (word 0) → Stated arms p o Answer
unfolding kit.WordSpells
answer_back zero p o is = ((0, Answer), refl, (word 0, [], is, ((refl, omega arith), refl), (0, refl, (refl, refl))))
answer_back (suc n) p o is =
    ((0, Answer), refl, (word 0, word 0, is, ((refl, omega arith), refl), (0, refl, ((refl, omega arith), le-leb 0 (suc n) (omega arith)))))

raised_back : (arms k p : ℕ) (o : List ℕ) → o ≡ word 0 ++ where_raised arms (word k) → IsRaised arms k → Stated arms p o (Raised k)
unfolding kit.WordSpells
raised_back zero k p o is (some, few, fits) = absurd (omega (arith, some, few))
raised_back (suc n) zero p o is (some, few, fits) = absurd (omega (arith, some))
raised_back (suc n) (suc k) p o is (some, few, fits) = (
  (0, Raised (suc k)),
  refl,
  (word 0, word (suc k), is, ((refl, omega arith), refl), (suc k, refl, ((refl, fits), le-leb _ _ few))),
)

accepted_back : (arms p : ℕ) (o : List ℕ) (s : Status) → AcceptedSpells arms p o s → Stated arms p o s
unfolding kit.WordSpells
accepted_back arms p o Answer is = answer_back arms p o is
accepted_back arms p o (Raised k) is = raised_back arms k p o is.0 is.1
accepted_back arms p o ProgUnavail is = ((1, ProgUnavail), refl, (word 1, [], is, ((refl, omega arith), refl), (refl, refl)))
accepted_back arms p o (ProgMismatch low high) (is, lows, highs) =
    let two = two_back ProgMismatch p low high lows highs in
    ((2, ProgMismatch low high), refl, (word 2, word low ++ word high, is, ((refl, omega arith), refl), two))
accepted_back arms p o ProcUnavail is = ((3, ProcUnavail), refl, (word 3, [], is, ((refl, omega arith), refl), (refl, refl)))
accepted_back arms p o GarbageArgs is = ((4, GarbageArgs), refl, (word 4, [], is, ((refl, omega arith), refl), (refl, refl)))
accepted_back arms p o SystemErr is = ((5, SystemErr), refl, (word 5, [], is, ((refl, omega arith), refl), (refl, refl)))
accepted_back arms p o _ h = absurd h

pub accepted_is : (arms : ℕ) → IsGrammar (read_accepted arms) (AcceptedSpells arms) (AcceptedStops arms)
unfolding read_accepted
accepted_is arms =
    mapped (λ (x : ℕ × Status). x.1) (AcceptedSpells arms) (both_are (pass_is Big (up_to 5) Item) (state_is arms)) (λ p o x h.
    accepted_forth arms x.0 p o x.1 h) (accepted_back arms)

-- ---- a denied call

abbrev DenialSpells : ℕ → Spelling Status
DenialSpells zero p o t = Two RpcMismatch p o t
DenialSpells _ p o t = (n : ℕ) × (AuthError n ≡ t) × WordSpells p o n

denial_is : (n : ℕ) → IsGrammar (read_denial n) (DenialSpells n) (DenialStops n)
denial_is zero = two_is RpcMismatch
denial_is (suc n) = mapped AuthError (DenialSpells (suc n)) (word_is Big) (λ p o x h. (x, refl, h)) (λ p o y h. h)

abbrev Denied : ℕ → Spelling Status
Denied n p o s = Parts p o (λ a. PassSpells (up_to 1) p a n) (λ q b. DenialSpells n q b s)

denied_forth : (n p : ℕ) (o : List ℕ) (s : Status) → Denied n p o s → DeniedSpells p o s
unfolding kit.WordSpells
denied_forth zero p o s (a, b, is, ((first, fits), few), (x, same, (c, d, is', (low, lows), (high, highs)))) =
    subst (λ z. DeniedSpells p o z) same (rw (is, first, is', low, high) refl, lows, highs)
denied_forth (suc n) p o s (a, b, is, ((first, fits), few), (x, same, (why, whys))) =
    let most : suc n ≤ 1 = leb-true _ _ few in
    let one : n ≡ 0 = omega (arith, most) in
    subst (λ z. DeniedSpells p o z) same (rw (is, first, why, one) refl, whys)

denied_back : (p : ℕ) (o : List ℕ) (s : Status) → DeniedSpells p o s → (x : ℕ × Status) × (x.1 ≡ s) × Denied x.0 p o x.1
unfolding kit.WordSpells
denied_back p o (RpcMismatch low high) (is, lows, highs) =
    let two = two_back RpcMismatch p low high lows highs in
    ((0, RpcMismatch low high), refl, (word 0, word low ++ word high, is, ((refl, omega arith), refl), two))
denied_back p o (AuthError why) (is, whys) =
    ((1, AuthError why), refl, (word 1, word why, is, ((refl, omega arith), refl), (why, refl, (refl, whys))))
denied_back p o _ h = absurd h

pub denied_is : IsGrammar read_denied DeniedSpells DeniedStops
unfolding read_denied
denied_is =
    mapped (λ (x : ℕ × Status). x.1) DeniedSpells (both_are (pass_is Big (up_to 1) Item) denial_is) (λ p o x h.
    denied_forth x.0 p o x.1 h) denied_back

-- ---- either

abbrev OutcomeSpells : ℕ → ℕ → Spelling Fate
OutcomeSpells arms zero p o f = (x : Auth × Status) × (accepted x.0 x.1 ≡ f)
    × Parts p o (λ a. AuthSpells p a x.0) (λ q b. AcceptedSpells arms q b x.1)
OutcomeSpells arms _ p o f = (s : Status) × (denied s ≡ f) × DeniedSpells p o s

outcome_is : (arms n : ℕ) → IsGrammar (read_outcome arms n) (OutcomeSpells arms n) (OutcomeStops arms n)
outcome_is arms zero =
    mapped (λ (x : Auth × Status). accepted x.0 x.1) (OutcomeSpells arms zero) (both_are auth_is (λ verf. accepted_is arms)) (λ p o x h.
    (x, refl, h)) (λ p o y h. h)
outcome_is arms (suc n) = mapped denied (OutcomeSpells arms (suc n)) denied_is (λ p o s h. (s, refl, h)) (λ p o y h. h)

abbrev Outcome : ℕ → ℕ → Spelling Fate
Outcome arms n p o f = Parts p o (λ a. PassSpells (up_to 1) p a n) (λ q b. OutcomeSpells arms n q b f)

fate_forth : (arms n p : ℕ) (o : List ℕ) (f : Fate) → Outcome arms n p o f → FateSpells arms p o f
unfolding kit.WordSpells
fate_forth arms zero p o f (a, b, is, ((first, fits), few), (x, same, after)) =
    let there : Parts (p + 4) b (λ c. AuthSpells (p + 4) c x.0) (λ r d. AcceptedSpells arms r d x.1) = rw first at after in
    subst (λ z. FateSpells arms p o z) same (word 0, b, rw first at is, refl, there)
fate_forth arms (suc n) p o f (a, b, is, ((first, fits), few), (s, same, after)) =
    let most : suc n ≤ 1 = leb-true _ _ few in
    let one : n ≡ 0 = omega (arith, most) in
    subst (λ z. FateSpells arms p o z) same (a, b, is, rw one at first, after)

fate_back : (arms p : ℕ) (o : List ℕ) (f : Fate) → FateSpells arms p o f → (x : ℕ × Fate) × (x.1 ≡ f) × Outcome arms x.0 p o x.1
unfolding kit.WordSpells
fate_back arms p o (accepted verf s) (a, b, is, first, after) =
    ((0, accepted verf s), refl, (a, b, is, ((first, omega arith), refl), ((verf, s), refl, after)))
fate_back arms p o (denied s) (a, b, is, first, after) = ((1, denied s), refl, (a, b, is, ((first, omega arith), refl), (s, refl, after)))

fate_is : (arms : ℕ) → IsGrammar (read_fate arms) (FateSpells arms) (FateStops arms)
fate_is arms =
    mapped (λ (x : ℕ × Fate). x.1) (FateSpells arms) (both_are (pass_is Big (up_to 1) Item) (outcome_is arms)) (λ p o x h.
    fate_forth arms x.0 p o x.1 h) (fate_back arms)

abbrev Values : Type 0
Values = ℕ × (ℕ × Fate)

abbrev Items : ℕ → Spelling Values
Items arms p o x =
    Parts p o (λ a. WordSpells p a x.0) (λ q b. Parts q b (λ c. PassSpells (only 1) q c x.1.0) (λ s d. FateSpells arms s d x.1.1))

abbrev reply_of : Values → Reply
reply_of x = record { xid = x.0; fate = x.1.1 }

forth : (arms p : ℕ) (o : List ℕ) (x : Values) → Items arms p o x → ReplySpells arms p o (reply_of x)
unfolding kit.WordSpells
forth arms p o x (a, b, is, first, (c, d, is', ((second, fits), kind), after)) =
    let one : x.1.0 ≡ 1 = eqb-true _ _ kind in
    (a, b, is, first, (c, d, is', rw one at second, after))

back : (arms p : ℕ) (o : List ℕ) (y : Reply) → ReplySpells arms p o y → (x : Values) × (reply_of x ≡ y) × Items arms p o x
unfolding kit.WordSpells
back arms p o y (a, b, is, first, (c, d, is', second, after)) =
    ((y.xid, (1, y.fate)), refl, (a, b, is, first, (c, d, is', ((second, omega arith), refl), after)))

pub reply_is : (arms : ℕ) → IsGrammar (read_head_of_reply arms) (ReplySpells arms) (ReplyStops arms)
reply_is arms =
    mapped reply_of (ReplySpells arms) (both_are (word_is Big) (λ xid. both_are (pass_is Big (only 1) Type_) (λ type. fate_is arms)))
    (forth arms) (back arms)
