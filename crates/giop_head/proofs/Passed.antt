-- Service contexts and principals are passed over, one by one.
use Rattle.std.proofs.Common.{◌≡◌, ℕ, suc, ◌+◌, ◌-◌, ◌<◌, ◌≤◌, List, ◌∷◌, refl, arith}
use Rattle.wire_def.specs.declared.fault.HeadErr.{HeadErr}
use Rattle.wire_def.specs.declared.head.Order.{Order}
use Rattle.wire_def.specs.Grammar.{Reading, got, stop, map_got, times, IsGrammar}
use Rattle.wire_def.proofs.Grammars.{mapped, both_are, times_are}
use Rattle.giop_head.specs.Items.{SequenceStops}
use Rattle.giop_head.specs.Contexts.{Context, ContextSpells, ContextStops, read_context, ManySpell, ManyStop, pass_many, ContextsSpell, ContextsStop, pass_contexts, AnySequence, pass_sequence}
use Rattle.head_kit.specs.Readers.{Stopped}
use Rattle.giop_head.proofs.Leaves.{long_is, sequence_is}

context_is : (r : Order) → IsGrammar (read_context r) (ContextSpells r) (ContextStops r)
unfolding read_context
context_is r = both_are (long_is r) (λ id. sequence_is r)

many_are : (r : Order) (n : ℕ) → IsGrammar (pass_many r n) (ManySpell r n) (ManyStop r n)
unfolding pass_many
many_are r n =
    mapped (λ (cs : List Context). tt) (ManySpell r n) (times_are n (context_is r)) (λ p o cs h. (cs, h)) (λ p o x h. (h.0, refl, h.1))

pub contexts_are : (r : Order) → IsGrammar (pass_contexts r) (ContextsSpell r) (ContextsStop r)
unfolding pass_contexts
contexts_are r =
    mapped (λ (x : ℕ × Unit {0}). x.1) (ContextsSpell r) (both_are (long_is r) (many_are r)) (λ p o x h. (x.0, h)) (λ p o x h.
    ((h.0, tt), refl, h.1))

pub any_sequence_is : (r : Order) → IsGrammar (pass_sequence r) (AnySequence r) (SequenceStops r)
unfolding pass_sequence
any_sequence_is r = mapped (λ (s : List ℕ). tt) (AnySequence r) (sequence_is r) (λ p o s h. (s, h)) (λ p o x h. (h.0, refl, h.1))

-- ---- one context after the other

none_left : (r : Order) (p : ℕ) (o : List ℕ) → pass_many r 0 p o ≡ got tt p o
unfolding pass_many
none_left r p o = refl

pub all_passed : (r : Order) (n i p : ℕ) (o : List ℕ) → n ≤ i → pass_many r (n - i) p o ≡ got tt p o
all_passed r n i p o h =
    let none : n - i ≡ 0 = omega (arith, h) in
    rw none (none_left r p o)

forget : (c : Context) (d : Reading HeadErr (List Context))
    → map_got {B = Unit {0}} (λ (cs : List Context). tt) (map_got (λ cs. c ∷ cs) d) ≡ map_got {B = Unit {0}} (λ (cs : List Context). tt) d
forget c (got cs p o) = refl
forget c (stop k at) = refl

first_passed : (r : Order) (n p : ℕ) (o : List ℕ) (q : ℕ) (rest : List ℕ) → (c : Context) × (read_context r p o ≡ got c q rest)
    → pass_many r (suc n) p o ≡ pass_many r n q rest
unfolding pass_many
first_passed r n p o q rest (c, is) = rw is (forget c (times (read_context r) n q rest))

first_stopped : (r : Order) (n p : ℕ) (o : List ℕ) (e : HeadErr) → Stopped e (read_context r p o) → Stopped e (pass_many r (suc n) p o)
unfolding pass_many
first_stopped r n p o e (at, is) = (at, rw is refl)

pub one_passed : (r : Order) (n i p : ℕ) (o : List ℕ) (q : ℕ) (rest : List ℕ) → i < n → (c : Context) × (read_context r p o ≡ got c q rest)
    → pass_many r (n - i) p o ≡ pass_many r (n - (i + 1)) q rest
one_passed r n i p o q rest h is =
    let left : n - i ≡ suc (n - (i + 1)) = omega (arith, h) in
    rw left (first_passed r (n - (i + 1)) p o q rest is)

-- where the contexts that are left are read as all of them
pub one_stopped : (r : Order) (n i p p0 : ℕ) (o o0 : List ℕ) (e : HeadErr)
    → pass_many r n p0 o0 ≡ pass_many r (n - i) p o → i < n → Stopped e (read_context r p o)
    → Stopped e (pass_many r n p0 o0)
one_stopped r n i p p0 o o0 e same h is =
    let left : n - i ≡ suc (n - (i + 1)) = omega (arith, h) in
    rw (same, left) (first_stopped r (n - (i + 1)) p o e is)

pub ruleset passed = (all_passed, one_passed, one_stopped)
