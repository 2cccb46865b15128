-- One more item is answered.
use Rattle.std.proofs.Common.{◌≡◌, ℕ, Bool, true, false, List, [], ◌∷◌, ◌++◌, refl, sym, ◌∙◌, ap, subst, append-nil}
use Rattle.std.specs.Prelude.{Option, ◌||◌}
use Rattle.std.specs.Io.KnownBytes.{Appends}
use Rattle.std.proofs.KnownBytes.{Appends-trans}
use Rattle.std.proofs.lemmas.Grind.{flat_map-append}
use Rattle.raw_buf.specs.Buf.{Buf}
use Rattle.flick_lines.specs.Sent.{Sending, Sends, IsSpentBy}
use Rattle.flick_lines.proofs.Sending.{spent-none, spent-more}
use Rattle.flick_top.specs.declared.job.Job.{Job}
use Rattle.flick_top.specs.declared.items.Item.{Item}
use Rattle.flick_top.specs.Answer.{Answer, Answering, IsAnswering, answers, refuses, sent_for, is_exact, AnswersIn}
use Rattle.flick_top.proofs.Determined.{one_answer}

-- ---- what is sent, one after the other

-- each of these was sent, and became of the buffer
abbrev pub SendsAll : Bool → List Sending → Buf → Buf → Type 0
SendsAll exact [] old new = new ≡ old
SendsAll exact (s ∷ ss) old new = (between : Buf) × Sends exact s old between × SendsAll exact ss between new

sends-push : (exact : Bool) (ss : List Sending) (s : Sending) (old mid new : Buf) → SendsAll exact ss old mid → Sends exact s mid new
    → SendsAll exact (ss ++ s ∷ []) old new
sends-push exact [] s old mid new same h = (new, subst (λ (b : Buf). Sends exact s b new) same h, refl)
sends-push exact (t ∷ ss) s old mid new (between, first, rest) h = (between, first, sends-push exact ss s between mid new rest h)

-- so the buffer was spent
pub all-spent : (exact : Bool) (ss : List Sending) (old new : Buf) → SendsAll exact ss old new → IsSpentBy exact ss old new
all-spent exact [] old new same = subst (λ (b : Buf). IsSpentBy exact [] old b) (sym same) (spent-none exact old)
all-spent exact (s ∷ ss) old new (between, first, rest) =
    spent-more exact s ss old between new first (all-spent exact ss between new rest)

-- ---- answers

or_assoc : (a b c : Bool) → (a || (b || c)) ≡ ((a || b) || c)
or_assoc true b c = refl
or_assoc false b c = refl

or_false : (a : Bool) → (a || false) ≡ a
or_false true = refl
or_false false = refl

refuses-push : (f : Answering) (given : List Item) (item : Item) → refuses f (given ++ item ∷ []) ≡ (refuses f given || (f item).refused)
refuses-push f [] item = or_false (f item).refused
refuses-push f (i ∷ given) item =
    ap (λ (b : Bool). (f i).refused || b) (refuses-push f given item) ∙ or_assoc (f i).refused (refuses f given) (f item).refused

pub answers-push : (f : Answering) (given : List Item) (item : Item)
    → answers f (given ++ item ∷ []) ≡ answers f given ++ (f item).octets
answers-push f given item =
    flat_map-append (λ (i : Item). (f i).octets) given (item ∷ [])
    ∙ ap (λ (l : List ℕ). answers f given ++ l) (append-nil (f item).octets)

sent-push : (f : Answering) (given : List Item) (item : Item) → sent_for f (given ++ item ∷ []) ≡ sent_for f given ++ (f item).sent ∷ []
sent-push f [] item = refl
sent-push f (i ∷ given) item = ap (λ (ss : List Sending). (f i).sent ∷ ss) (sent-push f given item)

-- whatever answers the items of a job, these were written for items, that one is a refusal was reported, and their messages were sent
abbrev pub AreWritten : Job → List Item → Option (List ℕ) → Option (List ℕ) → Bool → Buf → Buf → Type 0
AreWritten job given held held' refused old new = (f : Answering) → IsAnswering job f
    → Appends held held' (answers f given) × (refused ≡ refuses f given) × SendsAll (is_exact job) (sent_for f given) old new

pub one_more : (held held' held'' : Option (List ℕ)) (job : Job) (given : List Item) (item : Item) (refused b refused' : Bool)
    (octets : List ℕ) (old mid new : Buf) → AreWritten job given held held' refused old mid
    → AnswersIn job item octets b mid new → Appends held' held'' octets → refused' ≡ (refused || b)
    → AreWritten job (given ++ item ∷ []) held held'' refused' old new
one_more held held' held'' job given item refused b refused' octets old mid new written (answer, is, o, r, sends) wrote found = λ f all.
    let (before, reported, first) = written f all in
    let same : answer ≡ f item = one_answer job item answer (f item) is (all item) in
    let here : octets ≡ (f item).octets = sym o ∙ ap (λ (x : Answer). x.octets) same in
    let refusal : b ≡ (f item).refused = sym r ∙ ap (λ (x : Answer). x.refused) same in (
      subst (Appends held held'') (sym (answers-push f given item))
          (Appends-trans held held' held'' (answers f given) (f item).octets before (subst (Appends held' held'') here wrote)),
      found ∙ ap (λ (c : Bool). refused || c) refusal ∙ ap (λ (c : Bool). c || (f item).refused) reported
          ∙ sym (refuses-push f given item),
      subst (λ (ss : List Sending). SendsAll (is_exact job) ss old new) (sym (sent-push f given item))
          (sends-push (is_exact job) (sent_for f given) (f item).sent old mid new first
          (subst (λ (z : Sending). Sends (is_exact job) z mid new) (ap (λ (x : Answer). x.sent) same) sends)),
    )
