-- What is done of a task, however its work ends.
use Rattle.std.proofs.Common.{◌≡◌, ◌≢◌, ◌⊎◌, inl, inr, ◌<◌, ℕ, Bool, true, false, List, [], ◌++◌, length, take, Option, Some, None, refl, sym, ap, ◌∙◌, subst, append_assoc, append-nil, arith}
use Rattle.std.specs.Prelude.{IfSome, if◌then◌else◌}
use Rattle.std.specs.Io.KnownBytes.{Appends, Consumes, IsAtEnd}
use Rattle.std.proofs.KnownBytes.{Appends-trans, Consumes-nil}
use Rattle.raw_buf.specs.Buf.{Buf}
use Rattle.stub_codes.specs.Stubs.{Coded, IsCoded}
use Rattle.flick_lines.specs.Sent.{Sending, IsSpentBy}
use Rattle.flick_lines.proofs.Sending.{spent-none}
use Rattle.flick_top.specs.declared.job.Job.{Job}
use Rattle.flick_top.specs.declared.prepared.Prepared.{Prepared}
use Rattle.flick_top.specs.declared.status.Status.{Status}
use Rattle.flick_top.specs.declared.status.Status.TheVariants as s
use Rattle.flick_top.specs.declared.items.Item.{Item}
use Rattle.flick_top.specs.Answer.{Answering, answers, refuses, sent_for, cutting_of, is_exact}
use Rattle.flick_top.specs.Giving.{BeginsWith, HasEnded}
use Rattle.flick_top.specs.Outside.{Input, Held}
use Rattle.flick_top.specs.Statement.{Done}
use Rattle.flick_top.specs.Status.{number_of, file_refused, source_failed, sink_failed}
use Rattle.flick_top.specs.Task.{Task, answering_task, engine_in, engine_of, engine_with, task_in, items_of, exact_of}
use Rattle.flick_top.specs.Turn.{AreFirst, EndsAs, IsReady}
use Rattle.flick_top.proofs.Prefix.{WrotePrefix, front-answers, first-items}
use Rattle.flick_top.proofs.Turning.{SendsAll, all-spent}

-- the octets that were written before an input failed are the answers to the items that ended in what was taken of it
abbrev pub Ends : Job → Answering → Input → Input → Held → Held → ℕ → Type 0
Ends job f left left' held held' status = status ≡ source_failed → (input : List ℕ) → left ≡ Some input
    → (taken : List ℕ) × Consumes left left' taken × Appends held held' (answers f ((cutting_of job).ended taken))

-- ---- items

module _ (job : Job) (f : Answering) (coded : IsCoded (engine_in job)) (left left' : Input) (before now : ℕ) (held held' : Held)
    (old new : Buf) (status : ℕ) where
  -- the items are answered so
  abbrev pub DoneOf : Type 0
  DoneOf = Done (answering_task [] job) f (Some (engine_in job)) left left' before now held held' old new status

  -- so many items were answered
  whole_of : (given : List Item) → BeginsWith (cutting_of job) left given → Appends held held' (answers f given)
      → (input : List ℕ) → left ≡ Some input → (n : ℕ) × Appends held held' (answers f (take n ((cutting_of job).whole input)))
  whole_of given begins wrote input reported = (
    length given,
    subst (λ (l : List Item). Appends held held' (answers f l))
        (sym (first-items (cutting_of job) left given input begins reported)) wrote,
  )

  -- these items were answered, and no more could be read or answered
  pub stopped : (given : List Item) → BeginsWith (cutting_of job) left given → Appends held held' (answers f given)
      → file_refused < status → status ≢ sink_failed → Ends job f left left' held held' status → DoneOf
  stopped given begins wrote other sound ends = record {
    output = λ few. absurd (omega (arith, few, other));
    prefix = λ input reported. front-answers (cutting_of job) left given f held held' input begins reported wrote;
    whole = λ not_five input reported. whole_of given begins wrote input reported;
    ended = ends;
    unread = λ none. absurd (cc none);
    at_end = λ some few. absurd (omega (arith, few, other));
    engine = refl;
    coded = coded;
    spent = λ few. absurd (omega (arith, few, other));
  }

  -- an answer could not be written
  pub broken : ((input : List ℕ) → left ≡ Some input → WrotePrefix held held' (answers f ((cutting_of job).whole input)))
      → status ≡ sink_failed → DoneOf
  broken begun is = record {
    output = λ few. absurd (omega (arith, few, is));
    prefix = begun;
    whole = λ not_five. absurd (not_five is);
    ended = λ four. absurd (omega (arith, four, is));
    unread = λ none. absurd (cc none);
    at_end = λ some few. absurd (omega (arith, few, is));
    engine = refl;
    coded = coded;
    spent = λ few. absurd (omega (arith, few, is));
  }

  -- all items were answered
  pub finished : (given : List Item) → HasEnded (cutting_of job) left left' given → Appends held held' (answers f given)
      → SendsAll (is_exact job) (sent_for f given) old new → status ≡ (if refuses f given then 1 else 0) → DoneOf
  finished given h wrote sends ends =
      let begins : BeginsWith (cutting_of job) left given = λ input reported. ([], h.all input reported ∙ sym (append-nil given)) in
      record {
        output = λ few input reported.
            let same = h.all input reported in (
              ends ∙ ap (λ (l : List Item). if refuses f l then 1 else 0) (sym same),
              subst (λ (l : List Item). Appends held held' (answers f l)) (sym same) wrote,
            );
        prefix = λ input reported. front-answers (cutting_of job) left given f held held' input begins reported wrote;
        whole = λ not_five input reported. whole_of given begins wrote input reported;
        ended = λ four. absurd (not_four (refuses f given) status ends four);
        unread = λ none. absurd (cc none);
        at_end = λ some few. h.end;
        engine = refl;
        coded = coded;
        spent = λ few input reported.
            subst (λ (l : List Item). IsSpentBy (is_exact job) (sent_for f l) old new) (sym (h.all input reported))
            (all-spent (is_exact job) (sent_for f given) old new sends);
      } where
        not_four : (b : Bool) (n : ℕ) → n ≡ (if b then 1 else 0) → n ≡ source_failed → ⊥
        not_four true n e four = omega (arith, e, four)
        not_four false n e four = omega (arith, e, four)

-- ---- a text before them

-- what is prepared to answer items is the task to do so after its text
same_task : (p : Prepared) (job : Job) → p.feed ≡ Some job → IsReady p → task_in p [] ≡ answering_task p.text job
same_task p job is ready =
    let ends : p.status ≡ s.Done = subst (λ (j : Option Job). EndsAs j p.status) is ready.0 in
    ap (λ (x : Status). task_of x p.feed p.idle) ends ∙ ap (λ (j : Option Job). task_of s.Done j p.idle) is where
      task_of : Status → Option Job → Option Coded → Task
      task_of status feed idle = record { text = p.text; status = status; before = []; feed = feed; engine = engine_with feed idle }

-- the text of what is prepared was written, and then its items were answered
pub after-text : (p : Prepared) (job : Job) (f : Answering) (left left' : Input) (before now : ℕ) (held mid held' : Held) (old new : Buf)
    (status : ℕ) → p.feed ≡ Some job → IsReady p → Appends held mid p.text
    → Done (answering_task [] job) f (Some (engine_in job)) left left' before now mid held' old new status
    → Done (task_in p []) f (engine_of p) left left' before now held held' old new status
after-text p job f left left' before now held mid held' old new status is ready text h =
    let made : engine_of p ≡ Some (engine_in job) = ap (λ (j : Option Job). engine_with j p.idle) is in
    subst (λ (t : Task). Done t f (engine_of p) left left' before now held held' old new status) (sym (same_task p job is ready))
    (subst (λ (e : Option Coded). Done (answering_task p.text job) f e left left' before now held held' old new status) (sym made)
    (record {
      output = λ few input reported.
          let (ends, more) = h.output few input reported in (ends, Appends-trans held mid held' p.text _ text more);
      prefix = λ input reported.
          let (front, rest, parts, more) = h.prefix input reported in
          let all = ap (λ (o : List ℕ). p.text ++ o) parts ∙ sym (append_assoc p.text front rest) in
          (p.text ++ front, rest, all, Appends-trans held mid held' p.text front text more);
      whole = λ other input reported.
          let (n, more) = h.whole other input reported in (n, Appends-trans held mid held' p.text _ text more);
      ended = λ four input reported.
          let (taken, consumed, more) = h.ended four input reported in
          (taken, consumed, Appends-trans held mid held' p.text _ text more);
      unread = h.unread;
      at_end = h.at_end;
      engine = refl;
      coded = h.coded;
      spent = h.spent;
    }))

-- the text of a task without items was written
pub text-alone : (p : Prepared) (f : Answering) (left : Input) (faults : ℕ) (held held' : Held) (buf : Buf) → p.feed ≡ None → IsReady p
    → IfSome (engine_of p) IsCoded → Appends held held' p.text
    → Done (task_in p []) f (engine_of p) left left faults faults held held' buf buf (number_of p.status)
text-alone p f left faults held held' buf none ready coded text =
    subst (λ (j : Option Job). Done (of j) f (engine_of p) left left faults faults held held' buf buf (number_of p.status)) (sym none)
    (record {
      output = λ few input reported. (refl, wrote);
      prefix = λ input reported. (p.text ++ [], [], sym (append-nil (p.text ++ [])), wrote);
      whole = λ other input reported. (0, wrote);
      ended = λ four. absurd (other_end p.status ends four);
      unread = λ none. (Consumes-nil left, refl, (λ e. other_end p.status ends e), λ e. no_length p.status ends e);
      at_end = λ some. absurd (some refl);
      engine = refl;
      coded = coded;
      spent = λ few input reported. spent-none true buf;
    }) where
      of : Option Job → Task
      of feed = record { text = p.text; status = p.status; before = []; feed = feed; engine = engine_of p }

      ends : EndsAs None p.status
      ends = subst (λ (j : Option Job). EndsAs j p.status) none ready.0

      wrote : Appends held held' (p.text ++ [])
      wrote = subst (λ (o : List ℕ). Appends held held' o) (sym (append-nil p.text)) text

      other_end : (status : Status) → EndsAs None status → number_of status ≡ 4 → ⊥
      other_end status (inl e) four = absurd (omega (arith, ap number_of e, four))
      other_end status (inr (inl e)) four = absurd (omega (arith, ap number_of e, four))
      other_end status (inr (inr e)) four = absurd (omega (arith, ap number_of e, four))

      no_length : (status : Status) → EndsAs None status → number_of status ≡ 8 → ⊥
      no_length status (inl e) eight = absurd (omega (arith, ap number_of e, eight))
      no_length status (inr (inl e)) eight = absurd (omega (arith, ap number_of e, eight))
      no_length status (inr (inr e)) eight = absurd (omega (arith, ap number_of e, eight))

-- a text of which a prefix was written, since the sink failed
pub text-broken : (p : Prepared) (f : Answering) (left : Input) (faults : ℕ) (held held' : Held) (buf : Buf)
    → IfSome (engine_of p) IsCoded
    → (front : List ℕ) × (rest : List ℕ) × (p.text ≡ front ++ rest) × Appends held held' front
    → Done (task_in p []) f (engine_of p) left left faults faults held held' buf buf sink_failed
text-broken p f left faults held held' buf coded (front, rest, parts, wrote) = record {
  output = λ few. absurd (omega (arith, few));
  prefix = λ input reported.
      let more = answers f (items_of p.feed input) in
      (front, rest ++ more, ap (λ (o : List ℕ). o ++ more) parts ∙ append_assoc front rest more, wrote);
  whole = λ other. absurd (other refl);
  ended = λ four. absurd (omega (arith, four));
  unread = λ none. (Consumes-nil left, refl, (λ e. absurd (omega (arith, e))), λ e. absurd (omega (arith, e)));
  at_end = λ some few. absurd (omega (arith, few));
  engine = refl;
  coded = coded;
  spent = λ few. absurd (omega (arith, few));
}

-- ---- what was sent before

-- what was sent for a text, and then for items
spent_both : (feed : Option Job) (f : Answering) (input : List ℕ) (before : List Sending) (old mid new : Buf)
    → IsSpentBy true before old mid → AreFirst feed before → IsSpentBy (exact_of feed) (sent_for f (items_of feed input)) mid new
    → IsSpentBy (exact_of feed) (before ++ sent_for f (items_of feed input)) old new
spent_both None f input before old mid new first after more =
    subst (λ (b : Buf). IsSpentBy true (before ++ []) old b) (sym (more.unused tt))
    (subst (λ (ss : List Sending). IsSpentBy true ss old mid) (sym (append-nil before)) first)
spent_both (Some job) f input before old mid new first after more =
    let none : IsSpentBy true [] old mid = subst (λ (ss : List Sending). IsSpentBy true ss old mid) after first in
    subst (λ (ss : List Sending). IsSpentBy (is_exact job) (ss ++ sent_for f (items_of (Some job) input)) old new) (sym after)
    (subst (λ (b : Buf). IsSpentBy (is_exact job) (sent_for f (items_of (Some job) input)) b new) (none.unused tt) more)

pub with-before : (p : Prepared) (f : Answering) (made : Option Coded) (left left' : Input) (before now : ℕ) (held held' : Held)
    (old mid new : Buf) (status : ℕ) (ss : List Sending) → made ≡ engine_of p → IsSpentBy true ss old mid → AreFirst p.feed ss
    → Done (task_in p []) f (engine_of p) left left' before now held held' mid new status
    → Done (task_in p ss) f made left left' before now held held' old new status
with-before p f made left left' before now held held' old mid new status ss is first after h =
    subst (λ (e : Option Coded). Done (task_in p ss) f e left left' before now held held' old new status) (sym is)
    (record {
      output = h.output;
      prefix = h.prefix;
      whole = h.whole;
      ended = h.ended;
      unread = h.unread;
      at_end = h.at_end;
      engine = h.engine;
      coded = h.coded;
      spent = λ few input reported. spent_both p.feed f input ss old mid new first after (h.spent few input reported);
    })
