use Rattle.std.proofs.Common.{arith, ◌≡◌, [], ◌∷◌, ◌++◌, ℕ, Bool, refl, sym, ap, ◌∙◌, subst, Err}
use Rattle.std.specs.Prelude.{if◌then◌else◌}
use Rattle.std.proofs.KnownBytes.{Appends-nil}
use Rattle.kit_base.specs.Causes.{Rose}
use Rattle.kit_base.specs.declared.lines.LineErr.{LineErr}
use Rattle.kit_base.specs.declared.lines.LineErr.TheVariants.{Failed}
use Rattle.raw_buf.proofs.Standing.{none_fell-refl, none_fell-trans}
use Rattle.flick_top.specs.Answer.{Answer, cutting_of}
use Rattle.flick_top.specs.Status.{number_of}
use Rattle.flick_top.specs.Turn.{status_at}
use Rattle.flick_top.proofs.Begun.{came-to-end, given-begun, went-on}
use Rattle.flick_top.proofs.Determined.{one_answer}
use Rattle.flick_top.proofs.Doing.{stopped, broken, finished}
use Rattle.flick_top.proofs.Prefix.{front-failed, wrote-ended}
use Rattle.flick_top.proofs.Stops.{failed-of, too_much-of, above-output, not-sink, ends-as}
use Rattle.flick_top.proofs.Turning.{one_more}
use Rattle.flick_top.proofs.turns.answer_items.Goals as goal

pub turns-init : goal.turns-init
turns-init g c = record {
  answered = ([], c.new-items.ensures _, λ f all. (Appends-nil _, refl, refl));
  reads = refl;
  writes = refl;
  spent = none_fell-refl _;
}

pub turns-preserved : goal.turns-preserved
turns-preserved g c =
    let (given, so, written) = c.turns.invariant.answered in
    let wrote = rw c.as_slice.ensures at c.in_default-write_whole.ensures.ok in
    record {
      answered = (
        given ++ c.in-Ok-Some.item ∷ [],
        went-on _ _ _ _ _ c.in-Ok-Some.item c.in-Ok-Some.field-0-is c.in-Ok-Some.ensures.goes _ _ given so,
        one_more _ _ _ _ given c.in-Ok-Some.item _ _ _ _ _ _ _ written c.in-Ok.ensures.answers wrote c.either-refused.ensures,
      );
      reads = c.turns.invariant.reads ∙ c.in-Ok-Some.ensures.reported (λ e. absurd (cc e));
      writes = c.turns.invariant.writes ∙ c.in_default-write_whole.ensures.cause.ok;
      spent = none_fell-trans _ _ _ c.turns.invariant.spent c.in-Ok.ensures.spent;
    }

pub turns-preserved-in_default-write_whole : goal.turns-preserved-in_default-write_whole
turns-preserved-in_default-write_whole g c =
    let (given, so, written) = c.turns.invariant.answered in
    let wrote = rw c.as_slice.ensures at c.in_default-write_whole.ensures.ok in
    record {
      answered = (
        given ++ c.in-Ok-Some.item ∷ [],
        went-on _ _ _ _ _ c.in-Ok-Some.item c.in-Ok-Some.field-0-is c.in-Ok-Some.ensures.goes _ _ given so,
        one_more _ _ _ _ given c.in-Ok-Some.item _ _ _ _ _ _ _ written c.in-Ok.ensures.answers wrote c.either-refused.ensures,
      );
      reads = c.turns.invariant.reads ∙ c.in-Ok-Some.ensures.reported (λ e. absurd (cc e));
      writes = c.turns.invariant.writes ∙ c.in_default-write_whole.ensures.cause.ok;
      spent = none_fell-trans _ _ _ c.turns.invariant.spent c.in-Ok.ensures.spent;
    }

pub turns-preserved-in_default-write_whole-2 : goal.turns-preserved-in_default-write_whole-2
turns-preserved-in_default-write_whole-2 g c =
    let (given, so, written) = c.turns.invariant.answered in
    let wrote = rw c.as_slice.ensures at c.in_default-write_whole.ensures.ok in
    record {
      answered = (
        given ++ c.in-Ok-Some.item ∷ [],
        went-on _ _ _ _ _ c.in-Ok-Some.item c.in-Ok-Some.field-0-is c.in-Ok-Some.ensures.goes _ _ given so,
        one_more _ _ _ _ given c.in-Ok-Some.item _ _ _ _ _ _ _ written c.in-Ok.ensures.answers wrote c.either-refused.ensures,
      );
      reads = c.turns.invariant.reads ∙ c.in-Ok-Some.ensures.reported (λ e. absurd (cc e));
      writes = c.turns.invariant.writes ∙ c.in_default-write_whole.ensures.cause.ok;
      spent = none_fell-trans _ _ _ c.turns.invariant.spent c.in-Ok.ensures.spent;
    }

pub turns-preserved-in_default-write_whole-3 : goal.turns-preserved-in_default-write_whole-3
turns-preserved-in_default-write_whole-3 g c =
    let (given, so, written) = c.turns.invariant.answered in
    let wrote = rw c.as_slice.ensures at c.in_default-write_whole.ensures.ok in
    record {
      answered = (
        given ++ c.in-Ok-Some.item ∷ [],
        went-on _ _ _ _ _ c.in-Ok-Some.item c.in-Ok-Some.field-0-is c.in-Ok-Some.ensures.goes _ _ given so,
        one_more _ _ _ _ given c.in-Ok-Some.item _ _ _ _ _ _ _ written c.in-Ok.ensures.answers wrote c.either-refused.ensures,
      );
      reads = c.turns.invariant.reads ∙ c.in-Ok-Some.ensures.reported (λ e. absurd (cc e));
      writes = c.turns.invariant.writes ∙ c.in_default-write_whole.ensures.cause.ok;
      spent = none_fell-trans _ _ _ c.turns.invariant.spent c.in-Ok.ensures.spent;
    }

-- ---- where the input cannot be read on

pub returns-in-Err-clause-done : goal.returns-in-Err-clause-done
returns-in-Err-clause-done g c = λ f all coded.
    let (given, so, written) = c.turns.invariant.answered in
    let failed = c.in-Err.ensures.goes _ _ given so in
    stopped c.args.job.now f coded _ _ _ _ _ _ _ _ (number_of c.status_at.result) given failed.begins (written f all).0
    (above-output c.in-Err.error c.status_at.result c.status_at.ensures) (not-sink c.in-Err.error c.status_at.result c.status_at.ensures)
    (λ four input reported. wrote-ended (cutting_of c.args.job.now) _ _ given c.in-Err.error f _ _ failed
    (failed-of c.in-Err.error (omega (arith, ap number_of c.status_at.ensures, four))) (written f all).0)

pub returns-in-Err-clause-spent : goal.returns-in-Err-clause-spent
returns-in-Err-clause-spent g c = c.turns.invariant.spent

pub returns-in-Err-clause-taken : goal.returns-in-Err-clause-taken
returns-in-Err-clause-taken g c =
    let (given, so, written) = c.turns.invariant.answered in (c.in-Err.ensures.goes _ _ given so).taken

pub returns-in-Err-clause-more : goal.returns-in-Err-clause-more
returns-in-Err-clause-more g c = λ eight.
    let (given, so, written) = c.turns.invariant.answered in
    (c.in-Err.ensures.goes _ _ given so).more (too_much-of c.in-Err.error (ap number_of (sym c.status_at.ensures) ∙ eight))

pub returns-in-Err-clause-at_most : goal.returns-in-Err-clause-at_most
returns-in-Err-clause-at_most g c = λ other.
    let (given, so, written) = c.turns.invariant.answered in
    (c.in-Err.ensures.goes _ _ given so).within
    (λ e. other (ap number_of c.status_at.ensures ∙ ap (λ (x : LineErr). number_of (status_at x)) e))

pub returns-in-Err-clause-source : goal.returns-in-Err-clause-source
returns-in-Err-clause-source g c = λ four.
    let (given, so, written) = c.turns.invariant.answered in
    let error : c.in-Err.error ≡ Failed = failed-of c.in-Err.error (omega (arith, ap number_of c.status_at.ensures, four)) in
    subst (λ (n : ℕ). Rose n (g.S.Source.faults c.next.new.source)) (sym c.turns.invariant.reads)
    (c.next.ensures.failed _ _ given so (c.in-Err.is ∙ ap Err error))

pub returns-in-Err-clause-source_reported : goal.returns-in-Err-clause-source_reported
returns-in-Err-clause-source_reported g c = λ other.
    let read : c.next.result ≡ Err Failed → ⊥ = λ e.
    let error : c.in-Err.error ≡ Failed = cc (e, c.in-Err.is) in
    other (ap number_of c.status_at.ensures ∙ ap (λ (x : LineErr). number_of (status_at x)) error) in
    c.turns.invariant.reads ∙ c.next.ensures.reported read

-- ---- where all items are answered

pub returns-in-Ok-None-clause-done : goal.returns-in-Ok-None-clause-done
returns-in-Ok-None-clause-done g c = λ f all coded.
    let (given, so, written) = c.turns.invariant.answered in
    let ended = came-to-end _ _ _ _ _ c.in-Ok-None.field-0-is c.in-Ok-None.ensures.goes _ _ given so in
    finished c.args.job.now f coded _ _ _ _ _ _ _ _ (number_of c.finished.result) given ended (written f all).0 (written f all).2
    (ends-as c.turns.refused c.finished.result c.finished.ensures ∙ ap (λ (b : Bool). if b then 1 else 0) (written f all).1)

pub returns-in-Ok-None-clause-spent : goal.returns-in-Ok-None-clause-spent
returns-in-Ok-None-clause-spent g c = c.turns.invariant.spent

pub returns-in-Ok-None-clause-taken : goal.returns-in-Ok-None-clause-taken
returns-in-Ok-None-clause-taken g c =
    let (given, so, written) = c.turns.invariant.answered in
    let ended = came-to-end _ _ _ _ _ c.in-Ok-None.field-0-is c.in-Ok-None.ensures.goes _ _ given so in
    (ended.taken.0, ended.taken.1)

pub returns-in-Ok-None-clause-at_most : goal.returns-in-Ok-None-clause-at_most
returns-in-Ok-None-clause-at_most g c = λ other.
    let (given, so, written) = c.turns.invariant.answered in
    (came-to-end _ _ _ _ _ c.in-Ok-None.field-0-is c.in-Ok-None.ensures.goes _ _ given so).taken

pub returns-in-Ok-None-clause-source_reported : goal.returns-in-Ok-None-clause-source_reported
returns-in-Ok-None-clause-source_reported g c = λ other. c.turns.invariant.reads ∙ c.in-Ok-None.ensures.reported (λ e. absurd (cc e))

-- ---- where memory runs out

pub returns-in_default-clause-done : goal.returns-in_default-clause-done
returns-in_default-clause-done g c = λ f all coded.
    let (given, so, written) = c.turns.invariant.answered in
    stopped c.args.job.now f coded _ _ _ _ _ _ _ _ 7 given (given-begun _ _ _ _ given so).begins (written f all).0 (omega arith)
    (λ e. absurd (cc e)) (λ e. absurd (cc e))

pub returns-in_default-clause-spent : goal.returns-in_default-clause-spent
returns-in_default-clause-spent g c = none_fell-trans _ _ _ c.turns.invariant.spent c.answer_to.ensures.spent

pub returns-in_default-clause-taken : goal.returns-in_default-clause-taken
returns-in_default-clause-taken g c =
    let (given, so, written) = c.turns.invariant.answered in
    let on = went-on _ _ _ _ _ c.in-Ok-Some.item c.in-Ok-Some.field-0-is c.in-Ok-Some.ensures.goes _ _ given so in
    let begun = given-begun _ _ _ _ (given ++ c.in-Ok-Some.item ∷ []) on in (begun.taken.0, begun.taken.1)

pub returns-in_default-clause-at_most : goal.returns-in_default-clause-at_most
returns-in_default-clause-at_most g c = λ other.
    let (given, so, written) = c.turns.invariant.answered in
    let on = went-on _ _ _ _ _ c.in-Ok-Some.item c.in-Ok-Some.field-0-is c.in-Ok-Some.ensures.goes _ _ given so in
    (given-begun _ _ _ _ (given ++ c.in-Ok-Some.item ∷ []) on).taken

pub returns-in_default-clause-source_reported : goal.returns-in_default-clause-source_reported
returns-in_default-clause-source_reported g c = λ other. c.turns.invariant.reads ∙ c.in-Ok-Some.ensures.reported (λ e. absurd (cc e))

-- ---- where an answer cannot be written

pub returns-in-Err-write_whole-clause-done : goal.returns-in-Err-write_whole-clause-done
returns-in-Err-write_whole-clause-done g c = λ f all coded.
    let (given, so, written) = c.turns.invariant.answered in
    let item = c.in-Ok-Some.item in
    let on = went-on _ _ _ _ _ item c.in-Ok-Some.field-0-is c.in-Ok-Some.ensures.goes _ _ given so in
    let (a, is, o, r, sends) = c.in-Ok.ensures.answers in
    let same = one_answer c.args.job.now item a (f item) is (all item) in
    let part = rw c.as_slice.ensures at c.in-Err-write_whole.ensures.err in
    broken c.args.job.now f coded _ _ _ _ _ _ _ _ 5
    (λ input reported. front-failed (cutting_of c.args.job.now) _ given item f _ _ _ c.in-Ok.answer.octets input
    (sym o ∙ ap (λ (x : Answer). x.octets) same) (given-begun _ _ _ _ (given ++ item ∷ []) on).begins reported (written f all).0 part)
    refl

pub returns-in-Err-write_whole-clause-spent : goal.returns-in-Err-write_whole-clause-spent
returns-in-Err-write_whole-clause-spent g c = none_fell-trans _ _ _ c.turns.invariant.spent c.in-Ok.ensures.spent

pub returns-in-Err-write_whole-clause-taken : goal.returns-in-Err-write_whole-clause-taken
returns-in-Err-write_whole-clause-taken g c =
    let (given, so, written) = c.turns.invariant.answered in
    let on = went-on _ _ _ _ _ c.in-Ok-Some.item c.in-Ok-Some.field-0-is c.in-Ok-Some.ensures.goes _ _ given so in
    let begun = given-begun _ _ _ _ (given ++ c.in-Ok-Some.item ∷ []) on in (begun.taken.0, begun.taken.1)

pub returns-in-Err-write_whole-clause-at_most : goal.returns-in-Err-write_whole-clause-at_most
returns-in-Err-write_whole-clause-at_most g c = λ other.
    let (given, so, written) = c.turns.invariant.answered in
    let on = went-on _ _ _ _ _ c.in-Ok-Some.item c.in-Ok-Some.field-0-is c.in-Ok-Some.ensures.goes _ _ given so in
    (given-begun _ _ _ _ (given ++ c.in-Ok-Some.item ∷ []) on).taken

pub returns-in-Err-write_whole-clause-source_reported : goal.returns-in-Err-write_whole-clause-source_reported
returns-in-Err-write_whole-clause-source_reported g c = λ other.
    c.turns.invariant.reads ∙ c.in-Ok-Some.ensures.reported (λ e. absurd (cc e))
