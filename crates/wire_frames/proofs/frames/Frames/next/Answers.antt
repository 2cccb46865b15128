use Rattle.std.proofs.Common.{◌≡◌, ℕ, List, sym, ap, ◌∙◌, subst}
use Rattle.std.specs.Prelude.{Some, Ok, Err}
use Rattle.wire_frames.specs.declared.frames.FrameErr.TheVariants.{NoMemory}
use Rattle.wire_frames.specs.First.{first, end_of, IsMessage}
use Rattle.wire_frames.specs.Passed.{Stream}
use Rattle.wire_frames.proofs.Answering.{ends_message, end_sure}
use Rattle.wire_frames.proofs.frames.Frames.next.Goals as goal

pub take_first-requires : goal.take_first-requires
take_first-requires c =
    let old = c.args.self.now in
    let ends : end_of (first old.back old.kept) ≡ Ok (Some c.in-Ok-Some.used) =
    sym c.find.ensures.value ∙ c.in-Ok-Some.is ∙ ap Ok c.in-Ok-Some.field-0-is in
    subst (λ (s : Stream). (m : List ℕ) × IsMessage (first s.back s.kept) m c.in-Ok-Some.used) (sym c.find.ensures.same)
    (ends_message (first old.back old.kept) c.in-Ok-Some.used ends)

pub returns-in-Err-clause-memory : goal.returns-in-Err-clause-memory
returns-in-Err-clause-memory c same =
    let old = c.args.self.now in
    let which : c.in-Err.error ≡ NoMemory = cc same in
    let ends : end_of (first old.back old.kept) ≡ Err NoMemory =
    sym c.find.ensures.value ∙ c.in-Err.is ∙ ap Err which in
    absurd (end_sure old.back old.kept ends)
