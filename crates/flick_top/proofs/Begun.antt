-- What was given, whatever gives it, and what a call has done by its answer.
use Rattle.std.proofs.Common.{◌≡◌, List, [], ◌∷◌, ◌++◌, false, true, Option, Some, None, Ok, refl, sym, subst}
use Rattle.kit_base.specs.Limits.{longest_line, most_input}
use Rattle.kit_base.specs.Lines.{State}
use Rattle.wire_def.specs.declared.encoding.Back.{Back}
use Rattle.wire_frames.specs.Reading.{Reader}
use Rattle.flick_top.specs.declared.job.Job.{Job}
use Rattle.flick_top.specs.declared.job.Job.TheVariants.{Over, Pipe, Unpipe, Serve, Bridge}
use Rattle.flick_top.specs.declared.cutter.Cutter.{Cutter}
use Rattle.flick_top.specs.declared.cutter.Cutter.TheVariants as cutters
use Rattle.flick_top.specs.declared.items.Item.{Item}
use Rattle.flick_top.specs.Answer.{cutting_of, engine_in, reads_stream}
use Rattle.flick_top.specs.Giving.{Goes, HasBegun, HasEnded, IsGiven, AreParts, fresh}
use Rattle.flick_top.specs.Items.{Cutting, by_frames, by_lines}
use Rattle.flick_top.specs.Outside.{Input}
use Rattle.flick_top.proofs.GivenLines.{lines-begun, lines-fresh}
use Rattle.flick_top.proofs.GivenParts.{parts-begun, parts-fresh}

stream_cut : (job : Job) → reads_stream job ≡ true → cutting_of job ≡ by_frames (engine_in job).binding.back
stream_cut (Unpipe e) is = refl
stream_cut (Over verb e) is = absurd (cc is)
stream_cut (Pipe e) is = absurd (cc is)
stream_cut (Serve s) is = absurd (cc is)
stream_cut (Bridge s) is = absurd (cc is)

lines_cut : (job : Job) → reads_stream job ≡ false → cutting_of job ≡ by_lines
lines_cut (Unpipe e) is = absurd (cc is)
lines_cut (Over verb e) is = refl
lines_cut (Pipe e) is = refl
lines_cut (Serve s) is = refl
lines_cut (Bridge s) is = refl

-- the parts of a stream, of which nothing was read
pub parts-new : (job : Job) (back : Back) (r : Reader) → reads_stream job ≡ true → back ≡ (engine_in job).binding.back
    → r ≡ record { back = back; kept = []; taken = 0; most = most_input; over = false }
    → (left : Input) → IsGiven (cutting_of job) (cutters.Messages r) left left []
parts-new job back r is of new left =
    subst (λ (c : Cutting). AreParts r.over c r left left []) (sym (stream_cut job is))
    (subst (λ (k : Back). AreParts r.over (by_frames k) r left left []) of (parts-fresh back left r new))

-- lines, of which none was read
pub lines-new : (job : Job) (t : State) → reads_stream job ≡ false → t ≡ fresh longest_line most_input
    → (left : Input) → IsGiven (cutting_of job) (cutters.Lines t) left left []
lines-new job t is new left =
    subst (λ (c : Cutting). IsGiven c (cutters.Lines t) left left []) (sym (lines_cut job is)) (lines-fresh left t new)

pub given-begun : (c : Cutting) (k : Cutter) (before after : Input) (given : List Item) → IsGiven c k before after given
    → HasBegun c before after given
given-begun c (cutters.Lines t) before after given h = lines-begun c before after t given h
given-begun c (cutters.Messages r) before after given h = parts-begun r.over c before after r given h

-- one more item
pub went-on : (old new : Cutter) (now after : Input) (x : Option Item) (item : Item) → x ≡ Some item → Goes old new now after (Ok x)
    → (c : Cutting) (before : Input) (given : List Item) → IsGiven c old before now given
    → IsGiven c new before after (given ++ item ∷ [])
went-on old new now after x item is goes = subst (λ (o : Option Item). Goes old new now after (Ok o)) is goes

-- no more items
pub came-to-end : (old new : Cutter) (now after : Input) (x : Option Item) → x ≡ None → Goes old new now after (Ok x)
    → (c : Cutting) (before : Input) (given : List Item) → IsGiven c old before now given → HasEnded c before after given
came-to-end old new now after x is goes = subst (λ (o : Option Item). Goes old new now after (Ok o)) is goes
