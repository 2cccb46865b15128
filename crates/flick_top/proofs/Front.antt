-- A file's prefix of one octet more than its limit says what the whole file says.
use Rattle.std.proofs.Common.{◌≡◌, ℕ, ◌+◌, ◌<◌, ◌≤◌, Bool, true, false, List, length, take, refl, sym, ap, ◌∙◌, subst, arith}
use Rattle.std.specs.Prelude.{nat_le, MatchBool, Option, Some, Err}
use Rattle.std.proofs.lemmas.List.{take_all, length-take-le}
use Rattle.std.proofs.lemmas.Bool.Decides.{nat_tests}
use Rattle.kit_base.specs.Limits.{longest_file, longest_replies, longest_stubs}
use Rattle.kit_base.specs.Memory.{HasFile}
use Rattle.stub_codes.specs.Stubs.{Coded}
use Rattle.idl_lex.specs.declared.kinds.Front.{Front}
use Rattle.flick_top.specs.declared.report.Report.TheVariants.{TooLarge, LargeReplies, LargeStubs}
use Rattle.flick_top.specs.File.{FileSays}
use Rattle.flick_top.specs.Fronts.{Read, UnitOf}
use Rattle.flick_top.specs.Dispatch.{Files, ServesText, ServesFile, ChecksText, ChecksFile}
use Rattle.flick_top.specs.Task.{Task, report_task}

-- what is so of a text within a limit, or else this
of_prefix : (n : ℕ) (P : List ℕ → Type 0) (Q : Type 0) (part whole : List ℕ) (b : Bool) → nat_le (length whole) n ≡ b
    → part ≡ take (1 + n) whole → MatchBool (nat_le (length part) n) (P part) Q
    → MatchBool b (P whole) Q
of_prefix n P Q part whole true fits e h =
    let within : length whole ≤ n = grind (arith, nat_tests, fits) in
    let same : part ≡ whole = e ∙ take_all (1 + n) whole (omega arith) in
    let all : MatchBool (nat_le (length whole) n) (P whole) Q =
    subst (λ (l : List ℕ). MatchBool (nat_le (length l) n) (P l) Q) same h in
    subst (λ (c : Bool). MatchBool c (P whole) Q) fits all
of_prefix n P Q part whole false over e h =
    let above : n < length whole = grind (arith, nat_tests, over) in
    let long : length part ≡ (1 + n) = ap length e ∙ length-take-le (1 + n) whole (omega arith) in
    let test : nat_le (length part) n ≡ false = grind (arith, nat_tests, long) in
    subst (λ (c : Bool). MatchBool c (P part) Q) test h

-- the prefix that a shelf gave says what its file says
pub reported-decides : (k : Front) (shelf : Option Files) (files : Files) (path part : List ℕ) (read : Read)
    → HasFile shelf path (1 + longest_file) part → shelf ≡ Some files → FileSays k (Some part) read
    → FileSays k (files path) read
reported-decides k shelf files path part read has e h =
    let (whole, found, cut) = subst (λ (o : Option Files). HasFile o path (1 + longest_file) part) e has in
    subst (λ (c : Option (List ℕ)). FileSays k c read) (sym found)
    (of_prefix longest_file (λ t. UnitOf k t read) (read ≡ Err TooLarge) part whole (nat_le (length whole) longest_file) refl cut h)

-- the same of a file of replies
pub served-decides : (d : Coded) (shelf : Option Files) (files : Files) (path part : List ℕ) (task : Task)
    → HasFile shelf path (1 + longest_replies) part → shelf ≡ Some files → ServesFile d (Some part) task
    → ServesFile d (files path) task
served-decides d shelf files path part task has e h =
    let (whole, found, cut) = subst (λ (o : Option Files). HasFile o path (1 + longest_replies) part) e has in
    subst (λ (c : Option (List ℕ)). ServesFile d c task) (sym found)
    (of_prefix longest_replies (λ t. ServesText d t task) (task ≡ report_task LargeReplies (Some d)) part whole
    (nat_le (length whole) longest_replies) refl cut h)

-- and of a file of stubs
pub checked-decides : (d : Coded) (shelf : Option Files) (files : Files) (path part : List ℕ) (task : Task)
    → HasFile shelf path (1 + longest_stubs) part → shelf ≡ Some files → ChecksFile d (Some part) task
    → ChecksFile d (files path) task
checked-decides d shelf files path part task has e h =
    let (whole, found, cut) = subst (λ (o : Option Files). HasFile o path (1 + longest_stubs) part) e has in
    subst (λ (c : Option (List ℕ)). ChecksFile d c task) (sym found)
    (of_prefix longest_stubs (λ t. ChecksText d t task) (task ≡ report_task LargeStubs (Some d)) part whole
    (nat_le (length whole) longest_stubs) refl cut h)
