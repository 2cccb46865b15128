-- Without faults and with little input the work is done and all is written, unless memory runs out.
use Rattle.std.proofs.Common.{◌≡◌, ◌⊎◌, inl, inr, ℕ, ◌≤◌, List, ◌++◌, length, refl, ap, subst, arith, lit≤, length-append}
use Rattle.std.specs.Prelude.{Option, Some, None}
use Rattle.std.specs.Io.KnownBytes.{Consumes}
use Rattle.flick_top.specs.declared.status.Status.{Status}
use Rattle.flick_top.specs.declared.status.Status.TheVariants as s
use Rattle.raw_buf.specs.Buf.{Buf}
use Rattle.stub_codes.specs.Stubs.{Coded}
use Rattle.flick_top.specs.Laws.{WritesWhole, OutputsAreWhole}
use Rattle.flick_top.specs.Outside.{Input, Held}
use Rattle.flick_top.specs.Dispatch.{Files}
use Rattle.flick_top.specs.Statement.{TakesMore, Completes, Works}
use Rattle.flick_top.specs.Status.{number_of}

-- what was taken has one length
same_length : (left left' : Input) (input taken got : List ℕ) → left ≡ Some input → Consumes left left' taken → Consumes left left' got
    → length taken ≡ length got
same_length left None input taken got reported a b = absurd (subst (λ (o : Input). Consumes o None taken) reported a)
same_length left (Some rest) input taken got reported a b =
    let first : input ≡ taken ++ rest = subst (λ (o : Input). Consumes o (Some rest) taken) reported a in
    let second : input ≡ got ++ rest = subst (λ (o : Input). Consumes o (Some rest) got) reported b in
    omega (arith, ap length first, ap length second, length-append taken rest, length-append got rest)

pub completes : (left left' : Input) (SourceRose SinkRose ShelfRose : Type 0) (status : Status) → TakesMore left left' (number_of status)
    → (number_of status ≡ 4 → SourceRose) → (number_of status ≡ 5 → SinkRose) → (status ≡ s.Shelf → ⊥)
    → Completes left left' SourceRose SinkRose ShelfRose (number_of status)
completes left left' A B C s.Done more source sink shelf = λ input reported taken took few a b c. inl (lit≤ tt)
completes left left' A B C s.Refused more source sink shelf = λ input reported taken took few a b c. inl (lit≤ tt)
completes left left' A B C s.Usage more source sink shelf = λ input reported taken took few a b c. inl (lit≤ tt)
completes left left' A B C s.File more source sink shelf = λ input reported taken took few a b c. inl (lit≤ tt)
completes left left' A B C s.Source more source sink shelf = λ input reported taken took few a b c. absurd (a (source refl))
completes left left' A B C s.Sink more source sink shelf = λ input reported taken took few a b c. absurd (b (sink refl))
completes left left' A B C s.Shelf more source sink shelf = λ input reported taken took few a b c. absurd (shelf refl)
completes left left' A B C s.Memory more source sink shelf = λ input reported taken took few a b c. inr refl
completes left left' A B C s.Length more source sink shelf = λ input reported taken took few a b c.
    let (got, consumed, above) = more refl in
    let same = same_length left left' input taken got reported took consumed in
    absurd (omega (arith, same, above, few))

-- ---- with the work that was done

-- what was taken is no longer than the input
no_more : (left left' : Input) (input taken : List ℕ) → left ≡ Some input → Consumes left left' taken → length taken ≤ length input
no_more left None input taken reported a = absurd (subst (λ (o : Input). Consumes o None taken) reported a)
no_more left (Some rest) input taken reported a =
    let parts : input ≡ taken ++ rest = subst (λ (o : Input). Consumes o (Some rest) taken) reported a in
    omega (arith, ap length parts, length-append taken rest)

without_task : (status : ℕ) → (status ≡ 6) ⊎ (status ≡ 7) → (status ≤ 3) ⊎ (status ≡ 7) → status ≡ 7
without_task status (inr seven) ended = seven
without_task status (inl six) (inr seven) = seven
without_task status (inl six) (inl few) = absurd (omega (arith, six, few))

whole_work : (made : Option Coded) (words : List (List ℕ)) (files : Files) (left left' : Input) (held held' : Held)
    (source source' status : ℕ) (old new : Buf) (input : List ℕ) → left ≡ Some input
    → Works made words files left left' source source' held held' old new status → (status ≤ 3) ⊎ (status ≡ 7)
    → (status ≡ 7) ⊎ WritesWhole made words files input held held' status
whole_work made words files left left' held held' source source' status old new input reported (inl (ends, took, wrote)) ended =
    inl (without_task status ends ended)
whole_work made words files left left' held held' source source' status old new input reported (inr done) (inr seven) = inl seven
whole_work made words files left left' held held' source source' status old new input reported (inr (task, f, is, all, done)) (inl few) =
    inr (task, f, is, all, done.output few input reported)

pub all_whole : OutputsAreWhole
all_whole made words files left left' held held' source source' sink sink' shelf shelf' status old new works (taken, took) completes input
    reported within none =
    whole_work made words files left left' held held' source source' status old new input reported works
    (completes input reported taken took (omega (arith, no_more left left' input taken reported took, within))
    none.source none.sink none.shelf)
