-- What a reader has given and keeps, from one read to the next.
use Rattle.std.proofs.Common.{◌≡◌, ◌≢◌, ℕ, ◌+◌, ◌≤◌, ◌<◌, Bool, true, false, List, [], ◌∷◌, ◌++◌, length, take, drop, refl, sym, ap, ◌∙◌, subst, append_assoc, append-nil, length-append, take-append-drop, arith}
use Rattle.std.proofs.lemmas.List.{length-drop}
use Rattle.std.specs.Prelude.{Option, Some, None, IfSome, if◌then◌else◌}
use Rattle.std.specs.Io.KnownBytes.{Consumes, IsAtEnd, Keeps}
use Rattle.std.proofs.KnownBytes.{Consumes-nil, Consumes-trans, Consumes-kept}
use Rattle.kit_base.specs.declared.lines.LineErr.{LineErr}
use Rattle.kit_base.specs.declared.lines.LineErr.TheVariants as errors
use Rattle.wire_def.specs.declared.encoding.Back.{Back}
use Rattle.wire_frames.specs.declared.messages.Part.{Part}
use Rattle.wire_frames.specs.declared.messages.Part.TheVariants as part
use Rattle.wire_frames.specs.First.{First, whole, bad, more, first, left}
use Rattle.wire_frames.specs.Cut.{HasGiven}
use Rattle.wire_frames.specs.Reading.{Reader, Passes, Advances, IsWithin, Gives, Stops, found_in, is_end, work}
use Rattle.wire_frames.proofs.Cutting.{pieces_are_cut}
use Rattle.wire_frames.proofs.Found.{first_fits}

-- ---- messages that were given

-- nothing taken and nothing given
pub passes-refl : (r : Reader) → Passes [] [] r r
passes-refl r = record {
  count = omega arith;
  most = refl;
  back = refl;
  given = λ fed given h.
      subst (λ (f : List ℕ). HasGiven r.back f (given ++ []) r.kept) (sym (append-nil fed))
      (subst (λ (ms : List (List ℕ)). HasGiven r.back fed ms r.kept) (sym (append-nil given)) h);
}

-- a read appends to what is kept
pub passes-fed : (got : List ℕ) (old r t : Reader) (n : ℕ) → take (length r.kept) t.kept ≡ r.kept
    → length t.kept ≡ length r.kept + n → t.taken ≡ r.taken + n → t.back ≡ r.back → t.most ≡ r.most → Passes got [] old r
    → Passes (got ++ drop (length r.kept) t.kept) [] old t
passes-fed got old r t n front long taken back most p =
    let piece = drop (length r.kept) t.kept in
    let split : t.kept ≡ r.kept ++ piece =
    sym (take-append-drop (length r.kept) t.kept) ∙ ap (λ (l : List ℕ). l ++ piece) front in
    let lengths : length t.kept ≡ length r.kept + length piece = ap length split ∙ length-append r.kept piece in
    record {
      count = omega (arith, lengths, long, taken, p.count, length-append got piece);
      most = most ∙ p.most;
      back = back ∙ p.back;
      given = λ fed given h.
          let next : HasGiven old.back ((fed ++ got) ++ piece) (given ++ []) (r.kept ++ piece) =
          pieces_are_cut.feed old.back (fed ++ got) r.kept piece (given ++ []) (p.given fed given h) in
          subst (λ (f : List ℕ). HasGiven old.back f (given ++ []) t.kept) (append_assoc fed got piece)
          (subst (λ (k : List ℕ). HasGiven old.back ((fed ++ got) ++ piece) (given ++ []) k) (sym split) next);
    }

-- a message that stands first is given
pub passes-found : (got : List ℕ) (old r : Reader) (m : List ℕ) (used : ℕ) (over : Bool) → first r.back r.kept ≡ whole m used
    → Passes got [] old r → Passes got (m ∷ []) old (record r { kept = drop used r.kept; over = over })
passes-found got old r m used over is p = record {
  count = p.count;
  most = p.most;
  back = p.back;
  given = λ fed given h.
      let there : first old.back r.kept ≡ whole m used = ap (λ (k : Back). first k r.kept) (sym p.back) ∙ is in
      let next : HasGiven old.back (fed ++ got) ((given ++ []) ++ m ∷ []) (drop used r.kept) =
      pieces_are_cut.next old.back (fed ++ got) r.kept m (given ++ []) used (p.given fed given h) there in
      subst (λ (ms : List (List ℕ)). HasGiven old.back (fed ++ got) (ms ++ m ∷ []) (drop used r.kept)) (append-nil given) next;
}

-- the end was given, or was not
pub passes-closed : (got : List ℕ) (old r : Reader) (over : Bool) → Passes got [] old r → Passes got [] old (record r { over = over })
passes-closed got old r over p = record { count = p.count; most = p.most; back = p.back; given = p.given }

pub advances-refl : (left : Option (List ℕ)) (r : Reader) → Advances left left r r []
advances-refl left r = ([], Consumes-nil left, passes-refl r)

pub advances-fed : (before mid after : Option (List ℕ)) (old r t : Reader) (n : ℕ) → Advances before mid old r []
    → take (length r.kept) t.kept ≡ r.kept → length t.kept ≡ length r.kept + n → t.taken ≡ r.taken + n → t.back ≡ r.back
    → t.most ≡ r.most → Consumes mid after (drop (length r.kept) t.kept) → Advances before after old t []
advances-fed before mid after old r t n (got, consumed, passed) front long taken back most next = (
  got ++ drop (length r.kept) t.kept,
  Consumes-trans before mid after got (drop (length r.kept) t.kept) consumed next,
  passes-fed got old r t n front long taken back most passed,
)

-- ---- what was found

-- a part that was found, and what is left of the reader
pub gives-found : (before mid : Option (List ℕ)) (old r f t : Reader) (x : First) (p : Part) → first r.back r.kept ≡ x
    → Some p ≡ found_in x → f ≡ record r { kept = left r.kept x } → t ≡ record f { over = is_end p } → Advances before mid old r []
    → IsWithin r → Gives before mid old t (Some p)
gives-found before mid old r f t (whole m used) p is found kept closed (got, consumed, passed) within =
    let which : part.Message m ≡ p = cc in
    let same : t ≡ record r { kept = drop used r.kept; over = false } =
    closed ∙ ap (λ (g : Reader). record g { over = is_end p }) kept
    ∙ ap (λ (q : Part). record r { kept = drop used r.kept; over = is_end q }) (sym which) in
    subst (λ (q : Part). Gives before mid old t (Some q)) which
    (subst (λ (s : Reader). Gives before mid old s (Some (part.Message m))) (sym same)
    ((got, consumed, passes-found got old r m used false is passed), within, refl))
gives-found before mid old r f t (bad e) p is found kept closed (got, consumed, passed) within =
    let which : part.Fault e ≡ p = cc in
    let same : t ≡ record r { over = true } =
    closed ∙ ap (λ (g : Reader). record g { over = is_end p }) kept
    ∙ ap (λ (q : Part). record r { over = is_end q }) (sym which) in
    subst (λ (q : Part). Gives before mid old t (Some q)) which
    (subst (λ (s : Reader). Gives before mid old s (Some (part.Fault e))) (sym same)
    ((got, consumed, passes-closed got old r true passed), within, refl, is))
gives-found before mid old r f t more p is found kept closed advances within = absurd cc

-- where nothing is found, nothing is changed
pub none-found : (r f : Reader) (x : First) → None ≡ found_in x → f ≡ record r { kept = left r.kept x } → (f ≡ r) × (x ≡ more)
none-found r f (whole m used) found kept = absurd cc
none-found r f (bad e) found kept = absurd cc
none-found r f more found kept = (kept, refl)

-- so it stands as it was read
pub still : (before mid : Option (List ℕ)) (old r f : Reader) (x : First) → first r.back r.kept ≡ x → None ≡ found_in x
    → f ≡ record r { kept = left r.kept x } → Advances before mid old r [] → IsWithin r
    → Advances before mid old f [] × IsWithin f × (first f.back f.kept ≡ more) × (f ≡ r)
still before mid old r f x is found kept advances within =
    let (same, none) = none-found r f x found kept in (
      subst (λ (s : Reader). Advances before mid old s []) (sym same) advances,
      subst (λ (s : Reader). IsWithin s) (sym same) within,
      ap (λ (s : Reader). first s.back s.kept) same ∙ is ∙ none,
      same,
    )

-- no octets
no_octets : (l : List ℕ) → length l ≡ 0 → l ≡ []
no_octets [] h = refl
no_octets (x ∷ l) h = absurd (omega (arith, h))

-- a read of no octets changes nothing of what is kept
pub kept-same : (r t : Reader) (n : ℕ) → take (length r.kept) t.kept ≡ r.kept → length t.kept ≡ length r.kept + n → n ≡ 0
    → t.kept ≡ r.kept
kept-same r t n front long none =
    let piece = drop (length r.kept) t.kept in
    let empty : piece ≡ [] = no_octets piece (omega (arith, length-drop (length r.kept) t.kept, long, none)) in
    sym (take-append-drop (length r.kept) t.kept) ∙ ap (λ (l : List ℕ). l ++ piece) front
    ∙ ap (λ (l : List ℕ). r.kept ++ l) empty ∙ append-nil r.kept

-- then the same stands first
pub same-first : (r t : Reader) → t.back ≡ r.back → t.kept ≡ r.kept → first t.back t.kept ≡ first r.back r.kept
same-first r t back kept = ap (λ (k : Back). first k t.kept) back ∙ ap (first r.back) kept

-- the end of a stream
pub gives-last : (before after : Option (List ℕ)) (old t u : Reader) (o : Option Part) → Advances before after old t [] → IsWithin t
    → first t.back t.kept ≡ more → IsAtEnd after → (o ≡ None → (t.kept ≡ []) × (u ≡ t))
    → IfSome o (λ p. (p ≡ part.Cut) × (t.kept ≢ []) × (u ≡ record t { over = true })) → Gives before after old u o
gives-last before after old t u None advances within none end empty some =
    let (nothing, same) = empty refl in
    subst (λ (s : Reader). Gives before after old s None) (sym same) (advances, within, nothing, end)
gives-last before after old t u (Some p) (got, consumed, passed) within none end empty (which, more_kept, same) =
    subst (λ (q : Part). Gives before after old u (Some q)) (sym which)
    (subst (λ (s : Reader). Gives before after old s (Some part.Cut)) (sym same)
    ((got, consumed, passes-closed got old t true passed), within, refl, none, more_kept, end))

-- a read that failed, or of which more came than there is room or memory for
pub stops-so : (before mid after : Option (List ℕ)) (old f t : Reader) (e : LineErr)
    → (e ≡ errors.Failed → (t ≡ f) × Keeps mid after)
    → (e ≡ errors.NoMemory → (got : List ℕ) × Consumes mid after got × (f.taken + length got ≤ f.most))
    → (e ≡ errors.TooMuch → (got : List ℕ) × Consumes mid after got × (f.most < f.taken + length got)) → Advances before mid old f []
    → IsWithin f → first f.back f.kept ≡ more → Stops before after old t e
stops-so before mid after old f t errors.Failed failed few much (got, consumed, passed) within none =
    let (same, keeps) = failed refl in
    subst (λ (s : Reader). Stops before after old s errors.Failed) (sym same)
    ((got, Consumes-kept before mid after got consumed keeps, passed), within, none)
stops-so before mid after old f t errors.TooMuch failed few much (got, consumed, passed) within none =
    let (more_got, taken, over) = much refl in (
      got ++ more_got,
      Consumes-trans before mid after got more_got consumed taken,
      omega (arith, passed.count, passed.most, over, length-append got more_got),
    )
stops-so before mid after old f t errors.NoMemory failed few much (got, consumed, passed) within none =
    let (more_got, taken, room) = few refl in (
      got ++ more_got,
      Consumes-trans before mid after got more_got consumed taken,
      omega (arith, passed.count, passed.most, room, length-append got more_got),
    )

-- more was taken than may be
pub stops-over : (before after : Option (List ℕ)) (old t : Reader) → Advances before after old t [] → t.most < t.taken
    → Stops before after old t errors.TooMuch
stops-over before after old t (got, consumed, passed) over = (got, consumed, omega (arith, passed.count, passed.most, over))

-- no memory to find what stands at the front
pub stops-unfound : (before after : Option (List ℕ)) (old r t : Reader) → t ≡ r → Advances before after old r [] → IsWithin r
    → Stops before after old t errors.NoMemory
stops-unfound before after old r t same (got, consumed, passed) within = (got, consumed, omega (arith, passed.count, passed.most, within))

-- ---- the measure

-- what the end that is to come counts
abbrev counted : Bool → ℕ
counted b = if b then 0 else 1

flag : (b : Bool) → b ≡ false → counted b ≡ 1
flag true h = absurd (cc h)
flag false h = refl

same_flag : (a b : Bool) → a ≡ b → counted a ≡ counted b
same_flag a b h = ap counted h

pub falls-found : (old r f t : Reader) (x : First) (p : Part) → first r.back r.kept ≡ x → Some p ≡ found_in x
    → f ≡ record r { kept = left r.kept x } → t ≡ record f { over = is_end p } → r.over ≡ false → work r ≤ work old
    → work t < work old
falls-found old r f t (whole m used) p is found kept closed going fewer =
    let which : part.Message m ≡ p = cc in
    let same : t ≡ record r { kept = drop used r.kept; over = false } =
    closed ∙ ap (λ (g : Reader). record g { over = is_end p }) kept
    ∙ ap (λ (q : Part). record r { kept = drop used r.kept; over = is_end q }) (sym which) in
    let fits = first_fits r.back r.kept m used is in
    subst (λ (s : Reader). work s < work old) (sym same)
    (omega (arith, flag r.over going, fewer, length-drop used r.kept, fits.some, fits.within))
falls-found old r f t (bad e) p is found kept closed going fewer =
    let which : part.Fault e ≡ p = cc in
    let same : t ≡ record r { over = true } =
    closed ∙ ap (λ (g : Reader). record g { over = is_end p }) kept
    ∙ ap (λ (q : Part). record r { over = is_end q }) (sym which) in
    subst (λ (s : Reader). work s < work old) (sym same) (omega (arith, flag r.over going, fewer))
falls-found old r f t more p is found kept closed going fewer = absurd cc

-- a read does not raise it
pub fewer-fed : (old r t : Reader) (n : ℕ) → length t.kept ≡ length r.kept + n → t.taken ≡ r.taken + n → t.most ≡ r.most
    → t.over ≡ r.over → t.taken ≤ t.most + 1 → work r ≤ work old → work t ≤ work old
fewer-fed old r t n long taken most over bound fewer =
    omega (arith, long, taken, most, same_flag t.over r.over over, bound, fewer)

-- the end of a stream is given once
pub falls-last : (old t u : Reader) (o : Option Part) → work t ≤ work old → t.over ≡ false
    → IfSome o (λ p. (p ≡ part.Cut) × (t.kept ≢ []) × (u ≡ record t { over = true })) → IfSome o (λ p. work u < work old)
falls-last old t u None fewer going some = tt
falls-last old t u (Some p) fewer going (which, more_kept, same) =
    subst (λ (s : Reader). work s < work old) (sym same) (omega (arith, flag t.over going, fewer))
