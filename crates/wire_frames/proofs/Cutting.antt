-- A stream is cut from its front on, whatever follows: by induction on how many messages are cut off.
use Rattle.std.proofs.Common.{◌≡◌, ℕ, zero, suc, ◌≤◌, List, [], ◌∷◌, ◌++◌, length, drop, refl, sym, ap, ◌∙◌, append_assoc, append-nil, subst, arith}
use Rattle.std.proofs.lemmas.List.{drop-append-le, drop_at, length-drop}
use Rattle.std.specs.Prelude.{Some, None}
use Rattle.wire_def.specs.declared.encoding.Back.{Back}
use Rattle.wire_def.specs.declared.encoding.Back.TheVariants.{Xdr, CdrBig, CdrLittle, Mach}
use Rattle.wire_frames.specs.declared.frames.FrameErr.{FrameErr}
use Rattle.wire_frames.specs.First.{First, whole, bad, more, first, first_giop, first_mach}
use Rattle.wire_frames.specs.Cut.{Cut, HasGiven, before, cut, cut_by, cut_within, uncut}
use Rattle.wire_frames.specs.Laws.{CutsGoOn, FaultsStay, FirstStays, FramesAreCut, PiecesAreCut}
use Rattle.wire_frames.proofs.Found.{first_fits}
use Rattle.wire_frames.proofs.Framing.{frames_are_found}
use Rattle.wire_frames.proofs.Staying.{IsSettled, first_stays}

no_giop : first_giop [] ≡ more
unfolding first_giop
no_giop = refl

no_mach : first_mach [] ≡ more
unfolding first_mach
no_mach = refl

nothing_first : (back : Back) → first back [] ≡ more
nothing_first Xdr = refl
nothing_first CdrBig = no_giop
nothing_first CdrLittle = no_giop
nothing_first Mach = no_mach

-- what is behind a first message is shorter than the stream
shorter : (back : Back) (s m : List ℕ) (n k : ℕ) → first back s ≡ whole m n → length s ≤ suc k → length (drop n s) ≤ k
shorter back s m n k e h =
    let f = first_fits back s m n e in
    omega (arith, f.some, f.within, h, length-drop n s)

no_octets : (s : List ℕ) → length s ≤ 0 → s ≡ []
no_octets [] h = refl
no_octets (x ∷ s) h = absurd (omega (arith, h))

-- how many messages are cut off at the most does not matter, where there are no more
module _ (back : Back) where
  cut_nothing : (k : ℕ) (s : List ℕ) → s ≡ [] → cut_within k back s ≡ uncut s None
  cut_nothing zero s e = refl
  cut_nothing (suc k) s e =
      ap (cut_by (λ rest. cut_within k back rest) s) (ap (first back) e ∙ nothing_first back)

  abbrev Alike : ℕ → ℕ → List ℕ → Type 0
  Alike k j s = length s ≤ k → length s ≤ j → cut_within k back s ≡ cut_within j back s

  cut_alike : (k j : ℕ) (s : List ℕ) (x : First) → ((rest : List ℕ) → Alike k j rest) → first back s ≡ x
      → length s ≤ suc k → length s ≤ suc j
      → cut_by (λ rest. cut_within k back rest) s x ≡ cut_by (λ rest. cut_within j back rest) s x
  cut_alike k j s (whole m n) alike e h i =
      ap (before (m ∷ [])) (alike (drop n s) (shorter back s m n k e h) (shorter back s m n j e i))
  cut_alike k j s (bad f) alike e h i = refl
  cut_alike k j s more alike e h i = refl

  cut_enough : (k j : ℕ) (s : List ℕ) → Alike k j s
  cut_enough zero j s h i = sym (cut_nothing j s (no_octets s h))
  cut_enough (suc k) zero s h i = cut_nothing (suc k) s (no_octets s i)
  cut_enough (suc k) (suc j) s h i = cut_alike k j s (first back s) (cut_enough k j) refl h i

  -- a stream is cut by what stands first in it
  cut_first : (s : List ℕ) (x : First) → first back s ≡ x → cut back s ≡ cut_by (cut back) s x
  cut_first [] x e = ap (cut_by (cut back) []) (sym (nothing_first back) ∙ e)
  cut_first (y ∷ s) (whole m n) e =
      ap (cut_by (λ rest. cut_within (length s) back rest) (y ∷ s)) e
      ∙ ap (before (m ∷ [])) (cut_enough (length s) (length (drop n (y ∷ s))) (drop n (y ∷ s))
      (shorter back (y ∷ s) m n (length s) e (omega arith)) (omega arith))
  cut_first (y ∷ s) (bad f) e = ap (cut_by (λ rest. cut_within (length s) back rest) (y ∷ s)) e
  cut_first (y ∷ s) more e = ap (cut_by (λ rest. cut_within (length s) back rest) (y ∷ s)) e

  pub cut_whole : (s m : List ℕ) (n : ℕ) → first back s ≡ whole m n → cut back s ≡ before (m ∷ []) (cut back (drop n s))
  cut_whole s m n e = cut_first s (whole m n) e

  pub cut_bad : (s : List ℕ) (f : FrameErr) → first back s ≡ bad f → cut back s ≡ uncut s (Some f)
  cut_bad s f e = cut_first s (bad f) e

  pub cut_more : (s : List ℕ) → first back s ≡ more → cut back s ≡ uncut s None
  cut_more s e = cut_first s more e

  -- a message that stands first is cut off, whatever follows
  pub cut_whole_on : (s t m : List ℕ) (n : ℕ) → first back s ≡ whole m n
      → cut back (s ++ t) ≡ before (m ∷ []) (cut back (drop n s ++ t))
  cut_whole_on s t m n e =
      let stays : first back (s ++ t) ≡ whole m n = first_stays back s t (subst IsSettled (sym e) tt) ∙ e in
      cut_whole (s ++ t) m n stays
      ∙ ap (λ (x : List ℕ). before (m ∷ []) (cut back x)) (drop-append-le n s t (first_fits back s m n e).within)

  abbrev GoesOn : List ℕ → List ℕ → Type 0
  GoesOn s t = cut back (s ++ t) ≡ before (cut back s).messages (cut back ((cut back s).rest ++ t))

  goes_by : (k : ℕ) (s t : List ℕ) (x : First) → ((rest : List ℕ) → length rest ≤ k → GoesOn rest t) → first back s ≡ x
      → length s ≤ suc k → GoesOn s t
  goes_by k s t (whole m n) on e h =
      cut_whole_on s t m n e
      ∙ ap (before (m ∷ [])) (on (drop n s) (shorter back s m n k e h))
      ∙ sym (ap (λ (c : Cut). before c.messages (cut back (c.rest ++ t))) (cut_whole s m n e))
  goes_by k s t (bad f) on e h = sym (ap (λ (c : Cut). before c.messages (cut back (c.rest ++ t))) (cut_bad s f e))
  goes_by k s t more on e h = sym (ap (λ (c : Cut). before c.messages (cut back (c.rest ++ t))) (cut_more s e))

  goes_on : (k : ℕ) (t s : List ℕ) → length s ≤ k → GoesOn s t
  goes_on zero t s h =
      let e : cut back s ≡ uncut s None = cut_nothing (length s) s (no_octets s h) in
      sym (ap (λ (c : Cut). before c.messages (cut back (c.rest ++ t))) e)
  goes_on (suc k) t s h = goes_by k s t (first back s) (goes_on k t) refl h

  -- the rest of a stream that has a fault begins with it
  abbrev BeginsBad : FrameErr → List ℕ → Type 0
  BeginsBad f s = (cut back s).fault ≡ Some f → first back (cut back s).rest ≡ bad f

  begins_by : (k : ℕ) (f : FrameErr) (s : List ℕ) (x : First) → ((rest : List ℕ) → length rest ≤ k → BeginsBad f rest)
      → first back s ≡ x → length s ≤ suc k → BeginsBad f s
  begins_by k f s (whole m n) begins e h g =
      let is = cut_whole s m n e in
      let inner : (cut back (drop n s)).fault ≡ Some f = sym (ap (λ (c : Cut). c.fault) is) ∙ g in
      ap (λ (c : Cut). first back c.rest) is ∙ begins (drop n s) (shorter back s m n k e h) inner
  begins_by k f s (bad d) begins e h g =
      let is = cut_bad s d e in
      let same : Some d ≡ Some f = sym (ap (λ (c : Cut). c.fault) is) ∙ g in
      ap (λ (c : Cut). first back c.rest) is ∙ e ∙ ap bad cc
  begins_by k f s more begins e h g =
      let none : (cut back s).fault ≡ None = ap (λ (c : Cut). c.fault) (cut_more s e) in
      absurd cc

  begins_bad : (k : ℕ) (f : FrameErr) (s : List ℕ) → length s ≤ k → BeginsBad f s
  begins_bad zero f s h e =
      let none : (cut back s).fault ≡ None = ap (λ (c : Cut). c.fault) (cut_nothing (length s) s (no_octets s h)) in
      absurd cc
  begins_bad (suc k) f s h e = begins_by k f s (first back s) (begins_bad k f) refl h e

pub cuts_go_on : CutsGoOn
cuts_go_on back s t = goes_on back (length s) t s (omega arith)

pub first_message_stays : FirstStays
first_message_stays back m f rest more_octets framed few =
    let e : first back (f ++ rest) ≡ whole m (length f) = frames_are_found back m f rest framed few in
    cut_whole_on back (f ++ rest) more_octets m (length f) e
    ∙ ap (λ (x : List ℕ). before (m ∷ []) (cut back (x ++ more_octets))) (drop_at f rest (length f) refl)

pub faults_stay : FaultsStay
faults_stay back s t f e =
    let c = cut back s in
    let there : first back c.rest ≡ bad f = begins_bad back (length s) f s (omega arith) e in
    let stays : first back (c.rest ++ t) ≡ bad f = first_stays back c.rest t (subst IsSettled (sym there) tt) ∙ there in
    cuts_go_on back s t ∙ ap (before c.messages) (cut_bad back (c.rest ++ t) f stays)
    ∙ (λ i. record c { messages = append-nil c.messages i; rest = c.rest ++ t; fault = sym e i })

pub frames_are_cut : FramesAreCut
frames_are_cut back [] s e = cut_nothing back (length s) s e ∙ ap (λ (x : List ℕ). uncut x None) e
frames_are_cut back (m ∷ ms) s (f, rest, is, framed, few, others) =
    let found : first back s ≡ whole m (length f) = ap (first back) is ∙ frames_are_found back m f rest framed few in
    let behind : drop (length f) s ≡ rest = ap (drop (length f)) is ∙ drop_at f rest (length f) refl in
    cut_whole back s m (length f) found ∙ ap (λ (x : List ℕ). before (m ∷ []) (cut back x)) behind
    ∙ ap (before (m ∷ [])) (frames_are_cut back ms rest others)

-- ---- pieces

feeds : (back : Back) (fed kept piece : List ℕ) (given : List (List ℕ)) → HasGiven back fed given kept
    → HasGiven back (fed ++ piece) given (kept ++ piece)
feeds back fed kept piece given h rest =
    ap (cut back) (append_assoc fed piece rest) ∙ h (piece ++ rest)
    ∙ ap (λ (x : List ℕ). before given (cut back x)) (sym (append_assoc kept piece rest))

gives_next : (back : Back) (fed kept m : List ℕ) (given : List (List ℕ)) (used : ℕ) → HasGiven back fed given kept
    → first back kept ≡ whole m used → HasGiven back fed (given ++ m ∷ []) (drop used kept)
gives_next back fed kept m given used h e rest =
    let c = cut back (drop used kept ++ rest) in
    h rest ∙ ap (before given) (cut_whole_on back kept rest m used e)
    ∙ ap (λ (ms : List (List ℕ)). record c { messages = ms }) (sym (append_assoc given (m ∷ []) c.messages))

pub pieces_are_cut : PiecesAreCut
pieces_are_cut = record {
  none = λ back rest. refl;
  feed = feeds;
  next = gives_next;
  messages = λ back fed kept given h.
      ap (cut back) (sym (append-nil fed)) ∙ h [] ∙ ap (λ (x : List ℕ). before given (cut back x)) (append-nil kept);
}
