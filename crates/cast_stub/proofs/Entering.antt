-- The calls that are run: of blocks in turn, without ensures, and of code without calls, by induction on the code.
use Rattle.std.proofs.Common.{◌≡◌, ℕ, zero, suc, ℤ, pos, List, [], ◌∷◌, ◌++◌, Option, Some, None, refl, sym, ap, ◌∙◌, append_assoc, Bool, true, false, if◌then◌else◌}
use Rattle.std.specs.Ordering.{int_eq}
use Rattle.mint.specs.Values.{Val, void, num, row, group, items, arm, absent, present, Vals, no_more, val, arm_in}
use Rattle.cast_stub.specs.Block.{Block, stop, ensure, ensure_row, align, chunk, row_copy, row_swap, row_wide, each, switch, if_there, call, patch, Cases, no_default, default, case}
use Rattle.cast_stub.specs.Parts.{on_some, at, elements_in}
use Rattle.cast_stub.specs.CallFree.{CasesHaveNoCall}
use Rattle.cast_stub.specs.Entered.{Entries, of_some, of_each, of_present, entered, case_entered, entered_by}
use Rattle.cast_stub.specs.Kept.{unensured, cases_unensured}
use Rattle.cast_stub.specs.Laws.{CallsInTurn, EnsuresRunNoCall, NoCallRunsNone}

-- ---- one after the other

after : (x a b c : List ℕ) → a ≡ b ++ c → x ++ a ≡ (x ++ b) ++ c
after x a b c e = ap (λ (l : List ℕ). x ++ l) e ∙ sym (append_assoc x b c)

pub entered-append : CallsInTurn
entered-append e stop b v = refl
entered-append e (ensure n r) b v = entered-append e r b v
entered-append e (ensure_row p u x r) b v = entered-append e r b v
entered-append e (align a r) b v = entered-append e r b v
entered-append e (chunk s ps r) b v = entered-append e r b v
entered-append e (row_copy p r) b v = entered-append e r b v
entered-append e (row_swap p r) b v = entered-append e r b v
entered-append e (row_wide p o r) b v = entered-append e r b v
entered-append e (each p a r) b v = after (of_some (on_some (at p v) elements_in) (of_each (entered e a))) _ (entered e r v)
    (entered e b v) (entered-append e r b v)
entered-append e (switch p cs r) b v =
    after (of_some (on_some (at p v) arm_in) (λ a. case_entered e cs a.0 a.1)) _ (entered e r v) (entered e b v) (entered-append e r b v)
entered-append e (if_there p a r) b v = after (of_some (at p v) (of_present (entered e a))) _ (entered e r v) (entered e b v)
    (entered-append e r b v)
entered-append e (call k p r) b v = after (of_some (at p v) (λ w. k ∷ e k w)) _ (entered e r v) (entered e b v) (entered-append e r b v)
entered-append e (patch a s o r) b v = entered-append e r b v

-- ---- what is the same for each part

some_same : {A : Type 0} (x : Option A) (f g : A → List ℕ) → ((a : A) → f a ≡ g a) → of_some x f ≡ of_some x g
some_same None f g h = refl
some_same (Some a) f g h = h a

each_same : (f g : Val → List ℕ) → ((w : Val) → f w ≡ g w) → (vs : Vals) → of_each f vs ≡ of_each g vs
each_same f g h no_more = refl
each_same f g h (val v vs) = rw (h v, each_same f g h vs) refl

present_same : (f g : Val → List ℕ) → ((w : Val) → f w ≡ g w) → (v : Val) → of_present f v ≡ of_present g v
present_same f g h (present v) = h v
present_same f g h _ = refl

pub if_same : (q : Bool) (a b c d : List ℕ) → a ≡ b → c ≡ d → (if q then a else c) ≡ (if q then b else d)
if_same true a b c d h k = h
if_same false a b c d h k = k

both_same : (a b c d : List ℕ) → a ≡ b → c ≡ d → a ++ c ≡ b ++ d
both_same a b c d h k = ap (λ (l : List ℕ). l ++ c) h ∙ ap (λ (l : List ℕ). b ++ l) k

mutual
  pub entered-unensured : EnsuresRunNoCall
  entered-unensured e stop v = refl
  entered-unensured e (ensure n r) v = entered-unensured e r v
  entered-unensured e (ensure_row p u x r) v = entered-unensured e r v
  entered-unensured e (align a r) v = entered-unensured e r v
  entered-unensured e (chunk s ps r) v = entered-unensured e r v
  entered-unensured e (row_copy p r) v = entered-unensured e r v
  entered-unensured e (row_swap p r) v = entered-unensured e r v
  entered-unensured e (row_wide p o r) v = entered-unensured e r v
  entered-unensured e (each p b r) v =
      both_same (of_some (on_some (at p v) elements_in) (of_each (entered e (unensured b))))
      (of_some (on_some (at p v) elements_in) (of_each (entered e b))) (entered e (unensured r) v) (entered e r v)
      (some_same (on_some (at p v) elements_in) (of_each (entered e (unensured b))) (of_each (entered e b))
      (each_same (entered e (unensured b)) (entered e b) (λ w. entered-unensured e b w)))
      (entered-unensured e r v)
  entered-unensured e (switch p cs r) v =
      both_same
      (of_some (on_some (at p v) arm_in)
      (λ a. case_entered e (cases_unensured cs) a.0 a.1)) (of_some (on_some (at p v) arm_in) (λ a.
      case_entered e cs a.0 a.1)) (entered e (unensured r) v) (entered e r v)
      (some_same (on_some (at p v) arm_in)
      (λ a. case_entered e (cases_unensured cs) a.0 a.1) (λ a. case_entered e cs a.0 a.1) (λ a. cases-unensured e cs a.0 a.1))
      (entered-unensured e r v)
  entered-unensured e (if_there p b r) v =
      both_same (of_some (at p v) (of_present (entered e (unensured b)))) (of_some (at p v) (of_present (entered e b)))
      (entered e (unensured r) v) (entered e r v)
      (some_same (at p v) (of_present (entered e (unensured b))) (of_present (entered e b))
      (present_same (entered e (unensured b)) (entered e b) (λ w. entered-unensured e b w)))
      (entered-unensured e r v)
  entered-unensured e (call k p r) v = ap (λ (l : List ℕ). of_some (at p v) (λ w. k ∷ e k w) ++ l) (entered-unensured e r v)
  entered-unensured e (patch a s o r) v = entered-unensured e r v

  cases-unensured : (e : Entries) (cs : Cases) (n : ℤ) (w : Val) → case_entered e (cases_unensured cs) n w ≡ case_entered e cs n w
  cases-unensured e no_default n w = refl
  cases-unensured e (default b) n w = entered-unensured e b w
  cases-unensured e (case m b cs) n w =
      if_same (int_eq n m) (entered e (unensured b) w) (entered e b w) (case_entered e (cases_unensured cs) n w) (case_entered e cs n w)
      (entered-unensured e b w) (cases-unensured e cs n w)

-- ---- code without calls

some_none : {A : Type 0} (x : Option A) (f : A → List ℕ) → ((a : A) → f a ≡ []) → of_some x f ≡ []
some_none None f h = refl
some_none (Some a) f h = h a

each_none : (f : Val → List ℕ) → ((w : Val) → f w ≡ []) → (vs : Vals) → of_each f vs ≡ []
each_none f h no_more = refl
each_none f h (val v vs) = rw (h v, each_none f h vs) refl

present_none : (f : Val → List ℕ) → ((w : Val) → f w ≡ []) → (v : Val) → of_present f v ≡ []
present_none f h v = present_same f (λ w. []) h v ∙ none v where
  none : (v : Val) → of_present (λ w. []) v ≡ []
  none (present v) = refl
  none void = refl
  none (num n) = refl
  none (row k ns) = refl
  none (group vs) = refl
  none (items vs) = refl
  none (arm n v) = refl
  none absent = refl

if_none : (q : Bool) (a c : List ℕ) → a ≡ [] → c ≡ [] → (if q then a else c) ≡ []
if_none true a c h k = h
if_none false a c h k = k

mutual
  pub entered-none : NoCallRunsNone
  entered-none e stop v h = refl
  entered-none e (ensure n r) v h = entered-none e r v h
  entered-none e (ensure_row p u x r) v h = entered-none e r v h
  entered-none e (align a r) v h = entered-none e r v h
  entered-none e (chunk s ps r) v h = entered-none e r v h
  entered-none e (row_copy p r) v h = entered-none e r v h
  entered-none e (row_swap p r) v h = entered-none e r v h
  entered-none e (row_wide p o r) v h = entered-none e r v h
  entered-none e (each p b r) v h =
      both_same (of_some (on_some (at p v) elements_in) (of_each (entered e b))) [] (entered e r v) []
      (some_none (on_some (at p v) elements_in) (of_each (entered e b))
      (each_none (entered e b) (λ w. entered-none e b w h.0))) (entered-none e r v h.1)
  entered-none e (switch p cs r) v h =
      both_same (of_some (on_some (at p v) arm_in) (λ a. case_entered e cs a.0 a.1)) [] (entered e r v) []
      (some_none (on_some (at p v) arm_in) (λ a. case_entered e cs a.0 a.1) (λ a. case-none e cs a.0 a.1 h.0)) (entered-none e r v h.1)
  entered-none e (if_there p b r) v h =
      both_same (of_some (at p v) (of_present (entered e b))) [] (entered e r v) []
      (some_none (at p v) (of_present (entered e b)) (present_none (entered e b) (λ w. entered-none e b w h.0))) (entered-none e r v h.1)
  entered-none e (call k p r) v h = absurd h
  entered-none e (patch a s o r) v h = entered-none e r v h

  case-none : (e : Entries) (cs : Cases) (n : ℤ) (w : Val) → CasesHaveNoCall cs → case_entered e cs n w ≡ []
  case-none e no_default n w h = refl
  case-none e (default b) n w h = entered-none e b w h
  case-none e (case m b cs) n w h =
      if_none (int_eq n m) (entered e b w) (case_entered e cs n w) (entered-none e b w h.0) (case-none e cs n w h.1)

-- ---- worked by hand

-- the second code calls the first for each element, and then the first once more
abbrev two_codes : ℕ → Option Block
two_codes zero = Some stop
two_codes (suc zero) = Some (each [] (call 0 [] stop) (call 0 [] stop))
two_codes _ = None

-- on two elements
a_run : entered (entered_by two_codes 2) (call 1 [] stop) (items (val (num (pos 5)) (val (num (pos 6)) no_more))) ≡ 1 ∷ 0 ∷ 0 ∷ 0 ∷ []
a_run = refl

-- a code that is not there, and a part that is not there
no_run : entered (entered_by two_codes 2) (call 7 [] (call 0 (4 ∷ []) stop)) (num (pos 5)) ≡ 7 ∷ []
no_run = refl
