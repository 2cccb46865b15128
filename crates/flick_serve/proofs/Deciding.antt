-- What a file gives is determined, and is something, by induction on its lines.
use Rattle.std.proofs.Common.{◌≡◌, ◌⊎◌, inl, inr, ℕ, ◌+◌, List, [], ◌∷◌, length, replicate, Result, Ok, Err, Option, Some, None, set, refl, sym, ap, ◌∙◌, subst}
use Rattle.kit_base.specs.Lines.{chomp}
use Rattle.mint.specs.Values.{Val}
use Rattle.pres.specs.Bindings.{Binding}
use Rattle.flick_serve.specs.Given.{IsGiven, Given, given_at, Adds, Give, lines_of}
use Rattle.flick_serve.specs.Laws.{IsGivenOnce, IsGivenSomehow}
use Rattle.flick_serve.proofs.Finding.{AreOne, one_given, IsThere, IsNowhere, given_or_none}
use Rattle.flick_serve.proofs.Taking.{IsWrong, is_full, none_adds, second_adds}

-- ---- once

one_more : (b : Binding) (g : Given) (line : List ℕ) (x y : Given) → Adds b g line x → Adds b g line y → x ≡ y
one_more b g [] x y h k = h ∙ sym k
one_more b g (o ∷ os) x y (n, v, given, fresh, is) (m, w, given', fresh', is') =
    let one : AreOne n v m w = one_given b (o ∷ os) n m v w given given' in
    is ∙ ap (λ k. set g k (Some v)) one.0 ∙ ap (λ (u : Val). set g m (Some u)) one.1 ∙ sym is'

give_once : (b : Binding) (k : ℕ) (g : Given) (ls : List (List ℕ)) (x y : Result Given ℕ) → Give b k g ls x → Give b k g ls y → x ≡ y
give_once b k g [] x y h i = h ∙ sym i
give_once b k g (l ∷ ls) x y (inl (more, adds, rest)) (inl (other, adds', rest')) =
    let same : other ≡ more = one_more b g (chomp l) other more adds' adds in
    give_once b (k + 1) more ls x y rest (subst (λ (h : Given). Give b (k + 1) h ls y) same rest')
give_once b k g (l ∷ ls) x y (inl (more, adds, rest)) (inr (wrong, is)) = absurd (wrong more adds)
give_once b k g (l ∷ ls) x y (inr (wrong, is)) (inl (more, adds, rest)) = absurd (wrong more adds)
give_once b k g (l ∷ ls) x y (inr (wrong, is)) (inr (wrong', is')) = is ∙ sym is'

pub given_once : IsGivenOnce
given_once b text x y h k = give_once b 1 (replicate (length b.ops) None) (lines_of text) x y h k

-- ---- somehow

-- a line adds something, or it is wrong
abbrev pub IsTaken : Binding → Given → List ℕ → Type 0
IsTaken b g line = (more : Given) × Adds b g line more

not_none : (x : Option Val) (w : Val) → x ≡ Some w → x ≡ None → ⊥
not_none x w is none = cc (is, none)

by_place : (b : Binding) (g : Given) (o : ℕ) (os : List ℕ) (op : ℕ) (v : Val) → IsGiven b (o ∷ os) op v
    → (w : Option Val) → given_at g op ≡ w → IsTaken b g (o ∷ os) ⊎ IsWrong b g (o ∷ os)
by_place b g o os op v given None is = inl (set g op (Some v), (op, v, given, is, refl))
by_place b g o os op v given (Some w) is =
    inr (second_adds b g (o ∷ os) op v (is_full o os) given (not_none (given_at g op) w is))

by_reply : (b : Binding) (g : Given) (o : ℕ) (os : List ℕ) → IsThere (IsGiven b (o ∷ os)) ⊎ IsNowhere (IsGiven b (o ∷ os))
    → IsTaken b g (o ∷ os) ⊎ IsWrong b g (o ∷ os)
by_reply b g o os (inl (op, v, given)) = by_place b g o os op v given (given_at g op) refl
by_reply b g o os (inr none) = inr (none_adds b g (o ∷ os) (is_full o os) none)

taken_or_wrong : (b : Binding) (g : Given) (line : List ℕ) → IsTaken b g line ⊎ IsWrong b g line
taken_or_wrong b g [] = inl (g, refl)
taken_or_wrong b g (o ∷ os) = by_reply b g o os (given_or_none b (o ∷ os))

-- what lines give, if the first one is taken or wrong
by_line : (b : Binding) (k : ℕ) (g : Given) (l : List ℕ) (ls : List (List ℕ))
    → ((more : Given) → (x : Result Given ℕ) × Give b (k + 1) more ls x) → IsTaken b g (chomp l) ⊎ IsWrong b g (chomp l)
    → (x : Result Given ℕ) × Give b k g (l ∷ ls) x
by_line b k g l ls rest (inl (more, adds)) = ((rest more).0, inl (more, adds, (rest more).1))
by_line b k g l ls rest (inr wrong) = (Err k, inr (wrong, refl))

give_somehow : (b : Binding) (ls : List (List ℕ)) (k : ℕ) (g : Given) → (x : Result Given ℕ) × Give b k g ls x
give_somehow b [] k g = (Ok g, refl)
give_somehow b (l ∷ ls) k g = by_line b k g l ls (give_somehow b ls (k + 1)) (taken_or_wrong b g (chomp l))

pub given_somehow : IsGivenSomehow
given_somehow b text = give_somehow b (lines_of text) 1 (replicate (length b.ops) None)
