-- Calls for fields and for arms, in code of either direction, by induction on the fields and the cases.
use Rattle.std.proofs.Common.{◌≡◌, ℕ, ℤ, suc, ◌+◌, ◌<◌, ◌≤◌, List, [], ◌∷◌, ◌++◌, length, get_or, map, Option, refl, sym, ap, ◌∙◌, subst, arith}
use Rattle.std.proofs.Math.ListN.{take}
use Rattle.std.proofs.lemmas.List.{take_all, take_more, length-take-le}
use Rattle.std.specs.Prelude.{Result, Ok, Err, OnOk}
use Rattle.kit_base.specs.declared.errors.NoMemory.{NoMemory}
use Rattle.cast_stub.proofs.Trees.{Trees, shown, switch_made}
use Rattle.stub_lower.specs.Calls.{calls_of, cases_of}

module _ (K : Trees) where
  open K use {Op, Tree, Bodies, stop, append, switch, call, case, Switch, Call, seen, code, bodies, seen-Call, bodies-more}
  open K use {stop-append, append-assoc, seen-append}

  -- ---- a call for each field

  call-append : (k : ℕ) (p : List ℕ) (a b : Tree) → append (call k p a) b ≡ call k p (append a b)
  call-append k p a b = subst (λ (x : Tree → Tree). append (x a) b ≡ x (append a b)) (seen-Call k p) (seen-append (Call k p) a b)

  calls-more : (j : ℕ) (is : List ℕ) (x k : ℕ) → j + length is ≡ k
      → calls_of call stop j (is ++ x ∷ []) ≡ append (calls_of call stop j is) (call x (k ∷ []) stop)
  calls-more j [] x k e =
      let same : j ≡ k = omega arith in
      ap (λ (n : ℕ). call x (n ∷ []) stop) same ∙ sym (stop-append (call x (k ∷ []) stop))
  calls-more j (i ∷ is) x k e =
      ap (call i (j ∷ [])) (calls-more (suc j) is x k (omega arith))
      ∙ sym (call-append i (j ∷ []) (calls_of call stop (suc j) is) (call x (k ∷ []) stop))

  pub calls_turn : (is : List ℕ) (i n : ℕ) (path : List ℕ) (old mid new : Tree) → i < length is → n ≡ i → path ≡ n ∷ []
      → mid ≡ append old (calls_of call stop 0 (take i is)) → new ≡ append mid (seen (Call (get_or is i 0) path) stop)
      → new ≡ append old (calls_of call stop 0 (take (i + 1) is))
  calls_turn is i n path old mid new lt same one m e =
      let x = get_or is i 0 in
      let long : 0 + length (take i is) ≡ i = omega (arith, length-take-le i is (omega arith)) in
      let more : take (i + 1) is ≡ take i is ++ x ∷ [] = take_more is i 0 lt in
      let piece : seen (Call x path) stop ≡ call x (i ∷ []) stop =
      ap (λ (p : Tree → Tree). p stop) (seen-Call x path)
      ∙ ap (λ (q : List ℕ). call x q stop) (one ∙ ap (λ (k : ℕ). k ∷ []) same) in
      e ∙ ap (append mid) piece ∙ ap (λ (b : Tree). append b (call x (i ∷ []) stop)) m
      ∙ append-assoc old (calls_of call stop 0 (take i is)) (call x (i ∷ []) stop)
      ∙ ap (append old) (sym (ap (calls_of call stop 0) more ∙ calls-more 0 (take i is) x i long))

  -- ---- a case for each arm

  -- a call on the current value
  abbrev pub here : ℕ → Tree
  here i = call i [] stop

  -- an arm's number and its call
  abbrev pub arm_shown : ℤ × ℕ → ℤ × Tree
  arm_shown a = (a.0, here a.1)

  -- bodies that are the calls of arms
  abbrev pub AreCalls : List (ℤ × List Op) → List (ℤ × ℕ) → Type 0
  AreCalls cases arms = map (shown K) cases ≡ map arm_shown arms

  -- cases of numbers and blocks
  abbrev cases_on : List (ℤ × Tree) → Bodies → Bodies
  cases_on [] d = d
  cases_on (c ∷ cs) d = case c.0 c.1 (cases_on cs d)

  seen_cases : (cases : List (ℤ × List Op)) (last : Option (List Op))
      → bodies cases last ≡ cases_on (map (shown K) cases) (bodies [] last)
  seen_cases [] last = refl
  seen_cases (c ∷ cases) last = bodies-more c cases last ∙ ap (case c.0 (code c.1)) (seen_cases cases last)

  arm_cases : (arms : List (ℤ × ℕ)) (d : Bodies) → cases_of case here d arms ≡ cases_on (map arm_shown arms) d
  arm_cases [] d = refl
  arm_cases (a ∷ arms) d = ap (case a.0 (here a.1)) (arm_cases arms d)

  -- the switch over such bodies, and with a last one
  cases_made : (cases : List (ℤ × List Op)) (arms : List (ℤ × ℕ)) (last : Option (List Op)) (d : Bodies) → AreCalls cases arms
      → bodies [] last ≡ d
      → bodies cases last ≡ cases_of case here d arms
  cases_made cases arms last d h e = seen_cases cases last ∙ ap (λ (l : List (ℤ × Tree)). cases_on l (bodies [] last)) h
      ∙ ap (cases_on (map arm_shown arms)) e ∙ sym (arm_cases arms d)

  -- a switch that is put after a code
  pub switch_put : (r : Result (Unit {0}) NoMemory) (arms items : List (ℤ × ℕ)) (i : ℕ) (path : List ℕ) (cases : List (ℤ × List Op))
      (last : Option (List Op)) (o : Op) (d : Bodies) (old new : Tree) → items ≡ arms → length items ≤ i → path ≡ []
      → AreCalls cases (take i items) → bodies [] last ≡ d → o ≡ Switch path cases last → OnOk r (new ≡ append old (seen o stop))
      → OnOk r (new ≡ append old (switch [] (cases_of case here d arms) stop))
  switch_put (Err e) arms items i path cases last o d old new same far here_is calls last_is made is = tt
  switch_put (Ok u) arms items i path cases last o d old new same far here_is calls last_is made is =
      let whole : take i items ≡ arms = take_all i items far ∙ same in
      is ∙ ap (λ (x : Op). append old (seen x stop)) made
      ∙ ap (append old) (switch_made K [] path cases last (cases_of case here d arms) here_is
      (cases_made cases arms last d (calls ∙ ap (map arm_shown) whole) last_is))
