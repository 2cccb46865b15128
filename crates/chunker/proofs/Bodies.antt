-- What one more operation makes of code of either direction: operations in turn, the bodies of a switch, and what is left behind it.
use Rattle.std.proofs.Common.{◌≡◌, ℕ, ◌≤◌, ℤ, List, [], ◌∷◌, ◌++◌, length, map, drop, take, Option, Some, None, option_map, sym, ap, ◌∙◌}
use Rattle.std.proofs.Math.ListN.{drop_of_length-le}
use Rattle.std.proofs.lemmas.List.{take_all, append-nil}
use Rattle.cast_stub.proofs.Trees.{Trees, GoesInto, shown, made, bodies_same}
use Rattle.chunker.specs.declared.phase.Phase.{Phase}

module _ (K : Trees) where
  open K use {Op, Tree, Bodies, stop, append, switch, Switch, seen, code, bodies, seen-Switch, code-none, code-more}
  open K use {stop-append, append-assoc, seen-append, code-append}

  -- an operation more
  pub pushed : (old new : List Op) (o : Op) (r : Tree) → new ≡ old ++ o ∷ []
      → append (code new) r ≡ append (code old) (seen o r)
  pushed old new o r e =
      ap (λ (l : List Op). append (code l) r) e
      ∙ ap (λ (b : Tree). append b r) (code-append old (o ∷ []))
      ∙ append-assoc (code old) (code (o ∷ [])) r
      ∙ ap (λ (b : Tree). append (code old) (append b r)) (code-more o [] ∙ ap (seen o) code-none)
      ∙ ap (append (code old)) (seen-append o stop r ∙ ap (seen o) (stop-append r))

  -- a run that has ended
  pub run_ended : (under f : Tree → Tree) (out items ops : List Op) (i : ℕ) → append (code out) (code []) ≡ under (code [])
      → under (code (drop i items)) ≡ f (code items) → length items ≤ i → items ≡ ops
      → code out ≡ f (code ops)
  run_ended under f out items ops i made inv le same =
      ap code (sym (append-nil out)) ∙ code-append out [] ∙ made
      ∙ ap (λ (l : List Op). under (code l)) (sym (drop_of_length-le items le)) ∙ inv ∙ ap (λ (l : List Op). f (code l)) same

  -- ---- bodies

  pub last_some : (f : Tree → Tree) (last other : Option (List Op)) (body x : List Op) → last ≡ Some body → other ≡ Some x
      → code x ≡ f (code body)
      → option_map code other ≡ option_map (λ (b : List Op). f (code b)) last
  last_some f last other body x e g h =
      ap (option_map code) g ∙ ap Some h ∙ sym (ap (option_map (λ (b : List Op). f (code b))) e)

  pub last_none : (f : Tree → Tree) (last other : Option (List Op)) → last ≡ None → other ≡ None
      → option_map code other ≡ option_map (λ (b : List Op). f (code b)) last
  last_none f last other e g = ap (option_map code) g ∙ sym (ap (option_map (λ (b : List Op). f (code b))) e)

  -- all bodies, and that of every other number
  pub all_bodies : (f : Tree → Tree) (g : Bodies → Bodies) → GoesInto K f g → (new items cases : List (ℤ × List Op))
      (other last : Option (List Op)) (i : ℕ) → map (shown K) new ≡ map (made K f) (take i items) → length items ≤ i → items ≡ cases
      → option_map code other ≡ option_map (λ (b : List Op). f (code b)) last
      → bodies new other ≡ g (bodies cases last)
  all_bodies f g goes new items cases other last i inv le same h =
      bodies_same K f g goes new cases other last (inv ∙ ap (map (made K f)) (take_all i items le ∙ same)) h

  -- a switch whose bodies and rest are made, where the operations before it are put
  pub switch_made : (put : Tree → Tree) (rest : Phase → Tree → Tree) (all : Tree → Tree) (g : Bodies → Bodies) (ends : Bodies → Phase)
      → ((p : List ℕ) (x : Bodies) (r : Tree) → all (switch p x r) ≡ put (switch p (g x) (rest (ends x) r)))
      → (o s : Op) (p q : List ℕ) (cases new : List (ℤ × List Op)) (last other : Option (List Op)) (end : Phase)
      → o ≡ Switch p cases last → s ≡ Switch q new other → q ≡ p → end ≡ ends (bodies cases last)
      → bodies new other ≡ g (bodies cases last) → (r : Tree)
      → put (seen s (rest end r)) ≡ all (seen o r)
  switch_made put rest all g ends goes o s p q cases new last other end is is' same far b r =
      ap (λ (x : Tree → Tree). put (x (rest end r))) (ap seen is' ∙ seen-Switch q new other)
      ∙ ap (λ (x : List ℕ). put (switch x (bodies new other) (rest end r))) same
      ∙ ap (λ (x : Bodies). put (switch p x (rest end r))) b
      ∙ ap (λ (x : Phase). put (switch p (g (bodies cases last)) (rest x r))) far
      ∙ sym (ap (λ (x : Tree → Tree). all (x r)) (ap seen is ∙ seen-Switch p cases last) ∙ goes p (bodies cases last) r)

  -- what is left behind a switch
  pub switch_left : (leave : Phase → Tree → Phase) (behind : Phase → Bodies → Phase)
      → ((ph : Phase) (p : List ℕ) (x : Bodies) (r : Tree) → leave ph (switch p x r) ≡ leave (behind ph x) r)
      → (o : Op) (p : List ℕ) (cases : List (ℤ × List Op)) (last : Option (List Op)) (ph end : Phase) (r : Tree)
      → o ≡ Switch p cases last → end ≡ behind ph (bodies cases last)
      → leave ph (seen o r) ≡ leave end r
  switch_left leave behind into o p cases last ph end r is e =
      ap (λ (x : Tree → Tree). leave ph (x r)) (ap seen is ∙ seen-Switch p cases last)
      ∙ into ph p (bodies cases last) r ∙ ap (λ (x : Phase). leave x r) (sym e)
