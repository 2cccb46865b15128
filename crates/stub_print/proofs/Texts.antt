-- The text of code of either direction: what it is made of, and how an operation with bodies is put.
use Rattle.std.proofs.Common.{◌≡◌, ℕ, suc, ◌≤◌, Result, OnOk, ℤ, List, [], ◌∷◌, ◌++◌, length, drop, Option, None, Some, sym, ap, ◌∙◌, codes}
use Rattle.std.proofs.Math.ListN.{drop_of_length-le}
use Rattle.std.proofs.lemmas.Result.{on_ok_weaker}
use Rattle.cast_stub.proofs.Trees.{Trees}
use Rattle.stub_print.specs.Putting.{IsPut}
use Rattle.stub_print.specs.Words.{numeral, integer, line, ended, path_word}

-- the lines of a block, of bodies, of puts or gets, and of the codes that calls name, each before what follows
pub record Texts (K : Trees) (P : Type 0) : Type 0 where
  pub text : K.Tree → List ℕ → List ℕ
  pub cases : K.Bodies → List ℕ → List ℕ
  pub words : P → List (List ℕ)
  pub parts : List P → List ℕ → List ℕ
  pub subs : ℕ → List K.Tree → List ℕ → List ℕ
  -- operations with bodies, and calls
  pub text-stop : (rest : List ℕ) → text K.stop rest ≡ rest
  pub text-each : (p : List ℕ) (a b : K.Tree) (rest : List ℕ)
      → text (K.each p a b) rest ≡ line (codes "each") (path_word p ∷ []) (text a (ended (text b rest)))
  pub text-there : (p : List ℕ) (a b : K.Tree) (rest : List ℕ)
      → text (K.if_there p a b) rest ≡ line (codes "some") (path_word p ∷ []) (text a (ended (text b rest)))
  pub text-switch : (p : List ℕ) (cs : K.Bodies) (b : K.Tree) (rest : List ℕ)
      → text (K.switch p cs b) rest ≡ line (codes "switch") (path_word p ∷ []) (cases cs (ended (text b rest)))
  -- bodies
  pub cases-none : (rest : List ℕ) → cases K.no_default rest ≡ rest
  pub cases-last : (b : K.Tree) (rest : List ℕ) → cases (K.default b) rest ≡ line (codes "default") [] (text b rest)
  pub cases-more : (n : ℤ) (b : K.Tree) (cs : K.Bodies) (rest : List ℕ)
      → cases (K.case n b cs) rest ≡ line (codes "case") (integer n ∷ []) (text b (cases cs rest))
  -- puts or gets, and codes
  pub parts-none : (rest : List ℕ) → parts [] rest ≡ rest
  pub parts-more : (x : P) (xs : List P) (rest : List ℕ) → parts (x ∷ xs) rest ≡ line (codes "at") (words x) (parts xs rest)
  pub subs-none : (k : ℕ) (rest : List ℕ) → subs k [] rest ≡ rest
  pub subs-more : (k : ℕ) (b : K.Tree) (bs : List K.Tree) (rest : List ℕ)
      → subs k (b ∷ bs) rest ≡ line (codes "sub") (numeral k ∷ []) (text b (ended (subs (suc k) bs rest)))

module _ (K : Trees) (P : Type 0) (T : Texts K P) where
  open K use {Op, Tree, Bodies, each, if_there, switch, Each, There, Switch, seen, code, bodies, seen-Each, seen-There, seen-Switch}
  open K use {bodies-none, bodies-last}
  open T use {text, cases, text-each, text-there, text-switch, cases-none, cases-last}

  -- the new octets are the old ones and then the text of an operation, whatever block follows it
  abbrev pub IsOpPut : List ℕ → (Tree → Tree) → List ℕ → Type 0
  IsOpPut old piece new = (b : Tree) (rest : List ℕ) → old ++ text (piece b) rest ≡ new ++ text b rest

  -- the text of an operation that is seen as a piece
  seen_text : (o : Op) (p : Tree → Tree) (old : List ℕ) (b : Tree) (rest : List ℕ) → seen o ≡ p
      → old ++ text (seen o b) rest ≡ old ++ text (p b) rest
  seen_text o p old b rest is = ap (λ (q : Tree → Tree). old ++ text (q b) rest) is

  -- an operation with one body, by the line that begins it
  body_put : {E : Type 0} (r : Result (Unit {0}) E) (o : Op) (piece : Tree → Tree) (word : List ℕ) (path : List ℕ) (ops : List Op)
      (old a b new : List ℕ) → seen o ≡ piece
      → ((x : Tree) (rest : List ℕ) → text (piece x) rest ≡ line word (path_word path ∷ []) (text (code ops) (ended (text x rest))))
      → IsPut old (line word (path_word path ∷ [])) a → IsPut a (text (code ops)) b → OnOk r (IsPut b ended new)
      → OnOk r (IsOpPut old (seen o) new)
  body_put r o piece word path ops old a b new is told first body last =
      on_ok_weaker r
      (λ end x rest. seen_text o piece old x rest is ∙ ap (λ (z : List ℕ). old ++ z) (told x rest) ∙ first _ ∙ body _
      ∙ end (text x rest)) last

  pub each_put : {E : Type 0} (r : Result (Unit {0}) E) (o : Op) (path : List ℕ) (ops : List Op) (old a b new : List ℕ) → o ≡ Each path ops
      → IsPut old (line (codes "each") (path_word path ∷ [])) a → IsPut a (text (code ops)) b → OnOk r (IsPut b ended new)
      → OnOk r (IsOpPut old (seen o) new)
  each_put r o path ops old a b new is =
      body_put r o (each path (code ops)) (codes "each") path ops old a b new (ap seen is ∙ seen-Each path ops) (text-each path (code ops))

  pub there_put : {E : Type 0} (r : Result (Unit {0}) E) (o : Op) (path : List ℕ) (ops : List Op) (old a b new : List ℕ)
      → o ≡ There path ops
      → IsPut old (line (codes "some") (path_word path ∷ [])) a → IsPut a (text (code ops)) b → OnOk r (IsPut b ended new)
      → OnOk r (IsOpPut old (seen o) new)
  there_put r o path ops old a b new is =
      body_put r o (if_there path (code ops)) (codes "some") path ops old a b new (ap seen is ∙ seen-There path ops)
      (text-there path (code ops))

  -- the bodies that are left where the loop over them ends
  left_text : (items cs : List (ℤ × List Op)) (other : Option (List Op)) (i : ℕ) (a b r : List ℕ) → items ≡ cs → length items ≤ i
      → a ++ cases (bodies items other) r ≡ b ++ cases (bodies (drop i items) other) r
      → a ++ cases (bodies cs other) r ≡ b ++ cases (bodies [] other) r
  left_text items cs other i a b r same long inv =
      ap (λ (z : List (ℤ × List Op)). a ++ cases (bodies z other) r) (sym same) ∙ inv
      ∙ ap (λ (z : List (ℤ × List Op)). b ++ cases (bodies z other) r) (drop_of_length-le items long)

  -- the line of a switch and all its bodies but the last
  cases_put : (o : Op) (path : List ℕ) (items cs : List (ℤ × List Op)) (other : Option (List Op)) (i : ℕ) (old a b : List ℕ) (x : Tree)
      (rest : List ℕ) → o ≡ Switch path cs other → IsPut old (line (codes "switch") (path_word path ∷ [])) a → items ≡ cs
      → length items ≤ i
      → ((r : List ℕ) → a ++ cases (bodies items other) r ≡ b ++ cases (bodies (drop i items) other) r)
      → old ++ text (seen o x) rest ≡ b ++ cases (bodies [] other) (ended (text x rest))
  cases_put o path items cs other i old a b x rest is first same long inv =
      seen_text o (switch path (bodies cs other)) old x rest (ap seen is ∙ seen-Switch path cs other)
      ∙ ap (λ (z : List ℕ). old ++ z) (text-switch path (bodies cs other) x rest) ∙ first _
      ∙ left_text items cs other i a b (ended (text x rest)) same long (inv _)

  pub switch_put : {E : Type 0} (r : Result (Unit {0}) E) (o : Op) (path : List ℕ) (items cs : List (ℤ × List Op))
      (other : Option (List Op)) (i : ℕ) (old a b new : List ℕ) → o ≡ Switch path cs other → other ≡ None
      → IsPut old (line (codes "switch") (path_word path ∷ [])) a → items ≡ cs → length items ≤ i
      → ((rest : List ℕ) → a ++ cases (bodies items other) rest ≡ b ++ cases (bodies (drop i items) other) rest)
      → OnOk r (IsPut b ended new) → OnOk r (IsOpPut old (seen o) new)
  switch_put r o path items cs other i old a b new is none first same long inv last =
      on_ok_weaker r
      (λ end x rest. cases_put o path items cs other i old a b x rest is first same long inv
      ∙ ap (λ (z : Option (List Op)). b ++ cases (bodies [] z) (ended (text x rest))) none
      ∙ ap (λ (z : Bodies). b ++ cases z (ended (text x rest))) bodies-none
      ∙ ap (λ (z : List ℕ). b ++ z) (cases-none (ended (text x rest))) ∙ end (text x rest)) last

  pub switch_default_put : {E : Type 0} (r : Result (Unit {0}) E) (o : Op) (path : List ℕ) (items cs : List (ℤ × List Op))
      (other : Option (List Op)) (ops : List Op) (i : ℕ) (old a b c d new : List ℕ) → o ≡ Switch path cs other → other ≡ Some ops
      → IsPut old (line (codes "switch") (path_word path ∷ [])) a → items ≡ cs → length items ≤ i
      → ((rest : List ℕ) → a ++ cases (bodies items other) rest ≡ b ++ cases (bodies (drop i items) other) rest)
      → IsPut b (line (codes "default") []) c → IsPut c (text (code ops)) d → OnOk r (IsPut d ended new)
      → OnOk r (IsOpPut old (seen o) new)
  switch_default_put r o path items cs other ops i old a b c d new is some first same long inv alone body last =
      on_ok_weaker r
      (λ end x rest. cases_put o path items cs other i old a b x rest is first same long inv
      ∙ ap (λ (z : Option (List Op)). b ++ cases (bodies [] z) (ended (text x rest))) some
      ∙ ap (λ (z : Bodies). b ++ cases z (ended (text x rest))) (bodies-last ops)
      ∙ ap (λ (z : List ℕ). b ++ z) (cases-last (code ops) (ended (text x rest))) ∙ alone _ ∙ body _ ∙ end (text x rest)) last
