-- What code that sends and code that receives have in common, by induction on the operations.
use Rattle.std.proofs.Common.{◌≡◌, ℕ, zero, suc, ◌+◌, ◌<◌, ℤ, List, [], ◌∷◌, ◌++◌, length, get_or, map, Option, None, Some, option_map, sym, ap, subst, ◌∙◌, arith}
use Rattle.std.proofs.Math.ListN.{take}
use Rattle.std.proofs.lemmas.List.{take_more, map-append}

-- two facts, each exactly where another holds
pub beside : {A B C D : Type 0} → (A → B) × (B → A) → (C → D) × (D → C) → (A × C → B × D) × (B × D → A × C)
beside x y = (λ h. (x.0 h.0, y.0 h.1), λ h. (x.1 h.0, y.1 h.1))

-- operations, what they are seen as, and the facts of them that lemmas for both directions go by
pub record Trees : Type 1 where
  -- operations, blocks, and bodies of a switch
  pub Op : Type 0
  pub Tree : Type 0
  pub Bodies : Type 0
  -- blocks
  pub stop : Tree
  pub append : Tree → Tree → Tree
  pub each : List ℕ → Tree → Tree → Tree
  pub if_there : List ℕ → Tree → Tree → Tree
  pub switch : List ℕ → Bodies → Tree → Tree
  pub call : ℕ → List ℕ → Tree → Tree
  -- bodies
  pub no_default : Bodies
  pub default : Tree → Bodies
  pub case : ℤ → Tree → Bodies → Bodies
  -- operations that name bodies or codes
  pub Each : List ℕ → List Op → Op
  pub There : List ℕ → List Op → Op
  pub Switch : List ℕ → List (ℤ × List Op) → Option (List Op) → Op
  pub Call : ℕ → List ℕ → Op
  -- an operation before a block; operations as a block, and as bodies
  pub seen : Op → Tree → Tree
  pub code : List Op → Tree
  pub bodies : List (ℤ × List Op) → Option (List Op) → Bodies
  -- how operations are seen
  pub seen-Each : (p : List ℕ) (ops : List Op) → seen (Each p ops) ≡ each p (code ops)
  pub seen-There : (p : List ℕ) (ops : List Op) → seen (There p ops) ≡ if_there p (code ops)
  pub seen-Switch : (p : List ℕ) (cases : List (ℤ × List Op)) (last : Option (List Op))
      → seen (Switch p cases last) ≡ switch p (bodies cases last)
  pub seen-Call : (k : ℕ) (p : List ℕ) → seen (Call k p) ≡ call k p
  pub code-none : code [] ≡ stop
  pub code-more : (o : Op) (ops : List Op) → code (o ∷ ops) ≡ seen o (code ops)
  pub bodies-none : bodies [] None ≡ no_default
  pub bodies-last : (b : List Op) → bodies [] (Some b) ≡ default (code b)
  pub bodies-more : (c : ℤ × List Op) (cases : List (ℤ × List Op)) (last : Option (List Op))
      → bodies (c ∷ cases) last ≡ case c.0 (code c.1) (bodies cases last)
  -- a block after a block
  pub stop-append : (a : Tree) → append stop a ≡ a
  pub append-assoc : (a b c : Tree) → append (append a b) c ≡ append a (append b c)
  pub seen-append : (o : Op) (a b : Tree) → append (seen o a) b ≡ seen o (append a b)
  pub code-append : (a b : List Op) → code (a ++ b) ≡ append (code a) (code b)

-- a function on blocks, and the same on the bodies of a switch
pub record GoesInto (K : Trees) (f : K.Tree → K.Tree) (g : K.Bodies → K.Bodies) : Type 0 where
  pub none : g K.no_default ≡ K.no_default
  pub last : (b : K.Tree) → g (K.default b) ≡ K.default (f b)
  pub more : (n : ℤ) (b : K.Tree) (cs : K.Bodies) → g (K.case n b cs) ≡ K.case n (f b) (g cs)

-- a fact of blocks, and the same of each of the bodies of a switch
pub record OfEach (K : Trees) (P : K.Tree → Type 0) (C : K.Bodies → Type 0) : Type 0 where
  pub none : C K.no_default
  pub into : (n : ℤ) (b : K.Tree) (cs : K.Bodies) → P b → C cs → C (K.case n b cs)
  pub first : (n : ℤ) (b : K.Tree) (cs : K.Bodies) → C (K.case n b cs) → P b
  pub rest : (n : ℤ) (b : K.Tree) (cs : K.Bodies) → C (K.case n b cs) → C cs

-- a number and what it names
abbrev pub pair : {A : Type 0} → ℤ → A → ℤ × A
pair n a = (n, a)

pub pair_is : {A : Type 0} (x : ℤ × A) (n : ℤ) (a : A) → x.0 ≡ n → x.1 ≡ a → x ≡ pair n a
pair_is x n a e f = ap (λ (m : ℤ). pair m x.1) e ∙ ap (pair n) f

module _ (K : Trees) where
  open K use {Op, Tree, Bodies, stop, append, each, if_there, switch, call, no_default, default, case, Each, There, Switch, Call}
  open K use {seen, code, bodies, seen-Each, seen-There, seen-Switch, seen-Call, code-none, code-more}
  open K use {bodies-none, bodies-last, bodies-more, stop-append, append-assoc, seen-append, code-append}

  -- ---- an operation of a code

  pub first-append : (o : Op) (ops : List Op) → code (o ∷ ops) ≡ append (seen o stop) (code ops)
  first-append o ops = code-more o ops ∙ ap (seen o) (sym (stop-append (code ops))) ∙ sym (seen-append o stop (code ops))

  -- a fact that a block has together with what follows it is one of each operation
  pub op_has : (W : Tree → Type 0) → ((a b : Tree) → W (append a b) → W a × W b) → (ops : List Op) (i : ℕ) (d : Op) → i < length ops
      → W (code ops)
      → W (seen (get_or ops i d) stop)
  op_has W both [] i d lt h = absurd (omega (arith, lt))
  op_has W both (o ∷ ops) zero d lt h = (both (seen o stop) (code ops) (subst W (first-append o ops) h)).0
  op_has W both (o ∷ ops) (suc i) d lt h =
      op_has W both ops i d (omega (arith, lt)) (both (seen o stop) (code ops) (subst W (first-append o ops) h)).1

  -- the step of a loop that puts what is made of each operation
  pub one_more : (f : Tree → Tree) → ((a b : Tree) → f (append a b) ≡ append (f a) (f b)) → (ops : List Op) (i : ℕ) (d : Op)
      (old mid new : Tree) → i < length ops → d ≡ get_or ops i d → mid ≡ append old (f (code (take i ops)))
      → new ≡ append mid (f (seen d stop))
      → new ≡ append old (f (code (take (i + 1) ops)))
  one_more f over ops i d old mid new lt same m n =
      let more : take (i + 1) ops ≡ take i ops ++ d ∷ [] = take_more ops i d lt ∙ ap (λ (x : Op). take i ops ++ x ∷ []) (sym same) in
      let one : code (d ∷ []) ≡ seen d stop = code-more d [] ∙ ap (seen d) code-none in
      let whole : f (code (take (i + 1) ops)) ≡ append (f (code (take i ops))) (f (seen d stop)) =
      ap (λ (l : List Op). f (code l)) more ∙ ap f (code-append (take i ops) (d ∷ []))
      ∙ over (code (take i ops)) (code (d ∷ [])) ∙ ap (λ (x : Tree). append (f (code (take i ops))) (f x)) one in
      n ∙ ap (λ (x : Tree). append x (f (seen d stop))) m
      ∙ append-assoc old (f (code (take i ops))) (f (seen d stop)) ∙ ap (append old) (sym whole)

  -- ---- an operation with a body: what is known of it, and what is made of it

  module _ (W : Tree → Type 0) (o : Op) (h : W (seen o stop)) where
    pub each_has : (p : List ℕ) (ops : List Op) → o ≡ Each p ops → W (each p (code ops) stop)
    each_has p ops e = subst (λ (x : Tree → Tree). W (x stop)) (ap seen e ∙ seen-Each p ops) h

    pub there_has : (p : List ℕ) (ops : List Op) → o ≡ There p ops → W (if_there p (code ops) stop)
    there_has p ops e = subst (λ (x : Tree → Tree). W (x stop)) (ap seen e ∙ seen-There p ops) h

    pub switch_has : (p : List ℕ) (cases : List (ℤ × List Op)) (last : Option (List Op)) → o ≡ Switch p cases last
        → W (switch p (bodies cases last) stop)
    switch_has p cases last e = subst (λ (x : Tree → Tree). W (x stop)) (ap seen e ∙ seen-Switch p cases last) h

    pub call_has : (k : ℕ) (p : List ℕ) → o ≡ Call k p → W (call k p stop)
    call_has k p e = subst (λ (x : Tree → Tree). W (x stop)) (ap seen e ∙ seen-Call k p) h

  -- a switch with another path and bodies
  pub switch_made : (p q : List ℕ) (cases : List (ℤ × List Op)) (last : Option (List Op)) (x : Bodies) → q ≡ p → bodies cases last ≡ x
      → seen (Switch q cases last) stop ≡ switch p x stop
  switch_made p q cases last x same made = ap (λ (y : Tree → Tree). y stop) (seen-Switch q cases last)
      ∙ ap (λ (r : List ℕ). switch r (bodies cases last) stop) same ∙ ap (λ (y : Bodies). switch p y stop) made

  -- so it is what is made of a switch by a function
  pub switch_is : (f : Tree → Tree) (o : Op) (p q r : List ℕ) (cases new : List (ℤ × List Op)) (last other : Option (List Op)) (x : Bodies)
      → o ≡ Switch p cases last → f (switch p (bodies cases last) stop) ≡ switch r x stop → q ≡ r → bodies new other ≡ x
      → seen (Switch q new other) stop ≡ f (seen o stop)
  switch_is f o p q r cases new last other x is goes same made = switch_made r q new other x same made
      ∙ sym (ap (λ (y : Tree → Tree). f (y stop)) (ap seen is ∙ seen-Switch p cases last) ∙ goes)

  -- ---- the bodies of a switch

  -- a body's number and its block
  abbrev pub shown : ℤ × List Op → ℤ × Tree
  shown c = (c.0, code c.1)

  -- the same with what is made of the block
  abbrev pub made : (Tree → Tree) → ℤ × List Op → ℤ × Tree
  made f c = (c.0, f (code c.1))

  last_same : (f : Tree → Tree) (g : Bodies → Bodies) → GoesInto K f g → (last other : Option (List Op))
      → option_map code last ≡ option_map (λ (b : List Op). f (code b)) other
      → bodies [] last ≡ g (bodies [] other)
  last_same f g goes None None e = bodies-none ∙ sym (ap g bodies-none ∙ goes.none)
  last_same f g goes None (Some b) e = absurd cc
  last_same f g goes (Some a) None e = absurd cc
  last_same f g goes (Some a) (Some b) e =
      let s : code a ≡ f (code b) = cc in
      bodies-last a ∙ ap default s ∙ sym (ap g (bodies-last b) ∙ goes.last (code b))

  -- bodies that are made one by one are those of what is made of a switch
  pub bodies_same : (f : Tree → Tree) (g : Bodies → Bodies) → GoesInto K f g → (new cases : List (ℤ × List Op))
      (last other : Option (List Op)) → map shown new ≡ map (made f) cases
      → option_map code last ≡ option_map (λ (b : List Op). f (code b)) other
      → bodies new last ≡ g (bodies cases other)
  bodies_same f g goes [] [] last other e h = last_same f g goes last other h
  bodies_same f g goes [] (c ∷ cs) last other e h = absurd cc
  bodies_same f g goes (b ∷ bs) [] last other e h = absurd cc
  bodies_same f g goes (b ∷ bs) (c ∷ cs) last other e h =
      let first : pair b.0 (code b.1) ≡ pair c.0 (f (code c.1)) = cc in
      let rest : map shown bs ≡ map (made f) cs = cc in
      bodies-more b bs last ∙ ap (λ (x : ℤ × Tree). case x.0 x.1 (bodies bs last)) first
      ∙ ap (case c.0 (f (code c.1))) (bodies_same f g goes bs cs last other rest h)
      ∙ sym (ap g (bodies-more c cs other) ∙ goes.more c.0 (code c.1) (bodies cs other))

  -- one body more
  pub bodies_turn : (f : Tree → Tree) (cases : List (ℤ × List Op)) (i : ℕ) (d x : ℤ × List Op) (old new : List (ℤ × List Op))
      (body : List Op) → i < length cases → d ≡ get_or cases i d → map shown old ≡ map (made f) (take i cases) → x ≡ pair d.0 body
      → code body ≡ f (code d.1) → new ≡ old ++ x ∷ []
      → map shown new ≡ map (made f) (take (i + 1) cases)
  bodies_turn f cases i d x old new body lt same so_far is body_is b =
      let more : take (i + 1) cases ≡ take i cases ++ d ∷ [] =
      take_more cases i d lt ∙ ap (λ (y : ℤ × List Op). take i cases ++ y ∷ []) (sym same) in
      let one : shown x ≡ made f d = ap shown is ∙ ap (pair d.0) body_is in
      ap (map shown) b ∙ map-append shown old (x ∷ []) ∙ ap (λ (l : List (ℤ × Tree)). l ++ shown x ∷ []) so_far
      ∙ ap (λ (y : ℤ × Tree). map (made f) (take i cases) ++ y ∷ []) one
      ∙ sym (ap (map (made f)) more ∙ map-append (made f) (take i cases) (d ∷ []))

  -- a fact of each body
  module _ (P : Tree → Type 0) (C : Bodies → Type 0) (of : OfEach K P C) where
    pub without_last : (cases : List (ℤ × List Op)) (last : Option (List Op)) → C (bodies cases last) → C (bodies cases None)
    without_last [] last h = subst C (sym bodies-none) of.none
    without_last (c ∷ cases) last h =
        let all = subst C (bodies-more c cases last) h in
        let rest = without_last cases last (of.rest c.0 (code c.1) (bodies cases last) all) in
        subst C (sym (bodies-more c cases None))
        (of.into c.0 (code c.1) (bodies cases None) (of.first c.0 (code c.1) (bodies cases last) all) rest)

    pub last_alone : (cases : List (ℤ × List Op)) (last : Option (List Op)) → C (bodies cases last) → C (bodies [] last)
    last_alone [] last h = h
    last_alone (c ∷ cases) last h =
        last_alone cases last (of.rest c.0 (code c.1) (bodies cases last) (subst C (bodies-more c cases last) h))

    pub one_body : (cases : List (ℤ × List Op)) (i : ℕ) (d c : ℤ × List Op) → i < length cases → c ≡ get_or cases i d
        → C (bodies cases None)
        → P (code c.1)
    one_body [] i d c lt is h = absurd (omega (arith, lt))
    one_body (x ∷ cases) zero d c lt is h =
        subst (λ (y : ℤ × List Op). P (code y.1)) (sym is) (of.first x.0 (code x.1) (bodies cases None) (subst C (bodies-more x cases
        None) h))
    one_body (x ∷ cases) (suc i) d c lt is h =
        one_body cases i d c (omega (arith, lt)) is (of.rest x.0 (code x.1) (bodies cases None) (subst C (bodies-more x cases None) h))
