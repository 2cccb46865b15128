-- Where words lead in a tree, and what one more node changes.
use Rattle.std.proofs.Common.{◌≡◌, ◌≢◌, ⊎_elim, inl, inr, ℕ, ◌+◌, ◌<◌, ◌≤◌, false, eqb, eqb-true, eq-eqb, ne_eqb, List, [], ◌∷◌, ◌++◌, length, None, Some, refl, sym, ap, ◌∙◌, subst, append-nil, append_assoc, arith}
use Rattle.std.specs.Prelude.{◌⊎◌, Option, if◌then◌else◌}
use Rattle.std.proofs.lemmas.Bool.{cases_Bool, cases_eq, cases_lt, cond-false, cond-true}
use Rattle.std.proofs.lemmas.List.{get_or_past}
use Rattle.std.proofs.lemmas.Option.{none-some, same_Some}
use Rattle.demux.specs.declared.tree.Node.{Node}
use Rattle.demux.specs.Edges.{goal_of}
use Rattle.demux.specs.Trees.{bare, node_at, behind, walk, find, IsTree, Extends, Leads}

pub some_or : (o : Option ℕ) → ((n : ℕ) × (o ≡ Some n)) ⊎ (o ≡ None)
some_or None = inr refl
some_or (Some n) = inl (n, refl)

-- where a word leads from a node
abbrev pub goal_at : List Node → ℕ → ℕ → Option ℕ
goal_at t n w = goal_of (node_at t n).edges w

-- ---- a step

pub walk_on : (t : List Node) (n w m : ℕ) (ws : List ℕ) → goal_at t n w ≡ Some m → walk t n (w ∷ ws) ≡ walk t m ws
walk_on t n w m ws e = ap (λ o. behind o (λ k. walk t k ws)) e

pub walk_off : (t : List Node) (n w : ℕ) (ws : List ℕ) → goal_at t n w ≡ None → walk t n (w ∷ ws) ≡ None
walk_off t n w ws e = ap (λ o. behind o (λ k. walk t k ws)) e

pub find_on : (t : List Node) (n w m : ℕ) (ws : List ℕ) → goal_at t n w ≡ Some m → find t n (w ∷ ws) ≡ find t m ws
find_on t n w m ws e = ap (λ o. behind o (λ k. find t k ws)) e

pub find_off : (t : List Node) (n w : ℕ) (ws : List ℕ) → goal_at t n w ≡ None → find t n (w ∷ ws) ≡ None
find_off t n w ws e = ap (λ o. behind o (λ k. find t k ws)) e

-- what is found is the place of the node to which the words lead
pub find_walk : (t : List Node) (ws : List ℕ) (n : ℕ) → find t n ws ≡ behind (walk t n ws) (λ m. (node_at t m).place)
find_walk t [] n = refl
find_walk t (w ∷ ws) n =
    ⊎_elim
    (λ g. find_on t n w g.0 ws g.1 ∙ find_walk t ws g.0
    ∙ ap (λ o. behind o (λ m. (node_at t m).place)) (sym (walk_on t n w g.0 ws g.1)))
    (λ g. find_off t n w ws g ∙ ap (λ o. behind o (λ m. (node_at t m).place)) (sym (walk_off t n w ws g)))
    (some_or (goal_at t n w))

-- words after others
pub walk_append : (t : List Node) (vs ws : List ℕ) (n m : ℕ) → walk t n vs ≡ Some m → walk t n (vs ++ ws) ≡ walk t m ws
walk_append t [] ws n m e = ap (λ k. walk t k ws) (same_Some n m e)
walk_append t (v ∷ vs) ws n m e =
    ⊎_elim
    (λ g. walk_on t n v g.0 (vs ++ ws) g.1 ∙ walk_append t vs ws g.0 m (sym (walk_on t n v g.0 vs g.1) ∙ e))
    (λ g. absurd (none-some m (sym (walk_off t n v vs g) ∙ e)))
    (some_or (goal_at t n v))

-- ---- one list of words leads to a node

pub led : (t : List Node) (tree : IsTree t) (ws : List ℕ) (n m : ℕ) → walk t n ws ≡ Some m → tree.label m ≡ tree.label n ++ ws
led t tree [] n m e = ap tree.label (sym (same_Some n m e)) ∙ sym (append-nil (tree.label n))
led t tree (w ∷ ws) n m e =
    ⊎_elim
    (λ g. led t tree ws g.0 m (sym (walk_on t n w g.0 ws g.1) ∙ e)
    ∙ ap (λ l. l ++ ws) (tree.edges n w g.0 g.1).1 ∙ append_assoc (tree.label n) (w ∷ []) ws)
    (λ g. absurd (none-some m (sym (walk_off t n w ws g) ∙ e)))
    (some_or (goal_at t n w))

pub led_by_one : (t : List Node) → IsTree t → (vs ws : List ℕ) (n : ℕ) → walk t 0 vs ≡ Some n → walk t 0 ws ≡ Some n → vs ≡ ws
led_by_one t tree vs ws n e f =
    let first : tree.label n ≡ vs = led t tree vs 0 n e ∙ ap (λ l. l ++ vs) tree.root in
    let second : tree.label n ≡ ws = led t tree ws 0 n f ∙ ap (λ l. l ++ ws) tree.root in
    sym first ∙ second

-- ---- no node, no words

past : (t : List Node) (n : ℕ) → length t ≤ n → node_at t n ≡ bare
past t n le = get_or_past t n bare le

pub leads_nowhere : (t : List Node) (n w : ℕ) → length t ≤ n → goal_at t n w ≡ None
leads_nowhere t n w le = ap (λ (x : Node). goal_of x.edges w) (past t n le)

pub finds_nothing : (t : List Node) (n : ℕ) → length t ≤ n → (ws : List ℕ) → find t n ws ≡ None
finds_nothing t n le [] = ap (λ (x : Node). x.place) (past t n le)
finds_nothing t n le (w ∷ ws) = find_off t n w ws (leads_nowhere t n w le)

is_there : (t : List Node) (n w m : ℕ) → goal_at t n w ≡ Some m → n < length t
is_there t n w m e =
    ⊎_elim (λ l. l) (λ le. absurd (none-some m (sym (leads_nowhere t n w le) ∙ e))) (cases_lt n (length t))

-- ---- one more node

-- a tree with one more node, to which a word leads from a node from which it led nowhere
pub record Grew (t u : List Node) (n w : ℕ) : Type 0 where
  pub inside : n < length t
  pub none : goal_at t n w ≡ None
  pub long : length u ≡ length t + 1
  pub here : (q : ℕ) → goal_at u n q ≡ (if eqb w q then Some (length t) else goal_at t n q)
  pub others : (k q : ℕ) → k ≢ n → goal_at u k q ≡ goal_at t k q
  pub places : (k : ℕ) → (node_at u k).place ≡ (node_at t k).place

module _ (t u : List Node) (n w : ℕ) (grew : Grew t u n w) where
  -- where the new node comes from
  abbrev FromNew : ℕ → ℕ → ℕ → Type 0
  FromNew k q m = (k ≡ n) × (q ≡ w) × (m ≡ length t)

  here_new : goal_at u n w ≡ Some (length t)
  here_new = grew.here w ∙ cond-true (eqb w w) (Some (length t)) (goal_at t n w) (eq-eqb w w refl)

  here_other : (q : ℕ) → eqb w q ≡ false → goal_at u n q ≡ goal_at t n q
  here_other q f = grew.here q ∙ cond-false (eqb w q) (Some (length t)) (goal_at t n q) f

  here_either : (q : ℕ) → ((q ≡ w) × (goal_at u n q ≡ Some (length t))) ⊎ (goal_at u n q ≡ goal_at t n q)
  here_either q =
      ⊎_elim
      (λ y. let same : w ≡ q = eqb-true w q y in inl (sym same, subst (λ x. goal_at u n x ≡ Some (length t)) same here_new))
      (λ f. inr (here_other q f))
      (cases_Bool (eqb w q))

  either : (k q : ℕ) → (((k ≡ n) × (q ≡ w)) × (goal_at u k q ≡ Some (length t))) ⊎ (goal_at u k q ≡ goal_at t k q)
  either k q =
      ⊎_elim
      (λ e. ⊎_elim (λ y. inl ((e, y.0), subst (λ x. goal_at u x q ≡ Some (length t)) (sym e) y.1))
      (λ f. inr (subst (λ x. goal_at u x q ≡ goal_at t x q) (sym e) f)) (here_either q))
      (λ ne. inr (grew.others k q ne))
      (cases_eq k n)

  -- what led somewhere leads there
  stays : (k q m : ℕ) → goal_at t k q ≡ Some m → goal_at u k q ≡ Some m
  stays k q m e =
      ⊎_elim
      (λ y. absurd (none-some m (sym grew.none ∙ subst (λ x. goal_at t n x ≡ Some m) y.0.1 (subst (λ x. goal_at t x q ≡ Some m) y.0.0 e))))
      (λ same. same ∙ e)
      (either k q)

  leads_as_before : (ws : List ℕ) (k m : ℕ) → walk t k ws ≡ Some m → walk u k ws ≡ Some m
  leads_as_before [] k m e = e
  leads_as_before (q ∷ ws) k m e =
      ⊎_elim
      (λ g. walk_on u k q g.0 ws (stays k q g.0 g.1) ∙ leads_as_before ws g.0 m (sym (walk_on t k q g.0 ws g.1) ∙ e))
      (λ g. absurd (none-some m (sym (walk_off t k q ws g) ∙ e)))
      (some_or (goal_at t k q))

  -- what was found is found, and nothing else
  finds_as_before : (ws : List ℕ) (k : ℕ) → find u k ws ≡ find t k ws
  finds_as_before [] k = grew.places k
  finds_as_before (q ∷ ws) k =
      ⊎_elim
      (λ y. find_on u k q (length t) ws y.1 ∙ finds_as_before ws (length t) ∙ finds_nothing t (length t) (omega arith) ws
      ∙ sym (find_off t k q ws (subst (λ x. goal_at t x q ≡ None) (sym y.0.0) (subst (λ x. goal_at t n x ≡ None) (sym y.0.1) grew.none))))
      (λ same. ⊎_elim
      (λ g. find_on u k q g.0 ws (same ∙ g.1) ∙ finds_as_before ws g.0 ∙ sym (find_on t k q g.0 ws g.1))
      (λ g. find_off u k q ws (same ∙ g) ∙ sym (find_off t k q ws g))
      (some_or (goal_at t k q)))
      (either k q)

  module _ (tree : IsTree t) where
    label : ℕ → List ℕ
    label j = if eqb j (length t) then tree.label n ++ w ∷ [] else tree.label j

    label_old : (j : ℕ) → j < length t → label j ≡ tree.label j
    unfolding label
    label_old j lt =
        let differs : j ≡ length t → ⊥ = λ e. omega (arith, e, lt) in
        cond-false (eqb j (length t)) (tree.label n ++ w ∷ []) (tree.label j) (ne_eqb j (length t) differs)

    label_new : label (length t) ≡ tree.label n ++ w ∷ []
    unfolding label
    label_new = cond-true (eqb (length t) (length t)) (tree.label n ++ w ∷ []) (tree.label (length t)) (eq-eqb (length t) (length t) refl)

    labelled : (k q m : ℕ) → goal_at u k q ≡ Some m → (m < length u) × (label m ≡ label k ++ q ∷ [])
    labelled k q m e =
        ⊎_elim
        (λ y.
        let is : length t ≡ m = same_Some (length t) m (sym y.1 ∙ e) in
        let one : label m ≡ tree.label n ++ w ∷ [] = subst (λ x. label x ≡ tree.label n ++ w ∷ []) is label_new in
        let two : label k ≡ tree.label n = subst (λ x. label x ≡ tree.label n) (sym y.0.0) (label_old n grew.inside) in (
          omega (arith, is, grew.long),
          one ∙ ap (λ x. tree.label n ++ x ∷ []) (sym y.0.1) ∙ ap (λ l. l ++ q ∷ []) (sym two),
        ))
        (λ same.
        let old : goal_at t k q ≡ Some m = sym same ∙ e in
        let lt : m < length t = (tree.edges k q m old).0 in (
          omega (arith, lt, grew.long),
          label_old m lt ∙ (tree.edges k q m old).1 ∙ ap (λ l. l ++ q ∷ []) (sym (label_old k (is_there t k q m old))),
        ))
        (either k q)

    still_a_tree : IsTree u
    still_a_tree = record {
      some = omega (arith, grew.long);
      label = label;
      root = label_old 0 tree.some ∙ tree.root;
      edges = labelled;
    }

    pub grew_leads : Leads t u n w (length t)
    grew_leads = record {
      extends = record {
        tree = still_a_tree;
        finds = λ ws. finds_as_before ws 0;
        leads = λ ws m e. leads_as_before ws 0 m e;
      };
      within = omega (arith, grew.long);
      leads = here_new;
    }

-- ---- as it is, and twice

pub extends_refl : (t : List Node) → IsTree t → Extends t t
extends_refl t tree = record {
  tree = tree;
  finds = λ ws. refl;
  leads = λ ws n e. e;
}

pub extends_trans : (t u v : List Node) → Extends t u → Extends u v → Extends t v
extends_trans t u v e f = record {
  tree = f.tree;
  finds = λ ws. f.finds ws ∙ e.finds ws;
  leads = λ ws n h. f.leads ws n (e.leads ws n h);
}
