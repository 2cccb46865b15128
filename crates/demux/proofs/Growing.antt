-- The first node of a tree, and one more.
use Rattle.std.proofs.Common.{◌≡◌, ◌≢◌, ⊎_elim, ℕ, zero, suc, ◌-◌, ◌+◌, ◌<◌, ◌≤◌, eqb, List, [], ◌∷◌, ◌++◌, length, get_or, set, None, Some, refl, sym, ap, ◌∙◌, subst, length-append, length-set, get_or-set_same, get_or-set_other, arith}
use Rattle.std.specs.Prelude.{if◌then◌else◌, Option}
use Rattle.std.proofs.lemmas.Bool.{cases_eq, cases_lt}
use Rattle.std.proofs.lemmas.List.{get_or_append_left, get_or-append_right, get_or_default, get_or_past}
use Rattle.std.proofs.lemmas.Option.{none-some}
use Rattle.demux.specs.declared.tree.Node.{Node}
use Rattle.demux.specs.Edges.{Pairs, goal_of}
use Rattle.demux.specs.Trees.{bare, node_at, IsTree, Leads}
use Rattle.demux.proofs.Walks.{goal_at, grew_leads, extends_refl}

-- a node with these edges and this place
abbrev pub a_node : Pairs → Option ℕ → Node
a_node es place = record { edges = es; place = place }

bare_alone : (n : ℕ) → node_at (bare ∷ []) n ≡ bare
bare_alone zero = refl
bare_alone (suc n) = refl

bare_tree : IsTree (bare ∷ [])
bare_tree = record {
  some = omega arith;
  label = λ n. [];
  root = refl;
  edges = λ n w m e. absurd (none-some m (sym (ap (λ (x : Node). goal_of x.edges w) (bare_alone n)) ∙ e));
}

pub one_node : (t s : List Node) (es : Pairs) → t ≡ s ++ a_node es None ∷ [] → s ≡ [] → es ≡ [] → IsTree t
one_node t s es is none bare_is =
    subst IsTree (sym (is ∙ ap (λ l. l ++ a_node es None ∷ []) none ∙ ap (λ (e : Pairs). a_node e None ∷ []) bare_is)) bare_tree

-- ---- one more

-- a node that is read in the tree
pub that_is : (t : List Node) (n : ℕ) (x : Node) → n < length t → x ≡ get_or t n x → x ≡ node_at t n
that_is t n x inside is = is ∙ get_or_default t n x bare inside

pub goal_there : (t : List Node) (n w : ℕ) (x : Node) (o : Option ℕ) → n < length t → x ≡ get_or t n x → o ≡ goal_of x.edges w
    → o ≡ goal_at t n w
goal_there t n w x o inside is e = e ∙ ap (λ (y : Node). goal_of y.edges w) (that_is t n x inside is)

pub goal_past : (t : List Node) (n w : ℕ) → length t ≤ n → None ≡ goal_at t n w
goal_past t n w le = sym (ap (λ (y : Node). goal_of y.edges w) (get_or_past t n bare le))

pub place_there : (t : List Node) (n : ℕ) (x : Node) → n < length t → x ≡ get_or t n x → x.place ≡ (node_at t n).place
place_there t n x inside is = ap (λ (y : Node). y.place) (that_is t n x inside is)

pub place_past : (t : List Node) (n : ℕ) → length t ≤ n → None ≡ (node_at t n).place
place_past t n le = sym (ap (λ (y : Node). y.place) (get_or_past t n bare le))

-- a word that leads somewhere already
pub leads_already : (t s : List Node) (n w m : ℕ) → IsTree t → s ≡ t → Some m ≡ goal_at s n w → Leads t t n w m
leads_already t s n w m tree is e =
    let leads : goal_at t n w ≡ Some m = sym (e ∙ ap (λ (l : List Node). goal_at l n w) is) in
    record {
      extends = extends_refl t tree;
      within = (tree.edges n w m leads).0;
      leads = leads;
    }

module _ (t t' : List Node) (n w m : ℕ) (x : Node) (es : Pairs) (tree : IsTree t) (inside : n < length t) (none : goal_at t n w ≡ None)
    (pushed : t' ≡ t ++ bare ∷ []) (is : x ≡ get_or t' n x)
    (added : (q : ℕ) → goal_of es q ≡ (if eqb w q then Some m else goal_of x.edges q)) (next : m ≡ length t) where
  abbrev after : List Node
  after = set t' n (a_node es x.place)

  longer : length t' ≡ length t + 1
  longer = omega (arith, ap length pushed, length-append t (bare ∷ []))

  as_it_was : (k : ℕ) → node_at t' k ≡ node_at t k
  as_it_was k =
      ap (λ (l : List Node). node_at l k) pushed
      ∙ ⊎_elim (λ lt. get_or_append_left t (bare ∷ []) bare k lt)
      (λ le. get_or-append_right t (bare ∷ []) (length t) k bare refl le ∙ bare_alone (k - length t) ∙ sym (get_or_past t k bare le))
      (cases_lt k (length t))

  here : node_at after n ≡ a_node es x.place
  here = get_or-set_same t' n (a_node es x.place) bare (omega (arith, longer, inside))

  elsewhere : (k : ℕ) → k ≢ n → node_at after k ≡ node_at t k
  elsewhere k ne = get_or-set_other t' n k (a_node es x.place) bare ne ∙ as_it_was k

  was : x ≡ node_at t n
  was = that_is t' n x (omega (arith, longer, inside)) is ∙ as_it_was n

  goals_here : (q : ℕ) → goal_at after n q ≡ (if eqb w q then Some (length t) else goal_at t n q)
  goals_here q =
      ap (λ (y : Node). goal_of y.edges q) here ∙ added q
      ∙ ap (λ k. if eqb w q then Some k else goal_of x.edges q) next
      ∙ ap (λ (y : Node). if eqb w q then Some (length t) else goal_of y.edges q) was

  places_stay : (k : ℕ) → (node_at after k).place ≡ (node_at t k).place
  places_stay k =
      ⊎_elim
      (λ e. subst (λ j. (node_at after j).place ≡ (node_at t j).place) (sym e)
      (ap (λ (y : Node). y.place) here ∙ ap (λ (y : Node). y.place) was))
      (λ ne. ap (λ (y : Node). y.place) (elsewhere k ne))
      (cases_eq k n)

  pub grown_leads : Leads t after n w m
  grown_leads =
      subst (λ k. Leads t after n w k) (sym next)
      (grew_leads t after n w
      (record {
        inside = inside;
        none = none;
        long = omega (arith, longer, length-set t' n (a_node es x.place));
        here = goals_here;
        others = λ k q ne. ap (λ (y : Node). goal_of y.edges q) (elsewhere k ne);
        places = places_stay;
      })
      tree)
