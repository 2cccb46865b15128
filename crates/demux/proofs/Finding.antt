-- What a tree finds after a place is put, and the names from a place on that it finds.
use Rattle.std.proofs.Common.{◌≡◌, ◌≢◌, ⊎_elim, true, false, true≢false, cond, ℕ, suc, ◌-◌, ◌+◌, ◌*◌, ◌<◌, ◌≤◌, List, [], ◌∷◌, ◌++◌, length, drop, get_or, set, None, Some, refl, ap, sym, ◌∙◌, subst, append-nil, append_assoc, length-set, get_or-set_same, get_or-set_other, drop-cons, arith}
use Rattle.std.specs.Prelude.{if◌then◌else◌, Bool, Option}
use Rattle.kit_base.specs.Causes.{raised}
use Rattle.std.specs.Cmp.Lexicographic.{bytes_decides, nat_list_eq_equiv}
use Rattle.std.specs.List.{position_from}
use Rattle.std.specs.Str.{bytes_eq}
use Rattle.std.proofs.lemmas.Bool.{cases_Bool, cases_eq, cond-false, cond-true}
use Rattle.std.proofs.lemmas.List.{drop_all, get_or_default}
use Rattle.demux.specs.declared.tree.Node.{Node}
use Rattle.demux.specs.Edges.{goal_of}
use Rattle.demux.specs.Names.{word_at}
use Rattle.demux.specs.Spelled.{AreOctets, spelled}
use Rattle.demux.specs.Places.{FindsPlaces}
use Rattle.demux.specs.Trees.{bare, node_at, behind, walk, find, place_in, IsTree, Extends, Leads, IsNodeOf}
use Rattle.demux.proofs.Words.{same_name, words_from, next_word, no_word}
use Rattle.demux.proofs.Walks.{goal_at, some_or, walk_on, walk_off, walk_append, find_on, find_off, find_walk, led_by_one, extends_trans}

-- ---- the node of a name

-- a name whose length and first words lead to a node
pub record Along (old now : List Node) (name : List ℕ) (i n : ℕ) : Type 0 where
  pub extends : Extends old now
  pub within : n < length now
  pub done : List ℕ
  pub split : done ++ words_from name i ≡ spelled name
  pub leads : walk now 0 done ≡ Some n

pub along_first : (old now : List Node) (name : List ℕ) (n : ℕ) → Leads old now 0 (length name) n → Along old now name 0 n
along_first old now name n l = record {
  extends = l.extends;
  within = l.within;
  done = length name ∷ [];
  split = refl;
  leads = walk_on now 0 (length name) n [] l.leads;
}

pub along_more : (old now new : List Node) (name : List ℕ) (i n m w : ℕ) → 4 * i < length name → w ≡ word_at name i → Along old now name i n
    → Leads now new n w m → Along old new name (i + 1) m
along_more old now new name i n m w lt is a l = record {
  extends = extends_trans old now new a.extends l.extends;
  within = l.within;
  done = a.done ++ w ∷ [];
  split = append_assoc a.done (w ∷ []) (words_from name (i + 1)) ∙ ap (λ x. a.done ++ x ∷ words_from name (i + 1)) is
      ∙ ap (λ l. a.done ++ l) (sym (next_word name i lt)) ∙ a.split;
  leads = walk_append new a.done (w ∷ []) 0 n (l.extends.leads a.done n a.leads) ∙ walk_on new n w m [] l.leads;
}

pub along_last : (old now : List Node) (name : List ℕ) (i n : ℕ) → length name ≤ 4 * i → Along old now name i n → IsNodeOf old now name n
along_last old now name i n le a = record {
  extends = a.extends;
  within = a.within;
  leads = subst (λ l. walk now 0 l ≡ Some n)
      (sym (append-nil a.done) ∙ ap (λ l. a.done ++ l) (sym (no_word name i le)) ∙ a.split) a.leads;
}

-- ---- a place that is put

-- a node of a tree with another place
abbrev pub with_place : Node → Option ℕ → Node
with_place x place = record { edges = x.edges; place = place }

module _ (t : List Node) (n : ℕ) (x : Node) (place : Option ℕ) (inside : n < length t) (is : x ≡ get_or t n x) where
  abbrev after : List Node
  after = set t n (with_place x place)

  that_node : x ≡ node_at t n
  that_node = is ∙ get_or_default t n x bare inside

  put_here : node_at after n ≡ with_place x place
  put_here = get_or-set_same t n (with_place x place) bare inside

  put_elsewhere : (k : ℕ) → k ≢ n → node_at after k ≡ node_at t k
  put_elsewhere k ne = get_or-set_other t n k (with_place x place) bare ne

  same_goals : (k w : ℕ) → goal_at after k w ≡ goal_at t k w
  same_goals k w =
      ⊎_elim
      (λ e. subst (λ j. goal_at after j w ≡ goal_at t j w) (sym e)
      (ap (λ (y : Node). goal_of y.edges w) put_here ∙ ap (λ (y : Node). goal_of y.edges w) that_node))
      (λ ne. ap (λ (y : Node). goal_of y.edges w) (put_elsewhere k ne))
      (cases_eq k n)

  same_walks : (ws : List ℕ) (k : ℕ) → walk after k ws ≡ walk t k ws
  same_walks [] k = refl
  same_walks (w ∷ ws) k =
      ⊎_elim
      (λ g. walk_on after k w g.0 ws (same_goals k w ∙ g.1) ∙ same_walks ws g.0 ∙ sym (walk_on t k w g.0 ws g.1))
      (λ g. walk_off after k w ws (same_goals k w ∙ g) ∙ sym (walk_off t k w ws g))
      (some_or (goal_at t k w))

  pub put_tree : IsTree t → IsTree after
  put_tree tree = record {
    some = omega (arith, tree.some, length-set t n (with_place x place));
    label = tree.label;
    root = tree.root;
    edges = λ k w m e.
        let old = tree.edges k w m (sym (same_goals k w) ∙ e) in
        (omega (arith, old.0, length-set t n (with_place x place)), old.1);
  }

  place_after : (s : List ℕ) → place_in after s ≡ behind (walk t 0 (spelled s)) (λ m. (node_at after m).place)
  place_after s = find_walk after (spelled s) 0 ∙ ap (λ o. behind o (λ m. (node_at after m).place)) (same_walks (spelled s) 0)

  module _ (tree : IsTree t) (name : List ℕ) (octets : AreOctets name) (leads : walk t 0 (spelled name) ≡ Some n) where
    abbrev Put : List ℕ → Type 0
    Put s = place_in after s ≡ (if bytes_eq name s then place else place_in t s)

    -- the name that was put
    put_it : (s : List ℕ) → bytes_eq name s ≡ true → Put s
    put_it s y =
        subst (λ l. place_in after l ≡ place) ((bytes_decides name s).0 y)
        (place_after name ∙ ap (λ o. behind o (λ m. (node_at after m).place)) leads ∙ ap (λ (y : Node). y.place) put_here)
        ∙ sym (cond-true (bytes_eq name s) place (place_in t s) y)

    -- another name
    other_node : (s : List ℕ) → AreOctets s → bytes_eq name s ≡ false → (m : ℕ) → walk t 0 (spelled s) ≡ Some m → m ≢ n
    other_node s o f m g e =
        let same : name ≡ s = same_name name s octets o (led_by_one t tree (spelled name) (spelled s) n leads (g ∙ ap Some e)) in
        true≢false (sym ((bytes_decides name s).1 same) ∙ f)

    put_other : (s : List ℕ) → AreOctets s → bytes_eq name s ≡ false → place_in after s ≡ place_in t s
    put_other s o f =
        ⊎_elim
        (λ g. place_after s ∙ ap (λ o. behind o (λ m. (node_at after m).place)) g.1
        ∙ ap (λ (y : Node). y.place) (put_elsewhere g.0 (other_node s o f g.0 g.1))
        ∙ sym (find_walk t (spelled s) 0 ∙ ap (λ o. behind o (λ m. (node_at t m).place)) g.1))
        (λ g. place_after s ∙ ap (λ o. behind o (λ m. (node_at after m).place)) g
        ∙ sym (find_walk t (spelled s) 0 ∙ ap (λ o. behind o (λ m. (node_at t m).place)) g))
        (some_or (walk t 0 (spelled s)))

    pub put_finds : (s : List ℕ) → AreOctets s → Put s
    put_finds s o =
        ⊎_elim (λ y. put_it s y)
        (λ f. put_other s o f ∙ sym (cond-false (bytes_eq name s) place (place_in t s) f))
        (cases_Bool (bytes_eq name s))

-- the same of a tree that was extended for the name before
pub put_finds_too : (old t : List Node) (name : List ℕ) (n : ℕ) (x : Node) (place : Option ℕ) → IsNodeOf old t name n → x ≡ get_or t n x
    → AreOctets name → (s : List ℕ) → AreOctets s
    → place_in (set t n (with_place x place)) s ≡ (if bytes_eq name s then place else place_in old s)
put_finds_too old t name n x place of is octets s o =
    put_finds t n x place of.within is of.extends.tree name octets of.leads s o
    ∙ ap (λ p. cond (bytes_eq name s) place p) (of.extends.finds (spelled s))

-- ---- the names from a place on

-- a tree that finds the names from a place on
pub record FindsFrom (names : List (List ℕ)) (n : ℕ) (t : List Node) : Type 0 where
  pub within : n ≤ length names
  pub tree : IsTree t
  pub found : (s : List ℕ) → AreOctets s → place_in t s ≡ position_from (bytes_eq s) n (drop n names)

-- at first none
pub finds_none : (names : List (List ℕ)) (n : ℕ) (t : List Node) → n ≡ length names → IsTree t
    → ((s : List ℕ) → AreOctets s → place_in t s ≡ None) → FindsFrom names n t
finds_none names n t is tree empty = record {
  within = omega (arith, is);
  tree = tree;
  found = λ s o. empty s o ∙ ap (λ l. position_from (bytes_eq s) n l) (sym (drop_all n names (omega (arith, is))));
}

-- at last all
pub finds_all : (names : List (List ℕ)) (n : ℕ) (t : List Node) → n ≤ 0 → FindsFrom names n t → FindsPlaces names t
finds_all names n t none from s o =
    let zero_is : n ≡ 0 = omega (arith, none) in
    from.found s o ∙ ap (λ k. position_from (bytes_eq s) k (drop k names)) zero_is

-- the same from the place before
pub found_before : (names : List (List ℕ)) (n : ℕ) (d bs : List ℕ) (old new : List Node) → 0 < n
    → FindsFrom names n old → bs ≡ get_or names (n - 1) d → IsTree new
    → ((s : List ℕ) → AreOctets s → place_in new s ≡ (if bytes_eq bs s then Some (n - 1) else place_in old s))
    → FindsFrom names (n - 1) new
found_before names n d bs old new some from is tree put =
    let there : n - 1 < length names = omega (arith, some, from.within) in
    let next : suc (n - 1) ≡ n = omega (arith, some) in
    let after : n - 1 + 1 ≡ n = omega (arith, some) in
    let cut : drop (n - 1) names ≡ bs ∷ drop n names =
    drop-cons names (n - 1) d there ∙ ap (λ x. x ∷ drop (suc (n - 1)) names) (sym is) ∙ ap (λ k. bs ∷ drop k names) next in
    record {
      within = omega (arith, from.within);
      tree = tree;
      found = λ s o. put s o ∙ ap (λ p. cond (bytes_eq bs s) (Some (n - 1)) p) (from.found s o)
          ∙ ap (λ b. cond b (Some (n - 1)) (position_from (bytes_eq s) n (drop n names))) (nat_list_eq_equiv.symm bs s)
          ∙ ap (λ k. cond (bytes_eq s bs) (Some (n - 1)) (position_from (bytes_eq s) k (drop n names))) (sym after)
          ∙ ap (λ l. position_from (bytes_eq s) (n - 1) l) (sym cut);
    }

-- ---- seeking

-- a name of which so many words are read, and the node to which these lead
abbrev pub Seeks : List Node → List ℕ → ℕ → ℕ → Type 0
Seeks t name i n = find t n (words_from name i) ≡ place_in t name

pub seeks_first : (t : List Node) (name : List ℕ) (n : ℕ) → Some n ≡ goal_of (node_at t 0).edges (length name) → Seeks t name 0 n
seeks_first t name n e = sym (find_on t 0 (length name) n (words_from name 0) (sym e))

pub none_first : (t : List Node) (name : List ℕ) → None ≡ goal_of (node_at t 0).edges (length name) → None ≡ place_in t name
none_first t name e = sym (find_off t 0 (length name) (words_from name 0) (sym e))

pub seeks_more : (t : List Node) (name : List ℕ) (i n m w : ℕ) → 4 * i < length name → w ≡ word_at name i → Seeks t name i n
    → Some m ≡ goal_of (node_at t n).edges w → Seeks t name (i + 1) m
seeks_more t name i n m w lt is so e =
    sym (ap (find t n) (next_word name i lt ∙ ap (λ x. x ∷ words_from name (i + 1)) (sym is))
    ∙ find_on t n w m (words_from name (i + 1)) (sym e)) ∙ so

pub none_more : (t : List Node) (name : List ℕ) (i n w : ℕ) → 4 * i < length name → w ≡ word_at name i → Seeks t name i n
    → None ≡ goal_of (node_at t n).edges w → None ≡ place_in t name
none_more t name i n w lt is so e =
    sym (ap (find t n) (next_word name i lt ∙ ap (λ x. x ∷ words_from name (i + 1)) (sym is))
    ∙ find_off t n w (words_from name (i + 1)) (sym e)) ∙ so

pub seeks_last : (t : List Node) (name : List ℕ) (i n : ℕ) → length name ≤ 4 * i → Seeks t name i n → (node_at t n).place ≡ place_in t name
seeks_last t name i n le so = sym (ap (find t n) (no_word name i le)) ∙ so

-- one read more
pub read_more : (r i a b : ℕ) → a ≡ raised r i → b ≡ raised a 1 → b ≡ raised r (i + 1)
read_more r i a b is more = omega (arith, is, more)

-- where nothing is put for a name, nothing is found
pub still_none : (b : Bool) (o : Option ℕ) → o ≡ None → cond b None o ≡ None
still_none true o e = refl
still_none false o e = e
