-- Items of arrays, one after the other, by induction on the items.
use Rattle.std.proofs.Common.{◌≡◌, ℕ, suc, ◌<◌, ◌≤◌, ◌+◌, List, [], ◌∷◌, ◌++◌, length, get_or, slice_get, zero, Some, drop, ℤ, refl, sym, ap, ◌∙◌, arith, add-one, length-drop}
use Rattle.std.proofs.Math.Seq.{drop-cons}
use Rattle.std.proofs.lemmas.List.{drop_all}
use Rattle.mint.specs.declared.kind.Kind.{Kind}
use Rattle.mint.specs.declared.value.Value.{Value}
use Rattle.mint.specs.Values.{seen, all_seen}
use Rattle.pres.specs.Faces.{Face, at, parts_at}
use Rattle.serde_json.specs.declared.value.Value.{Value as Json}
use Rattle.serde_json.specs.Data.{Data, Items, no_items, item, Members, no_members, put}
use Rattle.serde_json.specs.View.{view, items_view}
use Rattle.json_shape.specs.Texts.{text_of}
use Rattle.json_shape.specs.Written.{number_json, each_json, items_json, json_of, in_order_json, by_name_json}

-- items after items
abbrev pub after_items : Items → Items → Items
after_items no_items js = js
after_items (item i is) js = item i (after_items is js)

pub after_none : (is : Items) → after_items is no_items ≡ is
after_none no_items = refl
after_none (item i is) = ap (item i) (after_none is)

pub after_push : (vs : List Json) (v : Json) (js : Items)
    → after_items (items_view (vs ++ v ∷ [])) js ≡ after_items (items_view vs) (item (view v) js)
after_push [] v js = refl
after_push (w ∷ vs) v js = ap (item (view w)) (after_push vs v js)

pub ruleset pieces = (after_none, after_push)

got : (ns : List ℤ) (i : ℕ) (n : ℤ) → Some n ≡ slice_get ns i → n ≡ get_or ns i n
got [] i n h = absurd cc
got (m ∷ ns) zero n h = cc
got (m ∷ ns) (suc i) n h = got ns i n h

-- one number, and those after it
pub numbers_next : (k : Kind) (ns : List ℤ) (i : ℕ) (n : ℤ) → i < length ns → Some n ≡ slice_get ns i
    → each_json k (drop i ns) ≡ item (number_json k n) (each_json k (drop (i + 1) ns))
numbers_next k ns i n h there =
    rw (add-one, drop-cons ns i n)
    (ap (λ (m : ℤ). item (number_json k m) (each_json k (drop (suc i) ns))) (sym (got ns i n there)))

-- one value, and those after it
pub values_next : (f : Face) (vs : List Value) (i : ℕ) (d : Value) → i < length vs → d ≡ get_or vs i d
    → items_json (json_of f) (all_seen (drop i vs)) ≡ item (json_of f (seen d)) (items_json (json_of f) (all_seen (drop (i + 1) vs)))
values_next f vs i d h same =
    rw (add-one, drop-cons vs i d)
    (ap (λ (w : Value). item (json_of f (seen w)) (items_json (json_of f) (all_seen (drop (suc i) vs)))) (sym same))

-- one part, and those after it
pub parts_next : (fs : List Face) (ids : List ℕ) (vs : List Value) (i : ℕ) (d : Value) → i < length ids → i < length vs
    → d ≡ get_or vs i d
    → in_order_json (parts_at fs [] (drop i ids)) (all_seen (drop i vs))
    ≡ item (json_of (at fs (get_or ids i 0)) (seen d)) (in_order_json (parts_at fs [] (drop (i + 1) ids)) (all_seen (drop (i + 1) vs)))
parts_next fs ids vs i d h l same =
    rw (add-one, drop-cons ids i 0, drop-cons vs i d)
    (ap (λ (w : Value). item (json_of (at fs (get_or ids i 0)) (seen w))
    (in_order_json (parts_at fs [] (drop (suc i) ids)) (all_seen (drop (suc i) vs)))) (sym same))

pub numbers_more : (k : Kind) (ns : List ℤ) (i : ℕ) (n : ℤ) (front : List Json) (v : Json) → i < length ns → Some n ≡ slice_get ns i
    → view v ≡ number_json k n
    → after_items (items_view front) (each_json k (drop i ns))
    ≡ after_items (items_view (front ++ v ∷ [])) (each_json k (drop (i + 1) ns))
numbers_more k ns i n front v h there is =
    let here : number_json k (get_or ns i n) ≡ view v = ap (number_json k) (sym (got ns i n there)) ∙ sym is in
    rw (add-one, drop-cons ns i n) (ap (λ (j : Data). after_items (items_view front) (item j (each_json k (drop (suc i) ns)))) here
    ∙ sym (after_push front v (each_json k (drop (suc i) ns))))

pub numbers_done : (k : Kind) (ns : List ℤ) (i : ℕ) (front : List Json) (all : Items) → length ns ≤ i
    → after_items (items_view front) (each_json k (drop i ns)) ≡ all
    → items_view front ≡ all
numbers_done k ns i front all h is =
    sym (ap (λ (ms : List ℤ). after_items (items_view front) (each_json k ms)) (drop_all i ns h) ∙ after_none (items_view front)) ∙ is

pub values_done : (f : Face) (vs : List Value) (i : ℕ) (front : List Json) (all : Items) → length vs ≤ i
    → after_items (items_view front) (items_json (json_of f) (all_seen (drop i vs))) ≡ all
    → items_view front ≡ all
values_done f vs i front all h is =
    sym (ap (λ (ws : List Value). after_items (items_view front) (items_json (json_of f) (all_seen ws))) (drop_all i vs h)
    ∙ after_none (items_view front)) ∙ is

pub values_more : (f : Face) (vs : List Value) (i : ℕ) (d : Value) (front : List Json) (v : Json) → i < length vs → d ≡ get_or vs i d
    → view v ≡ json_of f (seen d)
    → after_items (items_view front) (items_json (json_of f) (all_seen (drop i vs))) ≡ after_items (items_view (front ++ v ∷ []))
    (items_json (json_of f) (all_seen (drop (i + 1) vs)))
values_more f vs i d front v h same is =
    let here : json_of f (seen (get_or vs i d)) ≡ view v = ap (λ (w : Value). json_of f (seen w)) (sym same) ∙ sym is in
    rw (add-one, drop-cons vs i d) (ap (λ (j : Data). after_items (items_view front)
    (item j (items_json (json_of f) (all_seen (drop (suc i) vs))))) here
    ∙ sym (after_push front v (items_json (json_of f) (all_seen (drop (suc i) vs)))))

module _ (fs : List Face) where
  pub parts_more : (ids : List ℕ) (vs : List Value) (i : ℕ) (d : Value) (front : List Json) (v : Json) → i < length ids → i < length vs
      → d ≡ get_or vs i d
      → view v ≡ json_of (at fs (get_or ids i 0)) (seen d)
      → after_items (items_view front) (in_order_json (parts_at fs [] (drop i ids)) (all_seen (drop i vs))) ≡ after_items
      (items_view (front ++ v ∷ [])) (in_order_json (parts_at fs [] (drop (i + 1) ids)) (all_seen (drop (i + 1) vs)))
  parts_more ids vs i d front v h l same is =
      let here : json_of (at fs (get_or ids i 0)) (seen (get_or vs i d)) ≡ view v =
      ap (λ (w : Value). json_of (at fs (get_or ids i 0)) (seen w)) (sym same) ∙ sym is in
      rw (add-one, drop-cons ids i 0, drop-cons vs i d)
      (ap (λ (j : Data). after_items (items_view front) (item j
      (in_order_json (parts_at fs [] (drop (suc i) ids)) (all_seen (drop (suc i) vs))))) here
      ∙ sym (after_push front v (in_order_json (parts_at fs [] (drop (suc i) ids)) (all_seen (drop (suc i) vs)))))

  -- nothing is left of the parts or of the values
  parts_out : (ids : List ℕ) (vs : List Value) → (0 < length ids → 0 < length vs → ⊥)
      → in_order_json (parts_at fs [] ids) (all_seen vs) ≡ no_items
  parts_out [] vs h = refl
  parts_out (i ∷ ids) [] h = refl
  parts_out (i ∷ ids) (v ∷ vs) h = absurd (h (omega arith) (omega arith))

  pub parts_none : (ids : List ℕ) (vs : List Value) (i : ℕ) → (i < length ids → i < length vs → ⊥)
      → in_order_json (parts_at fs [] (drop i ids)) (all_seen (drop i vs)) ≡ no_items
  parts_none ids vs i h =
      parts_out (drop i ids) (drop i vs) (λ m n. h (omega (arith, m, length-drop i ids)) (omega (arith, n, length-drop i vs)))

  pub parts_done : (ids : List ℕ) (vs : List Value) (i : ℕ) (front : List Json) (all : Items) → (i < length ids → i < length vs → ⊥)
      → after_items (items_view front) (in_order_json (parts_at fs [] (drop i ids)) (all_seen (drop i vs))) ≡ all → items_view front ≡ all
  parts_done ids vs i front all h is =
      sym (ap (after_items (items_view front)) (parts_none ids vs i h) ∙ after_none (items_view front)) ∙ is

  named_out : (names : List (List ℕ)) (ids : List ℕ) (vs : List Value) → (0 < length ids → 0 < length vs → ⊥)
      → by_name_json (parts_at fs names ids) (all_seen vs) ≡ no_members
  named_out names [] vs h = refl
  named_out [] (i ∷ ids) [] h = refl
  named_out (n ∷ names) (i ∷ ids) [] h = refl
  named_out names (i ∷ ids) (v ∷ vs) h = absurd (h (omega arith) (omega arith))

  pub named_done : (names : List (List ℕ)) (ids : List ℕ) (vs : List Value) (i : ℕ) → (i < length ids → i < length vs → ⊥)
      → by_name_json (parts_at fs (drop i names) (drop i ids)) (all_seen (drop i vs)) ≡ no_members
  named_done names ids vs i h =
      named_out (drop i names) (drop i ids) (drop i vs) (λ m n.
      h (omega (arith, m, length-drop i ids)) (omega (arith, n, length-drop i vs)))

  -- one field more before those after it
  pub named_more : (names : List (List ℕ)) (ids : List ℕ) (vs : List Value) (i : ℕ) (e : List ℕ) (d : Value) (ms : Members) (name : List ℕ)
      (v : Json)
      → i < length names → i < length ids → i < length vs
      → e ≡ get_or names i e → d ≡ get_or vs i d → name ≡ text_of e → view v ≡ json_of (at fs (get_or ids i 0)) (seen d)
      → ms ≡ by_name_json (parts_at fs (drop (i + 1) names) (drop (i + 1) ids)) (all_seen (drop (i + 1) vs))
      → put name (view v) ms ≡ by_name_json (parts_at fs (drop i names) (drop i ids)) (all_seen (drop i vs))
  named_more names ids vs i e d ms name v h l m same_e same_d is_name is after =
      let here : view v ≡ json_of (at fs (get_or ids i 0)) (seen (get_or vs i d)) =
      is ∙ ap (λ (w : Value). json_of (at fs (get_or ids i 0)) (seen w)) same_d in
      let key : name ≡ text_of (get_or names i e) = is_name ∙ ap text_of same_e in
      let rest : ms ≡ by_name_json (parts_at fs (drop (suc i) names) (drop (suc i) ids)) (all_seen (drop (suc i) vs)) =
      rw add-one at after in
      rw (drop-cons ids i 0, drop-cons names i e, drop-cons vs i d, key, here, rest) refl

-- items that are copied
pub copied_more : (vs : List Json) (i : ℕ) (d : Json) (front : List Json) (v : Json) → i < length vs → d ≡ get_or vs i d → view v ≡ view d
    → after_items (items_view front) (items_view (drop i vs)) ≡ after_items (items_view (front ++ v ∷ [])) (items_view (drop (i + 1) vs))
copied_more vs i d front v h same is =
    let here : view (get_or vs i d) ≡ view v = ap view (sym same) ∙ sym is in
    rw (add-one, drop-cons vs i d) (ap (λ (j : Data). after_items (items_view front) (item j (items_view (drop (suc i) vs)))) here
    ∙ sym (after_push front v (items_view (drop (suc i) vs))))

pub copied_done : (vs : List Json) (i : ℕ) (front : List Json) (all : Items) → length vs ≤ i
    → after_items (items_view front) (items_view (drop i vs)) ≡ all
    → items_view front ≡ all
copied_done vs i front all h is =
    sym (ap (λ (ws : List Json). after_items (items_view front) (items_view ws)) (drop_all i vs h) ∙ after_none (items_view front)) ∙ is
