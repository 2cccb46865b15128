-- One more field or element.
use Rattle.std.proofs.Common.{◌≡◌, ℕ, suc, ◌<◌, ◌≤◌, ◌+◌, List, [], ◌∷◌, length, get_or, drop, Option, Some, None, option_map, option_and_then, refl, sym, ap, ◌∙◌, arith, add-one}
use Rattle.std.proofs.Math.Seq.{drop-cons}
use Rattle.std.proofs.lemmas.List.{drop_all}
use Rattle.mint.specs.Values.{Val, Vals, no_more, val, seen}
use Rattle.mint.specs.declared.value.Value.{Value}
use Rattle.mint.proofs.Seen.{joined, joined-no_more, joined_one, all_seen-push}
use Rattle.pres.specs.Faces.{Face, at, parts_at}
use Rattle.serde_json.specs.declared.value.Value.{Value as Json}
use Rattle.serde_json.specs.Data.{Data, Members}
use Rattle.serde_json.specs.Find.{get}
use Rattle.serde_json.specs.View.{view, items_view}
use Rattle.json_shape.specs.Presents.{count, member_of, members_in}
use Rattle.json_shape.specs.Reading.{before, each, value_of, in_order, by_name}
use Rattle.json_shape.specs.Texts.{text_of}
use Rattle.json_shape.proofs.Lookups.{get-members}

pub count-parts : (fs : List Face) (names : List (List ℕ)) (ids : List ℕ) → count (parts_at fs names ids) ≡ length ids
count-parts fs names [] = refl
count-parts fs [] (i ∷ ids) = omega (arith, count-parts fs [] ids)
count-parts fs (n ∷ names) (i ∷ ids) = omega (arith, count-parts fs names ids)

pub ruleset elements = (joined-no_more, joined_one, all_seen-push)

pub ruleset fields = (joined-no_more, joined_one, all_seen-push, count-parts)

-- one value more before those that are read
more_before : (front : Vals) (a : Option Val) (b : Option Vals) (w : Val) → a ≡ Some w
    → option_map (joined front) (before a b) ≡ option_map (joined (joined front (val w no_more))) b
more_before front None b w h = absurd cc
more_before front (Some v) None w h = refl
more_before front (Some v) (Some vs) w h =
    let same : v ≡ w = cc in
    rw same (ap Some (sym (joined_one front w vs)))

all_before : (front : Vals) → option_map (joined front) (Some no_more) ≡ Some front
all_before front = ap Some (joined-no_more front)

pub each_more : (f : Data → Option Val) (vs : List Json) (k : ℕ) (d : Json) (front : Vals) (w : Value) → k < length vs → d ≡ get_or vs k d
    → f (view d) ≡ Some (seen w)
    → option_map (joined front) (each f (items_view (drop k vs))) ≡ option_map (joined (joined front (val (seen w) no_more)))
    (each f (items_view (drop (k + 1) vs)))
each_more f vs k d front w h same is =
    let here : f (view (get_or vs k d)) ≡ Some (seen w) = ap (λ (x : Json). f (view x)) (sym same) ∙ is in
    rw (add-one, drop-cons vs k d) (more_before front (f (view (get_or vs k d))) (each f (items_view (drop (suc k) vs))) (seen w) here)

pub each_done : (f : Data → Option Val) (vs : List Json) (k : ℕ) (front : Vals) (all : Option Vals) → length vs ≤ k
    → option_map (joined front) (each f (items_view (drop k vs))) ≡ all
    → all ≡ Some front
each_done f vs k front all h is = sym is ∙ rw (drop_all k vs h) (all_before front)

module _ (fs : List Face) where
  pub in_order_more : (ids : List ℕ) (vs : List Json) (k : ℕ) (d : Json) (front : Vals) (w : Value) → k < length ids → k < length vs
      → d ≡ get_or vs k d
      → value_of (at fs (get_or ids k 0)) (view d) ≡ Some (seen w)
      → option_map (joined front) (in_order (parts_at fs [] (drop k ids)) (items_view (drop k vs))) ≡ option_map
      (joined (joined front (val (seen w) no_more))) (in_order (parts_at fs [] (drop (k + 1) ids)) (items_view (drop (k + 1) vs)))
  unfolding value_of
  in_order_more ids vs k d front w h l same is =
      let here : value_of (at fs (get_or ids k 0)) (view (get_or vs k d)) ≡ Some (seen w) =
      ap (λ (x : Json). value_of (at fs (get_or ids k 0)) (view x)) (sym same) ∙ is in
      rw (add-one, drop-cons ids k 0, drop-cons vs k d)
      (more_before front (value_of (at fs (get_or ids k 0)) (view (get_or vs k d)))
      (in_order (parts_at fs [] (drop (suc k) ids)) (items_view (drop (suc k) vs))) (seen w) here)

  pub in_order_done : (ids : List ℕ) (vs : List Json) (k : ℕ) (front : Vals) (all : Option Vals) → length ids ≤ k → length vs ≤ k
      → option_map (joined front) (in_order (parts_at fs [] (drop k ids)) (items_view (drop k vs))) ≡ all → all ≡ Some front
  unfolding value_of
  in_order_done ids vs k front all h l is = sym is ∙ rw (drop_all k ids h, drop_all k vs l) (all_before front)

  in_order_none : (a : Option Val) (b : Option Vals) → b ≡ None → before a b ≡ None
  in_order_none None b h = refl
  in_order_none (Some v) b h = rw h refl

  -- another number of trees than of fields
  pub in_order_unlike : (ids : List ℕ) (vs : List Json) → (length vs ≡ length ids → ⊥)
      → in_order (parts_at fs [] ids) (items_view vs) ≡ None
  unfolding value_of
  in_order_unlike [] [] h = absurd (h refl)
  in_order_unlike [] (v ∷ vs) h = refl
  in_order_unlike (i ∷ ids) [] h = refl
  in_order_unlike (i ∷ ids) (v ∷ vs) h =
      in_order_none (value_of (at fs i) (view v)) (in_order (parts_at fs [] ids) (items_view vs))
      (in_order_unlike ids vs (λ e. h (ap suc e)))

  pub by_name_more : (names : List (List ℕ)) (ids : List ℕ) (k : ℕ) (d : List ℕ) (j part : Data) (front : Vals) (w : Value)
      → k < length names → k < length ids
      → d ≡ get_or names k d → get (text_of d) j ≡ Some part → value_of (at fs (get_or ids k 0)) part ≡ Some (seen w)
      → option_map (joined front) (by_name (parts_at fs (drop k names) (drop k ids)) (members_in j))
      ≡ option_map (joined (joined front (val (seen w) no_more)))
      (by_name (parts_at fs (drop (k + 1) names) (drop (k + 1) ids)) (members_in j))
  unfolding value_of
  by_name_more names ids k d j part front w h l same there is =
      let found : member_of (get_or names k d) (members_in j) ≡ Some part =
      sym (get-members (text_of (get_or names k d)) j) ∙ ap (λ (n : List ℕ). get (text_of n) j) (sym same) ∙ there in
      let read : option_and_then (value_of (at fs (get_or ids k 0))) (member_of (get_or names k d) (members_in j)) ≡ Some (seen w) =
      rw found is in
      rw (add-one, drop-cons ids k 0, drop-cons names k d)
      (more_before front _ (by_name (parts_at fs (drop (suc k) names) (drop (suc k) ids)) (members_in j)) (seen w) read)

  -- a field that is not there
  pub by_name_missed : (names : List (List ℕ)) (ids : List ℕ) (k : ℕ) (d : List ℕ) (j : Data) (front : Vals) (all : Option Vals)
      → k < length names → k < length ids
      → d ≡ get_or names k d → get (text_of d) j ≡ None
      → option_map (joined front) (by_name (parts_at fs (drop k names) (drop k ids)) (members_in j)) ≡ all
      → all ≡ None
  unfolding value_of
  by_name_missed names ids k d j front all h l same none is =
      let missed : member_of (get_or names k d) (members_in j) ≡ None =
      sym (get-members (text_of (get_or names k d)) j) ∙ ap (λ (n : List ℕ). get (text_of n) j) (sym same) ∙ none in
      sym is ∙ rw (drop-cons ids k 0, drop-cons names k d, missed) refl

  pub by_name_bad : (names : List (List ℕ)) (ids : List ℕ) (k : ℕ) (d : List ℕ) (j part : Data) (front : Vals) (all : Option Vals)
      → k < length names → k < length ids
      → d ≡ get_or names k d → get (text_of d) j ≡ Some part → value_of (at fs (get_or ids k 0)) part ≡ None
      → option_map (joined front) (by_name (parts_at fs (drop k names) (drop k ids)) (members_in j)) ≡ all
      → all ≡ None
  unfolding value_of
  by_name_bad names ids k d j part front all h l same there none is =
      let found : member_of (get_or names k d) (members_in j) ≡ Some part =
      sym (get-members (text_of (get_or names k d)) j) ∙ ap (λ (n : List ℕ). get (text_of n) j) (sym same) ∙ there in
      sym is ∙ rw (drop-cons ids k 0, drop-cons names k d, found, none) refl

  pub by_name_done : (names : List (List ℕ)) (ids : List ℕ) (k : ℕ) (ms : Members) (front : Vals) (all : Option Vals) → length ids ≤ k
      → option_map (joined front) (by_name (parts_at fs (drop k names) (drop k ids)) ms) ≡ all
      → all ≡ Some front
  unfolding value_of
  by_name_done names ids k ms front all h is = sym is ∙ rw (drop_all k ids h) (all_before front)
