-- Items that are found by their names and by their numbers, by induction on the items.
use Rattle.std.proofs.Common.{◌≡◌, Bool, true, false, cond, ℕ, zero, suc, ◌-◌, ◌<◌, ◌≤◌, ℤ, List, [], ◌∷◌, length, map, drop, get_or, Option, Some, String, option_map, string_bytes, refl, ap, sym, ◌∙◌, arith}
use Rattle.std.specs.Prelude.{if◌then◌else◌}
use Rattle.std.specs.Map.{update}
use Rattle.std.specs.BTreeMap.{BTreeMap, get, get_by_text, Updates}
use Rattle.std.specs.Ordering.{int_cmp, int_eq}
use Rattle.std.specs.Str.{bytes_eq}
use Rattle.std.proofs.Math.Seq.{drop-cons}
use Rattle.std.proofs.lemmas.List.{get_or_default}
use Rattle.pres.specs.Faces.{ItemList}
use Rattle.pres.specs.Tables.{FindsNumbers, FindsTexts, number_named, text_numbered, text_of}

chosen : {Y : Type 0} (b : Bool) (t : String Y) (s : List ℕ) (o : Option (String Y)) → string_bytes t ≡ s
    → option_map string_bytes (cond b (Some t) o) ≡ (if b then Some s else option_map string_bytes o)
chosen true t s o e = ap (λ z. Some z) e
chosen false t s o e = refl

-- one more number has its text
pub text_put : {Y : Type 0} (old new : BTreeMap ℤ (String Y)) (k : ℤ) (t : String Y) (s : List ℕ) → string_bytes t ≡ s
    → Updates int_cmp old new k (Some t) → (m : ℤ) → k ≡ m
    → (q : ℤ) → option_map string_bytes (get int_cmp new q) ≡ (if int_eq m q then Some s else option_map string_bytes (get int_cmp old q))
text_put old new k t s e updates m same q =
    ap (option_map string_bytes) (updates.0 q) ∙ chosen (int_eq k q) t s (get int_cmp old q) e
    ∙ ap (λ (n : ℤ). cond (int_eq n q) (Some s) (option_map string_bytes (get int_cmp old q))) same

-- the item before a place is the first of those from it on
drop-item : (items : ItemList) (i : ℕ) (d : List ℕ × ℤ) → i < length items → drop i items ≡ get_or items i d ∷ drop (suc i) items
drop-item items i d h = drop-cons items i d h

-- one more name has its number
pub number_put : {X Y : Type 0} (old new : BTreeMap (String Y) X) (bs name : List ℕ) (k n : X) → bs ≡ text_of name → k ≡ n
    → ((s : List ℕ) → get_by_text new s ≡ update bytes_eq (get_by_text old) bs (Some k) s)
    → (s : List ℕ) → get_by_text new s ≡ (if bytes_eq (text_of name) s then Some n else get_by_text old s)
number_put {X} old new bs name k n e same put s =
    put s ∙ ap (λ (b : List ℕ). cond (bytes_eq b s) (Some k) (get_by_text old s)) e
    ∙ ap (λ (m : X). cond (bytes_eq (text_of name) s) (Some m) (get_by_text old s)) same

-- one more item, before those that are found
number_more : {Y : Type 0} (items : ItemList) (i : ℕ) (d : List ℕ × ℤ) (old new : BTreeMap (String Y) ℤ)
    → i < length items
    → FindsNumbers (drop (suc i) items) old
    → ((s : List ℕ) → get_by_text new s
    ≡ (if bytes_eq (text_of (get_or items i d).0) s then Some (get_or items i d).1 else get_by_text old s))
    → FindsNumbers (drop i items) new
number_more items i d old new h found put s =
    put s ∙ ap (λ o. cond (bytes_eq (text_of (get_or items i d).0) s) (Some (get_or items i d).1) o) (found s)
    ∙ ap (λ (l : ItemList). number_named l s) (sym (drop-item items i d h))

text_more : {Y : Type 0} (items : ItemList) (i : ℕ) (d : List ℕ × ℤ) (old new : BTreeMap ℤ (String Y)) → i < length items
    → FindsTexts (drop (suc i) items) old
    → ((n : ℤ) → option_map string_bytes (get int_cmp new n)
    ≡ (if int_eq (get_or items i d).1 n then Some (text_of (get_or items i d).0) else option_map string_bytes (get int_cmp old n)))
    → FindsTexts (drop i items) new
text_more items i d old new h found put n =
    put n ∙ ap (λ o. cond (int_eq (get_or items i d).1 n) (Some (text_of (get_or items i d).0)) o) (found n)
    ∙ ap (λ (l : ItemList). text_numbered l n) (sym (drop-item items i d h))

-- the same from the place after
pub number_before : {Y : Type 0} (items : ItemList) (i : ℕ) (d e : List ℕ × ℤ) (b : List ℕ) (old new : BTreeMap (String Y) ℤ) → 0 < i
    → (i ≤ length items) × FindsNumbers (drop i items) old → b ≡ (get_or items (i - 1) d).0
    → ((s : List ℕ) → get_by_text new s ≡ (if bytes_eq (text_of b) s then Some (get_or items (i - 1) e).1 else get_by_text old s))
    → (i - 1 ≤ length items) × FindsNumbers (drop (i - 1) items) new
number_before items i d e b old new some found b_is put =
    let there : i - 1 < length items = omega (arith, some, found.0) in
    let next : suc (i - 1) ≡ i = omega (arith, some) in (
      omega (arith, found.0),
      number_more items (i - 1) d old new there (rw next found.1)
          (λ s. put s ∙ ap (λ (c : List ℕ). cond (bytes_eq (text_of c) s) (Some (get_or items (i - 1) e).1) (get_by_text old s)) b_is
          ∙ ap (λ (x : List ℕ × ℤ). cond (bytes_eq (text_of (get_or items (i - 1) d).0) s) (Some x.1) (get_by_text old s))
          (get_or_default items (i - 1) e d there)),
    )

pub text_before : {Y : Type 0} (items : ItemList) (i : ℕ) (d e : List ℕ × ℤ) (b : List ℕ) (old new : BTreeMap ℤ (String Y)) → 0 < i
    → (i ≤ length items) × FindsTexts (drop i items) old → b ≡ (get_or items (i - 1) d).0
    → ((n : ℤ) → option_map string_bytes (get int_cmp new n)
    ≡ (if int_eq (get_or items (i - 1) e).1 n then Some (text_of b) else option_map string_bytes (get int_cmp old n)))
    → (i - 1 ≤ length items) × FindsTexts (drop (i - 1) items) new
text_before items i d e b old new some found b_is put =
    let there : i - 1 < length items = omega (arith, some, found.0) in
    let next : suc (i - 1) ≡ i = omega (arith, some) in (
      omega (arith, found.0),
      text_more items (i - 1) d old new there (rw next found.1)
          (λ n. put n ∙ ap (λ (c : List ℕ). cond (int_eq (get_or items (i - 1) e).1 n) (Some (text_of c))
          (option_map string_bytes (get int_cmp old n))) b_is
          ∙ ap (λ (x : List ℕ × ℤ). cond (int_eq x.1 n) (Some (text_of (get_or items (i - 1) d).0))
          (option_map string_bytes (get int_cmp old n))) (get_or_default items (i - 1) e d there)),
    )

-- the text at a place
pub text_at : {Y : Type 0} (texts : List (String Y)) (names : List (List ℕ)) (i : ℕ) (d : String Y)
    → map string_bytes texts ≡ map text_of names → i < length names
    → string_bytes (get_or texts i d) ≡ text_of (get_or names i [])
text_at [] [] i d e h = absurd (omega (arith, h))
text_at [] (n ∷ names) i d e h = absurd cc
text_at (t ∷ texts) [] i d e h = absurd cc
text_at (t ∷ texts) (n ∷ names) zero d e h = ap head e where
  head : List (List ℕ) → List ℕ
  head [] = []
  head (x ∷ xs) = x
text_at (t ∷ texts) (n ∷ names) (suc i) d e h = text_at texts names i d (ap tail e) (omega (arith, h)) where
  tail : List (List ℕ) → List (List ℕ)
  tail [] = []
  tail (x ∷ xs) = xs
