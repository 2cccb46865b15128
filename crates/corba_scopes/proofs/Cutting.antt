-- Where the prefix of a full name ends: at its last dot, by induction on its octets.
use Rattle.std.proofs.Common.{◌≡◌, ◌+◌, ◌<◌, ◌≤◌, ℕ, zero, suc, Bool, true, false, ◌==◌, List, [], ◌∷◌, ◌++◌, length, take, drop, get_or, refl, sym, ap, subst, ◌∙◌, arith, if◌then◌else◌, append-nil, append_assoc, take-append-drop, length-append}
use Rattle.std.specs.Prelude.{codes}
use Rattle.std.proofs.lemmas.Bool.{false_from_ne_true}
use Rattle.std.proofs.lemmas.Bool.Decides.{Decides-eqb}
use Rattle.memchr.specs.Find.{Nowhere, NoneAfter, Passes, is_byte}
use Rattle.corba_scopes.specs.Around.{prefix_of}
use Rattle.corba_scopes.specs.Parted.{cut_within, cut, prefix_in, own_in}

step_by : (b : Bool) (n c : ℕ) → b ≡ false → (if b then suc n else c) ≡ c
step_by true n c h = absurd cc
step_by false n c h = refl

here_by : (b : Bool) (n c : ℕ) → b ≡ true → (if b then suc n else c) ≡ suc n
here_by true n c h = refl
here_by false n c h = absurd cc

true_false : true ≡ false → ⊥
true_false h = absurd cc

-- ---- the last dot

-- without a dot there is no prefix
free_within : (full : List ℕ) (n : ℕ) → Nowhere (Passes (is_byte 46) full) 0 n → cut_within full n ≡ 0
free_within full zero h = refl
free_within full (suc n) h =
    step_by (get_or full n 0 == 46) n (cut_within full n)
    (false_from_ne_true (get_or full n 0 == 46) (h n (omega arith) (omega arith)))
    ∙ free_within full n (λ k low high. h k low (omega arith))

-- the last dot is the end
last_within : (full : List ℕ) (n k : ℕ) → k < n → Passes (is_byte 46) full k → Nowhere (Passes (is_byte 46) full) (k + 1) n
    → cut_within full n ≡ k + 1
last_within full zero k below at after = absurd (omega arith)
last_within full (suc n) k below at after =
    by (get_or full n 0 == 46) refl
    (λ less. last_within full n k less at (λ m low high. after m low (omega arith))) where
      by : (b : Bool) → (get_or full n 0 == 46) ≡ b → (k < n → cut_within full n ≡ k + 1) → cut_within full (suc n) ≡ k + 1
      by true is rest =
          let none : k + 1 ≤ n → ⊥ = λ low. after n low (omega arith) is in
          here_by (get_or full n 0 == 46) n (cut_within full n) is ∙ (omega arith)
      by false is rest =
          let other : n ≡ k → ⊥ = λ same. true_false (sym (subst (λ z. (get_or full z 0 == 46) ≡ true) (sym same) at) ∙ is) in
          step_by (get_or full n 0 == 46) n (cut_within full n) is ∙ rest (omega arith)

pub cut_free : (full : List ℕ) → Nowhere (Passes (is_byte 46) full) 0 (length full) → 0 ≡ cut full
cut_free full h = sym (free_within full (length full) h)

pub cut_last : (full : List ℕ) (k : ℕ) → NoneAfter (Passes (is_byte 46) full) 0 (length full) k × Passes (is_byte 46) full k
    → k + 1 ≡ cut full
cut_last full k h = sym (last_within full (length full) k h.0.high h.1 h.0.after)

-- ---- octets before and after a place

get_at : (xs : List ℕ) (c : ℕ) (cs : List ℕ) → get_or (xs ++ c ∷ cs) (length xs) 0 ≡ c
get_at [] c cs = refl
get_at (x ∷ xs) c cs = get_at xs c cs

get_left : (xs ys : List ℕ) (k : ℕ) → k < length xs → get_or (xs ++ ys) k 0 ≡ get_or xs k 0
get_left [] ys k h = absurd (omega arith)
get_left (x ∷ xs) ys zero h = refl
get_left (x ∷ xs) ys (suc k) h = get_left xs ys k (omega arith)

get_right : (xs ys : List ℕ) (k n : ℕ) → k ≡ length xs + n → get_or (xs ++ ys) k 0 ≡ get_or ys n 0
get_right [] ys k n e = let same : k ≡ n = omega (arith, e) in ap (λ z. get_or ys z 0) same
get_right (x ∷ xs) ys zero n e = absurd (omega arith)
get_right (x ∷ xs) ys (suc k) n e = get_right xs ys k n (omega arith)

pub take_length : (xs : List ℕ) (k : ℕ) → k ≤ length xs → length (take k xs) ≡ k
take_length xs zero h = refl
take_length [] (suc k) h = absurd (omega arith)
take_length (x ∷ xs) (suc k) h = ap suc (take_length xs k (omega arith))

get_taken : (xs : List ℕ) (m k : ℕ) → k < m → get_or (take m xs) k 0 ≡ get_or xs k 0
get_taken xs zero k h = absurd (omega arith)
get_taken [] (suc m) k h = refl
get_taken (x ∷ xs) (suc m) zero h = refl
get_taken (x ∷ xs) (suc m) (suc k) h = get_taken xs m k (omega arith)

take_past : (xs ys : List ℕ) (k n : ℕ) → k ≡ length xs + n → take k (xs ++ ys) ≡ xs ++ take n ys
take_past [] ys k n e = let same : k ≡ n = omega (arith, e) in ap (λ z. take z ys) same
take_past (x ∷ xs) ys zero n e = absurd (omega arith)
take_past (x ∷ xs) ys (suc k) n e = ap (λ z. x ∷ z) (take_past xs ys k n (omega arith))

drop_past : (xs ys : List ℕ) (k n : ℕ) → k ≡ length xs + n → drop k (xs ++ ys) ≡ drop n ys
drop_past [] ys k n e = let same : k ≡ n = omega (arith, e) in ap (λ z. drop z ys) same
drop_past (x ∷ xs) ys zero n e = absurd (omega arith)
drop_past (x ∷ xs) ys (suc k) n e = drop_past xs ys k n (omega arith)

length_more : (xs : List ℕ) (c : ℕ) → length (xs ++ c ∷ []) ≡ suc (length xs)
length_more [] c = refl
length_more (x ∷ xs) c = ap suc (length_more xs c)

-- ---- names after a scope's prefix

pub within_length : (full : List ℕ) (n : ℕ) → cut_within full n ≤ n
within_length full zero = omega arith
within_length full (suc n) = by (get_or full n 0 == 46) (within_length full n) where
  by : (b : Bool) → cut_within full n ≤ n → (if b then suc n else cut_within full n) ≤ suc n
  by true h = omega arith
  by false h = omega arith

within_left : (scope name : List ℕ) (n : ℕ) → n ≤ length scope → cut_within (scope ++ name) n ≡ cut_within scope n
within_left scope name zero h = refl
within_left scope name (suc n) h =
    ap (λ z. if z == 46 then suc n else cut_within (scope ++ name) n) (get_left scope name n (omega arith))
    ∙ ap (λ z. if get_or scope n 0 == 46 then suc n else z) (within_left scope name n (omega arith))

-- the last dot of a name is that of the name after a prefix that ends in one
within_right : (scope name : List ℕ) (k n : ℕ) → cut scope ≡ length scope → k ≡ length scope + n
    → cut_within (scope ++ name) k ≡ length scope + cut_within name n
within_right scope name k zero ends e =
    ap (cut_within (scope ++ name)) (omega (arith, e)) ∙ within_left scope name (length scope) (omega arith) ∙ ends ∙ (omega arith)
within_right scope name zero (suc n) ends e = absurd (omega arith)
within_right scope name (suc k) (suc n) ends e =
    ap (λ z. if z == 46 then suc k else cut_within (scope ++ name) k) (get_right scope name k n (omega (arith, e)))
    ∙ by (get_or name n 0 == 46) (within_right scope name k n ends (omega (arith, e))) where
      by : (b : Bool) → cut_within (scope ++ name) k ≡ length scope + cut_within name n
          → (if b then suc k else cut_within (scope ++ name) k) ≡ length scope + (if b then suc n else cut_within name n)
      by true h = omega (arith, e)
      by false h = h

cut_after : (scope name : List ℕ) → cut scope ≡ length scope → cut (scope ++ name) ≡ length scope + cut name
cut_after scope name ends = within_right scope name (length (scope ++ name)) (length name) ends (length-append scope name)

-- the prefix of a name after that of a scope
pub prefix_after : (scope name : List ℕ) → cut scope ≡ length scope → prefix_in (scope ++ name) ≡ scope ++ prefix_in name
prefix_after scope name ends = take_past scope name (cut (scope ++ name)) (cut name) (cut_after scope name ends)

-- the own part of a name after the prefix of a scope
pub own_after : (scope name : List ℕ) → cut scope ≡ length scope → own_in (scope ++ name) ≡ own_in name
own_after scope name ends = drop_past scope name (cut (scope ++ name)) (cut name) (cut_after scope name ends)

-- ---- prefixes end in a dot

front_within : (full : List ℕ) (n : ℕ) → cut_within (take (cut_within full n) full) (cut_within full n) ≡ cut_within full n
front_within full zero = refl
front_within full (suc n) = by (get_or full n 0 == 46) refl (front_within full n) where
  by : (b : Bool) → (get_or full n 0 == 46) ≡ b
      → cut_within (take (cut_within full n) full) (cut_within full n) ≡ cut_within full n
      → cut_within (take (if b then suc n else cut_within full n) full) (if b then suc n else cut_within full n)
      ≡ (if b then suc n else cut_within full n)
  by true is rest =
      here_by (get_or (take (suc n) full) n 0 == 46) n (cut_within (take (suc n) full) n)
      (ap (λ z. z == 46) (get_taken full (suc n) n (omega arith)) ∙ is)
  by false is rest = rest

-- a prefix is one up to its end
pub cut_front : (full : List ℕ) → cut (prefix_in full) ≡ length (prefix_in full)
cut_front full =
    let size = take_length full (cut full) (within_length full (length full)) in
    ap (cut_within (prefix_in full)) size ∙ front_within full (length full) ∙ sym size

-- an own part has no prefix
pub cut_own : (full : List ℕ) → cut (own_in full) ≡ 0
cut_own full =
    let size = take_length full (cut full) (within_length full (length full)) in
    let sum = cut_after (prefix_in full) (own_in full) (cut_front full) in
    let whole = ap cut (take-append-drop (cut full) full) in
    omega (arith, size, sum, whole)

dot_is : codes "." ≡ 46 ∷ []
dot_is = refl

-- octets with a dot after them
dot_within : (full : List ℕ) → cut (full ++ 46 ∷ []) ≡ length (full ++ 46 ∷ [])
dot_within full =
    let size = length_more full 46 in
    ap (cut_within (full ++ 46 ∷ [])) size
    ∙ here_by (get_or (full ++ 46 ∷ []) (length full) 0 == 46) (length full) (cut_within (full ++ 46 ∷ []) (length full))
    (ap (λ z. z == 46) (get_at full 46 [])) ∙ sym size

-- the prefix of a scope ends in a dot
pub cut_scope : (full : List ℕ) → cut (prefix_of full) ≡ length (prefix_of full)
cut_scope full = subst (λ z. cut (full ++ z) ≡ length (full ++ z)) (sym dot_is) (dot_within full)

dot_last : (name : List ℕ) (c : ℕ) → cut (name ++ c ∷ []) ≡ length (name ++ c ∷ []) → name ++ c ∷ [] ≡ prefix_of name
dot_last name c ends = ap (λ z. name ++ z ∷ []) (by (c == 46) refl) ∙ ap (λ z. name ++ z) (sym dot_is) where
  by : (b : Bool) → (c == 46) ≡ b → c ≡ 46
  by true is = (Decides-eqb c 46).0 is
  by false is =
      let size = length_more name c in
      let full = name ++ c ∷ [] in
      let less = within_length full (length name) in
      let none : cut_within full (suc (length name)) ≡ cut_within full (length name) =
      step_by (get_or full (length name) 0 == 46) (length name) (cut_within full (length name))
      (ap (λ z. z == 46) (get_at name c []) ∙ is) in
      let same : cut full ≡ cut_within full (suc (length name)) = ap (cut_within full) size in
      absurd (omega (arith, size, less, none, same, ends))

-- ---- an own part after the prefix of its scope

pub prefix_of_own : (scope own : List ℕ) → cut scope ≡ length scope → cut own ≡ 0 → prefix_in (scope ++ own) ≡ scope
prefix_of_own scope own ends none =
    prefix_after scope own ends ∙ ap (λ z. scope ++ take z own) none ∙ append-nil scope

pub own_of_own : (scope own : List ℕ) → cut scope ≡ length scope → cut own ≡ 0 → own_in (scope ++ own) ≡ own
own_of_own scope own ends none = own_after scope own ends ∙ ap (λ z. drop z own) none

-- ---- a name that is split at its last dot

pub front_ends : (name front : List ℕ) (n : ℕ) → n ≡ cut name → front ≡ take n name → cut front ≡ length front
front_ends name front n is before = subst (λ z. cut z ≡ length z) (sym (before ∙ ap (λ z. take z name) is)) (cut_front name)

pub own_ends : (name own : List ℕ) (n : ℕ) → n ≡ cut name → own ≡ drop n name → cut own ≡ 0
own_ends name own n is after = ap cut (after ∙ ap (λ z. drop z name) is) ∙ cut_own name

split_last : (xs : List ℕ) (n : ℕ) → n + 1 ≡ length xs → take n xs ++ get_or xs n 0 ∷ [] ≡ xs
split_last [] n e = absurd (omega (arith, e))
split_last (x ∷ []) zero e = refl
split_last (x ∷ y ∷ ys) zero e = absurd (omega (arith, e))
split_last (x ∷ xs) (suc n) e = ap (λ z. x ∷ z) (split_last xs n (omega (arith, e)))

-- octets up to a dot are the prefix of a scope, and so they are after another
pub front_scope : (scope front : List ℕ) (n : ℕ) → n + 1 ≡ length front → cut front ≡ length front
    → prefix_of (scope ++ take n front) ≡ scope ++ front
front_scope scope front n e ends =
    let last = get_or front n 0 in
    let whole : take n front ++ last ∷ [] ≡ front = split_last front n e in
    append_assoc scope (take n front) (prefix_of [])
    ∙ ap (λ z. scope ++ z) (sym (dot_last (take n front) last (ap cut whole ∙ ends ∙ ap length (sym whole))) ∙ whole)

-- nothing is after a scope
pub front_empty : (scope front : List ℕ) → length front < 1 → scope ++ front ≡ scope
front_empty scope [] h = append-nil scope
front_empty scope (c ∷ cs) h = absurd (omega (arith, h))

pub split_is : (name front own : List ℕ) (n : ℕ) → front ≡ take n name → own ≡ drop n name → front ++ own ≡ name
split_is name front own n before after =
    ap (λ z. z ++ own) before ∙ ap (λ z. take n name ++ z) after ∙ take-append-drop n name
