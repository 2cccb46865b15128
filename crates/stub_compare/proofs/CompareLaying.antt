-- The octets of puts, laid one after the other.
use Rattle.std.proofs.Common.{◌≡◌, ℕ, zero, suc, ◌+◌, ◌-◌, ◌<◌, ◌≤◌, Bool, true, false, List, [], ◌∷◌, length, map, drop, get_or, replicate, slice_get, Option, Some, None, Result, IfOk, option_map, refl, sym, ap, ◌∙◌, subst, arith}
use Rattle.std.specs.List.{range_with_len}
use Rattle.std.proofs.Math.ListN.{drop_of_length-le}
use Rattle.std.proofs.lemmas.List.FromFn.{length-map-range_with_len}
use Rattle.cast_stub.specs.declared.put.Put.{Put}
use Rattle.cast_stub.specs.Parts.{on_some}
use Rattle.cast_stub.specs.Puts.{offset}
use Rattle.stub_flat.specs.Items.{Cell, Places, piece, put_on, puts_on, all_put, cells}
use Rattle.stub_compare.specs.CompareCells.{Owner, is_turned, laid, laid_one, lengths, owned, owners, plus, put_length, seen, turned_at}
use Rattle.stub_compare.specs.CompareText.{cell_text, cells_text}
use Rattle.stub_compare.specs.CompareTold.{IsLed, IsLedWhere, IsPut, IsTold}
use Rattle.stub_compare.proofs.CompareLists.{first_of, first_or, range_all, range_next, range_none}
use Rattle.stub_compare.proofs.CompareLaid.{laid_all, laid_more, laid_outside, no_piece, piece_owned, put_seen}
use Rattle.stub_compare.proofs.CompareCounts.{cells_lengths}
use Rattle.stub_compare.proofs.CompareOps.{absent_told, led_absent, led_then, told_absent}

-- ---- answers

-- something that is there, and is known
pub told_there : {A : Type 0} (o : Option A) (a : A) → o ≡ Some a → IsTold true o (λ b. b ≡ a)
told_there (Some b) a e = cc
told_there None a e = absurd (cc)

pub there_told : {A : Type 0} (o : Option A) (a : A) → IsTold true o (λ b. b ≡ a) → o ≡ Some a
there_told (Some b) a e = ap (λ z. Some z) e
there_told None a e = absurd e

-- an answer that is yes, and one that is no
pub now_told : {A : Type 0} (told : Bool) (o : Option A) (P : A → Type 0) → told ≡ true → IsTold told o P → IsTold true o P
now_told {A} told o P e h = subst (λ (b : Bool). IsTold b o P) e h

pub not_told : {A : Type 0} (told : Bool) (o : Option A) (P : A → Type 0) → told ≡ false → IsTold told o P → IsTold false o P
not_told {A} told o P e h = subst (λ (b : Bool). IsTold b o P) e h

-- ---- lengths of puts

pub plus_none : (a : Option ℕ) → plus (Some 0) a ≡ a
plus_none None = refl
plus_none (Some n) = let e : 0 + n ≡ n = omega arith in ap (λ k. Some k) e

plus_last : (a : Option ℕ) → plus a (Some 0) ≡ a
plus_last None = refl
plus_last (Some n) = let e : n + 0 ≡ n = omega arith in ap (λ k. Some k) e

plus_assoc : (a b c : Option ℕ) → plus a (plus b c) ≡ plus (plus a b) c
plus_assoc None b c = refl
plus_assoc (Some n) None c = refl
plus_assoc (Some n) (Some m) None = refl
plus_assoc (Some n) (Some m) (Some k) = let e : n + (m + k) ≡ n + m + k = omega arith in ap (λ z. Some z) e

pub lengths_more : (all : Option ℕ) (ps : List Put) (i : ℕ) (p : Put) (a b c : Option ℕ) → i < length ps → p ≡ get_or ps i p
    → plus a (lengths (drop i ps)) ≡ all → b ≡ put_length p → c ≡ plus a b → plus c (lengths (drop (i + 1) ps)) ≡ all
lengths_more all ps i p a b c less at left is sum =
    ap (λ x. plus x (lengths (drop (i + 1) ps))) (sum ∙ ap (plus a) is)
    ∙ sym (plus_assoc a (put_length p) (lengths (drop (i + 1) ps)))
    ∙ ap (λ (l : List Put). plus a (lengths l)) (sym (first_of ps i p less at)) ∙ left

pub lengths_done : (ps all : List Put) (i : ℕ) (a : Option ℕ) → length ps ≤ i → ps ≡ all → plus a (lengths (drop i ps)) ≡ lengths ps
    → a ≡ lengths all
lengths_done ps all i a le same left =
    sym (plus_last a) ∙ ap (λ (l : List Put). plus a (lengths l)) (sym (drop_of_length-le ps le)) ∙ left ∙ ap lengths same

-- ---- octets of a put

-- an octet of the put of a number, in its place
abbrev pub own : ℕ → Bool → ℕ → ℕ → Owner
own i t n k = (i, turned_at t n k)

-- the octets of the put of a number from one on
abbrev pub owners_from : ℕ → Bool → ℕ → ℕ → List Owner
owners_from i t n j = map (own i t n) (range_with_len j (n - j))

-- what is left to be laid
abbrev pub IsLeft : ℕ → ℕ → Bool → ℕ → ℕ → List (Option Owner) → List (Option Owner) → Type 0
IsLeft at i t n j old now = laid at (owners i t n) old ≡ laid (at + j) (owners_from i t n j) now

pub lay_none : (at i : ℕ) (t : Bool) (n : ℕ) (cs : List (Option Owner)) → IsLeft at i t n 0 cs cs
lay_none at i t n cs =
    let e : at ≡ at + 0 = omega arith in
    ap (λ k. laid k (owners i t n) cs) e
    ∙ ap (λ (ks : List ℕ). laid (at + 0) (map (own i t n) ks) cs) (sym (range_all n))

lay_step : (at i : ℕ) (t : Bool) (n j : ℕ) (cs : List (Option Owner)) → j < n
    → laid (at + j) (owners_from i t n j) cs
    ≡ on_some (laid_one (at + j) (i, turned_at t n j) cs) (laid (at + (j + 1)) (owners_from i t n (j + 1)))
lay_step at i t n j cs less =
    let e : suc (at + j) ≡ at + (j + 1) = omega arith in
    ap (λ (ks : List ℕ). laid (at + j) (map (own i t n) ks) cs) (range_next n j less)
    ∙ laid_more (at + j) (i, turned_at t n j) (owners_from i t n (j + 1)) cs
    ∙ ap (λ k. on_some (laid_one (at + j) (i, turned_at t n j) cs) (laid k (owners_from i t n (j + 1)))) e

-- one octet as it is numbered
same_owner : (i m k at : ℕ) (told : Bool) (cs : List (Option Owner)) (P : List (Option Owner) → Type 0) → m ≡ k
    → IsTold told (laid_one at (i, m) cs) P → IsTold told (laid_one at (i, k) cs) P
same_owner i m k at told cs P is h = subst (λ x. IsTold told (laid_one at (i, x) cs) P) is h

pub lay_more : (at i : ℕ) (t : Bool) (n j m : ℕ) (old now next : List (Option Owner)) → j < n → m ≡ turned_at t n j
    → IsLeft at i t n j old now → IsTold true (laid_one (at + j) (i, m) now) (λ ds. ds ≡ next) → IsLeft at i t n (j + 1) old next
lay_more at i t n j m old now next less is left put =
    left ∙ lay_step at i t n j now less
    ∙ ap (λ (o : Option (List (Option Owner))). on_some o (laid (at + (j + 1)) (owners_from i t n (j + 1))))
    (there_told (laid_one (at + j) (i, turned_at t n j) now) next
    (same_owner i m (turned_at t n j) (at + j) true now (λ ds. ds ≡ next) is put))

pub lay_taken : (at i : ℕ) (t : Bool) (n j m : ℕ) (old now next new : List (Option Owner)) → j < n → m ≡ turned_at t n j
    → IsLeft at i t n j old now → IsTold false (laid_one (at + j) (i, m) now) (λ ds. ds ≡ next)
    → IsTold false (laid at (owners i t n) old) (λ ds. ds ≡ new)
lay_taken at i t n j m old now next new less is left put =
    told_absent (laid at (owners i t n) old) (λ ds. ds ≡ new) (left ∙ lay_step at i t n j now less
    ∙ ap (λ (o : Option (List (Option Owner))). on_some o (laid (at + (j + 1)) (owners_from i t n (j + 1))))
    (absent_told (laid_one (at + j) (i, turned_at t n j) now) (λ ds. ds ≡ next)
    (same_owner i m (turned_at t n j) (at + j) false now (λ ds. ds ≡ next) is put)))

pub lay_done : (at i : ℕ) (t : Bool) (n j : ℕ) (old now : List (Option Owner)) → n ≤ j → at + j ≤ length now → IsLeft at i t n j old now
    → IsTold true (laid at (owners i t n) old) (λ ds. ds ≡ now)
lay_done at i t n j old now le within left =
    told_there (laid at (owners i t n) old) now (left
    ∙ ap (λ (ks : List ℕ). laid (at + j) (map (own i t n) ks) now) (range_none n j le) ∙ laid_all (at + j) now within)

pub lay_outside : (at i : ℕ) (t : Bool) (n : ℕ) (old new : List (Option Owner)) → length old < at + n
    → IsTold false (laid at (owners i t n) old) (λ ds. ds ≡ new)
lay_outside at i t n old new lt =
    let long : length (owners i t n) ≡ n = length-map-range_with_len (own i t n) 0 n in
    told_absent (laid at (owners i t n) old) (λ ds. ds ≡ new) (laid_outside at (owners i t n) old (omega (arith, lt, long)))

-- ---- puts

told_mapped : (ps : List Put) (told : Bool) (o : Option (List (Option Owner))) (new : List (Option Owner))
    → IsTold told o (λ ds. ds ≡ new) → IsTold told (option_map (seen ps) o) (λ ds. ds ≡ seen ps new)
told_mapped ps true (Some ds) new h = ap (seen ps) h
told_mapped ps true None new h = absurd h
told_mapped ps false (Some ds) new h = absurd h
told_mapped ps false None new h = tt

-- what a put lays, in cells
pub put_laid : (ps : List Put) (p : Put) (i n : ℕ) (told : Bool) (t : Bool) (at : ℕ) (old new : List (Option Owner))
    → slice_get ps i ≡ Some p → put_length p ≡ Some n → at ≡ offset p → t ≡ is_turned p
    → IsTold told (laid at (owners i t n) old) (λ ds. ds ≡ new)
    → IsTold told (on_some (piece p) (λ os. put_on (offset p) os (seen ps old))) (λ ds. ds ≡ seen ps new)
put_laid ps p i n told t at old new there long off turned h =
    let same = subst (λ (b : Bool). IsTold told (laid (offset p) (owners i b n) old) (λ ds. ds ≡ new)) turned
    (subst (λ k. IsTold told (laid k (owners i t n) old) (λ ds. ds ≡ new)) off h) in
    let mapped = told_mapped ps told (laid (offset p) (owners i (is_turned p) n) old) new same in
    let cells_put = subst (λ (o : Option Places). IsTold told o (λ ds. ds ≡ seen ps new))
    (sym (put_seen ps (offset p) (owners i (is_turned p) n) old)) mapped in
    subst (λ (o : Option (List Cell)). IsTold told (on_some o (λ os. put_on (offset p) os (seen ps old))) (λ ds. ds ≡ seen ps new))
    (sym (piece_owned ps i p n there long)) cells_put

pub put_narrow : (ps : List Put) (p : Put) (old new : List (Option Owner)) → put_length p ≡ None
    → IsTold false (on_some (piece p) (λ os. put_on (offset p) os (seen ps old))) (λ ds. ds ≡ seen ps new)
put_narrow ps p old new none =
    subst (λ (o : Option (List Cell)). IsTold false (on_some o (λ os. put_on (offset p) os (seen ps old))) (λ ds. ds ≡ seen ps new))
    (sym (no_piece p none)) tt

puts_step : (p : Put) (ps : List Put) (cs : Places)
    → puts_on (p ∷ ps) cs ≡ on_some (on_some (piece p) (λ os. put_on (offset p) os cs)) (puts_on ps)
puts_step p ps cs = step (piece p) where
  step : (o : Option (List Cell)) → on_some o (λ os. on_some (put_on (offset p) os cs) (puts_on ps))
      ≡ on_some (on_some o (λ os. put_on (offset p) os cs)) (puts_on ps)
  step None = refl
  step (Some os) = refl

pub puts_more : (all qs : List Put) (ps : List Put) (i : ℕ) (p : Put) (old now next : List (Option Owner)) → i < length qs
    → p ≡ get_or qs i p
    → puts_on all (seen ps old) ≡ puts_on (drop i qs) (seen ps now)
    → IsTold true (on_some (piece p) (λ os. put_on (offset p) os (seen ps now))) (λ ds. ds ≡ seen ps next)
    → puts_on all (seen ps old) ≡ puts_on (drop (i + 1) qs) (seen ps next)
puts_more all qs ps i p old now next less at left put =
    left ∙ ap (λ (l : List Put). puts_on l (seen ps now)) (first_of qs i p less at)
    ∙ puts_step p (drop (i + 1) qs) (seen ps now)
    ∙ ap (λ (o : Option Places). on_some o (puts_on (drop (i + 1) qs)))
    (there_told (on_some (piece p) (λ os. put_on (offset p) os (seen ps now))) (seen ps next) put)

pub puts_nothing : (all qs : List Put) (ps : List Put) (i : ℕ) (p : Put) (old now next new : List (Option Owner)) → i < length qs
    → p ≡ get_or qs i p → qs ≡ all → puts_on qs (seen ps old) ≡ puts_on (drop i qs) (seen ps now)
    → IsTold false (on_some (piece p) (λ os. put_on (offset p) os (seen ps now))) (λ ds. ds ≡ seen ps next)
    → IsTold false (puts_on all (seen ps old)) (λ ds. ds ≡ seen ps new)
puts_nothing all qs ps i p old now next new less at same left put =
    told_absent (puts_on all (seen ps old)) (λ ds. ds ≡ seen ps new)
    (ap (λ (l : List Put). puts_on l (seen ps old)) (sym same) ∙ left
    ∙ ap (λ (l : List Put). puts_on l (seen ps now)) (first_of qs i p less at)
    ∙ puts_step p (drop (i + 1) qs) (seen ps now)
    ∙ ap (λ (o : Option Places). on_some o (puts_on (drop (i + 1) qs)))
    (absent_told (on_some (piece p) (λ os. put_on (offset p) os (seen ps now))) (λ ds. ds ≡ seen ps next) put))

pub puts_done : (all qs : List Put) (ps : List Put) (i : ℕ) (old now : List (Option Owner)) → length qs ≤ i → qs ≡ all
    → puts_on qs (seen ps old) ≡ puts_on (drop i qs) (seen ps now) → IsTold true (puts_on all (seen ps old)) (λ ds. ds ≡ seen ps now)
puts_done all qs ps i old now le same left =
    told_there (puts_on all (seen ps old)) (seen ps now)
    (ap (λ (l : List Put). puts_on l (seen ps old)) (sym same) ∙ left
    ∙ ap (λ (l : List Put). puts_on l (seen ps now)) (drop_of_length-le qs le))

-- a put at its place
pub put_there : (ps : List Put) (i : ℕ) (p : Put) → i < length ps → p ≡ get_or ps i p → slice_get ps i ≡ Some p
put_there [] i p less at = absurd (omega arith)
put_there (q ∷ ps) zero p less at = ap (λ (z : Put). Some z) (sym at)
put_there (q ∷ ps) (suc i) p less at = put_there ps i p (omega (arith, less)) at

-- ---- places

place_led : (told : Bool) (c : Option Cell) (cs : Places) (old new : List ℕ) → IsTold told c (λ x. IsPut old (cell_text x) new)
    → IsLedWhere cells_text told (all_put (c ∷ cs)) (all_put cs) old new
place_led true (Some x) cs old new h = led (all_put cs) where
  led : (o : Option (List Cell)) → IsLed cells_text (option_map (λ os. x ∷ os) o) o old new
  led (Some os) = λ rest. h (cells_text os rest)
  led None = tt
place_led true None cs old new h = absurd h
place_led false (Some x) cs old new h = absurd h
place_led false None cs old new h = refl

pub opened : (xs : List (Option Owner)) (i : ℕ) (c : Option Owner) → i < length xs → c ≡ get_or xs i None → drop i xs ≡ c ∷ drop (i + 1) xs
opened xs i c = first_or xs i c None

pub place_more : (all : Option (List Cell)) (ps : List Put) (xs : List (Option Owner)) (i : ℕ) (c : Option Owner) (old mid new : List ℕ)
    → i < length xs → c ≡ get_or xs i None → IsLed cells_text all (all_put (seen ps (drop i xs))) old mid
    → IsTold true (option_map (owned ps) c) (λ x. IsPut mid (cell_text x) new)
    → IsLed cells_text all (all_put (seen ps (drop (i + 1) xs))) old new
place_more all ps xs i c old mid new less at left put =
    let here : drop i xs ≡ c ∷ drop (i + 1) xs = opened xs i c less at in
    led_then cells_text all (all_put (seen ps (c ∷ drop (i + 1) xs))) (all_put (seen ps (drop (i + 1) xs))) old mid new
    (subst (λ (l : List (Option Owner)). IsLed cells_text all (all_put (seen ps l)) old mid) here left)
    (place_led true (option_map (owned ps) c) (seen ps (drop (i + 1) xs)) mid new put)

pub place_nothing : (ps : List Put) (xs : List (Option Owner)) (i : ℕ) (c : Option Owner) (old mid new : List ℕ)
    → i < length xs → c ≡ get_or xs i None → IsLed cells_text (all_put (seen ps xs)) (all_put (seen ps (drop i xs))) old mid
    → IsTold false (option_map (owned ps) c) (λ x. IsPut mid (cell_text x) new)
    → IsTold false (all_put (seen ps xs)) (λ os. IsPut old (cells_text os) new)
place_nothing ps xs i c old mid new less at left put =
    let here : drop i xs ≡ c ∷ drop (i + 1) xs = opened xs i c less at in
    told_absent (all_put (seen ps xs)) (λ os. IsPut old (cells_text os) new)
    (led_absent cells_text (all_put (seen ps xs)) (all_put (seen ps (c ∷ drop (i + 1) xs))) old mid
    (subst (λ (l : List (Option Owner)). IsLed cells_text (all_put (seen ps xs)) (all_put (seen ps l)) old mid) here left)
    (place_led false (option_map (owned ps) c) (seen ps (drop (i + 1) xs)) mid new put))

places_end : (a : Option (List Cell)) (old new : List ℕ) → IsLed cells_text a (Some []) old new
    → IsTold true a (λ os. IsPut old (cells_text os) new)
places_end (Some os) old new l = l
places_end None old new l = absurd l

pub places_done : (ps : List Put) (xs : List (Option Owner)) (i : ℕ) (old new : List ℕ) → length xs ≤ i
    → IsLed cells_text (all_put (seen ps xs)) (all_put (seen ps (drop i xs))) old new
    → IsTold true (all_put (seen ps xs)) (λ os. IsPut old (cells_text os) new)
places_done ps xs i old new le left =
    places_end (all_put (seen ps xs)) old new
    (subst (λ (l : List (Option Owner)). IsLed cells_text (all_put (seen ps xs)) (all_put (seen ps l)) old new)
    (drop_of_length-le xs le) left)

-- ---- a chunk

pub seen_none : (ps : List Put) (n : ℕ) → seen ps (replicate n None) ≡ replicate n None
seen_none ps zero = refl
seen_none ps (suc n) = ap (λ (l : Places). None ∷ l) (seen_none ps n)

absent_cells : (o : Option (List Cell)) (P : List Cell → Type 0) → ((os : List Cell) → o ≡ Some os → ⊥) → IsTold false o P
absent_cells (Some os) P h = h os refl
absent_cells None P h = tt

-- puts of another length than the chunk
pub other_length : (size : ℕ) (ps : List Put) (n : Option ℕ) (P : List Cell → Type 0) → n ≡ lengths ps → (n ≡ Some size → ⊥)
    → IsTold false (cells size ps) P
other_length size ps n P is other = absent_cells (cells size ps) P (λ os e. other (is ∙ cells_lengths size ps os e))

-- puts that do not lie within and apart
pub not_laid : (size : ℕ) (ps : List Put) (old new : List (Option Owner)) (P : List Cell → Type 0) → old ≡ replicate size None
    → IsTold false (puts_on ps (seen ps old)) (λ ds. ds ≡ seen ps new) → IsTold false (cells size ps) P
not_laid size ps old new P is h =
    let none = absent_told (puts_on ps (seen ps old)) (λ ds. ds ≡ seen ps new) h in
    told_absent (cells size ps) P (ap (λ (o : Option Places). on_some o all_put)
    (ap (puts_on ps) (sym (seen_none ps size) ∙ ap (seen ps) (sym is)) ∙ none))

pub all_laid : (size : ℕ) (ps : List Put) (old new : List (Option Owner)) → old ≡ replicate size None
    → IsTold true (puts_on ps (seen ps old)) (λ ds. ds ≡ seen ps new) → cells size ps ≡ all_put (seen ps new)
all_laid size ps old new is h =
    ap (λ (o : Option Places). on_some o all_put) (ap (puts_on ps) (sym (seen_none ps size) ∙ ap (seen ps) (sym is))
    ∙ there_told (puts_on ps (seen ps old)) (seen ps new) h)

-- the put of a number, as the loop goes over the puts
pub number_there : (ps xs : List Put) (i n : ℕ) (p : Put) → xs ≡ ps → n ≡ i → i < length xs → p ≡ get_or xs i p → slice_get ps n ≡ Some p
number_there ps xs i n p same is less at =
    ap (slice_get ps) is ∙ ap (λ (l : List Put). slice_get l i) (sym same) ∙ put_there xs i p less at

-- the octets of a chunk that are laid, as they are put
pub cells_told : {E : Type 0} (r : Result Bool E) (size : ℕ) (ps : List Put) (free laid_now xs : List (Option Owner)) (old new : List ℕ)
    → free ≡ replicate size None → IsTold true (puts_on ps (seen ps free)) (λ ds. ds ≡ seen ps laid_now) → xs ≡ laid_now
    → IfOk r (λ told. IsTold told (all_put (seen ps xs)) (λ os. IsPut old (cells_text os) new))
    → IfOk r (λ told. IsTold told (cells size ps) (λ os. IsPut old (cells_text os) new))
cells_told r size ps free laid_now xs old new is h same put =
    subst (λ (o : Option (List Cell)). IfOk r (λ told. IsTold told o (λ os. IsPut old (cells_text os) new)))
    (ap (λ (l : List (Option Owner)). all_put (seen ps l)) same ∙ sym (all_laid size ps free laid_now is h)) put
