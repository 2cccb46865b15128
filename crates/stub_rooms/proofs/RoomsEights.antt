-- Lists of eight: what they show is what is at the residues 0 to 7.
use Rattle.std.proofs.Common.{◌≡◌, ℕ, suc, ◌+◌, ◌-◌, ◌%◌, ◌<◌, ◌≤◌, Bool, true, false, List, [], ◌∷◌, length, Option, Some, None, option_map, if◌then◌else◌, refl, sym, ap, ◌∙◌, subst, ◌⊎◌, inl, inr, arith}
use Rattle.std.proofs.lemmas.Bool.{cases_lt}
use Rattle.cast_stub.specs.Parts.{on_some}
use Rattle.cast_stub.specs.Steps.{is_width}
use Rattle.stub_flat.specs.Residues.{Residues, moved, aligned}
use Rattle.stub_cover.specs.Rooms.{Rooms, least, have_first, took, padded, padded_one, padded_first}
use Rattle.stub_places.proofs.Eights.{eighth, eight_same}
use Rattle.stub_rooms.specs.RoomsShown.{room_at, joined, Shown, Follows}
use Rattle.stub_places.specs.Sets.{each_of, set_of}

pub each_same : {A : Type 0} (f g : ℕ → A) → ((r : ℕ) → f r ≡ g r) → each_of f ≡ each_of g
each_same f g h = eight_same f g (h 0) (h 1) (h 2) (h 3) (h 4) (h 5) (h 6) (h 7)

-- the residue from which octets lead to another
back : (n r : ℕ) → (r + 8 - n % 8) % 8 < 8
back n r = omega arith

pub marks_moved : (n : ℕ) (S : Residues) → each_of (moved n (set_of (each_of S))) ≡ each_of (moved n S)
marks_moved n S = each_same (moved n (set_of (each_of S))) (moved n S) (λ r. eighth S false ((r + 8 - n % 8) % 8) (back n r))

pub moved_shown : (n : ℕ) (a b : List Bool) → b ≡ each_of (moved n (set_of a)) → Shown (moved n) a b
moved_shown n a b is = record { told = λ S e. is ∙ ap (λ (l : List Bool). each_of (moved n (set_of l))) e ∙ marks_moved n S }

pub kept_shown : (a : List Bool) → Shown (λ S. S) a a
kept_shown a = record { told = λ S e. e }

pub aligned_shown : (n : ℕ) (a b : List Bool) → is_width n ≡ true → b ≡ each_of (aligned n (set_of a))
    → Shown (λ S. if is_width n then aligned n S else S) a b
aligned_shown n a b w is = record {
  told = λ S e. is ∙ ap (λ (l : List Bool). each_of (aligned n (set_of l))) e
      ∙ ap (λ (x : Bool). each_of (if x then aligned n S else S)) (sym w);
}

pub unaligned_shown : (n : ℕ) (a : List Bool) → is_width n ≡ false → Shown (λ S. if is_width n then aligned n S else S) a a
unaligned_shown n a w = record {
  told = λ S e. e ∙ ap (λ (x : Bool). each_of (if x then aligned n S else S)) (sym w);
}

-- ---- rooms

rooms_lowered : (n : ℕ) (R : Rooms)
    → each_of (λ r. option_map (λ x. x - n) (room_at (each_of R) ((r + 8 - n % 8) % 8)))
    ≡ each_of (λ r. option_map (λ x. x - n) (R ((r + 8 - n % 8) % 8)))
rooms_lowered n R = each_same (λ r. option_map (λ x. x - n) (room_at (each_of R) ((r + 8 - n % 8) % 8)))
    (λ r. option_map (λ x. x - n) (R ((r + 8 - n % 8) % 8)))
    (λ r. ap (option_map (λ x. x - n)) (eighth R None ((r + 8 - n % 8) % 8) (back n r)))

if_some : (b : Bool) (F G : Rooms) → each_of F ≡ each_of G
    → option_map each_of (if b then Some F else None) ≡ option_map each_of (if b then Some G else None)
if_some true F G e = ap Some e
if_some false F G e = refl

pub took_follows : (n : ℕ) (a : List (Option ℕ)) (x : Option (List (Option ℕ))) → x ≡ option_map each_of (took n (room_at a))
    → Follows (took n) a x
took_follows n a x is = record {
  told = λ R e. is ∙ ap (λ (l : List (Option ℕ)). option_map each_of (took n (room_at l))) e
      ∙ if_some (have_first 8 n R) (λ r. option_map (λ x. x - n) (room_at (each_of R) ((r + 8 - n % 8) % 8)))
      (λ r. option_map (λ x. x - n) (R ((r + 8 - n % 8) % 8))) (rooms_lowered n R);
}

pub padded_follows : (n : ℕ) (a : List (Option ℕ)) (x : Option (List (Option ℕ))) → is_width n ≡ true
    → x ≡ option_map each_of (padded n (room_at a))
    → Follows (λ R. if is_width n then padded n R else Some R) a x
padded_follows n a x w is = record {
  told = λ R e. is ∙ ap (λ (l : List (Option ℕ)). option_map each_of (padded n (room_at l))) e
      ∙ ap (λ (b : Bool). option_map each_of (if b then padded n R else Some R)) (sym w);
}

pub unpadded_follows : (n : ℕ) (a : List (Option ℕ)) → is_width n ≡ false
    → Follows (λ R. if is_width n then padded n R else Some R) a (Some a)
unpadded_follows n a w = record {
  told = λ R e. ap Some e ∙ ap (λ (b : Bool). option_map each_of (if b then padded n R else Some R)) (sym w);
}

joined_same : (o p : Option Rooms) → joined (option_map each_of o) (option_map each_of p)
    ≡ option_map each_of (on_some o (λ S. option_map (least S) p))
joined_same None p = refl
joined_same (Some S) None = refl
joined_same (Some S) (Some T) = refl

suc_is : (k : ℕ) → suc k ≡ k + 1
suc_is k = omega arith

-- one residue more
pub padded_more : (k n : ℕ) (R : Rooms) (x y z : Option (List (Option ℕ))) → x ≡ option_map each_of (padded_one k n (R k))
    → y ≡ option_map each_of (padded_first k n R) → z ≡ joined x y → z ≡ option_map each_of (padded_first (k + 1) n R)
padded_more k n R x y z e f g =
    g ∙ ap (λ (o : Option (List (Option ℕ))). joined o y) e
    ∙ ap (joined (option_map each_of (padded_one k n (R k)))) f
    ∙ joined_same (padded_one k n (R k)) (padded_first k n R)
    ∙ ap (λ i. option_map each_of (padded_first i n R)) (suc_is k)

-- octets that each room has, and octets that one has not
abbrev lowered : ℕ → Rooms → Rooms
lowered n R r = option_map (λ x. x - n) (R ((r + 8 - n % 8) % 8))

pub took_there : (n : ℕ) (a y : List (Option ℕ)) (b : Bool) → b ≡ have_first 8 n (room_at a) → b ≡ true
    → y ≡ each_of (λ r. option_map (λ x. x - n) (room_at a ((r + 8 - n % 8) % 8))) → Some y ≡ option_map each_of (took n (room_at a))
took_there n a y b e h is =
    ap Some is ∙ ap (λ (t : Bool). option_map each_of (if t then Some (lowered n (room_at a)) else None)) (sym h ∙ e)

pub took_none : (n : ℕ) (a : List (Option ℕ)) (b : Bool) → b ≡ have_first 8 n (room_at a) → b ≡ false
    → None ≡ option_map each_of (took n (room_at a))
took_none n a b e h = ap (λ (t : Bool). option_map each_of (if t then Some (lowered n (room_at a)) else None)) (sym h ∙ e)

-- ---- the same rooms

same_by : (a b : List (Option ℕ)) (i : ℕ) → ((k : ℕ) → k < i → room_at a k ≡ room_at b k) → room_at a i ≡ room_at b i
    → (k : ℕ) → k < i + 1 → (k < i) ⊎ (i ≤ k) → room_at a k ≡ room_at b k
same_by a b i before here k less (inl l) = before k l
same_by a b i before here k less (inr le) =
    let e : i ≡ k = omega (arith, less, le) in subst (λ j. room_at a j ≡ room_at b j) e here

-- one residue more
pub same_more : (a b : List (Option ℕ)) (i : ℕ) → ((k : ℕ) → k < i → room_at a k ≡ room_at b k) → room_at a i ≡ room_at b i
    → (k : ℕ) → k < i + 1 → room_at a k ≡ room_at b k
same_more a b i before here k less = same_by a b i before here k less (cases_lt k i)

-- a list of eight is what is at the residues
eights : (a : List (Option ℕ)) → length a ≡ 8 → a ≡ each_of (room_at a)
eights (x0 ∷ x1 ∷ x2 ∷ x3 ∷ x4 ∷ x5 ∷ x6 ∷ x7 ∷ []) h = refl
eights _ h = absurd cc

pub all_same : (a b : List (Option ℕ)) (i : ℕ) → length a ≡ 8 → length b ≡ 8 → 8 ≤ i
    → ((k : ℕ) → k < i → room_at a k ≡ room_at b k) → a ≡ b
all_same a b i m n le h =
    eights a m
    ∙ eight_same (room_at a) (room_at b) (h 0 (omega (arith, le))) (h 1 (omega (arith, le))) (h 2 (omega (arith, le)))
    (h 3 (omega (arith, le))) (h 4 (omega (arith, le))) (h 5 (omega (arith, le))) (h 6 (omega (arith, le))) (h 7 (omega (arith, le)))
    ∙ sym (eights b n)
