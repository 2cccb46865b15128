-- Types after others, and what they leave as it is, by mutual induction on types, members and arms.
use Rattle.std.proofs.Common.{◌≡◌, ℕ, zero, suc, ◌+◌, ◌<◌, ◌≤◌, Bool, true, false, nat_lt, List, [], ◌∷◌, ◌++◌, length, get_or, refl, ap, ◌∙◌, arith, if◌then◌else◌}
use Rattle.std.proofs.lemmas.Bool.{ltb-true, and_parts, and_from}
use Rattle.std.proofs.lemmas.List.{get_or_append_left}
use Rattle.aoi.specs.Shapes.{Shape, void, number, enumeration, text, array, structure, choice, optional, named, Members, no_more, member, Arms, no_default, default, arm}
use Rattle.aoi.specs.Sound.{unfolded, is_sound_type, are_sound, are_sound_arms, are_sound_types}

abbrev pub at : List Shape → ℕ → Shape
at types k = get_or types k void

named_grow : (n : ℕ) (types more : List Shape) (limit k : ℕ) (b : Bool) (s : Shape)
    → ((b ≡ true) → unfolded n (types ++ more) k (at (types ++ more) k) ≡ unfolded n types k (at types k))
    → (if b then unfolded n (types ++ more) k (at (types ++ more) k) else s) ≡ (if b then unfolded n types k (at types k) else s)
named_grow n types more limit k true s f = f refl
named_grow n types more limit k false s f = refl

pub unfolded_grow : (n : ℕ) (types more : List Shape) (limit : ℕ) (s : Shape) → limit ≤ length types
    → unfolded n (types ++ more) limit s ≡ unfolded n types limit s
unfolded_grow zero types more limit s le = refl
unfolded_grow (suc n) types more limit void le = refl
unfolded_grow (suc n) types more limit (number k) le = refl
unfolded_grow (suc n) types more limit (enumeration items) le = refl
unfolded_grow (suc n) types more limit (text c) le = refl
unfolded_grow (suc n) types more limit (array s c) le = refl
unfolded_grow (suc n) types more limit (structure ms) le = refl
unfolded_grow (suc n) types more limit (choice s arms) le = refl
unfolded_grow (suc n) types more limit (optional s) le = refl
unfolded_grow (suc n) types more limit (named k) le =
    named_grow n types more limit k (nat_lt k limit) (named k) (λ b.
    let lt = ltb-true k limit b in
    let inside : k < length types = omega (arith, lt, le) in
    let below : k ≤ length types = omega (arith, inside) in
    ap (unfolded n (types ++ more) k) (get_or_append_left types more void k inside) ∙ unfolded_grow n types more k (at types k) below)

mutual
  pub sound_grow : (types more : List Shape) (limit : ℕ) (s : Shape) → limit ≤ length types
      → is_sound_type (types ++ more) limit s ≡ is_sound_type types limit s
  sound_grow types more limit void le = refl
  sound_grow types more limit (number k) le = refl
  sound_grow types more limit (enumeration items) le = refl
  sound_grow types more limit (text c) le = refl
  sound_grow types more limit (array s c) le = rw (sound_grow types more limit s le) refl
  sound_grow types more limit (structure ms) le = rw (members_grow types more limit ms le) refl
  sound_grow types more limit (choice s arms) le =
      rw (sound_grow types more limit s le, unfolded_grow limit types more limit s le, arms_grow types more limit arms le) refl
  sound_grow types more limit (optional s) le = sound_grow types more limit s le
  sound_grow types more limit (named k) le = refl

  pub members_grow : (types more : List Shape) (limit : ℕ) (ms : Members) → limit ≤ length types
      → are_sound (types ++ more) limit ms ≡ are_sound types limit ms
  members_grow types more limit no_more le = refl
  members_grow types more limit (member n s ms) le = rw (sound_grow types more limit s le, members_grow types more limit ms le) refl

  pub arms_grow : (types more : List Shape) (limit : ℕ) (arms : Arms) → limit ≤ length types
      → are_sound_arms (types ++ more) limit arms ≡ are_sound_arms types limit arms
  arms_grow types more limit no_default le = refl
  arms_grow types more limit (default s) le = rw (sound_grow types more limit s le) refl
  arms_grow types more limit (arm n s arms) le = rw (sound_grow types more limit s le, arms_grow types more limit arms le) refl

pub types_grow : (types more : List Shape) (limit : ℕ) (ss : List Shape) → limit + length ss ≤ length types
    → are_sound_types (types ++ more) limit ss ≡ are_sound_types types limit ss
types_grow types more limit [] le = refl
types_grow types more limit (s ∷ ss) le =
    let here : limit ≤ length types = omega (arith, le) in
    let next : limit + 1 + length ss ≤ length types = omega (arith, le) in
    rw (sound_grow types more limit s here, types_grow types more (limit + 1) ss next) refl

one_after : (types : List Shape) (limit at_ : ℕ) (ss : List Shape) (s : Shape) → at_ ≡ limit + length ss
    → are_sound_types types limit ss ≡ true → is_sound_type types at_ s ≡ true
    → are_sound_types types limit (ss ++ s ∷ []) ≡ true
one_after types limit at_ [] s is a b = let same : limit ≡ at_ = omega (arith, is) in and_from _ _ (rw same b) refl
one_after types limit at_ (t ∷ ss) s is a b =
    let next : at_ ≡ limit + 1 + length ss = omega (arith, is) in
    let parts = and_parts _ _ a in
    and_from _ _ parts.0 (one_after types (limit + 1) at_ ss s next parts.1 b)

-- a type that is sound over those before it
pub types_push : (types : List Shape) (s : Shape) → are_sound_types types 0 types ≡ true → is_sound_type types (length types) s ≡ true
    → are_sound_types (types ++ s ∷ []) 0 (types ++ s ∷ []) ≡ true
types_push types s a b =
    let whole : 0 + length types ≤ length types = omega arith in
    let last : length types ≤ length types = omega arith in
    one_after (types ++ s ∷ []) 0 (length types) types s (omega arith) (types_grow types (s ∷ []) 0 types whole ∙ a)
    (sound_grow types (s ∷ []) (length types) s last ∙ b)
