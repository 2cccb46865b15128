-- Fragments are read as they are written, whatever follows.
use Rattle.std.proofs.Common.{◌≡◌, ℕ, zero, suc, ◌+◌, ◌%◌, ◌^◌, ◌<◌, ◌≤◌, List, [], ◌∷◌, ◌++◌, length, take, drop, true, false, refl, sym, ap, ◌∙◌, append_assoc, arith}
use Rattle.std.proofs.lemmas.List.{take-append-le, drop-append-le, length-drop}
use Rattle.std.specs.Prelude.{nat_le}
use Rattle.kit_base.specs.Limits.{longest_message}
use Rattle.wire_frames.specs.declared.frames.FrameErr.TheVariants.{TooLong}
use Rattle.wire_frames.specs.First.{First, whole, bad, more, after, record_within, record_from, word_in, size_in, is_last, octets_in, behind}
use Rattle.wire_frames.proofs.Choosing.{Chosen, short, long, cut_off, ended, going, chosen, chooses_short, chooses_long, chooses_cut, chooses_last, chooses_next}

-- what stands first, by the test that decided
abbrev pub Step : ℕ → ℕ → List ℕ → First → Type 0
Step k sum s x = Chosen (length s) sum (size_in s) (is_last s) (whole (octets_in s) (4 + size_in s))
    (after (octets_in s) (4 + size_in s) (record_within k (sum + size_in s) (behind s))) x

pub step : (k sum : ℕ) (s : List ℕ) (x : First) → record_within (suc k) sum s ≡ x → Step k sum s x
step k sum s x e = chosen (length s) sum (size_in s) _ _ x (is_last s) e

-- ---- what is told of the first fragment does not change by what follows

module _ (s t : List ℕ) where
  pub same_word : 4 ≤ length s → word_in (s ++ t) ≡ word_in s
  same_word h = rw (take-append-le 4 s t h) refl

  pub same_size : 4 ≤ length s → size_in (s ++ t) ≡ size_in s
  same_size h = ap (λ (w : ℕ). w % 2 ^ 31) (same_word h)

  pub same_last : 4 ≤ length s → is_last (s ++ t) ≡ is_last s
  same_last h = ap (λ (w : ℕ). nat_le (2 ^ 31) w) (same_word h)

  taken_octets : (n : ℕ) → 4 + n ≤ length s → take n (drop 4 (s ++ t)) ≡ take n (drop 4 s)
  taken_octets n h =
      let enough : 4 ≤ length s = omega (arith, h) in
      let left : n ≤ length (drop 4 s) = omega (arith, h, length-drop 4 s) in
      rw (drop-append-le 4 s t enough, take-append-le n (drop 4 s) t left) refl

  pub same_octets : 4 + size_in s ≤ length s → octets_in (s ++ t) ≡ octets_in s
  same_octets h =
      let enough : 4 ≤ length s = omega (arith, h) in
      ap (λ (n : ℕ). take n (drop 4 (s ++ t))) (same_size enough) ∙ taken_octets (size_in s) h

  pub same_behind : 4 + size_in s ≤ length s → behind (s ++ t) ≡ behind s ++ t
  same_behind h =
      let enough : 4 ≤ length s = omega (arith, h) in
      ap (λ (n : ℕ). drop (4 + n) (s ++ t)) (same_size enough) ∙ drop-append-le (4 + size_in s) s t h

-- ---- what stands first after fragments

pub after_nothing : (x : First) → after [] 0 x ≡ x
after_nothing (whole m n) =
    let same : 0 + n ≡ n = omega arith in
    ap (whole m) same
after_nothing (bad e) = refl
after_nothing more = refl

pub after_both : (a b : List ℕ) (m n : ℕ) (x : First) → after a m (after b n x) ≡ after (a ++ b) (m + n) x
after_both a b m n (whole c k) =
    let place : m + (n + k) ≡ m + n + k = omega arith in
    rw (append_assoc a b c, place) refl
after_both a b m n (bad e) = refl
after_both a b m n more = refl

-- ---- how many headers are read does not matter, where there are no more

pub enough : (k j sum : ℕ) (s : List ℕ) → length s ≤ k → length s ≤ j → record_within k sum s ≡ record_within j sum s
enough zero zero sum s h i = refl
enough zero (suc j) sum s h i = sym (chooses_short (length s) sum (size_in s) _ _ (is_last s) (omega (arith, h)))
enough (suc k) zero sum s h i = chooses_short (length s) sum (size_in s) _ _ (is_last s) (omega (arith, i))
enough (suc k) (suc j) sum s h i = elim (step k sum s _ refl) [
  | short less is ↦ is ∙ sym (chooses_short (length s) sum (size_in s) _ _ (is_last s) less)
  | long there far is ↦ is ∙ sym (chooses_long (length s) sum (size_in s) _ _ (is_last s) there far)
  | cut_off there few less is ↦ is ∙ sym (chooses_cut (length s) sum (size_in s) _ _ (is_last s) there few less)
  | ended there few last is ↦ is ∙ sym (chooses_last (length s) sum (size_in s) _ _ (is_last s) there few last)
  | going there few last is ↦
      is ∙ ap (after (octets_in s) (4 + size_in s)) (enough k j (sum + size_in s) (behind s)
      (omega (arith, h, length-drop (4 + size_in s) s)) (omega (arith, i, length-drop (4 + size_in s) s)))
      ∙ sym (chooses_next (length s) sum (size_in s) _ _ (is_last s) there few last)
]

-- ---- the first fragment of what is left

-- there are more octets than headers to be read
headers_left : (s : List ℕ) → 4 ≤ length s → (k : ℕ) × (length s ≡ suc k)
headers_left [] h = absurd (omega (arith, h))
headers_left (x ∷ s) h = (length s, refl)

module _ (sum : ℕ) (s : List ℕ) where
  -- the choice that is made at the first header
  pub opened : 4 ≤ length s → (k : ℕ) × (length s ≡ suc k) × (record_from sum s ≡ record_within (suc k) sum s)
  opened h =
      let fuel = headers_left s h in
      (fuel.0, fuel.1, ap (λ (k : ℕ). record_within k sum s) fuel.1)

  pub from_short : length s < 4 → record_from sum s ≡ more
  from_short h = go (length s) where
    go : (k : ℕ) → record_within k sum s ≡ more
    go zero = refl
    go (suc k) = chooses_short (length s) sum (size_in s) _ _ (is_last s) h

  pub from_long : 4 ≤ length s → longest_message < sum + size_in s → record_from sum s ≡ bad TooLong
  from_long h far = let o = opened h in o.2 ∙ chooses_long (length s) sum (size_in s) _ _ (is_last s) h far

  pub from_cut : 4 ≤ length s → sum + size_in s ≤ longest_message → length s < 4 + size_in s → record_from sum s ≡ more
  from_cut h few less = let o = opened h in o.2 ∙ chooses_cut (length s) sum (size_in s) _ _ (is_last s) h few less

  pub from_last : 4 + size_in s ≤ length s → sum + size_in s ≤ longest_message → is_last s ≡ true
      → record_from sum s ≡ whole (octets_in s) (4 + size_in s)
  from_last there few last =
      let o = opened (omega (arith, there)) in
      o.2 ∙ chooses_last (length s) sum (size_in s) _ _ (is_last s) there few last

  pub from_next : 4 + size_in s ≤ length s → sum + size_in s ≤ longest_message → is_last s ≡ false
      → record_from sum s ≡ after (octets_in s) (4 + size_in s) (record_from (sum + size_in s) (behind s))
  from_next there few last =
      let o = opened (omega (arith, there)) in
      let less : length (behind s) ≤ o.0 = omega (arith, o.1, length-drop (4 + size_in s) s) in
      o.2 ∙ chooses_next (length s) sum (size_in s) _ _ (is_last s) there few last
      ∙ ap (after (octets_in s) (4 + size_in s)) (enough o.0 (length (behind s)) (sum + size_in s) (behind s) less (omega arith))
