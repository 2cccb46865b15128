-- A name is decided by its length and its words, and its words are read one after another.
use Rattle.std.proofs.Common.{◌≡◌, ℕ, zero, suc, ◌+◌, ◌*◌, ◌<◌, ◌≤◌, List, [], ◌∷◌, length, get_or, take, drop, refl, sym, ap, ◌∙◌, arith, length-drop, drop-drop}
use Rattle.std.specs.Int.{w32, to_be_bytes, from_be_bytes}
use Rattle.std.proofs.lemmas.List.{drop_all}
use Rattle.std.proofs.lemmas.Nat.{be_bytes_4}
use Rattle.demux.specs.Names.{first_word, word_at}
use Rattle.demux.specs.Spelled.{AreOctets, words_of, spelled}

-- ---- four octets are decided by their word

octets : (a b c d : ℕ) → a < 256 → b < 256 → c < 256 → d < 256 → (i : ℕ) → get_or (a ∷ b ∷ c ∷ d ∷ []) i 0 < 256
octets a b c d p q r s zero = p
octets a b c d p q r s (suc zero) = q
octets a b c d p q r s (suc (suc zero)) = r
octets a b c d p q r s (suc (suc (suc zero))) = s
octets a b c d p q r s (suc (suc (suc (suc i)))) = omega arith

same_four : (x y : List ℕ) → length x ≡ 4 → length y ≡ 4 → ((i : ℕ) → get_or x i 0 < 256) → ((i : ℕ) → get_or y i 0 < 256)
    → from_be_bytes w32 x ≡ from_be_bytes w32 y → x ≡ y
same_four x y m n xs ys e = sym (be_bytes_4 x _ m xs refl) ∙ ap (to_be_bytes w32) e ∙ be_bytes_4 y _ n ys refl

heads : (v w : ℕ) (vs ws : List ℕ) → v ∷ vs ≡ w ∷ ws → v ≡ w
heads v w vs ws e = cc

tails : (v w : ℕ) (vs ws : List ℕ) → v ∷ vs ≡ w ∷ ws → vs ≡ ws
tails v w vs ws e = cc

nought : 0 < 256
nought = omega arith

joined : (a b c d e f g h : ℕ) (s t : List ℕ) → a ∷ b ∷ c ∷ d ∷ [] ≡ e ∷ f ∷ g ∷ h ∷ [] → s ≡ t
    → a ∷ b ∷ c ∷ d ∷ s ≡ e ∷ f ∷ g ∷ h ∷ t
joined a b c d e f g h s t x y = cc

behind_four : (a b c d : ℕ) (s : List ℕ) → AreOctets (a ∷ b ∷ c ∷ d ∷ s) → AreOctets s
behind_four a b c d s o k n lt = o (suc (suc (suc (suc k)))) n (omega (arith, lt))

-- names of one length with the same words
pub same_words : (s t : List ℕ) → AreOctets s → AreOctets t → length s ≡ length t → words_of s ≡ words_of t → s ≡ t
same_words [] [] o p l e = refl
same_words (a ∷ []) (b ∷ []) o p l e =
    ap (take 1) (same_four (a ∷ 0 ∷ 0 ∷ 0 ∷ []) (b ∷ 0 ∷ 0 ∷ 0 ∷ []) refl refl
    (octets a 0 0 0 (o 0 0 (omega arith)) nought nought nought) (octets b 0 0 0 (p 0 0 (omega arith)) nought nought nought)
    (heads _ _ _ _ e))
same_words (a ∷ b ∷ []) (c ∷ d ∷ []) o p l e =
    ap (take 2) (same_four (a ∷ b ∷ 0 ∷ 0 ∷ []) (c ∷ d ∷ 0 ∷ 0 ∷ []) refl refl
    (octets a b 0 0 (o 0 0 (omega arith)) (o 1 0 (omega arith)) nought nought)
    (octets c d 0 0 (p 0 0 (omega arith)) (p 1 0 (omega arith)) nought nought) (heads _ _ _ _ e))
same_words (a ∷ b ∷ c ∷ []) (d ∷ e ∷ f ∷ []) o p l h =
    ap (take 3) (same_four (a ∷ b ∷ c ∷ 0 ∷ []) (d ∷ e ∷ f ∷ 0 ∷ []) refl refl
    (octets a b c 0 (o 0 0 (omega arith)) (o 1 0 (omega arith)) (o 2 0 (omega arith)) nought)
    (octets d e f 0 (p 0 0 (omega arith)) (p 1 0 (omega arith)) (p 2 0 (omega arith)) nought) (heads _ _ _ _ h))
same_words (a ∷ b ∷ c ∷ d ∷ s) (e ∷ f ∷ g ∷ h ∷ t) o p l q =
    joined a b c d e f g h s t
    (same_four (a ∷ b ∷ c ∷ d ∷ []) (e ∷ f ∷ g ∷ h ∷ []) refl refl
    (octets a b c d (o 0 0 (omega arith)) (o 1 0 (omega arith)) (o 2 0 (omega arith)) (o 3 0 (omega arith)))
    (octets e f g h (p 0 0 (omega arith)) (p 1 0 (omega arith)) (p 2 0 (omega arith)) (p 3 0 (omega arith))) (heads _ _ _ _ q))
    (same_words s t (behind_four a b c d s o) (behind_four e f g h t p) (omega (arith, l)) (tails _ _ _ _ q))
same_words s t o p l e = absurd (omega (arith, l))

-- names that are spelled the same
pub same_name : (s t : List ℕ) → AreOctets s → AreOctets t → spelled s ≡ spelled t → s ≡ t
same_name s t o p e = same_words s t o p (heads _ _ _ _ e) (tails _ _ _ _ e)

-- ---- one word more

word_first : (s : List ℕ) → 0 < length s → words_of s ≡ first_word s ∷ words_of (drop 4 s)
word_first [] some = absurd (omega (arith, some))
word_first (a ∷ []) some = refl
word_first (a ∷ b ∷ []) some = refl
word_first (a ∷ b ∷ c ∷ []) some = refl
word_first (a ∷ b ∷ c ∷ d ∷ s) some = refl

-- the words from a place on
abbrev pub words_from : List ℕ → ℕ → List ℕ
words_from s i = words_of (drop (4 * i) s)

pub next_word : (s : List ℕ) (i : ℕ) → 4 * i < length s → words_from s i ≡ word_at s i ∷ words_from s (i + 1)
next_word s i lt =
    let some : 0 < length (drop (4 * i) s) = omega (arith, lt, length-drop (4 * i) s) in
    let far : 4 * i + 4 ≡ 4 * (i + 1) = omega arith in
    word_first (drop (4 * i) s) some ∙ ap (λ l. word_at s i ∷ words_of l) (drop-drop 4 (4 * i) s ∙ ap (λ k. drop k s) far)

pub no_word : (s : List ℕ) (i : ℕ) → length s ≤ 4 * i → words_from s i ≡ []
no_word s i le = ap words_of (drop_all (4 * i) s le)
