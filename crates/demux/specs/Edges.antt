-- The words that occur at a node, and where they lead.
use Rattle.std.specs.Prelude.{◌≡◌, ℕ, ◌<◌, ◌≤◌, List, [], ◌∷◌, length, if◌then◌else◌, ◌==◌, slice_index_or, Some, None, Option}

-- words, each with the node to which it leads
abbrev pub Pairs : Type 0
Pairs = List (ℕ × ℕ)

-- the node to which a word leads
abbrev pub goal_of : Pairs → ℕ → Option ℕ
goal_of [] word = None
goal_of ((w, n) ∷ rest) word = if w == word then Some n else goal_of rest word

-- the word at a place
abbrev pub word_in : Pairs → ℕ → ℕ
word_in l i = let pair = slice_index_or l i (0, 0) in pair.0

-- words that rise
abbrev pub IsRising : Pairs → Type 0
IsRising l = (i j : ℕ) → i < j → j < length l → word_in l i < word_in l j

-- a word that stands at a place
pub record IsAt (l : Pairs) (word i : ℕ) : Type 0 where
  pub in_range : i < length l
  pub has_word : word_in l i ≡ word

-- a word that would go at a place: smaller ones before it, and greater ones from it on
pub record IsGapFor (l : Pairs) (word i : ℕ) : Type 0 where
  pub in_range : i ≤ length l
  pub smaller_before : (j : ℕ) → j < i → word_in l j < word
  pub greater_after : (j : ℕ) → i ≤ j → j < length l → word < word_in l j
