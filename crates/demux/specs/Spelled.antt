-- Names as they are sought: by length and words.
use Rattle.std.specs.Prelude.{ℕ, ◌<◌, List, [], ◌∷◌, length}
use Rattle.std.specs.List.{All}
use Rattle.demux.specs.Names.{first_word}

-- numbers that are octets
abbrev pub AreOctets : List ℕ → Type 0
AreOctets o = All (λ b. b < 256) o

-- the words of a name, in order
abbrev pub words_of : List ℕ → List ℕ
words_of [] = []
words_of (a ∷ []) = first_word (a ∷ []) ∷ []
words_of (a ∷ b ∷ []) = first_word (a ∷ b ∷ []) ∷ []
words_of (a ∷ b ∷ c ∷ []) = first_word (a ∷ b ∷ c ∷ []) ∷ []
words_of (a ∷ b ∷ c ∷ d ∷ o) = first_word (a ∷ b ∷ c ∷ d ∷ o) ∷ words_of o

-- a name as it is sought: its length, and then its words
abbrev pub spelled : List ℕ → List ℕ
spelled o = length o ∷ words_of o
