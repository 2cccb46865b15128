-- Names that are read a word at a time.
use Rattle.std.specs.Prelude.{ℕ, ◌*◌, List, ◌++◌, take, drop, replicate}
use Rattle.std.specs.Int.{w32, from_be_bytes}

-- a name, and how many words of it were read
pub record Read : Type 0 where
  pub name : List ℕ
  pub reads : ℕ

-- the number of the first four octets, of which those that are not there are 0
abbrev pub first_word : List ℕ → ℕ
first_word o = from_be_bytes w32 (take 4 (o ++ replicate 4 0))

-- the word at a place, counted from 0
abbrev pub word_at : List ℕ → ℕ → ℕ
word_at o i = first_word (drop (4 * i) o)
