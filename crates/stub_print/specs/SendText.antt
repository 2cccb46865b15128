-- The text of code that sends.
use Rattle.std.specs.Prelude.{ℕ, suc, List, [], ◌∷◌, codes}
use Rattle.cast_stub.specs.declared.put.HeadField.{HeadField}
use Rattle.cast_stub.specs.declared.put.HeadField.TheVariants.{Id, Remote, Local}
use Rattle.cast_stub.specs.declared.put.Put.{Put}
use Rattle.cast_stub.specs.declared.put.Put.TheVariants as put
use Rattle.cast_stub.specs.Block.{Block, stop, ensure, ensure_row, align, chunk, row_copy, row_swap, row_wide, each, switch, if_there, call, patch, Cases, no_default, default, case}
use Rattle.stub_print.specs.Words.{numeral, integer, path_word, order_word, hex, line, ended}

abbrev pub field_word : HeadField → List ℕ
field_word Id = codes "id"
field_word Remote = codes "remote"
field_word Local = codes "local"

-- the words of a put after `at`
abbrev pub put_words : Put → List (List ℕ)
put_words (put.Num off p w o) = numeral off ∷ codes "num" ∷ path_word p ∷ numeral w ∷ order_word o ∷ []
put_words (put.Tag off p w o) = numeral off ∷ codes "tag" ∷ path_word p ∷ numeral w ∷ order_word o ∷ []
put_words (put.Flag off p w o) = numeral off ∷ codes "flag" ∷ path_word p ∷ numeral w ∷ order_word o ∷ []
put_words (put.Count off p mul add w o) =
    numeral off ∷ codes "count" ∷ path_word p ∷ numeral mul ∷ numeral add ∷ numeral w ∷ order_word o ∷ []
put_words (put.Short off p name size mul) = numeral off ∷ codes "short" ∷ path_word p ∷ numeral name ∷ numeral size ∷ numeral mul ∷ []
put_words (put.Const off os) = numeral off ∷ codes "const" ∷ hex os ∷ []
put_words (put.Head off f w o) = numeral off ∷ codes "head" ∷ field_word f ∷ numeral w ∷ order_word o ∷ []

-- the lines of puts, and then what follows
abbrev pub puts_text : List Put → List ℕ → List ℕ
puts_text [] rest = rest
puts_text (p ∷ ps) rest = line (codes "at") (put_words p) (puts_text ps rest)

abbrev mutual
  -- the lines of a block, and then what follows
  pub block_text : Block → List ℕ → List ℕ
  block_text stop rest = rest
  block_text (ensure n b) rest = line (codes "ensure") (numeral n ∷ []) (block_text b rest)
  block_text (ensure_row p unit extra b) rest = line (codes "ensure_row") (path_word p ∷ numeral unit ∷ numeral extra ∷ [])
      (block_text b rest)
  block_text (align a b) rest = line (codes "align") (numeral a ∷ []) (block_text b rest)
  block_text (chunk size ps b) rest = line (codes "chunk") (numeral size ∷ []) (puts_text ps (ended (block_text b rest)))
  block_text (row_copy p b) rest = line (codes "row_copy") (path_word p ∷ []) (block_text b rest)
  block_text (row_swap p b) rest = line (codes "row_swap") (path_word p ∷ []) (block_text b rest)
  block_text (row_wide p o b) rest = line (codes "row_wide") (path_word p ∷ order_word o ∷ []) (block_text b rest)
  block_text (each p body b) rest = line (codes "each") (path_word p ∷ []) (block_text body (ended (block_text b rest)))
  block_text (switch p cases b) rest = line (codes "switch") (path_word p ∷ []) (cases_text cases (ended (block_text b rest)))
  block_text (if_there p body b) rest = line (codes "some") (path_word p ∷ []) (block_text body (ended (block_text b rest)))
  block_text (call k p b) rest = line (codes "call") (numeral k ∷ path_word p ∷ []) (block_text b rest)
  block_text (patch at sub o b) rest = line (codes "patch") (numeral at ∷ numeral sub ∷ order_word o ∷ []) (block_text b rest)

  -- those of the bodies of a switch
  pub cases_text : Cases → List ℕ → List ℕ
  cases_text no_default rest = rest
  cases_text (default body) rest = line (codes "default") [] (block_text body rest)
  cases_text (case n body cases) rest = line (codes "case") (integer n ∷ []) (block_text body (cases_text cases rest))

-- the lines of the codes from a number on, and then what follows
abbrev pub subs_text : ℕ → List Block → List ℕ → List ℕ
subs_text k [] rest = rest
subs_text k (b ∷ bs) rest = line (codes "sub") (numeral k ∷ []) (block_text b (ended (subs_text (suc k) bs rest)))

-- the text of a code that sends and of the codes that its calls name
abbrev pub send_text : List ℕ → Block → List Block → List ℕ
send_text name code subs = line (codes "send") (name ∷ []) (block_text code (subs_text 0 subs (ended [])))
