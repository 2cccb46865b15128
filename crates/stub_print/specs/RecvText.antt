-- The text of code that receives.
use Rattle.std.specs.Prelude.{ℕ, suc, List, [], ◌∷◌, codes}
use Rattle.cast_stub.specs.declared.recv.Get.{Get}
use Rattle.cast_stub.specs.declared.recv.Get.TheVariants as get
use Rattle.cast_stub.specs.RecvBlock.{Recv, finish, need, need_row, skip_any, skip_zero, pass, desc, row_block, row_wide, each, switch, if_there, call, Cases, no_default, default, case}
use Rattle.stub_print.specs.Words.{numeral, integer, path_word, order_word, hex, line, ended}

-- the words of a get after `at`
abbrev pub get_words : Get → List (List ℕ)
get_words (get.Num off p w o) = numeral off ∷ codes "num" ∷ path_word p ∷ numeral w ∷ order_word o ∷ []
get_words (get.Tag off p w o) = numeral off ∷ codes "tag" ∷ path_word p ∷ numeral w ∷ order_word o ∷ []
get_words (get.Flag off p w o) = numeral off ∷ codes "flag" ∷ path_word p ∷ numeral w ∷ order_word o ∷ []
get_words (get.Count off p mul add w o) =
    numeral off ∷ codes "count" ∷ path_word p ∷ numeral mul ∷ numeral add ∷ numeral w ∷ order_word o ∷ []
get_words (get.Const off os) = numeral off ∷ codes "const" ∷ hex os ∷ []

-- the lines of gets, and then what follows
abbrev pub gets_text : List Get → List ℕ → List ℕ
gets_text [] rest = rest
gets_text (g ∷ gs) rest = line (codes "at") (get_words g) (gets_text gs rest)

abbrev mutual
  -- the lines of a block, and then what follows
  pub block_text : Recv → List ℕ → List ℕ
  block_text finish rest = rest
  block_text (need n b) rest = line (codes "need") (numeral n ∷ []) (block_text b rest)
  block_text (need_row p unit extra b) rest = line (codes "need_row") (path_word p ∷ numeral unit ∷ numeral extra ∷ []) (block_text b rest)
  block_text (skip_any a b) rest = line (codes "skip") (numeral a ∷ codes "any" ∷ []) (block_text b rest)
  block_text (skip_zero a b) rest = line (codes "skip") (numeral a ∷ codes "zero" ∷ []) (block_text b rest)
  block_text (pass size gs b) rest = line (codes "take") (numeral size ∷ []) (gets_text gs (ended (block_text b rest)))
  block_text (desc p name size mul b) rest =
      line (codes "desc") (path_word p ∷ numeral name ∷ numeral size ∷ numeral mul ∷ []) (block_text b rest)
  block_text (row_block p o b) rest = line (codes "row") (path_word p ∷ order_word o ∷ []) (block_text b rest)
  block_text (row_wide p o b) rest = line (codes "row_wide") (path_word p ∷ order_word o ∷ []) (block_text b rest)
  block_text (each p body b) rest = line (codes "each") (path_word p ∷ []) (block_text body (ended (block_text b rest)))
  block_text (switch p cases b) rest = line (codes "switch") (path_word p ∷ []) (cases_text cases (ended (block_text b rest)))
  block_text (if_there p body b) rest = line (codes "some") (path_word p ∷ []) (block_text body (ended (block_text b rest)))
  block_text (call k p b) rest = line (codes "call") (numeral k ∷ path_word p ∷ []) (block_text b rest)

  -- those of the bodies of a switch
  pub cases_text : Cases → List ℕ → List ℕ
  cases_text no_default rest = rest
  cases_text (default body) rest = line (codes "default") [] (block_text body rest)
  cases_text (case n body cases) rest = line (codes "case") (integer n ∷ []) (block_text body (cases_text cases rest))

-- the lines of the codes from a number on, and then what follows
abbrev pub subs_text : ℕ → List Recv → List ℕ → List ℕ
subs_text k [] rest = rest
subs_text k (b ∷ bs) rest = line (codes "sub") (numeral k ∷ []) (block_text b (ended (subs_text (suc k) bs rest)))

-- the text of a code that receives and of the codes that its calls name
abbrev pub recv_text : List ℕ → Recv → List Recv → List ℕ
recv_text name code subs = line (codes "recv") (name ∷ []) (block_text code (subs_text 0 subs (ended [])))
