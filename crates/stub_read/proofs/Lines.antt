-- What follows a block is no longer than the block's text with it, by mutual induction on code and cases.
use Rattle.std.proofs.Common.{ℕ, ◌<◌, ◌≤◌, List, [], ◌∷◌, length, arith, codes}
use Rattle.cast_stub.specs.declared.put.Put.{Put}
use Rattle.cast_stub.specs.Block.{Block, stop, ensure, ensure_row, align, chunk, row_copy, row_swap, row_wide, each, switch, if_there, call, patch, Cases, no_default, default, case}
use Rattle.stub_print.specs.Words.{numeral, integer, path_word, order_word, line, ended}
use Rattle.stub_print.specs.SendText.{puts_text, block_text, cases_text}
use Rattle.stub_read.proofs.PutsRead.{line_long, puts_long}

-- a line before a text that is no shorter
before_text : (w : List ℕ) (ws : List (List ℕ)) (text t : List ℕ) → length t ≤ length text → length t ≤ length (line w ws text)
before_text w ws text t h = omega (arith, h, line_long w ws text)

-- a line, a body and the line that ends it are before a text
pub around_text : (w : List ℕ) (ws : List (List ℕ)) (body t : List ℕ) → length (ended t) ≤ length body → length t < length (line w ws body)
around_text w ws body t h = omega (arith, h, line_long (codes "end") [] t, line_long w ws body)

-- the same before a text that is no shorter
around_longer : (w : List ℕ) (ws : List (List ℕ)) (body text t : List ℕ) → length (ended text) ≤ length body → length t ≤ length text
    → length t ≤ length (line w ws body)
around_longer w ws body text t h k = omega (arith, k, around_text w ws body text h)

-- puts are before a text
pub puts_before : (ps : List Put) (t : List ℕ) → length t ≤ length (puts_text ps t)
puts_before ps t = omega (arith, puts_long ps t)

mutual
  pub block_long : (b : Block) (t : List ℕ) → length t ≤ length (block_text b t)
  block_long stop t = omega arith
  block_long (ensure n b) t = before_text (codes "ensure") (numeral n ∷ []) (block_text b t) t (block_long b t)
  block_long (ensure_row p u e b) t =
      before_text (codes "ensure_row") (path_word p ∷ numeral u ∷ numeral e ∷ []) (block_text b t) t (block_long b t)
  block_long (align a b) t = before_text (codes "align") (numeral a ∷ []) (block_text b t) t (block_long b t)
  block_long (chunk s ps b) t =
      around_longer (codes "chunk") (numeral s ∷ []) (puts_text ps (ended (block_text b t))) (block_text b t) t
      (puts_before ps (ended (block_text b t))) (block_long b t)
  block_long (row_copy p b) t = before_text (codes "row_copy") (path_word p ∷ []) (block_text b t) t (block_long b t)
  block_long (row_swap p b) t = before_text (codes "row_swap") (path_word p ∷ []) (block_text b t) t (block_long b t)
  block_long (row_wide p o b) t = before_text (codes "row_wide") (path_word p ∷ order_word o ∷ []) (block_text b t) t (block_long b t)
  block_long (each p a b) t =
      around_longer (codes "each") (path_word p ∷ []) (block_text a (ended (block_text b t))) (block_text b t) t
      (block_long a (ended (block_text b t))) (block_long b t)
  block_long (switch p cs b) t =
      around_longer (codes "switch") (path_word p ∷ []) (cases_text cs (ended (block_text b t))) (block_text b t) t
      (cases_long cs (ended (block_text b t))) (block_long b t)
  block_long (if_there p a b) t =
      around_longer (codes "some") (path_word p ∷ []) (block_text a (ended (block_text b t))) (block_text b t) t
      (block_long a (ended (block_text b t))) (block_long b t)
  block_long (call k p b) t = before_text (codes "call") (numeral k ∷ path_word p ∷ []) (block_text b t) t (block_long b t)
  block_long (patch a s o b) t =
      before_text (codes "patch") (numeral a ∷ numeral s ∷ order_word o ∷ []) (block_text b t) t (block_long b t)

  pub cases_long : (cs : Cases) (t : List ℕ) → length t ≤ length (cases_text cs t)
  cases_long no_default t = omega arith
  cases_long (default b) t = before_text (codes "default") [] (block_text b t) t (block_long b t)
  cases_long (case n b cs) t =
      before_text (codes "case") (integer n ∷ []) (block_text b (cases_text cs t)) t
      (omega (arith, block_long b (cases_text cs t), cases_long cs t))
