-- The text of code that sends tells its name and the code, by mutual induction on code and cases.
use Rattle.std.proofs.Common.{◌≡◌, ℕ, if◌then◌else◌, ℤ, List, [], ◌∷◌, drop, refl, ap, codes}
use Rattle.cast_stub.specs.declared.put.HeadField.{HeadField}
use Rattle.cast_stub.specs.declared.put.HeadField.TheVariants.{Id, Remote, Local}
use Rattle.cast_stub.specs.declared.put.Put.{Put}
use Rattle.cast_stub.specs.declared.put.Put.TheVariants as put
use Rattle.cast_stub.specs.Block.{Block, stop, ensure, ensure_row, align, chunk, row_copy, row_swap, row_wide, each, switch, if_there, call, patch, Cases, no_default, default, case}
use Rattle.stub_print.specs.Laws.{SendTextsTell}
use Rattle.stub_print.specs.SendText.{field_word, put_words, puts_text, block_text, cases_text}
use Rattle.stub_print.specs.Words.{numeral, path_word, order_word, ended}
use Rattle.cast_stub.proofs.Directions.{sends}
use Rattle.stub_print.proofs.BothTexts.{sent_text}
use Rattle.stub_print.proofs.Frames.{frame, on_top, on_two, with_op, with_part, with_body, with_parts, with_cases, as_bodies, with_sub, read, read_line, Frame, Tells, read_end, read_parts, read_each, read_there, read_switch, read_default, read_case, texts_tell}
use Rattle.stub_print.proofs.Numerals.{value, value_numeral}
use Rattle.stub_print.proofs.Read.{Line, IsClean, AreClean, same, word_at, clean_numeral, integer_of, integer_read, path_of, path_read, clean_path, order_of, order_read, clean_order, octets_of, hex_read, clean_hex}

-- ---- puts

abbrev field_of : List ℕ → HeadField
field_of w = if same w (codes "id") then Id else (if same w (codes "remote") then Remote else Local)

field_read : (f : HeadField) → field_of (field_word f) ≡ f
field_read Id = refl
field_read Remote = refl
field_read Local = refl

clean_field : (f : HeadField) → IsClean (field_word f)
clean_field Id = refl
clean_field Remote = refl
clean_field Local = refl

abbrev number_at : ℕ → Line → ℕ
number_at i ws = value 0 (word_at i ws)

abbrev path_at : ℕ → Line → List ℕ
path_at i ws = path_of (word_at i ws)

-- the put of the words after `at`
abbrev put_of : Line → Put
put_of ws =
    if same (word_at 1 ws) (codes "num") then put.Num (number_at 0 ws) (path_at 2 ws) (number_at 3 ws) (order_of (word_at 4 ws))
    else (if same (word_at 1 ws) (codes "tag") then put.Tag (number_at 0 ws) (path_at 2 ws) (number_at 3 ws) (order_of (word_at 4 ws))
    else (if same (word_at 1 ws) (codes "flag") then put.Flag (number_at 0 ws) (path_at 2 ws) (number_at 3 ws) (order_of (word_at 4 ws))
    else (if same (word_at 1 ws) (codes "count") then put.Count (number_at 0 ws) (path_at 2 ws) (number_at 3 ws) (number_at 4 ws)
    (number_at 5 ws) (order_of (word_at 6 ws))
    else (if same (word_at 1 ws) (codes "short") then put.Short (number_at 0 ws) (path_at 2 ws) (number_at 3 ws) (number_at 4 ws)
    (number_at 5 ws)
    else (if same (word_at 1 ws) (codes "const") then put.Const (number_at 0 ws) (octets_of (word_at 2 ws))
    else put.Head (number_at 0 ws) (field_of (word_at 2 ws)) (number_at 3 ws) (order_of (word_at 4 ws)))))))

put_read : (p : Put) → put_of (put_words p) ≡ p
put_read (put.Num off p w o) = rw (value_numeral off, path_read p, value_numeral w, order_read o) refl
put_read (put.Tag off p w o) = rw (value_numeral off, path_read p, value_numeral w, order_read o) refl
put_read (put.Flag off p w o) = rw (value_numeral off, path_read p, value_numeral w, order_read o) refl
put_read (put.Count off p mul add w o) =
    rw (value_numeral off, path_read p, value_numeral mul, value_numeral add, value_numeral w, order_read o) refl
put_read (put.Short off p name size mul) = rw (value_numeral off, path_read p, value_numeral name, value_numeral size, value_numeral mul)
    refl
put_read (put.Const off os) = rw (value_numeral off, hex_read os) refl
put_read (put.Head off f w o) = rw (value_numeral off, field_read f, value_numeral w, order_read o) refl

clean_put : (p : Put) → AreClean (put_words p)
clean_put (put.Num off p w o) = (clean_numeral off, (refl, (clean_path p, (clean_numeral w, (clean_order o, tt)))))
clean_put (put.Tag off p w o) = (clean_numeral off, (refl, (clean_path p, (clean_numeral w, (clean_order o, tt)))))
clean_put (put.Flag off p w o) = (clean_numeral off, (refl, (clean_path p, (clean_numeral w, (clean_order o, tt)))))
clean_put (put.Count off p mul add w o) =
    (clean_numeral off, (refl, (clean_path p, (clean_numeral mul, (clean_numeral add, (clean_numeral w, (clean_order o, tt)))))))
clean_put (put.Short off p name size mul) =
    (clean_numeral off, (refl, (clean_path p, (clean_numeral name, (clean_numeral size, (clean_numeral mul, tt))))))
clean_put (put.Const off os) = (clean_numeral off, (refl, (clean_hex os, tt)))
clean_put (put.Head off f w o) = (clean_numeral off, (refl, (clean_field f, (clean_numeral w, (clean_order o, tt)))))

-- ---- lines, from the last to the first

-- what the lines of one block are so far
abbrev Frames : Type 0
Frames = List (Frame Block Cases Put)

-- a line before others
abbrev step_by : List ℕ → Line → Frames → Frames
step_by k ws fs =
    if same k (codes "end") then frame stop no_default [] [] ∷ fs
    else (if same k (codes "at") then on_top (with_part (put_of ws)) fs
    else (if same k (codes "ensure") then on_top (with_op (ensure (number_at 0 ws))) fs
    else (if same k (codes "ensure_row") then on_top (with_op (ensure_row (path_at 0 ws) (number_at 1 ws) (number_at 2 ws))) fs
    else (if same k (codes "align") then on_top (with_op (align (number_at 0 ws))) fs
    else (if same k (codes "chunk") then on_two (with_parts (chunk (number_at 0 ws))) fs
    else (if same k (codes "row_copy") then on_top (with_op (row_copy (path_at 0 ws))) fs
    else (if same k (codes "row_swap") then on_top (with_op (row_swap (path_at 0 ws))) fs
    else (if same k (codes "row_wide") then on_top (with_op (row_wide (path_at 0 ws) (order_of (word_at 1 ws)))) fs
    else (if same k (codes "each") then on_two (with_body (each (path_at 0 ws))) fs
    else (if same k (codes "switch") then on_two (with_cases (switch (path_at 0 ws))) fs
    else (if same k (codes "some") then on_two (with_body (if_there (path_at 0 ws))) fs
    else (if same k (codes "call") then on_top (with_op (call (number_at 0 ws) (path_at 1 ws))) fs
    else (if same k (codes "patch") then on_top (with_op (patch (number_at 0 ws) (number_at 1 ws) (order_of (word_at 2 ws)))) fs
    else (if same k (codes "default") then on_top (as_bodies stop (λ b cs. default b)) fs
    else (if same k (codes "case") then on_top (as_bodies stop (case (integer_of (word_at 0 ws)))) fs
    else on_two with_sub fs)))))))))))))))

abbrev step : Line → Frames → Frames
step [] fs = fs
step (k ∷ ws) fs = step_by k ws fs

tells : Tells sends Put sent_text step
tells = record {
  clean = clean_put;
  at-end = λ fs. refl;
  at-part = λ x b cs ps ss fs. ap (λ (z : Put). frame b cs (z ∷ ps) ss ∷ fs) (put_read x);
  at-each = λ p a b cs ps ss fs. ap (λ (q : List ℕ). frame (each q a b) cs ps ss ∷ fs) (path_read p);
  at-there = λ p a b cs ps ss fs. ap (λ (q : List ℕ). frame (if_there q a b) cs ps ss ∷ fs) (path_read p);
  at-switch = λ p bs b cs ps ss fs. ap (λ (q : List ℕ). frame (switch q bs b) cs ps ss ∷ fs) (path_read p);
  at-default = λ b ps ss fs. refl;
  at-case = λ n b cs ps ss fs. ap (λ (m : ℤ). frame stop (case m b cs) ps ss ∷ fs) (integer_read n);
  at-sub = λ k a b cs ps bs fs. refl;
}

mutual
  read_block : (b : Block) (rest : List ℕ) (cs : Cases) (ps : List Put) (ss : List Block) (fs : Frames)
      → read step rest ≡ frame stop cs ps ss ∷ fs
      → read step (block_text b rest) ≡ frame b cs ps ss ∷ fs
  read_block stop rest cs ps ss fs e = e
  read_block (ensure n b) rest cs ps ss fs e =
      read_line step (codes "ensure") (numeral n ∷ []) (block_text b rest) (frame b cs ps ss ∷ fs) (frame (ensure n b) cs ps ss ∷ fs) refl
      (clean_numeral n, tt)
      (read_block b rest cs ps ss fs e) (rw (value_numeral n) refl)
  read_block (ensure_row p unit extra b) rest cs ps ss fs e =
      read_line step (codes "ensure_row") (path_word p ∷ numeral unit ∷ numeral extra ∷ []) (block_text b rest) (frame b cs ps ss ∷ fs)
      (frame (ensure_row p unit extra b) cs ps ss ∷ fs)
      refl (clean_path p, (clean_numeral unit, (clean_numeral extra, tt))) (read_block b rest cs ps ss fs e)
      (rw (path_read p, value_numeral unit, value_numeral extra) refl)
  read_block (align a b) rest cs ps ss fs e =
      read_line step (codes "align") (numeral a ∷ []) (block_text b rest) (frame b cs ps ss ∷ fs) (frame (align a b) cs ps ss ∷ fs) refl
      (clean_numeral a, tt)
      (read_block b rest cs ps ss fs e) (rw (value_numeral a) refl)
  read_block (chunk size qs b) rest cs ps ss fs e =
      let after = read_end sends Put sent_text step tells (block_text b rest) (frame b cs ps ss ∷ fs) (read_block b rest cs ps ss fs e) in
      read_line step (codes "chunk") (numeral size ∷ []) (puts_text qs (ended (block_text b rest)))
      (frame stop no_default qs [] ∷ frame b cs ps ss ∷ fs)
      (frame (chunk size qs b) cs ps ss ∷ fs) refl (clean_numeral size, tt)
      (read_parts sends Put sent_text step tells qs (ended (block_text b rest)) stop no_default [] (frame b cs ps ss ∷ fs) after) (rw
      (value_numeral size) refl)
  read_block (row_copy p b) rest cs ps ss fs e =
      read_line step (codes "row_copy") (path_word p ∷ []) (block_text b rest) (frame b cs ps ss ∷ fs) (frame (row_copy p b) cs ps ss ∷ fs)
      refl (clean_path p, tt)
      (read_block b rest cs ps ss fs e) (rw (path_read p) refl)
  read_block (row_swap p b) rest cs ps ss fs e =
      read_line step (codes "row_swap") (path_word p ∷ []) (block_text b rest) (frame b cs ps ss ∷ fs) (frame (row_swap p b) cs ps ss ∷ fs)
      refl (clean_path p, tt)
      (read_block b rest cs ps ss fs e) (rw (path_read p) refl)
  read_block (row_wide p o b) rest cs ps ss fs e =
      read_line step (codes "row_wide") (path_word p ∷ order_word o ∷ []) (block_text b rest) (frame b cs ps ss ∷ fs)
      (frame (row_wide p o b) cs ps ss ∷ fs) refl
      (clean_path p, (clean_order o, tt)) (read_block b rest cs ps ss fs e) (rw (path_read p, order_read o) refl)
  read_block (each p body b) rest cs ps ss fs e =
      read_each sends Put sent_text step tells p body b rest cs ps ss fs (λ r gs h. read_block body r no_default [] [] gs h)
      (read_block b rest cs ps ss fs e)
  read_block (switch p cases b) rest cs ps ss fs e =
      read_switch sends Put sent_text step tells p cases b rest cs ps ss fs (λ r gs h. read_cases cases r [] [] gs h) (read_block b
      rest cs ps ss fs e)
  read_block (if_there p body b) rest cs ps ss fs e =
      read_there sends Put sent_text step tells p body b rest cs ps ss fs (λ r gs h. read_block body r no_default [] [] gs h)
      (read_block b rest cs ps ss fs e)
  read_block (call k p b) rest cs ps ss fs e =
      read_line step (codes "call") (numeral k ∷ path_word p ∷ []) (block_text b rest) (frame b cs ps ss ∷ fs)
      (frame (call k p b) cs ps ss ∷ fs) refl
      (clean_numeral k, (clean_path p, tt)) (read_block b rest cs ps ss fs e) (rw (value_numeral k, path_read p) refl)
  read_block (patch at sub o b) rest cs ps ss fs e =
      read_line step (codes "patch") (numeral at ∷ numeral sub ∷ order_word o ∷ []) (block_text b rest) (frame b cs ps ss ∷ fs)
      (frame (patch at sub o b) cs ps ss ∷ fs) refl
      (clean_numeral at, (clean_numeral sub, (clean_order o, tt))) (read_block b rest cs ps ss fs e)
      (rw (value_numeral at, value_numeral sub, order_read o) refl)

  read_cases : (cs : Cases) (rest : List ℕ) (ps : List Put) (ss : List Block) (fs : Frames)
      → read step rest ≡ frame stop no_default ps ss ∷ fs
      → read step (cases_text cs rest) ≡ frame stop cs ps ss ∷ fs
  read_cases no_default rest ps ss fs e = e
  read_cases (default body) rest ps ss fs e =
      read_default sends Put sent_text step tells body rest ps ss fs (read_block body rest no_default ps ss fs e)
  read_cases (case n body cs) rest ps ss fs e =
      read_case sends Put sent_text step tells n body cs rest ps ss fs (read_block body (cases_text cs rest) cs ps ss fs (read_cases cs
      rest ps ss fs e))

pub send_texts_tell : SendTextsTell
send_texts_tell n m a b subs others h k e =
    texts_tell sends Put sent_text step tells read_block n m a b subs others h k (ap (drop 5) e)
