-- The text of code that receives tells its name and the code, by mutual induction on code and cases.
use Rattle.std.proofs.Common.{◌≡◌, ℕ, if◌then◌else◌, ℤ, List, [], ◌∷◌, drop, refl, ap, codes}
use Rattle.cast_stub.specs.declared.recv.Get.{Get}
use Rattle.cast_stub.specs.declared.recv.Get.TheVariants as get
use Rattle.cast_stub.specs.RecvBlock.{Recv, finish, need, need_row, skip_any, skip_zero, pass, desc, row_block, row_wide, each, switch, if_there, call, Cases, no_default, default, case}
use Rattle.stub_print.specs.Laws.{RecvTextsTell}
use Rattle.stub_print.specs.RecvText.{get_words, gets_text, block_text, cases_text}
use Rattle.stub_print.specs.Words.{numeral, path_word, order_word, ended}
use Rattle.cast_stub.proofs.Directions.{receives}
use Rattle.stub_print.proofs.BothTexts.{received_text}
use Rattle.stub_print.proofs.Frames.{frame, on_top, on_two, with_op, with_part, with_body, with_parts, with_cases, as_bodies, with_sub, read, read_line, Frame, Tells, read_end, read_parts, read_each, read_there, read_switch, read_default, read_case, texts_tell}
use Rattle.stub_print.proofs.Numerals.{value, value_numeral}
use Rattle.stub_print.proofs.Read.{Line, AreClean, same, word_at, clean_numeral, integer_of, integer_read, path_of, path_read, clean_path, order_of, order_read, clean_order, octets_of, hex_read, clean_hex}

-- ---- gets

abbrev number_at : ℕ → Line → ℕ
number_at i ws = value 0 (word_at i ws)

abbrev path_at : ℕ → Line → List ℕ
path_at i ws = path_of (word_at i ws)

-- the get of the words after `at`
abbrev get_of : Line → Get
get_of ws =
    if same (word_at 1 ws) (codes "num") then get.Num (number_at 0 ws) (path_at 2 ws) (number_at 3 ws) (order_of (word_at 4 ws))
    else (if same (word_at 1 ws) (codes "tag") then get.Tag (number_at 0 ws) (path_at 2 ws) (number_at 3 ws) (order_of (word_at 4 ws))
    else (if same (word_at 1 ws) (codes "flag") then get.Flag (number_at 0 ws) (path_at 2 ws) (number_at 3 ws) (order_of (word_at 4 ws))
    else (if same (word_at 1 ws) (codes "count") then get.Count (number_at 0 ws) (path_at 2 ws) (number_at 3 ws) (number_at 4 ws)
    (number_at 5 ws) (order_of (word_at 6 ws))
    else get.Const (number_at 0 ws) (octets_of (word_at 2 ws)))))

get_read : (g : Get) → get_of (get_words g) ≡ g
get_read (get.Num off p w o) = rw (value_numeral off, path_read p, value_numeral w, order_read o) refl
get_read (get.Tag off p w o) = rw (value_numeral off, path_read p, value_numeral w, order_read o) refl
get_read (get.Flag off p w o) = rw (value_numeral off, path_read p, value_numeral w, order_read o) refl
get_read (get.Count off p mul add w o) =
    rw (value_numeral off, path_read p, value_numeral mul, value_numeral add, value_numeral w, order_read o) refl
get_read (get.Const off os) = rw (value_numeral off, hex_read os) refl

clean_get : (g : Get) → AreClean (get_words g)
clean_get (get.Num off p w o) = (clean_numeral off, (refl, (clean_path p, (clean_numeral w, (clean_order o, tt)))))
clean_get (get.Tag off p w o) = (clean_numeral off, (refl, (clean_path p, (clean_numeral w, (clean_order o, tt)))))
clean_get (get.Flag off p w o) = (clean_numeral off, (refl, (clean_path p, (clean_numeral w, (clean_order o, tt)))))
clean_get (get.Count off p mul add w o) =
    (clean_numeral off, (refl, (clean_path p, (clean_numeral mul, (clean_numeral add, (clean_numeral w, (clean_order o, tt)))))))
clean_get (get.Const off os) = (clean_numeral off, (refl, (clean_hex os, tt)))

-- ---- lines, from the last to the first

-- what the lines of one block are so far
abbrev Frames : Type 0
Frames = List (Frame Recv Cases Get)

abbrev skip_of : ℕ → List ℕ → Recv → Recv
skip_of a w = if same w (codes "any") then skip_any a else skip_zero a

-- a line before others
abbrev step_by : List ℕ → Line → Frames → Frames
step_by k ws fs =
    if same k (codes "end") then frame finish no_default [] [] ∷ fs
    else (if same k (codes "at") then on_top (with_part (get_of ws)) fs
    else (if same k (codes "need") then on_top (with_op (need (number_at 0 ws))) fs
    else (if same k (codes "need_row") then on_top (with_op (need_row (path_at 0 ws) (number_at 1 ws) (number_at 2 ws))) fs
    else (if same k (codes "skip") then on_top (with_op (skip_of (number_at 0 ws) (word_at 1 ws))) fs
    else (if same k (codes "take") then on_two (with_parts (pass (number_at 0 ws))) fs
    else (if same k (codes "desc") then on_top (with_op (desc (path_at 0 ws) (number_at 1 ws) (number_at 2 ws) (number_at 3 ws))) fs
    else (if same k (codes "row") then on_top (with_op (row_block (path_at 0 ws) (order_of (word_at 1 ws)))) fs
    else (if same k (codes "row_wide") then on_top (with_op (row_wide (path_at 0 ws) (order_of (word_at 1 ws)))) fs
    else (if same k (codes "each") then on_two (with_body (each (path_at 0 ws))) fs
    else (if same k (codes "switch") then on_two (with_cases (switch (path_at 0 ws))) fs
    else (if same k (codes "some") then on_two (with_body (if_there (path_at 0 ws))) fs
    else (if same k (codes "call") then on_top (with_op (call (number_at 0 ws) (path_at 1 ws))) fs
    else (if same k (codes "default") then on_top (as_bodies finish (λ b cs. default b)) fs
    else (if same k (codes "case") then on_top (as_bodies finish (case (integer_of (word_at 0 ws)))) fs
    else on_two with_sub fs))))))))))))))

abbrev step : Line → Frames → Frames
step [] fs = fs
step (k ∷ ws) fs = step_by k ws fs

tells : Tells receives Get received_text step
tells = record {
  clean = clean_get;
  at-end = λ fs. refl;
  at-part = λ x b cs ps ss fs. ap (λ (z : Get). frame b cs (z ∷ ps) ss ∷ fs) (get_read x);
  at-each = λ p a b cs ps ss fs. ap (λ (q : List ℕ). frame (each q a b) cs ps ss ∷ fs) (path_read p);
  at-there = λ p a b cs ps ss fs. ap (λ (q : List ℕ). frame (if_there q a b) cs ps ss ∷ fs) (path_read p);
  at-switch = λ p bs b cs ps ss fs. ap (λ (q : List ℕ). frame (switch q bs b) cs ps ss ∷ fs) (path_read p);
  at-default = λ b ps ss fs. refl;
  at-case = λ n b cs ps ss fs. ap (λ (m : ℤ). frame finish (case m b cs) ps ss ∷ fs) (integer_read n);
  at-sub = λ k a b cs ps bs fs. refl;
}

mutual
  read_block : (b : Recv) (rest : List ℕ) (cs : Cases) (ps : List Get) (ss : List Recv) (fs : Frames)
      → read step rest ≡ frame finish cs ps ss ∷ fs
      → read step (block_text b rest) ≡ frame b cs ps ss ∷ fs
  read_block finish rest cs ps ss fs e = e
  read_block (need n b) rest cs ps ss fs e =
      read_line step (codes "need") (numeral n ∷ []) (block_text b rest) (frame b cs ps ss ∷ fs) (frame (need n b) cs ps ss ∷ fs)
      refl (clean_numeral n, tt) (read_block b rest cs ps ss fs e) (rw (value_numeral n) refl)
  read_block (need_row p unit extra b) rest cs ps ss fs e =
      read_line step (codes "need_row") (path_word p ∷ numeral unit ∷ numeral extra ∷ []) (block_text b rest) (frame b cs ps ss ∷ fs)
      (frame (need_row p unit extra b) cs ps ss ∷ fs)
      refl (clean_path p, (clean_numeral unit, (clean_numeral extra, tt))) (read_block b rest cs ps ss fs e)
      (rw (path_read p, value_numeral unit, value_numeral extra) refl)
  read_block (skip_any a b) rest cs ps ss fs e =
      read_line step (codes "skip") (numeral a ∷ codes "any" ∷ []) (block_text b rest) (frame b cs ps ss ∷ fs)
      (frame (skip_any a b) cs ps ss ∷ fs)
      refl (clean_numeral a, (refl, tt)) (read_block b rest cs ps ss fs e) (rw (value_numeral a) refl)
  read_block (skip_zero a b) rest cs ps ss fs e =
      read_line step (codes "skip") (numeral a ∷ codes "zero" ∷ []) (block_text b rest) (frame b cs ps ss ∷ fs)
      (frame (skip_zero a b) cs ps ss ∷ fs)
      refl (clean_numeral a, (refl, tt)) (read_block b rest cs ps ss fs e) (rw (value_numeral a) refl)
  read_block (pass size qs b) rest cs ps ss fs e =
      let after = read_end receives Get received_text step tells (block_text b rest) (frame b cs ps ss ∷ fs) (read_block b rest cs ps
      ss fs e) in
      read_line step (codes "take") (numeral size ∷ []) (gets_text qs (ended (block_text b rest)))
      (frame finish no_default qs [] ∷ frame b cs ps ss ∷ fs)
      (frame (pass size qs b) cs ps ss ∷ fs) refl (clean_numeral size, tt)
      (read_parts receives Get received_text step tells qs (ended (block_text b rest)) finish no_default [] (frame b cs ps ss ∷ fs)
      after) (rw (value_numeral size) refl)
  read_block (desc p name size mul b) rest cs ps ss fs e =
      read_line step (codes "desc") (path_word p ∷ numeral name ∷ numeral size ∷ numeral mul ∷ []) (block_text b rest) (frame b cs ps
      ss ∷ fs)
      (frame (desc p name size mul b) cs ps ss ∷ fs)
      refl (clean_path p, (clean_numeral name, (clean_numeral size, (clean_numeral mul, tt)))) (read_block b rest cs ps ss fs e)
      (rw (path_read p, value_numeral name, value_numeral size, value_numeral mul) refl)
  read_block (row_block p o b) rest cs ps ss fs e =
      read_line step (codes "row") (path_word p ∷ order_word o ∷ []) (block_text b rest) (frame b cs ps ss ∷ fs)
      (frame (row_block p o b) cs ps ss ∷ fs)
      refl (clean_path p, (clean_order o, tt)) (read_block b rest cs ps ss fs e) (rw (path_read p, order_read o) refl)
  read_block (row_wide p o b) rest cs ps ss fs e =
      read_line step (codes "row_wide") (path_word p ∷ order_word o ∷ []) (block_text b rest) (frame b cs ps ss ∷ fs)
      (frame (row_wide p o b) cs ps ss ∷ fs)
      refl (clean_path p, (clean_order o, tt)) (read_block b rest cs ps ss fs e) (rw (path_read p, order_read o) refl)
  read_block (each p body b) rest cs ps ss fs e =
      read_each receives Get received_text step tells p body b rest cs ps ss fs (λ r gs h. read_block body r no_default [] [] gs h)
      (read_block b rest cs ps ss fs e)
  read_block (switch p cases b) rest cs ps ss fs e =
      read_switch receives Get received_text step tells p cases b rest cs ps ss fs (λ r gs h. read_cases cases r [] [] gs h)
      (read_block b rest cs ps ss fs e)
  read_block (if_there p body b) rest cs ps ss fs e =
      read_there receives Get received_text step tells p body b rest cs ps ss fs (λ r gs h. read_block body r no_default [] [] gs h)
      (read_block b rest cs ps ss fs e)
  read_block (call k p b) rest cs ps ss fs e =
      read_line step (codes "call") (numeral k ∷ path_word p ∷ []) (block_text b rest) (frame b cs ps ss ∷ fs)
      (frame (call k p b) cs ps ss ∷ fs) refl
      (clean_numeral k, (clean_path p, tt)) (read_block b rest cs ps ss fs e) (rw (value_numeral k, path_read p) refl)

  read_cases : (cs : Cases) (rest : List ℕ) (ps : List Get) (ss : List Recv) (fs : Frames)
      → read step rest ≡ frame finish no_default ps ss ∷ fs
      → read step (cases_text cs rest) ≡ frame finish cs ps ss ∷ fs
  read_cases no_default rest ps ss fs e = e
  read_cases (default body) rest ps ss fs e =
      read_default receives Get received_text step tells body rest ps ss fs (read_block body rest no_default ps ss fs e)
  read_cases (case n body cs) rest ps ss fs e =
      read_case receives Get received_text step tells n body cs rest ps ss fs (read_block body (cases_text cs rest) cs ps ss fs
      (read_cases cs rest ps ss fs e))

pub recv_texts_tell : RecvTextsTell
recv_texts_tell n m a b subs others h k e =
    texts_tell receives Get received_text step tells read_block n m a b subs others h k (ap (drop 5) e)
