-- Chunked code has every other operation in its place, and runs the calls that the given code runs, by induction on the block.
use Rattle.std.proofs.Common.{◌≡◌, ℕ, ◌+◌, ℤ, List, [], ◌∷◌, ◌++◌, map, Option, Bool, true, false, if◌then◌else◌, refl, sym, ap, ◌∙◌}
use Rattle.std.proofs.Math.Path.{fun_ext}
use Rattle.std.specs.Ordering.{int_eq}
use Rattle.mint.specs.Values.{Val, Vals, arm_in}
use Rattle.wire_def.specs.Scalars.{gap}
use Rattle.cast_stub.specs.declared.put.Put.{Put}
use Rattle.cast_stub.specs.Block.{Block, stop, ensure, ensure_row, align, chunk, row_copy, row_swap, row_wide, each, switch, if_there, call, patch, Cases, no_default, default, case}
use Rattle.cast_stub.specs.Entered.{Entries, of_some, of_each, of_present, entered, case_entered}
use Rattle.cast_stub.specs.Parts.{on_some, at, elements_in}
use Rattle.cast_stub.specs.Steps.{is_width}
use Rattle.chunker.specs.declared.phase.Phase.{Phase}
use Rattle.chunker.specs.Chunked.{moved, consts_joined, zeros, chunk_of, closed, chunked, cases_chunked}
use Rattle.chunker.specs.Left.{by_fours, looped, switched, perhaps}
use Rattle.chunker.specs.Phases.{unknown, modulo, shift, is_known}
use Rattle.cast_stub.specs.Skeletons.{skeleton, cases_skeleton}
use Rattle.cast_stub.proofs.Entering.{if_same}

bare_chunk : (n : ℕ) (qs : List Put) (r : Block) → skeleton (chunk_of n qs r) ≡ skeleton r
bare_chunk n [] r = refl
bare_chunk n (q ∷ qs) r = refl

bare_closed : (n : ℕ) (ps : List Put) (r b : Block) → skeleton r ≡ b → skeleton (closed n ps r) ≡ b
bare_closed n ps r b e = bare_chunk n (consts_joined 0 [] ps) r ∙ e

bare_if : (t : Bool) (x y b : Block) → skeleton x ≡ b → skeleton y ≡ b → skeleton (if t then x else y) ≡ b
bare_if true x y b e f = e
bare_if false x y b e f = f

mutual
  pub bare : (b : Block) (ph : Phase) (n : ℕ) (ps : List Put) → skeleton (chunked ph n ps b) ≡ skeleton b
  bare stop ph n ps = bare_closed n ps stop stop refl
  bare (ensure k r) ph n ps =
      bare_closed n ps (ensure k (chunked ph 0 [] r)) (ensure k (skeleton r)) (ap (ensure k) (bare r ph 0 []))
  bare (ensure_row q u x r) ph n ps =
      bare_closed n ps (ensure_row q u x (chunked ph 0 [] r)) (ensure_row q u x (skeleton r)) (ap (ensure_row q u x) (bare r ph 0 []))
  bare (align a r) ph n ps =
      bare_if (is_width a) (if is_known ph a then chunked (shift ph (gap ph.r a)) (n + gap ph.r a) (ps ++ zeros n (gap ph.r a)) r
      else closed n ps (align a (chunked (modulo a 0) 0 [] r))) (chunked ph n ps r) (skeleton r)
      (bare_if (is_known ph a) (chunked (shift ph (gap ph.r a)) (n + gap ph.r a) (ps ++ zeros n (gap ph.r a)) r)
      (closed n ps (align a (chunked (modulo a 0) 0 [] r))) (skeleton r)
      (bare r (shift ph (gap ph.r a)) (n + gap ph.r a) (ps ++ zeros n (gap ph.r a)))
      (bare_closed n ps (align a (chunked (modulo a 0) 0 [] r)) (skeleton r) (bare r (modulo a 0) 0 [])))
      (bare r ph n ps)
  bare (chunk s qs r) ph n ps = bare r (shift ph s) (n + s) (ps ++ map (moved n) qs)
  bare (row_copy q r) ph n ps =
      bare_closed n ps (row_copy q (chunked unknown 0 [] r)) (row_copy q (skeleton r)) (ap (row_copy q) (bare r unknown 0 []))
  bare (row_swap q r) ph n ps =
      bare_closed n ps (row_swap q (chunked unknown 0 [] r)) (row_swap q (skeleton r)) (ap (row_swap q) (bare r unknown 0 []))
  bare (row_wide q o r) ph n ps =
      bare_closed n ps (row_wide q o (chunked (by_fours ph) 0 [] r)) (row_wide q o (skeleton r)) (ap (row_wide q o) (bare r
      (by_fours ph) 0 []))
  bare (each q b r) ph n ps =
      let s = looped ph b in
      bare_closed n ps (each q (chunked s 0 [] b) (chunked s 0 [] r)) (each q (skeleton b) (skeleton r))
      (ap (λ (x : Block). each q x (skeleton (chunked s 0 [] r))) (bare b s 0 []) ∙ ap (each q (skeleton b)) (bare r s 0 []))
  bare (switch q cs r) ph n ps =
      let s = switched ph cs in
      bare_closed n ps (switch q (cases_chunked ph cs) (chunked s 0 [] r)) (switch q (cases_skeleton cs) (skeleton r))
      (ap (λ (x : Cases). switch q x (skeleton (chunked s 0 [] r))) (bare_cases cs ph) ∙ ap (switch q (cases_skeleton cs)) (bare r s 0 []))
  bare (if_there q b r) ph n ps =
      let s = perhaps ph b in
      bare_closed n ps (if_there q (chunked ph 0 [] b) (chunked s 0 [] r)) (if_there q (skeleton b) (skeleton r))
      (ap (λ (x : Block). if_there q x (skeleton (chunked s 0 [] r))) (bare b ph 0 []) ∙ ap (if_there q (skeleton b)) (bare r s 0 []))
  bare (call k q r) ph n ps =
      bare_closed n ps (call k q (chunked unknown 0 [] r)) (call k q (skeleton r)) (ap (call k q) (bare r unknown 0 []))
  bare (patch x s o r) ph n ps =
      bare_closed n ps (patch x s o (chunked ph 0 [] r)) (patch x s o (skeleton r)) (ap (patch x s o) (bare r ph 0 []))

  pub bare_cases : (cs : Cases) (ph : Phase) → cases_skeleton (cases_chunked ph cs) ≡ cases_skeleton cs
  bare_cases no_default ph = refl
  bare_cases (default b) ph = ap default (bare b ph 0 [])
  bare_cases (case m b cs) ph =
      ap (λ (x : Block). case m x (cases_skeleton (cases_chunked ph cs))) (bare b ph 0 []) ∙ ap (case m (skeleton b)) (bare_cases cs ph)

-- ---- calls

each_same : (f g : Val → List ℕ) → ((w : Val) → f w ≡ g w) → (vs : Vals) → of_each f vs ≡ of_each g vs
each_same f g e vs = ap (λ (x : Val → List ℕ). of_each x vs) (fun_ext e)

present_same : (f g : Val → List ℕ) → ((w : Val) → f w ≡ g w) → (v : Val) → of_present f v ≡ of_present g v
present_same f g e v = ap (λ (x : Val → List ℕ). of_present x v) (fun_ext e)

some_same : {A : Type 0} (o : Option A) (f g : A → List ℕ) → ((a : A) → f a ≡ g a) → of_some o f ≡ of_some o g
some_same o f g e = ap (of_some o) (fun_ext e)

two_same : (a b c d : List ℕ) → a ≡ b → c ≡ d → a ++ c ≡ b ++ d
two_same a b c d e f = ap (λ (x : List ℕ). x ++ c) e ∙ ap (λ (x : List ℕ). b ++ x) f

mutual
  -- chunks and aligns run no call
  pub calls_bare : (e : Entries) (b : Block) (v : Val) → entered e (skeleton b) v ≡ entered e b v
  calls_bare e stop v = refl
  calls_bare e (ensure n r) v = calls_bare e r v
  calls_bare e (ensure_row p u x r) v = calls_bare e r v
  calls_bare e (align a r) v = calls_bare e r v
  calls_bare e (chunk s ps r) v = calls_bare e r v
  calls_bare e (row_copy p r) v = calls_bare e r v
  calls_bare e (row_swap p r) v = calls_bare e r v
  calls_bare e (row_wide p o r) v = calls_bare e r v
  calls_bare e (each p b r) v =
      two_same (of_some (on_some (at p v) elements_in) (of_each (entered e (skeleton b))))
      (of_some (on_some (at p v) elements_in) (of_each (entered e b))) (entered e (skeleton r) v) (entered e r v)
      (some_same (on_some (at p v) elements_in) (of_each (entered e (skeleton b))) (of_each (entered e b))
      (each_same (entered e (skeleton b)) (entered e b) (calls_bare e b))) (calls_bare e r v)
  calls_bare e (switch p cs r) v =
      two_same (of_some (on_some (at p v) arm_in) (λ a. case_entered e (cases_skeleton cs) a.0 a.1))
      (of_some (on_some (at p v) arm_in) (λ a. case_entered e cs a.0 a.1)) (entered e (skeleton r) v) (entered e r v)
      (some_same (on_some (at p v) arm_in) (λ a. case_entered e (cases_skeleton cs) a.0 a.1) (λ a. case_entered e cs a.0 a.1)
      (λ a. case_calls_bare e cs a.0 a.1)) (calls_bare e r v)
  calls_bare e (if_there p b r) v =
      two_same (of_some (at p v) (of_present (entered e (skeleton b)))) (of_some (at p v) (of_present (entered e b)))
      (entered e (skeleton r) v) (entered e r v)
      (some_same (at p v) (of_present (entered e (skeleton b))) (of_present (entered e b))
      (present_same (entered e (skeleton b)) (entered e b) (calls_bare e b))) (calls_bare e r v)
  calls_bare e (call k p r) v = ap (λ (x : List ℕ). of_some (at p v) (λ w. k ∷ e k w) ++ x) (calls_bare e r v)
  calls_bare e (patch a s o r) v = calls_bare e r v

  pub case_calls_bare : (e : Entries) (cs : Cases) (n : ℤ) (w : Val) → case_entered e (cases_skeleton cs) n w ≡ case_entered e cs n w
  case_calls_bare e no_default n w = refl
  case_calls_bare e (default b) n w = calls_bare e b w
  case_calls_bare e (case m b cs) n w =
      if_same (int_eq n m) (entered e (skeleton b) w) (entered e b w) (case_entered e (cases_skeleton cs) n w) (case_entered e cs n w)
      (calls_bare e b w) (case_calls_bare e cs n w)

-- blocks of one skeleton run the same calls
pub same_calls : (e : Entries) (a b : Block) (v : Val) → skeleton a ≡ skeleton b → entered e a v ≡ entered e b v
same_calls e a b v s = sym (calls_bare e a v) ∙ ap (λ (x : Block). entered e x v) s ∙ calls_bare e b v
