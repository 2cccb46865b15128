-- Chunked receive code has every other operation in its place, by induction on the block.
use Rattle.std.proofs.Common.{◌≡◌, ℕ, zero, suc, ◌+◌, List, [], ◌∷◌, ◌++◌, map, Bool, true, false, if◌then◌else◌, refl, ap, ◌∙◌}
use Rattle.wire_def.specs.Scalars.{gap}
use Rattle.cast_stub.specs.declared.recv.Get.{Get}
use Rattle.cast_stub.specs.RecvBlock.{Recv, finish, need, need_row, skip_any, skip_zero, pass, desc, row_block, row_wide, each, switch, if_there, call, Cases, no_default, default, case}
use Rattle.cast_stub.specs.Steps.{is_width}
use Rattle.chunker.specs.declared.phase.Phase.{Phase}
use Rattle.chunker.specs.Left.{by_fours}
use Rattle.chunker.specs.Phases.{unknown, modulo, shift, is_known}
use Rattle.chunker.specs.RecvChunked.{moved, zeros, unread, seen_with, tested, taken, closed, chunked, cases_chunked}
use Rattle.chunker.specs.RecvKept.{skeleton, cases_skeleton}
use Rattle.chunker.specs.RecvLeft.{looped, switched, perhaps}

bare_taken : (n : ℕ) (gs : List Get) (r : Recv) → skeleton (taken n gs r) ≡ skeleton r
bare_taken n (g ∷ gs) r = refl
bare_taken zero [] r = refl
bare_taken (suc n) [] r = refl

bare_tested : (m : ℕ) (r : Recv) → skeleton (tested m r) ≡ skeleton r
bare_tested zero r = refl
bare_tested (suc m) r = refl

bare_closed : (n : ℕ) (gs : List Get) (m : ℕ) (r b : Recv) → skeleton r ≡ b → skeleton (closed n gs m r) ≡ b
bare_closed n gs m r b e = bare_tested m (taken n gs r) ∙ bare_taken n gs r ∙ e

bare_if : (t : Bool) (x y b : Recv) → skeleton x ≡ b → skeleton y ≡ b → skeleton (if t then x else y) ≡ b
bare_if true x y b e f = e
bare_if false x y b e f = f

mutual
  pub bare : (b : Recv) (ph : Phase) (n : ℕ) (gs : List Get) (m : ℕ) → skeleton (chunked ph n gs m b) ≡ skeleton b
  bare finish ph n gs m = bare_closed n gs m finish finish refl
  bare (need k r) ph n gs m = bare r ph n gs (seen_with m n k)
  bare (need_row p u x r) ph n gs m =
      bare_closed n gs m (need_row p u x (chunked ph 0 [] 0 r)) (need_row p u x (skeleton r)) (ap (need_row p u x) (bare r ph 0 [] 0))
  bare (skip_any a r) ph n gs m =
      let k = gap ph.r a in
      bare_if (is_width a)
      (if is_known ph a then chunked (shift ph k) (n + k) gs (seen_with m n k) r
      else closed n gs m (skip_any a (chunked (modulo a 0) 0 [] 0 r))) (chunked ph n (gs ++ unread n a) m r) (skeleton r)
      (bare_if (is_known ph a) (chunked (shift ph k) (n + k) gs (seen_with m n k) r)
      (closed n gs m (skip_any a (chunked (modulo a 0) 0 [] 0 r))) (skeleton r) (bare r (shift ph k) (n + k) gs (seen_with m n k))
      (bare_closed n gs m (skip_any a (chunked (modulo a 0) 0 [] 0 r)) (skeleton r) (bare r (modulo a 0) 0 [] 0)))
      (bare r ph n (gs ++ unread n a) m)
  bare (skip_zero a r) ph n gs m =
      let k = gap ph.r a in
      bare_if (is_width a)
      (if is_known ph a then chunked (shift ph k) (n + k) (gs ++ zeros n k) (seen_with m n k) r
      else closed n gs m (skip_zero a (chunked (modulo a 0) 0 [] 0 r))) (chunked ph n (gs ++ unread n a) m r) (skeleton r)
      (bare_if (is_known ph a) (chunked (shift ph k) (n + k) (gs ++ zeros n k) (seen_with m n k) r)
      (closed n gs m (skip_zero a (chunked (modulo a 0) 0 [] 0 r))) (skeleton r)
      (bare r (shift ph k) (n + k) (gs ++ zeros n k) (seen_with m n k))
      (bare_closed n gs m (skip_zero a (chunked (modulo a 0) 0 [] 0 r)) (skeleton r) (bare r (modulo a 0) 0 [] 0)))
      (bare r ph n (gs ++ unread n a) m)
  bare (pass s hs r) ph n gs m = bare r (shift ph s) (n + s) (gs ++ map (moved n) hs) m
  bare (desc p name size mul r) ph n gs m =
      bare_closed n gs m (desc p name size mul (chunked unknown 0 [] 0 r)) (desc p name size mul (skeleton r))
      (ap (desc p name size mul) (bare r unknown 0 [] 0))
  bare (row_block p o r) ph n gs m =
      bare_closed n gs m (row_block p o (chunked unknown 0 [] 0 r)) (row_block p o (skeleton r)) (ap (row_block p o)
      (bare r unknown 0 [] 0))
  bare (row_wide p o r) ph n gs m =
      bare_closed n gs m (row_wide p o (chunked (by_fours ph) 0 [] 0 r)) (row_wide p o (skeleton r)) (ap (row_wide p o)
      (bare r (by_fours ph) 0 [] 0))
  bare (each p b r) ph n gs m =
      let s = looped ph b in
      bare_closed n gs m (each p (chunked s 0 [] 0 b) (chunked s 0 [] 0 r)) (each p (skeleton b) (skeleton r))
      (ap (λ (x : Recv). each p x (skeleton (chunked s 0 [] 0 r))) (bare b s 0 [] 0) ∙ ap (each p (skeleton b)) (bare r s 0 [] 0))
  bare (switch p cs r) ph n gs m =
      let s = switched ph cs in
      bare_closed n gs m (switch p (cases_chunked ph cs) (chunked s 0 [] 0 r)) (switch p (cases_skeleton cs) (skeleton r))
      (ap (λ (x : Cases). switch p x (skeleton (chunked s 0 [] 0 r))) (bare_cases cs ph)
      ∙ ap (switch p (cases_skeleton cs)) (bare r s 0 [] 0))
  bare (if_there p b r) ph n gs m =
      let s = perhaps ph b in
      bare_closed n gs m (if_there p (chunked ph 0 [] 0 b) (chunked s 0 [] 0 r)) (if_there p (skeleton b) (skeleton r))
      (ap (λ (x : Recv). if_there p x (skeleton (chunked s 0 [] 0 r))) (bare b ph 0 [] 0) ∙ ap (if_there p (skeleton b)) (bare r s 0 [] 0))
  bare (call k p r) ph n gs m =
      bare_closed n gs m (call k p (chunked unknown 0 [] 0 r)) (call k p (skeleton r)) (ap (call k p) (bare r unknown 0 [] 0))

  pub bare_cases : (cs : Cases) (ph : Phase) → cases_skeleton (cases_chunked ph cs) ≡ cases_skeleton cs
  bare_cases no_default ph = refl
  bare_cases (default b) ph = ap default (bare b ph 0 [] 0)
  bare_cases (case n b cs) ph =
      ap (λ (x : Recv). case n x (cases_skeleton (cases_chunked ph cs))) (bare b ph 0 [] 0) ∙ ap (case n (skeleton b)) (bare_cases cs ph)
