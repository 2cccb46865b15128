-- Where the open take lacks octets, or one of its gets refuses, so does all that becomes of it, by induction on the block.
use Rattle.std.proofs.Common.{◌≡◌, ℕ, zero, suc, ◌+◌, ◌<◌, ◌≤◌, List, [], ◌∷◌, ◌++◌, length, map, max, nat_lt, Bool, true, false, if◌then◌else◌, refl, ap, ◌∙◌, arith, lt-ltb}
use Rattle.kit_base.specs.Causes.{raised}
use Rattle.wire_def.specs.Scalars.{gap}
use Rattle.cast_stub.specs.declared.recv.Get.{Get}
use Rattle.cast_stub.specs.RecvBlock.{Recv, finish, need, need_row, skip_any, skip_zero, pass, desc, row_block, row_wide, each, switch, if_there, call}
use Rattle.cast_stub.specs.Draft.{Draft}
use Rattle.cast_stub.specs.Into.{passed}
use Rattle.cast_stub.specs.Fill.{all_got, Callees, fill}
use Rattle.cast_stub.specs.Runs.{Place, gives, refuses, then_run}
use Rattle.cast_stub.specs.Steps.{is_width}
use Rattle.chunker.specs.declared.phase.Phase.{Phase}
use Rattle.chunker.specs.Left.{by_fours}
use Rattle.chunker.specs.Phases.{unknown, shift, is_known, modulo}
use Rattle.chunker.specs.RecvChunked.{moved, zeros, unread, seen_with, taken, closed, chunked, cases_chunked}
use Rattle.chunker.specs.RecvLeft.{looped, switched, perhaps}
use Rattle.chunker.proofs.RecvMoved.{all-append}

-- the place after a test of so many octets
abbrev pub after_need : ℕ → Place → Place
after_need m t = record { pos = t.pos; left = t.left; near = max m t.near; tests = raised t.tests 1 }

-- the gets refuse from a place, whatever more is known of its octets
abbrev pub Refused : List Get → ℕ → Draft → Place → Type 0
Refused gs m e t = (u : Place) → u.left ≡ t.left → max m t.near ≤ u.near → all_got gs e u ≡ refuses

-- fewer octets are there than are tested, or the gets refuse
pub data Stuck (gs : List Get) (m : ℕ) (e : Draft) (t : Place) : Type 0 where
  short : length t.left < m → Stuck gs m e t
  refused : Refused gs m e t → Stuck gs m e t

pub seen_least : (m n k : ℕ) → m ≤ seen_with m n k
seen_least m n zero = omega arith
seen_least m n (suc k) = omega arith

stuck_more : (gs : List Get) (m j : ℕ) (e : Draft) (t : Place) → m ≤ j → Stuck gs m e t → Stuck gs j e t
stuck_more gs m j e t le (short lt) = short (omega (arith, le, lt))
stuck_more gs m j e t le (refused f) = refused (λ u same near. f u same (omega (arith, le, near)))

stuck_gets : (gs hs : List Get) (m : ℕ) (e : Draft) (t : Place) → Stuck gs m e t → Stuck (gs ++ hs) m e t
stuck_gets gs hs m e t (short lt) = short lt
stuck_gets gs hs m e t (refused f) =
    refused (λ u same near. all-append gs hs e u ∙ ap (λ z. then_run z (all_got hs)) (f u same near))

module _ (c : Callees) where
  stuck_taken : (n : ℕ) (gs : List Get) (r : Recv) (e : Draft) (u : Place) → all_got gs e u ≡ refuses → fill c (taken n gs r) e u ≡ refuses
  stuck_taken n (g ∷ gs) r e u is = ap (λ z. then_run z (λ x t. then_run (passed n x t) (fill c r))) is
  stuck_taken zero [] r e u is = absurd cc
  stuck_taken (suc n) [] r e u is = absurd cc

  stuck_closed : (n : ℕ) (gs : List Get) (m : ℕ) (r : Recv) (e : Draft) (t : Place) → Stuck gs m e t
      → fill c (closed n gs m r) e t ≡ refuses
  stuck_closed n gs zero r e t (short lt) = absurd (omega (arith, lt))
  stuck_closed n gs zero r e t (refused f) = stuck_taken n gs r e t (f t refl (omega arith))
  stuck_closed n gs (suc m) r e t (short lt) =
      ap (λ (b : Bool). then_run (if b then refuses else gives e (after_need (suc m) t)) (fill c (taken n gs r)))
      (lt-ltb (length t.left) (suc m) lt)
  stuck_closed n gs (suc m) r e t (refused f) =
      by_test (nat_lt (length t.left) (suc m)) (stuck_taken n gs r e (after_need (suc m) t) (f (after_need (suc m) t) refl (omega arith)))
    where
      by_test : (b : Bool) → fill c (taken n gs r) e (after_need (suc m) t) ≡ refuses
          → then_run (if b then refuses else gives e (after_need (suc m) t)) (fill c (taken n gs r)) ≡ refuses
      by_test true is = refl
      by_test false is = is

  stuck_if : (b : Bool) (x y : Recv) (e : Draft) (t : Place) → fill c x e t ≡ refuses → fill c y e t ≡ refuses
      → fill c (if b then x else y) e t ≡ refuses
  stuck_if true x y e t f g = f
  stuck_if false x y e t f g = g

  -- what becomes of a block behind it refuses
  pub stuck : (b : Recv) (ph : Phase) (n : ℕ) (gs : List Get) (m : ℕ) (e : Draft) (t : Place) → Stuck gs m e t
      → fill c (chunked ph n gs m b) e t ≡ refuses
  stuck finish ph n gs m e t h = stuck_closed n gs m finish e t h
  stuck (need k r) ph n gs m e t h = stuck r ph n gs (seen_with m n k) e t (stuck_more gs m (seen_with m n k) e t (seen_least m n k) h)
  stuck (need_row p u x r) ph n gs m e t h = stuck_closed n gs m (need_row p u x (chunked ph 0 [] 0 r)) e t h
  stuck (skip_any a r) ph n gs m e t h =
      let k = gap ph.r a in
      stuck_if (is_width a)
      (if is_known ph a then chunked (shift ph k) (n + k) gs (seen_with m n k) r
      else closed n gs m (skip_any a (chunked (modulo a 0) 0 [] 0 r))) (chunked ph n (gs ++ unread n a) m r) e t
      (stuck_if (is_known ph a) (chunked (shift ph k) (n + k) gs (seen_with m n k) r)
      (closed n gs m (skip_any a (chunked (modulo a 0) 0 [] 0 r))) e t
      (stuck r (shift ph k) (n + k) gs (seen_with m n k) e t (stuck_more gs m (seen_with m n k) e t (seen_least m n k) h))
      (stuck_closed n gs m (skip_any a (chunked (modulo a 0) 0 [] 0 r)) e t h))
      (stuck r ph n (gs ++ unread n a) m e t (stuck_gets gs (unread n a) m e t h))
  stuck (skip_zero a r) ph n gs m e t h =
      let k = gap ph.r a in
      stuck_if (is_width a)
      (if is_known ph a then chunked (shift ph k) (n + k) (gs ++ zeros n k) (seen_with m n k) r
      else closed n gs m (skip_zero a (chunked (modulo a 0) 0 [] 0 r))) (chunked ph n (gs ++ unread n a) m r) e t
      (stuck_if (is_known ph a) (chunked (shift ph k) (n + k) (gs ++ zeros n k) (seen_with m n k) r)
      (closed n gs m (skip_zero a (chunked (modulo a 0) 0 [] 0 r))) e t
      (stuck r (shift ph k) (n + k) (gs ++ zeros n k) (seen_with m n k) e t
      (stuck_more (gs ++ zeros n k) m (seen_with m n k) e t (seen_least m n k) (stuck_gets gs (zeros n k) m e t h)))
      (stuck_closed n gs m (skip_zero a (chunked (modulo a 0) 0 [] 0 r)) e t h))
      (stuck r ph n (gs ++ unread n a) m e t (stuck_gets gs (unread n a) m e t h))
  stuck (pass s hs r) ph n gs m e t h =
      stuck r (shift ph s) (n + s) (gs ++ map (moved n) hs) m e t (stuck_gets gs (map (moved n) hs) m e t h)
  stuck (desc p name size mul r) ph n gs m e t h = stuck_closed n gs m (desc p name size mul (chunked unknown 0 [] 0 r)) e t h
  stuck (row_block p o r) ph n gs m e t h = stuck_closed n gs m (row_block p o (chunked unknown 0 [] 0 r)) e t h
  stuck (row_wide p o r) ph n gs m e t h = stuck_closed n gs m (row_wide p o (chunked (by_fours ph) 0 [] 0 r)) e t h
  stuck (each p b r) ph n gs m e t h =
      stuck_closed n gs m (each p (chunked (looped ph b) 0 [] 0 b) (chunked (looped ph b) 0 [] 0 r)) e t h
  stuck (switch p cs r) ph n gs m e t h =
      stuck_closed n gs m (switch p (cases_chunked ph cs) (chunked (switched ph cs) 0 [] 0 r)) e t h
  stuck (if_there p b r) ph n gs m e t h =
      stuck_closed n gs m (if_there p (chunked ph 0 [] 0 b) (chunked (perhaps ph b) 0 [] 0 r)) e t h
  stuck (call k p r) ph n gs m e t h = stuck_closed n gs m (call k p (chunked unknown 0 [] 0 r)) e t h
