-- Blocks after blocks, and for parts of parts, by induction on the block.
use Rattle.std.proofs.Common.{◌≡◌, ℕ, List, [], ◌∷◌, ◌++◌, map, refl, sym, ap, ◌∙◌, append_assoc}
use Rattle.cast_stub.specs.declared.recv.Get.{Get}
use Rattle.cast_stub.specs.declared.recv.Get.TheVariants as get
use Rattle.cast_stub.specs.RecvBlock.{Recv, finish, need, need_row, skip_any, skip_zero, pass, desc, row_block, row_wide, each, switch, if_there, call}
use Rattle.cast_stub.specs.RecvAppend.{append, get_rebased, rebase}
use Rattle.cast_stub.proofs.RecvAppending.{append-assoc}
use Rattle.copy_inline.specs.RecvSpliced.{spliced, cases_spliced}

pub rebase-append : (q : List ℕ) (a b : Recv) → rebase q (append a b) ≡ append (rebase q a) (rebase q b)
rebase-append q finish b = refl
rebase-append q (need n r) b = ap (need n) (rebase-append q r b)
rebase-append q (need_row p u e r) b = ap (need_row (q ++ p) u e) (rebase-append q r b)
rebase-append q (skip_any a r) b = ap (skip_any a) (rebase-append q r b)
rebase-append q (skip_zero a r) b = ap (skip_zero a) (rebase-append q r b)
rebase-append q (pass s ps r) b = ap (pass s (map (get_rebased q) ps)) (rebase-append q r b)
rebase-append q (row_block p o r) b = ap (row_block (q ++ p) o) (rebase-append q r b)
rebase-append q (desc p name size mul r) b = ap (desc (q ++ p) name size mul) (rebase-append q r b)
rebase-append q (row_wide p o r) b = ap (row_wide (q ++ p) o) (rebase-append q r b)
rebase-append q (each p w r) b = ap (each (q ++ p) w) (rebase-append q r b)
rebase-append q (switch p cs r) b = ap (switch (q ++ p) cs) (rebase-append q r b)
rebase-append q (if_there p w r) b = ap (if_there (q ++ p) w) (rebase-append q r b)
rebase-append q (call k p r) b = ap (call k (q ++ p)) (rebase-append q r b)

get_rebased-twice : (q p : List ℕ) (x : Get) → get_rebased q (get_rebased p x) ≡ get_rebased (q ++ p) x
get_rebased-twice q p (get.Num off path w o) = ap (λ l. get.Num off l w o) (sym (append_assoc q p path))
get_rebased-twice q p (get.Tag off path w o) = ap (λ l. get.Tag off l w o) (sym (append_assoc q p path))
get_rebased-twice q p (get.Flag off path w o) = ap (λ l. get.Flag off l w o) (sym (append_assoc q p path))
get_rebased-twice q p (get.Count off path m a w o) = ap (λ l. get.Count off l m a w o) (sym (append_assoc q p path))
get_rebased-twice q p (get.Const off os) = refl

gets_rebased-twice : (q p : List ℕ) (xs : List Get) → map (get_rebased q) (map (get_rebased p) xs) ≡ map (get_rebased (q ++ p)) xs
gets_rebased-twice q p [] = refl
gets_rebased-twice q p (x ∷ xs) = rw (get_rebased-twice q p x, gets_rebased-twice q p xs) refl

pub rebase-rebase : (q s : List ℕ) (a : Recv) → rebase q (rebase s a) ≡ rebase (q ++ s) a
rebase-rebase q s finish = refl
rebase-rebase q s (need n r) = ap (need n) (rebase-rebase q s r)
rebase-rebase q s (need_row p u e r) = rw (append_assoc q s p, rebase-rebase q s r) refl
rebase-rebase q s (skip_any a r) = ap (skip_any a) (rebase-rebase q s r)
rebase-rebase q s (skip_zero a r) = ap (skip_zero a) (rebase-rebase q s r)
rebase-rebase q s (pass z ps r) = rw (gets_rebased-twice q s ps, rebase-rebase q s r) refl
rebase-rebase q s (row_block p o r) = rw (append_assoc q s p, rebase-rebase q s r) refl
rebase-rebase q s (desc p name size mul r) = rw (append_assoc q s p, rebase-rebase q s r) refl
rebase-rebase q s (row_wide p o r) = rw (append_assoc q s p, rebase-rebase q s r) refl
rebase-rebase q s (each p b r) = rw (append_assoc q s p, rebase-rebase q s r) refl
rebase-rebase q s (switch p cs r) = rw (append_assoc q s p, rebase-rebase q s r) refl
rebase-rebase q s (if_there p b r) = rw (append_assoc q s p, rebase-rebase q s r) refl
rebase-rebase q s (call k p r) = rw (append_assoc q s p, rebase-rebase q s r) refl

pub spliced-append : (inl : ℕ → Recv) (a b : Recv) → spliced inl (append a b) ≡ append (spliced inl a) (spliced inl b)
spliced-append inl finish b = refl
spliced-append inl (need n r) b = ap (need n) (spliced-append inl r b)
spliced-append inl (need_row p u e r) b = ap (need_row p u e) (spliced-append inl r b)
spliced-append inl (skip_any a r) b = ap (skip_any a) (spliced-append inl r b)
spliced-append inl (skip_zero a r) b = ap (skip_zero a) (spliced-append inl r b)
spliced-append inl (pass s ps r) b = ap (pass s ps) (spliced-append inl r b)
spliced-append inl (row_block p o r) b = ap (row_block p o) (spliced-append inl r b)
spliced-append inl (desc p name size mul r) b = ap (desc p name size mul) (spliced-append inl r b)
spliced-append inl (row_wide p o r) b = ap (row_wide p o) (spliced-append inl r b)
spliced-append inl (each p w r) b = ap (each p (spliced inl w)) (spliced-append inl r b)
spliced-append inl (switch p cs r) b = ap (switch p (cases_spliced inl cs)) (spliced-append inl r b)
spliced-append inl (if_there p w r) b = ap (if_there p (spliced inl w)) (spliced-append inl r b)
spliced-append inl (call k p r) b =
    ap (append (rebase p (inl k))) (spliced-append inl r b) ∙ sym (append-assoc (rebase p (inl k)) (spliced inl r) (spliced inl b))

get_rebased-none : (x : Get) → get_rebased [] x ≡ x
get_rebased-none (get.Num off path w o) = refl
get_rebased-none (get.Tag off path w o) = refl
get_rebased-none (get.Flag off path w o) = refl
get_rebased-none (get.Count off path m a w o) = refl
get_rebased-none (get.Const off os) = refl

pub gets_rebased-none : (xs : List Get) → map (get_rebased []) xs ≡ xs
gets_rebased-none [] = refl
gets_rebased-none (x ∷ xs) = rw (get_rebased-none x, gets_rebased-none xs) refl

pub rebase-none : (a : Recv) → rebase [] a ≡ a
rebase-none finish = refl
rebase-none (pass s ps r) = rw (gets_rebased-none ps, rebase-none r) refl
rebase-none (need n r) = ap (need n) (rebase-none r)
rebase-none (need_row p u e r) = ap (need_row p u e) (rebase-none r)
rebase-none (skip_any a r) = ap (skip_any a) (rebase-none r)
rebase-none (skip_zero a r) = ap (skip_zero a) (rebase-none r)
rebase-none (row_block p o r) = ap (row_block p o) (rebase-none r)
rebase-none (desc p name size mul r) = ap (desc p name size mul) (rebase-none r)
rebase-none (row_wide p o r) = ap (row_wide p o) (rebase-none r)
rebase-none (each p b r) = ap (each p b) (rebase-none r)
rebase-none (switch p cs r) = ap (switch p cs) (rebase-none r)
rebase-none (if_there p b r) = ap (if_there p b) (rebase-none r)
rebase-none (call k p r) = ap (call k p) (rebase-none r)
