-- Blocks after blocks, and for parts of parts, by induction on the block.
use Rattle.std.proofs.Common.{◌≡◌, ℕ, List, [], ◌∷◌, ◌++◌, map, refl, sym, ap, ◌∙◌, append_assoc}
use Rattle.cast_stub.specs.declared.put.Put.{Put}
use Rattle.cast_stub.specs.declared.put.Put.TheVariants as put
use Rattle.cast_stub.specs.Block.{Block, stop, ensure, ensure_row, align, chunk, row_copy, row_swap, row_wide, each, switch, if_there, call, patch}
use Rattle.cast_stub.specs.Append.{append, put_rebased, rebase}
use Rattle.cast_stub.proofs.Appending.{append-assoc}
use Rattle.cast_stub.proofs.Copied.{same-puts}
use Rattle.copy_inline.specs.Spliced.{spliced, cases_spliced}

pub rebase-append : (q : List ℕ) (a b : Block) → rebase q (append a b) ≡ append (rebase q a) (rebase q b)
rebase-append q stop b = refl
rebase-append q (ensure n r) b = ap (ensure n) (rebase-append q r b)
rebase-append q (ensure_row p u e r) b = ap (ensure_row (q ++ p) u e) (rebase-append q r b)
rebase-append q (align a r) b = ap (align a) (rebase-append q r b)
rebase-append q (chunk s ps r) b = ap (chunk s (map (put_rebased q) ps)) (rebase-append q r b)
rebase-append q (row_copy p r) b = ap (row_copy (q ++ p)) (rebase-append q r b)
rebase-append q (row_swap p r) b = ap (row_swap (q ++ p)) (rebase-append q r b)
rebase-append q (row_wide p o r) b = ap (row_wide (q ++ p) o) (rebase-append q r b)
rebase-append q (each p w r) b = ap (each (q ++ p) w) (rebase-append q r b)
rebase-append q (switch p cs r) b = ap (switch (q ++ p) cs) (rebase-append q r b)
rebase-append q (if_there p w r) b = ap (if_there (q ++ p) w) (rebase-append q r b)
rebase-append q (call k p r) b = ap (call k (q ++ p)) (rebase-append q r b)
rebase-append q (patch x s o r) b = ap (patch x s o) (rebase-append q r b)

put_rebased-twice : (q p : List ℕ) (x : Put) → put_rebased q (put_rebased p x) ≡ put_rebased (q ++ p) x
put_rebased-twice q p (put.Num off path w o) = ap (λ l. put.Num off l w o) (sym (append_assoc q p path))
put_rebased-twice q p (put.Tag off path w o) = ap (λ l. put.Tag off l w o) (sym (append_assoc q p path))
put_rebased-twice q p (put.Flag off path w o) = ap (λ l. put.Flag off l w o) (sym (append_assoc q p path))
put_rebased-twice q p (put.Count off path m a w o) = ap (λ l. put.Count off l m a w o) (sym (append_assoc q p path))
put_rebased-twice q p (put.Short off path name size m) = ap (λ l. put.Short off l name size m) (sym (append_assoc q p path))
put_rebased-twice q p (put.Const off os) = refl
put_rebased-twice q p (put.Head off f w o) = refl

puts_rebased-twice : (q p : List ℕ) (xs : List Put) → map (put_rebased q) (map (put_rebased p) xs) ≡ map (put_rebased (q ++ p)) xs
puts_rebased-twice q p [] = refl
puts_rebased-twice q p (x ∷ xs) = rw (put_rebased-twice q p x, puts_rebased-twice q p xs) refl

pub rebase-rebase : (q s : List ℕ) (a : Block) → rebase q (rebase s a) ≡ rebase (q ++ s) a
rebase-rebase q s stop = refl
rebase-rebase q s (ensure n r) = ap (ensure n) (rebase-rebase q s r)
rebase-rebase q s (ensure_row p u e r) = rw (append_assoc q s p, rebase-rebase q s r) refl
rebase-rebase q s (align a r) = ap (align a) (rebase-rebase q s r)
rebase-rebase q s (chunk z ps r) = rw (puts_rebased-twice q s ps, rebase-rebase q s r) refl
rebase-rebase q s (row_copy p r) = rw (append_assoc q s p, rebase-rebase q s r) refl
rebase-rebase q s (row_swap p r) = rw (append_assoc q s p, rebase-rebase q s r) refl
rebase-rebase q s (row_wide p o r) = rw (append_assoc q s p, rebase-rebase q s r) refl
rebase-rebase q s (each p b r) = rw (append_assoc q s p, rebase-rebase q s r) refl
rebase-rebase q s (switch p cs r) = rw (append_assoc q s p, rebase-rebase q s r) refl
rebase-rebase q s (if_there p b r) = rw (append_assoc q s p, rebase-rebase q s r) refl
rebase-rebase q s (call k p r) = rw (append_assoc q s p, rebase-rebase q s r) refl
rebase-rebase q s (patch x z o r) = ap (patch x z o) (rebase-rebase q s r)

pub spliced-append : (inl : ℕ → Block) (a b : Block) → spliced inl (append a b) ≡ append (spliced inl a) (spliced inl b)
spliced-append inl stop b = refl
spliced-append inl (ensure n r) b = ap (ensure n) (spliced-append inl r b)
spliced-append inl (ensure_row p u e r) b = ap (ensure_row p u e) (spliced-append inl r b)
spliced-append inl (align a r) b = ap (align a) (spliced-append inl r b)
spliced-append inl (chunk s ps r) b = ap (chunk s ps) (spliced-append inl r b)
spliced-append inl (row_copy p r) b = ap (row_copy p) (spliced-append inl r b)
spliced-append inl (row_swap p r) b = ap (row_swap p) (spliced-append inl r b)
spliced-append inl (row_wide p o r) b = ap (row_wide p o) (spliced-append inl r b)
spliced-append inl (each p w r) b = ap (each p (spliced inl w)) (spliced-append inl r b)
spliced-append inl (switch p cs r) b = ap (switch p (cases_spliced inl cs)) (spliced-append inl r b)
spliced-append inl (if_there p w r) b = ap (if_there p (spliced inl w)) (spliced-append inl r b)
spliced-append inl (call k p r) b =
    ap (append (rebase p (inl k))) (spliced-append inl r b) ∙ sym (append-assoc (rebase p (inl k)) (spliced inl r) (spliced inl b))
spliced-append inl (patch x s o r) b = ap (patch x s o) (spliced-append inl r b)

pub rebase-none : (a : Block) → rebase [] a ≡ a
rebase-none stop = refl
rebase-none (chunk s ps r) = rw (same-puts ps, rebase-none r) refl
rebase-none (ensure n r) = ap (ensure n) (rebase-none r)
rebase-none (ensure_row p u e r) = ap (ensure_row p u e) (rebase-none r)
rebase-none (align a r) = ap (align a) (rebase-none r)
rebase-none (row_copy p r) = ap (row_copy p) (rebase-none r)
rebase-none (row_swap p r) = ap (row_swap p) (rebase-none r)
rebase-none (row_wide p o r) = ap (row_wide p o) (rebase-none r)
rebase-none (each p b r) = ap (each p b) (rebase-none r)
rebase-none (switch p cs r) = ap (switch p cs) (rebase-none r)
rebase-none (if_there p b r) = ap (if_there p b) (rebase-none r)
rebase-none (call k p r) = ap (call k p) (rebase-none r)
rebase-none (patch x s o r) = ap (patch x s o) (rebase-none r)
