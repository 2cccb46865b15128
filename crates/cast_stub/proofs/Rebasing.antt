-- A part's code on the whole, by induction on the code.
use Rattle.std.proofs.Common.{◌≡◌, ℕ, List, [], ◌∷◌, ◌++◌, map, replicate, pos, ◌+◌, ◌*◌, Option, Some, None, refl, sym, ap, ◌∙◌}
use Rattle.std.proofs.lemmas.List.{length-map}
use Rattle.mint.specs.Values.{Val}
use Rattle.wire_def.specs.declared.head.Head.{Head}
use Rattle.cast_stub.specs.declared.put.Put.{Put}
use Rattle.cast_stub.specs.declared.put.Put.TheVariants as put
use Rattle.cast_stub.specs.Parts.{on_some, in_group, at, length_in, number_in, tag_in, flag_in}
use Rattle.cast_stub.specs.Puts.{word, put_octets, offset, Cells, placed, put_all}
use Rattle.wire_def.specs.Descriptors.{descriptor}
use Rattle.cast_stub.specs.Block.{Block, stop, ensure, ensure_row, align, chunk, row_copy, row_swap, row_wide, each, switch, if_there, call, patch}
use Rattle.cast_stub.specs.Steps.{Room, Patched, both, Calls, steps}
use Rattle.cast_stub.specs.Append.{put_rebased, rebase}

pub on_some-on_some : {A B C : Type 0} (o : Option A) (f : A → Option B) (g : B → Option C) → on_some (on_some o f) g
    ≡ on_some o (λ a. on_some (f a) g)
on_some-on_some None f g = refl
on_some-on_some (Some a) f g = refl

pub on_some_same : {A B : Type 0} (o : Option A) (f g : A → Option B) → ((a : A) → f a ≡ g a) → on_some o f ≡ on_some o g
on_some_same None f g h = refl
on_some_same (Some a) f g h = h a

pub at-append : (q p : List ℕ) (v : Val) → at (q ++ p) v ≡ on_some (at q v) (at p)
at-append [] p v = refl
at-append (n ∷ q) p v =
    on_some_same (in_group n v) (at (q ++ p)) (λ w. on_some (at q w) (at p)) (at-append q p)
    ∙ sym (on_some-on_some (in_group n v) (at q) (at p))

-- the part at a path, from the whole
pub at-rebase : (q p : List ℕ) (v w : Val) → at q v ≡ Some w → at (q ++ p) v ≡ at p w
at-rebase q p v w e = at-append q p v ∙ ap (λ o. on_some o (at p)) e

put-rebase : (h : Head) (q : List ℕ) (p : Put) (v w : Val) → at q v ≡ Some w → put_octets h (put_rebased q p) v ≡ put_octets h p w
put-rebase h q (put.Num off p w' o) v w e = ap (λ x. on_some (on_some x number_in) (word w' o)) (at-rebase q p v w e)
put-rebase h q (put.Tag off p w' o) v w e = ap (λ x. on_some (on_some x tag_in) (word w' o)) (at-rebase q p v w e)
put-rebase h q (put.Flag off p w' o) v w e = ap (λ x. on_some (on_some x flag_in) (word w' o)) (at-rebase q p v w e)
put-rebase h q (put.Count off p m a w' o) v w e =
    ap (λ x. on_some (on_some x length_in) (λ n. word w' o (pos (n * m + a)))) (at-rebase q p v w e)
put-rebase h q (put.Short off p name size m) v w e =
    ap (λ x. on_some (on_some x length_in) (λ n. descriptor name size (n * m))) (at-rebase q p v w e)
put-rebase h q (put.Const off os) v w e = refl
put-rebase h q (put.Head off f w' o) v w e = refl

offset-rebase : (q : List ℕ) (p : Put) → offset (put_rebased q p) ≡ offset p
offset-rebase q (put.Num off p w' o) = refl
offset-rebase q _ = refl

put_all-rebase : (h : Head) (q : List ℕ) (ps : List Put) (v w : Val) (cs : Cells) → at q v ≡ Some w
    → put_all h v (map (put_rebased q) ps) cs ≡ put_all h w ps cs
put_all-rebase h q [] v w cs e = refl
put_all-rebase h q (p ∷ ps) v w cs e =
    rw (put-rebase h q p v w e, offset-rebase q p)
    (on_some_same
    (on_some (put_octets h p w) (λ os. placed (offset p) os cs)) (put_all h v (map (put_rebased q) ps)) (put_all h w ps) (λ ds.
    put_all-rebase h q ps v w ds e))

-- code made for a part, seen from the whole; where the part is there
pub steps-rebase : (c : Calls) (h : Head) (q : List ℕ) (b : Block) (v w : Val) → at q v ≡ Some w → steps c h (rebase q b) v ≡ steps c h b w
steps-rebase c h q stop v w e = refl
steps-rebase c h q (ensure n r) v w e = ap (both (Some (Room n ∷ []))) (steps-rebase c h q r v w e)
steps-rebase c h q (ensure_row p u x r) v w e = rw (at-rebase q p v w e, steps-rebase c h q r v w e) refl
steps-rebase c h q (align a r) v w e = rw (steps-rebase c h q r v w e) refl
steps-rebase c h q (chunk s ps r) v w e =
    rw (put_all-rebase h q ps v w (replicate s None) e, length-map ps (put_rebased q), steps-rebase c h q r v w e) refl
steps-rebase c h q (row_copy p r) v w e = rw (at-rebase q p v w e, steps-rebase c h q r v w e) refl
steps-rebase c h q (row_swap p r) v w e = rw (at-rebase q p v w e, steps-rebase c h q r v w e) refl
steps-rebase c h q (row_wide p o r) v w e = rw (at-rebase q p v w e, steps-rebase c h q r v w e) refl
steps-rebase c h q (each p a r) v w e = rw (at-rebase q p v w e, steps-rebase c h q r v w e) refl
steps-rebase c h q (switch p cs r) v w e = rw (at-rebase q p v w e, steps-rebase c h q r v w e) refl
steps-rebase c h q (if_there p a r) v w e = rw (at-rebase q p v w e, steps-rebase c h q r v w e) refl
steps-rebase c h q (call k p r) v w e = rw (at-rebase q p v w e, steps-rebase c h q r v w e) refl
steps-rebase c h q (patch a s o r) v w e = ap (both (Some (Patched a s o ∷ []))) (steps-rebase c h q r v w e)
