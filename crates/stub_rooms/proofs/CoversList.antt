-- The codes of a list, one after the other.
use Rattle.std.proofs.Common.{◌≡◌, ℕ, suc, ◌+◌, ◌<◌, ◌≤◌, Bool, true, false, ◌&&◌, List, [], ◌∷◌, get_or, length, drop, map, None, Result, Ok, Err, IfOk, is_some, refl, sym, ap, ◌∙◌}
use Rattle.std.proofs.Math.ListN.{drop_of_length-le}
use Rattle.std.proofs.Math.Seq.{drop-cons}
use Rattle.mint.specs.declared.node.Node.{Node}
use Rattle.cast_stub.specs.declared.send.SendOp.{SendOp}
use Rattle.cast_stub.specs.Block.{code_seen}
use Rattle.stub_flat.specs.Residues.{every}
use Rattle.stub_flat.specs.Flat.{Spots}
use Rattle.stub_cover.specs.Rooms.{on}
use Rattle.stub_cover.specs.Covers.{run, list_runs}
use Rattle.stub_rooms.proofs.CoversLeading.{next_is}

uneven : (b : Bool) (c : Bool) → false ≡ c → false ≡ (b && c)
uneven true c h = h
uneven false c h = refl

-- lists of different lengths
pub list_uneven : (N : List Node) (codes : List (List SendOp)) (ts : Spots) → (length codes ≡ length ts → ⊥)
    → false ≡ list_runs N (map code_seen codes) ts
list_uneven N [] [] h = absurd (h refl)
list_uneven N [] (t ∷ ts) h = refl
list_uneven N (c ∷ cs) [] h = refl
list_uneven N (c ∷ cs) (t ∷ ts) h = uneven (is_some (run N t (code_seen c) None (on every 0))) _ (list_uneven N cs ts (λ e. h (ap suc e)))

module _ (N : List Node) (codes : List (List SendOp)) (ts : Spots) (i : ℕ)
    (left : list_runs N (map code_seen codes) ts ≡ list_runs N (map code_seen (drop i codes)) (drop i ts)) where
  at_code : (b : Bool) → i < length codes → i < length ts
      → b ≡ is_some (run N (get_or ts i None) (code_seen (get_or codes i [])) None (on every 0))
      → list_runs N (map code_seen codes) ts ≡ (b && list_runs N (map code_seen (drop (i + 1) codes)) (drop (i + 1) ts))
  at_code b less fits runs =
      left
      ∙ ap (λ (l : List (List SendOp)). list_runs N (map code_seen l) (drop i ts)) (drop-cons codes i [] less)
      ∙ ap (λ (l : Spots). list_runs N (map code_seen (get_or codes i [] ∷ drop (suc i) codes)) l) (drop-cons ts i None fits)
      ∙ ap (λ k. is_some (run N (get_or ts i None) (code_seen (get_or codes i [])) None (on every 0))
      && list_runs N (map code_seen (drop k codes)) (drop k ts)) (next_is i)
      ∙ ap (λ (z : Bool). z && list_runs N (map code_seen (drop (i + 1) codes)) (drop (i + 1) ts)) (sym runs)

  pub list_one : (b : Bool) → i < length codes → i < length ts
      → b ≡ is_some (run N (get_or ts i None) (code_seen (get_or codes i [])) None (on every 0)) → b ≡ true
      → list_runs N (map code_seen codes) ts ≡ list_runs N (map code_seen (drop (i + 1) codes)) (drop (i + 1) ts)
  list_one b less fits runs e = at_code b less fits runs
      ∙ ap (λ (z : Bool). z && list_runs N (map code_seen (drop (i + 1) codes)) (drop (i + 1) ts)) e

  pub list_refused : (b : Bool) → i < length codes → i < length ts
      → b ≡ is_some (run N (get_or ts i None) (code_seen (get_or codes i [])) None (on every 0)) → b ≡ false
      → false ≡ list_runs N (map code_seen codes) ts
  list_refused b less fits runs e = sym (at_code b less fits runs
      ∙ ap (λ (z : Bool). z && list_runs N (map code_seen (drop (i + 1) codes)) (drop (i + 1) ts)) e)

  pub list_all_run : length codes ≤ i → length ts ≤ i → true ≡ list_runs N (map code_seen codes) ts
  list_all_run le over = sym (left
      ∙ ap (λ (l : List (List SendOp)). list_runs N (map code_seen l) (drop i ts)) (drop_of_length-le codes le)
      ∙ ap (λ (l : Spots). list_runs N [] l) (drop_of_length-le ts over))

-- a code, and then its list
pub code_refused : (x y b : Bool) → b ≡ x → b ≡ false → false ≡ (x && y)
code_refused true y b e h = absurd cc
code_refused false y b e h = refl

pub list_answer : {E : Type 0} (N : List Node) (codes subs : List (List SendOp)) (ts : Spots) (x b : Bool) (r : Result Bool E)
    → codes ≡ subs → b ≡ x → b ≡ true → IfOk r (λ d. d ≡ list_runs N (map code_seen codes) ts)
    → IfOk r (λ d. d ≡ (x && list_runs N (map code_seen subs) ts))
list_answer N codes subs ts true b (Ok d) same e h p = p ∙ ap (λ (l : List (List SendOp)). list_runs N (map code_seen l) ts) same
list_answer N codes subs ts true b (Err g) same e h p = tt
list_answer N codes subs ts false b r same e h p = absurd cc
