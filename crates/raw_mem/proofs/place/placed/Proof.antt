-- A `Vec` owns nothing at null, so its octets lie in a block. Assumes `Logic`.
use Rattle.std.proofs.Common.{◌≡◌, ℕ, [], ◌∷◌, refl, sym, ap, ◌∙◌}
use Rattle.std.proofs.raw_atomic.Walks.{proved}
use base.Logic.{never, id⊢}
use base.Fml.{ftrue, flft}
use mir.Syntax.{named}
use mir.Val.{vunit}
use types.Kit.{‵, ◌⊛◌, ◌$◌, ◌∵◌, !, qed, done, move, keep, split, join, fsplit, fsplit3, fjoin, feq_i, rewrite, suffices, frame, group}
use types.Run.{enter, of_opd, unit_lit, returns}
use types.ByLocal.{alloc_all, pass_all, free_all, look_at, sets}
use denote.RawPtr.{Ptr, block_ptr, block_of, count_of, in_a_block}
use denote.Ref.{MutRef, mut_vals, mut_Tells}
use denote.Signature.{plain}
use denote.Steps.{nothing, opens, closes}
use denote.Triple.Walked.{Stays, walk_of, says, stay_ref, Goes-ref, ends_at}
use Rattle.raw_mem.proofs.Homes.{Home, held}
use Rattle.raw_mem.specs.Places.{IsPlaced}
use Rattle.raw_mem.specs.contracts.place.placed as f
use Rattle.raw_mem.proofs.place.placed.Statement.{statement}
use Rattle.raw_mem.proofs.place.placed.Code as code

abbrev stayed : Stays f.ended.signature.params f.ended.kept
stayed = (stay_ref (0 ∷ []) tt (plain (λ _. Home)), tt)

-- a place in a block is one
is_placed : (p : Ptr) (b o : ℕ) → p ≡ block_ptr b o → IsPlaced p
is_placed p b o at = at ∙ sym (ap (λ (q : Ptr). block_ptr (block_of q) (count_of q)) at)

pub placed_spec : {M : Type 1} → statement M
placed_spec 𝓤 𝓛 𝓜 𝓡 wired =
    let c = f.clauses 𝓛 𝓜.mem 𝓡.returns in
    let W = walk_of 𝓛 f.ended stayed c in
    proved 𝓛 f.ended stayed c 𝓜 𝓡 (Goes-ref 𝓛 1 0 tt (plain (λ _. Home)), tt)
    f.Key.name code.function (code.unfolded 𝓤 𝓛.H 𝓜 𝓡 wired)
    (λ κs. (mut_vals, tt)) (λ κs. (mut_Tells (named 0) κs.0 Home, tt)) (λ κs qs bounds a g are.
    let b = a.0.ref_ptr.0 in
    let o = a.0.ref_ptr.1 in
    let v = a.0.now in
    let vs = mut_vals a.0 in
    let y : W.Ghost = ((κs, qs, bounds, a, (vs, tt)), g) in
    qed 𝓛 (((‵ (flft κs.0 qs.0) ⊛ ‵ ftrue) ⊛ ‵ ((MutRef (named 0) κs.0 Home).own_val a.0 vs) ⊛ ‵ ftrue) ∷ ‵ ftrue ∷ []) ∵
    split ! $ split ! $ move ! (2 ∷ []) $ split ! $ keep ! (0 ∷ 2 ∷ []) $
    enter ! _ _ _ _ _ $ alloc_all ! (λ l. pass_all ! refl ((tt, tt), tt) $
    fsplit3 ! $ move ! (1 ∷ 2 ∷ 3 ∷ []) $ opens ! tt Home {h = v} b o (λ us.
    -- [what is owned beside the fields; the fields; the cell; the open borrow, in three entries; ..]
    move ! (1 ∷ []) $ fsplit ! $ move ! (1 ∷ []) $ fsplit ! $ move ! (1 ∷ []) $
    in_a_block ! v.ptr (λ p. held v p v.items) (id⊢ 𝓤 (never 𝓤)) (λ b' o' e.
    rewrite ! 0 (λ (p : Ptr). ‵ (held v p v.items)) (sym e) refl $
    move ! (1 ∷ 0 ∷ []) $ fjoin ! $ move ! (1 ∷ 0 ∷ []) $ fjoin ! $ move ! (1 ∷ []) $ closes ! tt Home v us b o $
    sets ! (of_opd ! (unit_lit !)) refl (tt, tt) $
    returns ! (look_at ! 0 refl) $ free_all ! refl $ move ! (3 ∷ []) $
    suffices ! _ (ends_at 𝓛 f.ended stayed c y vunit tt (v, tt) (tt, tt)) $ says ! (is_placed v.ptr b' o' e, refl) $
    group ! 3 $ nothing ! $ move ! (1 ∷ 0 ∷ []) $ join ! $ nothing ! $ move ! (2 ∷ 0 ∷ []) $ join ! $ frame ! $ frame ! $
    feq_i ! _ (vunit ∷ []) _ refl $ done !))))
