-- A load of octets as an array. Assumes `Logic`.
use Rattle.std.proofs.Common.{◌≡◌, ℕ, ◌+◌, ◌*◌, ◌^◌, ◌<◌, ◌≤◌, List, [], ◌∷◌, length, take, drop as drop_l, refl, ap, ◌∙◌, w64, w8}
use Rattle.std.proofs.raw_atomic.Walks.{proved}
use Rattle.kit_base.specs.Bytes.{written}
use Rattle.raw_mem.proofs.Cells.{beside, array_out, array_in, written_same}
use mir.Syntax.{Args, Fn, a_number, ty_int, ty_array, named}
use mir.MapTy.{inst_fn}
use mir.Val.{Val, vptr, vint}
use base.Fml.{Lft, ftrue, fat, flft}
use prog.Memory.{size}
use prog.Wp.{WpFn}
use contract.BorrowLft.{◌⊑◌}
use contract.Monad.{fact}
use contract.Running.{tables}
use types.Kit.{‵, raw, ◌⊛◌, some, prop, ◌$◌, ◌∵◌, !, qed, move, keep, drop, use1, use2, pick, split, split3, join, fsplit, fjoin, rewrite, regoal, suffices, done, at_ret}
use types.Run.{enter, returns, of_opd, bin, load, look, stop, well_typed, first, blocks, exec}
use types.ByLocal.{alloc_all, pass_all, free_all, look_at, get, through, sets, sets_last, env}
use borrow.Table.OneValue.{part_out, part_in}
use denote.Exit.{yes}
use denote.RattleType.{owns}
use denote.Array.{Array, array_copy}
use denote.Builtin.{u8, RefOf, usize}
use denote.Copied.{uint_Copied}
use denote.Index.{looks_slice, shuts_slice, row}
use denote.Memory.{part_at}
use denote.Param.{number, layouts}
use denote.Plain.{uint_vals, uint_Tells, uint_copy}
use denote.Ref.{shr_vals, shr_Tells}
use denote.Signature.{plain, types_at, named_lft}
use denote.Steps.{nothing, heard}
use denote.Triple.Walked.{says, Stays, stay_dropped, walk_of, ends_at, Goes-dropped}
use denote.Opens.{unhide, hide}
use denote.RawPtr.{RawPtr, block_ptr, block_of, count_of, ptr_val, rawptr_vals, rawptr_Tells}
use Rattle.std_alloc.proofs.VecSteps.Shapes.{after}
use Rattle.raw_mem.specs.contracts.lent.Lent as Lent
use Rattle.raw_mem.specs.contracts.lent.Lent.load_at as f
use Rattle.raw_mem.proofs.lent.Lent.load_at.Statement.{statement}
use Rattle.raw_mem.proofs.lent.Lent.load_at.Code as code

module _ (n : ℕ) where
  abbrev args : Args
  args = layouts (a_number ∷ []) (number n, tt)

  abbrev function : Fn
  function = inst_fn args code.function

  abbrev stayed : Stays (f.ended (number n)).signature.params (f.ended (number n)).kept
  stayed = (
    stay_dropped (RefOf (0 ∷ []) tt (plain (λ κs. Lent.the_row (named_lft 3 1 tt κs))) (λ _. tt)) yes,
    (stay_dropped (plain (λ _. RawPtr)) yes, (stay_dropped (plain (λ _. usize)) yes, tt)),
  )

pub load_at_spec : {M : Type 1} → statement M
load_at_spec 𝓤 𝓛 𝓜 𝓡 wired n _ =
    let ended = f.ended (number n) in
    let c = f.clauses (number n) 𝓛 𝓜.mem 𝓡.returns in
    let W = walk_of 𝓛 ended (stayed n) c in
    let 𝓣 = tables 𝓤 𝓛.H 𝓜 𝓡 𝓡.env in
    let fn : Fn = function n in
    proved 𝓛 ended (stayed n) c 𝓜 𝓡 (
      Goes-dropped 𝓛 3 (RefOf (0 ∷ []) tt (plain (λ κs. Lent.the_row (named_lft 3 1 tt κs))) (λ _. tt)) yes (λ κs x w. refl),
      (Goes-dropped 𝓛 3 (plain (λ _. RawPtr)) yes (λ κs x w. refl), (Goes-dropped 𝓛 3 (plain (λ _. usize)) yes (λ κs x w. refl), tt)),
    )
    (f.Key.name (args n)) fn (code.unfolded 𝓤 𝓛.H 𝓜 𝓡 wired (number n, tt))
    (λ κs. (shr_vals, (rawptr_vals, (uint_vals w64, tt))))
    (λ κs. (shr_Tells (named 0) κs.0 (Lent.the_row (named_lft 3 1 tt κs)), (rawptr_Tells, (uint_Tells w64, tt)))) (λ κs qs bounds a g are.
    let s = a.0.now in
    let start = a.1.0 in
    let i = a.1.1.0 in
    let xs = s.items in
    let κ : Lft = κs.1.0 in
    let b = block_of s.ptr in
    let o = count_of s.ptr in
    let self = vptr a.0.ref_ptr.0 a.0.ref_ptr.1 in
    let ys = take n (drop_l i xs) in
    let y : W.Ghost = ((κs, qs, bounds, a, (shr_vals a.0, (rawptr_vals start, (uint_vals w64 i, tt)))), g) in
    let Asked = (start ≡ s.ptr) × (i + n ≤ length xs) in
    let small = fact 𝓤 (n * size (ty_int w8) < 2 ^ 63) in
    qed 𝓛 (((‵ (flft κs.0 qs.0) ⊛ ‵ (flft κ qs.1.0) ⊛ ‵ (flft κs.1.1.0 qs.1.1.0) ⊛ ‵ ftrue)
    ⊛ ‵ (owns (types_at ended.signature.params κs) a y.0.4))
    ∷ (raw (fact 𝓤 (κs.1.1.0 ⊑ [])) ⊛ raw small ⊛ raw (fact 𝓤 Asked)) ∷ []) ∵
    move ! (1 ∷ []) $ split3 ! $ drop ! $ drop ! $ heard ! Asked (λ asked. split ! $ move ! (1 ∷ []) $
    let at : start ≡ block_ptr b o = asked.0 ∙ s.placed.0 in
    let fits : i + n ≤ length xs = asked.1 in
    -- [what the `&` holds; the tokens]
    fsplit ! $ fsplit ! $ drop ! $ unhide ! $ fsplit ! $ drop ! $ move ! (1 ∷ []) $ drop ! $
    regoal ! (λ (w : Val). prop (WpFn 𝓤 𝓛.H 𝓣.C 𝓣.Λ fn (self ∷ w ∷ vint w64 i ∷ []) (W.post y))) (ap ptr_val at) refl $
    enter ! 𝓣.C 𝓣.Λ fn (self ∷ vptr b o ∷ vint w64 i ∷ []) (W.post y) $
    alloc_all ! (λ l. pass_all ! refl ((tt, tt), ((tt, tt), ((tt, record { fits = are.1.1.0.1 }), tt))) $
    hide ! $ move ! (1 ∷ []) $ split3 ! $ move ! (3 ∷ 1 ∷ 0 ∷ []) $
    -- [the octets, in some share; the token of 'a, for later; the other tokens]
    looks_slice ! tt u8 (uint_Copied 𝓛 w8) xs b o (λ q'.
    use1 𝓛 (‵ (part_at (Array u8 n) q' ys b (i + o)) ⊛ ‵ (beside 𝓛 xs i n fits b o q')) (array_out 𝓛 xs i n fits b o q') $ split ! $
    use1 𝓛 (some (λ (v : Val). ‵ (fat q' (ty_array (ty_int w8) n) b (i + o) v) ⊛ ‵ ((Array u8 n).own_val ys (v ∷ []))))
    (part_out 𝓛 (Array u8 n) refl q' ys b (i + o)) $ pick ! (λ v. split ! $ well_typed ! (λ good.
    first ! $ blocks ! $
    -- let place = start.add(at) as *const [u8; N];
    sets ! (bin ! (get ! refl) (get ! refl) tt) refl (tt, tt) $
    sets ! (of_opd ! (get ! refl)) refl (tt, tt) $
    -- *place
    sets_last ! (of_opd ! (load ! (through ! refl (stop !)) (look ! 0 refl))) refl good $
    exec ! 𝓣.C 𝓣.Λ (env fn.locals l) (after 1 fn.body) (at_ret (env fn.locals l) (W.post y)) $
    sets ! (of_opd ! (get ! refl)) refl good $
    let Own = (Array u8 n).own_val ys (v ∷ []) in
    move ! (1 ∷ []) $ use1 𝓛 (‵ Own ⊛ ‵ Own) ((array_copy 𝓛 u8 (uint_copy 𝓛 w8) n).twice ys (v ∷ [])) $ split ! $ move ! (2 ∷ 0 ∷ []) $
    use2 𝓛 (‵ (part_at (Array u8 n) q' ys b (i + o))) (part_in 𝓛 (Array u8 n) refl q' ys b (i + o) v) $ move ! (0 ∷ 2 ∷ []) $
    use2 𝓛 (‵ (row u8 q' (written xs i ys) b o)) (array_in 𝓛 xs i n fits b o q' ys) $
    rewrite ! 0 (λ (l : List ℕ). ‵ (row u8 q' l b o)) (written_same 𝓛 xs i n fits b o) refl $ move ! (0 ∷ 2 ∷ []) $
    shuts_slice ! tt u8 q' xs b o $
    returns ! (look_at ! 0 refl) $ free_all ! refl $
    suffices ! _ (ends_at 𝓛 ended (stayed n) c y v ys (tt, (tt, (tt, tt))) (tt, (tt, (tt, tt)))) $ says ! refl $
    nothing ! $ nothing ! $ fjoin ! $ nothing ! $ fjoin ! $ nothing ! $ fjoin ! $
    move ! (1 ∷ 5 ∷ []) $ join ! $ move ! (4 ∷ 0 ∷ []) $ join ! $ keep ! (0 ∷ 1 ∷ 2 ∷ []) $ done !))))))
