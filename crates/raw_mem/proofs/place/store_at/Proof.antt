-- A store of an array over as many octets of a `Vec`. Assumes `Logic`.
use Rattle.std.proofs.Common.{◌≡◌, ℕ, ◌+◌, ◌*◌, ◌^◌, ◌≤◌, ◌<◌, [], ◌∷◌, length, refl, sym, ap, ◌∙◌, w64, w8, arith}
use Rattle.std.proofs.raw_atomic.Walks.{proved}
use Rattle.kit_base.specs.Bytes.{written}
use Rattle.raw_mem.specs.Places.{IsPlaced}
use Rattle.raw_mem.proofs.Cells.{beside, room_out, array_in, length-written}
use Rattle.raw_mem.proofs.Homes.{Home, held, beyond, with_octets, octets_out, octets_in}
use lib.Dec.{T}
use base.Fraction.{full_share}
use base.Fml.{ftrue, froom, flft}
use mir.Syntax.{Args, Fn, a_number, ty_int, ty_array, named}
use mir.MapTy.{inst_fn}
use mir.Val.{Val, vunit, vint, vptr, has_ty, WT}
use prog.Memory.{size}
use prog.Wp.{WpFn}
use contract.BorrowLft.{◌⊑◌}
use contract.Monad.{fact}
use contract.Running.{tables}
use types.Kit.{‵, raw, ◌⊛◌, prop, at_ret, ◌$◌, ◌∵◌, !, qed, done, move, keep, drop, use1, use2, split, split3, join, fsplit, fsplit3, fjoin, feq_i, regoal, suffices, frame, group}
use types.Run.{enter, of_opd, unit_lit, bin, init, stop, assigns_last, first, blocks, exec, returns}
use types.ByLocal.{alloc_all, pass_all, free_all, look_at, get, through, sets, env}
use denote.Exit.{yes}
use denote.Builtin.{u8, usize}
use denote.Array.{Array, array_vals, Array-Tells, Array-Lawful}
use denote.Memory.{part_at}
use denote.Param.{ArrayAt, param, number, layouts}
use denote.Plain.{uint_vals, uint_Tells, uint_Lawful}
use denote.RattleType.{RattleType, owns}
use denote.RawPtr.{RawPtr, block_ptr, block_of, count_of, rawptr_vals, rawptr_Tells, ptr_val}
use denote.RawPtr.Bytes.{bytes}
use denote.Ref.{MutRef, mut_vals, mut_Tells}
use denote.Signature.{plain}
use denote.Steps.{nothing, opens, closes, only, heard}
use denote.Triple.Walked.{Stays, walk_of, says, stay_ref, stay_dropped, Goes-ref, Goes-dropped, ends_at}
use borrow.Table.OneValue.{part_in}
use Rattle.std_alloc.proofs.VecSteps.Shapes.{after}
use Rattle.raw_mem.specs.contracts.place.store_at as f
use Rattle.raw_mem.proofs.place.store_at.Statement.{statement}
use Rattle.raw_mem.proofs.place.store_at.Code as code

module _ (n : ℕ) where
  abbrev args : Args
  args = layouts (a_number ∷ []) (number n, tt)

  abbrev function : Fn
  function = inst_fn args code.function

  abbrev Word : RattleType
  Word = ArrayAt u8 (param 0 (number n))

  abbrev stayed : Stays (f.ended (number n)).signature.params (f.ended (number n)).kept
  stayed = (
    stay_ref (0 ∷ []) tt (plain (λ _. Home)),
    (
      stay_dropped (plain (λ _. RawPtr)) yes,
      (stay_dropped (plain (λ _. usize)) yes, (stay_dropped (plain (λ _. Word)) yes, tt)),
    ),
  )

pub store_at_spec : {M : Type 1} → statement M
store_at_spec 𝓤 𝓛 𝓜 𝓡 wired n _ =
    let ended = f.ended (number n) in
    let c = f.clauses (number n) 𝓛 𝓜.mem 𝓡.returns in
    let W = walk_of 𝓛 ended (stayed n) c in
    let 𝓣 = tables 𝓤 𝓛.H 𝓜 𝓡 𝓡.env in
    let e : Fn = function n in
    proved 𝓛 ended (stayed n) c 𝓜 𝓡 (
      Goes-ref 𝓛 2 0 tt (plain (λ _. Home)),
      (
        Goes-dropped 𝓛 2 (plain (λ _. RawPtr)) yes (λ κs x f. refl),
        (Goes-dropped 𝓛 2 (plain (λ _. usize)) yes (λ κs x f. refl), (Goes-dropped 𝓛 2 (plain (λ _. Word n)) yes (λ κs x f. refl), tt)),
      ),
    )
    (f.Key.name (args n)) e (code.unfolded 𝓤 𝓛.H 𝓜 𝓡 wired (number n, tt))
    (λ κs. (mut_vals, (rawptr_vals, (uint_vals w64, (array_vals (uint_vals w8), tt)))))
    (λ κs. (mut_Tells (named 0) κs.0 Home, (rawptr_Tells, (uint_Tells w64, (Array-Tells u8 (uint_vals w8) (uint_Tells w8) n, tt)))))
    (λ κs qs bounds a g are.
    let rb = a.0.ref_ptr.0 in
    let ro = a.0.ref_ptr.1 in
    let v = a.0.now in
    let start = a.1.0 in
    let i = a.1.1.0 in
    let ys = a.1.1.1.0 in
    let xs = v.items in
    let b = block_of start in
    let o = count_of start in
    let vy = only (array_vals (uint_vals w8) ys) in
    let y : W.Ghost =
    ((κs, qs, bounds, a, (mut_vals a.0, (rawptr_vals start, (uint_vals w64 i, (array_vals (uint_vals w8) ys, tt))))), g) in
    let Asked = (start ≡ v.ptr) × (IsPlaced start × ((0 < n) × (i + n ≤ length xs))) in
    let good : T (has_ty (ty_array (ty_int w8) n) vy) × WT vy =
    ((Array-Lawful 𝓛 u8 (uint_Lawful 𝓛 w8) n).typed ys (vy ∷ []) are.1.1.1.0).0 in
    let long : length ys ≡ n = are.1.1.1.0.1.0.1 in
    let zs = written xs i ys in
    let small = fact 𝓤 (n * size (ty_int w8) < 2 ^ 63) in
    qed 𝓛 (((‵ (flft κs.0 qs.0) ⊛ ‵ (flft κs.1.0 qs.1.0) ⊛ ‵ ftrue)
    ⊛ ‵ (owns (MutRef (named 0) κs.0 Home ∷ RawPtr ∷ usize ∷ Word n ∷ []) a y.0.4))
    ∷ (raw (fact 𝓤 (κs.1.0 ⊑ [])) ⊛ raw small ⊛ raw (fact 𝓤 Asked)) ∷ []) ∵
    move ! (1 ∷ []) $ split3 ! $ drop ! $ drop ! $ heard ! Asked (λ asked.
    let at_start : start ≡ block_ptr b o = asked.1.0 in
    let is_at : v.ptr ≡ block_ptr b o = sym asked.0 ∙ at_start in
    let fits : i + n ≤ length xs = asked.1.1.1 in
    let some : 0 < v.cap = omega (arith, asked.1.1.0, fits, v.ok.0, v.ok.1) in
    let same : length zs ≡ length xs = length-written 𝓛 xs i n fits b o ys long in
    regoal ! (λ (w : Val). prop (WpFn 𝓤 𝓛.H 𝓣.C 𝓣.Λ e (vptr rb ro ∷ w ∷ vint w64 i ∷ vy ∷ []) (W.post y))) (ap ptr_val at_start) refl $
    enter ! 𝓣.C 𝓣.Λ e (vptr rb ro ∷ vptr b o ∷ vint w64 i ∷ vy ∷ []) (W.post y) $
    alloc_all ! (λ l. pass_all ! refl ((tt, tt), ((tt, tt), ((tt, record { fits = are.1.1.0.1 }), (good, tt)))) $
    split ! $ move ! (1 ∷ []) $ fsplit ! $ move ! (1 ∷ []) $ fsplit ! $ drop ! $ fsplit ! $ drop ! $ fsplit ! $
    move ! (3 ∷ []) $ split3 ! $ move ! (5 ∷ 0 ∷ 3 ∷ []) $ fsplit3 ! $ move ! (1 ∷ 2 ∷ 3 ∷ []) $ opens ! tt Home {h = v} rb ro (λ us.
    move ! (1 ∷ []) $ fsplit ! $ move ! (1 ∷ []) $ fsplit ! $ move ! (1 ∷ []) $
    -- [what is owned at the place; a bound; what the fields own; the cell; the open borrow, in three entries;
    -- self's first part; the array; ..]
    use1 𝓛 (‵ (bytes full_share xs b o) ⊛ ‵ (beyond v (block_ptr b o))) (octets_out 𝓛 v b o is_at some xs) $ split ! $
    use1 𝓛 (‵ (froom (ty_array (ty_int w8) n) b (i + o)) ⊛ ‵ (beside 𝓛 xs i n fits b o full_share)) (room_out 𝓛 xs i n fits b o) $ split ! $
    first ! $ blocks ! $
    -- let place = start.add(at) as *mut [u8; N];
    sets ! (bin ! (get ! refl) (get ! refl) tt) refl (tt, tt) $
    sets ! (of_opd ! (get ! refl)) refl (tt, tt) $
    -- *place = octets;  the room is item 0
    assigns_last ! (of_opd ! (get ! refl)) (through ! refl (stop !)) (init ! 0 refl good) $
    exec ! 𝓣.C 𝓣.Λ (env e.locals l) (after 1 e.body) (at_ret _ (W.post y)) $
    sets ! (of_opd ! (unit_lit !)) refl (tt, tt) $
    move ! (0 ∷ 10 ∷ []) $
    use2 𝓛 (‵ (part_at (Array u8 n) full_share ys b (i + o))) (part_in 𝓛 (Array u8 n) refl full_share ys b (i + o) vy) $
    use2 𝓛 (‵ (bytes full_share zs b o)) (array_in 𝓛 xs i n fits b o full_share ys) $
    use2 𝓛 (‵ (held v v.ptr zs)) (octets_in 𝓛 v b o is_at some zs (same ∙ sym v.ok.0)) $
    move ! (1 ∷ 0 ∷ []) $ fjoin ! $ move ! (1 ∷ 0 ∷ []) $ fjoin ! $ move ! (1 ∷ []) $ closes ! tt Home (with_octets v zs same) us rb ro $
    -- [two parts of self; its token; self's first part; the other token]
    returns ! (look_at ! 0 refl) $ free_all ! refl $ keep ! (3 ∷ 0 ∷ 1 ∷ 2 ∷ 4 ∷ []) $
    suffices ! _ (ends_at 𝓛 ended (stayed n) c y vunit tt (with_octets v zs same, (tt, (tt, (tt, tt)))) (tt, (tt, (tt, (tt, tt))))) $
    says ! (refl, refl) $
    group ! 3 $ nothing ! $ nothing ! $ join ! $ nothing ! $ join ! $ nothing ! $ join ! $ move ! (1 ∷ 0 ∷ []) $ join ! $
    nothing ! $ move ! (3 ∷ 0 ∷ []) $ join ! $ move ! (2 ∷ 0 ∷ []) $ join ! $ frame ! $ frame ! $
    feq_i ! _ (vunit ∷ []) _ refl $ done !))))
