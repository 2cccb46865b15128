-- The right to read octets gives a `&` to some of them. Assumes `Logic`.
use Rattle.std.proofs.Common.{◌≡◌, ◌+◌, ◌≤◌, ◌^◌, ◌*◌, List, [], ◌∷◌, length, take, drop as drop_l, refl, sym, ap, ◌∙◌, arith, length-take-le, length-drop, add_comm, w64}
use Rattle.std.proofs.raw_atomic.Walks.{proved}
use Rattle.raw_mem.proofs.Cells.{shared_take, shared_drop}
use mir.Syntax.{Fn, named}
use mir.Val.{Val, vptr, vint}
use base.Fml.{Lft}
use prog.Wp.{WpFn}
use contract.Monad.{fact}
use contract.Running.{tables}
use types.Kit.{‵, raw, ◌⊛◌, prop, ◌$◌, ◌∵◌, !, qed, move, drop, use1, split, fsplit, fjoin, feq_i, flt_i, regoal, suffices, done, at_ret}
use types.Part.{agg}
use types.Run.{enter, returns, of_opd, bin, and_then, no_more, first, blocks, exec}
use types.ByLocal.{alloc_all, pass_all, free_all, look_at, get, sets, sets_last, env}
use denote.Exit.{yes}
use denote.RattleType.{owns}
use denote.Builtin.{u8, RefOf, usize}
use denote.Plain.{uint_vals, uint_Tells}
use denote.Ref.{shr_vals, shr_Tells}
use denote.Signature.{plain, types_at, named_lft}
use denote.Steps.{nothing, heard}
use denote.Triple.Entry.{alive}
use denote.Triple.Walked.{says, Stays, stay_dropped, walk_of, ends_at, Goes-dropped}
use denote.Opens.{unhide, hide}
use denote.RawPtr.{RawPtr, block_ptr, block_of, count_of, ptr_val, rawptr_vals, rawptr_Tells}
use denote.Slice.{slice_val, elements_shared}
use Rattle.raw_mem.specs.contracts.lent.Lent as Lent
use Rattle.raw_mem.specs.contracts.lent.Lent.read as f
use Rattle.raw_mem.proofs.lent.Lent.read.Statement.{statement}
use Rattle.raw_mem.proofs.lent.Lent.read.Code as code

abbrev stayed : Stays f.ended.signature.params f.ended.kept
stayed = (
  stay_dropped (RefOf (0 ∷ []) tt (plain (λ κs. Lent.the_row (named_lft 2 1 tt κs))) (λ _. tt)) yes,
  (stay_dropped (plain (λ _. RawPtr)) yes, (stay_dropped (plain (λ _. usize)) yes, (stay_dropped (plain (λ _. usize)) yes, tt))),
)

pub read_spec : {M : Type 1} → statement M
read_spec 𝓤 𝓛 𝓜 𝓡 wired =
    let c = f.clauses 𝓛 𝓜.mem 𝓡.returns in
    let W = walk_of 𝓛 f.ended stayed c in
    let 𝓣 = tables 𝓤 𝓛.H 𝓜 𝓡 𝓡.env in
    let fn : Fn = code.function in
    proved 𝓛 f.ended stayed c 𝓜 𝓡 (
      Goes-dropped 𝓛 2 (RefOf (0 ∷ []) tt (plain (λ κs. Lent.the_row (named_lft 2 1 tt κs))) (λ _. tt)) yes (λ κs x w. refl),
      (
        Goes-dropped 𝓛 2 (plain (λ _. RawPtr)) yes (λ κs x w. refl),
        (Goes-dropped 𝓛 2 (plain (λ _. usize)) yes (λ κs x w. refl), (Goes-dropped 𝓛 2 (plain (λ _. usize)) yes (λ κs x w. refl), tt)),
      ),
    )
    f.Key.name fn (code.unfolded 𝓤 𝓛.H 𝓜 𝓡 wired)
    (λ κs. (shr_vals, (rawptr_vals, (uint_vals w64, (uint_vals w64, tt)))))
    (λ κs. (shr_Tells (named 0) κs.0 (Lent.the_row (named_lft 2 1 tt κs)), (rawptr_Tells, (uint_Tells w64, (uint_Tells w64, tt)))))
    (λ κs qs bounds a g are.
    let s = a.0.now in
    let start = a.1.0 in
    let i = a.1.1.0 in
    let n = a.1.1.1.0 in
    let xs = s.items in
    let κ : Lft = κs.1.0 in
    let b = block_of s.ptr in
    let o' = count_of s.ptr in
    let o = i + o' in
    let self = vptr a.0.ref_ptr.0 a.0.ref_ptr.1 in
    let ys = take n (drop_l i xs) in
    let y : W.Ghost = ((κs, qs, bounds, a, (shr_vals a.0, (rawptr_vals start, (uint_vals w64 i, (uint_vals w64 n, tt))))), g) in
    let Asked = (start ≡ s.ptr) × (i + n ≤ length xs) in
    qed 𝓛 ((raw (alive 𝓛 f.ended.signature κs qs) ⊛ ‵ (owns (types_at f.ended.signature.params κs) a y.0.4)) ∷ raw (fact 𝓤 Asked) ∷ []) ∵
    move ! (1 ∷ []) $ heard ! Asked (λ asked. split ! $ move ! (1 ∷ []) $
    let at : start ≡ block_ptr b o' = asked.0 ∙ s.placed.0 in
    let long : length ys ≡ n = length-take-le n (drop_l i xs) (omega (arith, asked.1, length-drop i xs)) in
    -- [what the `&` holds; the tokens]
    fsplit ! $ fsplit ! $ drop ! $ unhide ! $ fsplit ! $ drop ! $ move ! (1 ∷ []) $ drop ! $
    regoal ! (λ (v : Val). prop (WpFn 𝓤 𝓛.H 𝓣.C 𝓣.Λ fn (self ∷ v ∷ vint w64 i ∷ vint w64 n ∷ []) (W.post y))) (ap ptr_val at) refl $
    enter ! 𝓣.C 𝓣.Λ fn (self ∷ vptr b o' ∷ vint w64 i ∷ vint w64 n ∷ []) (W.post y) $
    alloc_all ! (λ l. pass_all ! refl
    ((tt, tt), ((tt, tt), ((tt, record { fits = are.1.1.0.1 }), ((tt, record { fits = are.1.1.1.0.1 }), tt)))) $
    first ! $ blocks ! $
    -- start.add(at), and the slice of it and len
    sets ! (bin ! (get ! refl) (get ! refl) tt) refl (tt, tt) $
    sets_last ! (agg ! (and_then ! (get ! refl) (and_then ! (get ! refl) (no_more !)))) refl
    (tt, (tt, (record { fits = are.1.1.1.0.1 }, tt))) $
    exec ! 𝓣.C 𝓣.Λ (env fn.locals l) code.Mir.t-2 (at_ret (env fn.locals l) (W.post y)) $
    sets ! (of_opd ! (get ! refl)) refl (tt, (tt, (record { fits = are.1.1.1.0.1 }, tt))) $
    use1 𝓛 (‵ (elements_shared u8 (drop_l i xs) b o κ)) (shared_drop 𝓛 b κ i xs o' o (add_comm i o')) $
    use1 𝓛 (‵ (elements_shared u8 ys b o κ)) (shared_take 𝓛 b κ n (drop_l i xs) o) $ hide ! $
    flt_i ! (length ys * 1) (2 ^ 63) (omega (arith, asked.1, s.placed.1, long)) $
    flt_i ! (length ys) (2 ^ 64) (omega (arith, asked.1, s.placed.1, long)) $ fjoin ! $
    feq_i ! (List Val) (slice_val (b, o) n ∷ []) (slice_val (b, o) (length ys) ∷ [])
    (ap (λ k. slice_val (b, o) k ∷ []) (sym long)) $ fjoin ! $ fjoin ! $
    returns ! (look_at ! 0 refl) $ free_all ! refl $
    suffices ! _ (ends_at 𝓛 f.ended stayed c y (slice_val (b, o) n) (record { ref_ptr = (b, o); now = ys })
    (tt, (tt, (tt, (tt, tt)))) (tt, (tt, (tt, (tt, tt))))) $ says ! refl $
    nothing ! $ nothing ! $ fjoin ! $ nothing ! $ fjoin ! $ nothing ! $ fjoin ! $ nothing ! $ fjoin ! $ move ! (2 ∷ 0 ∷ 1 ∷ []) $ done !)))
