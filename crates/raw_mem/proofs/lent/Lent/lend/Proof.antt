-- A slice becomes a pointer, and the right to read through it. Assumes `Logic`.
use Rattle.std.proofs.Common.{List, [], ◌∷◌, length, refl, arith}
use Rattle.std.proofs.raw_atomic.Walks.{proved}
use Rattle.raw_mem.proofs.Structs.{struct_of, packs}
use mir.Syntax.{Fn, named}
use mir.Val.{Val, vptr}
use base.Logic.{id⊢}
use base.Fml.{ftrue}
use contract.Running.{tables}
use types.Kit.{‵, raw, ◌⊛◌, ◌$◌, ◌∵◌, !, qed, move, drop, use1, split, fsplit, fjoin, feq_i, suffices, done}
use types.Part.{agg, sub, whole}
use types.Run.{enter, returns, and_then, no_more, fld, stop, addr, from, hop}
use types.ByLocal.{alloc_all, pass_all, free_all, look_at, get, sets, look_in_at}
use denote.Exit.{yes}
use denote.RattleType.{RattleType, owns}
use denote.Builtin.{u8, SliceRefOf, RawPtr}
use denote.Signature.{plain, types_at, named_lft}
use denote.Ref.{ShrRef, NamedLft}
use denote.Steps.{nothing}
use denote.Triple.Entry.{alive}
use denote.Triple.Walked.{says, Stays, stay_dropped, walk_of, ends_at, Goes-dropped}
use denote.Opens.{unhide}
use denote.RawPtr.{block_ptr}
use denote.Slice.{slice_val, shr_slice_vals, shr_slice_Tells}
use Rattle.std.specs.contracts.marker.PhantomData as P
use Rattle.raw_mem.specs.contracts.lent.Lent as Lent
use Rattle.raw_mem.specs.contracts.lent.Lent.lend as f
use Rattle.raw_mem.proofs.lent.Lent.lend.Statement.{statement}
use Rattle.raw_mem.proofs.lent.Lent.lend.Code as code

abbrev stayed : Stays f.ended.signature.params f.ended.kept
stayed = (stay_dropped (SliceRefOf (0 ∷ []) tt (plain (λ _. u8)) (λ _. tt)) yes, tt)

pub lend_spec : {M : Type 1} → statement M
lend_spec 𝓤 𝓛 𝓜 𝓡 wired =
    let c = f.clauses 𝓛 𝓜.mem 𝓡.returns in
    let W = walk_of 𝓛 f.ended stayed c in
    let 𝓣 = tables 𝓤 𝓛.H 𝓜 𝓡 𝓡.env in
    let fn : Fn = code.function in
    proved 𝓛 f.ended stayed c 𝓜 𝓡
    (Goes-dropped 𝓛 1 (SliceRefOf (0 ∷ []) tt (plain (λ _. u8)) (λ _. tt)) yes (λ κs x w. refl), tt)
    f.Key.name fn (code.unfolded 𝓤 𝓛.H 𝓜 𝓡 wired)
    (λ κs. (shr_slice_vals, tt)) (λ κs. (shr_slice_Tells (named 0) κs.0 u8, tt)) (λ κs qs bounds a g are.
    let xs = a.0.now in
    let b = a.0.ref_ptr.0 in
    let o = a.0.ref_ptr.1 in
    let y : W.Ghost = ((κs, qs, bounds, a, (shr_slice_vals a.0, tt)), g) in
    let κ : NamedLft = named_lft 1 0 tt κs in
    let L = Lent.the_row κ in
    let R : RattleType = P.the_row (ShrRef κ.mir κ.lft u8) in
    let seen : L.Denot = record { by = record {}; ptr = block_ptr b o; items = xs; placed = (refl, omega (arith, are.0.0.1.1)) } in
    let none = struct_of [] tt in
    let right = struct_of (R ∷ []) (none ∷ [], tt) in
    let both = struct_of (RawPtr ∷ L ∷ []) (vptr b o ∷ [], (right ∷ [], tt)) in
    qed 𝓛 ((raw (alive 𝓛 f.ended.signature κs qs) ⊛ ‵ (owns (types_at f.ended.signature.params κs) a y.0.4)) ∷ ‵ ftrue ∷ []) ∵
    split ! $ move ! (1 ∷ []) $
    -- [what the slice holds; the tokens]
    fsplit ! $ fsplit ! $ drop ! $ unhide ! $ move ! (1 ∷ []) $ drop ! $ move ! (2 ∷ []) $ drop ! $
    enter ! 𝓣.C 𝓣.Λ fn (slice_val (b, o) (length xs) ∷ []) (W.post y) $
    alloc_all ! (λ l. pass_all ! refl ((tt, (tt, (record { fits = are.0.0.1.0 }, tt))), tt) $
    -- octets.as_ptr(), the right to read, and the pair
    sets ! (addr ! (from ! (fld ! refl (hop ! (look_in_at ! 1 (sub ! 0 refl (whole !))) (stop !))))) refl (tt, tt) $
    sets ! (agg ! (no_more !)) refl (tt, tt) $
    sets ! (agg ! (and_then ! (get ! refl) (no_more !))) refl (tt, (tt, tt)) $
    sets ! (agg ! (and_then ! (get ! refl) (and_then ! (get ! refl) (no_more !)))) refl (tt, (tt, ((tt, tt), tt))) $
    nothing ! $ packs ! [] tt tt $ use1 𝓛 (‵ (R.own_val (record {}) (none ∷ []))) (id⊢ 𝓤 _) $
    nothing ! $ move ! (1 ∷ 0 ∷ []) $ fjoin ! $ packs ! (R ∷ []) (record {}, tt) (none ∷ [], tt) $ fjoin ! $
    nothing ! $ move ! (1 ∷ 0 ∷ []) $ fjoin ! $ feq_i ! (List Val) (vptr b o ∷ []) (vptr b o ∷ []) refl $ fjoin ! $
    packs ! (RawPtr ∷ L ∷ []) (block_ptr b o, (seen, tt)) (vptr b o ∷ [], (right ∷ [], tt)) $
    returns ! (look_at ! 0 refl) $ free_all ! refl $
    suffices ! _ (ends_at 𝓛 f.ended stayed c y both (block_ptr b o, seen) (tt, tt) (tt, tt)) $ says ! (refl, refl) $
    nothing ! $ nothing ! $ fjoin ! $ move ! (2 ∷ 0 ∷ 1 ∷ []) $ done !))
