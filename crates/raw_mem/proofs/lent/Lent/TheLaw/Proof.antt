-- What a `Lent` owns can be had twice, so a `&` holds it too. Assumes `Logic`.
use Rattle.std.proofs.Common.{ℕ, List, [], ◌∷◌}
use seplogic.Ra.Ura.{Ura}
use mir.Syntax.{w8}
use base.Logic.{ent, sep, wand, snd∗, apply∗}
use base.Fml.{Lft, fbor}
use base.Before.{before}
use types.Logic.{Logic, sem, lfts}
use types.Kit.{‵, raw, ◌⊛◌, later, ◌$◌, ◌∵◌, !, qed, move, keep, use1, use2, split, await, updating, now, done}
use denote.RattleType.{RattleType}
use denote.Builtin.{u8}
use denote.Plain.{uint_row_laws}
use denote.RawPtr.{Ptr, block_of, count_of}
use denote.Ref.{NamedLft, ShrRef}
use denote.SharingLaws.{contraction}
use denote.Slice.{elements_shared, elements_shr_laws}
use denote.Param.Shared.{copy_shared}
use denote.Struct.Laws.{field_copy}
use denote.Struct.Lending.{of_Lends}
use Rattle.std.specs.contracts.marker.PhantomData as P
use Rattle.raw_mem.specs.Places.{lent_owns}
use Rattle.raw_mem.specs.contracts.lent.Lent as C
use Rattle.raw_mem.proofs.lent.Lent.TheLaw.Statement.{statement}

-- octets that are lent can be had twice
lent_twice : {M : Type 1} {𝓤 : Ura M} (𝓛 : Logic 𝓤) (κ : Lft) (p : Ptr) (xs : List ℕ)
    → ent 𝓤 (sem 𝓛 (lent_owns κ p xs)) (sep 𝓤 (sem 𝓛 (lent_owns κ p xs)) (sem 𝓛 (lent_owns κ p xs)))
lent_twice 𝓛 κ p xs =
    contraction 𝓛 (elements_shared u8 xs (block_of p) (count_of p))
    (elements_shr_laws u8 (uint_row_laws w8) xs (block_of p) (count_of p)) κ

pub shares : (a : NamedLft) → statement a
shares a =
    let R : RattleType = ShrRef a.mir a.lft u8 in
    of_Lends (C.struct a) (C.the_codes (P.the_row R).coded) (C.the_heap a.lft) (C.the_lent a.lft)
    (λ d p. record {
      contraction = λ M 𝓤 𝓛 _. lent_twice 𝓛 a.lft d.ptr d.items;
      mono = λ M 𝓤 𝓛 κ' κ. snd∗ 𝓤 (sem 𝓛 (before κ' κ)) (sem 𝓛 (C.the_heap a.lft d));
    })
    (copy_shared (P.the_field R) (field_copy (P.the_type R) tt), tt) (λ M 𝓤 𝓛 d p κ ts inc sp.
    let H = C.the_heap a.lft d in
    let back = 𝓛.H.⇛ (sep 𝓤 (𝓛.A.bor κ H) (lfts 𝓛 ts)) in
    qed 𝓛 (‵ (fbor κ H) ∷ raw (lfts 𝓛 ts) ∷ []) ∵ updating ! $
    use2 𝓛 (later (‵ H ⊛ raw (wand 𝓤 (sem 𝓛 H) back))) (𝓛.more.bor_acc_by κ ts H sp) $ await ! tt $ split ! $
    use1 𝓛 (‵ H ⊛ ‵ H) (lent_twice 𝓛 a.lft d.ptr d.items) $ split ! $ move ! (0 ∷ 2 ∷ []) $
    use2 𝓛 (later (‵ (fbor κ H) ⊛ raw (lfts 𝓛 ts))) (apply∗ 𝓤 (sem 𝓛 H) back) $ await ! tt $ split ! $ keep ! (2 ∷ 1 ∷ []) $ now ! $ done !)
