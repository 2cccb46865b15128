-- What a struct owns is put together from what its fields own. Assumes `Logic`.
use Rattle.std.proofs.Common.{List, [], ◌∷◌, refl}
use seplogic.Ra.Ura.{Ura}
use mir.Val.{Val, vstruct, of_list}
use types.Logic.{Logic}
use types.Kit.{Goal, Step, step, Item, ‵, ◌$◌, fjoin, fpack, feq_i}
use denote.RattleType.{RattleType, Denots, Valss, flat, owns}
use denote.Struct.Struct.{Struct, Shape, within}

-- a struct of these fields: what it owns does not depend on its name
abbrev pub of_fields : List RattleType → Shape
of_fields Rs = record { name = []; args = []; types = []; fields = Rs }

-- its machine value
abbrev pub struct_of : (Rs : List RattleType) → Valss Rs → Val
struct_of Rs vss = vstruct (of_list (flat Rs vss))

module _ {M : Type 1} {𝓤 : Ura M} {𝓛 : Logic 𝓤} {K : Type 0} {Γ : List (Item 𝓤)} {G : Goal 𝓤 𝓛.H} where
  pub packs : K → (Rs : List RattleType) (x : Denots Rs) (vss : Valss Rs)
      → Step K 𝓛 (‵ ((Struct (of_fields Rs)).own_val x (struct_of Rs vss ∷ [])) ∷ Γ) G (‵ (owns Rs x vss) ∷ Γ) G
  packs t Rs x vss = step (λ s.
      feq_i t (List Val) (struct_of Rs vss ∷ []) (struct_of Rs vss ∷ []) refl $ fjoin t $
      fpack t (Valss Rs) (within (of_fields Rs) x (struct_of Rs vss ∷ [])) vss $ s)
