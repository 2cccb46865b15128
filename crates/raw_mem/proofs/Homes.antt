-- What a `Vec` of octets owns: its octets, and what goes with them. Assumes `Logic`.
use Rattle.std.proofs.Common.{◌≡◌, ℕ, ◌*◌, ◌-◌, ◌<◌, Bool, true, List, [], ◌∷◌, length, refl, sym, ◌∙◌, Vec}
use seplogic.Ra.Ura.{Ura}
use base.Fraction.{full_share}
use base.Fml.{Fml, feq, fsep}
use base.Logic.{ent}
use prog.Memory.{size}
use types.Logic.{Logic}
use types.Kit.{‵, ⋆, ◌$◌, ◌∵◌, !, qed, drop, use1, fsplit, fjoin, feq_i, rewrite, done}
use denote.RattleType.{RattleType}
use denote.Array.{Array}
use denote.Builtin.{u8}
use denote.Memory.{lone}
use denote.RawPtr.{Ptr, block_ptr, lies_at, in_block, room_for, ◌+ₚ◌}
use denote.RawPtr.Bytes.{bytes, bytes_apart, bytes_whole}
use Rattle.std.specs.Allocator.{array_of, block_with_items}
use Rattle.std.specs.declared.alloc.Global.{Global}
use Rattle.std.specs.contracts.alloc.Global as heap
use Rattle.std.specs.contracts.impls.GlobalAllocator.TheImpl.{ghosts}
use Rattle.std_alloc.specs.Vec.Ownership.{owns_if, has_block}
use Rattle.std_alloc.specs.contracts.vec.Vec as vec
use Rattle.std_alloc.proofs.VecSteps.Opens.{is_live}

-- the type `Vec<u8>`
abbrev pub Home : RattleType
Home = vec.the_row u8 heap.the_row ghosts

module _ (v : Vec ℕ Global) where
  -- what goes with the octets of a block at p: the room after them, and the right to free it
  abbrev pub beyond : Ptr → Fml
  beyond p = fsep (room_for (array_of u8 (v.cap - v.len)) (p +ₚ v.len * size (lone u8.mir)))
      (ghosts.dealloc_token v.alloc (array_of u8 v.cap) p)

  -- a block at p with the octets xs
  abbrev pub block : Ptr → List ℕ → Fml
  block p xs = block_with_items (ghosts.dealloc_token v.alloc) u8 p v.len v.cap xs

  -- what is owned at p: a block, unless there is no capacity
  abbrev pub held : Ptr → List ℕ → Fml
  held p xs = in_block p (owns_if (has_block v.cap) (block p xs))

  -- the Vec with other octets, as many
  abbrev pub with_octets : (xs : List ℕ) → length xs ≡ length v.items → Vec ℕ Global
  with_octets xs long = record {
    ptr = v.ptr;
    len = v.len;
    cap = v.cap;
    alloc = v.alloc;
    items = xs;
    ok = (v.ok.0 ∙ sym long, v.ok.1);
    small = v.small;
  }

module _ {M : Type 1} {𝓤 : Ura M} (𝓛 : Logic 𝓤) (v : Vec ℕ Global) (b o : ℕ) (is_at : v.ptr ≡ block_ptr b o) (some : 0 < v.cap) where
  live : has_block v.cap ≡ true
  live = is_live v.cap some

  -- the octets are taken out of what is owned
  pub octets_out : (xs : List ℕ)
      → ent 𝓤 (⋆ 𝓛 (‵ (held v v.ptr xs) ∷ [])) (⋆ 𝓛 (‵ (bytes full_share xs b o) ∷ ‵ (beyond v (block_ptr b o)) ∷ []))
  octets_out xs =
      qed 𝓛 (‵ (held v v.ptr xs) ∷ []) ∵
      rewrite ! 0 (λ (p : Ptr). ‵ (held v p xs)) is_at refl $
      rewrite ! 0 (λ (y : Bool). ‵ (owns_if y (block v (block_ptr b o) xs))) live refl $ fsplit ! $
      use1 𝓛 (‵ (fsep (feq ℕ (length xs) v.len) (bytes full_share xs b o))) (bytes_apart 𝓛 full_share v.len xs b o) $
      fsplit ! $ drop ! $ done !

  -- and others are put back
  pub octets_in : (xs : List ℕ) → length xs ≡ v.len
      → ent 𝓤 (⋆ 𝓛 (‵ (bytes full_share xs b o) ∷ ‵ (beyond v (block_ptr b o)) ∷ [])) (⋆ 𝓛 (‵ (held v v.ptr xs) ∷ []))
  octets_in xs long =
      qed 𝓛 (‵ (bytes full_share xs b o) ∷ ‵ (beyond v (block_ptr b o)) ∷ []) ∵
      feq_i ! ℕ (length xs) v.len long $ fjoin ! $
      use1 𝓛 (‵ (lies_at (Array u8 v.len) full_share (block_ptr b o) xs)) (bytes_whole 𝓛 full_share v.len xs b o) $ fjoin ! $
      rewrite ! 0 (λ (y : Bool). ‵ (owns_if y (block v (block_ptr b o) xs))) (sym live) refl $
      rewrite ! 0 (λ (p : Ptr). ‵ (held v p xs)) (sym is_at) refl $ done !
