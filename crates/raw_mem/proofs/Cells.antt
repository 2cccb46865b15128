-- Octets side by side: those from a place on are taken out, as room for an array or as an array, and put back. Assumes `Logic`.
use Rattle.std.proofs.Common.{◌≡◌, ℕ, zero, suc, ◌+◌, ◌≤◌, List, [], ◌∷◌, ◌++◌, length, take, drop, refl, sym, ap, ◌∙◌, add_comm, arith}
use Rattle.std.proofs.lemmas.List.{drop-drop, append_assoc}
use lib.ListN.{length-append}
use Rattle.kit_base.specs.Bytes.{written}
use seplogic.Ra.Ura.{Ura}
use lib.ListN.{take-append-drop, length-drop}
use base.Fraction.{full_share}
use base.Logic.{ent, id⊢, via, snd∗, mono_r}
use contract.Conj.{top}
use denote.Slice.{elements_shared}
use base.Fml.{Fml, Lft, Share, feq, fsep, froom}
use mir.Syntax.{ty_int, ty_array, w8}
use types.Logic.{Logic, sem}
use types.Kit.{‵, ⋆, ◌⊛◌, ◌$◌, ◌∵◌, !, qed, by, move, use1, use2, split, fsplit, fjoin, feq_i, feq_l, rewrite, done}
use denote.Memory.{part_at, shared_of}
use denote.Array.{Array}
use denote.Builtin.{u8}
use denote.RawPtr.Bytes.{bytes, bytes_cut, bytes_glue, bytes_apart, bytes_whole, bytes-room}
use borrow.Table.Elements.{length-take-le}

-- octets are those before a place, n from there on, and the rest
pub cut_at : (xs : List ℕ) (at n : ℕ) → xs ≡ take at xs ++ (take n (drop at xs) ++ drop n (drop at xs))
cut_at xs at n =
    sym (take-append-drop at xs) ∙ ap (λ (l : List ℕ). take at xs ++ l) (sym (take-append-drop n (drop at xs)))

module _ {M : Type 1} {𝓤 : Ura M} (𝓛 : Logic 𝓤) (xs : List ℕ) (at n : ℕ) (fits : at + n ≤ length xs) (b o : ℕ) where
  abbrev front : List ℕ
  front = take at xs

  abbrev mid : List ℕ
  mid = take n (drop at xs)

  abbrev back : List ℕ
  back = drop n (drop at xs)

  -- what lies beside the n octets from a place on
  abbrev pub beside : Share → Fml
  beside q = fsep (bytes q front b o) (bytes q back b (o + at + n))

  front-length : length front ≡ at
  front-length = length-take-le at xs (omega (arith, fits))

  pub mid-length : length mid ≡ n
  mid-length = length-take-le n (drop at xs) (omega (arith, fits, length-drop at xs))

  -- octets are three parts
  pub parts_out : (q : Share)
      → ent 𝓤 (⋆ 𝓛 (‵ (bytes q xs b o) ∷ [])) (⋆ 𝓛 (‵ (bytes q mid b (o + at)) ∷ ‵ (beside q) ∷ []))
  parts_out q =
      qed 𝓛 (‵ (bytes q xs b o) ∷ []) ∵
      rewrite ! 0 (λ (l : List ℕ). ‵ (bytes q l b o)) (cut_at xs at n) refl $
      use1 𝓛 (‵ (bytes q front b o) ⊛ ‵ (bytes q (mid ++ back) b (o + length front)))
      (bytes_cut 𝓛 q front (mid ++ back) b o) $ split ! $
      rewrite ! 1 (λ (k : ℕ). ‵ (bytes q (mid ++ back) b (o + k))) front-length refl $ move ! (1 ∷ []) $
      use1 𝓛 (‵ (bytes q mid b (o + at)) ⊛ ‵ (bytes q back b (o + at + length mid)))
      (bytes_cut 𝓛 q mid back b (o + at)) $ split ! $
      rewrite ! 1 (λ (k : ℕ). ‵ (bytes q back b (o + at + k))) mid-length refl $ move ! (2 ∷ 1 ∷ 0 ∷ []) $
      fjoin ! $ move ! (1 ∷ 0 ∷ []) $ done !

  written_is : (ys : List ℕ) → length ys ≡ n → written xs at ys ≡ front ++ (ys ++ back)
  written_is ys long =
      append_assoc front ys (drop (at + length ys) xs)
      ∙ ap (λ (k : ℕ). front ++ (ys ++ drop (at + k) xs)) long
      ∙ ap (λ (l : List ℕ). front ++ (ys ++ l)) (sym (drop-drop n at xs))

  pub length-written : (ys : List ℕ) → length ys ≡ n → length (written xs at ys) ≡ length xs
  length-written ys long =
      let whole : length (front ++ (mid ++ back)) ≡ length xs = sym (ap length (cut_at xs at n)) in
      let new = length-append front (ys ++ back) in
      let new_end = length-append ys back in
      let old = length-append front (mid ++ back) in
      let old_end = length-append mid back in
      omega (arith, mid-length, whole, new, new_end, old, old_end, ap length (written_is ys long), long)

  -- other octets are put back in the place of those that were taken out
  pub parts_in : (q : Share) (ys : List ℕ) → length ys ≡ n
      → ent 𝓤 (⋆ 𝓛 (‵ (bytes q ys b (o + at)) ∷ ‵ (beside q) ∷ [])) (⋆ 𝓛 (‵ (bytes q (written xs at ys) b o) ∷ []))
  parts_in q ys long =
      qed 𝓛 (‵ (bytes q ys b (o + at)) ∷ ‵ (beside q) ∷ []) ∵ move ! (1 ∷ []) $ fsplit ! $ move ! (2 ∷ 1 ∷ 0 ∷ []) $
      rewrite ! 1 (λ (k : ℕ). ‵ (bytes q back b (o + at + k))) (sym long) refl $
      use2 𝓛 (‵ (bytes q (ys ++ back) b (o + at))) (bytes_glue 𝓛 q ys back b (o + at)) $
      rewrite ! 0 (λ (k : ℕ). ‵ (bytes q (ys ++ back) b (o + k))) (sym front-length) refl $ move ! (1 ∷ 0 ∷ []) $
      use2 𝓛 (‵ (bytes q (front ++ (ys ++ back)) b o)) (bytes_glue 𝓛 q front (ys ++ back) b o) $
      rewrite ! 0 (λ (l : List ℕ). ‵ (bytes q l b o)) (sym (written_is ys long)) refl $ done !

  -- octets that are written over themselves stay
  pub written_same : written xs at mid ≡ xs
  written_same = written_is mid mid-length ∙ sym (cut_at xs at n)

  -- octets are an array of as many
  pub array_out : (q : Share)
      → ent 𝓤 (⋆ 𝓛 (‵ (bytes q xs b o) ∷ [])) (⋆ 𝓛 (‵ (part_at (Array u8 n) q mid b (at + o)) ∷ ‵ (beside q) ∷ []))
  array_out q =
      qed 𝓛 (‵ (bytes q xs b o) ∷ []) ∵
      use1 𝓛 (‵ (bytes q mid b (o + at)) ⊛ ‵ (beside q)) (parts_out q) $ split ! $
      feq_i ! ℕ (length mid) n mid-length $ fjoin ! $
      use1 𝓛 (‵ (part_at (Array u8 n) q mid b (o + at))) (bytes_whole 𝓛 q n mid b (o + at)) $
      rewrite ! 0 (λ (k : ℕ). ‵ (part_at (Array u8 n) q mid b k)) (add_comm o at) refl $ done !

  -- octets are room for an array of as many
  pub room_out : ent 𝓤 (⋆ 𝓛 (‵ (bytes full_share xs b o) ∷ []))
      (⋆ 𝓛 (‵ (froom (ty_array (ty_int w8) n) b (at + o)) ∷ ‵ (beside full_share) ∷ []))
  room_out =
      qed 𝓛 (‵ (bytes full_share xs b o) ∷ []) ∵
      use1 𝓛 (‵ (bytes full_share mid b (o + at)) ⊛ ‵ (beside full_share)) (parts_out full_share) $ split ! $
      use1 𝓛 (‵ (froom (ty_array (ty_int w8) (length mid)) b (o + at))) (bytes-room 𝓛 mid b (o + at)) $
      rewrite ! 0 (λ (k : ℕ). ‵ (froom (ty_array (ty_int w8) k) b (o + at))) mid-length refl $
      rewrite ! 0 (λ (k : ℕ). ‵ (froom (ty_array (ty_int w8) n) b k)) (add_comm o at) refl $ done !

  -- an array there is octets again
  pub array_in : (q : Share) (ys : List ℕ)
      → ent 𝓤 (⋆ 𝓛 (‵ (part_at (Array u8 n) q ys b (at + o)) ∷ ‵ (beside q) ∷ []))
      (⋆ 𝓛 (‵ (bytes q (written xs at ys) b o) ∷ []))
  array_in q ys =
      qed 𝓛 (‵ (part_at (Array u8 n) q ys b (at + o)) ∷ ‵ (beside q) ∷ []) ∵
      rewrite ! 0 (λ (k : ℕ). ‵ (part_at (Array u8 n) q ys b k)) (add_comm at o) refl $
      use1 𝓛 (‵ (fsep (feq ℕ (length ys) n) (bytes q ys b (o + at)))) (bytes_apart 𝓛 q n ys b (o + at)) $ fsplit ! $
      feq_l ! (λ long. by ! (parts_in q ys long))

-- what a `&` to octets holds is a `&` to the first of them, and to those from a place on
module _ {M : Type 1} {𝓤 : Ura M} (𝓛 : Logic 𝓤) (b : ℕ) (κ : Lft) where
  pub shared_take : (n : ℕ) (xs : List ℕ) (o : ℕ)
      → ent 𝓤 (sem 𝓛 (elements_shared u8 xs b o κ)) (sem 𝓛 (elements_shared u8 (take n xs) b o κ))
  shared_take zero xs o = top 𝓤 _
  shared_take (suc n) [] o = top 𝓤 _
  shared_take (suc n) (x ∷ xs) o = mono_r 𝓤 (sem 𝓛 (shared_of u8 x b o κ)) (shared_take n xs (o + 1))

  pub shared_drop : (n : ℕ) (xs : List ℕ) (o p : ℕ) → p ≡ o + n
      → ent 𝓤 (sem 𝓛 (elements_shared u8 xs b o κ)) (sem 𝓛 (elements_shared u8 (drop n xs) b p κ))
  shared_drop zero xs o p e =
      let same : p ≡ o = omega arith in
      rw same (id⊢ 𝓤 _)
  shared_drop (suc n) [] o p e = top 𝓤 _
  shared_drop (suc n) (x ∷ xs) o p e =
      via 𝓤 _ (snd∗ 𝓤 (sem 𝓛 (shared_of u8 x b o κ)) _) (shared_drop n xs (o + 1) p (omega arith))
