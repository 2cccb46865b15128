-- What is done to a part of a draft: it is taken out, changed and put back, by induction on the path to the part.
use Rattle.std.proofs.Common.{◌≡◌, inl, inr, ℕ, ◌+◌, ◌-◌, ◌≤◌, List, [], ◌∷◌, length, take, drop, Option, None, Some, refl, sym, ap, subst, ◌∙◌, Bool, true, false, if◌then◌else◌, arith}
use Rattle.std.specs.Prelude.{Err, nat_le, nat_eq, ◌&&◌}
use Rattle.std.proofs.lemmas.Bool.{leb-true, le-leb, eqb-true, eq-eqb}
use Rattle.std.specs.Int.{Width}
use Rattle.std.specs.Cmp.Lexicographic.{pointwise}
use Rattle.wire_def.specs.declared.head.Order.{Order}
use Rattle.wire_def.specs.Orders.{IsWidth, width_in, width_as, loaded}
use Rattle.raw_buf.specs.View.{loaded_of}
use Rattle.cast_stub.specs.declared.recv.Get.{Get}
use Rattle.cast_stub.specs.Parts.{IsThere}
use Rattle.cast_stub.specs.Draft.{Draft}
use Rattle.cast_stub.specs.Fill.{within, part, into, word_got, const_got}
use Rattle.cast_stub.specs.Into.{same_octets}
use Rattle.cast_stub.specs.Runs.{Place, Run, gives, refuses, strays, Filler, then_run, if_some, if_passed}
use Rattle.stub_receiver.specs.declared.errors.Halt.{Halt}
use Rattle.stub_receiver.specs.declared.errors.Halt.TheVariants.{Refused, NoMemory}
use Rattle.cast_stub.specs.PutPart.{put_part}
use Rattle.cast_stub.proofs.RecvParts.{replaced, within_is, no_part}
use Rattle.cast_stub.proofs.RecvRebasing as rebasing
use Rattle.stub_receiver.specs.Ran.{Ran, Gave, Tested}
use Rattle.cast_stub.specs.Runs.{Holds}

pub within_there : (f : Filler) (s : Place) (p : List ℕ) (d : Draft) → Holds (within p f d s) → IsThere (part p d)
within_there f s p d h = checked (part p d) refl where
  checked : (o : Option Draft) → part p d ≡ o → IsThere o
  checked (Some x) e = tt
  checked None e = subst Holds (no_part f s p d e) h

pub first_holds : {A B : Type 0} (x : Run A) (f : A → Place → Run B) → Holds (then_run x f) → Holds x
first_holds (gives y t) f h = tt
first_holds refuses f h = tt
first_holds strays f h = h

pub within_holds : (f : Filler) (s : Place) (p : List ℕ) (d x : Draft) → part p d ≡ Some x → Holds (within p f d s) → Holds (f x s)
within_holds f s p d x e h = first_holds (f x s) (replaced p d) (subst Holds (within_is f x s p d e) h)

-- ---- a part that was put

-- another part put there is put as into the whole before
pub put_again : (p : List ℕ) (y z d e : Draft) → put_part p y d ≡ Some e → put_part p z e ≡ put_part p z d
put_again p y z d e q = rebasing.put_again y z p d e q

-- so the part that was put can be taken out again
pub put_fits : (p : List ℕ) (y d e : Draft) → put_part p y d ≡ Some e → IsThere (part p e)
put_fits p y d e q = subst IsThere (sym (rebasing.put_there y p d e q)) tt

pub at_gives : (f : Filler) (p : List ℕ) (d d' x y e : Draft) (s t : Place) → part p d ≡ Some x
    → ((z : Draft) → put_part p z d' ≡ put_part p z d) → f x s ≡ gives y t → put_part p y d' ≡ Some e
    → within p f d s ≡ gives e t
at_gives f p d d' x y e s t is same ran put =
    within_is f x s p d is ∙ ap (λ (z : Run Draft). then_run z (replaced p d)) ran
    ∙ ap (λ (o : Option Draft). if_some o (λ e. gives e t)) (sym (same y) ∙ put)

pub at_halts : {X : Type 0} (f : Filler) (p : List ℕ) (d x e : Draft) (s t u : Place) (halt : Halt) (view : X → Draft)
    → part p d ≡ Some x → Gave view (Err halt) t (f x s)
    → Ran (Err halt) e u (within p f d s)
at_halts f p d x e s t u Refused view is ran = within_is f x s p d is ∙ ap (λ (z : Run Draft). then_run z (replaced p d)) ran
at_halts f p d x e s t u NoMemory view is ran = tt

-- the same of a part that is changed in place
pub at_halts_in : (f : Filler) (p : List ℕ) (d x y e : Draft) (s t u : Place) (halt : Halt) → part p d ≡ Some x → Ran (Err halt) y t (f x s)
    → Ran (Err halt) e u (within p f d s)
at_halts_in f p d x y e s t u Refused is ran = within_is f x s p d is ∙ ap (λ (z : Run Draft). then_run z (replaced p d)) ran
at_halts_in f p d x y e s t u NoMemory is ran = tt

-- ---- words

pub not_width : (g : Get) (off : ℕ) (p : List ℕ) (w : ℕ) (o : Order) (d : Draft) (s : Place) → width_in w ≡ None
    → word_got g off p w o d s ≡ refuses
not_width g off p w o d s e = ap (λ (z : Option Width). if_passed z
    (λ x. if nat_le (off + w) s.near then within p (into g x (loaded o x (take w (drop off s.left)))) d s else strays)) e

pub width_is : (w : ℕ) → IsWidth w → width_in w ≡ Some (width_as w)
width_is w (inl e) = subst (λ (n : ℕ). width_in n ≡ Some (width_as n)) (sym e) refl
width_is w (inr (inl e)) = subst (λ (n : ℕ). width_in n ≡ Some (width_as n)) (sym e) refl
width_is w (inr (inr (inl e))) = subst (λ (n : ℕ). width_in n ≡ Some (width_as n)) (sym e) refl
width_is w (inr (inr (inr e))) = subst (λ (n : ℕ). width_in n ≡ Some (width_as n)) (sym e) refl

abbrev pub word_of : ℕ → ℕ → Order → Place → ℕ
word_of off w o s = loaded_of o (width_in w) (take w (drop off s.left))

word_near : (g : Get) (off : ℕ) (p : List ℕ) (w : ℕ) (o : Order) (d : Draft) (s : Place) → IsWidth w
    → word_got g off p w o d s ≡ (if nat_le (off + w) s.near then within p (into g (width_as w) (word_of off w o s)) d s else strays)
word_near g off p w o d s h =
    ap (λ (z : Option Width). if_passed z
    (λ x. if nat_le (off + w) s.near then within p (into g x (loaded o x (take w (drop off s.left)))) d s else strays)) (width_is w h)
    ∙ ap
    (λ (z : Option Width). if nat_le (off + w) s.near then within p (into g (width_as w) (loaded_of o z (take w (drop off s.left)))) d s
    else strays) (sym (width_is w h))

pub word_fits : (g : Get) (off : ℕ) (p : List ℕ) (w : ℕ) (o : Order) (d : Draft) (s : Place) → IsWidth w → Holds (word_got g off p w o d s)
    → off + w ≤ s.near
word_fits g off p w o d s h holds = checked (nat_le (off + w) s.near) refl (subst Holds (word_near g off p w o d s h) holds) where
  checked : (b : Bool) → nat_le (off + w) s.near ≡ b → Holds (if b then within p (into g (width_as w) (word_of off w o s)) d s else strays)
      → off + w ≤ s.near
  checked true e k = leb-true (off + w) s.near e
  checked false e k = absurd k

pub word_is : (g : Get) (off : ℕ) (p : List ℕ) (w : ℕ) (o : Order) (d : Draft) (s : Place) → IsWidth w → off + w ≤ s.near
    → word_got g off p w o d s ≡ within p (into g (width_as w) (word_of off w o s)) d s
word_is g off p w o d s h near =
    word_near g off p w o d s h
    ∙ ap (λ (b : Bool). if b then within p (into g (width_as w) (word_of off w o s)) d s else strays) (le-leb (off + w) s.near near)

-- a word that is taken, for the part at a path
module _ (g : Get) (off : ℕ) (p q : List ℕ) (w : ℕ) (o : Order) (d : Draft) (s : Place) (wide : IsWidth w)
    (same : q ≡ p) (holds : Holds (word_got g off p w o d s)) where
  held : Holds (word_got g off q w o d s)
  held = subst (λ (r : List ℕ). Holds (word_got g off r w o d s)) (sym same) holds

  near : off + w ≤ s.near
  near = word_fits g off q w o d s wide held

  within_so : word_got g off p w o d s ≡ within q (into g (width_as w) (word_of off w o s)) d s
  within_so = ap (λ (r : List ℕ). word_got g off r w o d s) (sym same) ∙ word_is g off q w o d s wide near

  inner : Holds (within q (into g (width_as w) (word_of off w o s)) d s)
  inner = subst Holds within_so holds

  pub word_holds : (m : ℕ) → m ≡ word_of off w o s → Holds (within q (into g (width_as w) m) d s)
  word_holds m is = subst (λ (n : ℕ). Holds (within q (into g (width_as w) n) d s)) (sym is) inner

  pub word_tested : (m : ℕ) (result : Bool) (e : Draft) → m ≡ word_of off w o s → Tested result e s (within q (into g (width_as w) m) d s)
      → Tested result e s (word_got g off p w o d s)
  word_tested m result e is ran =
      subst (λ (z : Run Draft). Tested result e s z) (sym within_so)
      (subst (λ (n : ℕ). Tested result e s (within q (into g (width_as w) n) d s)) is ran)

-- ---- octets that must be these

pub same_alike : (a b : List ℕ) → same_octets a b ≡ true → a ≡ b
same_alike [] [] e = refl
same_alike [] (y ∷ b) e = absurd cc
same_alike (x ∷ a) [] e = absurd cc
same_alike (x ∷ a) (y ∷ b) e = ap (λ (z : ℕ). z ∷ a) (eqb-true x y (first_true (nat_eq x y) (same_octets a b) e))
    ∙ ap (λ (l : List ℕ). y ∷ l) (same_alike a b (second_true (nat_eq x y) (same_octets a b) e)) where
      first_true : (g h : Bool) → (g && h) ≡ true → g ≡ true
      first_true true h e = refl
      first_true false h e = e

      second_true : (g h : Bool) → (g && h) ≡ true → h ≡ true
      second_true true h e = e
      second_true false h e = absurd cc

pub same_itself : (a : List ℕ) → same_octets a a ≡ true
same_itself [] = refl
same_itself (x ∷ a) = ap (λ (g : Bool). g && same_octets a a) (eq-eqb x x refl) ∙ same_itself a

pub ruleset octets = (same_itself)

pub const_fits : (off : ℕ) (os : List ℕ) (d : Draft) (s : Place) → Holds (const_got off os d s) → off + length os ≤ s.near
const_fits off os d s h = checked (nat_le (off + length os) s.near) refl h where
  checked : (b : Bool) → nat_le (off + length os) s.near ≡ b
      → Holds (if b then (if same_octets os (take (length os) (drop off s.left)) then gives d s else refuses) else strays)
      → off + length os ≤ s.near
  checked true e k = leb-true (off + length os) s.near e
  checked false e k = absurd k

pub const_is : (off : ℕ) (os : List ℕ) (d : Draft) (s : Place) → off + length os ≤ s.near
    → const_got off os d s ≡ (if same_octets os (take (length os) (drop off s.left)) then gives d s else refuses)
const_is off os d s h = ap
    (λ (b : Bool). if b then (if same_octets os (take (length os) (drop off s.left)) then gives d s else refuses) else strays)
    (le-leb (off + length os) s.near h)

pub ruleset constants = (const_fits, const_is)

alike : (a b : List ℕ) → pointwise nat_eq a b ≡ same_octets a b
alike [] [] = refl
alike [] (y ∷ b) = refl
alike (x ∷ a) [] = refl
alike (x ∷ a) (y ∷ b) = ap (λ (g : Bool). nat_eq x y && g) (alike a b)

pub pointwise_alike : (a b x y : List ℕ) (n : ℕ) → a ≡ x → b ≡ take n y → n ≡ length x
    → pointwise nat_eq a b ≡ same_octets x (take (length x) y)
pointwise_alike a b x y n e f g = alike a b ∙ ap (λ (l : List ℕ). same_octets l b) e ∙ ap (same_octets x) (f ∙ ap (λ (m : ℕ). take m y) g)

-- octets from an offset on, so many
pub slice_off : (off n : ℕ) (o rest : List ℕ) → o ≡ rest → take (off + n - off) (drop off o) ≡ take n (drop off rest)
slice_off off n o rest same =
    let many : off + n - off ≡ n = omega arith in
    ap (λ (k : ℕ). take k (drop off o)) many ∙ ap (λ (l : List ℕ). take n (drop off l)) same
