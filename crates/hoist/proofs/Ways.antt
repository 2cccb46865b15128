-- The way to a field, and bounds of code that goes through a type, by induction on the path and the type.
use Rattle.std.proofs.Common.{◌≡◌, ℕ, suc, ◌+◌, ◌-◌, ℤ, List, [], ◌∷◌, ◌++◌, length, Option, None, Some, refl, sym, ap, subst, ◌∙◌, arith, Bool, true, false, ◌||◌, if◌then◌else◌}
use Rattle.std.specs.Ordering.{int_eq}
use Rattle.std.proofs.lemmas.Bool.Decides.{Decides-int_eq}
use Rattle.mint.specs.declared.kind.Kind.TheVariants as kind
use Rattle.mint.specs.declared.kind.Count.{Count}
use Rattle.mint.specs.declared.kind.Count.TheVariants.{Exactly, AtMost, Any}
use Rattle.mint.specs.Types.{Scalar, number, Array, text, row_of, Ty, void_type, scalar_type, array_type, group_type, items_type, choice_type, maybe_type, Tys, no_fields, field, Arms, no_other, others, arm_type}
use Rattle.mint.specs.Values.{Val, Vals, group}
use Rattle.cast_stub.specs.Parts.{on_some, at, IsThere}
use Rattle.cast_stub.specs.Parts as part
use Rattle.cast_stub.specs.Block.{Block, stop, align, chunk, each, switch, if_there, patch, Cases}
use Rattle.cast_stub.specs.Append.{append}
use Rattle.cast_stub.specs.Follows as follows
use Rattle.cast_stub.specs.Follows.{IsCount, Follows, FieldsFollow, ArmsFollow}
use Rattle.cast_stub.specs.Subs.{no_subs}
use Rattle.cast_stub.specs.PartTypes.{field_type, in_group_type, ty_at, element_at, present_at, arms_at, elements_type, present_type, arms_type}
use Rattle.cast_stub.proofs.Rebasing.{at-append}
use Rattle.hoist.specs.Bound.{most, plus, times, greater, bound, cases_bound}
use Rattle.hoist.specs.Regions.{Sizes, on_way, further_on, is_light, AreSizes, fields_top, ArmsBounded}
use Rattle.cast_stub.proofs.Followed.{own}
use Rattle.hoist.proofs.Quiet.{mapped}
use Rattle.wire_def.specs.Arrays.{count_of}
use Rattle.hoist.proofs.Sparse.{parts_there}

-- ---- ways

or_assoc : (a b c : Bool) → (a || (b || c)) ≡ ((a || b) || c)
or_assoc true b c = refl
or_assoc false b c = refl

ty_through : (x : Option Ty) (p q : List ℕ) (t u : Ty) → ((y : Ty) → ty_at p y ≡ Some t → ty_at q y ≡ Some u) → on_some x (ty_at p) ≡ Some t
    → on_some x (ty_at q) ≡ Some u
ty_through None p q t u go e = absurd cc
ty_through (Some y) p q t u go e = go y e

pub ty-field : (p : List ℕ) (i : ℕ) (t0 t u : Ty) → ty_at p t0 ≡ Some t → in_group_type i t ≡ Some u → ty_at (p ++ i ∷ []) t0 ≡ Some u
ty-field [] i t0 t u e f =
    let s : t0 ≡ t = cc in
    ap (λ (x : Ty). on_some (in_group_type i x) (ty_at [])) s ∙ ap (λ (x : Option Ty). on_some x (ty_at [])) f
ty-field (j ∷ p) i t0 t u e f = ty_through (in_group_type j t0) p (p ++ i ∷ []) t u (λ (y : Ty) e'. ty-field p i y t u e' f) e

way_through : (x : Option Ty) (p : List ℕ) (t : Ty) (f g : Ty → Bool) (b : Bool) → on_some x (ty_at p) ≡ Some t
    → ((y : Ty) → ty_at p y ≡ Some t → g y ≡ (f y || b))
    → further_on x g ≡ (further_on x f || b)
way_through None p t f g b e go = absurd cc
way_through (Some y) p t f g b e go = go y e

pub way-field : (z : Sizes) (p : List ℕ) (i : ℕ) (t0 t u : Ty) → ty_at p t0 ≡ Some t → in_group_type i t ≡ Some u
    → on_way z (p ++ i ∷ []) t0 ≡ (on_way z p t0 || is_light (z.top u))
way-field z [] i t0 t u e f =
    let s : t0 ≡ t = cc in
    let g : further_on (in_group_type i t0) (on_way z []) ≡ is_light (z.top u) =
    ap (λ (x : Ty). further_on (in_group_type i x) (on_way z [])) s ∙ ap (λ (x : Option Ty). further_on x (on_way z [])) f in
    ap (λ (x : Bool). is_light (z.top t0) || x) g
way-field z (j ∷ p) i t0 t u e f =
    ap (λ (x : Bool). is_light (z.top t0) || x) (way_through (in_group_type j t0) p t (on_way z p) (on_way z (p ++ i ∷ []))
    (is_light (z.top u)) e (λ (y : Ty) e'. way-field z p i y t u e' f))
    ∙ or_assoc (is_light (z.top t0)) (further_on (in_group_type j t0) (on_way z p)) (is_light (z.top u))

pub at-field : (p : List ℕ) (i : ℕ) (v : Val) (vs : Vals) (w : Val) → at p v ≡ Some (group vs) → part.field i vs ≡ Some w
    → at (p ++ i ∷ []) v ≡ Some w
at-field p i v vs w e f =
    at-append p (i ∷ []) v ∙ ap (λ (x : Option Val). on_some x (at (i ∷ []))) e ∙ ap (λ (x : Option Val). on_some x (at [])) f

-- the fields from a number on
abbrev pub AreFrom : ℕ → Tys → Tys → Type 0
AreFrom i all ts = (j : ℕ) → field_type (i + j) all ≡ field_type j ts

pub from-first : (ts : Tys) → AreFrom 0 ts ts
from-first ts j = let e : 0 + j ≡ j = omega arith in ap (λ (k : ℕ). field_type k ts) e

pub from-next : (i : ℕ) (all : Tys) (t : Ty) (ts : Tys) → AreFrom i all (field t ts) → AreFrom (suc i) all ts
from-next i all t ts h j = let e : suc i + j ≡ i + suc j = omega arith in ap (λ (k : ℕ). field_type k all) e ∙ h (suc j)

pub from-head : (i : ℕ) (all : Tys) (t : Ty) (ts : Tys) → AreFrom i all (field t ts) → field_type i all ≡ Some t
from-head i all t ts h = let e : i ≡ i + 0 = omega arith in ap (λ (k : ℕ). field_type k all) e ∙ h 0

-- ---- bounds

there_plus : (a b : Option ℕ) → IsThere a → IsThere b → IsThere (plus a b)
there_plus None b h k = absurd h
there_plus (Some m) None h k = absurd k
there_plus (Some m) (Some n) h k = tt

there_times : (a b : Option ℕ) → IsThere a → IsThere b → IsThere (times a b)
there_times None b h k = absurd h
there_times (Some m) None h k = absurd k
there_times (Some m) (Some n) h k = tt

there_greater : (a b : Option ℕ) → IsThere a → IsThere b → IsThere (greater a b)
there_greater None b h k = absurd h
there_greater (Some m) None h k = absurd k
there_greater (Some m) (Some n) h k = tt

pub there_on : {A B : Type 0} (x : Option A) (f : A → Option B) (a : A) → x ≡ Some a → IsThere (f a) → IsThere (on_some x f)
there_on x f a e h = subst (λ y. IsThere (on_some y f)) (sym e) h

pub some_of : {A : Type 0} (x : Option A) → IsThere x → (a : A) × (x ≡ Some a)
some_of None h = absurd h
some_of (Some a) h = (a, refl)

bound-append : (t : Ty) (a b : Block) → IsThere (bound t a) → IsThere (bound t b) → IsThere (bound t (append a b))
bound-append t stop b h k = k
bound-append t (align n r) b h k =
    let p = parts_there (Some (n - 1)) (bound t r) h in
    there_plus (Some (n - 1)) (bound t (append r b)) tt (bound-append t r b p.1 k)
bound-append t (chunk s ps r) b h k =
    let p = parts_there (Some s) (bound t r) h in
    there_plus (Some s) (bound t (append r b)) tt (bound-append t r b p.1 k)
bound-append t (each q w r) b h k =
    let x = on_some (element_at q t) (λ e. times (most e.1) (bound e.0 w)) in
    let p = parts_there x (bound t r) h in there_plus x (bound t (append r b)) p.0 (bound-append t r b p.1 k)
bound-append t (switch q cs r) b h k =
    let x = on_some (arms_at q t) (λ arms. cases_bound arms cs) in
    let p = parts_there x (bound t r) h in there_plus x (bound t (append r b)) p.0 (bound-append t r b p.1 k)
bound-append t (if_there q w r) b h k =
    let x = on_some (present_at q t) (λ u. bound u w) in
    let p = parts_there x (bound t r) h in there_plus x (bound t (append r b)) p.0 (bound-append t r b p.1 k)
bound-append t (patch a s o r) b h k = bound-append t r b h k
bound-append t _ b h k = absurd h

flat_there : (t : Ty) (b : Block) (n : ℕ) → follows.flat b ≡ Some n → IsThere (bound t b)
flat_there t stop n e = tt
flat_there t (chunk s ps r) n e =
    let m = mapped (λ k. length ps + k) (follows.flat r) n e in
    there_plus (Some s) (bound t r) tt (flat_there t r m.0 m.1)
flat_there t (align a r) n e = let m = mapped suc (follows.flat r) n e in there_plus (Some (a - 1)) (bound t r) tt (flat_there t r m.0 m.1)
flat_there t _ n e = absurd cc

count_there : (t : Ty) (c : Count) (b : Block) → IsCount c b → IsThere (bound t b)
count_there t (Exactly n) b h = subst (λ (x : Block). IsThere (bound t x)) (sym h) tt
count_there t (AtMost n) b h = flat_there t b h.0 h.1
count_there t Any b h = flat_there t b h.0 h.1

abbrev pub pair : Ty → Count → Ty × Count
pair t n = (t, n)

-- the elements of a list, and those of a row
pub items-element : (p : List ℕ) (t0 : Ty) (c : Count) (t : Ty) → ty_at p t0 ≡ Some (items_type c t) → element_at p t0 ≡ Some (pair t c)
items-element p t0 c t e = ap (λ (x : Option Ty). on_some x elements_type) e

pub array-element : (p : List ℕ) (t0 : Ty) (a : Array) → ty_at p t0 ≡ Some (array_type a)
    → (u : Ty) × (element_at p t0 ≡ Some (pair u (count_of a)))
array-element p t0 (text c) e = (scalar_type (number kind.Char), ap (λ (x : Option Ty). on_some x elements_type) e)
array-element p t0 (row_of k c) e = (scalar_type (number k), ap (λ (x : Option Ty). on_some x elements_type) e)

-- the bound of a loop
abbrev pub loop_bound : List ℕ → Ty → Block → Option ℕ
loop_bound p t0 b = on_some (element_at p t0) (λ e. times (most e.1) (bound e.0 b))

loop_there : (p : List ℕ) (t0 : Ty) (u : Ty) (c : Count) (b : Block) → element_at p t0 ≡ Some (pair u c) → IsThere (most c)
    → IsThere (bound u b)
    → IsThere (loop_bound p t0 b)
loop_there p t0 u c b e h k =
    there_on (element_at p t0) (λ (x : Ty × Count). times (most x.1) (bound x.0 b)) (pair u c) e (there_times (most c) (bound u b) h k)

int_refl : (n : ℤ) → int_eq n n ≡ true
int_refl n = (Decides-int_eq n n).1 refl

module _ (z : Sizes) (sizes : AreSizes z) where
  items_given : (c : Count) (t : Ty) (p : List ℕ) (b : Block) (t0 : Ty) → ty_at p t0 ≡ Some (items_type c t)
      → IsThere (z.top (items_type c t)) → IsThere (bound t b)
      → IsThere (loop_bound p t0 b)
  items_given c t p b t0 e top h = loop_there p t0 t c b (items-element p t0 c t e) (sizes.items c t top).0 h

  choice_given : (s : Scalar) (arms : Arms) (p : List ℕ) (cs : Cases) (t0 : Ty) → ty_at p t0 ≡ Some (choice_type s arms)
      → IsThere (cases_bound arms cs)
      → IsThere (on_some (arms_at p t0) (λ x. cases_bound x cs))
  choice_given s arms p cs t0 e h =
      there_on (arms_at p t0) (λ (x : Arms). cases_bound x cs) arms (ap (λ (x : Option Ty). on_some x arms_type) e) h

  maybe_given : (t : Ty) (p : List ℕ) (b : Block) (t0 : Ty) → ty_at p t0 ≡ Some (maybe_type t) → IsThere (bound t b)
      → IsThere (on_some (present_at p t0) (λ u. bound u b))
  maybe_given t p b t0 e h = there_on (present_at p t0) (λ (u : Ty). bound u b) t (ap (λ (x : Option Ty). on_some x present_type) e) h

  mutual
    pub there : (t : Ty) (below : ℕ) (p : List ℕ) (b : Block) (t0 : Ty) → ty_at p t0 ≡ Some t → IsThere (z.top t)
        → Follows no_subs t below p b
        → IsThere (bound t0 b)
    there void_type below p b t0 e top h = flat_there t0 b h.0 h.1
    there (scalar_type s) below p b t0 e top h = flat_there t0 b h.0 h.1
    there (array_type a) below p b t0 e top h =
        let u = array-element p t0 a e in
        let x = loop_there p t0 u.0 (count_of a) h.1 u.1 (sizes.array a top) (flat_there u.0 h.1 h.4 h.8) in
        subst (λ (y : Block). IsThere (bound t0 y)) (sym h.6)
        (bound-append t0 h.0 (each p h.1 h.2) (flat_there t0 h.0 h.3 h.7)
        (there_plus (loop_bound p t0 h.1) (bound t0 h.2) x (flat_there t0 h.2 h.5 h.9)))
    there (group_type ts) below p b t0 e top h =
        let n = some_of (z.top (group_type ts)) top in
        let m = sizes.group ts n.0 n.1 in
        fields_there ts 0 ts below p b t0 e (from-first ts) (subst IsThere (sym m.1) tt) h
    there (items_type c t) below p b t0 e top h =
        subst (λ (y : Block). IsThere (bound t0 y)) (sym h.2)
        (bound-append t0 h.0 (each p h.1 stop) (count_there t0 c h.0 h.3) (there_plus (loop_bound p t0 h.1) (Some 0)
        (items_given c t p h.1 t0 e top (there t below [] h.1 t refl (sizes.items c t top).1 (own (Follows no_subs t) below [] h.1 h.4)))
        tt))
    there (choice_type s arms) below p b t0 e top h =
        subst (λ (y : Block). IsThere (bound t0 y)) (sym h.2)
        (bound-append t0 h.0 (switch p h.1 stop) (flat_there t0 h.0 (h.3).0 (h.3).1)
        (there_plus (on_some (arms_at p t0) (λ x. cases_bound x h.1)) (Some 0)
        (choice_given s arms p h.1 t0 e (arms_there arms below h.1 (sizes.choice s arms top) h.4)) tt))
    there (maybe_type t) below p b t0 e top h =
        subst (λ (y : Block). IsThere (bound t0 y)) (sym h.2)
        (bound-append t0 h.0 (if_there p h.1 stop) (flat_there t0 h.0 (h.3).0 (h.3).1)
        (there_plus (on_some (present_at p t0) (λ u. bound u h.1)) (Some 0)
        (maybe_given t p h.1 t0 e (there t below [] h.1 t refl (sizes.maybe t top) (own (Follows no_subs t) below [] h.1 h.4))) tt))

    fields_there : (ts : Tys) (i : ℕ) (all : Tys) (below : ℕ) (p : List ℕ) (b : Block) (t0 : Ty) → ty_at p t0 ≡ Some (group_type all)
        → AreFrom i all ts → IsThere (fields_top z ts) → FieldsFollow no_subs ts i below p b
        → IsThere (bound t0 b)
    fields_there no_fields i all below p b t0 e from top h = subst (λ (y : Block). IsThere (bound t0 y)) (sym h) tt
    fields_there (field t ts) i all below p b t0 e from top h =
        let tops = parts_there (z.top t) (fields_top z ts) top in
        subst (λ (y : Block). IsThere (bound t0 y)) (sym h.2)
        (bound-append t0 h.0 h.1
        (there t below (p ++ i ∷ []) h.0 t0 (ty-field p i t0 (group_type all) t e (from-head i all t ts from)) tops.0
        (own (Follows no_subs t) below (p ++ i ∷ []) h.0 h.3))
        (fields_there ts (suc i) all below p h.1 t0 e (from-next i all t ts from) tops.1 h.4))

    arms_there : (arms : Arms) (below : ℕ) (cs : Cases) → ArmsBounded z arms → ArmsFollow no_subs arms below cs
        → IsThere (cases_bound arms cs)
    arms_there no_other below cs top h = subst (λ (y : Cases). IsThere (cases_bound no_other y)) (sym h) tt
    arms_there (others t) below cs top h = subst (λ (y : Cases). IsThere (cases_bound (others t) y)) (sym h.1)
        (there t below [] h.0 t refl top (own (Follows no_subs t) below [] h.0 h.2))
    arms_there (arm_type n t arms) below cs top h =
        let both = there_greater (bound t h.0) (cases_bound arms h.1)
        (there t below [] h.0 t refl top.0 (own (Follows no_subs t) below [] h.0 h.3)) (arms_there arms below h.1 top.1 h.4) in
        subst (λ (y : Cases). IsThere (cases_bound (arm_type n t arms) y)) (sym h.2)
        (subst (λ (q : Bool). IsThere (if q then greater (bound t h.0) (cases_bound arms h.1) else None)) (sym (int_refl n)) both)

  pub array_there : (a : Array) (p : List ℕ) (b : Block) (n : ℕ) (t0 : Ty) → ty_at p t0 ≡ Some (array_type a)
      → IsThere (z.top (array_type a)) → follows.flat b ≡ Some n
      → IsThere (loop_bound p t0 b)
  array_there a p b n t0 e top f =
      let u = array-element p t0 a e in
      loop_there p t0 u.0 (count_of a) b u.1 (sizes.array a top) (flat_there u.0 b n f)

  pub items_there : (c : Count) (t : Ty) (below : ℕ) (p : List ℕ) (b : Block) (t0 : Ty) → ty_at p t0 ≡ Some (items_type c t)
      → IsThere (z.top (items_type c t)) → Follows no_subs t below [] b
      → IsThere (loop_bound p t0 b)
  items_there c t below p b t0 e top h = items_given c t p b t0 e top (there t below [] b t refl (sizes.items c t top).1 h)

  pub choice_there : (s : Scalar) (arms : Arms) (below : ℕ) (p : List ℕ) (cs : Cases) (t0 : Ty) → ty_at p t0 ≡ Some (choice_type s arms)
      → IsThere (z.top (choice_type s arms)) → ArmsFollow no_subs arms below cs
      → IsThere (on_some (arms_at p t0) (λ x. cases_bound x cs))
  choice_there s arms below p cs t0 e top h = choice_given s arms p cs t0 e (arms_there arms below cs (sizes.choice s arms top) h)

  pub maybe_there : (t : Ty) (below : ℕ) (p : List ℕ) (b : Block) (t0 : Ty) → ty_at p t0 ≡ Some (maybe_type t)
      → IsThere (z.top (maybe_type t)) → Follows no_subs t below [] b
      → IsThere (on_some (present_at p t0) (λ u. bound u b))
  maybe_there t below p b t0 e top h = maybe_given t p b t0 e (there t below [] b t refl (sizes.maybe t top) h)

  -- the bound of one turn, where the elements are alike
  pub turn_there : (c : Count) (t : Ty) (below : ℕ) (p : List ℕ) (b : Block) (t0 : Ty) → ty_at p t0 ≡ Some (items_type c t)
      → IsThere (z.top t) → Follows no_subs t below [] b
      → IsThere (on_some (element_at p t0) (λ e. bound e.0 b))
  turn_there c t below p b t0 e top h =
      there_on (element_at p t0) (λ (x : Ty × Count). bound x.0 b) (pair t c) (items-element p t0 c t e) (there t below [] b t refl top h)

  pub row_turn_there : (a : Array) (p : List ℕ) (b : Block) (n : ℕ) (t0 : Ty) → ty_at p t0 ≡ Some (array_type a) → follows.flat b ≡ Some n
      → IsThere (on_some (element_at p t0) (λ e. bound e.0 b))
  row_turn_there a p b n t0 e f =
      let u = array-element p t0 a e in
      there_on (element_at p t0) (λ (x : Ty × Count). bound x.0 b) (pair u.0 (count_of a)) u.1 (flat_there u.0 b n f)
