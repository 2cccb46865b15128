-- The numbers of a row as a block.
use Rattle.std.proofs.Common.{◌≡◌, ℕ, ℤ, suc, ◌+◌, ◌-◌, ◌*◌, ◌<◌, ◌≤◌, List, [], ◌∷◌, ◌++◌, take, drop, Option, None, Some, option_map, refl, sym, ap, subst, ◌∙◌, arith, append_assoc}
use Rattle.std.specs.Prelude.{Bool, true, false, if◌then◌else◌, nat_le}
use Rattle.std.specs.Int.{Width}
use Rattle.std.proofs.Math.Nat.{suc-mul}
use Rattle.std.proofs.Math.Seq.{drop-drop}
use Rattle.std.proofs.lemmas.Bool.{leb-true, le-leb}
use Rattle.std.proofs.lemmas.List.{append-nil}
use Rattle.mint.specs.declared.kind.Kind.{Kind}
use Rattle.mint.specs.declared.node.Node.{Node}
use Rattle.mint.specs.declared.value.Value.TheVariants as value
use Rattle.mint.specs.Kinds.{IsInRange}
use Rattle.mint.specs.Row.{Numbers}
use Rattle.mint.specs.Types.{Array, number}
use Rattle.mint.specs.Values.{row}
use Rattle.wire_def.specs.declared.head.Order.{Order}
use Rattle.wire_def.specs.Scalars.{is_signed, number_of}
use Rattle.wire_def.specs.Arrays.{kind_of}
use Rattle.wire_def.specs.Orders.{IsWidth, width_in, width_as, loaded}
use Rattle.raw_buf.specs.View.{View, loaded_of}
use Rattle.cast_stub.specs.Draft.{Draft, done}
use Rattle.cast_stub.specs.Into.{is_digit, numbers_at, fill_block}
use Rattle.cast_stub.specs.Runs.{Place, Run, gives, refuses, strays, Holds, if_some, if_passed}
use Rattle.stub_receiver.specs.declared.draft.Filling.TheVariants as filling
use Rattle.stub_receiver.specs.Drawn.{drawn, digit_passing}
use Rattle.stub_receiver.specs.Ran.{place_of}
use Rattle.stub_receiver.proofs.Drafting.{drawn-Done}
use Rattle.stub_receiver.proofs.Running.{seen-Numbers, digit_ranged}
use Rattle.stub_receiver.proofs.Within.{width_is}

-- ---- the whole block

module _ (o : Order) (w : ℕ) (a : Array) (n : ℕ) (s : Place) (wide : IsWidth w) where
  passed_block : Option (List ℤ) → Run Draft
  passed_block z = if_passed z (λ zs. gives (done (row (kind_of a) zs))
      (record { pos = s.pos + n * w; left = drop (n * w) s.left; near = s.near - n * w; tests = s.tests }))

  tested_block : fill_block o w a n s ≡ (if nat_le (n * w) s.near then passed_block (numbers_at a o (width_as w) w n s.left) else strays)
  unfolding passed_block
  tested_block =
      ap (λ (z : Option Width). if_some z (λ x. if nat_le (n * w) s.near
      then if_passed (numbers_at a o x w n s.left) (λ zs. gives (done (row (kind_of a) zs))
      (record { pos = s.pos + n * w; left = drop (n * w) s.left; near = s.near - n * w; tests = s.tests }))
      else strays)) (width_is w wide)

  pub block_near : Holds (fill_block o w a n s) → n * w ≤ s.near
  block_near h = checked (nat_le (n * w) s.near) refl (subst Holds tested_block h) where
    checked : (b : Bool) → nat_le (n * w) s.near ≡ b → Holds (if b then passed_block (numbers_at a o (width_as w) w n s.left) else strays)
        → n * w ≤ s.near
    checked true e k = leb-true (n * w) s.near e
    checked false e k = absurd k

  block_is : n * w ≤ s.near → fill_block o w a n s ≡ passed_block (numbers_at a o (width_as w) w n s.left)
  block_is near = tested_block
      ∙ ap (λ (b : Bool). if b then passed_block (numbers_at a o (width_as w) w n s.left) else strays) (le-leb (n * w) s.near near)

  pub block_gives : (ns : List Node) (r : Numbers) (t : Place) → n * w ≤ s.near → numbers_at a o (width_as w) w n s.left ≡ Some r.numbers
      → r.kind ≡ kind_of a → t ≡ record { pos = s.pos + n * w; left = drop (n * w) s.left; near = s.near - n * w; tests = s.tests }
      → fill_block o w a n s ≡ gives (drawn ns (filling.Done (value.Row r))) t
  unfolding passed_block
  block_gives ns r t near read kind is =
      block_is near ∙ ap passed_block read ∙ ap (λ (u : Place). gives (done (row (kind_of a) r.numbers)) u) (sym is)
      ∙ ap (λ (d : Draft). gives d t)
      (ap (λ (k : Kind). done (row k r.numbers)) (sym kind) ∙ ap done (sym (seen-Numbers r)) ∙ sym (drawn-Done ns (value.Row r)))

  pub block_refuses : n * w ≤ s.near → numbers_at a o (width_as w) w n s.left ≡ None → fill_block o w a n s ≡ refuses
  unfolding passed_block
  block_refuses near none = block_is near ∙ ap passed_block none

-- ---- its numbers, one after the other

-- what is left of so many numbers at an offset, after those that were read
pub record Left (a : Array) (o : Order) (w n near : ℕ) (left : List ℕ) (r : Numbers) (i off : ℕ) : Type 0 where
  pub within : off + (n - i) * w ≤ near
  pub whole : numbers_at a o (width_as w) w n left
      ≡ option_map (λ zs. r.numbers ++ zs) (numbers_at a o (width_as w) w (n - i) (drop off left))
  pub kind : r.kind ≡ kind_of a

front_none : (z : Option (List ℤ)) → z ≡ option_map (λ zs. [] ++ zs) z
front_none None = refl
front_none (Some zs) = refl

pub left_start : (a : Array) (o : Order) (w n near : ℕ) (left : List ℕ) (r : Numbers) → n * w ≤ near
    → r ≡ record { kind = kind_of a; numbers = [] }
    → Left a o w n near left r 0 0
left_start a o w n near left r le is =
    let all : n - 0 ≡ n = omega arith in
    let same : (n - 0) * w ≡ n * w = ap (λ (k : ℕ). k * w) all in
    record {
      within = omega (arith, le, same);
      whole = front_none (numbers_at a o (width_as w) w n left)
          ∙ ap (λ (q : Numbers). option_map (λ zs. q.numbers ++ zs) (numbers_at a o (width_as w) w n left)) (sym is)
          ∙ ap (λ (k : ℕ). option_map (λ zs. r.numbers ++ zs) (numbers_at a o (width_as w) w k left)) (sym all);
      kind = ap (λ (q : Numbers). q.kind) is;
    }

module _ (a : Array) (o : Order) (w n near : ℕ) (left : List ℕ) (r : Numbers) (i off : ℕ) (h : Left a o w n near left r i off) where
  one_of : i < n → n - i ≡ suc (n - (i + 1))
  one_of lt = omega (arith, lt)

  rest_is : i < n → (n - i) * w ≡ (n - (i + 1)) * w + w
  rest_is lt = ap (λ (k : ℕ). k * w) (one_of lt) ∙ suc-mul (n - (i + 1)) w

  pub one_near : i < n → off + w ≤ near
  one_near lt = omega (arith, h.within, rest_is lt)

  -- the next number, as it is taken and as it is read
  here : ℕ
  here = loaded o (width_as w) (take w (drop off left))

  num_of : ℕ → ℤ
  num_of m = number_of (is_signed (number (kind_of a))) (width_as w) m

  opened : i < n
      → numbers_at a o (width_as w) w n left ≡ option_map (λ zs. r.numbers ++ zs) (if is_digit a (num_of here)
      then option_map (λ zs. num_of here ∷ zs) (numbers_at a o (width_as w) w (n - (i + 1)) (drop w (drop off left))) else None)
  unfolding here num_of
  opened lt = h.whole ∙ ap (λ (k : ℕ). option_map (λ zs. r.numbers ++ zs) (numbers_at a o (width_as w) w k (drop off left))) (one_of lt)

  is_here : (m : ℕ) → IsWidth w → m ≡ loaded_of o (width_in w) (take w (drop off left)) → m ≡ here
  unfolding here
  is_here m wide is = is ∙ ap (λ (z : Option Width). loaded_of o z (take w (drop off left))) (width_is w wide)

  taken : (b : Bool) (x y : ℤ) (z : Option (List ℤ)) → (if b then Some x else None) ≡ Some y
      → (if b then option_map (λ zs. x ∷ zs) z else None) ≡ option_map (λ zs. y ∷ zs) z
  taken true x y z e = let same : x ≡ y = cc in ap (λ (v : ℤ). option_map (λ zs. v ∷ zs) z) same
  taken false x y z e = absurd cc

  joined_more : (y : ℤ) (z : Option (List ℤ))
      → option_map (λ zs. r.numbers ++ zs) (option_map (λ zs. y ∷ zs) z) ≡ option_map (λ zs. (r.numbers ++ y ∷ []) ++ zs) z
  joined_more y None = refl
  joined_more y (Some zs) = ap (λ (l : List ℤ). Some l) (sym (append_assoc r.numbers (y ∷ []) zs))

  pub left_turn : (new : Numbers) (m : ℕ) (y z : ℤ) → i < n → IsWidth w → m ≡ loaded_of o (width_in w) (take w (drop off left))
      → digit_passing a (width_as w) m ≡ Some y → z ≡ y → new ≡ record { kind = r.kind; numbers = r.numbers ++ z ∷ [] }
      → Left a o w n near left new (i + 1) (off + w)
  unfolding here num_of
  left_turn new m y z lt wide is read same made = record {
    within = omega (arith, h.within, rest_is lt);
    whole =
        let passes : digit_passing a (width_as w) here ≡ Some y =
        subst (λ (k : ℕ). digit_passing a (width_as w) k ≡ Some y) (is_here m wide is) read in
        let far : drop w (drop off left) ≡ drop (off + w) left = drop-drop w off left in
        opened lt ∙ ap (option_map (λ zs. r.numbers ++ zs))
        (taken (is_digit a (num_of here)) (num_of here) y (numbers_at a o (width_as w) w (n - (i + 1)) (drop w (drop off left))) passes)
        ∙ joined_more y (numbers_at a o (width_as w) w (n - (i + 1)) (drop w (drop off left)))
        ∙ ap (λ (l : List ℕ). option_map (λ zs. (r.numbers ++ y ∷ []) ++ zs) (numbers_at a o (width_as w) w (n - (i + 1)) l)) far
        ∙ ap (λ (l : List ℤ). option_map (λ zs. l ++ zs) (numbers_at a o (width_as w) w (n - (i + 1)) (drop (off + w) left)))
        (sym (ap (λ (q : Numbers). q.numbers) made ∙ ap (λ (v : ℤ). r.numbers ++ v ∷ []) same));
    kind = ap (λ (q : Numbers). q.kind) made ∙ h.kind;
  }

  missed : (b : Bool) (x : ℤ) (z : Option (List ℤ)) → (if b then Some x else None) ≡ None
      → option_map (λ zs. r.numbers ++ zs) (if b then option_map (λ zs. x ∷ zs) z else None) ≡ None
  missed true x z e = absurd cc
  missed false x z e = refl

  pub left_refused : (m : ℕ) → i < n → IsWidth w → m ≡ loaded_of o (width_in w) (take w (drop off left))
      → digit_passing a (width_as w) m ≡ None
      → numbers_at a o (width_as w) w n left ≡ None
  unfolding here num_of
  left_refused m lt wide is none =
      let fails : digit_passing a (width_as w) here ≡ None =
      subst (λ (k : ℕ). digit_passing a (width_as w) k ≡ None) (is_here m wide is) none in
      opened lt
      ∙ missed (is_digit a (num_of here)) (num_of here) (numbers_at a o (width_as w) w (n - (i + 1)) (drop w (drop off left))) fails

  pub left_end : n ≤ i → numbers_at a o (width_as w) w n left ≡ Some r.numbers
  left_end past =
      let none : n - i ≡ 0 = omega (arith, past) in
      h.whole ∙ ap (λ (k : ℕ). option_map (λ zs. r.numbers ++ zs) (numbers_at a o (width_as w) w k (drop off left))) none
      ∙ ap Some (append-nil r.numbers)

-- a number that is read is one of the row's
pub passing_ranged : (a : Array) (x : Width) (m : ℕ) (n : ℤ) → digit_passing a x m ≡ Some n → IsInRange (kind_of a) n
passing_ranged a x m n e = checked (is_digit a (number_of (is_signed (number (kind_of a))) x m)) refl e where
  checked : (b : Bool) → is_digit a (number_of (is_signed (number (kind_of a))) x m) ≡ b
      → (if b then Some (number_of (is_signed (number (kind_of a))) x m) else None) ≡ Some n
      → IsInRange (kind_of a) n
  checked true is k =
      let same : number_of (is_signed (number (kind_of a))) x m ≡ n = cc in
      digit_ranged a n (subst (λ (z : ℤ). is_digit a z ≡ true) same is)
  checked false is k = absurd cc

-- a place by its parts
abbrev placed : ℕ → List ℕ → ℕ → ℕ → Place
placed p l n t = record { pos = p; left = l; near = n; tests = t }

-- a view that has passed so many octets
pub place_after : (v w : View) (k : ℕ) → w.pos ≡ v.pos + k → w.near ≡ v.near - k → w.tests ≡ v.tests → w.octets ≡ v.octets
    → place_of w ≡ record { pos = v.pos + k; left = drop k (drop v.pos v.octets); near = v.near - k; tests = v.tests }
place_after v w k at near tests octets =
    ap (λ (p : ℕ). placed p (drop p w.octets) w.near w.tests) at
    ∙ ap (λ (o : List ℕ). placed (v.pos + k) (drop (v.pos + k) o) w.near w.tests) octets
    ∙ ap (λ (n : ℕ). placed (v.pos + k) (drop (v.pos + k) v.octets) n w.tests) near
    ∙ ap (λ (n : ℕ). placed (v.pos + k) (drop (v.pos + k) v.octets) (v.near - k) n) tests
    ∙ ap (λ (l : List ℕ). placed (v.pos + k) l (v.near - k) v.tests) (sym (drop-drop k v.pos v.octets))
