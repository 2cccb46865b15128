-- Octets begin with one part of a file of stubs, or with none.
use Rattle.std.proofs.Common.{◌≡◌, ◌⊎◌, inl, inr, ℕ, suc, ◌≤◌, Bool, true, false, ◌&&◌, eqb, List, [], ◌∷◌, drop, length, map, Option, Some, None, refl, sym, ap, ◌∙◌, arith, codes}
use Rattle.std.specs.List.{starts_with}
use Rattle.std.proofs.lemmas.List.{length-take-le}
use Rattle.std.specs.Prelude.{◌==◌, if◌then◌else◌}
use Rattle.cast_stub.specs.declared.send.SendCode.{SendCode}
use Rattle.cast_stub.specs.Block.{Block, code_seen}
use Rattle.stub_print.specs.SendText.{send_text}
use Rattle.stub_read.specs.Reading.{begins}
use Rattle.stub_read.specs.Stubs.{Begins, Parts, parts_at}
use Rattle.stub_read.proofs.Whole.{stub_text, text_then, begun, one_begun, told, text_of, nothing_read, found, otherwise}
use Rattle.flick_check.specs.Files.{Part, sends, receives, begins_stub, passed, IsPart, HasNoPart, used_of}

-- ---- the text of a stub

module _ (t n : List ℕ) (a : Block) (ss : List Block) (u : ℕ) (h : Begins n a ss u t) where
  led_text : t ≡ stub_text n a ss (drop u t)
  led_text = begun t n a ss u h ∙ text_then n a ss (drop u t)

  used_length : u ≡ length (send_text n a ss)
  used_length = sym (length-take-le u t h.within) ∙ ap length h.is-text

  pub is_used : 1 ≤ u
  is_used =
      let first : length (send_text n a ss) ≡ suc (length (drop 1 (send_text n a ss))) = refl in
      omega (arith, used_length, first)

  pub not_received : begins (codes "recv ") t ≡ true → ⊥
  not_received e = absurd (cc (sym (ap (begins (codes "recv ")) led_text) ∙ e))

-- the text of one stub alone
pub record AreOne (n m : List ℕ) (a b : Block) (ss ts : List Block) (u v : ℕ) : Type 0 where
  pub name : n ≡ m
  pub code : a ≡ b
  pub subs : ss ≡ ts
  pub used : u ≡ v

pub one_stub : (t n m : List ℕ) (a b : Block) (ss ts : List Block) (u v : ℕ) → Begins n a ss u t → Begins m b ts v t
    → AreOne n m a b ss ts u v
one_stub t n m a b ss ts u v h k =
    let (name, code, subs) = one_begun t n m a b ss ts u v h k in
    record {
      name = name;
      code = code;
      subs = subs;
      used = used_length t n a ss u h
          ∙ ap (λ (x : List ℕ). length (send_text x a ss)) name
          ∙ ap (λ (x : Block). length (send_text m x ss)) code
          ∙ ap (λ (xs : List Block). length (send_text m b xs)) subs
          ∙ sym (used_length t m b ts v k);
    }

-- ---- a part, or none

pub no_part : (t : List ℕ) (p : Part) → IsPart t p → HasNoPart t → ⊥
no_part t (sends n c u) is none =
    none.1 n (code_seen c.ops) (map code_seen c.subs) (drop u t) is.is-stub (begun t n (code_seen c.ops) (map code_seen c.subs) u is)
no_part t (receives u) is none = absurd (cc (is.0, none.0))

-- how far a text after `recv` goes
passed_some : (t : List ℕ) → begins (codes "recv ") t ≡ true → 1 ≤ passed t
passed_some [] e = absurd (cc e)
passed_some (x ∷ xs) e = omega arith

passed_within : (t : List ℕ) → passed t ≤ length t
passed_within [] = omega arith
passed_within (x ∷ xs) = go (x == 10 && begins_stub xs) (passed_within xs) where
  go : (b : Bool) → passed xs ≤ length xs → suc (if b then 0 else passed xs) ≤ suc (length xs)
  go true h = omega arith
  go false h = omega (arith, h)

pub record IsStart (t : List ℕ) (p : Part) : Type 0 where
  pub is : IsPart t p
  pub some : 1 ≤ used_of p
  pub within : used_of p ≤ length t

pub received_start : (t : List ℕ) → begins (codes "recv ") t ≡ true → IsStart t (receives (passed t))
received_start t e = record { is = (e, refl); some = passed_some t e; within = passed_within t }

pub stub_start : (t n : List ℕ) (c : SendCode) (u : ℕ) → Begins n (code_seen c.ops) (map code_seen c.subs) u t → IsStart t (sends n c u)
stub_start t n c u h = record { is = h; some = is_used t n (code_seen c.ops) (map code_seen c.subs) u h; within = h.within }

-- the code of parts that are read
abbrev code_of : Parts → SendCode
code_of x = record { ops = x.1.0; subs = x.1.1 }

abbrev Starts : List ℕ → Type 0
Starts t = ((p : Part) × IsStart t p) ⊎ HasNoPart t

by_text : (t : List ℕ) → begins (codes "recv ") t ≡ false → (x : Parts) → told (parts_at t) ≡ Some x → (r : Bool)
    → starts_with eqb t (text_of x) ≡ r → Starts t
by_text t other x e true is =
    inl (
      sends x.0 (code_of x) (length (text_of x)),
      stub_start t x.0 (code_of x) (length (text_of x))
          (found t (text_of x) x (starts_with eqb t (text_of x)) e refl refl is),
    )
by_text t other x e false is = inr (other, otherwise t (text_of x) x (starts_with eqb t (text_of x)) e refl refl is)

by_parts : (t : List ℕ) → begins (codes "recv ") t ≡ false → (q : Option Parts) → told (parts_at t) ≡ q → Starts t
by_parts t other None e = inr (other, nothing_read t e)
by_parts t other (Some x) e = by_text t other x e (starts_with eqb t (text_of x)) refl

pub start_somehow : (t : List ℕ) → Starts t
start_somehow t = go (begins (codes "recv ") t) refl where
  go : (b : Bool) → begins (codes "recv ") t ≡ b → Starts t
  go true e = inl (receives (passed t), received_start t e)
  go false e = by_parts t e (told (parts_at t)) refl
