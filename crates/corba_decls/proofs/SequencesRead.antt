-- Types: what is read is what is spelled, by induction on the levels.
use Rattle.std.proofs.Common.{◌≡◌, inl, inr, ℕ, zero, suc, List, [], ◌∷◌, ◌++◌, Option, Some, None, Bool, true, false, ◌||◌, cond, refl, sym, ap, subst, ◌∙◌, append_assoc}
use Rattle.std.specs.Prelude.{codes}
use Rattle.idl_lex.specs.declared.kinds.Token.{Token}
use Rattle.idl_lex.specs.declared.kinds.TokenKind.{TokenKind}
use Rattle.idl_lex.specs.declared.kinds.TokenKind.TheVariants as K
use Rattle.idl_read.specs.Reading.{Read, Reader, then_on, map_read, mark_is, word_is, word_at, mark_at, begins_with, after}
use Rattle.idl_read.specs.Grammar.{Text, word, mark, ◌&◌, kinds, IsGrammar}
use Rattle.idl_read.proofs.Grammars.{then_some, read_is, map_some, cond_some, parted, kinds-append}
use Rattle.idl_read.proofs.Leaves.{word_reads, mark_reads, apart_word, leads_word, begins_so, begins_not}
use Rattle.idl_read.proofs.Productions.{after_is, leads_after, leads_maybe}
use Rattle.idl_exprs.specs.Trees.{Tree}
use Rattle.corba_decls.specs.declared.type_tree.Base.{Base}
use Rattle.corba_decls.specs.TypeSpelling.{bound, held, type}
use Rattle.corba_decls.specs.TypeReaders.{Typed, bound_at, sequence_of, ended_at, shared_at, type_at}
use Rattle.corba_decls.proofs.BasesRead.{Closes, bound_is, leads_comma, is_close, leads_close, base_typed, base_is, is_plain, leads_base}
use Rattle.idl_exprs.proofs.ExpressionsRead.{with_lines}

abbrev pub typed : ℕ → Typed → Text
typed n x = type n x.0.0 x.0.1 x.1

regrouped : (a b c d : Bool) → (a || (b || c)) ≡ true → (((a || b) || c) || d) ≡ true
regrouped true b c d h = refl
regrouped false true c d h = refl
regrouped false false true d h = refl
regrouped false false false d h = absurd cc

after_closes : (ts : List Token) → begins_with (λ k. mark_is (codes ",") k || is_close k) ts ≡ true → Closes ts
after_closes [] h = absurd cc
after_closes (t ∷ ts) h = regrouped (mark_is (codes ",") t.kind) (mark_is (codes ">") t.kind) (mark_is (codes ">>") t.kind) _ h

bound_closes : (n : ℕ) (x : Option Tree × Bool) (front rest : List Token) → bound n x.0 x.1 (kinds front) → Closes (front ++ rest)
bound_closes n x front rest s = after_closes (front ++ rest) (begins_so (leads_maybe (leads_comma n) leads_close) x front rest s)

-- what follows the `<` of a sequence
abbrev held_text : ℕ → Typed → Text
held_text n (([], b), shared) ks = ⊥
held_text n ((x ∷ xs, b), shared) ks = held (type n xs b) (suc n) x shared ks

module _ (n : ℕ) (g : IsGrammar (shared_at n) (typed n) Closes) where
  abbrev held_at : Reader Typed
  held_at us = then_on (shared_at n us) (ended_at (suc n))

  -- an element that shares its end, or not
  ended_found : (t : Typed) (f us : List Token) (x : Typed) (rest : List Token) (b : Bool) → t.1 ≡ b → typed n t (kinds f)
      → cond b (Some (sequence_of t (None, false), us)) (map_read (sequence_of t) (bound_at (suc n) us)) ≡ Some (x, rest)
      → (front : List Token) × (us ≡ front ++ rest) × held_text n x (kinds (f ++ front))
  ended_found t f us x rest true h w e =
      let is = read_is (sequence_of t (None, false)) x us rest e in
      let whole : kinds (f ++ []) ≡ kinds f = kinds-append f [] ∙ no_more (kinds f) in (
        [],
        is.1,
        subst
            (λ (z : Typed).
            held_text n z (kinds (f ++ []))) is.0
            (inl (refl, refl, subst (type n t.0.0 t.0.1 true) (sym whole) (subst (λ z. type n t.0.0 t.0.1 z (kinds f)) h w))),
      )
    where
      no_more : (ks : List TokenKind) → ks ++ [] ≡ ks
      no_more [] = refl
      no_more (k ∷ ks) = ap (λ z. k ∷ z) (no_more ks)
  ended_found t f us x rest false h w e =
      let m = map_some (sequence_of t) (bound_at (suc n) us) x rest e in
      let b = (bound_is (suc n)).found us m.0 rest m.1 in (
        b.0,
        b.1,
        subst
            (λ (z : Typed).
            held_text n z (kinds (f ++ b.0))) m.2
            (inr (kinds f, kinds b.0, kinds-append f b.0, subst (λ z. type n t.0.0 t.0.1 z (kinds f)) h w, b.2)),
      )

  shared_end : (bounds : List (Option Tree)) (base : Base) (x : Option Tree) (shared : Bool) (front rest : List Token)
      → x ≡ None → shared ≡ false → type n bounds base true (kinds front) → Closes rest
      → held_at (front ++ rest) ≡ Some (((x ∷ bounds, base), shared), rest)
  shared_end bounds base x shared front rest x_is shared_is w may = let one =
      g.again ((bounds, base), true) front rest w may in rw (one, x_is, shared_is) refl

  own_end : (bounds : List (Option Tree)) (base : Base) (x : Option Tree) (shared : Bool) (front rest : List Token)
      → (type n bounds base false & bound (suc n) x shared) (kinds front) → Closes rest
      → held_at (front ++ rest) ≡ Some (((x ∷ bounds, base), shared), rest)
  own_end bounds base x shared front rest s may =
      let p = parted front s.0 s.1 s.2 in
      let second : bound (suc n) x shared (kinds p.1) = subst (bound (suc n) x shared) (sym p.4) s.4 in
      let one = g.again ((bounds, base), false) p.0 (p.1 ++ rest) (subst (type n bounds base false) (sym p.3) s.3)
      (bound_closes (suc n) (x, shared) p.1 rest second) in
      let two = (bound_is (suc n)).again (x, shared) p.1 rest second may in
      let done : held_at (p.0 ++ (p.1 ++ rest)) ≡ Some (((x ∷ bounds, base), shared), rest) = rw (one, two) refl in
      ap (λ z. held_at (z ++ rest)) p.2 ∙ ap held_at (append_assoc p.0 p.1 rest) ∙ done

  held_is : IsGrammar held_at (held_text n) Closes
  held_is = record {
    found = λ ts x rest e.
        let m = then_some (shared_at n ts) (ended_at (suc n)) (x, rest) e in
        let a = g.found ts m.0.0 m.0.1 m.1 in
        let b = ended_found m.0.0 a.0 m.0.1 x rest m.0.0.1 refl a.2 m.2 in
        (a.0 ++ b.0, a.1 ∙ ap (λ z. a.0 ++ z) b.1 ∙ sym (append_assoc a.0 b.0 rest), b.2);
    again = λ x front rest s may. reads x front rest s may;
  } where
    reads : (x : Typed) (front rest : List Token) → held_text n x (kinds front) → Closes rest → held_at (front ++ rest) ≡ Some (x, rest)
    reads (([], b), shared) front rest s may = absurd s
    reads ((x ∷ xs, b), shared) front rest (inl s) may = shared_end xs b x shared front rest s.0 s.1 s.2 may
    reads ((x ∷ xs, b), shared) front rest (inr s) may = own_end xs b x shared front rest s may

  abbrev sequence_text : Typed → Text
  sequence_text x = word (codes "sequence") & (mark (codes "<") & held_text n x)

  sequence_is : IsGrammar (after (word_at (codes "sequence")) (after (mark_at (codes "<")) held_at)) sequence_text Closes
  sequence_is = after_is (word_reads (codes "sequence")) (after_is (mark_reads (codes "<")) held_is)

  sequence_forth : (x : Typed) (ks : List TokenKind) → sequence_text x ks → typed (suc n) x ks
  sequence_forth (([], b), shared) ks s = absurd s.4.4
  sequence_forth ((x ∷ xs, b), shared) ks s = s

  base_forth : (x : Typed) (ks : List TokenKind) → base_typed (suc n) x ks → typed (suc n) x ks
  base_forth (([], b), shared) ks s = s.1
  base_forth ((x ∷ xs, b), shared) ks s = absurd (let h = s.0 in cc)

  next_is : IsGrammar (shared_at (suc n)) (typed (suc n)) Closes
  next_is = record {
    found = λ ts x rest e.
        elim (cond_some (begins_with (word_is (codes "sequence")) ts) _ _ (x, rest) e) [
          | inl (t, e1) ↦ (let a = sequence_is.found ts x rest e1 in (a.0, a.1, sequence_forth x (kinds a.0) a.2))
          | inr (t, e1) ↦ (let a = (base_is (suc n)).found ts x rest e1 in (a.0, a.1, base_forth x (kinds a.0) a.2))
        ];
    again = λ x front rest s may. reads x front rest s may;
  } where
    reads : (x : Typed) (front rest : List Token) → typed (suc n) x (kinds front) → Closes rest → shared_at (suc n) (front ++ rest)
        ≡ Some (x, rest)
    reads (([], b), shared) front rest s may =
        let no = begins_not (word_is (codes "sequence")) (leads_base (suc n))
        (apart_word
        (λ k. word_is (codes "string") k || is_plain (suc n) k) (codes "sequence") refl) (([], b), shared) front rest (refl, s) in
        let one = (base_is (suc n)).again (([], b), shared) front rest (refl, s) may in
        rw (no, one) refl
    reads ((x ∷ xs, b), shared) front rest s may =
        let so =
        begins_so
        (leads_after
        (λ (z : Typed). mark (codes "<") & held_text n z) (leads_word (codes "sequence"))) ((x ∷ xs, b), shared) front rest s in
        let one = sequence_is.again ((x ∷ xs, b), shared) front rest s may in
        rw so one

pub shared_is : (n : ℕ) → IsGrammar (shared_at n) (typed n) Closes
shared_is zero = record { found = λ ts x rest e. absurd cc; again = λ x front rest s may. absurd s }
shared_is (suc n) = next_is n (shared_is n)

-- ---- types that have their own end

abbrev pub whole : ℕ → List (Option Tree) × Base → Text
whole n v = type n v.0 v.1 false

whole_found : (n : ℕ) (t : Typed) (us : List Token) (v : List (Option Tree) × Base) (rest : List Token) (b : Bool)
    → t.1 ≡ b → cond {A = Read (List (Option Tree) × Base)} b None (Some (t.0, us)) ≡ Some (v, rest)
    → (t ≡ (v, false)) × (us ≡ rest)
whole_found n t us v rest true h e = absurd cc
whole_found n t us v rest false h e = let is = read_is t.0 v us rest e in (ap (λ z. (t.0, z)) h ∙ ap (λ z. (z, false)) is.0, is.1)

pub type_is : (n : ℕ) → IsGrammar (type_at n) (whole n) Closes
unfolding type_at
type_is n = record {
  found = λ ts v rest e.
      let m = then_some (shared_at n ts) (λ t us. cond {A = Read (List (Option Tree) × Base)} t.1 None (Some (t.0, us))) (v, rest) e in
      let w = whole_found n m.0.0 m.0.1 v rest m.0.0.1 refl m.2 in
      let a = (shared_is n).found ts m.0.0 m.0.1 m.1 in
      (a.0, a.1 ∙ ap (λ z. a.0 ++ z) w.1, subst (λ z. typed n z (kinds a.0)) w.0 a.2);
  again = λ v front rest s may. let one = (shared_is n).again (v, false) front rest s may in rw one refl;
}

-- whether a token begins a type
abbrev pub is_type : TokenKind → Bool
is_type k = word_is (codes "sequence") k || (word_is (codes "string") k || is_plain 0 k)

-- ---- one type

pub one_only : (n : ℕ) (a b : List (Option Tree) × Base) (ks : List TokenKind) → type n a.0 a.1 false ks → type n b.0 b.1 false ks → a ≡ b
one_only n a b ks s t =
    let w = with_lines ks in
    let x = (type_is n).again a w.0 (record { kind = K.Mark (codes ","); line = 1 } ∷ []) (subst (whole n a) (sym w.1) s) refl in
    let y = (type_is n).again b w.0 (record { kind = K.Mark (codes ","); line = 1 } ∷ []) (subst (whole n b) (sym w.1) t) refl in
    (read_is a b _ _ (sym x ∙ y)).0
