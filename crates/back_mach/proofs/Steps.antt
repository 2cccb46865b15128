-- A header that is read, and is not the one that is wanted, and what follows a return code.
use Rattle.std.proofs.Common.{◌≡◌, ◌+◌, ℕ, zero, suc, List, refl}
use Rattle.std.proofs.lemmas.Bool.{ne_eqb}
use Rattle.wire_def.specs.declared.fault.HeadErr.TheVariants.{Size, Type_}
use Rattle.wire_def.specs.Grammar.{got, stop}
use Rattle.back_mach.specs.declared.header.MachHeader.{MachHeader}
use Rattle.back_mach.specs.Header.{read_simple, read_header}
use Rattle.back_mach.specs.Reply.{read_own, read_number, read_after}

-- one of another size
pub other_size : (n p : ℕ) (o : List ℕ) (h : MachHeader) (q : ℕ) (rest : List ℕ) → read_simple p o ≡ got h q rest → (h.size ≡ n → ⊥)
    → read_header n p o ≡ stop Size (p + 4)
unfolding read_header
other_size n p o h q rest is other = rw (is, ne_eqb h.size n other) refl

-- one with another id
pub other_id : (id n p : ℕ) (o : List ℕ) (h : MachHeader) (q : ℕ) (rest : List ℕ) → read_header n p o ≡ got h q rest → (h.id ≡ id → ⊥)
    → read_own id n p o ≡ stop Type_ (p + 20)
unfolding read_own
other_id id n p o h q rest is other = rw (is, ne_eqb h.id id other) refl

-- ---- what follows a return code

-- behind a code other than 0, nothing
pub after_code : (arms m p : ℕ) (o : List ℕ) → (m ≡ 0 → ⊥) → read_after arms m p o ≡ got 0 p o
unfolding read_after
after_code arms zero p o some = absurd (some refl)
after_code arms (suc m) p o some = refl

-- and none where nothing is raised
pub after_none : (arms m p : ℕ) (o : List ℕ) → arms ≡ 0 → read_after arms m p o ≡ got 0 p o
unfolding read_after
after_none zero zero p o none = refl
after_none zero (suc m) p o none = refl
after_none (suc n) m p o none = absurd cc

-- behind code 0, the number of an arm where exceptions are raised
pub after_zero : (arms m p : ℕ) (o : List ℕ) → m ≡ 0 → (arms ≡ 0 → ⊥) → read_after arms m p o ≡ read_number arms p o
unfolding read_after
after_zero zero m p o is some = absurd (some refl)
after_zero (suc n) zero p o is some = refl
after_zero (suc n) (suc m) p o is some = absurd cc

pub ruleset after = (after_code, after_none, after_zero)
