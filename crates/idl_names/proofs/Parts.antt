-- What is known of the parts of an answer.
use Rattle.std.proofs.Common.{◌≡◌, ℕ, Bool, true, false, refl}
use Rattle.std.specs.Prelude.{Ok, Err}
use Rattle.aoi.specs.declared.faults.NameFault.{NameFault}
use Rattle.idl_names.specs.Answers.{Answer, and_then, refused}

-- the prefix is given, and the rest follows from it
pub record Then {A B : Type 0} (a : Answer A) (f : A → Answer B) (b : B) : Type 0 where
  pub given : A
  pub first : a ≡ Ok given
  pub rest : f given ≡ Ok b

pub then_ok : {A B : Type 0} (a : Answer A) (f : A → Answer B) (b : B) → and_then a f ≡ Ok b → Then a f b
then_ok (Ok x) f b h = record { given = x; first = refl; rest = h }
then_ok (Err e) f b h = absurd cc

pub refused_ok : (f : NameFault) (d : ℕ) (c : Bool) (x : Unit {0}) → refused f d c ≡ Ok x → c ≡ false
refused_ok f d true x h = absurd cc
refused_ok f d false x h = refl

abbrev given_is : {A : Type 0} → A → Answer A
given_is a = Ok a

or_else : {A : Type 0} → A → Answer A → A
or_else x (Ok a) = a
or_else x (Err e) = x

pub ok_same : {A : Type 0} (a b : A) → given_is a ≡ given_is b → a ≡ b
ok_same a b h = cc h
