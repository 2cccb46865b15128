-- What follows for an answer, if there is one.
use Rattle.std.proofs.Common.{Result, Ok, Err}
use Rattle.std.specs.Prelude.{IfOk, OnOk}

pub if-ok : {X E : Type 0} (x : Result X E) (P Q : X → Type 0) → ((a : X) → Q a → P a) → IfOk x Q → IfOk x P
if-ok (Ok a) P Q f h = f a h
if-ok (Err e) P Q f h = h

-- the same, where more is known if there is one
pub if-ok-and : {X E : Type 0} (x : Result X E) (P Q : X → Type 0) (R : Type 0) → (R → (a : X) → Q a → P a) → IfOk x Q → OnOk x R → IfOk x P
if-ok-and (Ok a) P Q R f h r = f r a h
if-ok-and (Err e) P Q R f h r = h

-- the same of what does not speak of the answer
pub on-ok : {X E : Type 0} (x : Result X E) (P Q : Type 0) → (Q → P) → OnOk x Q → OnOk x P
on-ok (Ok a) P Q f h = f h
on-ok (Err e) P Q f h = h
