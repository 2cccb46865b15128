-- What a message is, is determined, since it is what reading from left to right gives.
use Rattle.std.proofs.Common.{◌≡◌, ◌+◌, ◌<◌, ℕ, List, [], ◌∷◌, ◌++◌, Option, Some, None, Result, Ok, Err, length, take, drop, refl, ap, sym, ◌∙◌, arith, append-nil, subst}
use Rattle.std.proofs.lemmas.List.{length-drop, length-take, take-append-drop}
use Rattle.kit_base.specs.Limits.{longest_message}
use Rattle.mint.specs.Types.{Ty}
use Rattle.mint.specs.Values.{Val}
use Rattle.wire_def.specs.declared.encoding.Encoding.{Encoding}
use Rattle.wire_def.specs.declared.fault.FaultKind.{FaultKind}
use Rattle.wire_def.specs.declared.fault.HeadErr.{HeadErr}
use Rattle.wire_def.specs.Grammar.{Reading, got, stop}
use Rattle.wire_def.specs.Reading.{read}
use Rattle.wire_def.specs.Spells.{IsSpelling}
use Rattle.wire_def.proofs.Encodings.{grammar}
use Rattle.plain_wire.specs.Answered.{FirstSpell}
use Rattle.head_kit.specs.declared.call_head.CallHead.{CallHead}
use Rattle.head_kit.specs.declared.call_head.CallTarget.{CallTarget}
use Rattle.head_kit.specs.declared.call_head.CallTarget.TheVariants as naming
use Rattle.pres.specs.Bindings.{Binding}
use Rattle.flick_engine.specs.declared.errors.MessageErr.{MessageErr}
use Rattle.flick_engine.specs.declared.errors.MessageErr.TheVariants as err
use Rattle.flick_engine.specs.Backs.{Begins, Stops}
use Rattle.flick_engine.specs.Messages.{request_type}
use Rattle.flick_engine.specs.Received.{Asked, IsShort, Names, ReadCall, IsExactly}
use Rattle.flick_engine.proofs.HeadsOfBacks.{one_head}

-- ---- what is found first: too many octets, a head, or its fault

abbrev Found : Type 0
Found = Option (Result CallHead HeadErr)

abbrev IsFound : Binding → List ℕ → Found → Type 0
IsFound b o None = longest_message < length o
IsFound b o (Some (Err e)) = IsShort o × Stops b.back o e
IsFound b o (Some (Ok c)) = IsShort o × Begins b o c

one_found : (b : Binding) (o : List ℕ) (f g : Found) → IsFound b o f → IsFound b o g → f ≡ g
one_found b o None None p q = refl
one_found b o None (Some (Err e)) p q = absurd (omega (arith, p, q.0))
one_found b o None (Some (Ok c)) p q = absurd (omega (arith, p, q.0))
one_found b o (Some (Err d)) None p q = absurd (omega (arith, q, p.0))
one_found b o (Some (Err d)) (Some (Err e)) p q = ap (λ (x : HeadErr). Some (Err x)) ((one_head b o).one_fault d e p.1 q.1)
one_found b o (Some (Err d)) (Some (Ok c)) p q = absurd ((one_head b o).not_both c d q.1 p.1)
one_found b o (Some (Ok c)) None p q = absurd (omega (arith, q, p.0))
one_found b o (Some (Ok c)) (Some (Err e)) p q = absurd ((one_head b o).not_both c e p.1 q.1)
one_found b o (Some (Ok c)) (Some (Ok d)) p q = ap (λ (x : CallHead). Some (Ok x)) ((one_head b o).one_head c d p.1 q.1)

-- ---- what that makes of the message

-- what the body that was read makes of a call of an operation
abbrev after_body : CallHead → ℕ → Reading FaultKind Val → Result Asked MessageErr
after_body c op (stop k at) = Err (err.Body (record { kind = k; at = at }))
after_body c op (got v q []) = Ok (record { op = op; head = c.head; value = v })
after_body c op (got v q (x ∷ rest)) = Err (err.Trailing q)

-- what the octets after the head make of a call that names this
abbrev after_name : Binding → CallHead → List ℕ → CallTarget → Result Asked MessageErr
after_name b c o naming.NoInterface = Err err.NoInterface
after_name b c o naming.NoOperation = Err err.NoOperation
after_name b c o (naming.Operation op) = after_body c op (read c.encoding (request_type b op) c.used o)

abbrev after : Binding → List ℕ → Found → Result Asked MessageErr
after b o None = Err err.Long
after b o (Some (Err e)) = Err (err.Head e)
after b o (Some (Ok c)) = after_name b c (drop c.used o) c.naming

-- ---- each answer is what is made of what is found

abbrev IsMadeOf : Binding → List ℕ → Result Asked MessageErr → Type 0
IsMadeOf b o x = (f : Found) × IsFound b o f × (x ≡ after b o f)

when_named : (b : Binding) (o : List ℕ) (c : CallHead) (n : CallTarget) (x : Result Asked MessageErr) → Names b o c n
    → after_name b c (drop c.used o) n ≡ x → IsMadeOf b o x
when_named b o c n x (short, begins, is) e = (Some (Ok c), (short, begins), sym e ∙ ap (after_name b c (drop c.used o)) (sym is))

when_called : (b : Binding) (o : List ℕ) (c : CallHead) (op : ℕ) (r : Reading FaultKind Val) (x : Result Asked MessageErr)
    → Names b o c (naming.Operation op)
    → read c.encoding (request_type b op) c.used (drop c.used o) ≡ r → after_body c op r ≡ x → IsMadeOf b o x
when_called b o c op r x names is e = when_named b o c (naming.Operation op) x names (ap (after_body c op) is ∙ e)

-- the first octets are read as the value that they spell
pub first_read : (n : Encoding) (t : Ty) (p : ℕ) (o : List ℕ) (v : Val) (used : ℕ) → FirstSpell n t p o v used → read n t p o
    ≡ got v (p + used) (drop used o)
first_read n t p o v used h =
    let long : length (take used o) ≡ used = omega (arith, length-take used o, h.there) in
    let whole : take used o ++ drop used o ≡ o = take-append-drop used o in
    let there = (grammar n t).reads p (take used o) (drop used o) v h.spelled.octets in
    rw (whole, long) at there

-- the octets are read as the value that they spell
pub whole_read : (n : Encoding) (t : Ty) (p : ℕ) (o : List ℕ) (v : Val) → IsSpelling n t p o v → read n t p o ≡ got v (p + length o) []
whole_read n t p o v h = rw append-nil at ((grammar n t).reads p o [] v h.octets)

trailing : (c : CallHead) (op : ℕ) (v : Val) (q : ℕ) (rest : List ℕ) → 0 < length rest
    → after_body c op (got v q rest) ≡ Err (err.Trailing q)
trailing c op v q [] h = absurd (omega arith)
trailing c op v q (x ∷ rest) h = refl

when_read : (b : Binding) (o : List ℕ) (x : Result Asked MessageErr) → ReadCall b o x → IsMadeOf b o x
when_read b o (Err err.Long) h = (None, h, refl)
when_read b o (Err (err.Head e)) h = (Some (Err e), h, refl)
when_read b o (Err err.NoInterface) (c, names) = when_named b o c naming.NoInterface _ names refl
when_read b o (Err err.NoOperation) (c, names) = when_named b o c naming.NoOperation _ names refl
when_read b o (Err (err.Body f)) (c, op, names, stops) =
    when_called b o c op _ _ names ((grammar c.encoding (request_type b op)).stops c.used (drop c.used o) f.kind f.at stops) refl
when_read b o (Err (err.Trailing at)) (c, op, names, (v, used, spells, is, more)) =
    let left : 0 < length (drop used (drop c.used o)) = omega (arith, length-drop c.used o, length-drop used (drop c.used o), is, more) in
    when_called b o c op _ _ names (first_read c.encoding (request_type b op) c.used (drop c.used o) v used spells)
    (trailing c op v (c.used + used) (drop used (drop c.used o)) left ∙ ap (λ n. Err (err.Trailing n)) (sym is))
when_read b o (Err err.NoMemory) h = absurd h
when_read b o (Ok r) (c, op, names, (is, head, spells)) =
    when_called b o c op _ _ names (whole_read c.encoding (request_type b op) c.used (drop c.used o) r.value spells)
    (rw (← is, ← head) refl)

-- ---- so it is determined

pub determined : (b : Binding) (o : List ℕ) (x y : Result Asked MessageErr) → ReadCall b o x → ReadCall b o y → x ≡ y
determined b o x y h g =
    let (f, p, e) = when_read b o x h in
    let (k, q, d) = when_read b o y g in
    e ∙ ap (after b o) (one_found b o f k p q) ∙ sym d

pub exactly : (b : Binding) (o : List ℕ) (x : Result Asked MessageErr) → ReadCall b o x → IsExactly b o x
exactly b o x h y = ((λ e. subst (ReadCall b o) e h), determined b o x y h)
