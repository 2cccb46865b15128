-- The value of an expression over the whole numbers, or its first fault from the left.
use Rattle.std.specs.Prelude.{Bool, nat_lt, ℕ, ◌/◌, ◌^◌, ℤ, pos, negsuc, neg_ℤ, ◌+ℤ◌, ◌-ℤ◌, ◌*ℤ◌, int_div, int_rem, List, [], ◌∷◌, Result, Ok, Err, if◌then◌else◌}
use Rattle.std.specs.Int.{w128, int_bit_and, int_bit_or, int_bit_xor}
use Rattle.std.specs.Ordering.{int_eq}
use Rattle.std.specs.Str.{bytes_eq}
use Rattle.idl_const.specs.declared.tree.UnaryOp.{UnaryOp}
use Rattle.idl_const.specs.declared.tree.UnaryOp.TheVariants.{Minus, Plus}
use Rattle.idl_const.specs.declared.tree.BinaryOp.{BinaryOp}
use Rattle.idl_const.specs.declared.tree.BinaryOp.TheVariants.{Or, Xor, And, Left, Right, Add, Sub, Mul, Div, Rem}
use Rattle.idl_const.specs.declared.value.ConstErr.{ConstErr}
use Rattle.idl_const.specs.declared.value.ConstErr.TheVariants.{Unknown, Overflow, ZeroDivisor, Shift}
use Rattle.idl_const.specs.Exprs.{Tree, number, named, unary, binary}

-- a number, or a fault
abbrev pub Answer : Type 0
Answer = Result ℤ ConstErr

-- a number that 128 signed bits hold
abbrev pub is_held : ℤ → Bool
is_held (pos n) = nat_lt n (2 ^ 127)
is_held (negsuc n) = nat_lt n (2 ^ 127)

-- a result, or Overflow where 128 signed bits do not hold it
abbrev pub held : ℤ → Answer
held n = if is_held n then Ok n else Err Overflow

-- what an unary operator gives
abbrev pub unary_value : UnaryOp → ℤ → Answer
unary_value Minus a = held (neg_ℤ a)
unary_value Plus a = Ok a

-- the quotient, rounded down
abbrev pub rounded_down : ℤ → ℕ → ℤ
rounded_down (pos a) d = pos (a / d)
rounded_down (negsuc a) d = negsuc (a / d)

-- how many places a shift has: 0 to 63, else Shift
abbrev pub places : ℤ → Result ℕ ConstErr
places (pos s) = if nat_lt s 64 then Ok s else Err Shift
places (negsuc s) = Err Shift

-- what a shift gives, over 2 to the power of its places
abbrev pub shifted : Result ℕ ConstErr → (ℕ → Answer) → Answer
shifted (Ok s) by = by (2 ^ s)
shifted (Err e) by = Err e

-- what a division gives, or ZeroDivisor
abbrev pub divided : Answer → ℤ → Answer
divided a b = if int_eq b (pos 0) then Err ZeroDivisor else a

-- what a binary operator gives: the bits are those of the two's complement in 128 bits; a quotient is cut towards zero, and a remainder has the sign of the left operand
abbrev pub binary_value : BinaryOp → ℤ → ℤ → Answer
binary_value Or a b = Ok (int_bit_or w128 a b)
binary_value Xor a b = Ok (int_bit_xor w128 a b)
binary_value And a b = Ok (int_bit_and w128 a b)
binary_value Left a b = shifted (places b) (λ p. held (a *ℤ pos p))
binary_value Right a b = shifted (places b) (λ p. Ok (rounded_down a p))
binary_value Add a b = held (a +ℤ b)
binary_value Sub a b = held (a -ℤ b)
binary_value Mul a b = held (a *ℤ b)
binary_value Div a b = divided (held (int_div a b)) b
binary_value Rem a b = divided (Ok (int_rem a b)) b

-- the number of a name, where it is one of the constants: that of the first of this name
abbrev pub constant_of : List ℕ → List (List ℕ × ℤ) → Answer
constant_of name [] = Err Unknown
constant_of name (c ∷ cs) = if bytes_eq c.0 name then Ok c.1 else constant_of name cs

-- what follows from a number; a fault stays
abbrev pub and_then : Answer → (ℤ → Answer) → Answer
and_then (Ok n) f = f n
and_then (Err e) f = Err e

-- the value of a tree, or its first fault: the left operand's, then the right operand's, then the operator's own
abbrev pub value_of : List (List ℕ × ℤ) → Tree → Answer
value_of consts (number n) = Ok n
value_of consts (named w) = constant_of w consts
value_of consts (unary op a) = and_then (value_of consts a) (unary_value op)
value_of consts (binary op a b) = and_then (value_of consts a) (λ m. and_then (value_of consts b) (binary_value op m))
