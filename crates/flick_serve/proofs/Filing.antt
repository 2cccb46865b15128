-- What a line and a file give, by what was read of them.
use Rattle.std.proofs.Common.{◌≡◌, ℕ, zero, suc, List, ◌∷◌, length, replicate, Ok, Err, Option, Some, None, refl, sym, ap, ◌∙◌, subst, false}
use Rattle.std.specs.Prelude.{◌==◌, IfSome}
use Rattle.std.proofs.lemmas.Bool.{eqb-false}
use Rattle.mint.specs.declared.value.Value.{Value}
use Rattle.mint.specs.Values.{Val, seen}
use Rattle.pres.specs.Bindings.{Binding}
use Rattle.json_shape.specs.declared.records.RequestRec.{RequestRec}
use Rattle.skeleton.specs.TableSkeleton.{Places}
use Rattle.flick_serve.specs.declared.given.WrongLine.{WrongLine}
use Rattle.flick_serve.specs.Given.{IsGiven, Given, Give, lines_of, FileGives, given_in, given_by, unless_wrong, Finds, IsFitting}
use Rattle.flick_serve.proofs.Taking.{IsFull}

-- ---- lines

pub not_empty : (line : List ℕ) → false ≡ (length line == 0) → IsFull line
not_empty line e zero_long = eqb-false (length line) 0 (sym e) zero_long

-- the record that was found
pub found_one : (b : Binding) (line : List ℕ) (o : Option RequestRec) (r : RequestRec) → o ≡ Some r → Finds (IsGiven b line) o
    → IsGiven b line r.op (seen r.value)
found_one b line o r is found = subst (λ (x : Option RequestRec). Finds (IsGiven b line) x) is found

pub fitting_one : (b : Binding) (o : Option RequestRec) (r : RequestRec) → o ≡ Some r → IfSome o (IsFitting b) → IsFitting b r
fitting_one b o r is fits = subst (λ (x : Option RequestRec). IfSome x (IsFitting b)) is fits

-- ---- files

abbrev no_value : Option Value
no_value = None

abbrev nothing : Option Val
nothing = None

none_in : (n : ℕ) → given_in (replicate n no_value) ≡ replicate n nothing
none_in zero = refl
none_in (suc n) = ap (λ (g : Given). nothing ∷ g) (none_in n)

-- a new table has the replies before the first line
pub starts : (b : Binding) (n : ℕ) (places : Places) → n ≡ length b.ops → places ≡ replicate n no_value
    → given_in places ≡ replicate (length b.ops) nothing
starts b n places many is = ap given_in is ∙ none_in n ∙ ap (λ k. replicate k nothing) many

module _ (b : Binding) (text : List ℕ) (places new : Places) (first : given_in places ≡ replicate (length b.ops) nothing)
    (wrong : Option WrongLine) (read : Give b 1 (given_in places) (lines_of text) (given_by (unless_wrong wrong new))) where
  from_first : FileGives b text (given_by (unless_wrong wrong new))
  from_first = subst (λ (g : Given). Give b 1 g (lines_of text) (given_by (unless_wrong wrong new))) first read

  -- no line is wrong
  pub file_read : wrong ≡ None → FileGives b text (Ok (given_in new))
  file_read is = subst (λ (w : Option WrongLine). FileGives b text (given_by (unless_wrong w new))) is from_first

  -- a line is
  pub file_wrong : (line : WrongLine) → wrong ≡ Some line → FileGives b text (Err line.0)
  file_wrong line is = subst (λ (w : Option WrongLine). FileGives b text (given_by (unless_wrong w new))) is from_first
