-- What an end of a bridge reads, pairs and writes, by what its engines answer.
use Rattle.std.proofs.Common.{◌≡◌, ◌<◌, ◌≤◌, ℕ, List, length, Option, Some, None, Ok, Err, sym, ap, ◌∙◌, subst}
use Rattle.kit_base.specs.Limits.{longest_message}
use Rattle.mint.specs.Typed.{IsWellTyped}
use Rattle.mint.specs.Values.{Val, seen}
use Rattle.wire_def.specs.declared.encoding.Back.{Back}
use Rattle.wire_def.specs.declared.head.Head.{Head}
use Rattle.pres.specs.Bindings.{Binding}
use Rattle.pres_pairs.specs.Pairs.{pair_of}
use Rattle.flick_engine.specs.declared.errors.MessageErr.{MessageErr}
use Rattle.flick_engine.specs.declared.errors.MessageErr.TheVariants as err
use Rattle.flick_engine.specs.declared.requests.Request.{Request}
use Rattle.flick_engine.specs.Messages.{request_type}
use Rattle.flick_engine.specs.Received.{Answers}
use Rattle.flick_lines.proofs.Written.{call-read, call-refused}
use Rattle.flick_bridge.specs.Heads.{number_in, head_at}
use Rattle.flick_bridge.specs.Bridged.{Bridging, IsBridging, asks, declines, with_head, paired, told}
use Rattle.flick_bridge.proofs.Passing.{are_paired, other_below, other_typed}

-- ---- what is read

-- what was read of octets asks this
pub read_asks : (s t : Bridging) (o octets : List ℕ) (r : Request) → t ≡ s → octets ≡ o → Answers t.from.binding octets (Ok r)
    → asks s o r.op r.head (seen r.value)
read_asks s t o octets r same is answers =
    subst (λ (x : Bridging). asks x o r.op r.head (seen r.value)) same
    (subst (λ (m : List ℕ). asks t m r.op r.head (seen r.value)) is (call-read t.from.binding octets r answers))

-- what was refused is declined for that
pub read_declines : (s t : Bridging) (o octets : List ℕ) (e x : MessageErr) → t ≡ s → octets ≡ o → Answers t.from.binding octets (Err e)
    → (e ≡ err.NoMemory → ⊥) → x ≡ e → declines s o x
read_declines s t o octets e x same is answers other reported =
    subst (λ (z : MessageErr). declines s o z) (sym reported)
    (subst (λ (z : Bridging). declines z o e) same
    (subst (λ (m : List ℕ). declines t m e) is (call-refused t.from.binding octets e answers other)))

-- ---- what is paired

-- the pair over these bindings
abbrev paired_over : Binding → Binding → ℕ → Head → Option (ℕ × Head)
paired_over b c op head = with_head c (number_in b.back head) (pair_of b c op)

paired_as : (s t : Bridging) (b c : Binding) (op : ℕ) (head : Head) → t ≡ s → b ≡ t.from.binding → c ≡ t.to.binding
    → paired_over b c op head ≡ paired s op head
paired_as s t b c op head same one other =
    ap (λ (x : Binding). paired_over x c op head) one
    ∙ ap (λ (x : Binding). paired_over t.from.binding x op head) other
    ∙ ap (λ (x : Bridging). paired x op head) same

pub some_paired : (s t : Bridging) (b c : Binding) (op other n : ℕ) (k : Back) (head its : Head) → t ≡ s → b ≡ t.from.binding
    → c ≡ t.to.binding → pair_of b c op ≡ Some other → k ≡ b.back → n ≡ number_in k head → its ≡ head_at c other n
    → Some (other, its) ≡ paired s op head
some_paired s t b c op other n k head its same one two there back number is =
    ap (λ (h : Head). Some (other, h)) is
    ∙ ap (with_head c n) (sym there)
    ∙ ap (λ (m : ℕ). with_head c m (pair_of b c op)) (number ∙ ap (λ (x : Back). number_in x head) back)
    ∙ paired_as s t b c op head same one two

pub none_paired : (s t : Bridging) (b c : Binding) (op : ℕ) (head : Head) → t ≡ s → b ≡ t.from.binding → c ≡ t.to.binding
    → pair_of b c op ≡ None → None ≡ paired s op head
none_paired s t b c op head same one two none =
    ap (with_head c (number_in b.back head)) (sym none) ∙ paired_as s t b c op head same one two

-- ---- what is written

-- a request is paired with this operation and this head, and has this value
abbrev pub IsToWrite : Bridging → ℕ → Head → Val → Type 0
IsToWrite s op head v = (octets : List ℕ) × (o : ℕ) × (h : Head) × asks s octets o h v × (paired s o h ≡ Some (op, head))

there_below : (s : Bridging) → IsBridging s → (op : ℕ) (head : Head) (v : Val) → IsToWrite s op head v → op < length s.to.binding.ops
there_below s stands op head v (octets, o, h, asked, e) = other_below s o op (are_paired s stands o h op head e)

there_typed : (s : Bridging) → IsBridging s → (op : ℕ) (head : Head) (v : Val) → IsToWrite s op head v
    → IsWellTyped (request_type s.to.binding op) v
there_typed s stands op head v (octets, o, h, asked, e) = other_typed s stands octets o h v op head asked e

pub written_below : (s t : Bridging) → t ≡ s → IsBridging t → (op : ℕ) (head : Head) (v : Val) → IsToWrite s op head v
    → op < length t.to.binding.ops
written_below s t same stands op head v h =
    there_below t stands op head v (subst (λ (x : Bridging). IsToWrite x op head v) (sym same) h)

pub written_typed : (s t : Bridging) → t ≡ s → IsBridging t → (op : ℕ) (head : Head) (v : Val) → IsToWrite s op head v
    → IsWellTyped (request_type t.to.binding op) v
written_typed s t same stands op head v h =
    there_typed t stands op head v (subst (λ (x : Bridging). IsToWrite x op head v) (sym same) h)

pub written_told : (s t : Bridging) (op : ℕ) (head : Head) (v : Val) (m octets done : List ℕ) → t ≡ s → m ≡ octets → octets ≡ done
    → done ≡ told t op head v → m ≡ told s op head v
written_told s t op head v m octets done same is of made = is ∙ of ∙ made ∙ ap (λ (x : Bridging). told x op head v) same

pub short_told : (t : Bridging) (op : ℕ) (head : Head) (v : Val) (m octets done : List ℕ) → m ≡ octets → octets ≡ done
    → done ≡ told t op head v → length (told t op head v) ≤ longest_message → length m ≤ longest_message
short_told t op head v m octets done is of made short =
    subst (λ (o : List ℕ). length o ≤ longest_message) (sym (is ∙ of ∙ made)) short

pub long_told : (s t : Bridging) (op : ℕ) (head : Head) (v : Val) → t ≡ s → longest_message < length (told t op head v)
    → longest_message < length (told s op head v)
long_told s t op head v same long = subst (λ (x : Bridging). longest_message < length (told x op head v)) same long
