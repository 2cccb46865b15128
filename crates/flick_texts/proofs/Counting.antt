-- What is counted of messages, one after the other.
use Rattle.std.proofs.Common.{◌≡◌, ℕ, zero, suc, ◌+◌, ◌-◌, ◌*◌, ◌%◌, ◌<◌, ◌≤◌, inl, inr, Bool, true, false, cond, List, [], ◌∷◌, ◌++◌, length, refl, sym, ap, ◌∙◌, subst, add-one, arith, lt-ltb, le-ltb}
use Rattle.std.specs.Prelude.{if◌then◌else◌}
use Rattle.std.proofs.lemmas.List.{length-append, append-nil}
use Rattle.kit_base.specs.Limits.{longest_message}
use Rattle.flick_texts.specs.declared.sums.Sums.{Sums}
use Rattle.flick_texts.specs.Counted.{messages_from, is_long, count_long, octets_of, folded_with, folded, IsMade, Counts, Counted}
use Rattle.std.proofs.lemmas.Bool.{cases_lt}

-- the first of the messages that are left
pub first_left : (message_of : ℕ → List ℕ) (i many : ℕ) → i < many
    → messages_from message_of i (many - i) ≡ message_of i ∷ messages_from message_of (suc i) (many - suc i)
first_left message_of i many h =
    let left : many - i ≡ suc (many - suc i) = omega arith in
    ap (messages_from message_of i) left

-- how many messages there are
pub so_many : (message_of : ℕ → List ℕ) (i n : ℕ) → length (messages_from message_of i n) ≡ n
so_many message_of i zero = refl
so_many message_of i (suc n) = ap suc (so_many message_of (suc i) n)

pub folded-append : (f : ℕ) (xs ys : List ℕ) → folded f (xs ++ ys) ≡ folded (folded f xs) ys
folded-append f [] ys = refl
folded-append f (x ∷ xs) ys = folded-append (folded_with f x) xs ys

-- a fold, as the number goes round twice
pub folded_with_is : (f o : ℕ) → (f * 31 % 4294967296 + o) % 4294967296 ≡ folded_with f o
unfolding folded_with
folded_with_is f o = omega arith

-- ---- one message

long_is : (m : List ℕ) → longest_message < length m → is_long m ≡ true
long_is m h = lt-ltb longest_message (length m) h

short_is : (m : List ℕ) → length m ≤ longest_message → is_long m ≡ false
short_is m h = le-ltb longest_message (length m) h

octets_short : (m : List ℕ) → length m ≤ longest_message → octets_of (m ∷ []) ≡ m
octets_short m h = ap (λ b. cond b [] m ++ []) (short_is m h) ∙ append-nil m

octets_long : (m : List ℕ) → longest_message < length m → octets_of (m ∷ []) ≡ []
octets_long m h = ap (λ b. cond b [] m ++ []) (long_is m h)

none_more : (old new : ℕ) → new ≡ old → new ≡ old + 0
none_more old new h = omega arith

-- a message that is within the limit is counted
pub counted_within : (m done : List ℕ) (old new : Sums) → IsMade true m done → new.long ≡ old.long
    → new.octets ≡ old.octets + length done → new.fold ≡ folded old.fold done → Counted m old new
counted_within m done old new made long octets fold =
    let short = octets_short m made.1 in
    record {
      long = none_more old.long new.long long ∙ ap (λ b. old.long + cond b 1 0) (sym (short_is m made.1));
      octets = octets ∙ ap (λ z. old.octets + length z) (made.0 ∙ sym short);
      fold = fold ∙ ap (folded old.fold) (made.0 ∙ sym short);
    }

-- one above the limit is counted
pub counted_long : (m done : List ℕ) (old new : Sums) → IsMade false m done → new.long ≡ old.long + 1
    → new.octets ≡ old.octets → new.fold ≡ old.fold → Counted m old new
counted_long m done old new made long octets fold =
    let none = octets_long m made.1 in
    record {
      long = long ∙ ap (λ b. old.long + cond b 1 0) (sym (long_is m made.1));
      octets = octets ∙ sym (ap (λ z. old.octets + length z) none ∙ omega arith);
      fold = fold ∙ ap (folded old.fold) (sym none);
    }

-- ---- messages one after the other

-- the octets of a message before those of others
octets_cut : (m : List ℕ) (ms : List (List ℕ)) → octets_of (m ∷ ms) ≡ octets_of (m ∷ []) ++ octets_of ms
octets_cut m ms = ap (λ z. z ++ octets_of ms) (sym (append-nil (if is_long m then [] else m)))

pub counts_more : (m : List ℕ) (left all : List (List ℕ)) (old new : Sums) → Counted m old new → Counts old (m ∷ left) all
    → Counts new left all
counts_more m left all old new one h =
    let cut = octets_cut m left in
    let long_one = one.long in
    let long_all = h.long in
    let octets_one = one.octets in
    let octets_all = ap (λ z. old.octets + length z) (sym cut) ∙ h.octets in
    let lengths = length-append (octets_of (m ∷ [])) (octets_of left) in
    record {
      long = omega (arith, long_one, long_all);
      octets = omega (arith, octets_one, octets_all, lengths);
      fold = ap (λ f. folded f (octets_of left)) one.fold ∙ sym (folded-append old.fold (octets_of (m ∷ [])) (octets_of left))
          ∙ ap (folded old.fold) (sym cut) ∙ h.fold;
    }

-- a message has few octets that are counted
pub few_octets : (m : List ℕ) → length (octets_of (m ∷ [])) ≤ longest_message
few_octets m = elim (cases_lt longest_message (length m)) [
  | inl l ↦ rw (octets_long m l) (omega arith)
  | inr g ↦ rw (octets_short m g) g
]

-- a message that is there, as a call tells it
pub made_as : (b reported : Bool) (m done octets : List ℕ) → reported ≡ b → octets ≡ done → IsMade b m done → IsMade reported m octets
made_as b reported m done octets reported_is octets_are made =
    subst (λ z. IsMade reported m z) (sym octets_are) (subst (λ (t : Bool). IsMade t m done) (sym reported_is) made)

-- what is there of a message is not long
pub made_few : (b : Bool) (m done : List ℕ) → IsMade b m done → length done ≤ longest_message
made_few true m done made = let same = ap length made.0 in let few = made.1 in omega arith
made_few false m done made = let same : length done ≡ 0 = ap length made.0 in omega arith

-- the sums after some of the messages, and the messages that are left
pub record AreCounted (message_of : ℕ → List ℕ) (many i : ℕ) (s : Sums) : Type 0 where
  pub counts : Counts s (messages_from message_of i (many - i)) (messages_from message_of 0 many)
  pub long : s.long ≤ i
  pub octets : s.octets ≤ longest_message * i

nothing_more : (n m : ℕ) → n ≡ 0 → n + m ≡ m
nothing_more n m h = omega arith

pub none_counted : (message_of : ℕ → List ℕ) (many : ℕ) (s : Sums) → s.long ≡ 0 → s.octets ≡ 0 → s.fold ≡ 0
    → AreCounted message_of many 0 s
none_counted message_of many s long octets fold =
    let same : many - 0 ≡ many = omega arith in
    let all = messages_from message_of 0 many in
    record {
      counts = subst (λ n. Counts s (messages_from message_of 0 n) all) (sym same) (record {
        long = nothing_more s.long (count_long all) long;
        octets = nothing_more s.octets (length (octets_of all)) octets;
        fold = ap (λ f. folded f (octets_of all)) fold;
      });
      long = omega arith;
      octets = omega arith;
    }

one_at_most : (b : Bool) → (if b then 1 else 0) ≤ 1
one_at_most true = omega arith
one_at_most false = omega arith

-- one message more
pub one_counted : (message_of : ℕ → List ℕ) (many i : ℕ) (old new : Sums) → i < many → Counted (message_of i) old new
    → AreCounted message_of many i old
    → AreCounted message_of many (i + 1) new
one_counted message_of many i old new h one inv =
    let all = messages_from message_of 0 many in
    let left = subst (λ l. Counts old l all) (first_left message_of i many h) inv.counts in
    let more = counts_more (message_of i) (messages_from message_of (suc i) (many - suc i)) all old new one left in
    let few = few_octets (message_of i) in
    let at_most = one_at_most (is_long (message_of i)) in
    let long_one = one.long in
    let octets_one = one.octets in
    let long_so = inv.long in
    let octets_so = inv.octets in
    record {
      counts = rw add-one more;
      long = omega arith;
      octets = omega arith;
    }

-- no message is left
pub all_counted : (message_of : ℕ → List ℕ) (many i : ℕ) (s : Sums) → many ≤ i → AreCounted message_of many i s
    → Counts s [] (messages_from message_of 0 many)
all_counted message_of many i s h inv =
    let none : many - i ≡ 0 = omega arith in
    subst (λ n. Counts s (messages_from message_of i n) (messages_from message_of 0 many)) none inv.counts
