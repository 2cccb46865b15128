-- The lines of puts are read as the puts that they are printed from, by induction on the puts.
use Rattle.std.proofs.Common.{◌≡◌, ℕ, zero, suc, ◌+◌, ◌<◌, ◌≤◌, List, [], ◌∷◌, ◌++◌, length, drop, Some, refl, ap, arith, codes, length-append}
use Rattle.wire_def.specs.declared.head.Order.{Order}
use Rattle.cast_stub.specs.declared.put.HeadField.{HeadField}
use Rattle.cast_stub.specs.declared.put.HeadField.TheVariants.{Id, Remote, Local}
use Rattle.cast_stub.specs.declared.put.Put.{Put}
use Rattle.cast_stub.specs.declared.put.Put.TheVariants as put
use Rattle.stub_print.specs.Words.{numeral, path_word, order_word, hex, words, line, ended}
use Rattle.stub_print.specs.SendText.{field_word, put_words, puts_text}
use Rattle.stub_read.specs.declared.leads.PutLead.{PutLead}
use Rattle.stub_read.specs.declared.leads.PutLead.TheVariants as puts
use Rattle.stub_read.specs.Reading.{Reader, then_on, map_read, word_at, both, mapped, before, repeat}
use Rattle.stub_read.specs.Words.{space, feed, number_at, path_at, order_at, octets_at}
use Rattle.stub_read.specs.Leads.{put_lead_at}
use Rattle.stub_read.specs.Operations.{layout_at, scalar_at, count_at, short_at, field_at, num_of, tag_of, flag_of, count_of, short_of, head_of, stored_at, put_at, end_line, bare_puts_at, puts_at}
use Rattle.stub_read.specs.Stubs.{IsWord, AreWords, PutIsSmall, PutsAreSmall}
use Rattle.stub_read.proofs.Loops.{ends_none, one_more, then_reads}
use Rattle.stub_read.proofs.Leaves.{number_spaced, number_ended, path_spaced, order_ended, octets_ended}

-- ---- one after another

pub both_reads : {A B : Type 0} (r : Reader A) (s : Reader B) (t us vs : List ℕ) (a : A) (b : B) → r t ≡ Some (a, us) → s us ≡ Some
    (b, vs)
    → both r s t ≡ Some ((a, b), vs)
both_reads r s t us vs a b e f = rw (e, f) refl

pub mapped_reads : {A B : Type 0} (f : A → B) (r : Reader A) (t us : List ℕ) (a : A) → r t ≡ Some (a, us) → mapped f r t ≡ Some (f a, us)
mapped_reads f r t us a e = ap (map_read f) e

pub before_reads : {A : Type 0} (r : Reader A) (w t us vs : List ℕ) (a : A) → r t ≡ Some (a, us) → word_at w us ≡ Some (tt, vs)
    → before r w t ≡ Some (a, vs)
before_reads r w t us vs a e f = rw (e, f) refl

-- ---- a put

-- what is after a word of a line
abbrev pub spaced_on : List ℕ → List ℕ → List ℕ
spaced_on w t = w ++ 32 ∷ t

abbrev pub ended_on : List ℕ → List ℕ → List ℕ
ended_on w t = w ++ 10 ∷ t

pub layout_reads : (w : ℕ) (o : Order) (t : List ℕ) → IsWord w
    → layout_at (spaced_on (numeral w) (ended_on (order_word o) t)) ≡ Some ((w, o), t)
layout_reads w o t h =
    both_reads (number_at space) order_at (spaced_on (numeral w) (ended_on (order_word o) t)) (ended_on (order_word o) t) t w o
    (number_spaced w (ended_on (order_word o) t) h) (order_ended o t)

scalar_reads : (p : List ℕ) (w : ℕ) (o : Order) (t : List ℕ) → AreWords p → IsWord w
    → scalar_at (spaced_on (path_word p) (spaced_on (numeral w) (ended_on (order_word o) t))) ≡ Some ((p, (w, o)), t)
scalar_reads p w o t h k =
    both_reads (path_at space) layout_at (spaced_on (path_word p) (spaced_on (numeral w) (ended_on (order_word o) t)))
    (spaced_on (numeral w) (ended_on (order_word o) t)) t p (w, o)
    (path_spaced p (spaced_on (numeral w) (ended_on (order_word o) t)) h) (layout_reads w o t k)

count_reads : (p : List ℕ) (m a w : ℕ) (o : Order) (t : List ℕ) → AreWords p → IsWord m → IsWord a → IsWord w
    → count_at (spaced_on (path_word p) (spaced_on (numeral m) (spaced_on (numeral a) (spaced_on (numeral w) (ended_on
    (order_word o) t)))))
    ≡ Some ((p, (m, (a, (w, o)))), t)
count_reads p m a w o t h i j k =
    let last = spaced_on (numeral w) (ended_on (order_word o) t) in
    both_reads (path_at space) (both (number_at space) (both (number_at space) layout_at))
    (spaced_on (path_word p) (spaced_on (numeral m) (spaced_on (numeral a) last)))
    (spaced_on (numeral m) (spaced_on (numeral a) last)) t p (m, (a, (w, o))) (path_spaced p (spaced_on (numeral m) (spaced_on
    (numeral a) last)) h)
    (both_reads (number_at space) (both (number_at space) layout_at) (spaced_on (numeral m) (spaced_on (numeral a) last))
    (spaced_on (numeral a) last) t m (a, (w, o))
    (number_spaced m (spaced_on (numeral a) last) i)
    (both_reads (number_at space) layout_at (spaced_on (numeral a) last) last t a (w, o) (number_spaced a last j) (layout_reads w o t k)))

short_reads : (p : List ℕ) (n s m : ℕ) (t : List ℕ) → AreWords p → IsWord n → IsWord s → IsWord m
    → short_at (spaced_on (path_word p) (spaced_on (numeral n) (spaced_on (numeral s) (ended_on (numeral m) t)))) ≡ Some (
      (
        p,
        (
          n,
          (s, m),
        ),
      ),
      t,
    )
short_reads p n s m t h i j k =
    let last = ended_on (numeral m) t in
    both_reads (path_at space) (both (number_at space) (both (number_at space) (number_at feed)))
    (spaced_on (path_word p) (spaced_on (numeral n) (spaced_on (numeral s) last)))
    (spaced_on (numeral n) (spaced_on (numeral s) last)) t p (n, (s, m)) (path_spaced p (spaced_on (numeral n) (spaced_on
    (numeral s) last)) h)
    (both_reads (number_at space) (both (number_at space) (number_at feed)) (spaced_on (numeral n) (spaced_on (numeral s) last))
    (spaced_on (numeral s) last) t n (s, m)
    (number_spaced n (spaced_on (numeral s) last) i)
    (both_reads (number_at space) (number_at feed) (spaced_on (numeral s) last) last t s m (number_spaced s last j) (number_ended m t k)))

field_reads : (f : HeadField) (t : List ℕ) → field_at (spaced_on (field_word f) t) ≡ Some (f, t)
field_reads Id t = refl
field_reads Remote t = refl
field_reads Local t = refl

head_reads : (f : HeadField) (w : ℕ) (o : Order) (t : List ℕ) → IsWord w
    → both field_at layout_at (spaced_on (field_word f) (spaced_on (numeral w) (ended_on (order_word o) t))) ≡ Some ((f, (w, o)), t)
head_reads f w o t h =
    both_reads field_at layout_at (spaced_on (field_word f) (spaced_on (numeral w) (ended_on (order_word o) t)))
    (spaced_on (numeral w) (ended_on (order_word o) t)) t f (w, o)
    (field_reads f (spaced_on (numeral w) (ended_on (order_word o) t))) (layout_reads w o t h)

-- a put by its offset, its word and what follows
put_steps : (t us vs rest : List ℕ) (off : ℕ) (k : PutLead) (p : Put) → number_at space t ≡ Some (off, us) → put_lead_at us ≡ Some (k, vs)
    → stored_at off k vs ≡ Some (p, rest) → put_at t ≡ Some (p, rest)
put_steps t us vs rest off k p e f g =
    then_reads (number_at space t) (λ o xs. then_on (put_lead_at xs) (λ j ys. stored_at o j ys)) off us (Some (p, rest)) e
    (then_reads (put_lead_at us) (stored_at off) k vs (Some (p, rest)) f g)

-- the words of a put after those that begin its line
abbrev pub put_text : Put → List ℕ → List ℕ
put_text p t = drop 3 (line (codes "at") (put_words p) t)

pub put_reads : (p : Put) (t : List ℕ) → PutIsSmall p → put_at (put_text p t) ≡ Some (p, t)
put_reads (put.Num off p w o) t h =
    let last = spaced_on (path_word p) (spaced_on (numeral w) (ended_on (order_word o) t)) in
    put_steps (spaced_on (numeral off) (spaced_on (codes "num") last)) (spaced_on (codes "num") last) last t off puts.Num
    (put.Num off p w o) (number_spaced off (spaced_on (codes "num") last) h.0)
    refl (mapped_reads (num_of off) scalar_at last t (p, (w, o)) (scalar_reads p w o t h.1 h.2))
put_reads (put.Tag off p w o) t h =
    let last = spaced_on (path_word p) (spaced_on (numeral w) (ended_on (order_word o) t)) in
    put_steps (spaced_on (numeral off) (spaced_on (codes "tag") last)) (spaced_on (codes "tag") last) last t off puts.Tag
    (put.Tag off p w o) (number_spaced off (spaced_on (codes "tag") last) h.0)
    refl (mapped_reads (tag_of off) scalar_at last t (p, (w, o)) (scalar_reads p w o t h.1 h.2))
put_reads (put.Flag off p w o) t h =
    let last = spaced_on (path_word p) (spaced_on (numeral w) (ended_on (order_word o) t)) in
    put_steps (spaced_on (numeral off) (spaced_on (codes "flag") last)) (spaced_on (codes "flag") last) last t off puts.Flag
    (put.Flag off p w o)
    (number_spaced off (spaced_on (codes "flag") last) h.0)
    refl (mapped_reads (flag_of off) scalar_at last t (p, (w, o)) (scalar_reads p w o t h.1 h.2))
put_reads (put.Count off p m a w o) t h =
    let last = spaced_on (path_word p) (spaced_on (numeral m) (spaced_on (numeral a) (spaced_on (numeral w) (ended_on
    (order_word o) t)))) in
    put_steps (spaced_on (numeral off) (spaced_on (codes "count") last)) (spaced_on (codes "count") last) last t off puts.Count
    (put.Count off p m a w o)
    (number_spaced off (spaced_on (codes "count") last) h.0)
    refl (mapped_reads (count_of off) count_at last t (p, (m, (a, (w, o)))) (count_reads p m a w o t h.1 h.2 h.3 h.4))
put_reads (put.Short off p n s m) t h =
    let last = spaced_on (path_word p) (spaced_on (numeral n) (spaced_on (numeral s) (ended_on (numeral m) t))) in
    put_steps (spaced_on (numeral off) (spaced_on (codes "short") last)) (spaced_on (codes "short") last) last t off puts.Short
    (put.Short off p n s m)
    (number_spaced off (spaced_on (codes "short") last) h.0)
    refl (mapped_reads (short_of off) short_at last t (p, (n, (s, m))) (short_reads p n s m t h.1 h.2 h.3 h.4))
put_reads (put.Const off os) t h =
    let last = ended_on (hex os) t in
    put_steps (spaced_on (numeral off) (spaced_on (codes "const") last)) (spaced_on (codes "const") last) last t off puts.Const
    (put.Const off os)
    (number_spaced off (spaced_on (codes "const") last) h.0)
    refl (mapped_reads (put.Const off) (before octets_at feed) last t os (octets_ended os t h.1))
put_reads (put.Head off f w o) t h =
    let last = spaced_on (field_word f) (spaced_on (numeral w) (ended_on (order_word o) t)) in
    put_steps (spaced_on (numeral off) (spaced_on (codes "head") last)) (spaced_on (codes "head") last) last t off puts.Head
    (put.Head off f w o)
    (number_spaced off (spaced_on (codes "head") last) h.0)
    refl (mapped_reads (head_of off) (both field_at layout_at) last t (f, (w, o)) (head_reads f w o t h.1))

-- ---- the puts of a chunk

led_at : (q : Put) (us : List ℕ) → word_at (codes "at ") (line (codes "at") (put_words q) us) ≡ Some (tt, put_text q us)
led_at (put.Num off p w o) us = refl
led_at (put.Tag off p w o) us = refl
led_at (put.Flag off p w o) us = refl
led_at (put.Count off p m a w o) us = refl
led_at (put.Short off p n s m) us = refl
led_at (put.Const off os) us = refl
led_at (put.Head off f w o) us = refl

-- puts before the end of their chunk, where so many octets may be looked at
puts_steps : (ps : List Put) (t : List ℕ) (k : ℕ) → PutsAreSmall ps → length ps ≤ k
    → repeat (word_at (codes "at ")) (λ u. put_at) k (puts_text ps (ended t)) ≡ Some (ps, ended t)
puts_steps [] t k h l = ends_none (word_at (codes "at ")) (λ u. put_at) k (ended t) refl
puts_steps (p ∷ ps) t zero h l = absurd (omega arith)
puts_steps (p ∷ ps) t (suc k) h l =
    one_more (word_at (codes "at ")) (λ u. put_at) k (puts_text (p ∷ ps) (ended t)) (put_text p (puts_text ps (ended t)))
    (puts_text ps (ended t)) (ended t) tt p ps (led_at p (puts_text ps (ended t))) (put_reads p (puts_text ps (ended t)) h.0)
    (puts_steps ps t k h.1 (omega arith))

words_long : (ws : List (List ℕ)) (t : List ℕ) → length t < length (words ws t)
words_long [] t = omega arith
words_long (w ∷ ws) t = omega (arith, words_long ws t, length-append w (words ws t))

-- a line is longer than what follows it
pub line_long : (w : List ℕ) (ws : List (List ℕ)) (t : List ℕ) → length t < length (line w ws t)
line_long w ws t = omega (arith, words_long ws t, length-append w (words ws t))

pub puts_long : (ps : List Put) (t : List ℕ) → length ps + length t ≤ length (puts_text ps t)
puts_long [] t = omega arith
puts_long (p ∷ ps) t = omega (arith, puts_long ps t, line_long (codes "at") (put_words p) (puts_text ps t))

pub puts_read : (ps : List Put) (t : List ℕ) → PutsAreSmall ps → puts_at (puts_text ps (ended t)) ≡ Some (ps, t)
puts_read ps t h =
    before_reads bare_puts_at end_line (puts_text ps (ended t)) (ended t) t ps
    (puts_steps ps t (length (puts_text ps (ended t))) h (omega (arith, puts_long ps (ended t)))) refl
