use Rattle.std.proofs.Common.{◌≡◌, ◌++◌, ℕ, List, take, drop, refl, sym, ap, ◌∙◌, subst}
use Rattle.std.proofs.lemmas.List.{drop-drop}
use Rattle.wire_frames.specs.First.{size_in, octets_in, behind}
use Rattle.wire_frames.proofs.Gathering.{Joins, never_short, joins_next}
use Rattle.wire_frames.proofs.joining.joined.Goals as goal

pub returns-in_default : goal.returns-in_default
returns-in_default c =
    let i = c.loop-header.invariant in
    absurd (never_short i.0 c.loop-header.rest.now c.loop-header.message i.1 (c.in_default.ensures.none refl))

pub loop-header-preserved : goal.loop-header-preserved
loop-header-preserved c =
    let i = c.loop-header.invariant in
    let h = c.in-Some.ensures.some in
    let rest = c.loop-header.rest.now in
    let next = joins_next i.0 rest c.loop-header.message i.1 (sym h.2 ∙ c.if-header.false) in
    let octets : c.prefix.result.now ≡ octets_in rest =
    c.prefix.ensures ∙ (λ j. take (h.1 j) (c.rest_from-octets.ensures j)) in
    let more : c.append.new.self ≡ c.loop-header.message ++ octets_in rest =
    c.in_ok-append.ensures.ok ∙ ap (λ (x : List ℕ). c.loop-header.message ++ x) octets in
    let left : c.rest_from-rest.result.now ≡ behind rest =
    c.rest_from-rest.ensures ∙ (λ j. drop (h.1 j) (c.rest_from-octets.ensures j)) ∙ drop-drop (size_in rest) 4 rest in
    let joins : Joins i.0 (behind rest) c.append.new.self = subst (λ (x : List ℕ). Joins i.0 (behind rest) x) (sym more) next in
    (i.0, subst (λ (x : List ℕ). Joins i.0 x c.append.new.self) (sym left) joins, i.2)
