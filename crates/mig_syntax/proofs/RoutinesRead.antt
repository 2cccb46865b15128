-- Routines: what is read is what is spelled.
use Rattle.std.proofs.Common.{◌≡◌, ℕ, List, Some, Bool, true, false, refl}
use Rattle.std.specs.Prelude.{codes}
use Rattle.idl_lex.specs.declared.kinds.TokenKind.TheVariants as K
use Rattle.std.specs.Str.{str_to_ascii_lowercase as lower}
use Rattle.idl_read.specs.Reading.{mark_is, token_at, begins_with}
use Rattle.idl_read.specs.Grammar.{Text, mark, ◌&◌, joined, IsGrammar, Leads, Any}
use Rattle.idl_read.proofs.Grammars.{mapped_is, both_is, option_is}
use Rattle.idl_read.proofs.Leaves.{mark_reads, leads_mark, leads_both, begins_so, begins_not, apart_mark}
use Rattle.idl_read.proofs.Productions.{weaker, after_is, before_is}
use Rattle.idl_read.proofs.Lists.{joined_is}
use Rattle.mig_syntax.specs.Words.{like, identifier, lower_in, like_in, has_like}
use Rattle.mig_syntax.specs.Derivation.{direction_spell, direction, parameter, routine_spell, routine}
use Rattle.mig_syntax.specs.StatementReaders.{direction_words, parameter_of, parameter_at, routine_words, routine_of, routine_at}
use Rattle.mig_syntax.specs.declared.tree.Direction.{Direction}
use Rattle.mig_syntax.specs.declared.tree.Direction.TheVariants as D
use Rattle.mig_syntax.specs.declared.tree.Parameter.{Parameter}
use Rattle.mig_syntax.proofs.WordsRead.{likes_are, leads_likes, identifier_reads, leads_identifier, apart_identifiers}

direction_back : (d : Direction) → lower_in direction_words (K.Name (lower (direction_spell d))) ≡ Some d
direction_back D.RequestPort = refl
direction_back D.In = refl
direction_back D.Out = refl
direction_back D.InOut = refl

direction_is : IsGrammar (token_at (like_in direction_words)) direction Any
direction_is = likes_are direction_words direction_spell direction_back (refl, (refl, (refl, (refl, tt))))

leads_direction : Leads direction (has_like direction_words)
leads_direction = leads_likes direction_words direction_spell direction_back

-- a name and its type
abbrev named_text : List ℕ × List ℕ → Text
named_text x = identifier x.0 & (mark (codes ":") & identifier x.1)

pub parameter_is : IsGrammar parameter_at parameter Any
unfolding parameter_at
parameter_is = mapped_is parameter_of parameter
    (both_is
    (option_is {May =
    λ rest.
    begins_with (has_like direction_words) rest ≡ false} (begins_with (has_like direction_words))
    (weaker direction_is (λ rest may. tt)) (λ d front rest s may. begins_so leads_direction d front rest s) (λ rest may. may))
    (both_is identifier_reads (after_is (mark_reads (codes ":")) identifier_reads) (λ b front rest t may. tt))
    (λ x front rest t may.
    begins_not {S = named_text} (has_like direction_words)
    (leads_both
    (λ n.
    mark (codes ":") & identifier n) leads_identifier) (apart_identifiers direction_words (refl, (refl, (refl, (refl, tt))))) x front
    rest t))
    (λ x ks s. s) (λ p ks s. ((p.direction, (p.name, p.of)), refl, s))

routine_back : (b : Bool) → lower_in routine_words (K.Name (lower (routine_spell b))) ≡ Some b
routine_back false = refl
routine_back true = refl

abbrev simple_text : Bool → Text
simple_text b = like (routine_spell b)

abbrev parts_text : List ℕ × List Parameter → Text
parts_text x = identifier x.0 & (mark (codes "(") & (joined (codes ";") parameter x.1 & mark (codes ")")))

pub routine_is : IsGrammar routine_at routine Any
unfolding routine_at
routine_is = mapped_is routine_of routine
    (both_is (likes_are routine_words routine_spell routine_back (refl, (refl, tt)))
    (both_is identifier_reads
    (after_is (mark_reads (codes "("))
    (before_is (joined_is (codes ";") parameter_is (λ ts h. tt)) (mark_reads (codes ")")) (λ front rest s. (
      begins_not (mark_is (codes ";")) (leads_mark (codes ")")) (apart_mark (mark_is (codes ")")) (codes ";") refl) tt front rest s,
      tt,
    ))))
    (λ b front rest t may. tt))
    (λ b front rest t may. tt))
    (λ x ks s. s) (λ r ks s. ((r.simple, (r.name, r.parameters)), refl, s))

pub leads_routine : Leads routine (has_like routine_words)
leads_routine r ks s = leads_both parts_text (leads_likes routine_words routine_spell routine_back) (r.simple, (r.name, r.parameters)) ks s
