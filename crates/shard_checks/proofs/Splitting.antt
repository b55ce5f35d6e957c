-- The text of triples is cut into their lines.
use Rattle.std.proofs.Common.{◌≡◌, ◌∙◌, ◌++◌, ℕ, false, List, [], ◌∷◌, refl, sym, ap, append_assoc, map, nat_eq}
use Rattle.std.proofs.lemmas.List.Elements.{All-from_recursion}
use Rattle.std.proofs.lemmas.List.Splits.{slice_split_at}
use Rattle.std.specs.List.{flat_map}
use Rattle.std.specs.Prelude.{Contains, Option, None, codes}
use Rattle.lists.proofs.Members.{is_first, is_later}
use Rattle.rdf_terms.specs.declared.terms.Term.{Term}
use Rattle.rdf_terms.specs.declared.terms.Triple.{Triple}
use Rattle.shard_checks.specs.Laws.{HasNoFeed, LinesAreThoseOfTriples, LinesSayTriples}
use Rattle.shard_checks.specs.Lines.{lines_of}
use Rattle.shard_checks.specs.Written.{line_at, number_on_line, term_if_any, triple_line}

-- a line and its line feed
module _ (a b c : List ℕ) where
  ended : a ++ (codes " " ++ (b ++ (codes " " ++ (c ++ codes " .\n")))) ≡ (a ++ (codes " " ++ (b ++ (codes " " ++ (c ++ codes " ."))))) ++ 10 ∷ []
  ended =
      ap (λ z. a ++ (32 ∷ (b ++ (32 ∷ z)))) (sym (append_assoc c (codes " .") (10 ∷ [])))
      ∙ ap (λ z. a ++ (32 ∷ z)) (sym (append_assoc b (32 ∷ (c ++ codes " .")) (10 ∷ [])))
      ∙ sym (append_assoc a (32 ∷ (b ++ (32 ∷ (c ++ codes " .")))) (10 ∷ []))

module _ (prefix : Option (List ℕ)) (terms : List Term) where
  line_ended : (t : Triple) → triple_line prefix terms t ≡ line_at prefix terms t ++ 10 ∷ []
  line_ended t = ended (number_on_line prefix terms t.s) (number_on_line prefix terms t.p) (number_on_line prefix terms t.o)

  pub cut_into_lines : (triples : List Triple) → ((t : Triple) → Contains triples t → HasNoFeed (line_at prefix terms t)) →
      lines_of (flat_map (triple_line prefix terms) triples) ≡ map (line_at prefix terms) triples ++ ([] ∷ [])
  cut_into_lines [] one = refl
  cut_into_lines (t ∷ ts) one =
      ap (λ z. lines_of (z ++ flat_map (triple_line prefix terms) ts)) (line_ended t)
      ∙ ap lines_of (append_assoc (line_at prefix terms t) (10 ∷ []) (flat_map (triple_line prefix terms) ts))
      ∙ slice_split_at (λ b. nat_eq b 10) (line_at prefix terms t) 10 (flat_map (triple_line prefix terms) ts)
      (All-from_recursion (λ b. nat_eq b 10 ≡ false) (line_at prefix terms t) (one t (is_first t ts))) refl
      ∙ ap (λ zs. line_at prefix terms t ∷ zs) (cut_into_lines ts (λ u c. one u (is_later t ts u c)))

pub lines_are_those : LinesAreThoseOfTriples
lines_are_those prefix terms triples one = cut_into_lines prefix terms triples one

pub lines_say : LinesSayTriples
lines_say terms t n is = λ i. term_if_any None (is.subject i) ++ (codes " " ++ (term_if_any None (is.predicate i) ++ (codes " " ++ (term_if_any None (is.object i) ++ codes " ."))))
