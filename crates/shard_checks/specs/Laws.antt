-- Lines and what they say: where no line is missing, a part has what is read at some nodes (own).
use Rattle.std.specs.Prelude.{ℕ, List, [], ◌++◌, ◌≡◌, ◌↔◌, false, Contains, None, codes, map, Option, ⊤, nat_eq, encode_utf8_all, ◌∷◌}
use Rattle.std.specs.List.{AllByRecursion, flat_map}
use Rattle.graph_index.specs.declared.loading.TermTriple.{TermTriple}
use Rattle.demand.specs.declared.reach.Root.{Root}
use Rattle.graph_index.specs.Loading.{IsNumbered}
use Rattle.part_laws.specs.Texts.{AreNumberedBy, AreSameRoot, Data, HasWhatIsRead, IsGraph, IsKnownOf, IsReadBackIn, ReachWithin, Says}
use Rattle.rdf_terms.specs.declared.terms.Name.TheVariants.{Fresh, Label}
use Rattle.rdf_terms.specs.declared.terms.Term.{Term}
use Rattle.rdf_terms.specs.declared.terms.Term.TheVariants.{Blank, Iri, Lit}
use Rattle.rdf_terms.specs.Literals.{IsLiteral}
use Rattle.rdf_terms.specs.Written.{iri_text}
use Rattle.rdf_terms.specs.declared.terms.Triple.{Triple}
use Rattle.schema_tree.specs.declared.schema.Schema.{Schema}
use Rattle.schema_tree.specs.declared.verdicts.Verdict.{Verdict}
use Rattle.schema_tree.specs.Loaded.{IsLoaded}
use Rattle.schema_tree.specs.Sure.{IsSure, Known}
use Rattle.shard_checks.specs.Cover.{missing}
use Rattle.shard_checks.specs.Lines.{is_space, lines_of}
use Rattle.shard_checks.specs.Written.{line_at, term_on_line, triple_line}

-- a term on a line, where labels stand as they are
abbrev pub text_of : Term → List ℕ
text_of x = term_on_line None x

-- a triple on a line, and its dot
abbrev pub line_of : TermTriple → List ℕ
line_of t = text_of t.subject ++ (codes " " ++ (text_of t.predicate ++ (codes " " ++ (text_of t.object ++ codes " ."))))

abbrev pub HasNoSpace : List ℕ → Type 0
HasNoSpace text = AllByRecursion (λ b. is_space b ≡ false) text

-- no two terms have one text, and the texts of subjects and of predicates have no space
pub record AreToldApart (d : Data) : Type 0 where
  pub one : (x y : Term) → Contains d.terms x → Contains d.terms y → text_of x ≡ text_of y → x ≡ y
  pub subject : (t : TermTriple) → Says d t → HasNoSpace (text_of t.subject)
  pub predicate : (t : TermTriple) → Says d t → HasNoSpace (text_of t.predicate)

-- among the lines are those of all triples of the whole, and the part has the triple of each line that is a shard's
pub record AreLinesOf (whole part : Data) (lines shard : List (List ℕ)) : Type 0 where
  pub all : (t : TermTriple) → Says whole t → Contains lines (line_of t)
  pub own : (t : TermTriple) → Contains shard (line_of t) → (u : TermTriple) × Says part u × (line_of u ≡ line_of t)

-- whatever lines the whole has: where none of them that is read at the nodes is missing in the shard, the part has what is read there
abbrev pub CoversAreEnough : Type 0
CoversAreEnough =
    (s : Schema) (whole part : Data) (nodes back : List Term) (lines shard : List (List ℕ)) → AreToldApart whole → AreLinesOf whole part lines shard →
    ((t : TermTriple) → Says part t → Says whole t) → ((x : Term) → IsReadBackIn s whole x → Contains back x) →
    missing lines shard (map text_of nodes) (map text_of back) ≡ [] → HasWhatIsRead s whole part nodes

-- so each answer over the part is that over the whole
abbrev pub ShardsAnswerAlike : Type 0
ShardsAnswerAlike =
    (s : Schema) (first : List Term) (whole part : Data) (nodes back : List Term) (lines shard : List (List ℕ))
    (roots all : List Root) (f : List ℕ) (budget : ℕ) (known known_all : Known) →
    IsLoaded s → IsGraph whole → IsGraph part → AreNumberedBy s first whole part → AreToldApart whole → AreLinesOf whole part lines shard →
    ((t : TermTriple) → Says part t → Says whole t) → ((x : Term) → IsReadBackIn s whole x → Contains back x) → ReachWithin s part nodes roots →
    missing lines shard (map text_of nodes) (map text_of back) ≡ [] →
    IsKnownOf s f budget part roots known → IsKnownOf s f budget whole all known_all →
    (r w : Root) → Contains roots r → Contains all w → AreSameRoot part whole r w →
    (v : Verdict) → IsSure s whole.terms known_all w.node w.expr v ↔ IsSure s part.terms known r.node r.expr v

abbrev pub HasNoFeed : List ℕ → Type 0
HasNoFeed text = AllByRecursion (λ b. nat_eq b 10 ≡ false) text

-- the lines of the text of triples are theirs, and behind the last line feed is nothing
abbrev pub LinesAreThoseOfTriples : Type 0
LinesAreThoseOfTriples =
    (prefix : Option (List ℕ)) (terms : List Term) (triples : List Triple) → ((t : Triple) → Contains triples t → HasNoFeed (line_at prefix terms t)) →
    lines_of (flat_map (triple_line prefix terms) triples) ≡ map (line_at prefix terms) triples ++ ([] ∷ [])

-- and such a line is that of the triple of terms, where labels stay as they are
abbrev pub LinesSayTriples : Type 0
LinesSayTriples = (terms : List Term) (t : TermTriple) (n : Triple) → IsNumbered terms t n → line_at None terms n ≡ line_of t

-- a term that a line spells by itself: an IRI or a label without spaces, or a literal (RDF 1.1 Concepts, section 3.3)
abbrev pub IsPlain : Term → Type 0
IsPlain (Iri iri) = HasNoSpace (iri_text iri)
IsPlain (Blank (Label label)) = HasNoSpace (encode_utf8_all label)
IsPlain (Blank (Fresh n)) = ⊥
IsPlain (Lit literal) = IsLiteral literal

-- an IRI or a blank node
abbrev pub IsResource : Term → Type 0
IsResource (Iri iri) = ⊤
IsResource (Blank name) = ⊤
IsResource (Lit literal) = ⊥

-- a graph of such terms, whose subjects and predicates are no literals, is told apart by lines
abbrev pub PlainTermsAreToldApart : Type 0
PlainTermsAreToldApart =
    (d : Data) → ((x : Term) → Contains d.terms x → IsPlain x) → ((t : TermTriple) → Says d t → IsResource t.subject × IsResource t.predicate) → AreToldApart d
