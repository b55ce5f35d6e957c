-- What tokens of Turtle stand for can stand on one line, where the base and the prefixes do.
use Rattle.std.proofs.Common.{◌≡◌, ℕ, ◌+◌, ◌≤◌, Bool, true, false, cond, nat_lt, List, [], ◌∷◌, ◌++◌, Option, Some, Result, Ok, Err, refl, subst, arith}
use Rattle.std.specs.List.{AllByRecursion}
use Rattle.std.specs.Str.{chars, bytes_eq}
use Rattle.std.proofs.lemmas.Bool.Decides.{nat_tests}
use Rattle.std.proofs.lemmas.Option.{same_Some}
use Rattle.rdf_terms.specs.Vocabulary.{rdf_first, rdf_rest, rdf_nil}
use Rattle.rdf_terms.specs.declared.terms.Term.{Term}
use Rattle.rdf_terms.proofs.OneLine.{Plain, Clean}
use Rattle.rdf_terms.proofs.TermLines.{PlainTerm, plain_written}
use Rattle.rdf_cursor.specs.declared.stops.Fault.{Fault}
use Rattle.rdf_cursor.specs.declared.stops.Fault.TheVariants.{Full}
use Rattle.term_tokens.specs.Terms.{iri_term}
use Rattle.term_tokens.proofs.NameLines.{err_is_not_ok, ok_same, PlainNames}
use Rattle.graph_index.specs.declared.loading.TermTriple.{TermTriple}
use Rattle.graph_index.proofs.LoadedLines.{PlainTriple}
use Rattle.turtle_reader.specs.Meanings.{max_anonymous, numbered}
use Rattle.turtle_reader.specs.States.{names_in, DocumentScope, anonymous, added, counted, declared, rebased, begun}

-- the base and the prefixes of a scope are lines, its triples are of such terms, and anonymous nodes are numbered from 1
pub record PlainScope (v : DocumentScope) : Type 0 where
  pub base : Clean v.base
  pub prefixes : (prefix iri : List ℕ) → v.prefixes prefix ≡ Some iri → Clean iri
  pub from_one : 1 ≤ v.next
  pub triples : AllByRecursion PlainTriple v.triples

pub names_plain : (v : DocumentScope) → PlainScope v → PlainNames (names_in v)
names_plain v h = record { base = h.base; prefixes = h.prefixes }

-- an anonymous node
one_more : (n : ℕ) → 1 ≤ n + 1
one_more n = omega arith

numbered_by : (v : DocumentScope) (x : Term) (w : DocumentScope) (b : Bool) → PlainScope v → nat_lt max_anonymous v.next ≡ b →
    cond {A = Result (Term × DocumentScope) Fault} b (Err Full) (Ok (anonymous v.next, counted v)) ≡ Ok (x, w) → PlainTerm x × PlainScope w
numbered_by v x w true h f e = absurd (err_is_not_ok Full (x, w) e)
numbered_by v x w false h f e =
    let n : v.next ≤ 4294967295 = grind (arith, nat_tests) in
    subst (λ (p : Term × DocumentScope). PlainTerm p.0 × PlainScope p.1) (ok_same (anonymous v.next, counted v) (x, w) e)
    ((h.from_one, n), record { base = h.base; prefixes = h.prefixes; from_one = one_more v.next; triples = h.triples })

pub numbered_plain : (v : DocumentScope) (x : Term) (w : DocumentScope) → PlainScope v → numbered true v ≡ Ok (x, w) → PlainTerm x × PlainScope w
unfolding numbered
numbered_plain v x w h e = numbered_by v x w (nat_lt max_anonymous v.next) h refl e

-- scopes
pub all_append : (xs ys : List TermTriple) → AllByRecursion PlainTriple xs → AllByRecursion PlainTriple ys → AllByRecursion PlainTriple (xs ++ ys)
all_append [] ys h k = k
all_append (x ∷ xs) ys (e, h) k = (e, all_append xs ys h k)

pub added_plain : (s : Term) (p : List ℕ) (o : Term) (v : DocumentScope) → PlainTerm s → Plain (chars p) → PlainTerm o → PlainScope v → PlainScope (added s p o v)
added_plain s p o v a b c h = record {
  base = h.base;
  prefixes = h.prefixes;
  from_one = h.from_one;
  triples = all_append v.triples (record { subject = s; predicate = iri_term p; object = o } ∷ []) h.triples (record { subject = a; predicate = b; object = c }, tt);
}

declared_by : (b : Bool) (iri got : List ℕ) (old : Option (List ℕ)) → Clean iri → (old ≡ Some got → Clean got) → cond b (Some iri) old ≡ Some got → Clean got
declared_by true iri got old c k e = subst Clean (same_Some iri got e) c
declared_by false iri got old c k e = k e

pub declared_plain : (prefix iri : List ℕ) (v : DocumentScope) → Clean iri → PlainScope v → PlainScope (declared prefix iri v)
declared_plain prefix iri v c h = record {
  base = h.base;
  prefixes = λ other got e. declared_by (bytes_eq other prefix) iri got (v.prefixes other) c (h.prefixes other got) e;
  from_one = h.from_one;
  triples = h.triples;
}

pub rebased_plain : (iri : List ℕ) (v : DocumentScope) → Clean iri → PlainScope v → PlainScope (rebased iri v)
rebased_plain iri v c h = record { base = c; prefixes = h.prefixes; from_one = h.from_one; triples = h.triples }

pub begun_plain : (v : DocumentScope) → PlainScope v → PlainScope (begun v)
begun_plain v h = record { base = h.base; prefixes = h.prefixes; from_one = h.from_one; triples = tt }

-- the vocabulary
pub plain_first : Plain (chars rdf_first)
unfolding chars
plain_first = plain_written rdf_first refl

pub plain_rest : Plain (chars rdf_rest)
unfolding chars
plain_rest = plain_written rdf_rest refl

pub plain_nil : Plain (chars rdf_nil)
unfolding chars
plain_nil = plain_written rdf_nil refl
