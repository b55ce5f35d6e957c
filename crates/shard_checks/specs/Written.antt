-- Terms and triples on lines of N-Triples (RDF 1.1 N-Triples, section 4).
use Rattle.std.specs.Prelude.{ℕ, List, [], ◌++◌, Option, Some, None, codes, encode_utf8_all, slice_get}
use Rattle.rdf_terms.specs.declared.terms.Name.{Name}
use Rattle.rdf_terms.specs.declared.terms.Name.TheVariants.{Fresh, Label}
use Rattle.rdf_terms.specs.declared.terms.Term.{Term}
use Rattle.rdf_terms.specs.declared.terms.Term.TheVariants.{Blank, Iri, Lit}
use Rattle.rdf_terms.specs.declared.terms.TermId.{TermId}
use Rattle.rdf_terms.specs.declared.terms.Triple.{Triple}
use Rattle.rdf_terms.specs.Written.{printed_name, term_text}

-- the name of a blank node: a label as it stands, or the printed name behind a prefix, if there is one
abbrev pub name_on_line : Option (List ℕ) → Name → List ℕ
name_on_line None (Label label) = encode_utf8_all label
name_on_line None (Fresh n) = printed_name (Fresh n)
name_on_line (Some prefix) name = prefix ++ printed_name name

-- the term's text, but for a blank node
abbrev pub term_on_line : Option (List ℕ) → Term → List ℕ
term_on_line prefix (Iri iri) = term_text (Iri iri)
term_on_line prefix (Blank name) = codes "_:" ++ name_on_line prefix name
term_on_line prefix (Lit literal) = term_text (Lit literal)

-- that of a number, if the table has it
abbrev pub term_if_any : Option (List ℕ) → Option Term → List ℕ
term_if_any prefix None = []
term_if_any prefix (Some term) = term_on_line prefix term

abbrev pub number_on_line : Option (List ℕ) → List Term → TermId → List ℕ
number_on_line prefix terms n = term_if_any prefix (slice_get terms n.0)

-- a triple, its dot and a line feed
abbrev pub triple_line : Option (List ℕ) → List Term → Triple → List ℕ
triple_line prefix terms t =
    number_on_line prefix terms t.s ++ (codes " " ++ (number_on_line prefix terms t.p ++ (codes " " ++ (number_on_line prefix terms t.o ++ codes " .\n"))))

-- the same without the line feed
abbrev pub line_at : Option (List ℕ) → List Term → Triple → List ℕ
line_at prefix terms t =
    number_on_line prefix terms t.s ++ (codes " " ++ (number_on_line prefix terms t.p ++ (codes " " ++ (number_on_line prefix terms t.o ++ codes " ."))))
