-- `==` on terms decides equality of terms.
use Rattle.std.proofs.Common.{◌≡◌, Bool, true, ap, eq-eqb}
use borrow.Author.Tests.{eqb-true}
use Rattle.std.specs.Bool.{Decides}
use Rattle.rdf_terms.specs.Sameness.{text_decides, literal_decides}
use Rattle.rdf_terms.specs.Graphs.{same_id}
use Rattle.rdf_terms.specs.declared.terms.TermId.{TermId}
use Rattle.rdf_terms.specs.declared.terms.Name.{Name}
use Rattle.rdf_terms.specs.declared.terms.Name.TheVariants.{Label, Fresh}
use Rattle.rdf_terms.specs.declared.terms.Term.{Term}
use Rattle.rdf_terms.specs.declared.terms.Term.TheVariants.{Iri, Blank, Lit}
use Rattle.rdf_terms.specs.contracts.terms.TermPartialEq.TheImpl.{ghosts}
use Rattle.rdf_terms.specs.contracts.terms.NamePartialEq.TheImpl.{ghosts as name_ghosts}

abbrev pub same_name : Name → Name → Bool
same_name = name_ghosts.eq

abbrev pub same_term : Term → Term → Bool
same_term = ghosts.eq

pub name_decides : (a b : Name) → Decides (same_name a b) (a ≡ b)
name_decides (Label a) (Label b) = (λ h. ap (λ x. Label x) ((text_decides a b).0 h), λ e. (text_decides a b).1 (cc))
name_decides (Label a) (Fresh b) = (λ h. cc, λ e. cc)
name_decides (Fresh a) (Label b) = (λ h. cc, λ e. cc)
name_decides (Fresh a) (Fresh b) = (λ h. ap (λ x. Fresh x) (eqb-true a b h), λ e. eq-eqb a b (cc))

pub term_decides : (a b : Term) → Decides (same_term a b) (a ≡ b)
term_decides (Iri a) (Iri b) = (λ h. ap (λ x. Iri x) ((text_decides a b).0 h), λ e. (text_decides a b).1 (cc))
term_decides (Iri a) (Blank b) = (λ h. cc, λ e. cc)
term_decides (Iri a) (Lit b) = (λ h. cc, λ e. cc)
term_decides (Blank a) (Iri b) = (λ h. cc, λ e. cc)
term_decides (Blank a) (Blank b) = (λ h. ap (λ x. Blank x) ((name_decides a b).0 h), λ e. (name_decides a b).1 (cc))
term_decides (Blank a) (Lit b) = (λ h. cc, λ e. cc)
term_decides (Lit a) (Iri b) = (λ h. cc, λ e. cc)
term_decides (Lit a) (Blank b) = (λ h. cc, λ e. cc)
term_decides (Lit a) (Lit b) = (λ h. ap (λ x. Lit x) ((literal_decides a b).0 h), λ e. (literal_decides a b).1 (cc))

-- terms of the same number are the same
pub same_is : (a b : TermId) → same_id a b ≡ true → a ≡ b
same_is a b e = let h : a.0 ≡ b.0 = eqb-true a.0 b.0 e in λ i. record { 0 = h i }
