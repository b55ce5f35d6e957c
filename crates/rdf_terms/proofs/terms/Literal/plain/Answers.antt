use Rattle.std.proofs.Common.{◌≡◌, ℕ, List, None, ap, sym, ◌∙◌, length, refl, nat_eq, true≢false}
use Rattle.std.specs.Str.{chars}
use Rattle.rdf_terms.specs.Literals.{LiteralParts}
use Rattle.rdf_terms.specs.Vocabulary.{xsd_string, rdf_lang_string}
use Rattle.rdf_terms.proofs.terms.Literal.plain.Goals as goal

string_chars : chars xsd_string ≡ xsd_string
unfolding chars
string_chars = refl

other_datatype : xsd_string ≡ rdf_lang_string → ⊥
other_datatype e = true≢false (ap (λ l. nat_eq (length l) (length xsd_string)) e)

pub invariant_of-result : goal.invariant_of-result
invariant_of-result c = record {
  tagged = (λ none. absurd (true≢false (sym none)), λ e. absurd (other_datatype (sym (c.in_ok-datatype.ensures ∙ string_chars) ∙ e)));
  lowered = tt;
}

pub returns : goal.returns
returns c = ap (λ (d : List ℕ). let l : LiteralParts = record { lex = c.args.lex; datatype = d; lang = None } in l) (c.in_ok-datatype.ensures ∙ string_chars)
