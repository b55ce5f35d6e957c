-- Plain terms are told apart by their texts on lines.
use Rattle.std.proofs.Common.{◌≡◌, ℕ, List, ◌∷◌, arith, ap, drop, get_or, refl, sym}
use Rattle.lists.proofs.Members.{got_in}
use Rattle.rdf_terms.specs.declared.terms.Name.TheVariants.{Fresh, Label}
use Rattle.rdf_terms.specs.declared.terms.Term.{Term}
use Rattle.rdf_terms.specs.declared.terms.Term.TheVariants.{Blank, Iri, Lit}
use Rattle.std.proofs.lemmas.Str.{encodes_same}
use Rattle.rdf_terms.specs.Laws.{TextsAreDistinct}
use Rattle.shard_checks.specs.Laws.{HasNoSpace, IsPlain, IsResource, PlainTermsAreToldApart, text_of}

-- texts that begin differently
unlike : (a b : ℕ) (xs ys : List ℕ) → ¬ (a ≡ b) → ¬ (a ∷ xs ≡ b ∷ ys)
unlike a b xs ys apart e = apart (ap (λ (zs : List ℕ). get_or zs 0 0) e)

low : ¬ (◌≡◌ {A = ℕ} 60 95)
low e = omega (arith, e)

quoted : ¬ (◌≡◌ {A = ℕ} 34 95)
quoted e = omega (arith, e)

text_one : TextsAreDistinct → (x y : Term) → IsPlain x → IsPlain y → text_of x ≡ text_of y → x ≡ y
text_one texts (Iri a) (Iri b) h k e = texts (Iri a) (Iri b) tt tt e
text_one texts (Iri a) (Lit b) h k e = texts (Iri a) (Lit b) tt k e
text_one texts (Lit a) (Iri b) h k e = texts (Lit a) (Iri b) h tt e
text_one texts (Lit a) (Lit b) h k e = texts (Lit a) (Lit b) h k e
text_one texts (Iri a) (Blank (Label b)) h k e = absurd (unlike 60 95 _ _ low e)
text_one texts (Blank (Label a)) (Iri b) h k e = absurd (unlike 60 95 _ _ low (sym e))
text_one texts (Lit a) (Blank (Label b)) h k e = absurd (unlike 34 95 _ _ quoted e)
text_one texts (Blank (Label a)) (Lit b) h k e = absurd (unlike 34 95 _ _ quoted (sym e))
text_one texts (Blank (Label a)) (Blank (Label b)) h k e = ap (λ l. Blank (Label l)) (encodes_same a b (ap (drop 2) e))
text_one texts (Blank (Fresh n)) y h k e = absurd h
text_one texts (Iri a) (Blank (Fresh n)) h k e = absurd k
text_one texts (Lit a) (Blank (Fresh n)) h k e = absurd k
text_one texts (Blank (Label a)) (Blank (Fresh n)) h k e = absurd k

no_space : (x : Term) → IsPlain x → IsResource x → HasNoSpace (text_of x)
no_space (Iri iri) h r = h
no_space (Blank (Label label)) h r = (refl, (refl, h))
no_space (Blank (Fresh n)) h r = absurd h
no_space (Lit literal) h r = absurd r

pub plain_told_apart : TextsAreDistinct → PlainTermsAreToldApart
plain_told_apart texts d plain resources = record {
  one = λ x y c k e. text_one texts x y (plain x c) (plain y k) e;
  subject = λ t says. no_space t.subject (plain t.subject (got_in d.terms says.0.s.0 t.subject says.2.subject)) (resources t says).0;
  predicate = λ t says. no_space t.predicate (plain t.predicate (got_in d.terms says.0.p.0 t.predicate says.2.predicate)) (resources t says).1;
}
