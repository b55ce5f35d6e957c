-- The tests of equality decide equality, and so are equivalences.
use Rattle.std.proofs.Common.{◌≡◌, ℕ, true, ◌&&◌, List, refl, sym, ap, ◌∙◌, encode_utf8_all}
use Rattle.std.proofs.lemmas.Bool.{and_parts}
use Rattle.std.proofs.lemmas.Str.{encodes_same}
use Rattle.std.specs.Bool.{Decides}
use Rattle.std.specs.Cmp.Lexicographic.{bytes_decides}
use Rattle.std.specs.Option.{option_eq}
use Rattle.std.specs.Hash.{Alike, same_Alike}
use Rattle.lists.specs.Equality.{option_decides}
use Rattle.rdf_terms.specs.Literals.{LiteralParts, same_literal, literal_fed}
use Rattle.rdf_terms.specs.Texts.{same_text}

-- `same_text` decides equality
pub text_decides : (a b : List ℕ) → Decides (same_text a b) (a ≡ b)
text_decides a b =
    (λ h. encodes_same a b ((bytes_decides (encode_utf8_all a) (encode_utf8_all b)).0 h), λ e. (bytes_decides (encode_utf8_all a) (encode_utf8_all b)).1 (ap encode_utf8_all e))

-- `same_literal` decides equality
pub literal_decides : (a b : LiteralParts) → Decides (same_literal a b) (a ≡ b)
literal_decides a b = (there, back)
  where
    there : same_literal a b ≡ true → a ≡ b
    there h =
        let p = and_parts (same_text a.lex b.lex) (same_text a.datatype b.datatype && option_eq same_text a.lang b.lang) h in
        let q = and_parts (same_text a.datatype b.datatype) (option_eq same_text a.lang b.lang) p.1 in
        λ i. record {
          lex = (text_decides a.lex b.lex).0 p.0 i;
          datatype = (text_decides a.datatype b.datatype).0 q.0 i;
          lang = (option_decides same_text text_decides a.lang b.lang).0 q.1 i;
        }

    back : a ≡ b → same_literal a b ≡ true
    back e = ap (λ x. same_literal a x) (sym e) ∙ itself a
      where
        itself : (l : LiteralParts) → same_literal l l ≡ true
        itself l = ap (λ x. x && (same_text l.datatype l.datatype && option_eq same_text l.lang l.lang)) ((text_decides l.lex l.lex).1 refl)
            ∙ ap (λ x. x && option_eq same_text l.lang l.lang) ((text_decides l.datatype l.datatype).1 refl)
            ∙ (option_decides same_text text_decides l.lang l.lang).1 refl

-- literals that `same_literal` takes for one feed a hasher alike
pub literal_alike : Alike same_literal literal_fed
literal_alike = same_Alike literal_fed literal_decides
