-- Escaping by bytes is escaping by characters.
use Rattle.std.proofs.Common.{◌≡◌, ℕ, ◌<◌, ◌≤◌, ◌==◌, List, [], ◌∷◌, ◌++◌, refl, ap, sym, ◌∙◌, length, get_or, suc, arith, true, false, encode_utf8_all, if◌then◌else◌, codes, ◌⊎◌, inl, inr, Some, None}
use Rattle.std.proofs.Math.Utf8.{encode}
use Rattle.std.proofs.lemmas.Bool.{cond-true, cond-false, ne_eqb}
use Rattle.std.proofs.lemmas.Grind.{flat_map-append}
use Rattle.std.proofs.lemmas.List.{append-nil}
use Rattle.std.proofs.lemmas.Str.{encode_ascii}
use Rattle.std.specs.List.{flat_map}
use Rattle.rdf_terms.specs.TextBytes.{escaped_byte}
use Rattle.rdf_terms.specs.Literals.{LiteralParts}
use Rattle.rdf_terms.specs.Vocabulary.{xsd_string}
use Rattle.rdf_terms.specs.Texts.{same_text}
use Rattle.rdf_terms.specs.Written.{escaped, suffix_text}
use Rattle.rdf_terms.proofs.Characters.{high_bytes, low_or_high}

-- what is escaped, and what stands as it is, a text at a time
abbrev choice : ℕ → List ℕ → List ℕ
choice c plain =
    if c == 34 then codes "\\\""
    else if c == 92 then codes "\\\\"
    else if c == 10 then codes "\\n"
    else if c == 13 then codes "\\r"
    else plain

plain_high : (c : ℕ) (plain : List ℕ) → 128 ≤ c → choice c plain ≡ plain
plain_high c plain high =
    cond-false _ _ _ (ne_eqb c 34 (λ e. omega (arith, e)))
    ∙ cond-false _ _ _ (ne_eqb c 92 (λ e. omega (arith, e)))
    ∙ cond-false _ _ _ (ne_eqb c 10 (λ e. omega (arith, e)))
    ∙ cond-false _ _ _ (ne_eqb c 13 (λ e. omega (arith, e)))

cons_same : {x y : ℕ} {xs ys : List ℕ} → x ≡ y → xs ≡ ys → x ∷ xs ≡ y ∷ ys
cons_same p q = cc

high_stay : (bs : List ℕ) → ((k : ℕ) → k < length bs → 128 ≤ get_or bs k 0) → flat_map escaped_byte bs ≡ bs
high_stay [] high = refl
high_stay (b ∷ bs) high =
    ap (λ z. z ++ flat_map escaped_byte bs) (plain_high b (b ∷ []) (high 0 (omega arith)))
    ∙ cons_same refl (high_stay bs (λ k h. high (suc k) (omega arith)))

-- the bytes of a character of a quoted string
pub escaped_character : (c : ℕ) → escaped c ≡ flat_map escaped_byte (encode c)
escaped_character c = by (low_or_high c)
  where
    by : (c < 128) ⊎ (128 ≤ c) → escaped c ≡ flat_map escaped_byte (encode c)
    by (inl low) = ap (choice c) (encode_ascii c low) ∙ sym (append-nil (escaped_byte c)) ∙ ap (flat_map escaped_byte) (sym (encode_ascii c low))
    by (inr high) = plain_high c (encode c) high ∙ sym (high_stay (encode c) (λ k h. high_bytes c k high h))

pub escaped_bytes : (cs : List ℕ) → flat_map escaped cs ≡ flat_map escaped_byte (encode_utf8_all cs)
escaped_bytes [] = refl
escaped_bytes (c ∷ cs) =
    ap (λ z. z ++ flat_map escaped cs) (escaped_character c)
    ∙ ap (λ z. flat_map escaped_byte (encode c) ++ z) (escaped_bytes cs)
    ∙ sym (flat_map-append escaped_byte (encode c) (encode_utf8_all cs))

-- what stands behind the lexical form of a literal
pub tagged_suffix : (l : LiteralParts) (tag : List ℕ) → l.lang ≡ Some tag → codes "\"@" ++ (encode_utf8_all tag ++ []) ≡ codes "\"" ++ suffix_text l l.lang
tagged_suffix l tag is = ap (λ z. codes "\"@" ++ z) (append-nil (encode_utf8_all tag)) ∙ ap (λ o. codes "\"" ++ suffix_text l o) (sym is)

pub plain_suffix : (l : LiteralParts) → l.lang ≡ None → same_text l.datatype xsd_string ≡ true → codes "\"" ++ ([] ++ []) ≡ codes "\"" ++ suffix_text l l.lang
plain_suffix l is same = ap (λ z. codes "\"" ++ z) (sym (cond-true _ _ _ same)) ∙ ap (λ o. codes "\"" ++ suffix_text l o) (sym is)

pub typed_suffix : (l : LiteralParts) → l.lang ≡ None → same_text l.datatype xsd_string ≡ false → codes "\"^^<" ++ (encode_utf8_all l.datatype ++ codes ">") ≡ codes "\"" ++ suffix_text l l.lang
typed_suffix l is other = ap (λ z. codes "\"" ++ z) (sym (cond-false _ _ _ other)) ∙ ap (λ o. codes "\"" ++ suffix_text l o) (sym is)
