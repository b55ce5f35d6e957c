-- The text of a term is that of no other term.
use Rattle.std.proofs.Common.{◌≡◌, ℕ, ◌<◌, ◌==◌, ◌≢◌, List, [], ◌∷◌, ◌++◌, refl, ap, sym, ◌∙◌, length, get_or, arith, Bool, true, false, encode_utf8_all, subst, Option, Some, None, IsSome, if◌then◌else◌, ◌⊎◌, inl, inr}
use Rattle.std.proofs.Math.Utf8.{encode}
use Rattle.std.proofs.lemmas.Bool.{cond-true, cond-false, eqb-true, eqb-false}
use Rattle.std.proofs.lemmas.List.{append_cancel_right, append_assoc}
use Rattle.std.proofs.lemmas.Str.{encode_same, encodes_same, char_from_byte}
use Rattle.std.specs.List.{flat_map}
use Rattle.rdf_terms.specs.Laws.{TextsAreDistinct}
use Rattle.rdf_terms.specs.Literals.{LiteralParts, IsLiteral}
use Rattle.rdf_terms.specs.Vocabulary.{rdf_lang_string, xsd_string}
use Rattle.rdf_terms.specs.Sameness.{text_decides}
use Rattle.rdf_terms.specs.Texts.{same_text}
use Rattle.rdf_terms.specs.Written.{escaped, suffix_text, literal_text, iri_text, printed_name}
use Rattle.rdf_terms.specs.declared.terms.Term.TheVariants.{Iri, Blank, Lit}
use Rattle.rdf_terms.proofs.PrintedNames.{printed_distinct}

cons_same : {x y : ℕ} {xs ys : List ℕ} → x ≡ y → xs ≡ ys → x ∷ xs ≡ y ∷ ys
cons_same p q = cc

pub not_head : (x y : ℕ) (xs ys : List ℕ) → x ≢ y → x ∷ xs ≡ y ∷ ys → ⊥
not_head x y xs ys other e = other (ap (λ z. get_or z 0 0) e)

pub not_empty : (x : ℕ) (xs : List ℕ) → x ∷ xs ≡ [] → ⊥
not_empty x xs e = omega (arith, ap length e)

pub same_tails : (x y : ℕ) (xs ys : List ℕ) → x ∷ xs ≡ y ∷ ys → xs ≡ ys
same_tails x y xs ys e = cc

-- the character that an escape stands for
abbrev pub meant : ℕ → ℕ
meant e = if e == 110 then 10 else if e == 114 then 13 else e

-- what stands behind the backslash of an escape
abbrev pub IsCode : ℕ → Type 0
IsCode e = (e ≡ 34) ⊎ ((e ≡ 92) ⊎ ((e ≡ 110) ⊎ (e ≡ 114)))

pub data Spelling (c : ℕ) : Type 0 where
  short : (e : ℕ) → IsCode e → c ≡ meant e → escaped c ≡ 92 ∷ (e ∷ []) → Spelling c
  plain : escaped c ≡ encode c → c ≢ 34 → c ≢ 92 → c ≢ 10 → c ≢ 13 → Spelling c

pub spelling : (c : ℕ) → Spelling c
spelling c = by (c == 34) (c == 92) (c == 10) (c == 13) refl refl refl refl
  where
    by : (p q u v : Bool) → (c == 34) ≡ p → (c == 92) ≡ q → (c == 10) ≡ u → (c == 13) ≡ v → Spelling c
    by true q u v a b d e = short 34 (inl refl) (eqb-true c 34 a) (cond-true _ _ _ a)
    by false true u v a b d e = short 92 (inr (inl refl)) (eqb-true c 92 b) (cond-false _ _ _ a ∙ cond-true _ _ _ b)
    by false false true v a b d e = short 110 (inr (inr (inl refl))) (eqb-true c 10 d) (cond-false _ _ _ a ∙ cond-false _ _ _ b ∙ cond-true _ _ _ d)
    by false false false true a b d e = short 114 (inr (inr (inr refl))) (eqb-true c 13 e) (cond-false _ _ _ a ∙ cond-false _ _ _ b ∙ cond-false _ _ _ d ∙ cond-true _ _ _ e)
    by false false false false a b d e = plain (cond-false _ _ _ a ∙ cond-false _ _ _ b ∙ cond-false _ _ _ d ∙ cond-false _ _ _ e) (eqb-false c 34 a)
        (eqb-false c 92 b) (eqb-false c 10 d) (eqb-false c 13 e)

pub first_byte : (c b : ℕ) (r s : List ℕ) → b < 128 → encode c ++ r ≡ b ∷ s → c ≡ b
first_byte c b r s low e = char_from_byte (b ∷ s) r c (sym e) low (omega arith)

pub escaped_quote : (c : ℕ) (r s : List ℕ) → Spelling c → escaped c ++ r ≡ 34 ∷ s → ⊥
escaped_quote c r s (short e code is spelled) h = not_head 92 34 (e ∷ r) s (λ k. omega (arith, k)) (ap (λ z. z ++ r) (sym spelled) ∙ h)
escaped_quote c r s (plain spelled a b f g) h = a (first_byte c 34 r s (omega arith) (ap (λ z. z ++ r) (sym spelled) ∙ h))

pub escaped_once : (c d : ℕ) (r s : List ℕ) → Spelling c → Spelling d → escaped c ++ r ≡ escaped d ++ s → (c ≡ d) × (r ≡ s)
escaped_once c d r s (short e code is spelled) (short e' code' is' spelled') h =
    let tails : e ∷ r ≡ e' ∷ s = same_tails 92 92 (e ∷ r) (e' ∷ s) (ap (λ z. z ++ r) (sym spelled) ∙ h ∙ ap (λ z. z ++ s) spelled') in
    (is ∙ ap meant (ap (λ z. get_or z 0 0) tails) ∙ sym is', same_tails e e' r s tails)
escaped_once c d r s (short e code is spelled) (plain spelled' a b f g) h = absurd (b (first_byte d 92 s (e ∷ r) (omega arith) (ap (λ z. z ++ s) (sym spelled') ∙ sym h ∙ ap (λ z. z ++ r) spelled)))
escaped_once c d r s (plain spelled a b f g) (short e code is spelled') h = absurd (b (first_byte c 92 r (e ∷ s) (omega arith) (ap (λ z. z ++ r) (sym spelled) ∙ h ∙ ap (λ z. z ++ s) spelled')))
escaped_once c d r s (plain spelled a b f g) (plain spelled' a' b' f' g') h = encode_same c d r s (ap (λ z. z ++ r) (sym spelled) ∙ h ∙ ap (λ z. z ++ s) spelled')

pub lex_once : (cs ds r s : List ℕ) → flat_map escaped cs ++ 34 ∷ r ≡ flat_map escaped ds ++ 34 ∷ s → (cs ≡ ds) × (r ≡ s)
lex_once [] [] r s e = (refl, same_tails 34 34 r s e)
lex_once [] (b ∷ ds) r s e = absurd (escaped_quote b (flat_map escaped ds ++ 34 ∷ s) r (spelling b) (sym (append_assoc (escaped b) (flat_map escaped ds) (34 ∷ s)) ∙ sym e))
lex_once (a ∷ cs) [] r s e = absurd (escaped_quote a (flat_map escaped cs ++ 34 ∷ r) s (spelling a) (sym (append_assoc (escaped a) (flat_map escaped cs) (34 ∷ r)) ∙ e))
lex_once (a ∷ cs) (b ∷ ds) r s e =
    let k = escaped_once a b (flat_map escaped cs ++ 34 ∷ r) (flat_map escaped ds ++ 34 ∷ s) (spelling a) (spelling b)
    (sym (append_assoc (escaped a) (flat_map escaped cs) (34 ∷ r)) ∙ e ∙ append_assoc (escaped b) (flat_map escaped ds) (34 ∷ s)) in
    let rest = lex_once cs ds r s k.1 in
    (cons_same k.0 rest.0, rest.1)

-- what an escaped text begins with is the text of its first characters
pub lex_rest : (cs ds r s : List ℕ) → flat_map escaped cs ++ r ≡ flat_map escaped ds ++ 34 ∷ s → (es : List ℕ) × (r ≡ flat_map escaped es ++ 34 ∷ s)
lex_rest [] ds r s e = (ds, e)
lex_rest (a ∷ cs) [] r s e = absurd (escaped_quote a (flat_map escaped cs ++ r) s (spelling a) (sym (append_assoc (escaped a) (flat_map escaped cs) r) ∙ e))
lex_rest (a ∷ cs) (b ∷ ds) r s e =
    let k = escaped_once a b (flat_map escaped cs ++ r) (flat_map escaped ds ++ 34 ∷ s) (spelling a) (spelling b)
    (sym (append_assoc (escaped a) (flat_map escaped cs) r) ∙ e ∙ append_assoc (escaped b) (flat_map escaped ds) (34 ∷ s)) in
    lex_rest cs ds r s k.1

pub iri_once : (a b : List ℕ) → iri_text a ≡ iri_text b → a ≡ b
iri_once a b e =
    encodes_same a b (append_cancel_right (encode_utf8_all a) (encode_utf8_all b) (62 ∷ []) (same_tails 60 60 (encode_utf8_all a ++ 62 ∷ []) (encode_utf8_all b ++ 62 ∷ []) e))

-- what follows the quoted string
pub data Suffix (l : LiteralParts) : Type 0 where
  tag : (t : List ℕ) → l.lang ≡ Some t → l.datatype ≡ rdf_lang_string → suffix_text l l.lang ≡ 64 ∷ encode_utf8_all t → Suffix l
  string : l.lang ≡ None → l.datatype ≡ xsd_string → suffix_text l l.lang ≡ [] → Suffix l
  typed : l.lang ≡ None → same_text l.datatype xsd_string ≡ false → suffix_text l l.lang ≡ 94 ∷ (94 ∷ iri_text l.datatype) → Suffix l

pub suffix : (l : LiteralParts) → IsLiteral l → Suffix l
suffix l h = by l.lang refl (same_text l.datatype xsd_string) refl
  where
    by : (o : Option (List ℕ)) → l.lang ≡ o → (b : Bool) → same_text l.datatype xsd_string ≡ b → Suffix l
    by (Some t) is b same = tag t is (h.tagged.0 (subst IsSome (sym is) refl)) (ap (suffix_text l) is)
    by None is true same = string is ((text_decides l.datatype xsd_string).0 same) (ap (suffix_text l) is ∙ cond-true _ _ _ same)
    by None is false same = typed is same (ap (suffix_text l) is ∙ cond-false _ _ _ same)

suffix_once : (a b : LiteralParts) → Suffix a → Suffix b → suffix_text a a.lang ≡ suffix_text b b.lang → (a.datatype ≡ b.datatype) × (a.lang ≡ b.lang)
suffix_once a b (tag t is of spelled) (tag u is' of' spelled') e =
    let same : encode_utf8_all t ≡ encode_utf8_all u = same_tails 64 64 (encode_utf8_all t) (encode_utf8_all u) (sym spelled ∙ e ∙ spelled') in
    (of ∙ sym of', is ∙ ap (λ z. Some z) (encodes_same t u same) ∙ sym is')
suffix_once a b (tag t is of spelled) (string is' of' spelled') e = absurd (not_empty 64 (encode_utf8_all t) (sym spelled ∙ e ∙ spelled'))
suffix_once a b (tag t is of spelled) (typed is' other' spelled') e = absurd (not_head 64 94 (encode_utf8_all t) (94 ∷ iri_text b.datatype) (λ k. omega (arith, k)) (sym spelled ∙ e ∙ spelled'))
suffix_once a b (string is of spelled) (tag u is' of' spelled') e = absurd (not_empty 64 (encode_utf8_all u) (sym spelled' ∙ sym e ∙ spelled))
suffix_once a b (string is of spelled) (string is' of' spelled') e = (of ∙ sym of', is ∙ sym is')
suffix_once a b (string is of spelled) (typed is' other' spelled') e = absurd (not_empty 94 (94 ∷ iri_text b.datatype) (sym spelled' ∙ sym e ∙ spelled))
suffix_once a b (typed is other spelled) (tag u is' of' spelled') e = absurd (not_head 94 64 (94 ∷ iri_text a.datatype) (encode_utf8_all u) (λ k. omega (arith, k)) (sym spelled ∙ e ∙ spelled'))
suffix_once a b (typed is other spelled) (string is' of' spelled') e = absurd (not_empty 94 (94 ∷ iri_text a.datatype) (sym spelled ∙ e ∙ spelled'))
suffix_once a b (typed is other spelled) (typed is' other' spelled') e =
    let same : iri_text a.datatype ≡ iri_text b.datatype = same_tails 94 94 (iri_text a.datatype) (iri_text b.datatype)
    (same_tails 94 94 (94 ∷ iri_text a.datatype) (94 ∷ iri_text b.datatype) (sym spelled ∙ e ∙ spelled')) in
    (iri_once a.datatype b.datatype same, is ∙ sym is')

literal_once : (a b : LiteralParts) → IsLiteral a → IsLiteral b → literal_text a ≡ literal_text b → a ≡ b
literal_once a b h k e =
    let l = lex_once a.lex b.lex (suffix_text a a.lang) (suffix_text b b.lang) (same_tails 34 34 _ _ e) in
    let s = suffix_once a b (suffix a h) (suffix b k) l.1 in
    λ i. record { lex = l.0 i; datatype = s.0 i; lang = s.1 i }

pub texts_distinct : TextsAreDistinct
texts_distinct (Iri a) (Iri b) h k e = ap (λ z. Iri z) (iri_once a b e)
texts_distinct (Iri a) (Blank b) h k e = absurd (not_head 60 95 _ _ (λ o. omega (arith, o)) e)
texts_distinct (Iri a) (Lit b) h k e = absurd (not_head 60 34 _ _ (λ o. omega (arith, o)) e)
texts_distinct (Blank a) (Iri b) h k e = absurd (not_head 95 60 _ _ (λ o. omega (arith, o)) e)
texts_distinct (Blank a) (Blank b) h k e =
    ap (λ z. Blank z) (printed_distinct a b h k (same_tails 58 58 (printed_name a) (printed_name b) (same_tails 95 95 (58 ∷ printed_name a) (58 ∷ printed_name b) e)))
texts_distinct (Blank a) (Lit b) h k e = absurd (not_head 95 34 _ _ (λ o. omega (arith, o)) e)
texts_distinct (Lit a) (Iri b) h k e = absurd (not_head 34 60 _ _ (λ o. omega (arith, o)) e)
texts_distinct (Lit a) (Blank b) h k e = absurd (not_head 34 95 _ _ (λ o. omega (arith, o)) e)
texts_distinct (Lit a) (Lit b) h k e = ap (λ z. Lit z) (literal_once a b h k e)
