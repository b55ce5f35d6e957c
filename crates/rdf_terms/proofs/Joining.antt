-- Texts that are joined one behind the other, and the piece of each.
use Rattle.std.proofs.Common.{◌≡◌, ◌≤◌, ◌<◌, ◌+◌, ◌-◌, ◌⊎◌, ℕ, zero, suc, inl, inr, List, [], ◌∷◌, ◌++◌, ap, append_assoc, arith, drop, get_or, length, length-append, length-drop, refl, replicate, sym, take, true, Some, None, codes, encode_utf8_all, ◌∙◌}
use Rattle.std.specs.List.{flat_map}
use Rattle.std.specs.Prelude.{slice_get}
use Rattle.std.proofs.Math.Seq.{drop-append_seam, get_or-append_seam, take-append_seam}
use Rattle.std.proofs.lemmas.Bool.{cond-true}
use Rattle.std.proofs.lemmas.Grind.{flat_map-append}
use Rattle.std.proofs.lemmas.List.{append-nil, get_or_append_left, take-append-drop, take_all, take_more}
use Rattle.std.proofs.lemmas.Option.{get_or_from_slice_get, slice_get_past, slice_get_within}
use Rattle.rdf_terms.specs.JoinedTexts.{AreJoined}
use Rattle.rdf_terms.specs.Literals.{LiteralParts}
use Rattle.rdf_terms.specs.Order.{text_at, text_if_any}
use Rattle.rdf_terms.specs.TextBytes.{escaped_byte}
use Rattle.rdf_terms.specs.Texts.{same_text}
use Rattle.rdf_terms.specs.Vocabulary.{xsd_string}
use Rattle.rdf_terms.specs.Written.{escaped, literal_text, suffix_text, term_text}
use Rattle.rdf_terms.specs.declared.terms.Term.{Term}
use Rattle.rdf_terms.specs.declared.terms.TermId.{TermId}
use Rattle.rdf_terms.proofs.Escapes.{escaped_bytes}

-- the texts of the first terms
abbrev pub front : List Term → ℕ → List ℕ
front terms k = flat_map term_text (take k terms)

pub front_more : (terms : List Term) (k : ℕ) (t : Term) → slice_get terms k ≡ Some t → front terms (k + 1) ≡ front terms k ++ term_text t
front_more terms k t at =
    ap (flat_map term_text) (take_more terms k t (slice_get_within terms k t at) ∙ ap (λ y. take k terms ++ y ∷ []) (get_or_from_slice_get terms k t t at))
    ∙ flat_map-append term_text (take k terms) (t ∷ [])
    ∙ ap (λ z. front terms k ++ z) (append-nil (term_text t))

-- what stands behind a front
pub front_back : (terms : List Term) (k : ℕ) → flat_map term_text terms ≡ front terms k ++ flat_map term_text (drop k terms)
front_back terms k = ap (flat_map term_text) (sym (take-append-drop k terms)) ∙ flat_map-append term_text (take k terms) (drop k terms)

pub front_within : (terms : List Term) (k : ℕ) (bytes : List ℕ) → bytes ≡ flat_map term_text terms → length (front terms k) ≤ length bytes
front_within terms k bytes is =
    let e = ap length (is ∙ front_back terms k) ∙ length-append (front terms k) (flat_map term_text (drop k terms)) in
    omega (arith, e)

pub front_up : (terms : List Term) (k : ℕ) (t : Term) → slice_get terms k ≡ Some t → length (front terms (k + 1)) ≡ length (front terms k) + length (term_text t)
front_up terms k t at = ap length (front_more terms k t at) ∙ length-append (front terms k) (term_text t)

-- the piece of a term
pub piece_at :
    (terms : List Term) (bytes : List ℕ) (k first last : ℕ) (t : Term) → slice_get terms k ≡ Some t → bytes ≡ flat_map term_text terms → first ≡
    length (front terms k) → last ≡ length (front terms (k + 1)) →
    take (last - first) (drop first bytes) ≡ term_text t
piece_at terms bytes k first last t at is begins ends =
    let long : last - first ≡ length (term_text t) = (let e = front_up terms k t at in omega (arith, e, begins, ends)) in
    let whole : bytes ≡ front terms k ++ (term_text t ++ flat_map term_text (drop (k + 1) terms)) =
    is ∙ front_back terms (k + 1) ∙ ap (λ z. z ++ flat_map term_text (drop (k + 1) terms)) (front_more terms k t at)
    ∙ append_assoc (front terms k) (term_text t) (flat_map term_text (drop (k + 1) terms)) in
    (λ i. take (long i) (drop (begins i) (whole i)))
    ∙ ap (take (length (term_text t))) (drop-append_seam (front terms k) (term_text t ++ flat_map term_text (drop (k + 1) terms)))
    ∙ take-append_seam (term_text t) (flat_map term_text (drop (k + 1) terms))

-- the texts of the first terms, with the places at which they begin
pub record Begun (terms : List Term) (i : ℕ) (bytes firsts : List ℕ) : Type 0 where
  pub texts : bytes ≡ front terms i
  pub long : length firsts ≡ i + 1
  pub begins : (k : ℕ) → k ≤ i → get_or firsts k 0 ≡ length (front terms k)

pub none_begun : (terms : List Term) (bytes firsts : List ℕ) → bytes ≡ [] → firsts ≡ replicate 1 0 → Begun terms 0 bytes firsts
none_begun terms bytes firsts none one = record {
  texts = none;
  long = ap length one;
  begins = λ k l. let e : k ≡ 0 = omega arith in ap (λ z. get_or firsts z 0) e ∙ ap (λ v. get_or v 0 0) one ∙ sym (ap (λ z. length (front terms z)) e);
}

pub begun_more :
    (terms : List Term) (i : ℕ) (bytes firsts more new : List ℕ) (end : ℕ) (t : Term) → slice_get terms i ≡ Some t → more ≡ bytes ++ term_text t → end ≡
    length more → new ≡ firsts ++ end ∷ [] → Begun terms i bytes firsts →
    Begun terms (i + 1) more new
begun_more terms i bytes firsts more new end t at added ends is begun = record {
  texts = whole;
  long = let a = begun.long in let e = ap length is ∙ length-append firsts (end ∷ []) in omega (arith, a, e);
  begins = λ k l. by k l (order k (i + 1));
}
  where
    whole : more ≡ front terms (i + 1)
    whole = added ∙ ap (λ z. z ++ term_text t) begun.texts ∙ sym (front_more terms i t at)

    order : (x y : ℕ) → (x < y) ⊎ (y ≤ x)
    order x y = grind arith

    by : (k : ℕ) → k ≤ i + 1 → (k < i + 1) ⊎ (i + 1 ≤ k) → get_or new k 0 ≡ length (front terms k)
    by k l (inl h) = ap (λ v. get_or v k 0) is ∙ get_or_append_left firsts (end ∷ []) 0 k (let a = begun.long in omega arith) ∙ begun.begins k (omega arith)
    by k l (inr h) =
        let e : k ≡ length firsts = (let a = begun.long in omega arith) in
        let last : k ≡ i + 1 = omega arith in
        ap (λ v. get_or v k 0) is ∙ ap (λ z. get_or (firsts ++ end ∷ []) z 0) e ∙ get_or-append_seam firsts end [] 0 ∙ ends ∙ ap length whole ∙ sym (ap (λ z. length (front terms z)) last)

pub begun_all : (terms : List Term) (i : ℕ) (bytes firsts : List ℕ) → i ≡ length terms → Begun terms i bytes firsts → AreJoined terms bytes firsts
begun_all terms i bytes firsts all begun = record {
  texts = begun.texts ∙ ap (flat_map term_text) (take_all i terms (omega (arith, all)));
  long = begun.long ∙ ap (λ z. z + 1) all;
  begins = λ k l. begun.begins k (omega (arith, all));
}

-- a number that the table has is that of a term
pub some_at : (terms : List Term) (k : ℕ) → k < length terms → (t : Term) × (slice_get terms k ≡ Some t)
some_at [] k l = absurd (omega arith)
some_at (t ∷ terms) zero l = (t, refl)
some_at (t ∷ terms) (suc k) l = some_at terms k (omega arith)

rest_is : (bytes : List ℕ) (n : ℕ) → take (length bytes - n) (drop n bytes) ≡ drop n bytes
rest_is bytes n = take_all (length bytes - n) (drop n bytes) (omega (arith, length-drop n bytes))

pub text_there :
    (terms : List Term) (bytes lent : List ℕ) (n : TermId) (first last : ℕ) → n.0 < length terms → lent ≡ bytes → bytes ≡ flat_map term_text terms → first ≡
    length (front terms n.0) → last ≡ length (front terms (n.0 + 1)) →
    take (last - first) (take (length lent - first) (drop first lent)) ≡ text_at terms n
text_there terms bytes lent n first last l same is begins ends =
    let (t, at) = some_at terms n.0 l in
    ap (take (last - first)) (rest_is lent first ∙ ap (drop first) same)
    ∙ piece_at terms bytes n.0 first last t at is begins ends ∙ ap text_if_any (sym at)

pub no_text : (terms : List Term) (n : TermId) → length terms ≤ n.0 → ◌≡◌ {A = List ℕ} [] (text_at terms n)
no_text terms n past = ap text_if_any (sym (slice_get_past terms n.0 past))

pub in_turn : (terms : List Term) (k first last : ℕ) → k < length terms → first ≡ length (front terms k) → last ≡ length (front terms (k + 1)) → first ≤ last
in_turn terms k first last l begins ends =
    let (t, at) = some_at terms k l in
    let e = front_up terms k t at in
    omega (arith, e, begins, ends)

-- ---- literals

pub no_suffix : (l : LiteralParts) → l.lang ≡ None → same_text l.datatype xsd_string ≡ true → suffix_text l l.lang ≡ []
no_suffix l is same = ap (suffix_text l) is ∙ cond-true _ _ _ same

pub literal_joined :
    (l : LiteralParts) (out a b c d : List ℕ) → a ≡ out ++ codes "\"" → b ≡ a ++ flat_map escaped_byte (encode_utf8_all l.lex) → c ≡ b ++ codes "\"" → d ≡
    c ++ suffix_text l l.lang → d ≡ out ++ literal_text l
literal_joined l out a b c d one two three four =
    let whole : d ≡ (((out ++ codes "\"") ++ flat_map escaped l.lex) ++ codes "\"") ++ suffix_text l l.lang = (
    four ∙ ap (λ z. z ++ suffix_text l l.lang) (three ∙ ap (λ z. z ++ codes "\"") (two ∙ (λ i. one i ++ sym (escaped_bytes l.lex) i)))
    ) in
    whole
    ∙ append_assoc ((out ++ codes "\"") ++ flat_map escaped l.lex) (codes "\"") (suffix_text l l.lang)
    ∙ append_assoc (out ++ codes "\"") (flat_map escaped l.lex) (codes "\"" ++ suffix_text l l.lang)
    ∙ append_assoc out (codes "\"") (flat_map escaped l.lex ++ (codes "\"" ++ suffix_text l l.lang))
