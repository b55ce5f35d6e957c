-- Stems of texts by their characters and by their bytes.
use Rattle.std.proofs.Common.{◌≡◌, ℕ, Bool, true, false, true≢false, ◌⊎◌, inl, inr, IsTrue, ◌↔◌, List, [], ◌∷◌, ◌++◌, length, drop, suc, arith, refl, ap, sym, ◌∙◌, ◌≢◌, append_assoc, encode_utf8_all, nat_eq, lit<}
use borrow.Author.Tests.{eqb-true}
use Rattle.std.proofs.Math.Utf8.{encode}
use Rattle.std.proofs.lemmas.Bool.Decides.{Decides-eqb}
use Rattle.std.proofs.lemmas.List.{append-nil}
use Rattle.std.proofs.lemmas.Slice.Eq.{starts_is}
use Rattle.std.proofs.lemmas.Str.{cons_from_encodes, encode_ascii, encodes-append, encodes_same}
use Rattle.std.specs.List.{starts_with}
use Rattle.value_sets.specs.Matching.{IsCut}
use Rattle.value_sets.specs.Stems.{HasPrefix, IsInLanguage, hyphen}

-- what stands behind a text in the bytes are characters that stand behind it
pub behind : (cs ds : List ℕ) (rest : List ℕ) → encode_utf8_all cs ≡ encode_utf8_all ds ++ rest →
    (es : List ℕ) × (cs ≡ ds ++ es) × (encode_utf8_all es ≡ rest)
behind cs [] rest e = (cs, refl, e)
behind cs (d ∷ ds) rest e =
    let (fs, is, left) = cons_from_encodes cs (encode_utf8_all ds ++ rest) d (e ∙ append_assoc (encode d) (encode_utf8_all ds) rest) in
    let (es, more, last) = behind fs ds rest left in
    (es, is ∙ ap (λ z. d ∷ z) more, last)

-- bytes begin with bytes exactly where the characters do
pub prefix_told : (stem text : List ℕ) (b : Bool) → b ≡ starts_with nat_eq (encode_utf8_all text) (encode_utf8_all stem) → IsTrue b ↔ HasPrefix stem text
prefix_told stem text b is =
    let told = starts_is Decides-eqb (encode_utf8_all text) (encode_utf8_all stem) b is in (
      λ h. let found = behind text stem (drop (length (encode_utf8_all stem)) (encode_utf8_all text)) (told.0 h) in (found.0, found.1),
      λ h. told.1 (encode_utf8_all h.0) (ap encode_utf8_all h.1 ∙ encodes-append stem h.0),
    )

-- no characters have no bytes
no_bytes : (cs : List ℕ) → encode_utf8_all cs ≡ [] → cs ≡ []
no_bytes cs e = encodes_same cs [] e

pub cut_language : (stem tag rest : List ℕ) → encode_utf8_all tag ≡ encode_utf8_all stem ++ rest → IsCut rest → IsInLanguage stem tag
cut_language stem tag rest e cut =
    let found = behind tag stem rest e in
    go found.0 found.1 found.2 cut
  where
    go : (es : List ℕ) → tag ≡ stem ++ es → encode_utf8_all es ≡ rest → IsCut rest → IsInLanguage stem tag
    go es is bytes (inl none) = inl (is ∙ ap (λ z. stem ++ z) (no_bytes es (bytes ∙ none)) ∙ append-nil stem)
    go es is bytes (inr (more, goes)) =
        let cut = cons_from_encodes es more hyphen (bytes ∙ goes ∙ ap (λ z. z ++ more) (sym (encode_ascii hyphen (lit< tt)))) in
        inr (inl (cut.0, is ∙ ap (λ z. stem ++ z) cut.1 ∙ sym (append_assoc stem (hyphen ∷ []) cut.0)))

cancelled : (xs ys zs : List ℕ) → xs ++ ys ≡ xs ++ zs → ys ≡ zs
cancelled [] ys zs e = e
cancelled (x ∷ xs) ys zs e = cancelled xs ys zs (ap (λ z. drop 1 z) e)

-- what stands behind a stem that is not empty in a tag of its language is cut off by a hyphen, if it is anything
pub language_cut : (stem tag rest : List ℕ) → encode_utf8_all tag ≡ encode_utf8_all stem ++ rest → IsInLanguage stem tag → (stem ≡ []) ⊎ IsCut rest
language_cut stem tag rest e h =
    let found = behind tag stem rest e in
    go found.0 found.1 found.2 h
  where
    go : (es : List ℕ) → tag ≡ stem ++ es → encode_utf8_all es ≡ rest → IsInLanguage stem tag → (stem ≡ []) ⊎ IsCut rest
    go es is bytes (inl same) =
        inr (inl (sym bytes ∙ ap encode_utf8_all (cancelled stem es [] (sym is ∙ same ∙ sym (append-nil stem)))))
    go es is bytes (inr (inl (more, goes))) =
        let after : es ≡ hyphen ∷ more = cancelled stem es (hyphen ∷ more) (sym is ∙ goes ∙ append_assoc stem (hyphen ∷ []) more) in
        inr (inr (encode_utf8_all more, sym bytes ∙ ap encode_utf8_all after ∙ ap (λ z. z ++ encode_utf8_all more) (encode_ascii hyphen (lit< tt))))
    go es is bytes (inr (inr none)) = inl none

language_prefix : (stem tag : List ℕ) → IsInLanguage stem tag → HasPrefix stem tag
language_prefix stem tag (inl same) = ([], same ∙ sym (append-nil stem))
language_prefix stem tag (inr (inl (more, goes))) = (hyphen ∷ more, goes ∙ append_assoc stem (hyphen ∷ []) more)
language_prefix stem tag (inr (inr none)) = (tag, ap (λ z. z ++ tag) (sym none))

-- a tag that does not begin with the stem is not of its language
pub no_language : (stem tag : List ℕ) → ((rest : List ℕ) → encode_utf8_all tag ≡ encode_utf8_all stem ++ rest → ⊥) → ¬ IsInLanguage stem tag
no_language stem tag none h =
    let p = language_prefix stem tag h in
    none (encode_utf8_all p.0) (ap encode_utf8_all p.1 ∙ encodes-append stem p.0)

-- the bytes of a tag that begins with a stem
pub stem_bytes : (stem tag stem_text tag_text rest left : List ℕ) → tag_text ≡ encode_utf8_all tag → stem_text ≡ encode_utf8_all stem →
    tag_text ≡ stem_text ++ left → rest ≡ left → encode_utf8_all tag ≡ encode_utf8_all stem ++ rest
stem_bytes stem tag stem_text tag_text rest left is_tag is_stem begins is_rest = cc

-- and of one that does not
pub no_stem : (stem tag stem_text tag_text : List ℕ) → tag_text ≡ encode_utf8_all tag → stem_text ≡ encode_utf8_all stem → ((rest : List ℕ) → tag_text ≢ stem_text ++ rest) → ¬ IsInLanguage stem tag
no_stem stem tag stem_text tag_text is_tag is_stem none =
    no_language stem tag (λ rest e. none rest (is_tag ∙ e ∙ ap (λ z. z ++ rest) (sym is_stem)))

no_length : (xs : List ℕ) → nat_eq (length xs) 0 ≡ true → xs ≡ []
no_length [] e = refl
no_length (x ∷ xs) e = let none : suc (length xs) ≡ 0 = eqb-true (suc (length xs)) 0 e in absurd (omega arith)

-- a stem is empty where its bytes are none
pub empty_stem : (stem text : List ℕ) (b : Bool) → text ≡ encode_utf8_all stem → b ≡ nat_eq (length text) 0 → b ≡ true → stem ≡ []
empty_stem stem text b is told empty = no_bytes stem (sym is ∙ no_length text (sym told ∙ empty))

pub some_stem : (stem text : List ℕ) (b : Bool) → text ≡ encode_utf8_all stem → b ≡ nat_eq (length text) 0 → b ≡ false → stem ≢ []
some_stem stem text b is told full e =
    true≢false (sym (ap (λ z. nat_eq (length z) 0) (is ∙ ap encode_utf8_all e)) ∙ (sym told ∙ full))
