-- The components of a text, put together again, are the text.
use Rattle.std.proofs.Common.{◌≡◌, ℕ, Bool, true, false, cond, List, [], ◌∷◌, ◌++◌, drop, codes, is_some, eqb, Some, None, refl, sym, ap, ◌∙◌, ◌&&◌}
use Rattle.std.proofs.lemmas.Bool.Decides.{Decides-eqb}
use Rattle.std.proofs.lemmas.Slice.Eq.{starts_is}
use Rattle.std.specs.List.{position_or_len}
use Rattle.std.proofs.lemmas.List.{append-nil, append_assoc, take-append-drop}
use Rattle.iri_resolve.specs.Text.{colon, slash, question, hash, has, before, after, part_after, from}
use Rattle.iri_resolve.specs.Reference.{components_of, is_scheme, front_scheme, after_scheme, has_authority, authority_of, path_of}
use Rattle.iri_resolve.specs.Resolution.{text_of, with_mark_before, with_mark_after}
use Rattle.iri_resolve.proofs.Places.{before-append-after, before-all}

-- a cut that is made where a test passes: the part behind the mark is put back
cut_back : (b : Bool) (c : ℕ) (front rest bs : List ℕ) → (b ≡ true → front ++ c ∷ rest ≡ bs) → (b ≡ false → front ≡ bs) → front ++ with_mark_before (c ∷ []) (cond b (Some rest) None) ≡ bs
cut_back true c front rest bs h g = h refl
cut_back false c front rest bs h g = append-nil front ∙ g refl

-- the same of the part before the mark
cut_front : (b : Bool) (c : ℕ) (front rest bs : List ℕ) → (b ≡ true → front ++ c ∷ rest ≡ bs) →
    with_mark_after (c ∷ []) (cond b (Some front) None) ++ cond (is_some (cond b (Some front) None)) rest bs ≡ bs
cut_front true c front rest bs h = append_assoc front (c ∷ []) rest ∙ h refl
cut_front false c front rest bs h = refl

-- the same of a part with a mark before it, up to the rest
cut_led : (b : Bool) (mark part rest bs : List ℕ) → (b ≡ true → mark ++ (part ++ rest) ≡ bs) → with_mark_before mark (cond b (Some part) None) ++ cond b rest bs ≡ bs
cut_led true mark part rest bs h = append_assoc mark part rest ∙ h refl
cut_led false mark part rest bs h = refl

left_true : (a b : Bool) → (a && b) ≡ true → a ≡ true
left_true true b e = refl
left_true false b e = e

-- what a cut takes away is put back behind its mark
pub before-with_mark_before : (c : ℕ) (bs : List ℕ) → before c bs ++ with_mark_before (c ∷ []) (part_after c bs) ≡ bs
before-with_mark_before c bs = cut_back (has c bs) c (before c bs) (after c bs) bs (before-append-after c bs) (before-all c bs)

-- the scheme and its `:` are put back
pub with_mark_after-after_scheme : (bs : List ℕ) → with_mark_after (codes ":") (front_scheme bs) ++ after_scheme bs ≡ bs
with_mark_after-after_scheme bs =
    cut_front (has colon bs && is_scheme (before colon bs)) colon (before colon bs) (after colon bs) bs
    (λ e. before-append-after colon bs (left_true (has colon bs) (is_scheme (before colon bs)) e))

-- the authority and its `//` are put back
pub with_mark_before-path_of : (bs : List ℕ) → with_mark_before (codes "//") (authority_of bs) ++ path_of bs ≡ bs
with_mark_before-path_of bs =
    cut_led (has_authority bs) (codes "//") (before slash (drop 2 bs)) (from slash (drop 2 bs)) bs
    (λ e. ap (λ t. codes "//" ++ t) (take-append-drop (position_or_len (λ b. eqb b slash) (drop 2 bs)) (drop 2 bs))
    ∙ sym ((starts_is Decides-eqb bs (codes "//") (has_authority bs) refl).0 e))

pub text_of-components_of : (text : List ℕ) → text_of (components_of text) ≡ text
text_of-components_of text =
    let whole = before hash text in
    let front = before question whole in
    ap (λ t. t ++ with_mark_before (codes "?") (part_after question whole) ++ with_mark_before (codes "#") (part_after hash text))
    (append_assoc (with_mark_after (codes ":") (front_scheme front)) (with_mark_before (codes "//") (authority_of (after_scheme front))) (path_of (after_scheme front))
    ∙ ap (λ t. with_mark_after (codes ":") (front_scheme front) ++ t) (with_mark_before-path_of (after_scheme front))
    ∙ with_mark_after-after_scheme front)
    ∙ ap (λ t. t ++ with_mark_before (codes "#") (part_after hash text)) (before-with_mark_before question whole)
    ∙ before-with_mark_before hash text
