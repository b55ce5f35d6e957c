-- Labels, from the bytes that stand in a JSON value.
use Rattle.std.proofs.Common.{◌≡◌, ◌≢◌, ℕ, true, false, Bool, List, ◌∷◌, ◌++◌, drop, refl, sym, ap, ◌∙◌, nat_eq, eq-eqb, encode_utf8_all, lit<, ◌<◌, subst}
use borrow.Author.Tests.{eqb-true}
use Rattle.std.proofs.lemmas.Slice.Eq.{starts_is}
use Rattle.std.proofs.lemmas.Str.{cons_from_encodes, encode_ascii, encodes-chars, chars-encodes, scalars-chars}
use Rattle.std.specs.Bool.{Decides}
use Rattle.std.specs.List.{starts_with}
use Rattle.std.specs.Prelude.{codes, if◌then◌else◌}
use Rattle.std.specs.Str.{IsUtf8, all_scalars, chars}
use Rattle.schema_documents.specs.declared.label.Label.TheVariants as Labels
use Rattle.shexj_reader.specs.Labels.{label_from}

same_number : (a b : ℕ) → Decides (nat_eq a b) (a ≡ b)
same_number a b = (eqb-true a b, eq-eqb a b)

begins : (xs : List ℕ) → starts_with nat_eq xs (codes "_:") ≡ true → xs ≡ 95 ∷ 58 ∷ drop 2 xs
begins xs h = (starts_is same_number xs (codes "_:") _ refl).0 h

begun : (xs rest : List ℕ) → xs ≡ 95 ∷ 58 ∷ rest → starts_with nat_eq xs (codes "_:") ≡ true
begun xs rest e = (starts_is same_number xs (codes "_:") _ refl).1 rest e

-- characters that begin with an ASCII character, from the bytes
first_of : (cs bs : List ℕ) (c : ℕ) → c < 128 → encode_utf8_all cs ≡ c ∷ bs → (es : List ℕ) × (cs ≡ c ∷ es) × (encode_utf8_all es ≡ bs)
first_of cs bs c small e = cons_from_encodes cs bs c (e ∙ ap (λ x. x ++ bs) (sym (encode_ascii c small)))

two : (rest : List ℕ) → encode_utf8_all (95 ∷ 58 ∷ rest) ≡ 95 ∷ 58 ∷ encode_utf8_all rest
two rest = ap (λ x. x ++ encode_utf8_all (58 ∷ rest)) (encode_ascii 95 (lit< tt)) ∙ ap (λ x. 95 ∷ (x ++ encode_utf8_all rest)) (encode_ascii 58 (lit< tt))

choose : (t : List ℕ) (b : Bool) → starts_with nat_eq t (codes "_:") ≡ b → label_from t ≡ (if b then Labels.Blank (drop 2 t) else Labels.Iri t)
choose t b e = ap (λ (x : Bool). if x then Labels.Blank (drop 2 t) else Labels.Iri t) e

pub blank_label : (bs rest : List ℕ) → IsUtf8 bs → bs ≡ 95 ∷ 58 ∷ rest → Labels.Blank (chars rest) ≡ label_from (chars bs)
blank_label bs rest utf e =
    let (es, at, more) = first_of (chars bs) (58 ∷ rest) 95 (lit< tt) (encodes-chars bs utf ∙ e) in
    let (fs, next, last) = first_of es rest 58 (lit< tt) more in
    let whole : chars bs ≡ 95 ∷ 58 ∷ fs = at ∙ ap (λ x. 95 ∷ x) next in
    let fine : all_scalars (95 ∷ 58 ∷ fs) ≡ true = subst (λ (cs : List ℕ). all_scalars cs ≡ true) whole (scalars-chars bs utf) in
    let own : fs ≡ chars rest = sym (chars-encodes fs fine) ∙ ap chars last in
    let dropped : drop 2 (chars bs) ≡ chars rest = ap (λ x. drop 2 x) whole ∙ own in
    sym (choose (chars bs) true (begun (chars bs) fs whole) ∙ ap Labels.Blank dropped)

pub iri_label : (bs : List ℕ) → IsUtf8 bs → ((rest : List ℕ) → bs ≢ 95 ∷ 58 ∷ rest) → Labels.Iri (chars bs) ≡ label_from (chars bs)
iri_label bs utf other = sym (choose (chars bs) (starts_with nat_eq (chars bs) (codes "_:")) refl ∙ go (starts_with nat_eq (chars bs) (codes "_:")) refl)
  where
    go : (b : Bool) → starts_with nat_eq (chars bs) (codes "_:") ≡ b → (if b then Labels.Blank (drop 2 (chars bs)) else Labels.Iri (chars bs)) ≡ Labels.Iri (chars bs)
    go false e = refl
    go true e =
        let whole = begins (chars bs) e in
        absurd (other (encode_utf8_all (drop 2 (chars bs))) (sym (encodes-chars bs utf) ∙ ap encode_utf8_all whole ∙ two (drop 2 (chars bs))))
