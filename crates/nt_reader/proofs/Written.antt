-- Labels and tags stand behind their marks.
use Rattle.std.proofs.Common.{◌≡◌, ℕ, ◌<◌, List, ◌∷◌, ◌++◌, sym, ap, ◌∙◌, arith, codes, encode_utf8_all}
use Rattle.std.specs.List.{after_first}
use Rattle.std.specs.Str.{chars, IsUtf8}
use Rattle.std.proofs.lemmas.Str.{encodes-chars, encode_ascii}
use Rattle.rdf_lex.specs.declared.kinds.Kind.TheVariants as kinds
use Rattle.rdf_lex.specs.declared.kinds.Mode.TheVariants.{NTriples}
use Rattle.rdf_lex.specs.Phrases.{Spells}
use Rattle.rdf_lex.specs.Spelling.{Spelling}
use Rattle.rdf_lex.proofs.Standing.{char_is}
use Rattle.term_tokens.specs.Terms.{is_colon, is_at}
use Rattle.nt_reader.proofs.Quotes.{first_is}

ascii_first : (c : ℕ) (cs : List ℕ) → c < 128 → encode_utf8_all (c ∷ cs) ≡ c ∷ encode_utf8_all cs
ascii_first c cs h = ap (λ (v : List ℕ). v ++ encode_utf8_all cs) (encode_ascii c h)

label_by : (text vs : List ℕ) → IsUtf8 text → chars text ≡ 95 ∷ 58 ∷ vs → text ≡ codes "_:" ++ after_first is_colon text
label_by text vs u e =
    let is : text ≡ 95 ∷ 58 ∷ encode_utf8_all vs = sym (encodes-chars text u) ∙ ap encode_utf8_all e ∙ ascii_first 95 (58 ∷ vs) (omega arith)
    ∙ ap (λ (v : List ℕ). 95 ∷ v) (ascii_first 58 vs (omega arith)) in
    is ∙ ap (λ (v : List ℕ). codes "_:" ++ after_first is_colon v) (sym is)

pub label_written : (text : List ℕ) → IsUtf8 text → Spells (Spelling NTriples kinds.BlankLabel) (chars text) → text ≡ codes "_:" ++ after_first is_colon text
label_written text u (xs, ys, e, h, (us, vs, f, k, rest)) =
    label_by text vs u (first_is 95 (chars text) xs ys e (char_is 95 xs h) ∙ ap (λ (v : List ℕ). 95 ∷ v) (first_is 58 ys us vs f (char_is 58 us k)))

tag_by : (text vs : List ℕ) → IsUtf8 text → chars text ≡ 64 ∷ vs → text ≡ codes "@" ++ after_first is_at text
tag_by text vs u e =
    let is : text ≡ 64 ∷ encode_utf8_all vs = sym (encodes-chars text u) ∙ ap encode_utf8_all e ∙ ascii_first 64 vs (omega arith) in
    is ∙ ap (λ (v : List ℕ). codes "@" ++ after_first is_at v) (sym is)

pub tag_written : (text : List ℕ) → IsUtf8 text → Spells (Spelling NTriples kinds.LangTag) (chars text) → text ≡ codes "@" ++ after_first is_at text
tag_written text u (xs, ys, e, h, rest) = tag_by text ys u (first_is 64 (chars text) xs ys e (char_is 64 xs h))
