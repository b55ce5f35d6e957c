-- Texts, labels and cardinalities are read back from what is written of them.
use Rattle.std.proofs.Common.{◌≡◌, ◌∙◌, ap, refl, sym, ℕ, ◌<◌, ◌^◌, arith, Bool, true, false, true≢false, List, [], ◌∷◌, ◌++◌, drop, lit<, nat_eq, encode_utf8_all, eq-eqb, nat_lt}
use borrow.Author.Tests.{eqb-true}
use Rattle.std.proofs.lemmas.Bool.Decides.{nat_tests}
use Rattle.std.proofs.lemmas.Slice.Eq.{starts_is}
use Rattle.std.proofs.lemmas.Str.{chars-encodes, encode_ascii}
use Rattle.std.specs.Bool.{Decides}
use Rattle.std.specs.List.{starts_with}
use Rattle.std.specs.Prelude.{Option, Some, None, codes, option_map, if◌then◌else◌}
use Rattle.std.specs.Str.{all_scalars, chars}
use Rattle.serde_json.specs.Data.{Data, number, unsigned}
use Rattle.serde_json.specs.Find.{get}
use Rattle.tally.specs.Plan.{is_once}
use Rattle.tally.specs.Span.{IsOrdered}
use Rattle.tally.specs.declared.Bound.{Bound}
use Rattle.tally.specs.declared.Bound.TheVariants.{Upto, Free}
use Rattle.schema_documents.specs.Labels.{IsTextLabel}
use Rattle.schema_documents.specs.declared.label.Label.{Label}
use Rattle.schema_documents.specs.declared.label.Label.TheVariants as Labels
use Rattle.shexj_reader.specs.Cardinalities.{IsCardinality, least, most}
use Rattle.shexj_reader.specs.Constraints.{small}
use Rattle.shexj_reader.specs.Keys.{flag, text, text_if_any, texts, texts_in}
use Rattle.shexj_reader.specs.Labels.{label, label_from, label_if_any}
use Rattle.shexj_writer.specs.Expressible.{IsLabel}
use Rattle.shexj_writer.specs.Expressible as Expressible
use Rattle.shexj_writer.specs.Held as Held
use Rattle.shexj_writer.specs.Texts.{bound_data, flag_data, label_data, max_data, min_data, text_data, texts_data, texts_items}

-- ---- texts

pub text_back : (t : List ℕ) → all_scalars t ≡ true → text (Some (text_data t)) ≡ Some t
text_back t h = ap (λ (x : List ℕ). Some x) (chars-encodes t h)

pub text_if_any_back : (o : Option (List ℕ)) → Held.IsTextIfAny o → text_if_any (option_map text_data o) ≡ Some o
text_if_any_back None h = refl
text_if_any_back (Some t) h = ap (λ (x : List ℕ). Some (Some x)) (chars-encodes t h)

texts_in_back : (ts : List (List ℕ)) → Held.AreTexts ts → texts_in (texts_items ts) ≡ Some ts
texts_in_back [] h = refl
texts_in_back (t ∷ ts) h = rw (chars-encodes t h.0, texts_in_back ts h.1) refl

pub texts_back : (ts : List (List ℕ)) → Held.AreTexts ts → texts (texts_data ts) ≡ Some ts
texts_back [] h = refl
texts_back (t ∷ ts) h = texts_in_back (t ∷ ts) h

pub flag_back : (b : Bool) → flag (flag_data b) ≡ Some b
flag_back true = refl
flag_back false = refl

-- ---- labels

same_number : (a b : ℕ) → Decides (nat_eq a b) (a ≡ b)
same_number a b = (eqb-true a b, eq-eqb a b)

begins_blank : (name : List ℕ) → starts_with nat_eq (95 ∷ 58 ∷ name) (codes "_:") ≡ true
begins_blank name = (starts_is same_number (95 ∷ 58 ∷ name) (codes "_:") _ refl).1 name refl

blank_bytes : (name : List ℕ) → codes "_:" ++ encode_utf8_all name ≡ encode_utf8_all (95 ∷ 58 ∷ name)
blank_bytes name =
    sym (ap (λ x. x ++ encode_utf8_all (58 ∷ name)) (encode_ascii 95 (lit< tt)) ∙ ap (λ x. 95 ∷ (x ++ encode_utf8_all name)) (encode_ascii 58 (lit< tt)))

from_blank : (name : List ℕ) → label_from (95 ∷ 58 ∷ name) ≡ Labels.Blank name
from_blank name = ap (λ (b : Bool). if b then Labels.Blank (drop 2 (95 ∷ 58 ∷ name)) else Labels.Iri (95 ∷ 58 ∷ name)) (begins_blank name)

from_iri : (iri : List ℕ) → starts_with nat_eq iri (codes "_:") ≡ false → label_from iri ≡ Labels.Iri iri
from_iri iri h = ap (λ (b : Bool). if b then Labels.Blank (drop 2 iri) else Labels.Iri iri) h

pub label_back : (l : Label) → IsLabel l → IsTextLabel l → label (Some (label_data l)) ≡ Some l
label_back (Labels.Iri iri) is h = ap (λ (x : List ℕ). Some (label_from x)) (chars-encodes iri h) ∙ ap (λ (x : Label). Some x) (from_iri iri is)
label_back (Labels.Blank name) is h =
    ap (λ (x : List ℕ). Some (label_from (chars x))) (blank_bytes name)
    ∙ ap (λ (x : List ℕ). Some (label_from x)) (chars-encodes (95 ∷ 58 ∷ name) h)
    ∙ ap (λ (x : Label). Some x) (from_blank name)

pub label_if_any_back : (o : Option Label) → Expressible.IsLabelIfAny o → Held.IsLabelIfAny o → label_if_any (option_map label_data o) ≡ Some o
label_if_any_back None is h = refl
label_if_any_back (Some l) is h = ap (option_map (λ (x : Label). Some x)) (label_back l is h)

-- ---- cardinalities

small_is : (n : ℕ) → n < 2 ^ 32 → small n ≡ Some n
small_is n h = let low : nat_lt n (2 ^ 32) ≡ true = grind (arith, nat_tests) in ap (λ (b : Bool). if b then Some n else None) low

once_is : (low : ℕ) (high : Bound) → is_once low high ≡ true → (low ≡ 1) × (high ≡ Upto 1)
once_is low (Upto m) e = (grind (arith, nat_tests), ap Upto (grind (arith, nat_tests)))
once_is low Free e = absurd (true≢false (sym e))

min_at : (b : Bool) (low : ℕ) (high : Bound) → is_once low high ≡ b → low < 2 ^ 32 → least (if b then None else Some (number (unsigned low))) ≡ Some low
min_at true low high e h = ap (λ (n : ℕ). Some n) (sym (once_is low high e).0)
min_at false low high e h = small_is low h

bound_back : (high : Bound) → Held.IsBound high → most (Some (bound_data high)) ≡ Some high
bound_back (Upto m) h = ap (option_map Upto) (small_is m h)
bound_back Free h = refl

max_at : (b : Bool) (low : ℕ) (high : Bound) → is_once low high ≡ b → Held.IsBound high → most (if b then None else Some (bound_data high)) ≡ Some high
max_at true low high e h = ap (λ (x : Bound). Some x) (sym (once_is low high e).1)
max_at false low high e h = bound_back high h

-- an object with this minimum and this maximum
pub counted_back : (low : ℕ) (high : Bound) (d : Data) → get (codes "min") d ≡ min_data low high → get (codes "max") d ≡ max_data low high →
    IsOrdered low high → low < 2 ^ 32 → Held.IsBound high → IsCardinality low high d
counted_back low high d has_min has_max ordered few bounded = record {
  min = ap least has_min ∙ min_at (is_once low high) low high refl few;
  max = ap most has_max ∙ max_at (is_once low high) low high refl bounded;
  ordered = ordered;
}
