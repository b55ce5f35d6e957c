-- Value sets are read back from what is written of them.
use Rattle.std.proofs.Common.{◌≡◌, ◌∙◌, ap, refl, sym, subst, ℕ, arith, Bool, true, false, true≢false, List, [], ◌∷◌, map, encode_utf8_all, nat_le, not}
use Rattle.std.proofs.lemmas.Bool.Decides.{nat_tests}
use Rattle.std.proofs.lemmas.Slice.Eq.{bytes_eq-Decides}
use Rattle.std.proofs.lemmas.Str.{chars-encodes}
use Rattle.std.specs.Char.{to_ascii_lowercase}
use Rattle.std.specs.List.{AllByRecursion}
use Rattle.std.specs.Prelude.{◌&&◌, Option, Some, None, codes, option_map, if◌then◌else◌, is_some, IsSome, ⊤}
use Rattle.std.specs.Str.{all_scalars, bytes_eq, chars}
use Rattle.serde_json.specs.Data.{Data, string}
use Rattle.serde_json.specs.Find.{get}
use Rattle.rdf_terms.specs.Literals.{IsLowered, LiteralParts, is_lowered}
use Rattle.rdf_terms.specs.Vocabulary.{xsd_string}
use Rattle.rdf_terms.specs.declared.terms.Term.{Term}
use Rattle.rdf_terms.specs.declared.terms.Term.TheVariants as Terms
use Rattle.value_sets.specs.declared.value.Except.{Except}
use Rattle.value_sets.specs.declared.value.Except.TheVariants.{Exact, Stem}
use Rattle.value_sets.specs.declared.value.Value.{Value}
use Rattle.value_sets.specs.declared.value.Value.TheVariants as Values
use Rattle.shexj_reader.specs.Keys.{text, text_if_any, word}
use Rattle.shexj_reader.specs.Values.{AreExclusions, HasExclusions, IsExclusion, IsLanguage, IsLiteral, IsOfLiteral, IsRange, IsRangeStem, IsStem, IsTyped, SpellsValue, SpellsValueSet, SpellsValues, taken}
use Rattle.shexj_writer.specs.Expressible.{AreExpressibleValues, IsExceptTag, IsExpressibleTerm, IsExpressibleValue, IsLimited, IsTagIfAny}
use Rattle.shexj_writer.specs.Held.{AreHeldValues, AreHeldValuesIfAny, IsHeldExcept, IsHeldLiteral, IsHeldRange, IsHeldTerm, IsHeldValue, IsTextIfAny}
use Rattle.shexj_writer.specs.Objects.{list_if_any}
use Rattle.shexj_writer.specs.Texts.{text_data}
use Rattle.shexj_reader.specs.Values.{range_type, stem_type}
use Rattle.shexj_writer.specs.Values.{datatype_data, exclusion_data, exclusions_items, language_data, language_fields, literal_data, literal_fields, range_data, range_fields, range_stem_data, stem_data, stem_fields, term_data, value_data, value_set_data, values_items, wildcard_fields}
use Rattle.shexj_reader.specs.declared.stems.StemKind.{StemKind}
use Rattle.shexj_reader.specs.declared.stems.StemKind.TheVariants as Kinds
use Rattle.shexj_writer.proofs.Fields.{both, field_is, only_listed}
use Rattle.shexj_writer.proofs.TextsBack.{text_back, text_if_any_back}

-- ---- language tags

lowered_char : (c : ℕ) → not (nat_le 65 c && nat_le c 90) ≡ true → to_ascii_lowercase c ≡ c
lowered_char c h = grind (arith, nat_tests)

pub lowered_same : (t : List ℕ) → is_lowered t ≡ true → map to_ascii_lowercase t ≡ t
lowered_same [] h = refl
lowered_same (c ∷ cs) h =
    let k = both (not (nat_le 65 c && nat_le c 90)) (is_lowered cs) h in
    let a = lowered_char c k.0 in
    let b = lowered_same cs k.1 in
    λ i. a i ∷ b i

-- ---- literals

-- a text with these bytes has these characters
same_text : (t name : List ℕ) → all_scalars t ≡ true → chars name ≡ name → encode_utf8_all t ≡ name → t ≡ name
same_text t name h own e = sym (chars-encodes t h) ∙ ap chars e ∙ own

string_name : chars xsd_string ≡ xsd_string
unfolding chars
string_name = refl

-- the type and the tag that are written are those of the literal
record AreParts (l : LiteralParts) (type : Option Data) : Type 0 where
  own : Option (List ℕ)
  has_own : text_if_any type ≡ Some own
  typed : IsTyped own l.lang l

no_tag : (o : Option (List ℕ)) → o ≡ None → IsSome o → ⊥
no_tag None e some = true≢false (sym some)
no_tag (Some t) e some = cc

at_string : (b : Bool) (l : LiteralParts) → bytes_eq (encode_utf8_all l.datatype) xsd_string ≡ b → IsHeldLiteral l → l.lang ≡ None → AreParts l (if b then None else Some (text_data l.datatype))
at_string true l e h none = record {
  own = None;
  has_own = refl;
  typed = subst (λ (o : Option (List ℕ)). IsTyped None o l) (sym none) (same_text l.datatype xsd_string h.datatype string_name ((bytes_eq-Decides (encode_utf8_all l.datatype) xsd_string).0 e), none);
}
at_string false l e h none = record {
  own = Some l.datatype;
  has_own = ap (λ (x : List ℕ). Some (Some x)) (chars-encodes l.datatype h.datatype);
  typed = subst (λ (o : Option (List ℕ)). IsTyped (Some l.datatype) o l) (sym none) ((λ same. no_tag l.lang none (h.parts.tagged.1 same)), (refl, none));
}

at_tag : (o : Option (List ℕ)) (l : LiteralParts) → l.lang ≡ o → IsHeldLiteral l → AreParts l (datatype_data o l.datatype)
at_tag None l none h = at_string (bytes_eq (encode_utf8_all l.datatype) xsd_string) l refl h none
at_tag (Some tag) l some h =
    let low : is_lowered tag ≡ true = subst (λ (o : Option (List ℕ)). IsLowered o) some h.parts.lowered in
    record {
      own = None;
      has_own = refl;
      typed = subst (λ (o : Option (List ℕ)). IsTyped None o l) (sym some) (
        h.parts.tagged.0 (ap (λ (o : Option (List ℕ)). is_some o) some),
        some
            ∙ ap (λ (x : List ℕ). Some x) (sym (lowered_same tag low)),
      );
    }

literal_back : (l : LiteralParts) → IsHeldLiteral l → IsOfLiteral (word (datatype_data l.lang l.datatype)) → IsLiteral l (literal_data l)
literal_back l h is =
    let fs = literal_fields l in
    let parts = at_tag l.lang l refl h in
    let has_type : get (codes "type") (literal_data l) ≡ datatype_data l.lang l.datatype = field_is (codes "type") fs refl in
    let has_language : get (codes "language") (literal_data l) ≡ option_map text_data l.lang = field_is (codes "language") fs refl in
    let has_value : get (codes "value") (literal_data l) ≡ Some (text_data l.lex) = field_is (codes "value") fs refl in
    record {
      only = only_listed (codes "language" ∷ codes "type" ∷ codes "value" ∷ []) fs refl;
      other = subst (λ (o : Option Data). IsOfLiteral (word o)) (sym has_type) is;
      value = ap (λ (o : Option Data). text o) has_value ∙ text_back l.lex h.lex;
      type = parts.own;
      has_type = ap text_if_any has_type ∙ parts.has_own;
      language = l.lang;
      has_language = ap text_if_any has_language ∙ text_if_any_back l.lang h.lang;
      typed = parts.typed;
    }

term_back : (t : Term) → IsHeldTerm t → IsExpressibleTerm t → SpellsValue (Values.Term t) (term_data t)
term_back (Terms.Iri iri) h is = text_back iri h
term_back (Terms.Blank name) h is = absurd is
term_back (Terms.Lit l) h is = literal_back l h is

-- ---- stems and ranges: `k` is the reader's kind

-- a text that is taken as it is
abbrev IsFixed : (List ℕ → List ℕ) → List ℕ → Type 0
IsFixed f t = f t ≡ t

abbrev IsFixedIfAny : (List ℕ → List ℕ) → Option (List ℕ) → Type 0
IsFixedIfAny f None = ⊤
IsFixedIfAny f (Some t) = IsFixed f t

abbrev IsFixedExcept : (List ℕ → List ℕ) → Except → Type 0
IsFixedExcept f (Exact t) = IsFixed f t
IsFixedExcept f (Stem t) = IsFixed f t

fixed_back : (f : List ℕ → List ℕ) (t : List ℕ) → all_scalars t ≡ true → IsFixed f t → option_map f (text (Some (text_data t))) ≡ Some t
fixed_back f t h fixed = ap (option_map f) (text_back t h) ∙ ap (λ (x : List ℕ). Some x) fixed

stem_back : (kind : StemKind) (stem : List ℕ) → all_scalars stem ≡ true → IsFixed (taken kind) stem → IsStem kind stem (stem_data kind stem)
stem_back kind stem h fixed =
    let fs = stem_fields kind stem in
    let has_type : get (codes "type") (stem_data kind stem) ≡ Some (string (stem_type kind)) = field_is (codes "type") fs refl in
    let has_stem : get (codes "stem") (stem_data kind stem) ≡ Some (text_data stem) = field_is (codes "stem") fs refl in
    record {
      object = record {
        only = only_listed (codes "stem" ∷ codes "type" ∷ []) fs refl;
        type = ap word has_type;
      };
      has_stem = ap (λ (o : Option Data). option_map (taken kind) (text o)) has_stem ∙ fixed_back (taken kind) stem h fixed;
    }

language_back : (tag : List ℕ) → all_scalars tag ≡ true → is_lowered tag ≡ true → IsLanguage tag (language_data tag)
language_back tag h low =
    let fs = language_fields tag in
    let has_type : get (codes "type") (language_data tag) ≡ Some (string (codes "Language")) = field_is (codes "type") fs refl in
    let has_tag : get (codes "languageTag") (language_data tag) ≡ Some (text_data tag) = field_is (codes "languageTag") fs refl in
    record {
      object = record {
        only = only_listed (codes "languageTag" ∷ codes "type" ∷ []) fs refl;
        type = ap word has_type;
      };
      has_tag = ap (λ (o : Option Data). option_map (map to_ascii_lowercase) (text o)) has_tag ∙ fixed_back (map to_ascii_lowercase) tag h (lowered_same tag low);
    }

exclusion_back : (kind : StemKind) (e : Except) → IsHeldExcept e → IsFixedExcept (taken kind) e → IsExclusion kind e (exclusion_data kind e)
exclusion_back kind (Exact t) h fixed = fixed_back (taken kind) t h fixed
exclusion_back kind (Stem t) h fixed = stem_back kind t h fixed

exclusions_back : (kind : StemKind) (es : List Except) → AllByRecursion IsHeldExcept es →
    AllByRecursion (IsFixedExcept (taken kind)) es → AreExclusions kind es (exclusions_items kind es)
exclusions_back kind [] h fixed = tt
exclusions_back kind (e ∷ es) h fixed = (exclusion_back kind e h.0 fixed.0, exclusions_back kind es h.1 fixed.1)

has_exclusions : (kind : StemKind) (es : List Except) → AllByRecursion IsHeldExcept es →
    AllByRecursion (IsFixedExcept (taken kind)) es → HasExclusions kind es (list_if_any (exclusions_items kind es))
has_exclusions kind [] h fixed = refl
has_exclusions kind (e ∷ es) h fixed = exclusions_back kind (e ∷ es) h fixed

range_stem_back : (kind : StemKind) (stem : Option (List ℕ)) → IsTextIfAny stem → IsFixedIfAny (taken kind) stem → IsRangeStem kind stem (Some (range_stem_data stem))
range_stem_back kind None h fixed =
    let fs = wildcard_fields in
    record {
      only = only_listed (codes "type" ∷ []) fs refl;
      type = ap word (field_is (codes "type") fs refl);
    }
range_stem_back kind (Some t) h fixed = fixed_back (taken kind) t h fixed

range_back : (kind : StemKind) (stem : Option (List ℕ)) (es : List Except)
    → IsHeldRange stem es → IsFixedIfAny (taken kind) stem → AllByRecursion (IsFixedExcept (taken kind)) es → IsLimited stem es → IsRange kind stem es (range_data kind stem es)
range_back kind stem es h fixed all limited =
    let fs = range_fields kind stem es in
    let has_type : get (codes "type") (range_data kind stem es) ≡ Some (string (range_type kind)) = field_is (codes "type") fs refl in
    let has_stem : get (codes "stem") (range_data kind stem es) ≡ Some (range_stem_data stem) = field_is (codes "stem") fs refl in
    let has_list : get (codes "exclusions") (range_data kind stem es) ≡ list_if_any (exclusions_items kind es) = field_is (codes "exclusions") fs refl in
    record {
      object = record {
        only = only_listed (codes "exclusions" ∷ codes "stem" ∷ codes "type" ∷ []) fs refl;
        type = ap word has_type;
      };
      has_stem = subst (IsRangeStem kind stem) (sym has_stem) (range_stem_back kind stem h.0 fixed);
      exclusions = subst (HasExclusions kind es) (sym has_list) (has_exclusions kind es h.1 all);
      limited = limited;
    }

-- IRIs and lexical forms are taken as they are, tags in lower case
stem_fixed : (stem : Option (List ℕ)) → IsFixedIfAny (λ t. t) stem
stem_fixed None = tt
stem_fixed (Some t) = refl

all_fixed : (es : List Except) → AllByRecursion (IsFixedExcept (λ t. t)) es
all_fixed [] = tt
all_fixed (Exact t ∷ es) = (refl, all_fixed es)
all_fixed (Stem t ∷ es) = (refl, all_fixed es)

tag_fixed : (stem : Option (List ℕ)) → IsTagIfAny stem → IsFixedIfAny (map to_ascii_lowercase) stem
tag_fixed None low = tt
tag_fixed (Some t) low = lowered_same t low

tags_fixed : (es : List Except) → AllByRecursion IsExceptTag es → AllByRecursion (IsFixedExcept (map to_ascii_lowercase)) es
tags_fixed [] low = tt
tags_fixed (Exact t ∷ es) low = (lowered_same t low.0, tags_fixed es low.1)
tags_fixed (Stem t ∷ es) low = (lowered_same t low.0, tags_fixed es low.1)

value_back : (v : Value) → IsHeldValue v → IsExpressibleValue v → SpellsValue v (value_data v)
value_back (Values.Term t) h is = term_back t h is
value_back (Values.IriStem stem) h is = stem_back Kinds.Iri stem h refl
value_back (Values.LitStem stem) h is = stem_back Kinds.Literal stem h refl
value_back (Values.Lang tag) h is = language_back tag h is
value_back (Values.LangStem stem) h is = stem_back Kinds.Language stem h (lowered_same stem is)
value_back (Values.IriRange stem es) h is = range_back Kinds.Iri stem es h (stem_fixed stem) (all_fixed es) is
value_back (Values.LitRange stem es) h is = range_back Kinds.Literal stem es h (stem_fixed stem) (all_fixed es) is
value_back (Values.LangRange stem es) h is = range_back Kinds.Language stem es h (tag_fixed stem is.0) (tags_fixed es is.1.0) is.1.1

values_back : (vs : List Value) → AreHeldValues vs → AllByRecursion IsExpressibleValue vs → SpellsValues vs (values_items vs)
values_back [] h is = tt
values_back (v ∷ vs) h is = (value_back v h.0 is.0, values_back vs h.1 is.1)

pub value_set_back : (o : Option (List Value)) → AreHeldValuesIfAny o → AreExpressibleValues o → SpellsValueSet o (option_map value_set_data o)
value_set_back None h is = tt
value_set_back (Some vs) h is = values_back vs h is
