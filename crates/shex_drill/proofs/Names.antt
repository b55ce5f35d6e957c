-- What the names of the drill's texts stand for.
use Rattle.std.proofs.Common.{◌≡◌, ◌≤◌, ℕ, Bool, true, false, not, List, [], ◌∷◌, ◌++◌, length, length-append, codes, encode_utf8_all, Some, Ok, refl, sym, ap, subst, ◌∙◌, arith}
use Rattle.std.specs.Prelude.{nat_eq}
use Rattle.std.specs.List.{list_all}
use Rattle.std.specs.Str.{chars}
use Rattle.std.specs.Str.Parse.{AllDigits}
use Rattle.std.proofs.lemmas.Bool.{and_parts, le-ltb}
use Rattle.std.proofs.lemmas.Str.{chars-IsAscii, encodes-IsAscii}
use Rattle.rdf_cursor.specs.Symbols.{is_symbol, is_among}
use Rattle.rdf_lex.specs.declared.kinds.Kind.{Kind}
use Rattle.rdf_lex.specs.declared.kinds.Kind.TheVariants as kinds
use Rattle.rdf_lex.specs.declared.kinds.Mode.{Mode}
use Rattle.rdf_lex.specs.declared.kinds.Mode.TheVariants.{Map}
use Rattle.rdf_lex.specs.declared.escapes.Inside.{Inside}
use Rattle.rdf_lex.specs.declared.escapes.Inside.TheVariants.{Local}
use Rattle.rdf_lex.specs.declared.machine.Lead.TheVariants as lead
use Rattle.rdf_lex.specs.declared.machine.NamePart.TheVariants as name
use Rattle.rdf_lex.specs.declared.machine.State.TheVariants.{Start, Name}
use Rattle.rdf_lex.specs.Characters.{has, digit, letter, letter_or_digit, hexadecimal, name_base, name_char, local_start, local_char, label_start, local_escaped, text_escaped, iri_char, short_char, long_char, line_end, turtle_mark, brace, schema_mark, pattern_start, pattern_char, flag, any_char}
use Rattle.rdf_lex.specs.Escapes.{StandsFor, ends, plain, Body, fits, inside_of}
use Rattle.rdf_lex.specs.Phrases.{Spells}
use Rattle.rdf_lex.specs.Spelling.{Spelling}
use Rattle.rdf_lex.proofs.Recognised.{kind_from, from_kind}
use Rattle.rdf_terms.specs.Vocabulary.{xsd_integer}
use Rattle.term_tokens.specs.Meanings.{text_of}
use Rattle.term_tokens.specs.Scopes.{Scope}
use Rattle.term_tokens.specs.Terms.{at_name_of, iri_of, iri_ref_of, joined, limited, max_text, shorthand_of, typed}
use Rattle.term_tokens.proofs.Meanings.{text_is}
use Rattle.iri_resolve.specs.Resolution.{resolved_text}
use Rattle.shex_drill.specs.Terms.{home, IsAtHome}
use Rattle.shex_drill.proofs.Digits.{AllPass, digits_pass}
use Rattle.shex_drill.proofs.LineTokens.{of_name, of_number, item_name, is_local, are_local, plain_digits}
use Rattle.shex_drill.proofs.Lexing.{ascii, is_ascii, is_plain}
use Rattle.shex_drill.proofs.Marks.{chars_are}

-- no character is a backslash, so that each stands for itself
abbrev pub is_bare : List ℕ → Bool
is_bare cs = list_all (λ c. not (nat_eq c 92)) cs

not_true : (b : Bool) → not b ≡ true → b ≡ false
not_true true e = absurd cc
not_true false e = refl

stands_for_itself : (w : Inside) (cs : List ℕ) → is_bare cs ≡ true → StandsFor w cs cs
stands_for_itself w [] e = ends
stands_for_itself w (c ∷ cs) e =
    let both = and_parts (not (nat_eq c 92)) (is_bare cs) e in
    plain c (not_true (nat_eq c 92) both.0) (stands_for_itself w cs both.1)

-- the part of a token that stands for something, where nothing in it is escaped
pub text_spelled : (k : Kind) (text out : List ℕ) → is_plain text ≡ true → kind_from Map Start text ≡ Some k → Body k text out → is_bare out ≡ true → list_all (fits (inside_of k)) out ≡ true
    → text_of (record { kind = k; text = text }) ≡ Some out
text_spelled k text out e kind body bare fitting =
    let same : text ≡ chars text = sym (chars-IsAscii text (ascii text e)) in
    text_is (record { kind = k; text = text }) out
    (record {
      spelled = (Map, subst (λ v. Spells (Spelling Map k) v) same (from_kind Map k text kind));
      means = (out, subst (λ v. Body k v out) same body, stands_for_itself (inside_of k) out bare);
      fitting = fitting;
    })

-- ---- the IRI of a name with the empty prefix

pub short_enough : {A : Type 0} (k : Bool) (text : List ℕ) (x : A) → length text ≤ max_text → limited k text x ≡ Ok x
short_enough true text x le = rw (le-ltb max_text (length text) le) refl
short_enough false text x le = refl

pub iri_named : (k : Bool) (v : Scope) (local : List ℕ) → IsAtHome v → is_plain local ≡ true → text_of (of_name (58 ∷ local)) ≡ Some local →
    length local ≤ 100 → iri_of k v (of_name (58 ∷ local)) ≡ Ok (home ++ local)
unfolding iri_of is_among is_symbol
iri_named k v local known e text short =
    let same : encode_utf8_all local ≡ local = encodes-IsAscii local (ascii local e) in
    let sized = length-append home local in
    let found : iri_of k v (of_name (58 ∷ local)) ≡ joined k (Some local) (Some home) = rw (text, known) refl in
    let put : joined k (Some local) (Some home) ≡ limited k (home ++ local) (home ++ local) = rw same refl in
    found ∙ put ∙ short_enough k (home ++ local) (home ++ local) (omega arith)

-- ---- the names of items

name_kind : (m : Mode) (ds : List ℕ) → list_all is_local ds ≡ true → kind_from m (Name lead.Alone name.Local) ds ≡ Some kinds.PnameLn
name_kind m [] e = refl
name_kind m (d ∷ ds) e =
    let both = and_parts (is_local d) (list_all is_local ds) e in
    let one = and_parts (has local_char d) (is_ascii d) both.0 in
    let next : kind_from m (Name lead.Alone name.Local) (d ∷ ds) ≡ kind_from m (Name lead.Alone name.Local) ds = rw one.0 refl in
    next ∙ name_kind m ds both.1

item_kind : (m : Mode) (ds : List ℕ) → kind_from m Start (item_name ds) ≡ kind_from m (Name lead.Alone name.Local) ds
unfolding digit letter letter_or_digit hexadecimal name_base name_char local_start local_char label_start local_escaped text_escaped iri_char short_char long_char line_end turtle_mark brace schema_mark pattern_start pattern_char flag any_char
item_kind m ds = refl

bare_digits : AllPass (λ c. not (nat_eq c 92))
bare_digits = refl

fit_digits : AllPass (fits Local)
fit_digits = refl

pub item_text : (ds : List ℕ) → AllDigits 10 ds → text_of (of_name (item_name ds)) ≡ Some (105 ∷ ds)
item_text ds all =
    text_spelled kinds.PnameLn (item_name ds) (105 ∷ ds) (plain_digits ds all) (item_kind Map ds ∙ name_kind Map ds (are_local ds all)) ([], refl, tt)
    (digits_pass (λ c. not (nat_eq c 92)) ds bare_digits all) (digits_pass (fits Local) ds fit_digits all)

pub item_iri : (k : Bool) (v : Scope) (ds : List ℕ) → IsAtHome v → AllDigits 10 ds → length ds ≤ 20 → iri_of k v (of_name (item_name ds)) ≡ Ok (home ++ 105 ∷ ds)
item_iri k v ds known all short = iri_named k v (105 ∷ ds) known (plain_digits ds all) (item_text ds all) (omega arith)

-- ---- the other names

next_text : text_of (of_name (codes ":next")) ≡ Some (codes "next")
unfolding digit letter letter_or_digit hexadecimal name_base name_char local_start local_char label_start local_escaped text_escaped iri_char short_char long_char line_end turtle_mark brace schema_mark pattern_start pattern_char flag any_char
next_text = text_spelled kinds.PnameLn (codes ":next") (codes "next") refl refl ([], refl, tt) refl refl

tag_text : text_of (of_name (codes ":tag")) ≡ Some (codes "tag")
unfolding digit letter letter_or_digit hexadecimal name_base name_char local_start local_char label_start local_escaped text_escaped iri_char short_char long_char line_end turtle_mark brace schema_mark pattern_start pattern_char flag any_char
tag_text = text_spelled kinds.PnameLn (codes ":tag") (codes "tag") refl refl ([], refl, tt) refl refl

pub next_iri : (k : Bool) (v : Scope) → IsAtHome v → iri_of k v (of_name (codes ":next")) ≡ Ok (home ++ codes "next")
next_iri k v known = iri_named k v (codes "next") known refl next_text (omega arith)

pub tag_iri : (k : Bool) (v : Scope) → IsAtHome v → iri_of k v (of_name (codes ":tag")) ≡ Ok (home ++ codes "tag")
tag_iri k v known = iri_named k v (codes "tag") known refl tag_text (omega arith)

-- ---- the name of the Shape

label_text : text_of (of_name (codes ":Item")) ≡ Some (codes "Item")
unfolding digit letter letter_or_digit hexadecimal name_base name_char local_start local_char label_start local_escaped text_escaped iri_char short_char long_char line_end turtle_mark brace schema_mark pattern_start pattern_char flag any_char
label_text = text_spelled kinds.PnameLn (codes ":Item") (codes "Item") refl refl ([], refl, tt) refl refl

pub label_iri : (k : Bool) (v : Scope) → IsAtHome v → iri_of k v (of_name (codes ":Item")) ≡ Ok (home ++ codes "Item")
label_iri k v known = iri_named k v (codes "Item") known refl label_text (omega arith)

shape_text : text_of (record { kind = kinds.AtName; text = codes "@:Item" }) ≡ Some (codes "Item")
unfolding digit letter letter_or_digit hexadecimal name_base name_char local_start local_char label_start local_escaped text_escaped iri_char short_char long_char line_end turtle_mark brace schema_mark pattern_start pattern_char flag any_char
shape_text = text_spelled kinds.AtName (codes "@:Item") (codes "Item") refl refl (64 ∷ [], refl, (refl, tt)) refl refl

-- the IRI behind an `@`
pub shape_iri : (k : Bool) (v : Scope) → IsAtHome v → at_name_of k v (record { kind = kinds.AtName; text = codes "@:Item" }) ≡ Ok (home ++ codes "Item")
unfolding at_name_of is_symbol
shape_iri k v known =
    let same : encode_utf8_all (codes "Item") ≡ codes "Item" = encodes-IsAscii (codes "Item") (ascii (codes "Item") refl) in
    let found : at_name_of k v (record { kind = kinds.AtName; text = codes "@:Item" }) ≡ joined k (Some (codes "Item")) (Some home) = rw (shape_text, known) refl in
    let put : joined k (Some (codes "Item")) (Some home) ≡ limited k (home ++ codes "Item") (home ++ codes "Item") = rw same refl in
    found ∙ put ∙ short_enough k (home ++ codes "Item") (home ++ codes "Item") (omega arith)

-- ---- the IRI of the prefix

home_text : text_of (record { kind = kinds.IriRef; text = codes "<http://d.example/>" }) ≡ Some home
unfolding digit letter letter_or_digit hexadecimal name_base name_char local_start local_char label_start local_escaped text_escaped iri_char short_char long_char line_end turtle_mark brace schema_mark pattern_start pattern_char flag any_char
home_text = text_spelled kinds.IriRef (codes "<http://d.example/>") home refl refl refl refl refl

home_resolved : (base : List ℕ) → resolved_text base home ≡ home
home_resolved base = refl

pub home_iri : (k : Bool) (v : Scope) → iri_ref_of k v (record { kind = kinds.IriRef; text = codes "<http://d.example/>" }) ≡ Ok home
unfolding iri_ref_of is_symbol
home_iri k v =
    let same : encode_utf8_all home ≡ home = encodes-IsAscii home (ascii home refl) in
    let found : iri_ref_of k v (record { kind = kinds.IriRef; text = codes "<http://d.example/>" }) ≡ limited k (resolved_text v.base (encode_utf8_all home))
    (resolved_text v.base (encode_utf8_all home)) = rw home_text refl in
    let put : resolved_text v.base (encode_utf8_all home) ≡ home = ap (resolved_text v.base) same ∙ home_resolved v.base in
    found ∙ ap (λ z. limited k z z) put ∙ short_enough k home home (omega arith)

-- ---- a whole number

pub number_is : (k : Bool) (z : List ℕ) → AllDigits 10 z → length z ≤ 20 → shorthand_of k (of_number z) ≡ Ok (typed z xsd_integer)
unfolding shorthand_of is_among
number_is k z all short =
    let same : chars z ≡ z = chars_are z (plain_digits z all) in
    short_enough k z (typed (chars z) xsd_integer) (omega arith) ∙ ap (λ lex. Ok (typed lex xsd_integer)) same
