-- What a token stands for has no line feed, and tokens that lie ahead stand on one line.
use Rattle.std.proofs.Common.{◌≡◌, ℕ, true, List, encode_utf8_all, refl, subst}
use Rattle.std.specs.Str.{chars, IsUtf8}
use Rattle.rdf_cursor.specs.Ahead.{Ahead, finished, broken, token, prepend}
use Rattle.rdf_cursor.specs.Phrases.{Phrase, Many, none, more}
use Rattle.rdf_terms.proofs.OneLine.{Plain, plain_encodes, Clean}
use Rattle.rdf_lex.specs.declared.kinds.Mode.{Mode}
use Rattle.rdf_lex.specs.Escapes.{inside_of}
use Rattle.rdf_lex.specs.Tokens.{Spelled, Between, here, onward, Tokens}
use Rattle.rdf_lex.proofs.TokenLines.{on_one_line, plain_token, by_kind, fit_scalars, first_fine}
use Rattle.term_tokens.specs.Meanings.{IsText}

pub plain_meaning : (t : Spelled) (text : List ℕ) → on_one_line t.kind ≡ true → IsText t text → Plain text
plain_meaning t text e h = by_kind t.kind (chars t.text) text e (plain_token h.spelled.0 t.kind (chars t.text) e h.spelled.1) h.means h.fitting

pub clean_meaning : (t : Spelled) (text : List ℕ) → on_one_line t.kind ≡ true → IsText t text → Clean (encode_utf8_all text)
clean_meaning t text e h = ((text, (fit_scalars (inside_of t.kind) text h.fitting, refl)), plain_encodes text (plain_meaning t text e h))

-- the tokens that lie ahead are of UTF-8, and those that stand on one line have no line feed
abbrev pub IsFine : Spelled → Type 0
IsFine t = on_one_line t.kind ≡ true → Clean t.text

abbrev pub AllFine : Ahead Spelled → Type 0
AllFine finished = Unit {0}
AllFine broken = Unit {0}
AllFine (token t ts) = IsFine t × AllFine ts

pub take_fine : (ts rest : Ahead Spelled) (t : Spelled) → ts ≡ token t rest → AllFine ts → IsFine t × AllFine rest
take_fine ts rest t e h = subst AllFine e h

fine_between : (m : Mode) (source : List ℕ) {at to : ℕ} {ts : List Spelled} → IsUtf8 source → Between m source at ts to → AllFine (prepend ts finished)
fine_between m source u here = tt
fine_between m source u (onward {at} {place} {to} {k} {text} {ts} first others) = (first_fine m source at place k text u first, fine_between m source u others)

pub fine_tokens : (m : Mode) (source : List ℕ) (ts : List Spelled) → IsUtf8 source → Tokens m source ts → AllFine (prepend ts finished)
fine_tokens m source ts u h = fine_between m source u h.1

-- a phrase any number of times
pub many_plain : {S : Type 0} (One : S → S → Phrase Spelled) (Good : S → Type 0) → ((a b : S) (ts r : Ahead Spelled) → One a b ts r → Good a → AllFine ts → Good b × AllFine r)
    → {a b : S} {ts r : Ahead Spelled} → Many One a b ts r → Good a → AllFine ts → Good b × AllFine r
many_plain One Good each none h k = (h, k)
many_plain One Good each (more {s} {x} {y} {ts} {mid} {rest} p m) h k = let i = each s x ts mid p h k in many_plain One Good each m i.0 i.1
