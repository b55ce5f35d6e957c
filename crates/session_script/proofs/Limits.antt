-- Without the limit a command is read in the same way, but for what is too long.
use Rattle.std.proofs.Common.{◌≡◌, ℕ, Bool, true, false, ◌&&◌, cond, List, Option, Some, None, is_some, length, nat_lt, refl, ◌<◌, encode_utf8_all, Result, Ok, Err, inl, inr}
use Rattle.std.proofs.lemmas.Bool.{ltb-true}
use Rattle.std.specs.List.{after_first}
use Rattle.std.specs.Str.{chars}
use Rattle.iri_resolve.specs.Reference.{scheme_of}
use Rattle.rdf_cursor.specs.Ahead.{Ahead, token}
use Rattle.rdf_cursor.specs.Properties.{Agrees}
use Rattle.rdf_cursor.specs.Readers.{◌>>=◌, give, one, either}
use Rattle.rdf_cursor.specs.Symbols.{is_symbol}
use Rattle.rdf_cursor.specs.declared.stops.Fault.{Fault}
use Rattle.rdf_cursor.specs.declared.stops.Fault.TheVariants.{Syntax, Long}
use Rattle.rdf_cursor.specs.declared.symbols.Symbol.TheVariants as symbol
use Rattle.rdf_cursor.proofs.Agreement.{ClassAgrees, agrees_give, agrees_one, agrees_bind, agrees_either, agrees_finish}
use Rattle.rdf_lex.specs.Tokens.{Spelled}
use Rattle.term_tokens.specs.Meanings.{text_of}
use Rattle.term_tokens.specs.Terms.{max_text, is_colon, absolute, absolute_of, label_of, is_quoted_once, lexical, string_of, short_string_of, absolute_typed_of}
use Rattle.term_tokens.proofs.Agreeing.{typed_by_agrees, tagged_agrees, agrees_mark}
use Rattle.term_tokens.proofs.Meanings.{text_of_is}
use Rattle.nt_reader.specs.Endings.{IsLong, by_text, by_label}
use Rattle.session_script.specs.Reading.{R, named, blank, resource, suffixed, literal, object, edit, node_literal, node, target, asked, question, body, command}
use Rattle.session_script.specs.declared.signs.Sign.{Sign}
use Rattle.session_script.specs.declared.signs.Sign.TheVariants.{Plus, Minus, Question}

abbrev pub Common : Fault → Type 0
Common f = f ≡ Syntax

-- the next token stands for something that is too long
abbrev pub LongNext : Fault → Ahead Spelled → Type 0
LongNext f ts = (f ≡ Long) × ((t : Spelled) × (rest : Ahead Spelled) × (ts ≡ token t rest) × IsLong t)

abbrev Agree : {A : Type 0} → Spelled → Result A Fault → Result A Fault → Type 0
Agree t c d = ClassAgrees Common LongNext t c d

abbrev Same : {A : Type 0} → R A → R A → Type 0
Same p q = Agrees Common LongNext p q

-- classes, with either flag
long_at : (t : Spelled) → IsLong t → (ts : Ahead Spelled) → LongNext Long (token t ts)
long_at t l ts = (refl, (t, ts, refl, l))

fits_agree : {A : Type 0} (j : Bool) (t : Spelled) (bytes : List ℕ) (x : A) (b : Bool) → nat_lt max_text (length bytes) ≡ b →
    (max_text < length bytes → IsLong t) → Agree t (cond (j && b) (Err Long) (Ok x)) (Ok x)
fits_agree true t bytes x true e l = inr (long_at t (l (ltb-true max_text (length bytes) e)))
fits_agree true t bytes x false e l = refl
fits_agree false t bytes x b e l = refl

syntax_agrees : {A : Type 0} (t : Spelled) → Agree {A = A} t (Err Syntax) (Err Syntax)
syntax_agrees t = inl (refl, refl)

guard_agrees : {A : Type 0} (t : Spelled) (b g : Bool) (c d : Result A Fault) → g ≡ b → (g ≡ true → Agree t c d) → Agree t (cond b c (Err Syntax)) (cond b d (Err Syntax))
guard_agrees t true g c d e a = a e
guard_agrees t false g c d e a = syntax_agrees t

cond_agrees : {A : Type 0} (t : Spelled) (b : Bool) (c d : Result A Fault) → (b ≡ true → Agree t c d) → Agree t (cond b c (Err Syntax)) (cond b d (Err Syntax))
cond_agrees t b c d a = guard_agrees t b b c d refl a

text_long : (t : Spelled) (text : List ℕ) → text_of t ≡ Some text → max_text < length (encode_utf8_all text) → IsLong t
text_long t text e l = by_text text (text_of_is t text e) l

module _ (j : Bool) where
  absolute_by : (t : Spelled) (o : Option (List ℕ)) → text_of t ≡ o → Agree t (absolute j o) (absolute false o)
  absolute_by t None e = syntax_agrees t
  absolute_by t (Some text) e =
      let bytes = encode_utf8_all text in cond_agrees t (is_some (scheme_of bytes)) _ _ (λ s. fits_agree j t bytes bytes (nat_lt max_text (length bytes)) refl (text_long t text e))

  absolute_agrees : (t : Spelled) → Agree t (absolute_of j t) (absolute_of false t)
  unfolding absolute_of
  absolute_agrees t = cond_agrees t (is_symbol symbol.IriRef t) _ _ (λ e. absolute_by t (text_of t) refl)

  label_agrees : (t : Spelled) → Agree t (label_of j t) (label_of false t)
  unfolding label_of
  label_agrees t = let label = after_first is_colon t.text in
      cond_agrees t (is_symbol symbol.BlankLabel t) _ _ (λ e. fits_agree j t label (chars label) (nat_lt max_text (length label)) refl (by_label e))

lexical_agrees : (t : Spelled) (o : Option (List ℕ)) → text_of t ≡ o → Agree t (lexical true o) (lexical false o)
lexical_agrees t None e = syntax_agrees t
lexical_agrees t (Some text) e = let bytes = encode_utf8_all text in fits_agree true t bytes text (nat_lt max_text (length bytes)) refl (text_long t text e)

string_agrees : (t : Spelled) → Agree t (string_of true t) (string_of false t)
unfolding string_of
string_agrees t = cond_agrees t (is_symbol symbol.Str t) _ _ (λ e. lexical_agrees t (text_of t) refl)

short_string_agrees : (t : Spelled) → Agree t (short_string_of true t) (short_string_of false t)
unfolding short_string_of
short_string_agrees t = cond_agrees t (is_quoted_once (chars t.text)) _ _ (λ e. string_agrees t)

typed_agrees : (lex : List ℕ) (t : Spelled) → Agree t (absolute_typed_of true lex t) (absolute_typed_of false lex t)
unfolding absolute_typed_of
typed_agrees lex t = typed_by_agrees Common LongNext refl t lex (absolute_of true t) (absolute_of false t) (absolute_agrees true t)

-- rules
bind : {A B : Type 0} (p q : R A) (f g : A → R B) → Same p q → ((x : A) → Same (f x) (g x)) → Same (p >>= f) (q >>= g)
bind p q f g a h = agrees_bind Common LongNext p q f g a h

choice : {A : Type 0} (class : Spelled → Bool) (p q r s : R A) → Same p q → Same r s → Same (either class p r) (either class q s)
choice class p q r s a h = agrees_either Common LongNext class p q r s a h

given : {A : Type 0} (x : A) → Same (give x) (give x)
given x = agrees_give Common LongNext x

taken : {A : Type 0} (c d : Spelled → Result A Fault) → ((t : Spelled) → Agree t (c t) (d t)) → Same (one Syntax c) (one Syntax d)
taken c d h = agrees_one Common LongNext Syntax c d refl h

same_target : Same target target
unfolding target
same_target = choice _ _ _ _ _ (bind _ _ _ _ (agrees_mark Common LongNext refl symbol.Start) (λ _. given _))
    (choice _ _ _ _ _ (bind _ _ _ _ (taken _ _ (label_agrees false)) (λ _. given _)) (bind _ _ _ _ (taken _ _ (absolute_agrees false)) (λ _. given _)))

same_asked : Same asked asked
unfolding asked
same_asked = choice _ _ _ _ _ (bind _ _ _ _ (agrees_mark Common LongNext refl symbol.AtStart) (λ _. given _)) (bind _ _ _ _ (agrees_mark Common LongNext refl symbol.At) (λ _. same_target))

same_named : Same (named true) (named false)
unfolding named
same_named = bind _ _ _ _ (taken _ _ (absolute_agrees true)) (λ i. given _)

same_resource : Same (resource true) (resource false)
unfolding resource blank
same_resource = choice _ _ _ _ _ (bind _ _ _ _ (taken _ _ (label_agrees true)) (λ _. given _)) same_named

same_suffixed : (lex : List ℕ) → Same (suffixed true lex) (suffixed false lex)
unfolding suffixed
same_suffixed lex =
    choice _ _ _ _ _ (taken _ _ (tagged_agrees Common LongNext refl lex))
    (choice _ _ _ _ _ (bind _ _ _ _ (agrees_mark Common LongNext refl symbol.Carets) (λ _. taken _ _ (typed_agrees lex))) (given _))

same_object : Same (object true) (object false)
unfolding object literal
same_object = choice _ _ _ _ _ (bind _ _ _ _ (taken _ _ short_string_agrees) same_suffixed) same_resource

same_edit : Same (edit true) (edit false)
unfolding edit
same_edit = bind _ _ _ _ same_resource (λ s. bind _ _ _ _ same_named (λ p. bind _ _ _ _ same_object (λ o. bind _ _ _ _ (agrees_mark Common LongNext refl symbol.Dot) (λ _. given _))))

same_node : Same (node true) (node false)
unfolding node node_literal
same_node = choice _ _ _ _ _ (bind _ _ _ _ (taken _ _ short_string_agrees) (λ lex. choice _ _ _ _ _ (given _) (same_suffixed lex))) same_resource

same_question : Same (question true) (question false)
unfolding question
same_question = bind _ _ _ _ same_node (λ x. bind _ _ _ _ same_asked (λ t. given _))

same_body : (s : Sign) → Same (body true s) (body false s)
unfolding body
same_body Plus = bind _ _ _ _ same_edit (λ t. given _)
same_body Minus = bind _ _ _ _ same_edit (λ t. given _)
same_body Question = same_question

pub same_command : (s : Sign) → Same (command true s) (command false s)
unfolding command
same_command s = bind _ _ _ _ (same_body s) (λ x. agrees_finish Common LongNext Syntax x refl)
