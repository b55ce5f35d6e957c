-- The strings of the value that a JSON text reads as are UTF-8 where the text is.
use Rattle.std.proofs.Common.{◌≡◌, ◌∙◌, ap, refl, sym, subst, ℕ, zero, suc, ◌+◌, ◌<◌, arith, Bool, true, false, cond, List, [], ◌∷◌, length, get_or, take, drop, Ordering, Less, Equal, Greater}
use Rattle.std.proofs.lemmas.Bool.Decides.{nat_tests}
use Rattle.std.proofs.lemmas.Str.{IsCharBoundary-after_ascii, IsUtf8-drop}
use Rattle.std.specs.Cmp.Lexicographic.{slice_cmp}
use Rattle.std.specs.List.{AllByRecursion, starts_with}
use Rattle.std.specs.Ordering.{match_ordering, nat_cmp}
use Rattle.std.specs.Prelude.{◌&&◌, ◌==◌, ◌-◌, nat_eq, Option, Some, None, option_map, option_and_then, ⊤}
use Rattle.std.specs.Str.{IsUtf8}
use Rattle.json.specs.Ascii as ascii
use Rattle.json.specs.Json as json
use Rattle.json.specs.Lex.{Class, Lexeme, Mode, Place, begins_colon, between, class, colon, comma, if_allowed, in_escape, in_string, in_word, lex, lex_byte, may_begin, may_close, operator_lexeme, place_token, punctuate, string_token, token, tokens}
use Rattle.json.specs.Lex as lexed
use Rattle.json.specs.Text.{content, plain}
use Rattle.json.specs.Token as tok
use Rattle.json.specs.Token.{Token}
use Rattle.json.specs.Word.{after_number, ends_word, head, is_operator, is_space, literal, number_before, word}
use Rattle.serde_json.specs.Data as kept
use Rattle.serde_json.specs.Data.{Data, put}
use Rattle.serde_json.specs.Read.{max_depth, number_of, of_items, of_json, of_members, read}
use Rattle.shexj_writer.specs.Laws.{ReadAreExpressible}
use Rattle.shexj_writer.proofs.JsonStrings.{content_holds}
use Rattle.shexj_writer.proofs.Readable.{document_form}
use Rattle.shexj_writer.proofs.Strings.{HasTexts, HaveTexts, MembersHaveTexts}

-- ---- tokens

-- a string or a key is UTF-8
abbrev IsTextToken : Token → Type 0
IsTextToken (tok.key s) = IsUtf8 s
IsTextToken (tok.string s) = IsUtf8 s
IsTextToken t = ⊤

abbrev AreTextTokens : List Token → Type 0
AreTextTokens ts = AllByRecursion IsTextToken ts

abbrev IsTextLexeme : Lexeme → Type 0
IsTextLexeme (token t) = IsTextToken t
IsTextLexeme comma = ⊤
IsTextLexeme colon = ⊤

abbrev AreTextLexemes : List Lexeme → Type 0
AreTextLexemes ls = AllByRecursion IsTextLexeme ls

either_token : (b : Bool) (t u : Token) → IsTextToken t → IsTextToken u → IsTextToken (cond b t u)
either_token true t u p q = p
either_token false t u p q = q

before_token : (xs : List ℕ) (o : Option (List ℕ)) → IsTextToken (number_before xs o)
before_token xs None = tt
before_token xs (Some rest) = either_token (ends_word rest) (tok.number (take (length xs - length rest) xs)) tok.bad tt tt

literal_text : (name : List ℕ) (t : Token) (xs : List ℕ) → IsTextToken t → IsTextToken (literal name t xs)
literal_text name t xs h = either_token (starts_with nat_eq xs name && ends_word (drop (length name) xs)) t tok.bad h tt

word_text : (xs : List ℕ) → IsTextToken (word xs)
unfolding word
word_text xs =
    let number = number_before xs (after_number xs) in
    let null_or = cond (head xs == ascii.lower_n) (literal ascii.null_text tok.null xs) number in
    let false_or = cond (head xs == ascii.lower_f) (literal ascii.false_text (tok.boolean false) xs) null_or in
    either_token (head xs == ascii.lower_t) (literal ascii.true_text (tok.boolean true) xs) false_or (literal_text ascii.true_text (tok.boolean true) xs tt)
    (either_token (head xs == ascii.lower_f) (literal ascii.false_text (tok.boolean false) xs) null_or (literal_text ascii.false_text (tok.boolean false) xs tt)
    (either_token (head xs == ascii.lower_n) (literal ascii.null_text tok.null xs) number (literal_text ascii.null_text tok.null xs tt) (before_token xs (after_number xs))))

either_lexeme : (b : Bool) (t u : Lexeme) → IsTextLexeme t → IsTextLexeme u → IsTextLexeme (cond b t u)
either_lexeme true t u p q = p
either_lexeme false t u p q = q

operator_text : (x : ℕ) → IsTextLexeme (operator_lexeme x)
operator_text x =
    let last = cond (x == ascii.comma) comma colon in
    let four = cond (x == ascii.close_bracket) (token tok.end_array) last in
    let three = cond (x == ascii.open_bracket) (token tok.begin_array) four in
    let two = cond (x == ascii.close_brace) (token tok.end_object) three in
    either_lexeme (x == ascii.open_brace) (token tok.begin_object) two tt
    (either_lexeme (x == ascii.close_brace) (token tok.end_object) three tt
    (either_lexeme (x == ascii.open_bracket) (token tok.begin_array) four tt
    (either_lexeme (x == ascii.close_bracket) (token tok.end_array) last tt
    (either_lexeme (x == ascii.comma) comma colon tt tt))))

string_at : (xs : List ℕ) (o : Option (List ℕ)) → content plain xs ≡ o → IsUtf8 xs → IsTextToken (string_token o)
string_at xs None e h = tt
string_at xs (Some s) e h = content_holds (length xs) xs s (omega arith) h e

byte_text : (m : Mode) (c : Class) (x : ℕ) (xs : List ℕ) (k : Mode → List Lexeme) → (c ≡ lexed.quote → IsUtf8 xs) → ((next : Mode) → AreTextLexemes (k next)) → AreTextLexemes (lex_byte m c x xs k)
byte_text between lexed.quote x xs k h rest = (string_at xs (content plain xs) refl (h refl), rest in_string)
byte_text between lexed.backslash x xs k h rest = (tt, rest in_word)
byte_text between lexed.operator x xs k h rest = (operator_text x, rest between)
byte_text between lexed.space x xs k h rest = rest between
byte_text between lexed.other x xs k h rest = (word_text (x ∷ xs), rest in_word)
byte_text in_word lexed.quote x xs k h rest = rest in_word
byte_text in_word lexed.backslash x xs k h rest = rest in_word
byte_text in_word lexed.operator x xs k h rest = (operator_text x, rest between)
byte_text in_word lexed.space x xs k h rest = rest between
byte_text in_word lexed.other x xs k h rest = rest in_word
byte_text in_string lexed.quote x xs k h rest = rest between
byte_text in_string lexed.backslash x xs k h rest = rest in_escape
byte_text in_string lexed.operator x xs k h rest = rest in_string
byte_text in_string lexed.space x xs k h rest = rest in_string
byte_text in_string lexed.other x xs k h rest = rest in_string
byte_text in_escape c x xs k h rest = rest in_string

-- a quote is ASCII
other_class : (b c d : Bool) → cond b lexed.backslash (cond c lexed.operator (cond d lexed.space lexed.other)) ≡ lexed.quote → ⊥
other_class true c d e = cc
other_class false true d e = cc
other_class false false true e = cc
other_class false false false e = cc

quote_at : (b : Bool) (x : ℕ) → (x == ascii.quote) ≡ b →
    cond b lexed.quote (cond (x == ascii.backslash) lexed.backslash (cond (is_operator x) lexed.operator (cond (is_space x) lexed.space lexed.other))) ≡ lexed.quote → x < 128
quote_at true x is e = grind (arith, nat_tests)
quote_at false x is e = absurd (other_class (x == ascii.backslash) (is_operator x) (is_space x) e)

quote_ascii : (x : ℕ) → class x ≡ lexed.quote → x < 128
quote_ascii x e = quote_at (x == ascii.quote) x refl e

-- the place of a suffix
behind : (text : List ℕ) (i x : ℕ) (xs : List ℕ) → drop i text ≡ x ∷ xs → (i < length text) × ((get_or text i 0 ≡ x) × (drop (i + 1) text ≡ xs))
behind [] zero x xs e = absurd (cc)
behind [] (suc i) x xs e = absurd (cc)
behind (y ∷ ys) zero x xs e = let same : y ≡ x = cc in let rest : ys ≡ xs = cc in (omega arith, (same, rest))
behind (y ∷ ys) (suc i) x xs e =
    let more = behind ys i x xs e in
    let place : suc i + 1 ≡ suc (i + 1) = omega arith in
    (omega (arith, more.0), (more.1.0, ap (λ n. drop n (y ∷ ys)) place ∙ more.1.1))

lex_text : (text : List ℕ) → IsUtf8 text → (m : Mode) (xs : List ℕ) (i : ℕ) → drop i text ≡ xs → AreTextLexemes (lex m xs)
unfolding lex
lex_text text utf8 m [] i e = tt
lex_text text utf8 m (x ∷ xs) i e =
    let at = behind text i x xs e in
    byte_text m (class x) x xs (λ next. lex next xs)
    (λ quoted. subst IsUtf8 at.1.1 (IsUtf8-drop text (i + 1) utf8 (IsCharBoundary-after_ascii text i utf8 at.0 (subst (λ (n : ℕ). n < 128) (sym at.1.0) (quote_ascii x quoted)))))
    (λ next. lex_text text utf8 next xs (i + 1) at.1.1)

allowed_text : (b : Bool) (t : Token) (k : Place → List Token) (next : Place) → IsTextToken t → AreTextTokens (k next) → AreTextTokens (if_allowed b t k next)
allowed_text true t k next h rest = (h, rest)
allowed_text false t k next h rest = (tt, tt)

place_text : (p : Place) (t : Token) (b : Bool) (k : Place → List Token) → IsTextToken t → ((next : Place) → AreTextTokens (k next)) → AreTextTokens (place_token p t b k)
place_text p tok.begin_object b k h rest = allowed_text (may_begin p) tok.begin_object k lexed.fresh tt (rest lexed.fresh)
place_text p tok.end_object b k h rest = allowed_text (may_close p) tok.end_object k lexed.after_value tt (rest lexed.after_value)
place_text p tok.begin_array b k h rest = allowed_text (may_begin p) tok.begin_array k lexed.fresh tt (rest lexed.fresh)
place_text p tok.end_array b k h rest = allowed_text (may_close p) tok.end_array k lexed.after_value tt (rest lexed.after_value)
place_text p (tok.key s) b k h rest = (tt, tt)
place_text p (tok.string s) true k h rest = allowed_text (may_begin p) (tok.key s) k lexed.after_key h (rest lexed.after_key)
place_text p (tok.string s) false k h rest = allowed_text (may_begin p) (tok.string s) k lexed.after_value h (rest lexed.after_value)
place_text p (tok.number s) b k h rest = allowed_text (may_begin p) (tok.number s) k lexed.after_value tt (rest lexed.after_value)
place_text p (tok.boolean c) b k h rest = allowed_text (may_begin p) (tok.boolean c) k lexed.after_value tt (rest lexed.after_value)
place_text p tok.null b k h rest = allowed_text (may_begin p) tok.null k lexed.after_value tt (rest lexed.after_value)
place_text p tok.bad b k h rest = (tt, tt)

punctuated_text : (p : Place) (ls : List Lexeme) → AreTextLexemes ls → AreTextTokens (punctuate p ls)
unfolding punctuate
punctuated_text lexed.fresh [] h = tt
punctuated_text lexed.after_value [] h = tt
punctuated_text lexed.after_comma [] h = (tt, tt)
punctuated_text lexed.after_key [] h = (tt, tt)
punctuated_text p (token t ∷ ls) h = place_text p t (begins_colon ls) (λ next. punctuate next ls) h.0 (λ next. punctuated_text next ls h.1)
punctuated_text lexed.fresh (comma ∷ ls) h = (tt, tt)
punctuated_text lexed.after_value (comma ∷ ls) h = punctuated_text lexed.after_comma ls h.1
punctuated_text lexed.after_comma (comma ∷ ls) h = (tt, tt)
punctuated_text lexed.after_key (comma ∷ ls) h = (tt, tt)
punctuated_text lexed.fresh (colon ∷ ls) h = (tt, tt)
punctuated_text lexed.after_value (colon ∷ ls) h = (tt, tt)
punctuated_text lexed.after_comma (colon ∷ ls) h = (tt, tt)
punctuated_text lexed.after_key (colon ∷ ls) h = punctuated_text lexed.fresh ls h.1

tokens_text : (text : List ℕ) → IsUtf8 text → AreTextTokens (tokens text)
tokens_text text utf8 = punctuated_text lexed.fresh (lex between text) (lex_text text utf8 between text 0 refl)

-- ---- values

abbrev mutual
  IsTextJson : json.Json → Type 0
  IsTextJson json.null = ⊤
  IsTextJson (json.boolean b) = ⊤
  IsTextJson (json.number s) = ⊤
  IsTextJson (json.string s) = IsUtf8 s
  IsTextJson (json.array js) = AreTextItems js
  IsTextJson (json.object ms) = AreTextMembers ms

  AreTextItems : json.Items → Type 0
  AreTextItems json.no_items = ⊤
  AreTextItems (json.item j js) = IsTextJson j × AreTextItems js

  AreTextMembers : json.Members → Type 0
  AreTextMembers json.no_members = ⊤
  AreTextMembers (json.member k j ms) = IsTextJson j × AreTextMembers ms

-- what is parsed of such tokens, and what is left of them
abbrev Parsed : {A : Type 0} → (A → Type 0) → Option (A × List Token) → Type 0
Parsed P None = ⊤
Parsed P (Some p) = P p.0 × AreTextTokens p.1

abbrev Parses : {A : Type 0} → (A → Type 0) → json.Parse A → Type 0
Parses P f = (ts : List Token) → AreTextTokens ts → Parsed P (f ts)

mapped : {A B : Type 0} (P : A → Type 0) (Q : B → Type 0) (f : A → B) (r : Option (A × List Token)) → ((a : A) → P a → Q (f a)) → Parsed P r → Parsed Q (json.parse_map f r)
mapped P Q f None h p = tt
mapped P Q f (Some r) h p = (h r.0 p.0, p.1)

item_parsed : (value : json.Parse json.Json) (more : json.Parse json.Items) (r : Option (json.Json × List Token)) → Parses AreTextItems more →
    Parsed IsTextJson r → Parsed AreTextItems (option_and_then (λ p. json.parse_map (json.item p.0) (more p.1)) r)
item_parsed value more None m p = tt
item_parsed value more (Some r) m p = mapped AreTextItems AreTextItems (json.item r.0) (more r.1) (λ js h. (p.0, h)) (m r.1 p.1)

end_left : (ts : List Token) (rest : List Token) → AreTextTokens ts → json.after_end_array ts ≡ Some rest → AreTextTokens rest
end_left [] rest h e = absurd (cc)
end_left (tok.begin_object ∷ ts) rest h e = absurd (cc)
end_left (tok.end_object ∷ ts) rest h e = absurd (cc)
end_left (tok.begin_array ∷ ts) rest h e = absurd (cc)
end_left (tok.end_array ∷ ts) rest h e = let same : ts ≡ rest = cc in subst AreTextTokens same h.1
end_left (tok.key s ∷ ts) rest h e = absurd (cc)
end_left (tok.string s ∷ ts) rest h e = absurd (cc)
end_left (tok.number s ∷ ts) rest h e = absurd (cc)
end_left (tok.boolean b ∷ ts) rest h e = absurd (cc)
end_left (tok.null ∷ ts) rest h e = absurd (cc)
end_left (tok.bad ∷ ts) rest h e = absurd (cc)

items_at : (value : json.Parse json.Json) (more : json.Parse json.Items) (ts : List Token) (o : Option (List Token)) → json.after_end_array ts ≡ o →
    Parses IsTextJson value → Parses AreTextItems more → AreTextTokens ts → Parsed AreTextItems (json.items_step value more ts o)
items_at value more ts (Some rest) e v m h = (tt, end_left ts rest h e)
items_at value more ts None e v m h = item_parsed value more (value ts) m (v ts h)

items_parsed : (value : json.Parse json.Json) (n : ℕ) → Parses IsTextJson value → Parses AreTextItems (json.items value n)
unfolding json.items
items_parsed value zero v ts h = tt
items_parsed value (suc n) v ts h = items_at value (json.items value n) ts (json.after_end_array ts) refl v (items_parsed value n v) h

key_parsed : (ts : List Token) → AreTextTokens ts → Parsed (λ (o : Option (List ℕ)). ⊤) (json.read_key ts)
key_parsed [] h = tt
key_parsed (tok.begin_object ∷ ts) h = tt
key_parsed (tok.end_object ∷ ts) h = (tt, h.1)
key_parsed (tok.begin_array ∷ ts) h = tt
key_parsed (tok.end_array ∷ ts) h = tt
key_parsed (tok.key s ∷ ts) h = (tt, h.1)
key_parsed (tok.string s ∷ ts) h = tt
key_parsed (tok.number s ∷ ts) h = tt
key_parsed (tok.boolean b ∷ ts) h = tt
key_parsed (tok.null ∷ ts) h = tt
key_parsed (tok.bad ∷ ts) h = tt

member_parsed : (more : json.Parse json.Members) (k : List ℕ) (r : Option (json.Json × List Token)) → Parses AreTextMembers more → Parsed IsTextJson r →
    Parsed AreTextMembers (option_and_then (λ p. json.parse_map (json.member k p.0) (more p.1)) r)
member_parsed more k None m p = tt
member_parsed more k (Some r) m p = mapped AreTextMembers AreTextMembers (json.member k r.0) (more r.1) (λ ms h. (p.0, h)) (m r.1 p.1)

members_at : (value : json.Parse json.Json) (more : json.Parse json.Members) (o : Option (List ℕ)) (ts : List Token) → Parses IsTextJson value →
    Parses AreTextMembers more → AreTextTokens ts → Parsed AreTextMembers (json.members_step value more o ts)
members_at value more None ts v m h = (tt, h)
members_at value more (Some k) ts v m h = member_parsed more k (value ts) m (v ts h)

members_from : (value : json.Parse json.Json) (more : json.Parse json.Members) (r : Option (Option (List ℕ) × List Token)) → Parses IsTextJson value →
    Parses AreTextMembers more → Parsed (λ (o : Option (List ℕ)). ⊤) r → Parsed AreTextMembers (option_and_then (λ p. json.members_step value more p.0 p.1) r)
members_from value more None v m p = tt
members_from value more (Some r) v m p = members_at value more r.0 r.1 v m p.1

members_parsed : (value : json.Parse json.Json) (n : ℕ) → Parses IsTextJson value → Parses AreTextMembers (json.members value n)
unfolding json.members
members_parsed value zero v ts h = tt
members_parsed value (suc n) v ts h = members_from value (json.members value n) (json.read_key ts) v (members_parsed value n v) (key_parsed ts h)

value_at : (a : json.Parse json.Items) (o : json.Parse json.Members) → Parses AreTextItems a → Parses AreTextMembers o → Parses IsTextJson (json.value_with a o)
value_at a o p q [] h = tt
value_at a o p q (tok.begin_object ∷ ts) h = mapped AreTextMembers IsTextJson json.object (o ts) (λ ms m. m) (q ts h.1)
value_at a o p q (tok.end_object ∷ ts) h = tt
value_at a o p q (tok.begin_array ∷ ts) h = mapped AreTextItems IsTextJson json.array (a ts) (λ js m. m) (p ts h.1)
value_at a o p q (tok.end_array ∷ ts) h = tt
value_at a o p q (tok.key s ∷ ts) h = tt
value_at a o p q (tok.string s ∷ ts) h = (h.0, h.1)
value_at a o p q (tok.number s ∷ ts) h = (tt, h.1)
value_at a o p q (tok.boolean b ∷ ts) h = (tt, h.1)
value_at a o p q (tok.null ∷ ts) h = (tt, h.1)
value_at a o p q (tok.bad ∷ ts) h = tt

value_parsed : (n : ℕ) → Parses IsTextJson (json.value n)
unfolding json.value
value_parsed zero ts h = value_at (λ ts. None) (λ ts. None) (λ ts h. tt) (λ ts h. tt) ts h
value_parsed (suc n) ts h = value_at (λ ts. json.items (json.value n) (length ts) ts) (λ ts. json.members (json.value n) (length ts) ts)
    (λ ts h. items_parsed (json.value n) (length ts) (value_parsed n) ts h) (λ ts h. members_parsed (json.value n) (length ts) (value_parsed n) ts h) ts h

-- ---- what the value is

put_at : (o : Ordering) (k l : List ℕ) (d e : Data) (ms : kept.Members) → HasTexts d → HasTexts e → MembersHaveTexts ms → MembersHaveTexts (put k d ms) →
    MembersHaveTexts (match_ordering o (kept.member k d (kept.member l e ms)) (kept.member l d ms) (kept.member l e (put k d ms)))
put_at Less k l d e ms p q r s = (p, (q, r))
put_at Equal k l d e ms p q r s = (p, r)
put_at Greater k l d e ms p q r s = (q, s)

put_texts : (k : List ℕ) (d : Data) (ms : kept.Members) → HasTexts d → MembersHaveTexts ms → MembersHaveTexts (put k d ms)
put_texts k d kept.no_members p h = (p, tt)
put_texts k d (kept.member l e ms) p h = put_at (slice_cmp nat_cmp k l) k l d e ms p h.0 h.1 (put_texts k d ms p h.1)

-- what is there has texts
abbrev If : {A : Type 0} → (A → Type 0) → Option A → Type 0
If P None = ⊤
If P (Some a) = P a

if_map : {A B : Type 0} (P : A → Type 0) (Q : B → Type 0) (f : A → B) (o : Option A) → ((a : A) → P a → Q (f a)) → If P o → If Q (option_map f o)
if_map P Q f None h p = tt
if_map P Q f (Some a) h p = h a p

if_then : {A B : Type 0} (P : A → Type 0) (Q : B → Type 0) (f : A → Option B) (o : Option A) → ((a : A) → P a → If Q (f a)) → If P o → If Q (option_and_then f o)
if_then P Q f None h p = tt
if_then P Q f (Some a) h p = h a p

if_any : {A : Type 0} (o : Option A) → If (λ (a : A). ⊤) o
if_any None = tt
if_any (Some a) = tt

mutual
  json_texts : (j : json.Json) → IsTextJson j → If HasTexts (of_json j)
  json_texts json.null h = tt
  json_texts (json.boolean b) h = tt
  json_texts (json.number s) h = if_map (λ n. ⊤) HasTexts kept.number (number_of s) (λ n t. tt) (if_any (number_of s))
  json_texts (json.string s) h = h
  json_texts (json.array js) h = if_map HaveTexts HasTexts kept.array (of_items js) (λ ds t. t) (items_texts js h)
  json_texts (json.object ms) h = if_map MembersHaveTexts HasTexts kept.object (of_members ms kept.no_members) (λ ds t. t) (members_texts ms kept.no_members h tt)

  items_texts : (js : json.Items) → AreTextItems js → If HaveTexts (of_items js)
  items_texts json.no_items h = tt
  items_texts (json.item j js) h = if_then HasTexts HaveTexts (λ d. option_map (kept.item d) (of_items js)) (of_json j)
      (λ d t. if_map HaveTexts HaveTexts (kept.item d) (of_items js) (λ ds r. (t, r)) (items_texts js h.1)) (json_texts j h.0)

  members_texts : (ms : json.Members) (found : kept.Members) → AreTextMembers ms → MembersHaveTexts found → If MembersHaveTexts (of_members ms found)
  members_texts json.no_members found h own = own
  members_texts (json.member k j ms) found h own = if_then HasTexts MembersHaveTexts (λ d. of_members ms (put k d found)) (of_json j)
      (λ d t. members_texts ms (put k d found) h.1 (put_texts k d found t own)) (json_texts j h.0)

last_text : (j : json.Json) (ts : List Token) → IsTextJson j → If IsTextJson (json.if_last j ts)
last_text j [] h = h
last_text j (t ∷ ts) h = tt

last_of : (r : Option (json.Json × List Token)) → Parsed IsTextJson r → If IsTextJson (option_and_then (λ p. json.if_last p.0 p.1) r)
last_of None h = tt
last_of (Some p) h = last_text p.0 p.1 h.0

-- each string of the value that the text reads as
pub read_texts : (text : List ℕ) (d : Data) → IsUtf8 text → read text ≡ Some d → HasTexts d
read_texts text d utf8 e =
    let parsed = value_parsed max_depth (tokens text) (tokens_text text utf8) in
    subst (If HasTexts) e (if_then IsTextJson HasTexts of_json _ (λ j t. json_texts j t) (last_of (json.value max_depth (tokens text)) parsed))

pub read_form : ReadAreExpressible
read_form bytes doc is = document_form doc is.value (read_texts bytes is.value is.utf8 is.json) is.spelled
