-- Each token of a kind that holds a text stands for something.
use Rattle.std.proofs.Common.{◌≡◌, ℕ, true, List, [], ◌∷◌, ◌++◌, refl, sym, ap, subst, ◌∙◌, ◌⊎◌, inl, inr}
use Rattle.std.specs.Prelude.{nat_eq}
use Rattle.std.specs.Str.{NonePass}
use Rattle.rdf_lex.specs.declared.escapes.Inside.{Inside}
use Rattle.rdf_lex.specs.declared.escapes.Inside.TheVariants.{Local}
use Rattle.rdf_lex.specs.declared.kinds.Kind.{Kind}
use Rattle.rdf_lex.specs.declared.kinds.Kind.TheVariants as kinds
use Rattle.rdf_lex.specs.declared.kinds.Mode.TheVariants.{NTriples, Turtle, Map, Schema}
use Rattle.rdf_lex.specs.Characters.{name_base, name_char, short_char, long_char}
use Rattle.rdf_lex.specs.Escapes.{StandsFor, ends, inside_of, IsBehindColon, Body, holds_text, Means, IsSpelled}
use Rattle.rdf_lex.specs.Phrases.{Phrase, ◌⨾◌, ◌∣◌, Spells, char, maybe}
use Rattle.rdf_lex.specs.Spelling.{iri_ref, short_body, long_body, short_text, long_text, any_text, prefix, local_name, pname_ns, pname_ln, at_name}
use Rattle.rdf_lex.proofs.Standing.{char_is, iri_stands, short_stands, long_stands, local_stands, none_spelled}

-- one character before, and one behind
framed : (text xs rest body zs : List ℕ) (a b : ℕ) → text ≡ xs ++ rest → xs ≡ a ∷ [] → rest ≡ body ++ zs → zs ≡ b ∷ [] → text ≡ a ∷ (body ++ b ∷ [])
framed text xs rest body zs a b e f g h = e ∙ ap (λ (v : List ℕ). v ++ rest) f ∙ ap (λ (v : List ℕ). a ∷ v) (g ∙ ap (λ (v : List ℕ). body ++ v) h)

behind_one : (d : ℕ) (p : Phrase) (text : List ℕ) → Spells (char d ⨾ p) text → (rest : List ℕ) × (text ≡ d ∷ rest) × Spells p rest
behind_one d p text (xs, rest, e, h, k) = (rest, e ∙ ap (λ (v : List ℕ). v ++ rest) (char_is d xs h), k)

iri_means : (text : List ℕ) → Spells iri_ref text → (out : List ℕ) × Means kinds.IriRef text out
iri_means text (xs, rest, e, h, (body, zs, f, k, l)) =
    let s = iri_stands.stands body k in (s.0, (body, framed text xs rest body zs 60 62 e (char_is 60 xs h) f (char_is 62 zs l), s.1))

short_quoted : (q : ℕ) (text : List ℕ) → Spells (short_text q) text → (body : List ℕ) × (text ≡ q ∷ (body ++ q ∷ [])) × Spells (short_body q) body
short_quoted q text (xs, rest, e, h, (body, zs, f, k, l)) = (body, framed text xs rest body zs q q e (char_is q xs h) f (char_is q zs l), k)

three_behind : (q : ℕ) (text : List ℕ) → Spells (char q ⨾ char q ⨾ char q) text → text ≡ q ∷ q ∷ q ∷ []
three_behind q text h =
    let (r, e, k) = behind_one q (char q ⨾ char q) text h in
    let (s, f, l) = behind_one q (char q) r k in
    e ∙ ap (λ (v : List ℕ). q ∷ v) (f ∙ ap (λ (v : List ℕ). q ∷ v) (char_is q s l))

long_quoted : (q : ℕ) (text : List ℕ) → Spells (long_text q) text → (body : List ℕ) × (text ≡ q ∷ q ∷ q ∷ (body ++ q ∷ q ∷ q ∷ [])) × Spells (long_body q) body
long_quoted q text h =
    let (r, e, k) = behind_one q (char q ⨾ char q ⨾ long_body q ⨾ char q ⨾ char q ⨾ char q) text h in
    let (s, f, l) = behind_one q (char q ⨾ long_body q ⨾ char q ⨾ char q ⨾ char q) r k in
    let (t, g, (body, zs, i, m, n)) = behind_one q (long_body q ⨾ char q ⨾ char q ⨾ char q) s l in
    (body, e ∙ ap (λ (v : List ℕ). q ∷ v) (f ∙ ap (λ (v : List ℕ). q ∷ v) (g ∙ ap (λ (v : List ℕ). q ∷ v) (i ∙ ap (λ (v : List ℕ). body ++ v) (three_behind q zs n)))), m)

text_means : (text : List ℕ) → Spells any_text text → (out : List ℕ) × Means kinds.Str text out
unfolding short_char long_char
text_means text (inl h) = let (b, e, k) = short_quoted 34 text h in let s = (short_stands 34 refl).stands b k in (s.0, (b, inl (inl (e, k)), s.1))
text_means text (inr (inl h)) = let (b, e, k) = short_quoted 39 text h in let s = (short_stands 39 refl).stands b k in (s.0, (b, inr (inl (e, k)), s.1))
text_means text (inr (inr (inl h))) = let (b, e, k) = long_quoted 34 text h in let s = (long_stands 34 refl refl).stands b k in (s.0, (b, inl (inr (e, k)), s.1))
text_means text (inr (inr (inr h))) = let (b, e, k) = long_quoted 39 text h in let s = (long_stands 39 refl refl).stands b k in (s.0, (b, inr (inr (e, k)), s.1))

no_colon : (front : List ℕ) → Spells (maybe prefix) front → NonePass (λ c. nat_eq c 58) front
unfolding name_base name_char
no_colon front h = none_spelled 58 (maybe prefix) front refl h

-- a prefix, its colon, and what stands behind it
named_behind : (text : List ℕ) → Spells pname_ns text ⊎ Spells pname_ln text → (body : List ℕ) × (out : List ℕ) × IsBehindColon text body × StandsFor Local body out
named_behind text (inl (front, zs, e, h, k)) = ([], [], (front, e ∙ ap (λ (v : List ℕ). front ++ v) (char_is 58 zs k), no_colon front h), ends)
named_behind text (inr (front, rest, e, h, k)) =
    let (body, f, l) = behind_one 58 local_name rest k in
    let s = local_stands.stands body l in
    (body, s.0, (front, e ∙ ap (λ (v : List ℕ). front ++ v) f, no_colon front h), s.1)

name_means : (k : Kind) (text : List ℕ) → ((body : List ℕ) → IsBehindColon text body → Body k text body) → inside_of k ≡ Local → Spells pname_ns text ⊎
    Spells pname_ln text → (out : List ℕ) × Means k text out
name_means k text f e h = let (body, out, b, s) = named_behind text h in (out, (body, f body b, subst (λ (w : Inside). StandsFor w body out) (sym e) s))

at_name_means : (text : List ℕ) → Spells at_name text → (out : List ℕ) × Means kinds.AtName text out
at_name_means text h =
    let (rest, e, k) = behind_one 64 (pname_ns ∣ pname_ln) text h in
    let (body, out, (front, f, none), s) = named_behind rest k in
    (out, (body, (64 ∷ front, e ∙ ap (λ (v : List ℕ). 64 ∷ v) f, (refl, none)), s))

pub has_meaning : (k : Kind) (text : List ℕ) → holds_text k ≡ true → IsSpelled k text → (out : List ℕ) × Means k text out
has_meaning kinds.IriRef text e (m, h) = iri_means text h
has_meaning kinds.Str text e (m, h) = text_means text h
has_meaning kinds.PnameNs text e (m, h) = name_means kinds.PnameNs text (λ body b. b) refl (inl h)
has_meaning kinds.PnameLn text e (m, h) = name_means kinds.PnameLn text (λ body b. b) refl (inr h)
has_meaning kinds.AtName text e (NTriples, h) = absurd h
has_meaning kinds.AtName text e (Turtle, h) = absurd h
has_meaning kinds.AtName text e (Map, h) = at_name_means text h
has_meaning kinds.AtName text e (Schema, h) = at_name_means text h
has_meaning k text e h = absurd cc
