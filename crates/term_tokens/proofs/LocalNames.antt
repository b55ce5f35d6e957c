-- A local name without escapes stands for itself.
use Rattle.std.proofs.Common.{◌≡◌, ℕ, Bool, true, List, [], ◌∷◌, Some, Result, refl, subst, sym, arith, string_bytes}
use Rattle.std.specs.Prelude.{nat_eq, not, String}
use Rattle.std.specs.declared.alloc.Global.{Global}
use Rattle.std.specs.List.{list_all}
use Rattle.std.specs.Str.{all_scalars, chars, IsUtf8}
use Rattle.std.proofs.Math.Utf8.{scalar}
use Rattle.std.proofs.lemmas.Bool.{not-true}
use Rattle.std.proofs.lemmas.Bool.Decides.{nat_tests}
use Rattle.std.proofs.lemmas.Str.{scalars-chars}
use Rattle.rdf_lex.specs.declared.escapes.Inside.TheVariants.{Local}
use Rattle.rdf_lex.specs.declared.kinds.Kind.{Kind}
use Rattle.rdf_lex.specs.declared.kinds.Kind.TheVariants as kinds
use Rattle.rdf_lex.specs.Escapes.{StandsFor, ends, plain, fits, is_character, stands_alone, inside_of, holds_text, Body, IsBehindColon, IsSpelled}
use Rattle.rdf_lex.specs.Tokens.{Spelled}
use Rattle.rdf_lex.proofs.Languages.{and_true}
use Rattle.rdf_lex.proofs.Meanings.{has_meaning}
use Rattle.rdf_cursor.specs.Stops.{Answers}
use Rattle.rdf_cursor.specs.declared.stops.Stop.{Stop}
use Rattle.term_tokens.specs.Meanings.{text_of}
use Rattle.term_tokens.specs.Scopes.{Scope}
use Rattle.term_tokens.specs.Terms.{is_name, joined, name_in, prefix_of}
use Rattle.term_tokens.proofs.Meanings.{text_is}

stands_itself : (cs : List ℕ) → list_all (stands_alone Local) cs ≡ true → StandsFor Local cs cs
stands_itself [] e = ends
stands_itself (c ∷ cs) e = let p = and_true (not (nat_eq c 92)) (list_all (stands_alone Local) cs) e in plain c (not-true (nat_eq c 92) p.0) (stands_itself cs p.1)

is_one : (c : ℕ) → scalar c ≡ true → is_character c ≡ true
is_one c s = grind (arith, nat_tests)

all_stand : (cs : List ℕ) → all_scalars cs ≡ true → list_all (fits Local) cs ≡ true
all_stand [] s = refl
all_stand (c ∷ cs) s = let p = and_true (scalar c) (all_scalars cs) s in rw (is_one c p.0, all_stand cs p.1) refl

-- by the kind of a prefixed name
pub name_holds : (k : Kind) → is_name k ≡ true → holds_text k ≡ true
name_holds kinds.PnameNs e = refl
name_holds kinds.PnameLn e = refl
name_holds kinds.AtName e = refl
name_holds k e = absurd cc

behind : (k : Kind) (text body : List ℕ) → is_name k ≡ true → Body k text body → IsBehindColon text body
behind kinds.PnameNs text body e h = h
behind kinds.PnameLn text body e h = h
behind kinds.AtName text body e h = h
behind k text body e h = absurd cc

local_inside : (k : Kind) → is_name k ≡ true → Local ≡ inside_of k
local_inside kinds.PnameNs e = refl
local_inside kinds.PnameLn e = refl
local_inside kinds.AtName e = refl
local_inside k e = absurd cc

-- what is written behind the colon is what the token stands for
pub itself : (t : Spelled) (local : List ℕ) → is_name t.kind ≡ true → IsSpelled t.kind (chars t.text) → IsUtf8 local → ((body : List ℕ) → IsBehindColon (chars t.text) body → chars local ≡ body)
    → list_all (stands_alone Local) (chars local) ≡ true → text_of t ≡ Some (chars local)
itself t local name spelled utf8 written alone =
    let (out, (body, is_body, stands)) = has_meaning t.kind (chars t.text) (name_holds t.kind name) spelled in
    let same : chars local ≡ body = written body (behind t.kind (chars t.text) body name is_body) in
    text_is t (chars local)
    (record {
      spelled = spelled;
      means = (
        chars local,
        subst (λ (v : List ℕ). Body t.kind (chars t.text) v) (sym same) is_body,
        subst (λ w. StandsFor w (chars local) (chars local)) (local_inside t.kind name) (stands_itself (chars local) alone),
      );
      fitting = subst (λ w. list_all (fits w) (chars local) ≡ true) (local_inside t.kind name) (all_stand (chars local) (scalars-chars local utf8));
    })

-- the IRI of a name by its prefix and its local name
pub name_answers : (k : Bool) (res : Result (String Global) Stop) (v : Scope) (t : Spelled) (local prefix : List ℕ) → text_of t ≡ Some (chars local) → prefix ≡ prefix_of t
    → Answers string_bytes res (joined k (Some (chars local)) (v.prefixes prefix)) → Answers string_bytes res (name_in k v t)
name_answers k res v t local prefix e f h = rw (e, sym f) h
