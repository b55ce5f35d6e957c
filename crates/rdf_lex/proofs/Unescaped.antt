-- A part without escapes stands for itself.
use Rattle.std.proofs.Common.{◌≡◌, ◌∙◌, ℕ, Bool, true, false, ◌&&◌, not, List, [], ◌∷◌, Ok, refl, arith, sym, ap, subst, encode_utf8_all, string_bytes}
use Rattle.std.specs.Prelude.{nat_eq, String}
use Rattle.std.specs.declared.alloc.Global.{Global}
use Rattle.std.specs.List.{list_all}
use Rattle.std.specs.Str.{all_scalars, chars, IsUtf8}
use Rattle.std.proofs.lemmas.Bool.{not-true}
use Rattle.std.proofs.lemmas.Bool.Decides.{nat_tests}
use Rattle.std.proofs.Math.Utf8.{scalar}
use Rattle.std.proofs.lemmas.Str.{encodes-chars, scalars-chars}
use Rattle.rdf_lex.specs.declared.escapes.Inside.{Inside}
use Rattle.rdf_lex.specs.declared.escapes.Inside.TheVariants.{Iri, Text, Local}
use Rattle.rdf_lex.specs.Characters.{has, iri_char}
use Rattle.rdf_lex.specs.Escapes.{StandsFor, ends, plain, fits, is_character, stands_alone, ReadsAs}
use Rattle.rdf_lex.proofs.Languages.{and_true}
use Rattle.rdf_lex.proofs.Meant.{stands_for_one}

no_backslash : (w : Inside) (c : ℕ) → stands_alone w c ≡ true → nat_eq c 92 ≡ false
no_backslash Iri c e = not-true (nat_eq c 92) (and_true (not (nat_eq c 92)) (has iri_char c) e).0
no_backslash Text c e = not-true (nat_eq c 92) e
no_backslash Local c e = not-true (nat_eq c 92) e

stands_itself : (w : Inside) (cs : List ℕ) → list_all (stands_alone w) cs ≡ true → StandsFor w cs cs
stands_itself w [] e = ends
stands_itself w (c ∷ cs) e = let p = and_true (stands_alone w c) (list_all (stands_alone w) cs) e in plain c (no_backslash w c p.0) (stands_itself w cs p.1)

is_one : (c : ℕ) → scalar c ≡ true → is_character c ≡ true
is_one c s = grind (arith, nat_tests)

may_stand : (w : Inside) (c : ℕ) → stands_alone w c ≡ true → scalar c ≡ true → fits w c ≡ true
may_stand Iri c e s = rw (is_one c s, (and_true (not (nat_eq c 92)) (has iri_char c) e).1) refl
may_stand Text c e s = is_one c s
may_stand Local c e s = is_one c s

may_all_stand : (w : Inside) (cs : List ℕ) → list_all (stands_alone w) cs ≡ true → all_scalars cs ≡ true → list_all (fits w) cs ≡ true
may_all_stand w [] e s = refl
may_all_stand w (c ∷ cs) e s =
    let p = and_true (stands_alone w c) (list_all (stands_alone w) cs) e in
    let q = and_true (scalar c) (all_scalars cs) s in
    rw (may_stand w c p.0 q.0, may_all_stand w cs p.1 q.1) refl

-- what is copied is what it stands for
pub reads_itself : (w : Inside) (body : List ℕ) (t : String Global) → IsUtf8 body → list_all (stands_alone w) (chars body) ≡ true → string_bytes t ≡ body →
    (out : List ℕ) → StandsFor w (chars body) out → ReadsAs w out (Ok t)
reads_itself w body t utf8 alone copied out h =
    let same : chars body ≡ out = stands_for_one w (chars body) (chars body) out (stands_itself w (chars body) alone) h in (
      copied ∙ (sym (encodes-chars body utf8) ∙ ap encode_utf8_all same),
      subst (λ v. list_all (fits w) v ≡ true) same (may_all_stand w (chars body) alone (scalars-chars body utf8)),
    )
