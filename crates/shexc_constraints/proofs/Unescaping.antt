-- What a pattern between slashes stands for, as the code finds it.
use Rattle.std.proofs.Common.{append_assoc, ◌≡◌, ◌<◌, ◌≤◌, ℕ, zero, suc, ◌+◌, Bool, true, false, cond, ◌&&◌, List, [], ◌∷◌, ◌++◌, length, take, drop, Option, Some, None, Ok, Err, refl, sym, ap, subst, ◌∙◌, arith, encode_utf8_all, encode_utf8, get_or}
use Rattle.std.specs.Prelude.{nat_eq, not}
use Rattle.std.specs.Str.{chars, all_scalars}
use Rattle.std.proofs.lemmas.Bool.Decides.{nat_tests}
use Rattle.std.proofs.Math.Utf8.{scalar}
use Rattle.std.proofs.lemmas.List.{nil_from_length, take_all, take_more, append-nil}
use Rattle.std.proofs.lemmas.Str.{chars-encodes, encodes-append}
use Rattle.rdf_cursor.specs.Symbols.{is_symbol}
use Rattle.rdf_cursor.specs.declared.symbols.Symbol.TheVariants as symbol
use Rattle.rdf_lex.specs.Escapes.{number_of, is_character}
use Rattle.rdf_lex.specs.Tokens.{Spelled}
use Rattle.node_constraint.specs.declared.facet.Facet.{Facet}
use Rattle.node_constraint.specs.declared.facet.Facet.TheVariants as facets
use Rattle.shexc_constraints.specs.declared.faults.Fault.TheVariants.{Syntax}
use Rattle.shexc_constraints.specs.declared.patterns.Piece.{Piece}
use Rattle.shexc_constraints.specs.declared.patterns.Piece.TheVariants.{One, Kept}
use Rattle.shexc_constraints.specs.Facets.{is_given}
use Rattle.shexc_constraints.specs.Patterns.{pattern_of, written, are_digits, four_digits, low_digits, high_digits, eight_digits, numeric, escape_at, piece_at, Parts, with_front, behind_piece, parts_within, parts_of, at_end, flags_in, Leads, pattern_by}

-- what is behind digits and pieces is shorter
no_some : {A : Type 0} (x : A) → Path (Option A) None (Some x) → ⊥
no_some x e = cc

same_some : {A : Type 0} (x y : A) → Path (Option A) (Some x) (Some y) → x ≡ y
same_some x y e = cc

chosen_behind : {A : Type 0} (b : Bool) (x y : A × List ℕ) (n : ℕ) → length x.1 < n → Path (Option (A × List ℕ)) (cond b (Some x) None) (Some y) → length y.1 < n
chosen_behind {A = A} true x y n l e = subst (λ (p : A × List ℕ). length p.1 < n) (same_some x y e) l
chosen_behind false x y n l e = absurd (no_some y e)

four_behind : (cs : List ℕ) (p : ℕ × List ℕ) → four_digits cs ≡ Some p → length p.1 < length cs
four_behind (a ∷ b ∷ c ∷ d ∷ cs) p e = chosen_behind (are_digits a b c d) (number_of (a ∷ b ∷ c ∷ d ∷ []), cs) p _ (omega arith) e
four_behind (a ∷ b ∷ c ∷ []) p e = absurd (no_some p e)
four_behind (a ∷ b ∷ []) p e = absurd (no_some p e)
four_behind (a ∷ []) p e = absurd (no_some p e)
four_behind [] p e = absurd (no_some p e)

low_behind : (high : ℕ) (cs : List ℕ) (o : Option (ℕ × List ℕ)) (p : ℕ × List ℕ) → four_digits cs ≡ o → low_digits high o ≡ Some p → length p.1 < length cs
low_behind high cs None p is e = absurd (no_some p e)
low_behind high cs (Some q) p is e = subst (λ (r : ℕ × List ℕ). length r.1 < length cs) (same_some _ p e) (four_behind cs q is)

high_behind : (cs : List ℕ) (o : Option (ℕ × List ℕ)) (p : ℕ × List ℕ) → four_digits cs ≡ o → high_digits o ≡ Some p → length p.1 < length cs
high_behind cs None p is e = absurd (no_some p e)
high_behind cs (Some q) p is e = let a = four_behind cs q is in let b = low_behind q.0 q.1 (four_digits q.1) p refl e in omega (arith, a, b)

eight_behind : (cs : List ℕ) (p : ℕ × List ℕ) → eight_digits cs ≡ Some p → length p.1 < length cs
eight_behind cs p e = high_behind cs (four_digits cs) p refl e

numeric_behind : (c : ℕ) (cs : List ℕ) (o : Option (ℕ × List ℕ)) (p : Piece × List ℕ) → ((q : ℕ × List ℕ) → o ≡ Some q → length q.1 < length cs) →
    numeric c cs o ≡ Some p → length p.1 < suc (length cs)
numeric_behind c cs None p h e = subst (λ (r : Piece × List ℕ). length r.1 < suc (length cs)) (same_some (Kept c, cs) p e) (omega arith)
numeric_behind c cs (Some q) p h e = let l = h q refl in chosen_behind (is_character q.0) (One q.0, q.1) p _ (omega (arith, l)) e

escape_by : (c : ℕ) (cs : List ℕ) (a b d : Bool) (p : Piece × List ℕ)
    → cond a (Some (One 47, cs)) (cond b (numeric c cs (four_digits cs)) (cond d (numeric c cs (eight_digits cs)) (Some (Kept c, cs)))) ≡ Some p → length p.1 < suc (length cs)
escape_by c cs true b d p e = subst (λ (r : Piece × List ℕ). length r.1 < suc (length cs)) (same_some (One 47, cs) p e) (omega arith)
escape_by c cs false true d p e = numeric_behind c cs (four_digits cs) p (λ q h. four_behind cs q h) e
escape_by c cs false false true p e = numeric_behind c cs (eight_digits cs) p (λ q h. eight_behind cs q h) e
escape_by c cs false false false p e = subst (λ (r : Piece × List ℕ). length r.1 < suc (length cs)) (same_some (Kept c, cs) p e) (omega arith)

escape_behind : (cs : List ℕ) (p : Piece × List ℕ) → escape_at cs ≡ Some p → length p.1 < suc (length cs)
escape_behind [] p e = absurd (no_some p e)
escape_behind (c ∷ cs) p e = let l = escape_by c cs (nat_eq c 47) (nat_eq c 117) (nat_eq c 85) p e in omega (arith, l)

piece_by : (c : ℕ) (cs : List ℕ) (b : Bool) (p : Piece × List ℕ) → cond b (escape_at cs) (Some (One c, cs)) ≡ Some p → length p.1 < suc (length cs)
piece_by c cs true p e = escape_behind cs p e
piece_by c cs false p e = subst (λ (r : Piece × List ℕ). length r.1 < suc (length cs)) (same_some (One c, cs) p e) (omega arith)

pub piece_behind : (cs : List ℕ) (p : Piece × List ℕ) → piece_at cs ≡ Some p → length p.1 < length cs
unfolding piece_at
piece_behind [] p e = absurd (no_some p e)
piece_behind (c ∷ cs) p e = piece_by c cs (nat_eq c 92) p e

-- more pieces than characters make no difference
pieces_alike : (f g : List ℕ → Option Parts) (cs : List ℕ) (o : Option (Piece × List ℕ)) → piece_at cs ≡ o → ((ds : List ℕ) → length ds < length cs → f ds ≡ g ds) → behind_piece f o ≡ behind_piece g o
pieces_alike f g cs None is h = refl
pieces_alike f g cs (Some p) is h = ap (with_front (written p.0)) (h p.1 (piece_behind cs p is))

parts_enough : (n m : ℕ) (cs : List ℕ) → length cs ≤ n → length cs ≤ m → parts_within n cs ≡ parts_within m cs
parts_enough zero zero cs l k = refl
parts_enough zero (suc m) [] l k = refl
parts_enough zero (suc m) (c ∷ cs) l k = absurd (omega (arith, l))
parts_enough (suc n) zero [] l k = refl
parts_enough (suc n) zero (c ∷ cs) l k = absurd (omega (arith, k))
parts_enough (suc n) (suc m) [] l k = refl
parts_enough (suc n) (suc m) (c ∷ cs) l k =
    ap (λ (o : Option Parts). cond (nat_eq c 47) (Some ([], cs)) o)
    (pieces_alike (parts_within n) (parts_within m) (c ∷ cs) (piece_at (c ∷ cs)) refl (λ ds s. parts_enough n m ds (omega (arith, l, s)) (omega (arith, k, s))))

-- a piece more
pub piece_on : (cs : List ℕ) (p : Piece × List ℕ) → at_end cs ≡ false → piece_at cs ≡ Some p → parts_of cs ≡ with_front (written p.0) (parts_of p.1)
unfolding parts_of
piece_on [] p n is = absurd cc
piece_on (c ∷ cs) p n is =
    let b = piece_behind (c ∷ cs) p is in
    rw (n, is) (ap (with_front (written p.0)) (parts_enough (length cs) (length p.1) p.1 (omega (arith, b)) (omega arith)))

pub piece_none : (cs : List ℕ) → at_end cs ≡ false → piece_at cs ≡ None → parts_of cs ≡ None
unfolding parts_of
piece_none [] n is = absurd cc
piece_none (c ∷ cs) n is = rw (n, is) refl

front_twice : (a b : List ℕ) (o : Option Parts) → with_front a (with_front b o) ≡ with_front (a ++ b) o
front_twice a b None = refl
front_twice a b (Some p) = ap (λ (x : List ℕ). Some (x, p.1)) (sym (append_assoc a b p.0))

front_none : (o : Option Parts) → with_front [] o ≡ o
front_none None = refl
front_none (Some p) = refl

-- all characters are scalar values
scalar_is : (n : ℕ) → is_character n ≡ true → scalar n ≡ true
scalar_is n e = grind (arith, nat_tests)

both_true : (a b : Bool) → (a && b) ≡ true → (a ≡ true) × (b ≡ true)
both_true true b e = (refl, e)
both_true false b e = absurd cc

head_scalar : (c : ℕ) (cs : List ℕ) → all_scalars (c ∷ cs) ≡ true → (scalar c ≡ true) × (all_scalars cs ≡ true)
head_scalar c cs e = both_true (scalar c) (all_scalars cs) e

scalars_more : (c : ℕ) (cs : List ℕ) → scalar c ≡ true → all_scalars cs ≡ true → all_scalars (c ∷ cs) ≡ true
scalars_more c cs e h = rw (e, h) refl

pub scalars_both : (xs ys : List ℕ) → all_scalars xs ≡ true → all_scalars ys ≡ true → all_scalars (xs ++ ys) ≡ true
scalars_both [] ys h k = k
scalars_both (x ∷ xs) ys h k = let a = head_scalar x xs h in scalars_more x (xs ++ ys) a.0 (scalars_both xs ys a.1 k)

abbrev pub Fine : Piece × List ℕ → Type 0
Fine p = (all_scalars (written p.0) ≡ true) × (all_scalars p.1 ≡ true)

one_fine : (c : ℕ) (cs : List ℕ) → scalar c ≡ true → all_scalars cs ≡ true → Fine (One c, cs)
one_fine c cs e h = (scalars_more c [] e refl, h)

kept_fine : (c : ℕ) (cs : List ℕ) → scalar c ≡ true → all_scalars cs ≡ true → Fine (Kept c, cs)
kept_fine c cs e h = (scalars_more 92 (c ∷ []) refl (scalars_more c [] e refl), h)

chosen_fine : (n : ℕ) (cs : List ℕ) (b : Bool) (p : Piece × List ℕ) → is_character n ≡ b → all_scalars cs ≡ true → Path (Option (Piece × List ℕ)) (cond b (Some (One n, cs)) None) (Some p) → Fine p
chosen_fine n cs true p is h e = subst Fine (same_some (One n, cs) p e) (one_fine n cs (scalar_is n is) h)
chosen_fine n cs false p is h e = absurd (no_some p e)

rest_chosen : (b : Bool) (x y : ℕ × List ℕ) → all_scalars x.1 ≡ true → Path (Option (ℕ × List ℕ)) (cond b (Some x) None) (Some y) → all_scalars y.1 ≡ true
rest_chosen true x y h e = subst (λ (p : ℕ × List ℕ). all_scalars p.1 ≡ true) (same_some x y e) h
rest_chosen false x y h e = absurd (no_some y e)

four_fine : (cs : List ℕ) (p : ℕ × List ℕ) → all_scalars cs ≡ true → four_digits cs ≡ Some p → all_scalars p.1 ≡ true
four_fine (a ∷ b ∷ c ∷ d ∷ cs) p h e =
    let h1 = head_scalar a (b ∷ c ∷ d ∷ cs) h in let h2 = head_scalar b (c ∷ d ∷ cs) h1.1 in let h3 = head_scalar c (d ∷ cs) h2.1 in let h4 = head_scalar d cs h3.1 in
    rest_chosen (are_digits a b c d) (number_of (a ∷ b ∷ c ∷ d ∷ []), cs) p h4.1 e
four_fine (a ∷ b ∷ c ∷ []) p h e = absurd (no_some p e)
four_fine (a ∷ b ∷ []) p h e = absurd (no_some p e)
four_fine (a ∷ []) p h e = absurd (no_some p e)
four_fine [] p h e = absurd (no_some p e)

low_fine : (high : ℕ) (cs : List ℕ) (o : Option (ℕ × List ℕ)) (p : ℕ × List ℕ) → all_scalars cs ≡ true → four_digits cs ≡ o → low_digits high o ≡ Some p → all_scalars p.1 ≡ true
low_fine high cs None p h is e = absurd (no_some p e)
low_fine high cs (Some q) p h is e = subst (λ (r : ℕ × List ℕ). all_scalars r.1 ≡ true) (same_some _ p e) (four_fine cs q h is)

high_fine : (cs : List ℕ) (o : Option (ℕ × List ℕ)) (p : ℕ × List ℕ) → all_scalars cs ≡ true → four_digits cs ≡ o → high_digits o ≡ Some p → all_scalars p.1 ≡ true
high_fine cs None p h is e = absurd (no_some p e)
high_fine cs (Some q) p h is e = low_fine q.0 q.1 (four_digits q.1) p (four_fine cs q h is) refl e

numeric_fine : (c : ℕ) (cs : List ℕ) (o : Option (ℕ × List ℕ)) (p : Piece × List ℕ) → scalar c ≡ true → all_scalars cs ≡ true →
    ((q : ℕ × List ℕ) → o ≡ Some q → all_scalars q.1 ≡ true) → numeric c cs o ≡ Some p → Fine p
numeric_fine c cs None p s h k e = subst Fine (same_some (Kept c, cs) p e) (kept_fine c cs s h)
numeric_fine c cs (Some q) p s h k e = chosen_fine q.0 q.1 (is_character q.0) p refl (k q refl) e

escape_cases : (c : ℕ) (cs : List ℕ) (a b d : Bool) (p : Piece × List ℕ) → scalar c ≡ true → all_scalars cs ≡ true
    → cond a (Some (One 47, cs)) (cond b (numeric c cs (four_digits cs)) (cond d (numeric c cs (eight_digits cs)) (Some (Kept c, cs)))) ≡ Some p → Fine p
escape_cases c cs true b d p s h e = subst Fine (same_some (One 47, cs) p e) (one_fine 47 cs refl h)
escape_cases c cs false true d p s h e = numeric_fine c cs (four_digits cs) p s h (λ q k. four_fine cs q h k) e
escape_cases c cs false false true p s h e = numeric_fine c cs (eight_digits cs) p s h (λ q k. high_fine cs (four_digits cs) q h refl k) e
escape_cases c cs false false false p s h e = subst Fine (same_some (Kept c, cs) p e) (kept_fine c cs s h)

escape_fine : (cs : List ℕ) (p : Piece × List ℕ) → all_scalars cs ≡ true → escape_at cs ≡ Some p → Fine p
escape_fine [] p h e = absurd (no_some p e)
escape_fine (c ∷ cs) p h e = let a = head_scalar c cs h in escape_cases c cs (nat_eq c 47) (nat_eq c 117) (nat_eq c 85) p a.0 a.1 e

piece_cases : (c : ℕ) (cs : List ℕ) (b : Bool) (p : Piece × List ℕ) → scalar c ≡ true → all_scalars cs ≡ true → cond b (escape_at cs) (Some (One c, cs)) ≡ Some p → Fine p
piece_cases c cs true p s h e = escape_fine cs p h e
piece_cases c cs false p s h e = subst Fine (same_some (One c, cs) p e) (one_fine c cs s h)

pub piece_fine : (cs : List ℕ) (p : Piece × List ℕ) → all_scalars cs ≡ true → piece_at cs ≡ Some p → Fine p
unfolding piece_at
piece_fine [] p h e = absurd (no_some p e)
piece_fine (c ∷ cs) p h e = let a = head_scalar c cs h in piece_cases c cs (nat_eq c 92) p a.0 a.1 e

-- what is left of a text whose characters so far stand for these
abbrev pub Comes : List ℕ → List ℕ → List ℕ → Type 0
Comes all out rest = (parts_of all ≡ with_front out (parts_of rest)) × (all_scalars out ≡ true) × (all_scalars rest ≡ true)

pub comes_first : (all out : List ℕ) → out ≡ [] → all_scalars all ≡ true → Comes all out all
comes_first all out e h = subst (λ (x : List ℕ). Comes all x all) (sym e) (sym (front_none (parts_of all)), refl, h)

pub comes_on : (all out more rest : List ℕ) (p : Piece × List ℕ) → at_end rest ≡ false → Some p ≡ piece_at rest → more ≡ out ++ written p.0 → Comes all out rest → Comes all more p.1
comes_on all out more rest p n is grown (e, s, h) =
    let f = piece_fine rest p h (sym is) in (
      e ∙ ap (with_front out) (piece_on rest p n (sym is)) ∙ front_twice out (written p.0) (parts_of p.1) ∙ ap (λ (x : List ℕ). with_front x (parts_of p.1)) (sym grown),
      subst (λ (x : List ℕ). all_scalars x ≡ true) (sym grown) (scalars_both out (written p.0) s f.0),
      f.1,
    )

pub comes_none : (all out rest : List ℕ) → at_end rest ≡ false → None ≡ piece_at rest → Comes all out rest → parts_of all ≡ None
comes_none all out rest n is (e, s, h) = e ∙ ap (with_front out) (piece_none rest n (sym is))

no_flags : (b : Bool) (cs : List ℕ) → b ≡ true → None ≡ cond b (Some cs) None → ⊥
no_flags true cs e n = absurd (no_some cs n)
no_flags false cs e n = absurd cc

none_behind : (rest : List ℕ) → at_end rest ≡ true → None ≡ flags_in rest → parts_of rest ≡ None
unfolding parts_of
none_behind [] e n = refl
none_behind (c ∷ cs) e n = absurd (no_flags (nat_eq c 47) cs e n)

pub leads_no_flags : (all out rest : List ℕ) → Leads all (Some (out, rest)) → None ≡ flags_in rest → pattern_by (parts_of all) ≡ Err Syntax
leads_no_flags all out rest (e, s, h, n) f = ap pattern_by (e ∙ ap (with_front out) (none_behind rest n f))

flags_behind : (b : Bool) (cs flags : List ℕ) (other : Option Parts) → b ≡ true → Some flags ≡ cond b (Some cs) None → Path (Option Parts) (cond b (Some ([], cs)) other) (Some ([], flags))
flags_behind true cs flags other e f = ap (λ (x : List ℕ). Some ([], x)) (sym (same_some flags cs f))
flags_behind false cs flags other e f = absurd cc

some_behind : (rest flags : List ℕ) → at_end rest ≡ true → Some flags ≡ flags_in rest → parts_of rest ≡ Some ([], flags)
unfolding parts_of
some_behind [] flags e f = absurd (no_some flags (sym f))
some_behind (c ∷ cs) flags e f = flags_behind (nat_eq c 47) cs flags _ e f

pub leads_ok : (all out rest flags text text_flags : List ℕ) → Leads all (Some (out, rest)) → Some flags ≡ flags_in rest → text ≡ out → text_flags ≡ flags →
    pattern_by (parts_of all) ≡ Ok (facets.Pattern text text_flags)
leads_ok all out rest flags text text_flags (e, s, h, n) f a b =
    ap pattern_by (e ∙ ap (with_front out) (some_behind rest flags n f))
    ∙ ap (λ (x : List ℕ). Ok (facets.Pattern x flags)) (append-nil out ∙ sym a) ∙ ap (λ (x : List ℕ). Ok (facets.Pattern text x)) (sym b)

-- a text of characters
pub text_more : (cs : List ℕ) (i x d : ℕ) (old new : List ℕ) → i < length cs → x ≡ get_or cs i d → old ≡ encode_utf8_all (take i cs) →
    new ≡ old ++ encode_utf8 x → new ≡ encode_utf8_all (take (i + 1) cs)
text_more cs i x d old new l is e g =
    g ∙ ap (λ (y : List ℕ). y ++ encode_utf8 x) e
    ∙ ap (λ (y : List ℕ). encode_utf8_all (take i cs) ++ y) (sym (append-nil (encode_utf8 x)))
    ∙ sym (encodes-append (take i cs) (x ∷ []))
    ∙ ap encode_utf8_all (ap (λ (y : ℕ). take i cs ++ y ∷ []) is ∙ sym (take_more cs i d l))

pub text_whole : (cs : List ℕ) (i : ℕ) (text t : List ℕ) → all_scalars cs ≡ true → length cs ≤ i → text ≡ encode_utf8_all (take i cs) → t ≡ chars text → t ≡ cs
text_whole cs i text t h l e is = is ∙ ap chars (e ∙ ap encode_utf8_all (take_all i cs l)) ∙ chars-encodes cs h

-- a token without characters is no pattern
empty_by : (b : Bool) (cs : List ℕ) → cs ≡ [] → cond b (pattern_by (parts_of (drop 1 cs))) (Err Syntax) ≡ Err Syntax
unfolding parts_of
empty_by true cs e = ap (λ (x : List ℕ). pattern_by (parts_of (drop 1 x))) e
empty_by false cs e = refl

pub no_characters : (fs : List Facet) (t : Spelled) (cs : List ℕ) → length cs < 1 → cs ≡ chars t.text → pattern_of fs t ≡ Err Syntax
unfolding pattern_of
no_characters fs t cs l e = empty_by (is_symbol symbol.Pattern t && not (is_given symbol.Pattern fs)) (chars t.text) (sym e ∙ nil_from_length cs (omega (arith, l)))
