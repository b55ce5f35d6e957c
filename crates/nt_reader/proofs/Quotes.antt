-- A text in `"` on one line is known by its first characters.
use Rattle.std.proofs.Common.{◌≡◌, ℕ, Bool, true, false, ◌&&◌, List, [], ◌∷◌, ◌++◌, nat_eq, refl, ap, subst, ◌∙◌, inl, inr, codes}
use Rattle.std.specs.Prelude.{not}
use Rattle.std.specs.List.{starts_with}
use Rattle.rdf_lex.specs.Characters.{short_char, text_escaped, hexadecimal}
use Rattle.rdf_lex.specs.Phrases.{Spells}
use Rattle.rdf_lex.specs.Spelling.{short_body, short_text, any_text}
use Rattle.rdf_lex.proofs.Languages.{heads, to_past}
use Rattle.rdf_terms.proofs.Characters.{starts_not}
use Rattle.rdf_lex.proofs.Standing.{char_is}
use Rattle.term_tokens.specs.Terms.{is_quoted_once}

no_ends : (b : Bool) → b ≡ true → b ≡ false → ⊥
no_ends b e f = cc

pub first_is : (q : ℕ) (cs xs ys : List ℕ) → cs ≡ xs ++ ys → xs ≡ q ∷ [] → cs ≡ q ∷ ys
first_is q cs xs ys e f = e ∙ ap (λ (v : List ℕ). v ++ ys) f

single_first : (cs ys : List ℕ) → cs ≡ 39 ∷ ys → is_quoted_once cs ≡ false
single_first cs ys e = ap is_quoted_once e

triple_first : (cs ys : List ℕ) → cs ≡ 34 ∷ 34 ∷ 34 ∷ ys → is_quoted_once cs ≡ false
triple_first cs [] e = ap is_quoted_once e
triple_first cs (y ∷ ys) e = ap is_quoted_once e

pub quote_short : (cs : List ℕ) → Spells any_text cs → is_quoted_once cs ≡ true → Spells (short_text 34) cs
quote_short cs (inl h) q = h
quote_short cs (inr (inl (xs, ys, e, h, k))) q = absurd (no_ends (is_quoted_once cs) q (single_first cs ys (first_is 39 cs xs ys e (char_is 39 xs h))))
quote_short cs (inr (inr (inl (xs, ys, e, h, (us, vs, f, i, (ws, zs, g, j, k)))))) q =
    absurd (no_ends (is_quoted_once cs) q (triple_first cs zs
    (first_is 34 cs xs ys e (char_is 34 xs h) ∙ ap (λ (v : List ℕ). 34 ∷ v) (first_is 34 ys us vs f (char_is 34 us i) ∙ ap (λ (v : List ℕ). 34 ∷ v) (first_is 34 vs ws zs g (char_is 34 ws j))))))
quote_short cs (inr (inr (inr (xs, ys, e, h, k)))) q = absurd (no_ends (is_quoted_once cs) q (single_first cs ys (first_is 39 cs xs ys e (char_is 39 xs h))))

not_double : (cs : List ℕ) → Spells (short_body 34) (34 ∷ cs) → ⊥
unfolding short_char text_escaped hexadecimal
not_double cs h = to_past (short_body 34) 34 cs h

plain_body : (body : List ℕ) → Spells (short_body 34) body → is_quoted_once (34 ∷ (body ++ 34 ∷ [])) ≡ true
plain_body [] h = refl
plain_body (b ∷ bs) h =
    let text = 34 ∷ (b ∷ bs ++ 34 ∷ []) in
    ap (λ (d : Bool). starts_with nat_eq text (codes "\"") && not d)
    (starts_not text (codes "\"\"\"") (λ rest e.
    let tail = heads 34 34 (b ∷ bs ++ 34 ∷ []) (34 ∷ 34 ∷ rest) e in
    let first = heads b 34 (bs ++ 34 ∷ []) (34 ∷ rest) tail.1 in
    not_double bs (subst (λ (c : ℕ). Spells (short_body 34) (c ∷ bs)) first.0 h)))

pub short_quote : (cs : List ℕ) → Spells (short_text 34) cs → is_quoted_once cs ≡ true
short_quote cs (xs, ys, e, h, (body, zs, f, k, l)) =
    ap is_quoted_once (first_is 34 cs xs ys e (char_is 34 xs h) ∙ ap (λ (v : List ℕ). 34 ∷ v) (f ∙ ap (λ (v : List ℕ). body ++ v) (char_is 34 zs l))) ∙ plain_body body k
