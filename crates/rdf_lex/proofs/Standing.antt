-- The part of a token that stands for something is there, and it stands for something.
use Rattle.std.proofs.Common.{◌≡◌, ℕ, ◌+◌, Bool, true, false, ◌&&◌, List, [], ◌∷◌, ◌++◌, length, length-append, refl, sym, ap, subst, ◌∙◌, arith, ◌⊎◌, inl, inr, append_assoc}
use Rattle.std.specs.Prelude.{nat_eq, not}
use Rattle.std.specs.List.{list_all}
use Rattle.std.specs.Str.{NonePass}
use Rattle.std.proofs.lemmas.Bool.{eqb-true}
use Rattle.std.proofs.lemmas.List.{append-nil}
use Rattle.std.proofs.lemmas.List.Folds.{list_all-append}
use Rattle.rdf_lex.specs.declared.escapes.Inside.{Inside}
use Rattle.rdf_lex.specs.declared.escapes.Inside.TheVariants.{Iri, Text, Local}
use Rattle.rdf_lex.specs.Characters.{Class, Only, has, hexadecimal, iri_char, short_char, long_char, local_start, local_char, local_escaped, text_escaped}
use Rattle.rdf_lex.specs.Escapes.{StandsFor, ends, plain, named, numbered, number_of, escaped, escapes, numbers}
use Rattle.rdf_lex.specs.Phrases.{Phrase, nothing, empty, one, ◌⨾◌, ◌∣◌, each, Spells, Pieces, none, more, char}
use Rattle.rdf_lex.specs.Spelling.{four_digits, numeric_escape, text_escape, iri_body, short_body, long_body, local_name}
use Rattle.rdf_lex.proofs.Languages.{and_true, true_and}

pub char_is : (d : ℕ) (xs : List ℕ) → Spells (char d) xs → xs ≡ d ∷ []
char_is d xs (c, e, p) = p ∙ ap (λ (x : ℕ). x ∷ []) (eqb-true c d e)

-- what stands for something, behind what does
both_stand : (w : Inside) (xs ys a b : List ℕ) → StandsFor w xs a → StandsFor w ys b → StandsFor w (xs ++ ys) (a ++ b)
both_stand w xs ys a b ends k = k
both_stand w xs ys a b (plain {cs = cs} {out = out} c e h) k = plain c e (both_stand w cs ys out b h k)
both_stand w xs ys a b (named {cs = cs} {out = out} c p e h) k = named c (ap (λ (v : List ℕ). v ++ ys) p) e (both_stand w cs ys out b h k)
both_stand w xs ys a b (numbered {cs = cs} {out = out} mark digits p n num hex h) k =
    numbered mark digits (ap (λ (v : List ℕ). v ++ ys) p ∙ ap (λ (v : List ℕ). 92 ∷ mark ∷ v) (append_assoc digits cs ys)) n num hex (both_stand w cs ys out b h k)

-- every text that the phrase spells stands for something
pub record Whole (w : Inside) (p : Phrase) : Type 0 where
  pub stands : (cs : List ℕ) → Spells p cs → (out : List ℕ) × StandsFor w cs out

stand_along : (w : Inside) (xs ys : List ℕ) → xs ≡ ys → (out : List ℕ) × StandsFor w ys out → (out : List ℕ) × StandsFor w xs out
stand_along w xs ys e (out, h) = (out, subst (λ (v : List ℕ). StandsFor w v out) (sym e) h)

whole_then : (w : Inside) (p q : Phrase) → Whole w p → Whole w q → Whole w (p ⨾ q)
whole_then w p q f g = record { stands = λ cs (xs, ys, e, h, k). (let a = f.stands xs h in let b = g.stands ys k in stand_along w cs (xs ++ ys) e (a.0 ++ b.0, both_stand w xs ys a.0 b.0 a.1 b.1)) }

either_stands : (w : Inside) (p q : Phrase) (cs : List ℕ) → Whole w p → Whole w q → Spells p cs ⊎ Spells q cs → (out : List ℕ) × StandsFor w cs out
either_stands w p q cs f g (inl h) = f.stands cs h
either_stands w p q cs f g (inr h) = g.stands cs h

whole_or : (w : Inside) (p q : Phrase) → Whole w p → Whole w q → Whole w (p ∣ q)
whole_or w p q f g = record { stands = λ cs h. either_stands w p q cs f g h }

pieces_stand : (w : Inside) (p : Phrase) (cs : List ℕ) → Whole w p → Pieces (Spells p) cs → (out : List ℕ) × StandsFor w cs out
pieces_stand w p cs f (none e) = stand_along w cs [] e ([], ends)
pieces_stand w p cs f (more xs ys e h k) = let a = f.stands xs h in let b = pieces_stand w p ys f k in stand_along w cs (xs ++ ys) e (a.0 ++ b.0, both_stand w xs ys a.0 b.0 a.1 b.1)

whole_each : (w : Inside) (p : Phrase) → Whole w p → Whole w (each p)
whole_each w p f = record { stands = λ cs h. pieces_stand w p cs f h }

whole_empty : (w : Inside) → Whole w empty
whole_empty w = record { stands = λ cs h. stand_along w cs [] h ([], ends) }

pub no_slash : (q : Class) (c : ℕ) (b : Bool) → nat_eq c 92 ≡ b → has q 92 ≡ false → has q c ≡ true → b ≡ false
no_slash q c true e f g = sym (sym f ∙ ap (has q) (sym (eqb-true c 92 e)) ∙ g)
no_slash q c false e f g = refl

whole_one : (w : Inside) (q : Class) → has q 92 ≡ false → Whole w (one q)
whole_one w q f = record { stands = λ cs (c, e, p). stand_along w cs (c ∷ []) p (c ∷ [], plain c (no_slash q c (nat_eq c 92) refl f e) ends) }

-- escapes
whole_named : (w : Inside) (q : Class) → ((c : ℕ) → has q c ≡ true → has (escapes w) c ≡ true) → Whole w (char 92 ⨾ one q)
whole_named w q f = record {
  stands = λ cs (xs, ys, e, h, (c, k, p)).
      stand_along w cs (92 ∷ c ∷ []) (e ∙ ap (λ (v : List ℕ). v ++ ys) (char_is 92 xs h) ∙ ap (λ (v : List ℕ). 92 ∷ v) p) (escaped w c ∷ [], named c refl (f c k) ends);
}

-- digits
record AreDigits (n : ℕ) (p : Phrase) : Type 0 where
  are : (cs : List ℕ) → Spells p cs → (length cs ≡ n) × (list_all (has hexadecimal) cs ≡ true)

one_digit : AreDigits 1 (one hexadecimal)
one_digit = record { are = λ cs (c, e, p). (ap length p, ap (list_all (has hexadecimal)) p ∙ true_and (has hexadecimal c) true e refl) }

more_digits : (m n s : ℕ) (p q : Phrase) → m + n ≡ s → AreDigits m p → AreDigits n q → AreDigits s (p ⨾ q)
more_digits m n s p q total f g = record {
  are = λ cs (xs, ys, e, h, k).
      (let a = f.are xs h in let b = g.are ys k in (
        ap length e ∙ lengths xs ys m n s a.0 b.0 total,
        ap (list_all (has hexadecimal)) e ∙ list_all-append (has hexadecimal) xs ys ∙ true_and (list_all (has hexadecimal) xs) (list_all (has hexadecimal) ys) a.1 b.1,
      ));
}
  where
    lengths : (xs ys : List ℕ) (m n s : ℕ) → length xs ≡ m → length ys ≡ n → m + n ≡ s → length (xs ++ ys) ≡ s
    lengths xs ys m n s a b t = simp length-append (omega arith)

four : AreDigits 4 four_digits
four = more_digits 1 3 4 _ _ refl one_digit (more_digits 1 2 3 _ _ refl one_digit (more_digits 1 1 2 _ _ refl one_digit one_digit))

eight : AreDigits 8 (four_digits ⨾ four_digits)
eight = more_digits 4 4 8 _ _ refl four four

number_stands : (w : Inside) (mark : ℕ) (xs ys zs vs cs : List ℕ) → numbers w ≡ true → ((mark ≡ 117) × (length vs ≡ 4)) ⊎ ((mark ≡ 85) × (length vs ≡ 8)) → list_all (has hexadecimal) vs ≡ true
    → cs ≡ xs ++ ys → xs ≡ 92 ∷ [] → ys ≡ zs ++ vs → zs ≡ mark ∷ [] → (out : List ℕ) × StandsFor w cs out
number_stands w mark xs ys zs vs cs n num hex e f g h =
    stand_along w cs (92 ∷ mark ∷ (vs ++ [])) (e ∙ ap (λ (v : List ℕ). v ++ ys) f
    ∙ ap (λ (v : List ℕ). 92 ∷ v) (g ∙ ap (λ (v : List ℕ). v ++ vs) h ∙ ap (λ (v : List ℕ). mark ∷ v) (sym (append-nil vs))))
    (number_of vs ∷ [], numbered mark vs refl n num hex ends)

whole_numeric : (w : Inside) → numbers w ≡ true → Whole w numeric_escape
whole_numeric w n = record { stands = λ cs (xs, ys, e, h, k). by cs xs ys e h k }
  where
    by : (cs xs ys : List ℕ) → cs ≡ xs ++ ys → Spells (char 92) xs → Spells (char 117 ⨾ four_digits ∣ char 85 ⨾ four_digits ⨾ four_digits) ys → (out : List ℕ) × StandsFor w cs out
    by cs xs ys e h (inl (zs, vs, f, k, l)) = let d = four.are vs l in number_stands w 117 xs ys zs vs cs n (inl (refl, d.0)) d.1 e (char_is 92 xs h) f (char_is 117 zs k)
    by cs xs ys e h (inr (zs, vs, f, k, l)) = let d = eight.are vs l in number_stands w 85 xs ys zs vs cs n (inr (refl, d.0)) d.1 e (char_is 92 xs h) f (char_is 85 zs k)

whole_text_escape : Whole Text text_escape
whole_text_escape = whole_named Text text_escaped (λ c e. e)

pub iri_stands : Whole Iri iri_body
unfolding iri_char
iri_stands = whole_each Iri _ (whole_or Iri _ _ (whole_one Iri iri_char refl) (whole_numeric Iri refl))

escapes_stand : Whole Text (text_escape ∣ numeric_escape)
escapes_stand = whole_or Text _ _ whole_text_escape (whole_numeric Text refl)

pub short_stands : (q : ℕ) → has (short_char q) 92 ≡ false → Whole Text (short_body q)
short_stands q e = whole_each Text _ (whole_or Text _ _ (whole_one Text (short_char q) e) escapes_stand)

pub long_stands : (q : ℕ) → has (long_char q) 92 ≡ false → nat_eq 92 q ≡ false → Whole Text (long_body q)
long_stands q e f =
    let quote = whole_one Text (Only q) f in
    whole_each Text _ (whole_then Text _ _ (whole_or Text _ _ (whole_or Text _ _ quote (whole_then Text _ _ quote quote)) (whole_empty Text)) (whole_or Text _ _ (whole_one Text (long_char q) e) escapes_stand))

pub local_stands : Whole Local local_name
unfolding local_start local_char hexadecimal
local_stands =
    let percent = whole_then Local _ _ (whole_one Local (Only 37) refl) (whole_then Local _ _ (whole_one Local hexadecimal refl) (whole_one Local hexadecimal refl)) in
    let escape = whole_or Local _ _ percent (whole_named Local local_escaped (λ c e. e)) in
    whole_then Local _ _ (whole_or Local _ _ (whole_one Local local_start refl) escape)
    (whole_or Local _ _ (whole_then Local _ _ (whole_each Local _ (whole_or Local _ _ (whole_one Local local_char refl) (whole_or Local _ _ (whole_one Local (Only 46) refl) escape)))
    (whole_or Local _ _ (whole_one Local local_char refl) escape)) (whole_empty Local))

-- texts without a character
abbrev pub lacks : ℕ → Phrase → Bool
lacks d nothing = true
lacks d empty = true
lacks d (one q) = not (has q d)
lacks d (p ⨾ q) = lacks d p && lacks d q
lacks d (p ∣ q) = lacks d p && lacks d q
lacks d (each p) = lacks d p

none_in_both : (t : ℕ → Bool) (xs ys : List ℕ) → NonePass t xs → NonePass t ys → NonePass t (xs ++ ys)
none_in_both t [] ys h k = k
none_in_both t (x ∷ xs) ys (e, h) k = (e, none_in_both t xs ys h k)

not_it : (q : Class) (c d : ℕ) (b : Bool) → nat_eq c d ≡ b → not (has q d) ≡ true → has q c ≡ true → b ≡ false
not_it q c d true e f g = absurd (no (has q d) f (ap (has q) (sym (eqb-true c d e)) ∙ g))
  where
    no : (b : Bool) → not b ≡ true → b ≡ true → ⊥
    no true f g = cc
    no false f g = cc
not_it q c d false e f g = refl

none_in_pieces : (d : ℕ) (p : Phrase) (cs : List ℕ) → ((xs : List ℕ) → Spells p xs → NonePass (λ c. nat_eq c d) xs) → Pieces (Spells p) cs → NonePass (λ c. nat_eq c d) cs
none_in_pieces d p cs f (none e) = subst (NonePass (λ c. nat_eq c d)) (sym e) tt
none_in_pieces d p cs f (more xs ys e h k) = subst (NonePass (λ c. nat_eq c d)) (sym e) (none_in_both (λ c. nat_eq c d) xs ys (f xs h) (none_in_pieces d p ys f k))

pub none_spelled : (d : ℕ) (p : Phrase) (cs : List ℕ) → lacks d p ≡ true → Spells p cs → NonePass (λ c. nat_eq c d) cs
none_spelled d nothing cs e h = absurd h
none_spelled d empty cs e h = subst (NonePass (λ c. nat_eq c d)) (sym h) tt
none_spelled d (one q) cs e (c, f, p) = subst (NonePass (λ c. nat_eq c d)) (sym p) (not_it q c d (nat_eq c d) refl e f, tt)
none_spelled d (p ⨾ q) cs e (xs, ys, f, h, k) =
    let a = and_true (lacks d p) (lacks d q) e in
    subst (NonePass (λ c. nat_eq c d)) (sym f) (none_in_both (λ c. nat_eq c d) xs ys (none_spelled d p xs a.0 h) (none_spelled d q ys a.1 k))
none_spelled d (p ∣ q) cs e (inl h) = none_spelled d p cs (and_true (lacks d p) (lacks d q) e).0 h
none_spelled d (p ∣ q) cs e (inr h) = none_spelled d q cs (and_true (lacks d p) (lacks d q) e).1 h
none_spelled d (each p) cs e h = none_in_pieces d p cs (λ xs k. none_spelled d p xs e k) h
