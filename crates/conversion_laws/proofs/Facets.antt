-- The facets of a constraint in ShExC: they are sound together, and no key has two.
use Rattle.std.proofs.Common.{◌≡◌, inl, inr, ℕ, ◌≤◌, Bool, true, false, true≢false, cond, List, [], ◌∷◌, ◌++◌, length, Option, Some, None, Result, Ok, Err, refl, sym, ap, subst, ◌∙◌, arith, nat_eq, eq-eqb}
use borrow.Author.Tests.{eqb-true}
use Rattle.std.specs.List.{AllByRecursion, list_any}
use Rattle.std.specs.Prelude.{◌&&◌, ◌||◌, not, codes, drop, if◌then◌else◌}
use Rattle.std.specs.Str.{bytes_eq, chars}
use Rattle.std.proofs.lemmas.Bool.{false≢true}
use Rattle.std.proofs.lemmas.List.{append-nil}
use Rattle.std.proofs.lemmas.List.Elements.{filter-append}
use Rattle.std.proofs.lemmas.Slice.Eq.{bytes_eq-Decides}
use Rattle.iri_resolve.proofs.Unique.{both}
use Rattle.lists.proofs.Quantifiers.{all_of}
use Rattle.node_constraint.specs.Making.{IsReadable, IsSound, PatternText, patterns_in}
use Rattle.node_constraint.specs.declared.Kind4.{Kind4}
use Rattle.node_constraint.specs.declared.facet.Facet.{Facet}
use Rattle.node_constraint.specs.declared.facet.Facet.TheVariants as facets
use Rattle.rdf_cursor.specs.Ahead.{Ahead}
use Rattle.rdf_cursor.specs.Phrases.{Many}
use Rattle.rdf_cursor.specs.Symbols.{has, is_among, is_symbol, number, same_symbol, symbol_of}
use Rattle.rdf_cursor.specs.declared.symbols.Symbol.{Symbol}
use Rattle.rdf_cursor.specs.declared.symbols.Symbol.TheVariants as symbol
use Rattle.rdf_lex.specs.Tokens.{Spelled}
use Rattle.term_tokens.proofs.NameLines.{chosen, err_is_not_ok, ok_same}
use Rattle.shexc_constraints.specs.declared.faults.Fault.{Fault}
use Rattle.shexc_constraints.specs.declared.faults.Fault.TheVariants as fault
use Rattle.shexc_constraints.specs.Facets.{IsAdmitted, IsPattern, counted_facet, facet_symbol, fresh_word, is_given, made_by, range_facet}
use Rattle.shexc_constraints.specs.Grammar as low
use Rattle.shexc_constraints.specs.Meanings.{facet_number_of, range_number_of}
use Rattle.shexc_constraints.specs.Patterns.{Parts, parts_of, pattern_by, pattern_of}
use Rattle.shexc_constraints.specs.Symbols.{digit_counts, lengths, ranges}
use Rattle.shexc_constraints.specs.Values.{constraint}
use Rattle.shexc_constraints.proofs.Admitted.{sound_more, sound_none}
use Rattle.shexc_reader.proofs.Ordered.{many_keep}
use Rattle.value_sets.specs.declared.value.Value.{Value}
use Rattle.shexj_writer.specs.Constraints.{facet_key}
use Rattle.shexj_writer.specs.Expressible.{AreExpressibleValues, AreOnce, IsExpressibleConstraint}
use Rattle.shexj_writer.specs.Plain.{all_under, facet_keys}

-- ---- a symbol for each key

-- the number of the symbol with which a facet of this key begins
abbrev place_by : List ℕ → ℕ
place_by key =
    if bytes_eq key (codes "length") then number symbol.Length else (if bytes_eq key (codes "minlength") then number symbol.MinLength
    else (if bytes_eq key (codes "maxlength") then number symbol.MaxLength else (if bytes_eq key (codes "mininclusive") then number symbol.MinInclusive
    else (if bytes_eq key (codes "minexclusive") then number symbol.MinExclusive else (if bytes_eq key (codes "maxinclusive") then number symbol.MaxInclusive
    else (if bytes_eq key (codes "maxexclusive") then number symbol.MaxExclusive else (if bytes_eq key (codes "totaldigits") then number symbol.TotalDigits
    else (if bytes_eq key (codes "fractiondigits") then number symbol.FractionDigits else number symbol.Pattern))))))))

abbrev place : Facet → ℕ
place f = number (facet_symbol f)

placed : (f : Facet) → place_by (facet_key f) ≡ place f
placed (facets.Length n) = refl
placed (facets.MinLength n) = refl
placed (facets.MaxLength n) = refl
placed (facets.MinInclusive x) = refl
placed (facets.MinExclusive x) = refl
placed (facets.MaxInclusive x) = refl
placed (facets.MaxExclusive x) = refl
placed (facets.TotalDigits n) = refl
placed (facets.FractionDigits n) = refl
placed (facets.Pattern text flags) = refl

same_place : (f g : Facet) → facet_key g ≡ facet_key f → place g ≡ place f
same_place f g e = sym (placed g) ∙ ap place_by e ∙ placed f

-- one of the facets begins with the symbol of this number
abbrev is_given_at : ℕ → List Facet → Bool
is_given_at n fs = list_any (λ f. nat_eq (place f) n) fs

neither : (a b : Bool) → (a || b) ≡ false → (a ≡ false) × (b ≡ false)
neither true b e = absurd (true≢false e)
neither false b e = (refl, e)

-- ---- no key has two facets

under_at : (b : Bool) (f g : Facet) (gs : List Facet) → bytes_eq (facet_key g) (facet_key f) ≡ b → nat_eq (place g) (place f) ≡ false → gs ≡ [] → cond b (g ∷ gs) gs ≡ []
under_at true f g gs e apart rest =
    let same = same_place f g ((bytes_eq-Decides (facet_key g) (facet_key f)).0 e) in
    absurd (true≢false (sym (eq-eqb (place g) (place f) same) ∙ apart))
under_at false f g gs e apart rest = rest

under_none : (f : Facet) (fs : List Facet) → is_given_at (place f) fs ≡ false → all_under (facet_key f) fs ≡ []
under_none f [] h = refl
under_none f (g ∷ gs) h =
    let parts = neither (nat_eq (place g) (place f)) (is_given_at (place f) gs) h in
    under_at (bytes_eq (facet_key g) (facet_key f)) f g (all_under (facet_key f) gs) refl parts.0 (under_none f gs parts.1)

one_at_most : (f : Facet) (fs : List Facet) → fs ≡ [] → length (fs ++ f ∷ []) ≤ 1
one_at_most f fs e = subst (λ (l : List Facet). length (l ++ f ∷ []) ≤ 1) (sym e) (omega arith)

once_at : (b : Bool) (key : List ℕ) (f : Facet) (fs : List Facet) → bytes_eq (facet_key f) key ≡ b → length (all_under key fs) ≤ 1 →
    is_given_at (place f) fs ≡ false → length (all_under key fs ++ cond b (f ∷ []) []) ≤ 1
once_at true key f fs e h fresh =
    one_at_most f (all_under key fs) (ap (λ (k : List ℕ). all_under k fs) (sym ((bytes_eq-Decides (facet_key f) key).0 e)) ∙ under_none f fs fresh)
once_at false key f fs e h fresh = subst (λ (l : List Facet). length l ≤ 1) (sym (append-nil (all_under key fs))) h

once_more : (key : List ℕ) (f : Facet) (fs : List Facet) → length (all_under key fs) ≤ 1 → is_given_at (place f) fs ≡ false → length (all_under key (fs ++ f ∷ [])) ≤ 1
once_more key f fs h fresh =
    subst (λ (l : List Facet). length l ≤ 1) (sym (filter-append (λ facet. bytes_eq (facet_key facet) key) fs (f ∷ []))) (once_at (bytes_eq (facet_key f) key) key f fs refl h fresh)

-- ---- the facets so far

pub record AreFine (datatype : Option (List ℕ)) (fs : List Facet) : Type 0 where
  pub sound : IsSound datatype fs
  pub once : (key : List ℕ) → length (all_under key fs) ≤ 1

pub fine_none : (datatype : Option (List ℕ)) → AreFine datatype []
fine_none datatype = record { sound = sound_none datatype; once = λ key. omega arith }

-- one more, which no facet so far begins as
record IsAdded (datatype : Option (List ℕ)) (fs gs : List Facet) : Type 0 where
  f : Facet
  is : fs ++ f ∷ [] ≡ gs
  admitted : IsAdmitted true datatype f
  fresh : is_given_at (place f) fs ≡ false

are_readable : (ps : List PatternText) → AllByRecursion (IsPattern true) ps → AllByRecursion IsReadable ps
are_readable [] h = tt
are_readable (p ∷ ps) (h, k) = (h, are_readable ps k)

added_fine : (datatype : Option (List ℕ)) (fs gs : List Facet) → IsAdded datatype fs gs → AreFine datatype fs → AreFine datatype gs
added_fine datatype fs gs a p =
    subst (AreFine datatype) a.is (record {
      sound = sound_more datatype fs a.f p.sound (record { no_float = a.admitted.no_float; decimal = a.admitted.decimal; readable = are_readable (patterns_in (a.f ∷ [])) a.admitted.patterns });
      once = λ key. once_more key a.f fs (p.once key) a.fresh;
    })

-- ---- the symbol of a facet is that of its word

record IsWord (words : List Symbol) (fs : List Facet) (s : Symbol) : Type 0 where
  among : has s words ≡ true
  fresh : is_given_at (number s) fs ≡ false

not_true : (b : Bool) → not b ≡ true → b ≡ false
not_true true e = absurd (false≢true e)
not_true false e = refl

word_is : (words : List Symbol) (fs : List Facet) (t : Spelled) (s : Symbol) → fresh_word words fs t ≡ Ok s → IsWord words fs s
unfolding is_among
word_is words fs t s e =
    let own = symbol_of t.kind t.text in
    let c = chosen (has own words && not (is_given own fs)) fault.Syntax (Ok own) s e in
    let w = both (has own words) (not (is_given own fs)) c.0 in
    subst (IsWord words fs) (ok_same own s c.1) (record { among = w.0; fresh = not_true (is_given own fs) w.1 })

made : {A : Type 0} (make : A → Facet) (c : Result A Fault) (f : Facet) → made_by make c ≡ Ok f → (x : A) × (make x ≡ f)
made make (Ok x) f e = (x, ok_same (make x) f e)
made make (Err g) f e = absurd (err_is_not_ok g f e)

counted_at : (k n : ℕ) (a b c d e : Bool) → (a ≡ true → number symbol.Length ≡ k) → (b ≡ true → number symbol.MinLength ≡ k) → (c ≡ true → number symbol.MaxLength ≡ k)
    → (d ≡ true → number symbol.TotalDigits ≡ k) → (e ≡ true → number symbol.FractionDigits ≡ k) → (a || (b || (c || (d || (e || false))))) ≡ true
    → place (cond a (facets.Length n) (cond b (facets.MinLength n) (cond c (facets.MaxLength n) (cond d (facets.TotalDigits n) (facets.FractionDigits n))))) ≡ k
counted_at k n true b c d e p q r s t h = p refl
counted_at k n false true c d e p q r s t h = q refl
counted_at k n false false true d e p q r s t h = r refl
counted_at k n false false false true e p q r s t h = s refl
counted_at k n false false false false true p q r s t h = t refl
counted_at k n false false false false false p q r s t h = absurd (false≢true h)

ranged_at : (k : ℕ) (x : List ℕ) (a b c d : Bool) → (a ≡ true → number symbol.MinInclusive ≡ k) → (b ≡ true → number symbol.MinExclusive ≡ k) → (c ≡ true → number symbol.MaxInclusive ≡ k)
    → (d ≡ true → number symbol.MaxExclusive ≡ k) → (a || (b || (c || (d || false)))) ≡ true
    → place (cond a (facets.MinInclusive x) (cond b (facets.MinExclusive x) (cond c (facets.MaxInclusive x) (facets.MaxExclusive x)))) ≡ k
ranged_at k x true b c d p q r s h = p refl
ranged_at k x false true c d p q r s h = q refl
ranged_at k x false false true d p q r s h = r refl
ranged_at k x false false false true p q r s h = s refl
ranged_at k x false false false false p q r s h = absurd (false≢true h)

is_number : (s t : Symbol) → same_symbol s t ≡ true → number t ≡ number s
is_number s t e = sym (eqb-true (number s) (number t) e)

counted_place : (s : Symbol) (n : ℕ) → has s (lengths ++ digit_counts) ≡ true → place (counted_facet s n) ≡ number s
counted_place s n h =
    counted_at (number s) n (same_symbol s symbol.Length) (same_symbol s symbol.MinLength) (same_symbol s symbol.MaxLength) (same_symbol s symbol.TotalDigits) (same_symbol s symbol.FractionDigits)
    (is_number s symbol.Length) (is_number s symbol.MinLength) (is_number s symbol.MaxLength) (is_number s symbol.TotalDigits) (is_number s symbol.FractionDigits) h

ranged_place : (s : Symbol) (x : List ℕ) → has s ranges ≡ true → place (range_facet s x) ≡ number s
ranged_place s x h =
    ranged_at (number s) x (same_symbol s symbol.MinInclusive) (same_symbol s symbol.MinExclusive) (same_symbol s symbol.MaxInclusive) (same_symbol s symbol.MaxExclusive)
    (is_number s symbol.MinInclusive) (is_number s symbol.MinExclusive) (is_number s symbol.MaxInclusive) (is_number s symbol.MaxExclusive) h

first_words : (a b c d e : Bool) → (a || (b || (c || false))) ≡ true → (a || (b || (c || (d || (e || false))))) ≡ true
first_words true b c d e h = refl
first_words false true c d e h = refl
first_words false false true d e h = refl
first_words false false false d e h = absurd (false≢true h)

last_words : (a b c d e : Bool) → (d || (e || false)) ≡ true → (a || (b || (c || (d || (e || false))))) ≡ true
last_words true b c d e h = refl
last_words false true c d e h = refl
last_words false false true d e h = refl
last_words false false false d e h = h

of_lengths : (s : Symbol) → has s lengths ≡ true → has s (lengths ++ digit_counts) ≡ true
of_lengths s h =
    first_words (same_symbol s symbol.Length) (same_symbol s symbol.MinLength) (same_symbol s symbol.MaxLength) (same_symbol s symbol.TotalDigits) (same_symbol s symbol.FractionDigits) h

of_digits : (s : Symbol) → has s digit_counts ≡ true → has s (lengths ++ digit_counts) ≡ true
of_digits s h =
    last_words (same_symbol s symbol.Length) (same_symbol s symbol.MinLength) (same_symbol s symbol.MaxLength) (same_symbol s symbol.TotalDigits) (same_symbol s symbol.FractionDigits) h

pattern_place : (o : Option Parts) (f : Facet) → pattern_by o ≡ Ok f → number symbol.Pattern ≡ place f
pattern_place None f e = absurd (err_is_not_ok fault.Syntax f e)
pattern_place (Some x) f e = ap place (ok_same (facets.Pattern x.0 x.1) f e)

fresh_by : (n m : ℕ) (fs : List Facet) → n ≡ m → is_given_at n fs ≡ false → is_given_at m fs ≡ false
fresh_by n m fs e h = subst (λ (k : ℕ). is_given_at k fs ≡ false) e h

pattern_fresh : (fs : List Facet) (t : Spelled) (f : Facet) → pattern_of fs t ≡ Ok f → is_given_at (place f) fs ≡ false
unfolding pattern_of
pattern_fresh fs t f e =
    let c = chosen (is_symbol symbol.Pattern t && not (is_given symbol.Pattern fs)) fault.Syntax (pattern_by (parts_of (drop 1 (chars t.text)))) f e in
    let w = both (is_symbol symbol.Pattern t) (not (is_given symbol.Pattern fs)) c.0 in
    fresh_by (number symbol.Pattern) (place f) fs (pattern_place (parts_of (drop 1 (chars t.text))) f c.1) (not_true (is_given symbol.Pattern fs) w.1)

-- ---- the rules

counted_added : (datatype : Option (List ℕ)) (words : List Symbol) → ((s : Symbol) → has s words ≡ true → has s (lengths ++ digit_counts) ≡ true)
    → (fs gs : List Facet) (ts r : Ahead Spelled) → low.Counted true datatype words fs gs ts r → IsAdded datatype fs gs
counted_added datatype words known fs gs ts r (s, (m, (w, d, k), (f, is, a, (t, e, j)))) =
    let own = word_is words fs w s k in
    let n = made (counted_facet s) (facet_number_of t) f j in
    let same : number s ≡ place f = sym (counted_place s n.0 (known s own.among)) ∙ ap place n.1 in
    record { f = f; is = is; admitted = a; fresh = fresh_by (number s) (place f) fs same own.fresh }

text_added : (datatype : Option (List ℕ)) (fs gs : List Facet) (ts r : Ahead Spelled) → low.TextFacet true datatype fs gs ts r → IsAdded datatype fs gs
text_added datatype fs gs ts r (inl (f, is, a, (t, e, j))) = record { f = f; is = is; admitted = a; fresh = pattern_fresh fs t f j }
text_added datatype fs gs ts r (inr h) = counted_added datatype lengths of_lengths fs gs ts r h

number_added : (datatype : Option (List ℕ)) (fs gs : List Facet) (ts r : Ahead Spelled) → low.NumberFacet true datatype fs gs ts r → IsAdded datatype fs gs
number_added datatype fs gs ts r (inl (s, (m, (w, d, k), (f, is, a, (t, e, j))))) =
    let own = word_is ranges fs w s k in
    let x = made (range_facet s) (range_number_of t) f j in
    let same : number s ≡ place f = sym (ranged_place s x.0 own.among) ∙ ap place x.1 in
    record { f = f; is = is; admitted = a; fresh = fresh_by (number s) (place f) fs same own.fresh }
number_added datatype fs gs ts r (inr h) = counted_added datatype digit_counts of_digits fs gs ts r h

any_added : (datatype : Option (List ℕ)) (fs gs : List Facet) (ts r : Ahead Spelled) → low.AnyFacet true datatype fs gs ts r → IsAdded datatype fs gs
any_added datatype fs gs ts r (inl h) = text_added datatype fs gs ts r h
any_added datatype fs gs ts r (inr h) = number_added datatype fs gs ts r h

pub text_fine : (datatype : Option (List ℕ)) (fs gs : List Facet) (ts r : Ahead Spelled) → low.TextFacet true datatype fs gs ts r → AreFine datatype fs → AreFine datatype gs
text_fine datatype fs gs ts r h p = added_fine datatype fs gs (text_added datatype fs gs ts r h) p

pub number_fine : (datatype : Option (List ℕ)) (fs gs : List Facet) (ts r : Ahead Spelled) → low.NumberFacet true datatype fs gs ts r → AreFine datatype fs → AreFine datatype gs
number_fine datatype fs gs ts r h p = added_fine datatype fs gs (number_added datatype fs gs ts r h) p

any_fine : (datatype : Option (List ℕ)) (fs gs : List Facet) (ts r : Ahead Spelled) → low.AnyFacet true datatype fs gs ts r → AreFine datatype fs → AreFine datatype gs
any_fine datatype fs gs ts r h p = added_fine datatype fs gs (any_added datatype fs gs ts r h) p

pub texts_fine : (datatype : Option (List ℕ)) (fs gs : List Facet) (ts r : Ahead Spelled) → Many (low.TextFacet true datatype) fs gs ts r → AreFine datatype fs → AreFine datatype gs
texts_fine datatype fs gs ts r h p = many_keep (AreFine datatype) (low.TextFacet true datatype) (text_fine datatype) fs gs ts r h p

pub numbers_fine : (datatype : Option (List ℕ)) (fs gs : List Facet) (ts r : Ahead Spelled) → Many (low.NumberFacet true datatype) fs gs ts r → AreFine datatype fs → AreFine datatype gs
numbers_fine datatype fs gs ts r h p = many_keep (AreFine datatype) (low.NumberFacet true datatype) (number_fine datatype) fs gs ts r h p

pub facets_fine : (datatype : Option (List ℕ)) (fs gs : List Facet) (ts r : Ahead Spelled) → Many (low.AnyFacet true datatype) fs gs ts r → AreFine datatype fs → AreFine datatype gs
facets_fine datatype fs gs ts r h p = many_keep (AreFine datatype) (low.AnyFacet true datatype) (any_fine datatype) fs gs ts r h p

-- ---- constraints

are_once : (datatype : Option (List ℕ)) (fs : List Facet) → AreFine datatype fs → AreOnce fs
are_once datatype fs p = all_of (λ (key : List ℕ). length (all_under key fs) ≤ 1) facet_keys (λ key c. p.once key)

pub constraint_form : (kind : Option Kind4) (datatype : Option (List ℕ)) (fs : List Facet) (vs : Option (List Value)) → AreFine datatype fs →
    AreExpressibleValues vs → IsExpressibleConstraint (constraint kind datatype fs vs)
constraint_form kind datatype fs vs p h = record { sound = p.sound; once = are_once datatype fs p; values = h }
