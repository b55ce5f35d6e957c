-- The numbers of facets in ShExC are below 2^32, and the texts of patterns Unicode scalar values: by the form of each rule.
use Rattle.std.proofs.Common.{◌≡◌, inl, inr, ℕ, zero, suc, ◌<◌, ◌^◌, Bool, true, false, cond, List, [], ◌∷◌, ◌++◌, drop, nat_eq, Option, Some, None, Result, Ok, Err, refl, subst, arith}
use Rattle.std.proofs.lemmas.Bool.Decides.{nat_tests}
use Rattle.std.proofs.lemmas.Option.{same_Some}
use Rattle.std.proofs.lemmas.Str.{scalars-chars}
use Rattle.std.specs.List.{AllByRecursion}
use Rattle.std.specs.Prelude.{◌&&◌, codes, length, nat_lt, not}
use Rattle.std.specs.Str.{all_ascii_digits, all_scalars, chars}
use Rattle.std.specs.Str.Parse.{digits_value}
use lib.Utf8.{scalar}
use Rattle.iri_resolve.proofs.Unique.{both}
use Rattle.lists.proofs.Quantifiers.{all_append}
use Rattle.node_constraint.specs.declared.Kind4.{Kind4}
use Rattle.node_constraint.specs.declared.facet.Facet.{Facet}
use Rattle.node_constraint.specs.declared.facet.Facet.TheVariants as facets
use Rattle.rdf_cursor.specs.Ahead.{Ahead}
use Rattle.rdf_cursor.specs.Phrases.{Many}
use Rattle.rdf_cursor.specs.Symbols.{is_symbol, same_symbol}
use Rattle.rdf_cursor.specs.declared.symbols.Symbol.{Symbol}
use Rattle.rdf_cursor.specs.declared.symbols.Symbol.TheVariants as symbol
use Rattle.rdf_lex.specs.Tokens.{Spelled}
use Rattle.value_sets.specs.declared.value.Value.{Value}
use Rattle.term_tokens.proofs.NameLines.{chosen, err_is_not_ok, ok_same}
use Rattle.shexc_constraints.specs.declared.faults.Fault.{Fault}
use Rattle.shexc_constraints.specs.declared.faults.Fault.TheVariants as fault
use Rattle.shexc_constraints.specs.declared.patterns.Piece.{Piece}
use Rattle.shexc_constraints.specs.Facets.{counted_facet, is_given, made_by, range_facet, fresh_word}
use Rattle.shexc_constraints.specs.Grammar as low
use Rattle.shexc_constraints.specs.Meanings.{count_of, facet_number_of, is_minus, range_number_of, unsigned, whole_number}
use Rattle.shexc_constraints.specs.Patterns.{Parts, behind_piece, parts_of, parts_within, pattern_by, pattern_of, piece_at, with_front, written}
use Rattle.shexc_constraints.specs.Symbols.{digit_counts, lengths, ranges}
use Rattle.shexc_constraints.specs.Values.{constraint}
use Rattle.shexc_constraints.proofs.Unescaping.{piece_fine, scalars_both}
use Rattle.shexj_writer.specs.Constraints.{facet_under}
use Rattle.shexj_writer.specs.Held.{AreHeldValuesIfAny, IsHeldConstraint, IsTextIfAny}
use Rattle.shexj_writer.specs.Plain.{facet_keys}
use Rattle.shexj_writer.proofs.Parts.{IsWhole, flags_of, found_whole, held_under}
use Rattle.conversion_laws.proofs.TextTokens.{AreTextTokens, IsTextToken, is_behind, many_texts}

abbrev pub AreWhole : List Facet → Type 0
AreWhole fs = AllByRecursion IsWhole fs

-- ---- numbers

counted_by : (a b c : Bool) (n m : ℕ) → c ≡ nat_lt n (2 ^ 32) → cond (a && (b && c)) (Some n) None ≡ Some m → m < 2 ^ 32
counted_by true true true n m is e = let few : n < 2 ^ 32 = grind (arith, nat_tests) in subst (λ (k : ℕ). k < 2 ^ 32) (same_Some n m e) few
counted_by true true false n m is e = absurd (cc)
counted_by true false c n m is e = absurd (cc)
counted_by false b c n m is e = absurd (cc)

pub count_small : (ds : List ℕ) (m : ℕ) → count_of ds ≡ Some m → m < 2 ^ 32
unfolding count_of
count_small ds m e = counted_by (all_ascii_digits ds) (nat_lt 0 (length ds)) (nat_lt (digits_value 10 ds) (2 ^ 32)) (digits_value 10 ds) m refl e

whole_at : (b : Bool) (n m : ℕ) → n < 2 ^ 32 → cond b (Err fault.FacetNumber) (Ok n) ≡ Ok m → m < 2 ^ 32
whole_at true n m h e = absurd (err_is_not_ok fault.FacetNumber m e)
whole_at false n m h e = subst (λ (k : ℕ). k < 2 ^ 32) (ok_same n m e) h

whole_small : (minus : Bool) (o : Option ℕ) (m : ℕ) → ((n : ℕ) → o ≡ Some n → n < 2 ^ 32) → whole_number minus o ≡ Ok m → m < 2 ^ 32
whole_small minus None m h e = absurd (err_is_not_ok fault.FacetNumber m e)
whole_small minus (Some n) m h e = whole_at (minus && not (nat_eq n 0)) n m (h n refl) e

number_small : (t : Spelled) (m : ℕ) → facet_number_of t ≡ Ok m → m < 2 ^ 32
unfolding facet_number_of
number_small t m e =
    let c = chosen (is_symbol symbol.Integer t) fault.Syntax (whole_number (is_minus t.text) (count_of (unsigned t.text))) m e in
    whole_small (is_minus t.text) (count_of (unsigned t.text)) m (λ n f. count_small (unsigned t.text) n f) c.1

counted_whole : (n : ℕ) (a b c d : Bool) → n < 2 ^ 32 →
    IsWhole (cond a (facets.Length n) (cond b (facets.MinLength n) (cond c (facets.MaxLength n) (cond d (facets.TotalDigits n) (facets.FractionDigits n)))))
counted_whole n true b c d h = (h, tt)
counted_whole n false true c d h = (h, tt)
counted_whole n false false true d h = (h, tt)
counted_whole n false false false true h = (h, tt)
counted_whole n false false false false h = (h, tt)

ranged_whole : (x : List ℕ) (a b c : Bool) → IsWhole (cond a (facets.MinInclusive x) (cond b (facets.MinExclusive x) (cond c (facets.MaxInclusive x) (facets.MaxExclusive x))))
ranged_whole x true b c = (tt, tt)
ranged_whole x false true c = (tt, tt)
ranged_whole x false false true = (tt, tt)
ranged_whole x false false false = (tt, tt)

counted_made : (s : Symbol) (c : Result ℕ Fault) (f : Facet) → ((n : ℕ) → c ≡ Ok n → n < 2 ^ 32) → made_by (counted_facet s) c ≡ Ok f → IsWhole f
counted_made s (Ok n) f h e =
    subst IsWhole (ok_same (counted_facet s n) f e)
    (counted_whole n (same_symbol s symbol.Length) (same_symbol s symbol.MinLength) (same_symbol s symbol.MaxLength) (same_symbol s symbol.TotalDigits) (h n refl))
counted_made s (Err g) f h e = absurd (err_is_not_ok g f e)

ranged_made : (s : Symbol) (c : Result (List ℕ) Fault) (f : Facet) → made_by (range_facet s) c ≡ Ok f → IsWhole f
ranged_made s (Ok x) f e =
    subst IsWhole (ok_same (range_facet s x) f e) (ranged_whole x (same_symbol s symbol.MinInclusive) (same_symbol s symbol.MinExclusive) (same_symbol s symbol.MaxInclusive))
ranged_made s (Err g) f e = absurd (err_is_not_ok g f e)

-- ---- patterns

abbrev AreScalars : Parts → Type 0
AreScalars p = (all_scalars p.0 ≡ true) × (all_scalars p.1 ≡ true)

front_scalars : (text : List ℕ) (o : Option Parts) (p : Parts) → all_scalars text ≡ true → ((q : Parts) → o ≡ Some q → AreScalars q) → with_front text o ≡ Some p → AreScalars p
front_scalars text None p h k e = absurd (cc)
front_scalars text (Some q) p h k e = let w = k q refl in subst AreScalars (same_Some (text ++ q.0, q.1) p e) (scalars_both text q.0 h w.0, w.1)

piece_scalars : (go : List ℕ → Option Parts) (o : Option (Piece × List ℕ)) (p : Parts) → ((q : Piece × List ℕ) → o ≡ Some q → (all_scalars (written q.0) ≡ true) × (all_scalars q.1 ≡ true))
    → ((cs : List ℕ) (q : Parts) → all_scalars cs ≡ true → go cs ≡ Some q → AreScalars q) → behind_piece go o ≡ Some p → AreScalars p
piece_scalars go None p h k e = absurd (cc)
piece_scalars go (Some q) p h k e = let w = h q refl in front_scalars (written q.0) (go q.1) p w.0 (λ x f. k q.1 x w.1 f) e

end_scalars : (b : Bool) (c : ℕ) (cs : List ℕ) (o : Option Parts) (p : Parts) → all_scalars (c ∷ cs) ≡ true → (o ≡ Some p → AreScalars p) → cond b (Some ([], cs)) o ≡ Some p → AreScalars p
end_scalars true c cs o p h k e = subst AreScalars (same_Some ([], cs) p e) (refl, (both (scalar c) (all_scalars cs) h).1)
end_scalars false c cs o p h k e = k e

within_scalars : (n : ℕ) (cs : List ℕ) (p : Parts) → all_scalars cs ≡ true → parts_within n cs ≡ Some p → AreScalars p
within_scalars zero cs p h e = absurd (cc)
within_scalars (suc n) [] p h e = absurd (cc)
within_scalars (suc n) (c ∷ cs) p h e =
    end_scalars (nat_eq c 47) c cs (behind_piece (parts_within n) (piece_at (c ∷ cs))) p h
    (piece_scalars (parts_within n) (piece_at (c ∷ cs)) p (λ q f. piece_fine (c ∷ cs) q h f) (λ ds q g f. within_scalars n ds q g f)) e

parts_scalars : (cs : List ℕ) (p : Parts) → all_scalars cs ≡ true → parts_of cs ≡ Some p → AreScalars p
unfolding parts_of
parts_scalars cs p h e = within_scalars (length cs) cs p h e

drop_one : (cs : List ℕ) → all_scalars cs ≡ true → all_scalars (drop 1 cs) ≡ true
drop_one [] h = refl
drop_one (c ∷ cs) h = (both (scalar c) (all_scalars cs) h).1

pattern_made : (o : Option Parts) (f : Facet) → ((p : Parts) → o ≡ Some p → AreScalars p) → pattern_by o ≡ Ok f → IsWhole f
pattern_made None f h e = absurd (err_is_not_ok fault.Syntax f e)
pattern_made (Some p) f h e = subst IsWhole (ok_same (facets.Pattern p.0 p.1) f e) (h p refl)

pattern_whole : (fs : List Facet) (t : Spelled) (f : Facet) → IsTextToken t → pattern_of fs t ≡ Ok f → IsWhole f
unfolding pattern_of
pattern_whole fs t f u e =
    let body = drop 1 (chars t.text) in
    let c = chosen (is_symbol symbol.Pattern t && not (is_given symbol.Pattern fs)) fault.Syntax (pattern_by (parts_of body)) f e in
    pattern_made (parts_of body) f (λ p k. parts_scalars body p (drop_one (chars t.text) (scalars-chars t.text u)) k) c.1

-- ---- the rules

facet_more : (fs gs : List Facet) (f : Facet) → fs ++ f ∷ [] ≡ gs → IsWhole f → AreWhole fs → AreWhole gs
facet_more fs gs f is h p = subst AreWhole is (all_append IsWhole fs (f ∷ []) p (h, tt))

module _ (datatype : Option (List ℕ)) where
  counted_held : (words : List Symbol) (fs gs : List Facet) (ts r : Ahead Spelled) → low.Counted true datatype words fs gs ts r → AreWhole fs → AreTextTokens ts → AreWhole gs × AreTextTokens r
  counted_held words fs gs ts r (s, (m, w, (f, is, a, (t, e, j)))) p u =
      let k = subst AreTextTokens e (is_behind (fresh_word words fs) s ts m w u) in
      (facet_more fs gs f is (counted_made s (facet_number_of t) f (λ n q. number_small t n q) j) p, k.1)

  pub text_held : (fs gs : List Facet) (ts r : Ahead Spelled) → low.TextFacet true datatype fs gs ts r → AreWhole fs → AreTextTokens ts → AreWhole gs × AreTextTokens r
  text_held fs gs ts r (inl (f, is, a, (t, e, j))) p u = let k = subst AreTextTokens e u in (facet_more fs gs f is (pattern_whole fs t f k.0 j) p, k.1)
  text_held fs gs ts r (inr h) p u = counted_held lengths fs gs ts r h p u

  pub number_held : (fs gs : List Facet) (ts r : Ahead Spelled) → low.NumberFacet true datatype fs gs ts r → AreWhole fs → AreTextTokens ts → AreWhole gs × AreTextTokens r
  number_held fs gs ts r (inl (s, (m, w, (f, is, a, (t, e, j))))) p u =
      let k = subst AreTextTokens e (is_behind (fresh_word ranges fs) s ts m w u) in
      (facet_more fs gs f is (ranged_made s (range_number_of t) f j) p, k.1)
  number_held fs gs ts r (inr h) p u = counted_held digit_counts fs gs ts r h p u

  any_held : (fs gs : List Facet) (ts r : Ahead Spelled) → low.AnyFacet true datatype fs gs ts r → AreWhole fs → AreTextTokens ts → AreWhole gs × AreTextTokens r
  any_held fs gs ts r (inl h) p u = text_held fs gs ts r h p u
  any_held fs gs ts r (inr h) p u = number_held fs gs ts r h p u

  pub texts_held : (fs gs : List Facet) (ts r : Ahead Spelled) → Many (low.TextFacet true datatype) fs gs ts r → AreWhole fs → AreTextTokens ts → AreWhole gs × AreTextTokens r
  texts_held fs gs ts r h p u = many_texts (low.TextFacet true datatype) AreWhole text_held fs gs ts r h p u

  pub numbers_held : (fs gs : List Facet) (ts r : Ahead Spelled) → Many (low.NumberFacet true datatype) fs gs ts r → AreWhole fs → AreTextTokens ts → AreWhole gs × AreTextTokens r
  numbers_held fs gs ts r h p u = many_texts (low.NumberFacet true datatype) AreWhole number_held fs gs ts r h p u

  pub facets_held : (fs gs : List Facet) (ts r : Ahead Spelled) → Many (low.AnyFacet true datatype) fs gs ts r → AreWhole fs → AreTextTokens ts → AreWhole gs × AreTextTokens r
  facets_held fs gs ts r h p u = many_texts (low.AnyFacet true datatype) AreWhole any_held fs gs ts r h p u

-- ---- constraints

pub constraint_held : (kind : Option Kind4) (datatype : Option (List ℕ)) (fs : List Facet) (vs : Option (List Value)) → IsTextIfAny datatype → AreWhole fs →
    AreHeldValuesIfAny vs → IsHeldConstraint (constraint kind datatype fs vs)
constraint_held kind datatype fs vs text h k = record {
  datatype = text;
  facets = held_under fs h facet_keys;
  flags = flags_of (facet_under (codes "pattern") fs) (found_whole (codes "pattern") fs h);
  values = k;
}
