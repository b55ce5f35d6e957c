-- A reader with the limits of patterns answers as the one without, or a pattern that is too large is next. With the flag brackets that nest too
-- deep come from a limit, too.
use Rattle.std.proofs.Common.{◌≡◌, ℕ, Bool, true, false, List, Option, Some, None, Result, Ok, Err, refl, inl, inr}
use Rattle.std.specs.Str.{chars}
use Rattle.rdf_cursor.specs.Ahead.{Ahead}
use Rattle.rdf_cursor.specs.Properties.{AgreesAt, Agrees, Consumes}
use Rattle.rdf_cursor.specs.Readers.{Answer, Reader, ◌>>=◌, one, either, loop}
use Rattle.rdf_cursor.proofs.Agreement.{ClassAgrees, agrees_one, agrees_bind, agrees_either, agrees_loop}
use Rattle.rdf_cursor.specs.declared.symbols.Symbol.{Symbol}
use Rattle.rdf_lex.specs.Tokens.{Spelled}
use Rattle.xs_pattern.specs.declared.pattern_error.PatternError.{PatternError}
use Rattle.xs_pattern.specs.declared.pattern_error.PatternError.TheVariants as refusal
use Rattle.node_constraint.specs.declared.facet.Facet.{Facet}
use Rattle.node_constraint.specs.declared.make_error.MakeError.{MakeError}
use Rattle.node_constraint.specs.declared.make_error.MakeError.TheVariants as errors
use Rattle.node_constraint.proofs.Judging.{Judged, judged}
use Rattle.term_tokens.specs.Scopes.{Scope}
use Rattle.shexc_constraints.specs.declared.faults.Fault.{Fault}
use Rattle.shexc_constraints.specs.declared.faults.Fault.TheVariants as fault
use Rattle.shexc_constraints.specs.Facets.{refused_pattern, refused_by, alone, judged_by, judged_facet, admitted}
use Rattle.shexc_constraints.specs.Limits.{is_limit}
use Rattle.shexc_constraints.specs.Symbols.{lengths, digit_counts}
use Rattle.shexc_constraints.specs.Reading.{a_facet, counted, ranged, text_facet, number_facet, facet, text_facets_behind, number_facets_behind, facets_behind, of_kind, of_texts, non_literal, any_literal, of_datatype, of_values, of_numbers, literal_constraint}
use Rattle.shexc_constraints.proofs.Places.{consumes_text_facet, consumes_number_facet, consumes_facet}

module _ (deep : Bool) where
  -- a fault that comes from no limit, and one that does
  abbrev pub is_common : Fault → Type 0
  is_common f = is_limit deep f ≡ false

  abbrev pub IsLimit : Fault → Ahead Spelled → Type 0
  IsLimit f rest = is_limit deep f ≡ true

  -- every reader agrees with itself
  same_fault : {A : Type 0} (f : Fault) (rest : Ahead Spelled) (b : Bool) → is_limit deep f ≡ b → AgreesAt {A = A} is_common IsLimit (Err (f, rest)) (Err (f, rest))
  same_fault f rest true e = inr e
  same_fault f rest false e = inl (e, refl)

  same_answer : {A : Type 0} (a : Answer Spelled Fault A) → AgreesAt is_common IsLimit a a
  same_answer (Ok x) = refl
  same_answer (Err e) = same_fault e.0 e.1 (is_limit deep e.0) refl

  -- a facet
  abbrev Judges : Spelled → Result Facet Fault → Result Facet Fault → Type 0
  Judges t c d = ClassAgrees is_common IsLimit t c d

  pattern_alike : (t : Spelled) (b : Bool) (f : Facet) (e : PatternError) → Judges t (refused_pattern b f e) (refused_pattern false f e)
  pattern_alike t true f refusal.Large = inr (λ ts. refl)
  pattern_alike t true f refusal.Flag = inl (refl, refl)
  pattern_alike t true f refusal.Syntax = inl (refl, refl)
  pattern_alike t true f refusal.Memory = inl (refl, refl)
  pattern_alike t false f refusal.Large = refl
  pattern_alike t false f refusal.Flag = inl (refl, refl)
  pattern_alike t false f refusal.Syntax = inl (refl, refl)
  pattern_alike t false f refusal.Memory = inl (refl, refl)

  refused_alike : (t : Spelled) (b : Bool) (f : Facet) (e : MakeError) → Judges t (refused_by b f e) (refused_by false f e)
  refused_alike t b f errors.FloatFacet = inl (refl, refl)
  refused_alike t b f errors.FacetNumber = inl (refl, refl)
  refused_alike t b f (errors.Pattern e) = pattern_alike t b f e
  refused_alike t b f errors.Memory = inl (refl, refl)

  judged_alike : (t : Spelled) (b : Bool) (datatype : Option (List ℕ)) (f : Facet) (j : Judged (alone datatype f)) → Judges t (judged_by b datatype f j) (judged_by false datatype f j)
  judged_alike t b datatype f (inl sound) = refl
  judged_alike t b datatype f (inr r) = refused_alike t b f r.0

  fault_alike : (t : Spelled) (f : Fault) (b : Bool) → is_limit deep f ≡ b → Judges t (Err f) (Err f)
  fault_alike t f true e = inr (λ ts. e)
  fault_alike t f false e = inl (e, refl)

  admitted_alike : (t : Spelled) (b : Bool) (datatype : Option (List ℕ)) (c : Result Facet Fault) → Judges t (admitted b datatype c) (admitted false datatype c)
  unfolding judged_facet
  admitted_alike t b datatype (Ok f) = judged_alike t b datatype f (judged (alone datatype f))
  admitted_alike t b datatype (Err f) = fault_alike t f (is_limit deep f) refl

  -- Whatever the first answers the second answers, but for the faults of a limit.
  pub record Alike {A : Type 0} (p q : Reader Spelled Fault A) : Type 0 where
    pub agree : Agrees is_common IsLimit p q

  pub alike_same : {A : Type 0} (p : Reader Spelled Fault A) → Alike p p
  alike_same p = record { agree = λ ts. same_answer (p ts) }

  pub alike_bind : {A B : Type 0} (p q : Reader Spelled Fault A) (f g : A → Reader Spelled Fault B) → Alike p q → ((x : A) → Alike (f x) (g x)) → Alike (p >>= f) (q >>= g)
  alike_bind p q f g a h = record { agree = agrees_bind is_common IsLimit p q f g a.agree (λ x. (h x).agree) }

  pub alike_either : {A : Type 0} (class : Spelled → Bool) (p q r s : Reader Spelled Fault A) → Alike p q → Alike r s → Alike (either class p r) (either class q s)
  alike_either class p q r s a h = record { agree = agrees_either is_common IsLimit class p q r s a.agree h.agree }

  pub alike_loop : {S : Type 0} (class : Spelled → Bool) (p q : S → Reader Spelled Fault S) → ((s : S) → Consumes (p s)) → ((s : S) → Consumes (q s)) →
      ((s : S) → Alike (p s) (q s)) → (s : S) → Alike (loop class p s) (loop class q s)
  alike_loop class p q a b h s = record { agree = agrees_loop is_common IsLimit class p q a b (λ x. (h x).agree) s }

  facets_agree : (b : Bool) (datatype : Option (List ℕ)) (class : Spelled → Result Facet Fault)
      → Alike (one fault.Syntax (λ t. admitted b datatype (class t))) (one fault.Syntax (λ t. admitted false datatype (class t)))
  facets_agree b datatype class = record { agree = agrees_one is_common IsLimit fault.Syntax _ _ refl (λ t. admitted_alike t b datatype (class t)) }

  pub agrees_a_facet : (bounded : Bool) (datatype : Option (List ℕ)) (class : Spelled → Result Facet Fault) (fs : List Facet) →
      Alike (a_facet bounded datatype class fs) (a_facet false datatype class fs)
  unfolding a_facet
  agrees_a_facet bounded datatype class fs = alike_bind _ _ _ _ (facets_agree bounded datatype _) (λ f. alike_same _)

  pub agrees_counted : (bounded : Bool) (datatype : Option (List ℕ)) (w : List Symbol) (fs : List Facet) → Alike (counted bounded datatype w fs) (counted false datatype w fs)
  unfolding counted
  agrees_counted bounded datatype w fs = alike_bind _ _ _ _ (alike_same _) (λ s. agrees_a_facet bounded datatype _ fs)

  pub agrees_ranged : (bounded : Bool) (datatype : Option (List ℕ)) (fs : List Facet) → Alike (ranged bounded datatype fs) (ranged false datatype fs)
  unfolding ranged
  agrees_ranged bounded datatype fs = alike_bind _ _ _ _ (alike_same _) (λ s. agrees_a_facet bounded datatype _ fs)

  pub agrees_text_facet : (bounded : Bool) (datatype : Option (List ℕ)) (fs : List Facet) → Alike (text_facet bounded datatype fs) (text_facet false datatype fs)
  unfolding text_facet
  agrees_text_facet bounded datatype fs = alike_either _ _ _ _ _ (agrees_a_facet bounded datatype _ fs) (agrees_counted bounded datatype lengths fs)

  pub agrees_number_facet : (bounded : Bool) (datatype : Option (List ℕ)) (fs : List Facet) → Alike (number_facet bounded datatype fs) (number_facet false datatype fs)
  unfolding number_facet
  agrees_number_facet bounded datatype fs = alike_either _ _ _ _ _ (agrees_counted bounded datatype digit_counts fs) (agrees_ranged bounded datatype fs)

  pub agrees_facet : (bounded : Bool) (datatype : Option (List ℕ)) (fs : List Facet) → Alike (facet bounded datatype fs) (facet false datatype fs)
  unfolding facet
  agrees_facet bounded datatype fs = alike_either _ _ _ _ _ (agrees_text_facet bounded datatype fs) (agrees_number_facet bounded datatype fs)

  pub agrees_text_facets_behind : (bounded : Bool) (datatype : Option (List ℕ)) (fs : List Facet) → Alike (text_facets_behind bounded datatype fs) (text_facets_behind false datatype fs)
  unfolding text_facets_behind
  agrees_text_facets_behind bounded datatype fs = alike_loop _ _ _ (consumes_text_facet bounded datatype) (consumes_text_facet false datatype) (agrees_text_facet bounded datatype) _

  pub agrees_number_facets_behind : (bounded : Bool) (datatype : Option (List ℕ)) (fs : List Facet) → Alike (number_facets_behind bounded datatype fs) (number_facets_behind false datatype fs)
  unfolding number_facets_behind
  agrees_number_facets_behind bounded datatype fs = alike_loop _ _ _ (consumes_number_facet bounded datatype) (consumes_number_facet false datatype) (agrees_number_facet bounded datatype) _

  pub agrees_facets_behind : (bounded : Bool) (datatype : Option (List ℕ)) (fs : List Facet) → Alike (facets_behind bounded datatype fs) (facets_behind false datatype fs)
  unfolding facets_behind
  agrees_facets_behind bounded datatype fs = alike_loop _ _ _ (consumes_facet bounded datatype) (consumes_facet false datatype) (agrees_facet bounded datatype) _

  pub agrees_of_kind : (bounded : Bool) (v : Scope) → Alike (of_kind bounded v) (of_kind false v)
  unfolding of_kind
  agrees_of_kind bounded v = alike_bind _ _ _ _ (alike_same _) (λ s. alike_bind _ _ _ _ (agrees_text_facets_behind bounded None _) (λ fs. alike_same _))

  pub agrees_of_texts : (bounded : Bool) (v : Scope) → Alike (of_texts bounded v) (of_texts false v)
  unfolding of_texts
  agrees_of_texts bounded v = alike_bind _ _ _ _ (agrees_text_facet bounded None _) (λ f. alike_bind _ _ _ _ (agrees_text_facets_behind bounded None _) (λ fs. alike_same _))

  pub agrees_non_literal : (bounded : Bool) (v : Scope) → Alike (non_literal bounded v) (non_literal false v)
  unfolding non_literal
  agrees_non_literal bounded v = alike_either _ _ _ _ _ (agrees_of_kind bounded v) (agrees_of_texts bounded v)

  pub agrees_any_literal : (bounded : Bool) (v : Scope) → Alike (any_literal bounded v) (any_literal false v)
  unfolding any_literal
  agrees_any_literal bounded v = alike_bind _ _ _ _ (alike_same _) (λ _. alike_bind _ _ _ _ (agrees_facets_behind bounded None _) (λ fs. alike_same _))

  pub agrees_of_datatype : (bounded : Bool) (v : Scope) → Alike (of_datatype bounded v) (of_datatype false v)
  unfolding of_datatype
  agrees_of_datatype bounded v = alike_bind _ _ _ _ (alike_same _) (λ i. alike_bind _ _ _ _ (agrees_facets_behind bounded (Some (chars i)) _) (λ fs. alike_same _))

  pub agrees_of_values : (bounded : Bool) (v : Scope) → Alike (of_values bounded v) (of_values false v)
  unfolding of_values
  agrees_of_values bounded v = alike_bind _ _ _ _ (alike_same _) (λ i. alike_bind _ _ _ _ (agrees_facets_behind bounded None _) (λ fs. alike_same _))

  pub agrees_of_numbers : (bounded : Bool) (v : Scope) → Alike (of_numbers bounded v) (of_numbers false v)
  unfolding of_numbers
  agrees_of_numbers bounded v = alike_bind _ _ _ _ (agrees_number_facet bounded None _) (λ f. alike_bind _ _ _ _ (agrees_number_facets_behind bounded None _) (λ fs. alike_same _))

  pub agrees_literal_constraint : (bounded : Bool) (v : Scope) → Alike (literal_constraint bounded v) (literal_constraint false v)
  unfolding literal_constraint
  agrees_literal_constraint bounded v = alike_either _ _ _ _ _ (agrees_any_literal bounded v)
      (alike_either _ _ _ _ _ (agrees_of_datatype bounded v) (alike_either _ _ _ _ _ (agrees_of_values bounded v) (agrees_of_numbers bounded v)))
