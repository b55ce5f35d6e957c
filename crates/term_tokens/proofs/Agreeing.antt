-- Classes of tokens that agree but for faults that the first answers alone, where a fault of syntax is common.
use Rattle.std.proofs.Common.{ℕ, Bool, true, false, cond, List, Result, Ok, Err, refl, sym, ap, subst, inl, inr}
use Rattle.std.specs.Str.{chars}
use Rattle.rdf_terms.specs.Vocabulary.{rdf_lang_string}
use Rattle.rdf_terms.specs.Texts.{same_text}
use Rattle.rdf_terms.specs.declared.terms.Term.{Term}
use Rattle.rdf_cursor.specs.Ahead.{Ahead}
use Rattle.rdf_cursor.specs.Marks.{mark}
use Rattle.rdf_cursor.specs.Properties.{Agrees}
use Rattle.rdf_cursor.specs.Symbols.{is_symbol, is_among, of_symbol}
use Rattle.rdf_cursor.specs.declared.stops.Fault.{Fault}
use Rattle.rdf_cursor.specs.declared.stops.Fault.TheVariants.{Syntax}
use Rattle.rdf_cursor.specs.declared.symbols.Symbol.{Symbol}
use Rattle.rdf_cursor.proofs.Agreement.{ClassAgrees, agrees_one}
use Rattle.rdf_lex.specs.Tokens.{Spelled}
use Rattle.term_tokens.specs.Terms.{typed, typed_by, tagged_of, tags}

module _ (Common : Fault → Type 0) (Alone : Fault → Ahead Spelled → Type 0) (common : Common Syntax) where
  abbrev Agree : {A : Type 0} → Spelled → Result A Fault → Result A Fault → Type 0
  Agree t c d = ClassAgrees Common Alone t c d

  syntax_agrees : {A : Type 0} (t : Spelled) → Agree {A = A} t (Err Syntax) (Err Syntax)
  syntax_agrees t = inl (common, refl)

  same_class : {A : Type 0} (t : Spelled) (b : Bool) (x : A) → Agree t (cond b (Ok x) (Err Syntax)) (cond b (Ok x) (Err Syntax))
  same_class t true x = refl
  same_class t false x = syntax_agrees t

  not_lang : (t : Spelled) (x : Term) (b : Bool) → Agree t (cond b (Err Syntax) (Ok x)) (cond b (Err Syntax) (Ok x))
  not_lang t x true = syntax_agrees t
  not_lang t x false = refl

  -- where the IRIs agree, so do the literals of that datatype
  pub typed_by_agrees : (t : Spelled) (lex : List ℕ) (c d : Result (List ℕ) Fault) → Agree t c d → Agree t (typed_by lex c) (typed_by lex d)
  typed_by_agrees t lex (Ok i) d e = subst (λ (v : Result (List ℕ) Fault). Agree t (typed_by lex (Ok i)) (typed_by lex v)) (sym e)
      (not_lang t (typed lex (chars i)) (same_text (chars i) rdf_lang_string))
  typed_by_agrees t lex (Err f) d (inl (c, e)) = inl (c, ap (typed_by lex) e)
  typed_by_agrees t lex (Err f) d (inr h) = inr h

  -- a literal with a tag agrees with itself
  pub tagged_agrees : (lex : List ℕ) (t : Spelled) → Agree t (tagged_of lex t) (tagged_of lex t)
  unfolding tagged_of
  tagged_agrees lex t = same_class t (is_among tags t) _

  -- a token that is one symbol agrees with itself
  pub agrees_mark : (a : Symbol) → Agrees Common Alone (mark a) (mark a)
  agrees_mark a = agrees_one Common Alone Syntax (of_symbol a) (of_symbol a) common (λ t. same_class t (is_symbol a t) t)
