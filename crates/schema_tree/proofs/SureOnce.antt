-- At most one verdict is sure of an expression, and one is.
use Rattle.std.proofs.Common.{◌≡◌, ℕ, zero, suc, inl, inr, List, [], ◌∷◌, refl}
use Rattle.std.specs.List.{AllByRecursion}
use Rattle.std.specs.Prelude.{Contains, Option, Some, None, slice_get}
use Rattle.rdf_terms.specs.declared.terms.TermId.{TermId}
use Rattle.rdf_terms.specs.declared.terms.Term.{Term}
use Rattle.schema_tree.specs.declared.schema.Pair.{Pair}
use Rattle.schema_tree.specs.declared.schema.Schema.{Schema}
use Rattle.schema_tree.specs.declared.schema.ExprId.{ExprId}
use Rattle.schema_tree.specs.declared.schema.Expr.{Expr}
use Rattle.schema_tree.specs.declared.schema.Expr.TheVariants as Exprs
use Rattle.schema_tree.specs.declared.verdicts.Verdict.{Verdict}
use Rattle.schema_tree.specs.declared.verdicts.Verdict.TheVariants.{Yes, No, Unknown}
use Rattle.schema_tree.specs.Entries.{entry, pair_of}
use Rattle.lists.specs.Quantifiers.{SomeByRecursion}
use Rattle.schema_tree.specs.Sure.{Known, PairIs, SureWithin, SureEntry, IsSure}
use Rattle.lists.proofs.Quantifiers.{some_against}
use Rattle.node_constraint.specs.Laws.{NodesAreDecided}
use Rattle.schema_tree.proofs.Decide.{decide_node, same_pairs}
use Rattle.lists.proofs.Decided.{Decided, decide_member, decide_some}

-- no two verdicts hold together
pub record AreApart (holds : Verdict → Type 0) : Type 0 where
  pub yes_no : holds Yes → ¬ holds No
  pub yes_unknown : holds Yes → ¬ holds Unknown
  pub no_unknown : holds No → ¬ holds Unknown

module _ (view : Known) (terms : List Term) (n : TermId) where
  pub entry_apart :
      (member : ExprId → Verdict → Type 0) → ((e : ExprId) → AreApart (member e)) → (x : Option Expr) →
      AreApart (SureEntry view terms n member x)
  entry_apart member apart None = record { yes_no = λ h k. h; yes_unknown = λ h k. h; no_unknown = λ h k. k }
  entry_apart member apart (Some (Exprs.And es)) = record {
    yes_no = λ h k. some_against (λ e. member e No) (λ e. member e Yes) (λ e a b. (apart e).yes_no b a) es k h;
    yes_unknown = λ h k. some_against (λ e. member e Unknown) (λ e. member e Yes) (λ e a b. (apart e).yes_unknown b a) es k.1 h;
    no_unknown = λ h k. k.0 h;
  }
  entry_apart member apart (Some (Exprs.Or es)) = record {
    yes_no = λ h k. some_against (λ e. member e Yes) (λ e. member e No) (λ e a b. (apart e).yes_no a b) es h k;
    yes_unknown = λ h k. k.0 h;
    no_unknown = λ h k. some_against (λ e. member e Unknown) (λ e. member e No) (λ e a b. (apart e).no_unknown b a) es k.1 h;
  }
  entry_apart member apart (Some (Exprs.Not e)) = record {
    yes_no = λ h k. (apart e).yes_no k h;
    yes_unknown = λ h k. (apart e).no_unknown h k;
    no_unknown = λ h k. (apart e).yes_unknown h k;
  }
  entry_apart member apart (Some (Exprs.Node c)) = record { yes_no = λ h k. k h; yes_unknown = λ h k. k; no_unknown = λ h k. k }
  entry_apart member apart (Some (Exprs.Shape i)) = record { yes_no = λ h k. k.0 h; yes_unknown = λ h k. k.0 h; no_unknown = λ h k. k.1 h.1 }

  pub within_apart : (s : Schema) (k : ℕ) (e : ExprId) → AreApart (SureWithin k s terms view n e)
  unfolding SureWithin
  within_apart s zero e = record { yes_no = λ h k. h; yes_unknown = λ h k. h; no_unknown = λ h k. k }
  within_apart s (suc k) e = entry_apart (SureWithin k s terms view n) (within_apart s k) (entry s e)

  -- at most one verdict is sure
  pub sure_once : (s : Schema) (e : ExprId) (v w : Verdict) → IsSure s terms view n e v → IsSure s terms view n e w → v ≡ w
  sure_once s e v w a b = same v w (within_apart s (suc e.0) e) a b
    where
      same : (v w : Verdict) → AreApart (IsSure s terms view n e) → IsSure s terms view n e v → IsSure s terms view n e w → v ≡ w
      same Yes Yes apart a b = refl
      same Yes No apart a b = absurd (apart.yes_no a b)
      same Yes Unknown apart a b = absurd (apart.yes_unknown a b)
      same No Yes apart a b = absurd (apart.yes_no b a)
      same No No apart a b = refl
      same No Unknown apart a b = absurd (apart.no_unknown a b)
      same Unknown Yes apart a b = absurd (apart.yes_unknown b a)
      same Unknown No apart a b = absurd (apart.no_unknown b a)
      same Unknown Unknown apart a b = refl

-- some verdict holds
abbrev pub HasOne : (Verdict → Type 0) → Type 0
HasOne holds = (v : Verdict) × holds v

-- of those that have exactly one, each verdict holds or it does not
pub decide_verdict : (holds : Verdict → Type 0) → AreApart holds → HasOne holds → (w : Verdict) → Decided (holds w)
decide_verdict holds apart (Yes, h) Yes = inl h
decide_verdict holds apart (Yes, h) No = inr (apart.yes_no h)
decide_verdict holds apart (Yes, h) Unknown = inr (apart.yes_unknown h)
decide_verdict holds apart (No, h) Yes = inr (λ k. apart.yes_no k h)
decide_verdict holds apart (No, h) No = inl h
decide_verdict holds apart (No, h) Unknown = inr (apart.no_unknown h)
decide_verdict holds apart (Unknown, h) Yes = inr (λ k. apart.yes_unknown k h)
decide_verdict holds apart (Unknown, h) No = inr (λ k. apart.no_unknown k h)
decide_verdict holds apart (Unknown, h) Unknown = inl h

module _ (member : ExprId → Verdict → Type 0) (apart : (e : ExprId) → AreApart (member e)) (has : (e : ExprId) → HasOne (member e)) where
  -- where no member has either of two verdicts, all have the third
  all_yes :
      (es : List ExprId) → ¬ SomeByRecursion (λ e. member e No) es → ¬ SomeByRecursion (λ e. member e Unknown) es →
      AllByRecursion (λ e. member e Yes) es
  all_yes [] no_no no_unknown = tt
  all_yes (e ∷ es) no_no no_unknown = (pick (has e), all_yes es (λ h. no_no (inr h)) (λ h. no_unknown (inr h)))
    where
      pick : HasOne (member e) → member e Yes
      pick (Yes, h) = h
      pick (No, h) = absurd (no_no (inl h))
      pick (Unknown, h) = absurd (no_unknown (inl h))

  all_no :
      (es : List ExprId) → ¬ SomeByRecursion (λ e. member e Yes) es → ¬ SomeByRecursion (λ e. member e Unknown) es →
      AllByRecursion (λ e. member e No) es
  all_no [] no_yes no_unknown = tt
  all_no (e ∷ es) no_yes no_unknown = (pick (has e), all_no es (λ h. no_yes (inr h)) (λ h. no_unknown (inr h)))
    where
      pick : HasOne (member e) → member e No
      pick (Yes, h) = absurd (no_yes (inl h))
      pick (No, h) = h
      pick (Unknown, h) = absurd (no_unknown (inl h))

  some_has : (es : List ExprId) (v : Verdict) → Decided (SomeByRecursion (λ e. member e v) es)
  some_has es v = decide_some (λ e. member e v) (λ e. decide_verdict (member e) (apart e) (has e) v) es

  and_has :
      (view : Known) (terms : List Term) (n : TermId) (es : List ExprId) → HasOne (SureEntry view terms n member (Some (Exprs.And es)))
  and_has view terms n es = go (some_has es No) (some_has es Unknown)
    where
      go :
          Decided (SomeByRecursion (λ e. member e No) es) → Decided (SomeByRecursion (λ e. member e Unknown) es) →
          HasOne (SureEntry view terms n member (Some (Exprs.And es)))
      go (inl h) rest = (No, h)
      go (inr none) (inl h) = (Unknown, (none, h))
      go (inr none) (inr known) = (Yes, all_yes es none known)

  or_has : (view : Known) (terms : List Term) (n : TermId) (es : List ExprId) → HasOne (SureEntry view terms n member (Some (Exprs.Or es)))
  or_has view terms n es = go (some_has es Yes) (some_has es Unknown)
    where
      go :
          Decided (SomeByRecursion (λ e. member e Yes) es) → Decided (SomeByRecursion (λ e. member e Unknown) es) →
          HasOne (SureEntry view terms n member (Some (Exprs.Or es)))
      go (inl h) rest = (Yes, h)
      go (inr none) (inl h) = (Unknown, (none, h))
      go (inr none) (inr known) = (No, all_no es none known)

module _ (s : Schema) (terms : List Term) (nodes : NodesAreDecided) (view : Known) (n : TermId) where
  pair_has : (p : Pair) → HasOne (PairIs view p)
  pair_has p = go (decide_member same_pairs view.yes p) (decide_member same_pairs view.no p)
    where
      go : Decided (Contains view.yes p) → Decided (Contains view.no p) → HasOne (PairIs view p)
      go (inl h) rest = (Yes, h)
      go (inr none) (inl h) = (No, (none, h))
      go (inr none) (inr known) = (Unknown, (none, known))

  entry_has :
      (member : ExprId → Verdict → Type 0) → ((e : ExprId) → AreApart (member e)) → ((e : ExprId) → HasOne (member e)) →
      (x : Option Expr) → HasOne (SureEntry view terms n member x)
  entry_has member apart has None = (No, tt)
  entry_has member apart has (Some (Exprs.And es)) = and_has member apart has view terms n es
  entry_has member apart has (Some (Exprs.Or es)) = or_has member apart has view terms n es
  entry_has member apart has (Some (Exprs.Not e)) = go (has e)
    where
      go : HasOne (member e) → HasOne (SureEntry view terms n member (Some (Exprs.Not e)))
      go (Yes, h) = (No, h)
      go (No, h) = (Yes, h)
      go (Unknown, h) = (Unknown, h)
  entry_has member apart has (Some (Exprs.Node c)) = elim (decide_node nodes c (slice_get terms n.0)) [
    | inl h ↦ (Yes, h)
    | inr h ↦ (No, h)
  ]
  entry_has member apart has (Some (Exprs.Shape i)) = pair_has (pair_of n i)

  -- some verdict is sure
  pub sure_some : (k : ℕ) (e : ExprId) → (v : Verdict) × SureWithin k s terms view n e v
  unfolding SureWithin
  sure_some zero e = (No, tt)
  sure_some (suc k) e =
      entry_has (SureWithin k s terms view n) (within_apart view terms n s k) (λ d. sure_some k d) (entry s e)
