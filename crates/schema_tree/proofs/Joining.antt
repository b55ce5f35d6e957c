-- The verdict on an And or an Or is had from its members, one after the other.
use Rattle.std.proofs.Common.{rules, ◌≡◌, ◌≢◌, ℕ, suc, ◌+◌, ◌<◌, ◌≤◌, inl, inr, ◌⊎◌, List, [], ◌∷◌, ◌++◌, length, take, get_or, refl, sym, ◌∙◌, ap, subst}
use Rattle.std.proofs.lemmas.Bool.{eqb-true, ltb-true, ltb-false}
use Rattle.std.proofs.Math.Dec.{ltb}
use Rattle.std.specs.Option.{unwrap_or}
use Rattle.std.proofs.lemmas.List.{take_more, take_all}
use Rattle.std.proofs.lemmas.List.Elements.{Contains-get_or}
use Rattle.std.proofs.lemmas.Option.{slice_get_past, slice_get_read}
use denote.Enum.Bare.{same_true, same_false, sameb}
use Rattle.schema_tree.specs.contracts.verdicts.Verdict.{the_type}
use Rattle.std.specs.List.{AllByRecursion}
use Rattle.std.specs.Prelude.{Bool, true, false, cond, Contains, slice_get, IfOk, Option, Some, None, Result, Ok, Err, ⊤}
use Rattle.rdf_terms.specs.declared.terms.TermId.{TermId}
use Rattle.rdf_terms.specs.declared.terms.Term.{Term}
use Rattle.schema_tree.specs.declared.schema.Schema.{Schema}
use Rattle.schema_tree.specs.declared.schema.ExprId.{ExprId}
use Rattle.schema_tree.specs.declared.schema.Expr.{Expr}
use Rattle.schema_tree.specs.declared.schema.Expr.TheVariants as Exprs
use Rattle.schema_tree.specs.declared.verdicts.Verdict.{Verdict}
use Rattle.schema_tree.specs.declared.verdicts.Verdict.TheVariants.{Yes, No, Unknown}
use Rattle.schema_tree.specs.Entries.{entry}
use Rattle.schema_tree.specs.Joined.{AreKept, IsDecidedBy, opposite, same_expr}
use Rattle.schema_tree.specs.Loaded.{IsLoaded}
use Rattle.lists.specs.Quantifiers.{SomeByRecursion}
use Rattle.schema_tree.specs.Sure.{IsSure, Known, SureEntry}
use Rattle.lists.proofs.Quantifiers.{all_append}
use Rattle.lists.proofs.Members.{in_rest, not_in_none}
use Rattle.schema_tree.proofs.SureOnce.{AreApart, sure_once, within_apart}
use Rattle.schema_tree.proofs.Fuel.{sure_layer}

-- a member that is there is one of some
pub some_of : {X : Type 0} (P : X → Type 0) (xs : List X) (x : X) → Contains xs x → P x → SomeByRecursion P xs
some_of P [] x c h = absurd (not_in_none x c)
some_of P (y ∷ ys) x c h = elim (in_rest y ys x c) [
  | inl e ↦ inl (subst P (sym e) h)
  | inr later ↦ inr (some_of P ys x later h)
]

some_left : {X : Type 0} (P : X → Type 0) (xs ys : List X) → SomeByRecursion P xs → SomeByRecursion P (xs ++ ys)
some_left P [] ys h = absurd h
some_left P (x ∷ xs) ys (inl h) = inl h
some_left P (x ∷ xs) ys (inr h) = inr (some_left P xs ys h)

some_last : {X : Type 0} (P : X → Type 0) (xs : List X) (y : X) → P y → SomeByRecursion P (xs ++ y ∷ [])
some_last P [] y h = inl h
some_last P (x ∷ xs) y h = inr (some_last P xs y h)

none_more :
    {X : Type 0} (P : X → Type 0) (xs : List X) (y : X) → ¬ SomeByRecursion P xs → ¬ P y → ¬ SomeByRecursion P (xs ++ y ∷ [])
none_more P [] y none never (inl h) = never h
none_more P [] y none never (inr h) = h
none_more P (x ∷ xs) y none never (inl h) = none (inl h)
none_more P (x ∷ xs) y none never (inr h) = none_more P xs y (λ k. none (inr k)) never h

-- the members of the entry e have smaller numbers
pub members_below :
    (s : Schema) → IsLoaded s → (decisive : Verdict) (es : List ExprId) (e : ExprId) → IsDecidedBy decisive es (entry s e) →
    (x : ExprId) → Contains es x → x.0 < e.0
members_below s loaded No es e is x c = loaded.refers e (Exprs.And es) is x c
members_below s loaded Yes es e is x c = loaded.refers e (Exprs.Or es) is x c
members_below s loaded Unknown es e is x c = absurd is

module _ (member : ExprId → Verdict → Type 0) where
  -- none of the members xs decides, and v is the verdict as far as they go
  pub record SoFar (decisive : Verdict) (xs : List ExprId) (v : Verdict) : Type 0 where
    pub undecided : ¬ SomeByRecursion (λ e. member e decisive) xs
    pub shown : ((v ≡ opposite decisive) × AllByRecursion (λ e. member e (opposite decisive)) xs)
        ⊎ ((v ≡ Unknown) × SomeByRecursion (λ e. member e Unknown) xs)

  pub so_far_start : (decisive : Verdict) → SoFar decisive [] (opposite decisive)
  so_far_start decisive = record { undecided = λ h. h; shown = inl (refl, tt) }

  -- one that is Unknown makes the verdict Unknown
  pub so_far_unknown :
      ((e : ExprId) → AreApart (member e)) → (decisive : Verdict) → decisive ≢ Unknown → (xs : List ExprId) (v : Verdict) →
      SoFar decisive xs v → (x : ExprId) → member x Unknown → SoFar decisive (xs ++ x ∷ []) Unknown
  so_far_unknown apart decisive known xs v h x is = record {
    undecided = none_more (λ e. member e decisive) xs x h.undecided (against decisive known);
    shown = inr (refl, some_last (λ e. member e Unknown) xs x is);
  }
    where
      against : (d : Verdict) → d ≢ Unknown → ¬ member x d
      against Yes k m = (apart x).yes_unknown m is
      against No k m = (apart x).no_unknown m is
      against Unknown k m = k refl

  -- one with the opposite of what decides changes nothing
  pub so_far_opposite :
      ((e : ExprId) → AreApart (member e)) → (decisive : Verdict) → decisive ≢ Unknown → (xs : List ExprId) (v : Verdict) →
      SoFar decisive xs v → (x : ExprId) → member x (opposite decisive) → SoFar decisive (xs ++ x ∷ []) v
  so_far_opposite apart decisive known xs v h x is = record {
    undecided = none_more (λ e. member e decisive) xs x h.undecided (against decisive known is);
    shown = more h.shown;
  }
    where
      against : (d : Verdict) → d ≢ Unknown → member x (opposite d) → ¬ member x d
      against Yes k m n = (apart x).yes_no n m
      against No k m n = (apart x).yes_no m n
      against Unknown k m n = k refl

      Shown : List ExprId → Type 0
      Shown ys = ((v ≡ opposite decisive) × AllByRecursion (λ e. member e (opposite decisive)) ys)
          ⊎ ((v ≡ Unknown) × SomeByRecursion (λ e. member e Unknown) ys)

      more : Shown xs → Shown (xs ++ x ∷ [])
      more (inl a) = inl (a.0, all_append (λ e. member e (opposite decisive)) xs (x ∷ []) a.1 (is, tt))
      more (inr b) = inr (b.0, some_left (λ e. member e Unknown) xs (x ∷ []) b.1)

  module _ (view : Known) (terms : List Term) (n : TermId) where
    -- what the members say at the end is the verdict on the entry
    pub so_far_end :
        (decisive : Verdict) (es : List ExprId) (x : Option Expr) (v : Verdict) → IsDecidedBy decisive es x → SoFar decisive es v →
        SureEntry view terms n member x v
    so_far_end No es x v is h = subst (λ y. SureEntry view terms n member y v) (sym is) (go h.shown)
      where
        go : ((v ≡ Yes) × AllByRecursion (λ e. member e Yes) es) ⊎ ((v ≡ Unknown) × SomeByRecursion (λ e. member e Unknown) es) →
            SureEntry view terms n member (Some (Exprs.And es)) v
        go (inl a) = subst (λ w. SureEntry view terms n member (Some (Exprs.And es)) w) (sym a.0) a.1
        go (inr b) = subst (λ w. SureEntry view terms n member (Some (Exprs.And es)) w) (sym b.0) (h.undecided, b.1)
    so_far_end Yes es x v is h = subst (λ y. SureEntry view terms n member y v) (sym is) (go h.shown)
      where
        go : ((v ≡ No) × AllByRecursion (λ e. member e No) es) ⊎ ((v ≡ Unknown) × SomeByRecursion (λ e. member e Unknown) es) →
            SureEntry view terms n member (Some (Exprs.Or es)) v
        go (inl a) = subst (λ w. SureEntry view terms n member (Some (Exprs.Or es)) w) (sym a.0) a.1
        go (inr b) = subst (λ w. SureEntry view terms n member (Some (Exprs.Or es)) w) (sym b.0) (h.undecided, b.1)
    so_far_end Unknown es x v is h = absurd is

    -- a member that decides does so for the entry
    pub found_decides :
        (decisive : Verdict) (es : List ExprId) (x : Option Expr) → IsDecidedBy decisive es x → (e : ExprId) → Contains es e →
        member e decisive → SureEntry view terms n member x decisive
    found_decides No es x is e c h = subst (λ y. SureEntry view terms n member y No) (sym is) (some_of (λ d. member d No) es e c h)
    found_decides Yes es x is e c h = subst (λ y. SureEntry view terms n member y Yes) (sym is) (some_of (λ d. member d Yes) es e c h)
    found_decides Unknown es x is e c h = absurd is

-- what an entry asks for a verdict gives it
pub sure_at :
    (s : Schema) (terms : List Term) → IsLoaded s → (view : Known) (n : TermId) (e : ExprId) (x : Option Expr) → entry s e ≡ x → (v : Verdict) →
    SureEntry view terms n (IsSure s terms view n) x v → IsSure s terms view n e v
sure_at s terms loaded view n e x is v h =
    (sure_layer s terms loaded view n e v).1 (subst (λ y. SureEntry view terms n (IsSure s terms view n) y v) (sym is) h)

-- the opposite of a verdict on the member is that on a Not
pub sure_not :
    (s : Schema) (terms : List Term) → IsLoaded s → (view : Known) (n : TermId) (e d : ExprId) → entry s e ≡ Some (Exprs.Not d) → (v : Verdict) →
    IsSure s terms view n d v → IsSure s terms view n e (opposite v)
sure_not s terms loaded view n e d is Yes h = sure_at s terms loaded view n e (Some (Exprs.Not d)) is No h
sure_not s terms loaded view n e d is No h = sure_at s terms loaded view n e (Some (Exprs.Not d)) is Yes h
sure_not s terms loaded view n e d is Unknown h = sure_at s terms loaded view n e (Some (Exprs.Not d)) is Unknown h

-- Yes and No
IsKnown : Verdict → Type 0
IsKnown Unknown = ⊥
IsKnown v = ⊤

-- a verdict that is neither Unknown nor the one that is known is its opposite
third : (v w : Verdict) → v ≢ Unknown → w ≢ v → w ≢ Unknown → w ≡ opposite v
third Yes Yes h k l = absurd (k refl)
third Yes No h k l = refl
third Yes Unknown h k l = absurd (l refl)
third No Yes h k l = refl
third No No h k l = absurd (k refl)
third No Unknown h k l = absurd (l refl)
third Unknown w h k l = absurd (h refl)

module _ (s : Schema) (terms : List Term) (loaded : IsLoaded s) (view : Known) (n : TermId) where
  -- the verdict on an And or an Or is had once its members are through
  pub sure_end :
      (decisive : Verdict) (es : List ExprId) (e : ExprId) → IsDecidedBy decisive es (entry s e) → (v : Verdict) (i : ℕ) → length es ≤ i →
      SoFar (IsSure s terms view n) decisive (take i es) v → IsSure s terms view n e v
  sure_end decisive es e is v i past h =
      sure_at s terms loaded view n e (entry s e) refl v
      (so_far_end (IsSure s terms view n) view terms n decisive es (entry s e) v is
      (subst (λ xs. SoFar (IsSure s terms view n) decisive xs v) (take_all i es past) h))

  -- or as soon as one of them decides
  pub sure_found :
      (decisive : Verdict) (es : List ExprId) (e : ExprId) → IsDecidedBy decisive es (entry s e) → (i : ℕ) (d : ExprId) → i < length es →
      IsSure s terms view n (get_or es i d) decisive → IsSure s terms view n e decisive
  sure_found decisive es e is i d within h =
      sure_at s terms loaded view n e (entry s e) refl decisive
      (found_decides (IsSure s terms view n) view terms n decisive es (entry s e) is (get_or es i d) (Contains-get_or es i d within) h)

  apart : (e : ExprId) → AreApart (IsSure s terms view n e)
  apart e = within_apart view terms n s (suc e.0) e

  -- what decides is known
  known : (decisive : Verdict) (es : List ExprId) (x : Option Expr) → IsDecidedBy decisive es x → decisive ≢ Unknown
  unfolding IsKnown
  known Yes es x is e = subst IsKnown e tt
  known No es x is e = subst IsKnown e tt
  known Unknown es x is e = is

  -- after one more member that is Unknown
  pub unknown_next :
      (decisive : Verdict) (es : List ExprId) (e : ExprId) → IsDecidedBy decisive es (entry s e) → (i : ℕ) (d : ExprId) → i < length es →
      (v : Verdict) → SoFar (IsSure s terms view n) decisive (take i es) v → IsSure s terms view n (get_or es i d) Unknown →
      SoFar (IsSure s terms view n) decisive (take (i + 1) es) Unknown
  unknown_next decisive es e is i d within v h found =
      subst (λ xs. SoFar (IsSure s terms view n) decisive xs Unknown) (sym (take_more es i d within))
      (so_far_unknown (IsSure s terms view n) apart decisive (known decisive es (entry s e) is) (take i es) v h (get_or es i d) found)

  -- after one more that neither is Unknown nor decides
  pub other_next :
      (decisive : Verdict) (es : List ExprId) (e : ExprId) → IsDecidedBy decisive es (entry s e) → (i : ℕ) (d : ExprId) → i < length es →
      (v : Verdict) → SoFar (IsSure s terms view n) decisive (take i es) v →
      (found : Verdict) → IsSure s terms view n (get_or es i d) found → found ≢ decisive → found ≢ Unknown →
      SoFar (IsSure s terms view n) decisive (take (i + 1) es) v
  other_next decisive es e is i d within v h found sure other ends =
      subst (λ xs. SoFar (IsSure s terms view n) decisive xs v) (sym (take_more es i d within))
      (so_far_opposite (IsSure s terms view n) apart decisive (known decisive es (entry s e) is) (take i es) v h (get_or es i d)
      (subst (λ w. IsSure s terms view n (get_or es i d) w) (third decisive found (known decisive es (entry s e) is) other ends) sure))

-- expressions of one number are equal
same_number : (e d : ExprId) → same_expr e d ≡ true → e ≡ d
same_number e d h = let is : e.0 ≡ d.0 = eqb-true e.0 d.0 h in λ i. record { 0 = is i }

-- one more verdict is kept
pub keeps_more :
    (holds : ExprId → Verdict → Type 0) (old new : ExprId → Option Verdict) (e : ExprId) (v : Verdict) →
    ((q : ExprId) → new q ≡ cond (same_expr e q) (Some v) (old q)) → AreKept holds old → holds e v → AreKept holds new
keeps_more holds old new e v updates kept h d w is = go (same_expr e d) refl (sym (updates d) ∙ is)
  where
    go : (b : Bool) → same_expr e d ≡ b → cond b (Some v) (old d) ≡ Some w → holds d w
    go true same there = subst (λ x. holds d x) (ap (λ o. unwrap_or o v) there) (subst (λ x. holds x v) (same_number e d same) h)
    go false other there = kept d w there

-- where the test of two verdicts says so, they are the same, and else they are not
pub same_verdicts : (v w : Verdict) → sameb the_type v w ≡ true → v ≡ w
same_verdicts = same_true the_type (search rules)

pub other_verdicts : (v w : Verdict) → sameb the_type v w ≡ false → v ≢ w
other_verdicts = same_false the_type

-- the entry that was read, or that there is none
pub entry_read : (s : Schema) (xs : List Expr) (e : ExprId) (x y : Expr) → xs ≡ s.exprs → true ≡ ltb e.0 (length xs) → x ≡ get_or xs e.0 x → x ≡ y → entry s e ≡ Some y
entry_read s xs e x y same within at is =
    ap (λ l. slice_get l e.0) (sym same) ∙ slice_get_read xs (length xs) e.0 x refl (ltb-true e.0 (length xs) (sym within)) at ∙ ap Some is

pub entry_missed : (s : Schema) (xs : List Expr) (e : ExprId) → xs ≡ s.exprs → false ≡ ltb e.0 (length xs) → entry s e ≡ None
entry_missed s xs e same past = ap (λ l. slice_get l e.0) (sym same) ∙ slice_get_past xs e.0 (ltb-false e.0 (length xs) (sym past))

-- the verdict of a call is the only one
pub no_other :
    {X : Type 0} (s : Schema) (terms : List Term) (view : Known) (n : TermId) (e : ExprId) (r : Result Verdict X) → IfOk r (IsSure s terms view n e) →
    IfOk r (λ v. (w : Verdict) → IsSure s terms view n e w → w ≡ v)
no_other s terms view n e (Ok v) h = λ w other. sure_once view terms n s e w v other h
no_other s terms view n e (Err x) h = tt
