-- What is asked through enough entries does not depend on how many more there are: Sat and IsSure at an entry are its own layer.
use Rattle.std.proofs.Common.{◌≡◌, ℕ, zero, suc, ◌<◌, List, refl, arith}
use Rattle.std.specs.Prelude.{◌↔◌, Option, Some, None}
use Rattle.rdf_terms.specs.declared.terms.TermId.{TermId}
use Rattle.rdf_terms.specs.declared.terms.Term.{Term}
use Rattle.schema_tree.specs.declared.schema.Schema.{Schema}
use Rattle.schema_tree.specs.declared.schema.ExprId.{ExprId}
use Rattle.schema_tree.specs.declared.schema.Expr.{Expr}
use Rattle.schema_tree.specs.declared.schema.Expr.TheVariants as Exprs
use Rattle.schema_tree.specs.declared.verdicts.Verdict.{Verdict}
use Rattle.schema_tree.specs.declared.verdicts.Verdict.TheVariants.{Yes, No, Unknown}
use Rattle.schema_tree.specs.declared.schema.Pair.{Pair}
use Rattle.schema_tree.specs.Entries.{entry, pair_of}
use Rattle.schema_tree.specs.Satisfies.{Sat, SatWithin, SatEntry}
use Rattle.schema_tree.specs.Sure.{Known, PairIs, SureWithin, SureEntry, IsSure}
use Rattle.schema_tree.specs.Loaded.{IsLoaded, RefersBelow}
use Rattle.lists.proofs.Exactly.{not_same, two_same}
use Rattle.lists.proofs.Quantifiers.{all_weaker, some_weaker, all_same, some_same}

pub entry_same :
    (s : Schema) (terms : List Term) (T : List Pair) (n : TermId) (i : ℕ) (a b : ExprId → Type 0) → ((d : ExprId) → d.0 < i → a d ↔ b d) →
    (x : Option Expr) → ((y : Expr) → x ≡ Some y → RefersBelow s i y) → SatEntry T terms n a x ↔ SatEntry T terms n b x
entry_same s terms T n i a b same None ok = ((λ h. h), λ h. h)
entry_same s terms T n i a b same (Some (Exprs.And es)) ok =
    (all_weaker a b es (λ d c. (same d (ok (Exprs.And es) refl d c)).0), all_weaker b a es (λ d c. (same d (ok (Exprs.And es) refl d c)).1))
entry_same s terms T n i a b same (Some (Exprs.Or es)) ok =
    (some_weaker a b es (λ d c. (same d (ok (Exprs.Or es) refl d c)).0), some_weaker b a es (λ d c. (same d (ok (Exprs.Or es) refl d c)).1))
entry_same s terms T n i a b same (Some (Exprs.Not d)) ok =
    ((λ h m. h ((same d (ok (Exprs.Not d) refl)).1 m)), λ h m. h ((same d (ok (Exprs.Not d) refl)).0 m))
entry_same s terms T n i a b same (Some (Exprs.Node c)) ok = ((λ h. h), λ h. h)
entry_same s terms T n i a b same (Some (Exprs.Shape j)) ok = ((λ h. h), λ h. h)

module _ (s : Schema) (terms : List Term) (loaded : IsLoaded s) where
  -- any two numbers of entries above e ask the same
  pub sat_fuel :
      (T : List Pair) (n : TermId) (k m : ℕ) (e : ExprId) → e.0 < k → e.0 < m → SatWithin k s terms T n e ↔ SatWithin m s terms T n e
  unfolding SatWithin
  sat_fuel T n zero m e h l = absurd (omega arith)
  sat_fuel T n (suc k) zero e h l = absurd (omega arith)
  sat_fuel T n (suc k) (suc m) e h l =
      entry_same s terms T n e.0 (SatWithin k s terms T n) (SatWithin m s terms T n) (λ d lt. sat_fuel T n k m d (omega arith) (omega arith)) (entry s e) (λ y is. loaded.refers e y is)

  -- what a node satisfies is what the entry asks of its members
  pub sat_layer : (T : List Pair) (n : TermId) (e : ExprId) → Sat s terms T n e ↔ SatEntry T terms n (Sat s terms T n) (entry s e)
  unfolding SatWithin
  sat_layer T n e =
      entry_same s terms T n e.0 (SatWithin e.0 s terms T n) (Sat s terms T n) (λ d lt. sat_fuel T n e.0 (suc d.0) d lt (omega arith)) (entry s e) (λ y is. loaded.refers e y is)

-- an entry has one verdict under two views that answer alike
pub sure_entry_same :
    (s : Schema) (terms : List Term) (view view' : Known) → ((p : Pair) (v : Verdict) → PairIs view p v ↔ PairIs view' p v) →
    (n : TermId) (i : ℕ) (a b : ExprId → Verdict → Type 0) → ((d : ExprId) → d.0 < i → (v : Verdict) → a d v ↔ b d v) →
    (x : Option Expr) → ((y : Expr) → x ≡ Some y → RefersBelow s i y) → (v : Verdict) → SureEntry view terms n a x v ↔ SureEntry view' terms n b x v
sure_entry_same s terms view view' pairs n i a b same None ok v = ((λ h. h), λ h. h)
sure_entry_same s terms view view' pairs n i a b same (Some (Exprs.And es)) ok Yes =
    all_same (λ e. a e Yes) (λ e. b e Yes) es (λ d c. same d (ok (Exprs.And es) refl d c) Yes)
sure_entry_same s terms view view' pairs n i a b same (Some (Exprs.And es)) ok No =
    some_same (λ e. a e No) (λ e. b e No) es (λ d c. same d (ok (Exprs.And es) refl d c) No)
sure_entry_same s terms view view' pairs n i a b same (Some (Exprs.And es)) ok Unknown =
    two_same (not_same (some_same (λ e. a e No) (λ e. b e No) es (λ d c. same d (ok (Exprs.And es) refl d c) No)))
    (some_same (λ e. a e Unknown) (λ e. b e Unknown) es (λ d c. same d (ok (Exprs.And es) refl d c) Unknown))
sure_entry_same s terms view view' pairs n i a b same (Some (Exprs.Or es)) ok Yes =
    some_same (λ e. a e Yes) (λ e. b e Yes) es (λ d c. same d (ok (Exprs.Or es) refl d c) Yes)
sure_entry_same s terms view view' pairs n i a b same (Some (Exprs.Or es)) ok No =
    all_same (λ e. a e No) (λ e. b e No) es (λ d c. same d (ok (Exprs.Or es) refl d c) No)
sure_entry_same s terms view view' pairs n i a b same (Some (Exprs.Or es)) ok Unknown =
    two_same (not_same (some_same (λ e. a e Yes) (λ e. b e Yes) es (λ d c. same d (ok (Exprs.Or es) refl d c) Yes)))
    (some_same (λ e. a e Unknown) (λ e. b e Unknown) es (λ d c. same d (ok (Exprs.Or es) refl d c) Unknown))
sure_entry_same s terms view view' pairs n i a b same (Some (Exprs.Not d)) ok Yes = same d (ok (Exprs.Not d) refl) No
sure_entry_same s terms view view' pairs n i a b same (Some (Exprs.Not d)) ok No = same d (ok (Exprs.Not d) refl) Yes
sure_entry_same s terms view view' pairs n i a b same (Some (Exprs.Not d)) ok Unknown = same d (ok (Exprs.Not d) refl) Unknown
sure_entry_same s terms view view' pairs n i a b same (Some (Exprs.Node c)) ok Yes = ((λ h. h), λ h. h)
sure_entry_same s terms view view' pairs n i a b same (Some (Exprs.Node c)) ok No = ((λ h. h), λ h. h)
sure_entry_same s terms view view' pairs n i a b same (Some (Exprs.Node c)) ok Unknown = ((λ h. h), λ h. h)
sure_entry_same s terms view view' pairs n i a b same (Some (Exprs.Shape j)) ok v = pairs (pair_of n j) v

module _ (s : Schema) (terms : List Term) (loaded : IsLoaded s) where
  -- any two numbers of entries above e, and any two views that answer alike, give the same verdict
  pub sure_alike :
      (view view' : Known) → ((p : Pair) (v : Verdict) → PairIs view p v ↔ PairIs view' p v) →
      (n : TermId) (k m : ℕ) (e : ExprId) → e.0 < k → e.0 < m → (v : Verdict) →
      SureWithin k s terms view n e v ↔ SureWithin m s terms view' n e v
  unfolding SureWithin
  sure_alike view view' pairs n zero m e h l v = absurd (omega arith)
  sure_alike view view' pairs n (suc k) zero e h l v = absurd (omega arith)
  sure_alike view view' pairs n (suc k) (suc m) e h l v =
      sure_entry_same s terms view view' pairs n e.0 (SureWithin k s terms view n) (SureWithin m s terms view' n)
      (λ d lt w. sure_alike view view' pairs n k m d (omega arith) (omega arith) w) (entry s e) (λ y is. loaded.refers e y is) v

  -- a view answers as itself
  itself : (view : Known) (p : Pair) (v : Verdict) → PairIs view p v ↔ PairIs view p v
  itself view p v = ((λ h. h), λ h. h)

  pub sure_fuel :
      (view : Known) (n : TermId) (k m : ℕ) (e : ExprId) → e.0 < k → e.0 < m → (v : Verdict) →
      SureWithin k s terms view n e v ↔ SureWithin m s terms view n e v
  sure_fuel view = sure_alike view view (itself view)

  pub sure_layer :
      (view : Known) (n : TermId) (e : ExprId) (v : Verdict) →
      IsSure s terms view n e v ↔ SureEntry view terms n (IsSure s terms view n) (entry s e) v
  unfolding SureWithin
  sure_layer view n e v =
      sure_entry_same s terms view view (itself view) n e.0 (SureWithin e.0 s terms view n) (IsSure s terms view n)
      (λ d lt w. sure_fuel view n e.0 (suc d.0) d lt (omega arith) w) (entry s e) (λ y is. loaded.refers e y is) v
