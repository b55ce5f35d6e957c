-- What a survey finds.
use Rattle.std.proofs.Common.{◌≡◌, ℕ, List, sym, subst, ◌∙◌, inl, inr, Result, Ok, Err, IfErr}
use Rattle.schema_documents.specs.declared.label.Label.{Label}
use Rattle.schema_load.specs.declared.part.Part.{Part}
use Rattle.schema_load.specs.declared.part.Part.TheVariants as Parts
use Rattle.schema_load.specs.Names.{GivesLabel}
use Rattle.schema_load.specs.Parts.{IsAt}
use Rattle.schema_load.specs.Faults.{MeetsLimits}
use Rattle.schema_load.specs.Requirements.{HasOne, IsCircle, IsIncludeCircle, IsMissing, IsTwice, MeetsRequirements, NoneIs}
use Rattle.schema_load.specs.Steps.{AreFine, AreTargets, HasAll, IsSorted}
use Rattle.schema_load.proofs.Leads.{sorted_acyclic}
use Rattle.schema_load.proofs.One.{one_at}
use Rattle.rdf_terms.specs.declared.terms.Term.{Term}
use Rattle.schema_documents.specs.Tree.{Document}
use Rattle.schema_load.specs.declared.error.LoadError.{LoadError}
use Rattle.schema_load.specs.declared.error.LoadError.TheVariants.{Twice, Missing, Circle, IncludeCircle, Deep, Occurrences, Shapes, Full, Memory}
use Rattle.schema_load.specs.Reading.{parts_of}
use Rattle.schema_load.specs.Refusals.{Explain, Explains}
use Rattle.schema_load.proofs.Holders.{has_holder}
use Rattle.schema_load.proofs.Whole.{are_whole, hold_triples, no_cycle}

pub circle_label : (parts : List Part) (p : ℕ) (x : Part) (l : Label) → IsAt parts p x → GivesLabel x l → HasOne (IsCircle parts) p → IsCircle parts p l
circle_label parts p x l at (inl e) (m, (here, round)) = (subst (λ z. IsAt parts p z) e at, round)
circle_label parts p x l at (inr (u, e, f)) (m, (here, round)) =
    let both : Parts.Triple u ≡ Parts.Declares m = sym e ∙ one_at parts p x (Parts.Declares m) at here in
    absurd (let bad : ⊥ = cc in bad)

pub include_label : (parts : List Part) (p : ℕ) (x : Part) (l : Label) → IsAt parts p x → GivesLabel x l → HasOne (IsIncludeCircle parts) p → IsIncludeCircle parts p l
include_label parts p x l at (inl e) (m, ((u, here, f), round)) =
    let both : Parts.Declares l ≡ Parts.Triple u = sym e ∙ one_at parts p x (Parts.Triple u) at here in
    absurd (let bad : ⊥ = cc in bad)
include_label parts p x l at (inr (u, e, f)) (m, (named, round)) = ((u, subst (λ z. IsAt parts p z) e at, f), round)

module _ (parts : List Part) (targets order : List ℕ) (are : AreTargets parts targets) (once : NoneIs (HasOne (IsTwice parts))) (sorted : IsSorted parts targets order) (all : HasAll parts order) where
  pub no_circles : NoneIs (HasOne (IsCircle parts))
  no_circles p (l, (at, round)) = sorted_acyclic parts targets are once order sorted all _ round

  pub no_include_circles : NoneIs (HasOne (IsIncludeCircle parts))
  no_include_circles p (l, (named, round)) = sorted_acyclic parts targets are once order sorted all p round

  pub all_met : NoneIs (HasOne (IsMissing parts)) → MeetsLimits parts → MeetsRequirements parts
  all_met there limits = record {
    labels_once = once;
    targets_there = there;
    no_circle = no_circles;
    no_include_circle = no_include_circles;
    not_deep = limits.not_deep;
    not_crowded = limits.not_crowded;
    few_shapes = limits.few_shapes;
  }

-- the parts of documents are fine
pub fine_of : (docs : List Document) → AreFine (parts_of docs)
fine_of docs = record { whole = are_whole docs; triples = hold_triples docs; held = has_holder docs; acyclic = no_cycle docs }

pub fine_parts : (docs : List Document) (parts : List Part) → parts ≡ parts_of docs → AreFine parts
fine_parts docs parts e = subst AreFine (sym e) (fine_of docs)

pub explained : (docs : List Document) (parts : List Part) (terms : List Term) (e : LoadError) → parts ≡ parts_of docs → Explain parts terms e → Explains docs terms e
explained docs parts terms e same is = go e (subst (λ ps. Explain ps terms e) same is)
  where
    go : (e : LoadError) → Explain (parts_of docs) terms e → Explains docs terms e
    go Memory h = h
    go (Twice l) h = h
    go (Missing l) h = h
    go (Circle l) h = h
    go (IncludeCircle l) h = h
    go (Deep t) h = h
    go (Occurrences t) h = h
    go Shapes h = h
    go Full h = h

pub explained_any : {X : Type 0} (docs : List Document) (parts : List Part) (terms : List Term) (r : Result X LoadError) → parts ≡ parts_of docs →
    IfErr r (Explain parts terms) → IfErr r (Explains docs terms)
explained_any docs parts terms (Ok x) same is = tt
explained_any docs parts terms (Err e) same is = explained docs parts terms e same is
