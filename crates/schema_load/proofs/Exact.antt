-- Which answers documents can have.
use Rattle.std.proofs.Common.{◌≡◌, ◌<◌, ◌≤◌, List, length, refl, ap, arith, Result, Ok, Err, IfOk, OnOk, IfErr, inl, inr, ◌⊎◌}
use Rattle.rdf_terms.specs.Tables.{max_terms}
use Rattle.lists.specs.Additions.{AddsAll}
use Rattle.schema_load.specs.Parts.{AreOrdered, predicates_of}
use Rattle.schema_tree.specs.Loaded.{IsLoaded}
use Rattle.schema_load.proofs.Counted.{not_too_full}
use Rattle.schema_load.proofs.Loadable.{is_loaded}
use Rattle.rdf_terms.specs.declared.terms.Term.{Term}
use Rattle.schema_documents.specs.Tree.{Document}
use Rattle.schema_tree.specs.declared.schema.Schema.{Schema}
use Rattle.schema_load.specs.declared.error.LoadError.{LoadError}
use Rattle.schema_load.specs.declared.error.LoadError.TheVariants.{Twice, Missing, Circle, IncludeCircle, Deep, Occurrences, Shapes, Full, Memory}
use Rattle.schema_load.specs.Reading.{parts_of}
use Rattle.schema_load.specs.Refusals.{Explains, IsRefused}
use Rattle.schema_load.specs.Stands.{Stands}
use Rattle.schema_load.proofs.Refused.{meets, one_refusal, step, unclean}

-- the cause of an error is want of memory, or it is the one
pub one_cause : (docs : List Document) (terms : List Term) (d e : LoadError) → Explains docs terms d → IsRefused docs terms e → (d ≡ e) ⊎ (d ≡ Memory)
one_cause docs terms Memory e is refused = inr refl
one_cause docs terms (Twice l) e is refused = inl (one_refusal docs terms (Twice l) e is refused)
one_cause docs terms (Missing l) e is refused = inl (one_refusal docs terms (Missing l) e is refused)
one_cause docs terms (Circle l) e is refused = inl (one_refusal docs terms (Circle l) e is refused)
one_cause docs terms (IncludeCircle l) e is refused = inl (one_refusal docs terms (IncludeCircle l) e is refused)
one_cause docs terms (Deep t) e is refused = inl (one_refusal docs terms (Deep t) e is refused)
one_cause docs terms (Occurrences t) e is refused = inl (one_refusal docs terms (Occurrences t) e is refused)
one_cause docs terms Shapes e is refused = inl (one_refusal docs terms Shapes e is refused)
one_cause docs terms Full e is refused = inl (one_refusal docs terms Full e is refused)

-- documents that stand for a schema break no requirement
pub stands_unrefused : (docs : List Document) (terms old : List Term) (s : Schema) (e : LoadError) → Stands docs terms s → IsRefused docs old e → step e < 7 → ⊥
stands_unrefused docs terms old s e stands (before, breaks) lt = unclean (parts_of docs) old e breaks lt (meets (parts_of docs) old Full (omega arith) stands.meets (step e) (omega arith) lt)

pub exactly_err : (docs : List Document) (terms : List Term) (d e : LoadError) → Explains docs terms d → IsRefused docs terms e →
    (◌≡◌ {A = Result Schema LoadError} (Err d) (Err e)) ⊎ (◌≡◌ {A = Result Schema LoadError} (Err d) (Err Memory))
exactly_err docs terms d e is refused = elim (one_cause docs terms d e is refused) [
  | inl same ↦ inl (ap Err same)
  | inr wants ↦ inr (ap Err wants)
]

-- documents that stand for a schema are not refused
pub unrefused : (docs : List Document) (old terms : List Term) (s : Schema) (e : LoadError) → Stands docs terms s →
    AddsAll old (predicates_of (parts_of docs)) terms → length terms ≤ max_terms → IsRefused docs old e → ⊥
unrefused docs old terms s (Twice l) x added fits refused = stands_unrefused docs terms old s (Twice l) x refused (omega arith)
unrefused docs old terms s (Missing l) x added fits refused = stands_unrefused docs terms old s (Missing l) x refused (omega arith)
unrefused docs old terms s (Circle l) x added fits refused = stands_unrefused docs terms old s (Circle l) x refused (omega arith)
unrefused docs old terms s (IncludeCircle l) x added fits refused = stands_unrefused docs terms old s (IncludeCircle l) x refused (omega arith)
unrefused docs old terms s (Deep t) x added fits refused = stands_unrefused docs terms old s (Deep t) x refused (omega arith)
unrefused docs old terms s (Occurrences t) x added fits refused = stands_unrefused docs terms old s (Occurrences t) x refused (omega arith)
unrefused docs old terms s Shapes x added fits refused = stands_unrefused docs terms old s Shapes x refused (omega arith)
unrefused docs old terms s Full x added fits (before, full) = not_too_full docs old terms s x added fits full
unrefused docs old terms s Memory x added fits (before, bad) = bad

-- what stands for documents is loaded, for any answer
pub loaded_any : (docs : List Document) (terms : List Term) (r : Result Schema LoadError) → AreOrdered (parts_of docs) → IfOk r (Stands docs terms) → IfOk r IsLoaded
loaded_any docs terms (Ok s) ordered stands = is_loaded docs terms s ordered stands
loaded_any docs terms (Err d) ordered stands = tt

-- the whole of the clause `exactly`, for any answer
pub exactly_any : (docs : List Document) (old terms : List Term) (r : Result Schema LoadError) (e : LoadError) → IfOk r (Stands docs terms) →
    OnOk r (AddsAll old (predicates_of (parts_of docs)) terms) → OnOk r (length terms ≤ max_terms) →
    IfErr r (Explains docs old) → IsRefused docs old e → (r ≡ Err e) ⊎ (r ≡ Err Memory)
exactly_any docs old terms (Ok s) e stands added fits causes refused = absurd (unrefused docs old terms s e stands added fits refused)
exactly_any docs old terms (Err d) e stands added fits causes refused = exactly_err docs old d e causes refused
