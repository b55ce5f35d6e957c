-- The schema that is made of parts is the one that they stand for.
use Rattle.std.proofs.Common.{◌≡◌, ℕ, ◌≤◌, List, sym, ap, subst, arith, length, ◌∙◌, Some, None, Option, get_or}
use Rattle.std.specs.Prelude.{filter, slice_get, Contains}
use Rattle.std.specs.List.{AllZip}
use Rattle.rdf_terms.specs.declared.terms.Term.{Term}
use Rattle.schema_documents.specs.Tree.{Document}
use Rattle.schema_tree.specs.declared.schema.ExprId.{ExprId}
use Rattle.schema_tree.specs.declared.schema.Schema.{Schema}
use Rattle.schema_load.specs.declared.building.Numbering.{Numbering}
use Rattle.schema_load.specs.declared.building.Outline.{Outline}
use Rattle.schema_load.specs.declared.part.Part.{Part}
use Rattle.schema_load.specs.declared.survey.Survey.{Survey}
use Rattle.schema_load.specs.Building.{AreEntries, IsStartIn, number_in}
use Rattle.schema_load.specs.Faults.{MeetsLimits}
use Rattle.schema_load.specs.Parts.{IsAt, is_entry, is_shape, shape_places}
use Rattle.schema_load.specs.Reading.{parts_of}
use Rattle.schema_load.specs.Requirements.{HasOne, IsCrowded, IsDeep, IsMissing, IsTwice, NoneIs}
use Rattle.schema_load.specs.Stands.{IsEntryAt, IsShapeAt, Stands, entry_places}
use Rattle.schema_load.specs.Steps.{AreCounts, AreDepths, AreFine, AreTargets, HasAll, IsFirstFound, IsSorted}
use Rattle.schema_load.specs.Surveys.{IsNumbering, IsOutline, IsSurveyOf}
use Rattle.schema_load.proofs.Apart.{entry_there}
use Rattle.schema_load.proofs.Counted.{all_entries, from_place}
use Rattle.schema_load.proofs.Fulfilled.{all_met}
use Rattle.schema_load.proofs.Labelled.{start_is}
use Rattle.schema_load.proofs.Leads.{found_none}
use Rattle.schema_load.proofs.Loadable.{held_at, zip_long}
use Rattle.schema_load.proofs.Shaped.{can_unfold}

-- ---- the survey

pub limits_met : (parts : List Part) (deep crowded : Option ℕ) (shapes : ℕ) (counts : List ℕ) → deep ≡ None → crowded ≡ None →
    IsFirstFound (IsDeep parts) deep → IsFirstFound (IsCrowded parts) crowded → shapes ≡ length (filter is_shape parts) → shapes ≤ 4096 →
    AreCounts parts counts → MeetsLimits parts
limits_met parts deep crowded shapes counts none_deep none_crowded no_deep no_crowded number few counted = record {
  not_deep = found_none (IsDeep parts) deep none_deep no_deep;
  not_crowded = found_none (IsCrowded parts) crowded none_crowded no_crowded;
  few_shapes = omega arith;
  counted = λ p there. (let (n, has, capped) = counted.each p there in (n, has));
}

pub survey_met : (parts : List Part) (s : Survey) → AreTargets parts s.targets.items → NoneIs (HasOne (IsTwice parts)) → NoneIs (HasOne (IsMissing parts)) →
    AreFine parts → IsSorted parts s.targets.items s.order.items → HasAll parts s.order.items →
    MeetsLimits parts → AreDepths parts s.depths.items → IsSurveyOf parts s
survey_met parts s targets once there fine sorted all limits depths = record {
  meets = all_met parts s.targets.items s.order.items targets once sorted all there limits;
  whole = fine.whole;
  triples = fine.triples;
  targets = targets;
  sorted = sorted;
  all = all;
  depths = depths;
  can = can_unfold parts fine.triples limits.not_crowded limits.counted;
}

-- ---- the order of entries

pub entries_read : (parts : List Part) (read depths entries lent : List ℕ) → read ≡ depths → lent ≡ entries → entries ≡ entry_places parts read 256 → lent ≡ entry_places parts depths 256
entries_read parts read depths entries lent a b e = b ∙ (e ∙ ap (λ ds. entry_places parts ds 256) a)

-- an entry stands at each place of it
pub entries_are : (parts : List Part) (depths entries : List ℕ) → entries ≡ entry_places parts depths 256 → AreEntries parts entries
entries_are parts depths entries e i p at =
    let c = entry_there parts depths 256 p (subst (λ us. Contains us p) e (held_at entries i p at)) in
    let (k, x, is, here, entry) = from_place 0 parts p c in
    (x, subst (λ n. IsAt parts n x) (let q : k ≡ p = omega arith in q) here, entry)

pub entries_few : (parts : List Part) (depths entries : List ℕ) → entries ≡ entry_places parts depths 256 → AreDepths parts depths → NoneIs (IsDeep parts) →
    length (filter is_entry parts) ≤ 4294967295 → length entries ≤ 4294967295
entries_few parts depths entries e deep low few = let h = ap length e ∙ all_entries parts depths deep.each low in omega arith

-- ---- the schema

pub built : (docs : List Document) (terms : List Term) (survey : Survey) (n : Numbering) (o : Outline) (s : Schema) → IsSurveyOf (parts_of docs) survey →
    length (filter is_entry (parts_of docs)) ≤ 4294967295 →
    IsNumbering (parts_of docs) survey.depths.items n → IsOutline terms (parts_of docs) (number_in n.numbers.items) o →
    AllZip (IsEntryAt terms (parts_of docs) (number_in n.numbers.items)) n.entries.items s.exprs →
    s.shapes ≡ o.shapes.items → s.labels ≡ o.labels → s.start ≡ o.start → Stands docs terms s
built docs terms survey n o s is few numbering outline exprs shapes_are labels_are start_same = record {
  meets = is.meets;
  depths = survey.depths.items;
  deep = is.depths.each;
  number = number_in n.numbers.items;
  numbered = λ i p at. numbering.numbers i p (subst (λ us. slice_get us i ≡ Some p) (sym numbering.entries) at);
  exprs = subst (λ us. AllZip (IsEntryAt terms (parts_of docs) (number_in n.numbers.items)) us s.exprs) numbering.entries exprs;
  few = (let long = zip_long (IsEntryAt terms (parts_of docs) (number_in n.numbers.items)) n.entries.items s.exprs exprs in
      let low = entries_few (parts_of docs) survey.depths.items n.entries.items numbering.entries is.depths is.meets.not_deep few in
      omega arith);
  referred = λ p l at. (let (q, leads, same) = numbering.referred p l at in (q, leads, one_id (get_or n.numbers.items p 0) (get_or n.numbers.items q 0) same));
  shapes = subst (λ ss. AllZip (IsShapeAt terms (parts_of docs) (number_in n.numbers.items)) (shape_places (parts_of docs)) ss) (sym shapes_are) outline.shapes;
  labels = labels_are ∙ outline.labels;
  start = start_is docs (number_in n.numbers.items) s.start (subst (λ z. IsStartIn (parts_of docs) (number_in n.numbers.items) z) (sym start_same) outline.start);
}
  where
    one_id : (a b : ℕ) → a ≡ b → (let x : ExprId = record { 0 = a } in x) ≡ (let y : ExprId = record { 0 = b } in y)
    one_id a b e = ap (λ k. let z : ExprId = record { 0 = k } in z) e

-- documents stand for the schema that is built of parts which are theirs
pub built_of : (docs : List Document) (parts : List Part) (terms : List Term) (survey : Survey) (n : Numbering) (o : Outline) (s : Schema) →
    parts ≡ parts_of docs → IsSurveyOf parts survey → length (filter is_entry parts) ≤ 4294967295 →
    IsNumbering parts survey.depths.items n → IsOutline terms parts (number_in n.numbers.items) o → AllZip (IsEntryAt terms parts (number_in n.numbers.items)) n.entries.items s.exprs →
    s.shapes ≡ o.shapes.items → s.labels ≡ o.labels → s.start ≡ o.start → Stands docs terms s
built_of docs parts terms survey n o s e is few numbering outline exprs shapes_are labels_are start_same =
    built docs terms survey n o s (subst (λ ps. IsSurveyOf ps survey) e is) (subst (λ ps. length (filter is_entry ps) ≤ 4294967295) e few)
    (subst (λ ps. IsNumbering ps survey.depths.items n) e numbering)
    (subst (λ ps. IsOutline terms ps (number_in n.numbers.items) o) e outline)
    (subst (λ ps. AllZip (IsEntryAt terms ps (number_in n.numbers.items)) n.entries.items s.exprs) e exprs) shapes_are labels_are start_same
