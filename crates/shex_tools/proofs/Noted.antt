-- What is noted beside an explanation.
use Rattle.std.proofs.Common.{◌≡◌, ◌∙◌, Bool, List, [], ◌∷◌, ◌++◌, ap, false, refl, sym, true, ℕ}
use Rattle.std.specs.Prelude.{OnOk, Result, Ok, Err, if◌then◌else◌}
use Rattle.explanation_texts.specs.Naming.{AreNames}
use Rattle.explanation_texts.specs.declared.names.Names.{Names}
use Rattle.idle_selectors.specs.Idle.{AreIdleLines}
use Rattle.idle_selectors.specs.Texts.{idle_text}
use Rattle.rdf_terms.specs.declared.terms.Term.{Term}
use Rattle.rdf_terms.specs.declared.terms.Triple.{Triple}
use Rattle.schema_tree.specs.declared.schema.Schema.{Schema}
use Rattle.shape_map.specs.declared.items.Item.{Item}
use Rattle.tool_words.specs.Asked.{Explaining}
use Rattle.typing_refiner.specs.declared.building.WidePair.{WidePair}
use Rattle.wide_pairs.specs.Lines.{wide_lines}
use Rattle.shex_tools.specs.Notes.{AreIdleNotes, AreNotes, named_by, named_lines}

-- the lines for idle selectors are noted
pub idle_noted : {A E : Type 0} (terms : List Term) (g : List Triple) (items : List Item) (limit : ℕ) (old new : List ℕ) (r : Result A E) →
    OnOk r ((lines : List (List ℕ)) × AreIdleLines terms g items lines × (new ≡ old ++ idle_text limit lines)) → OnOk r ((idle : List ℕ) × AreIdleNotes terms g items limit idle × (new ≡ old ++ idle))
idle_noted terms g items limit old new (Ok x) (lines, are, is) = (idle_text limit lines, record { lines = lines; are_idle = are; notes_are = refl }, is)
idle_noted terms g items limit old new (Err e) h = tt

-- behind the lines for wide pairs
pub are_notes : (s : Schema) (terms : List Term) (g : List Triple) (items : List Item) (e : Explaining) (undecided : Bool) (wide : List WidePair) (names : Names) → AreNames s terms names →
    (front idle notes : List ℕ) → front ≡ named_by names terms e.budget undecided wide → AreIdleNotes terms g items e.limit idle → notes ≡ front ++ idle →
    AreNotes s terms g items e undecided wide notes
are_notes s terms g items e undecided wide names are front idle notes is idle_are noted = record {
  names = names;
  are_names = are;
  idle = idle;
  idle_are = idle_are;
  notes_are = noted ∙ ap (λ z. z ++ idle) is;
}

-- where there are no lines for wide pairs by their names, there are none by their numbers
none_named : (names : Names) (terms : List Term) (budget : ℕ) (wide : List WidePair) → named_lines names terms budget wide ≡ [] → wide_lines terms budget wide ≡ []
none_named names terms budget [] e = refl
none_named names terms budget (w ∷ ws) e = absurd cc

front_none : (xs ys : List ℕ) → xs ++ ys ≡ [] → xs ≡ []
front_none [] ys e = refl
front_none (x ∷ xs) ys e = absurd cc

named_due : (names : Names) (terms : List Term) (budget : ℕ) (undecided : Bool) (wide : List WidePair) → undecided ≡ true →
    named_by names terms budget undecided wide ≡ named_lines names terms budget wide
unfolding named_by
named_due names terms budget undecided wide is = ap (λ b. if b then named_lines names terms budget wide else []) is

-- where something is Unknown and nothing is noted, there is no line for a wide pair
pub none_wide : (s : Schema) (terms : List Term) (g : List Triple) (items : List Item) (e : Explaining) (undecided : Bool) (wide : List WidePair) (notes : List ℕ) →
    AreNotes s terms g items e undecided wide notes → undecided ≡ true → notes ≡ [] → wide_lines terms e.budget wide ≡ []
none_wide s terms g items e undecided wide notes a some none =
    none_named a.names terms e.budget wide (sym (named_due a.names terms e.budget undecided wide some) ∙ front_none (named_by a.names terms e.budget undecided wide) a.idle (sym a.notes_are ∙ none))

unnamed : (names : Names) (terms : List Term) (budget : ℕ) (undecided : Bool) (wide : List WidePair) → undecided ≡ false → named_by names terms budget undecided wide ≡ []
unfolding named_by
unnamed names terms budget undecided wide is = ap (λ b. if b then named_lines names terms budget wide else []) is

-- where nothing is Unknown, the lines for idle selectors alone are noted
pub idle_alone : (s : Schema) (terms : List Term) (g : List Triple) (items : List Item) (e : Explaining) (undecided : Bool) (wide : List WidePair) (notes : List ℕ) →
    AreNotes s terms g items e undecided wide notes → undecided ≡ false → AreIdleNotes terms g items e.limit notes
idle_alone s terms g items e undecided wide notes a none = record {
  lines = a.idle_are.lines;
  are_idle = a.idle_are.are_idle;
  notes_are = a.notes_are ∙ ap (λ z. z ++ a.idle) (unnamed a.names terms e.budget undecided wide none) ∙ a.idle_are.notes_are;
}
