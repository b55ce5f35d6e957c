-- `==` on labels decides equality of labels.
use Rattle.std.proofs.Common.{◌≡◌, Bool, true, false, ap, List, [], ◌∷◌, Contains, Option, Some, None, is_some, sym, ◌∙◌, true≢false, refl, cond, zero, suc, arith}
use Rattle.std.specs.Bool.{Decides}
use Rattle.std.proofs.lemmas.Map.Views.{Contains-from_lookup}
use Rattle.std.specs.Map.{lookup}
use Rattle.rdf_terms.specs.Sameness.{text_decides}
use Rattle.schema_tree.specs.Labels.{IsDeclared}
use Rattle.schema_documents.specs.declared.label.Label.{Label}
use Rattle.schema_documents.specs.declared.label.Label.TheVariants.{Iri, Blank}
use Rattle.schema_tree.specs.declared.schema.ExprId.{ExprId}
use Rattle.schema_documents.specs.contracts.label.LabelPartialEq.TheImpl.{ghosts}

abbrev pub same_label : Label → Label → Bool
same_label = ghosts.eq

pub label_decides : (a b : Label) → Decides (same_label a b) (a ≡ b)
label_decides (Iri a) (Iri b) = (λ h. ap (λ x. Iri x) ((text_decides a b).0 h), λ e. (text_decides a b).1 (cc))
label_decides (Iri a) (Blank b) = (λ h. cc, λ e. cc)
label_decides (Blank a) (Iri b) = (λ h. cc, λ e. cc)
label_decides (Blank a) (Blank b) = (λ h. ap (λ x. Blank x) ((text_decides a b).0 h), λ e. (text_decides a b).1 (cc))

pub declared_found : (l : Label) (e : ExprId) (ls : List (Label × ExprId)) → lookup (same_label l) ls ≡ Some e → Contains ls (l, e)
declared_found l e ls is = Contains-from_lookup (λ a b. (label_decides a b).0) l e ls is

pub missed_label : (l : Label) (ls : List (Label × ExprId)) → is_some (lookup (same_label l) ls) ≡ false → ¬ IsDeclared ls l
missed_label l [] is (e, held) = absurd (omega (arith, held.1))
missed_label l (d ∷ ls) is (e, (zero, within, at)) =
    let here : same_label l d.0 ≡ true = (label_decides l d.0).1 (sym (ap (λ x. x.0) at)) in
    true≢false (sym (ap (λ b. is_some (cond b (Some d.1) (lookup (same_label l) ls))) here) ∙ is)
missed_label l (d ∷ ls) is (e, (suc k, within, at)) = later (same_label l d.0) is (λ h. missed_label l ls h (e, (k, omega arith, at)))
  where
    later : (b : Bool) → is_some (cond b (Some d.1) (lookup (same_label l) ls)) ≡ false → (is_some (lookup (same_label l) ls) ≡ false → ⊥) → ⊥
    later true h deeper = true≢false h
    later false h deeper = deeper h

-- a label that a look-up finds is declared
pub declared_some : (l : Label) (ls : List (Label × ExprId)) → is_some (lookup (same_label l) ls) ≡ true → IsDeclared ls l
declared_some l ls is = go (lookup (same_label l) ls) refl is
  where
    go : (o : Option ExprId) → lookup (same_label l) ls ≡ o → is_some o ≡ true → IsDeclared ls l
    go None at h = absurd (true≢false (sym h))
    go (Some e) at h = (e, declared_found l e ls at)

pub none_from_test : {X : Type 0} (o : Option X) → is_some o ≡ false → o ≡ None
none_from_test None h = refl
none_from_test (Some x) h = absurd (true≢false h)
