-- A target has one expression.
use Rattle.std.proofs.Common.{◌≡◌, ℕ, zero, suc, ◌<◌, List, [], ◌∷◌, sym, ◌∙◌, ap, subst, arith, length, get_or}
use Rattle.std.proofs.lemmas.Option.{same_Some}
use Rattle.std.specs.Prelude.{Contains, Some, slice_get}
use Rattle.lists.specs.Distinct.{AreDistinct}
use Rattle.schema_documents.specs.declared.label.Label.{Label}
use Rattle.schema_tree.specs.declared.schema.ExprId.{ExprId}
use Rattle.schema_tree.specs.declared.schema.Schema.{Schema}
use Rattle.schema_tree.specs.declared.schema.Target.{Target}
use Rattle.schema_tree.specs.declared.schema.Target.TheVariants as Targets
use Rattle.schema_tree.specs.Labels.{labels_of}
use Rattle.schema_tree.specs.Loaded.{IsTarget}

label_at : (ls : List (Label × ExprId)) (k : ℕ) (l : Label) (e : ExprId) → k < length ls → get_or ls k (l, e) ≡ (l, e) → slice_get (labels_of ls) k ≡ Some l
label_at [] k l e inside at = absurd (omega (arith, inside))
label_at (p ∷ ls) zero l e inside at = ap (λ (q : Label × ExprId). Some q.0) at
label_at (p ∷ ls) (suc k) l e inside at = label_at ls k l e (omega (arith, inside)) at

entry_one : (ls : List (Label × ExprId)) (k : ℕ) (l : Label) (d e : ExprId) → k < length ls → get_or ls k (l, d) ≡ (l, d) → get_or ls k (l, e) ≡ (l, e) → d ≡ e
entry_one [] k l d e inside at is = absurd (omega (arith, inside))
entry_one (p ∷ ls) zero l d e inside at is = ap (λ (q : Label × ExprId). q.1) (sym at ∙ is)
entry_one (p ∷ ls) (suc k) l d e inside at is = entry_one ls k l d e (omega (arith, inside)) at is

-- a label that is declared once has one expression
label_once : (ls : List (Label × ExprId)) → AreDistinct (labels_of ls) → (l : Label) (d e : ExprId) → Contains ls (l, d) → Contains ls (l, e) → d ≡ e
label_once ls once l d e (i, a, at) (j, b, is) =
    let same : i ≡ j = once i j l (label_at ls i l d a at) (label_at ls j l e b is) in
    entry_one ls i l d e a at (subst (λ (k : ℕ). get_or ls k (l, e) ≡ (l, e)) (sym same) is)

-- where labels are declared once, a target has one expression
pub target_once : (s : Schema) → AreDistinct (labels_of s.labels) → (t : Target) (d e : ExprId) → IsTarget s t d → IsTarget s t e → d ≡ e
target_once s once Targets.Start d e h k = same_Some d e (sym h ∙ k)
target_once s once (Targets.Label l) d e h k = label_once s.labels once l d e h k
