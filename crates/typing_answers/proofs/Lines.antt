-- Node lines, places and claims that grow by one.
use Rattle.std.proofs.Common.{◌≡◌, ℕ, ◌<◌, ◌+◌, List, [], ◌∷◌, ◌++◌, length, take, get_or, sym, ◌∙◌, ap, subst, map}
use Rattle.std.specs.Prelude.{Some, slice_get}
use Rattle.std.specs.List.{AllByRecursion}
use Rattle.std.proofs.lemmas.List.{map-append, take_more}
use Rattle.lists.proofs.Quantifiers.{all_append}
use Rattle.rdf_terms.specs.declared.terms.TermId.{TermId}
use Rattle.proof_file.specs.Accepts.{AreNumbers}
use Rattle.rdf_terms.specs.declared.terms.Term.{Term}
use Rattle.rdf_terms.specs.Values.{IsValue}

-- one more line for one more number
pub numbers_more : (terms lines more : List Term) (nodes : List TermId) (i : ℕ) (d : TermId) (t : Term) → i < length nodes → slice_get terms (get_or nodes i d).0 ≡ Some t → more ≡ lines ++ t ∷ [] →
    AreNumbers terms lines (take i nodes) → AreNumbers terms more (take (i + 1) nodes)
numbers_more terms lines more nodes i d t inside at pushed so_far =
    ap (map (λ (n : TermId). slice_get terms n.0)) (take_more nodes i d inside)
    ∙ map-append (λ (n : TermId). slice_get terms n.0) (take i nodes) (get_or nodes i d ∷ [])
    ∙ (λ k. so_far k ++ at k ∷ [])
    ∙ sym (map-append (λ (x : Term). Some x) lines (t ∷ []))
    ∙ ap (map (λ (x : Term). Some x)) (sym pushed)

pub values_more : (lines more : List Term) (t : Term) → AllByRecursion IsValue lines → IsValue t → more ≡ lines ++ t ∷ [] → AllByRecursion IsValue more
values_more lines more t all one pushed = subst (AllByRecursion IsValue) (sym pushed) (all_append IsValue lines (t ∷ []) all (one, tt))
