-- Pairs that went, and the states of those moments.
use Rattle.std.proofs.Common.{◌≡◌, ◌∙◌, ℕ, zero, suc, List, [], ◌∷◌, ◌++◌, sym, ap, subst, take, length}
use Rattle.std.proofs.lemmas.List.{length-map}
use Rattle.std.specs.Prelude.{Some, None, slice_get}
use Rattle.schema_tree.specs.declared.schema.Pair.{Pair}
use Rattle.schema_tree.specs.declared.verdicts.State.{State}
use Rattle.schema_tree.specs.declared.verdicts.Verdict.{Verdict}
use Rattle.schema_tree.specs.Entries.{shape_at}
use Rattle.schema_tree.specs.Sure.{Known}
use Rattle.typing_refiner.specs.Findings.{IsFinding}
use Rattle.typing_refiner.specs.declared.removal.Finding.{Finding}
use Rattle.typing_refiner.specs.declared.removal.Finding.TheVariants.{Goes}
use Rattle.typing_refiner.specs.declared.ground.Ground.{Ground}
use Rattle.typing_refiner.specs.declared.removal.Removed.{Removed}
use Rattle.typing_refiner.specs.Ready.{IsRemoving, known_of}
use Rattle.typing_refiner.specs.declared.wanted.Wanted.TheVariants as Wanteds
use Rattle.typing_refiner.specs.Records.{AreStatesFor, HasStates, HaveStates, known_without, pairs_gone}
use Rattle.typing_refiner.proofs.SameStates.{states_same}

push_gone : (P : List Pair → Removed → Type 0) (old : List Removed) (x : Removed) → ((r : ℕ) (y : Removed) → slice_get old r ≡ Some y → P (take r (pairs_gone old)) y) →
    P (pairs_gone old) x → (r : ℕ) (y : Removed) → slice_get (old ++ x ∷ []) r ≡ Some y → P (take r (pairs_gone (old ++ x ∷ []))) y
push_gone P [] x all one zero y at = let e : x ≡ y = (let f : Some x ≡ Some y = at in cc) in subst (P []) e one
push_gone P [] x all one (suc r) y at = absurd (let f : None ≡ Some y = at in cc)
push_gone P (o ∷ os) x all one zero y at = all 0 y at
push_gone P (o ∷ os) x all one (suc r) y at = push_gone (λ ps z. P (o.pair ∷ ps) z) os x (λ j z a. all (suc j) z a) one r y at

-- the pair that goes has the states of this moment
pub one_more_gone :
    (h : Ground) (elsewhere lower : Known) (k : ℕ) (marks : List Verdict) (gone new : List Removed) (Todo : ℕ → Type 0) (x : Removed) (f : Finding) →
    IsRemoving h elsewhere lower k marks (pairs_gone gone) Todo → HaveStates h lower gone → (at : ℕ) → x.at ≡ at →
    ((p : Pair) → slice_get h.table.now at ≡ Some p → IsFinding h (known_of h elsewhere marks) p f) →
    slice_get h.table.now at ≡ Some x.pair → (states : List State) → f ≡ Goes states → ((h.wanted ≡ Wanteds.Records) → x.states ≡ states) → x.rank ≡
    suc (length gone) → new ≡ gone ++ x ∷ [] → HaveStates h lower new
one_more_gone h elsewhere lower k marks gone new Todo x f removing all at there found here states goes held rank is =
    subst (HaveStates h lower) (sym is) (push_gone (λ ps y. HasStates h lower ps y) gone x all (
      rank ∙ ap suc (sym (length-map gone (λ y. y.pair))),
      subst (λ i. slice_get h.table.now i ≡ Some x.pair) (sym there) here,
      (λ wanted. subst (λ z. AreStatesFor h.schema.now h.terms.now h.graph.now.triples (known_without lower (pairs_gone gone)) x.pair.node (shape_at h.schema.now x.pair.shape) z) (sym (held wanted)) (states_same h.schema.now h.terms.now h.graph.now.triples (known_of h elsewhere marks) (known_without lower (pairs_gone gone)) x.pair states removing.knows
          ((subst (IsFinding h (known_of h elsewhere marks) x.pair) goes (found x.pair here)).1 wanted))),
    ))

-- none went yet
pub none_gone : (h : Ground) (lower : Known) → HaveStates h lower []
none_gone h lower r x at = absurd (let f : None ≡ Some x = at in cc)
