-- What an edit leaves of what is kept.
use Rattle.std.proofs.Common.{◌≡◌, ◌∙◌, ℕ, inl, inr, List, [], ◌∷◌, ◌++◌, sym, subst, All, Bool, true, false, true≢false}
use Rattle.std.proofs.lemmas.List.Elements.{All-push, All-tail}
use Rattle.std.proofs.lemmas.List.Sorted.{All-permutation, IsPermutation-to_front}
use Rattle.std.specs.Bool.{OnTrue}
use Rattle.std.specs.List.Sorted.{IsPermutation}
use Rattle.std.specs.Prelude.{◌↔◌, Contains, IsTrue, Some, None}
use Rattle.graph_index.specs.Contents.{Contents, IsSealedWith}
use Rattle.graph_index.specs.Laws.{IsOfTable}
use Rattle.lists.specs.Additions.{Adds}
use Rattle.lists.specs.Distinct.{AreDistinct}
use Rattle.rdf_terms.specs.declared.terms.Term.{Term}
use Rattle.rdf_terms.specs.declared.terms.Triple.{Triple}
use Rattle.schema_tree.specs.declared.schema.Pair.{Pair}
use Rattle.schema_tree.specs.declared.schema.Schema.{Schema}
use Rattle.schema_tree.specs.declared.verdicts.Verdict.{Verdict}
use Rattle.schema_tree.specs.Loaded.{IsLoaded}
use Rattle.schema_tree.specs.Needs.{HoldNeeds, here, step}
use Rattle.typing_session.specs.Edits.{IsAtEnd, Loses, ReachesEnd}
use Rattle.typing_session.specs.Kept.{kept_on, pairs_of}
use Rattle.typing_session.specs.Laws.{IsEdit, VerdictsStay}
use Rattle.typing_session.specs.Sound.{AreSound, IsHeld}
use Rattle.typing_session.proofs.Edited.{closed_fewer, closed_more}
use Rattle.typing_session.proofs.Keeping.{Entries, kept_key, key_kept}

none_some : (v : Verdict) → ¬ (None ≡ Some v)
none_some v e = cc

module _ (s : Schema) (t : Triple) (old new : Entries) (touched : List Pair) (gone : (q : Pair) → Contains touched q → kept_on new q ≡ None)
    (others : (q : Pair) → (¬ Contains touched q) → kept_on new q ≡ kept_on old q) (g : List Triple) (are : (q : Pair) → Contains touched q ↔ (Contains (pairs_of old) q × ReachesEnd s g t q)) where
  still : (q : Pair) (v : Verdict) → kept_on new q ≡ Some v → (kept_on old q ≡ Some v) × (¬ ReachesEnd s g t q)
  still q v e =
      let stays : ¬ Contains touched q = (λ c. none_some v (sym (gone q c) ∙ e)) in
      let was : kept_on old q ≡ Some v = sym (others q stays) ∙ e in
      (was, (λ r. stays ((are q).1 (kept_key old q v was, r))))

  pub loses : Loses s g t (pairs_of old) (pairs_of new)
  loses q = (
    (λ c. let (v, e) = key_kept new q c in let (was, far) = still q v e in (kept_key old q v was, far)),
    (λ (key, far). let (v, e) = key_kept old q key in kept_key new q v (others q (λ c. far ((are q).0 c).1) ∙ e)),
  )

  pub far : (q : Pair) → Contains (pairs_of new) q → ¬ IsAtEnd t q
  far q c end = ((loses q).0 c).1 (q, here, end)

  pub closed : HoldNeeds s g (pairs_of old) → HoldNeeds s g (pairs_of new)
  closed h p q c need =
      let (key, away) = (loses p).0 c in
      (loses q).1 (h p q key need, (λ (r, leads, end). away (r, step q need leads, end)))

  -- and by the way in another graph, where each pair reaches an end exactly where it does in this
  pub loses_by : (h : List Triple) → ((p : Pair) → ReachesEnd s h t p ↔ ReachesEnd s g t p) → Loses s h t (pairs_of old) (pairs_of new)
  loses_by h each q = (
    (λ c. let (key, away) = (loses q).0 c in (key, (λ r. away ((each q).0 r)))),
    (λ (key, away). (loses q).1 (key, (λ r. away ((each q).1 r)))),
  )

module _ (s : Schema) (terms : List Term) (f : List ℕ) (budget : ℕ) (t : Triple) (old new : Entries) (touched : List Pair) (gone : (q : Pair) → Contains touched q → kept_on new q ≡ None)
    (others : (q : Pair) → (¬ Contains touched q) → kept_on new q ≡ kept_on old q) (g h : Contents) (are : (q : Pair) → Contains touched q ↔ (Contains (pairs_of old) q × ReachesEnd s g.triples t q))
    (stays : VerdictsStay) (loaded : IsLoaded s) (distinct : AreDistinct (pairs_of new)) (dg : AreDistinct g.triples) (dh : AreDistinct h.triples) (sound : AreSound s terms g f budget old) where
  pub sound_added : IsEdit h.triples t g.triples → AreSound s terms h f budget new
  sound_added edit = record {
    of_both = λ p c. sound.of_both p ((loses s t old new touched gone others g.triples are p).0 c).0;
    closed = closed_more s terms h.triples g.triples t f budget dh dg edit (pairs_of new) (far s t old new touched gone others g.triples are)
        (closed s t old new touched gone others g.triples are sound.closed);
    verdicts = λ p v e. (stays s terms h.triples g.triples t f budget loaded dh dg edit (pairs_of new) distinct (far s t old new touched gone others g.triples are) p (kept_key new p v e) v).1
        (closed s t old new touched gone others g.triples are sound.closed) (sound.verdicts p v (still s t old new touched gone others g.triples are p v e).0);
  }

  pub sound_removed : IsEdit g.triples t h.triples → AreSound s terms h f budget new
  sound_removed edit = record {
    of_both = λ p c. sound.of_both p ((loses s t old new touched gone others g.triples are p).0 c).0;
    closed = closed_fewer s terms g.triples h.triples t f budget dg dh edit (pairs_of new) (far s t old new touched gone others g.triples are)
        (closed s t old new touched gone others g.triples are sound.closed);
    verdicts = λ p v e. (stays s terms g.triples h.triples t f budget loaded dg dh edit (pairs_of new) distinct (far s t old new touched gone others g.triples are) p (kept_key new p v e) v).0
        (closed s t old new touched gone others g.triples are sound.closed) (sound.verdicts p v (still s t old new touched gone others g.triples are p v e).0);
  }

-- a triple that is new goes last
pub added_last : (old new : List Triple) (t : Triple) → ¬ Contains old t → Adds old t new → new ≡ old ++ t ∷ []
added_last old new t missing (inl (held, same)) = absurd (missing held)
added_last old new t missing (inr (none, more)) = more

-- a triple that is held is taken out
pub taken_out : (answer : Bool) (old new : List Triple) (t : Triple) → Contains old t → IsTrue answer ↔ Contains old t → OnTrue answer (IsPermutation old (t ∷ new)) → IsPermutation old (t ∷ new)
taken_out true old new t held told edit = edit
taken_out false old new t held told edit = absurd (true≢false (sym (told.1 held)))

-- a triple that goes last
pub last_edit : (old new : List Triple) (t : Triple) → new ≡ old ++ t ∷ [] → IsEdit new t old
last_edit old new t is = subst (λ xs. IsPermutation xs (t ∷ old)) (sym is) (IsPermutation-to_front old t)

pub held_added : (terms : List Term) (old new : Contents) (t : Triple) → IsHeld terms old → IsOfTable terms t → IsSealedWith terms new → new.triples ≡ old.triples ++ t ∷ [] → IsHeld terms new
held_added terms old new t held of sealed is = record { sealed = sealed; ends = subst (λ ts. All (IsOfTable terms) ts) (sym is) (All-push (IsOfTable terms) old.triples t held.ends of) }

pub held_removed : (terms : List Term) (old new : Contents) (t : Triple) → IsHeld terms old → IsSealedWith terms new → IsPermutation old.triples (t ∷ new.triples) → IsHeld terms new
held_removed terms old new t held sealed edit =
    record { sealed = sealed; ends = All-tail (IsOfTable terms) t new.triples (All-permutation (IsOfTable terms) old.triples (t ∷ new.triples) edit held.ends) }
