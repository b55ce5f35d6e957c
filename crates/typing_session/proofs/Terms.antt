-- What a session keeps true where the table takes a term.
use Rattle.std.proofs.Common.{◌≡◌, ℕ, ◌<◌, List, ◌++◌, arith, sym, subst, inl, inr, ◌⊎◌, length, Result, Ok, Err}
use Rattle.std.proofs.lemmas.List.{length-append}
use Rattle.std.proofs.lemmas.List.Elements.{All-weaker}
use Rattle.std.specs.Prelude.{OnErr, OnOk}
use Rattle.graph_index.specs.Contents.{Contents}
use Rattle.graph_index.specs.Laws.{IsOfTable, SealingOutlivesGrowth}
use Rattle.lists.specs.Additions.{Adds}
use Rattle.lists.specs.Distinct.{AreDistinct}
use Rattle.lists.proofs.Additions.{adds_grows}
use Rattle.rdf_terms.specs.declared.terms.Term.{Term}
use Rattle.rdf_terms.specs.declared.terms.Triple.{Triple}
use Rattle.schema_tree.specs.declared.schema.Schema.{Schema}
use Rattle.schema_tree.specs.Loaded.{IsLoaded}
use Rattle.typing_session.specs.Kept.{pairs_of}
use Rattle.part_laws.specs.Growth.{VerdictsOutliveGrowth}
use Rattle.typing_session.specs.Sound.{AreSound, IsHeld}
use Rattle.typing_session.proofs.Keeping.{Entries, kept_key}

longer : (terms behind : List Term) (k : ℕ) → k < length terms → k < length (terms ++ behind)
longer terms behind k lt = let e = length-append terms behind in omega (arith, e, lt)

of_more : (terms behind : List Term) (t : Triple) → IsOfTable terms t → IsOfTable (terms ++ behind) t
of_more terms behind t h = record { subject = longer terms behind t.s.0 h.subject; predicate = longer terms behind t.p.0 h.predicate; object = longer terms behind t.o.0 h.object }

held_more : (terms behind : List Term) (g : Contents) → SealingOutlivesGrowth → IsHeld terms g → IsHeld (terms ++ behind) g
held_more terms behind g outlives held = record {
  sealed = outlives terms behind g held.ends held.sealed;
  ends = All-weaker (IsOfTable terms) (IsOfTable (terms ++ behind)) (of_more terms behind) g.triples held.ends;
}

sound_more : (s : Schema) (terms behind : List Term) (g : Contents) (f : List ℕ) (budget : ℕ) (es : Entries) → VerdictsOutliveGrowth → IsLoaded s → IsHeld terms g → AreDistinct (pairs_of es) →
    AreSound s terms g f budget es → AreSound s (terms ++ behind) g f budget es
sound_more s terms behind g f budget es law loaded held distinct sound = record {
  of_both = λ p c. (let o = sound.of_both p c in record { node = longer terms behind p.node.0 o.node; shape = o.shape });
  closed = sound.closed;
  verdicts = λ p v e. law s terms behind g f budget loaded held.sealed held.ends (pairs_of es) distinct sound.closed (λ q c. (sound.of_both q c).node) p (kept_key es p v e) v (sound.verdicts p v e);
}

-- what is held is so of the table to which a term was put
module _ (terms new : List Term) (t : Term) (adds : Adds terms t new) (g : Contents) (outlives : SealingOutlivesGrowth) (held : IsHeld terms g) where
  pub held_put : IsHeld new g
  held_put = let (behind, is) = adds_grows terms new t adds in subst (λ ts. IsHeld ts g) (sym is) (held_more terms behind g outlives held)

  pub sound_put : (s : Schema) (f : List ℕ) (budget : ℕ) (es : Entries) → VerdictsOutliveGrowth → IsLoaded s → AreDistinct (pairs_of es) → AreSound s terms g f budget es → AreSound s new g f budget es
  sound_put s f budget es law loaded distinct sound =
      let (behind, is) = adds_grows terms new t adds in
      subst (λ ts. AreSound s ts g f budget es) (sym is) (sound_more s terms behind g f budget es law loaded held distinct sound)

-- and where it was put or refused
module _ {X E : Type 0} (r : Result X E) (terms new : List Term) (t : Term) (added : OnOk r (Adds terms t new)) (same : OnErr r (new ≡ terms)) (g : Contents)
    (outlives : SealingOutlivesGrowth) (held : IsHeld terms g) where
  either_way : (Adds terms t new) ⊎ (new ≡ terms)
  either_way = by r added same
    where
      by : (q : Result X E) → OnOk q (Adds terms t new) → OnErr q (new ≡ terms) → (Adds terms t new) ⊎ (new ≡ terms)
      by (Ok x) a s = inl a
      by (Err e) a s = inr s

  pub held_either : IsHeld new g
  held_either = elim either_way [ inl a ↦ held_put terms new t a g outlives held | inr e ↦ subst (λ ts. IsHeld ts g) (sym e) held ]

  pub sound_either : (s : Schema) (f : List ℕ) (budget : ℕ) (es : Entries) → VerdictsOutliveGrowth → IsLoaded s → AreDistinct (pairs_of es) →
      AreSound s terms g f budget es → AreSound s new g f budget es
  sound_either s f budget es law loaded distinct sound = elim either_way [
    | inl a ↦ sound_put terms new t a g outlives held s f budget es law loaded distinct sound
    | inr e ↦ subst (λ ts. AreSound s ts g f budget es) (sym e) sound
  ]
