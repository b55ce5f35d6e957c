-- Rows of a predicate that are found block by block.
use Rattle.std.proofs.Common.{◌≡◌, ◌≢◌, ℕ, ◌+◌, ◌≤◌, ◌<◌, List, [], refl, ap, sym, ◌∙◌, length, take, drop, get_or, arith, true, false, true≢false, filter, nat_eq, eq-eqb, drop-drop, drop_of_length-le, length-drop, zero, suc, ◌∷◌}
use Rattle.std.proofs.lemmas.Bool.{eqb-true, ne_eqb}
use Rattle.std.proofs.lemmas.List.{get_or_default}
use Rattle.std.specs.List.Sorted.{IsPartitionedBy, IsPartitionPoint}
use Rattle.rdf_terms.specs.declared.terms.TermId.{TermId}
use Rattle.rdf_terms.specs.declared.terms.Triple.{Triple}
use Rattle.rdf_terms.specs.Graphs.{same_id}
use Rattle.graph_index.specs.Edits.{IsFirstBlock, IsGrouped}
use Rattle.graph_index.proofs.Blocks.{front_fails, front_passes}

-- the rows of the first one's predicate come first
module _ (rows : List Triple) (p : ℕ) (blank : Triple) (here : (get_or rows 0 blank).p.0 ≡ p) (some : 0 < length rows) where
  head : (d : Triple) → (get_or rows 0 d).p.0 ≡ p
  head d = ap (λ (t : Triple). t.p.0) (get_or_default rows 0 d blank some) ∙ here

  pub divided : IsGrouped rows → IsPartitionedBy (λ t. nat_eq t.p.0 p) rows
  divided grouped i j d a b h =
      let last : (get_or rows j d).p.0 ≡ p = eqb-true _ _ h in
      eq-eqb (get_or rows i d).p.0 p (grouped 0 i j d (omega arith) a b (head d ∙ sym last) ∙ last)

  pub is_block : (count : ℕ) → count ≤ length rows → IsPartitionPoint (λ t. nat_eq t.p.0 p ≡ true) (λ t. nat_eq t.p.0 p ≡ false) rows count → IsFirstBlock rows count
  is_block count within point = record {
    some = by count refl;
    within = within;
    same = λ k d l. eqb-true (get_or rows k d).p.0 p (point.0 k d (omega arith) l) ∙ sym (head d);
    others = λ k d a l e. true≢false (sym (eq-eqb (get_or rows k d).p.0 p (e ∙ head d)) ∙ point.1 k d a l);
  }
    where
      first : (ts : List Triple) → 0 < length ts → Triple
      first [] l = absurd (omega (arith, l))
      first (t ∷ ts) l = t

      by : (n : ℕ) → count ≡ n → 0 < count
      by zero e =
          let d = first rows some in
          absurd (true≢false (sym (eq-eqb (get_or rows 0 d).p.0 p (head d)) ∙ point.1 0 d (omega (arith, e)) some))
      by (suc n) e = omega (arith, e)

-- what is ahead of a place has all rows of the predicate
pub record IsAhead (rows : List Triple) (p : TermId) (first : ℕ) : Type 0 where
  pub within : first ≤ length rows
  pub same : filter (λ t. same_id t.p p) rows ≡ filter (λ t. same_id t.p p) (drop first rows)

pub begins : (rows : List Triple) (p : TermId) → IsAhead rows p 0
begins rows p = record { within = omega arith; same = refl }

module _ (rows rest : List Triple) (p : TermId) (first count : ℕ) (is : rest ≡ drop first rows) (ahead : IsAhead rows p first) (block : IsFirstBlock rest count) where
  same_head : (d e : Triple) → (get_or rest 0 d).p.0 ≡ (get_or rest 0 e).p.0
  same_head d e = ap (λ (t : Triple). t.p.0) (get_or_default rest 0 d e (let some = block.some in let within = block.within in omega (arith, some, within)))

  pub found : (d : Triple) → (get_or rest 0 d).p.0 ≡ p.0 → take count rest ≡ filter (λ t. same_id t.p p) rows
  found blank here = by (λ d. same_head d blank ∙ here)
    where
      by : ((d : Triple) → (get_or rest 0 d).p.0 ≡ p.0) → take count rest ≡ filter (λ t. same_id t.p p) rows
      by head = sym (
          ahead.same ∙ ap (filter (λ t. same_id t.p p)) (sym is)
          ∙ front_passes (λ t. same_id t.p p) rest count block.within (λ k d l. eq-eqb (get_or rest k d).p.0 p.0 (block.same k d l ∙ head d))
          (λ k d a l. ne_eqb (get_or rest k d).p.0 p.0 (λ e. block.others k d a l (e ∙ sym (head d)))))

  pub passes : (d : Triple) → (get_or rest 0 d).p.0 ≢ p.0 → IsAhead rows p (first + count)
  passes blank apart = record {
    within = let l = block.within in let m = ahead.within in omega (arith, l, m, ap length is, length-drop first rows);
    same =
        ahead.same ∙ ap (filter (λ t. same_id t.p p)) (sym is)
        ∙ front_fails (λ t. same_id t.p p) rest count (λ k d a l. ne_eqb (get_or rest k d).p.0 p.0 (λ e. apart (same_head blank d ∙ sym (block.same k d a) ∙ e)))
        ∙ ap (λ (ts : List Triple). filter (λ t. same_id t.p p) (drop count ts)) is
        ∙ ap (filter (λ t. same_id t.p p)) (drop-drop count first rows);
  }

pub none_left : (rows : List Triple) (p : TermId) (first : ℕ) → length rows ≤ first → IsAhead rows p first → [] ≡ filter (λ t. same_id t.p p) rows
none_left rows p first past ahead = sym (ahead.same ∙ ap (filter (λ t. same_id t.p p)) (drop_of_length-le rows past))
