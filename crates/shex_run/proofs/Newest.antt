-- A proof that is accepted has a text in format 2.
use Rattle.std.proofs.Common.{◌≡◌, ◌∙◌, ap, sym, subst, refl, ℕ, List, [], ◌∷◌, map, false, true≢false}
use Rattle.std.specs.Prelude.{IfOk, Option, Some, None, Result, Ok, Err, is_some}
use Rattle.std.specs.List.{AllByRecursion}
use Rattle.lists.proofs.Quantifiers.{all_append, all_back}
use Rattle.schema_tree.specs.Edges.{IsStratum}
use Rattle.proof_file.specs.declared.Proof.{Proof}
use Rattle.proof_file.specs.declared.head.Digest256.{Digest256}
use Rattle.proof_file.specs.declared.head.Head.{Head}
use Rattle.proof_file.specs.declared.head.Part.TheVariants as Parts
use Rattle.proof_file.specs.declared.line.Line.TheVariants as Lines
use Rattle.proof_file.specs.Text.{HasNoFeed, HasNoFeeds, IsLine, Keeps, ProofText, body_lines, head_lines}
use Rattle.proof_file.proofs.Apart.{proofs_same}
use Rattle.shex_inputs.specs.Held.{Held}
use Rattle.shex_run.specs.Checking.{Confirms}
use Rattle.shex_run.specs.Ready.{head_of}
use Rattle.shex_run.specs.Storing.{IsNewest, Upgrades, with_head}

-- a head that is within the limits can stand in place of another
pub keeps_with : (head : Head) (p : Proof) → AllByRecursion IsLine (head_lines (Some head)) → Keeps p → Keeps (with_head head p)
keeps_with head p fits keeps = record {
  nodes = keeps.nodes;
  few = keeps.few;
  sections = keeps.sections;
  records = keeps.records;
  lines = all_append IsLine (head_lines (Some head)) (body_lines p) fits (all_back IsLine (head_lines p.head) (body_lines p) keeps.lines);
}

-- the lines of a head have no terms or targets
head_clean : (h : Head) → AllByRecursion HasNoFeed (head_lines (Some h))
head_clean h = (tt, all_append HasNoFeed (map (λ d. Lines.Digest Parts.Import d) h.files.imports) (Lines.Digest Parts.Data h.files.graph ∷ Lines.Strata h.strata ∷ []) (imports h.files.imports) (tt, (tt, tt)))
  where
    imports : (ds : List Digest256) → AllByRecursion HasNoFeed (map (λ d. Lines.Digest Parts.Import d) ds)
    imports [] = tt
    imports (d ∷ ds) = (tt, imports ds)

pub clean_with : (head : Head) (p : Proof) → HasNoFeeds p → HasNoFeeds (with_head head p)
clean_with head p clean = all_append HasNoFeed (head_lines (Some head)) (body_lines p) (head_clean head) (all_back HasNoFeed (head_lines p.head) (body_lines p) clean)

-- and one without has that of the same proof with a head
pub newest_made : (head : Head) (q : Proof) (bytes new : List ℕ) → ProofText q bytes → q.head ≡ None → ProofText (with_head head q) new → (p : Proof) →
    ProofText p bytes → IsNewest head p bytes p.head new
newest_made head q bytes new text is made p other =
    let same : p ≡ q = proofs_same p q bytes other text in
    let at : p.head ≡ None = ap (λ (z : Proof). z.head) same ∙ is in
    subst (λ o. IsNewest head p bytes o new) (sym at) (subst (λ z. ProofText (with_head head z) new) (sym same) made)

-- what is confirmed is upgraded by a text that is its newest one
pub upgrades : (h : Held) (head : Head) (old text new : List ℕ) → IsStratum h.schema h.strata → head ≡ head_of h → (k : Confirms h old text) →
    ((p : Proof) → ProofText p old → IsNewest head p old p.head new) → Upgrades h old text new
upgrades h head old text new least is k newest = record {
  confirmed = k;
  upgrade = record {
    head = head;
    files = ap (λ (z : Head). z.files) is;
    least = subst (λ (z : Head). IsStratum h.schema z.strata) (sym is) least;
    newest = newest k.accepted.found.found.proof k.accepted.found.found.read.text;
  };
}

-- what is written with the head is so of any call that writes
pub made_with : {V E : Type 0} (items : V → List ℕ) (head : Head) (p : Proof) (r : Result V E) →
    IfOk r (λ v. HasNoFeeds (with_head head p) → ProofText (with_head head p) (items v)) → IfOk r (λ v. HasNoFeeds p → ProofText (with_head head p) (items v))
made_with items head p (Ok v) made = λ clean. made (clean_with head p clean)
made_with items head p (Err e) made = tt

-- what is not there is nothing
pub none_from : {X : Type 0} (o : Option X) → is_some o ≡ false → o ≡ None
none_from None h = refl
none_from (Some x) h = absurd (true≢false h)
