-- What is accepted is true of the complete typing, and what is not accepted is not confirmed.
use Rattle.std.proofs.Common.{◌≤◌, length, subst, sym, ℕ, List}
use Rattle.lists.specs.Distinct.{AreDistinct}
use Rattle.rdf_terms.specs.Tables.{max_terms}
use Rattle.rdf_terms.specs.declared.terms.Term.{Term}
use Rattle.rdf_terms.specs.declared.terms.TermId.{TermId}
use Rattle.schema_tree.specs.declared.schema.Answer.{Answer}
use Rattle.schema_tree.specs.Edges.{IsStratum}
use Rattle.schema_tree.specs.Laws.{TypingExists}
use Rattle.schema_tree.specs.Loaded.{IsLoaded}
use Rattle.proof_file.specs.declared.Proof.{Proof}
use Rattle.proof_file.specs.Laws.{HoldsLines, IsTrueProof}
use Rattle.proof_checker.specs.declared.checking.CheckError.{CheckError}
use Rattle.proof_checker.specs.declared.checking.CheckError.TheVariants as Errors
use Rattle.proof_checker.specs.Checks.{FailsAs, IsTrueAs}
use Rattle.shex_inputs.specs.Held.{Held}
use Rattle.shex_run.specs.Checking.{ConfirmStops, IsTrueOf}
use Rattle.shex_run.specs.Proofs.{Accepted}
use Rattle.shex_run.specs.Stopping.{check_stop}
use Rattle.shex_run.proofs.Settled.{reading_one}
use Rattle.schema_tree.proofs.Strata.{stratum_stratified}

-- what a check says of the proof that the bytes are the text of is so of the one that is accepted
pub is_true : (h : Held) → IsLoaded h.schema → IsStratum h.schema h.strata → AreDistinct h.terms → TypingExists →
    (bytes : List ℕ) (terms : List Term) (answers : List Answer) → IsTrueAs h.schema h.terms terms h.graph bytes answers →
    (a : Accepted h bytes terms answers) → IsTrueOf h terms a.found.found.nodes a.found.found.proof
is_true h loaded strata distinct exists bytes terms answers sound a = record {
  exists = λ U. (
      let (T, complete) = exists h.schema terms h.graph h.strata U loaded (stratum_stratified h.schema h.strata strata) in
      (h.strata, T, record { strata = strata; complete = complete })
      );
  true_of = λ f U T ends holds typing.
      let x = a.found.found in
      let one = reading_one h.terms terms terms bytes sound.proof x.proof sound.nodes x.nodes distinct sound.read x.read in
      let lines : HoldsLines U terms sound.proof.nodes = subst (λ (p : Proof). HoldsLines U terms p.nodes) (sym one.proof) holds in
      let first : IsTrueProof h.schema terms sound.nodes T sound.proof = sound.truth f U T typing.strata lines ends typing.complete in
      let second : IsTrueProof h.schema terms sound.nodes T x.proof = subst (λ (p : Proof). IsTrueProof h.schema terms sound.nodes T p) one.proof first in
      subst (λ (ns : List TermId). IsTrueProof h.schema terms ns T x.proof) one.numbers second;
}

-- why a check fails is why the bytes are not confirmed
pub stops : (h : Held) (terms : List Term) (bytes : List ℕ) (e : CheckError) → length terms ≤ max_terms → FailsAs h.schema h.files h.terms terms h.graph bytes e → ConfirmStops h bytes (check_stop e)
stops h terms bytes (Errors.Syntax at) few fault = fault
stops h terms bytes (Errors.Stale part) few stale = stale
stops h terms bytes Errors.Strata few unstratified = unstratified
stops h terms bytes (Errors.Rejected i w) few found = record { terms = terms; found = found; few = few }
stops h terms bytes Errors.Full few full = full
stops h terms bytes Errors.Memory few fails = tt
