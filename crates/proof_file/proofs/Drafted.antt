-- A draft grows with its proof.
use Rattle.std.proofs.Common.{◌≡◌, ℕ, inl, inr, subst, List, sym}
use Rattle.proof_file.specs.declared.Proof.{Proof}
use Rattle.proof_file.specs.declared.line.Line.{Line}
use Rattle.proof_file.specs.declared.lines.Lines.{Lines as Reader}
use Rattle.proof_file.specs.declared.lines.Next.TheVariants as Nexts
use Rattle.proof_file.specs.declared.read.Draft.{Draft}
use Rattle.proof_file.specs.Text.{ProofText}
use Rattle.proof_file.specs.Reader.{Grows, Heading, Leads, Where, heading, opened, behind, ended, failed, Stands, Goes, no_lines, Opens}
use Rattle.proof_file.specs.Drafts.{IsDraft, IsDraftAt, IsDraftOf, IsHeadingDraft}

pub draft_begins : (r : Reader) (d : Draft) (bytes : List ℕ) → Opens r bytes → IsDraft d no_lines → IsHeadingDraft d opened → (w : Where) × (Stands r w × IsDraftAt d w)
draft_begins r d bytes (same, inl past) h k = (behind no_lines, (past, h))
draft_begins r d bytes (same, inr (inl read)) h k = (heading opened, (read, k))
draft_begins r d bytes (same, inr (inr fault)) h k = (failed 0, (fault, tt))

pub draft_grows : (w : Where) (old new : Reader) (l : Line) (d e : Draft) → Goes w old new (Nexts.Line l) → IsDraftAt d w →
    ((h : Heading) (w : Where) → IsHeadingDraft d h → Leads l h w → IsDraftAt e w) → ((p q : Proof) → IsDraft d p → Grows p l q → IsDraft e q) →
    (w : Where) × (Stands new w × IsDraftAt e w)
draft_grows (heading k) old new l d e (w, (leads, stands)) h lead add = (w, (stands, lead k w h leads))
draft_grows (behind p) old new l d e (q, (grows, past)) h lead add = (behind q, (past, add p q h grows))
draft_grows (ended p) old new l d e goes h lead add = absurd h
draft_grows (failed at) old new l d e goes h lead add = absurd goes

pub draft_ends : (w : Where) (old new : Reader) (d : Draft) (bytes : List ℕ) → Goes w old new Nexts.End → IsDraftAt d w → new.whole.now ≡ bytes → IsDraftOf d bytes
draft_ends (heading k) old new d bytes goes h whole = absurd goes
draft_ends (behind p) old new d bytes goes h whole = (p, (h, subst (ProofText p) whole goes.1))
draft_ends (ended p) old new d bytes goes h whole = absurd h
draft_ends (failed at) old new d bytes goes h whole = absurd goes

-- what is made of the draft is the proof of which the bytes are the text
pub draft_made : (d : Draft) (x : Proof) (bytes : List ℕ) → IsDraftOf d bytes → ((p : Proof) → IsDraft d p → x ≡ p) → ProofText x bytes
draft_made d x bytes (p, (h, text)) same = subst (λ z. ProofText z bytes) (sym (same p h)) text
