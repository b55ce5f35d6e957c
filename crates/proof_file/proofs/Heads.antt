-- The lines of a head, read and written.
use Rattle.std.proofs.Common.{◌≡◌, ℕ, List, ◌++◌, Err, ap, sym, ◌∙◌, append_assoc, codes}
use Rattle.std.proofs.lemmas.List.Splits.{join_with_byte-slice_split}
use Rattle.std.specs.List.{AllByRecursion, join_with_byte}
use Rattle.proof_file.specs.declared.head.Part.{Part}
use Rattle.proof_file.specs.declared.head.Part.TheVariants as Parts
use Rattle.proof_file.specs.declared.fields.Stop.{Stop}
use Rattle.proof_file.specs.declared.line.Line.{Line}
use Rattle.proof_file.specs.declared.line.Line.TheVariants as Lines
use Rattle.proof_file.specs.Text.{digest_text, line_text, IsNumber}
use Rattle.proof_file.specs.Reading.{Reads, fields, strata_fields, IsHeadLine}
use Rattle.proof_file.proofs.Clean.{strata_cut, strata_joined}
use Rattle.proof_file.proofs.Gathered.{blames}
use Rattle.proof_file.proofs.Joined.{chained}

pub strata_found : (text ns : List ℕ) → fields 32 text ≡ strata_fields ns → text ≡ line_text (Lines.Strata ns)
strata_found text ns e = sym (join_with_byte-slice_split 32 text) ∙ ap (join_with_byte 32) e ∙ sym (strata_joined ns)

-- the text does not begin so
abbrev Lacks : List ℕ → List ℕ → Type 0
Lacks mark text = (rest : List ℕ) → ¬ (text ≡ mark ++ rest)

-- where no digest is read, strata that are not read are no line of a head
pub strata_stop : (text : List ℕ) (e : Stop) → Lacks (codes "f s ") text → Lacks (codes "f i ") text → Lacks (codes "f d ") text →
    Reads strata_fields (AllByRecursion IsNumber) (fields 32 text) (Err e) → Reads line_text IsHeadLine text (Err e)
strata_stop text e schema imported graph = blames strata_fields (AllByRecursion IsNumber) (fields 32 text) line_text IsHeadLine text e part
  where
    part : (l : Line) → IsHeadLine l → text ≡ line_text l → (ns : List ℕ) × (AllByRecursion IsNumber ns × (fields 32 text ≡ strata_fields ns))
    part (Lines.Digest Parts.Schema d) h is = absurd (schema (digest_text d) is)
    part (Lines.Digest Parts.Import d) h is = absurd (imported (digest_text d) is)
    part (Lines.Digest Parts.Data d) h is = absurd (graph (digest_text d) is)
    part (Lines.Strata ns) h is = (ns, (h, ap (fields 32) is ∙ strata_cut ns h))
    part (Lines.Node t) h is = absurd h
    part (Lines.Section k) h is = absurd h
    part (Lines.Record r) h is = absurd h
    part (Lines.Claim c) h is = absurd h

-- six pieces one after another
pub chained_six : (old a b c d e new u v w x y z : List ℕ) → a ≡ old ++ u → b ≡ a ++ v → c ≡ b ++ w → d ≡ c ++ x → e ≡ d ++ y → new ≡ e ++ z → new ≡ old ++ (u ++ (v ++ (w ++ (x ++ (y ++ z)))))
chained_six old a b c d e new u v w x y z p q r s t o =
    chained b c d e new w x y z r s t o ∙ ap (λ l. l ++ (w ++ (x ++ (y ++ z)))) (q ∙ ap (λ l. l ++ v) p)
    ∙ append_assoc (old ++ u) v (w ++ (x ++ (y ++ z))) ∙ append_assoc old u (v ++ (w ++ (x ++ (y ++ z))))
