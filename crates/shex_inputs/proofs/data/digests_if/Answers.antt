use Rattle.std.proofs.Common.{List, ap, ℕ}
use Rattle.proof_file.specs.declared.head.Digests.{Digests}
use Rattle.shex_inputs.proofs.data.digests_if.Goals as goal

pub returns-in-Digests-clause-kept : goal.returns-in-Digests-clause-kept
returns-in-Digests-clause-kept c = ap (λ (z : List ℕ). the_digests z) c.digest_of.ensures
  where
    the_digests : List ℕ → Digests
    the_digests z = record { schema = c.args.digests.root; imports = c.args.digests.imports; graph = record { 0 = z } }
