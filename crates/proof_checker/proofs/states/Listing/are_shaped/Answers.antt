use Rattle.std.proofs.Common.{subst, length}
use Rattle.std.specs.Prelude.{IsTrue, ◌↔◌}
use Rattle.proof_checker.specs.Stated.{AreShapedBy}
use Rattle.proof_checker.proofs.states.Listing.are_shaped.Goals as goal

pub returns : goal.returns
returns g c =
    subst (λ m. IsTrue c.are_shaped.result ↔ AreShapedBy (length c.args.self.now.shape.now.occs) m c.args.self.now.states.now) c.len.ensures
    (subst (λ z. IsTrue c.are_shaped.result ↔ AreShapedBy (length z) c.len.result c.args.self.now.states.now) c.as_slice.ensures c.are_shaped.ensures)
