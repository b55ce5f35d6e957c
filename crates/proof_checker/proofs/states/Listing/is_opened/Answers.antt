use Rattle.std.proofs.Common.{ap, sym, subst, length, replicate, ◌∙◌}
use Rattle.std.specs.Prelude.{IsTrue, ◌↔◌}
use Rattle.schema_tree.specs.States.{IsCovered}
use Rattle.bag_match.proofs.Stepping.{opening_is}
use Rattle.proof_checker.proofs.states.Listing.is_opened.Goals as goal

pub returns : goal.returns
returns g c =
    let sh = c.args.self.now.shape.now in
    let zeros = c.as_slice-2.ensures.value ∙ c.in_ok-none.ensures ∙ ap (λ z. replicate (length z) 0) c.as_slice.ensures in
    subst (λ x. IsTrue c.is_covered.result ↔ IsCovered sh c.args.self.now.node c.args.self.now.triples.now c.args.self.now.states.now x)
    (sym (opening_is sh c.as_slice-2.result.now zeros)) c.is_covered.ensures

pub is_covered-requires-clause-layer : goal.is_covered-requires-clause-layer
is_covered-requires-clause-layer g c = record { rising = c.requires.listed.rising; same = λ x at. (λ h. h, λ h. h); left = c.requires.fits }
