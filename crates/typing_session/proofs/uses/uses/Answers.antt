use Rattle.std.proofs.Common.{Contains, ap, arith, length, subst}
use Rattle.typing_session.proofs.Using.{uses_within}
use Rattle.typing_session.proofs.uses.uses.Goals as goal

pub filed-requires : goal.filed-requires
filed-requires c = record {
  within = λ u h.
      (let less = uses_within c.args.schema.now c.requires.loaded c.in_ok-found.found.items c.in_ok-found.ensures u (subst (λ xs. Contains xs u) c.as_slice-2.ensures.value h) in
      let count = ap (λ xs. length xs) c.as_slice.ensures in omega (arith, less, count));
}
