use Rattle.std.proofs.Common.{subst}
use Rattle.std.specs.Prelude.{Contains}
use Rattle.shex_tools.proofs.listing.response_of.Goals as goal

pub text_of-requires : goal.text_of-requires
text_of-requires c = λ x h. c.requires x (subst (λ xs. Contains xs x) c.as_slice.ensures h)
