use Rattle.std.proofs.Common.{refl, sym, subst, ◌∙◌}
use Rattle.std.specs.Str.{chars}
use Rattle.rdf_terms.specs.Names.{IsAnonymous}
use Rattle.rdf_terms.proofs.Anonymous.{anonymous_chars, anonymous_bytes}
use Rattle.rdf_terms.proofs.written.name_from.Goals as goal

pub returns-in-Some : goal.returns-in-Some
returns-in-Some c = subst (IsAnonymous (chars c.args.text.now)) (sym c.new.ensures) (anonymous_chars c.args.text.now c.in-Some.n c.in-Some.ensures.found)

pub returns-in_ok-from_str-in-None : goal.returns-in_ok-from_str-in-None
returns-in_ok-from_str-in-None c = (
  λ n h. c.in-None.ensures.none refl n (anonymous_bytes c.args.text.now n c.utf8.text h),
  c.in_ok-from_str-in-None.ensures ∙ c.written.ensures,
)
