use Rattle.std.proofs.Common.{◌≡◌, ap, encode_utf8_all, ◌∙◌, refl}
use Rattle.std.specs.Ordering.{nat_cmp}
use Rattle.std.proofs.lemmas.Iterator.Consumers.{YieldsList-from_first}
use Rattle.std.proofs.lemmas.Iterator.Search.{cmp_from_yields_List}
use Rattle.rdf_terms.specs.TextBytes.{bytes_left}
use Rattle.rdf_terms.proofs.Comparing.{left_of, literals_compared}
use Rattle.rdf_terms.proofs.order.compare_literals.Goals as goal

pub returns : goal.returns
returns c =
    cmp_from_yields_List (λ x y. y ≡ x) _ nat_cmp _ c.cmp.ensures.ran
    (YieldsList-from_first (λ x. x) bytes_left (left_of c.args.one.now c.split_at.result.1.now) c.of.ensures)
    (λ it e. YieldsList-from_first (λ x. x) bytes_left (left_of c.args.other.now c.split_at-2.result.1.now) (ap bytes_left e ∙ c.of-2.ensures))
    (λ x y. refl)
    ∙ literals_compared c.args.one.now c.args.other.now _ _ _ _ c.common_front-same.result
    (c.as_bytes-lexical.ensures.value ∙ c.as_str.ensures.bytes ∙ ap encode_utf8_all c.lex.ensures)
    (c.as_bytes-other_lexical.ensures.value ∙ c.as_str-2.ensures.bytes ∙ ap encode_utf8_all c.lex-2.ensures)
    c.common_front-same.ensures.same c.split_at.ensures.back c.split_at-2.ensures.back
