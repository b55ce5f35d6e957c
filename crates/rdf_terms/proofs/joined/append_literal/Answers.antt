use Rattle.std.proofs.Common.{ap, ◌++◌, ◌∙◌, encode_utf8_all}
use Rattle.std.specs.List.{flat_map}
use Rattle.std.proofs.lemmas.Result.{on_ok_weaker}
use Rattle.rdf_terms.specs.TextBytes.{escaped_byte}
use Rattle.rdf_terms.proofs.Joining.{literal_joined}
use Rattle.rdf_terms.proofs.joined.append_literal.Goals as goal

pub returns : goal.returns
returns c =
    on_ok_weaker c.append_suffix.result
    (λ four. literal_joined c.args.literal.now c.args.out.now.items c.append.new.out.items c.append_escaped.new.out.items c.append-2.new.out.items c.append_suffix.new.out.items c.in_ok-append.ensures
    (c.in_ok-append_escaped.ensures ∙ ap (λ t. c.append.new.out.items ++ flat_map escaped_byte (encode_utf8_all t)) c.lex.ensures) c.in_ok-append-2.ensures four)
    c.append_suffix.ensures
