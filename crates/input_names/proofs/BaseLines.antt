-- A base that passes its check is on one line.
use Rattle.std.proofs.Common.{is_some, refl}
use Rattle.std.specs.List.{list_all}
use Rattle.std.specs.Str.{chars}
use Rattle.iri_resolve.specs.Reference.{scheme_of}
use Rattle.rdf_terms.proofs.OneLine.{both, lacks_feed, plain_bytes, plain_passing}
use Rattle.rdf_lex.specs.Characters.{has, iri_char}
use Rattle.input_names.specs.Names.{is_base}
use Rattle.input_names.specs.Laws.{BasesAreLines}

pub base_plain : BasesAreLines
unfolding is_base iri_char
base_plain text u h = record {
  utf8 = u;
  no_feed = lacks_feed text (plain_bytes text u (plain_passing (has iri_char) (chars text) refl (both (is_some (scheme_of text)) (list_all (has iri_char) (chars text)) h).1));
}
