use Rattle.std.proofs.Common.{string_bytes, ap, sym, ◌∙◌, ◌∷◌}
use Rattle.std.proofs.lemmas.Str.{IsUtf8-string_bytes}
use Rattle.std.specs.Str.Iter.{chars_rest}
use Rattle.rdf_terms.proofs.TermReading.{piece_more, quoted_ends, quoted_stops, shorter}
use Rattle.rdf_terms.proofs.reader.read_quoted.Goals as goal

pub pieces-smaller : goal.pieces-smaller
pieces-smaller c = shorter c.in-Character.character (chars_rest c.pieces.characters) (chars_rest c.take_piece.new.characters) c.in-Character.ensures

pub pieces-preserved : goal.pieces-preserved
pieces-preserved c = piece_more c.args.text.now (string_bytes c.pieces.lex) (string_bytes c.push.new.self) (chars_rest c.pieces.characters)
    (chars_rest c.take_piece.new.characters) c.in-Character.character c.pieces.invariant c.in-Character.ensures c.in_ok-push-in-Character.ensures.bytes

pub returns-in-Quote : goal.returns-in-Quote
returns-in-Quote c = quoted_ends c.args.text.now (string_bytes c.pieces.lex) c.from_string.result (chars_rest c.pieces.characters) c.as_str.result.now (IsUtf8-string_bytes c.pieces.lex) c.pieces.invariant (c.in-Quote.ensures ∙ ap (λ z. 34 ∷ z) (sym c.as_str.ensures)) c.from_string.ensures

pub returns-in-Wrong : goal.returns-in-Wrong
returns-in-Wrong c = quoted_stops c.args.text.now (string_bytes c.pieces.lex) (chars_rest c.pieces.characters) (IsUtf8-string_bytes c.pieces.lex) c.pieces.invariant c.in-Wrong.ensures
