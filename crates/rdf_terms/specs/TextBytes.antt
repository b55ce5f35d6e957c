-- The bytes of a literal's text, one after another.
use Rattle.std.specs.Prelude.{ℕ, List, [], ◌∷◌, ◌++◌, ◌==◌, if◌then◌else◌, codes}
use Rattle.std.specs.List.{flat_map}
use Rattle.std.specs.Option.{option_to_list}
use Rattle.rdf_terms.specs.declared.order.TextBytes.{TextBytes}

-- a byte of a quoted string: each character that is escaped is one byte (N-Triples, section 2.3)
abbrev pub escaped_byte : ℕ → List ℕ
escaped_byte b =
    if b == 34 then codes "\\\""
    else if b == 92 then codes "\\\\"
    else if b == 10 then codes "\\n"
    else if b == 13 then codes "\\r"
    else b ∷ []

-- the bytes that are left
abbrev pub bytes_left : TextBytes → List ℕ
bytes_left t = option_to_list t.pending ++ (flat_map escaped_byte t.lexical.now ++ (t.joint.now ++ (t.name.now ++ t.closing.now)))
