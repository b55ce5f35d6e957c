-- Texts as lists of characters, compared and hashed by their UTF-8.
use Rattle.std.specs.Prelude.{ℕ, Bool, List, nat_eq, encode_utf8_all}
use Rattle.std.specs.Cmp.Lexicographic.{pointwise}
use Rattle.std.specs.Hash.{HashWrites, str}

-- the two texts have the same characters
abbrev pub same_text : List ℕ → List ℕ → Bool
same_text a b = pointwise nat_eq (encode_utf8_all a) (encode_utf8_all b)

-- what a text feeds a hasher
abbrev pub text_fed : List ℕ → HashWrites
text_fed t = str (encode_utf8_all t)
