-- What a pattern shows: its regular expression and its flags.
use Rattle.xs_pattern.specs.declared.expression.Flags.{Flags}
use Rattle.xs_pattern.specs.declared.pattern.Pattern.{Pattern}
use Rattle.xs_pattern.specs.Regex.{Regex, regex_of}

abbrev pub regex : Pattern → Regex
regex p = regex_of p.expression

abbrev pub flags_of : Pattern → Flags
flags_of p = p.flags
