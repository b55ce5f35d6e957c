use Rattle.std.proofs.Common.{rules}
use Rattle.xs_pattern.specs.Regex.{regex_of}
use Rattle.xs_pattern.proofs.Found.{found_by_words}
use Rattle.xs_pattern.proofs.pattern.Pattern.found.Goals as goal

pub returns-in-Some : goal.returns-in-Some
returns-in-Some c =
    found_by_words c.is_found.result c.args.self.now.flags _ (regex_of c.args.self.now.expression) c.in-Some.words
    (c.args.self.now.kept c.in-Some.words (search rules)) c.is_found.ensures.found c.is_found.ensures.missed
