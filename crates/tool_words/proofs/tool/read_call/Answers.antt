use Rattle.std.proofs.Common.{◌≢◌, List, ◌∷◌, map, refl}
use Rattle.std.specs.Prelude.{string_bytes}
use Rattle.clap.specs.Words.{Text}
use Rattle.tool_words.specs.Asked.{Command, name_of, to_convert, to_cover, to_explain, to_follow, to_line, to_list, to_reach, unnamed}
use Rattle.tool_words.proofs.Handed.{failed_behind}
use Rattle.tool_words.proofs.tool.read_call.Goals as goal

pub returns-in_err-converting-clause-fault : goal.returns-in_err-converting-clause-fault
returns-in_err-converting-clause-fault c =
    failed_behind to_convert (map string_bytes c.args.words.now) (map string_bytes c.in-Some.behind.now) c.from_residual.result c.in_err-converting.field-0.0 c.in-Some.ensures.found
    c.from_residual.ensures.1 c.in_err-converting.ensures.fault

pub returns-in_err-listing-clause-fault : goal.returns-in_err-listing-clause-fault
returns-in_err-listing-clause-fault c =
    failed_behind to_list (map string_bytes c.args.words.now)
    (map string_bytes c.in-Some-words_behind.behind.now) c.from_residual-in_err-listing.result c.in_err-listing.field-0.0 c.in-Some-words_behind.ensures.found
    c.from_residual-in_err-listing.ensures.1 c.in_err-listing.ensures.fault

pub returns-in_err-explaining-clause-fault : goal.returns-in_err-explaining-clause-fault
returns-in_err-explaining-clause-fault c =
    failed_behind to_explain (map string_bytes c.args.words.now)
    (map string_bytes c.in-Some-words_behind-2.behind.now) c.from_residual-in_err-explaining.result c.in_err-explaining.field-0.0 c.in-Some-words_behind-2.ensures.found
    c.from_residual-in_err-explaining.ensures.1 c.in_err-explaining.ensures.fault

pub returns-in_err-lining-clause-fault : goal.returns-in_err-lining-clause-fault
returns-in_err-lining-clause-fault c =
    failed_behind to_line (map string_bytes c.args.words.now)
    (map string_bytes c.in-Some-words_behind-3.behind.now) c.from_residual-in_err-lining.result c.in_err-lining.field-0.0 c.in-Some-words_behind-3.ensures.found
    c.from_residual-in_err-lining.ensures.1 c.in_err-lining.ensures.fault

pub returns-in_err-following-clause-fault : goal.returns-in_err-following-clause-fault
returns-in_err-following-clause-fault c =
    failed_behind to_follow (map string_bytes c.args.words.now)
    (map string_bytes c.in-Some-words_behind-4.behind.now) c.from_residual-in_err-following.result c.in_err-following.field-0.0 c.in-Some-words_behind-4.ensures.found
    c.from_residual-in_err-following.ensures.1 c.in_err-following.ensures.fault

pub returns-in_err-reaching-clause-fault : goal.returns-in_err-reaching-clause-fault
returns-in_err-reaching-clause-fault c =
    failed_behind to_reach (map string_bytes c.args.words.now)
    (map string_bytes c.in-Some-words_behind-5.behind.now) c.from_residual-in_err-reaching.result c.in_err-reaching.field-0.0 c.in-Some-words_behind-5.ensures.found
    c.from_residual-in_err-reaching.ensures.1 c.in_err-reaching.ensures.fault

pub returns-in_err-covering-clause-fault : goal.returns-in_err-covering-clause-fault
returns-in_err-covering-clause-fault c =
    failed_behind to_cover (map string_bytes c.args.words.now)
    (map string_bytes c.in-Some-words_behind-6.behind.now) c.from_residual-in_err-covering.result c.in_err-covering.field-0.0 c.in-Some-words_behind-6.ensures.found
    c.from_residual-in_err-covering.ensures.1 c.in_err-covering.ensures.fault

pub returns-clause-fault : goal.returns-clause-fault
returns-clause-fault c = unnamed missed
  where
    missed : (k : Command) (behind : List Text) → map string_bytes c.args.words.now ≢ name_of k ∷ behind
    missed to_convert = c.in_default.ensures.missed refl
    missed to_list = c.in_default-words_behind.ensures.missed refl
    missed to_explain = c.in_default-words_behind-2.ensures.missed refl
    missed to_line = c.in_default-words_behind-3.ensures.missed refl
    missed to_follow = c.in_default-words_behind-4.ensures.missed refl
    missed to_reach = c.in_default-words_behind-5.ensures.missed refl
    missed to_cover = c.in_default-words_behind-6.ensures.missed refl
