-- What a call that ended and was handed over shows.
use Rattle.std.proofs.Common.{drop, length, map, refl, string_bytes, subst, sym, List, MatchOption, None, Option, Some}
use Rattle.std.proofs.Common.{ℕ, [], ◌++◌, ◌<◌, ◌≡◌, ◌≤◌, ◌∙◌}
use Rattle.shex_io.specs.Sure.{bytes_of, contents_of}
use Rattle.program_ends.specs.Ends.{FilesSeen}
use Rattle.call_parts.specs.Calls.{Ending, EndsAs, IsCallOf, IsCalled, files_seen, sink_seen}
use Rattle.call_parts.specs.Given.{HaveOwnNames, bytes_of_words}
use Rattle.call_parts.specs.Handed.{IsEmpty, IsHanded, IsHandedOver, IsLeft}
use Rattle.call_parts.specs.declared.asked.Request.{Request}
use Rattle.call_parts.specs.declared.calls.Call.{Call}
use Rattle.call_parts.specs.declared.handed.Place.{Place}
use Rattle.call_parts.specs.declared.handed.Reply.{Reply}

-- what is handed over where nothing was before
empty_then : (before cleared after : Place) → IsEmpty before cleared → IsEmpty cleared after → IsEmpty before after
empty_then before cleared after first then = record { count_is = then.count_is; stays = then.stays ∙ first.stays }

handed_then : (before cleared after : Place) (bytes : List ℕ) →
    IsEmpty before cleared → IsHanded cleared after bytes → IsHanded before after bytes
handed_then before cleared after bytes first then = record {
  count_is = then.count_is;
  fits = λ room. subst (λ b. after.bytes.now ≡ bytes ++ drop (length bytes) b) first.stays
      (then.fits (subst (λ b. length bytes ≤ length b) (sym first.stays) room));
  short = λ none. subst (λ b. after.bytes.now ≡ b) first.stays
      (then.short (subst (λ b. length b < length bytes) (sym first.stays) none));
}

file_then : (before cleared after : Place) (file : Option (List ℕ)) → IsEmpty before cleared →
    MatchOption file (IsEmpty cleared after) (IsHanded cleared after) →
    MatchOption file (IsEmpty before after) (IsHanded before after)
file_then before cleared after None first then = empty_then before cleared after first then
file_then before cleared after (Some bytes) first then = handed_then before cleared after bytes first then

over_then : (file : Option (List ℕ)) (printed said : List ℕ) (before cleared after : Reply) → IsLeft before cleared →
    IsHandedOver file printed said cleared after → IsHandedOver file printed said before after
over_then file printed said before cleared after left over = record {
  output_is = handed_then before.output cleared.output after.output printed left.output_is over.output_is;
  errors_are = handed_then before.errors cleared.errors after.errors said left.errors_are over.errors_are;
  file_is = file_then before.file cleared.file after.file file left.file_is over.file_is;
}

-- a call ends in this way over words and sinks that are equal to these, too
ends_over : (Ends : Ending) (words given : List (List ℕ)) (seen : FilesSeen) (out err printed said : List ℕ) (status : ℕ) →
    words ≡ given → out ≡ [] → err ≡ [] → Ends words seen (sink_seen out printed) (sink_seen err said) status →
    Ends given seen (sink_seen [] printed) (sink_seen [] said) status
ends_over Ends words given seen out err printed said status is_given no_out no_err ends =
    subst (λ w. Ends w seen (sink_seen [] printed) (sink_seen [] said) status) is_given
    (subst (λ o. Ends words seen (sink_seen o printed) (sink_seen [] said) status) no_out
    (subst (λ e. Ends words seen (sink_seen out printed) (sink_seen e said) status) no_err ends))

pub called : (Ends : Ending) (request : Request) (call ended : Call) (status : ℕ) (before cleared after : Reply) →
    IsCallOf request call → HaveOwnNames request.files.now → EndsAs Ends call ended status → IsLeft before cleared →
    IsHandedOver (contents_of ended.files (string_bytes ended.wanted)) (bytes_of ended.out) (bytes_of ended.err) cleared after →
    IsCalled Ends request before after status
called Ends request call ended status before cleared after is own ends left over = record {
  contents = contents_of call.files;
  given = is.files_are;
  own_names = own;
  seen = files_seen call.files ended.files;
  told = refl;
  contents_after = contents_of ended.files;
  told_after = refl;
  printed = bytes_of ended.out;
  said = bytes_of ended.err;
  ends = ends_over Ends _ (bytes_of_words request.words.now) _ (bytes_of call.out) (bytes_of call.err) _ _ status
      is.words_are is.nothing_printed is.nothing_said ends.ends;
  handed = subst (λ name. IsHandedOver (contents_of ended.files name) (bytes_of ended.out) (bytes_of ended.err) before after)
      is.wanted_is
      (subst (λ w. IsHandedOver (contents_of ended.files (string_bytes w)) (bytes_of ended.out) (bytes_of ended.err) before after)
      ends.wanted_same (over_then _ _ _ before cleared after left over));
}

-- a call that ends as the program does over texts which are its words
pub ended : (Ends : Ending) (before after : Call) (words : List (List ℕ)) (status : ℕ) →
    words ≡ map string_bytes before.words.items →
    Ends words (files_seen before.files after.files)
    (sink_seen (bytes_of before.out) (bytes_of after.out)) (sink_seen (bytes_of before.err) (bytes_of after.err)) status →
    after.wanted ≡ before.wanted → EndsAs Ends before after status
ended Ends before after words status are ends same = record {
  ends = subst (λ w. Ends w (files_seen before.files after.files)
      (sink_seen (bytes_of before.out) (bytes_of after.out)) (sink_seen (bytes_of before.err) (bytes_of after.err)) status) are ends;
  wanted_same = same;
}
