use Rattle.std.proofs.Common.{◌≡◌, ◌++◌, encode_utf8_all, inl, inr, sym, true≢false}
use Rattle.value_sets.proofs.Prefixes.{cut_language, empty_stem, language_cut, no_stem, some_stem, stem_bytes}
use Rattle.value_sets.proofs.stems.is_in_language.Goals as goal

pub returns-then-is_empty : goal.returns-then-is_empty
returns-then-is_empty c = (
  λ _. inr (inr (empty_stem c.args.stem.now c.as_str-in-Some.result.now c.is_empty.result c.as_str-in-Some.ensures.bytes c.is_empty.ensures c.if-is_empty.true)),
  λ _. c.if-is_empty.true,
)

pub returns-else-is_empty : goal.returns-else-is_empty
returns-else-is_empty c =
    let stem = c.args.stem.now in
    let tag = c.args.tag.now in
    let rest = c.in-Some.rest.now in
    let e : encode_utf8_all tag ≡ encode_utf8_all stem ++ rest =
    stem_bytes stem tag c.as_str-2.result.now c.as_str.result.now rest _ c.as_str.ensures.bytes c.as_str-2.ensures.bytes c.in-Some.ensures.cases.1.1 c.in-Some.ensures.cases.2 in
    let some = some_stem stem c.as_str-in-Some.result.now c.is_empty.result c.as_str-in-Some.ensures.bytes c.is_empty.ensures c.if-is_empty.false in (
      λ h. cut_language stem tag rest e (c.is_cut.ensures.0 h),
      λ h. c.is_cut.ensures.1 (elim (language_cut stem tag rest e h) [ inl none ↦ absurd (some none) | inr cut ↦ cut ]),
    )

pub returns-in-None : goal.returns-in-None
returns-in-None c = (
  λ h. absurd (true≢false (sym h)),
  λ h. absurd (no_stem c.args.stem.now c.args.tag.now c.as_str-2.result.now c.as_str.result.now c.as_str.ensures.bytes c.as_str-2.ensures.bytes c.in-None.ensures.cases h),
)
