use Rattle.std.proofs.Common.{◌∙◌, ap, subst}
use Rattle.std.proofs.lemmas.Result.{IfErr-weaker, on_ok_weaker}
use Rattle.shex_inputs.specs.Named.{asked_of, source_name}
use Rattle.tool_words.specs.Asked.{of_reasons}
use Rattle.tool_words.specs.Lent.{explaining_of}
use Rattle.shex_tools.specs.Calls.{inputs_of}
use Rattle.shex_tools.specs.Showing.{ShowsPlace, source_base}
use Rattle.shex_tools.proofs.Places.{data_reached, data_shown, left_unshown, load_reached, load_shown, map_reached, map_shown, schema_reached, schema_shown}
use Rattle.shex_tools.proofs.showing.push_input.Goals as goal

pub returns-in-Schema-clause-shown : goal.returns-in-Schema-clause-shown
returns-in-Schema-clause-shown g c =
    let told = g.F.Files.told c.args.files.now in
    let e = explaining_of c.args.explaining.now in
    let i = inputs_of (of_reasons e) in
    let file = c.named_file-file in
    let named = file.ensures.name ∙ ap (source_name i) c.source.ensures in
    let based = file.ensures.base ∙ ap (source_base (asked_of i)) c.source.ensures in
    on_ok_weaker c.push_document.result
    (λ p. (p.0, schema_shown told e c.args.refusal.now file.result.name.now file.result.base.now named based p.0 c.in-Schema.field-0 c.in-Schema.error c.in-Schema.is p.1, p.2))
    c.push_document.ensures.shown

pub returns-in-Schema-clause-unshown : goal.returns-in-Schema-clause-unshown
returns-in-Schema-clause-unshown g c =
    let told = g.F.Files.told c.args.files.now in
    let e = explaining_of c.args.explaining.now in
    let file = c.named_file-file in
    let reached = schema_reached told e c.args.refusal.now c.in-Schema.field-0 c.in-Schema.error c.in-Schema.is c.requires.refused in
    let named = file.ensures.name ∙ ap (source_name (inputs_of (of_reasons e))) c.source.ensures in
    IfErr-weaker c.push_document.result _ _ (left_unshown told (of_reasons e) _ _ _ reached (file.ensures.source ∙ c.source.ensures) named _ _ _ _) c.push_document.ensures.unshown

pub returns-in-Data-clause-shown : goal.returns-in-Data-clause-shown
returns-in-Data-clause-shown g c =
    let told = g.F.Files.told c.args.files.now in
    let e = explaining_of c.args.explaining.now in
    let i = inputs_of (of_reasons e) in
    let file = c.named_file-file in
    let named = file.ensures.name ∙ ap (source_name i) c.source.ensures in
    let based = file.ensures.base ∙ ap (source_base (asked_of i)) c.source.ensures in
    on_ok_weaker c.push_at_any.result
    (λ p. (
      p.0,
      data_shown told e c.args.refusal.now file.result.name.now file.result.base.now named based p.0 c.in-Data.error c.in-Data.is
          (subst (λ z. ShowsPlace told file.result.name.now z p.0) c.data_place.ensures p.1),
      p.2,
    ))
    c.push_at_any.ensures.shown

pub returns-in-Data-clause-unshown : goal.returns-in-Data-clause-unshown
returns-in-Data-clause-unshown g c =
    let told = g.F.Files.told c.args.files.now in
    let e = explaining_of c.args.explaining.now in
    let file = c.named_file-file in
    let reached = data_reached told e c.args.refusal.now c.in-Data.error c.in-Data.is c.requires.refused in
    let named = file.ensures.name ∙ ap (source_name (inputs_of (of_reasons e))) c.source.ensures in
    IfErr-weaker c.push_at_any.result _ _ (left_unshown told (of_reasons e) _ _ _ reached (file.ensures.source ∙ c.source.ensures) named _ _ _ _) c.push_at_any.ensures.unshown

pub returns-in-Map-clause-shown : goal.returns-in-Map-clause-shown
returns-in-Map-clause-shown g c =
    let told = g.F.Files.told c.args.files.now in
    let e = explaining_of c.args.explaining.now in
    let i = inputs_of (of_reasons e) in
    let file = c.named_file-file in
    let named = file.ensures.name ∙ ap (source_name i) c.source.ensures in
    let based = file.ensures.base ∙ ap (source_base (asked_of i)) c.source.ensures in
    on_ok_weaker c.push_at_any-in-Map.result
    (λ p. (
      p.0,
      map_shown told e c.args.refusal.now file.result.name.now file.result.base.now named based p.0 c.in-Map.error c.in-Map.is
          (subst (λ z. ShowsPlace told file.result.name.now z p.0) c.map_place.ensures p.1),
      p.2,
    ))
    c.push_at_any-in-Map.ensures.shown

pub returns-in-Map-clause-unshown : goal.returns-in-Map-clause-unshown
returns-in-Map-clause-unshown g c =
    let told = g.F.Files.told c.args.files.now in
    let e = explaining_of c.args.explaining.now in
    let file = c.named_file-file in
    let reached = map_reached told e c.args.refusal.now c.in-Map.error c.in-Map.is c.requires.refused in
    let named = file.ensures.name ∙ ap (source_name (inputs_of (of_reasons e))) c.source.ensures in
    IfErr-weaker c.push_at_any-in-Map.result _ _ (left_unshown told (of_reasons e) _ _ _ reached (file.ensures.source ∙ c.source.ensures) named _ _ _ _) c.push_at_any-in-Map.ensures.unshown

pub returns-in-Load-clause-shown : goal.returns-in-Load-clause-shown
returns-in-Load-clause-shown g c =
    let told = g.F.Files.told c.args.files.now in
    let e = explaining_of c.args.explaining.now in
    let i = inputs_of (of_reasons e) in
    let file = c.named_file-file in
    let named = file.ensures.name ∙ ap (source_name i) c.source.ensures in
    let based = file.ensures.base ∙ ap (source_base (asked_of i)) c.source.ensures in
    on_ok_weaker c.push_load.result
    (λ p. (p.0, load_shown told e c.args.refusal.now file.result.name.now file.result.base.now named based p.0 c.in-Load.error c.in-Load.is p.1, p.2))
    c.push_load.ensures.shown

pub returns-in-Load-clause-unshown : goal.returns-in-Load-clause-unshown
returns-in-Load-clause-unshown g c =
    let told = g.F.Files.told c.args.files.now in
    let e = explaining_of c.args.explaining.now in
    let file = c.named_file-file in
    let reached = load_reached told e c.args.refusal.now c.in-Load.error c.in-Load.is in
    let named = file.ensures.name ∙ ap (source_name (inputs_of (of_reasons e))) c.source.ensures in
    IfErr-weaker c.push_load.result _ _ (left_unshown told (of_reasons e) _ _ _ reached (file.ensures.source ∙ c.source.ensures) named _ _ _ _) c.push_load.ensures.unshown
