use Rattle.std.proofs.lemmas.Result.{IfOk-weaker}
use Rattle.nonconformance.proofs.Setting.{shape_is}
use Rattle.nonconformance.proofs.Told.{told_alone, told_counted, told_forced, told_named, told_some, told_sound, told_whole}
use Rattle.nonconformance.proofs.finding.reasons_of.Goals as goal

pub returns-clause-sound : goal.returns-clause-sound
returns-clause-sound g c =
    let is = shape_is c.args.schema.now c.args.pair.shape c.as_slice.result.now c.index-as_slice-pair.result c.as_slice.ensures c.requires.shape c.index-as_slice-pair.is in
    IfOk-weaker c.found_in.result _ _
    (λ v found. told_sound c.args.schema.now c.args.terms.now c.args.graph.now.triples (g.V.View.known c.args.view.now) c.args.pair _ is v.items
    (found c.args.terms.now c.requires.sealed) c.requires.loaded c.requires.fails c.bounds_are_kept.ensures.least c.bounds_are_kept.ensures.most c.box_holds_copies.ensures)
    c.found_in.ensures

pub returns-clause-some : goal.returns-clause-some
returns-clause-some g c =
    let is = shape_is c.args.schema.now c.args.pair.shape c.as_slice.result.now c.index-as_slice-pair.result c.as_slice.ensures c.requires.shape c.index-as_slice-pair.is in
    IfOk-weaker c.found_in.result _ _
    (λ v found. told_some c.args.schema.now c.args.terms.now c.args.graph.now.triples (g.V.View.known c.args.view.now) c.args.pair _ is v.items
    (found c.args.terms.now c.requires.sealed))
    c.found_in.ensures

pub returns-clause-whole : goal.returns-clause-whole
returns-clause-whole g c =
    let is = shape_is c.args.schema.now c.args.pair.shape c.as_slice.result.now c.index-as_slice-pair.result c.as_slice.ensures c.requires.shape c.index-as_slice-pair.is in
    IfOk-weaker c.found_in.result _ _
    (λ v found. told_whole c.args.schema.now c.args.terms.now c.args.graph.now.triples (g.V.View.known c.args.view.now) c.args.pair _ is v.items
    (found c.args.terms.now c.requires.sealed))
    c.found_in.ensures

pub returns-clause-counted : goal.returns-clause-counted
returns-clause-counted g c =
    let is = shape_is c.args.schema.now c.args.pair.shape c.as_slice.result.now c.index-as_slice-pair.result c.as_slice.ensures c.requires.shape c.index-as_slice-pair.is in
    IfOk-weaker c.found_in.result _ _
    (λ v found. told_counted c.args.schema.now c.args.terms.now c.args.graph.now.triples (g.V.View.known c.args.view.now) c.args.pair _ is v.items
    (found c.args.terms.now c.requires.sealed))
    c.found_in.ensures

pub returns-clause-alone : goal.returns-clause-alone
returns-clause-alone g c =
    let is = shape_is c.args.schema.now c.args.pair.shape c.as_slice.result.now c.index-as_slice-pair.result c.as_slice.ensures c.requires.shape c.index-as_slice-pair.is in
    IfOk-weaker c.found_in.result _ _
    (λ v found. told_alone c.args.schema.now c.args.terms.now c.args.graph.now.triples (g.V.View.known c.args.view.now) c.args.pair _ is v.items
    (found c.args.terms.now c.requires.sealed))
    c.found_in.ensures

pub returns-clause-forced : goal.returns-clause-forced
returns-clause-forced g c = λ forced.
    let is = shape_is c.args.schema.now c.args.pair.shape c.as_slice.result.now c.index-as_slice-pair.result c.as_slice.ensures c.requires.shape c.index-as_slice-pair.is in
    IfOk-weaker c.found_in.result _ _
    (λ v found. told_forced c.args.schema.now c.args.terms.now c.args.graph.now.triples (g.V.View.known c.args.view.now) c.args.pair _ is v.items
    (found c.args.terms.now c.requires.sealed) c.requires.loaded c.requires.fails c.interval_has_copies.ensures c.own_symbols_decide.ensures forced)
    c.found_in.ensures

pub returns-clause-named : goal.returns-clause-named
returns-clause-named g c = λ plain.
    let is = shape_is c.args.schema.now c.args.pair.shape c.as_slice.result.now c.index-as_slice-pair.result c.as_slice.ensures c.requires.shape c.index-as_slice-pair.is in
    IfOk-weaker c.found_in.result _ _
    (λ v found. told_named c.args.schema.now c.args.terms.now c.args.graph.now.triples (g.V.View.known c.args.view.now) c.args.pair _ is v.items
    (found c.args.terms.now c.requires.sealed) c.requires.loaded c.requires.fails plain)
    c.found_in.ensures
