use Rattle.std.proofs.Common.{[], ◌∙◌, ◌<◌, arith, ap, length, map, subst, suc}
use Rattle.std.proofs.lemmas.Option.{slice_get_within}
use Rattle.lists.proofs.Members.{in_map}
use Rattle.lists.proofs.Quantifiers.{all_of}
use Rattle.schema_tree.specs.Typings.{top_of}
use Rattle.removal_laws.specs.Marks.{known_by}
use Rattle.typing_refiner.specs.declared.removal.Removed.{Removed}
use Rattle.typing_refiner.specs.declared.strata_loop.Confirmed.{Confirmed}
use Rattle.typing_refiner.specs.Filing.{AreFiled, put_confirmed}
use Rattle.typing_refiner.proofs.CutOff.{cut_off, places_cut}
use Rattle.typing_refiner.proofs.Gathered.{gathered, gone_there}
use Rattle.typing_refiner.proofs.Shown.{all_narrow, none_inside}
use Rattle.typing_refiner.proofs.ground.Ground.evidence.Goals as goal

pub put_all_removed-requires : goal.put_all_removed-requires
put_all_removed-requires g c = record {
  there =
      all_of _ c.args.gone.items (λ v held. all_of (λ (x : Removed). x.at < length c.in_ok-kinds.kinds.items) v.items (λ x inside.
      let there = gone_there c.args.self.now (known_by (g.K.View.known c.args.kept.now) c.args.self.now.table.now []) (suc (top_of c.args.self.now.strata.now)) c.requires.shown.known
      (map (λ z. z.items) c.args.gone.items) c.requires.shown.are v.items x (in_map (λ z. z.items) c.args.gone.items v held) inside in
      let w = slice_get_within c.args.self.now.table.now x.at x.pair there in let e = c.in_ok-kinds.ensures.count in let n = c.len.ensures.count in
      let l : x.at < length c.in_ok-kinds.kinds.items = omega (arith, w, e, n) in l));
}

pub put_all_confirmed-requires : goal.put_all_confirmed-requires
put_all_confirmed-requires g c = record {
  there =
      all_of (λ (x : Confirmed). x.at < length c.put_all_removed.new.kinds.items) c.in_ok-confirmed.confirmed.items (λ x held.
      let (w, mark) = (c.in_ok-confirmed.ensures.numbers x.at).0 (in_map (λ z. z.at) c.in_ok-confirmed.confirmed.items x held) in
      let e = c.in_ok-kinds.ensures.count in let n = c.len.ensures.count in let s = c.put_all_removed.ensures.same in
      let l : x.at < length c.put_all_removed.new.kinds.items = omega (arith, w, e, n, s) in l);
}

pub records-requires-clause-each : goal.records-requires-clause-each
records-requires-clause-each g c = c.put_all_confirmed.ensures.same ∙ (c.put_all_removed.ensures.same ∙ (c.in_ok-kinds.ensures.count ∙ c.len.ensures.count))

pub confirmations-requires-clause-narrow : goal.confirmations-requires-clause-narrow
confirmations-requires-clause-narrow g c =
    all_narrow c.args.self.now c.requires.ready (g.K.View.known c.args.kept.now) (suc (top_of c.args.self.now.strata.now)) c.args.marks.now (map (λ x. x.items) c.args.gone.items) c.requires.shown

pub returns-clause-shown : goal.returns-clause-shown
returns-clause-shown g c = λ wanted closed.
    gathered c.args.self.now c.requires.ready wanted c.args.marks.now (map (λ z. z.items) c.args.gone.items) c.in_ok-confirmed.confirmed.items c.in_ok-kinds.kinds.items c.in_ok-kinds.ensures.empty
    (c.in_ok-kinds.ensures.count ∙ c.len.ensures.count) c.in_ok-confirmed.ensures.numbers c.in_ok-records.records.nodes.items c.in_ok-records.records.sections.items
    (subst (λ ks. AreFiled c.args.self.now.terms.now c.args.self.now.strata.now c.args.self.now.table.now ks c.in_ok-records.records.nodes.items c.in_ok-records.records.sections.items)
    (c.put_all_confirmed.ensures.put ∙ ap (put_confirmed c.in_ok-confirmed.confirmed.items) c.put_all_removed.ensures.put) c.in_ok-records.ensures)
    (cut_off c.args.self.now closed (g.K.View.known c.args.kept.now) (suc (top_of c.args.self.now.strata.now)) c.args.marks.now (map (λ z. z.items) c.args.gone.items)
    (none_inside (g.K.View.known c.args.kept.now) c.args.self.now.table.now) c.requires.shown)
    (places_cut c.args.self.now closed (g.K.View.known c.args.kept.now) c.args.marks.now c.in_ok-confirmed.confirmed.items c.in_ok-confirmed.ensures.places)
