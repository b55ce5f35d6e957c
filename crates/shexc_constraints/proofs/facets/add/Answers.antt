use Rattle.std.proofs.Common.{◌≡◌, ◌++◌, ◌∷◌, [], rules, subst, sym}
use Rattle.std.specs.Option.{option_copied}
use Rattle.node_constraint.specs.Making.{IsSound}
use Rattle.shexc_constraints.proofs.Admitted.{sound_more}
use Rattle.shexc_constraints.proofs.facets.add.Goals as goal

pub returns-clause-sound : goal.returns-clause-sound
returns-clause-sound c =
    let items : c.push.new.self.items ≡ c.args.fs.now.items ++ c.args.facet ∷ [] = search rules in
    subst (IsSound (option_copied c.args.datatype)) (sym items) (sound_more (option_copied c.args.datatype) c.args.fs.now.items c.args.facet c.requires.so_far c.in_ok-admit.ensures.sound)
