use Rattle.std.proofs.Common.{◌≡◌, ℕ, List}
use Rattle.rdf_cursor.specs.Ahead.{count}
use Rattle.rdf_cursor.specs.Cursors.{ahead, source_in}
use Rattle.rdf_lex.specs.declared.kinds.Mode.TheVariants.{Schema}
use Rattle.label_tokens.specs.Scenes.{first_scene}
use Rattle.label_tokens.specs.Views.{scene_of}
use Rattle.label_tokens.proofs.Walking.{IsPassed}
use Rattle.label_tokens.proofs.walk.place_from.Given as goal

abbrev pub invariant-loop-token : goal.invariant-loop-token
invariant-loop-token l =
    ((base : List ℕ) → scene_of l.fn.walk ≡ first_scene base → IsPassed l.fn.sought.usage l.fn.sought.again base l.fn.sought.label.now l.fn.source (scene_of l.walk) l.met (ahead l.c))
    × (source_in l.c ≡ record { mode = Schema; text = l.fn.source })

abbrev pub decreases-loop-token : goal.decreases-loop-token
decreases-loop-token l = count (ahead l.c)
