-- What the code holds before a token.
use Rattle.term_tokens.specs.Scopes.{scope_of}
use Rattle.label_tokens.specs.declared.scenes.Walk.{Walk}
use Rattle.label_tokens.specs.Scenes.{Scene}

-- where the token stands, the base and the prefixes in force, and the prefix of the token before it
abbrev pub scene_of : Walk → Scene
scene_of w = record { spot = w.spot; scope = scope_of w.prefixes; prefix = w.prefix.now }
