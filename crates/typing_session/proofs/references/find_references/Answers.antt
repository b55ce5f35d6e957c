use Rattle.std.proofs.Common.{sym}
use Rattle.typing_session.specs.References.{AreReferences}
use Rattle.typing_session.proofs.Referring.{there_with}
use Rattle.typing_session.proofs.references.find_references.Goals as goal

pub returns-then-is_some-clause-found : goal.returns-then-is_some-clause-found
returns-then-is_some-clause-found c = there_with (AreReferences c.args.schema.now) c.args.place.now (sym c.if-is_some.ensures) c.requires.there
