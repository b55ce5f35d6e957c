use Rattle.std.proofs.Common.{inl, inr}
use Rattle.schema_load.proofs.nexts.target_of.Goals as goal

pub unreachable-requires : goal.unreachable-requires
unreachable-requires c = c.requires.there (c.in-Ref.label, inl (c.in-Ref.is, c.find_declared.ensures.none c.in-None.is))

pub unreachable-requires-in-None-find_named : goal.unreachable-requires-in-None-find_named
unreachable-requires-in-None-find_named c = c.requires.there (c.in-Include.label, inr (c.in-Triple.triple, c.in-Triple.is, c.in-Include.is, c.find_named.ensures.none c.in-None-find_named.is))
