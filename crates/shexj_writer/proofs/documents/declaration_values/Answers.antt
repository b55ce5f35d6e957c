use Rattle.std.proofs.Common.{◌∙◌, arith}
use Rattle.shexj_writer.proofs.Lists.{IsHeldDecl, all_taken, all_written, decl_data, decls_are, decls_held}
use Rattle.shexj_writer.proofs.documents.declaration_values.Goals as goal

pub returns-clause-values : goal.returns-clause-values
returns-clause-values c =
    all_written decl_data c.args.decls.now c.loop-decl.all.items c.loop-decl.decl-index (omega arith) c.loop-decl.invariant.0 ∙ decls_are c.args.decls.now

pub returns-clause-held : goal.returns-clause-held
returns-clause-held c =
    decls_held c.args.decls.now (all_taken IsHeldDecl c.args.decls.now c.loop-decl.decl-index (omega arith) c.loop-decl.invariant.1)
