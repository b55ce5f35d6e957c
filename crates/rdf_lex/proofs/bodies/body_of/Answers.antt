use Rattle.rdf_lex.proofs.Enclosing.{iri_of, name_of}
use Rattle.rdf_lex.proofs.bodies.body_of.Goals as goal

pub enclosed-requires : goal.enclosed-requires
enclosed-requires c = (c.requires.0, iri_of c.args.token.kind _ _ c.in-IriRef.is c.requires.1)

pub returns-in-IriRef : goal.returns-in-IriRef
returns-in-IriRef c = λ body h. c.enclosed.ensures body (iri_of c.args.token.kind _ _ c.in-IriRef.is h)

pub returns-in-PnameNs : goal.returns-in-PnameNs
returns-in-PnameNs c = λ body h. c.behind_colon.ensures body (name_of c.args.token.kind _ _ c.in-PnameNs.is h)
