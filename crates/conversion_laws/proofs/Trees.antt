-- The trees that rules of ShExC make of their parts have a form in ShExJ where their parts have.
use Rattle.std.proofs.Common.{◌≡◌, Bool, true, false, true≢false, ℕ, cond, List, [], ◌∷◌, ◌++◌, Option, Some, None, refl, subst}
use Rattle.std.specs.Prelude.{◌≢◌}
use Rattle.std.proofs.lemmas.Bool.{false≢true}
use Rattle.rdf_cursor.specs.Ahead.{Ahead}
use Rattle.rdf_cursor.specs.Phrases.{Phrase}
use Rattle.rdf_cursor.specs.declared.symbols.Symbol.{Symbol}
use Rattle.rdf_lex.specs.Tokens.{Spelled}
use Rattle.tally.specs.Plan.{is_once}
use Rattle.tally.specs.Span.{IsOrdered}
use Rattle.tally.specs.declared.Bound.{Bound}
use Rattle.schema_documents.specs.declared.label.Label.{Label}
use Rattle.schema_documents.specs.Tree.{Declaration, ShapeExpr, ShapeExprs, TripleBody, TripleExpr, TripleExprs, arc, each, exprs, include, more_exprs, more_triples, no_exprs, no_triples, one, triple, triples}
use Rattle.shexc_reader.specs.Grammar as g
use Rattle.shexc_reader.specs.Trees.{Cardinality, all_of, any_of, body_in, both, bracketed, each_of, is_bare, is_inclusion, once, one_of, with}
use Rattle.shexc_reader.proofs.Ordered.{many_keep}
use Rattle.shexj_writer.specs.Expressible.{AreExpressible, AreExpressibleDecls, AreExpressibleTriples, IsExpressible, IsExpressibleBody, IsExpressibleTriple, IsLabel, IsLabelIfAny}
use Rattle.conversion_laws.proofs.Cardinalities.{IsOrderedIfAny, at_once}
use Rattle.conversion_laws.proofs.Values.{one_more}

-- ---- lists of expressions

some_exprs : (e : ShapeExpr) (es : ShapeExprs) → more_exprs e es ≢ no_exprs
some_exprs e es is = cc

some_triples : (t : TripleExpr) (ts : TripleExprs) → more_triples t ts ≢ no_triples
some_triples t ts is = cc

expr_more : (xs : List ShapeExpr) (x : ShapeExpr) → AreExpressible (exprs xs) → IsExpressible x → AreExpressible (exprs (xs ++ x ∷ []))
expr_more [] x h k = (k, tt)
expr_more (y ∷ ys) x (h, hs) k = (h, expr_more ys x hs k)

triple_more : (xs : List TripleExpr) (x : TripleExpr) → AreExpressibleTriples (triples xs) → IsExpressibleTriple x → AreExpressibleTriples (triples (xs ++ x ∷ []))
triple_more [] x h k = (k, tt)
triple_more (y ∷ ys) x (h, hs) k = (h, triple_more ys x hs k)

pub decl_more : (xs : List Declaration) (x : Declaration) → AreExpressibleDecls xs → IsLabel x.label → IsExpressible x.expr → AreExpressibleDecls (xs ++ x ∷ [])
decl_more [] x h l k = ((l, k), tt)
decl_more (y ∷ ys) x (h, hs) l k = (h, decl_more ys x hs l k)

-- members with a mark between them: there are some
abbrev pub AreMembers : List ShapeExpr → Type 0
AreMembers es = (es ≢ []) × AreExpressible (exprs es)

abbrev pub AreParts : List TripleExpr → Type 0
AreParts ts = (ts ≢ []) × AreExpressibleTriples (triples ts)

member_more : (xs : List ShapeExpr) (x : ShapeExpr) → AreExpressible (exprs xs) → IsExpressible x → AreMembers (xs ++ x ∷ [])
member_more xs x h k = (one_more xs x, expr_more xs x h k)

part_more : (xs : List TripleExpr) (x : TripleExpr) → AreExpressibleTriples (triples xs) → IsExpressibleTriple x → AreParts (xs ++ x ∷ [])
part_more xs x h k = (one_more xs x, triple_more xs x h k)

pub exprs_separated : (a : Symbol) (One : ShapeExpr → Phrase Spelled) → ((x : ShapeExpr) (ts r : Ahead Spelled) → One x ts r → IsExpressible x) →
    (es : List ShapeExpr) (ts r : Ahead Spelled) → g.Separated a One es ts r → AreMembers es
exprs_separated a One every es ts r (xs, (m, (x, e, h), others)) =
    many_keep AreMembers _ (λ s y k l o p. subst AreMembers o.2.1 (member_more s o.2.0 p.1 (every o.2.0 o.0 l o.2.2))) xs es m r others
    (subst AreMembers e (member_more [] x tt (every x ts m h)))

pub triples_separated : (a : Symbol) (One : TripleExpr → Phrase Spelled) → ((x : TripleExpr) (ts r : Ahead Spelled) → One x ts r → IsExpressibleTriple x) →
    (es : List TripleExpr) (ts r : Ahead Spelled) → g.Separated a One es ts r → AreParts es
triples_separated a One every es ts r (xs, (m, (x, e, h), others)) =
    many_keep AreParts _ (λ s y k l o p. subst AreParts o.2.1 (part_more s o.2.0 p.1 (every o.2.0 o.0 l o.2.2))) xs es m r others
    (subst AreParts e (part_more [] x tt (every x ts m h)))

-- ---- joins and groups

pub both_form : (a b : ShapeExpr) → IsExpressible a → IsExpressible b → IsExpressible (both a b)
both_form a b h k = (some_exprs a (more_exprs b no_exprs), (h, (k, tt)))

pub all_form : (es : List ShapeExpr) → AreMembers es → IsExpressible (all_of es)
all_form [] (some, h) = absurd (some refl)
all_form (e ∷ []) (some, h) = h.0
all_form (e ∷ f ∷ es) (some, h) = (some_exprs e (exprs (f ∷ es)), h)

pub any_form : (es : List ShapeExpr) → AreMembers es → IsExpressible (any_of es)
any_form [] (some, h) = absurd (some refl)
any_form (e ∷ []) (some, h) = h.0
any_form (e ∷ f ∷ es) (some, h) = (some_exprs e (exprs (f ∷ es)), h)

pub each_form : (us : List TripleExpr) → AreParts us → IsExpressibleTriple (each_of us)
each_form [] (some, h) = absurd (some refl)
each_form (t ∷ []) (some, h) = h.0
each_form (t ∷ u ∷ us) (some, h) = (tt, (at_once, (some_triples t (triples (u ∷ us)), h)))

pub one_form : (us : List TripleExpr) → AreParts us → IsExpressibleTriple (one_of us)
one_form [] (some, h) = absurd (some refl)
one_form (t ∷ []) (some, h) = h.0
one_form (t ∷ u ∷ us) (some, h) = (tt, (at_once, (some_triples t (triples (u ∷ us)), h)))

-- ---- a triple expression in brackets

-- what is no inclusion may have any label and any cardinality
body_again : (b : TripleBody) (name l : Option Label) (low k : ℕ) (high m : Bound) → is_inclusion b ≡ false → IsExpressibleBody b name low high → IsExpressibleBody b l k m
body_again (each ts) name l low k high m e h = h
body_again (one ts) name l low k high m e h = h
body_again (arc inverse p value) name l low k high m e h = h
body_again (include target) name l low k high m e h = absurd (true≢false e)

no_inclusion : (b c : Bool) → cond b false c ≡ true → b ≡ false
no_inclusion true c e = absurd (false≢true e)
no_inclusion false c e = refl

bare_form : (l : Option Label) (c : Cardinality) (t : TripleExpr) → is_bare t ≡ true → IsLabelIfAny l → IsOrdered c.0 c.1 → IsExpressibleTriple t → IsExpressibleTriple (with l c (body_in t))
bare_form l c (triple (Some name) least most b) bare named ordered h = absurd (false≢true bare)
bare_form l c (triple None least most b) bare named ordered h =
    (named, (ordered, body_again b None l least c.0 most c.1 (no_inclusion (is_inclusion b) (is_once least most) bare) h.1.1))

labelled_by : (b : Bool) (l : Option Label) (c : Cardinality) (t : TripleExpr) → is_bare t ≡ b → IsLabelIfAny l → IsOrdered c.0 c.1 → IsExpressibleTriple t →
    IsExpressibleTriple (cond b (with l c (body_in t)) (with l c (each (triples (t ∷ [])))))
labelled_by true l c t bare named ordered h = bare_form l c t bare named ordered h
labelled_by false l c t bare named ordered h = (named, (ordered, (some_triples t no_triples, (h, tt))))

pub bracketed_form : (l : Option Label) (o : Option Cardinality) (t : TripleExpr) → IsLabelIfAny l → IsOrderedIfAny o → IsExpressibleTriple t → IsExpressibleTriple (bracketed l o t)
bracketed_form None None t named h k = k
bracketed_form (Some l) None t named h k = labelled_by (is_bare t) (Some l) once t refl named at_once k
bracketed_form None (Some c) t named h k = labelled_by (is_bare t) None c t refl named (h c refl) k
bracketed_form (Some l) (Some c) t named h k = labelled_by (is_bare t) (Some l) c t refl named (h c refl) k
