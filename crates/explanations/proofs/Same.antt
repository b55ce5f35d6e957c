-- Subjects that a test of equality tells apart.
use Rattle.std.proofs.Common.{◌≡◌, Bool, true, ap, eq-eqb, refl, ◌&&◌, ℕ}
use Rattle.std.specs.Bool.{Decides}
use Rattle.std.proofs.lemmas.Bool.{and_parts, eqb-true}
use Rattle.explanations.specs.declared.subject.Subject.{Subject}
use Rattle.explanations.specs.declared.subject.Subject.TheVariants as Subjects
use Rattle.explanations.specs.contracts.subject.SubjectPartialEq.TheImpl.{ghosts}

both_and : (p q : Bool) → p ≡ true → q ≡ true → (p && q) ≡ true
both_and p q a b = rw (a, b) refl

abbrev pub same_subject : Subject → Subject → Bool
same_subject = ghosts.eq

pub subject_decides : (a b : Subject) → Decides (same_subject a b) (a ≡ b)
subject_decides (Subjects.Pair p) (Subjects.Pair q) =
    (there, (λ same. both_and _ _ (eq-eqb p.node.0 q.node.0 (ap node_in same)) (eq-eqb p.shape.0 q.shape.0 (ap shape_in same))))
  where
    there : same_subject (Subjects.Pair p) (Subjects.Pair q) ≡ true → Subjects.Pair p ≡ Subjects.Pair q
    there h =
        let parts = and_parts _ _ h in
        λ i. Subjects.Pair (record { node = record { 0 = eqb-true p.node.0 q.node.0 parts.0 i }; shape = record { 0 = eqb-true p.shape.0 q.shape.0 parts.1 i } })

    node_in : Subject → ℕ
    node_in (Subjects.Pair r) = r.node.0
    node_in (Subjects.Expr x y) = 0

    shape_in : Subject → ℕ
    shape_in (Subjects.Pair r) = r.shape.0
    shape_in (Subjects.Expr x y) = 0
subject_decides (Subjects.Pair p) (Subjects.Expr n e) = ((λ h. cc), (λ e. cc))
subject_decides (Subjects.Expr n e) (Subjects.Pair p) = ((λ h. cc), (λ e. cc))
subject_decides (Subjects.Expr n e) (Subjects.Expr m d) =
    (there, (λ same. both_and _ _ (eq-eqb n.0 m.0 (ap node_in same)) (eq-eqb e.0 d.0 (ap expr_in same))))
  where
    there : same_subject (Subjects.Expr n e) (Subjects.Expr m d) ≡ true → Subjects.Expr n e ≡ Subjects.Expr m d
    there h = let parts = and_parts _ _ h in λ i. Subjects.Expr (record { 0 = eqb-true n.0 m.0 parts.0 i }) (record { 0 = eqb-true e.0 d.0 parts.1 i })

    node_in : Subject → ℕ
    node_in (Subjects.Pair r) = 0
    node_in (Subjects.Expr x y) = x.0

    expr_in : Subject → ℕ
    expr_in (Subjects.Pair r) = 0
    expr_in (Subjects.Expr x y) = y.0
