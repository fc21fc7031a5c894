use Rattle.std.proofs.Common.{◌∙◌, ◌^◌, ◌-◌, ap, min, refl, true, false}
use Rattle.search.specs.Need.{leaves_as}
use Rattle.search.proofs.Counted.{and_tree, or_tree, implies_tree, iff_tree, product_of, sum_of}
use Rattle.search.proofs.measures.+leaves.Goals as goal

pub returns-in-And-clause-holds : goal.returns-in-And-clause-holds
returns-in-And-clause-holds t c =
    product_of true true c.get-in-And.result.now c.in-And.f c.get-in-And-2.result.now c.in-And.g _ _ _ _ c.get-in-And.ensures c.get-in-And-2.ensures c.conjunction.ensures.holds c.leaves-in-And.ensures.holds c.leaves-in-And-2.ensures.holds
    ∙ ap (λ x. min (leaves_as true x) (2 ^ 128 - 1)) (and_tree c.args.form.now c.in-And.f c.in-And.g c.in-And.is)

pub returns-in-Or-clause-fails : goal.returns-in-Or-clause-fails
returns-in-Or-clause-fails t c =
    product_of false false c.get-in-Or.result.now c.in-Or.f c.get-in-Or-2.result.now c.in-Or.g _ _ _ _ c.get-in-Or.ensures c.get-in-Or-2.ensures c.disjunction.ensures.fails c.leaves-in-Or.ensures.fails c.leaves-in-Or-2.ensures.fails
    ∙ ap (λ x. min (leaves_as false x) (2 ^ 128 - 1)) (or_tree c.args.form.now c.in-Or.f c.in-Or.g c.in-Or.is)

pub returns-in-Imp-clause-fails : goal.returns-in-Imp-clause-fails
returns-in-Imp-clause-fails t c =
    product_of true false c.get-in-Imp.result.now c.in-Imp.f c.get-in-Imp-2.result.now c.in-Imp.g _ _ _ _ c.get-in-Imp.ensures c.get-in-Imp-2.ensures c.disjunction-in-Imp.ensures.fails (c.negation-in-Imp.ensures.fails ∙ c.leaves-in-Imp.ensures.holds) c.leaves-in-Imp-2.ensures.fails
    ∙ ap (λ x. min (leaves_as false x) (2 ^ 128 - 1)) (implies_tree c.args.form.now c.in-Imp.f c.in-Imp.g c.in-Imp.is)

pub returns-in-Iff-clause-holds : goal.returns-in-Iff-clause-holds
returns-in-Iff-clause-holds t c =
    let p = product_of true true c.get-in-Iff.result.now c.in-Iff.f c.get-in-Iff-2.result.now c.in-Iff.g _ _ _ _ c.get-in-Iff.ensures c.get-in-Iff-2.ensures refl c.leaves-in-Iff.ensures.holds c.leaves-in-Iff-2.ensures.holds in
    let q = product_of false false c.get-in-Iff.result.now c.in-Iff.f c.get-in-Iff-2.result.now c.in-Iff.g _ _ _ _ c.get-in-Iff.ensures c.get-in-Iff-2.ensures refl c.leaves-in-Iff.ensures.fails c.leaves-in-Iff-2.ensures.fails in
    sum_of _ _ _ _ _ _ c.equivalence.ensures.holds p q
    ∙ ap (λ x. min (leaves_as true x) (2 ^ 128 - 1)) (iff_tree c.args.form.now c.in-Iff.f c.in-Iff.g c.in-Iff.is)

pub returns-in-Iff-clause-fails : goal.returns-in-Iff-clause-fails
returns-in-Iff-clause-fails t c =
    let p = product_of true false c.get-in-Iff.result.now c.in-Iff.f c.get-in-Iff-2.result.now c.in-Iff.g _ _ _ _ c.get-in-Iff.ensures c.get-in-Iff-2.ensures refl c.leaves-in-Iff.ensures.holds c.leaves-in-Iff-2.ensures.fails in
    let q = product_of false true c.get-in-Iff.result.now c.in-Iff.f c.get-in-Iff-2.result.now c.in-Iff.g _ _ _ _ c.get-in-Iff.ensures c.get-in-Iff-2.ensures refl c.leaves-in-Iff.ensures.fails c.leaves-in-Iff-2.ensures.holds in
    sum_of _ _ _ _ _ _ c.equivalence.ensures.fails p q
    ∙ ap (λ x. min (leaves_as false x) (2 ^ 128 - 1)) (iff_tree c.args.form.now c.in-Iff.f c.in-Iff.g c.in-Iff.is)
