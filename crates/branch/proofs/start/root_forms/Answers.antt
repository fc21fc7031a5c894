use Rattle.std.proofs.Common.{sym, ap, ◌∙◌, get_or, [], ◌∷◌}
use Rattle.term_store.specs.Trees.{form_of}
use Rattle.branch.specs.Branch.{extend}
use Rattle.branch.specs.declared.tableau.Rooted.{Rooted}
use Rattle.branch.proofs.Begun.{normal_at, normals_front}
use Rattle.branch.proofs.start.root_forms.Goals as goal

abbrev none : Rooted
none = record { given = record { 0 = 0 }; normal = record { 0 = 0 } }

pub add-requires-clause-forms : goal.add-requires-clause-forms
add-requires-clause-forms c = c.loop-root.invariant.has

pub add-requires-clause-form : goal.add-requires-clause-form
add-requires-clause-form c = normal_at c.args.store.now c.args.roots.now c.loop-root.root-index none c.requires c.loop-root-test.true

pub loop-root-preserved : goal.loop-root-preserved
loop-root-preserved c =
    let s = c.args.store.now in
    let i = c.loop-root.root-index in
    record {
      added = c.in_ok-add.ensures.forms
          ∙ (ap (λ b. extend b (form_of s (get_or c.args.roots.now i none).normal ∷ [])) c.loop-root.invariant.added
          ∙ sym (normals_front s c.args.roots.now i none c.loop-root-test.true));
      has = c.in_ok-add.ensures.has;
    }
