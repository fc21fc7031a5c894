use Rattle.term_store.specs.Trees.{type_of}
use Rattle.unify.specs.View.{latest}
use Rattle.unify.proofs.HeadSteps.{head_type_other}
use Rattle.unify.proofs.heads.ty_head.Goals as goal

pub returns-in-None-clause-tree : goal.returns-in-None-clause-tree
returns-in-None-clause-tree c =
    head_type_other (latest c.args.store.now c.args.made.now) (type_of c.args.store.now c.args.id) c.in-None.ensures.none
