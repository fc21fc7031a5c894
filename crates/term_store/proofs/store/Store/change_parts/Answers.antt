-- What was made stays while more is made.
use Rattle.std.proofs.Common.{◌<◌, ap, subst, max, arith, rules}
use Rattle.zm_logic.specs.Measure.{types_depth, terms_depth}
use Rattle.term_store.specs.Node.{types_at, terms_at}
use Rattle.term_store.specs.Trees.{all_trees}
use Rattle.term_store.specs.Change.{changed_types, changed_terms, change_of, AreTermIds}
use Rattle.term_store.specs.Fault.{IfTooDeep}
use Rattle.term_store.proofs.Kept.{still_terms}
use Rattle.term_store.proofs.Stays.{type_ids_stay, if_deeper}
use Rattle.term_store.proofs.Changes.{change_stays, terms_goal}
use Rattle.term_store.proofs.store.Store.change_parts.Goals as goal

pub change_terms-requires : goal.change_terms-requires
change_terms-requires c =
    let s = c.args.self.now in
    let m = c.change_tys.new.self in
    let kept = c.in_ok-types.ensures.kept in
    record {
      below = still_terms s m kept c.args.terms.now c.requires.terms_below;
      part = change_stays s m kept c.args.change.now c.requires.part;
      knows = c.in_ok-types.ensures.knows;
    }

pub returns-in_err-terms-clause-deep : goal.returns-in_err-terms-clause-deep
returns-in_err-terms-clause-deep c =
    let s = c.args.self.now in
    let m = c.change_tys.new.self in
    let k = c.args.at in
    let same = ap terms_depth (terms_goal s m c.in_ok-types.ensures.kept c.args.change.now c.requires.part k c.args.terms.now c.requires.terms_below) in
    let types = types_depth (changed_types k (change_of s c.args.change.now) (types_at (all_trees s).types c.args.types.now)) in
    let terms = terms_depth (changed_terms k (change_of s c.args.change.now) (terms_at (all_trees s).terms c.args.terms.now)) in
    let deep : IfTooDeep (2000 < max types terms) c.in_err-terms.field-0.0 =
    if_deeper (2000 < terms_depth (changed_terms k (change_of m c.args.change.now) (terms_at (all_trees m).terms c.args.terms.now))) _ (λ h. omega (arith, h, same)) c.in_err-terms.field-0.0 c.in_err-terms.ensures.deep in
    search rules

pub returns-clause-made : goal.returns-clause-made
returns-clause-made c =
    let goal = changed_types c.args.at (change_of c.args.self.now c.args.change.now) (types_at (all_trees c.args.self.now).types c.args.types.now) in
    type_ids_stay c.change_tys.new.self c.change_terms.new.self c.in_ok-terms.ensures.kept goal c.in_ok-types.types c.in_ok-types.ensures.made

pub returns-clause-made_terms : goal.returns-clause-made_terms
returns-clause-made_terms c =
    let same = terms_goal c.args.self.now c.change_tys.new.self c.in_ok-types.ensures.kept c.args.change.now c.requires.part c.args.at c.args.terms.now c.requires.terms_below in
    subst (λ xs. AreTermIds c.change_terms.new.self xs c.in_ok-terms.terms) same c.in_ok-terms.ensures.made
