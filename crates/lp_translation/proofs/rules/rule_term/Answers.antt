use Rattle.std.proofs.Common.{◌≡◌, IfOk, ap, subst}
use Rattle.std.specs.Option.{option_map}
use Rattle.lp_terms.specs.Term.{Lp}
use Rattle.lp_terms.specs.View.{term_of}
use Rattle.zm_logic.specs.View.{form_tree}
use Rattle.sequent_proof.specs.View.{name_of, part_of, trees_of}
use Rattle.lp_translation.proofs.BuildingTerms.{not_not_at, not_or_at, not_imp_at, not_and_at, not_iff_at, eq_pred_at, eq_pred_count, eq_fun_at, eq_fun_count}
use Rattle.lp_translation.proofs.rules.rule_term.Goals as goal

pub eq_pred_rule-requires-clause-arguments : goal.eq_pred_rule-requires-clause-arguments
eq_pred_rule-requires-clause-arguments c =
    let node = c.args.node.now in
    eq_pred_count c.args.place.now (form_tree node.first.now) (option_map form_tree node.second.now) (option_map part_of node.with.now)
    node.children.now (name_of node.name) c.requires.node (ap name_of c.in-EqPred.is)

pub eq_fun_rule-requires-clause-arguments : goal.eq_fun_rule-requires-clause-arguments
eq_fun_rule-requires-clause-arguments c =
    let node = c.args.node.now in
    eq_fun_count c.args.place.now (form_tree node.first.now) (option_map form_tree node.second.now) (option_map part_of node.with.now)
    node.children.now (name_of node.name) c.requires.node (ap name_of c.in-EqFun.is)

pub returns-in-NotNot : goal.returns-in-NotNot
returns-in-NotNot c =
    let node = c.args.node.now in
    subst (λ (value : Lp). IfOk c.not_not_rule.result (λ t. term_of t ≡ value))
    (not_not_at c.args.place.now (form_tree node.first.now) (option_map form_tree node.second.now) (option_map part_of node.with.now)
    (trees_of node.children.now) c.args.rs.now (name_of node.name) c.requires.node c.requires.enough c.index-rs-0.result (ap name_of c.in-NotNot.is) c.index-rs-0.is)
    c.not_not_rule.ensures

pub returns-in-NotOr : goal.returns-in-NotOr
returns-in-NotOr c =
    let node = c.args.node.now in
    subst (λ (value : Lp). IfOk c.not_or_rule.result (λ t. term_of t ≡ value))
    (not_or_at c.args.place.now (form_tree node.first.now) (option_map form_tree node.second.now) (option_map part_of node.with.now)
    (trees_of node.children.now) c.args.rs.now (name_of node.name) c.requires.node c.requires.enough c.index-rs-0-in-NotOr.result (ap name_of c.in-NotOr.is) c.index-rs-0-in-NotOr.is)
    c.not_or_rule.ensures

pub returns-in-NotImp : goal.returns-in-NotImp
returns-in-NotImp c =
    let node = c.args.node.now in
    subst (λ (value : Lp). IfOk c.not_imp_rule.result (λ t. term_of t ≡ value))
    (not_imp_at c.args.place.now (form_tree node.first.now) (option_map form_tree node.second.now) (option_map part_of node.with.now)
    (trees_of node.children.now) c.args.rs.now (name_of node.name) c.requires.node c.requires.enough c.index-rs-0-in-NotImp.result (ap name_of c.in-NotImp.is) c.index-rs-0-in-NotImp.is)
    c.not_imp_rule.ensures

pub returns-in-NotAnd : goal.returns-in-NotAnd
returns-in-NotAnd c =
    let node = c.args.node.now in
    subst (λ (value : Lp). IfOk c.not_and_rule.result (λ t. term_of t ≡ value))
    (not_and_at c.args.place.now (form_tree node.first.now) (option_map form_tree node.second.now) (option_map part_of node.with.now)
    (trees_of node.children.now) c.args.rs.now (name_of node.name) c.requires.node c.requires.enough c.index-rs-0-in-NotAnd.result c.index-rs-1-in-NotAnd.result (ap name_of c.in-NotAnd.is) c.index-rs-0-in-NotAnd.is c.index-rs-1-in-NotAnd.is)
    c.not_and_rule.ensures

pub returns-in-NotIff : goal.returns-in-NotIff
returns-in-NotIff c =
    let node = c.args.node.now in
    subst (λ (value : Lp). IfOk c.not_iff_rule.result (λ t. term_of t ≡ value))
    (not_iff_at c.args.place.now (form_tree node.first.now) (option_map form_tree node.second.now) (option_map part_of node.with.now)
    (trees_of node.children.now) c.args.rs.now (name_of node.name) c.requires.node c.requires.enough c.index-rs-0-in-NotIff.result c.index-rs-1-in-NotIff.result (ap name_of c.in-NotIff.is) c.index-rs-0-in-NotIff.is c.index-rs-1-in-NotIff.is)
    c.not_iff_rule.ensures

pub returns-in-EqPred : goal.returns-in-EqPred
returns-in-EqPred c =
    let node = c.args.node.now in
    subst (λ (value : Lp). IfOk c.eq_pred_rule.result (λ t. term_of t ≡ value))
    (eq_pred_at c.args.place.now (form_tree node.first.now) (option_map form_tree node.second.now) (option_map part_of node.with.now)
    (trees_of node.children.now) c.args.rs.now (name_of node.name) c.requires.node c.requires.enough (ap name_of c.in-EqPred.is))
    c.eq_pred_rule.ensures

pub returns-in-EqFun : goal.returns-in-EqFun
returns-in-EqFun c =
    let node = c.args.node.now in
    subst (λ (value : Lp). IfOk c.eq_fun_rule.result (λ t. term_of t ≡ value))
    (eq_fun_at c.args.place.now (form_tree node.first.now) (option_map form_tree node.second.now) (option_map part_of node.with.now)
    (trees_of node.children.now) c.args.rs.now (name_of node.name) c.requires.node c.requires.enough (ap name_of c.in-EqFun.is))
    c.eq_fun_rule.ensures
