-- An instance that is too deep is the one of the quantified formula.
use Rattle.std.proofs.Common.{option_map, subst, rules}
use Rattle.term_store.specs.Trees.{form_of}
use Rattle.term_store.specs.Open.{part_of}
use Rattle.param_store.specs.Fault.{IfDeepAt}
use Rattle.param_store.specs.View.{quantified_of}
use Rattle.equality_rules.specs.Instances.{instance_of}
use Rattle.equality_rules.specs.Offered.{HasSome, NamesInstance}
use Rattle.equality_rules.proofs.Offers.{opened_names, instance_some}
use Rattle.equality_rules.proofs.instances.instance_of.Goals as goal

pub returns-in_err-opened-in-Some-as_quantified-clause-deep : goal.returns-in_err-opened-in-Some-as_quantified-clause-deep
returns-in_err-opened-in-Some-as_quantified-clause-deep c =
    let s = c.args.store.now in
    let t = c.opened.new.store in
    let acted = c.in-Some.acted in
    let q = quantified_of s c.in-Some-as_quantified.quantified in
    let w = part_of s c.args.with in
    let refused = c.in_err-opened-in-Some-as_quantified in
    let has = subst (HasSome s) c.in-Some.is c.requires.form in
    let same = instance_some s c.args.form acted q w c.in-Some.is c.in-Some-as_quantified.ensures.value in
    let names : IfDeepAt (NamesInstance t (instance_of (option_map (form_of s) c.args.form) w)) refused.field-0.0 =
    subst (λ os. IfDeepAt (NamesInstance t os) refused.field-0.0) same (opened_names s t refused.ensures.kept acted q w has refused.field-0.0 refused.ensures.deep) in
    search rules
