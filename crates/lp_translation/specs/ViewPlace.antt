-- What is written at a place.
use Rattle.std.specs.Prelude.{List, Option}
use Rattle.lp_terms.specs.Term.{Lp}
use Rattle.zm_logic.specs.Tree as tree
use Rattle.lp_signature.specs.Translation.{Scope, type_of, term_of, form_of}
use Rattle.lp_signature.specs.View.{symbols_tree, scope_tree}
use Rattle.sequent_proof.specs.Rules.{RuleName}
use Rattle.lp_translation.specs.ProofOf.{Hypotheses}
use Rattle.lp_translation.specs.View.{hypotheses_of, plain_rule}
use Rattle.lp_translation.specs.declared.place.Place.{Place}

abbrev pub symbols_at : Place → List tree.Symbol
symbols_at p = symbols_tree p.symbols.now

abbrev pub scope_at : Place → Scope
scope_at p = scope_tree p.scope.now

abbrev pub hypotheses_at : Place → Hypotheses
hypotheses_at p = hypotheses_of p.facts.now

-- formulas, terms and types
abbrev pub written : Place → tree.Form → Lp
written p f = form_of (symbols_at p) (scope_at p) f

abbrev pub written_term : Place → tree.Term → Lp
written_term p u = term_of (symbols_at p) (scope_at p) u

abbrev pub written_type : Place → tree.Ty → Lp
written_type p t = type_of (symbols_at p) (scope_at p) 0 t

-- a formula above the rule
abbrev pub written_entered : Place → tree.Form → Lp
written_entered p f = form_of (symbols_at p) (scope_tree p.entered.now) f

-- the term of a rule
abbrev pub rule_at : Place → RuleName → tree.Form → Option tree.Form → Option tree.Opening → List Lp → Lp
rule_at p name a b w rs = plain_rule (symbols_at p) p.next (scope_at p) (hypotheses_at p) name a b w rs
