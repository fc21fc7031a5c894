-- The prelude is a well-formed signature.
use Rattle.std.proofs.Common.{ℕ, ◌≡◌, max, List, [], ◌∷◌, ◌++◌, false, codes, refl, arith}
use Rattle.lp_terms.specs.Term.{Lp, HasNoFree}
use Rattle.lp_terms.specs.Term as lp
use Rattle.lp_terms.specs.Measure.{free_bound}
use Rattle.lp_terms.specs.Signature.{Entry, Holds, Extends, HaveNoFree}
use Rattle.lp_terms.specs.Signature as sig
use Rattle.lp_terms.specs.Reduction.{instance_at}
use Rattle.lp_terms.specs.Typing.{Context, Class, Has}
use Rattle.lp_terms.specs.Typing as ty
use Rattle.lp_terms.specs.WellFormed.{IsWellFormedEntry, HaveType, rule_context, rule_variables}
use Rattle.lp_terms.specs.WellFormed as wf
use Rattle.lp_signature.specs.Prelude.{prop, prf, types, term, connective_type, quantifier_type, type_quantifier_type, prop_entry, prf_entry, type_entry, term_entry, iota_entry, any_entry, eq_entry, true_rule, false_rule, not_rule, and_rule, or_rule, imp_rule, iff_rule, forall_rule, exists_rule, forall_type_rule, eq_rule, nnpp_entry, exists_type_entry, exists_type_rule, symbols, rules}
use Rattle.lp_signature.specs.Laws.{PreludeIsWellFormed}
use Rattle.lp_terms.proofs.Binders.{arrow_type}
use Rattle.lp_signature.proofs.Logic as logic
use Rattle.lp_signature.proofs.Logic.{extends_append}

-- the first symbols, for the types of the others
abbrev base : List Entry
base = prop_entry ∷ prf_entry ∷ type_entry ∷ term_entry ∷ []

module _ (sigma : List Entry) (h : Extends base sigma) where
  prop_sort : (g : Context) → Has sigma g prop (Class.of Lp.sort)
  prop_sort g = ty.Has.constant (sig.Declares.declared (h _ sig.Holds.first))

  types_sort : (g : Context) → Has sigma g types (Class.of Lp.sort)
  types_sort g = ty.Has.constant (sig.Declares.declared (h _ (sig.Holds.later (sig.Holds.later sig.Holds.first))))

  term_sort : {g : Context} {a : Lp} → Has sigma g a (Class.of types) → Has sigma g (term a) (Class.of Lp.sort)
  term_sort p = ty.Has.application (ty.Has.constant (sig.Declares.declared (h _ (sig.Holds.later (sig.Holds.later (sig.Holds.later sig.Holds.first)))))) p

  type_iota : IsWellFormedEntry sigma iota_entry
  type_iota = wf.IsWellFormedEntry.declare (types_sort _) ty.IsSort.is_type

  type_any : IsWellFormedEntry sigma any_entry
  type_any = wf.IsWellFormedEntry.declare (ty.Has.product 0 (types_sort _) (λ n le. term_sort (ty.Has.variable ty.Binds.here)) ty.IsSort.is_type) ty.IsSort.is_type

  constant : (name : List ℕ) → IsWellFormedEntry sigma (Entry.declare name false prop)
  constant name = wf.IsWellFormedEntry.declare (prop_sort _) ty.IsSort.is_type

  unary : (name : List ℕ) → IsWellFormedEntry sigma (Entry.declare name false (Lp.prod prop prop))
  unary name = wf.IsWellFormedEntry.declare (arrow_type (prop_sort _) (prop_sort _) ty.IsSort.is_type) ty.IsSort.is_type

  binary : (name : List ℕ) → IsWellFormedEntry sigma (Entry.declare name false connective_type)
  binary name = wf.IsWellFormedEntry.declare (arrow_type (prop_sort _) (arrow_type (prop_sort _) (prop_sort _) ty.IsSort.is_type) ty.IsSort.is_type) ty.IsSort.is_type

  quantifier : (name : List ℕ) → IsWellFormedEntry sigma (Entry.declare name false quantifier_type)
  quantifier name = wf.IsWellFormedEntry.declare (ty.Has.product 0 (types_sort _) (λ n le.
      arrow_type (arrow_type (term_sort (ty.Has.variable ty.Binds.here)) (prop_sort _) ty.IsSort.is_type) (prop_sort _) ty.IsSort.is_type) ty.IsSort.is_type) ty.IsSort.is_type

  type_quantifier : (name : List ℕ) → IsWellFormedEntry sigma (Entry.declare name false type_quantifier_type)
  type_quantifier name = wf.IsWellFormedEntry.declare (arrow_type (arrow_type (types_sort _) (prop_sort _) ty.IsSort.is_type) (prop_sort _) ty.IsSort.is_type) ty.IsSort.is_type

  equality : IsWellFormedEntry sigma eq_entry
  equality = wf.IsWellFormedEntry.declare (ty.Has.product 0 (types_sort _) (λ n le.
      let v : Has sigma (Context.bind n types Context.empty) (term (Lp.free n)) (Class.of Lp.sort) = term_sort (ty.Has.variable ty.Binds.here) in
      arrow_type v (arrow_type v (prop_sort _) ty.IsSort.is_type) ty.IsSort.is_type) ty.IsSort.is_type) ty.IsSort.is_type

-- free variables of the terms
abbrev terms_free : List Lp → ℕ
terms_free [] = 0
terms_free (t ∷ ts) = max (free_bound t) (terms_free ts)

no_free : (t : Lp) → free_bound t ≡ 0 → HasNoFree t
no_free Lp.sort h x = lp.IsFresh.sort
no_free (Lp.const name) h x = lp.IsFresh.const
no_free (Lp.free n) h x = absurd (grind arith)
no_free (Lp.index i) h x = lp.IsFresh.index
no_free (Lp.app f a) h x = lp.IsFresh.app (no_free f (omega arith) x) (no_free a (omega arith) x)
no_free (Lp.abs a b) h x = lp.IsFresh.abs (no_free a (omega arith) x) (no_free b (omega arith) x)
no_free (Lp.prod a b) h x = lp.IsFresh.prod (no_free a (omega arith) x) (no_free b (omega arith) x)

none_free : (ts : List Lp) → terms_free ts ≡ 0 → HaveNoFree ts
none_free [] h = tt
none_free (t ∷ ts) h = (no_free t (omega arith), none_free ts (omega arith))

module _ (sigma : List Entry) (h : Extends symbols sigma) where
  -- a rule for proofs
  by_prf : {p right : Lp} (context : List Lp) → max (terms_free context) (max (free_bound (prf p)) (free_bound right)) ≡ 0 →
      HaveType sigma context 0 [] Context.empty →
      Has sigma (rule_context context 0 [] Context.empty) (instance_at 0 (rule_variables context 0 []) (prf p)) (Class.of Lp.sort) →
      Has sigma (rule_context context 0 [] Context.empty) (instance_at 0 (rule_variables context 0 []) right) (Class.of Lp.sort) →
      IsWellFormedEntry sigma (Entry.rule context (prf p) right)
  by_prf {p} {right} context e types left_type right_type = wf.IsWellFormedEntry.rule (codes "prf") Lp.sort
      (none_free context (omega arith)) (no_free (prf p) (omega arith)) (no_free right (omega arith)) types
      refl (wf.IsByDef.declared (h _ (sig.Holds.later sig.Holds.first))) left_type right_type

  true_rule_is_well_formed : IsWellFormedEntry sigma true_rule
  true_rule_is_well_formed = by_prf _ refl tt
      (logic.prf_type sigma h (logic.const_true sigma h _))
      (logic.arrow sigma h (logic.prf_type sigma h (logic.const_false sigma h _)) (logic.prf_type sigma h (logic.const_false sigma h _)))

  false_rule_is_well_formed : IsWellFormedEntry sigma false_rule
  false_rule_is_well_formed = by_prf _ refl tt
      (logic.prf_type sigma h (logic.const_false sigma h _))
      (logic.false_right_type sigma h _)

  not_rule_is_well_formed : IsWellFormedEntry sigma not_rule
  not_rule_is_well_formed = by_prf _ refl ((logic.const_prop sigma h _), tt)
      (logic.prf_type sigma h (logic.not_type sigma h (ty.Has.variable ty.Binds.here)))
      (logic.arrow sigma h (logic.prf_type sigma h (ty.Has.variable ty.Binds.here)) (logic.prf_type sigma h (logic.const_false sigma h _)))

  and_rule_is_well_formed : IsWellFormedEntry sigma and_rule
  and_rule_is_well_formed = by_prf _ refl ((logic.const_prop sigma h _), ((logic.const_prop sigma h _), tt))
      (logic.prf_type sigma h (logic.and_type sigma h (ty.Has.variable (ty.Binds.outside ty.Binds.here)) (ty.Has.variable ty.Binds.here)))
      (logic.and_right_type sigma h (ty.Has.variable (ty.Binds.outside ty.Binds.here)) (ty.Has.variable ty.Binds.here))

  or_rule_is_well_formed : IsWellFormedEntry sigma or_rule
  or_rule_is_well_formed = by_prf _ refl ((logic.const_prop sigma h _), ((logic.const_prop sigma h _), tt))
      (logic.prf_type sigma h (logic.or_type sigma h (ty.Has.variable (ty.Binds.outside ty.Binds.here)) (ty.Has.variable ty.Binds.here)))
      (logic.or_right_type sigma h (ty.Has.variable (ty.Binds.outside ty.Binds.here)) (ty.Has.variable ty.Binds.here))

  imp_rule_is_well_formed : IsWellFormedEntry sigma imp_rule
  imp_rule_is_well_formed = by_prf _ refl ((logic.const_prop sigma h _), ((logic.const_prop sigma h _), tt))
      (logic.prf_type sigma h (logic.imp_type sigma h (ty.Has.variable (ty.Binds.outside ty.Binds.here)) (ty.Has.variable ty.Binds.here)))
      (logic.arrow sigma h (logic.prf_type sigma h (ty.Has.variable (ty.Binds.outside ty.Binds.here))) (logic.prf_type sigma h (ty.Has.variable ty.Binds.here)))

  iff_rule_is_well_formed : IsWellFormedEntry sigma iff_rule
  iff_rule_is_well_formed = by_prf _ refl ((logic.const_prop sigma h _), ((logic.const_prop sigma h _), tt))
      (logic.prf_type sigma h (logic.iff_type sigma h (ty.Has.variable (ty.Binds.outside ty.Binds.here)) (ty.Has.variable ty.Binds.here)))
      (logic.prf_type sigma h (logic.and_type sigma h (logic.imp_type sigma h (ty.Has.variable (ty.Binds.outside ty.Binds.here)) (ty.Has.variable ty.Binds.here)) (logic.imp_type sigma h (ty.Has.variable ty.Binds.here) (ty.Has.variable (ty.Binds.outside ty.Binds.here)))))

  forall_rule_is_well_formed : IsWellFormedEntry sigma forall_rule
  forall_rule_is_well_formed = by_prf _ refl ((logic.const_type sigma h _), (logic.arrow sigma h (logic.term_type sigma h (ty.Has.variable ty.Binds.here)) (logic.const_prop sigma h _), tt))
      (logic.prf_type sigma h (logic.forall_type sigma h (ty.Has.variable (ty.Binds.outside ty.Binds.here)) (ty.Has.variable ty.Binds.here)))
      (logic.forall_right_type sigma h (logic.term_type sigma h (ty.Has.variable (ty.Binds.outside ty.Binds.here))) (ty.Has.variable ty.Binds.here))

  exists_rule_is_well_formed : IsWellFormedEntry sigma exists_rule
  exists_rule_is_well_formed = by_prf _ refl ((logic.const_type sigma h _), (logic.arrow sigma h (logic.term_type sigma h (ty.Has.variable ty.Binds.here)) (logic.const_prop sigma h _), tt))
      (logic.prf_type sigma h (logic.exists_type sigma h (ty.Has.variable (ty.Binds.outside ty.Binds.here)) (ty.Has.variable ty.Binds.here)))
      (logic.exists_right_type sigma h (logic.term_type sigma h (ty.Has.variable (ty.Binds.outside ty.Binds.here))) (ty.Has.variable ty.Binds.here))

  forall_type_rule_is_well_formed : IsWellFormedEntry sigma forall_type_rule
  forall_type_rule_is_well_formed = by_prf _ refl (logic.arrow sigma h (logic.const_type sigma h _) (logic.const_prop sigma h _), tt)
      (logic.prf_type sigma h (logic.forall_type_type sigma h (ty.Has.variable ty.Binds.here)))
      (logic.forall_right_type sigma h (logic.const_type sigma h _) (ty.Has.variable ty.Binds.here))

  eq_rule_is_well_formed : IsWellFormedEntry sigma eq_rule
  eq_rule_is_well_formed = by_prf _ refl ((logic.const_type sigma h _), (logic.term_type sigma h (ty.Has.variable ty.Binds.here), (logic.term_type sigma h (ty.Has.variable (ty.Binds.outside ty.Binds.here)), tt)))
      (logic.prf_type sigma h (logic.eq_type sigma h (ty.Has.variable (ty.Binds.outside (ty.Binds.outside ty.Binds.here))) (ty.Has.variable (ty.Binds.outside ty.Binds.here)) (ty.Has.variable ty.Binds.here)))
      (logic.eq_right_type sigma h (ty.Has.variable (ty.Binds.outside (ty.Binds.outside ty.Binds.here))) (ty.Has.variable (ty.Binds.outside ty.Binds.here)) (ty.Has.variable ty.Binds.here))

  nnpp_is_well_formed : IsWellFormedEntry sigma nnpp_entry
  nnpp_is_well_formed = wf.IsWellFormedEntry.declare (logic.nnpp_type_type sigma h _) ty.IsSort.is_type

  exists_type_rule_is_well_formed : Holds sigma exists_type_entry → IsWellFormedEntry sigma exists_type_rule
  exists_type_rule_is_well_formed k = by_prf _ refl (logic.arrow sigma h (logic.const_type sigma h _) (logic.const_prop sigma h _), tt)
      (logic.prf_type sigma h (logic.exists_type_type sigma h k (ty.Has.variable ty.Binds.here)))
      (logic.exists_right_type sigma h (logic.const_type sigma h _) (ty.Has.variable ty.Binds.here))

holds_last : (es : List Entry) (e : Entry) → Holds (es ++ (e ∷ [])) e
holds_last [] e = sig.Holds.first
holds_last (d ∷ es) e = sig.Holds.later (holds_last es e)

pub prelude_is_well_formed : PreludeIsWellFormed
prelude_is_well_formed = (
  wf.IsWellFormedEntry.declare ty.Has.sort ty.IsSort.is_kind,
  (
    wf.IsWellFormedEntry.declare (arrow_type (ty.Has.constant (sig.Declares.declared sig.Holds.first)) ty.Has.sort ty.IsSort.is_kind) ty.IsSort.is_kind,
    (
      wf.IsWellFormedEntry.declare ty.Has.sort ty.IsSort.is_kind,
      (
        wf.IsWellFormedEntry.declare (arrow_type (ty.Has.constant (sig.Declares.declared (sig.Holds.later (sig.Holds.later sig.Holds.first)))) ty.Has.sort ty.IsSort.is_kind) ty.IsSort.is_kind,
        (
          type_iota _ (extends_append base _),
          (
            type_any _ (extends_append base _),
            (
              constant _ (extends_append base _) (codes "true"),
              (
                constant _ (extends_append base _) (codes "false"),
                (
                  unary _ (extends_append base _) (codes "not"),
                  (
                    binary _ (extends_append base _) (codes "and"),
                    (
                      binary _ (extends_append base _) (codes "or"),
                      (
                        binary _ (extends_append base _) (codes "imp"),
                        (
                          binary _ (extends_append base _) (codes "iff"),
                          (
                            quantifier _ (extends_append base _) (codes "forall"),
                            (
                              quantifier _ (extends_append base _) (codes "exists"),
                              (
                                type_quantifier _ (extends_append base _) (codes "forall_type"),
                                (
                                  equality _ (extends_append base _),
                                  (
                                    true_rule_is_well_formed _ (extends_append symbols _),
                                    (
                                      false_rule_is_well_formed _ (extends_append symbols _),
                                      (
                                        not_rule_is_well_formed _ (extends_append symbols _),
                                        (
                                          and_rule_is_well_formed _ (extends_append symbols _),
                                          (
                                            or_rule_is_well_formed _ (extends_append symbols _),
                                            (
                                              imp_rule_is_well_formed _ (extends_append symbols _),
                                              (
                                                iff_rule_is_well_formed _ (extends_append symbols _),
                                                (
                                                  forall_rule_is_well_formed _ (extends_append symbols _),
                                                  (
                                                    exists_rule_is_well_formed _ (extends_append symbols _),
                                                    (
                                                      forall_type_rule_is_well_formed _ (extends_append symbols _),
                                                      (
                                                        eq_rule_is_well_formed _ (extends_append symbols _),
                                                        (
                                                          nnpp_is_well_formed _ (extends_append symbols _),
                                                          (
                                                            type_quantifier _ (extends_append base _) (codes "exists_type"),
                                                            (exists_type_rule_is_well_formed _ (extends_append symbols _) (holds_last (symbols ++ (rules ++ (nnpp_entry ∷ []))) exists_type_entry), tt),
                                                          ),
                                                        ),
                                                      ),
                                                    ),
                                                  ),
                                                ),
                                              ),
                                            ),
                                          ),
                                        ),
                                      ),
                                    ),
                                  ),
                                ),
                              ),
                            ),
                          ),
                        ),
                      ),
                    ),
                  ),
                ),
              ),
            ),
          ),
        ),
      ),
    ),
  ),
)
