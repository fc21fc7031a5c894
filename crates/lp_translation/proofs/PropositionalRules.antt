-- The rules of the propositional connectives: each one's proof term is a contradiction where its children's are.
use Rattle.std.proofs.Common.{suc, List, [], ◌∷◌, Contains, None, Some}
use Rattle.lp_terms.specs.Typing.{Class, Has}
use Rattle.lp_terms.proofs.Substitution.{convert_argument}
use Rattle.zm_logic.specs.Tree.{Form, both, either, implies, iff}
use Rattle.zm_logic.specs.Typing.{WellTyped}
use Rattle.zm_logic.proofs.Inverted.{well_typed_negation, first_part, second_part}
use Rattle.lp_signature.specs.Prelude.{prop, imp_of}
use Rattle.lp_signature.proofs.Logic as logic
use Rattle.lp_signature.proofs.Rules as rule
use Rattle.sequent_proof.specs.Rules.{RuleName}
use Rattle.sequent_proof.specs.Tree.{DTree, DTrees}
use Rattle.lp_translation.proofs.Writings.{HasClosedTypes, Setting}
use Rattle.lp_translation.proofs.Branches.{Branch, sh, used, swapped, member_is_prop, two_branch, iff_branch}
use Rattle.lp_translation.proofs.Children.{Refutes, RefuteEach, no_more, one_more, two_more, child, used_as, written, not_typed, to, add, add_not, convert_two}

module _ (x : Setting) where
  pub falsity_refutes : {gamma : List Form} (g : List Form) {ts : DTrees} → Contains gamma Form.falsity
      → RefuteEach x gamma [] ts → Refutes x gamma (DTree.node g RuleName.falsity Form.falsity None None ts)
  falsity_refutes {gamma} g {ts} i r d c s hs b = used x Form.falsity b i

  pub not_truth_refutes : {gamma : List Form} (g : List Form) {ts : DTrees} → Contains gamma (Form.negation Form.truth)
      → RefuteEach x gamma [] ts
      → Refutes x gamma (DTree.node g RuleName.not_truth (Form.negation Form.truth) None None ts)
  not_truth_refutes {gamma} g {ts} i r d c s hs b = rule.not_true_typed x.sigma x.holds x.unbound
      (used x (Form.negation Form.truth) b i)

  pub closes_refutes : {gamma : List Form} (g : List Form) {ts : DTrees} → (f : Form) → Contains gamma f
      → Contains gamma (Form.negation f) → RefuteEach x gamma [] ts
      → Refutes x gamma (DTree.node g RuleName.closes f (Some (Form.negation f)) None ts)
  closes_refutes {gamma} g {ts} f i j r d c s hs b =
      rule.axiom_typed x.sigma x.holds x.unbound (member_is_prop x f b i) (used x f b i) (used x (Form.negation f) b j)

  pub not_not_refutes : {gamma : List Form} (g : List Form) {ts : DTrees} → (f : Form)
      → Contains gamma (Form.negation (Form.negation f)) → RefuteEach x gamma ((f ∷ []) ∷ []) ts
      → Refutes x gamma (DTree.node g RuleName.not_not (Form.negation (Form.negation f)) None None ts)
  not_not_refutes {gamma} g {ts} f i (RefuteEach.more {t = t} e _ r RefuteEach.none) d c s hs b =
      let p : WellTyped x.ss f = well_typed_negation x.ss (well_typed_negation x.ss (b.forms _ i)) in
      let k : HasClosedTypes f = b.carries _ i in
      let y : Has x.sigma c (x.write s f) (Class.of prop) = written x f b p k in
      rule.not_not_typed x.sigma x.holds x.unbound d b.above y
      (used_as x (Form.negation (Form.negation f)) _ (convert_argument _ (convert_argument _ (to x s f)))
      (not_typed x (not_typed x y)) b i)
      (child x gamma RuleName.not_not 0 (no_more d) (one_more d) s hs t e r (add x f p k b))

  pub conjunction_refutes : {gamma : List Form} (g : List Form) {ts : DTrees} → (f h : Form) → Contains gamma (both f h)
      → RefuteEach x gamma ((f ∷ h ∷ []) ∷ []) ts
      → Refutes x gamma (DTree.node g RuleName.conjunction (both f h) None None ts)
  conjunction_refutes {gamma} g {ts} f h i (RefuteEach.more {t = t} e _ r RefuteEach.none) d c s hs b =
      let p : WellTyped x.ss f = first_part x.ss (b.forms _ i) in
      let q : WellTyped x.ss h = second_part x.ss (b.forms _ i) in
      let k : HasClosedTypes f × HasClosedTypes h = b.carries _ i in
      let y : Has x.sigma c (x.write s f) (Class.of prop) = written x f b p k.0 in
      let z : Has x.sigma c (x.write s h) (Class.of prop) = written x h b q k.1 in
      rule.and_typed x.sigma x.holds x.unbound d b.above y z
      (used_as x (both f h) _ (convert_two _ (to x s f) (to x s h)) (logic.and_type x.sigma (sh x) y z) b i)
      (child x gamma RuleName.conjunction 0 (no_more d) (two_more d) s hs t e r
      (swapped x f h (add x h q k.1 (add x f p k.0 b))))

  pub not_or_refutes : {gamma : List Form} (g : List Form) {ts : DTrees} → (f h : Form)
      → Contains gamma (Form.negation (either f h))
      → RefuteEach x gamma ((Form.negation f ∷ Form.negation h ∷ []) ∷ []) ts
      → Refutes x gamma (DTree.node g RuleName.not_or (Form.negation (either f h)) None None ts)
  not_or_refutes {gamma} g {ts} f h i (RefuteEach.more {t = t} e _ r RefuteEach.none) d c s hs b =
      let w : WellTyped x.ss (either f h) = well_typed_negation x.ss (b.forms _ i) in
      let p : WellTyped x.ss f = first_part x.ss w in
      let q : WellTyped x.ss h = second_part x.ss w in
      let k : HasClosedTypes f × HasClosedTypes h = b.carries _ i in
      let y : Has x.sigma c (x.write s f) (Class.of prop) = written x f b p k.0 in
      let z : Has x.sigma c (x.write s h) (Class.of prop) = written x h b q k.1 in
      rule.not_or_typed x.sigma x.holds x.unbound d b.above y z
      (used_as x (Form.negation (either f h)) _ (convert_argument _ (convert_two _ (to x s f) (to x s h)))
      (not_typed x (logic.or_type x.sigma (sh x) y z)) b i)
      (child x gamma RuleName.not_or 0 (no_more d) (two_more d) s hs t e r
      (swapped x (Form.negation f) (Form.negation h) (add_not x h q k.1 (add_not x f p k.0 b))))

  pub not_implies_refutes : {gamma : List Form} (g : List Form) {ts : DTrees} → (f h : Form)
      → Contains gamma (Form.negation (implies f h))
      → RefuteEach x gamma ((f ∷ Form.negation h ∷ []) ∷ []) ts
      → Refutes x gamma (DTree.node g RuleName.not_implies (Form.negation (implies f h)) None None ts)
  not_implies_refutes {gamma} g {ts} f h i (RefuteEach.more {t = t} e _ r RefuteEach.none) d c s hs b =
      let w : WellTyped x.ss (implies f h) = well_typed_negation x.ss (b.forms _ i) in
      let p : WellTyped x.ss f = first_part x.ss w in
      let q : WellTyped x.ss h = second_part x.ss w in
      let k : HasClosedTypes f × HasClosedTypes h = b.carries _ i in
      let y : Has x.sigma c (x.write s f) (Class.of prop) = written x f b p k.0 in
      let z : Has x.sigma c (x.write s h) (Class.of prop) = written x h b q k.1 in
      rule.not_imp_typed x.sigma x.holds x.unbound d b.above y z
      (used_as x (Form.negation (implies f h)) _ (convert_argument _ (convert_two _ (to x s f) (to x s h)))
      (not_typed x (logic.imp_type x.sigma (sh x) y z)) b i)
      (child x gamma RuleName.not_implies 0 (no_more d) (two_more d) s hs t e r
      (swapped x f (Form.negation h) (add_not x h q k.1 (add x f p k.0 b))))

  pub disjunction_refutes : {gamma : List Form} (g : List Form) {ts : DTrees} → (f h : Form) → Contains gamma (either f h)
      → RefuteEach x gamma ((f ∷ []) ∷ (h ∷ []) ∷ []) ts
      → Refutes x gamma (DTree.node g RuleName.disjunction (either f h) None None ts)
  disjunction_refutes {gamma} g {ts} f h i (RefuteEach.more {t = t} e _ r
      (RefuteEach.more {t = u} m _ o RefuteEach.none)) d c s hs b =
      let p : WellTyped x.ss f = first_part x.ss (b.forms _ i) in
      let q : WellTyped x.ss h = second_part x.ss (b.forms _ i) in
      let k : HasClosedTypes f × HasClosedTypes h = b.carries _ i in
      let y : Has x.sigma c (x.write s f) (Class.of prop) = written x f b p k.0 in
      let z : Has x.sigma c (x.write s h) (Class.of prop) = written x h b q k.1 in
      rule.or_typed x.sigma x.holds x.unbound d b.above y z
      (used_as x (either f h) _ (convert_two _ (to x s f) (to x s h)) (logic.or_type x.sigma (sh x) y z) b i)
      (child x gamma RuleName.disjunction 0 (no_more d) (one_more d) s hs t e r (add x f p k.0 b))
      (child x gamma RuleName.disjunction 1 (no_more d) (one_more d) s hs u m o (add x h q k.1 b))

  pub not_and_refutes : {gamma : List Form} (g : List Form) {ts : DTrees} → (f h : Form)
      → Contains gamma (Form.negation (both f h))
      → RefuteEach x gamma ((Form.negation f ∷ []) ∷ (Form.negation h ∷ []) ∷ []) ts
      → Refutes x gamma (DTree.node g RuleName.not_and (Form.negation (both f h)) None None ts)
  not_and_refutes {gamma} g {ts} f h i (RefuteEach.more {t = t} e _ r
      (RefuteEach.more {t = u} m _ o RefuteEach.none)) d c s hs b =
      let w : WellTyped x.ss (both f h) = well_typed_negation x.ss (b.forms _ i) in
      let p : WellTyped x.ss f = first_part x.ss w in
      let q : WellTyped x.ss h = second_part x.ss w in
      let k : HasClosedTypes f × HasClosedTypes h = b.carries _ i in
      let y : Has x.sigma c (x.write s f) (Class.of prop) = written x f b p k.0 in
      let z : Has x.sigma c (x.write s h) (Class.of prop) = written x h b q k.1 in
      let b2 : Branch x gamma (suc (suc d)) _ s hs = two_branch x (x.write s f) (x.write s h) y z b in
      rule.not_and_typed x.sigma x.holds x.unbound d b.above y z
      (used_as x (Form.negation (both f h)) _ (convert_argument _ (convert_two _ (to x s f) (to x s h)))
      (not_typed x (logic.and_type x.sigma (sh x) y z)) b i)
      (child x gamma RuleName.not_and 0 (two_more d) (one_more (suc (suc d))) s hs t e r (add_not x f p k.0 b2))
      (child x gamma RuleName.not_and 1 (two_more d) (one_more (suc (suc d))) s hs u m o (add_not x h q k.1 b2))

  pub implication_refutes : {gamma : List Form} (g : List Form) {ts : DTrees} → (f h : Form)
      → Contains gamma (implies f h) → RefuteEach x gamma ((Form.negation f ∷ []) ∷ (h ∷ []) ∷ []) ts
      → Refutes x gamma (DTree.node g RuleName.implication (implies f h) None None ts)
  implication_refutes {gamma} g {ts} f h i (RefuteEach.more {t = t} e _ r
      (RefuteEach.more {t = u} m _ o RefuteEach.none)) d c s hs b =
      let p : WellTyped x.ss f = first_part x.ss (b.forms _ i) in
      let q : WellTyped x.ss h = second_part x.ss (b.forms _ i) in
      let k : HasClosedTypes f × HasClosedTypes h = b.carries _ i in
      let y : Has x.sigma c (x.write s f) (Class.of prop) = written x f b p k.0 in
      let z : Has x.sigma c (x.write s h) (Class.of prop) = written x h b q k.1 in
      rule.imp_typed x.sigma x.holds x.unbound d b.above y z
      (used_as x (implies f h) _ (convert_two _ (to x s f) (to x s h)) (logic.imp_type x.sigma (sh x) y z) b i)
      (child x gamma RuleName.implication 0 (no_more d) (one_more d) s hs t e r (add_not x f p k.0 b))
      (child x gamma RuleName.implication 1 (no_more d) (one_more d) s hs u m o (add x h q k.1 b))

  pub equivalence_refutes : {gamma : List Form} (g : List Form) {ts : DTrees} → (f h : Form) → Contains gamma (iff f h)
      → RefuteEach x gamma ((f ∷ h ∷ []) ∷ (Form.negation f ∷ Form.negation h ∷ []) ∷ []) ts
      → Refutes x gamma (DTree.node g RuleName.equivalence (iff f h) None None ts)
  equivalence_refutes {gamma} g {ts} f h i (RefuteEach.more {t = t} e _ r
      (RefuteEach.more {t = u} m _ o RefuteEach.none)) d c s hs b =
      let p : WellTyped x.ss f = first_part x.ss (b.forms _ i) in
      let q : WellTyped x.ss h = second_part x.ss (b.forms _ i) in
      let k : HasClosedTypes f × HasClosedTypes h = b.carries _ i in
      let y : Has x.sigma c (x.write s f) (Class.of prop) = written x f b p k.0 in
      let z : Has x.sigma c (x.write s h) (Class.of prop) = written x h b q k.1 in
      let b2 : Branch x gamma (suc (suc d)) _ s hs = iff_branch x (x.write s f) (x.write s h) y z b in
      rule.iff_typed x.sigma x.holds x.unbound d b.above y z
      (used_as x (iff f h) _ (convert_two _ (to x s f) (to x s h)) (logic.iff_type x.sigma (sh x) y z) b i)
      (child x gamma RuleName.equivalence 0 (two_more d) (two_more (suc (suc d))) s hs t e r
      (swapped x f h (add x h q k.1 (add x f p k.0 b2))))
      (child x gamma RuleName.equivalence 1 (two_more d) (two_more (suc (suc d))) s hs u m o
      (swapped x (Form.negation f) (Form.negation h) (add_not x h q k.1 (add_not x f p k.0 b2))))

  pub not_iff_refutes : {gamma : List Form} (g : List Form) {ts : DTrees} → (f h : Form)
      → Contains gamma (Form.negation (iff f h))
      → RefuteEach x gamma ((f ∷ Form.negation h ∷ []) ∷ (Form.negation f ∷ h ∷ []) ∷ []) ts
      → Refutes x gamma (DTree.node g RuleName.not_iff (Form.negation (iff f h)) None None ts)
  not_iff_refutes {gamma} g {ts} f h i (RefuteEach.more {t = t} e _ r
      (RefuteEach.more {t = u} m _ o RefuteEach.none)) d c s hs b =
      let w : WellTyped x.ss (iff f h) = well_typed_negation x.ss (b.forms _ i) in
      let p : WellTyped x.ss f = first_part x.ss w in
      let q : WellTyped x.ss h = second_part x.ss w in
      let k : HasClosedTypes f × HasClosedTypes h = b.carries _ i in
      let y : Has x.sigma c (x.write s f) (Class.of prop) = written x f b p k.0 in
      let z : Has x.sigma c (x.write s h) (Class.of prop) = written x h b q k.1 in
      let yz : Has x.sigma c (imp_of (x.write s f) (x.write s h)) (Class.of prop) = logic.imp_type x.sigma (sh x) y z in
      let zy : Has x.sigma c (imp_of (x.write s h) (x.write s f)) (Class.of prop) = logic.imp_type x.sigma (sh x) z y in
      let b2 : Branch x gamma (suc (suc d)) _ s hs = two_branch x (imp_of (x.write s f) (x.write s h))
      (imp_of (x.write s h) (x.write s f)) yz zy b in
      rule.not_iff_typed x.sigma x.holds x.unbound d b.above y z
      (used_as x (Form.negation (iff f h)) _ (convert_argument _ (convert_two _ (to x s f) (to x s h)))
      (not_typed x (logic.iff_type x.sigma (sh x) y z)) b i)
      (child x gamma RuleName.not_iff 0 (two_more d) (two_more (suc (suc d))) s hs t e r
      (swapped x f (Form.negation h) (add_not x h q k.1 (add x f p k.0 b2))))
      (child x gamma RuleName.not_iff 1 (two_more d) (two_more (suc (suc d))) s hs u m o
      (add_not x f p k.0 (add x h q k.1 b2)))
