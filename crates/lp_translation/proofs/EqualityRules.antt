-- The rules of equality.
use Rattle.std.proofs.Common.{ℕ, ◌≡◌, List, [], ◌∷◌, Contains, None, Some, refl, sym, ap₂, subst, subst₂}
use Rattle.lp_terms.specs.Term.{Lp, IsClosed, open_at}
use Rattle.lp_terms.specs.Term as lp
use Rattle.lp_terms.specs.Reduction as red
use Rattle.lp_terms.specs.Typing.{Context, Class, IsSort, Has}
use Rattle.lp_terms.specs.Typing as ty
use Rattle.lp_terms.proofs.Substitution.{weaken_bind, converts_sym, converts_trans, convert_argument}
use Rattle.lp_terms.proofs.Binders.{typed_closed}
use Rattle.zm_logic.specs.Tree.{Ty, Tys, Term, Terms, Form, Symbol, Sense, differ}
use Rattle.zm_logic.specs.Typing.{IsType, AreTypes, HasType, HaveTypes, WellTyped, IsAtom, symbol_at, how_many, argument_types}
use Rattle.zm_logic.specs.Calculus.{differ_each}
use Rattle.zm_logic.proofs.Inverted.{well_typed_negation, well_typed_equality, well_typed_left, well_typed_right, well_typed_atom}
use Rattle.lp_signature.specs.Prelude.{prop, prf, types, term, falsity, not_of, eq_of}
use Rattle.lp_signature.specs.Names.{constant}
use Rattle.lp_signature.specs.Translation.{Scope, type_of, form_of, apply_types}
use Rattle.lp_signature.specs.ProofTerms.{reflexive}
use Rattle.lp_signature.proofs.Logic as logic
use Rattle.lp_signature.proofs.Logic.{stable}
use Rattle.lp_signature.proofs.SymbolTypes.{closed_arrows}
use Rattle.lp_signature.proofs.TypedTrees.{argument_types_typed}
use Rattle.lp_signature.proofs.Rules as rule
use Rattle.lp_signature.proofs.MoreRules as more_rule
use Rattle.sequent_proof.specs.Rules.{RuleName, each_alone}
use Rattle.sequent_proof.specs.Tree.{DTree, DTrees}
use Rattle.lp_translation.specs.ProofOf.{Hypotheses, earliest, types_of, write_spine, chain, proofs}
use Rattle.lp_translation.proofs.Writings.{Setting, form_typed, symbol_typed}
use Rattle.lp_translation.proofs.Branches.{Branch, sh, used}
use Rattle.lp_translation.proofs.Children.{Refutes, RefuteEach, no_more, one_more, child, used_as, type_at, term_at, not_typed, eq_typed, to_term, add_differ, convert_two}
use Rattle.lp_translation.proofs.Chains.{spine_typed, spine_same, chain_typed, children_contradict}

module _ (x : Setting) where
  -- an equation of the sequent, and an inequation
  equation : {gamma : List Form} {d : ℕ} {c : Context} {s : Scope} {hs : Hypotheses} (t : Ty) (a e : Term)
      → Branch x gamma d c s hs → Contains gamma (Form.equal t a e)
      → Has x.sigma c (earliest hs (Form.equal t a e)) (Class.of
      (prf (eq_of (type_of x.ss s 0 t) (x.write_term s a) (x.write_term s e))))
  equation {s = s} t a e b i =
      let w : WellTyped x.ss (Form.equal t a e) = b.forms _ i in
      used_as x (Form.equal t a e) _ (convert_two _ (to_term x s a) (to_term x s e))
      (eq_typed x t b (well_typed_equality x.ss w) (well_typed_left x.ss w) (well_typed_right x.ss w)) b i

  inequation : {gamma : List Form} {d : ℕ} {c : Context} {s : Scope} {hs : Hypotheses} (t : Ty) (a e : Term)
      → Branch x gamma d c s hs → Contains gamma (differ t a e)
      → Has x.sigma c (earliest hs (differ t a e)) (Class.of
      (prf (not_of (eq_of (type_of x.ss s 0 t) (x.write_term s a) (x.write_term s e)))))
  inequation {s = s} t a e b i =
      let w : WellTyped x.ss (Form.equal t a e) = well_typed_negation x.ss (b.forms _ i) in
      used_as x (differ t a e) _ (convert_argument _ (convert_two _ (to_term x s a) (to_term x s e)))
      (not_typed x (eq_typed x t b (well_typed_equality x.ss w) (well_typed_left x.ss w) (well_typed_right x.ss w))) b i

  pub reflexive_refutes : {gamma : List Form} (g : List Form) {ts : DTrees} → (t : Ty) (a : Term)
      → Contains gamma (differ t a a) → RefuteEach x gamma [] ts
      → Refutes x gamma (DTree.node g RuleName.reflexive (differ t a a) None None ts)
  reflexive_refutes {gamma} g {ts} t a i r d c s hs b =
      let w : WellTyped x.ss (Form.equal t a a) = well_typed_negation x.ss (b.forms _ i) in
      rule.refl_typed x.sigma x.holds x.unbound (type_at x t b (well_typed_equality x.ss w))
      (term_at x t b (well_typed_left x.ss w)) (inequation t a a b i)

  pub symmetric_refutes : {gamma : List Form} (g : List Form) {ts : DTrees} → (t : Ty) (a e : Term)
      → Contains gamma (Form.equal t a e) → Contains gamma (differ t e a) → RefuteEach x gamma [] ts
      → Refutes x gamma (DTree.node g RuleName.symmetric (Form.equal t a e) (Some (differ t e a)) None ts)
  symmetric_refutes {gamma} g {ts} t a e i j r d c s hs b =
      let w : WellTyped x.ss (Form.equal t a e) = b.forms _ i in
      more_rule.sym_typed x.sigma x.holds x.unbound (type_at x t b (well_typed_equality x.ss w))
      (term_at x t b (well_typed_left x.ss w))
      (term_at x t b (well_typed_right x.ss w)) (equation t a e b i) (inequation t e a b j)

  pub transitive_first_refutes : {gamma : List Form} (g : List Form) {ts : DTrees} → (t : Ty) (a e u v : Term)
      → Contains gamma (Form.equal t a e) → Contains gamma (differ t u v)
      → RefuteEach x gamma ((differ t u a ∷ []) ∷ (differ t e v ∷ []) ∷ []) ts
      → Refutes x gamma (DTree.node g RuleName.transitive_first (Form.equal t a e) (Some (differ t u v)) None ts)
  transitive_first_refutes {gamma} g {ts} t a e u v i j (RefuteEach.more {t = left} m _ r
      (RefuteEach.more {t = right} n _ o RefuteEach.none)) d c s hs b =
      let w : WellTyped x.ss (Form.equal t a e) = b.forms _ i in
      let y : WellTyped x.ss (Form.equal t u v) = well_typed_negation x.ss (b.forms _ j) in
      let it : IsType x.ss 0 t = well_typed_equality x.ss w in
      let ha : HasType x.ss a t = well_typed_left x.ss w in
      let he : HasType x.ss e t = well_typed_right x.ss w in
      let hu : HasType x.ss u t = well_typed_left x.ss y in
      let hv : HasType x.ss v t = well_typed_right x.ss y in
      more_rule.trans_first_typed x.sigma x.holds x.unbound d b.above (type_at x t b it) (term_at x t b ha)
      (term_at x t b he) (term_at x t b hu) (term_at x t b hv)
      (equation t a e b i) (inequation t u v b j)
      (child x gamma RuleName.transitive_first 0 (no_more d) (one_more d) s hs left m r (add_differ x t u a it hu ha b))
      (child x gamma RuleName.transitive_first 1 (no_more d) (one_more d) s hs right n o (add_differ x t e v it he hv b))

  pub transitive_second_refutes : {gamma : List Form} (g : List Form) {ts : DTrees} → (t : Ty) (a e u v : Term)
      → Contains gamma (Form.equal t a e) → Contains gamma (differ t u v)
      → RefuteEach x gamma ((differ t u e ∷ []) ∷ (differ t a v ∷ []) ∷ []) ts
      → Refutes x gamma (DTree.node g RuleName.transitive_second (Form.equal t a e) (Some (differ t u v)) None ts)
  transitive_second_refutes {gamma} g {ts} t a e u v i j (RefuteEach.more {t = left} m _ r
      (RefuteEach.more {t = right} n _ o RefuteEach.none)) d c s hs b =
      let w : WellTyped x.ss (Form.equal t a e) = b.forms _ i in
      let y : WellTyped x.ss (Form.equal t u v) = well_typed_negation x.ss (b.forms _ j) in
      let it : IsType x.ss 0 t = well_typed_equality x.ss w in
      let ha : HasType x.ss a t = well_typed_left x.ss w in
      let he : HasType x.ss e t = well_typed_right x.ss w in
      let hu : HasType x.ss u t = well_typed_left x.ss y in
      let hv : HasType x.ss v t = well_typed_right x.ss y in
      more_rule.trans_second_typed x.sigma x.holds x.unbound d b.above (type_at x t b it) (term_at x t b ha)
      (term_at x t b he) (term_at x t b hu) (term_at x t b hv)
      (equation t a e b i) (inequation t u v b j)
      (child x gamma RuleName.transitive_second 0 (no_more d) (one_more d) s hs left m r (add_differ x t u e it hu he b))
      (child x gamma RuleName.transitive_second 1 (no_more d) (one_more d) s hs right n o (add_differ x t a v it ha hv b))

  pub equal_arguments_refutes : {gamma : List Form} (g : List Form) {ts : DTrees} → (p : ℕ) (k : Symbol) (zs : Tys)
      (us vs : Terms) → symbol_at x.ss p ≡ Some k
      → HaveTypes x.ss us (argument_types k zs) → HaveTypes x.ss vs (argument_types k zs)
      → Contains gamma (Form.atom p zs us) → Contains gamma (Form.negation (Form.atom p zs vs))
      → RefuteEach x gamma (each_alone (differ_each (argument_types k zs) us vs)) ts
      → Refutes x gamma (DTree.node g RuleName.equal_arguments (Form.atom p zs us)
      (Some (Form.negation (Form.atom p zs vs))) None ts)
  equal_arguments_refutes {gamma} g {ts} p k zs us vs e hu hv i j r d c s hs b =
      let atom : IsAtom x.ss p zs us = well_typed_atom x.ss (b.forms _ i) in
      let found : symbol_at x.ss p ≡ Some atom.0 = atom.1.0 in
      let same : atom.0 ≡ k = cc in
      let counts : k.types ≡ how_many zs = subst (λ y. y.types ≡ how_many zs) same atom.1.1 in
      let sense : k.sense ≡ Sense.predicate = subst (λ y. y.sense ≡ Sense.predicate) same atom.2 in
      let are : AreTypes x.ss 0 (argument_types k zs) = argument_types_typed x.ss x.good p k zs e counts atom.3 in
      let f : Lp = apply_types x.ss s 0 (Lp.const (constant x.ss p)) zs in
      let hf : Has x.sigma c f (Class.of (closed_arrows x.ss s (argument_types k zs) prop)) =
      symbol_typed x b.fits p k zs Sense.predicate e counts sense atom.3 in
      let left : Has x.sigma c (write_spine x.ss x.write x.write_term s f us) (Class.of prop) =
      spine_typed x c s b.fits us (argument_types k zs) f prop lp.IsClosedAt.const are hf hu in
      let start : Has x.sigma c (earliest hs (Form.atom p zs us))
      (Class.of (prf (write_spine x.ss x.write x.write_term s f us))) =
      used_as x (Form.atom p zs us) (write_spine x.ss x.write x.write_term s f us)
      (converts_sym (spine_same x s us f f red.Converts.same)) left b i in
      let right : Has x.sigma c (form_of x.ss s (Form.atom p zs vs)) (Class.of prop) =
      form_typed x b.fits (well_typed_negation x.ss (b.forms _ j)) in
      subst₂ (λ o n. Has x.sigma c (Lp.app (earliest hs (Form.negation (Form.atom p zs vs)))
      (chain x.ss x.write x.write_term d s (λ w. w) f (earliest hs (Form.atom p zs us)) (types_of o zs) us vs
      (proofs x.ss x.write x.write_term RuleName.equal_arguments 0 n s hs ts))) (Class.of (prf falsity))) (sym e)
      (sym (no_more d))
      (rule.axiom_typed x.sigma x.holds x.unbound right
      (ty.Has.conversion
      (chain_typed x b (λ w. w) (λ u w. refl) prop lp.IsClosedAt.const (λ w h. h) (λ n a w h. h)
      (argument_types k zs) us vs
      (proofs x.ss x.write x.write_term RuleName.equal_arguments 0 d s hs ts) f
      (earliest hs (Form.atom p zs us)) hf are hu hv
      (children_contradict x RuleName.equal_arguments (λ n fs. refl) b 0
      (argument_types k zs) us vs r refl are hu hv) start)
      (convert_argument _ (spine_same x s vs f f red.Converts.same))
      (logic.prf_type x.sigma (sh x) right) ty.IsSort.is_type)
      (used x (Form.negation (Form.atom p zs vs)) b j))

  pub equal_values_refutes : {gamma : List Form} (g : List Form) {ts : DTrees} → (t : Ty) (p : ℕ) (k : Symbol) (zs : Tys)
      (us vs : Terms) → symbol_at x.ss p ≡ Some k
      → HaveTypes x.ss us (argument_types k zs) → HaveTypes x.ss vs (argument_types k zs)
      → Contains gamma (differ t (Term.app p zs us) (Term.app p zs vs))
      → RefuteEach x gamma (each_alone (differ_each (argument_types k zs) us vs)) ts
      → Refutes x gamma (DTree.node g RuleName.equal_values (differ t (Term.app p zs us) (Term.app p zs vs)) None None ts)
  equal_values_refutes {gamma} g {ts} t p k zs us vs e hu hv i r d c s hs b =
      let whole : WellTyped x.ss (Form.equal t (Term.app p zs us) (Term.app p zs vs)) = well_typed_negation x.ss
      (b.forms _ i) in
      let it : IsType x.ss 0 t = well_typed_equality x.ss whole in
      let has : HasType x.ss (Term.app p zs us) t = well_typed_left x.ss whole in
      let found : symbol_at x.ss p ≡ Some has.0 = has.2.0 in
      let same : has.0 ≡ k = cc in
      let counts : k.types ≡ how_many zs = subst (λ y. y.types ≡ how_many zs) same has.2.1 in
      let sense : k.sense ≡ Sense.function has.1 = subst (λ y. y.sense ≡ Sense.function has.1) same has.3 in
      let are : AreTypes x.ss 0 (argument_types k zs) = argument_types_typed x.ss x.good p k zs e counts has.4 in
      let a : Lp = type_of x.ss s 0 t in
      let l : Lp = x.write_term s (Term.app p zs us) in
      let ha : Has x.sigma c a (Class.of types) = type_at x t b it in
      let hl : Has x.sigma c l (Class.of (term a)) = term_at x t b has in
      let ca : IsClosed (term a) = lp.IsClosedAt.app lp.IsClosedAt.const (typed_closed ha) in
      let f : Lp = apply_types x.ss s 0 (Lp.const (constant x.ss p)) zs in
      let hf : Has x.sigma c f (Class.of (closed_arrows x.ss s (argument_types k zs) (term a))) =
      subst (λ y. Has x.sigma c f (Class.of (closed_arrows x.ss s (argument_types k zs)
      (term (type_of x.ss s 0 y))))) has.6
      (symbol_typed x b.fits p k zs (Sense.function has.1) e counts sense has.4) in
      let left : Has x.sigma c (write_spine x.ss x.write x.write_term s f us) (Class.of (term a)) =
      spine_typed x c s b.fits us (argument_types k zs) f (term a) ca are hf hu in
      let start : Has x.sigma c (reflexive a l) (Class.of
      (prf (eq_of a l (write_spine x.ss x.write x.write_term s f us)))) =
      ty.Has.conversion (rule.reflexive_typed x.sigma x.holds x.unbound ha hl)
      (convert_argument _ (convert_argument _ (converts_trans (x.writing.term_same s (Term.app p zs us))
      (converts_sym (spine_same x s us f f red.Converts.same)))))
      (logic.prf_type x.sigma (sh x) (logic.eq_type x.sigma (sh x) ha hl left)) ty.IsSort.is_type in
      let both : Has x.sigma c (form_of x.ss s (Form.equal t (Term.app p zs us) (Term.app p zs vs))) (Class.of prop) =
      form_typed x b.fits whole in
      subst₂ (λ o n. Has x.sigma c (Lp.app (earliest hs (differ t (Term.app p zs us) (Term.app p zs vs)))
      (chain x.ss x.write x.write_term d s (eq_of a l) f (reflexive a l) (types_of o zs) us vs
      (proofs x.ss x.write x.write_term RuleName.equal_values 0 n s hs ts))) (Class.of (prf falsity))) (sym e)
      (sym (no_more d))
      (rule.axiom_typed x.sigma x.holds x.unbound both
      (ty.Has.conversion
      (chain_typed x b (eq_of a l) (λ u w. ap₂ (λ y v. eq_of y v (open_at 0 u w)) (stable (typed_closed ha) 0 u)
      (stable (typed_closed hl) 0 u))
      (term a) ca (λ w h. logic.eq_type x.sigma (sh x) ha hl h)
      (λ n o w h. logic.eq_type x.sigma (sh x) (weaken_bind n o ha) (weaken_bind n o hl) h)
      (argument_types k zs) us vs (proofs x.ss x.write x.write_term RuleName.equal_values 0 d s hs ts) f
      (reflexive a l) hf are hu hv
      (children_contradict x RuleName.equal_values (λ n fs. refl) b 0 (argument_types k zs) us vs r refl are hu hv) start)
      (convert_argument _ (convert_two _ (x.writing.term_same s (Term.app p zs us))
      (spine_same x s vs f f red.Converts.same)))
      (logic.prf_type x.sigma (sh x) both) ty.IsSort.is_type)
      (used x (differ t (Term.app p zs us) (Term.app p zs vs)) b i))
