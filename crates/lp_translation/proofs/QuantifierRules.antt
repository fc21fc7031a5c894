-- The rules of the quantifiers over terms and over types.
use Rattle.std.proofs.Common.{ℕ, suc, List, [], ◌∷◌, ◌++◌, All, Contains, None, Some, subst, arith}
use Rattle.lp_terms.specs.Term.{Lp, opened}
use Rattle.lp_terms.specs.Term as lp
use Rattle.lp_terms.specs.Reduction.{Converts}
use Rattle.lp_terms.specs.Reduction as red
use Rattle.lp_terms.specs.Typing.{Context, Class, Has}
use Rattle.lp_terms.proofs.Terms.{closed_body}
use Rattle.lp_terms.proofs.Substitution.{converts_sym, converts_trans, convert_argument, one}
use Rattle.lp_terms.proofs.Binders.{typed_closed}
use Rattle.lp_terms.proofs.Sorts.{body_at}
use Rattle.zm_logic.specs.Tree.{Ty, Term, Form, Opening, Quantifier, exists, for_all, exists_types, for_all_types}
use Rattle.zm_logic.specs.Opening.{at_term, at_type}
use Rattle.zm_logic.specs.Parameter.{IsFresh, IsFreshForAll}
use Rattle.zm_logic.specs.Typing.{IsType, HasType, WellTyped}
use Rattle.zm_logic.proofs.Inverted.{well_typed_negation, binder_type}
use Rattle.zm_logic.proofs.ClosedForm.{type_is_closed, form_is_closed}
use Rattle.zm_logic.proofs.Sames.{Contains-here}
use Rattle.lp_signature.specs.Prelude.{prop, prf, types, term}
use Rattle.lp_signature.specs.Translation.{Scope, type_of, form_of}
use Rattle.lp_signature.proofs.Logic as logic
use Rattle.lp_signature.proofs.Readings.{form_open, form_open_ty, body_is, body_is_ty}
use Rattle.lp_signature.proofs.TypedTrees.{predicate_typed, predicate_typed_ty}
use Rattle.lp_signature.proofs.Rules as rule
use Rattle.lp_signature.proofs.MoreRules as more_rule
use Rattle.lp_signature.proofs.MoreRules.{under_at, under_product}
use Rattle.lp_signature.proofs.Trees.{type_carries, term_carries}
use Rattle.sequent_proof.specs.Rules.{RuleName}
use Rattle.sequent_proof.specs.Tree.{DTree, DTrees}
use Rattle.lp_translation.specs.ProofOf.{Hypotheses}
use Rattle.lp_translation.proofs.Writings.{HasClosedTypes, FromSomeOn, Setting, term_typed, form_typed}
use Rattle.lp_translation.proofs.Branches.{Branch, sh, used, each_of, fresh_member, enter, enter_type}
use Rattle.lp_translation.proofs.Children.{Refutes, RefuteEach, no_more, one_more, child, written, term_at, type_at, to, add, add_not, opened_carries}

-- the one formula that a child adds is well typed
first_typed : (P : Form → Type 0) (f : Form) (gamma : List Form) → All P ((f ∷ []) ++ gamma) → P f
first_typed P f gamma all = each_of P (f ∷ gamma) all f (Contains-here f gamma)

module _ (x : Setting) where
  -- the domain of a quantifier over terms
  domain : {gamma : List Form} {d : ℕ} {c : Context} {s : Scope} {hs : Hypotheses} (t : Ty) → Branch x gamma d c s hs
      → IsType x.ss 0 t
      → Has x.sigma c (term (type_of x.ss s 0 t)) (Class.of Lp.sort)
  domain t b it = logic.term_type x.sigma (sh x) (type_at x t b it)

  -- a quantifier's predicate: over terms, and over types
  term_predicate : {gamma : List Form} {d : ℕ} {c : Context} {s : Scope} {hs : Hypotheses} {q : Quantifier} (t : Ty)
      (f : Form)
      → Branch x gamma d c s hs → WellTyped x.ss (Form.quantified q t f)
      → Has x.sigma c (Lp.abs (term (type_of x.ss s 0 t)) (form_of x.ss s f))
      (Class.of (Lp.prod (term (type_of x.ss s 0 t)) prop))
  term_predicate {c = c} {s = s} t f b w = predicate_typed x.sigma x.holds x.ss x.good x.declared c s b.fits w

  type_predicate : {gamma : List Form} {d : ℕ} {c : Context} {s : Scope} {hs : Hypotheses} {q : Quantifier} (f : Form)
      → Branch x gamma d c s hs → WellTyped x.ss (Form.quantified_types q f)
      → Has x.sigma c (Lp.abs types (form_of x.ss s f)) (Class.of (Lp.prod types prop))
  type_predicate {c = c} {s = s} f b w = predicate_typed_ty x.sigma x.holds x.ss x.good x.declared c s b.fits w

  -- the predicate at a parameter, at a term and at a type
  at_parameter : {a : Lp} (s : Scope) (n : ℕ) (t : Ty) (d : ℕ) (f : Form) → IsFresh n f → WellTyped x.ss
      (at_term f (Term.eps n t))
      → Converts x.sigma (Lp.app (Lp.abs a (form_of x.ss s f)) (Lp.free d))
      (x.write (Scope.of_term n t d s) (at_term f (Term.eps n t)))
  at_parameter s n t d f new w =
      red.Converts.forth (red.Reduces.beta lp.IsClosedAt.free)
      (subst (λ v. Converts x.sigma v (x.write (Scope.of_term n t d s) (at_term f (Term.eps n t))))
      (body_is x.ss s n t d f new (form_is_closed x.ss w))
      (to x (Scope.of_term n t d s) (at_term f (Term.eps n t))))

  at_type_parameter : {gamma : List Form} {d : ℕ} {c : Context} {s : Scope} {hs : Hypotheses} {a : Lp} (n : ℕ) (f : Form)
      → Branch x gamma d c s hs → ((g : Form) → Contains gamma g → IsFresh n g) → IsFresh n f → WellTyped x.ss
      (at_type f (Ty.param n))
      → Converts x.sigma (Lp.app (Lp.abs a (form_of x.ss s f)) (Lp.free d))
      (x.write (Scope.of_type n d s) (at_type f (Ty.param n)))
  at_type_parameter {d = d} {s = s} n f b fresh new w =
      red.Converts.forth (red.Reduces.beta lp.IsClosedAt.free)
      (subst (λ v. Converts x.sigma v (x.write (Scope.of_type n d s) (at_type f (Ty.param n))))
      (body_is_ty x.ss s n d f b.fits.carried (b.scoped n fresh) new (form_is_closed x.ss w))
      (to x (Scope.of_type n d s) (at_type f (Ty.param n))))

  at_a_term : {gamma : List Form} {d : ℕ} {c : Context} {s : Scope} {hs : Hypotheses} {a : Lp} (f : Form) (u : Term)
      (t : Ty)
      → Branch x gamma d c s hs → HasType x.ss u t → WellTyped x.ss (at_term f u)
      → Converts x.sigma (Lp.app (Lp.abs a (form_of x.ss s f)) (x.write_term s u)) (x.write s (at_term f u))
  at_a_term {s = s} f u t b hu w =
      converts_trans (convert_argument _ (x.writing.term_same s u))
      (red.Converts.forth (red.Reduces.beta (typed_closed (term_typed x b.fits u t hu)))
      (subst (λ v. Converts x.sigma v (x.write s (at_term f u))) (form_open x.ss s 0 u f (form_is_closed x.ss w))
      (to x s (at_term f u))))

  at_a_type : {gamma : List Form} {d : ℕ} {c : Context} {s : Scope} {hs : Hypotheses} {a : Lp} (f : Form) (t : Ty)
      → Branch x gamma d c s hs → HasClosedTypes f → IsType x.ss 0 t → WellTyped x.ss (at_type f t)
      → Converts x.sigma (Lp.app (Lp.abs a (form_of x.ss s f)) (type_of x.ss s 0 t)) (x.write s (at_type f t))
  at_a_type {s = s} f t b k it w =
      red.Converts.forth (red.Reduces.beta (typed_closed (type_at x t b it)))
      (subst (λ v. Converts x.sigma v (x.write s (at_type f t))) (form_open_ty x.ss s 0 t f k (form_is_closed x.ss w))
      (to x s (at_type f t)))

  -- a written body converts under its binder, and at a closed term
  inner : {a : Lp} (s : Scope) (f : Form) → lp.IsClosed (Lp.abs a (form_of x.ss s f)) → (p : Lp)
      → Converts x.sigma (Lp.prod a (Lp.prod (prf (Lp.app (Lp.abs a (form_of x.ss s f)) (Lp.index 0))) (prf p)))
      (Lp.prod a (Lp.prod (prf (x.write s f)) (prf p)))
  inner {a} s f closed p =
      converts_trans (more_rule.inner_body x.sigma x.holds x.unbound closed (λ n. red.Reduces.beta lp.IsClosedAt.free) p)
      (under_product a (prf p) (x.writing.body_under s f))

  written_at : {a q : Lp} (s : Scope) (f : Form) (u : Lp) → lp.IsClosed u
      → Converts x.sigma (Lp.app (Lp.abs a (form_of x.ss s f)) u) q
      → Converts x.sigma q (opened (x.write s f) u)
  written_at {a} s f u closed e =
      converts_trans (converts_sym e) (converts_trans (one (red.Reduces.beta {domain = a} closed))
      (under_at u closed (x.writing.body_under s f)))

module _ (x : Setting) where
  all_fresh : (gamma : List Form) (n : ℕ) → IsFreshForAll n gamma → (f : Form) → Contains gamma f → IsFresh n f
  all_fresh gamma n fresh f i = fresh_member n f gamma fresh i

  -- over terms
  pub existential_refutes : {gamma : List Form} (g : List Form) {ts : DTrees} → (t : Ty) (f : Form) (n : ℕ)
      → Contains gamma (exists t f) → IsFreshForAll n gamma
      → RefuteEach x gamma ((at_term f (Term.eps n t) ∷ []) ∷ []) ts
      → Refutes x gamma (DTree.node g RuleName.existential (exists t f) None (Some (Opening.of_term (Term.eps n t))) ts)
  existential_refutes {gamma} g {ts} t f n i fresh (RefuteEach.more {t = tree} e w r RefuteEach.none) d c s hs b =
      let whole : WellTyped x.ss (exists t f) = b.forms _ i in
      let it : IsType x.ss 0 t = binder_type x.ss whole in
      let k : HasClosedTypes (exists t f) = b.carries _ i in
      let at : Form = at_term f (Term.eps n t) in
      let typed : WellTyped x.ss at = first_typed (WellTyped x.ss) at gamma w in
      let carried : HasClosedTypes at = opened_carries (Opening.of_term (Term.eps n t)) f
      (type_is_closed x.ss t it, type_carries t) k.1 in
      let b1 : Branch x gamma (suc d) _ (Scope.of_term n t d s) hs = enter x n t it (all_fresh gamma n fresh)
      (λ m h. (h _ i).0) b in
      let predicate : Has x.sigma c (Lp.abs (term (type_of x.ss s 0 t)) (form_of x.ss s f))
      (Class.of (Lp.prod (term (type_of x.ss s 0 t)) prop)) =
      term_predicate x t f b whole in
      rule.exists_typed x.sigma x.holds x.unbound d b.above (domain x t b it) predicate
      (rule.prf_exists x.sigma x.holds x.unbound (typed_closed (type_at x t b it)) (typed_closed predicate))
      (written x at b1 typed carried) (at_parameter x s n t d f (all_fresh gamma n fresh _ i).1 typed)
      (used x (exists t f) b i)
      (child x gamma RuleName.existential 0 (one_more d) (one_more (suc d)) (Scope.of_term n t d s) hs tree e r
      (add x at typed carried b1))

  pub not_for_all_refutes : {gamma : List Form} (g : List Form) {ts : DTrees} → (t : Ty) (f : Form) (n : ℕ)
      → Contains gamma (Form.negation (for_all t f)) → IsFreshForAll n gamma
      → RefuteEach x gamma ((Form.negation (at_term f (Term.eps n t)) ∷ []) ∷ []) ts
      → Refutes x gamma (DTree.node g RuleName.not_for_all (Form.negation (for_all t f)) None
      (Some (Opening.of_term (Term.eps n t))) ts)
  not_for_all_refutes {gamma} g {ts} t f n i fresh (RefuteEach.more {t = tree} e w r RefuteEach.none) d c s hs b =
      let whole : WellTyped x.ss (for_all t f) = well_typed_negation x.ss (b.forms _ i) in
      let it : IsType x.ss 0 t = binder_type x.ss whole in
      let k : HasClosedTypes (for_all t f) = b.carries _ i in
      let at : Form = at_term f (Term.eps n t) in
      let typed : WellTyped x.ss at = well_typed_negation x.ss
      (first_typed (WellTyped x.ss) (Form.negation at) gamma w) in
      let carried : HasClosedTypes at = opened_carries (Opening.of_term (Term.eps n t)) f
      (type_is_closed x.ss t it, type_carries t) k.1 in
      let b1 : Branch x gamma (suc d) _ (Scope.of_term n t d s) hs = enter x n t it (all_fresh gamma n fresh)
      (λ m h. (h _ i).0) b in
      let predicate : Has x.sigma c (Lp.abs (term (type_of x.ss s 0 t)) (form_of x.ss s f))
      (Class.of (Lp.prod (term (type_of x.ss s 0 t)) prop)) =
      term_predicate x t f b whole in
      more_rule.not_all_typed x.sigma x.holds x.unbound d b.above (domain x t b it) predicate
      (form_typed x b.fits whole)
      (rule.prf_forall x.sigma x.holds x.unbound (typed_closed (type_at x t b it)) (typed_closed predicate))
      (written x at b1 typed carried) (at_parameter x s n t d f (all_fresh gamma n fresh _ i).1 typed)
      (used x (Form.negation (for_all t f)) b i)
      (child x gamma RuleName.not_for_all 0 (one_more d) (one_more (suc d)) (Scope.of_term n t d s) hs tree e r
      (add_not x at typed carried b1))

  pub universal_refutes : {gamma : List Form} (g : List Form) {ts : DTrees} → (t : Ty) (f : Form) (u : Term)
      → Contains gamma (for_all t f) → HasType x.ss u t
      → RefuteEach x gamma ((at_term f u ∷ []) ∷ []) ts
      → Refutes x gamma (DTree.node g RuleName.universal (for_all t f) None (Some (Opening.of_term u)) ts)
  universal_refutes {gamma} g {ts} t f u i hu (RefuteEach.more {t = tree} e w r RefuteEach.none) d c s hs b =
      let whole : WellTyped x.ss (for_all t f) = b.forms _ i in
      let it : IsType x.ss 0 t = binder_type x.ss whole in
      let k : HasClosedTypes (for_all t f) = b.carries _ i in
      let typed : WellTyped x.ss (at_term f u) = first_typed (WellTyped x.ss) (at_term f u) gamma w in
      let carried : HasClosedTypes (at_term f u) = opened_carries (Opening.of_term u) f (term_carries x.ss u t hu) k.1 in
      let predicate : Has x.sigma c (Lp.abs (term (type_of x.ss s 0 t)) (form_of x.ss s f))
      (Class.of (Lp.prod (term (type_of x.ss s 0 t)) prop)) =
      term_predicate x t f b whole in
      more_rule.all_typed x.sigma x.holds x.unbound d b.above predicate
      (rule.prf_forall x.sigma x.holds x.unbound (typed_closed (type_at x t b it)) (typed_closed predicate))
      (logic.forall_right_type x.sigma (sh x) (domain x t b it) predicate) (term_at x t b hu)
      (written x (at_term f u) b typed carried)
      (at_a_term x f u t b hu typed) (used x (for_all t f) b i)
      (child x gamma RuleName.universal 0 (no_more d) (one_more d) s hs tree e r (add x (at_term f u) typed carried b))

  pub not_exists_refutes : {gamma : List Form} (g : List Form) {ts : DTrees} → (t : Ty) (f : Form) (u : Term)
      → Contains gamma (Form.negation (exists t f)) → HasType x.ss u t
      → RefuteEach x gamma ((Form.negation (at_term f u) ∷ []) ∷ []) ts
      → Refutes x gamma (DTree.node g RuleName.not_exists (Form.negation (exists t f)) None (Some (Opening.of_term u)) ts)
  not_exists_refutes {gamma} g {ts} t f u i hu (RefuteEach.more {t = tree} e w r RefuteEach.none) d c s hs b =
      let whole : WellTyped x.ss (exists t f) = well_typed_negation x.ss (b.forms _ i) in
      let it : IsType x.ss 0 t = binder_type x.ss whole in
      let k : HasClosedTypes (exists t f) = b.carries _ i in
      let typed : WellTyped x.ss (at_term f u) = well_typed_negation x.ss
      (first_typed (WellTyped x.ss) (Form.negation (at_term f u)) gamma w) in
      let carried : HasClosedTypes (at_term f u) = opened_carries (Opening.of_term u) f (term_carries x.ss u t hu) k.1 in
      let dom : Has x.sigma c (term (type_of x.ss s 0 t)) (Class.of Lp.sort) = domain x t b it in
      let predicate : Has x.sigma c (Lp.abs (term (type_of x.ss s 0 t)) (form_of x.ss s f))
      (Class.of (Lp.prod (term (type_of x.ss s 0 t)) prop)) =
      term_predicate x t f b whole in
      let bodies : FromSomeOn (λ n. Has x.sigma (Context.bind n (term (type_of x.ss s 0 t)) c)
      (opened (x.write s f) (Lp.free n)) (Class.of prop)) =
      x.writing.bodies_written c s Quantifier.existential t f b.fits whole k.1 in
      let hw : Has x.sigma c (x.write_term s u) (Class.of (term (type_of x.ss s 0 t))) = term_at x t b hu in
      more_rule.not_exists_typed x.sigma x.holds x.unbound d b.above dom predicate
      (form_typed x b.fits whole)
      (rule.prf_exists x.sigma x.holds x.unbound (typed_closed (type_at x t b it)) (typed_closed predicate))
      (inner x s f (typed_closed predicate)) bodies.0 bodies.1
      (closed_body 0 bodies.0 (x.write s f) (typed_closed (bodies.1 bodies.0 (omega arith))))
      hw (body_at (x.write s f) (x.write_term s u) bodies.0 x.unbound dom hw bodies.1)
      (written x (at_term f u) b typed carried)
      (written_at x s f (x.write_term s u) (typed_closed hw)
      (at_a_term x {a = term (type_of x.ss s 0 t)} f u t b hu typed))
      (used x (Form.negation (exists t f)) b i)
      (child x gamma RuleName.not_exists 0 (no_more d) (one_more d) s hs tree e r
      (add_not x (at_term f u) typed carried b))

  -- over types
  pub existential_types_refutes : {gamma : List Form} (g : List Form) {ts : DTrees} → (f : Form) (n : ℕ)
      → Contains gamma (exists_types f) → IsFreshForAll n gamma
      → RefuteEach x gamma ((at_type f (Ty.param n) ∷ []) ∷ []) ts
      → Refutes x gamma (DTree.node g RuleName.existential (exists_types f) None (Some (Opening.of_type (Ty.param n))) ts)
  existential_types_refutes {gamma} g {ts} f n i fresh (RefuteEach.more {t = tree} e w r RefuteEach.none) d c s hs b =
      let whole : WellTyped x.ss (exists_types f) = b.forms _ i in
      let k : HasClosedTypes f = b.carries _ i in
      let at : Form = at_type f (Ty.param n) in
      let typed : WellTyped x.ss at = first_typed (WellTyped x.ss) at gamma w in
      let carried : HasClosedTypes at = opened_carries (Opening.of_type (Ty.param n)) f (type_carries (Ty.param n)) k in
      let b1 : Branch x gamma (suc d) _ (Scope.of_type n d s) hs = enter_type x n (all_fresh gamma n fresh) b in
      let predicate : Has x.sigma c (Lp.abs types (form_of x.ss s f)) (Class.of (Lp.prod types prop)) =
      type_predicate x f b whole in
      rule.exists_typed x.sigma x.holds x.unbound d b.above (logic.const_type x.sigma (sh x) c) predicate
      (rule.prf_exists_type x.sigma x.holds x.unbound (typed_closed predicate))
      (written x at b1 typed carried) (at_type_parameter x n f b (all_fresh gamma n fresh)
      (all_fresh gamma n fresh _ i) typed)
      (used x (exists_types f) b i)
      (child x gamma RuleName.existential 0 (one_more d) (one_more (suc d)) (Scope.of_type n d s) hs tree e r
      (add x at typed carried b1))

  pub not_for_all_types_refutes : {gamma : List Form} (g : List Form) {ts : DTrees} → (f : Form) (n : ℕ)
      → Contains gamma (Form.negation (for_all_types f)) → IsFreshForAll n gamma
      → RefuteEach x gamma ((Form.negation (at_type f (Ty.param n)) ∷ []) ∷ []) ts
      → Refutes x gamma (DTree.node g RuleName.not_for_all (Form.negation (for_all_types f)) None
      (Some (Opening.of_type (Ty.param n))) ts)
  not_for_all_types_refutes {gamma} g {ts} f n i fresh (RefuteEach.more {t = tree} e w r RefuteEach.none) d c s hs b =
      let whole : WellTyped x.ss (for_all_types f) = well_typed_negation x.ss (b.forms _ i) in
      let k : HasClosedTypes f = b.carries _ i in
      let at : Form = at_type f (Ty.param n) in
      let typed : WellTyped x.ss at = well_typed_negation x.ss
      (first_typed (WellTyped x.ss) (Form.negation at) gamma w) in
      let carried : HasClosedTypes at = opened_carries (Opening.of_type (Ty.param n)) f (type_carries (Ty.param n)) k in
      let b1 : Branch x gamma (suc d) _ (Scope.of_type n d s) hs = enter_type x n (all_fresh gamma n fresh) b in
      let predicate : Has x.sigma c (Lp.abs types (form_of x.ss s f)) (Class.of (Lp.prod types prop)) =
      type_predicate x f b whole in
      more_rule.not_all_typed x.sigma x.holds x.unbound d b.above (logic.const_type x.sigma (sh x) c) predicate
      (form_typed x b.fits whole)
      (rule.prf_forall_type x.sigma x.holds x.unbound (typed_closed predicate))
      (written x at b1 typed carried) (at_type_parameter x n f b (all_fresh gamma n fresh)
      (all_fresh gamma n fresh _ i) typed)
      (used x (Form.negation (for_all_types f)) b i)
      (child x gamma RuleName.not_for_all 0 (one_more d) (one_more (suc d)) (Scope.of_type n d s) hs tree e r
      (add_not x at typed carried b1))

  pub universal_types_refutes : {gamma : List Form} (g : List Form) {ts : DTrees} → (f : Form) (t : Ty)
      → Contains gamma (for_all_types f) → IsType x.ss 0 t
      → RefuteEach x gamma ((at_type f t ∷ []) ∷ []) ts
      → Refutes x gamma (DTree.node g RuleName.universal (for_all_types f) None (Some (Opening.of_type t)) ts)
  universal_types_refutes {gamma} g {ts} f t i it (RefuteEach.more {t = tree} e w r RefuteEach.none) d c s hs b =
      let whole : WellTyped x.ss (for_all_types f) = b.forms _ i in
      let k : HasClosedTypes f = b.carries _ i in
      let typed : WellTyped x.ss (at_type f t) = first_typed (WellTyped x.ss) (at_type f t) gamma w in
      let carried : HasClosedTypes (at_type f t) = opened_carries (Opening.of_type t) f (type_carries t) k in
      let predicate : Has x.sigma c (Lp.abs types (form_of x.ss s f)) (Class.of (Lp.prod types prop)) =
      type_predicate x f b whole in
      more_rule.all_typed x.sigma x.holds x.unbound d b.above predicate
      (rule.prf_forall_type x.sigma x.holds x.unbound (typed_closed predicate))
      (logic.forall_right_type x.sigma (sh x) (logic.const_type x.sigma (sh x) c) predicate) (type_at x t b it)
      (written x (at_type f t) b typed carried) (at_a_type x f t b k it typed) (used x (for_all_types f) b i)
      (child x gamma RuleName.universal 0 (no_more d) (one_more d) s hs tree e r (add x (at_type f t) typed carried b))

  pub not_exists_types_refutes : {gamma : List Form} (g : List Form) {ts : DTrees} → (f : Form) (t : Ty)
      → Contains gamma (Form.negation (exists_types f)) → IsType x.ss 0 t
      → RefuteEach x gamma ((Form.negation (at_type f t) ∷ []) ∷ []) ts
      → Refutes x gamma (DTree.node g RuleName.not_exists (Form.negation (exists_types f)) None
      (Some (Opening.of_type t)) ts)
  not_exists_types_refutes {gamma} g {ts} f t i it (RefuteEach.more {t = tree} e w r RefuteEach.none) d c s hs b =
      let whole : WellTyped x.ss (exists_types f) = well_typed_negation x.ss (b.forms _ i) in
      let k : HasClosedTypes f = b.carries _ i in
      let typed : WellTyped x.ss (at_type f t) = well_typed_negation x.ss
      (first_typed (WellTyped x.ss) (Form.negation (at_type f t)) gamma w) in
      let carried : HasClosedTypes (at_type f t) = opened_carries (Opening.of_type t) f (type_carries t) k in
      let dom : Has x.sigma c types (Class.of Lp.sort) = logic.const_type x.sigma (sh x) c in
      let predicate : Has x.sigma c (Lp.abs types (form_of x.ss s f)) (Class.of (Lp.prod types prop)) =
      type_predicate x f b whole in
      let bodies : FromSomeOn (λ n. Has x.sigma (Context.bind n types c) (opened (x.write s f) (Lp.free n))
      (Class.of prop)) =
      x.writing.bodies_written_types c s Quantifier.existential f b.fits whole k in
      let hw : Has x.sigma c (type_of x.ss s 0 t) (Class.of types) = type_at x t b it in
      more_rule.not_exists_typed x.sigma x.holds x.unbound d b.above dom predicate
      (form_typed x b.fits whole)
      (rule.prf_exists_type x.sigma x.holds x.unbound (typed_closed predicate))
      (inner x s f (typed_closed predicate)) bodies.0 bodies.1
      (closed_body 0 bodies.0 (x.write s f) (typed_closed (bodies.1 bodies.0 (omega arith))))
      hw (body_at (x.write s f) (type_of x.ss s 0 t) bodies.0 x.unbound dom hw bodies.1)
      (written x (at_type f t) b typed carried)
      (written_at x s f (type_of x.ss s 0 t) (typed_closed hw) (at_a_type x {a = types} f t b k it typed))
      (used x (Form.negation (exists_types f)) b i)
      (child x gamma RuleName.not_exists 0 (no_more d) (one_more d) s hs tree e r
      (add_not x (at_type f t) typed carried b))
