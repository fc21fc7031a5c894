-- Translations of well typed types, terms and formulas are typed, in each context that fits the scope.
use Rattle.std.proofs.Common.{◌≡◌, ℕ, ◌==◌, ◌&&◌, Bool, true, false, cond, refl, ap, ap₂, sym, ◌∙◌, subst, arith, Some, List, [], ◌∷◌, ◌++◌, length}
use Rattle.std.proofs.lemmas.Bool.{and_parts}
use Rattle.lp_terms.specs.Term.{Lp, opened, IsClosed, IsClosedAt}
use Rattle.lp_terms.specs.Term as lp
use Rattle.lp_terms.specs.Signature.{Entry, Holds, Declares, Extends}
use Rattle.lp_terms.specs.Signature as sig
use Rattle.lp_terms.specs.Typing.{Context, Binds, Class, IsSort, Has}
use Rattle.lp_terms.specs.Typing as ty
use Rattle.lp_terms.proofs.Substitution.{weaken_bind}
use Rattle.lp_terms.proofs.Binders.{typed_closed, arrow_type, arrow_apply}
use Rattle.zm_logic.specs.Tree.{Ty, Tys, Term, Terms, Form, Connective, Quantifier, Symbol, Sense}
use Rattle.zm_logic.specs.Opening.{openings}
use Rattle.zm_logic.specs.Index.{AreClosedTypes}
use Rattle.zm_logic.specs.Same.{same_type}
use Rattle.zm_logic.specs.Typing.{IsType, AreTypes, HasType, HaveTypes, IsAtom, WellTyped, IsDeclaration, IsSignature, symbol_at, how_many, argument_types}
use Rattle.zm_logic.proofs.Sames.{same_type-true}
use Rattle.zm_logic.proofs.ClosedForm.{type_is_closed, types_are_closed, form_is_closed}
use Rattle.zm_logic.proofs.Inverted.{binder_type}
use Rattle.zm_logic.proofs.TypeInstances.{length_openings, type_instance_typed, types_instance_typed}
use Rattle.lp_signature.specs.Prelude.{prop, types, term, any, prelude, exists_type_entry, rules, nnpp_entry}
use Rattle.lp_signature.specs.Prelude as pre
use Rattle.lp_signature.specs.Names.{constant}
use Rattle.lp_signature.specs.Translation.{Scope, read_type, read_term, type_of, apply_types, term_of, apply_terms, binary_of, quantified_of, quantified_types_of, form_of, arrows, over_types}
use Rattle.lp_signature.specs.Scoped.{Avoids, Declared, Fits}
use Rattle.lp_signature.proofs.Logic as logic
use Rattle.lp_signature.proofs.Logic.{stable, extends_append}
use Rattle.lp_signature.proofs.Trees.{type_holds, not_held, declaration}
use Rattle.lp_signature.proofs.Scopes.{without, without_avoids, without_carries, without_types, without_terms, type_without, unread}
use Rattle.lp_signature.proofs.Readings.{type_kept, type_kept_ty, type_closed, body_is, body_is_new}
use Rattle.lp_signature.proofs.SymbolTypes.{InSense, arrows_in, closed_arrows, result_at, filled, filled_types, closed_arrows_closed, filled_symbol, arrows_anywhere, over_opened, sense_types, sense_never}

-- what a signature that extends the prelude holds
pub behind : {e : Entry} (xs : List Entry) {ys : List Entry} → Holds ys e → Holds (xs ++ ys) e
behind [] h = h
behind (x ∷ xs) h = sig.Holds.later (behind xs h)

pub symbols_hold : (sigma : List Entry) → Extends prelude sigma → Extends pre.symbols sigma
symbols_hold sigma holds e i = holds e (extends_append pre.symbols _ e i)

pub exists_type_holds : (sigma : List Entry) → Extends prelude sigma → Holds sigma exists_type_entry
exists_type_holds sigma holds = holds _ (behind pre.symbols (behind rules (sig.Holds.later sig.Holds.first)))

module _ (sigma : List Entry) (holds : Extends prelude sigma) where
  pub const_iota : (g : Context) → Has sigma g pre.iota (Class.of types)
  const_iota g = logic.const_iota sigma (symbols_hold sigma holds) g

  binary_typed : {g : Context} (symbols : List Symbol) (c : Connective) (p q : Lp) → Has sigma g p (Class.of prop)
      → Has sigma g q (Class.of prop)
      → Has sigma g (binary_of symbols c p q) (Class.of prop)
  binary_typed symbols Connective.conjunction p q h k = logic.and_type sigma (symbols_hold sigma holds) h k
  binary_typed symbols Connective.disjunction p q h k = logic.or_type sigma (symbols_hold sigma holds) h k
  binary_typed symbols Connective.implication p q h k = logic.imp_type sigma (symbols_hold sigma holds) h k
  binary_typed symbols Connective.equivalence p q h k = logic.iff_type sigma (symbols_hold sigma holds) h k

  quantified_typed : {g : Context} (symbols : List Symbol) (q : Quantifier) (a f : Lp) → Has sigma g a (Class.of types)
      → Has sigma g f (Class.of (Lp.prod (term a) prop)) → Has sigma g (quantified_of symbols q a f) (Class.of prop)
  quantified_typed symbols Quantifier.universal a f h k = logic.forall_type sigma (symbols_hold sigma holds) h k
  quantified_typed symbols Quantifier.existential a f h k = logic.exists_type sigma (symbols_hold sigma holds) h k

  quantified_types_typed : {g : Context} (symbols : List Symbol) (q : Quantifier) (f : Lp)
      → Has sigma g f (Class.of (Lp.prod types prop))
      → Has sigma g (quantified_types_of symbols q f) (Class.of prop)
  quantified_types_typed symbols Quantifier.universal f k = logic.forall_type_type sigma (symbols_hold sigma holds) k
  quantified_types_typed symbols Quantifier.existential f k =
      logic.exists_type_type sigma (symbols_hold sigma holds) (exists_type_holds sigma holds) k

  -- types are typed, over the first symbols
  module _ (symbols before : List Symbol) (declared : Declared sigma symbols before) (g : Context) (s : Scope)
      (reads : (n : ℕ) → Has sigma g (read_type s n) (Class.of types)) where
    constructor_has : (c : ℕ) (d : Symbol) (ts : Tys) → symbol_at before c ≡ Some d → d.types ≡ how_many ts
        → d.sense ≡ Sense.constructor
        → Has sigma g (Lp.const (constant symbols c)) (Class.of (over_types symbols (length (openings ts)) types))
    constructor_has c d ts e n k =
        subst (λ v. Has sigma g (Lp.const (constant symbols c)) (Class.of v))
        (ap (λ m. over_types symbols m (arrows symbols 0 d.arguments d.sense)) (n ∙ sym (length_openings ts))
        ∙ ap₂ (λ a r. over_types symbols (length (openings ts)) (arrows symbols 0 a r)) (declared.constructors c d e k) k)
        (ty.Has.constant (declared.constants c d e))

    mutual
      pub type_typed : (t : Ty) → IsType before 0 t → Has sigma g (type_of symbols s 0 t) (Class.of types)
      type_typed (Ty.bound i) h = absurd (omega arith)
      type_typed (Ty.param n) h = reads n
      type_typed (Ty.meta n) h = const_iota g
      type_typed (Ty.con c ts) h =
          subst (λ v. Has sigma g (apply_types symbols s 0 (Lp.const (constant symbols c)) ts) (Class.of v)) (filled_types symbols s ts)
          (type_spine (Lp.const (constant symbols c)) types ts (constructor_has c h.0.0 ts h.0.1.0 h.0.1.1 h.0.2) h.1)

      -- an application to types
      type_spine : (f v : Lp) (ts : Tys) → Has sigma g f (Class.of (over_types symbols (length (openings ts)) v))
          → AreTypes before 0 ts
          → Has sigma g (apply_types symbols s 0 f ts) (Class.of (filled symbols s ts v))
      type_spine f v Tys.none p h = p
      type_spine f v (Tys.more t ts) p h =
          type_spine (Lp.app f (type_of symbols s 0 t)) (lp.open_at (length (openings ts)) (type_of symbols s 0 t) v) ts
          (subst (λ w. Has sigma g (Lp.app f (type_of symbols s 0 t)) (Class.of w)) (over_opened symbols (length (openings ts)) (type_of symbols s 0 t) v)
          (ty.Has.application p (type_typed t h.0)))
          h.1

    -- a declared symbol at types
    pub symbol_applied : (c : ℕ) (d : Symbol) (ts : Tys) → symbol_at before c ≡ Some d → d.types ≡ how_many ts
        → IsDeclaration before d
        → AreTypes before 0 ts
        → Has sigma g (apply_types symbols s 0 (Lp.const (constant symbols c)) ts) (Class.of (closed_arrows symbols s (argument_types d ts) (result_at symbols s ts d.sense)))
    symbol_applied c d ts e n w h =
        let count : d.types ≡ length (openings ts) = n ∙ sym (length_openings ts) in
        subst (λ v. Has sigma g (apply_types symbols s 0 (Lp.const (constant symbols c)) ts) (Class.of v))
        (filled_symbol symbols s before ts d.arguments d.sense h (subst (λ (k : ℕ). AreTypes before k d.arguments) count w.0)
        (subst (λ (k : ℕ). InSense (IsType before k) d.sense) count (sense_types before d d.sense w.2)))
        (type_spine (Lp.const (constant symbols c)) (arrows_in symbols s 0 d.arguments d.sense) ts
        (subst (λ v. Has sigma g (Lp.const (constant symbols c)) (Class.of v))
        (ap (λ m. over_types symbols m (arrows symbols 0 d.arguments d.sense)) count
        ∙ ap (over_types symbols (length (openings ts))) (arrows_anywhere symbols s 0 d.arguments d.sense w.1 (sense_never before d d.sense w.2)))
        (ty.Has.constant (declared.constants c d e)))
        h)

-- what a well typed term has is a type
pub has_type_is_type : (symbols : List Symbol) → IsSignature symbols → (u : Term) (t : Ty) → HasType symbols u t
    → IsType symbols 0 t
has_type_is_type symbols good (Term.bound i) t h = absurd h
has_type_is_type symbols good (Term.eps n r) t h = subst (IsType symbols 0) h.1 h.0
has_type_is_type symbols good (Term.meta n r) t h = subst (IsType symbols 0) h.1 h.0
has_type_is_type symbols good (Term.app f ts us) t h =
    let w = declaration symbols good f h.0 h.2.0 in
    let r = subst (InSense (IsType symbols h.0.types)) h.3 (sense_types symbols h.0 h.0.sense w.2) in
    subst (IsType symbols 0) h.6 (type_instance_typed symbols ts h.1 h.4 (subst (λ (k : ℕ). IsType symbols k h.1) h.2.1 r))

pub argument_types_typed : (symbols : List Symbol) → IsSignature symbols → (c : ℕ) (d : Symbol) (ts : Tys)
    → symbol_at symbols c ≡ Some d
    → d.types ≡ how_many ts → AreTypes symbols 0 ts → AreTypes symbols 0 (argument_types d ts)
argument_types_typed symbols good c d ts e n h =
    types_instance_typed symbols ts d.arguments h (subst (λ (k : ℕ). AreTypes symbols k d.arguments) n (declaration symbols good c d e).0)

module _ (sigma : List Entry) (holds : Extends prelude sigma) (symbols : List Symbol) (good : IsSignature symbols) (declared : Declared sigma symbols symbols) where
  -- a type in a context that fits
  pub type_fits : {g : Context} {s : Scope} → Fits sigma symbols g s → (t : Ty) → IsType symbols 0 t
      → Has sigma g (type_of symbols s 0 t) (Class.of types)
  type_fits {g} {s} f t h = type_typed sigma holds symbols symbols declared g s f.types_read t h

  module _ (g : Context) (s : Scope) (fits : Fits sigma symbols g s) where
    pub symbol_fits : (c : ℕ) (d : Symbol) (ts : Tys) → symbol_at symbols c ≡ Some d → d.types ≡ how_many ts
        → AreTypes symbols 0 ts
        → Has sigma g (apply_types symbols s 0 (Lp.const (constant symbols c)) ts)
        (Class.of (closed_arrows symbols s (argument_types d ts) (result_at symbols s ts d.sense)))
    symbol_fits c d ts e n h =
        symbol_applied sigma holds symbols symbols declared g s fits.types_read c d ts e n (declaration symbols good c d e) h

    mutual
      pub term_typed : (u : Term) (t : Ty) → HasType symbols u t
          → Has sigma g (term_of symbols s u) (Class.of (term (type_of symbols s 0 t)))
      term_typed (Term.bound i) t h = absurd h
      term_typed (Term.eps n r) t h =
          subst (λ x. Has sigma g (term_of symbols s (Term.eps n r)) (Class.of (term (type_of symbols s 0 x)))) h.1 (fits.terms_read n r h.0)
      term_typed (Term.meta n r) t h =
          subst (λ x. Has sigma g (any (type_of symbols s 0 r)) (Class.of (term (type_of symbols s 0 x)))) h.1
          (logic.any_type sigma (symbols_hold sigma holds) (type_fits fits r h.0))
      term_typed (Term.app f ts us) t h =
          let it : IsType symbols 0 t = has_type_is_type symbols good (Term.app f ts us) t h in
          let v : Lp = term (type_of symbols s 0 t) in
          let e : result_at symbols s ts h.0.sense ≡ v = ap (result_at symbols s ts) h.3 ∙ ap (λ x. term (type_of symbols s 0 x)) h.6 in
          terms_typed us (argument_types h.0 ts) (apply_types symbols s 0 (Lp.const (constant symbols f)) ts) v
          (lp.IsClosedAt.app lp.IsClosedAt.const (type_closed symbols s 0 0 t (type_is_closed symbols t it)))
          (types_are_closed symbols (argument_types h.0 ts) (argument_types_typed symbols good f h.0 ts h.2.0 h.2.1 h.4))
          (subst (λ x. Has sigma g (apply_types symbols s 0 (Lp.const (constant symbols f)) ts) (Class.of (closed_arrows symbols s (argument_types h.0 ts) x))) e
          (symbol_fits f h.0 ts h.2.0 h.2.1 h.4))
          h.5

      -- an application to terms
      pub terms_typed : (us : Terms) (ts : Tys) (f v : Lp) → IsClosed v → AreClosedTypes 0 ts
          → Has sigma g f (Class.of (closed_arrows symbols s ts v))
          → HaveTypes symbols us ts → Has sigma g (apply_terms symbols s f us) (Class.of v)
      terms_typed Terms.none Tys.none f v c d p h = p
      terms_typed Terms.none (Tys.more t ts) f v c d p h = absurd h
      terms_typed (Terms.more u us) Tys.none f v c d p h = absurd h
      terms_typed (Terms.more u us) (Tys.more t ts) f v c d p h =
          terms_typed us ts (Lp.app f (term_of symbols s u)) v c d.1
          (arrow_apply p (closed_arrows_closed symbols s ts v d.1 c 0) (term_typed u t h.0)) h.1

    -- opening goes to the head of an application to well typed terms
    pub spine_open : (us : Terms) (ts : Tys) (f u : Lp) → HaveTypes symbols us ts
        → lp.open_at 0 u (apply_terms symbols s f us) ≡ apply_terms symbols s (lp.open_at 0 u f) us
    spine_open Terms.none ts f u h = refl
    spine_open (Terms.more a us) Tys.none f u h = absurd h
    spine_open (Terms.more a us) (Tys.more t ts) f u h =
        spine_open us ts (Lp.app f (term_of symbols s a)) u h.1
        ∙ ap (λ w. apply_terms symbols s (Lp.app (lp.open_at 0 u f) w) us) (stable (typed_closed (term_typed a t h.0)) 0 u)

    atom_typed : (p : ℕ) (ts : Tys) (us : Terms) → IsAtom symbols p ts us
        → Has sigma g (apply_terms symbols s (apply_types symbols s 0 (Lp.const (constant symbols p)) ts) us) (Class.of prop)
    atom_typed p ts us h =
        terms_typed us (argument_types h.0 ts) (apply_types symbols s 0 (Lp.const (constant symbols p)) ts) prop lp.IsClosedAt.const
        (types_are_closed symbols (argument_types h.0 ts) (argument_types_typed symbols good p h.0 ts h.1.0 h.1.1 h.3))
        (subst (λ x. Has sigma g (apply_types symbols s 0 (Lp.const (constant symbols p)) ts) (Class.of (closed_arrows symbols s (argument_types h.0 ts) x)))
        (ap (result_at symbols s ts) h.2) (symbol_fits p h.0 ts h.1.0 h.1.1 h.3))
        h.4

  -- one variable more for an epsilon term
  term_more : {g : Context} (s : Scope) (t : Ty) (x m : ℕ) (u : Ty) (b : Bool) → (b ≡ true → u ≡ t)
      → Has sigma g (read_term s m u (any (type_of symbols s 0 u))) (Class.of (term (type_of symbols s 0 u)))
      → Has sigma (Context.bind x (term (type_of symbols s 0 t)) g) (cond b (Lp.free x) (read_term s m u (any (type_of symbols s 0 u)))) (Class.of (term (type_of symbols s 0 u)))
  term_more {g} s t x m u true e h =
      subst (λ w. Has sigma (Context.bind x (term (type_of symbols s 0 t)) g) (Lp.free x) (Class.of (term (type_of symbols s 0 w)))) (sym (e refl)) (ty.Has.variable ty.Binds.here)
  term_more s t x m u false e h = weaken_bind x _ h

  pub fits_term : {g : Context} {s : Scope} (n : ℕ) (t : Ty) (x : ℕ) → IsType symbols 0 t → Fits sigma symbols g s
      → Fits sigma symbols (Context.bind x (term (type_of symbols s 0 t)) g) (Scope.of_term n t x s)
  fits_term {g} {s} n t x it f = record {
    types_read = λ m. weaken_bind x (term (type_of symbols s 0 t)) (f.types_read m);
    terms_read = λ m u p. subst (λ w. Has sigma (Context.bind x (term (type_of symbols s 0 t)) g)
        (cond ((m == n) && same_type u t) (Lp.free x) (read_term s m u (any w))) (Class.of (term w)))
        (sym (type_kept symbols n t x s 0 u))
        (term_more s t x m u ((m == n) && same_type u t) (λ e. same_type-true u t (and_parts (m == n) (same_type u t) e).1) (f.terms_read m u p));
    carried = (it, f.carried);
  }

  -- and for a type parameter
  pub type_more : {g : Context} (s : Scope) (x m : ℕ) (b : Bool) → Has sigma g (read_type s m) (Class.of types)
      → Has sigma (Context.bind x types g) (cond b (Lp.free x) (read_type s m)) (Class.of types)
  type_more s x m true h = ty.Has.variable ty.Binds.here
  type_more s x m false h = weaken_bind x types h

  pub fits_type : {g : Context} {s : Scope} (n x : ℕ) → Avoids n s → Fits sigma symbols g s
      → Fits sigma symbols (Context.bind x types g) (Scope.of_type n x s)
  fits_type {g} {s} n x a f = record {
    types_read = reads;
    terms_read = λ m u p. go m u p (type_holds n u) refl;
    carried = f.carried;
  }
    where
      reads : (m : ℕ) → Has sigma (Context.bind x types g) (read_type (Scope.of_type n x s) m) (Class.of types)
      reads m = type_more s x m (m == n) (f.types_read m)

      go : (m : ℕ) (u : Ty) → IsType symbols 0 u → (b : Bool) → type_holds n u ≡ b
          → Has sigma (Context.bind x types g) (read_term s m u (any (type_of symbols (Scope.of_type n x s) 0 u))) (Class.of (term (type_of symbols (Scope.of_type n x s) 0 u)))
      go m u p true e =
          subst (λ w. Has sigma (Context.bind x types g) w (Class.of (term (type_of symbols (Scope.of_type n x s) 0 u))))
          (sym (unread n s m u (any (type_of symbols (Scope.of_type n x s) 0 u)) a e))
          (logic.any_type sigma (symbols_hold sigma holds) (type_typed sigma holds symbols symbols declared (Context.bind x types g) (Scope.of_type n x s) reads u p))
      go m u p false e =
          subst (λ w. Has sigma (Context.bind x types g) (read_term s m u (any w)) (Class.of (term w)))
          (sym (type_kept_ty symbols n x s 0 u (not_held n u e))) (weaken_bind x types (f.terms_read m u p))

  -- the scope without what it reads of a number fits too
  pub fits_without : {g : Context} {s : Scope} (n : ℕ) → Fits sigma symbols g s → Fits sigma symbols g (without n s)
  fits_without {g} {s} n f = record {
    types_read = λ m. subst (λ v. Has sigma g v (Class.of types)) (sym (without_types n s m)) (f.types_read m);
    terms_read = λ m u p. subst (λ w. Has sigma g (read_term (without n s) m u (any w)) (Class.of (term w))) (sym (type_without n s symbols 0 u)) (go m u p (type_holds n u) refl);
    carried = without_carries symbols n s f.carried;
  }
    where
      go : (m : ℕ) (u : Ty) → IsType symbols 0 u → (b : Bool) → type_holds n u ≡ b
          → Has sigma g (read_term (without n s) m u (any (type_of symbols s 0 u))) (Class.of (term (type_of symbols s 0 u)))
      go m u p true e =
          subst (λ w. Has sigma g w (Class.of (term (type_of symbols s 0 u)))) (sym (unread n (without n s) m u (any (type_of symbols s 0 u)) (without_avoids n s) e))
          (logic.any_type sigma (symbols_hold sigma holds) (type_fits f u p))
      go m u p false e =
          subst (λ w. Has sigma g w (Class.of (term (type_of symbols s 0 u)))) (sym (without_terms n s m u (any (type_of symbols s 0 u)) (not_held n u e))) (f.terms_read m u p)

  pub fits_weak : {g : Context} {s : Scope} (x : ℕ) (a : Lp) → Fits sigma symbols g s
      → Fits sigma symbols (Context.bind x a g) s
  fits_weak x a f = record {
    types_read = λ m. weaken_bind x a (f.types_read m);
    terms_read = λ m u p. weaken_bind x a (f.terms_read m u p);
    carried = f.carried;
  }

  pub fits_none : (g : Context) → Fits sigma symbols g Scope.none
  fits_none g = record {
    types_read = λ m. const_iota sigma holds g;
    terms_read = λ m u p. logic.any_type sigma (symbols_hold sigma holds) (type_typed sigma holds symbols symbols declared g Scope.none (λ k. const_iota sigma holds g) u p);
    carried = tt;
  }

  -- an abstraction of a formula over the terms of a type, and over the types
  abstracted : {g : Context} (a f : Lp) → Has sigma g a (Class.of Lp.sort)
      → ((x : ℕ) → Has sigma (Context.bind x a g) (opened f (Lp.free x)) (Class.of prop))
      → Has sigma g (Lp.abs a f) (Class.of (Lp.prod a prop))
  abstracted {g} a f p q =
      ty.Has.abstraction 0 (λ x le. q x) (arrow_type p (logic.const_prop sigma (symbols_hold sigma holds) g) ty.IsSort.is_type) ty.IsSort.is_type

  term_sort : {g : Context} {s : Scope} → Fits sigma symbols g s → (t : Ty) → IsType symbols 0 t
      → Has sigma g (term (type_of symbols s 0 t)) (Class.of Lp.sort)
  term_sort f t h = logic.term_type sigma (symbols_hold sigma holds) (type_fits f t h)

  -- a well typed formula is a proposition
  pub form_typed : {f : Form} (g : Context) (s : Scope) → Fits sigma symbols g s → WellTyped symbols f
      → Has sigma g (form_of symbols s f) (Class.of prop)
  form_typed g s fits WellTyped.truth = logic.const_true sigma (symbols_hold sigma holds) g
  form_typed g s fits WellTyped.falsity = logic.const_false sigma (symbols_hold sigma holds) g
  form_typed g s fits (WellTyped.atom {p = p} {ts = ts} {us = us} h) = atom_typed g s fits p ts us h
  form_typed g s fits (WellTyped.equal {t = t} {a = a} {b = b} it h k) =
      logic.eq_type sigma (symbols_hold sigma holds) (type_fits fits t it) (term_typed g s fits a t h) (term_typed g s fits b t k)
  form_typed g s fits (WellTyped.negation h) = logic.not_type sigma (symbols_hold sigma holds) (form_typed g s fits h)
  form_typed g s fits (WellTyped.binary {c = c} {f = f} {g = k} h i) =
      binary_typed sigma holds symbols c (form_of symbols s f) (form_of symbols s k) (form_typed g s fits h) (form_typed g s fits i)
  form_typed g s fits (WellTyped.quantified {q = q} {t = t} {f = f} n fresh it w) =
      quantified_typed sigma holds symbols q (type_of symbols s 0 t) (Lp.abs (term (type_of symbols s 0 t)) (form_of symbols s f)) (type_fits fits t it)
      (abstracted (term (type_of symbols s 0 t)) (form_of symbols s f) (term_sort fits t it)
      (λ x. subst (λ v. Has sigma (Context.bind x (term (type_of symbols s 0 t)) g) v (Class.of prop))
      (body_is symbols s n t x f fresh.1 (form_is_closed symbols w))
      (form_typed (Context.bind x (term (type_of symbols s 0 t)) g) (Scope.of_term n t x s) (fits_term n t x it fits) w)))
  form_typed g s fits (WellTyped.quantified_types {q = q} {f = f} n fresh w) =
      quantified_types_typed sigma holds symbols q (Lp.abs types (form_of symbols s f))
      (abstracted types (form_of symbols s f) (logic.const_type sigma (symbols_hold sigma holds) g)
      (λ x. subst (λ v. Has sigma (Context.bind x types g) v (Class.of prop))
      (body_is_new n s symbols x f fits.carried fresh (form_is_closed symbols w))
      (form_typed (Context.bind x types g) (Scope.of_type n x (without n s)) (fits_type n x (without_avoids n s) (fits_without n fits)) w)))

  -- the body of a quantifier at each variable, and its abstraction
  pub bodies_typed : {q : Quantifier} {t : Ty} {f : Form} (g : Context) (s : Scope) → Fits sigma symbols g s
      → WellTyped symbols (Form.quantified q t f)
      → (x : ℕ)
      → Has sigma (Context.bind x (term (type_of symbols s 0 t)) g) (opened (form_of symbols s f) (Lp.free x)) (Class.of prop)
  bodies_typed g s fits (WellTyped.quantified {t = t} {f = f} n fresh it w) x =
      subst (λ v. Has sigma (Context.bind x (term (type_of symbols s 0 t)) g) v (Class.of prop))
      (body_is symbols s n t x f fresh.1 (form_is_closed symbols w))
      (form_typed (Context.bind x (term (type_of symbols s 0 t)) g) (Scope.of_term n t x s) (fits_term n t x it fits) w)

  pub predicate_typed : {q : Quantifier} {t : Ty} {f : Form} (g : Context) (s : Scope) → Fits sigma symbols g s
      → WellTyped symbols (Form.quantified q t f)
      → Has sigma g (Lp.abs (term (type_of symbols s 0 t)) (form_of symbols s f)) (Class.of (Lp.prod (term (type_of symbols s 0 t)) prop))
  predicate_typed {t = t} {f = f} g s fits w =
      abstracted (term (type_of symbols s 0 t)) (form_of symbols s f) (term_sort fits t (binder_type symbols w)) (bodies_typed g s fits w)

  pub bodies_typed_ty : {q : Quantifier} {f : Form} (g : Context) (s : Scope) → Fits sigma symbols g s
      → WellTyped symbols (Form.quantified_types q f)
      → (x : ℕ) → Has sigma (Context.bind x types g) (opened (form_of symbols s f) (Lp.free x)) (Class.of prop)
  bodies_typed_ty g s fits (WellTyped.quantified_types {f = f} n fresh w) x =
      subst (λ v. Has sigma (Context.bind x types g) v (Class.of prop))
      (body_is_new n s symbols x f fits.carried fresh (form_is_closed symbols w))
      (form_typed (Context.bind x types g) (Scope.of_type n x (without n s)) (fits_type n x (without_avoids n s) (fits_without n fits)) w)

  pub predicate_typed_ty : {q : Quantifier} {f : Form} (g : Context) (s : Scope) → Fits sigma symbols g s
      → WellTyped symbols (Form.quantified_types q f)
      → Has sigma g (Lp.abs types (form_of symbols s f)) (Class.of (Lp.prod types prop))
  predicate_typed_ty {f = f} g s fits w =
      abstracted types (form_of symbols s f) (logic.const_type sigma (symbols_hold sigma holds) g) (bodies_typed_ty g s fits w)
