-- What the induction says of a tree, and what a rule's children give.
use Rattle.std.proofs.Common.{ℕ, suc, ◌+◌, ◌≡◌, List, [], ◌∷◌, ◌++◌, length, All, Contains, sym, subst, arith}
use Rattle.lp_terms.specs.Term.{Lp}
use Rattle.lp_terms.specs.Signature.{Entry}
use Rattle.lp_terms.specs.Reduction.{Converts}
use Rattle.lp_terms.specs.Typing.{Context, Class, IsSort, Has}
use Rattle.lp_terms.specs.Typing as ty
use Rattle.lp_terms.proofs.Substitution.{converts_sym, converts_trans, convert_function, convert_argument}
use Rattle.zm_logic.specs.Tree.{Ty, Term, Form, Opening, differ}
use Rattle.zm_logic.specs.Opening.{open_type, open_at}
use Rattle.zm_logic.specs.Index.{IsClosedType}
use Rattle.zm_logic.specs.Typing.{IsType, HasType, WellTyped}
use Rattle.zm_logic.proofs.Each.{EachInOpening, each_open}
use Rattle.lp_signature.specs.Prelude.{prop, prf, types, term, falsity, not_of, eq_of}
use Rattle.lp_signature.specs.Translation.{Scope, type_of, term_of, form_of}
use Rattle.lp_signature.specs.Scoped.{CarriesClosed}
use Rattle.lp_signature.proofs.Logic as logic
use Rattle.lp_signature.proofs.Trees.{open_closed_type, type_carries, term_carries}
use Rattle.sequent_proof.specs.Rules.{RuleName}
use Rattle.sequent_proof.specs.Tree.{DTree, DTrees, added}
use Rattle.lp_translation.specs.ProofOf.{Hypotheses, earliest, bound_by, as_bound, proof}
use Rattle.lp_translation.proofs.Writings.{HasClosedTypes, Setting, type_typed}
use Rattle.lp_translation.proofs.Branches.{Branch, sh, used, add_as}

pub convert_two : {sigma : List Entry} {a b p q : Lp} (c : Lp) → Converts sigma a b → Converts sigma p q → Converts sigma
    (Lp.app (Lp.app c a) p) (Lp.app (Lp.app c b) q)
convert_two c e h = converts_trans (convert_function _ (convert_argument c e)) (convert_argument _ h)

-- sums of a small number and another
pub no_more : (d : ℕ) → 0 + d ≡ d
no_more d = omega arith

pub one_more : (d : ℕ) → 1 + d ≡ suc d
one_more d = omega arith

pub two_more : (d : ℕ) → 2 + d ≡ suc (suc d)
two_more d = omega arith

-- opening brings no loose index into the types that parameters carry
pub opened_carries : (o : Opening) (f : Form) → EachInOpening CarriesClosed o → HasClosedTypes f → HasClosedTypes
    (open_at 0 o f)
opened_carries o f p h = each_open CarriesClosed o p (λ n k t c. stays k t c) (λ n k t c. stays k t c) 0 f h
  where
    stays : (k : ℕ) (t : Ty) → IsClosedType 0 t → IsClosedType 0 (open_type k o t)
    stays k t c = subst (IsClosedType 0) (sym (open_closed_type 0 k o t c (omega arith))) c

module _ (x : Setting) where
  -- the proof term of the tree is a contradiction, whatever branch stands for the sequent
  abbrev pub Refutes : List Form → DTree → Type 0
  Refutes gamma t =
      (d : ℕ) (c : Context) (s : Scope) (hs : Hypotheses) → Branch x gamma d c s hs
      → Has x.sigma c (proof x.ss x.write x.write_term d s hs t) (Class.of (prf falsity))

  -- each child adds what the rule says, is well typed, and is refuted
  pub data RefuteEach (gamma : List Form) : List (List Form) → DTrees → Type 0 where
    none : RefuteEach gamma [] DTrees.none
    more : {fs : List Form} {upper : List (List Form)} {t : DTree} {ts : DTrees} → added t ≡ fs → All (WellTyped x.ss)
        (fs ++ gamma)
        → Refutes (fs ++ gamma) t → RefuteEach gamma upper ts → RefuteEach gamma (fs ∷ upper) (DTrees.more t ts)

  -- the term of child k: the variables of the formulas that it adds begin at n
  pub child : (gamma : List Form) {fs : List Form} (name : RuleName) (k : ℕ) {n d m : ℕ} → n ≡ d → length fs + d ≡ m
      → {c : Context} (s : Scope) (hs : Hypotheses) (t : DTree) → added t ≡ fs → Refutes (fs ++ gamma) t
      → Branch x (fs ++ gamma) m c s (bound_by d (as_bound name k fs) hs)
      → Has x.sigma c (proof x.ss x.write x.write_term (length (added t) + n) s
      (bound_by n (as_bound name k (added t)) hs) t)
      (Class.of (prf falsity))
  child gamma {fs} name k {n} {d} {m} before after {c} s hs t e r b =
      subst (λ v. Has x.sigma c (proof x.ss x.write x.write_term (length (added t) + v) s
      (bound_by v (as_bound name k (added t)) hs) t) (Class.of (prf falsity)))
      (sym before)
      (subst (λ gs. Has x.sigma c (proof x.ss x.write x.write_term (length gs + d) s
      (bound_by d (as_bound name k gs) hs) t) (Class.of (prf falsity)))
      (sym e)
      (subst (λ v. Has x.sigma c (proof x.ss x.write x.write_term v s (bound_by d (as_bound name k fs) hs) t)
      (Class.of (prf falsity)))
      (sym after) (r m c s (bound_by d (as_bound name k fs) hs) b)))

  -- a formula's proof, used at what its translation converts to
  pub used_as : {gamma : List Form} {d : ℕ} {c : Context} {s : Scope} {hs : Hypotheses} (f : Form) (q : Lp)
      → Converts x.sigma (form_of x.ss s f) q → Has x.sigma c q (Class.of prop) → Branch x gamma d c s hs
      → Contains gamma f
      → Has x.sigma c (earliest hs f) (Class.of (prf q))
  used_as f q e hq b i = ty.Has.conversion (used x f b i) (convert_argument _ e)
      (logic.prf_type x.sigma (sh x) hq) ty.IsSort.is_type

  -- formulas, terms and types as written
  pub written : {gamma : List Form} {d : ℕ} {c : Context} {s : Scope} {hs : Hypotheses} (f : Form)
      → Branch x gamma d c s hs
      → WellTyped x.ss f → HasClosedTypes f → Has x.sigma c (x.write s f) (Class.of prop)
  written {c = c} {s = s} f b p q = x.writing.form_written c s f b.fits p q

  pub term_at : {gamma : List Form} {d : ℕ} {c : Context} {s : Scope} {hs : Hypotheses} {u : Term} (t : Ty)
      → Branch x gamma d c s hs
      → HasType x.ss u t → Has x.sigma c (x.write_term s u) (Class.of (term (type_of x.ss s 0 t)))
  term_at {c = c} {s = s} {u = u} t b p = x.writing.term_written c s u t b.fits p

  pub type_at : {gamma : List Form} {d : ℕ} {c : Context} {s : Scope} {hs : Hypotheses} (t : Ty) → Branch x gamma d c s hs
      → IsType x.ss 0 t → Has x.sigma c (type_of x.ss s 0 t) (Class.of types)
  type_at t b p = type_typed x b.fits t p

  pub not_typed : {c : Context} {p : Lp} → Has x.sigma c p (Class.of prop) → Has x.sigma c (not_of p) (Class.of prop)
  not_typed p = logic.not_type x.sigma (sh x) p

  pub eq_typed : {gamma : List Form} {d : ℕ} {c : Context} {s : Scope} {hs : Hypotheses} (t : Ty) {a e : Term}
      → Branch x gamma d c s hs
      → IsType x.ss 0 t → HasType x.ss a t → HasType x.ss e t
      → Has x.sigma c (eq_of (type_of x.ss s 0 t) (x.write_term s a) (x.write_term s e)) (Class.of prop)
  eq_typed t b p q r = logic.eq_type x.sigma (sh x) (type_at t b p) (term_at t b q) (term_at t b r)

  pub to : (s : Scope) (f : Form) → Converts x.sigma (form_of x.ss s f) (x.write s f)
  to s f = converts_sym (x.writing.form_same s f)

  pub to_term : (s : Scope) (u : Term) → Converts x.sigma (term_of x.ss s u) (x.write_term s u)
  to_term s u = converts_sym (x.writing.term_same s u)

  -- a formula more, proved by the next variable
  pub add : {gamma : List Form} {d : ℕ} {c : Context} {s : Scope} {hs : Hypotheses} (f : Form) → WellTyped x.ss f
      → HasClosedTypes f
      → Branch x gamma d c s hs
      → Branch x (f ∷ gamma) (suc d) (Context.bind d (prf (x.write s f)) c) s (Hypotheses.more (f ∷ []) (Lp.free d) hs)
  add {s = s} f p q b = add_as x f (x.write s f) p q (written f b p q) (x.writing.form_same s f) b

  pub add_not : {gamma : List Form} {d : ℕ} {c : Context} {s : Scope} {hs : Hypotheses} (f : Form) → WellTyped x.ss f
      → HasClosedTypes f
      → Branch x gamma d c s hs
      → Branch x (Form.negation f ∷ gamma) (suc d) (Context.bind d (prf (not_of (x.write s f))) c) s
      (Hypotheses.more (Form.negation f ∷ []) (Lp.free d) hs)
  add_not {s = s} f p q b =
      add_as x (Form.negation f) (not_of (x.write s f)) (WellTyped.negation p) q (not_typed (written f b p q))
      (convert_argument _ (x.writing.form_same s f)) b

  pub add_differ : {gamma : List Form} {d : ℕ} {c : Context} {s : Scope} {hs : Hypotheses} (t : Ty) (a e : Term)
      → IsType x.ss 0 t
      → HasType x.ss a t → HasType x.ss e t → Branch x gamma d c s hs
      → Branch x (differ t a e ∷ gamma) (suc d) (Context.bind d
      (prf (not_of (eq_of (type_of x.ss s 0 t) (x.write_term s a) (x.write_term s e)))) c) s
      (Hypotheses.more (differ t a e ∷ []) (Lp.free d) hs)
  add_differ {s = s} t a e p q r b =
      add_as x (differ t a e) (not_of (eq_of (type_of x.ss s 0 t) (x.write_term s a) (x.write_term s e)))
      (WellTyped.negation (WellTyped.equal p q r))
      (type_carries t, term_carries x.ss a t q, term_carries x.ss e t r) (not_typed (eq_typed t b p q r))
      (convert_argument _ (convert_two _ (x.writing.term_same s a) (x.writing.term_same s e))) b
