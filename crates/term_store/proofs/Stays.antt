-- The ids of trees: they stay, and lists of them grow.
use Rattle.std.proofs.Common.{ℕ, zero, suc, ◌≡◌, ◌+◌, ◌<◌, ◌≤◌, List, [], ◌∷◌, ◌++◌, length, get_or, take, refl, ap, ◌∙◌, Result, Ok, Err, OnOk, IfErr, arith}
use Rattle.std.proofs.lemmas.List.{take_more}
use Rattle.zm_logic.specs.Tree as tree
use Rattle.zm_logic.specs.View.{type_tree, types_tree, term_tree, terms_tree}
use Rattle.zm_logic.specs.Measure.{type_depth, types_depth, term_depth, terms_depth}
use Rattle.zm_logic.specs.declared.tree.Ty.{Ty}
use Rattle.zm_logic.specs.declared.tree.Term.{Term}
use Rattle.zm_logic.proofs.Lists.{with_type, types_tree_push, with_term, terms_tree_push}
use Rattle.term_store.specs.declared.ids.TyId.{TyId}
use Rattle.term_store.specs.declared.ids.TermId.{TermId}
use Rattle.term_store.specs.declared.ids.FormId.{FormId}
use Rattle.term_store.specs.Node.{type_at, types_at, term_at, terms_at, TypesBelow, TermsBelow}
use Rattle.term_store.specs.Trees.{Tables, all_trees, Extends}
use Rattle.term_store.specs.Change.{IsTypeId, IsTermId, IsFormId, AreTypeIds, AreTermIds}
use Rattle.term_store.specs.declared.fault.EnterFault.{EnterFault}
use Rattle.term_store.specs.declared.fault.EnterFault.TheVariants as entered
use Rattle.term_store.specs.Fault.{IfTooDeep}
use Rattle.term_store.proofs.Kept.{still_type, still_term, still_form, kept_type, kept_term, kept_form, kept_types, kept_terms, still_types, still_terms}

module _ (s t : Tables) (e : Extends s t) where
  pub type_id_stays : (x : tree.Ty) (i : TyId) → IsTypeId s x i → IsTypeId t x i
  type_id_stays x i h = (still_type s t e i h.0, kept_type s t e i h.0 ∙ h.1)

  pub term_id_stays : (x : tree.Term) (i : TermId) → IsTermId s x i → IsTermId t x i
  term_id_stays x i h = (still_term s t e i h.0, kept_term s t e i h.0 ∙ h.1)

  pub form_id_stays : (x : tree.Form) (i : FormId) → IsFormId s x i → IsFormId t x i
  form_id_stays x i h = (still_form s t e i h.0, kept_form s t e i h.0 ∙ h.1)

  pub type_ids_stay : (xs : tree.Tys) (is : List TyId) → AreTypeIds s xs is → AreTypeIds t xs is
  type_ids_stay xs is h = (still_types s t e is h.0, kept_types s t e is h.0 ∙ h.1)

  pub term_ids_stay : (xs : tree.Terms) (is : List TermId) → AreTermIds s xs is → AreTermIds t xs is
  term_ids_stay xs is h = (still_terms s t e is h.0, kept_terms s t e is h.0 ∙ h.1)

-- one id more
types_at_push : (T : List tree.Ty) (is : List TyId) (i : TyId) → types_at T (is ++ i ∷ []) ≡ with_type (types_at T is) (type_at T i)
types_at_push T [] i = refl
types_at_push T (x ∷ xs) i = ap (tree.Tys.more (type_at T x)) (types_at_push T xs i)

terms_at_push : (U : List tree.Term) (is : List TermId) (i : TermId) → terms_at U (is ++ i ∷ []) ≡ with_term (terms_at U is) (term_at U i)
terms_at_push U [] i = refl
terms_at_push U (x ∷ xs) i = ap (tree.Terms.more (term_at U x)) (terms_at_push U xs i)

types_below_push : (k : ℕ) (is : List TyId) (i : TyId) → TypesBelow k is → i.0 < k → TypesBelow k (is ++ i ∷ [])
types_below_push k [] i h l = (l, tt)
types_below_push k (x ∷ xs) i h l = (h.0, types_below_push k xs i h.1 l)

terms_below_push : (k : ℕ) (is : List TermId) (i : TermId) → TermsBelow k is → i.0 < k → TermsBelow k (is ++ i ∷ [])
terms_below_push k [] i h l = (l, tt)
terms_below_push k (x ∷ xs) i h l = (h.0, terms_below_push k xs i h.1 l)

pub type_ids_push : (s : Tables) (xs : tree.Tys) (x : tree.Ty) (is : List TyId) (i : TyId) → AreTypeIds s xs is → IsTypeId s x i → AreTypeIds s (with_type xs x) (is ++ i ∷ [])
type_ids_push s xs x is i h g =
    let e = types_at_push (all_trees s).types is i in let p = h.1 in let q = g.1 in
    (types_below_push (length s.types) is i h.0 g.0, cc)

pub term_ids_push : (s : Tables) (xs : tree.Terms) (x : tree.Term) (is : List TermId) (i : TermId) → AreTermIds s xs is → IsTermId s x i → AreTermIds s (with_term xs x) (is ++ i ∷ [])
term_ids_push s xs x is i h g =
    let e = terms_at_push (all_trees s).terms is i in let p = h.1 in let q = g.1 in
    (terms_below_push (length s.terms) is i h.0 g.0, cc)

-- the trees of a list, one further
pub types_tree_more : (ts : List Ty) (i : ℕ) (d : Ty) → i < length ts → types_tree (take (i + 1) ts) ≡ with_type (types_tree (take i ts)) (type_tree (get_or ts i d))
types_tree_more ts i d l = rw (take_more ts i d l) (types_tree_push (take i ts) (get_or ts i d))

pub terms_tree_more : (us : List Term) (i : ℕ) (d : Term) → i < length us → terms_tree (take (i + 1) us) ≡ with_term (terms_tree (take i us)) (term_tree (get_or us i d))
terms_tree_more us i d l = rw (take_more us i d l) (terms_tree_push (take i us) (get_or us i d))

-- a tree is no deeper than its list
pub type_depth_within : (ts : List Ty) (i : ℕ) (d : Ty) → i < length ts → type_depth (type_tree (get_or ts i d)) ≤ types_depth (types_tree ts)
type_depth_within [] i d l = absurd (omega arith)
type_depth_within (t ∷ ts) zero d l = omega arith
type_depth_within (t ∷ ts) (suc i) d l = omega (arith, type_depth_within ts i d (omega arith))

pub term_depth_within : (us : List Term) (i : ℕ) (d : Term) → i < length us → term_depth (term_tree (get_or us i d)) ≤ terms_depth (terms_tree us)
term_depth_within [] i d l = absurd (omega arith)
term_depth_within (u ∷ us) zero d l = omega arith
term_depth_within (u ∷ us) (suc i) d l = omega (arith, term_depth_within us i d (omega arith))

-- one depth in place of another
pub if_deeper : (P Q : Type 0) → (P → Q) → (fault : EnterFault) → IfTooDeep P fault → IfTooDeep Q fault
if_deeper P Q to entered.Memory h = tt
if_deeper P Q to entered.Deep h = to h

-- what holds after any answer
pub on_ok : {A E P : Type 0} → P → (answer : Result A E) → OnOk answer P
on_ok p (Ok x) = p
on_ok p (Err e) = tt

-- a tree is no deeper than the list of the ids
pub type_depth_at_within : (T : List tree.Ty) (is : List TyId) (j : ℕ) (d : TyId) → j < length is → type_depth (type_at T (get_or is j d)) ≤ types_depth (types_at T is)
type_depth_at_within T [] j d l = absurd (omega arith)
type_depth_at_within T (i ∷ is) zero d l = omega arith
type_depth_at_within T (i ∷ is) (suc j) d l = omega (arith, type_depth_at_within T is j d (omega arith))

pub term_depth_at_within : (U : List tree.Term) (is : List TermId) (j : ℕ) (d : TermId) → j < length is → term_depth (term_at U (get_or is j d)) ≤ terms_depth (terms_at U is)
term_depth_at_within U [] j d l = absurd (omega arith)
term_depth_at_within U (i ∷ is) zero d l = omega arith
term_depth_at_within U (i ∷ is) (suc j) d l = omega (arith, term_depth_at_within U is j d (omega arith))

-- the trees of a list of ids, one further
pub type_trees_more : (T : List tree.Ty) (is : List TyId) (ts : List Ty) (j : ℕ) (d : TyId) (t : Ty) → j < length is
    → types_tree ts ≡ types_at T (take j is) → type_tree t ≡ type_at T (get_or is j d) → types_tree (ts ++ t ∷ []) ≡ types_at T (take (j + 1) is)
type_trees_more T is ts j d t l h e = rw (take_more is j d l, types_tree_push ts t, types_at_push T (take j is) (get_or is j d), h, e)

pub term_trees_more : (U : List tree.Term) (is : List TermId) (us : List Term) (j : ℕ) (d : TermId) (u : Term) → j < length is
    → terms_tree us ≡ terms_at U (take j is) → term_tree u ≡ term_at U (get_or is j d) → terms_tree (us ++ u ∷ []) ≡ terms_at U (take (j + 1) is)
term_trees_more U is us j d u l h e = rw (take_more is j d l, terms_tree_push us u, terms_at_push U (take j is) (get_or is j d), h, e)

pub err_deeper : {A : Type 0} (P Q : Type 0) → (P → Q) → (answer : Result A EnterFault) → IfErr answer (IfTooDeep P) → IfErr answer (IfTooDeep Q)
err_deeper P Q to (Ok x) h = tt
err_deeper P Q to (Err e) h = if_deeper P Q to e h
