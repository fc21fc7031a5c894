-- A tree with all bindings put in, made of its solved parts while the store grows.
use Rattle.std.proofs.Common.{ℕ, ◌≡◌, ◌≢◌, ◌<◌, ◌+◌, Option, Some, None, IfSome, IfNone, List, All, length, ap, sym, subst, ◌∙◌, arith}
use Rattle.zm_logic.specs.Tree.{Ty, Tys, Term, Terms}
use Rattle.zm_logic.specs.Measure.{type_depth, types_depth, term_depth, terms_depth}
use Rattle.term_store.specs.Change.{AreTypeIds, AreTermIds}
use Rattle.term_store.specs.Node.{types_at, terms_at, TermsBelow}
use Rattle.term_store.specs.Trees.{Tables, all_trees, HasType, HasTerm, type_of, term_of, Extends}
use Rattle.term_store.specs.declared.ids.TyId.{TyId}
use Rattle.term_store.specs.declared.ids.TermId.{TermId}
use Rattle.term_store.proofs.Kept.{extends_more, kept_terms}
use Rattle.term_store.proofs.Stays.{type_ids_stay}
use Rattle.unify.specs.Binding as trees
use Rattle.unify.specs.Lawful.{AreLawful}
use Rattle.unify.specs.View.{HasBinding, latest}
use Rattle.unify.specs.Solving.{all_types, all_terms}
use Rattle.unify.specs.declared.binding.Binding.{Binding}
use Rattle.unify.proofs.Solved.{head_solved_type, head_solved_term}
use Rattle.unify.proofs.Building.{latest_kept, type_goal, term_goal, type_leaf, type_whole, term_leaf, term_whole}

-- what a match tells
pub some_of : {X : Type 0} (P : X → Type 0) (found : Option X) (x : X) → found ≡ Some x → IfSome found P → P x
some_of P found x e h = subst (λ f. IfSome f P) e h

pub none_of : {X : Type 0} (P : Type 0) (found : Option X) → found ≡ None → IfNone found P → P
none_of P found e h = subst (λ f. IfNone f P) e h

pub lawful_kept : (s t : Tables) (x : Extends s t) (made : List Binding) → All (HasBinding s) made → AreLawful (latest s made) → AreLawful (latest t made)
lawful_kept s t x made have lawful = subst AreLawful (sym (latest_kept s t x made have)) lawful

-- a type and its head
module _ (s : Tables) (made : List Binding) (lawful : AreLawful (latest s made)) (id head : TyId) (e : type_of s head ≡ trees.head_type (latest s made) (type_of s id)) where
  pub type_head_solved : trees.solved_type (latest s made) (type_of s head) ≡ trees.solved_type (latest s made) (type_of s id)
  type_head_solved = ap (trees.solved_type (latest s made)) e ∙ head_solved_type (latest s made) lawful (type_of s id)

  pub type_is_leaf : ((c : ℕ) (ts : Tys) → type_of s head ≢ Ty.con c ts) → type_of s head ≡ trees.solved_type (latest s made) (type_of s id)
  type_is_leaf f = type_leaf (latest s made) lawful (type_of s id) (type_of s head) e f

  module _ (c : ℕ) (is : List TyId) (f : type_of s head ≡ Ty.con c (types_at (all_trees s).types is)) where
    con_solved : Ty.con c (all_types (latest s made) (types_at (all_trees s).types is)) ≡ trees.solved_type (latest s made) (type_of s id)
    con_solved = type_whole (latest s made) lawful (type_of s id) (type_of s head) c (types_at (all_trees s).types is) e f

    pub con_deeper : (left room : ℕ) → left + 1 ≡ room → left < types_depth (all_types (latest s made) (types_at (all_trees s).types is))
        → room < type_depth (trees.solved_type (latest s made) (type_of s id))
    con_deeper left room g l = let d = ap type_depth con_solved in omega (arith, g, l, d)

    module _ (t : Tables) (x : Extends s t) (have : All (HasBinding s) made) (js : List TyId) (m : AreTypeIds t (all_types (latest s made) (types_at (all_trees s).types is)) js) where
      pub con_whole : Ty.con c (types_at (all_trees t).types js) ≡ trees.solved_type (latest s made) (type_of s id)
      con_whole = ap (Ty.con c) m.1 ∙ con_solved

      pub con_head : HasType s head → Ty.con c (types_at (all_trees t).types js) ≡ trees.solved_type (latest t made) (type_of t head)
      con_head has = con_whole ∙ sym (type_goal s t x made have head has ∙ type_head_solved)

-- a term and its head
module _ (s : Tables) (made : List Binding) (lawful : AreLawful (latest s made)) (id head : TermId) (e : term_of s head ≡ trees.head_term (latest s made) (term_of s id)) where
  pub term_head_solved : trees.solved_term (latest s made) (term_of s head) ≡ trees.solved_term (latest s made) (term_of s id)
  term_head_solved = ap (trees.solved_term (latest s made)) e ∙ head_solved_term (latest s made) lawful (term_of s id)

  pub term_is_leaf : ((f : ℕ) (ts : Tys) (us : Terms) → term_of s head ≢ Term.app f ts us) → term_of s head ≡ trees.solved_term (latest s made) (term_of s id)
  term_is_leaf f = term_leaf (latest s made) lawful (term_of s id) (term_of s head) e f

  module _ (g : ℕ) (is : List TyId) (us : List TermId) (f : term_of s head ≡ Term.app g (types_at (all_trees s).types is) (terms_at (all_trees s).terms us)) where
    abbrev ts : Tys
    ts = all_types (latest s made) (types_at (all_trees s).types is)

    abbrev vs : Terms
    vs = all_terms (latest s made) (terms_at (all_trees s).terms us)

    app_solved : Term.app g ts vs ≡ trees.solved_term (latest s made) (term_of s id)
    app_solved = term_whole (latest s made) lawful (term_of s id) (term_of s head) g (types_at (all_trees s).types is) (terms_at (all_trees s).terms us) e f

    pub app_deeper_type : (left room : ℕ) → left + 1 ≡ room → left < types_depth ts → room < term_depth (trees.solved_term (latest s made) (term_of s id))
    app_deeper_type left room h l = let d = ap term_depth app_solved in omega (arith, h, l, d)

    module _ (t : Tables) (x : Extends s t) (have : All (HasBinding s) made) (below : TermsBelow (length s.terms) us) where
      -- the arguments, once the types are made
      pub terms_goal : all_terms (latest t made) (terms_at (all_trees t).terms us) ≡ vs
      terms_goal = ap (λ bs. all_terms bs (terms_at (all_trees t).terms us)) (latest_kept s t x made have) ∙ ap (all_terms (latest s made)) (kept_terms s t x us below)

      pub app_deeper : (left room : ℕ) → left + 1 ≡ room → left < terms_depth (all_terms (latest t made) (terms_at (all_trees t).terms us))
          → room < term_depth (trees.solved_term (latest s made) (term_of s id))
      app_deeper left room h l = let d = ap term_depth app_solved in let k = ap terms_depth terms_goal in omega (arith, h, l, d, k)

      module _ (u : Tables) (y : Extends t u) (js : List TyId) (ws : List TermId) (m : AreTypeIds t ts js)
          (n : AreTermIds u (all_terms (latest t made) (terms_at (all_trees t).terms us)) ws) where
        pub app_whole : Term.app g (types_at (all_trees u).types js) (terms_at (all_trees u).terms ws) ≡ trees.solved_term (latest s made) (term_of s id)
        app_whole =
            ap (λ z. Term.app g z (terms_at (all_trees u).terms ws)) (type_ids_stay t u y ts js m).1 ∙ ap (Term.app g ts) (n.1 ∙ terms_goal) ∙ app_solved

        pub app_head : HasTerm s head → Term.app g (types_at (all_trees u).types js) (terms_at (all_trees u).terms ws) ≡ trees.solved_term (latest u made) (term_of u head)
        app_head has = app_whole ∙ sym (term_goal s u (extends_more s t u x y) made have head has ∙ term_head_solved)
