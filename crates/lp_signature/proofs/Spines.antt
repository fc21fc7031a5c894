-- Applications to lists, one argument further.
use Rattle.std.proofs.Common.{ℕ, zero, suc, ◌≡◌, ◌+◌, ◌<◌, ◌≤◌, List, [], ◌∷◌, length, get_or, take, refl, ap, sym, ◌∙◌, arith}
use Rattle.std.proofs.lemmas.List.{take_more}
use Rattle.lp_terms.specs.Term.{Lp}
use Rattle.zm_logic.specs.declared.tree.Ty.{Ty}
use Rattle.zm_logic.specs.declared.tree.SymId.{SymId}
use Rattle.zm_logic.specs.declared.tree.Term.{Term}
use Rattle.zm_logic.specs.declared.tree.Term as code
use Rattle.zm_logic.specs.declared.tree.Term.TheOpen as layer
use Rattle.zm_logic.specs.declared.tree.Term.TheFolds.{fold-roll-Term}
use Rattle.zm_logic.specs.Tree as tree
use Rattle.zm_logic.specs.Measure.{term_size, terms_size}
use Rattle.zm_logic.specs.View.{type_tree, types_tree, term_tree, terms_tree, step_of_term}
use Rattle.zm_logic.proofs.Lists.{with_type, types_tree_push, with_term, terms_tree_push}
use Rattle.lp_signature.specs.Translation.{Scope, lift, type_of, apply_types, term_of, apply_terms}

-- an index is lifted by addition
pub lift_is : (under i : ℕ) → lift under i ≡ under + i
lift_is zero i = omega arith
lift_is (suc under) i = omega (arith, lift_is under i)

module _ (symbols : List tree.Symbol) (s : Scope) where
  apply_with_type : (under : ℕ) (f : Lp) (ts : tree.Tys) (t : tree.Ty)
      → apply_types symbols s under f (with_type ts t) ≡ Lp.app (apply_types symbols s under f ts) (type_of symbols s under t)
  apply_with_type under f tree.Tys.none t = refl
  apply_with_type under f (tree.Tys.more x xs) t = apply_with_type under (Lp.app f (type_of symbols s under x)) xs t

  pub types_applied_more : (under : ℕ) (f g a h : Lp) (ts : List Ty) (i : ℕ) (d : Ty) → i < length ts
      → h ≡ Lp.app g a → g ≡ apply_types symbols s under f (types_tree (take i ts)) → a ≡ type_of symbols s under (type_tree (get_or ts i d))
      → h ≡ apply_types symbols s under f (types_tree (take (i + 1) ts))
  types_applied_more under f g a h ts i d l new k e =
      new ∙ ap (λ x. Lp.app x a) k ∙ ap (Lp.app (apply_types symbols s under f (types_tree (take i ts)))) e
      ∙ sym (apply_with_type under f (types_tree (take i ts)) (type_tree (get_or ts i d)))
      ∙ ap (apply_types symbols s under f) (sym (types_tree_push (take i ts) (get_or ts i d)))
      ∙ ap (λ l. apply_types symbols s under f (types_tree l)) (sym (take_more ts i d l))

  apply_with_term : (f : Lp) (us : tree.Terms) (u : tree.Term)
      → apply_terms symbols s f (with_term us u) ≡ Lp.app (apply_terms symbols s f us) (term_of symbols s u)
  apply_with_term f tree.Terms.none u = refl
  apply_with_term f (tree.Terms.more x xs) u = apply_with_term (Lp.app f (term_of symbols s x)) xs u

  pub terms_applied_more : (f g a h : Lp) (us : List Term) (i : ℕ) (d : Term) → i < length us
      → h ≡ Lp.app g a → g ≡ apply_terms symbols s f (terms_tree (take i us)) → a ≡ term_of symbols s (term_tree (get_or us i d))
      → h ≡ apply_terms symbols s f (terms_tree (take (i + 1) us))
  terms_applied_more f g a h us i d l new k e =
      new ∙ ap (λ x. Lp.app x a) k ∙ ap (Lp.app (apply_terms symbols s f (terms_tree (take i us)))) e
      ∙ sym (apply_with_term f (terms_tree (take i us)) (term_tree (get_or us i d)))
      ∙ ap (apply_terms symbols s f) (sym (terms_tree_push (take i us) (get_or us i d)))
      ∙ ap (λ l. apply_terms symbols s f (terms_tree l)) (sym (take_more us i d l))

-- a term of a list is no larger than the list
pub term_size_at : (us : List Term) (i : ℕ) (d : Term) → i < length us → term_size (term_tree (get_or us i d)) ≤ terms_size (terms_tree us)
term_size_at [] i d h = absurd (omega (arith, h))
term_size_at (u ∷ us) zero d h = omega arith
term_size_at (u ∷ us) (suc i) d h = let ih = term_size_at us i d (omega (arith, h)) in omega (arith, ih)

-- the tree of an application
pub application_tree : (f : SymId) (ts : List Ty) (us : List Term) → term_tree (code.App f ts us) ≡ tree.Term.app f.0 (types_tree ts) (terms_tree us)
unfolding code.roll-Term denote.Hole.Carrier.roll
application_tree f ts us = fold-roll-Term tree.Term step_of_term (layer.App f ts us)
