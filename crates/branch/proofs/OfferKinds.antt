-- The kind of a formula's own offer, from its raw offers.
use Rattle.std.proofs.Common.{ℕ, zero, suc, ◌≡◌, ◌<◌, ◌≤◌, None, Some, List, [], ◌∷◌, ◌++◌, Contains, length, get_or, refl, ap, sym, ◌∙◌, arith}
use Rattle.zm_logic.specs.Tree.{Form}
use Rattle.zm_logic.proofs.Sames.{Contains-here, Contains-there}
use Rattle.term_store.specs.Trees.{Tables, form_of}
use Rattle.term_store.specs.declared.ids.FormId.{FormId}
use Rattle.param_store.specs.RawOffers.{Raw, Quantified, split, split_offers, quantified, number_of, opened_offers, own_offers}
use Rattle.param_store.specs.View.{forms_of, lists_of}
use Rattle.branch.specs.BranchOffers.{Kind, split_kind, opened_kind}
use Rattle.branch.specs.Left.{kind_for, own_kind, first_kind}

-- one child or none, or more
pub few_children : (s : Tables) (lists : List (List FormId)) → length lists ≤ 1 → split_kind (lists_of s lists) ≡ Kind.alpha
few_children s [] h = refl
few_children s (c ∷ []) h = refl
few_children s (c ∷ d ∷ cs) h = absurd (omega arith)

pub more_children : (s : Tables) (lists : List (List FormId)) → 1 < length lists → split_kind (lists_of s lists) ≡ Kind.beta
more_children s [] h = absurd (omega arith)
more_children s (c ∷ []) h = absurd (omega arith)
more_children s (c ∷ d ∷ cs) h = refl

-- the kind of an alpha or a beta formula
split_first : (f : Form) (n : ℕ) (cs : List (List Form)) → first_kind (split_offers f cs ++ opened_offers n f None) ≡ split_kind cs
split_first f n [] = refl
split_first f n (c ∷ cs) = refl

pub splits_kind : (table : List Form) (f : Form) → None ≡ quantified f → (rs : List Raw) → rs ≡ own_offers table f → first_kind rs ≡ own_kind f
splits_kind table f e rs h =
    ap first_kind h
    ∙ (ap (λ q. first_kind (split_offers f (split f) ++ opened_offers (number_of table f) f q)) (sym e)
    ∙ (split_first f (number_of table f) (split f) ∙ ap (kind_for (split f)) e))

-- and that of a quantified one
pub opens_kind : (f : Form) (q : Quantified) → Some q ≡ quantified f → opened_kind q.kind ≡ own_kind f
opens_kind f q e = ap (kind_for (split f)) e

-- a formula at a place stands on the branch
pub stands_at : (s : Tables) (ids : List FormId) (j : ℕ) (d : FormId) → j < length ids → Contains (forms_of s ids) (form_of s (get_or ids j d))
stands_at s [] j d l = absurd (omega arith)
stands_at s (i ∷ is) zero d l = Contains-here (form_of s i) (forms_of s is)
stands_at s (i ∷ is) (suc j) d l = Contains-there (form_of s i) (forms_of s is) (form_of s (get_or is j d)) (stands_at s is j d (omega arith))
