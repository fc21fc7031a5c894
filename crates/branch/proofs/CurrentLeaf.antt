-- What is known of the current leaf of a tableau that is kept: its offers can be listed, and there is one list of them.
use Rattle.std.proofs.Common.{◌≡◌, refl, ap, sym, subst, ◌∙◌, List, [], ◌∷◌, All, Some}
use Rattle.std.proofs.lemmas.Option.{same_Some}
use Rattle.zm_logic.specs.Tree.{Form}
use Rattle.param_store.specs.View.{forms_of}
use Rattle.branch.specs.declared.tableau.Current.{Current}
use Rattle.branch.specs.Branch.{extend}
use Rattle.branch.specs.EqualityFree.{AreEqualityFree}
use Rattle.branch.specs.Introduced.{Above, HasFacts}
use Rattle.branch.specs.Listing.{IsReady}
use Rattle.branch.specs.Normal.{Made, Normalizes, NormalizesFrom, MakesAll}
use Rattle.branch.specs.Offers.{Offer, AreOffers}
use Rattle.branch.specs.Setting.{Setting}
use Rattle.branch.specs.Sound.{IsSound, AreGiven}
use Rattle.branch.specs.State.{State, setting, given_forms, root, table, tree, branch_at, leaf_at, IsBegun, IsTree, IsCurrent}
use Rattle.branch.specs.Stopping.{IsRoot}
use Rattle.branch.specs.Tableau.{Leaf, current_leaf}
use Rattle.branch.proofs.Determined.{one_offers}
use Rattle.branch.proofs.EqualityFree.{none_free, extend_free, has_none}
use Rattle.branch.proofs.Everywhere.{tableau_facts}
use Rattle.branch.proofs.Filled.{HasChildren, offers_filled}
use Rattle.branch.proofs.FreeLeaves.{leaf_free}
use Rattle.branch.proofs.NoRules.{itself, sound_without_rules}
use Rattle.branch.proofs.Root.{root_given}
use Rattle.branch.proofs.Stopped.{at_current}
use Rattle.branch.specs.Tableau as tableau

all_themselves : (s : Setting) → s.rules ≡ [] → (fs : List Form) → MakesAll (Normalizes s) fs (Made.made fs)
all_themselves s e [] = MakesAll.none
all_themselves s e (f ∷ fs) = MakesAll.more (one s e f) (all_themselves s e fs)
  where
    one : (s : Setting) → s.rules ≡ [] → (f : Form) → Normalizes s f (Made.made f)
    one s e f = subst (λ r. NormalizesFrom r f s.rewrites f (Made.made f)) (sym e) (itself f s.rewrites f)

module _ (t : State) (b : IsBegun t) where
  root_is : root t ≡ extend [] (given_forms t)
  root_is = ap (λ ids. extend [] (forms_of t.store ids)) b.normal

  sound : IsSound (setting t)
  sound = sound_without_rules (setting t) b.signature refl

  is_root : IsRoot (setting t) (given_forms t) (root t)
  is_root = record { normal = given_forms t; reached = all_themselves (setting t) refl (given_forms t); distinct = sym root_is }

  given_root : AreGiven (setting t) (root t)
  given_root = root_given (setting t) sound (given_forms t) (root t) b.given is_root

  free_root : AreEqualityFree (root t)
  free_root = subst AreEqualityFree (sym root_is) (extend_free [] (given_forms t) none_free b.equality_free)

  module _ (g : IsTree t) (c : Current) (h : IsCurrent t c) where
    free_branch : AreEqualityFree (branch_at t c.branch)
    free_branch = (leaf_free (setting t) refl (root t) (tree t) (leaf_at t c) free_root g.tableau h.leaf).0

    facts : (above : List Above) × HasFacts (setting t) (table t) above (branch_at t c.branch)
    facts = at_current (HasFacts (setting t)) (tree t) (tableau.enter [] (root t)) [] (root t) 0 (leaf_at t c)
        (tableau_facts (setting t) sound (root t) (tree t) given_root g.tableau) h.leaf

    -- its offers can be listed
    pub leaf_ready : IsReady t.store t.params c.branch.forms
    leaf_ready = record { has = h.has; numbered = g.has_params; known = facts.1.numbered; plain = has_none (branch_at t c.branch) free_branch }

    -- there is one list of them
    pub leaf_offers : (os ps : List Offer) → AreOffers (setting t) (table t) (branch_at t c.branch) os → AreOffers (setting t) (table t) (branch_at t c.branch) ps → os ≡ ps
    leaf_offers os ps x y = one_offers (setting t) sound (table t) facts.0 (branch_at t c.branch) facts.1 os ps x y

    -- each has a child
    pub leaf_filled : (os : List Offer) → AreOffers (setting t) (table t) (branch_at t c.branch) os → All HasChildren os
    leaf_filled os x = offers_filled (setting t) (table t) (branch_at t c.branch) os x free_branch

  -- the current leaf is the one that is noted
  pub leaf_noted : (c : Current) → IsCurrent t c → (leaf : Leaf) → current_leaf (root t) (tree t) ≡ Some leaf → leaf ≡ leaf_at t c
  leaf_noted c h leaf e = same_Some leaf (leaf_at t c) (sym e ∙ h.leaf)
