-- The current leaf is closed: the tableau is kept, and grown by it.
use Rattle.std.proofs.Common.{ℕ, ◌≡◌, refl, ap, sym, subst, ◌∙◌, arith, List, [], Option, None, Some, IfSome}
use Rattle.std.specs.Option.{option_map}
use Rattle.term_store.specs.Trees.{Tables}
use Rattle.term_store.specs.declared.ids.FormId.{FormId}
use Rattle.term_store.proofs.Kept.{extends_itself}
use Rattle.param_store.specs.View.{forms_of, lists_of, HasForms}
use Rattle.branch.specs.declared.node.ClosingPair.{ClosingPair}
use Rattle.branch.specs.declared.node.Node as code
use Rattle.branch.specs.declared.tableau.Current.{Current}
use Rattle.branch.specs.Branch.{closing}
use Rattle.branch.specs.Ids.{Node, node_ids, closing_of, HasClosing}
use Rattle.branch.specs.Path.{put, next, along, brought, extend_all, LeadsBelow}
use Rattle.branch.specs.State.{State, setting, normal_ids, root, table, branch_at, leaf_at, IsCurrent, HasCurrent, IsKept}
use Rattle.branch.specs.Stepped.{IsClosedAt}
use Rattle.branch.specs.Stepping.{IsLeaf, OfCurrent, ClosesCurrent, GoesTo}
use Rattle.branch.specs.Tableau.{enter}
use Rattle.branch.proofs.Behind.{next_leads}
use Rattle.branch.proofs.Lawful.{leaves_may_be_replaced}
use Rattle.branch.proofs.States.{moved, Fits, moved_tree, leaf_of, end_kept, next_kept}

has_pair : (s : Tables) (o : Option ClosingPair) (pair : ClosingPair) → o ≡ Some pair → IfSome o (HasClosing s) → HasClosing s pair
has_pair s o pair e h = subst (λ p. IfSome p (HasClosing s)) e h

module _ (t : State) (k : IsKept t) (c : Current) (h : IsCurrent t c) where
  module _ (pair : ClosingPair) (is : c.branch.closing ≡ Some pair) where
    closes : closing (branch_at t c.branch) ≡ Some (closing_of t.store pair)
    closes = sym h.closing ∙ ap (option_map (closing_of t.store)) is

    fits : Fits t c (Node.closed pair)
    fits = record {
      has = has_pair t.store c.branch.closing pair is h.has_closing;
      lawful = closes;
      entered = refl;
      high = let a = h.short in omega (arith, a);
    }

    pub ended_grown : (y : code.Node) → node_ids y ≡ put c.path (Node.closed pair) (node_ids t.node) → (params : List FormId) (run : List ℕ) (d : Option Current)
        → IsClosedAt t (moved t y params run d)
    ended_grown y same params run d = record {
      of = record { store = extends_itself t.store; symbols = refl; rewrites = refl; roots = refl };
      leaf = leaf_at t c;
      is_current = h.leaf;
      pair = closing_of t.store pair;
      closes = closes;
      grown = moved_tree leaves_may_be_replaced t c (Node.closed pair) y same k.begun k.tree h fits;
    }

    -- none is Open behind it
    pub ended_kept : (y : code.Node) → node_ids y ≡ put c.path (Node.closed pair) (node_ids t.node) → next c.path (node_ids t.node) ≡ None
        → IsKept (moved t y t.params t.run None)
    ended_kept y same e = end_kept leaves_may_be_replaced t c k h pair fits y same e

    -- the next child is current then
    pub gone_kept : (y : code.Node) → node_ids y ≡ put c.path (Node.closed pair) (node_ids t.node) → (q : List ℕ) → next c.path (node_ids t.node) ≡ Some q
        → (params : List FormId) → HasForms t.store params → forms_of t.store params ≡ enter (table t) (forms_of t.store (brought q (node_ids t.node)))
        → (d : Current) → IsLeaf t.store q (extend_all (root t) (lists_of t.store (along q (node_ids t.node)))) d
        → IsKept (moved t y params t.run (Some d))
    gone_kept y same q e params has entered d leaf =
        subst (λ z. IsKept (moved t y params t.run (Some z))) (leaf_is d q leaf.path leaf.unlisted)
        (next_kept leaves_may_be_replaced t c k h pair fits y same q e params has entered d.branch
        (record { has = leaf.has; forms = leaf.forms; has_closing = leaf.has_closing; closing = leaf.closes }))
      where
        leaf_is : (d : Current) (p : List ℕ) → d.path ≡ p → d.offered ≡ None → leaf_of p d.branch ≡ d
        leaf_is d p e f = ap (λ x. record { path = x; branch = d.branch; offered = None }) (sym e) ∙ ap (λ x. record { path = d.path; branch = d.branch; offered = x }) (sym f)

-- what holds of the noted leaf holds of this one
holds_of : (t : State) (c : Current) → t.current ≡ Some c → (P : Current → Type 0) → OfCurrent t P → P c
holds_of t c p P o = subst P (current_is o.current c (sym o.noted ∙ p)) o.holds
  where
    current_is : (x y : Current) → Some x ≡ Some y → x ≡ y
    current_is x y q = cc

-- What a method knows, whose tableau is t by its parts and v as a whole.
module _ (t v : State) (e : t ≡ v) (k : IsKept t) (c : Current) (p : t.current ≡ Some c) where
  noted : IsCurrent t c
  noted = subst (HasCurrent t) p k.current

  module _ (pair : ClosingPair) (closes : ClosesCurrent v pair) where
    is_pair : c.branch.closing ≡ Some pair
    is_pair = holds_of t c p (λ d. d.branch.closing ≡ Some pair) (subst (λ z. ClosesCurrent z pair) (sym e) closes)

    goes : (to : Option (List ℕ)) → GoesTo v to → next c.path (node_ids t.node) ≡ to
    goes to g = holds_of t c p (λ d. next d.path (node_ids t.node) ≡ to) (subst (λ z. GoesTo z to) (sym e) g)

    pub end_closed : (y : code.Node) → node_ids y ≡ put c.path (Node.closed pair) (node_ids t.node) → (params : List FormId) (run : List ℕ) (d : Option Current)
        → IsClosedAt v (moved t y params run d)
    end_closed y same params run d = subst (λ z. IsClosedAt z (moved t y params run d)) e (ended_grown t k c noted pair is_pair y same params run d)

    pub none_kept : GoesTo v None → (y : code.Node) → node_ids y ≡ put c.path (Node.closed pair) (node_ids t.node) → IsKept (moved t y t.params t.run None)
    none_kept g y same = ended_kept t k c noted pair is_pair y same (goes None g)

    pub behind_kept : (q : List ℕ) → GoesTo v (Some q) → (y : code.Node) → node_ids y ≡ put c.path (Node.closed pair) (node_ids t.node)
        → (params : List FormId) → HasForms t.store params → forms_of t.store params ≡ enter (table t) (forms_of t.store (brought q (node_ids t.node)))
        → (d : Current) → IsLeaf t.store q (extend_all (root t) (lists_of t.store (along q (node_ids t.node)))) d
        → IsKept (moved t y params t.run (Some d))
    behind_kept q g y same params has entered d leaf = gone_kept t k c noted pair is_pair y same q (goes (Some q) g) params has entered d leaf

-- the next child stands below a branch that isn't closed
pub leads_below : (t u : State) → t ≡ u → IsKept t → (q : List ℕ) → GoesTo u (Some q) → LeadsBelow t.store (normal_ids t) q (node_ids t.node)
leads_below t u e k q g =
    let a : GoesTo t (Some q) = subst (λ v. GoesTo v (Some q)) (sym e) g in
    let h = next_leads t.store (setting t) a.current.path (node_ids t.node) q (enter [] (root t)) (root t) k.tree.tableau.lawful a.holds in
    record { last = h.0; unclosed = h.1 }
