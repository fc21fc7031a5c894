-- What a caller cites: nodes keep their trees in a store that has grown.
use Rattle.std.proofs.Common.{◌≡◌, ℕ, zero, suc, refl, List, [], ◌∷◌}
use Rattle.term_store.specs.Trees.{Tables, Extends}
use Rattle.term_store.proofs.Kept.{still_form, kept_form}
use Rattle.param_store.specs.View.{HasForms, HasLists}
use Rattle.param_store.proofs.Stay.{forms_still, forms_stay, second_still, second_stays, act_still, act_stays}
use Rattle.branch.specs.declared.node.ClosingPair.{ClosingPair}
use Rattle.branch.specs.Ids.{Node, Children, closing_of, tree_of, trees_of, HasClosing, HasNode, HasNodes}
use Rattle.branch.specs.Path.{put, put_in, along, along_in, brought, brought_in}

module _ (s t : Tables) (e : Extends s t) where
  pub closing_still : (p : ClosingPair) → HasClosing s p → HasClosing t p
  closing_still p h = record { first = still_form s t e p.first h.first; second = second_still s t e p.second h.second }

  pub closing_stays : (p : ClosingPair) → HasClosing s p → closing_of t p ≡ closing_of s p
  closing_stays p h = let f = kept_form s t e p.first h.first in let g = second_stays s t e p.second h.second in cc

  mutual
    pub node_still : (n : Node) → HasNode s n → HasNode t n
    node_still (Node.step k c a ns) h = (act_still s t e a h.0, nodes_still ns h.1)
    node_still (Node.closed p) h = closing_still p h
    node_still Node.opened h = tt
    node_still Node.skipped h = tt

    nodes_still : (ns : Children) → HasNodes s ns → HasNodes t ns
    nodes_still Children.none h = tt
    nodes_still (Children.more r f n ns) h = (forms_still s t e r h.0, forms_still s t e f h.1, node_still n h.2, nodes_still ns h.3)

  mutual
    pub tree_stays : (n : Node) → HasNode s n → tree_of t n ≡ tree_of s n
    tree_stays (Node.step k c a ns) h = let x = act_stays s t e a h.0 in let y = trees_stay ns h.1 in cc
    tree_stays (Node.closed p) h = let x = closing_stays p h in cc
    tree_stays Node.opened h = refl
    tree_stays Node.skipped h = refl

    trees_stay : (ns : Children) → HasNodes s ns → trees_of t ns ≡ trees_of s ns
    trees_stay Children.none h = refl
    trees_stay (Children.more r f n ns) h =
        let w = forms_stay s t e r h.0 in let x = forms_stay s t e f h.1 in let y = tree_stays n h.2 in let z = trees_stay ns h.3 in cc

module _ (s : Tables) where
  -- a node is one of the store's where its parts are
  mutual
    pub put_has : (p : List ℕ) (x n : Node) → HasNode s x → HasNode s n → HasNode s (put p x n)
    put_has [] x n k h = k
    put_has (i ∷ is) x (Node.step m c a ns) k h = (h.0, put_in_has i is x ns k h.1)
    put_has (i ∷ is) x (Node.closed c) k h = h
    put_has (i ∷ is) x Node.opened k h = h
    put_has (i ∷ is) x Node.skipped k h = h

    put_in_has : (i : ℕ) (is : List ℕ) (x : Node) (ns : Children) → HasNode s x → HasNodes s ns → HasNodes s (put_in i is x ns)
    put_in_has i is x Children.none k h = tt
    put_in_has zero is x (Children.more r f n ns) k h = (h.0, h.1, put_has is x n k h.2, h.3)
    put_in_has (suc i) is x (Children.more r f n ns) k h = (h.0, h.1, h.2, put_in_has i is x ns k h.3)

  -- and so are the formulas along a path
  mutual
    pub along_has : (p : List ℕ) (n : Node) → HasNode s n → HasLists s (along p n)
    along_has [] n h = tt
    along_has (i ∷ is) (Node.step m c a ns) h = along_in_has i is ns h.1
    along_has (i ∷ is) (Node.closed c) h = tt
    along_has (i ∷ is) Node.opened h = tt
    along_has (i ∷ is) Node.skipped h = tt

    along_in_has : (i : ℕ) (is : List ℕ) (ns : Children) → HasNodes s ns → HasLists s (along_in i is ns)
    along_in_has i is Children.none h = tt
    along_in_has zero is (Children.more r f n ns) h = (h.1, along_has is n h.2)
    along_in_has (suc i) is (Children.more r f n ns) h = along_in_has i is ns h.3

  mutual
    pub brought_has : (p : List ℕ) (n : Node) → HasNode s n → HasForms s (brought p n)
    brought_has [] n h = tt
    brought_has (i ∷ is) (Node.step m c a ns) h = brought_in_has i is ns h.1
    brought_has (i ∷ is) (Node.closed c) h = tt
    brought_has (i ∷ is) Node.opened h = tt
    brought_has (i ∷ is) Node.skipped h = tt

    brought_in_has : (i : ℕ) (is : List ℕ) (ns : Children) → HasNodes s ns → HasForms s (brought_in i is ns)
    brought_in_has i is Children.none h = tt
    brought_in_has zero [] (Children.more r f n ns) h = h.1
    brought_in_has zero (j ∷ js) (Children.more r f n ns) h = brought_has (j ∷ js) n h.2
    brought_in_has (suc i) is (Children.more r f n ns) h = brought_in_has i is ns h.3
