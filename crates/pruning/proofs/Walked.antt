-- The parts of the walk: what is added later, conversions from the last one on, and the children of a Step.
use Rattle.std.proofs.Common.{Vec, Global, ◌≡◌, ℕ, zero, suc, map, take, drop, length, get_or, ◌+◌, ◌<◌, ◌≤◌, Bool, true, false, cond, not, ◌&&◌, refl, ap, sym, subst, ◌∙◌, List, [], ◌∷◌, ◌++◌, inl, inr, arith, Option, None, Some, append_assoc}
use Rattle.std.specs.Option.{option_map, option_to_list}
use Rattle.std.proofs.lemmas.List.{append-nil, map-append, take_more, take-append-drop}
use Rattle.std.proofs.Math.Seq.{drop-cons}
use Rattle.zm_logic.specs.Tree.{Form, Opening}
use Rattle.zm_logic.specs.Same.{same}
use Rattle.term_store.specs.Trees.{Tables, HasForm, form_of}
use Rattle.term_store.specs.declared.ids.FormId.{FormId}
use Rattle.choosers.specs.declared.offer.Kind.{Kind}
use Rattle.param_store.specs.declared.offer.Act.{Act}
use Rattle.branch.specs.declared.node.ClosingPair.{ClosingPair}
use Rattle.branch.specs.Branch.{extend}
use Rattle.branch.specs.Ids as ids
use Rattle.branch.specs.Ids.{HasClosing}
use Rattle.branch.specs.Ids.{node_ids, child_ids}
use Rattle.branch.specs.declared.node.Node as CodeNode
use Rattle.branch.specs.declared.node.Node.TheOpen as layer
use Rattle.branch.specs.declared.node.Node.TheFolds.{fold-roll-Node}
use Rattle.branch.specs.declared.node.Node.TheViews.{rolls-Step, rolls-Closed, rolls-Open, rolls-Skipped}
use Rattle.branch.specs.declared.node.Child.{Child as Code}
use Rattle.branch.specs.Path.{IsFinished, AreFinished}
use Rattle.branch.proofs.Paths.{finished_tree}
use Rattle.branch.proofs.Places.{child_opens}
use Rattle.branch.specs.Tableau.{Node, Children, fresh, without, acted, is_skipped, is_apart, is_idle, used_or, uses, uses_all, idle_uses}
use Rattle.branch.proofs.Lists.{cond-cases}
use Rattle.param_store.specs.View.{act_of, forms_of, HasForms, HasSecond, HasAct}
use Rattle.sequent_proof.specs.Rules.{RuleName}
use Rattle.sequent_proof.specs.Tree.{DTree, DTrees}
use Rattle.sequent_proof.specs.View.{tree_of, trees_of}
use Rattle.sequent_proof.specs.declared.tree.DTree as code
use Rattle.pruning.specs.Steps.{step_rule, closing_rule}
use Rattle.pruning.specs.Trees.{converted, or_else, derivation_tree, idle_tree, derivation_trees, tableau_derivation}
use Rattle.pruning.specs.Walked.{with_added, conversions, step_node, leaf_node, child_is_idle, IsWalked, IsChild, IsEntered, IsAdded, IsTaken, AreUsed, IsFirstIdle}
use Rattle.pruning.specs.declared.walk.Walked.{Walked}
use Rattle.pruning.specs.declared.walk.Used.{Used}
use Rattle.pruning.specs.declared.walk.Entered.{Entered}
use Rattle.pruning.proofs.Derived.{no_idle}

or_added : (g : List Form) (o : Option DTree) (t : DTree) → or_else (option_map (with_added g) o) (with_added g t) ≡ with_added g (or_else o t)
or_added g None t = refl
or_added g (Some u) t = refl

mutual
  -- what a node's tree adds may be put in later
  pub tree_with : (n : Node) (b g : List Form) → derivation_tree b g n ≡ with_added g (derivation_tree b [] n)
  tree_with (Node.step k t a ns) b g =
      ap (λ o. or_else o (DTree.node g (step_rule a) a.first a.second a.part (derivation_trees b ns))) (idle_with ns b g)
      ∙ or_added g (idle_tree b [] ns) (DTree.node [] (step_rule a) a.first a.second a.part (derivation_trees b ns))
  tree_with (Node.closed c) b g = refl
  tree_with Node.opened b g = refl
  tree_with Node.skipped b g = refl

  idle_with : (ns : Children) (b g : List Form) → idle_tree b g ns ≡ option_map (with_added g) (idle_tree b [] ns)
  idle_with Children.none b g = refl
  idle_with (Children.more r f n ns) b g = go (is_idle b f n (uses (extend b f) n)) (tree_with n (extend b f) g) (idle_with ns b g)
    where
      go : (v : Bool) → derivation_tree (extend b f) g n ≡ with_added g (derivation_tree (extend b f) [] n)
          → idle_tree b g ns ≡ option_map (with_added g) (idle_tree b [] ns)
          → cond v (Some (derivation_tree (extend b f) g n)) (idle_tree b g ns)
          ≡ option_map (with_added g) (cond v (Some (derivation_tree (extend b f) [] n)) (idle_tree b [] ns))
      go true x y = ap Some x
      go false x y = y

-- conversions below a tree, and what the lowest one adds
pub converted_with : (g r f : List Form) (above : List Form → DTree) (t : DTree) → ((h : List Form) → above h ≡ with_added h t)
    → converted g r f above ≡ with_added g (conversions r f t)
converted_with g [] [] above t e = e g
converted_with g [] (y ∷ f) above t e = e g
converted_with g (x ∷ r) [] above t e = e g
converted_with g (x ∷ r) (y ∷ f) above t e = go (same x y) (converted_with g r f above t e) (converted_with (y ∷ []) r f above t e)
  where
    go : (v : Bool) → converted g r f above ≡ with_added g (conversions r f t) → converted (y ∷ []) r f above ≡ with_added (y ∷ []) (conversions r f t)
        → cond v (converted g r f above) (DTree.node g RuleName.conversion x (Some y) None (DTrees.more (converted (y ∷ []) r f above) DTrees.none))
        ≡ with_added g (cond v (conversions r f t) (DTree.node [] RuleName.conversion x (Some y) None (DTrees.more (with_added (y ∷ []) (conversions r f t)) DTrees.none)))
    go true p q = p
    go false p q = ap (λ u. DTree.node g RuleName.conversion x (Some y) None (DTrees.more u DTrees.none)) q

first_same : (t u : DTree) (ts us : DTrees) → DTrees.more t ts ≡ DTrees.more u us → t ≡ u
first_same t u ts us e = cc

rest_same : (t u : DTree) (ts us : DTrees) → DTrees.more t ts ≡ DTrees.more u us → ts ≡ us
rest_same t u ts us e = cc

-- The children of a Step, up to one more.
module _ (s : Tables) (b : List Form) where
  abbrev pub children : List ids.Child → Children
  children cs = ids.trees_of s (ids.children_of cs)

  abbrev pub below : ids.Child → List Form
  below c = extend b (forms_of s c.normal)

  abbrev pub used_by : ids.Child → List Form
  used_by c = uses (below c) (ids.tree_of s c.node)

  abbrev pub idle : ids.Child → Bool
  idle c = is_idle b (forms_of s c.normal) (ids.tree_of s c.node) (used_by c)

  abbrev pub tree_by : ids.Child → DTree
  tree_by c = converted (forms_of s c.raw) (forms_of s c.raw) (forms_of s c.normal) (λ g. derivation_tree (below c) g (ids.tree_of s c.node))

  abbrev pub beyond_by : ids.Child → List Form
  beyond_by c = without (fresh b (forms_of s c.normal)) (used_by c)

  pub none_push : (cs : List ids.Child) (c : ids.Child) → idle_uses b (children cs) ≡ None → idle c ≡ false → idle_uses b (children (cs ++ c ∷ [])) ≡ None
  none_push [] c e i = ap (λ v. cond v (Some (used_by c)) None) i
  none_push (x ∷ cs) c e i =
      elim (cond-cases (idle x) (Some (used_by x)) (idle_uses b (children cs)) None e) [
        | inl j ↦ absurd (let z = j.1 in cc)
        | inr j ↦ ap (λ v. cond v (Some (used_by x)) (idle_uses b (children (cs ++ c ∷ [])))) j.0 ∙ none_push cs c j.1 i
      ]

  pub uses_push : (cs : List ids.Child) (c : ids.Child) → uses_all b (children (cs ++ c ∷ [])) ≡ uses_all b (children cs) ++ beyond_by c
  uses_push [] c = append-nil (beyond_by c)
  uses_push (x ∷ cs) c = ap (λ u. beyond_by x ++ u) (uses_push cs c) ∙ sym (append_assoc (beyond_by x) (uses_all b (children cs)) (beyond_by c))

  pub trees_push : (cs : List ids.Child) (c : ids.Child) (ts : List code.DTree) (t : code.DTree) → trees_of ts ≡ derivation_trees b (children cs) → tree_of t ≡ tree_by c
      → trees_of (ts ++ t ∷ []) ≡ derivation_trees b (children (cs ++ c ∷ []))
  trees_push [] c [] t e h = ap (λ u. DTrees.more u DTrees.none) h
  trees_push [] c (y ∷ ts) t e h = absurd (let q = e in cc)
  trees_push (x ∷ cs) c [] t e h = absurd (let q = e in cc)
  trees_push (x ∷ cs) c (y ∷ ts) t e h =
      let p = first_same (tree_of y) (tree_by x) (trees_of ts) (derivation_trees b (children cs)) e in
      let r = rest_same (tree_of y) (tree_by x) (trees_of ts) (derivation_trees b (children cs)) e in
      ap (λ u. DTrees.more u (trees_of (ts ++ t ∷ []))) p ∙ ap (DTrees.more (tree_by x)) (trees_push cs c ts t r h)

  -- the first idle child, behind children that aren't
  pub first_uses : (cs ds : List ids.Child) (c : ids.Child) → idle_uses b (children cs) ≡ None → idle c ≡ true
      → idle_uses b (children (cs ++ c ∷ ds)) ≡ Some (used_by c)
  first_uses [] ds c e i = ap (λ v. cond v (Some (used_by c)) (idle_uses b (children ds))) i
  first_uses (x ∷ cs) ds c e i =
      elim (cond-cases (idle x) (Some (used_by x)) (idle_uses b (children cs)) None e) [
        | inl j ↦ absurd (let z = j.1 in cc)
        | inr j ↦ ap (λ v. cond v (Some (used_by x)) (idle_uses b (children (cs ++ c ∷ ds)))) j.0 ∙ first_uses cs ds c j.1 i
      ]

  pub first_tree : (cs ds : List ids.Child) (c : ids.Child) → idle_uses b (children cs) ≡ None → idle c ≡ true
      → idle_tree b [] (children (cs ++ c ∷ ds)) ≡ Some (derivation_tree (below c) [] (ids.tree_of s c.node))
  first_tree [] ds c e i = ap (λ v. cond v (Some (derivation_tree (below c) [] (ids.tree_of s c.node))) (idle_tree b [] (children ds))) i
  first_tree (x ∷ cs) ds c e i =
      elim (cond-cases (idle x) (Some (used_by x)) (idle_uses b (children cs)) None e) [
        | inl j ↦ absurd (let z = j.1 in cc)
        | inr j ↦ ap (λ v. cond v (Some (derivation_tree (below x) [] (ids.tree_of s x.node))) (idle_tree b [] (children (cs ++ c ∷ ds)))) j.0
            ∙ first_tree cs ds c j.1 i
      ]

-- What the parts of a node make of it.
acted_forms : (s : Tables) (f : FormId) (o : Option FormId) (us : List FormId)
    → forms_of s (f ∷ option_to_list o ++ us) ≡ (form_of s f ∷ option_to_list (option_map (form_of s) o)) ++ forms_of s us
acted_forms s f None us = refl
acted_forms s f (Some g) us = refl

acted_held : (s : Tables) (f : FormId) (o : Option FormId) (us : List FormId) → HasForm s f → HasSecond s o → HasForms s us
    → HasForms s (f ∷ option_to_list o ++ us)
acted_held s f None us h k m = (h, m)
acted_held s f (Some g) us h k m = (h, (k, m))

module _ (s : Tables) (b : List FormId) where
  pub step_walked : (pick : ℕ) (kind : Kind) (act : Act) (cs : List ids.Child) (u : Used) (w : Walked) → HasAct s act
      → tree_of w.tree ≡ step_node (act_of s act) (trees_of u.trees) → w.uses ≡ act.first ∷ option_to_list act.second ++ u.uses
      → AreUsed s b cs u → IsWalked s b (ids.Node.step pick kind act (ids.children_of cs)) w
  step_walked pick kind act cs u w has e f all =
      let ns = children s (forms_of s b) cs in
      let a = act_of s act in
      record {
        tree = e ∙ (ap (step_node a) all.trees ∙ sym (no_idle ns (forms_of s b) [] (step_node a (derivation_trees (forms_of s b) ns)) all.none));
        uses = ap (forms_of s) f ∙ (acted_forms s act.first act.second u.uses ∙ (ap (λ v. acted a ++ v) all.uses
            ∙ sym (ap (λ o. used_or o (acted a ++ uses_all (forms_of s b) ns)) all.none)));
        has = subst (HasForms s) (sym f) (acted_held s act.first act.second u.uses has.first has.second all.has);
      }

  pub idle_walked : (pick : ℕ) (kind : Kind) (act : Act) (cs : List ids.Child) (w : Walked) → IsFirstIdle s b cs w
      → IsWalked s b (ids.Node.step pick kind act (ids.children_of cs)) w
  idle_walked pick kind act cs w i =
      let ns = children s (forms_of s b) cs in
      let a = act_of s act in
      record {
        tree = sym (ap (λ o. or_else o (step_node a (derivation_trees (forms_of s b) ns))) i.tree);
        uses = sym (ap (λ o. used_or o (acted a ++ uses_all (forms_of s b) ns)) i.uses);
        has = i.has;
      }

  pub leaf_walked : (p : ClosingPair) (w : Walked) → HasClosing s p → tree_of w.tree ≡ leaf_node (ids.closing_of s p)
      → w.uses ≡ p.first ∷ option_to_list p.second → IsWalked s b (ids.Node.closed p) w
  leaf_walked p w has e f = record {
    tree = e;
    uses = ap (forms_of s) (f ∙ nothing_more p.first p.second) ∙ (acted_forms s p.first p.second [] ∙ append-nil _);
    has = subst (HasForms s) (sym (f ∙ nothing_more p.first p.second)) (acted_held s p.first p.second [] has.first has.second tt);
  }
    where
      nothing_more : (f : FormId) (o : Option FormId) → f ∷ option_to_list o ≡ f ∷ option_to_list o ++ []
      nothing_more f None = refl
      nothing_more f (Some g) = refl

pub leaf_is : (s : Tables) (p : ClosingPair) (name : RuleName) (f : Form) (g : Option Form) (o : Option Opening) (ts : DTrees) → f ≡ form_of s p.first
    → g ≡ option_map (form_of s) p.second → o ≡ None → ts ≡ DTrees.none → name ≡ closing_rule (ids.closing_of s p)
    → DTree.node [] name f g o ts ≡ leaf_node (ids.closing_of s p)
leaf_is s p name f g o ts a b c d e = rw a (rw b (rw c (rw d (rw e refl))))

-- a child that isn't Skipped and has no Open leaf is idle where its uses are apart from its new formulas
pub idle_is : (s : Tables) (n : ids.Node) (b f : List Form) (fresh_ids used_ids : List FormId) (v : Bool) → IsFinished n → is_skipped (ids.tree_of s n) ≡ false
    → forms_of s fresh_ids ≡ fresh b f → v ≡ is_apart (forms_of s fresh_ids) (forms_of s used_ids) → v ≡ is_idle b f (ids.tree_of s n) (forms_of s used_ids)
idle_is s n b f fresh_ids used_ids v h k e g =
    g ∙ (ap (λ x. is_apart x (forms_of s used_ids)) e
    ∙ sym (ap (λ x. x && (not (is_skipped (ids.tree_of s n)) && is_apart (fresh b f) (forms_of s used_ids))) (finished_tree s n h)
    ∙ ap (λ x. not x && is_apart (fresh b f) (forms_of s used_ids)) k))

-- what a child adds to a Step
pub child_added : (s : Tables) (b : List FormId) (c : ids.Child) (e : Entered) (old new : Used) (t : code.DTree) (more : List FormId) → IsEntered s b c e
    → new.trees ≡ old.trees ++ t ∷ [] → new.uses ≡ old.uses ++ more
    → tree_of t ≡ with_added (forms_of s c.raw) (conversions (forms_of s c.raw) (forms_of s c.normal) (tree_of e.walked.tree))
    → forms_of s more ≡ without (forms_of s e.fresh) (forms_of s e.walked.uses) → HasForms s more → IsAdded s b c old new
child_added s b c e old new t more is p q h k m =
    let n = ids.tree_of s c.node in
    let d = extend (forms_of s b) (forms_of s c.normal) in
    record {
      tree = t;
      trees = p;
      is_tree = h ∙ (ap (λ u. with_added (forms_of s c.raw) (conversions (forms_of s c.raw) (forms_of s c.normal) u)) is.walked.tree
          ∙ sym (converted_with (forms_of s c.raw) (forms_of s c.raw) (forms_of s c.normal) (λ g. derivation_tree d g n) (derivation_tree d [] n) (λ g. tree_with n d g)));
      more = more;
      uses = q;
      are_uses = k ∙ (ap (λ fs. without fs (forms_of s e.walked.uses)) is.fresh ∙ ap (without (fresh (forms_of s b) (forms_of s c.normal))) is.walked.uses);
      has = m;
    }

held_append : (s : Tables) (xs ys : List FormId) → HasForms s xs → HasForms s ys → HasForms s (xs ++ ys)
held_append s [] ys h k = k
held_append s (x ∷ xs) ys h k = (h.0, held_append s xs ys h.1 k)

-- a Step's children up to one more that isn't idle
pub used_push : (s : Tables) (b : List FormId) (cs : List ids.Child) (c : ids.Child) (old new : Used) → AreUsed s b cs old → child_is_idle s b c ≡ false → IsAdded s b c old new
    → AreUsed s b (cs ++ c ∷ []) new
used_push s b cs c old new all i a = record {
  none = none_push s (forms_of s b) cs c all.none i;
  trees = ap trees_of a.trees ∙ trees_push s (forms_of s b) cs c old.trees a.tree all.trees a.is_tree;
  uses = ap (forms_of s) a.uses ∙ (map-append (form_of s) old.uses a.more ∙ (ap (λ fs. fs ++ forms_of s a.more) all.uses
      ∙ (ap (λ fs. uses_all (forms_of s b) (children s (forms_of s b) cs) ++ fs) a.are_uses ∙ sym (uses_push s (forms_of s b) cs c))));
  has = subst (HasForms s) (sym a.uses) (held_append s old.uses a.more all.has a.has);
}

-- the first idle child, behind others that aren't
pub first_idle : (s : Tables) (b : List FormId) (cs ds : List ids.Child) (c : ids.Child) (u : Used) (w : Walked) → AreUsed s b cs u → child_is_idle s b c ≡ true → IsChild s b c w
    → IsFirstIdle s b (cs ++ c ∷ ds) w
first_idle s b cs ds c u w all i is = record {
  tree = first_tree s (forms_of s b) cs ds c all.none i ∙ ap Some (sym is.tree);
  uses = first_uses s (forms_of s b) cs ds c all.none i ∙ ap Some (sym is.uses);
  has = is.has;
}

-- The code's nodes, layer by layer.
pub node_step : (pick : ℕ) (kind : Kind) (act : Act) (cs : Vec Code Global) → node_ids (CodeNode.Step pick kind act cs) ≡ ids.Node.step pick kind act (ids.children_of (map child_ids cs.items))
node_step pick kind act cs = ap node_ids (sym (rolls-Step pick kind act cs)) ∙ fold-roll-Node ids.Node ids.Child ids.node_layer ids.child_layer (layer.Step pick kind act cs)

pub node_closed : (p : ClosingPair) → node_ids (CodeNode.Closed p) ≡ ids.Node.closed p
node_closed p = ap node_ids (sym (rolls-Closed p)) ∙ fold-roll-Node ids.Node ids.Child ids.node_layer ids.child_layer (layer.Closed p)

pub node_open : node_ids CodeNode.Open ≡ ids.Node.opened
node_open = ap node_ids (sym rolls-Open) ∙ fold-roll-Node ids.Node ids.Child ids.node_layer ids.child_layer layer.Open

pub node_skipped : node_ids CodeNode.Skipped ≡ ids.Node.skipped
node_skipped = ap node_ids (sym rolls-Skipped) ∙ fold-roll-Node ids.Node ids.Child ids.node_layer ids.child_layer layer.Skipped

-- The children of the code: the one at a place of a loop, with those before and behind it.
module _ (s : Tables) where
  child_parts : (xs : List Code) (i : ℕ) (d : Code) → i < length xs
      → map child_ids xs ≡ map child_ids (take i xs) ++ child_ids (get_or xs i d) ∷ map child_ids (drop (suc i) xs)
  child_parts xs i d l =
      ap (map child_ids) (sym (take-append-drop i xs) ∙ ap (λ ys. take i xs ++ ys) (drop-cons xs i d l))
      ∙ map-append child_ids (take i xs) (get_or xs i d ∷ drop (suc i) xs)

  child_front : (xs : List Code) (i : ℕ) (d : Code) → i < length xs → map child_ids (take (i + 1) xs) ≡ map child_ids (take i xs) ++ child_ids (get_or xs i d) ∷ []
  child_front xs i d l = ap (map child_ids) (take_more xs i d l) ∙ map-append child_ids (take i xs) (get_or xs i d ∷ [])

  pub child_held : (xs : List Code) (i : ℕ) (d : Code) → i < length xs → ids.HasNodes s (ids.children_of (map child_ids xs)) → AreFinished (ids.children_of (map child_ids xs))
      → HasForms s (child_ids (get_or xs i d)).raw × (HasForms s (child_ids (get_or xs i d)).normal × (ids.HasNode s (child_ids (get_or xs i d)).node × IsFinished (child_ids (get_or xs i d)).node))
  child_held [] i d l h f = absurd (omega (arith, l))
  child_held (x ∷ xs) zero d l h f = (h.0, (h.1, (h.2, f.0)))
  child_held (x ∷ xs) (suc i) d l h f = child_held xs i d (omega (arith, l)) h.3 f.1

  -- one at a time
  module _ (xs : List Code) (i : ℕ) (x : Code) (is : x ≡ get_or xs i x) (l : i < length xs) where
    pub raw_held : ids.HasNodes s (ids.children_of (map child_ids xs)) → AreFinished (ids.children_of (map child_ids xs)) → HasForms s (child_ids x).raw
    raw_held h f = subst (λ y. HasForms s (child_ids y).raw) (sym is) (child_held xs i x l h f).0

    pub normal_held : ids.HasNodes s (ids.children_of (map child_ids xs)) → AreFinished (ids.children_of (map child_ids xs)) → HasForms s (child_ids x).normal
    normal_held h f = subst (λ y. HasForms s (child_ids y).normal) (sym is) (child_held xs i x l h f).1.0

    pub node_held : ids.HasNodes s (ids.children_of (map child_ids xs)) → AreFinished (ids.children_of (map child_ids xs)) → ids.HasNode s (child_ids x).node
    node_held h f = subst (λ y. ids.HasNode s (child_ids y).node) (sym is) (child_held xs i x l h f).1.1.0

    pub node_finished : ids.HasNodes s (ids.children_of (map child_ids xs)) → AreFinished (ids.children_of (map child_ids xs)) → IsFinished (child_ids x).node
    node_finished h f = subst (λ y. IsFinished (child_ids y).node) (sym is) (child_held xs i x l h f).1.1.1

  pub some_walked : (b now : List FormId) (xs : List Code) (i : ℕ) (d : Code) (old new : Used) (o : Option Walked) (w : Walked) → now ≡ b → i < length xs
      → AreUsed s now (map child_ids (take i xs)) old → IsTaken s now (child_ids (get_or xs i d)) old new o → o ≡ Some w → IsFirstIdle s b (map child_ids xs) w
  some_walked b now xs i d old new o w e l all taken is =
      let t = subst (λ x. IsTaken s now (child_ids (get_or xs i d)) old new x) is taken in
      subst (λ x. IsFirstIdle s x (map child_ids xs) w) e
      (subst (λ cs. IsFirstIdle s now cs w) (sym (child_parts xs i d l))
      (first_idle s now (map child_ids (take i xs)) (map child_ids (drop (suc i) xs)) (child_ids (get_or xs i d)) old w all t.0 t.1))

  pub none_walked : (now later : List FormId) (xs : List Code) (i : ℕ) (d : Code) (old new : Used) (o : Option Walked) → later ≡ now → i < length xs
      → AreUsed s now (map child_ids (take i xs)) old → IsTaken s now (child_ids (get_or xs i d)) old new o → o ≡ None
      → AreUsed s later (map child_ids (take (i + 1) xs)) new
  none_walked now later xs i d old new o e l all taken is =
      let t = subst (λ x. IsTaken s now (child_ids (get_or xs i d)) old new x) is taken in
      subst (λ x. AreUsed s x (map child_ids (take (i + 1) xs)) new) (sym e)
      (subst (λ cs. AreUsed s now cs new) (sym (child_front xs i d l))
      (used_push s now (map child_ids (take i xs)) (child_ids (get_or xs i d)) old new all t.0 t.1))

-- the tree of a root
pub root_is : (given normal : List Form) (n : Node) (t : DTree) → t ≡ derivation_tree (extend [] normal) [] n
    → with_added given (conversions given normal t) ≡ tableau_derivation given normal n
root_is given normal n t e =
    let b = extend [] normal in
    ap (λ u. with_added given (conversions given normal u)) e
    ∙ sym (converted_with given given normal (λ g. derivation_tree b g n) (derivation_tree b [] n) (λ g. tree_with n b g))

-- How far the walk has to go: more below a Step than below each of its children.
abbrev mutual
  pub weight : ids.Node → ℕ
  weight (ids.Node.step pick kind act ns) = 1 + weights ns
  weight (ids.Node.closed p) = 0
  weight ids.Node.opened = 0
  weight ids.Node.skipped = 0

  pub weights : ids.Children → ℕ
  weights ids.Children.none = 0
  weights (ids.Children.more r f n ns) = (weight n + 4) + weights ns

pub weight_at : (xs : List Code) (i : ℕ) (x : Code) → i < length xs → x ≡ get_or xs i x → weight (child_ids x).node + 4 ≤ weights (ids.children_of (map child_ids xs))
weight_at [] i x l is = absurd (omega (arith, l))
weight_at (y ∷ ys) zero x l is = let e : weight (child_ids x).node ≡ weight (child_ids y).node = ap (λ z. weight (child_ids z).node) is in omega (arith, e)
weight_at (y ∷ ys) (suc i) x l is =
    let le : weight (child_ids x).node + 4 ≤ weights (ids.children_of (map child_ids ys)) = weight_at ys i x (omega (arith, l)) is in omega (arith, le)

pub step_weight : (n : CodeNode.Node) (pick : ℕ) (kind : Kind) (act : Act) (cs : Vec Code Global) (xs : List Code) → n ≡ CodeNode.Step pick kind act cs → xs ≡ cs.items
    → 1 + weights (ids.children_of (map child_ids xs)) ≡ weight (node_ids n)
step_weight n pick kind act cs xs e f =
    ap (λ ys. 1 + weights (ids.children_of (map child_ids ys))) f ∙ sym (ap weight (ap node_ids e ∙ node_step pick kind act cs))

pub node_weight : (c : Code) → weight (node_ids c.node) ≡ weight (child_ids c).node
node_weight c = sym (ap (λ x. weight x.node) (child_opens c))
