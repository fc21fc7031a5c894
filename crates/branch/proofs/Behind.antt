-- The next child stands below a branch that isn't closed.
use Rattle.std.proofs.Common.{◌≡◌, ◌+◌, ◌-◌, ℕ, zero, suc, Bool, false, ◌||◌, refl, ap, take, length, List, [], ◌∷◌, ◌++◌, Option, None, Some, arith}
use Rattle.zm_logic.specs.Tree.{Form}
use Rattle.term_store.specs.Trees.{Tables}
use Rattle.term_store.specs.declared.ids.FormId.{FormId}
use Rattle.choosers.specs.declared.offer.Kind.{Kind}
use Rattle.param_store.specs.declared.offer.Act.{Act}
use Rattle.param_store.specs.View.{forms_of, lists_of}
use Rattle.branch.specs.Branch.{closing, extend}
use Rattle.branch.specs.Setting.{Setting}
use Rattle.branch.specs.Tableau.{IsLawful, AreLawful, enter_child, after, skips}
use Rattle.branch.specs.Ids.{Node, Children, Child, tree_of, trees_of}
use Rattle.branch.specs.Path.{child_in, along, along_in, above, brought, brought_in, extend_all, next, next_in}
use Rattle.branch.proofs.Moves.{some_of, nonempty}

module _ (s : Tables) (setting : Setting) where
  -- the path leads to a child, and nothing closes the branch of the node above it
  abbrev Leads : List Form → Node → List ℕ → Type 0
  Leads b n q = (along q n ≡ along (above q) n ++ brought q n ∷ []) × (closing (extend_all b (lists_of s (along (above q) n))) ≡ None)

  -- the same of a path behind the place of a child
  abbrev LeadsIn : List Form → ℕ → Children → List ℕ → Type 0
  LeadsIn b i ns js =
      (along_in i js ns ≡ along_in i (above js) ns ++ brought_in i js ns ∷ []) × (closing (extend_all b (lists_of s (along_in i (above js) ns))) ≡ None)

  last_is : (i : ℕ) (ns : Children) (d : Child) → child_in i ns ≡ Some d → along_in i [] ns ≡ brought_in i [] ns ∷ []
  last_is i Children.none d e = absurd (let z = e in cc)
  last_is zero (Children.more r f n ns) d e = refl
  last_is (suc i) (Children.more r f n ns) d e = last_is i ns d e

  longer : (i : ℕ) (js : List ℕ) (m : ℕ) (c : Kind) (a : Act) (ns : Children) (b : List Form) → (js ≡ [] → ⊥) → LeadsIn b i ns js → Leads b (Node.step m c a ns) (i ∷ js)
  longer i [] m c a ns b x h = absurd (x refl)
  longer i (j ∷ js) m c a ns b x h = h

  mutual
    pub next_leads : (p : List ℕ) (n : Node) (q : List ℕ) (t b : List Form) → IsLawful setting t b (tree_of s n) → next p n ≡ Some q → Leads b n q
    next_leads [] n q t b l e = absurd (let z = e in cc)
    next_leads (i ∷ is) (Node.step m c a ns) q t b l e =
        some_of (Leads b (Node.step m c a ns)) i (next_in i is ns) (child_in (suc i) ns) q e
        (λ js z. let h = inside_leads i is ns js t b false l.2 z in longer i js m c a ns b h.0 h.1)
        (λ d z y. (last_is (suc i) ns d y, l.0))
    next_leads (i ∷ is) (Node.closed c) q t b l e = absurd (let z = e in cc)
    next_leads (i ∷ is) Node.opened q t b l e = absurd (let z = e in cc)
    next_leads (i ∷ is) Node.skipped q t b l e = absurd (let z = e in cc)

    inside_leads : (i : ℕ) (is : List ℕ) (ns : Children) (js : List ℕ) (t b : List Form) (skip : Bool) → AreLawful setting t b skip (trees_of s ns)
        → next_in i is ns ≡ Some js → (js ≡ [] → ⊥) × LeadsIn b i ns js
    inside_leads i is Children.none js t b skip l e = absurd (let z = e in cc)
    inside_leads zero is (Children.more r f n ns) [] t b skip l e = absurd (nonempty is n e)
    inside_leads zero is (Children.more r f n ns) (j ∷ js) t b skip l e =
        let h = next_leads is n (j ∷ js) (enter_child t (forms_of s f) (tree_of s n)) (extend b (forms_of s f)) l.1 e in
        (λ z. let y = z in cc, (ap (λ fs. f ∷ fs) h.0, h.1))
    inside_leads (suc i) is (Children.more r f n ns) js t b skip l e =
        inside_leads i is ns js (after (enter_child t (forms_of s f) (tree_of s n)) (tree_of s n)) b
        (skip || skips setting.prunes b (forms_of s f) (tree_of s n)) l.2 e

-- a path without its last place is its front
above_take : (n : ℕ) (p : List ℕ) → n + 1 ≡ length p → take n p ≡ above p
above_take n [] e = absurd (omega arith)
above_take zero (i ∷ []) e = refl
above_take (suc n) (i ∷ []) e = absurd (omega arith)
above_take zero (i ∷ j ∷ js) e = absurd (omega arith)
above_take (suc n) (i ∷ j ∷ js) e = ap (λ q. i ∷ q) (above_take n (j ∷ js) (omega arith))

pub above_is : (p : List ℕ) (n : ℕ) → n ≡ length p - 1 → take n p ≡ above p
above_is [] zero e = refl
above_is [] (suc n) e = refl
above_is (i ∷ is) n e = above_take n (i ∷ is) (omega arith)

-- the formulas of a child behind those of the node above it
pub extended_last : (s : Tables) (b : List Form) (before : List (List FormId)) (fs : List FormId)
    → extend_all b (lists_of s (before ++ fs ∷ [])) ≡ extend (extend_all b (lists_of s before)) (forms_of s fs)
extended_last s b [] fs = refl
extended_last s b (x ∷ before) fs = extended_last s (extend b (forms_of s x)) before fs
