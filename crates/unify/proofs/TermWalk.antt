-- A walk through a term gives way to its parts.
use Rattle.std.proofs.Common.{ℕ, ◌≡◌, ◌+◌, ◌<◌, List, [], ◌∷◌, ◌++◌, length, take, get_or, nat_eq, ◌&&◌, cond, true, inl, inr, append_assoc, append-nil, refl, ap, sym, subst, ◌∙◌, arith}
use Rattle.std.proofs.lemmas.List.{take_more}
use Rattle.std.proofs.lemmas.Bool.Decides.{eqb_tells}
use Rattle.indexmap.specs.IndexSet.{IndexSet, contains}
use Rattle.zm_logic.specs.Tree.{Ty, Tys, Term, Terms}
use Rattle.zm_logic.specs.Same.{same_type}
use Rattle.term_store.specs.Node.{terms_at, TermsBelow}
use Rattle.term_store.specs.Trees.{Tables, all_trees, HasTerm, term_of}
use Rattle.term_store.specs.declared.ids.TermId.{TermId}
use Rattle.unify.specs.Binding.{Binding, solved_term, head_term}
use Rattle.unify.specs.Unification.{LacksTermMeta, LackTermMeta}
use Rattle.unify.specs.Lawful.{AreLawful}
use Rattle.unify.specs.Weight.{term_weight, terms_weight}
use Rattle.unify.specs.Pending.{Each, AllAsked, IsMarked}
use Rattle.unify.specs.Occurs.{IfFound, LackTerms, TermLacks, AsksTerm, GivesTerm, HasTermVisit, terms_load, entered_terms, EntersTerm}
use Rattle.unify.specs.declared.term_occurs.TermVisit.{TermVisit}
use Rattle.unify.specs.declared.term_occurs.TermVisit.TheVariants.{Enter, Leave}
use Rattle.unify.proofs.Same.{same_meta_tells}
use Rattle.unify.proofs.Waiting.{each_first, each_last, each_both, asked_first, asked_last, asked_both, marked_last, marked_swap}
use Rattle.unify.proofs.Solved.{solved_terms, solved_app, solved_more_term, unbound_term, head_solved_term, head_unbound_term}
use Rattle.unify.proofs.Total.{solved_bound_term, solved_eps, solved_no_term}
use Rattle.unify.proofs.End.{term_heavy}

pub entered_push : (is : List TermId) (i : TermId) → entered_terms (is ++ i ∷ []) ≡ entered_terms is ++ (Enter i ∷ [])
entered_push [] i = refl
entered_push (j ∷ is) i = ap (λ vs. Enter j ∷ vs) (entered_push is i)

pub entered_more : (is : List TermId) (n : ℕ) (d : TermId) → n < length is → entered_terms (take (n + 1) is) ≡ entered_terms (take n is) ++ (Enter (get_or is n d) ∷ [])
entered_more is n d l = rw (take_more is n d l) (entered_push (take n is) (get_or is n d))

module _ (s : Tables) (bs : List Binding) where
  abbrev parts : List TermId → Terms
  parts is = terms_at (all_trees s).terms is

  parts_load : (is : List TermId) → terms_load s bs (entered_terms is) ≡ terms_weight (solved_terms bs (parts is)) + terms_weight (solved_terms bs (parts is))
  parts_load [] = let e = ap terms_weight (solved_no_term bs) in omega (arith, e)
  parts_load (i ∷ is) = let e = ap terms_weight (solved_more_term bs (term_of s i) (parts is)) in omega (arith, e, parts_load is)

  parts_have : (is : List TermId) → TermsBelow (length s.terms) is → Each (HasTermVisit s bs) (entered_terms is)
  parts_have [] h = tt
  parts_have (i ∷ is) h = (h.0, parts_have is h.1)

  module _ (m : ℕ) (k : Ty) where
    parts_back : (is : List TermId) → AllAsked (AsksTerm s bs m k) (GivesTerm s bs m k) tt (entered_terms is) → LackTermMeta m k (solved_terms bs (parts is))
    parts_back [] h = subst (LackTermMeta m k) (sym (solved_no_term bs)) tt
    parts_back (i ∷ is) h = subst (LackTermMeta m k) (sym (solved_more_term bs (term_of s i) (parts is))) (h.0, parts_back is h.1)

    parts_forth : (is : List TermId) → LackTermMeta m k (solved_terms bs (parts is)) → AllAsked (AsksTerm s bs m k) (GivesTerm s bs m k) tt (entered_terms is)
    parts_forth [] h = tt
    parts_forth (i ∷ is) h = let z = subst (LackTermMeta m k) (solved_more_term bs (term_of s i) (parts is)) h in (z.0, parts_forth is z.1)

    parts_marked : (is : List TermId) → IsMarked (AsksTerm s bs m k) (GivesTerm s bs m k) (entered_terms is)
    parts_marked [] = tt
    parts_marked (i ∷ is) = (λ a h. tt, parts_marked is)

    -- nothing is left of a term that lacks it
    pub lacking : (i : TermId) (old : List TermVisit) → TermLacks s bs m k i → EntersTerm s bs m k i old old
    lacking i old h = record {
      more = [];
      grown = sym (append-nil old);
      back = λ z. h;
      forth = λ z. tt;
      marked = tt;
      has = tt;
      lighter = omega (arith, term_heavy (solved_term bs (term_of s i)));
    }

    module _ (l : AreLawful bs) (i h : TermId) (e : term_of s h ≡ head_term bs (term_of s i)) where
      head_is : solved_term bs (term_of s h) ≡ solved_term bs (term_of s i)
      head_is = ap (solved_term bs) e ∙ head_solved_term bs l (term_of s i)

      pub lacking_head : TermLacks s bs m k h → TermLacks s bs m k i
      lacking_head z = subst (LacksTermMeta m k) head_is z

      pub bound_lacks : (n : ℕ) → term_of s h ≡ Term.bound n → TermLacks s bs m k i
      bound_lacks n f = lacking_head (subst (LacksTermMeta m k) (sym (ap (solved_term bs) f ∙ solved_bound_term bs n)) tt)

      pub eps_lacks : (n : ℕ) (t : Ty) → term_of s h ≡ Term.eps n t → TermLacks s bs m k i
      eps_lacks n t f = lacking_head (subst (LacksTermMeta m k) (sym (ap (solved_term bs) f ∙ solved_eps bs n t)) tt)

      meta_is : (n : ℕ) (t : Ty) → term_of s h ≡ Term.meta n t → Term.meta n t ≡ solved_term bs (term_of s i)
      meta_is n t f = sym (ap (solved_term bs) f ∙ unbound_term bs n t (head_unbound_term bs l (term_of s i) n t (sym e ∙ f))) ∙ head_is

      pub meta_enters : (n : ℕ) (t : Ty) (old : List TermVisit) → term_of s h ≡ Term.meta n t
          → IfFound (TermLacks s bs m k i → ⊥) (EntersTerm s bs m k i old old) (nat_eq n m && same_type t k)
      meta_enters n t old f =
          elim (same_meta_tells n m t k) [
            | inl x ↦ rw x.0 (λ z. subst (LacksTermMeta m k) (sym (meta_is n t f)) z x.1)
            | inr x ↦ rw x.0 (lacking i old (subst (LacksTermMeta m k) (meta_is n t f) x.1))
          ]

      -- a function gives way to its arguments
      pub app_enters : (c : ℕ) (ts : Tys) (is : List TermId) (old new : List TermVisit) → HasTerm s h → TermsBelow (length s.terms) is
          → term_of s h ≡ Term.app c ts (parts is) → new ≡ old ++ (Leave h ∷ entered_terms is) → EntersTerm s bs m k i old new
      app_enters c ts is old new a b f g =
          let f' = ap (solved_term bs) f ∙ solved_app bs c ts (parts is) in
          let w = ap term_weight f' in
          let v = ap term_weight head_is in
          record {
            more = Leave h ∷ entered_terms is;
            grown = g;
            back = λ z. lacking_head (subst (LacksTermMeta m k) (sym f') (parts_back is z.1));
            forth = λ z. (tt, parts_forth is (subst (LacksTermMeta m k) f' (subst (LacksTermMeta m k) (sym head_is) z)));
            marked = (λ a z. subst (LacksTermMeta m k) (sym f') (parts_back is z), parts_marked is);
            has = (a, parts_have is b);
            lighter = omega (arith, parts_load is, w, v);
          }

-- loads add up
terms_load_more : (s : Tables) (bs : List Binding) (xs ys : List TermVisit) → terms_load s bs (xs ++ ys) ≡ terms_load s bs xs + terms_load s bs ys
terms_load_more s bs [] ys = omega arith
terms_load_more s bs (Enter i ∷ xs) ys = omega (arith, terms_load_more s bs xs ys)
terms_load_more s bs (Leave i ∷ xs) ys = omega (arith, terms_load_more s bs xs ys)

-- a walk through a term, in search of a metavariable
module _ (s : Tables) (bs : List Binding) (m : ℕ) (k : Ty) (within : TermId) where
  pub record Walks (path : List TermVisit) : Type 0 where
    pub has : Each (HasTermVisit s bs) path
    pub marked : IsMarked (AsksTerm s bs m k) (GivesTerm s bs m k) path
    pub back : AllAsked (AsksTerm s bs m k) (GivesTerm s bs m k) tt path → TermLacks s bs m k within
    pub forth : TermLacks s bs m k within → AllAsked (AsksTerm s bs m k) (GivesTerm s bs m k) tt path

  pub walk_starts : (path : List TermVisit) → path ≡ Enter within ∷ [] → HasTerm s within → Walks path
  walk_starts path e h =
      subst Walks (sym e) (record { has = (h, tt); marked = ((λ a z. tt), tt); back = λ z. z.0; forth = λ z. (z, tt) })

  pub walk_done : (path : List TermVisit) → path ≡ [] → Walks path → TermLacks s bs m k within
  walk_done path e w = (subst Walks e w).back tt

  module _ (path rest : List TermVisit) (i : TermId) where
    pub walk_found : path ≡ rest ++ (Enter i ∷ []) → Walks path → (TermLacks s bs m k i → ⊥) → TermLacks s bs m k within → ⊥
    walk_found e w f z =
        f (asked_last (AsksTerm s bs m k) (GivesTerm s bs m k) tt rest (Enter i ∷ []) ((subst Walks e w).forth z)).0

    pub walk_has : path ≡ rest ++ (Enter i ∷ []) → Walks path → HasTerm s i
    walk_has e w = (each_last (HasTermVisit s bs) rest (Enter i ∷ []) (subst Walks e w).has).0

    pub walk_enters : (new : List TermVisit) → path ≡ rest ++ (Enter i ∷ []) → Walks path → EntersTerm s bs m k i rest new → Walks new
    walk_enters new e w n =
        let v = subst Walks e w in
        let A = AsksTerm s bs m k in let G = GivesTerm s bs m k in
        let one : List TermVisit = Enter i ∷ [] in
        subst Walks (sym n.grown)
        (record {
          has = each_both (HasTermVisit s bs) rest n.more (each_first (HasTermVisit s bs) rest one v.has) n.has;
          marked = marked_swap A G one n.more (λ a z. (n.back z, tt)) n.marked rest v.marked;
          back = λ z. v.back (asked_both A G tt rest one (asked_first A G tt rest n.more z) (n.back (asked_last A G tt rest n.more z), tt));
          forth = λ z. let h = v.forth z in asked_both A G tt rest n.more (asked_first A G tt rest one h) (n.forth (asked_last A G tt rest one h).0);
        })

    pub enters_lighter : (new : List TermVisit) → path ≡ rest ++ (Enter i ∷ []) → EntersTerm s bs m k i rest new → terms_load s bs new < terms_load s bs path
    enters_lighter new e n =
        let f = ap (terms_load s bs) e in let g = ap (terms_load s bs) n.grown in
        omega (arith, f, g, n.lighter, terms_load_more s bs rest n.more, terms_load_more s bs rest (Enter i ∷ []))

    pub walk_leaves : path ≡ rest ++ (Leave i ∷ []) → Walks path → Walks rest
    walk_leaves e w =
        let v = subst Walks e w in
        let A = AsksTerm s bs m k in let G = GivesTerm s bs m k in
        let one : List TermVisit = Leave i ∷ [] in
        record {
          has = each_first (HasTermVisit s bs) rest one v.has;
          marked = subst (IsMarked A G) (append-nil rest) (marked_swap A G one [] (λ a z. (tt, tt)) tt rest v.marked);
          back = λ z. v.back (asked_both A G tt rest one z (tt, tt));
          forth = λ z. asked_first A G tt rest one (v.forth z);
        }

    pub left_lacks : path ≡ rest ++ (Leave i ∷ []) → Walks path → HasTerm s i × TermLacks s bs m k i
    left_lacks e w =
        let v = subst Walks e w in
        ((each_last (HasTermVisit s bs) rest (Leave i ∷ []) v.has).0, (marked_last (AsksTerm s bs m k) (GivesTerm s bs m k) rest (Leave i ∷ []) v.marked).0 tt tt)

    pub leaves_lighter : path ≡ rest ++ (Leave i ∷ []) → terms_load s bs rest < terms_load s bs path
    leaves_lighter e = let f = ap (terms_load s bs) e in omega (arith, f, terms_load_more s bs rest (Leave i ∷ []))

abbrev pub term_id : ℕ → TermId
term_id n = record { 0 = n }

-- one more term that lacks it
pub known_more : {S : Type 0} (s : Tables) (bs : List Binding) (m : ℕ) (k : Ty) (known more : IndexSet TermId S) (z : TermId)
    → ((q : TermId) → contains (λ x y. nat_eq x.0 y.0) more q ≡ cond (nat_eq z.0 q.0) true (contains (λ x y. nat_eq x.0 y.0) known q))
    → LackTerms s bs m k known → HasTerm s z × TermLacks s bs m k z → LackTerms s bs m k more
known_more s bs m k known more z u l p i h =
    elim (eqb_tells z.0 i.0) [
      | inl x ↦ (let e : z ≡ i = ap (λ (n : ℕ). term_id n) x.1 in subst (λ j. HasTerm s j × TermLacks s bs m k j) e p)
      | inr x ↦ (let f = u i ∙ ap (λ b. cond b true (contains (λ x y. nat_eq x.0 y.0) known i)) x.0 in l i (sym f ∙ h))
    ]

pub entered_next : (old now new : List TermVisit) (ids : List TermId) (n : ℕ) (d : TermId) → n < length ids
    → now ≡ old ++ entered_terms (take n ids) → new ≡ now ++ (Enter (get_or ids n d) ∷ []) → new ≡ old ++ entered_terms (take (n + 1) ids)
entered_next old now new ids n d l e f =
    let one : List TermVisit = Enter (get_or ids n d) ∷ [] in
    f ∙ ap (λ xs. xs ++ one) e ∙ append_assoc old (entered_terms (take n ids)) one ∙ ap (λ xs. old ++ xs) (sym (entered_more ids n d l))

pub grown_by : (old mid new more : List TermVisit) (v : TermVisit) → mid ≡ old ++ (v ∷ []) → new ≡ mid ++ more → new ≡ old ++ (v ∷ more)
grown_by old mid new more v e f = f ∙ ap (λ xs. xs ++ more) e ∙ append_assoc old (v ∷ []) more
