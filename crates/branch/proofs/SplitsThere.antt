-- A branch without quantifiers, equality and parameters has raw offers. Without rules, and where no formula is too deep, it
-- has offers.
use Rattle.std.proofs.Common.{◌≡◌, ℕ, ◌+◌, ◌≤◌, Bool, true, false, refl, ap, sym, subst, ◌∙◌, List, [], ◌∷◌, ◌++◌, inl, inr, Contains, Option, None, Some, map, length}
use Rattle.std.proofs.lemmas.List.{length_push, map-append}
use Rattle.std.proofs.lemmas.List.Elements.{All-nil, Contains-push_cases}
use Rattle.zm_logic.specs.Tree.{Form}
use Rattle.zm_logic.specs.Measure.{depth}
use Rattle.zm_logic.specs.Parameter.{HasNoParameter}
use Rattle.zm_logic.specs.Same.{same}
use Rattle.zm_logic.specs.Truth.{IsQuantifierFree}
use Rattle.zm_logic.proofs.Sames.{Contains-here, Contains-there, Contains-none, same-true}
use Rattle.unify.specs.Binding.{Binding}
use Rattle.unify.specs.Unification.{UnifiesForms}
use Rattle.param_store.specs.RawOffers.{split}
use Rattle.branch.specs.Setting.{Setting}
use Rattle.branch.specs.Normal.{Made, Reaches, NormalizesFrom, MakesAll}
use Rattle.unify.specs.Answer.{solved_depth}
use Rattle.equality_rules.specs.Refused.{AreBounded}
use Rattle.equality_rules.specs.Instances.{InstancesOf}
use Rattle.equality_rules.specs.Pairs.{Opposites, alike, opposites, FormsDiffer}
use Rattle.branch.specs.BranchOffers.{Entry, Placed, own_entries, BindingEntries, SingleEntries, PairEntries, PairsWith, EntriesFrom, AreRawOffers}
use Rattle.branch.specs.Offers.{MakesForm, MakesChild, MakesOffer, AreOffers}
use Rattle.branch.specs.QuantifierFree.{AreQuantifierFree, AreShallow, split_at, splits_from, splits, unchanged, split_offer, useful_splits}
use Rattle.branch.proofs.NoRules.{itself}
use Rattle.branch.proofs.Children.{AllOf, AllIn}
use Rattle.branch.proofs.Unbound.{nothing_bound, opposites_plain, opposites_alike, one_unified, never_one}
use Rattle.branch.proofs.QuantifierFree.{no_equality, own_split, joined, split_source}
use Rattle.branch.proofs.Splits.{split_depth}

module _ (s : Setting) (table : List Form) where
  bindings_there : (j : ℕ) (i : Option ℕ) (f g : Form) → alike f g ≡ true → HasNoParameter f → HasNoParameter g
      → BindingEntries s table (UnifiesForms f g) (FormsDiffer f g) j i []
  bindings_there j i f g e h k = go (same f g) refl
    where
      bounded : (made : List Binding) → UnifiesForms f g made → AreBounded made
      bounded made u = subst AreBounded (sym (nothing_bound f g made h k u)) (All-nil (λ b. solved_depth [] b ≤ 2000))

      go : (v : Bool) → same f g ≡ v → BindingEntries s table (UnifiesForms f g) (FormsDiffer f g) j i []
      go true q =
          let x : f ≡ g = same-true f g q in
          let u = subst (λ y. UnifiesForms f y []) x (one_unified f (subst (λ y. alike f y ≡ true) (sym x) e)) in
          BindingEntries.listed {rs = []} bounded (InstancesOf.unified [] u)
      go false q = BindingEntries.listed {rs = []} bounded (InstancesOf.apart (never_one f g h k q))

  single_there : (j : ℕ) (f : Form) → IsQuantifierFree f → SingleEntries s table false j f []
  single_there j f q = SingleEntries.other (λ t u v e. subst IsQuantifierFree e q)

  pair_there : (j i : ℕ) (g f : Form) → HasNoParameter g → HasNoParameter f → PairEntries s table false j i g f []
  pair_there j i g f h k = go (opposites g f) refl
    where
      go : (x : Option Opposites) → opposites g f ≡ x → PairEntries s table false j i g f []
      go None e = PairEntries.none e
      go (Some o) e =
          let p = opposites_plain g f o e h k in
          PairEntries.opposed {xs = []} o e (bindings_there j (Some i) o.left o.right (opposites_alike g f o e) p.0 p.1)

  pairs_there : (j : ℕ) (f : Form) (i : ℕ) (gs : List Form) → ((g : Form) → Contains gs g → HasNoParameter g) → HasNoParameter f → PairsWith s table false j f i gs []
  pairs_there j f i [] h k = PairsWith.none
  pairs_there j f i (g ∷ gs) h k =
      PairsWith.more {xs = []} {ys = []} (pair_there j i g f (h g (Contains-here g gs)) k) (pairs_there j f (i + 1) gs (λ x m. h x (Contains-there g gs x m)) k)

  entries_there : (gs fs : List Form) → ((g : Form) → Contains gs g → HasNoParameter g) → ((f : Form) → Contains fs f → IsQuantifierFree f × HasNoParameter f)
      → EntriesFrom s table false gs fs (map Entry.offer (splits_from (length gs) fs))
  entries_there gs [] h k = EntriesFrom.none
  entries_there gs (f ∷ fs) h k =
      let q = k f (Contains-here f fs) in
      let j = length gs in
      let zs = map Entry.offer (splits_from (length (gs ++ f ∷ [])) fs) in
      let rest = entries_there (gs ++ f ∷ []) fs
      (λ g m. elim (Contains-push_cases gs f g m) [ inl i ↦ h g i | inr e ↦ subst (λ y. HasNoParameter y) e q.1 ]) (λ g m. k g (Contains-there f fs g m)) in
      subst (EntriesFrom s table false gs (f ∷ fs))
      (joined (own_entries table j f) [] [] zs (map Entry.offer (split_at j f (split f))) (map Entry.offer (splits_from (j + 1) fs))
      (own_split table j f q.0) refl refl (ap (λ n. map Entry.offer (splits_from n fs)) (length_push gs f))
      ∙ sym (map-append Entry.offer (split_at j f (split f)) (splits_from (j + 1) fs)))
      (EntriesFrom.more (single_there j f q.0) (pairs_there j f 0 gs h q.1) rest)

  -- the raw offers of a branch
  pub raw_there : (b : List Form) → AreQuantifierFree b → AreRawOffers s table b (map Entry.offer (splits b))
  raw_there b q =
      subst (λ v. EntriesFrom s table v [] b (map Entry.offer (splits b))) (sym (no_equality b q.free))
      (entries_there [] b (λ g m. absurd (Contains-none g m)) (λ f m. (q.free f m, q.parameters f m)))

module _ (s : Setting) (unruled : s.rules ≡ []) where
  reaches_itself : (f : Form) → Reaches s f f
  reaches_itself f = subst (λ r. NormalizesFrom r f s.rewrites f (Made.made f)) (sym unruled) (itself f s.rewrites f)

  forms_there : (blamed : Form) (fs : List Form) → AllOf (λ x. depth x ≤ 2000) fs → MakesAll (MakesForm s blamed) fs (Made.made fs)
  forms_there blamed [] h = MakesAll.none
  forms_there blamed (f ∷ fs) h = MakesAll.more (MakesForm.normal h.0 (reaches_itself f)) (forms_there blamed fs h.1)

  children_there : (blamed : Form) (cs : List (List Form)) → AllIn (λ x. depth x ≤ 2000) cs → MakesAll (MakesChild s blamed) cs (Made.made (map unchanged cs))
  children_there blamed [] h = MakesAll.none
  children_there blamed (c ∷ cs) h = MakesAll.more (MakesChild.made (forms_there blamed c h.0)) (children_there blamed cs h.1)

  offers_made : (ps : List Placed) → ((p : Placed) → Contains ps p → AllIn (λ x. depth x ≤ 2000) p.raw.children)
      → MakesAll (MakesOffer s) (map Entry.offer ps) (Made.made (map split_offer ps))
  offers_made [] h = MakesAll.none
  offers_made (p ∷ ps) h =
      MakesAll.more (MakesOffer.made (children_there p.blamed p.raw.children (h p (Contains-here p ps)))) (offers_made ps (λ q m. h q (Contains-there p ps q m)))

  -- the offers of a branch
  pub offers_there : (table b : List Form) → AreQuantifierFree b → AreShallow b → AreOffers s table b (useful_splits b)
  offers_there table b q d = record {
    entries = map Entry.offer (splits b);
    raw = raw_there s table b q;
    all = map split_offer (splits b);
    made = offers_made (splits b) (λ p m. let x = split_source b 0 p m in
        subst (AllIn (λ y. depth y ≤ 2000)) x.children (split_depth 2000 x.form (d x.form x.stands)));
    useful = refl;
  }
