-- The worked examples of a skipped sibling and of normal forms.
use Rattle.std.proofs.Common.{◌≡◌, ◌≤◌, ℕ, true, false, refl, sym, subst, arith, List, [], ◌∷◌, None}
use Rattle.zm_logic.specs.Tree.{Terms, Form, Opening, Side, Rule}
use Rattle.zm_logic.specs.Measure.{depth}
use Rattle.zm_logic.specs.Opening.{side_instance}
use Rattle.zm_logic.specs.Rewriting.{Fit, Rewrites, RewritesBySome, TermsStep, Step}
use Rattle.zm_logic.specs.Laws.{p_to_q}
use Rattle.zm_logic.proofs.Sames.{only}
use Rattle.branch.specs.Setting.{Setting}
use Rattle.zm_logic.specs.Innermost.{FirstRewrites, InnermostStep}
use Rattle.branch.specs.Normal.{Made, NormalizesFrom, MakesAll}
use Rattle.param_store.specs.RawOffers.{on, one, two}
use Rattle.branch.specs.BranchOffers.{Kind, Placed, Entry, SingleEntries, PairEntries, PairsWith, EntriesFrom}
use Rattle.branch.specs.Offers.{Offer, offer_of, MakesForm, MakesChild, MakesOffer, IsOfferAt}
use Rattle.branch.specs.Worked as worked
use Rattle.branch.specs.Worked.{plain, letter, letters, r_or_t, not_u, u_and_not_u}
use Rattle.branch.proofs.NoRules.{itself}
use Rattle.branch.proofs.Worked.{child, first_offer}

-- A skipped sibling.

module _ (n : ℕ) where
  abbrev s : Setting
  s = plain letters n true

  abbrev splits : Placed
  splits = record { kind = Kind.beta; raw = record { act = on r_or_t; children = one (letter 1) ∷ one (letter 2) ∷ [] }; blamed = r_or_t; later = 0; earlier = None }

  abbrev joined : Placed
  joined = record { kind = Kind.alpha; raw = record { act = on u_and_not_u; children = two (letter 3) not_u ∷ [] }; blamed = u_and_not_u; later = 1; earlier = None }

  behind : (fs : List Form) → EntriesFrom s [] false (r_or_t ∷ u_and_not_u ∷ []) fs []
      → EntriesFrom s [] false [] (r_or_t ∷ u_and_not_u ∷ fs) (Entry.offer splits ∷ Entry.offer joined ∷ [])
  behind fs h =
      EntriesFrom.more (SingleEntries.other (λ t x y e. cc)) PairsWith.none
      (EntriesFrom.more (SingleEntries.other (λ t x y e. cc)) (PairsWith.more (PairEntries.none refl) PairsWith.none) h)

  after_r : EntriesFrom s [] false (r_or_t ∷ u_and_not_u ∷ []) (letter 1 ∷ []) []
  after_r =
      EntriesFrom.more (SingleEntries.other (λ t x y e. cc)) (PairsWith.more (PairEntries.none refl) (PairsWith.more (PairEntries.none refl) PairsWith.none)) EntriesFrom.none

  abbrev split : Offer
  split = offer_of splits (record { raw = one (letter 1); normal = one (letter 1) } ∷ child (letter 2))

  abbrev conjunction : Offer
  conjunction = offer_of joined (record { raw = two (letter 3) not_u; normal = two (letter 3) not_u } ∷ [])

  itself_at : (blamed f : Form) → depth f ≤ 2000 → MakesForm s blamed f (Made.made f)
  itself_at blamed f d = MakesForm.normal d (itself f n f)

  made_split : MakesOffer s (Entry.offer splits) (Made.made split)
  made_split =
      MakesOffer.made (MakesAll.more (MakesChild.made (MakesAll.more (itself_at r_or_t (letter 1) (omega arith)) MakesAll.none))
      (MakesAll.more (MakesChild.made (MakesAll.more (itself_at r_or_t (letter 2) (omega arith)) MakesAll.none)) MakesAll.none))

  made_conjunction : MakesOffer s (Entry.offer joined) (Made.made conjunction)
  made_conjunction =
      MakesOffer.made (MakesAll.more (MakesChild.made (MakesAll.more (itself_at u_and_not_u (letter 3) (omega arith))
      (MakesAll.more (itself_at u_and_not_u not_u (omega arith)) MakesAll.none))) MakesAll.none)

  offered_split : IsOfferAt s [] (r_or_t ∷ u_and_not_u ∷ []) 0 split.kind split.act split.children
  offered_split =
      first_offer letters n true [] (r_or_t ∷ u_and_not_u ∷ []) (Entry.offer splits ∷ Entry.offer joined ∷ []) (split ∷ conjunction ∷ []) (conjunction ∷ []) split
      (behind [] EntriesFrom.none) (MakesAll.more made_split (MakesAll.more made_conjunction MakesAll.none)) refl

  offered_conjunction : IsOfferAt s [] (r_or_t ∷ u_and_not_u ∷ letter 1 ∷ []) 0 conjunction.kind conjunction.act conjunction.children
  offered_conjunction =
      first_offer letters n true [] (r_or_t ∷ u_and_not_u ∷ letter 1 ∷ []) (Entry.offer splits ∷ Entry.offer joined ∷ []) (split ∷ conjunction ∷ []) [] conjunction
      (behind (letter 1 ∷ []) after_r) (MakesAll.more made_split (MakesAll.more made_conjunction MakesAll.none)) refl

pub skipped_sibling : worked.SkippedSibling
skipped_sibling n = record {
  tableau = record {
    lawful = (refl, offered_split n, (refl, (refl, offered_conjunction n, (refl, refl, tt, λ z. refl)), (refl, tt, tt, λ z. absurd (let q = z in cc)), λ z. absurd (let q = z in cc)));
    entered = refl;
    high = omega arith;
  };
  finished = refl;
  picked = refl;
}

-- Normal forms.

no_binders : {os : List Opening} → Fit os [] → os ≡ []
no_binders Fit.none = refl

abbrev one_rule : Rule
one_rule = record { binders = []; left = Side.of_form (letter 1); right = Side.of_form (letter 2) }

-- what the rule rewrites is the first letter
only_first : (x y : Side) → RewritesBySome p_to_q x y → Side.of_form (letter 1) ≡ x
only_first x y (r, has, w) = go (subst (λ z. Rewrites z x y) (sym (only one_rule r has)) w)
  where
    go : Rewrites one_rule x y → Side.of_form (letter 1) ≡ x
    go (os, fits, left, right) = subst (λ z. side_instance z (Side.of_form (letter 1)) ≡ x) (no_binders fits) left

no_arguments : {us vs : Terms} → TermsStep p_to_q us vs → us ≡ Terms.none → ⊥
no_arguments (TermsStep.first h) e = cc
no_arguments (TermsStep.later h) e = cc

second_is_normal : {f g : Form} → Step p_to_q f g → f ≡ letter 2 → ⊥
second_is_normal (Step.here {f = f} {g = g} h) e =
    let w = only_first (Side.of_form f) (Side.of_form g) h in let i : ◌≡◌ {A = ℕ} 1 2 = cc in absurd (omega arith)
second_is_normal (Step.atom h) e = no_arguments h cc
second_is_normal (Step.equal_left h) e = cc
second_is_normal (Step.equal_right h) e = cc
second_is_normal (Step.negation h) e = cc
second_is_normal (Step.binary_left h) e = cc
second_is_normal (Step.binary_right h) e = cc
second_is_normal (Step.quantified n x y h) e = cc
second_is_normal (Step.quantified_types n x y h) e = cc

negation_is_normal : {f g : Form} → Step p_to_q f g → f ≡ Form.negation (letter 2) → ⊥
negation_is_normal (Step.here {f = f} {g = g} h) e = let w = only_first (Side.of_form f) (Side.of_form g) h in cc
negation_is_normal (Step.atom h) e = cc
negation_is_normal (Step.equal_left h) e = cc
negation_is_normal (Step.equal_right h) e = cc
negation_is_normal (Step.negation h) e = second_is_normal h cc
negation_is_normal (Step.binary_left h) e = cc
negation_is_normal (Step.binary_right h) e = cc
negation_is_normal (Step.quantified n x y h) e = cc
negation_is_normal (Step.quantified_types n x y h) e = cc

negation_steps : InnermostStep p_to_q (Form.negation (letter 1)) (Form.negation (letter 2))
negation_steps = InnermostStep.negation (InnermostStep.here (λ us h. no_arguments h refl) (FirstRewrites.first ([], Fit.none, refl, refl)))

pub normal_in_one_step : worked.NormalInOneStep
normal_in_one_step = NormalizesFrom.step negation_steps (omega arith) (NormalizesFrom.done (λ g h. negation_is_normal h refl))

pub spent_at_the_limit : worked.SpentAtTheLimit
spent_at_the_limit = NormalizesFrom.spent negation_steps
