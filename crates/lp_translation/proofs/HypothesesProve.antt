-- What a list of hypotheses proves.
use Rattle.std.proofs.Common.{◌≡◌, ◌⊎◌, inl, inr, Bool, true, false, cond, ◌||◌, List, [], ◌∷◌, Contains, refl, subst}
use Rattle.std.proofs.lemmas.Bool.{or_cases, or_left, or_right}
use Rattle.lp_terms.specs.Term.{Lp}
use Rattle.zm_logic.specs.Tree.{Form}
use Rattle.zm_logic.specs.Same.{same, has}
use Rattle.zm_logic.proofs.Sames.{same-self, has-contains, Contains-cases, Contains-none}
use Rattle.lp_translation.specs.ProofOf.{Hypotheses, proves, earliest, also}

-- P holds of each formula of a hypothesis and its proof
abbrev pub Each : (Form → Lp → Type 0) → Hypotheses → Type 0
Each P Hypotheses.none = Unit {0}
Each P (Hypotheses.more fs h hs) = ((f : Form) → Contains fs f → P f h) × Each P hs

pub each_weaker : (P Q : Form → Lp → Type 0) → ((f : Form) (h : Lp) → P f h → Q f h) → (hs : Hypotheses) → Each P hs
    → Each Q hs
each_weaker P Q w Hypotheses.none e = tt
each_weaker P Q w (Hypotheses.more fs h hs) e = (λ f i. w f h (e.0 f i), each_weaker P Q w hs e.1)

-- one formula more, with its proof
pub each_more : (P : Form → Lp → Type 0) (f : Form) (h : Lp) (hs : Hypotheses) → P f h → Each P hs → Each P
    (Hypotheses.more (f ∷ []) h hs)
each_more P f h hs p e = (λ g i. go g (Contains-cases f [] g i), e)
  where
    go : (g : Form) → (f ≡ g) ⊎ Contains [] g → P g h
    go g (inl same) = subst (λ x. P x h) same p
    go g (inr i) = absurd (Contains-none g i)

pub proves_more : (f : Form) (h : Lp) (hs : Hypotheses) → proves (Hypotheses.more (f ∷ []) h hs) f ≡ true
proves_more f h hs = or_left (has (f ∷ []) f) (proves hs f) (or_left (same f f) false (same-self f))

pub proves_older : (fs : List Form) (h : Lp) (hs : Hypotheses) (f : Form) → proves hs f ≡ true → proves
    (Hypotheses.more fs h hs) f ≡ true
proves_older fs h hs f p = or_right (has fs f) (proves hs f) p

-- what is chosen proves the formula
pub each_earliest : (P : Form → Lp → Type 0) (hs : Hypotheses) (f : Form) → Each P hs → proves hs f ≡ true → P f
    (earliest hs f)
each_earliest P Hypotheses.none f e p = absurd (cc)
each_earliest P (Hypotheses.more fs h hs) f e p =
    go (proves hs f) (has fs f) p (λ x. each_earliest P hs f e.1 x) (λ y. e.0 f (has-contains fs f y))
  where
    go : (b c : Bool) → (c || b) ≡ true → (b ≡ true → P f (earliest hs f)) → (c ≡ true → P f h)
        → P f (cond b (earliest hs f) (cond c h Lp.sort))
    go true c p older here = older refl
    go false true p older here = here refl
    go false false p older here = absurd (cc)

-- what proves f proves g too
module _ (P : Form → Lp → Type 0) (f g : Form) (step : (h : Lp) → P f h → P g h) where
  with_more : (fs : List Form) (h : Lp) → P f h → ((e : Form) → Contains fs e → P e h) → (e : Form) → Contains (g ∷ fs) e
      → P e h
  with_more fs h p all e i = go (Contains-cases g fs e i)
    where
      go : (g ≡ e) ⊎ Contains fs e → P e h
      go (inl same) = subst (λ x. P x h) same (step h p)
      go (inr j) = all e j

  pub each_also : (hs : Hypotheses) → Each P hs → Each P (also f g hs)
  each_also Hypotheses.none e = tt
  each_also (Hypotheses.more fs h hs) e = go (proves hs f) (has fs f) (each_also hs e.1)
      (λ y. with_more fs h (e.0 f (has-contains fs f y)) e.0)
    where
      go : (b c : Bool) → Each P (also f g hs) → (c ≡ true → (x : Form) → Contains (g ∷ fs) x → P x h)
          → Each P (cond b (Hypotheses.more fs h (also f g hs))
          (cond c (Hypotheses.more (g ∷ fs) h hs) (Hypotheses.more fs h hs)))
      go true c older here = (e.0, older)
      go false true older here = (here refl, e.1)
      go false false older here = (e.0, e.1)

pub proves_also : (f g : Form) (hs : Hypotheses) (e : Form) → proves hs e ≡ true → proves (also f g hs) e ≡ true
proves_also f g Hypotheses.none e p = p
proves_also f g (Hypotheses.more fs h hs) e p = go (proves hs f) (has fs f) (or_cases (has fs e) (proves hs e) p)
    (λ q. proves_also f g hs e q)
  where
    go : (b c : Bool) → (has fs e ≡ true) ⊎ (proves hs e ≡ true) → (proves hs e ≡ true → proves (also f g hs) e ≡ true)
        → proves (cond b (Hypotheses.more fs h (also f g hs))
        (cond c (Hypotheses.more (g ∷ fs) h hs) (Hypotheses.more fs h hs))) e ≡ true
    go true c (inl q) older = or_left (has fs e) (proves (also f g hs) e) q
    go true c (inr q) older = or_right (has fs e) (proves (also f g hs) e) (older q)
    go false true (inl q) older = or_left (has (g ∷ fs) e) (proves hs e) (or_right (same g e) (has fs e) q)
    go false true (inr q) older = or_right (has (g ∷ fs) e) (proves hs e) q
    go false false (inl q) older = or_left (has fs e) (proves hs e) q
    go false false (inr q) older = or_right (has fs e) (proves hs e) q

pub proves_new : (f g : Form) (hs : Hypotheses) → proves hs f ≡ true → proves (also f g hs) g ≡ true
proves_new f g Hypotheses.none p = absurd (cc)
proves_new f g (Hypotheses.more fs h hs) p = go (proves hs f) (has fs f) p (λ q. proves_new f g hs q)
  where
    go : (b c : Bool) → (c || b) ≡ true → (b ≡ true → proves (also f g hs) g ≡ true)
        → proves (cond b (Hypotheses.more fs h (also f g hs))
        (cond c (Hypotheses.more (g ∷ fs) h hs) (Hypotheses.more fs h hs))) g ≡ true
    go true c q older = or_right (has fs g) (proves (also f g hs) g) (older refl)
    go false true q older = or_left (has (g ∷ fs) g) (proves hs g) (or_left (same g g) (has fs g) (same-self g))
    go false false q older = absurd (cc)
